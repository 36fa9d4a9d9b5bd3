use Rattle.xc_record.proofs.FirstCase.{first-case, no-case}

pub returns : Rattle.xc_model.proofs.first_case_is_found.Goals.returns
returns c logs valid = (λ d. first-case logs d valid, no-case logs valid)
