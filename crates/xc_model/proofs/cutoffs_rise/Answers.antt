pub returns : Rattle.xc_model.proofs.cutoffs_rise.Goals.returns
returns c = Rattle.xc_model.proofs.LineLaws.cutoffs-rise
