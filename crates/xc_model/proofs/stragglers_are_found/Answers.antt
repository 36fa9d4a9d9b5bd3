pub returns : Rattle.xc_model.proofs.stragglers_are_found.Goals.returns
returns c = Rattle.xc_record.proofs.StragglerKeys.straggler-found
