pub returns : Rattle.xc_model.proofs.closed_times_stay.Goals.returns
returns c = Rattle.xc_model.proofs.TimeLaws.closed-times
