pub returns : Rattle.xc_model.proofs.closed_sessions_stay.Goals.returns
returns c = Rattle.xc_model.proofs.TimeLaws.closed-stays
