pub returns : Rattle.xc_model.proofs.sessions_start.Goals.returns
returns c = Rattle.xc_model.proofs.SessionLaws.sessions-start
