pub returns : Rattle.xc_model.proofs.steps_keep_sessions.Goals.returns
returns c = Rattle.xc_model.proofs.SessionLaws.steps-keep
