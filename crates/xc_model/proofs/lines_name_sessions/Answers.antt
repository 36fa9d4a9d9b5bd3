pub returns : Rattle.xc_model.proofs.lines_name_sessions.Goals.returns
returns c = Rattle.xc_model.proofs.LineLaws.lines-name
