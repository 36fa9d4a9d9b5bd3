pub returns : Rattle.xc_model.proofs.failover_closes.Goals.returns
returns c = Rattle.xc_model.proofs.TimeLaws.failover-closes
