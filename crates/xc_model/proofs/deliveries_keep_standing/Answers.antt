pub returns : Rattle.xc_model.proofs.deliveries_keep_standing.Goals.returns
returns c = Rattle.xc_model.proofs.DeliverLaw.deliveries-keep
