pub returns : Rattle.xc_model.proofs.batches_keep_standing.Goals.returns
returns c = Rattle.xc_model.proofs.DeliverLaw.batches-keep
