pub returns : Rattle.xc_model.proofs.batches_grow.Goals.returns
returns c = Rattle.xc_model.proofs.Batches.batches-grow
