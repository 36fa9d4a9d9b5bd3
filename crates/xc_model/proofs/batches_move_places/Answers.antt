pub returns : Rattle.xc_model.proofs.batches_move_places.Goals.returns
returns c = Rattle.xc_model.proofs.Batches.batches-move
