pub returns : Rattle.xc_model.proofs.restores_keep_reads.Goals.returns
returns c = Rattle.xc_model.proofs.Restores.restores-keep
