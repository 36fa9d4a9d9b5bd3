pub returns : Rattle.xc_model.proofs.cutoffs_keep_standing.Goals.returns
returns c = Rattle.xc_model.proofs.KeepLaws.cutoffs-keep
