pub returns : Rattle.xc_model.proofs.partitions_show_rows.Goals.returns
returns c = Rattle.xc_model.proofs.Partitions.partitions-by Rattle.xc_model.proofs.ListLaw.reads-show-lists
