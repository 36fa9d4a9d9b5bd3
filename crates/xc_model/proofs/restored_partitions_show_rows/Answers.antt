pub returns : Rattle.xc_model.proofs.restored_partitions_show_rows.Goals.returns
returns c = Rattle.xc_model.proofs.Partitions.restored-partitions-by Rattle.xc_model.proofs.ListLaw.restored-show
