pub returns : Rattle.xc_model.proofs.restored_tablets_show_rows.Goals.returns
returns c = Rattle.xc_model.proofs.ListLaw.restored-show
