pub returns : Rattle.xc_model.proofs.reads_show_rows.Goals.returns
returns c = Rattle.xc_model.proofs.ReadLaw.reads-show-rows
