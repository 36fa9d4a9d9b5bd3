pub returns : Rattle.xc_model.proofs.reads_show_lists.Goals.returns
returns c = Rattle.xc_model.proofs.ListLaw.reads-show-lists
