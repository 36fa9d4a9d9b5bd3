pub returns : Rattle.xc_model.proofs.new_tablets_stand.Goals.returns
returns c = Rattle.xc_model.proofs.KeepLaws.new-stands
