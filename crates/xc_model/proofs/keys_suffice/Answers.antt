pub returns : Rattle.xc_model.proofs.keys_suffice.Goals.returns
returns c = Rattle.xc_model.proofs.ReadLaw.keys-suffice
