pub returns : Rattle.xc_model.proofs.kept_values_suffice.Goals.returns
returns c = Rattle.xc_model.proofs.FloorLaw.kept-values
