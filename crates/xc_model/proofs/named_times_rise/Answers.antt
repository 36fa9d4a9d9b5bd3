pub returns : Rattle.xc_model.proofs.named_times_rise.Goals.returns
returns c = Rattle.xc_model.proofs.TimeLaws.named-times-rise
