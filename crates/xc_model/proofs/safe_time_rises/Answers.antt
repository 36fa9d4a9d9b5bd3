pub returns : Rattle.xc_model.proofs.safe_time_rises.Goals.returns
returns c = Rattle.xc_model.proofs.FloorLaw.safe-rises
