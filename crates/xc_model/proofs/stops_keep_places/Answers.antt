pub returns : Rattle.xc_model.proofs.stops_keep_places.Goals.returns
returns c = Rattle.xc_model.proofs.LineLaws.stops-keep
