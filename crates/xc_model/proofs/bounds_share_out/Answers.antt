pub returns : Rattle.xc_model.proofs.bounds_share_out.Goals.returns
returns c = Rattle.xc_record.proofs.RangeLaws.bounds-share-out
