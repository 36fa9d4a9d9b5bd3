pub returns : Rattle.xc_model.proofs.roots_share_out.Goals.returns
returns c = Rattle.xc_record.proofs.RangeLaws.roots-share-out
