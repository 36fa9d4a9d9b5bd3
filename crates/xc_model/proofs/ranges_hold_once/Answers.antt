pub returns : Rattle.xc_model.proofs.ranges_hold_once.Goals.returns
returns c = Rattle.xc_record.proofs.RangeLaws.ranges-hold-once
