pub returns : Rattle.xc_model.proofs.one_root_holds.Goals.returns
returns c = Rattle.xc_record.proofs.RangeLaws.one-root-holds
