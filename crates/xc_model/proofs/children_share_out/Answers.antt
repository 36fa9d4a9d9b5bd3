pub returns : Rattle.xc_model.proofs.children_share_out.Goals.returns
returns c = Rattle.xc_record.proofs.ChildLaws.children-share-out
