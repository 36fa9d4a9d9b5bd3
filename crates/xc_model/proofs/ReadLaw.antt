-- Reads of a tablet that stands for logs that agree.
use Rattle.xc_model.proofs.Common.{ap, sym, ◌∙◌, read, value_of}
use Rattle.xc_model.{proofs.KeyRead.reads-rows, proofs.RowsAt.row-newest, proofs.NoDisagreement.no-disagreement, specs.Laws.ReadsShowRows}
use Rattle.xc_model.{specs.Laws.KeysSuffice}
use Rattle.xc_record.proofs.FirstCase.{agree-exactly}

pub reads-show-rows : ReadsShowRows
reads-show-rows logs x u t k s agree b c w = ap (read t) (s.keys k w)
    ∙ ap value_of (reads-rows logs x.places k u t s.valid (no-disagreement logs agree) s.places b c) ∙ sym (row-newest logs t k s.valid)

pub keys-suffice : KeysSuffice
keys-suffice logs valid = agree-exactly logs
