-- Words on how far records are accepted.
--     halt_at h      the number of the record and its break
use Rattle.std.specs.Prelude.{ℕ}
use Rattle.xc_record.specs.declared.record.Break.{Break}
use Rattle.xc_order.specs.declared.walk.Halt.{Halt}

abbrev pub halt_at : Halt → ℕ × Break
halt_at h = (h.number, h.kind)
