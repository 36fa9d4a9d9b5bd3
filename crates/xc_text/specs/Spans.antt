-- What is known of the operations of a line beside themselves.
--     IsSpan span ops      how many they are, and the least and the greatest hash of their keys
--     Describes span kind      the span is that of the operations of a record that says this, if it has any
--     DescribesLine span line      the same of a line
use Rattle.std.specs.Prelude.{◌≡◌, ◌+◌, ◌<◌, ◌&&◌, nat_le, min, List, length}
use Rattle.std.specs.List.{list_all}
use Rattle.xc_base.specs.declared.limits.TheConstants.{RECORD_OPERATIONS}
use Rattle.xc_record.specs.Hash.{hash_of, holds}
use Rattle.xc_record.specs.declared.record.Op.{Op}
use Rattle.xc_record.specs.declared.record.Kind.{Kind}
use Rattle.xc_record.specs.declared.record.Kind.TheVariants.{Write, Intent}
use Rattle.xc_record.specs.declared.record.Header.{Header}
use Rattle.xc_text.specs.declared.line.LogLine.{LogLine}
use Rattle.xc_text.specs.declared.line.LogLine.TheVariants as line
use Rattle.xc_text.specs.declared.line_ops.Span.{Span}

pub record IsSpan (span : Span) (ops : List Op) : Type 0 where
  -- counted no further than one past what a record may have
  pub count : span.count ≡ min (length ops) (RECORD_OPERATIONS + 1)
  -- a range holds all keys exactly where it holds these hashes
  pub hashes : (h : Header) → h.lo < 65536
      → list_all (λ op. holds h (hash_of op.key)) ops ≡ (nat_le h.lo span.least && nat_le span.greatest h.hi)

abbrev pub Describes : Span → Kind → Type 0
Describes span (Write ops) = IsSpan span ops
Describes span (Intent sub txn ops) = IsSpan span ops
Describes span _ = Unit {0}

abbrev pub DescribesLine : Span → LogLine → Type 0
DescribesLine span (line.Entry id r) = Describes span r.kind
DescribesLine span _ = Unit {0}
