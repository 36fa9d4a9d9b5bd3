-- Where the bytes of operations lie. No public clause cites this module.
use Rattle.std.specs.Prelude.{ℕ, List}
use Rattle.xc_record.specs.declared.bytes.Bytes.{Bytes}
use Rattle.xc_record.specs.declared.bytes.Bytes.TheVariants.{Inline, Heap}

abbrev pub bytes_of : Bytes → List ℕ
bytes_of (Inline inline) = inline
bytes_of (Heap heap) = heap.items
