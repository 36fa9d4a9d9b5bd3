-- How a line of output is put together, which single functions answer; what a line is doesn't rest on it.
--     part_text part      the bytes of a part
--     value_sign value, value_bytes value      how the word of a value begins, which may be none, and the bytes whose word follows
--     number_items numbers      numbers as the items of a JSON array, and report_of .. the object of a report
use Rattle.std.specs.Prelude.{ℕ, Bool, List, [], map, codes, decimal, Option, Some, None}
use Rattle.xc_base.specs.Escapes.{escaped}
use Rattle.xc_script.specs.declared.print.Part.{Part}
use Rattle.xc_script.specs.declared.print.Part.TheVariants.{Text, Number, Name}
use Rattle.serde_json.specs.Data.{Data, boolean, number, unsigned, object, Items, member, no_members}
use Rattle.serde_json.specs.View.{items_of}

abbrev pub part_text : Part → List ℕ
part_text (Text text) = text.now
part_text (Number n) = decimal n
part_text (Name bytes) = escaped bytes.now

abbrev pub value_sign : Option (List ℕ) → List ℕ
value_sign None = codes "absent"
value_sign (Some value) = codes "="

abbrev pub value_bytes : Option (List ℕ) → List ℕ
value_bytes None = []
value_bytes (Some value) = value

abbrev pub number_items : List ℕ → Items
number_items numbers = items_of (map (λ n. number (unsigned n)) numbers)

abbrev pub report_of : Data → Bool → Data → ℕ → Data → ℕ → Data
report_of acks closed cursors cutoff places safe =
    object (member (codes "acks") acks
    (member (codes "closed") (boolean closed)
    (member (codes "cursors") cursors
    (member (codes "cutoff") (number (unsigned cutoff))
    (member (codes "places") places
    (member (codes "safe") (number (unsigned safe)) no_members))))))
