-- Operations of plain names, which are their own words.
use Rattle.std.proofs.Common.{◌≡◌, ℕ, true, ◌&&◌, List, [], ◌∷◌, ◌++◌, Option, Some, None, refl, sym, ap, subst, ◌∙◌, arith}
use Rattle.std.proofs.lemmas.Bool.{and_parts}
use Rattle.std.proofs.lemmas.List.{append-nil}
use Rattle.std.specs.List.{list_all}
use Rattle.std.specs.Option.{option_map, option_map_or}
use Rattle.xc_base.specs.Words.{split_on}
use Rattle.xc_record.specs.declared.record.Op.{Op}
use Rattle.xc_text.specs.Lines.{name_of, op_of, op_meant, op_is_named}
use Rattle.xc_text.specs.Printed.{op_by, op_spelled, spelled}
use Rattle.xc_text.specs.declared.line.Version.{Version}
use Rattle.xc_text.specs.declared.line.Version.TheVariants.{One}
use Rattle.xc_text.proofs.PrintedWords.{is_letter, plain, plain_lacks, plain_letters, op_plain_by, op_is_by, plain_meant}
use Rattle.xc_text.proofs.PrintedWords.{split_at, split_none, op_with}
use Rattle.xc_text.proofs.OpsLaws.{Seen, seen_more, at_left}

value_letters : (value : Option (List ℕ)) → option_map_or (spelled One) value true ≡ true
    → option_map_or (λ w. list_all is_letter w) value true ≡ true
value_letters None h = refl
value_letters (Some value) h = plain_letters value h

plain_word : (o : Op) → op_spelled One o ≡ true → plain (op_by o.key o.value) ≡ true
plain_word o h =
    let p = and_parts (spelled One o.key) (option_map_or (spelled One) o.value true) h in
    op_plain_by o.key o.value (plain_letters o.key p.0) (value_letters o.value p.1)

-- the first word of bytes that begin with a plain operation, with nothing or with a space behind it
pub plain_cut : {A : Type 0} (now : A → List ℕ) (o : Op) (rest : Option A) → op_spelled One o ≡ true
    → split_on 32 (op_by o.key o.value ++ option_map_or (λ r. 32 ∷ now r) rest []) ≡ op_by o.key o.value ∷ option_map_or
    (λ r. split_on 32 (now r)) rest []
plain_cut now o None h =
    rw (append-nil (op_by o.key o.value))
    (split_none 32 (op_by o.key o.value) (plain_lacks 32 (op_by o.key o.value) (omega arith) (plain_word o h)))
plain_cut now o (Some r) h = split_at 32 (op_by o.key o.value) (now r) (plain_lacks 32 (op_by o.key o.value) (omega arith) (plain_word o h))

pub plain_is : (v : Version) (o : Op) → op_spelled One o ≡ true → op_of v (op_by o.key o.value) ≡ Some o
plain_is v o h =
    let p = and_parts (spelled One o.key) (option_map_or (spelled One) o.value true) h in
    ap (option_map (op_meant v)) (op_is_by o.key o.value (plain_letters o.key p.0)) ∙ ap Some (plain_meant v o h)

pub plain_seen : (v : Version) (seen : List Op) (key : List ℕ) (value : Option (List ℕ)) (words rest all : List (List ℕ)) (next : List Op)
    → Seen v seen words all → words ≡ op_by key value ∷ rest → op_is_named (op_with key value) ≡ true
    → op_spelled One (op_with key value) ≡ true → next ≡ seen ++ op_with key value ∷ [] → Seen v next rest all
plain_seen v seen key value words rest all next h cut named said put =
    let o = op_with key value in
    subst (λ ops. Seen v ops rest all) (sym put)
    (seen_more v seen (op_by key value) rest all o (at_left v seen words (op_by key value ∷ rest) all h cut) (plain_is v o said) named)

-- a plain key is its own word
pub plain_key : (v : Version) (o : Op) → op_is_named o && op_spelled One o ≡ true → o.key ≡ name_of v o.key
plain_key v o h = let p = and_parts (op_is_named o) (op_spelled One o) h in ap (λ (m : Op). m.key) (sym (plain_meant v o p.1))
