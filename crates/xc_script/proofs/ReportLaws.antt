-- The object of a report, as JSON.
use Rattle.std.proofs.Common.{◌≡◌, ℕ, Bool, true, false, List, [], ◌∷◌, ◌++◌, sym, refl, ap, ◌∙◌, map, flat_map, append_assoc}
use Rattle.std.specs.Prelude.{decimal, codes}
use Rattle.std.specs.List.{join_with_byte}
use Rattle.std.proofs.lemmas.List.{append-nil}
use Rattle.serde_json.specs.Data.{Data, array}
use Rattle.serde_json.specs.Written.{compact_text, items_text, has_float, items_have_float}
use Rattle.serde_json.proofs.OnLiterals.{serde_json_on_literals}
use Rattle.xc_script.specs.Lines.{number_list, report_object, truth}
use Rattle.xc_script.specs.Parts.{number_items, report_of}

-- the numbers behind the first, each after a comma, and the bracket
later_items : (ns : List ℕ) → items_text true (number_items ns) ≡ flat_map (λ n. 44 ∷ decimal n) ns ++ codes "]"
later_items [] = refl
later_items (n ∷ ns) = ap (λ l. 44 ∷ (decimal n ++ l)) (later_items ns)
    ∙ ap (λ l. 44 ∷ l) (sym (append_assoc (decimal n) (flat_map (λ n. 44 ∷ decimal n) ns) (codes "]")))

join_numbers : (n : ℕ) (ns : List ℕ) → join_with_byte 44 (map decimal (n ∷ ns)) ≡ decimal n ++ flat_map (λ n. 44 ∷ decimal n) ns
join_numbers n [] = sym (append-nil (decimal n))
join_numbers n (m ∷ ns) = ap (λ l. decimal n ++ 44 ∷ l) (join_numbers m ns)

pub numbers_text : (ns : List ℕ) → compact_text (array (number_items ns)) ≡ number_list ns
numbers_text [] = refl
numbers_text (n ∷ ns) =
    ap (λ l. 91 ∷ (decimal n ++ l)) (later_items ns)
    ∙ ap (λ l. 91 ∷ l) (sym (append_assoc (decimal n) (flat_map (λ n. 44 ∷ decimal n) ns) (codes "]")))
    ∙ ap (λ l. 91 ∷ (l ++ codes "]")) (sym (join_numbers n ns))

pub no_floats : (ns : List ℕ) → items_have_float (number_items ns) ≡ false
no_floats [] = refl
no_floats (n ∷ ns) = no_floats ns

report_parts : (acks closed cursors cutoff places safe as_acks as_cursors as_places : List ℕ) → acks ≡ as_acks → cursors ≡ as_cursors
    → places ≡ as_places
    → codes "{\"acks\":" ++ (acks ++ (codes ",\"closed\":" ++ (closed ++ (codes ",\"cursors\":" ++ (cursors ++ (codes ",\"cutoff\":"
    ++ (cutoff ++ (codes ",\"places\":" ++ (places ++ (codes ",\"safe\":" ++ (safe ++ codes "}")))))))))))
    ≡ codes "{\"acks\":" ++ as_acks ++ codes ",\"closed\":" ++ closed ++ codes ",\"cursors\":" ++ as_cursors
    ++ codes ",\"cutoff\":" ++ cutoff ++ codes ",\"places\":" ++ as_places ++ codes ",\"safe\":" ++ safe ++ codes "}"
report_parts acks closed cursors cutoff places safe as_acks as_cursors as_places a c p = rw (a, c, p) (simp append_assoc)

pub report_text : (acks : List ℕ) (closed : Bool) (cursors : List ℕ) (cutoff : ℕ) (places : List ℕ) (safe : ℕ)
    → compact_text (report_of (array (number_items acks)) closed (array (number_items cursors)) cutoff (array (number_items places)) safe)
    ≡ report_object acks closed cursors cutoff places safe
unfolding serde_json_on_literals
report_text acks closed cursors cutoff places safe =
    report_parts (compact_text (array (number_items acks))) (truth closed) (compact_text (array (number_items cursors))) (decimal cutoff)
    (compact_text (array (number_items places))) (decimal safe) (number_list acks) (number_list cursors) (number_list places)
    (numbers_text acks) (numbers_text cursors) (numbers_text places)

pub report_floats : (acks : List ℕ) (closed : Bool) (cursors : List ℕ) (cutoff : ℕ) (places : List ℕ) (safe : ℕ)
    → has_float (report_of (array (number_items acks)) closed (array (number_items cursors)) cutoff (array
    (number_items places)) safe) ≡ false
report_floats acks closed cursors cutoff places safe = rw (no_floats acks, no_floats cursors, no_floats places) refl

-- the text of a value without a float, of which the parts are known
pub report_is : (text : List ℕ) (d a c p : Data) (acks : List ℕ) (closed : Bool) (cursors : List ℕ) (cutoff : ℕ) (places : List ℕ)
    (safe : ℕ)
    → d ≡ report_of a closed c cutoff p safe → a ≡ array (number_items acks) → c ≡ array (number_items cursors)
    → p ≡ array (number_items places)
    → (has_float d ≡ false → text ≡ compact_text d) → text ≡ report_object acks closed cursors cutoff places safe
report_is text d a c p acks closed cursors cutoff places safe is a_is c_is p_is text_is =
    let whole : d ≡ report_of (array (number_items acks)) closed (array (number_items cursors)) cutoff (array
    (number_items places)) safe = is ∙ rw (a_is, c_is, p_is) refl in
    text_is (ap has_float whole ∙ report_floats acks closed cursors cutoff places safe)
    ∙ ap compact_text whole ∙ report_text acks closed cursors cutoff places safe
