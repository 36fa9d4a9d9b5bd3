-- The operations of a line, read one by one.
use Rattle.std.proofs.Common.{◌≡◌, ℕ, Bool, true, false, List, [], ◌∷◌, ◌++◌, Option, Some, None, Result, Ok, Err, is_some, if◌then◌else◌}
use Rattle.std.proofs.Common.{refl, sym, ap, subst, ◌&&◌, ◌∙◌, append_assoc, option_and_then, arith}
use Rattle.std.specs.List.{list_all}
use Rattle.std.specs.Option.{option_map}
use Rattle.std.proofs.lemmas.List.{append-nil}
use Rattle.xc_record.specs.declared.record.Op.{Op}
use Rattle.xc_text.specs.declared.line.Version.{Version}
use Rattle.xc_text.specs.declared.line.Version.TheVariants.{One}
use Rattle.std.proofs.lemmas.Bool.{and_parts}
use Rattle.xc_text.specs.declared.kind.LogKind.{LogKind}
use Rattle.xc_text.specs.declared.kind.LogKind.TheVariants.{Form, Key}
use Rattle.xc_text.specs.Kinds.{judge}
use Rattle.xc_text.specs.Lines.{op_written, op_meant, op_of, all_ops, ops_of, ops_in, op_is_named, with_op}
use Rattle.xc_text.specs.Printed.{op_spelled}
use Rattle.xc_text.specs.OneOp.{op_in}
use Rattle.xc_text.proofs.PrintedWords.{plain_meant}

-- the operations so far, and those that are left
abbrev pub with_seen : List Op → Option (List Op) → Option (List Op)
with_seen seen left = option_map (λ ops. seen ++ ops) left

-- what stands between the operations so far and all
pub record Seen (v : Version) (seen : List Op) (left all : List (List ℕ)) : Type 0 where
  pub whole : all_ops v all ≡ with_seen seen (all_ops v left)
  pub named : list_all op_is_named seen ≡ true

with_none : (o : Option (List Op)) → o ≡ with_seen [] o
with_none None = refl
with_none (Some ops) = refl

pub seen_none : (v : Version) (all : List (List ℕ)) → Seen v [] all all
seen_none v all = record { whole = with_none (all_ops v all); named = refl }

with_more : (seen : List Op) (op : Op) (o : Option (List Op))
    → with_seen seen (option_and_then (λ ops. Some (op ∷ ops)) o) ≡ with_seen (seen ++ op ∷ []) o
with_more seen op None = refl
with_more seen op (Some ops) = ap Some (sym (append_assoc seen (op ∷ []) ops))

all_named : (p : Op → Bool) (xs ys : List Op) → list_all p xs ≡ true → list_all p (xs ++ ys) ≡ list_all p ys
all_named p [] ys h = refl
all_named p (x ∷ xs) ys h = let rest = all_named p xs ys in grind (arith, rest)

pub seen_more : (v : Version) (seen : List Op) (w : List ℕ) (ws all : List (List ℕ)) (op : Op) → Seen v seen (w ∷ ws) all
    → op_of v w ≡ Some op → op_is_named op ≡ true → Seen v (seen ++ op ∷ []) ws all
seen_more v seen w ws all op h is named = record {
  whole = h.whole ∙ rw is (with_more seen op (all_ops v ws));
  named = all_named op_is_named seen (op ∷ []) h.named ∙ rw named refl;
}

pub at_left : (v : Version) (seen : List Op) (left now all : List (List ℕ)) → Seen v seen left all → left ≡ now → Seen v seen now all
at_left v seen left now all h e = record { whole = h.whole ∙ ap (λ words. with_seen seen (all_ops v words)) e; named = h.named }

ops_of_none : (v : Version) (all : List (List ℕ)) → all_ops v all ≡ None → ops_of v all ≡ None
ops_of_none v [] h = refl
ops_of_none v (w ∷ ws) h = h

ops_of_some : (v : Version) (all : List (List ℕ)) (op : Op) (ops : List Op) → all_ops v all ≡ Some (op ∷ ops)
    → ops_of v all ≡ Some (op ∷ ops)
ops_of_some v [] op ops h = cc
ops_of_some v (w ∷ ws) op ops h = h

is_form : (v : Version) (all : List (List ℕ)) → all_ops v all ≡ None → ops_in v all ≡ Err Form
unfolding ops_in
is_form v all h = rw (ops_of_none v all h) refl

pub seen_form : (v : Version) (seen : List Op) (w : List ℕ) (ws all : List (List ℕ)) → Seen v seen (w ∷ ws) all → op_of v w ≡ None
    → ops_in v all ≡ Err Form
seen_form v seen w ws all h is = is_form v all (h.whole ∙ rw is refl)

-- ---- a bad name, after which only the form is looked at

key_or_form : Bool → Result (List Op) LogKind
key_or_form true = Err Key
key_or_form false = Err Form

nonempty : (seen : List Op) (op : Op) (ops : List Op) → (first : Op) × (rest : List Op) × (seen ++ op ∷ ops ≡ first ∷ rest)
nonempty [] op ops = (op, ops, refl)
nonempty (x ∷ xs) op ops = (x, xs ++ op ∷ ops, refl)

bad_named : (seen : List Op) (op : Op) (ops : List Op) → list_all op_is_named seen ≡ true → op_is_named op ≡ false
    → list_all op_is_named (seen ++ op ∷ ops) ≡ false
bad_named seen op ops h bad = all_named op_is_named seen (op ∷ ops) h ∙ rw bad refl

is_key_kind : (v : Version) (all : List (List ℕ)) (seen : List Op) (op : Op) (ops : List Op) → all_ops v all ≡ Some (seen ++ op ∷ ops)
    → list_all op_is_named (seen ++ op ∷ ops) ≡ false → ops_in v all ≡ Err Key
unfolding ops_in
is_key_kind v all seen op ops e bad =
    let parts = nonempty seen op ops in
    let some : ops_of v all ≡ Some (seen ++ op ∷ ops) = ops_of_some v all parts.0 parts.1 (e ∙ ap Some parts.2) ∙ ap Some (sym parts.2) in
    rw (some, bad) refl

seen_bad : (v : Version) (seen : List Op) (w : List ℕ) (ws all : List (List ℕ)) (op : Op) → Seen v seen (w ∷ ws) all → op_of v w ≡ Some op
    → op_is_named op ≡ false → (o : Option (List Op)) → all_ops v ws ≡ o → ops_in v all ≡ (elim o [ None ↦ Err Form | Some ops ↦ Err Key ])
seen_bad v seen w ws all op h is bad None left = is_form v all (h.whole ∙ rw (is, left) refl)
seen_bad v seen w ws all op h is bad (Some ops) left =
    is_key_kind v all seen op ops (h.whole ∙ rw (is, left) refl) (bad_named seen op ops h.named bad)

-- whether all words have the form of operations, in whatever version
abbrev pub have_form : List (List ℕ) → Bool
have_form words = list_all (λ word. is_some (op_written word)) words

all_form : (v : Version) (ws : List (List ℕ)) → is_some (all_ops v ws) ≡ have_form ws
all_form v [] = refl
all_form v (w ∷ ws) = by (op_written w) (all_ops v ws) (have_form ws) (all_form v ws)
  where
    by : (o : Option Op) (p : Option (List Op)) (b : Bool) → is_some p ≡ b
        → is_some (option_and_then (λ op. option_and_then (λ ops. Some (op ∷ ops)) p) (option_map (op_meant v) o)) ≡ is_some o && b
    by None p b e = refl
    by (Some op) None b e = e
    by (Some op) (Some ops) b e = e

seen_misnamed : (v : Version) (seen : List Op) (w : List ℕ) (ws all : List (List ℕ)) (op : Op) → Seen v seen (w ∷ ws) all
    → op_of v w ≡ Some op → op_is_named op ≡ false → ops_in v all ≡ Err (if have_form ws then Key else Form)
seen_misnamed v seen w ws all op h is bad = rw (sym (all_form v ws)) (by (all_ops v ws) refl)
  where
    by : (o : Option (List Op)) → all_ops v ws ≡ o → ops_in v all ≡ Err (if is_some (all_ops v ws) then Key else Form)
    by None left = rw left (seen_bad v seen w ws all op h is bad None left)
    by (Some ops) left = rw left (seen_bad v seen w ws all op h is bad (Some ops) left)

-- ---- the end of the words

no_ops : (v : Version) (all : List (List ℕ)) → all_ops v all ≡ Some [] → ops_of v all ≡ None
no_ops v [] h = refl
no_ops v (w ∷ ws) h = by (op_of v w) (all_ops v ws) h
  where
    by : (o : Option Op) (p : Option (List Op)) → option_and_then (λ op. option_and_then (λ ops. Some (op ∷ ops)) p) o ≡ Some []
        → ops_of v (w ∷ ws) ≡ None
    by None p e = cc
    by (Some op) None e = cc
    by (Some op) (Some ops) e = cc

pub seen_all : (v : Version) (seen : List Op) (all : List (List ℕ)) → Seen v seen [] all → (seen ≡ [] → ⊥) → ops_in v all ≡ Ok seen
unfolding ops_in
seen_all v [] all h some = absurd (some refl)
seen_all v (op ∷ ops) all h some =
    let e : all_ops v all ≡ Some (op ∷ ops) = h.whole ∙ ap Some (append-nil (op ∷ ops)) in
    let is : ops_of v all ≡ Some (op ∷ ops) = ops_of_some v all op ops e in
    let named : list_all op_is_named (op ∷ ops) ≡ true = h.named in
    rw (is, named) refl

pub seen_empty : (v : Version) (seen : List Op) (all : List (List ℕ)) → Seen v seen [] all → seen ≡ [] → ops_in v all ≡ Err Form
unfolding ops_in
seen_empty v [] all h none = rw (no_ops v all h.whole) refl
seen_empty v (op ∷ ops) all h none = cc

-- ---- an operation that is put behind the others

with_op-bad : (v : Version) (seen : List Op) (raw : Op) (k : LogKind) → with_op v seen raw ≡ Err k → op_is_named (op_meant v raw) ≡ false
with_op-bad v seen raw k h = by (op_is_named (op_meant v raw)) h
  where
    by : (b : Bool) → (if b then Ok (seen ++ op_meant v raw ∷ []) else Err Key) ≡ Err k → b ≡ false
    by true e = cc
    by false e = refl

pub put_misnamed : (v : Version) (seen : List Op) (w : List ℕ) (ws all : List (List ℕ)) (raw : Op) (k : LogKind) → Seen v seen (w ∷ ws) all
    → op_written w ≡ Some raw → with_op v seen raw ≡ Err k → ops_in v all ≡ Err (if have_form ws then Key else Form)
put_misnamed v seen w ws all raw k h is bad =
    seen_misnamed v seen w ws all (op_meant v raw) h (ap (option_map (op_meant v)) is) (with_op-bad v seen raw k bad)

pub put_form : (v : Version) (seen : List Op) (w : List ℕ) (ws all : List (List ℕ)) → Seen v seen (w ∷ ws) all → op_written w ≡ None
    → ops_in v all ≡ Err Form
put_form v seen w ws all h is = seen_form v seen w ws all h (ap (option_map (op_meant v)) is)

pub with_op-good : (v : Version) (seen next : List Op) (raw : Op) → with_op v seen raw ≡ Ok next
    → (op_is_named (op_meant v raw) ≡ true) × (seen ++ op_meant v raw ∷ [] ≡ next)
with_op-good v seen next raw h = by (op_is_named (op_meant v raw)) h
  where
    by : (b : Bool) → (if b then Ok (seen ++ op_meant v raw ∷ []) else Err Key) ≡ Ok next
        → (b ≡ true) × (seen ++ op_meant v raw ∷ [] ≡ next)
    by true e = (refl, cc)
    by false e = cc

pub put_more : (v : Version) (seen next : List Op) (w : List ℕ) (ws all : List (List ℕ)) (raw : Op) → Seen v seen (w ∷ ws) all
    → op_written w ≡ Some raw → with_op v seen raw ≡ Ok next → Seen v next ws all
put_more v seen next w ws all raw h is put =
    let good = with_op-good v seen next raw put in
    subst (λ ops. Seen v ops ws all) good.1 (seen_more v seen w ws all (op_meant v raw) h (ap (option_map (op_meant v)) is) good.0)

-- a plain one is its own words
pub plain_put : (v : Version) (seen : List Op) (o : Op) → op_is_named o && op_spelled One o ≡ true → with_op v seen o ≡ Ok (seen ++ o ∷ [])
plain_put v seen o h =
    let p = and_parts (op_is_named o) (op_spelled One o) h in
    subst (λ m. judge (λ ops. true) (λ ops. op_is_named m) (Some (seen ++ m ∷ [])) ≡ Ok (seen ++ o ∷ [])) (sym (plain_meant v o p.1))
    (rw p.0 refl)

pub plain_op_in : (v : Version) (o : Op) → op_is_named o && op_spelled One o ≡ true → op_in (Some (op_meant v o)) ≡ Ok o
plain_op_in v o h =
    let p = and_parts (op_is_named o) (op_spelled One o) h in
    subst (λ m. op_in (Some m) ≡ Ok o) (sym (plain_meant v o p.1)) (rw p.0 refl)
