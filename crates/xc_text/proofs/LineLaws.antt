-- Lines whose parts are judged before the whole.
use Rattle.std.proofs.Common.{◌≡◌, ℕ, Bool, true, false, ◌&&◌, List, Option, Some, None, Result, Ok, Err, refl, sym, ap, subst, ◌∙◌}
use Rattle.std.proofs.Common.{option_map, if◌then◌else◌, nat_lt, nat_le, [], ◌∷◌, codes}
use Rattle.std.specs.Str.{bytes_eq}
use Rattle.std.proofs.lemmas.Slice.Eq.{bytes_eq-Decides}
use Rattle.std.proofs.lemmas.Option.{same_Some}
use Rattle.xc_record.specs.declared.record.Op.{Op}
use Rattle.xc_record.specs.declared.record.Kind.{Kind}
use Rattle.xc_record.specs.declared.record.Kind.TheVariants.{Write, Intent, Apply}
use Rattle.xc_record.specs.declared.record.Header.{Header}
use Rattle.xc_record.specs.Subs.{are_subs}
use Rattle.xc_record.specs.Valid.{is_txn, is_time}
use Rattle.std.specs.List.{list_all}
use Rattle.xc_text.specs.declared.kind.LogKind.{LogKind}
use Rattle.xc_text.specs.declared.kind.LogKind.TheVariants.{Form, Number, Key}
use Rattle.xc_text.specs.declared.line.Version.{Version}
use Rattle.xc_text.specs.declared.line.LogLine.{LogLine}
use Rattle.xc_text.specs.declared.line.LogLine.TheVariants as line
use Rattle.xc_text.specs.declared.kind.Fail.{Fail}
use Rattle.xc_text.specs.declared.kind.Fail.TheVariants as fail
use Rattle.xc_text.specs.Kinds.{judge, before_key, after_numbers, Refuses}
use Rattle.xc_text.specs.Lines.{first_number, sub_of, intent_of, apply_of, without_of, without_in, entry_of, ops_of, ops_in, kind_of}
use Rattle.xc_text.specs.Lines.{kind_in, op_is_named, kind_numbers_fit, kind_names_fit, numbers_fit, names_fit, header_of}
use Rattle.xc_text.specs.Lines.{header_numbers_fit, number, line_in, line_of, line_by, ◌>>=◌}

-- what is judged of a part goes on to the whole, whose numbers fit or not
abbrev pub carried : {A B : Type 0} → Bool → (A → B) → Result A LogKind → Result B LogKind
carried true whole (Ok x) = Ok (whole x)
carried false whole (Ok x) = Err Number
carried true whole (Err k) = Err k
carried false whole (Err k) = Err (before_key k)

carried_form : {A B : Type 0} (fit : Bool) (whole : A → B) → Err Form ≡ carried fit whole (Err Form)
carried_form true whole = refl
carried_form false whole = refl

pub refused : {A B : Type 0} (fit : Bool) (whole : A → B) (e : Fail) (r : Result A LogKind) → Refuses e r
    → Refuses (after_numbers fit e) (carried fit whole r)
refused true whole (fail.Bad k) r h = rw h refl
refused true whole fail.NoMemory r h = tt
refused false whole (fail.Bad k) r h = rw h refl
refused false whole fail.NoMemory r h = tt

write_cases : (o : Option (List Op))
    → judge kind_numbers_fit kind_names_fit (option_map Write o) ≡ carried true Write (judge (λ ops. true) (list_all op_is_named) o)
write_cases None = refl
write_cases (Some ops) =
    elim (list_all op_is_named ops) as (λ b. (if b then Ok (Write ops) else Err Key) ≡ carried true Write (if b then Ok ops else Err Key))
    [ true ↦ refl | false ↦ refl ]

pub write_judged : (v : Version) (words : List (List ℕ))
    → judge kind_numbers_fit kind_names_fit (option_map Write (ops_of v words)) ≡ carried true Write (ops_in v words)
unfolding ops_in
write_judged v words = write_cases (ops_of v words)

abbrev intent_fits : ℕ → ℕ → Bool
intent_fits txn sub = is_txn txn && nat_le sub 64

intent_cases : (txn sub : ℕ) (o : Option (List Op))
    → judge kind_numbers_fit kind_names_fit (o >>= (λ ops. Some (Intent sub txn ops))) ≡ carried (intent_fits txn sub) (Intent sub txn)
    (judge (λ ops. true) (list_all op_is_named) o)
intent_cases txn sub None = carried_form (intent_fits txn sub) (Intent sub txn)
intent_cases txn sub (Some ops) = by (intent_fits txn sub) (list_all op_is_named ops)
  where
    by : (fit named : Bool)
        → (if fit then (if named then Ok (Intent sub txn ops) else Err Key) else Err Number) ≡ carried fit (Intent sub txn)
        (if named then Ok ops else Err Key)
    by true true = refl
    by true false = refl
    by false true = refl
    by false false = refl

pub intent_judged : (v : Version) (txn sub : ℕ) (words : List (List ℕ))
    → judge kind_numbers_fit kind_names_fit (ops_of v words >>= (λ ops. Some (Intent sub txn ops))) ≡ carried (intent_fits txn sub)
    (Intent sub txn) (ops_in v words)
unfolding ops_in
intent_judged v txn sub words = intent_cases txn sub (ops_of v words)

apply_cases : (txn commit : ℕ) (o : Option (List ℕ))
    → judge kind_numbers_fit kind_names_fit (o >>= (λ without. Some (Apply txn commit without))) ≡ carried (is_txn txn && is_time commit)
    (Apply txn commit) (judge are_subs (λ subs. true) o)
apply_cases txn commit None = carried_form (is_txn txn && is_time commit) (Apply txn commit)
apply_cases txn commit (Some subs) = by (is_txn txn) (is_time commit) (are_subs subs)
  where
    by : (a b fit : Bool)
        → (if a && (b && fit) then Ok (Apply txn commit subs) else Err Number) ≡ carried (a && b) (Apply txn commit)
        (if fit then Ok subs else Err Number)
    by true true true = refl
    by true true false = refl
    by true false true = refl
    by true false false = refl
    by false b true = refl
    by false b false = refl

pub apply_judged : (txn commit : ℕ) (words : List (List ℕ))
    → judge kind_numbers_fit kind_names_fit (without_of words >>= (λ without. Some (Apply txn commit without))) ≡ carried
    (is_txn txn && is_time commit) (Apply txn commit) (without_in words)
unfolding without_in
apply_judged txn commit words = apply_cases txn commit (without_of words)

abbrev pub entry : ℕ → ℕ → Kind → LogLine
entry id time kind = line.Entry id (record { time = time; kind = kind })

entry_cases : (id time : ℕ) (o : Option Kind)
    → judge numbers_fit names_fit (o >>= (λ kind. Some (entry id time kind))) ≡ carried (nat_lt id 64 && is_time time) (entry id time)
    (judge kind_numbers_fit kind_names_fit o)
entry_cases id time None = carried_form (nat_lt id 64 && is_time time) (entry id time)
entry_cases id time (Some kind) = by (nat_lt id 64) (is_time time) (kind_numbers_fit kind) (kind_names_fit kind)
  where
    by : (a b numbers names : Bool)
        → (if a && (b && numbers) then (if names then Ok (entry id time kind) else Err Key) else Err Number) ≡ carried (a && b)
        (entry id time) (if numbers then (if names then Ok kind else Err Key) else Err Number)
    by true true true true = refl
    by true true true false = refl
    by true true false n = refl
    by true false true true = refl
    by true false true false = refl
    by true false false n = refl
    by false b true true = refl
    by false b true false = refl
    by false b false n = refl

pub entry_judged : (v : Version) (id time : ℕ) (words : List (List ℕ))
    → judge numbers_fit names_fit (kind_of v words >>= (λ kind. Some (entry id time kind))) ≡ carried (nat_lt id 64 && is_time time)
    (entry id time) (kind_in v words)
unfolding kind_in
entry_judged v id time words = entry_cases id time (kind_of v words)

header_cases : (o : Option Header)
    → judge numbers_fit names_fit (option_map line.Tablet o) ≡ carried true line.Tablet (judge header_numbers_fit (λ header. true) o)
header_cases None = refl
header_cases (Some h) =
    elim (header_numbers_fit h) as
    (λ b. (if b then Ok (line.Tablet h) else Err Number) ≡ carried true line.Tablet (if b then Ok h else Err Number))
    [ true ↦ refl | false ↦ refl ]

pub header_judged : (words : List (List ℕ))
    → judge numbers_fit names_fit (option_map line.Tablet (header_of words)) ≡ carried true line.Tablet
    (judge header_numbers_fit (λ header. true) (header_of words))
header_judged words = header_cases (header_of words)

-- ---- with the numbers that were read

abbrev pub kind_judged : Option Kind → Result Kind LogKind
kind_judged o = judge kind_numbers_fit kind_names_fit o

abbrev pub line_judged : Option LogLine → Result LogLine LogKind
line_judged o = judge numbers_fit names_fit o

pub write_refused : (v : Version) (words : List (List ℕ)) (e : Fail) → Refuses e (ops_in v words)
    → Refuses e (kind_judged (option_map Write (ops_of v words)))
write_refused v words e h = let P : Result Kind LogKind
    → Type 0 = λ r. Refuses e r in subst P (sym (write_judged v words)) (refused true Write e (ops_in v words) h)

pub write_read : (v : Version) (words : List (List ℕ)) (ops : List Op) → ops_in v words ≡ Ok ops
    → kind_judged (option_map Write (ops_of v words)) ≡ Ok (Write ops)
write_read v words ops h = write_judged v words ∙ ap (carried true Write) h

-- the numbers and the words of an intent
pub record IsIntent (words rest : List (List ℕ)) (txn sub : ℕ) : Type 0 where
  pub middle : List (List ℕ)
  pub first : first_number words ≡ Some (txn, middle)
  pub second : sub_of middle ≡ Some (sub, rest)

pub is_intent : (words middle rest : List (List ℕ)) (txn sub : ℕ) → first_number words ≡ Some (txn, middle)
    → sub_of middle ≡ Some (sub, rest) → IsIntent words rest txn sub
is_intent words middle rest txn sub a b = record { middle = middle; first = a; second = b }

intent_is : (v : Version) (words rest : List (List ℕ)) (txn sub : ℕ) → IsIntent words rest txn sub
    → kind_judged (intent_of v words) ≡ carried (intent_fits txn sub) (Intent sub txn) (ops_in v rest)
intent_is v words rest txn sub e = rw (e.first, e.second) (intent_judged v txn sub rest)

pub intent_refused : (v : Version) (words rest : List (List ℕ)) (txn sub : ℕ) (e : Fail) → IsIntent words rest txn sub
    → Refuses e (ops_in v rest) → Refuses (after_numbers (intent_fits txn sub) e) (kind_judged (intent_of v words))
intent_refused v words rest txn sub e n h =
    let P : Result Kind LogKind
    → Type 0 = λ r. Refuses (after_numbers (intent_fits txn sub) e) r in subst P (sym (intent_is v words rest txn sub n))
    (refused (intent_fits txn sub) (Intent sub txn) e (ops_in v rest) h)

pub intent_number : (v : Version) (words rest : List (List ℕ)) (txn sub : ℕ) (ops : List Op) → IsIntent words rest txn sub
    → ops_in v rest ≡ Ok ops → intent_fits txn sub ≡ false → kind_judged (intent_of v words) ≡ Err Number
intent_number v words rest txn sub ops n h bad = intent_is v words rest txn sub n ∙ rw (h, bad) refl

pub intent_read : (v : Version) (words rest : List (List ℕ)) (txn sub : ℕ) (ops : List Op) → IsIntent words rest txn sub
    → ops_in v rest ≡ Ok ops → is_txn txn ≡ true → nat_le sub 64 ≡ true → kind_judged (intent_of v words) ≡ Ok (Intent sub txn ops)
intent_read v words rest txn sub ops n h a b = intent_is v words rest txn sub n ∙ rw (h, a, b) refl

-- the numbers and the words of an apply
pub record IsApply (words rest : List (List ℕ)) (txn commit : ℕ) : Type 0 where
  pub middle : List (List ℕ)
  pub first : first_number words ≡ Some (txn, middle)
  pub second : first_number middle ≡ Some (commit, rest)

pub is_apply : (words middle rest : List (List ℕ)) (txn commit : ℕ) → first_number words ≡ Some (txn, middle)
    → first_number middle ≡ Some (commit, rest) → IsApply words rest txn commit
is_apply words middle rest txn commit a b = record { middle = middle; first = a; second = b }

apply_is : (words rest : List (List ℕ)) (txn commit : ℕ) → IsApply words rest txn commit
    → kind_judged (apply_of words) ≡ carried (is_txn txn && is_time commit) (Apply txn commit) (without_in rest)
apply_is words rest txn commit e = rw (e.first, e.second) (apply_judged txn commit rest)

not_key : (o : Option (List ℕ)) (k : LogKind) → judge are_subs (λ subs. true) o ≡ Err k → before_key k ≡ k
not_key None k h = let is : Form ≡ k = cc in subst (λ x. before_key x ≡ x) is refl
not_key (Some subs) k h = by (are_subs subs) h
  where
    by : (b : Bool) → (if b then Ok subs else Err Number) ≡ Err k → before_key k ≡ k
    by true e = cc
    by false e = let is : Number ≡ k = cc in subst (λ x. before_key x ≡ x) is refl

carried_same : (fit : Bool) (whole : List ℕ → Kind) (k : LogKind) → before_key k ≡ k → carried fit whole (Err k) ≡ Err k
carried_same true whole k e = refl
carried_same false whole k e = ap Err e

pub apply_refused : (words rest : List (List ℕ)) (txn commit : ℕ) (e : Fail) → IsApply words rest txn commit → Refuses e (without_in rest)
    → Refuses e (kind_judged (apply_of words))
unfolding without_in
apply_refused words rest txn commit (fail.Bad k) n h =
    apply_is words rest txn commit n ∙ ap (carried (is_txn txn && is_time commit) (Apply txn commit)) h
    ∙ carried_same (is_txn txn && is_time commit) (Apply txn commit) k (not_key (without_of rest) k h)
apply_refused words rest txn commit fail.NoMemory n h = tt

pub apply_number : (words rest : List (List ℕ)) (txn commit : ℕ) (subs : List ℕ) → IsApply words rest txn commit
    → without_in rest ≡ Ok subs → (is_txn txn && is_time commit) ≡ false → kind_judged (apply_of words) ≡ Err Number
apply_number words rest txn commit subs n h bad = apply_is words rest txn commit n ∙ rw (h, bad) refl

pub apply_read : (words rest : List (List ℕ)) (txn commit : ℕ) (subs : List ℕ) → IsApply words rest txn commit → without_in rest ≡ Ok subs
    → is_txn txn ≡ true → is_time commit ≡ true → kind_judged (apply_of words) ≡ Ok (Apply txn commit subs)
apply_read words rest txn commit subs n h a b = apply_is words rest txn commit n ∙ rw (h, a, b) refl

entry_is : (v : Version) (id : ℕ) (words rest : List (List ℕ)) (time : ℕ) → first_number words ≡ Some (time, rest)
    → line_judged (entry_of v id words) ≡ carried (nat_lt id 64 && is_time time) (entry id time) (kind_in v rest)
entry_is v id words rest time e = rw e (entry_judged v id time rest)

pub entry_refused : (v : Version) (id : ℕ) (words rest : List (List ℕ)) (time : ℕ) (e : Fail) → first_number words ≡ Some (time, rest)
    → Refuses e (kind_in v rest) → Refuses (after_numbers (nat_lt id 64 && is_time time) e) (line_judged (entry_of v id words))
entry_refused v id words rest time e n h =
    let P : Result LogLine LogKind → Type 0 = λ r. Refuses (after_numbers (nat_lt id 64 && is_time time) e) r in
    subst P (sym (entry_is v id words rest time n)) (refused (nat_lt id 64 && is_time time) (entry id time) e (kind_in v rest) h)

pub entry_number : (v : Version) (id : ℕ) (words rest : List (List ℕ)) (time : ℕ) (kind : Kind) → first_number words ≡ Some (time, rest)
    → kind_in v rest ≡ Ok kind → (nat_lt id 64 && is_time time) ≡ false → line_judged (entry_of v id words) ≡ Err Number
entry_number v id words rest time kind n h bad = entry_is v id words rest time n ∙ rw (h, bad) refl

pub entry_read : (v : Version) (id : ℕ) (words rest : List (List ℕ)) (time : ℕ) (kind : Kind) → first_number words ≡ Some (time, rest)
    → kind_in v rest ≡ Ok kind → (nat_lt id 64 && is_time time) ≡ true → line_judged (entry_of v id words) ≡ Ok (entry id time kind)
entry_read v id words rest time kind n h fits = entry_is v id words rest time n ∙ rw (h, fits) refl

pub header_refused : (words : List (List ℕ)) (e : Fail) → Refuses e (judge header_numbers_fit (λ header. true) (header_of words))
    → Refuses e (line_judged (option_map line.Tablet (header_of words)))
header_refused words e h = let P : Result LogLine LogKind
    → Type 0 = λ r. Refuses e r in subst P (sym (header_judged words)) (refused true line.Tablet e _ h)

pub header_read : (words : List (List ℕ)) (h : Header) → judge header_numbers_fit (λ header. true) (header_of words) ≡ Ok h
    → line_judged (option_map line.Tablet (header_of words)) ≡ Ok (line.Tablet h)
header_read words h is = header_judged words ∙ ap (carried true line.Tablet) is

-- ---- a line that begins with a number

not_word : (w text : List ℕ) (n : ℕ) → number text ≡ None → number w ≡ Some n → bytes_eq w text ≡ false
not_word w text n none h = by (bytes_eq w text) refl
  where
    by : (b : Bool) → bytes_eq w text ≡ b → b ≡ false
    by true e =
        let same : w ≡ text = (bytes_eq-Decides w text).0 e in
        let found : number text ≡ Some n = subst (λ t. number t ≡ Some n) same h in cc
    by false e = refl

no_number : (number (codes "xclog") ≡ None) × (number (codes "tablet") ≡ None) × (number (codes "end") ≡ None)
unfolding number
no_number = (refl, refl, refl)

pub number_line : (v : Version) (words rest : List (List ℕ)) (id : ℕ) → first_number words ≡ Some (id, rest)
    → line_in v words ≡ line_judged (entry_of v id rest)
unfolding line_in line_of
number_line v [] rest id h = cc
number_line v (w ∷ ws) rest id h = by (number w) refl h
  where
    by : (o : Option ℕ) → number w ≡ o → option_map {U = ℕ × List (List ℕ)} (λ n. (n, ws)) o ≡ Some (id, rest)
        → line_judged (line_by v w ws) ≡ line_judged (entry_of v id rest)
    by None is k = cc
    by (Some n) is k =
        let p : ℕ × List (List ℕ) = (n, ws) in
        let q : ℕ × List (List ℕ) = (id, rest) in
        let both : p ≡ q = same_Some p q k in
        let first : n ≡ id = ap (λ (p : ℕ × List (List ℕ)). p.0) both in
        let others : ws ≡ rest = ap (λ (p : ℕ × List (List ℕ)). p.1) both in
        rw (
          not_word w (codes "xclog") n no_number.0 is,
          not_word w (codes "tablet") n no_number.1 is,
          not_word w (codes "end") n no_number.2 is,
          is,
        )
        (ap (λ i. line_judged (entry_of v i ws)) first ∙ ap (λ more. line_judged (entry_of v id more)) others)
