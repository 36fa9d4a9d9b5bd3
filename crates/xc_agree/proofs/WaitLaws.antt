-- Laws of waiting.
use Rattle.std.proofs.Common.{◌≡◌, ℕ, ◌+◌, ◌-◌, Bool, true, false, ◌||◌, List, [], ◌∷◌, ◌++◌, length, refl, ap, sym, ◌∙◌, subst, arith}
use Rattle.std.proofs.Common.{length-append, append_assoc}
use Rattle.std.proofs.lemmas.Bool.Decides.{nat_tests}
use Rattle.std.proofs.lemmas.Bool.{eqb-true, false≢true}
use Rattle.std.proofs.lemmas.List.{append-nil, drop_all}
use Rattle.std.specs.Prelude.{Option, Some, None, ◌&&◌, ◌==◌, nat_le, if◌then◌else◌, fold, is_some, option_and_then}
use Rattle.std.specs.Option.{option_map_or}
use Rattle.std.proofs.Math.Bool.{and_assoc}
use Rattle.xc_record.specs.declared.record.Kind.{Kind}
use Rattle.xc_record.specs.declared.record.Kind.TheVariants.{Write, Intent, Apply, Abort, Safe, Split}
use Rattle.xc_record.specs.declared.record.Op.{Op}
use Rattle.xc_record.specs.declared.record.Header.{Header}
use Rattle.xc_record.specs.declared.record.Record.{Record}
use Rattle.xc_record.specs.Hash.{holds}
use Rattle.xc_record.specs.Lists.{or_else}
use Rattle.xc_agree.specs.declared.held.Held.{Held}
use Rattle.xc_agree.specs.declared.look.Look.{Look}
use Rattle.xc_agree.specs.declared.commits.Commit.{Commit}
use Rattle.xc_agree.specs.Slots.{time_of, undone_of}
use Rattle.xc_agree.specs.Seen.{Seen, see, see_kind, unseen, waits_from, since_in, IsLook}
use Rattle.xc_agree.specs.Held.{is_held, writes_at, intends, intends_since, is_start, wait_kind, waits_by, IsLeft, seen_at_end}
use Rattle.xc_agree.proofs.HeldLaws.{since-snoc}

pub waits-append : (n : ℕ) (p : List Op → Bool) (w : Bool) (xs ys : List Record)
    → waits_by n p w (xs ++ ys) ≡ waits_by n p (waits_by n p w xs) ys
waits-append n p w [] ys = refl
waits-append n p w (x ∷ xs) ys = waits-append n p (wait_kind n p w x.kind) xs ys

-- what is seen after some records says what waits at a hash
pub record Still (n h : ℕ) (held : Bool) (s : Seen) (done : List Record) : Type 0 where
  pub place : s.place ≡ length done
  pub below : option_map_or (λ place. nat_le place s.place) s.since true ≡ true
  pub waits : waits_by n (writes_at h) held done ≡ ((held && is_start s.since) || intends_since n h s.since done)

still-begin : (n h : ℕ) (held waits : Bool) → (held ≡ true → waits ≡ true) → Still n h held (unseen waits) []
still-begin n h true true k = record { place = refl; below = refl; waits = refl }
still-begin n h true false k = absurd (false≢true (k refl))
still-begin n h false true k = record { place = refl; below = refl; waits = refl }
still-begin n h false false k = record { place = refl; below = refl; waits = refl }

empty-since : (n h : ℕ) (done : List Record) → intends_since n h (Some (length done + 1)) done ≡ false
empty-since n h done = ap (intends n h) (drop_all (length done + 1 - 1) done (omega arith))

step-waits : (n c : ℕ) (u : List ℕ) (h : ℕ) (held : Bool) (s : Seen) (done : List Record) (r : Record) (time : ℕ) (kind : Kind)
    → r.kind ≡ kind → Still n h held s done
    → wait_kind n (writes_at h) (waits_by n (writes_at h) held done) kind ≡
    ((held && is_start (see_kind n c u s time kind).since) || intends_since n h (see_kind n c u s time kind).since (done ++ r ∷ []))
step-waits n c u h held s done r time (Write ops) e k = grind (arith, k.waits, since-snoc n h s.since done r)
step-waits n c u h held s done r time (Safe value) e k = grind (arith, k.waits, since-snoc n h s.since done r)
step-waits n c u h held s done r time (Split at left right) e k = grind (arith, k.waits, since-snoc n h s.since done r)
step-waits n c u h held s done r time (Apply txn commit without) e k = grind (arith, k.waits, since-snoc n h s.since done r)
step-waits n c u h held s done r time (Abort txn) e k = grind (arith, k.waits, since-snoc n h s.since done r)
step-waits n c u h held s done r time (Intent sub txn ops) e k = go (txn == n) refl s.since refl
  where
    go : (b : Bool) → txn == n ≡ b → (o : Option ℕ) → s.since ≡ o
        → (if b && writes_at h ops then true else waits_by n (writes_at h) held done)
        ≡ ((held && is_start
        (if b then record s { place = s.place + 1; since = or_else o (Some (s.place + 1)); late = s.late || nat_le c time } else record
        s { place = s.place + 1 }).since)
        || intends_since n h
        (if b then record s { place = s.place + 1; since = or_else o (Some (s.place + 1)); late = s.late || nat_le c time } else record
        s { place = s.place + 1 }).since (done ++ r ∷ []))
    go false f o g = grind (arith, k.waits, since-snoc n h s.since done r)
    go true f None g = grind (arith, k.waits, k.place, since-snoc n h (Some (s.place + 1)) done r, empty-since n h done)
    go true f (Some place) g = grind (arith, nat_tests, k.waits, k.place, k.below, since-snoc n h (Some place) done r)

abbrev pub Below : ℕ → Option ℕ → Type 0
Below k o = option_map_or (λ place. nat_le place k) o true ≡ true

pub below-see : (n c : ℕ) (u : List ℕ) (s : Seen) (time : ℕ) (kind : Kind) → Below s.place s.since
    → Below (see_kind n c u s time kind).place (see_kind n c u s time kind).since
below-see n c u s time kind h = grind (arith, nat_tests)

pub place-see : (n c : ℕ) (u : List ℕ) (s : Seen) (time : ℕ) (kind : Kind) → (see_kind n c u s time kind).place ≡ s.place + 1
place-see n c u s time kind = grind arith

still-step : (n c : ℕ) (u : List ℕ) (h : ℕ) (held : Bool) (s : Seen) (done : List Record) (r : Record) → Still n h held s done
    → Still n h held (see n c u s r) (done ++ r ∷ [])
still-step n c u h held s done r k = record {
  place = place-see n c u s r.time r.kind ∙ ap (λ x. x + 1) k.place ∙ sym (length-append done (r ∷ []));
  below = below-see n c u s r.time r.kind k.below;
  waits = waits-append n (writes_at h) held done (r ∷ []) ∙ step-waits n c u h held s done r r.time r.kind refl k;
}

still-all : (n c : ℕ) (u : List ℕ) (h : ℕ) (held : Bool) (s : Seen) (done rs : List Record) → Still n h held s done
    → Still n h held (fold (see n c u) s rs) (done ++ rs)
still-all n c u h held s done [] k = rw append-nil k
still-all n c u h held s done (r ∷ rs) k =
    subst (λ xs. Still n h held (fold (see n c u) (see n c u s r) rs) xs) (append_assoc done (r ∷ []) rs)
    (still-all n c u h held (see n c u s r) (done ++ r ∷ []) rs (still-step n c u h held s done r k))

-- what is held waits
pub held-waits : (n h : ℕ) (header : Header) (held : List Held) → (is_held held n h && holds header h) ≡ true
    → waits_from header held n ≡ true
held-waits n h header [] e = cc
held-waits n h header (x ∷ held) e = go (held-waits n h header held) (x.txn == n) (x.hash == h) refl e
  where
    go : ((is_held held n h && holds header h) ≡ true → waits_from header held n ≡ true) → (p q : Bool) → x.hash == h ≡ q
        → (((p && q) || is_held held n h) && holds header h) ≡ true → ((p && holds header x.hash) || waits_from header held n) ≡ true
    go ih true true f e = let same : x.hash ≡ h = eqb-true x.hash h f in rw (same, e) refl
    go ih true false f e = grind (arith, ih e)
    go ih false q f e = ih e

-- what a tablet holds at its end
pub left-at-end : (look : Look) (commits : List Commit) (header : Header) (held left : List Held) (rs : List Record)
    → IsLook look commits (seen_at_end commits header held rs)
    → ((n h : ℕ)
    → is_held left n h ≡
    ((is_held held n h && (holds header h && is_start (since_in commits look n))) || intends_since n h (since_in commits look n)
    rs)) → IsLeft left commits header held rs
left-at-end look commits header held left rs k is n h = is n h ∙ go (time_of commits n) refl
  where
    and-false : (a b : Bool) → ((a && (b && false)) || false) ≡ false
    and-false a b = grind arith

    go : (o : Option ℕ) → time_of commits n ≡ o
        → ((is_held held n h && (holds header h && is_start (since_in commits look n))) || intends_since n h (since_in commits look n) rs)
        ≡ (is_some o && waits_by n (writes_at h) (is_held held n h && holds header h) rs)
    go None e =
        let since : since_in commits look n ≡ None =
        k.since n ∙ ap (option_and_then (λ c. (seen_at_end commits header held rs n c).since)) e in
        rw since (and-false (is_held held n h) (holds header h))
    go (Some c) e =
        let since : since_in commits look n ≡ (seen_at_end commits header held rs n c).since =
        k.since n ∙ ap (option_and_then (λ c. (seen_at_end commits header held rs n c).since)) e in
        let still : Still n h (is_held held n h && holds header h) (seen_at_end commits header held rs n c) rs =
        still-all n c (undone_of commits n) h (is_held held n h && holds header h) (unseen (waits_from header held n)) [] rs
        (still-begin n h (is_held held n h && holds header h) (waits_from header held n) (held-waits n h header held)) in
        rw since (ap (λ b. b || intends_since n h (seen_at_end commits header held rs n c).since rs)
        (sym (and_assoc (is_held held n h) (holds header h) (is_start (seen_at_end commits header held rs n c).since)))
        ∙ sym still.waits)
