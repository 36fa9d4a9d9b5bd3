-- Laws of a look: one record more.
use Rattle.std.proofs.Common.{◌≡◌, ℕ, ◌+◌, ◌<◌, Bool, true, false, ◌||◌, List, [], ◌∷◌, refl, ap, sym, ◌∙◌, subst, arith}
use Rattle.std.proofs.lemmas.Bool.Decides.{nat_tests}
use Rattle.std.proofs.Common.{◌++◌, length, take, get_or}
use Rattle.std.proofs.lemmas.List.{take_more, map-append}
use Rattle.std.proofs.lemmas.Option.{slice_get-get_or, same_Some, none-some}
use Rattle.std.proofs.lemmas.List.Sums.{fold-append}
use Rattle.std.proofs.lemmas.List.Folds.{list_any-append}
use Rattle.std.specs.Prelude.{fold, is_some, map, slice_get}
use Rattle.std.specs.List.{list_any, list_all}
use Rattle.std.proofs.lemmas.Bool.{eqb-true, eq-eqb, false≢true}
use Rattle.xc_record.specs.declared.record.Header.{Header}
use Rattle.xc_agree.specs.declared.held.Held.{Held}
use Rattle.xc_record.specs.declared.record.Record.{Record}
use Rattle.std.specs.Prelude.{Option, Some, None, option_and_then, if◌then◌else◌, ◌==◌, ◌&&◌, not, nat_le, nat_lt, bytes_eq}
use Rattle.std.specs.Option.{option_map_or}
use Rattle.xc_record.specs.declared.record.AgreeKind.{AgreeKind}
use Rattle.xc_record.specs.declared.record.AgreeKind.TheVariants.{CommitDiffers, RollbackDiffers, LateIntent, Aborted, Straggler}
use Rattle.xc_record.specs.declared.record.Kind.{Kind}
use Rattle.xc_record.specs.declared.record.Kind.TheVariants.{Intent, Apply, Abort}
use Rattle.xc_record.specs.declared.record.Op.{Op}
use Rattle.xc_record.specs.Lists.{or_else}
use Rattle.xc_agree.specs.declared.look.Found.{Found}
use Rattle.xc_agree.specs.declared.look.Look.{Look}
use Rattle.xc_agree.specs.declared.look.Waiter.{Waiter}
use Rattle.xc_agree.specs.declared.commits.Commit.{Commit}
use Rattle.xc_agree.specs.Slots.{time_of, undone_of, slot_of}
use Rattle.xc_agree.proofs.SlotLaws.{slot-at-item}
use Rattle.xc_agree.proofs.CommitLaws.{slot-below, slots-differ, time-at-slot}
use Rattle.xc_agree.specs.Seen.{Seen, see, pends, passes, settles_as, see_kind, kind_of, kind_seen, earlier, IsLeast, with_kind}
use Rattle.xc_agree.specs.Seen.{IsLeastWith, since_at, since_in, pends_at, pends_in, is_in_slot, AreInSlots, IsLook, Takes, Began, IsEnd}
use Rattle.xc_agree.specs.Seen.{waits_from, unseen, kind_at_end, kind_tried, is_among}
use Rattle.std.proofs.Math.Bool.{or-false, or-true}

-- found goes by the kinds alone
pub least-same : (found : Option Found) (kinds more : ℕ → Option AgreeKind) → ((n : ℕ) → more n ≡ kinds n) → IsLeast found kinds
    → IsLeast found more
least-same None kinds more e h = λ n. e n ∙ h n
least-same (Some f) kinds more e h = (e f.txn ∙ h.0, λ n below. e n ∙ h.1 n below)

-- one more flag
pub kind-differs : (b d u l a s : Bool)
    → kind_of (d || b) u l a s ≡ if b then Some (earlier CommitDiffers (kind_of d u l a s)) else kind_of d u l a s
kind-differs b d u l a s = grind arith

pub kind-undoes : (b d u l a s : Bool)
    → kind_of d (u || b) l a s ≡ if b then Some (earlier RollbackDiffers (kind_of d u l a s)) else kind_of d u l a s
kind-undoes b d u l a s = grind arith

pub kind-late : (b d u l a s : Bool)
    → kind_of d u (l || b) a s ≡ if b then Some (earlier LateIntent (kind_of d u l a s)) else kind_of d u l a s
kind-late b d u l a s = grind arith

pub kind-aborted : (d u l a s : Bool) → kind_of d u l true s ≡ Some (earlier Aborted (kind_of d u l a s))
kind-aborted d u l a s = grind arith

pub kind-straggles : (b d u l a s : Bool)
    → kind_of d u l a (s || b) ≡ if b then Some (earlier Straggler (kind_of d u l a s)) else kind_of d u l a s
kind-straggles b d u l a s = grind arith

-- with the case where it stands
abbrev with_if : Bool → AgreeKind → Option AgreeKind → Option AgreeKind
with_if stands kind k = if stands then Some (earlier kind k) else k

-- the same of the transaction that is `here`
abbrev with_at : Bool → Bool → AgreeKind → Option AgreeKind → Option AgreeKind
with_at here stands kind k = if stands then (if here then Some (earlier kind k) else k) else k

pub kind-apply : (b r p d u l a s : Bool)
    → kind_of (d || b) (u || r) l a (s || p) ≡ with_if p Straggler (with_if r RollbackDiffers (with_if b CommitDiffers (kind_of d u l a s)))
kind-apply b r p d u l a s =
    kind-straggles p (d || b) (u || r) l a s
    ∙ ap (with_if p Straggler) (kind-undoes r (d || b) u l a s ∙ ap (with_if r RollbackDiffers) (kind-differs b d u l a s))

kind-apply-at : (b r p d u l a s here c t q : Bool) (k : Option AgreeKind) → here ≡ true → c ≡ b → t ≡ r → q ≡ p → k ≡ kind_of d u l a s
    → kind_of (d || b) (u || r) l a (s || p) ≡ with_at here q Straggler (with_at here t RollbackDiffers (with_at here c CommitDiffers k))
kind-apply-at b r p d u l a s here c t q k h e f g i = rw (h, e, f, g, i) (kind-apply b r p d u l a s)

-- the kinds of the transactions that commit
abbrev pub kinds_in : List Commit → (ℕ → ℕ → Seen) → ℕ → Option AgreeKind
kinds_in commits seen n = option_and_then (λ c. kind_seen (seen n c)) (time_of commits n)

pub record Next (old new : Look) : Type 0 where
  pub place : new.place ≡ old.place + 1
  pub safe : new.safe ≡ old.safe
  pub floor : new.floor ≡ old.floor
  pub slots : length new.waiting.items ≡ length old.waiting.items

-- what holds of a slot holds of the transaction in it
pub lift-since : (commits : List Commit) (old new : Look) (txn slot : ℕ) (f : Option ℕ → Option ℕ) → slot_of commits txn ≡ Some slot
    → ((i : ℕ) → since_at new i ≡ if i == slot then f (since_at old i) else since_at old i) → (n : ℕ)
    → since_in commits new n ≡ if n == txn then f (since_in commits old n) else since_in commits old n
lift-since commits old new txn slot f at step n = go (slot_of commits n) refl
  where
    go : (o : Option ℕ) → slot_of commits n ≡ o
        → option_and_then (since_at new) o ≡ if n == txn then f (option_and_then (since_at old) o) else option_and_then (since_at old) o
    go None e = here (n == txn) refl
      where
        here : (b : Bool) → n == txn ≡ b → None ≡ if b then f None else None
        here false apart = refl
        here true same = absurd (none-some slot (sym e ∙ ap (slot_of commits) (eqb-true n txn same) ∙ at))
    go (Some i) e = step i ∙ here (i == slot) (n == txn) refl refl
      where
        here : (a b : Bool) → i == slot ≡ a → n == txn ≡ b
            → (if a then f (since_at old i) else since_at old i) ≡ if b then f (since_at old i) else since_at old i
        here true true is same = refl
        here false false is same = refl
        here true false is same =
            absurd (false≢true (sym same ∙ eq-eqb n txn (slots-differ commits n txn slot (e ∙ ap (λ k. Some k) (eqb-true i slot is)) at)))
        here false true is same =
            absurd (false≢true (sym is ∙ eq-eqb i slot (same_Some _ _ (sym e ∙ ap (slot_of commits) (eqb-true n txn same) ∙ at))))

-- an intent of a transaction that commits
pub take-intent : (old new : Look) (commits : List Commit) (txn time commit sub : ℕ) (ops : List Op) → time_of commits txn ≡ Some commit
    → Next old new → (Began old → Began new)
    → (AreInSlots commits old.began.items → AreInSlots commits new.began.items)
    → (length old.waiting.items ≡ length commits → (n : ℕ)
    → since_in commits new n ≡ if n == txn then or_else (since_in commits old n) (Some (old.place + 1)) else since_in commits old n)
    → IsLeastWith old.found (nat_le commit time) txn LateIntent new.found → Takes old new commits time (Intent sub txn ops)
take-intent old new commits txn time commit sub ops is next starts waiters since found = λ seen h. record {
  place = λ n c. grind (arith, h.place n c, next.place);
  safe = λ n c. grind (arith, h.safe n c, next.safe);
  floor = λ n c. grind (arith, h.floor n c, next.floor);
  since = λ n. since h.slots n ∙ sinces seen h n (time_of commits n) refl;
  found = least-same new.found _ _ (λ n. kinds seen n (time_of commits n) refl) (found (kinds_in commits seen) h.found);
  slots = next.slots ∙ h.slots;
  began = starts h.began;
  waiters = waiters h.waiters;
}
  where
    sinces : (seen : ℕ → ℕ → Seen) → IsLook old commits seen → (n : ℕ) (o : Option ℕ) → time_of commits n ≡ o
        → (if n == txn then or_else (since_in commits old n) (Some (old.place + 1)) else since_in commits old n) ≡ option_and_then
        (λ c. (see_kind n c (undone_of commits n) (seen n c) time (Intent sub txn ops)).since) o
    sinces seen h n None e = grind (arith, nat_tests, h.since n)
    sinces seen h n (Some c) e = grind (arith, nat_tests, h.since n, h.place n c)

    kinds : (seen : ℕ → ℕ → Seen) (n : ℕ) (o : Option ℕ) → time_of commits n ≡ o
        → option_and_then (λ c. kind_seen (see_kind n c (undone_of commits n) (seen n c) time (Intent sub txn ops))) o ≡
        (if nat_le commit time then with_kind txn LateIntent (kinds_in commits seen) n else kinds_in commits seen n)
    kinds seen n None e = grind (arith, nat_tests)
    kinds seen n (Some c) e =
        grind (
          arith,
          nat_tests,
          kind-late (nat_le c time) (seen n c).differs (seen n c).undoes (seen n c).late (seen n c).aborted
              (seen n c).straggles,
        )

-- whether what is seen pends goes by the look
pends-same : (old : Look) (commits : List Commit) (seen : ℕ → ℕ → Seen) (n c : ℕ) → IsLook old commits seen → time_of commits n ≡ Some c
    → pends c (seen n c) ≡ pends_in commits c old n
pends-same old commits seen n c h e =
    let s : since_in commits old n ≡ (seen n c).since = h.since n ∙ ap (option_and_then (λ c. (seen n c).since)) e in
    rw (s, h.safe n c, h.floor n c) refl

-- where its apply or its abort ends a transaction's wait, what is seen to wait goes by the look
settled-since : (old : Look) (commits : List Commit) (seen after : ℕ → ℕ → Seen) (txn : ℕ)
    → ((n c : ℕ) → (after n c).since ≡ if txn == n then None else (seen n c).since) → IsLook old commits seen → (n : ℕ) (o : Option ℕ)
    → time_of commits n ≡ o → (if n == txn then None else since_in commits old n) ≡ option_and_then (λ c. (after n c).since) o
settled-since old commits seen after txn ends h n None e = grind (arith, nat_tests, h.since n)
settled-since old commits seen after txn ends h n (Some c) e = grind (arith, nat_tests, h.since n, ends n c)

-- an apply of a transaction that commits
pub take-apply : (old new : Look) (mid more : Option Found) (commits : List Commit) (txn time named commit : ℕ) (without : List ℕ)
    → time_of commits txn ≡ Some commit → Next old new → (Began old → Began new) → new.began ≡ old.began
    → ((n : ℕ) → since_in commits new n ≡ if n == txn then None else since_in commits old n)
    → IsLeastWith old.found (not (named == commit)) txn CommitDiffers mid
    → IsLeastWith mid (not (bytes_eq without (undone_of commits txn))) txn RollbackDiffers more
    → IsLeastWith more (pends_in commits commit old txn) txn Straggler new.found → Takes old new commits time (Apply txn named without)
take-apply old new mid more commits txn time named commit without is next starts same since first second third = λ seen h. record {
  place = λ n c. grind (arith, h.place n c, next.place);
  safe = λ n c. grind (arith, h.safe n c, next.safe);
  floor = λ n c. grind (arith, h.floor n c, next.floor);
  since = λ n. since n ∙ settled-since old commits seen
      (λ n c. see_kind n c (undone_of commits n) (seen n c) time (Apply txn named without)) txn
      (λ n c. grind (arith, nat_tests)) h n (time_of commits n) refl;
  found = least-same new.found _ _ (λ n. kinds seen h n (time_of commits n) refl)
      (third _ (second _ (first (kinds_in commits seen) h.found)));
  slots = next.slots ∙ h.slots;
  began = starts h.began;
  waiters = rw same h.waiters;
}
  where
    undoes : Bool
    undoes = not (bytes_eq without (undone_of commits txn))

    -- what is found of n
    after_all : (seen : ℕ → ℕ → Seen) (n : ℕ) → Option AgreeKind
    after_all seen n =
        with_at (n == txn) (pends_in commits commit old txn) Straggler
        (with_at (n == txn) undoes RollbackDiffers (with_at (n == txn) (not (named == commit)) CommitDiffers (kinds_in commits seen n)))

    apart-same : (seen : ℕ → ℕ → Seen) (n : ℕ) → n == txn ≡ false → after_all seen n ≡ kinds_in commits seen n
    apart-same seen n apart = rw apart (same-if (pends_in commits commit old txn) undoes (not (named == commit)) (kinds_in commits seen n))
      where
        same-if : (p r b : Bool) (k : Option AgreeKind)
            → with_at false p Straggler (with_at false r RollbackDiffers (with_at false b CommitDiffers k)) ≡ k
        same-if p r b k = grind arith

    kinds : (seen : ℕ → ℕ → Seen) → IsLook old commits seen → (n : ℕ) (o : Option ℕ) → time_of commits n ≡ o
        → option_and_then (λ c. kind_seen (see_kind n c (undone_of commits n) (seen n c) time (Apply txn named without))) o ≡ after_all seen
        n
    kinds seen h n None e =
        let apart : n == txn ≡ false = (grind (arith, nat_tests)) in
        sym (apart-same seen n apart ∙ ap (option_and_then (λ c. kind_seen (seen n c))) e)
    kinds seen h n (Some c) e = go (txn == n) refl
      where
        other : txn == n ≡ false → n == txn ≡ false
        other apart = grind (arith, nat_tests)

        go : (same : Bool) → txn == n ≡ same
            → kind_seen (if same then settles_as c (undone_of commits n) (seen n c) named without else passes (seen n c)) ≡ after_all seen n
        go false apart = sym (apart-same seen n (other apart) ∙ ap (option_and_then (λ c. kind_seen (seen n c))) e)
        go true same =
            let at : txn ≡ n = eqb-true txn n same in
            let here : n == txn ≡ true = subst (λ m. n == m ≡ true) (sym at) (eq-eqb n n refl) in
            let one : commit ≡ c = same_Some _ _ (sym is ∙ ap (time_of commits) at ∙ e) in
            let p : pends_in commits commit old txn ≡ pends c (seen n c) =
            ap (λ x. pends_in commits x old txn) one ∙ ap (pends_in commits c old) at ∙ sym (pends-same old commits seen n c h e) in
            kind-apply-at (not (named == c)) (not (bytes_eq without (undone_of commits n))) (pends c (seen n c)) (seen n c).differs
            (seen n c).undoes (seen n c).late (seen n c).aborted (seen n c).straggles
            (n == txn) (not (named == commit)) (not (bytes_eq without (undone_of commits txn))) (pends_in commits commit old txn)
            (kinds_in commits seen n) here (ap (λ x. not (named == x)) one) (ap (λ m. not (bytes_eq without (undone_of commits m))) at) p
            (ap (option_and_then (λ c. kind_seen (seen n c))) e)

-- an abort of a transaction that commits
pub take-abort : (old new : Look) (mid : Option Found) (commits : List Commit) (txn time commit : ℕ) → time_of commits txn ≡ Some commit
    → Next old new → (Began old → Began new) → new.began ≡ old.began
    → ((n : ℕ) → since_in commits new n ≡ if n == txn then None else since_in commits old n)
    → ((kinds : ℕ → Option AgreeKind) → IsLeast old.found kinds → IsLeast mid (with_kind txn Aborted kinds))
    → IsLeastWith mid (pends_in commits commit old txn) txn Straggler new.found → Takes old new commits time (Abort txn)
take-abort old new mid commits txn time commit is next starts same since first second = λ seen h. record {
  place = λ n c. grind (arith, h.place n c, next.place);
  safe = λ n c. grind (arith, h.safe n c, next.safe);
  floor = λ n c. grind (arith, h.floor n c, next.floor);
  since = λ n. since n ∙ settled-since old commits seen (λ n c. see_kind n c (undone_of commits n) (seen n c) time (Abort txn)) txn
      (λ n c. grind (arith, nat_tests)) h n (time_of commits n) refl;
  found = least-same new.found _ _ (λ n. kinds seen h n (time_of commits n) refl) (second _ (first (kinds_in commits seen) h.found));
  slots = next.slots ∙ h.slots;
  began = starts h.began;
  waiters = rw same h.waiters;
}
  where
    kinds : (seen : ℕ → ℕ → Seen) → IsLook old commits seen → (n : ℕ) (o : Option ℕ) → time_of commits n ≡ o
        → option_and_then (λ c. kind_seen (see_kind n c (undone_of commits n) (seen n c) time (Abort txn))) o
        ≡ (if pends_in commits commit old txn then with_kind txn Straggler (with_kind txn Aborted (kinds_in commits seen)) n else with_kind
        txn Aborted (kinds_in commits seen) n)
    kinds seen h n None e = grind (arith, nat_tests)
    kinds seen h n (Some c) e = grind (
      arith,
      nat_tests,
      pends-same old commits seen n c h e,
      kind-straggles (pends c (seen n c)) (seen n c).differs (seen n c).undoes (seen n c).late true (seen n c).straggles,
      kind-aborted (seen n c).differs (seen n c).undoes (seen n c).late (seen n c).aborted (seen n c).straggles,
    )

pub takes-same : (old new : Look) (commits : List Commit) (time more : ℕ) (kind other : Kind) → time ≡ more → kind ≡ other
    → Takes old new commits time kind → Takes old new commits more other
takes-same old new commits time more kind other t k h =
    subst (λ x. Takes old new commits x other) t (subst (λ x. Takes old new commits time x) k h)

seen-same : (look : Look) (commits : List Commit) (seen more : ℕ → ℕ → Seen) → ((n c : ℕ) → more n c ≡ seen n c) → IsLook look commits seen
    → IsLook look commits more
seen-same look commits seen more e h = record {
  place = λ n c. ap (λ s. s.place) (e n c) ∙ h.place n c;
  safe = λ n c. ap (λ s. s.safe) (e n c) ∙ h.safe n c;
  floor = λ n c. ap (λ s. s.floor) (e n c) ∙ h.floor n c;
  since = λ n. h.since n ∙ sinces n (time_of commits n);
  found = least-same look.found (kinds_in commits seen) (kinds_in commits more) (λ n. kinds n (time_of commits n)) h.found;
  slots = h.slots;
  began = h.began;
  waiters = h.waiters;
}
  where
    sinces : (n : ℕ) (o : Option ℕ) → option_and_then (λ c. (seen n c).since) o ≡ option_and_then (λ c. (more n c).since) o
    sinces n None = refl
    sinces n (Some c) = ap (λ s. s.since) (sym (e n c))

    kinds : (n : ℕ) (o : Option ℕ) → option_and_then (λ c. kind_seen (more n c)) o ≡ option_and_then (λ c. kind_seen (seen n c)) o
    kinds n None = refl
    kinds n (Some c) = ap kind_seen (e n c)

-- the slot that was looked up last says nothing
pub near-look : (old new : Look) (commits : List Commit) (seen : ℕ → ℕ → Seen) (near : ℕ) → new ≡ record old { near = near }
    → IsLook old commits seen → IsLook new commits seen
near-look old new commits seen near e h =
    subst (λ look. IsLook look commits seen) (sym e)
    (record {
      place = h.place;
      safe = h.safe;
      floor = h.floor;
      since = h.since;
      found = h.found;
      slots = h.slots;
      began = h.began;
      waiters = h.waiters;
    })

-- the look after the record at i
pub look-more : (look : Look) (commits : List Commit) (seen : ℕ → ℕ → Seen) (rs : List Record) (i : ℕ) (r : Record) → i < length rs
    → r ≡ get_or rs i r
    → IsLook look commits
    (λ n c. see_kind n c (undone_of commits n) (fold (see n c (undone_of commits n)) (seen n c) (take i rs)) r.time r.kind)
    → IsLook look commits (λ n c. fold (see n c (undone_of commits n)) (seen n c) (take (i + 1) rs))
look-more look commits seen rs i r below is h =
    seen-same look commits _ _ (λ n c. ap (fold (see n c (undone_of commits n)) (seen n c)) (take_more rs i r below
    ∙ ap (λ x. take i rs ++ x ∷ []) (sym is)) ∙ fold-append (see n c (undone_of commits n)) (seen n c) (take i rs) (r ∷ [])) h

-- ---- the first record

pub begin-look : (look : Look) (commits : List Commit) (header : Header) (held : List Held)
    → ((n : ℕ) → since_in commits look n ≡ if waits_from header held n then Some 0 else None)
    → look.place ≡ 0 → look.safe ≡ 0 → look.floor ≡ 0 → look.found ≡ None → length look.waiting.items ≡ length commits → Began look
    → AreInSlots commits look.began.items
    → ((n : ℕ) → time_of commits n ≡ None → waits_from header held n ≡ false)
    → IsLook look commits (λ n c. unseen (waits_from header held n))
begin-look look commits header held since place safe floor found slots began waiters none = record {
  place = λ n c. sym place;
  safe = λ n c. sym safe;
  floor = λ n c. sym floor;
  since = λ n. since n ∙ sinces n (time_of commits n) refl;
  found = rw found (λ n. kinds n (time_of commits n));
  slots = slots;
  began = began;
  waiters = waiters;
}
  where
    sinces : (n : ℕ) (o : Option ℕ) → time_of commits n ≡ o
        → (if waits_from header held n then Some 0 else None) ≡ option_and_then (λ c. (unseen (waits_from header held n)).since) o
    sinces n None e = rw (none n e) refl
    sinces n (Some c) e = refl

    kinds : (n : ℕ) (o : Option ℕ) → option_and_then (λ c. kind_seen (unseen (waits_from header held n))) o ≡ None
    kinds n None = refl
    kinds n (Some c) = refl

-- ---- the last record

pub try-none : (look : Look) (commits : List Commit) (seen : ℕ → ℕ → Seen) → IsLook look commits seen
    → IsLeast look.found (λ n. option_and_then (λ c. kind_tried false c (seen n c)) (time_of commits n))
try-none look commits seen h = least-same look.found (kinds_in commits seen) _ (λ n. kinds n (time_of commits n)) h.found
  where
    kinds : (n : ℕ) (o : Option ℕ) → option_and_then (λ c. kind_tried false c (seen n c)) o ≡ option_and_then (λ c. kind_seen (seen n c)) o
    kinds n None = refl
    kinds n (Some c) = ap (kind_of (seen n c).differs (seen n c).undoes (seen n c).late (seen n c).aborted) (or-false (seen n c).straggles)

abbrev pub txn_of : Waiter → ℕ
txn_of w = w.txn

abbrev pub began_txns : Look → List ℕ
began_txns look = map txn_of look.began.items

-- what waits is among the transactions that began to
waits-among : (look : Look) (commits : List Commit) → Began look → AreInSlots commits look.began.items → (n : ℕ)
    → is_some (since_in commits look n) ≡ true → is_among n (began_txns look) ≡ true
waits-among look commits began waiters n waits = go (slot_of commits n) refl waits
  where
    go : (o : Option ℕ) → slot_of commits n ≡ o → is_some (option_and_then (since_at look) o) ≡ true → is_among n (began_txns look) ≡ true
    go None e w = cc
    go (Some i) e w = among look.began.items (began i w) waiters
      where
        here : (x : Waiter) (o : Option ℕ) → slot_of commits x.txn ≡ o → x.slot == i ≡ true
            → option_map_or (λ k. k == x.slot) o false ≡ true → x.txn ≡ n
        here x None f is at = cc
        here x (Some k) f is at = slots-differ commits x.txn n i (f ∙ ap (λ m. Some m) (eqb-true k x.slot at ∙ eqb-true x.slot i is)) e

        among : (ws : List Waiter) → list_any (λ w. w.slot == i) ws ≡ true → list_all (λ w. is_in_slot commits w.txn w.slot) ws ≡ true
            → is_among n (map txn_of ws) ≡ true
        among [] f g = f
        among (x ∷ ws) f g = head (among ws) (x.slot == i) (is_in_slot commits x.txn x.slot) refl refl f g
          where
            head : (list_any (λ w. w.slot == i) ws ≡ true → list_all (λ w. is_in_slot commits w.txn w.slot) ws ≡ true
                → is_among n (map txn_of ws) ≡ true) → (a b : Bool) → x.slot == i ≡ a → is_in_slot commits x.txn x.slot ≡ b → (a || list_any
                (λ w. w.slot == i) ws) ≡ true → (b && list_all (λ w. is_in_slot commits w.txn w.slot) ws) ≡ true → (x.txn == n || is_among n
                (map txn_of ws)) ≡ true
            head ih true true is at f g = rw (here x (slot_of commits x.txn) refl is at, eq-eqb n n refl) refl
            head ih false true is at f g = rw (ih f g) (or-true (x.txn == n))
            head ih a false is at f g = cc

pub try-all : (look : Look) (commits : List Commit) (seen : ℕ → ℕ → Seen) (found : Option Found) → IsLook look commits seen
    → IsLeast found (λ n. option_and_then (λ c. kind_tried (is_among n (began_txns look)) c (seen n c)) (time_of commits n))
    → IsEnd found commits seen
try-all look commits seen found h f = least-same found _ _ (λ n. kinds n (time_of commits n) refl) f
  where
    drop-tried : (n c : ℕ) (o : Option ℕ) → (is_some o ≡ true → is_among n (began_txns look) ≡ true)
        → (is_among n (began_txns look) && option_map_or (λ since. nat_lt since (seen n c).safe && nat_le c (seen n c).floor) o false)
        ≡ option_map_or (λ since. nat_lt since (seen n c).safe && nat_le c (seen n c).floor) o false
    drop-tried n c None k = elim (is_among n (began_txns look)) as (λ b. (b && false) ≡ false) [ true ↦ refl | false ↦ refl ]
    drop-tried n c (Some x) k = rw (k refl) refl

    tried : (n c : ℕ) → time_of commits n ≡ Some c → (is_among n (began_txns look) && pends c (seen n c)) ≡ pends c (seen n c)
    tried n c e =
        let s : since_in commits look n ≡ (seen n c).since = h.since n ∙ ap (option_and_then (λ c. (seen n c).since)) e in
        drop-tried n c (seen n c).since (λ w. waits-among look commits h.began h.waiters n (ap (λ o. is_some o) s ∙ w))

    kinds : (n : ℕ) (o : Option ℕ) → time_of commits n ≡ o
        → option_and_then (λ c. kind_at_end c (seen n c)) o ≡ option_and_then (λ c. kind_tried (is_among n (began_txns look)) c (seen n c))
        o
    kinds n None e = refl
    kinds n (Some c) e =
        ap (λ b. kind_of (seen n c).differs (seen n c).undoes (seen n c).late (seen n c).aborted ((seen n c).straggles || b))
        (sym (tried n c e))

or-or : (s b p q : Bool) → (s || ((b || q) && p)) ≡ ((s || (b && p)) || (q && p))
or-or s b p q = grind arith

-- one more tried
pub try-more : (look : Look) (commits : List Commit) (seen : ℕ → ℕ → Seen) (found more : Option Found) (txn : ℕ) (tried after : List ℕ)
    → IsLook look commits seen
    → ((c : ℕ) → time_of commits txn ≡ Some c → IsLeastWith found (pends_in commits c look txn) txn Straggler more)
    → (time_of commits txn ≡ None → more ≡ found) → after ≡ tried ++ txn ∷ []
    → IsLeast found (λ n. option_and_then (λ c. kind_tried (is_among n tried) c (seen n c)) (time_of commits n))
    → IsLeast more (λ n. option_and_then (λ c. kind_tried (is_among n after) c (seen n c)) (time_of commits n))
try-more look commits seen found more txn tried after h step same is f = go (time_of commits txn) refl
  where
    before : ℕ → Option AgreeKind
    before n = option_and_then (λ c. kind_tried (is_among n tried) c (seen n c)) (time_of commits n)

    among : (n : ℕ) → is_among n after ≡ (is_among n tried || txn == n)
    among n = ap (is_among n) is ∙ list_any-append (λ m. m == n) tried (txn ∷ []) ∙ ap (λ b. is_among n tried || b) (or-false (txn == n))

    apart : (n : ℕ) (o : Option ℕ) → time_of commits n ≡ o → time_of commits txn ≡ None
        → option_and_then (λ c. kind_tried (is_among n after) c (seen n c)) o ≡ option_and_then
        (λ c. kind_tried (is_among n tried) c (seen n c)) o
    apart n None e none = refl
    apart n (Some c) e none = grind (arith, nat_tests, among n)

    with : (n x : ℕ) (o : Option ℕ) → time_of commits n ≡ o → time_of commits txn ≡ Some x
        → option_and_then (λ c. kind_tried (is_among n after) c (seen n c)) o
        ≡ (if pends_in commits x look txn then with_kind txn Straggler
        (λ n. option_and_then (λ c. kind_tried (is_among n tried) c (seen n c)) (time_of commits n)) n
        else option_and_then (λ c. kind_tried (is_among n tried) c (seen n c)) (time_of commits n))
    with n x None e some = grind (arith, nat_tests)
    with n x (Some c) e some = grind (
      arith,
      nat_tests,
      among n,
      pends-same look commits seen n c h e,
      or-or (seen n c).straggles (is_among n tried) (pends c (seen n c)) (txn == n),
      kind-straggles ((txn == n) && pends c (seen n c)) (seen n c).differs (seen n c).undoes (seen n c).late (seen n c).aborted
          ((seen n c).straggles || (is_among n tried && pends c (seen n c))),
    )

    go : (o : Option ℕ) → time_of commits txn ≡ o
        → IsLeast more (λ n. option_and_then (λ c. kind_tried (is_among n after) c (seen n c)) (time_of commits n))
    go None e = rw (same e) (least-same found _ _ (λ n. apart n (time_of commits n) refl e) f)
    go (Some x) e = least-same more _ _ (λ n. with n x (time_of commits n) refl e) (step x e _ f)

-- what a waiter's slot says holds of its transaction
pub waiter-pends : (look : Look) (commits : List Commit) (txn slot commit : ℕ) → slot_of commits txn ≡ Some slot
    → pends_at commit look slot ≡ pends_in commits commit look txn
waiter-pends look commits txn slot commit e = rw e refl

-- the waiter at i tried
pub try-waiter : (look : Look) (commits : List Commit) (seen : ℕ → ℕ
    → Seen) (found more : Option Found) (ws : List Waiter) (i : ℕ) (none :
    Waiter) → IsLook look commits seen → ws ≡ look.began.items → i < length ws
    → ((c : Commit) → slice_get commits (get_or ws i none).slot ≡ Some c
    → IsLeastWith found (pends_at c.time look (get_or ws i none).slot) (get_or ws i none).txn Straggler more)
    → IsLeast found (λ n. option_and_then (λ c. kind_tried (is_among n (map txn_of (take i ws))) c (seen n c)) (time_of commits n))
    → IsLeast more (λ n. option_and_then (λ c. kind_tried (is_among n (map txn_of (take (i + 1) ws))) c (seen n c)) (time_of commits n))
try-waiter look commits seen found more ws i none h same below step f =
    let w : Waiter = get_or ws i none in
    let at : slot_of commits w.txn ≡ Some w.slot =
    slot-at-item (λ (w : Waiter). w.txn) (λ w. w.slot) commits ws i none (rw same h.waiters) below in
    let k : w.slot < length commits = slot-below commits w.txn w.slot at in
    let d : Commit = record { txn = 0; time = 0; without = [] } in
    let get : slice_get commits w.slot ≡ Some (get_or commits w.slot d) = slice_get-get_or commits w.slot d k in
    let time : time_of commits w.txn ≡ Some (get_or commits w.slot d).time =
    time-at-slot commits w.txn w.slot (get_or commits w.slot d) at get in
    try-more look commits seen found more w.txn (map txn_of (take i ws)) (map txn_of (take (i + 1) ws)) h
    (λ c e. subst (λ p. IsLeastWith found p w.txn Straggler more) (waiter-pends look commits w.txn w.slot c at
    ∙ refl) (subst (λ t. IsLeastWith found (pends_at t look w.slot) w.txn Straggler more) (same_Some _ _ (sym time
    ∙ e)) (step (get_or commits w.slot d) get)))
    (λ e. absurd (none-some _ (sym e ∙ time)))
    (ap (map txn_of) (take_more ws i none below) ∙ map-append txn_of (take i ws) (w ∷ []))
    f
