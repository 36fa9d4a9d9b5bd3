use Rattle.std.proofs.Common.{◌≡◌, ◌+◌, true, false, Bool, length, Some, None, refl, ap, sym, ◌∙◌, arith}
use Rattle.std.specs.List.{find}
use Rattle.std.specs.Option.{option_map}
use Rattle.xc_record.specs.Lists.{has}
use Rattle.xc_record.specs.Kept.{KeyWaiting}
use Rattle.xc_intents.specs.declared.held.Held.{Held}
use Rattle.xc_intents.specs.HeldOps.{HeldOps, is_sought, given, without_first}
use Rattle.xc_intents.proofs.IntentLaws.{without_first-none, length-without_first}
use Rattle.xc_versions.proofs.VersionLaws.{new-last}
use Rattle.xc_versions.specs.Stored.{stored, with_version}
use Rattle.xc_tablet.specs.declared.contents.Contents.{Contents}
use Rattle.xc_tablet.proofs.ContentsLaws.{last-of_counted}
use Rattle.xc_tablet.proofs.ApplyLaws.{found, not-found, taken-kept, taken-dropped, taken-inside, alike-same}
use Rattle.xc_tablet.proofs.contents.Contents.apply_next.Goals as goal

-- ---- none was left

none : (c : goal.In_default) → find (is_sought c.args.self.now.held.sought) c.args.self.now.held.held ≡ None
none c = not-found _ (sym (c.in_default.ensures ∙ c.take_next.ensures.taken))

none-left : (c : goal.In_default) → c.take_next.new.self.held ≡ c.args.self.now.held.held
none-left c =
    c.take_next.ensures.left ∙ without_first-none (is_sought c.args.self.now.held.sought) c.args.self.now.held.held (none c)

pub returns-in_default-clause-left : goal.returns-in_default-clause-left
returns-in_default-clause-left c = λ lo hi _.
    alike-same c.args.txn c.args.commit c.args.without.now lo hi c.args.self.now _ c.requires.is refl (none-left c)

pub returns-in_default-clause-settles : goal.returns-in_default-clause-settles
returns-in_default-clause-settles c =
    let same = ap length (none-left c) in
    let room = c.take_next.ensures.room in
    record { next = omega arith; fewer = omega arith; versions = omega arith; held = room }

pub returns-in_default-clause-done : goal.returns-in_default-clause-done
returns-in_default-clause-done c = λ _.
    ap (λ s. find (is_sought s) c.take_next.new.self.held) c.take_next.ensures.sought
    ∙ ap (find (is_sought c.args.self.now.held.sought)) (none-left c) ∙ none c

-- ---- one was

fewer : (p : KeyWaiting → Bool) (s : Contents) (new : HeldOps) (h : Held) → Some h ≡ option_map given (find p s.held.held)
    → new.held ≡ without_first p s.held.held → length new.held + 1 ≡ length s.held.held
fewer p s new h e left =
    let f = found _ h (sym e) in ap (λ hs. length hs + 1) left ∙ length-without_first p s.held.held f.0 f.1.0

pub returns-then-contains-clause-left : goal.returns-then-contains-clause-left
returns-then-contains-clause-left c = λ lo hi sought.
    let s = c.args.self.now in
    let f = found _ c.in-Some.held (sym (c.in-Some.ensures ∙ c.take_next.ensures.taken)) in
    let e : has f.0.sub c.args.without.now ≡ true =
    ap (λ (h : Held). has h.sub c.args.without.now) f.1.1 ∙ sym c.contains.ensures ∙ c.if-contains.true in
    taken-dropped c.args.txn c.args.commit c.args.without.now lo hi s _ f.0 c.requires.is
    (ap (λ w. find (is_sought w) s.held.held) (sym sought) ∙ f.1.0)
    (c.take_next.ensures.left ∙ ap (λ w. without_first (is_sought w) s.held.held) sought) e refl

pub returns-then-contains-clause-settles : goal.returns-then-contains-clause-settles
returns-then-contains-clause-settles c =
    let less = fewer (is_sought c.args.self.now.held.sought) c.args.self.now c.take_next.new.self c.in-Some.held
    (c.in-Some.ensures ∙ c.take_next.ensures.taken) c.take_next.ensures.left in
    let room = c.take_next.ensures.room in
    record { next = omega arith; fewer = omega arith; versions = omega arith; held = room }

pub returns-then-contains-clause-one : goal.returns-then-contains-clause-one
returns-then-contains-clause-one c = λ _.
    let less = fewer (is_sought c.args.self.now.held.sought) c.args.self.now c.take_next.new.self c.in-Some.held
    (c.in-Some.ensures ∙ c.take_next.ensures.taken) c.take_next.ensures.left in
    omega arith

pub add-requires-clause-fresh : goal.add-requires-clause-fresh
add-requires-clause-fresh c =
    let s = c.args.self.now in
    let v = stored c.in-Some.held.op.key c.args.commit c.args.txn s.next c.in-Some.held.op.value in
    new-last v s.versions.items (last-of_counted v s.versions.items c.requires.is.counted)

pub returns-clause-left : goal.returns-clause-left
returns-clause-left c = λ lo hi sought.
    let s = c.args.self.now in
    let f = found _ c.in-Some.held (sym (c.in-Some.ensures ∙ c.take_next.ensures.taken)) in
    let first = ap (λ w. find (is_sought w) s.held.held) (sym sought) ∙ f.1.0 in
    let e : has f.0.sub c.args.without.now ≡ false =
    ap (λ (h : Held). has h.sub c.args.without.now) f.1.1 ∙ sym c.contains.ensures ∙ c.if-contains.false in
    taken-kept c.args.txn c.args.commit c.args.without.now lo hi s _ f.0 c.requires.is first
    (c.take_next.ensures.left ∙ ap (λ w. without_first (is_sought w) s.held.held) sought) e
    (record {
      range = (refl, refl);
      inside = taken-inside c.args.txn lo hi s f.0 c.requires.is first;
      at = refl;
      items = c.add.ensures.items
          ∙ ap (λ (h : Held). with_version (stored h.op.key c.args.commit c.args.txn s.next h.op.value) s.versions.items) (sym f.1.1);
      next = refl;
    })

pub returns-clause-settles : goal.returns-clause-settles
returns-clause-settles c =
    let less = fewer (is_sought c.args.self.now.held.sought) c.args.self.now c.take_next.new.self c.in-Some.held
    (c.in-Some.ensures ∙ c.take_next.ensures.taken) c.take_next.ensures.left in
    let room = c.take_next.ensures.room in
    let more = c.add.ensures.spare in
    record { next = omega arith; fewer = omega arith; versions = omega arith; held = room }

pub returns-clause-one : goal.returns-clause-one
returns-clause-one c = λ _.
    let less = fewer (is_sought c.args.self.now.held.sought) c.args.self.now c.take_next.new.self c.in-Some.held
    (c.in-Some.ensures ∙ c.take_next.ensures.taken) c.take_next.ensures.left in
    omega arith
