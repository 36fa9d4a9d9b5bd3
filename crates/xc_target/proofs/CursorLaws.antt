-- A poll that delivers moves its cursor on, whatever the feed tells.
use Rattle.std.proofs.Common.{◌≡◌, ℕ, ◌+◌, ◌≤◌, true, false, cond, List, length, Option, Some, Result, Ok, ap, sym, ◌∙◌, subst, arith}
use Rattle.std.proofs.Common.{zero-add, ⊎_elim}
use Rattle.std.specs.Prelude.{slice_get, slice_index, slice_set}
use Rattle.std.specs.List.{AllZip}
use Rattle.std.specs.Option.{option_map, option_map_or}
use Rattle.std.proofs.lemmas.Bool.{cases_Bool}
use Rattle.std.proofs.lemmas.Option.{slice_get-map}
use Rattle.xc_record.specs.declared.record.Header.{Header}
use Rattle.xc_record.specs.declared.record.Logs.{Logs}
use Rattle.xc_record.specs.declared.session.PollAnswer.{PollAnswer}
use Rattle.xc_record.specs.declared.session.PollAnswer.TheVariants as poll
use Rattle.xc_record.specs.Headers.{is_child_of}
use Rattle.xc_record.specs.Session.{Position}
use Rattle.xc_record.proofs.HeaderLaws.{Numbered-at}
use Rattle.xc_model.specs.Stands.{TargetTablet}
use Rattle.xc_model.proofs.Parents.{each-get}
use Rattle.xc_logs.specs.Feed.{IsFeed}
use Rattle.xc_change.specs.declared.batch.NextFail.{NextFail}
use Rattle.xc_poller.specs.Poller.{PollerState, done, opened, before_first}
use Rattle.xc_poller.specs.Polled.{IsPolled as PollerPolled}
use Rattle.xc_target.specs.Target.{TargetState, Opens, opened_by, FitsFeed}
use Rattle.xc_target.specs.Answers.{cursor_at, MovesOn}
use Rattle.xc_target.proofs.MoveLaws.{get-set-here}
use Rattle.xc_target.proofs.NewLaws.{numbered-headers}
use Rattle.xc_target.proofs.PollFacts.{IsIdle, Delivered, delivered}
use Rattle.xc_target.proofs.PollFits.{opens-all}
use Rattle.xc_target.proofs.PollSteps.{Called}

-- the reader of the poller of this number is of the source tablet of this number
reader-is : (hs : List Header) (cs : List ℕ) (o : Option Logs) (t : TargetState) (id : ℕ) (p : PollerState)
    → IsFeed hs cs o → FitsFeed hs cs t → slice_get t.pollers id ≡ Some p → p.reader.id ≡ id
reader-is hs cs o t id p feed f at =
    let there : slice_get hs id ≡ Some p.header =
    ap (λ w. slice_get w id) (sym f.headers_are) ∙ slice_get-map (λ (p : PollerState). p.header) t.pollers id
    ∙ ap (option_map (λ (p : PollerState). p.header)) at in
    each-get (λ (p : PollerState). p.reader.id ≡ p.header.id) t.pollers id p f.numbers at
    ∙ Numbered-at 0 hs id p.header (numbered-headers hs feed.fit) there ∙ zero-add id

cursor-at : (t : TargetState) (id : ℕ) (p : PollerState) → slice_get t.pollers id ≡ Some p → cursor_at t id ≡ p.reader.cursor
cursor-at t id p at = ap (λ o. option_map_or (λ (p : PollerState). p.reader.cursor) o 0) at

-- an open poller stays as it is
open-stays : (q r : PollerState) → r.is_open ≡ true → opened_by q r ≡ r
open-stays q r is_open = ⊎_elim
    (λ c. ap (λ b. cond b (opened q r) r) c
    ∙ ap (λ b. cond b r (before_first r.header (record q.reader.order { split = false }) q.floor true)) is_open)
    (λ f. ap (λ b. cond b (opened q r) r) f) (cases_Bool (is_child_of q.header.id r.header))

module _ (hs : List Header) (cs : List ℕ) (o : Option Logs) (n id k : ℕ) (t : TargetState) (p q : PollerState)
    (xs ys : List TargetTablet) (r : Result PollAnswer NextFail) (is : r ≡ Ok (poll.Polled k)) (called : Called hs cs o n id t p q ys r)
    (same : xs ≡ t.tablets) (polled : PollerPolled hs cs n p q xs ys r) (feed : IsFeed hs cs o) (f : FitsFeed hs cs t) where
  c : Called hs cs o n id t p q ys (Ok (poll.Polled k))
  c = subst (Called hs cs o n id t p q ys) is called

  h : PollerPolled hs cs n p q t.tablets ys (Ok (poll.Polled k))
  h = subst (PollerPolled hs cs n p q t.tablets ys) is (subst (λ w. PollerPolled hs cs n p q w ys r) same polled)

  came : Delivered p q k t.tablets ys
  came = delivered hs cs n k p q t.tablets ys h

  some : 1 ≤ k
  some =
      let count = h.1.1.1.0 in
      let most = h.1.1.0.given.some in
      omega arith

  within : q.reader.cursor ≤ slice_index cs id
  within =
      let mv = h.1.1.0 in
      let looked : PollerState = h.0 in
      let batch = h.1.0 in
      let new : q ≡ done batch.records looked = h.1.1.1.1.0 in
      let cursor : q.reader.cursor ≡ looked.reader.cursor + length batch.records = ap (λ (p : PollerState). p.reader.cursor) new in
      let stays : looked.reader.cursor ≡ p.reader.cursor = mv.reader.reader.cursor in
      let checked : q.reader.checked ≡ looked.reader.checked = ap (λ (p : PollerState). p.reader.checked) new in
      let far : p.reader.cursor + length batch.records ≤ looked.reader.checked = mv.given.checked in
      let all : q.reader.checked ≤ slice_index cs id =
      subst (λ (i : ℕ). q.reader.checked ≤ slice_index cs i)
      (came.kept.reader ∙ reader-is hs cs o t id p feed f c.at) c.can.reader.within in
      omega arith

  pub moves-there : (new : TargetState) → slice_get new.pollers id ≡ Some q → MovesOn cs id t new (poll.Polled k)
  moves-there new there =
      let before = cursor-at t id p c.at in
      let after = cursor-at new id q there in
      let to : q.reader.cursor ≡ p.reader.cursor + k =
      ap (λ (w : Position). w.cursor) came.position in
      let most = within in
      (some, (omega arith, omega arith))

  -- also where its children were opened
  pub opened-there : (rs : List PollerState) → AllZip (Opens q) (slice_set t.pollers id q) rs → slice_get rs id ≡ Some q
  opened-there rs z =
      ap (λ w. slice_get w id) (opens-all q (slice_set t.pollers id q) rs z)
      ∙ slice_get-map (opened_by q) (slice_set t.pollers id q) id
      ∙ ap (option_map (opened_by q)) (get-set-here t.pollers id p q c.at)
      ∙ ap Some (open-stays q q (came.kept.is_open ∙ came.was_open))

-- nothing was delivered
pub moves-idle : (cs : List ℕ) (id : ℕ) (old new : TargetState) (a : PollAnswer) → IsIdle (Ok a) → MovesOn cs id old new a
moves-idle cs id old new (poll.Polled k) i = absurd i
moves-idle cs id old new (poll.Waits parent) i = tt
moves-idle cs id old new poll.AtEnd i = tt
moves-idle cs id old new (poll.Halted number kind) i = tt
