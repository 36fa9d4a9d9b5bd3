use Rattle.std.proofs.Common.{◌≡◌, ◌+◌, ◌<◌, List, [], ◌∷◌, length, ap, arith, ℕ, get_or}
use Rattle.std.specs.Prelude.{slice_index, slice_set}
use Rattle.std.proofs.lemmas.List.{get_or_read}
use Rattle.std.specs.Vec.{with_item}
use Rattle.xc_record.specs.Headers.{children}
use Rattle.xc_tablet.proofs.StateLaws.{After, few-at_all, few-of_header, header-within, place-within, kept-first, taken-in, ready-after}
use Rattle.xc_tablet.proofs.state.State.take_in.Goals as goal
use Rattle.xc_tablet.proofs.state.State.take_in.Goals.{After-self-1}

read : (xs : List ℕ) (i x : ℕ) → i < length xs → x ≡ get_or xs i x → x ≡ slice_index xs i
read xs i x h e = get_or_read xs i x h e 0

pub take-requires-clause-next : goal.take-requires-clause-next
take-requires-clause-next c =
    let s = c.args.self.now in
    let a = few-at_all s c.requires.is in
    let b = few-of_header c.args.header.now (children s.floor.headers c.args.id) c.args.item.now.kind
    (kept-first c.args.id c.args.header.now c.args.item.now [] s c.requires) in
    omega arith

pub take_floor-requires-clause-is_tablet : goal.take_floor-requires-clause-is_tablet
take_floor-requires-clause-is_tablet c = header-within c.args.id c.args.header.now (c.args.item.now ∷ []) c.args.self.now c.requires

pub index_mut-requires : goal.index_mut-requires
index_mut-requires c =
    let a = header-within c.args.id c.args.header.now (c.args.item.now ∷ []) c.args.self.now c.requires in
    let b = c.requires.is.count in
    omega (arith, c.args.self.now.places.ok.0)

pub overflow_add-index_mut : goal.overflow_add-index_mut
overflow_add-index_mut c =
    let x = c.requires.short in
    let y = read c.args.self.now.places.items c.args.id c.index_mut.result.now
    (place-within c.args.id c.args.header.now (c.args.item.now ∷ []) c.args.self.now c.requires) c.index_mut.ensures.value in
    omega arith

-- the parts after the record
after : (c : After-self-1)
    → After c.args.id c.args.header.now c.args.item.now c.args.self.now
    (record {
      contents = c.take.new.self;
      places = with_item c.args.self.now.places c.args.id (c.index_mut.result.now + 1);
      floor =
          c.take_floor.new.floor;
    })
after c = record {
  contents = c.take.ensures.changes;
  places = ap (λ n. slice_set c.args.self.now.places.items c.args.id (n + 1))
      (read c.args.self.now.places.items c.args.id c.index_mut.result.now
      (place-within c.args.id c.args.header.now (c.args.item.now ∷ []) c.args.self.now c.requires) c.index_mut.ensures.value);
  floor = c.take_floor.ensures;
  next = c.take.ensures.next;
}

pub returns-clause-taken : goal.returns-clause-taken
returns-clause-taken c = taken-in c.args.id c.args.header.now c.args.item.now c.args.self.now _ c.requires.header (after c)

pub returns-clause-ready : goal.returns-clause-ready
returns-clause-ready c =
    λ rs ready. ready-after c.args.id c.args.header.now c.args.item.now rs c.args.self.now _ ready (after c) (c.take.ensures.room rs)
