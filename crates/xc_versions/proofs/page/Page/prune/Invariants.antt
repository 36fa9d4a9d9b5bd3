use Rattle.std.proofs.Common.{◌≡◌, map, deque_capacity}
use Rattle.std.specs.Prelude.{option_map, IfSome}
use Rattle.std.specs.List.{AllByRecursion}
use Rattle.xc_versions.specs.Slots.{seen}
use Rattle.xc_versions.specs.Heads.{IsSlot}
use Rattle.xc_versions.specs.Pages.{held, capacity_of}
use Rattle.xc_versions.proofs.PruneLaws.{Going}
use Rattle.xc_versions.proofs.page.Page.prune.Given as goal

abbrev pub invariant-loop-i : goal.invariant-loop-i
invariant-loop-i l = record {
  going : Going l.cutoff (option_map (seen l.bytes) l.fn.next) (held l.bytes l.fn.self) (map (seen l.bytes) l.body.items.items)
      (option_map (seen l.bytes) l.behind) l.due l.i;
  slots : AllByRecursion (IsSlot l.bytes) l.body.items.items;
  behind : IfSome l.behind (IsSlot l.bytes);
  capacity : deque_capacity l.body.items ≡ capacity_of l.fn.self;
}

abbrev pub decreases-loop-i : goal.decreases-loop-i
decreases-loop-i l = l.i
