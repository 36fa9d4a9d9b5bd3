-- Facts of the tablets of a board.
use Rattle.std.proofs.Common.{◌≡◌, ℕ, zero, suc, ◌<◌, ◌≤◌, Option, Some, None, List, [], ◌∷◌, length, refl, ap, arith, zero-le}
use Rattle.xc_board.specs.declared.tablet.BoardTablet.{BoardTablet}
use Rattle.xc_board.specs.Tree.{parent_of, ends_of, start_of, start_under, IsTree}

-- what has a parent is a tablet
pub child_inside : (ts : List BoardTablet) (i p : ℕ) → parent_of ts i ≡ Some p → i < length ts
child_inside [] i p e = absurd (cc)
child_inside (t ∷ ts) zero p e = omega arith
child_inside (t ∷ ts) (suc i) p e = let r = child_inside ts i p e in omega arith

under_le-ends : (ts : List BoardTablet) → IsTree ts → (i : ℕ) (o : Option ℕ) → parent_of ts i ≡ o → start_under ts o ≤ ends_of ts i
under_le-ends ts tree i None e = zero-le
under_le-ends ts tree i (Some p) e = tree.rises i p e

-- a tablet doesn't end before it starts
pub start_le-ends : (ts : List BoardTablet) → IsTree ts → (i : ℕ) → start_of ts i ≤ ends_of ts i
start_le-ends ts tree i = under_le-ends ts tree i (parent_of ts i) refl

pub start_of-child : (ts : List BoardTablet) (i p : ℕ) → parent_of ts i ≡ Some p → start_of ts i ≡ ends_of ts p
start_of-child ts i p e = ap (start_under ts) e
