-- The tablets that the tests raise: a root that ends at 12, and its two children, which end at 20 and at 17.
use Rattle.std.specs.Prelude.{Some, None, List, [], ◌∷◌}
use Rattle.xc_board.specs.declared.tablet.WordState.TheVariants.{Waiting, At}
use Rattle.xc_board.specs.declared.tablet.BoardTablet.{BoardTablet}

abbrev pub split_tree : List BoardTablet
split_tree =
    record { parent = None; state = At 0; ends = 12 }
    ∷ record { parent = Some 0; state = Waiting; ends = 20 }
    ∷ record { parent = Some 0; state = Waiting; ends = 17 }
    ∷ []
