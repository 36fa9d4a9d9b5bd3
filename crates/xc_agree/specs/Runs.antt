-- Words on how far the records of the tablets are accepted.
--     start_from runs parent      where a tablet of this parent begins, after the runs of the tablets before it
--     IsRun run b t      the run says what the accepted tablet b of the tablet t says
--     IsRuns runs bs ts      the same, one for each tablet
--     end_from run      the end that the run says
use Rattle.std.specs.Prelude.{◌≡◌, ℕ, true, false, List, [], ◌∷◌, Option, Some, None, ◌&&◌, if◌then◌else◌, slice_get, length, take}
use Rattle.std.specs.Prelude.{option_map}
use Rattle.std.specs.Option.{option_map_or}
use Rattle.xc_record.specs.declared.record.Tablet.{Tablet}
use Rattle.xc_record.specs.Order.{Progress}
use Rattle.xc_record.specs.Accepted.{AcceptedTablet, root_start, halt_from}
use Rattle.xc_agree.specs.declared.audit.End.{End}
use Rattle.xc_agree.specs.declared.audit.EndState.{EndState}
use Rattle.xc_agree.specs.declared.audit.EndState.TheVariants.{Open, Split, Halt as Halted, Unreached}
use Rattle.xc_order.specs.declared.walk.Halt.{Halt}
use Rattle.xc_order.specs.Walks.{halt_at}
use Rattle.xc_agree.specs.declared.run.Start.{Start}
use Rattle.xc_agree.specs.declared.run.Run.{Run}

abbrev pub child_from : Run → Start
child_from run = record {
  reached = run.reached && run.walk.order.split;
  order = record { floor = run.walk.order.floor; last = run.walk.order.last; split = false };
}

abbrev pub start_from : List Run → Option ℕ → Start
start_from runs None = record { reached = true; order = root_start }
start_from runs (Some parent) = option_map_or child_from (slice_get runs parent) (record { reached = false; order = root_start })

pub record IsRun (run : Run) (b : AcceptedTablet) (t : Tablet) : Type 0 where
  pub header : b.header ≡ t.header
  pub reached : run.reached ≡ b.reached
  pub order : run.walk.order ≡ b.end
  pub accepted : run.walk.accepted ≡ length b.records
  pub records : b.records ≡ take run.walk.accepted t.records
  pub halt : option_map halt_at run.walk.halt ≡ (if b.reached then halt_from b.start 1 t.records else None)

abbrev pub IsRuns : List Run → List AcceptedTablet → List Tablet → Type 0
IsRuns [] [] [] = Unit {0}
IsRuns (run ∷ runs) (b ∷ bs) (t ∷ ts) = IsRun run b t × IsRuns runs bs ts
IsRuns _ _ _ = ⊥

abbrev pub halt_state : Progress → Option Halt → EndState
halt_state end (Some h) = Halted h.number h.kind
halt_state end None = if end.split then Split else Open

abbrev pub end_from : Run → End
end_from run = record {
  accepted = run.walk.accepted;
  floor = run.walk.order.floor;
  state = if run.reached then halt_state run.walk.order run.walk.halt else Unreached;
}
