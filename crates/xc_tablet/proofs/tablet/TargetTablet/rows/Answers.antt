use Rattle.std.proofs.Common.{◌≡◌, ℕ, ◌≤◌, List, None, ap, ◌∙◌}
use Rattle.std.specs.Ordering.{nat_cmp}
use Rattle.std.specs.Cmp.Lexicographic.{slice_cmp}
use Rattle.std.specs.FinMap.Entries.{where_key}
use Rattle.xc_record.specs.declared.record.Logs.{Logs}
use Rattle.xc_record.specs.Agreement.{disagreement}
use Rattle.xc_record.specs.Rows.{rows}
use Rattle.xc_model.specs.Stands.{StandsFor, in_range, covers, rows_shown}
use Rattle.xc_model.proofs.ListLaw.{reads-show-lists}
use Rattle.xc_tablet.specs.State.{seen}
use Rattle.xc_tablet.proofs.TabletLaws.{if_ok-map}
use Rattle.xc_tablet.proofs.tablet.TargetTablet.rows.Goals as goal

pub returns-clause-shows : goal.returns-clause-shows
returns-clause-shows c =
    let x = c.args.self.now in
    if_ok-map (λ (shown : List (List ℕ × List ℕ)). shown ≡ rows_shown c.args.t (seen c.self.inside.state))
    (λ (shown : List (List ℕ × List ℕ)). (logs : Logs) (u : ℕ) → StandsFor logs u x → disagreement logs ≡ None → u ≤ c.args.t → c.args.t ≤
    covers logs x → shown ≡ where_key (slice_cmp nat_cmp) (in_range x) (rows logs c.args.t))
    c.rows.result
    (λ shown e logs u stands agree from to. e ∙ ap (rows_shown c.args.t) c.self.view_is
    ∙ reads-show-lists logs x u c.args.t stands agree from to)
    c.rows.ensures.rows
