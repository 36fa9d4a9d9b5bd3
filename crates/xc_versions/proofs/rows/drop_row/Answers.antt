use Rattle.std.proofs.Common.{◌≡◌, ◌-◌, true, false, length, take, ap, sym, ◌∙◌, arith, vec_len}
use Rattle.std.proofs.lemmas.Grind.{common_steps}
use Rattle.std.specs.Prelude.{slice_get, is_some}
use Rattle.xc_versions.specs.RowsSeen.{is_row_of}
use Rattle.xc_versions.proofs.RowsSeenLaws.{last-row, without-row, no-row}
use Rattle.xc_versions.proofs.rows.drop_row.Goals as goal

pub returns-then-ends_at : goal.returns-then-ends_at
returns-then-ends_at c lesser at e below =
    let k = c.args.key.now in
    let seen : is_row_of k (slice_get c.args.rows.now.items (length c.args.rows.now.items - 1)) ≡ true =
    rw (← c.deref.ensures.value) (sym c.if-ends_at.ensures) in
    let there : is_some at ≡ true =
    sym (last-row k at lesser below) ∙ ap (λ rows. is_row_of k (slice_get rows (length rows - 1))) (sym e) ∙ seen in
    let long : vec_len c.args.rows.now ≡ length c.args.rows.now.items = grind (arith, common_steps) in
    c.pop.ensures.rest ∙ ap (λ n. take (n - 1) c.args.rows.now.items) long ∙ ap (λ rows. take (length rows - 1) rows) e
    ∙ without-row k at lesser there

pub returns-else-ends_at : goal.returns-else-ends_at
returns-else-ends_at c lesser at e below =
    let k = c.args.key.now in
    let seen : is_row_of k (slice_get c.args.rows.now.items (length c.args.rows.now.items - 1)) ≡ false =
    rw (← c.deref.ensures.value) (sym c.if-ends_at.ensures) in
    let there : is_some at ≡ false =
    sym (last-row k at lesser below) ∙ ap (λ rows. is_row_of k (slice_get rows (length rows - 1))) (sym e) ∙ seen in
    e ∙ no-row k at lesser there
