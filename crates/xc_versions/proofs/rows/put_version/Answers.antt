use Rattle.std.proofs.Common.{◌≡◌, ℕ, List, ◌++◌, ◌∷◌, [], append-nil, ap, sym, subst, ◌∙◌}
use Rattle.xc_record.specs.Path.{Written}
use Rattle.xc_record.specs.Rows.{put_row}
use Rattle.xc_versions.specs.RowsSeen.{row_of, Under}
use Rattle.xc_versions.proofs.RowsSeenLaws.{put_row-under}
use Rattle.xc_versions.proofs.rows.put_version.Goals as goal

-- the key and the value that were read
as-read : (rows : List (List ℕ × List ℕ)) (k q : List ℕ) (v w : Written) → k ≡ q → v ≡ w → put_row k v rows ≡ put_row q w rows
as-read rows k q v w e f = ap (λ n. put_row n v rows) e ∙ ap (λ n. put_row q n rows) f

pub returns-in_ok-push : goal.returns-in_ok-push
returns-in_ok-push c =
    let rows = c.args.rows.now.items in
    let k = c.key-key.result in
    let v = c.value_of.result in
    let u = subst (λ (q : List ℕ). Under rows q) (sym c.key-key.ensures) c.requires.under in
    let left = c.drop_row.ensures u.lesser u.at u.is u.below in
    c.in_ok-push.ensures.items ∙ ap (λ rows. rows ++ (k, c.in-Some.value) ∷ []) left ∙ ap (λ v. u.lesser ++ row_of k v) (sym c.in-Some.is)
    ∙ sym (put_row-under k v rows u) ∙ as-read rows k _ v _ c.key-key.ensures c.value_of.ensures

pub returns-in_default : goal.returns-in_default
returns-in_default c =
    let rows = c.args.rows.now.items in
    let k = c.key-key.result in
    let v = c.value_of.result in
    let u = subst (λ (q : List ℕ). Under rows q) (sym c.key-key.ensures) c.requires.under in
    let left = c.drop_row.ensures u.lesser u.at u.is u.below in
    left ∙ sym (append-nil u.lesser) ∙ ap (λ v. u.lesser ++ row_of k v) (sym c.in_default.is)
    ∙ sym (put_row-under k v rows u) ∙ as-read rows k _ v _ c.key-key.ensures c.value_of.ensures
