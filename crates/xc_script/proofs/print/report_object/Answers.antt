use Rattle.std.specs.Prelude.{Result, Ok, Err, IfOk}
use Rattle.xc_script.proofs.ReportLaws.{report_is}
use Rattle.xc_script.proofs.print.report_object.Goals as goal

on_ok : {T E : Type 0} (r : Result T E) (P Q : T → Type 0) → ((x : T) → P x → Q x) → IfOk r P → IfOk r Q
on_ok (Ok x) P Q f h = f x h
on_ok (Err e) P Q f h = tt

pub returns : goal.returns
returns c =
    on_ok c.to_string.result _ _
    (λ s. report_is _ _ _ _ _ c.args.acks.now c.args.closed c.args.cursors.now c.args.cutoff c.args.places.now c.args.safe
    c.in_ok-object.ensures c.in_ok-acks.ensures c.in_ok-cursors.ensures c.in_ok-places.ensures)
    c.to_string.ensures.text
