use Rattle.std.proofs.Common.{ap, ◌+◌, ◌∙◌, arith}
use Rattle.xc_agree.proofs.SplitLaws.{runs-count, run-here, run-within}
use Rattle.xc_agree.proofs.NoteLaws.{note-bound, note-more, noted-all, count-bound, tally-noted}
use Rattle.xc_agree.specs.Cases.{of_tablets}
use Rattle.xc_record.specs.Accepted.{accepted_tablets_after}
use Rattle.xc_logs.proofs.ValidFacts.{valid_parts}
use Rattle.std.specs.Prelude.{[]}
use Rattle.xc_agree.proofs.tally.note_commits.Goals as goal

pub bounds-runs-i : goal.bounds-runs-i
bounds-runs-i c =
    let k = runs-count c.args.runs.now (accepted_tablets_after [] c.args.tablets.now) c.args.tablets.now c.requires.runs in omega arith

pub accepted_part-requires : goal.accepted_part-requires
accepted_part-requires c =
    run-within c.index-runs-i.result _ c.index-tablets-i.result
    (run-here c.args.runs.now c.args.tablets.now c.loop-i.i c.index-runs-i.result c.index-tablets-i.result c.requires.runs
    c.loop-i-test.true c.index-tablets-i.is c.index-runs-i.is)

pub add_all-requires : goal.add_all-requires
add_all-requires c =
    note-bound c.args.tablets.now c.loop-i.i c.index-tablets-i.result c.index-runs-i.result c.loop-i.applies c.accepted_part.result.now
    (valid_parts (of_tablets c.args.tablets.now) c.requires.valid)
    c.loop-i-test.true c.index-tablets-i.is c.accepted_part.ensures c.loop-i.invariant

pub loop-i-preserved : goal.loop-i-preserved
loop-i-preserved c =
    note-more c.args.tablets.now c.loop-i.i c.index-tablets-i.result c.index-runs-i.result c.loop-i.applies c.add_all.new.self
    c.accepted_part.result.now
    (run-here c.args.runs.now c.args.tablets.now c.loop-i.i c.index-runs-i.result c.index-tablets-i.result c.requires.runs
    c.loop-i-test.true c.index-tablets-i.is
    c.index-runs-i.is) c.loop-i-test.true c.index-tablets-i.is c.accepted_part.ensures c.loop-i.invariant
    c.in_ok-add_all.ensures.items c.in_ok-add_all.ensures.writes

pub overflow_add-count : goal.overflow_add-count
overflow_add-count c =
    let noted = noted-all c.args.tablets.now c.loop-i.i c.loop-i.applies c.loop-i-test.false c.loop-i.invariant in
    let bound = count-bound c.args.tablets.now c.loop-i.applies c.len.result (valid_parts (of_tablets c.args.tablets.now) c.requires.valid)
    noted (c.len.ensures ∙ c.in_ok-commits.ensures.count) in
    omega arith

pub returns : goal.returns
returns c =
    tally-noted c.args.tablets.now c.loop-i.applies _
    (noted-all c.args.tablets.now c.loop-i.i c.loop-i.applies c.loop-i-test.false c.loop-i.invariant) c.in_ok-commits.ensures.times
    c.in_ok-commits.ensures.undone c.in_ok-commits.ensures.count
    (ap (λ k. c.loop-i.applies.writes + k) c.len.ensures)
