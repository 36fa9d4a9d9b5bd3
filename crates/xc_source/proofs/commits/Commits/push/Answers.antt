use Rattle.std.proofs.Common.{◌++◌, ◌∷◌, [], ◌∙◌, ap, subst, sym, List, map, rules, refl}
use Rattle.xc_source.specs.declared.commits.Place.{Place}
use Rattle.xc_source.specs.Listed.{AreCommits, commit_of}
use Rattle.xc_source.proofs.ListedLaws.{commits-kept, commits-same, commits-more, commits-put, place_of}
use Rattle.xc_source.proofs.commits.Commits.push.Goals as goal

pub invariant_of-self : goal.invariant_of-self
invariant_of-self c =
    commits-kept c.self.inside.places.items c.self.inside.ops c.append.new.to c.self.inside.count c.append.new.count
    c.in_err-append.ensures.kept c.in_err-append.ensures.counted c.self.invariant

pub returns-in_err-append-clause-err : goal.returns-in_err-append-clause-err
returns-in_err-append-clause-err c =
    let same = commits-same c.self.inside.places.items c.self.inside.ops c.append.new.to c.self.inside.count c.in_err-append.ensures.kept
    c.self.invariant ∙ c.self.view_is in
    search rules

pub invariant_of-self-in_err-push_place : goal.invariant_of-self-in_err-push_place
invariant_of-self-in_err-push_place c =
    subst (λ (ps : List Place). AreCommits ps c.append.new.to c.append.new.count) (sym c.in_err-push_place.ensures.err)
    (commits-kept c.self.inside.places.items c.self.inside.ops c.append.new.to c.self.inside.count c.append.new.count
    c.in_ok-append.ensures.kept c.in_ok-append.ensures.counted c.self.invariant)

pub returns-in_err-push_place-clause-err : goal.returns-in_err-push_place-clause-err
returns-in_err-push_place-clause-err c =
    let same = ap (map (commit_of c.append.new.to)) c.in_err-push_place.ensures.err
    ∙ commits-same c.self.inside.places.items c.self.inside.ops c.append.new.to c.self.inside.count c.in_ok-append.ensures.kept
    c.self.invariant ∙ c.self.view_is in
    search rules

pub invariant_of-self-2 : goal.invariant_of-self-2
invariant_of-self-2 c =
    let p = place_of c.args.time c.args.txn c.self.inside.count c.append.new.count in
    commits-more c.self.inside.places.items c.push_place.new.places.items p c.self.inside.ops c.append.new.to c.self.inside.count
    c.append.new.count c.in_ok-append.ensures.kept c.in_ok-append.ensures.counted c.in_ok-push_place.ensures.ok refl refl c.self.invariant

pub returns-clause-ok : goal.returns-clause-ok
returns-clause-ok c =
    let p = place_of c.args.time c.args.txn c.self.inside.count c.append.new.count in
    commits-put c.self.inside.places.items c.push_place.new.places.items p c.self.inside.ops c.append.new.to c.args.ops.now
    c.self.inside.count c.append.new.count c.in_ok-append.ensures.kept c.in_ok-append.ensures.ok c.in_ok-append.ensures.counted
    c.in_ok-push_place.ensures.ok refl refl c.self.invariant
    ∙ ap (λ cs. cs ++ record { time = c.args.time; txn = c.args.txn; ops = c.args.ops.now } ∷ []) c.self.view_is
