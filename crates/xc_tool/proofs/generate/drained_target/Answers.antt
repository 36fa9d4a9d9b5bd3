use Rattle.std.proofs.Common.{◌≡◌, ◌∙◌, List, Some, ap, sym, subst, true}
use Rattle.std.proofs.lemmas.Option.{same_Some}
use Rattle.xc_logs.specs.Feed.{IsFeed, counts_of}
use Rattle.xc_record.specs.declared.record.Header.{Header}
use Rattle.xc_record.specs.declared.record.Logs.{Logs}
use Rattle.xc_record.specs.Valid.{headers_of, is_valid}
use Rattle.xc_target.specs.Stands.{StandsForSession}
use Rattle.xc_target.specs.Target.{FitsFeed}
use Rattle.xc_tool.proofs.Generated.{quarters, at_ends, stands-at-ends}
use Rattle.xc_tool.proofs.generate.drained_target.Goals as goal

pub new-requires-clause-bounds : goal.new-requires-clause-bounds
new-requires-clause-bounds c = quarters

pub drain-requires : goal.drain-requires
drain-requires c =
    let told = c.new-2.result.logs.now in
    let same : told ≡ c.args.logs.now = same_Some told c.args.logs.now c.new-2.ensures in
    let headers : c.deref.result.now ≡ headers_of told.tablets =
    c.deref.ensures.value ∙ c.in_ok-headers.ensures.headers ∙ ap (λ (l : Logs). headers_of l.tablets) (sym same) in
    let shape : IsFeed (headers_of told.tablets) (counts_of told) (Some told) = c.new-2.result.shape in
    record {
      fits = subst (λ (h : List Header). FitsFeed h (counts_of told) c.in_ok-target.target) headers
          (c.in_ok-target.ensures.fits (counts_of told) (Some told)
          (subst (λ (h : List Header). IsFeed h (counts_of told) (Some told)) (sym headers) shape));
    }

pub returns-in-Ok : goal.returns-in-Ok
returns-in-Ok c =
    let told = c.new-2.result.logs.now in
    let same : told ≡ c.args.logs.now = same_Some told c.args.logs.now c.new-2.ensures in
    let headers : headers_of told.tablets ≡ c.deref.result.now =
    ap (λ (l : Logs). headers_of l.tablets) same ∙ sym (c.deref.ensures.value ∙ c.in_ok-headers.ensures.headers) in
    let valid : is_valid told ≡ true = c.new-2.result.shape.told.valid in
    subst (λ l. StandsForSession l (at_ends l) c.drain.new.self) same
    (stands-at-ends told c.in_ok-target.target c.drain.new.self c.in-Ok.field-0.items valid
    (c.in_ok-target.ensures.stands told valid headers) c.in-Ok.ensures.drained)
