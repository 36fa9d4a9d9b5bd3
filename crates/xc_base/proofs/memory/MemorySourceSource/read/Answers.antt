use Rattle.std.proofs.Common.{◌≡◌, ap}
use Rattle.xc_base.proofs.Giving.{gives_front, gives_none}
use Rattle.xc_base.specs.Calls.{SourceState}
use Rattle.xc_base.proofs.memory.MemorySourceSource.read.Goals as goal

pub returns-clause-bytes : goal.returns-clause-bytes
returns-clause-bytes c =
    let bytes = c.self.inside.bytes in
    let at = c.self.inside.at in
    let same : c.as_slice.result.now ≡ bytes = c.as_slice.ensures in (
      gives_front _ bytes _ at _ (ap (λ (s : SourceState). s.left) c.self.view_is) (rw same at c.give-count.ensures.front),
      λ none room. gives_none bytes at _ none (rw same at (c.give-count.ensures.end none room)),
    )
