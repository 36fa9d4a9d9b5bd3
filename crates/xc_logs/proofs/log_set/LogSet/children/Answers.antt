use Rattle.xc_record.specs.Headers.{children}
use Rattle.xc_record.specs.Valid.{headers_of}
use Rattle.xc_logs.proofs.HeaderFacts.{pairs, none_named}
use Rattle.xc_logs.proofs.ValidFacts.{valid_parts}
use Rattle.xc_logs.proofs.log_set.LogSet.children.Goals as goal

pub returns-clause-none : goal.returns-clause-none
returns-clause-none c =
    none_named c.args.id (headers_of c.args.self.now.tablets) (children (headers_of c.args.self.now.tablets) c.args.id) _
    (pairs _ c.args.id (valid_parts _ c.tablets.ensures.valid).fit) (rw c.tablets.ensures.tablets at c.child_ids.ensures)
