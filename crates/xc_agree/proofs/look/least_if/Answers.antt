use Rattle.xc_agree.proofs.look.least_if.Goals as goal

pub returns-then-stands : goal.returns-then-stands
returns-then-stands c = λ kinds h. rw c.if-stands.true (c.least.ensures kinds h)

pub returns-else-stands : goal.returns-else-stands
returns-else-stands c = λ kinds h. rw c.if-stands.false h
