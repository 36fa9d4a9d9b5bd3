use Rattle.std.proofs.Common.{rules}
use Rattle.xc_target.proofs.MoveLaws.{seen, poller-read, is-acknowledged, keeps-placed}
use Rattle.xc_target.proofs.target.Target.acknowledge.Goals as goal

pub returns-clause-step : goal.returns-clause-step
returns-clause-step c = λ logs m is st.
    is-acknowledged (seen c.self.inside) c.args.self.now c.args.id _ c.acknowledge.new.self c.self.view_is (search rules) c.requires
    c.index_mut-poller.ensures.value logs m st c.acknowledge.result c.acknowledge.ensures.answer c.acknowledge.ensures.confirmed

pub returns-clause-keeps : goal.returns-clause-keeps
returns-clause-keeps c =
    keeps-placed (seen c.self.inside) c.args.self.now c.args.id c.index_mut-poller.result.now c.acknowledge.new.self _ _ c.self.view_is
    (poller-read (seen c.self.inside) c.args.self.now c.args.id _ c.self.view_is c.requires c.index_mut-poller.ensures.value)
    c.acknowledge.ensures.confirmed c.acknowledge.ensures.fits
