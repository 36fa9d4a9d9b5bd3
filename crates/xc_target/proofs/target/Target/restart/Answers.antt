use Rattle.std.proofs.Common.{rules}
use Rattle.xc_target.proofs.MoveLaws.{seen, poller-read, is-restarted, keeps-placed}
use Rattle.xc_target.proofs.target.Target.restart.Goals as goal

pub returns-clause-step : goal.returns-clause-step
returns-clause-step c = λ logs m is st.
    is-restarted (seen c.self.inside) c.args.self.now c.args.id _ c.restart.new.self c.self.view_is (search rules) c.requires
    c.index_mut-poller.ensures.value logs m st c.restart.result c.restart.ensures.answer c.restart.ensures.restarted

pub returns-clause-keeps : goal.returns-clause-keeps
returns-clause-keeps c =
    keeps-placed (seen c.self.inside) c.args.self.now c.args.id c.index_mut-poller.result.now c.restart.new.self _ _ c.self.view_is
    (poller-read (seen c.self.inside) c.args.self.now c.args.id _ c.self.view_is c.requires c.index_mut-poller.ensures.value)
    c.restart.ensures.restarted c.restart.ensures.fits
