use Rattle.std.proofs.Common.{◌≡◌, length, rules}
use Rattle.xc_record.specs.declared.session.PollAnswer.TheVariants as poll
use Rattle.xc_poller.specs.Poller.{done}
use Rattle.xc_poller.specs.Polled.{Took, TookFirst}
use Rattle.xc_tablet.proofs.Zips.{zip-all}
use Rattle.xc_poller.proofs.poller.Poller.give.Goals as goal

pub returns-in_ok-deliver_first-in-Batch : goal.returns-in_ok-deliver_first-in-Batch
returns-in_ok-deliver_first-in-Batch c =
    let id = c.args.self.now.header.id in
    let from = c.in-Batch.batch.from in
    let rs = c.in-Batch.batch.records in
    let took : TookFirst id from rs (length c.args.tablets.now) c.args.tablets.now c.deliver_first.new.tablets = search rules in
    let size : poll.Polled (length c.as_slice.result.now) ≡ poll.Polled (length rs) = search rules in
    let past : c.done.new.self ≡ done rs c.args.self.now = search rules in
    record {
      given = rw c.in-Batch.is
          (size, (past, zip-all (Took id from rs) c.args.tablets.now c.deliver_first.new.tablets took.first took.rest));
    }
