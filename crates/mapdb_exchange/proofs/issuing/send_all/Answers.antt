use Rattle.std.proofs.Common.{◌∙◌, arith, get_or}
use Rattle.std.proofs.lemmas.List.{length-set}
use Rattle.mapdb_exchange.specs.Ends.{Sending}
use Rattle.mapdb_exchange.proofs.Finished.{same_links, same_sent}
use Rattle.mapdb_exchange.proofs.issuing.send_all.Goals as goal

pub loop-at-preserved : goal.loop-at-preserved
loop-at-preserved g c =
    let old : Sending = get_or c.loop-at.links c.loop-at.at c.index-links-at.result in
    let sent = same_sent c.send.new.self old c.send.ensures.from c.send.ensures.to c.send.ensures.link in
    record {
      same = same_links c.loop-at.links c.loop-at.at c.send.new.self c.index-links-at.result (omega (arith, c.loop-at-test.true, c.loop-at.invariant.count, c.loop-at.auto.links, c.loop-at.auto.at-end)) sent ∙ c.loop-at.invariant.same;
      count = length-set c.loop-at.links c.loop-at.at c.send.new.self ∙ c.loop-at.invariant.count;
    }
