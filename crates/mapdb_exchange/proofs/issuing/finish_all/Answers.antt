use Rattle.std.proofs.Common.{map, ◌∷◌, [], arith}
use Rattle.mapdb_exchange.specs.Finishing.{sent_on}
use Rattle.mapdb_exchange.proofs.Finished.{finished_put}
use Rattle.mapdb_exchange.proofs.issuing.finish_all.Goals as goal
use Rattle.std.proofs.lemmas.List.{map-append}

pub loop-link-preserved : goal.loop-link-preserved
loop-link-preserved g c =
    let more = finished_put (map sent_on c.loop-link.yielded) c.loop-link.ends.items (sent_on c.in-Some.link) c.in_ok-finish.field-0 c.loop-link.invariant.finished c.in_ok-finish.ensures.link c.in_ok-finish.ensures.numbered in
    record {
      finished = rw (map-append sent_on c.loop-link.yielded (c.in-Some.link ∷ []), c.push_reserved.ensures.items) more;
      room = omega (arith, c.in-Some.ensures.steps.1);
    }
