use Rattle.std.proofs.Common.{drop, ◌-◌, ◌≡◌, []}
use Rattle.mapdb_replica.specs.Taking.{Takes, take_outcome}
use Rattle.mapdb_script.specs.Sendings.{ops_between}
use Rattle.mapdb_script.proofs.SendingLemmas.{held_after, own_held, own_left}
use Rattle.mapdb_script.proofs.sendings.take_own.Goals as goal

pub returns : goal.returns
returns c =
    let held = c.args.copy.now.ops in
    let sending = c.args.sending in
    let left = own_left held sending c.requires.ordered c.requires.within in
    let outcome : take_outcome held [] ≡ take_outcome held (ops_between sending.first sending.end held) =
    own_held held sending c.ops-held.ensures.sound c.ops-held.ensures.formed c.requires.ordered c.requires.within in
    let takes : Takes (drop (sending.end - sending.first) (ops_between sending.first sending.end held)) (take_outcome held (ops_between sending.first sending.end held)) c.take.result c.args.copy.now c.take.new.self =
    rw (left, ← outcome) c.take.ensures.takes in
    record { takes = takes; held = held_after _ (ops_between sending.first sending.end held) c.take.result c.args.copy.now c.take.new.self c.ops-held.ensures.sound takes }
