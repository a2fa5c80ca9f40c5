use Rattle.crossbeam_channel.specs.Claims.{view as known}
use Rattle.mapdb_exchange.proofs.Carrying.{sends}
use Rattle.mapdb_exchange.proofs.Fins.{put_keeps}
use Rattle.mapdb_exchange.proofs.links.Outgoing.put.Goals as goal

pub send_as-requires-clause-rule : goal.send_as-requires-clause-rule
send_as-requires-clause-rule g c = (sends _ _ _ _ c.self.invariant.1, λ items views h at. tt)

pub invariant_of-self : goal.invariant_of-self
invariant_of-self g c =
    let k = put_keeps (known c.self.inside.pass) (known c.send_as.new.pass) c.args.message c.self.inside.is_ended c.is_fin-is_last.result c.self.invariant.1 c.self.invariant.2 c.self.invariant.3 c.if-self.false c.is_fin-is_last.ensures c.in-Ok.ensures.rule in (
      c.in-Ok.ensures.channel.0,
      k.0,
      k.1,
      k.2,
    )

pub returns-in-Err-clause-put : goal.returns-in-Err-clause-put
returns-in-Err-clause-put g c = tt
