use Rattle.mapdb_node.proofs.SameEvents.{event_decides}
use Rattle.mapdb_node.proofs.events.NodeEvent.is.Goals as goal

pub returns : goal.returns
returns c = event_decides c.eq.result c.args.self.now c.args.other.now c.eq.ensures
