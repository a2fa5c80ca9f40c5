use Rattle.std.proofs.Common.{rules}
use Rattle.mapdb_exchange.proofs.exchange.report_of.Goals as goal

pub hold_same-requires : goal.hold_same-requires
hold_same-requires c = search rules
