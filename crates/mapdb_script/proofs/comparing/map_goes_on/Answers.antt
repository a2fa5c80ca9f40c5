use Rattle.std.proofs.Common.{rules}
use Rattle.mapdb_script.proofs.comparing.map_goes_on.Goals as goal

pub returns-else-order-le-WIDEST_ORDER : goal.returns-else-order-le-WIDEST_ORDER
returns-else-order-le-WIDEST_ORDER c = search rules
