use Rattle.mapdb_lists.proofs.PlaceLemmas.OrderBits.{with_bit}
use Rattle.mapdb_lists.proofs.orders.Orders.add.Goals as goal

pub returns-then-order-lt-ORDER_LIMIT : goal.returns-then-order-lt-ORDER_LIMIT
returns-then-order-lt-ORDER_LIMIT c k = with_bit c.args.self.now.bits c.args.order k c.if-order-lt-ORDER_LIMIT.true
