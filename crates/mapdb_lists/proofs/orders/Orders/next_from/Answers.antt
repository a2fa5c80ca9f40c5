use Rattle.std.proofs.Common.{◌<◌, ◌/◌, ◌^◌, arith, rules}
use Rattle.std.proofs.lemmas.Bool.{eq-eqb, eqb-true}
use Rattle.mapdb_lists.proofs.PlaceLemmas.OrderBits.{behind_has, bit_below, least_bit, none_behind}
use Rattle.mapdb_lists.proofs.orders.Orders.next_from.Goals as goal

pub returns-then-order-ge-ORDER_LIMIT : goal.returns-then-order-ge-ORDER_LIMIT
returns-then-order-ge-ORDER_LIMIT c k has =
    let fits : c.args.self.bits < 2 ^ 64 = search rules in
    let below = bit_below c.args.self.bits k fits (eqb-true _ 1 has) in
    omega arith

pub returns-then-behind-eq0 : goal.returns-then-behind-eq0
returns-then-behind-eq0 c k has = none_behind c.args.self.bits c.args.order k c.if-behind-eq0.true (eqb-true _ 1 has)

pub returns : goal.returns
returns c =
    let fits : c.args.self.bits < 2 ^ 64 = search rules in
    let some : 0 < c.args.self.bits / 2 ^ c.args.order = omega (arith, c.if-behind-eq0.false) in
    record {
      held = eq-eqb _ 1 (behind_has c.args.self.bits c.args.order fits some);
      behind = omega arith;
      least = λ k has up. least_bit c.args.self.bits c.args.order k fits some (eqb-true _ 1 has) up;
    }
