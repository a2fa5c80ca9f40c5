-- Places by themselves: how they are ordered, whether one stands among others, and which orders
-- they have.
use Rattle.std.specs.Prelude.{◌≡◌, ℕ, Bool, true, ◌<◌, ◌≤◌, ◌&&◌, nat_eq, nat_lt, List, Option}
use Rattle.std.specs.Prelude.{Some, None, if◌then◌else◌}
use Rattle.std.specs.BTreeMap.{is_at}
use Rattle.std.specs.Int.{bit_at}
use Rattle.std.specs.List.{list_any}
use Rattle.std.specs.Ordering.{nat_cmp, ordering_then}
use Rattle.std.specs.declared.cmp.Ordering.{Ordering}
use Rattle.mapdb_facts.specs.Kept.{id_cmp}
use Rattle.mapdb_facts.specs.declared.names.RecordId.{RecordId}
use Rattle.mapdb_lists.specs.declared.orders.Orders.{Orders}
use Rattle.mapdb_lists.specs.declared.limits.TheConstants.{ORDER_LIMIT}
use Rattle.mapdb_lists.specs.declared.own_place.OwnPlace.{OwnPlace}

-- by the order, the first page and the record's name
abbrev pub place_cmp : OwnPlace → OwnPlace → Ordering
place_cmp a b =
    ordering_then (nat_cmp a.order b.order)
    (ordering_then (nat_cmp a.first b.first) (id_cmp a.id b.id))

-- the place is one of these
abbrev pub stands : List OwnPlace → OwnPlace → Bool
stands places p = list_any (is_at (place_cmp p)) places

-- the name is one of these
abbrev pub is_named : List RecordId → RecordId → Bool
is_named names id = list_any (is_at (id_cmp id)) names

-- the orders for which there is a bit lie below this
abbrev pub order_limit : ℕ
order_limit = ORDER_LIMIT

-- the order is one of the set
abbrev pub has_order : Orders → ℕ → Bool
has_order orders order = nat_eq (bit_at orders.bits order) 1

-- one order more, where a bit stands for it
abbrev pub IsWithOrder : Orders → ℕ → Orders → Type 0
IsWithOrder old order new = (k : ℕ) → has_order new k
    ≡ (if nat_lt order order_limit && nat_eq order k then true else has_order old k)

-- the least order of the set from one on
pub record IsLeastOrder (orders : Orders) (from order : ℕ) : Type 0 where
  pub held : has_order orders order ≡ true
  pub behind : from ≤ order
  pub least : (k : ℕ) → has_order orders k ≡ true → from ≤ k → order ≤ k

-- that order, where there is one
abbrev pub IsNextOrder : Orders → ℕ → Option ℕ → Type 0
IsNextOrder orders from None = (k : ℕ) → has_order orders k ≡ true → k < from
IsNextOrder orders from (Some order) = IsLeastOrder orders from order

-- the orders of all these places are in the set, as far as bits stand for them
abbrev pub HaveOrders : List OwnPlace → Orders → Type 0
HaveOrders places orders = (p : OwnPlace) → stands places p ≡ true → p.order < order_limit
    → has_order orders p.order ≡ true
