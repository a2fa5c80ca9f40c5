use Rattle.std.proofs.Common.{rules}
use Rattle.mapdb_fpage.proofs.places.Fpage.smaller.Goals as goal

pub returns-then-order-clause-smaller : goal.returns-then-order-clause-smaller
returns-then-order-clause-smaller c = search rules

pub returns-then-order-clause-place : goal.returns-then-order-clause-place
returns-then-order-clause-place c = search rules

pub returns-then-order-clause-other_place : goal.returns-then-order-clause-other_place
returns-then-order-clause-other_place c = search rules

pub returns-else-order-clause-smaller : goal.returns-else-order-clause-smaller
returns-else-order-clause-smaller c = search rules

pub returns-else-order-clause-place : goal.returns-else-order-clause-place
returns-else-order-clause-place c = search rules

pub returns-else-order-clause-other_place : goal.returns-else-order-clause-other_place
returns-else-order-clause-other_place c = search rules
