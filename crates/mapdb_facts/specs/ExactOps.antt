-- Operations that compare equal are the same.
use Rattle.std.specs.Prelude.{◌≡◌, Bool, true, ◌&&◌}
use Rattle.std.proofs.Common.{ap, sym}
use Rattle.std.proofs.lemmas.Bool.{and_parts, true≢false}
use Rattle.mapdb_fpage.specs.Place.{same_place}
use Rattle.mapdb_fpage.specs.SamePlaces.{exact_place}
use Rattle.mapdb_fpage.specs.RightSets.{same_rights}
use Rattle.mapdb_facts.specs.Exact.{exact_id, exact_record, exact_space}
use Rattle.mapdb_fpage.specs.RightBits.{exact_rights}
use Rattle.mapdb_facts.specs.Names.{same_id}
use Rattle.mapdb_facts.specs.contracts.operations.OpPartialEq.TheImpl as compared
use Rattle.mapdb_facts.specs.declared.operations.Op.{Op}
use Rattle.mapdb_facts.specs.declared.operations.Op.TheVariants.{Born, Closed, Cut}
use Rattle.mapdb_facts.specs.declared.operations.Revocation.{Revocation}

-- how operations compare
abbrev pub same_op : Op → Op → Bool
same_op = compared.eq-value.it

exact_cut : (a b : Revocation) → (same_id a.target b.target
    && (same_place a.part b.part && same_rights a.rights b.rights)) ≡ true → a ≡ b
exact_cut a b h =
    let p = and_parts (same_id a.target b.target) _ h in
    let q = and_parts (same_place a.part b.part) (same_rights a.rights b.rights) p.1 in
    let target = exact_id _ _ p.0 in
    let part = exact_place _ _ q.0 in
    let rights = exact_rights _ _ q.1 in
    λ i. record { target = target i; part = part i; rights = rights i }

pub exact_op : (a b : Op) → same_op a b ≡ true → a ≡ b
exact_op (Born r) (Born s) h = ap Born (exact_record r s h)
exact_op (Cut a) (Cut b) h = ap Cut (exact_cut a b h)
exact_op (Closed a) (Closed b) h = ap Closed (exact_space a b h)
exact_op (Born r) (Cut b) h = absurd (true≢false (sym h))
exact_op (Born r) (Closed b) h = absurd (true≢false (sym h))
exact_op (Cut a) (Born s) h = absurd (true≢false (sym h))
exact_op (Cut a) (Closed b) h = absurd (true≢false (sym h))
exact_op (Closed a) (Born s) h = absurd (true≢false (sym h))
exact_op (Closed a) (Cut b) h = absurd (true≢false (sym h))
