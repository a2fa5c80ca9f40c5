use Rattle.std.proofs.Common.{refl, bit_and, nat_eq, ◌∙◌}
use Rattle.std.specs.Bool.{beq}
use Rattle.mapdb_fpage.specs.RightBits.{exact_bool, pairs_pass}
use Rattle.mapdb_fpage.specs.RightSets.{is_within, low_rights}
use Rattle.mapdb_fpage.proofs.right_sets.Rights.contains.Goals as goal

pub returns : goal.returns
returns c =
    exact_bool _ _ (pairs_pass (λ a b. beq (nat_eq (bit_and a b) b) (is_within (low_rights b) (low_rights a))) refl
    c.self.inside.bits c.other.inside.bits c.self.invariant c.other.invariant)
    ∙ (λ i. is_within (c.other.view_is i) (c.self.view_is i))
