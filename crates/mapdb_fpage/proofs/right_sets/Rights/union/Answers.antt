use Rattle.std.proofs.Common.{bit_or, nat_lt, refl, ◌∙◌}
use Rattle.std.proofs.lemmas.Bool.{ltb-true}
use Rattle.mapdb_fpage.specs.RightBits.{pairs_pass, sets_agree}
use Rattle.mapdb_fpage.specs.RightSets.{union}
use Rattle.mapdb_fpage.proofs.right_sets.Rights.union.Goals as goal

pub returns : goal.returns
returns c =
    sets_agree (λ a b. bit_or a b) union refl c.self.inside.bits c.other.inside.bits c.self.invariant c.other.invariant
    ∙ (λ i. union (c.self.view_is i) (c.other.view_is i))

pub invariant_of-result : goal.invariant_of-result
invariant_of-result c =
    ltb-true (bit_or c.self.inside.bits c.other.inside.bits) 8
    (pairs_pass (λ a b. nat_lt (bit_or a b) 8) refl c.self.inside.bits c.other.inside.bits c.self.invariant c.other.invariant)
