-- A page and the rights from it on, and the one word that stands for both.
use Rattle.std.specs.Prelude.{◌≡◌, ℕ, ◌+◌, ◌*◌, ◌/◌, ◌%◌}
use Rattle.std.proofs.Common.{ap, refl, ◌∙◌}
use Rattle.std.proofs.lemmas.Bool.{ltb-true}
use Rattle.std.proofs.Math.Nat.{div-add-mod, mod-lt}
use Rattle.mapdb_fpage.specs.RightBits.{bits_come_back}
use Rattle.mapdb_fpage.specs.RightSets.{bits_of, low_rights}
use Rattle.mapdb_fpage.specs.declared.bounds.TheConstants.{RIGHT_SETS}
use Rattle.mapdb_fpage.specs.declared.right_sets.Rights.{Rights}

pub record PageWithRights : Type 0 where
  pub page : ℕ
  pub rights : Rights

-- how many sets of rights there are
abbrev pub right_sets : ℕ
right_sets = RIGHT_SETS

-- the lowest bits are the rights, and above them is the page
abbrev pub change_word : ℕ → Rights → ℕ
change_word page rights = right_sets * page + bits_of rights

-- what such a word says
abbrev pub change_in : ℕ → PageWithRights
change_in word = record { page = word / right_sets; rights = low_rights (word % right_sets) }

-- it says a page and rights, and nothing else
pub change_word_comes_back : (word : ℕ)
    → change_word (word / right_sets) (low_rights (word % right_sets)) ≡ word
change_word_comes_back word =
    ap (λ n. right_sets * (word / right_sets) + n)
    (bits_come_back (word % right_sets) (mod-lt word (ltb-true 0 right_sets refl)))
    ∙ div-add-mod word right_sets
