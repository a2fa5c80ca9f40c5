-- The versions of a space's number that have not ended.
use Rattle.std.specs.Prelude.{◌≡◌, ℕ, ◌+◌, ◌<◌, true, false, List, [], ◌∷◌, length, if◌then◌else◌}
use Rattle.std.specs.List.{range_with_len}
use Rattle.mapdb_facts.specs.State.{State, state_of}
use Rattle.mapdb_facts.specs.declared.names.Space.{Space}
use Rattle.mapdb_facts.specs.declared.operations.Op.{Op}

-- the space of this number and version
abbrev pub versioned_space : ℕ → ℕ → Space
versioned_space number version = record { number = number; version = version }

-- the versions before this one have ended
abbrev pub EndBefore : State → ℕ → ℕ → Type 0
EndBefore S number version = (earlier : ℕ) → earlier < version
    → S.is_ended (versioned_space number earlier) ≡ true

-- the least version that has not ended
pub record IsFreeVersion (S : State) (number version : ℕ) : Type 0 where
  pub lives : S.is_ended (versioned_space number version) ≡ false
  pub least : EndBefore S number version

-- the first of these versions that has not ended
abbrev pub first_free : State → ℕ → List ℕ → ℕ
first_free S number [] = 0
first_free S number (version ∷ versions) =
    if S.is_ended (versioned_space number version) then first_free S number versions else version

-- The version that the next space of a number gets, where these operations are held: they end at
-- most as many versions as they are.
unfoldable pub free_version : List Op → ℕ → ℕ
free_version ops number = first_free (state_of ops) number (range_with_len 0 (length ops + 1))
