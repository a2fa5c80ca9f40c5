-- What is taken from one record, by two who know of it.
use Rattle.std.specs.Prelude.{◌≡◌, ℕ, true}
use Rattle.mapdb_facts.specs.declared.names.RecordId.{RecordId}
use Rattle.mapdb_facts.specs.Kept.{Cuts, has_cut}

-- the first takes all from the record of the name that the second takes from it
abbrev pub CoversUnder : Cuts → Cuts → RecordId → Type 0
CoversUnder cuts other id = (x : ℕ × ℕ) → has_cut other (id, x) ≡ true → has_cut cuts (id, x) ≡ true
