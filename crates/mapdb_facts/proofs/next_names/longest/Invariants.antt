use Rattle.std.proofs.Common.{ℕ, ◌≤◌, ◌<◌, length}
use Rattle.std.specs.Prelude.{slice_get}
use Rattle.mapdb_facts.specs.NamePlaces.{words_in}
use Rattle.mapdb_facts.proofs.next_names.longest.Given as goal

abbrev pub invariant-loop-words : goal.invariant-loop-words
invariant-loop-words l = (p : ℕ) → p < l.words-index → length (words_in (slice_get l.near p)) ≤ l.longest
