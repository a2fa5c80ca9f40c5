use Rattle.std.proofs.Common.{◌≡◌, ◌≢◌, ◌<◌, ℕ}
use Rattle.std.specs.Prelude.{slice_index_or}
use Rattle.mapdb_exchange.specs.Reports.{taken_from}
use Rattle.mapdb_exchange.specs.declared.reports.Part.{Part}
use Rattle.mapdb_exchange.proofs.reports.hears_all.Given as goal

abbrev pub invariant-loop-other : goal.invariant-loop-other
invariant-loop-other l = (q : ℕ) (d : Part) → q < l.other → q ≢ l.processor → taken_from l.seats l.processor q l.entries ≡ (slice_index_or l.parts q d).history.copy.own
