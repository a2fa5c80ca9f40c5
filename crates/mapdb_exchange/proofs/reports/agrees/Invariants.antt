use Rattle.std.proofs.Common.{◌<◌, ℕ, [], map}
use Rattle.std.specs.Prelude.{slice_index_or}
use Rattle.mapdb_exchange.specs.Reports.{IsPartOfReport}
use Rattle.mapdb_exchange.specs.declared.reports.Part.{Part}
use Rattle.mapdb_exchange.proofs.reports.agrees.Given as goal

abbrev pub invariant-loop-processor : goal.invariant-loop-processor
invariant-loop-processor l = (k : ℕ) (d : Part) → k < l.processor → IsPartOfReport l.parts k (slice_index_or (map (λ v. v.items) l.scripts) k []) (slice_index_or l.parts k d)
