use Rattle.std.proofs.Common.{rules}
use Rattle.mapdb_facts.proofs.checking.check.Goals as goal

pub returns-then-has_bad_processor : goal.returns-then-has_bad_processor
returns-then-has_bad_processor c = search rules

pub returns-then-has_late_parent : goal.returns-then-has_late_parent
returns-then-has_late_parent c = search rules

pub returns-then-has_unaligned_source : goal.returns-then-has_unaligned_source
returns-then-has_unaligned_source c = search rules

pub returns-then-names_root_number : goal.returns-then-names_root_number
returns-then-names_root_number c = search rules

pub returns-then-has_wide_source : goal.returns-then-has_wide_source
returns-then-has_wide_source c = search rules

pub returns-else-has_wide_source : goal.returns-else-has_wide_source
returns-else-has_wide_source c = search rules
