use Rattle.std.proofs.Common.{◌∙◌, sym}
use Rattle.mapdb_join.proofs.Counting.{last_at}
use Rattle.mapdb_join.specs.Lawful.United.{beyond}
use Rattle.mapdb_join.proofs.runs.starts.bits_at.Goals as goal

pub returns-then-page-ge-RUN_LIMIT : goal.returns-then-page-ge-RUN_LIMIT
returns-then-page-ge-RUN_LIMIT c = sym (beyond c.args.starts.now c.args.page c.requires c.if-page-ge-RUN_LIMIT.true)

pub returns : goal.returns
returns c = c.bits_before.ensures ∙ rw c.starts_below.ensures.count (last_at 0 0 c.args.starts.now c.args.page c.requires.ascending)
