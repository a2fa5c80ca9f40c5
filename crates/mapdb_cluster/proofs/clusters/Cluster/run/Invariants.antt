use Rattle.std.proofs.Common.{◌≡◌, take}
use Rattle.mapdb_cluster.specs.Honest.{AllTrusted}
use Rattle.mapdb_cluster.specs.Run.{after, all_done, replies}
use Rattle.mapdb_cluster.proofs.clusters.Cluster.run.Given as goal

-- the events so far stand, and their replies are told and refuse no operation as bad, nor for a clash
abbrev pub invariant-loop-done : goal.invariant-loop-done
invariant-loop-done l = record {
  stands : l.self ≡ after l.initial.self (all_done (take l.done l.events));
  trusted : AllTrusted l.replies.items;
  told : l.replies.items ≡ replies l.initial.self (all_done (take l.done l.events));
}
