use Rattle.std.proofs.Common.{ap, ◌∙◌}
use Rattle.mapdb_facts.specs.State.{state_of}
use Rattle.std.specs.Prelude.{Option}
use Rattle.mapdb_facts.specs.Records.{records_of}
use Rattle.mapdb_replica.specs.Issue.{holders}
use Rattle.mapdb_replica.specs.Pairs.{Pair, with_some}
use Rattle.mapdb_replica.proofs.Pages.HolderWalks.{fewer_left}
use Rattle.mapdb_replica.proofs.Pages.LiveHolders.{pairs_end, pairs_next, pairs_start}
use Rattle.mapdb_replica.proofs.replicas.Replica.rights_by_all.Goals as goal

pub records-init : goal.records-init
records-init c = rw c.new-pairs.ensures.items (pairs_start (state_of c.args.self.now.ops) c.args.page (holders (records_of c.args.self.now.ops) c.args.space))

pub records-smaller : goal.records-smaller
records-smaller c =
    fewer_left c.args.self.now.ops c.args.space c.args.page c.in-Some.ensures.formed c.records.after c.in-Some.id c.in-Some.ensures.live

pub records-preserved : goal.records-preserved
records-preserved c =
    pairs_next c.args.self.now.ops c.args.space c.args.page c.in-Some.ensures.formed c.records.after c.in-Some.id c.records.pairs.items c.add_some.new.pairs.items _
    c.in-Some.ensures.live (c.in_ok-add_some.ensures ∙ ap (λ (o : Option Pair). with_some o c.records.pairs.items) c.pair_at-pair.ensures) c.records.invariant

pub returns : goal.returns
returns c =
    pairs_end c.args.self.now.ops c.args.space c.args.page c.in_default.ensures.formed c.records.after c.records.pairs.items c.in_default.ensures.live c.records.invariant
