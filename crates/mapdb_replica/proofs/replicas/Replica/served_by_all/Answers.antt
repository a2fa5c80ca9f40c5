use Rattle.mapdb_facts.specs.State.{state_of}
use Rattle.mapdb_facts.specs.Records.{records_of}
use Rattle.mapdb_replica.specs.Issue.{holders}
use Rattle.std.proofs.Common.{ap, ◌∙◌}
use Rattle.std.specs.Prelude.{Option}
use Rattle.mapdb_replica.specs.FirstPairs.{with_later}
use Rattle.mapdb_replica.specs.Pairs.{Pair}
use Rattle.mapdb_replica.proofs.Pages.HolderWalks.{fewer_left}
use Rattle.mapdb_replica.proofs.Pages.LiveHolders.{first_end, first_next, first_start}
use Rattle.mapdb_replica.proofs.replicas.Replica.served_by_all.Goals as goal

pub records-init : goal.records-init
records-init c = first_start (state_of c.args.self.now.ops) c.args.page (holders (records_of c.args.self.now.ops) c.args.space)

pub records-smaller : goal.records-smaller
records-smaller c =
    fewer_left c.args.self.now.ops c.args.space c.args.page c.in-Some.ensures.formed c.records.after c.in-Some.id c.in-Some.ensures.live

pub records-preserved : goal.records-preserved
records-preserved c =
    first_next c.args.self.now.ops c.args.space c.args.page c.in-Some.ensures.formed c.records.after c.in-Some.id c.records.found c.with_later-found.result _
    c.in-Some.ensures.live (c.with_later-found.ensures ∙ ap (λ (o : Option Pair). with_later c.records.found o) c.pair_at-pair.ensures) c.records.invariant

pub returns : goal.returns
returns c =
    first_end c.args.self.now.ops c.args.space c.args.page c.in_default.ensures.formed c.records.after c.records.found c.in_default.ensures.live c.records.invariant
