use Rattle.mapdb_replica.proofs.Pages.RunningPages.{served_on}
use Rattle.mapdb_replica.proofs.Pages.SteadyParts.{shown_steady}
use Rattle.mapdb_replica.proofs.replicas.Replica.steady_at.Goals as goal

pub returns-in-Some-clause-steady : goal.returns-in-Some-clause-steady
returns-in-Some-clause-steady c =
    (shown_steady c.args.self.now.ops c.args.space c.shown_at.ensures.formed c.args.page c.in-Some.shown (record {
      begins = c.in-Some.ensures.page;
      served = c.in-Some.ensures.served;
      above = c.in-Some.ensures.above;
      limit = c.in-Some.ensures.limit;
      until = c.in-Some.ensures.shown;
    })).1

pub returns-in-None-clause-steady : goal.returns-in-None-clause-steady
returns-in-None-clause-steady c = record {
  here = c.served_by_all.ensures;
  above = c.end_by_all.ensures.above;
  limit = c.end_by_all.ensures.limit;
  same = λ count inside. served_on c.args.self.now.ops c.args.space c.args.page count c.end_by_all.result c.end_by_all.ensures.formed c.end_by_all.ensures.shown inside;
}
