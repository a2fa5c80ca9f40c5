use Rattle.std.proofs.Common.{Global, Vec, subst}
use Rattle.std.specs.Prelude.{IfSome, Option}
use Rattle.mapdb_facts.specs.State.{state_of}
use Rattle.mapdb_fpage.specs.Bounds.{page_limit}
use Rattle.mapdb_rights.specs.ShownSpaces.{CoverPages, IsShownFrom}
use Rattle.mapdb_rights.specs.declared.index.served_pages.SteadyPages.{SteadyPages}
use Rattle.mapdb_rights.proofs.Live.ShownParts.{parts_as}
use Rattle.mapdb_replica.specs.Running.{IsSteadyPart}
use Rattle.mapdb_replica.specs.Served.{served}
use Rattle.mapdb_replica.proofs.Pages.SteadyParts.{shown_steady}
use Rattle.mapdb_replica.proofs.replicas.Replica.steady_pages.Goals as goal

pub returns-in-Some : goal.returns-in-Some
returns-in-Some c =
    parts_as (IsShownFrom (state_of c.args.self.now.ops) c.args.space) (IsSteadyPart (served c.args.self.now.ops c.args.space))
    (shown_steady c.args.self.now.ops c.args.space c.in_ok-parts.ensures.formed) 0 page_limit c.in-Some.parts.items
    (subst (λ (o : Option (Vec SteadyPages Global)). IfSome o (λ parts. CoverPages (IsShownFrom (state_of c.args.self.now.ops) c.args.space) 0 page_limit parts.items)) c.in-Some.is
    c.in_ok-parts.ensures.shown)
