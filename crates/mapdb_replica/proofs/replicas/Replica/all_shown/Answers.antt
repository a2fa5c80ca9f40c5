use Rattle.std.proofs.Common.{◌≡◌, ap, subst, ◌∙◌}
use Rattle.std.specs.Prelude.{IfOk, IfSome}
use Rattle.mapdb_facts.specs.Facts.{state_of_facts}
use Rattle.mapdb_facts.specs.State.{State, state_of}
use Rattle.mapdb_fpage.specs.Bounds.{page_limit}
use Rattle.mapdb_rights.specs.ShownSpaces.{CoverPages, IsShownFrom}
use Rattle.mapdb_replica.specs.Replica.{Log}
use Rattle.mapdb_replica.proofs.replicas.Replica.all_shown.Goals as goal

pub returns-clause-shown : goal.returns-clause-shown
returns-clause-shown c =
    let state : state_of_facts c.self.inside.facts ≡ state_of c.args.self.now.ops = c.self.invariant.said ∙ ap (λ (log : Log). state_of log.ops) c.self.view_is in
    subst (λ (S : State). IfOk c.shown_pages.result (λ list. IfSome list (λ parts. CoverPages (IsShownFrom S c.args.space) 0 page_limit parts.items))) state c.shown_pages.ensures.shown
