use Rattle.std.proofs.Common.{ap, sym, ◌∙◌}
use Rattle.std.specs.Prelude.{not}
use Rattle.mapdb_facts.specs.Facts.{state_of_facts}
use Rattle.mapdb_rights.proofs.Rights.Revoked.{known_revoked, revoked_known}
use Rattle.mapdb_facts.proofs.States.Newness.{not_true}
use Rattle.mapdb_rights.proofs.index.unlisting.is_revoked.Goals as goal

pub returns : goal.returns
returns c = (
  λ known. known_revoked (state_of_facts c.args.facts.now) c.args.mapping.now (sym c.is_new.ensures ∙ not_true c.is_new.result known),
  λ revoked. ap not (c.is_new.ensures ∙ revoked_known (state_of_facts c.args.facts.now) c.args.mapping.now revoked),
)
