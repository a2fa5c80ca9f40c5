use Rattle.std.proofs.Common.{ap, sym, ◌∙◌}
use Rattle.mapdb_facts.specs.Facts.{state_of_facts}
use Rattle.mapdb_facts.specs.Looking.{Holds}
use Rattle.mapdb_facts.specs.State.{State}
use Rattle.mapdb_lists.specs.declared.places.Owner.TheVariants as owners
use Rattle.mapdb_rights.proofs.Places.Unlisted.{idle_without_place, without_place}
use Rattle.mapdb_rights.proofs.index.unlisting.unlist_parent.Goals as goal

pub returns-then-is_revoked-clause-listed : goal.returns-then-is_revoked-clause-listed
returns-then-is_revoked-clause-listed c =
    without_place (state_of_facts c.args.facts.now) c.args.listed.now c.remove.new.self c.place_of.result c.remove.ensures c.in-Some.mapping c.place_of.ensures.is c.requires

pub returns-then-is_revoked-clause-idle : goal.returns-then-is_revoked-clause-idle
returns-then-is_revoked-clause-idle c cached =
    let S : State = state_of_facts c.args.facts.now in
    let own : Holds S c.in-Some.mapping = ap S.record_at c.in-Some.ensures.named ∙ sym c.record.ensures.held ∙ c.in-Some.is in
    idle_without_place S c.args.listed.now c.remove.new.self c.place_of.result c.remove.ensures c.in-Some.mapping cached c.requires own (c.is_revoked.ensures.0 c.if-is_revoked.true)
    (λ e owned. c.is_childless.ensures c.if-not-is_childless.false e (owned ∙ ap owners.Record c.in-Some.ensures.named)) c.place_of.ensures.is
