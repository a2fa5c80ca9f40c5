use Rattle.std.proofs.Common.{ap, sym, ◌∙◌}
use Rattle.mapdb_facts.specs.Facts.{state_of_facts}
use Rattle.mapdb_facts.specs.Looking.{Holds}
use Rattle.mapdb_facts.specs.State.{State}
use Rattle.mapdb_rights.specs.Revoked.{IsRevoked}
use Rattle.mapdb_rights.proofs.index.unlisting.unlist.Goals as goal

pub unlist_place-requires : goal.unlist_place-requires
unlist_place-requires c =
    let S : State = state_of_facts c.args.facts.now in
    let own : Holds S c.in-Some.mapping = ap S.record_at c.in-Some.ensures.named ∙ sym c.record.ensures.held ∙ c.in-Some.is in
    let revoked : IsRevoked S c.in-Some.mapping = c.is_revoked.ensures.0 c.if-not-is_revoked.false in
    (c.unlist_source.ensures.listed S c.requires own revoked).aligned

pub unlist_parent-requires : goal.unlist_parent-requires
unlist_parent-requires c =
    let S : State = state_of_facts c.args.facts.now in
    let own : Holds S c.in-Some.mapping = ap S.record_at c.in-Some.ensures.named ∙ sym c.record.ensures.held ∙ c.in-Some.is in
    let revoked : IsRevoked S c.in-Some.mapping = c.is_revoked.ensures.0 c.if-not-is_revoked.false in
    c.unlist_place.ensures.listed S (c.unlist_source.ensures.listed S c.requires own revoked)

pub returns-clause-idle : goal.returns-clause-idle
returns-clause-idle c cached idle =
    let S : State = state_of_facts c.args.facts.now in
    let own : Holds S c.in-Some.mapping = ap S.record_at c.in-Some.ensures.named ∙ sym c.record.ensures.held ∙ c.in-Some.is in
    let revoked : IsRevoked S c.in-Some.mapping = c.is_revoked.ensures.0 c.if-not-is_revoked.false in
    c.unlist_parent.ensures.idle cached
    (c.unlist_place.ensures.idle S cached (c.unlist_source.ensures.listed S c.requires own revoked) own revoked (c.unlist_source.ensures.idle S cached idle))
