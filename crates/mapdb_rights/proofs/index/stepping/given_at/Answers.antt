use Rattle.std.proofs.Common.{◌≡◌, ◌≤◌, false, sym, subst, ◌∙◌, arith}
use Rattle.std.specs.Prelude.{Some}
use Rattle.mapdb_fpage.specs.Bounds.{page_limit}
use Rattle.mapdb_facts.specs.Facts.{state_of_facts}
use Rattle.mapdb_facts.specs.Names.{is_root}
use Rattle.mapdb_facts.specs.State.{State}
use Rattle.mapdb_facts.specs.declared.names.RecordId.{RecordId}
use Rattle.mapdb_lists.specs.declared.changes.Stretch.{Stretch}
use Rattle.mapdb_lists.specs.Changes.{PageChanges, cached_in}
use Rattle.mapdb_rights.specs.Stepping.{IsGiven}
use Rattle.mapdb_rights.proofs.Rights.FromParents.{from_ended, from_outside}
use Rattle.mapdb_rights.proofs.Rights.Stepped.{none_given}
use Rattle.mapdb_rights.proofs.index.stepping.given_at.Goals as goal

pub returns-then-is_root : goal.returns-then-is_root
returns-then-is_root c = c.root_given.ensures c.args.changes.now.own.entries

pub returns-then-not-holds : goal.returns-then-not-holds
returns-then-not-holds c =
    let S : State = state_of_facts c.args.facts.now in
    let changes : PageChanges = c.args.changes.now.own.entries in
    let child : is_root c.args.id ≡ false = sym c.is_root.ensures ∙ c.if-is_root.false in
    let held : S.record_at c.args.id ≡ Some c.in-Some.mapping = sym c.record.ensures.held ∙ c.in-Some.is in
    let limit : c.change_after.result ≤ page_limit = c.change_after.ensures.limit in
    subst (λ (given : Stretch). IsGiven S changes c.args.id c.args.page given) (sym c.none_until-then-not-holds.ensures)
    (none_given S changes c.args.id c.args.page c.change_after.result c.change_after.ensures.above limit (λ q from before.
    from_outside (cached_in changes) S c.args.id q c.in-Some.mapping child held
    (c.change_after.ensures.same q from before ∙ sym c.holds.ensures ∙ c.if-not-holds.true)))

pub returns-then-ended : goal.returns-then-ended
returns-then-ended c =
    let S : State = state_of_facts c.args.facts.now in
    let changes : PageChanges = c.args.changes.now.own.entries in
    let child : is_root c.args.id ≡ false = sym c.is_root.ensures ∙ c.if-is_root.false in
    let held : S.record_at c.args.id ≡ Some c.in-Some.mapping = sym c.record.ensures.held ∙ c.in-Some.is in
    subst (λ (given : Stretch). IsGiven S changes c.args.id c.args.page given) (sym c.none_until-then-ended.ensures)
    (none_given S changes c.args.id c.args.page page_limit c.requires (omega arith) (λ q from before.
    from_ended (cached_in changes) S c.args.id q c.in-Some.mapping child held (sym c.ended.ensures ∙ c.if-ended.true)))

pub child_given-requires-clause-lives : goal.child_given-requires-clause-lives
child_given-requires-clause-lives c = sym c.ended.ensures ∙ c.if-ended.false

pub returns : goal.returns
returns c =
    subst (λ (id : RecordId). IsGiven (state_of_facts c.args.facts.now) c.args.changes.now.own.entries id c.args.page c.child_given.result) c.in-Some.ensures.named
    c.child_given.ensures
