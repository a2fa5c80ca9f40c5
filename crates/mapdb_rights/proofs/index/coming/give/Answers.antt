use Rattle.std.proofs.Common.{◌≡◌, ℕ, Some, ap, sym, subst, ◌∙◌, ◌<◌, arith, inl, inr, true, []}
use Rattle.std.proofs.lemmas.Bool.{and_left, cond-false, cond-true}
use Rattle.std.proofs.lemmas.Result.{on_ok_weaker}
use Rattle.mapdb_facts.specs.Facts.{state_of_facts}
use Rattle.mapdb_facts.specs.State.{State}
use Rattle.mapdb_facts.specs.declared.names.RecordId.{RecordId}
use Rattle.mapdb_fpage.specs.RightSets.{is_empty}
use Rattle.mapdb_lists.specs.Changes.{Cached, cached_in, covers}
use Rattle.mapdb_lists.specs.declared.changes.Change.{Change}
use Rattle.mapdb_lists.specs.declared.places.Owner.TheVariants as owners
use Rattle.mapdb_lists.proofs.Lists.Results.{on_any}
use Rattle.mapdb_rights.specs.CachedFrames.{HasFrame}
use Rattle.mapdb_rights.specs.LivePlaces.{ListsLive}
use Rattle.mapdb_rights.specs.Pending.{AreSettledBut}
use Rattle.mapdb_rights.proofs.Rights.FramesFrom.{frames_written}
use Rattle.mapdb_rights.proofs.Settling.SeenReplaced.{got, kept, shown, still}
use Rattle.mapdb_rights.proofs.Settling.Settlement.{covered, settled_after, settled_already, step_settled, to_covers}
use Rattle.mapdb_rights.proofs.index.coming.give.Goals as goal

-- no page is left behind the end
none_behind : (id : RecordId) (end limit : ℕ) → end ≡ limit → (other : RecordId) (page : ℕ) → covers id end limit other page ≡ true → ⊥
none_behind id end limit whole other page inside =
    let c = covered id end limit other page inside in
    let from = c.from in
    let before = c.before in
    omega (arith, whole, from, before)

pub returns-in_default-clause-shows : goal.returns-in_default-clause-shows
returns-in_default-clause-shows c =
    let S : State = state_of_facts c.args.facts.now in
    let old : Cached = cached_in c.args.changes.now.own.entries in
    let replaced = c.in_ok-replaced.ensures.replaced in
    let end = c.in_ok-replaced.replaced.end in
    let as_before = kept c.in_default.is replaced.how in
    shown S c.begin.new.changes c.args.listed.now c.args.live.now c.requires.shows_but.listed_there
    (subst (λ (cached : Cached). AreSettledBut S cached []) (sym (still as_before))
    (step_settled S old old [] [] [] c.args.run end c.requires.shows_but.settled (λ id page pending. pending)
    (λ other page inside. none_behind c.args.run.id end c.args.run.end c.in_ok-replaced.ensures.whole other page inside)
    (λ id page pending. pending)
    (λ id page before. inl (settled_already S old old c.args.run.id c.args.run.first end c.args.given.change.rights
    (λ q from before_end. c.requires.follows.rights q from (let w = replaced.within in omega (arith, w)))
    as_before.rights id page before))))
    (λ id page some.
    let is = as_before.same id page in
    subst (λ (t : Change). HasFrame S id page t.shift) (sym is)
    (c.requires.shows_but.frames id page (ap (λ (t : Change). is_empty t.rights) (sym is) ∙ some)))
    (subst (λ (cached : Cached). ListsLive S cached c.args.live.now) (sym (still as_before)) c.requires.shows_but.live_there)

pub returns-clause-shows : goal.returns-clause-shows
returns-clause-shows c =
    let S : State = state_of_facts c.args.facts.now in
    let old : Cached = cached_in c.args.changes.now.own.entries in
    let new : Cached = cached_in c.begin.new.changes.own.entries in
    let replaced = c.in_ok-replaced.ensures.replaced in
    let end = c.in_ok-replaced.replaced.end in
    let given = got c.in-Some.is replaced.how in
    on_ok_weaker c.follow_live.result
    (λ lists. shown S c.begin.new.changes c.args.listed.now c.follow_live.new.live c.requires.shows_but.listed_there
    (step_settled S old new [] [] [] c.args.run end c.requires.shows_but.settled (λ id page pending. pending)
    (λ other page inside. none_behind c.args.run.id end c.args.run.end c.in_ok-replaced.ensures.whole other page inside)
    (λ id page pending. pending)
    (settled_after S old new c.args.run.id c.args.run.first end c.args.given.change.rights
    (λ q from before_end. c.requires.follows.rights q from (let w = replaced.within in omega (arith, w)))
    given.cached c.requires.shows_but.listed_there.named c.requires.shows_but.listed_there.formed []
    (λ other r held parent page inside from before.
    let named = c.requires.shows_but.listed_there.named other r held in
    let own : S.record_at r.id ≡ Some r = ap S.record_at named ∙ held in
    elim (c.requires.shows_but.listed_there.sources r own).by_parent [
      | inl revoked ↦ inl revoked
      | inr listed ↦ absurd (c.requires.childless _ (ap owners.Record parent) listed)
    ])))
    (frames_written S c.args.changes.now.own.entries c.begin.new.changes.own.entries c.args.run.id c.args.run.first end
    c.args.given.change c.requires.shows_but.frames
    (λ some q from before. c.requires.follows.frames c.requires.shows_but.frames some q from (let w = replaced.within in omega (arith, w)))
    given.seen)
    lists)
    c.follow_live.ensures.live

pub returns-clause-noted : goal.returns-clause-noted
returns-clause-noted c =
    let given = got c.in-Some.is c.in_ok-replaced.ensures.replaced.how in
    on_ok_weaker c.follow_live.result
    (λ noted. noted (cached_in c.args.changes.now.own.entries) given.none
    (λ other page apart. given.cached other page
    ∙ cond-false (covers c.args.run.id c.args.run.first c.in_ok-replaced.replaced.end other page) _ _ (and_left _ _ apart)))
    c.follow_live.ensures.noted

-- the first of the pages is one of them
at_first : (id : RecordId) (first end : ℕ) → first < end → covers id first end id first ≡ true
at_first id first end some = to_covers id first end first (omega arith) some

pub returns-in_default-clause-given : goal.returns-in_default-clause-given
returns-in_default-clause-given c =
    let replaced = c.in_ok-replaced.ensures.replaced in
    let as_before = kept c.in_default.is replaced.how in
    ap (λ (t : Change). t.rights) (as_before.same c.args.run.id c.args.run.first) ∙ as_before.rights c.args.run.first (omega arith) replaced.above

pub returns-clause-given : goal.returns-clause-given
returns-clause-given c =
    let replaced = c.in_ok-replaced.ensures.replaced in
    let end = c.in_ok-replaced.replaced.end in
    let given = got c.in-Some.is replaced.how in
    on_any c.follow_live.result
    (given.cached c.args.run.id c.args.run.first
    ∙ cond-true (covers c.args.run.id c.args.run.first end c.args.run.id c.args.run.first) _ _ (at_first c.args.run.id c.args.run.first end replaced.above))
