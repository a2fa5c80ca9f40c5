-- What follows from a record's parent, from a page on.
use Rattle.std.proofs.Common.{◌≡◌, ℕ, ◌+◌, ◌-◌, ◌*◌, ◌<◌, ◌≤◌, true, false, sym, ap, ◌∙◌, subst, arith}
use Rattle.std.specs.Prelude.{Some, nat_lt}
use Rattle.std.proofs.lemmas.Bool.{and_from, lt-ltb, true≢false}
use Rattle.mapdb_fpage.specs.Bounds.{page_limit}
use Rattle.mapdb_fpage.specs.Place.{holds}
use Rattle.mapdb_fpage.specs.RightSets.{all_rights, common, is_empty, no_rights, without}
use Rattle.mapdb_fpage.specs.declared.right_sets.Rights.{Rights}
use Rattle.mapdb_facts.specs.Adding.{cut_at}
use Rattle.mapdb_facts.specs.Names.{is_root}
use Rattle.mapdb_facts.specs.State.{State}
use Rattle.mapdb_facts.specs.WellFormed.{IsFormedRecord}
use Rattle.mapdb_facts.specs.declared.names.RecordId.{RecordId}
use Rattle.mapdb_facts.specs.declared.operations.Record.{Record}
use Rattle.mapdb_lists.specs.declared.changes.Change.{Change}
use Rattle.mapdb_lists.specs.Changes.{PageChanges, cached_in, past_the_end, seen_in}
use Rattle.mapdb_rights.specs.Caching.{rights_from}
use Rattle.mapdb_rights.specs.CachedFrames.{AreFrames, HasFrame}
use Rattle.mapdb_rights.specs.Right.{reaches, source_page}
use Rattle.mapdb_rights.specs.Stepping.{Follows, IsGiven}
use Rattle.mapdb_rights.proofs.Rights.FramesFrom.{root_frame, up_frame, up_has}
use Rattle.mapdb_rights.proofs.Rights.FromParents.{from_root, from_up}
use Rattle.mapdb_rights.proofs.Rights.SourcePages.{parent_before}

module _ (S : State) (changes : PageChanges) where
  -- where no right follows
  pub none_given : (id : RecordId) (page end : ℕ) → page < end → end ≤ page_limit
      → ((q : ℕ) → page ≤ q → q < end → rights_from (cached_in changes) S id q ≡ no_rights)
      → IsGiven S changes id page (record { change = past_the_end; end = end })
  none_given id page end above limit none = record {
    above = above;
    limit = limit;
    follows = record {
      rights = λ q from before. sym (none q from before);
      frames = λ frames some. absurd (true≢false some);
    };
  }

  -- the root has all that is not taken
  pub root_follows : (id : RecordId) (page end : ℕ) (taken : Rights) (change : Change) → is_root id ≡ true → end ≤ page_limit
      → ((q : ℕ) → page ≤ q → q < end → cut_at S id q ≡ taken) → change.rights ≡ without all_rights taken → change.shift ≡ page_limit
      → Follows S changes id page end change
  root_follows id page end taken change top limit cut rights shift = record {
    rights = λ q from before.
        rights ∙ ap (without all_rights) (sym (cut q from before))
        ∙ sym (from_root (cached_in changes) S id q top (lt-ltb q page_limit (omega arith)));
    frames = λ frames some q from before. subst (λ s. HasFrame S id q s) (sym shift) (root_frame S id q top (omega arith));
  }

  -- a record has what it names and nothing takes, as far as its parent has it
  module _ (r : Record) (page end : ℕ) (taken : Rights) (up change : Change)
      (child : is_root r.id ≡ false) (held : S.record_at r.id ≡ Some r) (formed : IsFormedRecord r) (lives : S.is_ended r.space ≡ false) (limit : end ≤ page_limit)
      (inside : (q : ℕ) → page ≤ q → q < end → holds r.place q ≡ true)
      (cut : (q : ℕ) → page ≤ q → q < end → cut_at S r.id q ≡ taken)
      (above : (q : ℕ) → page ≤ q → q < end → seen_in changes r.parent (source_page r q) ≡ up)
      (first : r.place.first_page ≤ page)
      (rights : change.rights ≡ without (common r.rights up.rights) taken)
      (shift : is_empty change.rights ≡ false → up.shift + source_page r page < 2 * page_limit → change.shift ≡ (up.shift + source_page r page) - page) where
    reach : (q : ℕ) → page ≤ q → q < end → reaches r.id r q ≡ true
    reach q from before = and_from (holds r.place q) (nat_lt r.parent.number r.id.number) (inside q from before) (parent_before r formed)

    rights_follow : (q : ℕ) → page ≤ q → q < end → change.rights ≡ rights_from (cached_in changes) S r.id q
    rights_follow q from before =
        rights
        ∙ (λ i. without (common r.rights (sym (above q from before) i).rights) (sym (cut q from before) i))
        ∙ sym (from_up (cached_in changes) S r.id q r child held (reach q from before) lives)

    frames_follow : AreFrames S changes → is_empty change.rights ≡ false → (q : ℕ) → page ≤ q → q < end → HasFrame S r.id q change.shift
    frames_follow frames some q from before =
        let has = up_has S r.id r child held changes frames q (ap is_empty (sym (rights_follow q from before)) ∙ some) in
        let same : (seen_in changes r.parent (source_page r q)).shift ≡ up.shift = λ i. (above q from before i).shift in
        let far = has.far in
        let below = has.below in
        let is = shift some in
        up_frame S r.id r child held q (seen_in changes r.parent (source_page r q)).shift change.shift
        (reach q from before) (omega arith) has (omega (arith, is, same, far, below))

    pub child_follows : Follows S changes r.id page end change
    child_follows = record { rights = rights_follow; frames = frames_follow }
