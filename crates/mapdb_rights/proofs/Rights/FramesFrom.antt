-- The frame that comes from the parent's, and how far it goes on.
use Rattle.std.proofs.Common.{◌≡◌, ℕ, ◌+◌, ◌-◌, ◌<◌, ◌≤◌, true, false, [], refl, sym, ap, ◌∙◌, subst, arith, inl, inr}
use Rattle.std.specs.Prelude.{Option, Some, None, if◌then◌else◌}
use Rattle.std.proofs.lemmas.Bool.{cases_Bool, cond-false, cond-true, lt-ltb, ltb-true, false≢true}
use Rattle.mapdb_fpage.specs.Bounds.{page_limit}
use Rattle.mapdb_fpage.specs.Place.{is_page}
use Rattle.mapdb_fpage.specs.RightSets.{is_empty, no_rights}
use Rattle.mapdb_fpage.specs.declared.right_sets.Rights.{Rights}
use Rattle.mapdb_facts.specs.Names.{is_root}
use Rattle.mapdb_facts.specs.State.{State, join}
use Rattle.mapdb_facts.specs.declared.names.RecordId.{RecordId}
use Rattle.mapdb_facts.specs.declared.operations.Record.{Record}
use Rattle.mapdb_lists.specs.declared.changes.Change.{Change}
use Rattle.mapdb_lists.specs.Changes.{covers, PageChanges, at_first, past_the_end, cached_in, change_at, changed, seen_in}
use Rattle.mapdb_lists.proofs.ChangeLemmas.LastChanges.{changed-none}
use Rattle.mapdb_rights.specs.Caching.{rights_from}
use Rattle.mapdb_rights.specs.CachedFrames.{AreFrames, HasFrame}
use Rattle.mapdb_rights.specs.PageRights.{pair_with}
use Rattle.mapdb_rights.specs.Right.{reaches, source_page}
use Rattle.mapdb_rights.proofs.Rights.Frames.{frames_stay}
use Rattle.mapdb_rights.proofs.Rights.FromParents.{from_powerless}
use Rattle.mapdb_rights.proofs.Settling.Settlement.{covered}
use Rattle.mapdb_rights.proofs.Rights.Steps.{frame_at-root}
use Rattle.mapdb_rights.proofs.Rights.Walk.{frame_at-up}
use Rattle.mapdb_facts.proofs.Maps.CutRuns.{empty_none}

-- what has no rights is not what has some
pub no_longer_none : (a : Rights) → a ≡ no_rights → is_empty a ≡ false → ⊥
no_longer_none a none some = false≢true (sym some ∙ ap is_empty none)

-- each page of the root is its own frame
pub root_frame : (S : State) (id : RecordId) (page : ℕ) → is_root id ≡ true → page < page_limit → HasFrame S id page page_limit
root_frame S id page top inside = record {
  frame = page;
  reached = frame_at-root S id page top ∙ cond-true (is_page page) (Some page) None (lt-ltb page page_limit inside);
  below = inside;
  far = refl;
}

module _ (S : State) (id : RecordId) where
  -- that of a record is its parent's, as far as the source page lies from the page
  module _ (r : Record) (other : is_root id ≡ false) (held : S.record_at id ≡ Some r) where
    pub up_frame : (page up shift : ℕ) → reaches id r page ≡ true → page < page_limit → HasFrame S r.parent (source_page r page) up → shift ≡ (up + source_page r page) - page → HasFrame S id page shift
    up_frame page up shift reach inside has is =
        let far = has.far in
        record {
          frame = has.frame;
          reached = frame_at-up S id r page other held reach ∙ has.reached;
          below = has.below;
          far = omega arith;
        }

    module _ (changes : PageChanges) (frames : AreFrames S changes) where
      -- a record has rights where its parent has some
      up_some : (page : ℕ) → is_empty (rights_from (cached_in changes) S id page) ≡ false → is_empty (cached_in changes r.parent (source_page r page)) ≡ false
      up_some page some =
          elim (cases_Bool (is_empty (cached_in changes r.parent (source_page r page)))) [
            | inr has ↦ has
            | inl none ↦ absurd (no_longer_none (rights_from (cached_in changes) S id page)
                (from_powerless (cached_in changes) S id page r other held (empty_none (cached_in changes r.parent (source_page r page)) none)) some)
          ]

      pub up_has : (page : ℕ) → is_empty (rights_from (cached_in changes) S id page) ≡ false → HasFrame S r.parent (source_page r page) (seen_in changes r.parent (source_page r page)).shift
      up_has page some = frames r.parent (source_page r page) (up_some page some)

-- frames stay, whatever is said after
pub frames_later : (S T : State) (changes : PageChanges) → AreFrames S changes → AreFrames (join S T) changes
frames_later S T changes frames id page some =
    let has = frames id page some in
    record { frame = has.frame; reached = frames_stay S T id page has.frame has.reached; below = has.below; far = has.far }

-- frames that are right for what is written, with those that stay
pub frames_written : (S : State) (old new : PageChanges) (id : RecordId) (first end : ℕ) (change : Change) → AreFrames S old
    → (is_empty change.rights ≡ false → (q : ℕ) → first ≤ q → q < end → HasFrame S id q change.shift)
    → ((other : RecordId) (page : ℕ) → seen_in new other page ≡ (if covers id first end other page then change else seen_in old other page))
    → AreFrames S new
frames_written S old new id first end change frames given written other page some =
    elim (cases_Bool (covers id first end other page)) [
      | inl inside ↦
          let c = covered id first end other page inside in
          let is = written other page ∙ cond-true (covers id first end other page) change (seen_in old other page) inside in
          subst (λ (t : Change). HasFrame S other page t.shift) (sym is)
          (subst (λ (o : RecordId). HasFrame S o page change.shift) c.same
          (given (ap (λ (t : Change). is_empty t.rights) (sym is) ∙ some) page c.from c.before))
      | inr out ↦
          let is = written other page ∙ cond-false (covers id first end other page) change (seen_in old other page) out in
          subst (λ (t : Change). HasFrame S other page t.shift) (sym is)
          (frames other page (ap (λ (t : Change). is_empty t.rights) (sym is) ∙ some))
    ]

-- before any change the root alone has rights
pub no_change_frames : (S : State) → AreFrames S []
no_change_frames S id page some =
    elim (cases_Bool (is_page page)) [
      | inr out ↦ absurd (no_longer_none (cached_in [] id page) (λ i. (cond-false (is_page page) (changed (change_at [] id) (at_first id) page) past_the_end out i).rights) some)
      | inl inside ↦
          let is = cond-true (is_page page) (changed (change_at [] id) (at_first id) page) past_the_end inside ∙ changed-none (change_at [] id) (at_first id) page (λ q _. refl) in
          elim (cases_Bool (is_root id)) [
            | inl top ↦ subst (λ (s : ℕ). HasFrame S id page s) (λ i. (sym is i).shift) (root_frame S id page top (ltb-true page page_limit inside))
            | inr other ↦ absurd (no_longer_none (cached_in [] id page) ((λ i. (is i).rights) ∙ cond-false (is_root id) _ _ other) some)
          ]
    ]

-- a pair, where there are rights
pub pair_is : (o : Option ℕ) (rights own : Rights) (frame reached : ℕ) → o ≡ Some reached → frame ≡ reached → own ≡ rights → is_empty own ≡ false → Some (frame, own) ≡ pair_with o rights
pair_is o rights own frame reached at is same some =
    (λ i. Some (is i, same i))
    ∙ sym (cond-false (is_empty rights) None (Some (reached, rights)) (ap is_empty (sym same) ∙ some))
    ∙ ap (λ (p : Option ℕ). pair_with p rights) (sym at)
