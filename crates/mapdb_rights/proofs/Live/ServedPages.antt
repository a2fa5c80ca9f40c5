-- What a page is served from, as its first record says.
use Rattle.std.proofs.Common.{◌≡◌, ℕ, ◌+◌, ◌<◌, true, false, Some, refl, sym, ap, ◌∙◌, arith, inl, inr}
use Rattle.std.proofs.lemmas.Bool.{true≢false}
use Rattle.mapdb_fpage.proofs.RightLemmas.{some_here}
use Rattle.mapdb_fpage.specs.Bounds.{page_limit}
use Rattle.mapdb_fpage.specs.RightSets.{includes, is_empty}
use Rattle.mapdb_fpage.specs.declared.right_sets.Right.{Right}
use Rattle.mapdb_fpage.specs.declared.right_sets.Right.TheVariants.{Execute, Read, Write}
use Rattle.mapdb_fpage.specs.declared.right_sets.Rights.{Rights}
use Rattle.mapdb_facts.specs.Names.{is_before}
use Rattle.mapdb_facts.specs.State.{State}
use Rattle.mapdb_facts.specs.declared.names.RecordId.{RecordId}
use Rattle.mapdb_facts.specs.declared.names.Space.{Space}
use Rattle.mapdb_lists.specs.Changes.{seen_in}
use Rattle.mapdb_lists.specs.declared.changes.Change.{Change}
use Rattle.mapdb_rights.specs.CachedFrames.{HasFrame}
use Rattle.mapdb_rights.specs.First.{IsAllAsFar, IsFirstOfAll}
use Rattle.mapdb_rights.specs.Frame.{frame_at}
use Rattle.mapdb_rights.specs.Index.{KeepsUp, StandsFor}
use Rattle.mapdb_rights.specs.Live.{IsLive}
use Rattle.mapdb_rights.specs.PageRights.{HasPair}
use Rattle.mapdb_rights.specs.Right.{has_right, rights_at}
use Rattle.mapdb_rights.specs.Served.{IsServed}
use Rattle.mapdb_rights.specs.declared.index.first_records.First.TheVariants.{Alike, Mixed}
use Rattle.mapdb_rights.specs.declared.index.rights_index.RightsIndex.{RightsIndex}
use Rattle.mapdb_rights.proofs.Rights.OneFrameRelation.{some_number}

pub right_in : (S : State) (id : RecordId) (page : ℕ) (right : Right) → includes (rights_at S id page) right ≡ has_right S id page right
right_in S id page Read = refl
right_in S id page Write = refl
right_in S id page Execute = refl

-- an index that is there stands for the state
pub stands_there : (S : State) (index : RightsIndex) → KeepsUp index S → index.absent ≡ false → StandsFor index S
stands_there S index kept there = elim kept [
  | inl absent ↦ absurd (true≢false (sym absent ∙ there))
  | inr stands ↦ stands
]

module _ (S : State) (index : RightsIndex) (stands : StandsFor index S) (space : Space) (page : ℕ) where
  abbrev seen : RecordId → Change
  seen id = seen_in index.changes.own.entries id page

  -- what is cached are the rights
  cached_right : (id : RecordId) (right : Right) → includes (seen id).rights right ≡ has_right S id page right
  cached_right id right = ap (λ (r : Rights). includes r right) (stands.stands.shows.rights id page) ∙ right_in S id page right

  has_frame : (id : RecordId) → IsLive S space page id → HasFrame S id page (seen id).shift
  has_frame id live = stands.stands.shows.frames id page (ap is_empty (stands.stands.shows.rights id page) ∙ live.has_some)

  module _ (first : RecordId) (live : IsLive S space page first) (shift frame : ℕ) (is : (seen first).shift ≡ shift)
      (far : (f : ℕ) → f < page_limit → f + page_limit ≡ page + shift → frame ≡ f) where
    -- a record reaches the frame where it is as far from the page
    frame_is : (id : RecordId) → IsLive S space page id → (seen id).shift ≡ shift → frame_at S id page ≡ Some frame
    frame_is id of same =
        let has = has_frame id of in
        has.reached ∙ sym (ap Some (far has.frame has.below (has.far ∙ ap (λ (s : ℕ). page + s) same)))

    shift_is : (id : RecordId) → IsLive S space page id → frame_at S id page ≡ Some frame → (seen id).shift ≡ shift
    shift_is id of reached =
        let has = has_frame id of in
        let own = has_frame first live in
        let same : has.frame ≡ own.frame = some_number has.frame own.frame (sym has.reached ∙ reached ∙ sym (frame_is first live is) ∙ own.reached) in
        let far_here = has.far in
        let far_own = own.far in
        omega (arith, same, far_here, far_own, is)

    pub served_from : (rights : Rights) → ((other : RecordId) → IsLive S space page other → is_before other first ≡ false)
        → IsAllAsFar S index.changes.own.entries space page shift rights → IsServed S space page (Some (frame, rights))
    served_from rights least all = (
      first,
      record { into = live.into; has_some = live.has_some; least = λ other into some. least other (record { into = into; has_some = some }) },
      frame_is first live is,
      λ right. (to right, from right),
    )
      where
        to : (right : Right) → includes rights right ≡ true → HasPair S space page frame right
        to right h = let found = all.found right h in (found.id, found.live.into, sym (cached_right found.id right) ∙ found.has, frame_is found.id found.live found.far)

        from : (right : Right) → HasPair S space page frame right → includes rights right ≡ true
        from right (id, into, has, reached) =
            let of : IsLive S space page id = record { into = into; has_some = some_here (rights_at S id page) right (right_in S id page right ∙ has) } in
            all.all id of (shift_is id of reached) right (cached_right id right ∙ has)

  -- where all reach one frame, from that one
  pub served_alike : (id : RecordId) (change : Change) (frame : ℕ) → IsFirstOfAll S index.changes.own.entries space page (Alike id change)
      → ((f : ℕ) → f < page_limit → f + page_limit ≡ page + change.shift → frame ≡ f) → IsServed S space page (Some (frame, change.rights))
  served_alike id change frame first far =
      served_from id first.found.live change.shift frame first.found.far far change.rights (λ other live. (first.all other live).0)
      (record { found = first.found.rights; all = λ other live same. (first.all other live).2 })

  -- else from the first one's
  pub served_mixed : (id : RecordId) (change : Change) (frame : ℕ) (rights : Rights) → IsFirstOfAll S index.changes.own.entries space page (Mixed id change)
      → ((f : ℕ) → f < page_limit → f + page_limit ≡ page + change.shift → frame ≡ f) → IsAllAsFar S index.changes.own.entries space page change.shift rights
      → IsServed S space page (Some (frame, rights))
  served_mixed id change frame rights first far all = served_from id first.found.0 change.shift frame first.found.1 far rights first.all all
