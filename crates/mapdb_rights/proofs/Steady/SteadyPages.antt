-- A record goes on steadily as far as its parent does and nothing of its own changes.
use Rattle.std.proofs.Common.{◌≡◌, ℕ, ◌+◌, ◌-◌, ◌<◌, ◌≤◌, Bool, true, false, Some, sym, ap, ◌∙◌, arith}
use Rattle.std.specs.Prelude.{◌&&◌, nat_lt, not, None}
use Rattle.std.proofs.lemmas.Bool.{and_parts, cond-true, lt-ltb}
use Rattle.mapdb_fpage.proofs.Meets.{holds_range}
use Rattle.mapdb_fpage.specs.Bounds.{page_limit}
use Rattle.mapdb_fpage.specs.Place.{holds, is_page}
use Rattle.mapdb_fpage.specs.RightSets.{all_rights, includes, rights_where, without}
use Rattle.mapdb_fpage.specs.declared.right_sets.Right.{Right}
use Rattle.mapdb_fpage.specs.declared.right_sets.Right.TheVariants.{Read, Write, Execute}
use Rattle.mapdb_fpage.specs.declared.right_sets.Rights.{Rights}
use Rattle.mapdb_facts.specs.Adding.{cut_at}
use Rattle.mapdb_facts.specs.Names.{is_root}
use Rattle.mapdb_facts.specs.State.{State}
use Rattle.mapdb_facts.specs.declared.names.RecordId.{RecordId}
use Rattle.mapdb_facts.specs.declared.operations.Record.{Record}
use Rattle.mapdb_rights.specs.Frame.{frame_at}
use Rattle.mapdb_rights.specs.Right.{has_right, reaches, source_page}
use Rattle.mapdb_rights.specs.Steady.{GoesOn, IsSteady, frame_on}
use Rattle.mapdb_rights.proofs.Rights.Steps.{frame_at-none, frame_at-root, has_right-record}
use Rattle.mapdb_rights.proofs.Rights.Walk.{frame_at-outside, frame_at-up, rights_at-none, rights_at-outside, rights_at-root}
use Rattle.mapdb_facts.proofs.Maps.CutRuns.{same_where}

-- the record goes on so over so many pages
abbrev pub GoesOnFor : State → RecordId → ℕ → ℕ → Type 0
GoesOnFor S id page total = (count : ℕ) → count < total → GoesOn S id page count

-- equal sets have each right alike
same_at : (f g : Right → Bool) → rights_where f ≡ rights_where g → (right : Right) → f right ≡ g right
same_at f g same Read = ap (λ (r : Rights). r.read) same
same_at f g same Write = ap (λ (r : Rights). r.write) same
same_at f g same Execute = ap (λ (r : Rights). r.execute) same

alike : (a b i j k e p q : Bool) → a ≡ b → j ≡ k → p ≡ q → (a && (i && not j && not e) && p) ≡ (b && (i && not k && not e) && q)
alike a b i j k e p q same_reach same_cut same_parent = cc

module _ (S : State) (id : RecordId) (page count : ℕ) where
  -- where there is no record
  goes_on-none : is_root id ≡ false → S.record_at id ≡ None → GoesOn S id page count
  goes_on-none other none = record {
    rights = rights_at-none S id (page + count) other none ∙ sym (rights_at-none S id page other none);
    frame = frame_at-none S id (page + count) other none ∙ sym (ap (frame_on count) (frame_at-none S id page other none));
  }

  -- outside the place
  goes_on-outside : (r : Record) → is_root id ≡ false → S.record_at id ≡ Some r → holds r.place page ≡ false → holds r.place (page + count) ≡ holds r.place page
      → GoesOn S id page count
  goes_on-outside r other held out same = record {
    rights = rights_at-outside S id r (page + count) other held (same ∙ out) ∙ sym (rights_at-outside S id r page other held out);
    frame = frame_at-outside S id r (page + count) other held (same ∙ out) ∙ sym (ap (frame_on count) (frame_at-outside S id r page other held out));
  }

  -- at the root
  goes_on-root : is_root id ≡ true → page + count < page_limit → cut_at S id (page + count) ≡ cut_at S id page → GoesOn S id page count
  goes_on-root top inside same =
      let here : page < page_limit = omega arith in
      let first : is_page page ≡ true = lt-ltb page page_limit here in
      let later : is_page (page + count) ≡ true = lt-ltb (page + count) page_limit inside in
      record {
        rights = rights_at-root S id (page + count) top later ∙ ap (without all_rights) same ∙ sym (rights_at-root S id page top first);
        frame = frame_at-root S id (page + count) top ∙ cond-true (is_page (page + count)) (Some (page + count)) None later
            ∙ sym (ap (frame_on count) (frame_at-root S id page top ∙ cond-true (is_page page) (Some page) None first));
      }

  -- inside the place, as the parent does
  goes_on-up : (r : Record) → is_root id ≡ false → S.record_at id ≡ Some r → reaches id r page ≡ true → holds r.place (page + count) ≡ holds r.place page
      → cut_at S id (page + count) ≡ cut_at S id page → GoesOn S r.parent (source_page r page) count → GoesOn S id page count
  goes_on-up r other held reach same same_cut up =
      record {
        rights = same_where (has_right S id (page + count)) (has_right S id page) (λ right.
            has_right-record S id r (page + count) right other held
            ∙ alike (reaches id r (page + count)) (reaches id r page) (includes r.rights right) (S.is_cut id (page + count) right) (S.is_cut id page right) (S.is_ended r.space)
            (has_right S r.parent (source_page r (page + count)) right) (has_right S r.parent (source_page r page) right)
            reach_same (same_at (S.is_cut id (page + count)) (S.is_cut id page) same_cut right)
            (ap (λ n. has_right S r.parent n right) source
            ∙ same_at (has_right S r.parent (source_page r page + count)) (has_right S r.parent (source_page r page)) up.rights right)
            ∙ sym (has_right-record S id r page right other held));
        frame = frame_at-up S id r (page + count) other held (reach_same ∙ reach) ∙ ap (frame_at S r.parent) source ∙ up.frame
            ∙ sym (ap (frame_on count) (frame_at-up S id r page other held reach));
      }
    where
      reach_same : reaches id r (page + count) ≡ reaches id r page
      reach_same = ap (λ (b : Bool). b && nat_lt r.parent.number id.number) same

      source : source_page r (page + count) ≡ source_page r page + count
      source = let range = holds_range r.place page (and_parts (holds r.place page) (nat_lt r.parent.number id.number) reach).0 in omega arith

-- What is kept on the way up: what the record at hand does, the record below does.
module _ (S : State) (id : RecordId) (page : ℕ) where
  abbrev pub Leads : RecordId → ℕ → ℕ → Type 0
  Leads at at_page count = (total : ℕ) → total ≤ count → GoesOnFor S at at_page total → GoesOnFor S id page total

  pub leads-first : (count : ℕ) → Leads id page count
  leads-first count total few h = h

  pub leads-up : (at : RecordId) (r : Record) (at_page up count change cut less least : ℕ) → is_root at ≡ false → S.record_at at ≡ Some r → reaches at r at_page ≡ true
      → up ≡ source_page r at_page → less ≤ count → less ≤ change - at_page → least ≤ less → least ≤ cut - at_page
      → ((q : ℕ) → at_page ≤ q → q < change → holds r.place q ≡ holds r.place at_page)
      → ((q : ℕ) → at_page ≤ q → q < cut → cut_at S at q ≡ cut_at S at at_page)
      → Leads at at_page count → Leads r.parent up least
  leads-up at r at_page up count change cut less least other held reach is_up a b d e same same_cut kept total few h =
      kept total (omega arith) (λ n lt.
      goes_on-up S at at_page n r other held reach (same (at_page + n) (omega arith) (omega arith)) (same_cut (at_page + n) (omega arith) (omega arith))
      (rw (← is_up) (h n lt)))

  pub leads-none : (at : RecordId) (at_page count end : ℕ) → is_root at ≡ false → S.record_at at ≡ None → end ≡ page + count → Leads at at_page count → IsSteady S id page end
  leads-none at at_page count end other none is kept n lt =
      kept count (omega arith) (λ m few. goes_on-none S at at_page m other none) n (omega arith)

  pub leads-outside : (at : RecordId) (r : Record) (at_page count change less end : ℕ) → is_root at ≡ false → S.record_at at ≡ Some r → holds r.place at_page ≡ false
      → less ≤ count → less ≤ change - at_page → end ≡ page + less
      → ((q : ℕ) → at_page ≤ q → q < change → holds r.place q ≡ holds r.place at_page) → Leads at at_page count → IsSteady S id page end
  leads-outside at r at_page count change less end other held out a b is same kept n lt =
      kept less a (λ m few. goes_on-outside S at at_page m r other held out (same (at_page + m) (omega arith) (omega arith))) n (omega arith)

  pub leads-root : (at : RecordId) (at_page count cut less end : ℕ) → is_root at ≡ true → cut ≤ page_limit → less ≤ count → less ≤ cut - at_page → end ≡ page + less
      → ((q : ℕ) → at_page ≤ q → q < cut → cut_at S at q ≡ cut_at S at at_page) → Leads at at_page count → IsSteady S id page end
  leads-root at at_page count cut less end top limit a b is same kept n lt =
      kept less a (λ m few. goes_on-root S at at_page m top (omega arith) (same (at_page + m) (omega arith) (omega arith))) n (omega arith)
