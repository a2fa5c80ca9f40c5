-- An Unmap reaches all that its issuer saw.
use Rattle.std.proofs.Common.{◌≡◌, ℕ, zero, suc, Bool, true, false, Some, Ok, Err, Result, refl, sym, subst, ◌∙◌, inl, inr, List, ◌++◌}
use Rattle.std.specs.Prelude.{◌&&◌, not, None, Option, IfSome, OnOk}
use Rattle.std.proofs.lemmas.Bool.{and_parts, cases_Bool, false≢true}
use Rattle.mapdb_fpage.proofs.Booleans.{same_test}
use Rattle.mapdb_fpage.specs.Place.{IsPlace, Place, is_page}
use Rattle.mapdb_fpage.specs.RightSets.{includes, is_empty}
use Rattle.mapdb_fpage.specs.declared.right_sets.Right.{Right}
use Rattle.mapdb_fpage.specs.declared.right_sets.Rights.{Rights}
use Rattle.mapdb_facts.proofs.Maps.Atoms.{atom_kept}
use Rattle.mapdb_facts.proofs.Lists.SameNames.{some_same}
use Rattle.mapdb_facts.proofs.States.Joins.{atom_right}
use Rattle.mapdb_facts.specs.Names.{is_root}
use Rattle.mapdb_facts.specs.State.{HasAtom, Rev, State, state_of}
use Rattle.mapdb_facts.specs.WellFormed.{all_formed}
use Rattle.mapdb_facts.specs.declared.names.RecordId.{RecordId}
use Rattle.mapdb_facts.specs.declared.names.Space.{Space}
use Rattle.mapdb_facts.specs.declared.operations.Op.{Op}
use Rattle.mapdb_facts.specs.declared.operations.Record.{Record}
use Rattle.mapdb_replica.proofs.Calls.CallCases.{issue_cases}
use Rattle.mapdb_replica.proofs.News.NewsAtoms.{news_give}
use Rattle.mapdb_fpage.proofs.RightLemmas.{some_here}
use Rattle.mapdb_replica.proofs.Calls.SoundIssues.{issued_news}
use Rattle.mapdb_replica.specs.Forms.{HavePlaces}
use Rattle.mapdb_replica.specs.Replica.{Issues, Log}
use Rattle.mapdb_replica.specs.Unmap.{ended_refusal, unmap_candidates, unmap_outcome}
use Rattle.mapdb_replica.specs.declared.faults.IssueFault.{IssueFault}
use Rattle.mapdb_replica.specs.declared.pieces.Holder.{Holder}
use Rattle.mapdb_rights.proofs.Rights.Backed.{backing}
use Rattle.mapdb_rights.proofs.Rights.Steps.{has_right-root}
use Rattle.mapdb_rights.specs.Right.{has_right, source_page}
use Rattle.mapdb_replica.proofs.Unmaps.SharedPlaces.{lies_place}
use Rattle.mapdb_replica.proofs.Copies.OpForms.{IsFormed, formed_has_form}
use Rattle.mapdb_replica.proofs.Unmaps.TakenPages.{IsTakenAt}
use Rattle.mapdb_replica.proofs.Unmaps.UnmapAtoms.{sound_cuts, take_unmap}
use Rattle.mapdb_replica.specs.Reaching.{LeadsUpTo, HasNoneBelow, HasTaken, NoneLeft, Reaches, TakesAll}

-- what is cut is not had
not_and_not : (a b : Bool) → b ≡ true → (a && not b) ≡ true → ⊥
not_and_not true true e h = false≢true h
not_and_not false b e h = false≢true h
not_and_not true false e h = false≢true e

cut_none : (S : State) (id : RecordId) (page : ℕ) (right : Right) → S.is_cut id page right ≡ true → has_right S id page right ≡ true → ⊥
cut_none S id page right cut has =
    elim (cases_Bool (is_root id)) [
      | inl top ↦ not_and_not (is_page page) (S.is_cut id page right) cut (sym (has_right-root S id page right top) ∙ has)
      | inr other ↦
          let b = backing S id page right other has in
          let parts = and_parts (includes b.r.rights right && not (S.is_cut id page right)) (not (S.is_ended b.r.space)) b.allowed in
          not_and_not (includes b.r.rights right) (S.is_cut id page right) cut parts.0
    ]

-- a right that is had below is had above
had_above : (S : State) (steps : ℕ) (id : RecordId) (page : ℕ) (top : RecordId) (at : ℕ) (right : Right) → LeadsUpTo S steps id page top at
    → has_right S id page right ≡ true → has_right S top at right ≡ true
had_above S zero id page top at right (same, there) has = subst (λ (x : RecordId). has_right S x at right ≡ true) same
    (subst (λ p. has_right S id p right ≡ true) there has)
had_above S (suc steps) id page top at right (other, r, held, up) has =
    let b = backing S id page right other has in
    let is : b.r ≡ r = some_same b.r r (sym b.held ∙ held) in
    had_above S steps r.parent (source_page r page) top at right up
    (subst (λ (x : Record). has_right S x.parent (source_page x page) right ≡ true) is b.parent_has)

none_below : (S : State) (top : RecordId) (at : ℕ) (right : Right) → S.is_cut top at right ≡ true → HasNoneBelow S top at right
none_below S top at right cut steps id page leads =
    same_test (has_right S id page right) false (λ h. absurd (cut_none S top at right cut (had_above S steps id page top at right leads h)))
    (λ h. absurd (false≢true h))

-- every state that has what an Unmap of well-formed operations takes is reached
pub unmap_reaches : (ops : List Op) (space : Space) (part : Place) (rights : Rights) (flush : Bool) → all_formed ops ≡ true → HavePlaces ops → IsPlace part
    → (S : State) → TakesAll S (unmap_candidates ops space (Some part) rights flush)
    → (right : Right) → includes rights right ≡ true → NoneLeft ops space part flush S right
unmap_reaches ops space part rights flush all places place S takes right named = record {
  children = λ id child page sees.
      (let at = lies_place (state_of ops) child.parent (source_page child page) sees.parent_lies in
      none_below S id page right (taken id page (record { id = child.parent; place = at.0 })
      (record {
        named = named;
        into = sees.parent_into;
        place = at.1;
        which = inl (child, record { held = sees.held; parent = refl; inside = sees.inside; from_holder = at.2; from_part = sees.from_part });
      })));
  own = λ flushed id page sees.
      (let at = lies_place (state_of ops) id page sees.lies in
      none_below S id page right (taken id page (record { id = id; place = at.0 })
      (record {
        named = named;
        into = sees.into;
        place = at.1;
        which = inr (record { flushed = flushed; is = refl; inside = at.2; in_part = sees.in_part });
      })));
}
  where
    form : IsFormed ops
    form = formed_has_form ops all places

    taken : (id : RecordId) (page : ℕ) (holder : Holder) → IsTakenAt (state_of ops) space part rights flush id page right holder
        → S.is_cut id page right ≡ true
    taken id page holder is =
        takes id page right (atom_kept (unmap_candidates ops space (Some part) rights flush) (Rev id page right)
        (sound_cuts ops form space part place rights flush)
        (take_unmap ops form space part place rights flush id page right holder is))

reaches : (ops : List Op) (space : Space) (page : Option Place) (rights : Rights) (flush : Bool) → all_formed ops ≡ true → HavePlaces ops
    → (is_empty rights ≡ false → IfSome page IsPlace) → Reaches ops space page rights flush
reaches ops space None rights flush all places is part same S takes right named = absurd (no_part part same)
  where
    no_part : (part : Place) → None ≡ Some part → ⊥
    no_part part e = cc
reaches ops space (Some page) rights flush all places is part same S takes right named =
    unmap_reaches ops space part rights flush all places (subst IsPlace (same_part page part same) (is (some_here rights right named))) S
    (subst (λ (o : Option Place). TakesAll S (unmap_candidates ops space o rights flush)) same takes) right named
  where
    same_part : (a b : Place) → Some a ≡ Some b → a ≡ b
    same_part a b e = cc

pub reached : {A : Type 0} → (result : Result A IssueFault) (ops : List Op) (space : Space) (page : Option Place) (rights : Rights) (flush : Bool)
    → all_formed ops ≡ true → HavePlaces ops → OnOk result (is_empty rights ≡ false → IfSome page IsPlace)
    → OnOk result (Reaches ops space page rights flush)
reached (Ok answer) ops space page rights flush all places is = reaches ops space page rights flush all places is
reached (Err fault) ops space page rights flush all places is = tt

-- a copy that issued an Unmap has taken it
pub issued_taken : {A : Type 0} → (result : Result A IssueFault) (old new : Log) (space : Space) (page : Option Place) (rights : Rights) (flush : Bool)
    → Issues (unmap_outcome old space page rights flush) result old new → OnOk result (HasTaken new.ops old.ops space page rights flush)
issued_taken result old new space page rights flush = by_outcome result (unmap_outcome old space page rights flush) refl
  where
    candidates : List Op
    candidates = unmap_candidates old.ops space page rights flush

    by_outcome : {A : Type 0} → (result : Result A IssueFault) (outcome : Result (List Op) IssueFault) → unmap_outcome old space page rights flush ≡ outcome
        → Issues outcome result old new → OnOk result (HasTaken new.ops old.ops space page rights flush)
    by_outcome (Err fault) outcome is issues = tt
    by_outcome (Ok answer) (Err refusal) is issues = absurd (issue_cases (Err refusal) (Ok answer) old new issues)
    by_outcome (Ok answer) (Ok ops) is issues = λ atom has.
        subst (λ (log : Log). HasAtom log.ops atom) (sym issues.1)
        (subst (λ (xs : List Op). HasAtom (old.ops ++ xs) atom)
        (sym (issued_news (ended_refusal (state_of old.ops) space) old.ops candidates ops is))
        ((news_give old.ops candidates atom).1 (atom_right old.ops candidates atom has)))
