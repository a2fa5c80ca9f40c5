-- What the state of a copy keeps that hears from no other one.
use Rattle.std.proofs.Common.{◌≡◌, ℕ, Bool, false, Some, refl, sym, ap, subst, List, [], ◌∷◌, inl, inr}
use Rattle.std.specs.Prelude.{Option, None, IfSome}
use Rattle.std.proofs.lemmas.Bool.{or_from}
use Rattle.mapdb_fpage.specs.Place.{IsPlace, Place}
use Rattle.mapdb_fpage.specs.Transfer.{transfer_of}
use Rattle.mapdb_fpage.specs.declared.items.Transfer.{Transfer}
use Rattle.mapdb_fpage.specs.declared.right_sets.Right.{Right}
use Rattle.mapdb_fpage.specs.declared.right_sets.Rights.{Rights}
use Rattle.mapdb_facts.proofs.Maps.Atoms.{first_of_cases, record_held}
use Rattle.mapdb_facts.proofs.Lists.SameNames.{none_some}
use Rattle.mapdb_facts.specs.Names.{is_root}
use Rattle.mapdb_facts.specs.State.{HasAtom, Rec, State, first_of, join, nothing, state_of}
use Rattle.mapdb_facts.specs.declared.names.RecordId.{RecordId}
use Rattle.mapdb_facts.specs.declared.names.Space.{Space}
use Rattle.mapdb_facts.specs.declared.operations.Op.{Op}
use Rattle.mapdb_facts.specs.declared.operations.Op.TheVariants.{Closed}
use Rattle.mapdb_facts.specs.declared.operations.Record.{Record}
use Rattle.mapdb_rights.specs.Meeting.{source_place}
use Rattle.mapdb_replica.specs.Commands.{IsCommand}
use Rattle.mapdb_replica.specs.Issue.{map_candidates}
use Rattle.mapdb_replica.specs.Unmap.{unmap_candidates}
use Rattle.mapdb_replica.specs.declared.commands.Command.{Command}
use Rattle.mapdb_replica.specs.declared.commands.Command.TheVariants.{End, Map, Unmap}
use Rattle.mapdb_sequential.proofs.Lists.Issued.{candidates, carries, issued, state_of_issued}
use Rattle.mapdb_sequential.proofs.Maps.MapLists.{map_cuts, new_whole}
use Rattle.mapdb_replica.proofs.Copies.OpForms.{IsKnown}
use Rattle.mapdb_sequential.proofs.Lists.StateSteps.{IsKept, IsSettled, IsTransfer}
use Rattle.mapdb_replica.proofs.Unmaps.UnmapAtoms.{only_cuts}
use Rattle.mapdb_sequential.proofs.Unmaps.UnmapLists.{unmap_targets}

-- what is joined to a settled state
known_more : (S T : State) (id : RecordId) → IsKnown S id → IsKnown (join S T) id
known_more S T id (inl top) = inl top
known_more S T id (inr (r, held)) = inr (r, ap (λ (o : Option Record). first_of o (T.record_at id)) held)

record NewRecord (S : State) (r : Record) : Type 0 where
  other : is_root r.id ≡ false
  place : IsPlace r.place
  behind : IsPlace (source_place r)
  parent : IsKnown S r.parent

first_none : (a b : Option Record) → first_of a b ≡ None → a ≡ None
first_none (Some r) b h = h
first_none None b h = refl

settled_join : (S : State) (xs : List Op) → IsSettled S → ((r : Record) → HasAtom xs (Rec r) → NewRecord S r)
    → ((id : RecordId) (page : ℕ) (right : Right) → is_root id ≡ false → S.record_at id ≡ None → (state_of xs).is_cut id page right ≡ false)
    → IsSettled (join S (state_of xs))
settled_join S xs settled each uncut = record {
  form = record {
    no_root = λ id r h. either id r (λ (x : Record). is_root id ≡ false) (settled.form.no_root id r)
        (λ new same. subst (λ (x : RecordId). is_root x ≡ false) same new.other) h;
    places = λ id r h. either id r (λ (x : Record). IsPlace x.place) (settled.form.places id r) (λ new same. new.place) h;
    sources = λ id r h. either id r (λ (x : Record). IsPlace (source_place x)) (settled.form.sources id r) (λ new same. new.behind) h;
  };
  grown = record {
    parents = λ id r h. either id r (λ (x : Record). IsKnown (join S (state_of xs)) x.parent)
        (λ held. known_more S (state_of xs) r.parent (settled.grown.parents id r held))
        (λ new same. known_more S (state_of xs) r.parent new.parent) h;
    targets = λ id page right other none.
        (let before : S.record_at id ≡ None = first_none (S.record_at id) ((state_of xs).record_at id) none in
        or_from (S.is_cut id page right) ((state_of xs).is_cut id page right) (settled.grown.targets id page right other before)
        (uncut id page right other before));
  };
}
  where
    either : (id : RecordId) (r : Record) (P : Record → Type 0) → (S.record_at id ≡ Some r → P r) → (NewRecord S r → r.id ≡ id → P r)
        → (join S (state_of xs)).record_at id ≡ Some r → P r
    either id r P old new h =
        elim (first_of_cases (S.record_at id) ((state_of xs).record_at id) r h) [
          | inl yet ↦ old yet
          | inr now ↦ let found = record_held xs id r now in new (each r found.0) found.1
        ]

pub settled_start : IsSettled nothing
settled_start = record {
  form = record { no_root = λ id r h. absurd (none_some r h); places = λ id r h. absurd (none_some r h); sources = λ id r h. absurd (none_some r h) };
  grown = record { parents = λ id r h. absurd (none_some r h); targets = λ id page right other none. refl };
}

new_in_map : (ops : List Op) (processor : ℕ) (sender receiver : Space) (t : Transfer) → IsKept ops → IsTransfer t → (r : Record)
    → HasAtom (map_candidates ops processor sender (Some t) receiver) (Rec r) → NewRecord (state_of ops) r
new_in_map ops processor sender receiver t kept is r h =
    let new = new_whole ops kept.form processor sender receiver t.source t.target t.rights is.from is.to is.size r h in
    record { other = new.other; place = new.place; behind = new.behind; parent = new.known }

settled_map : (ops : List Op) (processor : ℕ) (sender receiver : Space) (o : Option Transfer) → IsKept ops → IfSome o IsTransfer
    → IsSettled (join (state_of ops) (state_of (map_candidates ops processor sender o receiver)))
settled_map ops processor sender receiver None kept is = settled_join (state_of ops) [] kept (λ r h. absurd h) (λ id page right other none. refl)
settled_map ops processor sender receiver (Some t) kept is =
    settled_join (state_of ops) (map_candidates ops processor sender (Some t) receiver) kept (new_in_map ops processor sender receiver t kept is)
    (λ id page right other none. map_cuts ops processor sender receiver t id page right)

settled_unmap : (ops : List Op) (space : Space) (o : Option Place) (rights : Rights) (flush : Bool) → IsKept ops → IfSome o IsPlace
    → IsSettled (join (state_of ops) (state_of (unmap_candidates ops space o rights flush)))
settled_unmap ops space None rights flush kept is = settled_join (state_of ops) [] kept (λ r h. absurd h) (λ id page right other none. refl)
settled_unmap ops space (Some part) rights flush kept is =
    settled_join (state_of ops) (unmap_candidates ops space (Some part) rights flush) kept
    (λ r h. absurd ((only_cuts ops kept.form space part is rights flush (Rec r) h).1))
    (unmap_targets ops kept.form space part is rights flush)

no_record : (space : Space) (r : Record) → HasAtom (Closed space ∷ []) (Rec r) → ⊥
no_record space r (inl h) = h
no_record space r (inr h) = h

settled_after : (ops : List Op) (processor : ℕ) (command : Command) → IsKept ops → IsCommand command
    → IsSettled (join (state_of ops) (state_of (candidates ops processor command)))
settled_after ops processor (Map sender item receiver window) kept is =
    settled_map ops processor sender receiver (transfer_of item window) kept (carries item.send_base item.rights item.page window is.0 is.1)
settled_after ops processor (Unmap space page rights flush) kept is = settled_unmap ops space page rights flush kept is
settled_after ops processor (End space) kept is =
    settled_join (state_of ops) (Closed space ∷ []) kept (λ r h. absurd (no_record space r h)) (λ id page right other none. refl)

pub kept_after : (ops : List Op) (processor : ℕ) (command : Command) → IsKept ops → IsCommand command
    → IsKept (issued ops (candidates ops processor command))
kept_after ops processor command kept is = subst IsSettled (sym (state_of_issued ops (candidates ops processor command)))
    (settled_after ops processor command kept is)
