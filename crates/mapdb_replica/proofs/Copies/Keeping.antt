-- What a copy keeps when an operation is added.
use Rattle.std.proofs.Common.{◌≡◌, ℕ, suc, ◌+◌, ◌<◌, ◌≤◌, Bool, true, false, Ok, Err, Result, refl, sym, ap, subst, ◌∙◌, inl, inr, List, [], ◌∷◌, ◌++◌, length, length-append, arith}
use Rattle.std.specs.Prelude.{◌⊎◌, Err, IfOk, None, Option, OnOk, OnErr, Some, is_ok, if◌then◌else◌}
use Rattle.mapdb_facts.specs.Adding.{added, added_if, clash_of, is_new, other_record, same_record}
use Rattle.mapdb_facts.specs.Facts.{records_of_facts, state_of_facts}
use Rattle.mapdb_facts.specs.Names.{is_before, same_id}
use Rattle.mapdb_facts.specs.Records.{placed, records_of}
use Rattle.mapdb_facts.specs.State.{Gives, HasAtom, IsSound, Rec, State, join, said, state_of}
use Rattle.mapdb_facts.specs.Exact.{exact_record}
use Rattle.mapdb_facts.proofs.Maps.Atoms.{atom_kept}
use Rattle.mapdb_facts.proofs.States.Joins.{atom_append, state_of-put}
use Rattle.mapdb_facts.specs.WellFormed.{checked, is_formed}
use Rattle.mapdb_facts.specs.declared.checking.OpFault.{OpFault}
use Rattle.mapdb_facts.specs.declared.holding.AddFault.TheVariants.{Clash}
use Rattle.mapdb_facts.specs.declared.holding.Facts.{Facts}
use Rattle.mapdb_facts.specs.declared.names.RecordId.{RecordId}
use Rattle.mapdb_facts.specs.declared.operations.Op.{Op}
use Rattle.mapdb_facts.specs.declared.operations.Op.TheVariants.{Born, Closed, Cut}
use Rattle.mapdb_facts.specs.declared.operations.Record.{Record}
use Rattle.mapdb_facts.proofs.RecordLemmas.Listed.{records_of-facts}
use Rattle.mapdb_facts.proofs.States.Formed.{all_formed-put}
use Rattle.mapdb_rights.specs.Index.{KeepsUp}
use Rattle.mapdb_rights.specs.declared.index.rights_index.RightsIndex.{RightsIndex}
use Rattle.mapdb_replica.specs.Forms.{HavePlaces}
use Rattle.mapdb_replica.specs.Keeping.{ArePlaces, IsKeptCopy}
use Rattle.mapdb_replica.specs.Replica.{most_operations}
use Rattle.mapdb_replica.proofs.Copies.PlacedOps.{places-grown}

formed_if : (o : Result (Unit {0}) OpFault) (new b : Bool) (clash : Option RecordId) → added_if o new clash ≡ Ok b → is_ok o ≡ true
formed_if (Ok u) new b clash h = refl
formed_if (Err fault) new b clash h = cc

-- what may be added is well-formed
pub added_formed : (S : State) (op : Op) (b : Bool) → added S op ≡ Ok b → is_formed op ≡ true
added_formed S op b h = formed_if (checked op) (is_new S op) b (clash_of S op) h

new_if : (o : Result (Unit {0}) OpFault) (new b : Bool) (clash : Option RecordId) → added_if o new clash ≡ Ok b → new ≡ b
new_if (Ok u) new b None h = cc
new_if (Ok u) new b (Some id) h = absurd (no_fault id h)
  where
    no_fault : (id : RecordId) → Err (Clash id) ≡ Ok b → ⊥
    no_fault id e = cc
new_if (Err fault) new b clash h = cc

-- what adds something is new
pub added_new : (S : State) (op : Op) → added S op ≡ Ok true → is_new S op ≡ true
added_new S op h = new_if (checked op) (is_new S op) true (clash_of S op) h

checked_if : (o : Result (Unit {0}) OpFault) (new b : Bool) (clash : Option RecordId) → added_if o new clash ≡ Ok b → o ≡ Ok tt
checked_if (Ok u) new b clash h = refl
checked_if (Err fault) new b clash h = cc

-- what may be added has no fault
pub added_checked : (S : State) (op : Op) (b : Bool) → added S op ≡ Ok b → checked op ≡ Ok tt
added_checked S op b h = checked_if (checked op) (is_new S op) b (clash_of S op) h

apart_if : (o : Result (Unit {0}) OpFault) (new b : Bool) (clash : Option RecordId) → added_if o new clash ≡ Ok b → clash ≡ None
apart_if (Ok u) new b None h = refl
apart_if (Ok u) new b (Some id) h = absurd (no_fault id h)
  where
    no_fault : (id : RecordId) → Err (Clash id) ≡ Ok b → ⊥
    no_fault id e = cc
apart_if (Err fault) new b clash h = cc

-- no different record of the name of what may be added is held
pub added_apart : (S : State) (op : Op) (b : Bool) → added S op ≡ Ok b → clash_of S op ≡ None
added_apart S op b h = apart_if (checked op) (is_new S op) b (clash_of S op) h

-- what holds of the answer holds of the one there is
pub ok_is : {A E : Type 0} → (r : Result A E) (a : A) (P : A → Type 0) → r ≡ Ok a → IfOk r P → P a
ok_is r a P e h = subst (λ x. IfOk x P) e h

-- no clash: a record that is added is the one that is held under its name, if one is
clash_if : (o : Option Record) (r : Record) (new b : Bool) (p : Result (Unit {0}) OpFault) → added_if p new (other_record o r) ≡ Ok b → (s : Record) → o ≡ Some s → same_record s r ≡ true
clash_if o r new b p h s is = from (same_record s r) refl
  where
    told : added_if p new (other_record (Some s) r) ≡ Ok b
    told = subst (λ (x : Option Record). added_if p new (other_record x r) ≡ Ok b) is h

    refused : (q : Result (Unit {0}) OpFault) (id : RecordId) → added_if q new (Some id) ≡ Ok b → ⊥
    refused (Ok u) id e = cc
    refused (Err fault) id e = cc

    from : (same : Bool) → same_record s r ≡ same → same_record s r ≡ true
    from true e = e
    from false e = absurd (refused p r.id (subst (λ (x : Bool). added_if p new (if x then None else Some r.id) ≡ Ok b) e told))

-- a list to which an operation may be added stays sound
pub sound-put : (ops : List Op) (op : Op) → IsSound ops → added (state_of ops) op ≡ Ok true → IsSound (ops ++ op ∷ [])
sound-put ops op sound fits r s in_r in_s same =
    by_parts (atom_append ops (op ∷ []) (Rec r) in_r) (atom_append ops (op ∷ []) (Rec s) in_s)
  where
    held_alike : (x y : Record) → HasAtom ops (Rec x) → Gives op (Rec y) → x.id ≡ y.id → x ≡ y
    held_alike x y held gives is = exact_record x y (by_op op gives fits)
      where
        at : (state_of ops).record_at y.id ≡ Some x
        at = subst (λ (id : RecordId). (state_of ops).record_at id ≡ Some x) is (atom_kept ops (Rec x) sound held)

        by_op : (o : Op) → Gives o (Rec y) → added (state_of ops) o ≡ Ok true → same_record x y ≡ true
        by_op (Born z) e f = clash_if ((state_of ops).record_at y.id) y (is_new (state_of ops) (Born y)) true (checked (Born y)) (subst (λ (w : Record). added (state_of ops) (Born w) ≡ Ok true) e f) x at
        by_op (Cut cut) e f = absurd e
        by_op (Closed space) e f = absurd e

    last : (o : Op) → HasAtom (o ∷ []) (Rec r) → Gives o (Rec r)
    last o (inl g) = g
    last o (inr h) = absurd h

    last_s : (o : Op) → HasAtom (o ∷ []) (Rec s) → Gives o (Rec s)
    last_s o (inl g) = g
    last_s o (inr h) = absurd h

    both : (o : Op) → Gives o (Rec r) → Gives o (Rec s) → r ≡ s
    both (Born z) e f = sym e ∙ f
    both (Cut cut) e f = absurd e
    both (Closed space) e f = absurd e

    by_parts : HasAtom ops (Rec r) ⊎ HasAtom (op ∷ []) (Rec r) → HasAtom ops (Rec s) ⊎ HasAtom (op ∷ []) (Rec s) → r ≡ s
    by_parts (inl a) (inl b) = sound r s a b same
    by_parts (inl a) (inr b) = held_alike r s a (last_s op b) same
    by_parts (inr a) (inl b) = sym (held_alike s r b (last op a) (sym same))
    by_parts (inr a) (inr b) = both op (last op a) (last_s op b)

pub kept-put : (processor : ℕ) (ops : List Op) (own own' : List ℕ) (facts : Facts) (index : RightsIndex) (op : Op) (facts' : Facts) (index' : RightsIndex)
    → IsKeptCopy processor ops own facts index → added (state_of ops) op ≡ Ok true → length ops < most_operations
    → ArePlaces (ops ++ op ∷ []) own' → length own' ≤ length ops + 1 → state_of_facts facts' ≡ join (state_of_facts facts) (said op) → HavePlaces (op ∷ []) → KeepsUp index' (state_of_facts facts')
    → IsKeptCopy processor (ops ++ op ∷ []) own' facts' index'
kept-put processor ops own own' facts index op facts' index' kept fits room within few is place up =
    let more : length (ops ++ op ∷ []) ≡ length ops + 1 = length-append ops (op ∷ []) in
    record {
      issuer = kept.issuer;
      formed = all_formed-put ops op kept.formed (added_formed (state_of ops) op true fits);
      places = λ r h. elim (atom_append ops (op ∷ []) (Rec r) h) [ inl before ↦ kept.places r before | inr last ↦ place r last ];
      sound = sound-put ops op kept.sound fits;
      few = omega arith;
      places_own = within;
      few_own = omega arith;
      said = is ∙ ap (λ (S : State). join S (said op)) kept.said ∙ sym (state_of-put ops op);
      indexed = up;
    }

-- where nothing was added, what is kept is kept
pub kept-either : {E : Type 0} → (r : Result (Unit {0}) E) (processor : ℕ) (ops ops' : List Op) (own : List ℕ) (facts facts' : Facts) (index index' : RightsIndex) (op : Op)
    → IsKeptCopy processor ops own facts index → added (state_of ops) op ≡ Ok true → length ops < most_operations
    → OnOk r (ops' ≡ ops ++ op ∷ []) → OnOk r (state_of_facts facts' ≡ join (state_of_facts facts) (said op)) → OnErr r (ops' ≡ ops) → OnErr r (facts' ≡ facts) → HavePlaces (op ∷ [])
    → KeepsUp index' (state_of_facts facts') → IsKeptCopy processor ops' own facts' index'
kept-either (Ok u) processor ops ops' own facts facts' index index' op kept fits room listed is same same_facts place up =
    let few = kept.few_own in
    subst (λ (xs : List Op). IsKeptCopy processor xs own facts' index') (sym listed)
    (kept-put processor ops own own facts index op facts' index' kept fits room (places-grown ops op own kept.places_own) (omega arith) is place up)
kept-either (Err e) processor ops ops' own facts facts' index index' op kept fits room listed is same same_facts place up =
    subst (λ (xs : List Op). IsKeptCopy processor xs own facts' index') (sym same)
    (subst (λ (f : Facts). KeepsUp index' (state_of_facts f) → IsKeptCopy processor ops own f index') (sym same_facts)
    (λ still. record {
      issuer = kept.issuer;
      formed = kept.formed;
      places = kept.places;
      sound = kept.sound;
      few = kept.few;
      places_own = kept.places_own;
      few_own = kept.few_own;
      said = kept.said;
      indexed = still;
    }) up)

-- the facts' records are those of the operations
pub kept-records : (processor : ℕ) (ops : List Op) (own : List ℕ) (facts : Facts) (index : RightsIndex) → IsKeptCopy processor ops own facts index → records_of_facts facts ≡ records_of ops
kept-records processor ops own facts index kept = records_of-facts facts ops kept.said

length-placed : (r : Record) (xs : List Record) → length (placed r xs) ≤ length xs + 1
length-placed r [] = omega arith
length-placed r (s ∷ rest) = step (is_before s.id r.id) (same_id r.id s.id) (length-placed r rest)
  where
    step : (a b : Bool) → length (placed r rest) ≤ length rest + 1 → length (if a then s ∷ placed r rest else (if b then r ∷ rest else r ∷ s ∷ rest)) ≤ suc (length rest) + 1
    step true b h = omega arith
    step false true h = omega arith
    step false false h = omega arith

pub length-records : (ops : List Op) → length (records_of ops) ≤ length ops
length-records [] = omega arith
length-records (Born r ∷ ops) = let one = length-placed r (records_of ops) in let later = length-records ops in omega arith
length-records (Cut cut ∷ ops) = let later = length-records ops in omega arith
length-records (Closed space ∷ ops) = let later = length-records ops in omega arith
