-- Records that are found by their own names.
use Rattle.std.proofs.Common.{◌≡◌, ℕ, zero, suc, ◌+◌, ◌<◌, ◌≤◌, drop, get_or, List, [], ◌∷◌, ◌++◌, length, ap, subst, sym, ◌∙◌, cond, inl, inr, arith}
use Rattle.std.specs.Prelude.{Option, None, Some, IfSome, IsSome, MatchOption, map, slice_get}
use Rattle.std.specs.BTreeMap.Range.{IsLeBy}
use Rattle.std.specs.List.{All, zip}
use Rattle.std.specs.Map.{lookup}
use Rattle.std.specs.Option.{is_some}
use Rattle.std.proofs.Math.ListN.{drop_of_length-le}
use Rattle.std.proofs.lemmas.Bool.{cases_Bool, cond-false, cond-true}
use Rattle.std.proofs.lemmas.List.{drop_more, length-map, map-append}
use Rattle.std.proofs.lemmas.List.Elements.{All-append}
use Rattle.mapdb_join.specs.Keys.{IsAbove}
use Rattle.mapdb_facts.specs.Kept.{Records, id_cmp, record_in}
use Rattle.mapdb_facts.specs.NamePlaces.{ArePlacesOf, HaveFewLists, place_in}
use Rattle.mapdb_facts.specs.NamedValues.{AreFoundByName, NamedValues, by_own_name, names_of, place_of}
use Rattle.mapdb_facts.specs.Names.{same_id}
use Rattle.mapdb_facts.specs.declared.name_places.NamePlaces.{NamePlaces}
use Rattle.mapdb_facts.specs.declared.names.RecordId.{RecordId}
use Rattle.mapdb_facts.specs.declared.operations.Record.{Record}
use Rattle.mapdb_facts.proofs.Lists.SameNames.{same_id_itself, same_id_true}
use Rattle.mapdb_facts.proofs.NameLemmas.NamedEntries.{found_at, found_nowhere, given_added, names_zip, next_found, next_least, place_added, place_within, placed_nowhere}
use Rattle.mapdb_facts.proofs.NameLemmas.NamesInOrder.{one_lookup}

-- the names of records
abbrev pub own_names : List Record → List RecordId
own_names records = map (λ r. r.id) records

module _ (places : NamePlaces) (records : List Record) (are : ArePlacesOf places (own_names records)) where
  even : length (own_names records) ≡ length records
  even = length-map records (λ r. r.id)

  pub record_within : (id : RecordId) (at : ℕ) → place_in places id ≡ Some at → at < length records
  record_within id at e = omega (arith, even, place_within (own_names records) id at (sym (are.found id) ∙ e))

  pub record_at_place : (id : RecordId) (at : ℕ) → place_in places id ≡ Some at → slice_get records at ≡ lookup (same_id id) (zip (own_names records) records)
  record_at_place id at e = found_at (own_names records) records id at (sym (are.found id) ∙ e) (record_within id at e)

  pub record_nowhere : (id : RecordId) → place_in places id ≡ None → None ≡ lookup (same_id id) (zip (own_names records) records)
  record_nowhere id e = found_nowhere (own_names records) records id (sym (are.found id) ∙ e)

  -- ---- the next name

  module _ (after : Option RecordId) where
    pub own_none : (o : Option RecordId) → MatchOption o ((q : RecordId) → IsAbove id_cmp after q → place_in places q ≡ None) (λ _. Unit {0})
        → MatchOption o ((q : RecordId) → IsAbove id_cmp after q → lookup (same_id q) (zip (own_names records) records) ≡ None) (λ _. Unit {0})
    own_none None none = λ q above. sym (record_nowhere q (none q above))
    own_none (Some id) none = tt

    pub own_found : (o : Option RecordId) → IfSome o (λ id. IsAbove id_cmp after id × IsSome (place_in places id))
        → IfSome o (λ id. IsAbove id_cmp after id × IsSome (lookup (same_id id) (zip (own_names records) records)))
    own_found None found = tt
    own_found (Some id) found = next_found (own_names records) records even after (Some id) (found.0, sym (ap is_some (are.found id)) ∙ found.1)

    pub own_least : (o : Option RecordId) → IfSome o (λ id. (q : RecordId) → IsAbove id_cmp after q → IsSome (place_in places q) → IsLeBy id_cmp id q)
        → IfSome o (λ id. (q : RecordId) → IsAbove id_cmp after q → IsSome (lookup (same_id q) (zip (own_names records) records)) → IsLeBy id_cmp id q)
    own_least None least = tt
    own_least (Some id) least = next_least (own_names records) records even after (Some id) (λ q above held. least q above (ap is_some (are.found q) ∙ held))

  -- ---- one more

  module _ (r : Record) (new : lookup (same_id r.id) (zip (own_names records) records) ≡ None) where
    unplaced : place_of r.id (own_names records) ≡ None
    unplaced = placed_nowhere (own_names records) records r.id even new

    pub not_placed : place_in places r.id ≡ None
    not_placed = are.found r.id ∙ unplaced

    names_more : own_names (records ++ r ∷ []) ≡ own_names records ++ r.id ∷ []
    names_more = map-append (λ (x : Record). x.id) records (r ∷ [])

    pub places_more : (wider : NamePlaces) (at : ℕ) → at ≡ length records → (HaveFewLists places.near.items → HaveFewLists wider.near.items)
        → ((q : RecordId) → place_in wider q ≡ cond (same_id r.id q) (Some at) (place_in places q)) → ArePlacesOf wider (own_names (records ++ r ∷ []))
    places_more wider at end few put = record {
      found = λ q.
          put q
          ∙ ap (λ (o : Option ℕ). cond (same_id r.id q) (Some at) o) (are.found q)
          ∙ ap (λ (n : ℕ). cond (same_id r.id q) (Some n) (place_of q (own_names records))) (end ∙ sym even)
          ∙ sym (place_added (own_names records) r.id q unplaced)
          ∙ ap (λ (names : List RecordId). place_of q names) (sym names_more);
      few = few are.few;
    }

    pub found_more : (q : RecordId) → lookup (same_id q) (zip (own_names (records ++ r ∷ [])) (records ++ r ∷ [])) ≡ cond (same_id r.id q) (Some r) (lookup (same_id q) (zip (own_names records) records))
    found_more q =
        ap (λ (names : List RecordId). lookup (same_id q) (zip names (records ++ r ∷ []))) names_more
        ∙ given_added (own_names records) records r.id r unplaced even q

-- ---- the names in the order in which they came

pub names_come : (records : List Record) (table : NamedValues Record) → by_own_name records ≡ table → names_of table ≡ own_names records
names_come records table same = ap (λ (t : NamedValues Record). names_of t) (sym same) ∙ names_zip (own_names records) records (length-map records (λ r. r.id))

-- the name of the next one comes first
pub names_left : (records : List Record) (i : ℕ) (r : Record) → i < length records → r ≡ get_or records i r → own_names (drop i records) ≡ r.id ∷ own_names (drop (i + 1) records)
names_left records i r within is =
    ap own_names (drop_more records i r within)
    ∙ ap (λ (x : Record). x.id ∷ own_names (drop (i + 1) records)) (sym is)

pub no_names_left : (records : List Record) (i : ℕ) → length records ≤ i → own_names (drop i records) ≡ []
no_names_left records i behind = ap own_names (drop_of_length-le records {i = i} behind)

-- ---- each record is found by its name

record_itself : (r : Record) → Some r ≡ None → ⊥
record_itself r e = cc

pub found_more_each : (records : List Record) (r : Record) → lookup (same_id r.id) (zip (own_names records) records) ≡ None
    → ((q : RecordId) → lookup (same_id q) (zip (own_names (records ++ r ∷ [])) (records ++ r ∷ [])) ≡ cond (same_id r.id q) (Some r) (lookup (same_id q) (zip (own_names records) records)))
    → AreFoundByName records → AreFoundByName (records ++ r ∷ [])
found_more_each records r new more found = All-append (λ (x : Record). lookup (same_id x.id) (zip (own_names (records ++ r ∷ [])) (records ++ r ∷ [])) ≡ Some x) records (r ∷ []) before one
  where
    still : (x : Record) → lookup (same_id x.id) (zip (own_names records) records) ≡ Some x → lookup (same_id x.id) (zip (own_names (records ++ r ∷ [])) (records ++ r ∷ [])) ≡ Some x
    still x was = elim (cases_Bool (same_id r.id x.id)) [
      | inl same ↦ absurd (record_itself x (sym was ∙ ap (λ (id : RecordId). lookup (same_id id) (zip (own_names records) records)) (sym (same_id_true r.id x.id same)) ∙ new))
      | inr other ↦ more x.id ∙ cond-false (same_id r.id x.id) (Some r) (lookup (same_id x.id) (zip (own_names records) records)) other ∙ was
    ]

    before : All (λ (x : Record). lookup (same_id x.id) (zip (own_names (records ++ r ∷ [])) (records ++ r ∷ [])) ≡ Some x) records
    before k d within = still (get_or records k d) (found k d within)

    here : lookup (same_id r.id) (zip (own_names (records ++ r ∷ [])) (records ++ r ∷ [])) ≡ Some r
    here = more r.id ∙ cond-true (same_id r.id r.id) (Some r) (lookup (same_id r.id) (zip (own_names records) records)) (same_id_itself r.id)

    one : All (λ (x : Record). lookup (same_id x.id) (zip (own_names (records ++ r ∷ [])) (records ++ r ∷ [])) ≡ Some x) (r ∷ [])
    one zero d within = here
    one (suc k) d within = absurd (omega (arith, within))

pub item_found : (records : List Record) (table : NamedValues Record) (held : Records) → by_own_name records ≡ table → table.entries ≡ held → AreFoundByName records
    → (i : ℕ) (r : Record) → i < length records → r ≡ get_or records i r → record_in held r.id ≡ Some r
item_found records table held all view found i r within is =
    ap (λ (entries : Records). record_in entries r.id) (sym view)
    ∙ one_lookup table.entries r.id
    ∙ ap (λ (t : NamedValues Record). lookup (same_id r.id) t.entries) (sym all)
    ∙ subst (λ (x : Record). lookup (same_id x.id) (zip (own_names records) records) ≡ Some x) (sym is) (found i r within)
