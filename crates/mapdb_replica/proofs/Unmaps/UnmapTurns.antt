-- What the records lose, gathered in any order, has the turns of an Unmap's candidates.
use Rattle.std.proofs.Common.{◌≡◌, Bool, true, false, Some, refl, sym, ap, subst, ◌∙◌, List, [], ◌∷◌, ◌++◌}
use Rattle.std.specs.Prelude.{Option, None, count_by, filter, map, if◌then◌else◌}
use Rattle.std.specs.List.{cons_option, filter_map, flat_map}
use Rattle.std.proofs.lemmas.Bool.{cond-false, cond-true}
use Rattle.std.proofs.lemmas.List.Elements.{filter-append}
use Rattle.mapdb_fpage.specs.Place.{Place, meet, whole}
use Rattle.mapdb_fpage.specs.declared.right_sets.Rights.{Rights}
use Rattle.mapdb_facts.specs.Names.{is_first_space, is_root, root, same_id, same_space}
use Rattle.mapdb_facts.specs.Records.{IsAmong, IsAscending}
use Rattle.mapdb_facts.specs.declared.names.RecordId.{RecordId}
use Rattle.mapdb_facts.specs.declared.names.Space.{Space}
use Rattle.mapdb_facts.specs.declared.operations.Op.{Op}
use Rattle.mapdb_facts.specs.declared.operations.Record.{Record}
use Rattle.mapdb_facts.proofs.RecordLemmas.Ascending.{by_id}
use Rattle.mapdb_facts.proofs.Lists.SameNames.{same_id_itself, same_id_true}
use Rattle.mapdb_rights.specs.Meeting.{source_place}
use Rattle.mapdb_replica.specs.Issue.{holder_of, holders, record_holders}
use Rattle.mapdb_replica.specs.Revoking.{InTurn, child_loss, child_losses, loss_by, cut_within, find_holder, holder_losses, holder_named, is_in_turn, loss_in, own_loss, own_losses, part_loss}
use Rattle.mapdb_replica.specs.Unmap.{child_cut, child_cut_with, cut_from, cuts_within, holder_cuts, own_cut}
use Rattle.mapdb_replica.specs.declared.losses.Loss.{Loss}
use Rattle.mapdb_replica.specs.declared.pieces.Holder.{Holder}
use Rattle.mapdb_replica.proofs.Unmaps.Grouping.{one_order, same_count}
use Rattle.mapdb_replica.proofs.Maps.HolderNames.{ascending-holders, found-name}
use Rattle.mapdb_replica.proofs.Unmaps.HolderTurns.{count_ops, in_turn, ops_of, ops_of-turns, turn_at, turns, turns_found, up_turns}

map_append : (id : RecordId) (xs ys : List Op) → map (in_turn id) (xs ++ ys) ≡ map (in_turn id) xs ++ map (in_turn id) ys
map_append id [] ys = refl
map_append id (x ∷ xs) ys = ap (λ (zs : List Loss). in_turn id x ∷ zs) (map_append id xs ys)

-- one loss in a turn
loss_here : (id : RecordId) (o : Option Op) (rest : List Loss) → filter (is_in_turn id) (cons_option (loss_in id o) rest) ≡ cons_option (loss_in id o) (filter (is_in_turn id) rest)
loss_here id None rest = refl
loss_here id (Some op) rest = cond-true (same_id id id) (in_turn id op ∷ filter (is_in_turn id) rest) (filter (is_in_turn id) rest) (same_id_itself id)

loss_other : (id name : RecordId) (o : Option Op) (rest : List Loss) → same_id name id ≡ false → filter (is_in_turn id) (cons_option (loss_in name o) rest) ≡ filter (is_in_turn id) rest
loss_other id name None rest apart = refl
loss_other id name (Some op) rest apart = cond-false (same_id name id) (in_turn name op ∷ filter (is_in_turn id) rest) (filter (is_in_turn id) rest) apart

map_cons : (id : RecordId) (o : Option Op) (ops : List Op) → map (in_turn id) (cons_option o ops) ≡ cons_option (loss_in id o) (map (in_turn id) ops)
map_cons id None ops = refl
map_cons id (Some op) ops = refl

module _ (records : List Record) (space : Space) (page : Place) (rights : Rights) where
  -- what the children of a holder lose
  abbrev children_within : RecordId → List Record → Option Place → List Op
  children_within id children None = []
  children_within id children (Some part) = filter_map (child_cut part rights id) children

  abbrev children_of : List Record → Option Holder → List Op
  children_of children None = []
  children_of children (Some h) = children_within h.id children (meet h.place page)

  child_within : (id : RecordId) (child : Record) (rest : List Record) (o : Option Place) → same_id child.parent id ≡ true
      → children_within id (child ∷ rest) o ≡ cons_option (cut_within rights child o) (children_within id rest o)
  child_within id child rest None same = refl
  child_within id child rest (Some part) same =
      ap (λ (x : Option Op). cons_option x (filter_map (child_cut part rights id) rest))
      (cond-true (same_id child.parent id) (child_cut_with rights child (meet (source_place child) part)) None same)

  child_apart : (id : RecordId) (child : Record) (rest : List Record) (o : Option Place) → same_id child.parent id ≡ false
      → children_within id (child ∷ rest) o ≡ children_within id rest o
  child_apart id child rest None apart = refl
  child_apart id child rest (Some part) apart =
      ap (λ (x : Option Op). cons_option x (filter_map (child_cut part rights id) rest))
      (cond-false (same_id child.parent id) (child_cut_with rights child (meet (source_place child) part)) None apart)

  child_here : (id : RecordId) (child : Record) (rest : List Record) (o : Option Holder) → ((h : Holder) → o ≡ Some h → h.id ≡ id) → same_id child.parent id ≡ true
      → children_of (child ∷ rest) o ≡ cons_option (loss_by page rights child o) (children_of rest o)
  child_here id child rest None named same = refl
  child_here id child rest (Some h) named same =
      child_within h.id child rest (meet h.place page) (subst (λ (x : RecordId). same_id child.parent x ≡ true) (sym (named h refl)) same)

  child_other : (id : RecordId) (child : Record) (rest : List Record) (o : Option Holder) → ((h : Holder) → o ≡ Some h → h.id ≡ id) → same_id child.parent id ≡ false
      → children_of (child ∷ rest) o ≡ children_of rest o
  child_other id child rest None named apart = refl
  child_other id child rest (Some h) named apart =
      child_apart h.id child rest (meet h.place page) (subst (λ (x : RecordId). same_id child.parent x ≡ false) (sym (named h refl)) apart)

  abbrev found : RecordId → Option Holder
  found id = find_holder (holders records space) id

  child_step : (id : RecordId) (child : Record) (rest : List Record) (b : Bool) → same_id child.parent id ≡ b
      → filter (is_in_turn id) (child_losses records space page rights rest) ≡ map (in_turn id) (children_of rest (found id))
      → filter (is_in_turn id) (cons_option (loss_in child.parent (loss_by page rights child (found child.parent))) (child_losses records space page rights rest)) ≡ map (in_turn id) (children_of (child ∷ rest) (found id))
  child_step id child rest true same later =
      ap (λ (name : RecordId). filter (is_in_turn id) (cons_option (loss_in name (loss_by page rights child (found name))) (child_losses records space page rights rest))) (same_id_true child.parent id same)
      ∙ loss_here id (loss_by page rights child (found id)) (child_losses records space page rights rest)
      ∙ ap (cons_option (loss_in id (loss_by page rights child (found id)))) later
      ∙ sym (map_cons id (loss_by page rights child (found id)) (children_of rest (found id)))
      ∙ sym (ap (map (in_turn id)) (child_here id child rest (found id) (found-name (holders records space) id) same))
  child_step id child rest false apart later =
      loss_other id child.parent (loss_by page rights child (found child.parent)) (child_losses records space page rights rest) apart
      ∙ later
      ∙ sym (ap (map (in_turn id)) (child_other id child rest (found id) (found-name (holders records space) id) apart))

  -- the losses of children, in one turn
  children_found : (id : RecordId) (children : List Record) → filter (is_in_turn id) (child_losses records space page rights children) ≡ map (in_turn id) (children_of children (found id))
  unfolding child_loss holder_named
  children_found id [] = none (found id)
    where
      within : (name : RecordId) (o : Option Place) → [] ≡ map (in_turn id) (children_within name [] o)
      within name None = refl
      within name (Some part) = refl

      none : (o : Option Holder) → [] ≡ map (in_turn id) (children_of [] o)
      none None = refl
      none (Some h) = within h.id (meet h.place page)
  children_found id (child ∷ rest) = child_step id child rest (same_id child.parent id) refl (children_found id rest)

  -- With a flush, each holder's own.
  module _ (flush : Bool) where
    abbrev own_within : RecordId → Option Place → List Op
    own_within id part = cons_option (part_loss id rights flush part) []

    abbrev own_of : Holder → List Op
    own_of h = own_within h.id (meet h.place page)

    one_turn : (id : RecordId) (o : Option Op) (rest : List Loss) → cons_option (loss_in id o) rest ≡ map (in_turn id) (cons_option o []) ++ rest
    one_turn id None rest = refl
    one_turn id (Some op) rest = refl

    own_step : (r : Record) (rest : List Record) (b : Bool) → own_losses space page rights flush rest ≡ turns own_of (record_holders space rest)
        → cons_option (own_loss page rights flush (if b then Some (holder_of r) else None)) (own_losses space page rights flush rest)
        ≡ turns own_of (map holder_of (if b then r ∷ filter (λ (s : Record). same_space s.space space) rest else filter (λ (s : Record). same_space s.space space) rest))
    unfolding own_loss
    own_step r rest true later =
        one_turn r.id (part_loss r.id rights flush (meet r.place page)) (own_losses space page rights flush rest)
        ∙ ap (λ (xs : List Loss). map (in_turn r.id) (own_of (holder_of r)) ++ xs) later
    own_step r rest false later = later

    own_held : (rest : List Record) → own_losses space page rights flush rest ≡ turns own_of (record_holders space rest)
    own_held [] = refl
    own_held (r ∷ rest) = own_step r rest (same_space r.space space) (own_held rest)

    own_first : (b : Bool) → cons_option (own_loss page rights flush (if b then Some (record { id = root; place = whole }) else None)) (own_losses space page rights flush records)
        ≡ turns own_of ((if b then record { id = root; place = whole } ∷ [] else []) ++ record_holders space records)
    unfolding own_loss
    own_first true =
        one_turn root (part_loss root rights flush (meet whole page)) (own_losses space page rights flush records)
        ∙ ap (λ (xs : List Loss). map (in_turn root) (own_of (record { id = root; place = whole })) ++ xs) (own_held records)
    own_first false = own_held records

    own_turns : holder_losses space page rights flush records ≡ turns own_of (holders records space)
    own_turns = own_first (is_first_space space)

    own_cut_is : (id : RecordId) (part : Place) (b : Bool) → cons_option (if b then Some (cut_from id part rights) else None) [] ≡ own_cut id part rights b
    own_cut_is id part true = refl
    own_cut_is id part false = refl

    turn_within : (id : RecordId) (o : Option Place) → map (in_turn id) (children_within id records o) ++ map (in_turn id) (own_within id o) ≡ map (in_turn id) (cuts_within records rights flush id o)
    turn_within id None = refl
    turn_within id (Some part) =
        sym (map_append id (filter_map (child_cut part rights id) records) (own_within id (Some part)))
        ∙ ap (λ (ops : List Op). map (in_turn id) (filter_map (child_cut part rights id) records ++ ops)) (own_cut_is id part flush)

    turn_is : (id : RecordId) (o : Option Holder) → ((h : Holder) → o ≡ Some h → h.id ≡ id) → map (in_turn id) (children_of records o) ++ turn_at own_of o ≡ turn_at (holder_cuts records page rights flush) o
    turn_is id None named = refl
    turn_is id (Some h) named =
        ap (λ (name : RecordId). map (in_turn name) (children_of records (Some h)) ++ turn_at own_of (Some h)) (sym (named h refl))
        ∙ turn_within h.id (meet h.place page)

    -- what all lose: first as children, and then as holders
    abbrev pub all_losses : List Loss
    all_losses = child_losses records space page rights records ++ holder_losses space page rights flush records

    abbrev pub candidates : List Op
    candidates = flat_map (holder_cuts records page rights flush) (holders records space)

    module _ (rising : IsAscending by_id records) (other : (r : Record) → IsAmong r records → is_root r.id ≡ false) where
      same_turns : (id : RecordId) → filter (is_in_turn id) all_losses ≡ filter (is_in_turn id) (turns (holder_cuts records page rights flush) (holders records space))
      same_turns id =
          filter-append (is_in_turn id) (child_losses records space page rights records) (holder_losses space page rights flush records)
          ∙ ap (λ (xs : List Loss). xs ++ filter (is_in_turn id) (holder_losses space page rights flush records)) (children_found id records)
          ∙ ap (λ (xs : List Loss). map (in_turn id) (children_of records (found id)) ++ filter (is_in_turn id) xs) own_turns
          ∙ ap (λ (xs : List Loss). map (in_turn id) (children_of records (found id)) ++ xs) (turns_found own_of id (holders records space) (ascending-holders space records rising other))
          ∙ turn_is id (found id) (found-name (holders records space) id)
          ∙ sym (turns_found (holder_cuts records page rights flush) id (holders records space) (ascending-holders space records rising other))

      -- in turns they are the candidates
      pub grouped_is : (new : List Loss) → InTurn new → ((id : RecordId) → filter (is_in_turn id) new ≡ filter (is_in_turn id) all_losses) → ops_of new ≡ candidates
      grouped_is new up kept =
          ap ops_of
          (one_order new (turns (holder_cuts records page rights flush) (holders records space)) up (up_turns (holder_cuts records page rights flush) (holders records space) (ascending-holders space records rising other))
          (λ id. kept id ∙ same_turns id))
          ∙ ops_of-turns (holder_cuts records page rights flush) (holders records space)

      -- as many pass among them
      pub count_is : (test : Op → Bool) → count_by (λ (loss : Loss). test loss.op) all_losses ≡ count_by test candidates
      count_is test =
          same_count (λ (loss : Loss). test loss.op) all_losses (turns (holder_cuts records page rights flush) (holders records space))
          (up_turns (holder_cuts records page rights flush) (holders records space) (ascending-holders space records rising other)) same_turns
          ∙ count_ops test (turns (holder_cuts records page rights flush) (holders records space))
          ∙ ap (count_by test) (ops_of-turns (holder_cuts records page rights flush) (holders records space))
