-- What a copy issues has no name that is held, and no name twice.
use Rattle.std.proofs.Common.{◌≡◌, ℕ, ◌+◌, ◌<◌, ◌≤◌, Bool, true, false, Ok, Err, sym, subst, ◌∙◌, inl, inr, List, [], ◌∷◌, ◌++◌, ap, arith}
use Rattle.std.specs.Prelude.{◌⊎◌, Option, Some, None, if◌then◌else◌}
use Rattle.std.specs.List.{cons_option, filter_map, flat_map}
use Rattle.mapdb_fpage.specs.Place.{Place, meet}
use Rattle.mapdb_fpage.specs.RightSets.{is_empty}
use Rattle.mapdb_fpage.specs.Transfer.{transfer_of}
use Rattle.mapdb_fpage.specs.declared.items.Transfer.{Transfer}
use Rattle.mapdb_fpage.specs.declared.right_sets.Rights.{Rights}
use Rattle.mapdb_facts.specs.Names.{same_id}
use Rattle.mapdb_facts.specs.Records.{greatest_number, records_of}
use Rattle.mapdb_facts.specs.State.{HasAtom, IsSound, Rec, state_of}
use Rattle.mapdb_facts.specs.declared.names.RecordId.{RecordId}
use Rattle.mapdb_facts.specs.declared.names.Space.{Space}
use Rattle.mapdb_facts.specs.declared.operations.Op.{Op}
use Rattle.mapdb_facts.specs.declared.operations.Op.TheVariants.{Closed}
use Rattle.mapdb_facts.specs.declared.operations.Record.{Record}
use Rattle.mapdb_facts.proofs.RecordLemmas.Ascending.{found_listed, most_of}
use Rattle.mapdb_facts.proofs.Maps.Atoms.{atom_kept}
use Rattle.mapdb_facts.proofs.States.Joins.{atom_append}
use Rattle.mapdb_rights.specs.Meeting.{source_place}
use Rattle.mapdb_replica.specs.Issue.{holders, map_candidates, numbered_records, pieces}
use Rattle.mapdb_replica.specs.Replica.{issued_unless, limit_refusal, limited, news, spaces_refusal, unless_spaces}
use Rattle.mapdb_replica.specs.Sound.{IssuesAreSound}
use Rattle.mapdb_replica.specs.Unmap.{child_cut, child_cut_with, cuts_within, ending_refusal, ended_refusal, holder_cuts, own_cut, unmap_candidates}
use Rattle.mapdb_replica.specs.declared.commands.Command.TheVariants.{End, Map, Unmap}
use Rattle.mapdb_replica.specs.declared.faults.IssueFault.{IssueFault}
use Rattle.mapdb_replica.specs.declared.pieces.Holder.{Holder}
use Rattle.mapdb_replica.specs.declared.pieces.Piece.{Piece}
use Rattle.mapdb_replica.proofs.News.NewsAtoms.{news_among}

-- The records of a list: their numbers are above one, and no two different ones have one name.
record IsFresh (above : ℕ) (ops : List Op) : Type 0 where
  high : (r : Record) → HasAtom ops (Rec r) → above < r.id.number
  apart : (r s : Record) → HasAtom ops (Rec r) → HasAtom ops (Rec s) → r.id ≡ s.id → r ≡ s

-- what is held has no greater number than the greatest
held_low : (ops : List Op) (r : Record) → IsSound ops → HasAtom ops (Rec r) → r.id.number ≤ greatest_number (records_of ops)
held_low ops r sound has = most_of (records_of ops) r (found_listed ops r.id r (atom_kept ops (Rec r) sound has)).0

-- fresh records keep a list sound
fresh_sound : (held ops : List Op) → IsSound held → IsFresh (greatest_number (records_of held)) ops → IsSound (held ++ ops)
fresh_sound held ops sound fresh r s in_r in_s same = by_parts (atom_append held ops (Rec r) in_r) (atom_append held ops (Rec s) in_s)
  where
    differ : (x y : Record) → HasAtom held (Rec x) → HasAtom ops (Rec y) → x.id ≡ y.id → ⊥
    differ x y before later e =
        let low = held_low held x sound before in
        let high = fresh.high y later in
        let number : x.id.number ≡ y.id.number = ap (λ (id : RecordId). id.number) e in
        absurd (omega arith)

    by_parts : HasAtom held (Rec r) ⊎ HasAtom ops (Rec r) → HasAtom held (Rec s) ⊎ HasAtom ops (Rec s) → r ≡ s
    by_parts (inl a) (inl b) = sound r s a b same
    by_parts (inl a) (inr b) = absurd (differ r s a b same)
    by_parts (inr a) (inl b) = absurd (differ s r b a (sym same))
    by_parts (inr a) (inr b) = fresh.apart r s a b same

-- lists without records are fresh
no_records : (above : ℕ) (ops : List Op) → ((r : Record) → HasAtom ops (Rec r) → ⊥) → IsFresh above ops
no_records above ops none = record { high = λ r has. absurd (none r has); apart = λ r s has other same. absurd (none r has) }

-- numbers rise from the first on
numbered_high : (number processor : ℕ) (receiver : Space) (carried : Transfer) (all : List Piece) (r : Record) → HasAtom (numbered_records number processor receiver carried all) (Rec r) → number ≤ r.id.number
numbered_high number processor receiver carried [] r has = absurd has
numbered_high number processor receiver carried (piece ∷ rest) r (inl is) = let same : number ≡ r.id.number = ap (λ (x : Record). x.id.number) is in omega arith
numbered_high number processor receiver carried (piece ∷ rest) r (inr later) = let high = numbered_high (number + 1) processor receiver carried rest r later in omega arith

numbered_apart : (number processor : ℕ) (receiver : Space) (carried : Transfer) (all : List Piece) (r s : Record) → HasAtom (numbered_records number processor receiver carried all) (Rec r) → HasAtom (numbered_records number processor receiver carried all) (Rec s)
    → r.id ≡ s.id → r ≡ s
numbered_apart number processor receiver carried [] r s has other same = absurd has
numbered_apart number processor receiver carried (piece ∷ rest) r s (inl is) (inl too) same = sym is ∙ too
numbered_apart number processor receiver carried (piece ∷ rest) r s (inl is) (inr later) same =
    let high = numbered_high (number + 1) processor receiver carried rest s later in
    let first : number ≡ r.id.number = ap (λ (x : Record). x.id.number) is in
    let number_same : r.id.number ≡ s.id.number = ap (λ (id : RecordId). id.number) same in
    absurd (omega arith)
numbered_apart number processor receiver carried (piece ∷ rest) r s (inr later) (inl is) same =
    let high = numbered_high (number + 1) processor receiver carried rest r later in
    let first : number ≡ s.id.number = ap (λ (x : Record). x.id.number) is in
    let number_same : r.id.number ≡ s.id.number = ap (λ (id : RecordId). id.number) same in
    absurd (omega arith)
numbered_apart number processor receiver carried (piece ∷ rest) r s (inr a) (inr b) same = numbered_apart (number + 1) processor receiver carried rest r s a b same

map_fresh : (ops : List Op) (processor : ℕ) (sender : Space) (carried : Option Transfer) (receiver : Space) → IsFresh (greatest_number (records_of ops)) (map_candidates ops processor sender carried receiver)
map_fresh ops processor sender None receiver = no_records _ [] (λ r has. has)
map_fresh ops processor sender (Some carried) receiver = record {
  high = λ r has. (let low = numbered_high (greatest_number (records_of ops) + 1) processor receiver carried (pieces (state_of ops) (records_of ops) sender carried.source carried.rights) r has in omega arith);
  apart = numbered_apart (greatest_number (records_of ops) + 1) processor receiver carried (pieces (state_of ops) (records_of ops) sender carried.source carried.rights);
}

-- an Unmap has no records
cut_none : (rights : Rights) (child : Record) (o : Option Place) (r : Record) → HasAtom (cons_option (child_cut_with rights child o) []) (Rec r) → ⊥
cut_none rights child None r has = has
cut_none rights child (Some shared) r (inl gives) = gives
cut_none rights child (Some shared) r (inr later) = later

one_none : (part : Place) (rights : Rights) (id : RecordId) (child r : Record) (b : Bool)
    → HasAtom (cons_option (if b then child_cut_with rights child (meet (source_place child) part) else None) []) (Rec r) → ⊥
one_none part rights id child r true has = cut_none rights child (meet (source_place child) part) r has
one_none part rights id child r false has = has

option_atom : (o : Option Op) (ops : List Op) (r : Record) → HasAtom (cons_option o ops) (Rec r) → HasAtom (cons_option o []) (Rec r) ⊎ HasAtom ops (Rec r)
option_atom None ops r has = inr has
option_atom (Some op) ops r (inl gives) = inl (inl gives)
option_atom (Some op) ops r (inr later) = inr later

children_none : (part : Place) (rights : Rights) (id : RecordId) (children : List Record) (r : Record) → HasAtom (filter_map (child_cut part rights id) children) (Rec r) → ⊥
children_none part rights id [] r has = has
children_none part rights id (child ∷ rest) r has = by_part (option_atom (child_cut part rights id child) (filter_map (child_cut part rights id) rest) r has) (children_none part rights id rest r)
  where
    by_part : HasAtom (cons_option (child_cut part rights id child) []) (Rec r) ⊎ HasAtom (filter_map (child_cut part rights id) rest) (Rec r) → (HasAtom (filter_map (child_cut part rights id) rest) (Rec r) → ⊥) → ⊥
    by_part (inl here) later = one_none part rights id child r (same_id child.parent id) here
    by_part (inr there) later = later there

own_none : (id : RecordId) (part : Place) (rights : Rights) (flush : Bool) (r : Record) → HasAtom (own_cut id part rights flush) (Rec r) → ⊥
own_none id part rights true r (inl gives) = gives
own_none id part rights true r (inr later) = later
own_none id part rights false r has = has

within_none : (records : List Record) (rights : Rights) (flush : Bool) (id : RecordId) (o : Option Place) (r : Record) → HasAtom (cuts_within records rights flush id o) (Rec r) → ⊥
within_none records rights flush id None r has = has
within_none records rights flush id (Some part) r has = by_part (atom_append (filter_map (child_cut part rights id) records) (own_cut id part rights flush) (Rec r) has)
  where
    by_part : HasAtom (filter_map (child_cut part rights id) records) (Rec r) ⊎ HasAtom (own_cut id part rights flush) (Rec r) → ⊥
    by_part (inl child) = children_none part rights id records r child
    by_part (inr own) = own_none id part rights flush r own

holders_none : (records : List Record) (page : Place) (rights : Rights) (flush : Bool) (holders : List Holder) (r : Record) → HasAtom (flat_map (holder_cuts records page rights flush) holders) (Rec r) → ⊥
holders_none records page rights flush [] r has = has
holders_none records page rights flush (h ∷ rest) r has = by_part (atom_append (holder_cuts records page rights flush h) (flat_map (holder_cuts records page rights flush) rest) (Rec r) has) (holders_none records page rights flush rest r)
  where
    by_part : HasAtom (holder_cuts records page rights flush h) (Rec r) ⊎ HasAtom (flat_map (holder_cuts records page rights flush) rest) (Rec r) → (HasAtom (flat_map (holder_cuts records page rights flush) rest) (Rec r) → ⊥) → ⊥
    by_part (inl here) later = within_none records rights flush h.id (meet h.place page) r here
    by_part (inr there) later = later there

pub unmap_none : (ops : List Op) (space : Space) (page : Option Place) (rights : Rights) (flush : Bool) (r : Record) → HasAtom (unmap_candidates ops space page rights flush) (Rec r) → ⊥
unmap_none ops space None rights flush r has = has
unmap_none ops space (Some page) rights flush r has = by_rights (is_empty rights) has
  where
    by_rights : (b : Bool) → HasAtom (if b then [] else flat_map (holder_cuts (records_of ops) page rights flush) (holders (records_of ops) space)) (Rec r) → ⊥
    by_rights true none = none
    by_rights false some = holders_none (records_of ops) page rights flush (holders (records_of ops) space) r some

pub end_none : (space : Space) (r : Record) → HasAtom (Closed space ∷ []) (Rec r) → ⊥
end_none space r (inl gives) = gives
end_none space r (inr later) = later

-- what is issued is what is new of the candidates
pub issued_news : (spaces : Option IssueFault) (held candidates ops : List Op) → unless_spaces spaces (limited held candidates) ≡ Ok ops → ops ≡ news (state_of held) candidates
issued_news None held candidates ops is = by_limit (limit_refusal held candidates) is
  where
    by_limit : (o : Option IssueFault) → issued_unless o (news (state_of held) candidates) ≡ Ok ops → ops ≡ news (state_of held) candidates
    by_limit None e = cc
    by_limit (Some fault) e = absurd (refused fault e)
      where
        refused : (f : IssueFault) → Err f ≡ Ok ops → ⊥
        refused f h = cc
issued_news (Some fault) held candidates ops is = absurd (refused fault is)
  where
    refused : (f : IssueFault) → Err f ≡ Ok ops → ⊥
    refused f h = cc

fresh_news : (above : ℕ) (held candidates ops : List Op) → ops ≡ news (state_of held) candidates → IsFresh above candidates → IsFresh above ops
fresh_news above held candidates ops is fresh =
    let among : (r : Record) → HasAtom ops (Rec r) → HasAtom candidates (Rec r) = λ r has. news_among (state_of held) candidates (Rec r) (subst (λ (xs : List Op). HasAtom xs (Rec r)) is has) in
    record { high = λ r has. fresh.high r (among r has); apart = λ r s has other same. fresh.apart r s (among r has) (among s other) same }

issued_sound : (spaces : Option IssueFault) (held candidates ops : List Op) → IsSound held → IsFresh (greatest_number (records_of held)) candidates → unless_spaces spaces (limited held candidates) ≡ Ok ops → IsSound (held ++ ops)
issued_sound spaces held candidates ops sound fresh is = fresh_sound held ops sound (fresh_news (greatest_number (records_of held)) held candidates ops (issued_news spaces held candidates ops is) fresh)

pub issues_are_sound : IssuesAreSound
issues_are_sound log (Map sender item receiver window) ops sound is =
    issued_sound (spaces_refusal (state_of log.ops) sender receiver) log.ops (map_candidates log.ops log.processor sender (transfer_of item window) receiver) ops sound (map_fresh log.ops log.processor sender (transfer_of item window) receiver) is
issues_are_sound log (Unmap space page rights flush) ops sound is =
    issued_sound (ended_refusal (state_of log.ops) space) log.ops (unmap_candidates log.ops space page rights flush) ops sound (no_records (greatest_number (records_of log.ops)) (unmap_candidates log.ops space page rights flush) (unmap_none log.ops space page rights flush)) is
issues_are_sound log (End space) ops sound is =
    issued_sound (ending_refusal (state_of log.ops) space) log.ops (Closed space ∷ []) ops sound (no_records (greatest_number (records_of log.ops)) (Closed space ∷ []) (end_none space)) is
