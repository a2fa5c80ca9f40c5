-- What a command issues is well-formed, and its records have places, and the processor of the copy in their names.
use Rattle.std.proofs.Common.{◌≡◌, ℕ, ◌+◌, ◌/◌, ◌^◌, ◌<◌, ◌≤◌, Bool, true, false, Ok, Err, Result, Some, refl, sym, ap, subst, List, [], ◌∷◌, ◌++◌, inl, inr, arith}
use Rattle.std.specs.Prelude.{IfSome, Option, None, filter, is_ok, map, min, nat_le, if◌then◌else◌}
use Rattle.std.specs.List.{cons_option, filter_map, flat_map, list_any}
use Rattle.std.proofs.lemmas.Bool.{and_from, and_parts, cond-false, or_parts}
use Rattle.std.proofs.lemmas.Bool.Decides.{nat_tests}
use Rattle.mapdb_fpage.specs.Bounds.{least_order}
use Rattle.mapdb_fpage.specs.Place.{IsPlace, IsWithin, Place, holds, meet, whole}
use Rattle.mapdb_fpage.specs.RightSets.{is_empty}
use Rattle.mapdb_fpage.specs.Transfer.{carried, carried_by, transfer_of}
use Rattle.mapdb_fpage.specs.declared.items.Transfer.{Transfer}
use Rattle.mapdb_fpage.specs.declared.right_sets.Rights.{Rights}
use Rattle.mapdb_fpage.proofs.Aligned.{moved_place, part_place}
use Rattle.mapdb_fpage.proofs.Parts.{meet_is_within}
use Rattle.mapdb_facts.specs.Adding.{is_new}
use Rattle.mapdb_facts.specs.Names.{is_first_space, is_root_number, number_limit, processor_limit, root, same_space}
use Rattle.mapdb_facts.specs.Records.{IsAmong, greatest_number, records_of}
use Rattle.mapdb_facts.specs.State.{HasAtom, Rec, State, join, said, state_of}
use Rattle.mapdb_facts.specs.WellFormed.{IsFormedRecord, all_formed, checked, is_formed, is_reference}
use Rattle.mapdb_facts.specs.declared.names.Space.{Space}
use Rattle.mapdb_facts.specs.declared.operations.Op.{Op}
use Rattle.mapdb_facts.specs.declared.operations.Op.TheVariants.{Born, Closed, Cut}
use Rattle.mapdb_facts.specs.declared.operations.Record.{Record}
use Rattle.mapdb_facts.proofs.RecordLemmas.Ascending.{listed_found, most_of}
use Rattle.mapdb_facts.proofs.Maps.Atoms.{record_held}
use Rattle.mapdb_facts.proofs.States.Formed.{formed_record}
use Rattle.mapdb_replica.specs.Fitting.{AllFitting, IsFitting}
use Rattle.mapdb_replica.specs.Forms.{HavePlaces, IssuesAreFormed, IssuesAreNamed}
use Rattle.mapdb_replica.specs.Issue.{has_any, holder_of, holders, map_candidates, numbered_records, piece_of, piece_with, pieces, record_holders, mapped_record}
use Rattle.mapdb_replica.specs.Replica.{Log, is_spent, issued_unless, limit_refusal, news, spaces_refusal, unless_spaces}
use Rattle.mapdb_replica.specs.Revoking.{AllCuts}
use Rattle.mapdb_replica.specs.Unmap.{ending_refusal, ended_refusal, holder_cuts, unmap_candidates}
use Rattle.mapdb_replica.specs.declared.commands.Command.TheVariants.{End, Map, Unmap}
use Rattle.mapdb_replica.specs.declared.faults.IssueFault.{IssueFault}
use Rattle.mapdb_replica.specs.declared.pieces.Holder.{Holder}
use Rattle.mapdb_replica.specs.declared.pieces.Piece.{Piece}
use Rattle.mapdb_replica.proofs.Unmaps.CutForms.{all_cuts, record_target}
use Rattle.mapdb_replica.proofs.Calls.Issuing.{piece_checked}
use Rattle.mapdb_replica.proofs.News.NewsAtoms.{news_among}
use Rattle.mapdb_replica.proofs.Calls.SoundIssues.{end_none, unmap_none}
use Rattle.mapdb_replica.proofs.Copies.OpForms.{record_formed}

-- The records of well-formed operations.

listed_has : (ops : List Op) (r : Record) → IsAmong r (records_of ops) → HasAtom ops (Rec r)
listed_has ops r among = (record_held ops r.id r (listed_found ops r among)).0

pub listed_formed : (ops : List Op) → all_formed ops ≡ true → (r : Record) → IsAmong r (records_of ops) → IsFormedRecord r
listed_formed ops all r among = formed_record r (record_formed ops r all (listed_has ops r among))

-- what is new of well-formed operations is well-formed
formed_news : (S : State) (ops : List Op) → all_formed ops ≡ true → all_formed (news S ops) ≡ true
formed_news S [] all = refl
formed_news S (op ∷ ops) all =
    let parts = and_parts (is_formed op) (all_formed ops) all in
    step (is_new S op) parts.0 (formed_news (join S (said op)) ops parts.1) (formed_news S ops parts.1)
  where
    step : (b : Bool) → is_formed op ≡ true → all_formed (news (join S (said op)) ops) ≡ true → all_formed (news S ops) ≡ true → all_formed (if b then op ∷ news (join S (said op)) ops else news S ops) ≡ true
    step true one new old = and_from (is_formed op) (all_formed (news (join S (said op)) ops)) one new
    step false one new old = old

-- Pieces fit their source.

-- a holder of a place, whose name may be that of a parent of records behind the greatest
record IsHolder (greatest : ℕ) (h : Holder) : Type 0 where
  place : IsPlace h.place
  reference : is_reference h.id ≡ true
  issuer : h.id.processor < processor_limit
  earlier : h.id.number ≤ greatest

abbrev AllHolders : ℕ → List Holder → Type 0
AllHolders greatest [] = Unit {0}
AllHolders greatest (h ∷ rest) = IsHolder greatest h × AllHolders greatest rest

meet_by : (a b : Place) (t u v : Bool) → IsPlace a → IsPlace b → IfSome (if t then (if u then Some a else None) else (if v then Some b else None)) IsPlace
meet_by a b true true v place_a place_b = place_a
meet_by a b true false v place_a place_b = tt
meet_by a b false u true place_a place_b = place_b
meet_by a b false u false place_a place_b = tt

meet_place : (a b : Place) → IsPlace a → IsPlace b → IfSome (meet a b) IsPlace
meet_place a b place_a place_b = meet_by a b (nat_le a.order b.order) (holds b a.first_page) (holds a b.first_page) place_a place_b

module _ (S : State) (source : Place) (rights : Rights) (greatest : ℕ) (is_source : IsPlace source) where
  with_fits : (h : Holder) (o : Option Place) → IsHolder greatest h → IfSome o IsPlace → IfSome o (λ part. IsWithin part h.place × IsWithin part source) → IfSome (piece_with S rights h.id o) (IsFitting source greatest)
  with_fits h None holder place within = tt
  with_fits h (Some part) holder place within = by_any (has_any S h.id rights part)
    where
      by_any : (b : Bool) → IfSome (if b then Some (record { parent = h.id; source = part }) else None) (IsFitting source greatest)
      by_any true = record { place = place; within = within.1; reference = holder.reference; issuer = holder.issuer; earlier = holder.earlier }
      by_any false = tt

  piece_fits : (h : Holder) → IsHolder greatest h → IfSome (piece_of S source rights h) (IsFitting source greatest)
  unfolding piece_of
  piece_fits h holder = with_fits h (meet h.place source) holder (meet_place h.place source holder.place is_source) (meet_is_within h.place source holder.place is_source (nat_le h.place.order source.order) refl)

  fit_more : (o : Option Piece) (rest : List Piece) → IfSome o (IsFitting source greatest) → AllFitting source greatest rest → AllFitting source greatest (cons_option o rest)
  fit_more None rest one all = all
  fit_more (Some piece) rest one all = (one, all)

  all_fit : (hs : List Holder) → AllHolders greatest hs → AllFitting source greatest (filter_map (piece_of S source rights) hs)
  all_fit [] all = tt
  all_fit (h ∷ rest) all = fit_more (piece_of S source rights h) (filter_map (piece_of S source rights) rest) (piece_fits h all.0) (all_fit rest all.1)

whole_place : IsPlace whole
whole_place = record { at_least_a_page = omega arith; at_most_all = omega arith; aligned = refl; in_space = omega arith }

held_all : (greatest : ℕ) (sender : Space) (records : List Record) → ((r : Record) → IsAmong r records → IsHolder greatest (holder_of r)) → AllHolders greatest (record_holders sender records)
held_all greatest sender [] each = tt
held_all greatest sender (r ∷ rest) each = step (same_space r.space sender) (held_all greatest sender rest (λ s k. each s (inr k)))
  where
    step : (b : Bool) → AllHolders greatest (record_holders sender rest)
        → AllHolders greatest (map holder_of (if b then r ∷ filter (λ (s : Record). same_space s.space sender) rest else filter (λ (s : Record). same_space s.space sender) rest))
    step true all = (each r (inl refl), all)
    step false all = all

first_all : (greatest : ℕ) (b : Bool) (rest : List Holder) → AllHolders greatest rest → AllHolders greatest ((if b then record { id = root; place = whole } ∷ [] else []) ++ rest)
first_all greatest true rest all = (record { place = whole_place; reference = refl; issuer = omega arith; earlier = omega arith }, all)
first_all greatest false rest all = all

-- the pieces of what is held fit
pieces_fit : (ops : List Op) (sender : Space) (source : Place) (rights : Rights) → all_formed ops ≡ true → HavePlaces ops → IsPlace source
    → AllFitting source (greatest_number (records_of ops)) (pieces (state_of ops) (records_of ops) sender source rights)
unfolding pieces
pieces_fit ops sender source rights formed places is_source =
    all_fit (state_of ops) source rights (greatest_number (records_of ops)) is_source (holders (records_of ops) sender)
    (first_all (greatest_number (records_of ops)) (is_first_space sender) (record_holders sender (records_of ops))
    (held_all (greatest_number (records_of ops)) sender (records_of ops) (λ r among.
    (let target = record_target r (listed_formed ops formed r among) in
    record { place = places r (listed_has ops r among); reference = target.reference; issuer = target.issuer; earlier = most_of (records_of ops) r among }))))

-- What a Map carries goes from a place to one of the same size.

record IsCarried (transfer : Transfer) : Type 0 where
  source : IsPlace transfer.source
  target : IsPlace transfer.target
  size : transfer.source.order ≡ transfer.target.order

some_carried : (send_base : ℕ) (rights : Rights) (page window : Place) → IsPlace page → IsPlace window → IsCarried (carried send_base rights page window)
some_carried send_base rights page window is_page is_window =
    let order : ℕ = min page.order window.order in
    let index : ℕ = send_base / 2 ^ order in
    let least : least_order ≤ order = omega (arith, is_page.at_least_a_page, is_window.at_least_a_page) in
    record { source = part_place page order index is_page least (omega arith); target = part_place window order index is_window least (omega arith); size = refl }

map_carried : (send_base : ℕ) (rights : Rights) (page window : Option Place) → IfSome page IsPlace → IfSome window IsPlace → IfSome (carried_by send_base rights page window) IsCarried
map_carried send_base rights (Some page) (Some window) is_page is_window = some_carried send_base rights page window is_page is_window
map_carried send_base rights (Some page) None is_page is_window = tt
map_carried send_base rights None window is_page is_window = tt

-- The candidates of a Map.

below_limit : (n : ℕ) → nat_le number_limit n ≡ false → n < number_limit
below_limit n h = grind (arith, nat_tests)

module _ (processor : ℕ) (receiver : Space) (transfer : Transfer) (greatest : ℕ) where
  numbered_formed : (number : ℕ) (pieces : List Piece) → AllFitting transfer.source greatest pieces → greatest < number → processor < processor_limit → is_root_number receiver ≡ false
      → list_any is_spent (numbered_records number processor receiver transfer pieces) ≡ false → all_formed (numbered_records number processor receiver transfer pieces) ≡ true
  numbered_formed number [] fits low issuer space few = refl
  numbered_formed number (piece ∷ rest) fits low issuer space few =
      let parts = or_parts (nat_le number_limit number) (list_any is_spent (numbered_records (number + 1) processor receiver transfer rest)) few in
      and_from (is_formed (Born (mapped_record (record { number = number; processor = processor }) receiver transfer piece))) (all_formed (numbered_records (number + 1) processor receiver transfer rest))
      (ap is_ok (piece_checked number processor receiver transfer greatest piece fits.0 low (below_limit number parts.0) issuer space))
      (numbered_formed (number + 1) rest fits.1 (omega arith) issuer space parts.1)

  numbered_places : (number : ℕ) (pieces : List Piece) → AllFitting transfer.source greatest pieces → IsCarried transfer → HavePlaces (numbered_records number processor receiver transfer pieces)
  numbered_places number [] fits is r has = absurd has
  numbered_places number (piece ∷ rest) fits is r (inl here) =
      subst (λ (x : Record). IsPlace x.place) here (moved_place transfer.source transfer.target piece.source is.source is.target fits.0.place fits.0.within is.size)
  numbered_places number (piece ∷ rest) fits is r (inr later) = numbered_places (number + 1) rest fits.1 is r later

  numbered_named : (number : ℕ) (pieces : List Piece) (r : Record) → HasAtom (numbered_records number processor receiver transfer pieces) (Rec r) → r.id.processor ≡ processor
  numbered_named number [] r has = absurd has
  numbered_named number (piece ∷ rest) r (inl here) = ap (λ (x : Record). x.id.processor) (sym here)
  numbered_named number (piece ∷ rest) r (inr later) = numbered_named (number + 1) rest r later

map_formed : (log : Log) (sender receiver : Space) (o : Option Transfer) → log.processor < processor_limit → all_formed log.ops ≡ true → HavePlaces log.ops → IfSome o IsCarried → is_root_number receiver ≡ false
    → list_any is_spent (map_candidates log.ops log.processor sender o receiver) ≡ false
    → (all_formed (map_candidates log.ops log.processor sender o receiver) ≡ true) × HavePlaces (map_candidates log.ops log.processor sender o receiver)
map_formed log sender receiver None issuer formed places is space few = (refl, λ r has. absurd has)
map_formed log sender receiver (Some transfer) issuer formed places is space few =
    let greatest : ℕ = greatest_number (records_of log.ops) in
    let all : List Piece = pieces (state_of log.ops) (records_of log.ops) sender transfer.source transfer.rights in
    let fits : AllFitting transfer.source greatest all = pieces_fit log.ops sender transfer.source transfer.rights formed places is.source in (
      numbered_formed log.processor receiver transfer greatest (greatest + 1) all fits (omega arith) issuer space few,
      numbered_places log.processor receiver transfer greatest (greatest + 1) all fits is,
    )

map_named : (log : Log) (sender receiver : Space) (o : Option Transfer) (r : Record) → HasAtom (map_candidates log.ops log.processor sender o receiver) (Rec r) → r.id.processor ≡ log.processor
map_named log sender receiver None r has = absurd has
map_named log sender receiver (Some transfer) r has =
    numbered_named log.processor receiver transfer (greatest_number (records_of log.ops)) (greatest_number (records_of log.ops) + 1) (pieces (state_of log.ops) (records_of log.ops) sender transfer.source transfer.rights) r has

-- The candidates of an Unmap, and of the end of a space.

cuts_formed : (ops : List Op) → AllCuts ops → all_formed ops ≡ true
cuts_formed [] all = refl
cuts_formed (Born r ∷ rest) all = absurd all.0
cuts_formed (Cut cut ∷ rest) all = and_from (is_formed (Cut cut)) (all_formed rest) (ap is_ok all.0) (cuts_formed rest all.1)
cuts_formed (Closed space ∷ rest) all = absurd all.0

unmap_formed : (ops : List Op) (space : Space) (o : Option Place) (rights : Rights) (flush : Bool) → all_formed ops ≡ true → all_formed (unmap_candidates ops space o rights flush) ≡ true
unmap_formed ops space None rights flush formed = refl
unmap_formed ops space (Some page) rights flush formed = by_rights (is_empty rights)
  where
    by_rights : (b : Bool) → all_formed (if b then [] else flat_map (holder_cuts (records_of ops) page rights flush) (holders (records_of ops) space)) ≡ true
    by_rights true = refl
    by_rights false = cuts_formed (flat_map (holder_cuts (records_of ops) page rights flush) (holders (records_of ops) space)) (all_cuts rights (records_of ops) (listed_formed ops formed) page flush space)

closed_checked : (space : Space) → is_root_number space ≡ false → checked (Closed space) ≡ Ok tt
closed_checked space behind = cond-false (is_root_number space) _ _ behind

-- What is issued is what is new of the candidates, where nothing refuses them.

some_refused : (fault : IssueFault) → Some fault ≡ None → ⊥
some_refused fault e = cc

passed : (b : Bool) (fault : IssueFault) (rest : Option IssueFault) → (if b then Some fault else rest) ≡ None → (b ≡ false) × (rest ≡ None)
passed true fault rest h = absurd (some_refused fault h)
passed false fault rest h = (refl, h)

err_issued : (fault : IssueFault) (ops : List Op) → Err fault ≡ Ok ops → ⊥
err_issued fault ops e = cc

same_issued : (r : Result (List Op) IssueFault) (a b : List Op) → r ≡ Ok a → r ≡ Ok b → a ≡ b
same_issued r a b e f = cc

pub issued_parts : (spaces limit : Option IssueFault) (fresh ops : List Op) → unless_spaces spaces (issued_unless limit fresh) ≡ Ok ops → (spaces ≡ None) × (limit ≡ None) × (fresh ≡ ops)
issued_parts None None fresh ops is = (refl, refl, same_issued (Ok fresh) fresh ops refl is)
issued_parts None (Some fault) fresh ops is = absurd (err_issued fault ops is)
issued_parts (Some fault) limit fresh ops is = absurd (err_issued fault ops is)

-- what is new of candidates is as they are
news_formed : (held candidates ops : List Op) → news (state_of held) candidates ≡ ops → all_formed candidates ≡ true → HavePlaces candidates → (all_formed ops ≡ true) × HavePlaces ops
news_formed held candidates ops is formed places = (
  subst (λ (xs : List Op). all_formed xs ≡ true) is (formed_news (state_of held) candidates formed),
  λ r has. places r (news_among (state_of held) candidates (Rec r) (subst (λ (xs : List Op). HasAtom xs (Rec r)) (sym is) has)),
)

pub issues_are_formed : IssuesAreFormed
issues_are_formed log (Map sender item receiver window) ops issuer formed places command is =
    let candidates : List Op = map_candidates log.ops log.processor sender (transfer_of item window) receiver in
    let parts = issued_parts (spaces_refusal (state_of log.ops) sender receiver) (limit_refusal log.ops candidates) (news (state_of log.ops) candidates) ops is in
    let spaces = passed (is_root_number receiver) _ _ (passed ((state_of log.ops).is_ended receiver) _ _ (passed ((state_of log.ops).is_ended sender) _ _ parts.0).1).1 in
    let few = passed (list_any is_spent candidates) _ _ parts.1 in
    let all = map_formed log sender receiver (transfer_of item window) issuer formed places (map_carried item.send_base item.rights item.page window command.0 command.1) spaces.0 few.0 in
    news_formed log.ops candidates ops parts.2 all.0 all.1
issues_are_formed log (Unmap space page rights flush) ops issuer formed places command is =
    let candidates : List Op = unmap_candidates log.ops space page rights flush in
    let parts = issued_parts (ended_refusal (state_of log.ops) space) (limit_refusal log.ops candidates) (news (state_of log.ops) candidates) ops is in
    news_formed log.ops candidates ops parts.2 (unmap_formed log.ops space page rights flush formed) (λ r has. absurd (unmap_none log.ops space page rights flush r has))
issues_are_formed log (End space) ops issuer formed places command is =
    let parts = issued_parts (ending_refusal (state_of log.ops) space) (limit_refusal log.ops (Closed space ∷ [])) (news (state_of log.ops) (Closed space ∷ [])) ops is in
    let spaces = passed (is_root_number space) _ _ (passed ((state_of log.ops).is_ended space) _ _ parts.0).1 in
    news_formed log.ops (Closed space ∷ []) ops parts.2 (and_from (is_formed (Closed space)) true (ap is_ok (closed_checked space spaces.0)) refl) (λ r has. absurd (end_none space r has))

named_news : (held candidates ops : List Op) (processor : ℕ) → news (state_of held) candidates ≡ ops → ((r : Record) → HasAtom candidates (Rec r) → r.id.processor ≡ processor) → (r : Record) → HasAtom ops (Rec r) → r.id.processor ≡ processor
named_news held candidates ops processor is named r has = named r (news_among (state_of held) candidates (Rec r) (subst (λ (xs : List Op). HasAtom xs (Rec r)) (sym is) has))

pub issues_are_named : IssuesAreNamed
issues_are_named log (Map sender item receiver window) ops is =
    let candidates : List Op = map_candidates log.ops log.processor sender (transfer_of item window) receiver in
    let parts = issued_parts (spaces_refusal (state_of log.ops) sender receiver) (limit_refusal log.ops candidates) (news (state_of log.ops) candidates) ops is in
    named_news log.ops candidates ops log.processor parts.2 (map_named log sender receiver (transfer_of item window))
issues_are_named log (Unmap space page rights flush) ops is =
    let candidates : List Op = unmap_candidates log.ops space page rights flush in
    let parts = issued_parts (ended_refusal (state_of log.ops) space) (limit_refusal log.ops candidates) (news (state_of log.ops) candidates) ops is in
    named_news log.ops candidates ops log.processor parts.2 (λ r has. absurd (unmap_none log.ops space page rights flush r has))
issues_are_named log (End space) ops is =
    let parts = issued_parts (ending_refusal (state_of log.ops) space) (limit_refusal log.ops (Closed space ∷ [])) (news (state_of log.ops) (Closed space ∷ [])) ops is in
    named_news log.ops (Closed space ∷ []) ops log.processor parts.2 (λ r has. absurd (end_none space r has))
