-- Revocations are issued one after the other, where they are new at their turn.
use Rattle.std.proofs.Common.{◌≡◌, ℕ, zero, suc, ◌+◌, ◌<◌, ◌≤◌, Bool, true, false, cond, Ok, Err, Result, Some, refl, sym, ap, ◌∙◌, List, [], ◌∷◌, ◌++◌, append-nil, drop, get_or, length, length-append, take, arith}
use Rattle.std.specs.Prelude.{Option, None, count_by, nat_lt, if◌then◌else◌}
use Rattle.std.specs.List.{flat_map, list_any}
use Rattle.std.proofs.Math.Seq.{take-append_seam}
use Rattle.std.proofs.lemmas.Bool.{cond-false}
use Rattle.std.proofs.lemmas.Bool.Decides.{nat_tests}
use Rattle.std.proofs.lemmas.List.{take-append-drop}
use Rattle.std.proofs.lemmas.List.Sums.{sum_by-cons}
use Rattle.mapdb_fpage.specs.Place.{Place}
use Rattle.mapdb_fpage.specs.RightSets.{is_empty}
use Rattle.mapdb_fpage.specs.declared.right_sets.Rights.{Rights}
use Rattle.mapdb_facts.specs.Adding.{added, added_if, is_new}
use Rattle.mapdb_facts.specs.Records.{records_of}
use Rattle.mapdb_facts.specs.State.{State, join, said, state_of}
use Rattle.mapdb_facts.specs.declared.checking.OpFault.{OpFault}
use Rattle.mapdb_facts.specs.declared.names.Space.{Space}
use Rattle.mapdb_facts.specs.declared.operations.Op.{Op}
use Rattle.mapdb_facts.specs.declared.operations.Op.TheVariants.{Born, Closed, Cut}
use Rattle.mapdb_replica.specs.Issue.{holders}
use Rattle.mapdb_replica.specs.Replica.{Log, is_spent, issued_unless, limited, most_operations, news, unless_spaces, with_issued}
use Rattle.mapdb_replica.specs.Revoking.{AllCuts, IsFormedCut, cuts_of_place}
use Rattle.mapdb_replica.specs.Unmap.{holder_cuts, unmap_candidates, unmap_outcome}
use Rattle.mapdb_replica.specs.declared.faults.IssueFault.{IssueFault}
use Rattle.mapdb_replica.specs.declared.faults.IssueFault.TheVariants.{Full, SpaceEnded}
use Rattle.mapdb_replica.proofs.Calls.Issuing.{with_issued-twice}
use Rattle.mapdb_replica.proofs.News.NewsOfBatches.{news-append}
use Rattle.mapdb_replica.proofs.News.TurnsOfBatches.{one_more, turn}

pub cut_at : (cuts : List Op) (i : ℕ) (d : Op) → i < length cuts → AllCuts cuts → IsFormedCut (get_or cuts i d)
cut_at [] i d within all = absurd (omega arith)
cut_at (cut ∷ rest) zero d within all = all.0
cut_at (cut ∷ rest) (suc i) d within all = cut_at rest i d (omega arith) all.1

-- a well-formed revocation that is new may be added
pub cut_added : (S : State) (op : Op) → IsFormedCut op → is_new S op ≡ true → added S op ≡ Ok true
cut_added S (Born r) formed new = absurd formed
cut_added S (Cut cut) formed new =
    ap (λ (o : Result (Unit {0}) OpFault). added_if o (is_new S (Cut cut)) None) formed ∙ ap (λ (b : Bool). added_if (Ok tt) b None) new
cut_added S (Closed space) formed new = absurd formed

-- none has a number
pub none_spent : (cuts : List Op) → AllCuts cuts → list_any is_spent cuts ≡ false
none_spent [] all = refl
none_spent (Born r ∷ rest) all = absurd all.0
none_spent (Cut cut ∷ rest) all = none_spent rest all.1
none_spent (Closed space ∷ rest) all = absurd all.0

-- so only their count is limited
pub limited-cuts : (ops cuts : List Op) → AllCuts cuts
    → limited ops cuts ≡ issued_unless (if nat_lt most_operations (length ops + count_by (is_new (state_of ops)) cuts) then Some Full else None) (news (state_of ops) cuts)
limited-cuts ops cuts all =
    ap (λ (o : Option IssueFault). issued_unless o (news (state_of ops) cuts))
    (cond-false (list_any is_spent cuts) _ (if nat_lt most_operations (length ops + count_by (is_new (state_of ops)) cuts) then Some Full else None) (none_spent cuts all))

pub limited-few : (ops cuts : List Op) (count : ℕ) → AllCuts cuts → count ≡ count_by (is_new (state_of ops)) cuts → length ops + count ≤ most_operations → limited ops cuts ≡ Ok (news (state_of ops) cuts)
limited-few ops cuts count all is few =
    limited-cuts ops cuts all
    ∙ ap (λ (o : Option IssueFault). issued_unless o (news (state_of ops) cuts))
    (cond-false (nat_lt most_operations (length ops + count_by (is_new (state_of ops)) cuts)) (Some Full) None (not_below (length ops) (count_by (is_new (state_of ops)) cuts) (omega (arith, few, is))))
  where
    not_below : (a b : ℕ) → a + b ≤ most_operations → nat_lt most_operations (a + b) ≡ false
    not_below a b h = grind (arith, nat_tests)

pub limited-many : (ops cuts : List Op) (count : ℕ) → AllCuts cuts → count ≡ count_by (is_new (state_of ops)) cuts → most_operations < length ops + count → limited ops cuts ≡ Err Full
limited-many ops cuts count all is many =
    limited-cuts ops cuts all
    ∙ ap (λ (b : Bool). issued_unless (if b then Some Full else None) (news (state_of ops) cuts)) (below (length ops) (count_by (is_new (state_of ops)) cuts) (omega (arith, many, is)))
  where
    below : (a b : ℕ) → most_operations < a + b → nat_lt most_operations (a + b) ≡ true
    below a b h = grind (arith, nat_tests)

-- where some are new, some are new at their turn
some_step : (S : State) (op : Op) (rest : List Op) (b : Bool) → is_new S op ≡ b → 0 < count_by (is_new S) (op ∷ rest) → (0 < count_by (is_new S) rest → 0 < length (news S rest))
    → 0 < length (if b then op ∷ news (join S (said op)) rest else news S rest)
some_step S op rest true new some later = omega arith
some_step S op rest false old some later =
    later (omega (arith, some, sum_by-cons (λ (x : Op). cond (is_new S x) 1 0) op rest ∙ ap (λ (b : Bool). cond b 1 0 + count_by (is_new S) rest) old))

pub some-news : (S : State) (ops : List Op) → 0 < count_by (is_new S) ops → 0 < length (news S ops)
some-news S [] some = absurd (omega arith)
some-news S (op ∷ rest) some = some_step S op rest (is_new S op) refl some (some-news S rest)

-- where none is new, none is new at its turn
none_step : (S : State) (op : Op) (rest : List Op) (b : Bool) → is_new S op ≡ b → count_by (is_new S) (op ∷ rest) ≡ 0 → (count_by (is_new S) rest ≡ 0 → news S rest ≡ [])
    → (if b then op ∷ news (join S (said op)) rest else news S rest) ≡ []
none_step S op rest true new none later =
    absurd (omega (arith, none, sum_by-cons (λ (x : Op). cond (is_new S x) 1 0) op rest ∙ ap (λ (b : Bool). cond b 1 0 + count_by (is_new S) rest) new))
none_step S op rest false old none later =
    later (omega (arith, none, sum_by-cons (λ (x : Op). cond (is_new S x) 1 0) op rest ∙ ap (λ (b : Bool). cond b 1 0 + count_by (is_new S) rest) old))

pub no-news : (S : State) (ops : List Op) → count_by (is_new S) ops ≡ 0 → news S ops ≡ []
no-news S [] none = refl
no-news S (op ∷ rest) none = none_step S op rest (is_new S op) refl none (no-news S rest)

-- what is new of the first operations is the front of what is new of all
front : (S : State) (ops : List Op) (i : ℕ) → news S (take i ops) ++ news (join S (state_of (take i ops))) (drop i ops) ≡ news S ops
front S ops i = sym (news-append S (take i ops) (drop i ops)) ∙ ap (news S) (take-append-drop i ops)

pub news-front : (S : State) (ops : List Op) (i n : ℕ) → n ≡ length (news S (take i ops)) → take n (news S ops) ≡ news S (take i ops)
news-front S ops i n is =
    ap (λ k. take k (news S ops)) is
    ∙ ap (take (length (news S (take i ops)))) (sym (front S ops i))
    ∙ take-append_seam (news S (take i ops)) (news (join S (state_of (take i ops))) (drop i ops))

pub news-shorter : (S : State) (ops : List Op) (i : ℕ) → length (news S (take i ops)) ≤ length (news S ops)
news-shorter S ops i =
    let all : length (news S (take i ops) ++ news (join S (state_of (take i ops))) (drop i ops)) ≡ length (news S ops) = ap length (front S ops i) in
    omega (arith, all, length-append (news S (take i ops)) (news (join S (state_of (take i ops))) (drop i ops)))

module _ (log : Log) (batch : List Op) (i : ℕ) (op : Op) (within : i < length batch) (here : op ≡ get_or batch i op) where
  -- what the copy holds with one operation more
  pub issued-next : (now next : Log) (b : Bool) → is_new (turn log.ops batch i op within here) op ≡ b → now ≡ with_issued log (news (state_of log.ops) (take i batch)) → next ≡ (if b then with_issued now (op ∷ []) else now) → next ≡ with_issued log (news (state_of log.ops) (take (i + 1) batch))
  issued-next now next true new so_far step =
      step ∙ ap (λ (l : Log). with_issued l (op ∷ [])) so_far ∙ with_issued-twice log (news (state_of log.ops) (take i batch)) (op ∷ []) ∙ ap (with_issued log) (sym (one_more log batch i op within here true new))
  issued-next now next false new so_far step =
      step ∙ so_far ∙ ap (with_issued log) (sym (one_more log batch i op within here false new ∙ append-nil (news (state_of log.ops) (take i batch))))

  -- one that is new at its turn is not among the first ones
  pub front-short : is_new (turn log.ops batch i op within here) op ≡ true → (n : ℕ) → n ≡ length (news (state_of log.ops) (take i batch)) → n < length (news (state_of log.ops) batch)
  front-short new n is =
      let more : length (news (state_of log.ops) (take (i + 1) batch)) ≡ length (news (state_of log.ops) (take i batch) ++ op ∷ []) = ap length (one_more log batch i op within here true new) in
      omega (arith, more, length-append (news (state_of log.ops) (take i batch)) (op ∷ []), news-shorter (state_of log.ops) batch (i + 1), is)

-- what an Unmap comes to, where the space has not ended and some right is named of some pages
pub outcome-place : (log : Log) (space : Space) (o : Option Place) (page : Place) (rights : Rights) (flush : Bool) → (state_of log.ops).is_ended space ≡ false → o ≡ Some page → is_empty rights ≡ false
    → unmap_outcome log space o rights flush ≡ limited log.ops (cuts_of_place log space page rights flush)
unfolding cuts_of_place
outcome-place log space o page rights flush goes_on is some =
    ap (λ (fault : Option IssueFault). unless_spaces fault (limited log.ops (unmap_candidates log.ops space o rights flush)))
    (cond-false ((state_of log.ops).is_ended space) (Some (SpaceEnded space)) None goes_on)
    ∙ ap (λ (p : Option Place). limited log.ops (unmap_candidates log.ops space p rights flush)) is
    ∙ ap (limited log.ops) (cond-false (is_empty rights) [] (flat_map (holder_cuts (records_of log.ops) page rights flush) (holders (records_of log.ops) space)) some)
