-- How many losses are new, one record after the other.
use Rattle.std.proofs.Common.{◌≡◌, ℕ, ◌+◌, ◌≤◌, Bool, true, false, cond, Some, refl, ap, ◌∙◌, List, [], ◌∷◌, ◌++◌, arith}
use Rattle.std.specs.Prelude.{Option, None, count_by, if◌then◌else◌}
use Rattle.std.specs.List.{cons_option}
use Rattle.std.proofs.lemmas.List.Sums.{sum_by-append, sum_by-cons}
use Rattle.mapdb_fpage.specs.Place.{Place}
use Rattle.mapdb_fpage.specs.declared.right_sets.Rights.{Rights}
use Rattle.mapdb_facts.specs.Adding.{is_new}
use Rattle.mapdb_facts.specs.Names.{is_root}
use Rattle.mapdb_facts.specs.Records.{IsAmong, IsAscending}
use Rattle.mapdb_facts.specs.State.{State}
use Rattle.mapdb_facts.specs.declared.names.Space.{Space}
use Rattle.mapdb_facts.specs.declared.operations.Record.{Record}
use Rattle.mapdb_facts.proofs.RecordLemmas.Ascending.{by_id}
use Rattle.mapdb_replica.specs.Revoking.{child_loss, child_losses, first_holder, holder_losses, new_in, new_total, own_loss, own_losses, record_holder}
use Rattle.mapdb_replica.specs.declared.losses.Loss.{Loss}
use Rattle.mapdb_replica.proofs.Unmaps.UnmapTurns.{all_losses, candidates, count_is}

pub cons_front : {X : Type 0} → (o : Option X) (xs : List X) → cons_option o [] ++ xs ≡ cons_option o xs
cons_front None xs = refl
cons_front (Some x) xs = refl

module _ (S : State) where
  one : Loss → ℕ
  one loss = cond (is_new S loss.op) 1 0

  pub total-cons : (o : Option Loss) (xs : List Loss) → new_total S (cons_option o xs) ≡ new_in S o + new_total S xs
  unfolding new_total
  total-cons None xs = omega arith
  total-cons (Some loss) xs = sum_by-cons (λ (x : Loss). cond (is_new S x.op) 1 0) loss xs

  pub total-append : (xs ys : List Loss) → new_total S (xs ++ ys) ≡ new_total S xs + new_total S ys
  unfolding new_total
  total-append xs ys = sum_by-append (λ (x : Loss). cond (is_new S x.op) 1 0) xs ys

  pub in-few : (o : Option Loss) → new_in S o ≤ 1
  in-few None = omega arith
  in-few (Some loss) = by (is_new S loss.op)
    where
      by : (b : Bool) → (if b then 1 else 0) ≤ 1
      by true = omega arith
      by false = omega arith

  module _ (records : List Record) (space : Space) (page : Place) (rights : Rights) (flush : Bool) where
    -- what is still to be counted
    abbrev pub still_new : List Record → ℕ
    still_new rest = new_total S (child_losses records space page rights rest) + new_total S (own_losses space page rights flush rest)

    pub count-start : (count : ℕ) → count ≡ new_in S (own_loss page rights flush (first_holder space)) → count + still_new records ≡ new_total S (all_losses records space page rights flush)
    count-start count is =
        let parts = total-append (child_losses records space page rights records) (holder_losses space page rights flush records) in
        let own = total-cons (own_loss page rights flush (first_holder space)) (own_losses space page rights flush records) in
        omega (arith, parts, own, is)

    pub count-next : (rest later : List Record) (r : Record) (count a b total : ℕ) → rest ≡ r ∷ later → a ≡ new_in S (child_loss records space page rights r) → b ≡ new_in S (own_loss page rights flush (record_holder space r))
        → count + still_new rest ≡ total → count + (a + b) + still_new later ≡ total
    count-next rest later r count a b total is lost own so_far =
        let step : still_new rest ≡ still_new (r ∷ later) = ap (λ (rs : List Record). still_new rs) is in
        let child = total-cons (child_loss records space page rights r) (child_losses records space page rights later) in
        let holder = total-cons (own_loss page rights flush (record_holder space r)) (own_losses space page rights flush later) in
        omega (arith, step, child, holder, so_far, lost, own)

    pub count-end : (rest : List Record) (count : ℕ) → rest ≡ [] → IsAscending by_id records → ((r : Record) → IsAmong r records → is_root r.id ≡ false)
        → count + still_new rest ≡ new_total S (all_losses records space page rights flush) → count ≡ count_by (is_new S) (candidates records space page rights flush)
    unfolding new_total
    count-end rest count is rising other so_far =
        let none : still_new rest ≡ 0 = ap (λ (rs : List Record). still_new rs) is in
        let all : count ≡ new_total S (all_losses records space page rights flush) = omega (arith, none, so_far) in
        all ∙ count_is records space page rights flush rising other (is_new S)
