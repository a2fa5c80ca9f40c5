use Rattle.std.proofs.Common.{◌≡◌, ◌++◌, arith, ◌∙◌, List, ap, drop, length, refl, subst, sym, take}
use Rattle.std.specs.List.{refill}
use Rattle.std.specs.List.Sorted.{IsPermutation, IsSorted}
use Rattle.std.proofs.Math.Seq.{take-append_seam}
use Rattle.mapdb_facts.specs.Kept.{id_cmp}
use Rattle.mapdb_facts.specs.declared.names.RecordId.{RecordId}
use Rattle.mapdb_rights.proofs.Lists.NamedRecords.{few_in_order, names_rise, names_stay}
use Rattle.mapdb_rights.proofs.index.sharing.put_in_order.Goals as goal

-- a list that was sorted in its place
refilled : (xs ys : List RecordId) → length ys ≡ length xs → refill (length xs) xs ys ≡ ys
refilled xs ys same = ap (λ n. take n (ys ++ drop (length ys) xs)) (sym same) ∙ take-append_seam ys (drop (length ys) xs)

pub returns-clause-ordered : goal.returns-clause-ordered
returns-clause-ordered c =
    let xs = c.args.names.now.items in
    let ys = c.sort_unstable.new.self in
    let all : refill (length xs) xs ys ≡ ys = refilled xs ys (c.sort_unstable.ensures.len ∙ ap (λ (l : List RecordId). length l) c.as_mut_slice.ensures.value) in
    names_rise _ (λ x y. refl) xs (refill (length xs) xs ys) c.dedup.new.self.items
    (subst (λ (l : List RecordId). IsPermutation l (refill (length xs) xs ys)) c.as_mut_slice.ensures.value
    (subst (λ (l : List RecordId). IsPermutation c.as_mut_slice.result.now l) (sym all) c.sort_unstable.ensures.permutation))
    c.dedup.ensures.items
    (subst (λ (l : List RecordId). IsSorted id_cmp l) (sym all) c.sort_unstable.ensures.sorted)

pub returns-clause-kept : goal.returns-clause-kept
returns-clause-kept c =
    let xs = c.args.names.now.items in
    let ys = c.sort_unstable.new.self in
    let all : refill (length xs) xs ys ≡ ys = refilled xs ys (c.sort_unstable.ensures.len ∙ ap (λ (l : List RecordId). length l) c.as_mut_slice.ensures.value) in
    names_stay _ (λ x y. refl) xs (refill (length xs) xs ys) c.dedup.new.self.items
    (subst (λ (l : List RecordId). IsPermutation l (refill (length xs) xs ys)) c.as_mut_slice.ensures.value
    (subst (λ (l : List RecordId). IsPermutation c.as_mut_slice.result.now l) (sym all) c.sort_unstable.ensures.permutation))
    c.dedup.ensures.items

pub returns-then-len-lt2-clause-ordered : goal.returns-then-len-lt2-clause-ordered
returns-then-len-lt2-clause-ordered c = few_in_order c.args.names.now.items (omega arith)
