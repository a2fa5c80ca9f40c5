use Rattle.std.proofs.Common.{◌≡◌, ℕ, ◌+◌, ◌-◌, ◌≤◌, List, ◌++◌, length, take, drop, ap, ◌∙◌, arith}
use Rattle.std.specs.List.{insert_slice, remove_range, splice}
use Rattle.std.proofs.Math.Seq.{drop-append-add, take-append_seam}
use Rattle.std.proofs.lemmas.List.{append_assoc, drop-drop, length-append, length-take-le, take-append-drop}
use Rattle.mapdb_join.proofs.runs.regions.replace.Goals as goal

-- A list is put in front of others, and these are taken out.
put_and_taken : {X : Type 0} (xs ys : List X) (low high end : ℕ) → low ≤ high → high ≤ length xs
    → end ≡ length (insert_slice xs low ys) - (length xs - high)
    → remove_range (insert_slice xs low ys) (end - (high - low)) end ≡ splice xs low high ys
put_and_taken xs ys low high end rises inside is =
    let front = take low xs ++ ys in
    let one = length-append (take low xs) ys in
    let two = length-take-le low xs (omega (arith, rises, inside)) in
    let three = length-append front (drop low xs) in
    let whole = length-append (take low xs) (drop low xs) in
    let all = ap length (take-append-drop low xs) in
    let from : end - (high - low) ≡ length front = omega (arith, rises, inside, is, one, two, three, whole, all) in
    let to : end ≡ length front + (high - low) = omega (arith, rises, inside, is, one, two, three, whole, all) in
    let last : low + (high - low) ≡ high = omega (arith, rises) in
    ap (λ n. take n (front ++ drop low xs) ++ drop end (front ++ drop low xs)) from
    ∙ ap (λ n. take (length front) (front ++ drop low xs) ++ drop n (front ++ drop low xs)) to
    ∙ ap (λ l. l ++ drop (length front + (high - low)) (front ++ drop low xs)) (take-append_seam front (drop low xs))
    ∙ ap (λ l. front ++ l) (drop-append-add front (drop low xs) (high - low) ∙ drop-drop (high - low) low xs ∙ ap (λ n. drop n xs) last)
    ∙ append_assoc (take low xs) ys (drop high xs)

pub returns-clause-ok : goal.returns-clause-ok
returns-clause-ok c =
    let put = c.in_ok-insert_from_slice.ensures.ok in
    let len = c.len-2.ensures.value in
    let was = c.len.ensures.value in
    let end : ℕ = c.len-2.result - (c.len.result - c.args.high) in
    c.take_away.ensures
    ∙ ap (λ zs. remove_range zs (end - (c.args.high - c.args.low)) end) put
    ∙ put_and_taken c.args.starts.now.items c.args.list.now c.args.low c.args.high end c.requires.0 c.requires.1 (omega (arith, len, was, ap length put))
