use Rattle.std.proofs.Common.{◌≡◌, [], ◌∷◌, ◌++◌, cond, length, ap, arith, ◌∙◌}
use Rattle.std.specs.Prelude.{Some}
use Rattle.std.specs.Map.{lookup}
use Rattle.mapdb_facts.proofs.Results.{on_err_from}
use Rattle.mapdb_facts.specs.ByName.{by_places}
use Rattle.mapdb_facts.specs.Names.{same_id}
use Rattle.mapdb_facts.proofs.NameLemmas.ByPlaces.{found_kept, found_more, places_more, unplaced}
use Rattle.mapdb_facts.proofs.by_name.ByName.insert.Goals as goal

pub put-requires : goal.put-requires
put-requires g c =
    unplaced c.self.inside.places c.self.inside.values.items c.self.invariant c.args.id
    (ap (λ table. lookup (same_id c.args.id) table.entries) c.self.view_is ∙ c.requires)

pub returns-in_err-put-clause-err : goal.returns-in_err-put-clause-err
returns-in_err-put-clause-err g c = on_err_from c.from_residual-in_err-put.result (λ q.
    ap (λ l. lookup (same_id q) (by_places c.put.new.self l).entries) c.in_ok-reserve.ensures.items
    ∙ found_kept c.self.inside.places c.self.inside.values.items c.self.invariant c.put.new.self c.in_err-put.ensures.err q
    ∙ ap (λ table. lookup (same_id q) table.entries) c.self.view_is)

pub invariant_of-self-2 : goal.invariant_of-self-2
invariant_of-self-2 g c =
    let values = c.self.inside.values.items in
    let end : c.len.result ≡ length values = omega (arith, c.len.ensures, c.in_ok-reserve.ensures.len, c.self.inside.values.ok.0) in
    let more : c.push_reserved.new.self.items ≡ values ++ c.args.value ∷ [] =
    c.push_reserved.ensures.items ∙ ap (λ l. l ++ c.args.value ∷ []) c.in_ok-reserve.ensures.items in
    rw more (places_more c.self.inside.places values c.self.invariant c.put.new.self c.args.id c.args.value c.len.result end c.in_ok-put.ensures.ok c.in_ok-put.ensures.few)

pub returns-clause-ok : goal.returns-clause-ok
returns-clause-ok g c = λ q.
    let values = c.self.inside.values.items in
    let end : c.len.result ≡ length values = omega (arith, c.len.ensures, c.in_ok-reserve.ensures.len, c.self.inside.values.ok.0) in
    ap (λ l. lookup (same_id q) (by_places c.put.new.self l).entries) (c.push_reserved.ensures.items ∙ ap (λ l. l ++ c.args.value ∷ []) c.in_ok-reserve.ensures.items)
    ∙ found_more c.self.inside.places values c.self.invariant c.put.new.self c.args.id c.args.value c.len.result end c.in_ok-put.ensures.ok q
    ∙ ap (λ table. cond (same_id c.args.id q) (Some c.args.value) (lookup (same_id q) table.entries)) c.self.view_is
