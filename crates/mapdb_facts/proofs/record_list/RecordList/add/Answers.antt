use Rattle.std.proofs.Common.{◌≡◌, List, [], ◌∷◌, ◌++◌, cond, length, ap, arith, ◌∙◌}
use Rattle.std.specs.Prelude.{Some}
use Rattle.std.specs.List.{zip}
use Rattle.std.specs.Map.{lookup}
use Rattle.mapdb_facts.specs.Names.{same_id}
use Rattle.mapdb_facts.specs.declared.operations.Record.{Record}
use Rattle.mapdb_facts.proofs.NameLemmas.OwnNames.{found_more, found_more_each, not_placed, own_names, places_more}
use Rattle.mapdb_facts.proofs.record_list.RecordList.add.Goals as goal

pub put-requires : goal.put-requires
put-requires c =
    not_placed c.self.inside.places c.self.inside.records.items c.self.invariant.0 c.args.mapping
    (ap (λ table. lookup (same_id c.args.mapping.id) table.entries) c.self.view_is ∙ c.requires)

pub invariant_of-self-2 : goal.invariant_of-self-2
invariant_of-self-2 c =
    let records : List Record = c.self.inside.records.items in
    let at : c.len.result ≡ length records = omega (arith, c.len.ensures, c.in_ok-reserve.ensures.len, c.self.inside.records.ok.0) in
    let more : c.push_reserved.new.self.items ≡ records ++ c.args.mapping ∷ [] =
    c.push_reserved.ensures.items ∙ ap (λ (l : List Record). l ++ c.args.mapping ∷ []) c.in_ok-reserve.ensures.items in
    let new = ap (λ table. lookup (same_id c.args.mapping.id) table.entries) c.self.view_is ∙ c.requires in
    rw more (
      places_more c.self.inside.places records c.self.invariant.0 c.args.mapping new c.put.new.self c.len.result at c.in_ok-put.ensures.few c.in_ok-put.ensures.ok,
      found_more_each records c.args.mapping new (found_more c.self.inside.places records c.self.invariant.0 c.args.mapping new) c.self.invariant.1,
    )

pub returns-clause-ok : goal.returns-clause-ok
returns-clause-ok c = λ q.
    let records : List Record = c.self.inside.records.items in
    let more : c.push_reserved.new.self.items ≡ records ++ c.args.mapping ∷ [] =
    c.push_reserved.ensures.items ∙ ap (λ (l : List Record). l ++ c.args.mapping ∷ []) c.in_ok-reserve.ensures.items in
    ap (λ (l : List Record). lookup (same_id q) (zip (own_names l) l)) more
    ∙ found_more c.self.inside.places records c.self.invariant.0 c.args.mapping
    (ap (λ table. lookup (same_id c.args.mapping.id) table.entries) c.self.view_is ∙ c.requires) q
    ∙ ap (λ table. cond (same_id c.args.mapping.id q) (Some c.args.mapping) (lookup (same_id q) table.entries)) c.self.view_is
