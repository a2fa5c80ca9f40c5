use Rattle.std.proofs.Common.{◌++◌, ◌∷◌, [], cond, arith, ap, sym, ◌∙◌, ◌≡◌}
use Rattle.std.specs.Prelude.{Some, map}
use Rattle.std.proofs.lemmas.List.{length_push}
use Rattle.std.specs.List.{zip}
use Rattle.std.specs.Map.{lookup}
use Rattle.mapdb_facts.specs.Names.{same_id}
use Rattle.mapdb_facts.specs.NamedValues.{names_of, names_placed, with_name}
use Rattle.mapdb_facts.proofs.NameLemmas.NamedEntries.{given_added, names_zip, placed_nowhere}
use Rattle.mapdb_facts.proofs.listed_by_name.ListedByName.insert.Goals as goal

pub add-requires : goal.add-requires
add-requires g c = placed_nowhere c.self.inside.names c.self.inside.values.items c.args.id c.self.invariant (ap (λ table. lookup (same_id c.args.id) table.entries) c.self.view_is ∙ c.requires)

pub returns-clause-ok : goal.returns-clause-ok
returns-clause-ok g c = λ q.
    ap (λ names. lookup (same_id q) (zip names c.push_reserved.new.self.items)) c.in_ok-add.ensures.ok
    ∙ ap (λ values. lookup (same_id q) (zip (c.self.inside.names ++ c.args.id ∷ []) values)) (c.push_reserved.ensures.items ∙ ap (λ values. values ++ c.args.value ∷ []) c.in_ok-reserve.ensures.items)
    ∙ given_added c.self.inside.names c.self.inside.values.items c.args.id c.args.value (placed_nowhere c.self.inside.names c.self.inside.values.items c.args.id c.self.invariant (ap (λ table. lookup (same_id c.args.id) table.entries) c.self.view_is ∙ c.requires)) c.self.invariant q
    ∙ ap (λ table. cond (same_id c.args.id q) (Some c.args.value) (lookup (same_id q) table.entries)) c.self.view_is

pub returns-clause-names : goal.returns-clause-names
returns-clause-names g c =
    let names = c.self.inside.names in
    let before : names_of c.args.self.now ≡ names = ap (λ table. names_of table) (sym c.self.view_is) ∙ names_zip names c.self.inside.values.items c.self.invariant in
    ap (λ held. map (λ e. e.0) (zip held c.push_reserved.new.self.items)) c.in_ok-add.ensures.ok
    ∙ ap (λ values. map (λ e. e.0) (zip (names ++ c.args.id ∷ []) values)) (c.push_reserved.ensures.items ∙ ap (λ values. values ++ c.args.value ∷ []) c.in_ok-reserve.ensures.items)
    ∙ names_zip (names ++ c.args.id ∷ []) (c.self.inside.values.items ++ c.args.value ∷ []) (omega (arith, length_push names c.args.id, length_push c.self.inside.values.items c.args.value, c.self.invariant))
    ∙ sym (ap (λ held. with_name held c.args.id) before ∙ ap (names_placed names c.args.id) (placed_nowhere c.self.inside.names c.self.inside.values.items c.args.id c.self.invariant (ap (λ table. lookup (same_id c.args.id) table.entries) c.self.view_is ∙ c.requires)))
