use Rattle.std.proofs.Common.{◌<◌, arith, cond, length, refl, sym, ap, subst, ◌∙◌}
use Rattle.std.specs.Prelude.{Some}
use Rattle.std.specs.Map.{lookup}
use Rattle.std.proofs.lemmas.Option.{slice_get_read}
use Rattle.std.proofs.lemmas.Result.{IfOk-weaker}
use Rattle.mapdb_facts.specs.Names.{same_id}
use Rattle.mapdb_lists.specs.declared.changes.Change.{Change}
use Rattle.mapdb_lists.specs.OwnChanges.{own_change}
use Rattle.mapdb_lists.specs.Replacing.{IsReplaced}
use Rattle.mapdb_lists.proofs.ChangeLemmas.RecordChanges.{own_found, replaced_own}
use Rattle.mapdb_facts.proofs.NameLemmas.ByPlaces.{no_place_found, place_below, placed_value, value_given}
use Rattle.mapdb_lists.proofs.changes.replace_among.Goals as goal

pub index_mut-requires : goal.index_mut-requires
index_mut-requires c = omega (arith, place_below c.own_changes.inside.places c.own_changes.inside.values.items c.own_changes.invariant c.args.id c.in-Some.at (sym c.in-Some.ensures), c.own_changes.inside.values.ok.0)

pub returns-in-Some : goal.returns-in-Some
returns-in-Some c =
    let within : c.in-Some.at < length c.own_changes.inside.values.items = place_below c.own_changes.inside.places c.own_changes.inside.values.items c.own_changes.invariant c.args.id c.in-Some.at (sym c.in-Some.ensures) in
    IfOk-weaker c.replace.result _ _
    (λ replaced given. replaced_own c.args.own_changes.now.entries _ c.args.id c.args.first c.args.limit c.args.change replaced (own_change c.index_mut.result.now) c.replace.new.self
    (subst (λ (before : Change). IsReplaced (own_change c.index_mut.result.now) before c.args.first c.args.limit c.args.change (own_change c.replace.new.self) replaced) c.first_change.ensures given)
    (λ q. value_given c.own_changes.inside.places c.own_changes.inside.values.items c.own_changes.invariant c.args.id c.in-Some.at (sym c.in-Some.ensures) c.replace.new.self q
    ∙ ap (λ table. cond (same_id c.args.id q) (Some c.replace.new.self) (lookup (same_id q) table.entries)) c.own_changes.view_is)
    (own_found c.args.own_changes.now.entries c.args.id c.index_mut.result.now (sym (slice_get_read c.own_changes.inside.values.items _ c.in-Some.at c.index_mut.result.now refl within c.index_mut.ensures.value)
    ∙ placed_value c.own_changes.inside.places c.own_changes.inside.values.items c.own_changes.invariant c.args.id c.in-Some.at (sym c.in-Some.ensures)
    ∙ ap (λ table. lookup (same_id c.args.id) table.entries) c.own_changes.view_is)))
    c.replace.ensures

pub begin_among-requires-clause-bare : goal.begin_among-requires-clause-bare
begin_among-requires-clause-bare c =
    sym (no_place_found c.own_changes.inside.places c.own_changes.inside.values.items c.args.id (sym c.get.ensures ∙ c.in_default.is)
    ∙ ap (λ table. lookup (same_id c.args.id) table.entries) c.own_changes.view_is)
