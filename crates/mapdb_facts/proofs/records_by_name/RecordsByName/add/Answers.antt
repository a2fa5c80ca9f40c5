use Rattle.std.proofs.Common.{sym, ◌∙◌}
use Rattle.mapdb_facts.proofs.NameLemmas.NamesInOrder.{one_lookup}
use Rattle.mapdb_facts.proofs.RecordLemmas.HeldInOrder.{absent_here, held_here, held_union}
use Rattle.mapdb_facts.proofs.records_by_name.RecordsByName.add.Goals as goal

pub returns-then-is_some-clause-ok : goal.returns-then-is_some-clause-ok
returns-then-is_some-clause-ok c =
    rw (← c.self.view_is)
    (held_union c.self.inside.list.entries c.args.mapping
    (held_here c.get.result _ c.args.mapping (c.get.ensures ∙ sym (one_lookup c.self.inside.list.entries c.args.mapping.id)) (sym c.is_some.ensures ∙ c.if-is_some.true) (rw (← c.self.view_is) at c.requires)))

pub add_new-requires-clause-absent : goal.add_new-requires-clause-absent
add_new-requires-clause-absent c = absent_here c.get.result _ (c.get.ensures ∙ sym (one_lookup c.self.inside.list.entries c.args.mapping.id)) (sym c.is_some.ensures ∙ c.if-is_some.false)
