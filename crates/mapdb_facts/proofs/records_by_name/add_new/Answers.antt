use Rattle.std.proofs.Common.{sym, ◌∙◌}
use Rattle.mapdb_facts.proofs.NameLemmas.NamesInOrder.{one_lookup}
use Rattle.mapdb_facts.proofs.RecordLemmas.HeldInOrder.{put_greatest, put_union}
use Rattle.mapdb_facts.proofs.records_by_name.add_new.Goals as goal

pub returns-clause-greatest : goal.returns-clause-greatest
returns-clause-greatest c =
    put_greatest c.args.list.now c.add.new.self c.args.mapping.id c.args.mapping c.in_ok-add.ensures.ok c.args.greatest.now c.greater.result c.requires.greatest
    c.greater.ensures.one c.greater.ensures.other c.greater.ensures.either

pub returns-clause-ok : goal.returns-clause-ok
returns-clause-ok c = put_union c.args.list.now c.add.new.self c.args.mapping.id c.args.mapping c.in_ok-add.ensures.ok c.requires.absent

pub add-requires : goal.add-requires
add-requires c = sym (one_lookup c.args.list.now.entries c.args.mapping.id) ∙ c.requires.absent
