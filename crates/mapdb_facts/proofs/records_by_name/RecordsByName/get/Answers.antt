use Rattle.std.proofs.Common.{ap, sym, ◌∙◌}
use Rattle.mapdb_facts.specs.Kept.{record_in}
use Rattle.mapdb_facts.proofs.NameLemmas.NamesInOrder.{one_lookup}
use Rattle.mapdb_facts.proofs.records_by_name.RecordsByName.get.Goals as goal

pub returns : goal.returns
returns c =
    c.copied.ensures ∙ c.get.ensures ∙ sym (one_lookup c.self.inside.list.entries c.args.id)
    ∙ ap (λ records. record_in records c.args.id) c.self.view_is
