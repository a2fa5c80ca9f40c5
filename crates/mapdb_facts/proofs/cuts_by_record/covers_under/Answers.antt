use Rattle.std.proofs.Common.{◌∙◌}
use Rattle.mapdb_join.proofs.Walking.{absent_from, held_from}
use Rattle.mapdb_facts.proofs.Maps.NamedCuts.{under_both, under_theirs}
use Rattle.mapdb_facts.proofs.NameLemmas.NamesInOrder.{one_lookup}
use Rattle.mapdb_facts.proofs.cuts_by_record.covers_under.Goals as goal

pub returns-in-Some-get : goal.returns-in-Some-get
returns-in-Some-get c =
    let mine = one_lookup c.args.cuts.now.entries c.args.id ∙ held_from c.in-Some-get.is c.get-2.ensures in
    let theirs = one_lookup c.args.other.now.entries c.args.id ∙ held_from c.in-Some.is c.get.ensures in
    let both = under_both c.args.cuts.now.entries c.args.other.now.entries c.args.id c.in-Some-get.runs.now c.in-Some.theirs.now mine theirs in
    (λ t. both.0 (c.covers.ensures.0 t), λ all. c.covers.ensures.1 (both.1 all))

pub returns-in-None : goal.returns-in-None
returns-in-None c =
    let mine = one_lookup c.args.cuts.now.entries c.args.id ∙ absent_from c.in-None.is c.get-2.ensures in
    let theirs = one_lookup c.args.other.now.entries c.args.id ∙ held_from c.in-Some.is c.get.ensures in
    let both = under_theirs c.args.cuts.now.entries c.args.other.now.entries c.args.id c.in-Some.theirs.now mine theirs in
    (λ t. both.0 (c.is_none.ensures.0 t), λ all. c.is_none.ensures.1 (both.1 all))
