use Rattle.mapdb_facts.proofs.RecordLemmas.HeldInOrder.{all_found, all_least, all_none}
use Rattle.mapdb_facts.proofs.records_by_name.RecordsByName.next.Goals as goal

pub returns-clause-none : goal.returns-clause-none
returns-clause-none c = rw (← c.self.view_is) (all_none c.self.inside.list.entries c.args.after c.next_name.result c.next_name.ensures.none)

pub returns-clause-found : goal.returns-clause-found
returns-clause-found c = rw (← c.self.view_is) (all_found c.self.inside.list.entries c.args.after c.next_name.result c.next_name.ensures.found)

pub returns-clause-least : goal.returns-clause-least
returns-clause-least c = rw (← c.self.view_is) (all_least c.self.inside.list.entries c.args.after c.next_name.result c.next_name.ensures.least)
