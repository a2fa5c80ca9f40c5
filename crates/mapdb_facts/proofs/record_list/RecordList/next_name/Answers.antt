use Rattle.mapdb_facts.proofs.NameLemmas.OwnNames.{own_found, own_least, own_none}
use Rattle.mapdb_facts.proofs.record_list.RecordList.next_name.Goals as goal

pub returns-clause-none : goal.returns-clause-none
returns-clause-none c = rw (← c.self.view_is) (own_none c.self.inside.places c.self.inside.records.items c.self.invariant.0 c.args.after c.next.result c.next.ensures.none)

pub returns-clause-found : goal.returns-clause-found
returns-clause-found c = rw (← c.self.view_is) (own_found c.self.inside.places c.self.inside.records.items c.self.invariant.0 c.args.after c.next.result c.next.ensures.found)

pub returns-clause-least : goal.returns-clause-least
returns-clause-least c = rw (← c.self.view_is) (own_least c.self.inside.places c.self.inside.records.items c.self.invariant.0 c.args.after c.next.result c.next.ensures.least)
