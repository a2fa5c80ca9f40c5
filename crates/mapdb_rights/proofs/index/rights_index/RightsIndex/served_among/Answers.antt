use Rattle.std.proofs.Common.{subst}
use Rattle.mapdb_facts.specs.Facts.{state_of_facts}
use Rattle.mapdb_rights.specs.First.{IsFirstOfAll}
use Rattle.mapdb_rights.specs.declared.index.first_records.First.{First}
use Rattle.mapdb_rights.proofs.Live.ServedPages.{served_mixed, stands_there}
use Rattle.mapdb_rights.proofs.index.rights_index.RightsIndex.served_among.Goals as goal

pub returns-in-Mixed : goal.returns-in-Mixed
returns-in-Mixed c =
    let S = state_of_facts c.args.facts.now in
    let index = c.args.self.now in
    served_mixed S index (stands_there S index c.requires.kept c.requires.there) c.args.space c.args.page c.in-Mixed.field-0 c.in-Mixed.change c.frame.result c.held_frame_rights-rights.result
    (subst (λ (f : First). IsFirstOfAll S index.changes.own.entries c.args.space c.args.page f) c.in-Mixed.is c.requires.first) c.frame.ensures c.held_frame_rights-rights.ensures
