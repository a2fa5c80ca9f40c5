use Rattle.std.proofs.Common.{◌++◌, ◌∙◌, List, ap}
use Rattle.std.specs.Prelude.{None}
use Rattle.mapdb_facts.specs.Facts.{records_of_facts, state_of_facts}
use Rattle.mapdb_facts.specs.declared.names.RecordId.{RecordId}
use Rattle.mapdb_rights.specs.Live.{live_names}
use Rattle.mapdb_rights.proofs.Live.LiveLists.{all_found, behind_none, fewer_left, names_behind, next_found}
use Rattle.mapdb_rights.proofs.index.live_names.all_live.Goals as goal

pub names-init : goal.names-init
names-init c =
    ap (λ (xs : List RecordId). xs ++ names_behind None (live_names (state_of_facts c.args.facts.now) (records_of_facts c.args.facts.now) c.args.space c.args.page)) c.new-found.ensures.items
    ∙ behind_none (live_names (state_of_facts c.args.facts.now) (records_of_facts c.args.facts.now) c.args.space c.args.page)

pub names-preserved : goal.names-preserved
names-preserved c =
    next_found c.args.facts.now c.args.space c.args.page c.requires.live_there.named c.requires.live_there.formed c.names.after c.in-Some.id
    c.names.found.items c.push.new.self.items c.in-Some.ensures c.in_ok-push.ensures.items c.names.invariant

pub names-smaller : goal.names-smaller
names-smaller c = fewer_left c.args.facts.now c.args.space c.args.page c.requires.live_there.named c.requires.live_there.formed c.names.after c.in-Some.id c.in-Some.ensures

pub returns : goal.returns
returns c =
    all_found c.args.facts.now c.args.space c.args.page c.requires.live_there.named c.requires.live_there.formed c.names.after c.names.found.items
    c.in_default.ensures c.names.invariant
