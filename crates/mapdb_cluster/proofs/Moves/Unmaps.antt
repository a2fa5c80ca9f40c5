-- An Unmap of an honest run reaches all that its issuer saw, in every copy that has taken it.
use Rattle.std.proofs.Common.{Some, subst, List, ◌++◌}
use Rattle.mapdb_facts.proofs.Maps.Atoms.{atom_held, atom_kept}
use Rattle.mapdb_facts.proofs.States.Joins.{atom_right}
use Rattle.mapdb_facts.specs.State.{HasAtom, Rev, state_of}
use Rattle.mapdb_facts.specs.declared.operations.Op.{Op}
use Rattle.mapdb_replica.specs.Unmap.{unmap_candidates}
use Rattle.mapdb_replica.specs.declared.commands.Command.TheVariants.{Unmap}
use Rattle.mapdb_replica.proofs.News.NewsAtoms.{news_give}
use Rattle.mapdb_sequential.proofs.Lists.Issued.{outcome_ops}
use Rattle.mapdb_replica.proofs.Unmaps.Reaching.{unmap_reaches}
use Rattle.mapdb_cluster.specs.Net.{new_net}
use Rattle.mapdb_cluster.specs.Run.{last_net}
use Rattle.mapdb_cluster.specs.Unmaps.{IssuersHaveTaken, UnmapsReach}
use Rattle.mapdb_cluster.proofs.Moves.HonestRuns.{good_from, new_good, places_of}

pub unmaps_reach : UnmapsReach
unmaps_reach run later issuer copy are space part rights flush place taken right named =
    let first = (good_from (new_net run.count) run.moves (new_good run.count are.few) are.first).0 in
    let last = (good_from (last_net run) later first are.more).0 in
    let at = are.issues.0 in
    let to = are.takes.0 in
    unmap_reaches issuer.ops space part rights flush (first.kept.copies at issuer are.issues.1).formed
    (places_of issuer.ops (first.placed at issuer are.issues.1)) place (state_of copy.ops)
    (λ id page taken_right cut. atom_kept copy.ops (Rev id page taken_right) (last.kept.copies to copy are.takes.1).sound
    (taken (Rev id page taken_right) (atom_held (unmap_candidates issuer.ops space (Some part) rights flush) (Rev id page taken_right) cut)))
    right named

pub issuers_have_taken : IssuersHaveTaken
issuers_have_taken issuer space part rights flush ops outcome atom has =
    let candidates = unmap_candidates issuer.ops space (Some part) rights flush in
    subst (λ (new : List Op). HasAtom (issuer.ops ++ new) atom) (outcome_ops issuer (Unmap space (Some part) rights flush) ops outcome)
    ((news_give issuer.ops candidates atom).1 (atom_right issuer.ops candidates atom has))
