use Rattle.std.proofs.Common.{◌≡◌, ◌∙◌, ◌++◌, [], List, Ok, ap, false, subst, sym}
use Rattle.smallvec.specs.SmallVec.{SmallVec}
use Rattle.std.specs.Prelude.{IfSome, Option, map}
use Rattle.std.specs.List.{flat_map}
use Rattle.mapdb_facts.specs.Facts.{records_of_facts, state_of_facts}
use Rattle.mapdb_facts.specs.declared.operations.Op.{Op}
use Rattle.mapdb_facts.specs.declared.operations.Record.{Record}
use Rattle.mapdb_rights.specs.AllBut.{IsAllBut}
use Rattle.mapdb_rights.specs.Meeting.{holders_of}
use Rattle.mapdb_rights.specs.Revoked.{IsRevokedBelow}
use Rattle.mapdb_replica.specs.Issue.{first_holders, holder_of}
use Rattle.mapdb_replica.specs.LeftOut.{Adds, IsOld}
use Rattle.mapdb_replica.specs.Unmap.{holder_cuts}
use Rattle.mapdb_replica.proofs.Copies.KeptIndexes.{answers_there}
use Rattle.mapdb_replica.proofs.News.KnownLeftOut.{adds_twice}
use Rattle.mapdb_replica.proofs.Unmaps.Revoked.{holders_left}
use Rattle.mapdb_replica.proofs.holder_cuts.cuts_by_holder.Goals as goal

pub returns : goal.returns
returns c =
    let S = state_of_facts c.args.facts.now in
    let records = records_of_facts c.args.facts.now in
    let cuts = holder_cuts records c.args.page.now c.args.rights c.args.flush in
    let first : List Op = flat_map cuts (first_holders c.args.space) in
    let later : List Op = flat_map cuts (map holder_of c.as_slice.result.now) in
    let listed : IsAllBut (IsRevokedBelow S) (holders_of records c.args.space c.args.page.now) c.as_slice.result.now =
    subst (λ (rs : List Record). IsAllBut (IsRevokedBelow S) (holders_of records c.args.space c.args.page.now) rs) (sym c.as_slice.ensures)
    (subst (λ (o : Option (SmallVec Record)). IfSome o (λ list. IsAllBut (IsRevokedBelow S) (holders_of records c.args.space c.args.page.now) list.items)) c.in-Some.is c.in_ok-held.ensures.holders) in
    let there : c.args.index.now.absent ≡ false =
    answers_there c.args.index.now c.holders.result c.in-Some.held c.holders.ensures.absent (c.in_ok-held.was ∙ ap Ok c.in-Some.is) in
    let found : Adds S (first ++ later) [] c.add_record_cuts.new.found.items =
    subst (λ (ops : List Op). Adds S (first ++ later) ops c.add_record_cuts.new.found.items) c.new-found.ensures.items
    (adds_twice S first later c.new-found.result.items c.add_first_cuts.new.found.items c.add_record_cuts.new.found.items c.in_ok-add_first_cuts.ensures c.in_ok-add_record_cuts.ensures) in
    holders_left c.args.facts.now c.args.index.now there c.requires c.args.space c.args.page.now c.prove_place.ensures c.args.rights c.args.flush c.as_slice.result.now listed
    c.add_record_cuts.new.found.items (subst (λ (ops : List Op). IsAllBut (IsOld S) (first ++ later) ops) (sym found.is) found.all_but)
