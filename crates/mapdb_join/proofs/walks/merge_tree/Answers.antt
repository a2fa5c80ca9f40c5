use Rattle.std.proofs.lemmas.List.Elements.{recursion_from_All}
use Rattle.std.proofs.lemmas.Result.{err_from_is_err_and}
use Rattle.mapdb_join.specs.Lawful.Exact.{exact_cmp}
use Rattle.mapdb_join.proofs.Walking.{merged_first, merged_next, merged_apart, between_next}
use Rattle.mapdb_join.proofs.Keyed.{keyed_first, keyed_next, part_next}
use Rattle.mapdb_join.proofs.walks.merge_tree.Goals as goal

pub loop-key-init : goal.loop-key-init
loop-key-init g c =
    let f = c.into_iter-key-iterator.ensures.into_iter_gives in
    rw f.0 (record {
      merged =
          merged_first _ _ (recursion_from_All _ _ f.6);
      keyed = keyed_first _ _;
    })

pub merge_one-requires : goal.merge_one-requires
merge_one-requires g c =
    let laws = g.met.K in
    let a = rw c.in-Some.ensures.steps at c.loop-key.invariant in
    merged_apart (exact_cmp g.K.Ord.cmp laws.Ord.matches_eq laws.Exact.exact) g.V.Merge.excludes g.met.V.Merge.exclusion laws.Ord.total (c.in-Some.key.now, c.in-Some.value.now) c.next.new.self a.merged c.requires

pub loop-key-preserved : goal.loop-key-preserved
loop-key-preserved g c =
    let laws = g.met.K in
    let exact = exact_cmp g.K.Ord.cmp laws.Ord.matches_eq laws.Exact.exact in
    let a = rw c.in-Some.ensures.steps at c.loop-key.invariant in
    let done = c.in_ok-merge_one.ensures in
    record {
      merged = merged_next exact (c.in-Some.key.now, c.in-Some.value.now) c.next.new.self done.ok a.merged;
      keyed = keyed_next exact (c.in-Some.key.now, c.in-Some.value.now) c.next.new.self done.ok done.keys a.merged.covered.found.0 a.keyed;
    }

pub returns-in_err-merge_one-clause-err : goal.returns-in_err-merge_one-clause-err
returns-in_err-merge_one-clause-err g c =
    let laws = g.met.K in
    let a = rw c.in-Some.ensures.steps at c.loop-key.invariant in
    let p = err_from_is_err_and c.from_residual.result c.from_residual.ensures.1 in
    rw p.1 (between_next (exact_cmp g.K.Ord.cmp laws.Ord.matches_eq laws.Exact.exact) (c.in-Some.key.now, c.in-Some.value.now) c.next.new.self c.in_err-merge_one.ensures.err a.merged)

pub returns-in_err-merge_one-clause-part : goal.returns-in_err-merge_one-clause-part
returns-in_err-merge_one-clause-part g c =
    let laws = g.met.K in
    let a = rw c.in-Some.ensures.steps at c.loop-key.invariant in
    let p = err_from_is_err_and c.from_residual.result c.from_residual.ensures.1 in
    let done = c.in_err-merge_one.ensures in
    rw p.1 (part_next (exact_cmp g.K.Ord.cmp laws.Ord.matches_eq laws.Exact.exact) (c.in-Some.key.now, c.in-Some.value.now) c.next.new.self done.err done.keys_stay a.merged.covered.found.0 a.keyed)
