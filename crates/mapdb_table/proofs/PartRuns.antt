-- How far steady pages, one behind the other, belong to one run.
use Rattle.std.proofs.Common.{◌≡◌, ℕ, ◌+◌, ◌-◌, ◌<◌, ◌≤◌, List, ◌∷◌, true, sym, ap, subst, ◌∙◌, arith}
use Rattle.std.specs.Prelude.{Option}
use Rattle.mapdb_fpage.specs.Bounds.{page_limit}
use Rattle.mapdb_replica.specs.Pairs.{Pair}
use Rattle.mapdb_replica.specs.Running.{IsSteadyPart, continues, pair_on}
use Rattle.mapdb_replica.proofs.Pages.RunningPages.{Runs, longer}
use Rattle.mapdb_rights.specs.ShownSpaces.{CoverPages}
use Rattle.mapdb_rights.specs.declared.index.served_pages.SteadyPages.{SteadyPages}

module _ (f : ℕ → Option Pair) where
  -- the pages up to an end belong to the run that begins at a page with the first pages, and those that are left begin there
  pub record RunsTo (page : ℕ) (first : SteadyPages) (end : ℕ) (rest : List SteadyPages) : Type 0 where
    pub begins : first.page ≡ page
    pub here : first.served ≡ f page
    pub above : page < end
    pub limit : end ≤ page_limit
    pub same : Runs f page end
    pub left : CoverPages (IsSteadyPart f) end page_limit rest

  -- the next pages go on in it
  pub run_on : (page : ℕ) (first : SteadyPages) (end : ℕ) (next : SteadyPages) (rest : List SteadyPages) → continues first.served (end - first.page) next.served ≡ true
      → RunsTo page first end (next ∷ rest) → RunsTo page first next.end rest
  run_on page first end next rest on h =
      let steady = h.left.0.1 in
      let at : next.page ≡ end = h.left.0.0 in
      let above : page < end = h.above in
      let further : next.page < next.end = steady.above in
      record {
        begins = h.begins;
        here = h.here;
        above = omega (arith, above, further, at);
        limit = steady.limit;
        same = longer f page end next.end above h.same (asked page first end next h.begins h.here (steady.here ∙ ap f at) ∙ on)
            (subst (λ n. (count : ℕ) → n + count < next.end → f (n + count) ≡ pair_on count (f n)) at steady.same);
        left = h.left.1;
      }
    where
      asked : (page : ℕ) (first : SteadyPages) (end : ℕ) (next : SteadyPages) → first.page ≡ page → first.served ≡ f page → next.served ≡ f end
          → continues (f page) (end - page) (f end) ≡ continues first.served (end - first.page) next.served
      asked page first end next begins here there =
          ap (λ (o : Option Pair). continues o (end - page) (f end)) (sym here)
          ∙ ap (λ (o : Option Pair). continues first.served (end - page) o) (sym there)
          ∙ ap (λ n. continues first.served (end - n) next.served) (sym begins)
