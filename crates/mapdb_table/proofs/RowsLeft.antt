-- The rows that are left, from run to run.
use Rattle.std.proofs.Common.{◌≡◌, ℕ, ◌+◌, ◌-◌, ◌<◌, ◌≤◌, List, [], ◌∷◌, ◌++◌, append-nil, drop_of_length-le, false, sym, ap, subst, ◌∙◌, arith, drop, get_or, length}
use Rattle.std.proofs.lemmas.List.{drop_more}
use Rattle.std.specs.Prelude.{Option, None, Some}
use Rattle.mapdb_fpage.specs.Bounds.{page_limit}
use Rattle.mapdb_facts.specs.declared.names.Space.{Space}
use Rattle.mapdb_replica.specs.Pairs.{Pair}
use Rattle.mapdb_replica.specs.Running.{AreSteady, IsRunEnd, IsSteadyPart, continues, pair_on}
use Rattle.mapdb_rights.specs.ShownSpaces.{CoverPages}
use Rattle.mapdb_rights.specs.declared.index.served_pages.SteadyPages.{SteadyPages}
use Rattle.mapdb_table.specs.Table.{row_of, rows_behind}
use Rattle.mapdb_table.specs.declared.rows.TableRow.{TableRow}
use Rattle.mapdb_table.proofs.RowLists.{behind-all, behind-row, behind-skip, none-over}

-- where the first of these pages begins, or the end of the space
abbrev pub begins : List SteadyPages → ℕ
begins [] = page_limit
begins (pages ∷ rest) = pages.page

pub begins_at : (f : ℕ → Option Pair) (from : ℕ) (parts : List SteadyPages) → CoverPages (IsSteadyPart f) from page_limit parts → begins parts ≡ from
begins_at f from [] h = sym h
begins_at f from (pages ∷ rest) h = h.0.0

-- the parts from an index on begin with one, a run begins with it, and the parts behind the run begin at its end
pub record NextRun (f : ℕ → Option Pair) (parts : List SteadyPages) (place : ℕ) (first : SteadyPages) (end behind : ℕ) : Type 0 where
  pub here : begins (drop place parts) ≡ first.page
  pub steady : AreSteady f first
  pub run : IsRunEnd f first.page end
  pub next : begins (drop behind parts) ≡ end
  pub left : CoverPages (IsSteadyPart f) (begins (drop behind parts)) page_limit (drop behind parts)

pub next_run : (f : ℕ → Option Pair) (parts : List SteadyPages) (place : ℕ) (d : SteadyPages) (end behind : ℕ) → place < length parts
    → ((page : ℕ) → CoverPages (IsSteadyPart f) page page_limit (drop place parts) → IsRunEnd f page end)
    → ((page : ℕ) → CoverPages (IsSteadyPart f) page page_limit (drop place parts) → CoverPages (IsSteadyPart f) end page_limit (drop behind parts))
    → CoverPages (IsSteadyPart f) (begins (drop place parts)) page_limit (drop place parts) → NextRun f parts place (get_or parts place d) end behind
next_run f parts place d end behind inside run rest h =
    let first = get_or parts place d in
    let split : drop place parts ≡ first ∷ drop (place + 1) parts = drop_more parts place d inside in
    let begun : begins (drop place parts) ≡ first.page = ap begins split in
    let parted : CoverPages (IsSteadyPart f) first.page page_limit (first ∷ drop (place + 1) parts) =
    subst (λ (l : List SteadyPages). CoverPages (IsSteadyPart f) first.page page_limit l) split (subst (λ n. CoverPages (IsSteadyPart f) n page_limit (drop place parts)) begun h) in
    let behind_it : CoverPages (IsSteadyPart f) end page_limit (drop behind parts) = rest (begins (drop place parts)) h in
    let next : begins (drop behind parts) ≡ end = begins_at f end (drop behind parts) behind_it in
    record {
      here = begun;
      steady = parted.0.1;
      run = subst (λ n. IsRunEnd f n end) begun (run (begins (drop place parts)) h);
      next = next;
      left = subst (λ n. CoverPages (IsSteadyPart f) n page_limit (drop behind parts)) (sym next) behind_it;
    }

module _ (f : ℕ → Option Pair) (space : Space) where
  module _ (first : SteadyPages) (end : ℕ) (steady : AreSteady f first) (run : IsRunEnd f first.page end) where
    -- a run of pages that are not served has no row
    pub no_row : first.served ≡ None → rows_behind f space first.page ≡ rows_behind f space end
    no_row none =
        let above : first.page < end = run.above in
        behind-skip f space first.page end (omega arith) run.limit (none-over f space first.page end (sym steady.here ∙ none) run.same)

    -- and else it has one
    pub one_row : (pair : Pair) → first.served ≡ Some pair → rows_behind f space first.page ≡ row_of space first.page (end - first.page) pair ∷ rows_behind f space end
    one_row pair some =
        let here : f first.page ≡ Some pair = sym steady.here ∙ some in
        behind-row f space pair first.page end run.above run.limit
        (λ count inside. run.same count inside ∙ ap (pair_on count) here)
        (λ below. subst (λ (o : Option Pair). continues o (end - first.page) (f end) ≡ false) here (run.other below))
        ∙ ap (λ n. row_of space first.page (end - first.page) pair ∷ rows_behind f space n) up_to
      where
        up_to : first.page + (end - first.page) ≡ end
        up_to = let above : first.page < end = run.above in omega arith

  -- where no parts are left, no rows are
  pub rows_over : (parts : List SteadyPages) (place : ℕ) (rows : List TableRow) → length parts ≤ place → rows ++ rows_behind f space (begins (drop place parts)) ≡ rows_behind f space 0
      → rows ≡ rows_behind f space 0
  rows_over parts place rows over h =
      sym (append-nil rows)
      ∙ ap (λ (more : List TableRow). rows ++ more)
      (sym (behind-all f space page_limit (omega arith)) ∙ ap (λ (l : List SteadyPages). rows_behind f space (begins l)) (sym (drop_of_length-le parts over)))
      ∙ h
