-- The runs of a table are as long as can be.
use Rattle.std.proofs.Common.{◌≡◌, ℕ, zero, suc, ◌+◌, ◌-◌, true, false, sym, subst, ◌∙◌, List, [], ◌∷◌, ◌++◌, arith}
use Rattle.std.specs.Prelude.{◌==◌, ◌&&◌, Option, None, Some}
use Rattle.std.specs.List.{AllByRecursion}
use Rattle.std.proofs.lemmas.Bool.{and_from, and_parts, cond_both, eq-eqb, eqb-true, false≢true}
use Rattle.std.proofs.lemmas.Bool.Decides.{nat_tests}
use Rattle.mapdb_fpage.specs.Bounds.{page_limit}
use Rattle.mapdb_fpage.specs.declared.right_sets.Rights.{Rights}
use Rattle.mapdb_fpage.specs.RightSets.{same_rights}
use Rattle.mapdb_fpage.specs.RightBits.{exact_rights}
use Rattle.mapdb_facts.specs.Names.{is_space_before}
use Rattle.mapdb_facts.specs.Records.{IsAscending, records_of}
use Rattle.mapdb_facts.specs.Spaces.{numbered}
use Rattle.mapdb_facts.specs.declared.names.Space.{Space}
use Rattle.mapdb_facts.specs.declared.operations.Op.{Op}
use Rattle.mapdb_fpage.specs.RightBits.{same_rights_itself}
use Rattle.mapdb_replica.specs.Pairs.{Pair}
use Rattle.mapdb_replica.specs.Served.{served}
use Rattle.mapdb_table.specs.Maximal.{AreMaximal, EndsThere, GoesOnIn}
use Rattle.mapdb_table.specs.Table.{row_goes_on, row_of, rows_behind, rows_from, rows_of_spaces, space_rows, spaces_of, table, with_row_page, with_served}
use Rattle.mapdb_table.specs.declared.rows.TableRow.{TableRow}
use Rattle.mapdb_table.proofs.ListedSpaces.{ascending_among}
use Rattle.mapdb_table.proofs.OrderedRows.{EachOrdered, IsBehindSpace, IsIn, rows_from-ordered, space_rows-ordered, spaces-behind}

-- a row that is one page longer ends where it ended
longer-ends : (space : Space) (page : ℕ) (pair : Pair) (row : TableRow) (rows : List TableRow) → row.space ≡ space → row_goes_on page pair row ≡ true
    → EndsThere row rows → EndsThere (row_of space page (row.count + 1) pair) rows
longer-ends space page pair row [] same next ends = tt
longer-ends space page pair row (later ∷ rest) same next ends = λ goes.
    let parts = and_parts (row.page == page + 1) ((row.frame == pair.0 + 1) && same_rights row.rights pair.1) next in
    let more = and_parts (row.frame == pair.0 + 1) (same_rights row.rights pair.1) parts.1 in
    let first : row.page ≡ page + 1 = eqb-true row.page (page + 1) parts.0 in
    let frame : row.frame ≡ pair.0 + 1 = eqb-true row.frame (pair.0 + 1) more.0 in
    let end = goes.1 in
    let behind = goes.2 in
    ends (same ∙ goes.0, omega arith, omega arith, exact_rights row.rights pair.1 more.1 ∙ goes.3)

-- a row of one page goes on in the next row only where that one begins with the page behind
one-goes_on : (space : Space) (page : ℕ) (pair : Pair) (row : TableRow) → GoesOnIn (row_of space page 1 pair) row → row_goes_on page pair row ≡ true
one-goes_on space page pair row goes =
    and_from (row.page == page + 1) ((row.frame == pair.0 + 1) && same_rights row.rights pair.1) (eq-eqb row.page (page + 1) (sym goes.1))
    (and_from (row.frame == pair.0 + 1) (same_rights row.rights pair.1) (eq-eqb row.frame (pair.0 + 1) (sym goes.2))
    (subst (λ (r : Rights). same_rights row.rights r ≡ true) (sym goes.3) (same_rights_itself row.rights)))

with_page-maximal : (space : Space) (page : ℕ) (pair : Pair) (rows : List TableRow) → AllByRecursion (IsIn space (page + 1)) rows → AreMaximal rows
    → AreMaximal (with_row_page space page pair rows)
with_page-maximal space page pair [] within h = (tt, tt)
with_page-maximal space page pair (row ∷ rows) within h =
    cond_both (row_goes_on page pair row) (row_of space page (row.count + 1) pair ∷ rows) (row_of space page 1 pair ∷ row ∷ rows) AreMaximal
    (λ next. (longer-ends space page pair row rows within.0.0 next h.0, h.1))
    (λ other. (λ goes. false≢true (sym other ∙ one-goes_on space page pair row goes), h))

with_served-maximal : (space : Space) (page : ℕ) (o : Option Pair) (rows : List TableRow) → AllByRecursion (IsIn space (page + 1)) rows → AreMaximal rows
    → AreMaximal (with_served space page o rows)
with_served-maximal space page None rows within h = h
with_served-maximal space page (Some pair) rows within h = with_page-maximal space page pair rows within h

rows_from-maximal : (f : ℕ → Option Pair) (space : Space) (page left : ℕ) → AreMaximal (rows_from f space page left)
rows_from-maximal f space page zero = tt
rows_from-maximal f space page (suc left) =
    with_served-maximal space page (f page) (rows_from f space (page + 1) left) (rows_from-ordered f space (page + 1) left).1
    (rows_from-maximal f space (page + 1) left)

rows_behind-maximal : (f : ℕ → Option Pair) (space : Space) (page : ℕ) → AreMaximal (rows_behind f space page)
unfolding rows_behind
rows_behind-maximal f space page = rows_from-maximal f space page (page_limit - page)

space_rows-maximal : (ops : List Op) (space : Space) → AreMaximal (space_rows ops space)
unfolding space_rows
space_rows-maximal ops space = rows_behind-maximal (served ops space) space 0

-- Space after space.

not_before_itself : (space : Space) → is_space_before space space ≡ false
not_before_itself space = grind (arith, nat_tests)

-- the last row of a space does not go on in the first of a later one
ends-append : (space : Space) (row : TableRow) (xs ys : List TableRow) → row.space ≡ space → EndsThere row xs → AllByRecursion (IsBehindSpace space) ys
    → EndsThere row (xs ++ ys)
ends-append space row [] [] same ends behind = tt
ends-append space row [] (y ∷ ys) same ends behind = λ goes.
    false≢true (sym (not_before_itself space) ∙ subst (λ (s : Space). is_space_before space s ≡ true) (sym goes.0 ∙ same) behind.0)
ends-append space row (x ∷ xs) ys same ends behind = ends

maximal-append : (space : Space) (xs ys : List TableRow) → AllByRecursion (IsIn space 0) xs → AreMaximal xs → AllByRecursion (IsBehindSpace space) ys → AreMaximal ys
    → AreMaximal (xs ++ ys)
maximal-append space [] ys within xs_maximal behind ys_maximal = ys_maximal
maximal-append space (x ∷ xs) ys within xs_maximal behind ys_maximal = (
  ends-append space x xs ys within.0.0 xs_maximal.0 behind,
  maximal-append space xs ys within.1 xs_maximal.1 behind ys_maximal,
)

spaces-maximal : (rows_in : Space → List TableRow) (spaces : List Space) → EachOrdered rows_in → ((space : Space) → AreMaximal (rows_in space))
    → IsAscending numbered spaces → AreMaximal (rows_of_spaces rows_in spaces)
spaces-maximal rows_in [] each maximal up = tt
spaces-maximal rows_in (space ∷ rest) each maximal up =
    maximal-append space (rows_in space) (rows_of_spaces rows_in rest) (each space).1 (maximal space)
    (spaces-behind rows_in space rest each up.0) (spaces-maximal rows_in rest each maximal up.1)

pub table-maximal : (ops : List Op) → AreMaximal (table ops)
unfolding table
table-maximal ops = spaces-maximal (space_rows ops) (spaces_of ops) (space_rows-ordered ops) (space_rows-maximal ops) (ascending_among (records_of ops))
