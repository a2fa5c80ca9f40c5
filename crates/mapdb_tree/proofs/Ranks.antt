-- Each walk up from a page ends: the pages on it are stored, and each has a lower rank than the one
-- before. A measure sees the nodes and not the rank, so it counts the steps up.
use Rattle.std.proofs.Common.{◌≡◌, ◌∙◌, ℕ, zero, suc, ◌+◌, ◌<◌, ◌≤◌, Bool, true, false, ◌&&◌, ◌||◌, List, [], ◌∷◌, Option, Some, None, if◌then◌else◌, length, sym, ap, subst, refl, arith}
use Rattle.std.specs.Prelude.{nat_le}
use Rattle.std.specs.Map.{keys_of}
use Rattle.std.proofs.lemmas.Bool.{true≢false}
use Rattle.std.proofs.lemmas.Bool.Decides.{nat_tests}
use Rattle.mapdb_fpage.specs.Place.{is_page}
use Rattle.mapdb_facts.specs.Names.{is_first_space}
use Rattle.mapdb_tree.specs.Held.{IsForest, IsRanked, held_at, same_page}
use Rattle.mapdb_tree.specs.Reaching.{is_page_listed}
use Rattle.mapdb_tree.specs.Walks.{parent_in}
use Rattle.mapdb_tree.specs.declared.nodes.Node.{Node}
use Rattle.mapdb_tree.specs.declared.nodes.Page.{Page}
use Rattle.mapdb_tree.proofs.Below.{rises-held}
use Rattle.mapdb_tree.proofs.Marks.{either}
use Rattle.mapdb_tree.proofs.Storing.{first-parent, same_page_true, unstored}

-- how many of these pages have at most this rank
abbrev count_low : (Page → ℕ) → ℕ → List Page → ℕ
count_low rank top [] = 0
count_low rank top (page ∷ rest) = (if nat_le (rank page) top then 1 else 0) + count_low rank top rest

one-fits : (low : Bool) → (if low then 1 else 0) ≤ 1
one-fits true = omega arith
one-fits false = omega arith

low-fits : (rank : Page → ℕ) (top : ℕ) (pages : List Page) → count_low rank top pages ≤ length pages
low-fits rank top [] = omega arith
low-fits rank top (page ∷ rest) =
    let one : (if nat_le (rank page) top then 1 else 0) ≤ 1 = one-fits (nat_le (rank page) top) in
    let more : count_low rank top rest ≤ length rest = low-fits rank top rest in
    omega arith

one-grows : (n low high : ℕ) → low ≤ high → (if nat_le n low then 1 else 0) ≤ (if nat_le n high then 1 else 0)
one-grows n low high below = grind (arith, nat_tests)

low-grows : (rank : Page → ℕ) (low high : ℕ) (pages : List Page) → low ≤ high → count_low rank low pages ≤ count_low rank high pages
low-grows rank low high [] below = omega arith
low-grows rank low high (page ∷ rest) below =
    let one : (if nat_le (rank page) low then 1 else 0) ≤ (if nat_le (rank page) high then 1 else 0) = one-grows (rank page) low high below in
    let more : count_low rank low rest ≤ count_low rank high rest = low-grows rank low high rest below in
    omega arith

one-more : (n low : ℕ) → low < n → (if nat_le n low then 1 else 0) < (if nat_le n n then 1 else 0)
one-more n low below = grind (arith, nat_tests)

-- a page of the list counts where the rank comes up to its own
low-more : (rank : Page → ℕ) (low : ℕ) (page : Page) (pages : List Page) → low < rank page → is_page_listed page pages ≡ true
    → count_low rank low pages < count_low rank (rank page) pages
low-more rank low page [] below listed = absurd (true≢false (sym listed))
low-more rank low page (other ∷ rest) below listed =
    either (same_page page other)
    (λ same.
    let one : (if nat_le (rank other) low then 1 else 0) < (if nat_le (rank other) (rank page) then 1 else 0) =
    subst (λ (p : Page). (if nat_le (rank p) low then 1 else 0) < (if nat_le (rank p) (rank page) then 1 else 0)) (same_page_true page other same) (one-more (rank page) low below) in
    let more : count_low rank low rest ≤ count_low rank (rank page) rest = low-grows rank low (rank page) rest (omega arith) in
    omega arith)
    (λ apart.
    let one : (if nat_le (rank other) low then 1 else 0) ≤ (if nat_le (rank other) (rank page) then 1 else 0) = one-grows (rank other) low (rank page) (omega arith) in
    let more : count_low rank low rest < count_low rank (rank page) rest = low-more rank low page rest below (listed-later (same_page page other) (is_page_listed page rest) apart listed) in
    omega arith)
  where
    listed-later : (here later : Bool) → here ≡ false → (here || later) ≡ true → later ≡ true
    listed-later true later e f = absurd (true≢false e)
    listed-later false later e f = f

-- one step more than from the parent, if there is one
abbrev steps_from : (Page → ℕ) → Option Page → ℕ
steps_from steps None = 0
steps_from steps (Some parent) = suc (steps parent)

-- the steps that lead up from a page, of which at most so many are looked at
abbrev pub steps_up : ℕ → (Page → Option Node) → Page → ℕ
steps_up zero at page = 0
steps_up (suc most) at page = steps_from (steps_up most at) (parent_in (at page))

steady-from : (most : ℕ) (at : Page → Option Node) (up : Option Page) → steps_from (steps_up most at) up < suc most
    → ((page : Page) → steps_up most at page < most → steps_up (suc most) at page ≡ steps_up most at page)
    → steps_from (steps_up (suc most) at) up ≡ steps_from (steps_up most at) up
steady-from most at None few before = refl
steady-from most at (Some parent) few before = ap suc (before parent (omega arith))

-- where fewer are found, all were looked at
steady : (most : ℕ) (at : Page → Option Node) (page : Page) → steps_up most at page < most → steps_up (suc most) at page ≡ steps_up most at page
steady zero at page few = absurd (omega arith)
steady (suc most) at page few = steady-from most at (parent_in (at page)) few (steady most at)

-- a page whose node came from a page is stored
stored-parent : (nodes : List (Page × Node)) (page parent : Page) → parent_in (held_at nodes page) ≡ Some parent → is_page_listed page (keys_of nodes) ≡ true
stored-parent nodes page parent up =
    either (is_page_listed page (keys_of nodes))
    (λ stored. stored)
    (λ bare. absurd (first-parent (is_first_space page.space && is_page page.number) page.number parent (ap parent_in (sym (unstored nodes page bare)) ∙ up)))

rank-falls : (nodes : List (Page × Node)) (rank : Page → ℕ) → IsRanked (held_at nodes) rank → (page parent : Page)
    → parent_in (held_at nodes page) ≡ Some parent → rank parent < rank page
rank-falls nodes rank ranked page parent up =
    let held = rises-held (held_at nodes page) parent up in (ranked page held.0 parent held.1 held.2).3

-- fewer of the stored pages are ranked as low as the parent
low-falls : (nodes : List (Page × Node)) (rank : Page → ℕ) → IsRanked (held_at nodes) rank → (page parent : Page)
    → parent_in (held_at nodes page) ≡ Some parent → count_low rank (rank parent) (keys_of nodes) < count_low rank (rank page) (keys_of nodes)
low-falls nodes rank ranked page parent up =
    low-more rank (rank parent) page (keys_of nodes) (rank-falls nodes rank ranked page parent up) (stored-parent nodes page parent up)

few-from : (nodes : List (Page × Node)) (rank : Page → ℕ) → IsRanked (held_at nodes) rank → (most : ℕ) (page : Page) (up : Option Page)
    → ((parent : Page) → steps_up most (held_at nodes) parent ≤ count_low rank (rank parent) (keys_of nodes))
    → parent_in (held_at nodes page) ≡ up → steps_from (steps_up most (held_at nodes)) up ≤ count_low rank (rank page) (keys_of nodes)
few-from nodes rank ranked most page None before is = omega arith
few-from nodes rank ranked most page (Some parent) before is =
    let less = low-falls nodes rank ranked page parent is in
    let few = before parent in
    omega arith

-- no more steps lead up from a page than stored pages are ranked as low
few-steps : (nodes : List (Page × Node)) (rank : Page → ℕ) → IsRanked (held_at nodes) rank → (most : ℕ) (page : Page)
    → steps_up most (held_at nodes) page ≤ count_low rank (rank page) (keys_of nodes)
few-steps nodes rank ranked zero page = omega arith
few-steps nodes rank ranked (suc most) page = few-from nodes rank ranked most page (parent_in (held_at nodes page)) (few-steps nodes rank ranked most) refl

-- the steps that lead up from a page, of which there are no more than pages are stored
abbrev pub stored_steps : List (Page × Node) → Page → ℕ
stored_steps nodes page = steps_up (suc (length (keys_of nodes))) (held_at nodes) page

-- fewer steps lead up from a parent
pub steps-fall : (nodes : List (Page × Node)) (page parent : Page) → IsForest (held_at nodes) → parent_in (held_at nodes page) ≡ Some parent
    → stored_steps nodes parent < stored_steps nodes page
steps-fall nodes page parent forest up =
    let less = low-falls nodes forest.0 forest.1 page parent up in
    let all = low-fits (forest.0) (forest.0 page) (keys_of nodes) in
    let few = few-steps nodes forest.0 forest.1 (length (keys_of nodes)) parent in
    let same : stored_steps nodes parent ≡ steps_up (length (keys_of nodes)) (held_at nodes) parent = steady (length (keys_of nodes)) (held_at nodes) parent (omega arith) in
    subst (λ (o : Option Page). stored_steps nodes parent < steps_from (steps_up (length (keys_of nodes)) (held_at nodes)) o) (sym up) (omega arith)

-- with nothing stored, one rank does for all pages: none came from another
pub first-forest : IsForest (held_at [])
first-forest = (λ page. 0, λ page node parent at up. absurd (first-parent (is_first_space page.space && is_page page.number) page.number parent (ap parent_in at ∙ up)))
