-- What pages feed a hasher: one word, which tells most of them apart.
use Rattle.std.specs.Prelude.{◌≡◌, ℕ, true, ◌+◌, ◌*◌, ◌%◌, ◌^◌, ◌&&◌, nat_eq}
use Rattle.std.specs.Hash.{HashWrites, u64}
use Rattle.std.proofs.lemmas.Bool.{and_parts, eqb-true}
use Rattle.mapdb_fpage.specs.Bounds.{page_limit}
use Rattle.mapdb_facts.specs.Exact.{exact_space}
use Rattle.mapdb_facts.specs.Names.{same_space}
use Rattle.mapdb_tree.specs.declared.nodes.Page.{Page}

-- a page of a space as one word
abbrev pub page_word : Page → ℕ
page_word page = ((page.space.number * page_limit + page.number) % 2 ^ 64
    + page.space.version * 2 ^ 32) % 2 ^ 64

abbrev pub page_writes : Page → HashWrites
page_writes page = u64 (page_word page)

-- what compares equal feeds alike
pub pages_alike : (a b : Page) → (same_space a.space b.space && nat_eq a.number b.number) ≡ true
    → page_writes a ≡ page_writes b
pages_alike a b same =
    let parts = and_parts (same_space a.space b.space) (nat_eq a.number b.number) same in
    let space = exact_space a.space b.space parts.0 in
    let number = eqb-true a.number b.number parts.1 in
    λ i. page_writes (record { space = space i; number = number i })
