-- What meets the pages of a sweep, and how much a sweep counts.
use Rattle.std.proofs.Common.{◌≡◌, ℕ, ◌+◌, ◌*◌, ◌<◌, ◌≤◌, true, ap, arith, mul-le-mul_right}
use Rattle.std.specs.Prelude.{min, max, nat_lt}
use Rattle.std.proofs.lemmas.Bool.{lt-ltb}
use Rattle.mapdb_fpage.proofs.Meets.{holds_range}
use Rattle.mapdb_fpage.specs.Bounds.{page_limit}
use Rattle.mapdb_fpage.specs.Place.{IsPlace, holds}
use Rattle.mapdb_facts.specs.declared.operations.Record.{Record}
use Rattle.mapdb_lists.specs.Listing.{meets, listed_pages}
use Rattle.mapdb_rights.specs.Right.{source_page}
use Rattle.mapdb_rights.specs.HeldPlaces.{place_of, source_of}

-- pages that share one meet
shared : (a b first end page : ℕ) → a ≤ page → page < b → first ≤ page → page < end → nat_lt (max a first) (min b end) ≡ true
shared a b first end page from before low high = lt-ltb (max a first) (min b end) (omega arith)

-- the source of a child meets the pages among which a source page lies
pub source_meets : (r : Record) (first end page : ℕ) → holds r.place page ≡ true → first ≤ source_page r page → source_page r page < end → meets (source_of r) first end ≡ true
source_meets r first end page inside low high =
    let range = holds_range r.place page inside in
    shared r.source (r.source + listed_pages (source_of r)) first end (source_page r page) (omega arith) (omega arith) low high

-- a place meets all pages
pub place_meets : (r : Record) (page : ℕ) → IsPlace r.place → holds r.place page ≡ true → meets (place_of r) 0 page_limit ≡ true
place_meets r page place inside =
    let range = holds_range r.place page inside in
    let within = place.in_space in
    shared r.place.first_page (r.place.first_page + listed_pages (place_of r)) 0 page_limit page (omega arith) (omega arith) (omega arith) (omega arith)

-- at the start all are to be counted
pub counted_first : (old share before len : ℕ) → before ≡ len → old + before * share ≤ old + len * share
counted_first old share before len same = omega (arith, ap (λ (n : ℕ). n * share) same)

-- one share more is counted for one entry less
pub counted_on : (old new share before after len initial : ℕ) → old + before * share ≤ initial + len * share → new ≤ old + share → after < before → new + after * share ≤ initial + len * share
counted_on old new share before after len initial h one less =
    let few = mul-le-mul_right {m = after + 1} {n = before} share (omega arith) in
    grind (arith, h, one, few)
