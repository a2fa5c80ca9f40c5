-- A space that is put into a set stands at its place.
use Rattle.std.specs.Prelude.{◌≡◌, ℕ, ◌<◌, Bool, true, false, List, [], ◌∷◌, refl, if◌then◌else◌}
use Rattle.std.proofs.Common.{sym, ◌∙◌, ap, arith}
use Rattle.std.proofs.lemmas.Bool.{cond-true, cond-false}
use Rattle.std.proofs.lemmas.Bool.Decides.{nat_tests}
use Rattle.std.proofs.lemmas.Cmp.{ranked}
use Rattle.std.specs.BTreeSet.{insert_key}
use Rattle.std.specs.Ordering.{match_ordering, nat_cmp, ordering_then}
use Rattle.std.specs.declared.cmp.Ordering.{Ordering}
use Rattle.std.specs.declared.cmp.Ordering.TheVariants.{Equal, Greater, Less}
use Rattle.mapdb_facts.specs.Kept.{space_cmp}
use Rattle.mapdb_facts.specs.Names.{is_before, is_space_before, same_id, same_space}
use Rattle.mapdb_facts.specs.Spaces.{placed_space}
use Rattle.mapdb_facts.specs.declared.names.RecordId.{RecordId}
use Rattle.mapdb_facts.specs.declared.names.Space.{Space}

-- what an order of two says of the tests that place them
abbrev Says : Ordering → Bool → Bool → Type 0
Says Less before same = (before ≡ false) × (same ≡ false)
Says Equal before same = (before ≡ false) × (same ≡ true)
Says Greater before same = before ≡ true

-- placing by tests is placing by order
placed_by : {A : Type 0} → (order : Ordering) (before same : Bool) (x y z : A) → Says order before same
    → match_ordering order x y z ≡ (if before then z else (if same then y else x))
placed_by Less before same x y z says = sym (cond-false before z (if same then y else x) says.0 ∙ cond-false same y x says.1)
placed_by Equal before same x y z says = sym (cond-false before z (if same then y else x) says.0 ∙ cond-true same y x says.1)
placed_by Greater before same x y z says = sym (cond-true before z (if same then y else x) says)

abbrev name : ℕ → ℕ → RecordId
name number processor = record { number = number; processor = processor }

by_number : (n p m q : ℕ) → n < m → (is_before (name m q) (name n p) ≡ false) × (same_id (name n p) (name m q) ≡ false)
by_number n p m q h = (grind (arith, nat_tests), grind (arith, nat_tests))

by_processor : (n p m q : ℕ) → n ≡ m → p < q → (is_before (name m q) (name n p) ≡ false) × (same_id (name n p) (name m q) ≡ false)
by_processor n p m q h k = (grind (arith, nat_tests), grind (arith, nat_tests))

by_neither : (n p m q : ℕ) → n ≡ m → p ≡ q → (is_before (name m q) (name n p) ≡ false) × (same_id (name n p) (name m q) ≡ true)
by_neither n p m q h k = (grind (arith, nat_tests), grind (arith, nat_tests))

above_number : (n p m q : ℕ) → m < n → is_before (name m q) (name n p) ≡ true
above_number n p m q h = grind (arith, nat_tests)

above_processor : (n p m q : ℕ) → n ≡ m → q < p → is_before (name m q) (name n p) ≡ true
above_processor n p m q h k = grind (arith, nat_tests)

names_say : (n p m q : ℕ) (by_n by_p : Ordering) → by_n ≡ nat_cmp n m → by_p ≡ nat_cmp p q
    → Says (ordering_then by_n by_p) (is_before (name m q) (name n p)) (same_id (name n p) (name m q))
names_say n p m q Less by_p e k = by_number n p m q (ranked n m Less e)
names_say n p m q Greater by_p e k = above_number n p m q (ranked n m Greater e)
names_say n p m q Equal Less e k = by_processor n p m q (ranked n m Equal e) (ranked p q Less k)
names_say n p m q Equal Equal e k = by_neither n p m q (ranked n m Equal e) (ranked p q Equal k)
names_say n p m q Equal Greater e k = above_processor n p m q (ranked n m Equal e) (ranked p q Greater k)

pub insert_space : (space : Space) (spaces : List Space) → insert_key space_cmp spaces space ≡ placed_space space spaces
insert_space space [] = refl
insert_space space (other ∷ rest) =
    ap (λ (ids : List Space). match_ordering (space_cmp space other) (space ∷ other ∷ rest) (other ∷ rest) (other ∷ ids))
    (insert_space space rest)
    ∙ placed_by (space_cmp space other) (is_space_before other space) (same_space space other) (space ∷ other ∷ rest)
    (other ∷ rest) (other ∷ placed_space space rest)
    (names_say space.number space.version other.number other.version (nat_cmp space.number other.number)
    (nat_cmp space.version other.version) refl refl)
