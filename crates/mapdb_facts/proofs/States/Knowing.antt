-- Which revocations are known.
use Rattle.std.specs.Prelude.{◌≡◌, ◌↔◌, ◌<◌, ◌+◌, nat_le, nat_lt, not, ◌||◌, ℕ, Bool, true, false, ◌&&◌, List, Option, None, Some, IsTrue, refl}
use Rattle.std.proofs.Common.{sym, ◌∙◌, ap, subst, arith}
use Rattle.std.proofs.lemmas.Bool.Decides.{nat_tests}
use Rattle.mapdb_fpage.specs.Place.{page_total, holds}
use Rattle.std.proofs.lemmas.Nat.{pow_pos}
use Rattle.std.specs.Map.{lookup}
use Rattle.std.specs.BTreeMap.{is_at}
use Rattle.std.proofs.lemmas.Bool.{and_parts, and_from, true≢false}
use Rattle.mapdb_facts.specs.declared.operations.Op.TheVariants.{Cut}
use Rattle.mapdb_facts.specs.declared.names.RecordId.{RecordId}
use Rattle.mapdb_facts.specs.declared.operations.Revocation.{Revocation}
use Rattle.mapdb_fpage.specs.declared.right_sets.Right.{Right}
use Rattle.mapdb_fpage.specs.declared.right_sets.Right.TheVariants.{Read, Write, Execute}
use Rattle.mapdb_facts.specs.Exact.{exact_id}
use Rattle.mapdb_facts.specs.Names.{same_id}
use Rattle.mapdb_fpage.specs.RightSets.{bits_of, includes, is_empty}
use Rattle.mapdb_facts.specs.State.{State, Rec, Rev, End}
use Rattle.mapdb_facts.specs.Kept.{Kept, bit_of, cut_in, id_cmp}
use Rattle.mapdb_join.specs.Bits.{has_bit}
use Rattle.mapdb_join.specs.Entries.{some_has}
use Rattle.mapdb_join.specs.Runs.{HasRegion, has_at}
use Rattle.mapdb_join.specs.declared.runs.starts.Start.{Start}
use Rattle.mapdb_facts.proofs.Maps.CutAtoms.{bit_member}
use Rattle.mapdb_facts.proofs.Maps.KeptFacts.{bit_right}
use Rattle.mapdb_facts.specs.Facts.{state_of_facts}
use Rattle.mapdb_facts.specs.Adding.{is_new}
use Rattle.mapdb_facts.specs.Taking.{Knows}
use Rattle.mapdb_facts.proofs.States.Newness.{cut_old, new_is_exact}
use Rattle.mapdb_facts.proofs.Lists.SameNames.{same_id_itself}

-- all atoms of the revocation's region are among the runs
abbrev pub HasCut : Option (List Start) → Revocation → Type 0
HasCut runs cut = (page : ℕ) (right : Right) → holds cut.part page ≡ true → includes cut.rights right ≡ true → some_has has_at runs (page, bit_of right) ≡ true

module _ (old : Kept) (cut : Revocation) (o : Option (List Start)) (at : lookup (is_at (id_cmp cut.target)) old.cuts ≡ o) where
  all_known : HasCut o cut → Knows (state_of_facts old) (Cut cut)
  all_known all (Rec r) g = absurd g
  all_known all (End space) g = absurd g
  all_known all (Rev id page right) g =
      let both = and_parts (same_id cut.target id && holds cut.part page) (includes cut.rights right) g in
      let first = and_parts (same_id cut.target id) (holds cut.part page) both.0 in
      subst (λ x. cut_in old.cuts x page right ≡ true) (exact_id cut.target id first.0)
      (ap (λ p. some_has has_at p (page, bit_of right)) at ∙ all page right first.1 both.1)

  known_all : Knows (state_of_facts old) (Cut cut) → HasCut o cut
  known_all knows page right h i =
      ap (λ p. some_has has_at p (page, bit_of right)) (sym at)
      ∙ knows (Rev cut.target page right) (and_from (same_id cut.target cut.target && holds cut.part page) (includes cut.rights right) (and_from (same_id cut.target cut.target) (holds cut.part page) (same_id_itself cut.target) h) i)

  pub cut_known : (answer : Bool) → IsTrue answer ↔ HasCut o cut → IsTrue answer ↔ Knows (state_of_facts old) (Cut cut)
  cut_known answer h = (λ t. all_known (h.0 t), λ k. h.1 (known_all k))

-- the region's atoms are its rights at its pages
pub region_cut : (runs : List Start) (cut : Revocation) → HasRegion runs cut.part.first_page (page_total cut.part) (bits_of cut.rights) ↔ HasCut (Some runs) cut
region_cut runs cut = (
  λ all page right h i. all (page, bit_of right) (and_from (holds cut.part page) _ h (bit_member cut.rights right ∙ i)),
  λ all p h. let both = and_parts (holds cut.part p.0) (has_bit (bits_of cut.rights) p.1) h in
      let right = bit_right cut.rights p.1 both.1 in
      subst (λ bit. has_at runs (p.0, bit) ≡ true) right.1
      (all p.0 right.0 both.0 (sym (bit_member cut.rights right.0) ∙ subst (λ bit. has_bit (bits_of cut.rights) bit ≡ true) (sym right.1) both.1)),
)

pub region_known : (old : Kept) (cut : Revocation) (runs : List Start) → lookup (is_at (id_cmp cut.target)) old.cuts ≡ Some runs → (answer : Bool)
    → IsTrue answer ↔ HasRegion runs cut.part.first_page (page_total cut.part) (bits_of cut.rights) → IsTrue answer ↔ Knows (state_of_facts old) (Cut cut)
region_known old cut runs at answer h =
    let both = region_cut runs cut in
    cut_known old cut (Some runs) at answer (λ t. both.0 (h.0 t), λ k. h.1 (both.1 k))

first_held : (first n : ℕ) → 0 < n → (nat_le first first && nat_lt first (first + n)) ≡ true
first_held first n p = grind (arith, nat_tests)

pub none_by : (a b c : Bool) → not (a || b || c) ≡ true → (a ≡ false) × (b ≡ false) × (c ≡ false)
none_by false false false h = (refl, refl, refl)
none_by false false true h = absurd (true≢false (sym h))
none_by false true c h = absurd (true≢false (sym h))
none_by true b c h = absurd (true≢false (sym h))

by_none : (a b c : Bool) → (a ≡ true → ⊥) → (b ≡ true → ⊥) → (c ≡ true → ⊥) → not (a || b || c) ≡ true
by_none false false false p q r = refl
by_none false false true p q r = absurd (r refl)
by_none false true c p q r = absurd (q refl)
by_none true b c p q r = absurd (p refl)

-- where nothing is taken of a record, a revocation without rights is known
pub none_taken : (cut : Revocation) → IsTrue (is_empty cut.rights) ↔ HasCut None cut
none_taken cut = (to, λ all. by_none _ _ _ (some all Read) (some all Write) (some all Execute))
  where
    some : HasCut None cut → (right : Right) → includes cut.rights right ≡ true → ⊥
    some all right i = true≢false (sym (all cut.part.first_page right (first_held cut.part.first_page (page_total cut.part) (pow_pos _)) i))

    to : IsTrue (is_empty cut.rights) → HasCut None cut
    to h page Read held i = absurd (true≢false (sym i ∙ (none_by cut.rights.read cut.rights.write cut.rights.execute h).0))
    to h page Write held i = absurd (true≢false (sym i ∙ (none_by cut.rights.read cut.rights.write cut.rights.execute h).1))
    to h page Execute held i = absurd (true≢false (sym i ∙ (none_by cut.rights.read cut.rights.write cut.rights.execute h).2))

-- a revocation is new exactly where it is not known
old_known : (S : State) (cut : Revocation) → is_new S (Cut cut) ≡ false → Knows S (Cut cut)
old_known S cut old (Rec r) g = absurd g
old_known S cut old (End space) g = absurd g
old_known S cut old (Rev id page right) g =
    let both = and_parts (same_id cut.target id && holds cut.part page) (includes cut.rights right) g in
    let first = and_parts (same_id cut.target id) (holds cut.part page) both.0 in
    subst (λ (x : RecordId). S.is_cut x page right ≡ true) (exact_id cut.target id first.0) (cut_old S cut old page right first.1 both.1)

pub cut_is_new : (S : State) (cut : Revocation) (answer : Bool) → IsTrue answer ↔ Knows S (Cut cut) → not answer ≡ is_new S (Cut cut)
cut_is_new S cut answer known = by answer (is_new S (Cut cut)) refl refl
  where
    by : (a n : Bool) → answer ≡ a → is_new S (Cut cut) ≡ n → not a ≡ n
    by true true e f = (let atom = (new_is_exact S (Cut cut)).0 f in absurd (atom.2 (known.0 e atom.0 atom.1)))
    by true false e f = refl
    by false true e f = refl
    by false false e f = absurd (true≢false (sym (known.1 (old_known S cut f)) ∙ e))
