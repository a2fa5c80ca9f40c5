-- The least run of what is revoked from a record, by its runs of bits.
use Rattle.std.specs.Prelude.{◌≡◌, ◌≢◌, ◌≤◌, ◌<◌, ◌+◌, ◌-◌, ℕ, zero, suc, Bool, true, false, List, ◌∷◌, Option, Some, None, refl}
use Rattle.std.proofs.Common.{sym, ◌∙◌, ap, subst, inl, inr, arith}
use Rattle.std.specs.BTreeMap.{is_at}
use Rattle.std.specs.Map.{lookup}
use Rattle.std.proofs.lemmas.Bool.{cases_Bool, cases_lt, true≢false}
use Rattle.mapdb_fpage.specs.Bounds.{page_limit}
use Rattle.mapdb_fpage.specs.RightSets.{bits_of, is_empty, no_rights, rights_where}
use Rattle.mapdb_fpage.specs.declared.right_sets.Right.{Right}
use Rattle.mapdb_fpage.specs.declared.right_sets.Right.TheVariants.{Execute, Read, Write}
use Rattle.mapdb_fpage.specs.declared.right_sets.Rights.{Rights}
use Rattle.mapdb_join.specs.Bits.{has_bit}
use Rattle.mapdb_join.specs.Runs.{IsLeastRun, bits_after, has_at}
use Rattle.mapdb_join.specs.declared.runs.starts.Start.{Start}
use Rattle.mapdb_facts.specs.Adding.{cut_at}
use Rattle.mapdb_fpage.specs.RightSets.{same_rights}
use Rattle.mapdb_fpage.specs.RightBits.{exact_rights}
use Rattle.mapdb_facts.specs.Kept.{Cuts, bit_of, cut_in, id_cmp, rights_of_byte}
use Rattle.mapdb_facts.specs.Runs.{BeginsFrom, ComesFirst, IsLeastCutRun, IsRunFrom, cut_runs, rights_by, runs_from}
use Rattle.mapdb_facts.specs.State.{State}
use Rattle.mapdb_facts.specs.declared.names.RecordId.{RecordId}
use Rattle.mapdb_facts.specs.declared.runs.CutRun.{CutRun}
use Rattle.mapdb_facts.proofs.Lists.RunLists.{run_to, skip_from, skip_to}
use Rattle.mapdb_fpage.specs.RightBits.{same_rights_itself}

-- equal answers for each right are equal rights
pub same_where : (f g : Right → Bool) → ((right : Right) → f right ≡ g right) → rights_where f ≡ rights_where g
same_where f g h = λ i. record { read = h Read i; write = h Write i; execute = h Execute i }

-- three bits are the rights that they stand for
byte_back : (n : ℕ) → n < 8 → bits_of (rights_of_byte n) ≡ n
byte_back zero h = refl
byte_back (suc zero) h = refl
byte_back (suc (suc zero)) h = refl
byte_back (suc (suc (suc zero))) h = refl
byte_back (suc (suc (suc (suc zero)))) h = refl
byte_back (suc (suc (suc (suc (suc zero))))) h = refl
byte_back (suc (suc (suc (suc (suc (suc zero)))))) h = refl
byte_back (suc (suc (suc (suc (suc (suc (suc zero))))))) h = refl
byte_back (suc (suc (suc (suc (suc (suc (suc (suc n)))))))) h = absurd (omega arith)

-- other bits are other rights
other_byte : (a b : ℕ) → a < 8 → b < 8 → a ≢ b → same_rights (rights_of_byte a) (rights_of_byte b) ≡ false
other_byte a b low high other = elim (cases_Bool (same_rights (rights_of_byte a) (rights_of_byte b))) [
  | inl same ↦ absurd (other (sym (byte_back a low) ∙ ap bits_of (exact_rights _ _ same) ∙ byte_back b high))
  | inr apart ↦ apart
]

empty_is : (rights : Rights) → is_empty rights ≡ true → bits_of rights ≡ 0
empty_is rights h = by rights.read rights.write rights.execute h
  where
    by : (r w x : Bool) → (let rights : Rights = record { read = r; write = w; execute = x } in is_empty rights) ≡ true
        → (let rights : Rights = record { read = r; write = w; execute = x } in bits_of rights) ≡ 0
    by false false false h = refl
    by true w x h = absurd (true≢false (sym h))
    by false true x h = absurd (true≢false (sym h))
    by false false true h = absurd (true≢false (sym h))

some_byte : (n : ℕ) → n < 8 → n ≢ 0 → is_empty (rights_of_byte n) ≡ false
some_byte n low some = elim (cases_Bool (is_empty (rights_of_byte n))) [
  | inl empty ↦ absurd (some (sym (byte_back n low) ∙ empty_is (rights_of_byte n) empty))
  | inr not ↦ not
]

module _ (starts : List Start) (atoms : (q bit : ℕ) → has_at starts (q, bit) ≡ has_bit (bits_after 0 starts q) bit) (small : (q : ℕ) → bits_after 0 starts q < 8) where
  rights_are : (q : ℕ) → rights_by (Some starts) q ≡ rights_of_byte (bits_after 0 starts q)
  rights_are q = same_where (λ right. has_at starts (q, bit_of right)) (λ right. has_bit (bits_after 0 starts q) (bit_of right)) (λ right. atoms q (bit_of right))

  pub least_rights : (page first count bits : ℕ) → IsLeastRun starts page first count bits
      → IsLeastCutRun (rights_by (Some starts)) page (record { first_page = first; page_count = count; rights = rights_of_byte bits })
  least_rights page first count bits is =
      let pages : 0 < count = is.pages in
      let own : bits < 8 = subst (λ n. n < 8) (is.equal first (omega arith) (omega (arith, pages))) (small first) in
      record {
        some = some_byte bits own is.some;
        pages = is.pages;
        reaches = is.reaches;
        limit = is.limit;
        equal = λ q low high. rights_are q ∙ ap rights_of_byte (is.equal q low high);
        begins = λ q next. subst (λ (r : Rights). same_rights r (rights_of_byte bits) ≡ false) (sym (rights_are q)) (other_byte (bits_after 0 starts q) bits (small q) own (is.begins q next));
        ends = subst (λ (r : Rights). same_rights r (rights_of_byte bits) ≡ false) (sym (rights_are (first + count))) (other_byte (bits_after 0 starts (first + count)) bits (small (first + count)) own is.ends);
        nothing_between = λ q low high. ap is_empty (rights_are q ∙ ap rights_of_byte (is.nothing_between q low high));
      }

-- Of a record, by its runs where it has some.

pub run_by : (S : State) (kept : Cuts) (id : RecordId) (page : ℕ) (o : Option (List Start)) (result : Option CutRun) → S.is_cut ≡ cut_in kept
    → lookup (is_at (id_cmp id)) kept ≡ o → IsRunFrom (rights_by o) page result → IsRunFrom (cut_at S id) page result
run_by S kept id page o result cuts at run =
    subst (λ is_cut. IsRunFrom (λ q. rights_where (is_cut id q)) page result) (sym cuts)
    (subst (λ (p : Option (List Start)). IsRunFrom (rights_by p) page result) (sym at) run)

-- where the run does not begin before the page, it is the first of those from there on
pub comes_first : (S : State) (id : RecordId) (page : ℕ) (result : Option CutRun) → IsRunFrom (cut_at S id) page result → BeginsFrom page result
    → ComesFirst S id page result
unfolding cut_runs
comes_first S id page None none begins = skip_from (cut_at S id) page (page_limit - page) none
comes_first S id page (Some run) is begins =
    let low : page ≤ run.first_page = begins in
    let pages : 0 < run.page_count = is.pages in
    let limit : run.first_page + run.page_count ≤ page_limit = is.limit in
    let count : (run.first_page + run.page_count) - run.first_page ≡ run.page_count = omega arith in
    skip_to (cut_at S id) page run.first_page page_limit low (omega (arith, pages, limit)) (λ q from to. is.nothing_between q from to)
    ∙ subst (λ n. runs_from (cut_at S id) run.first_page (page_limit - run.first_page)
    ≡ record { first_page = run.first_page; page_count = n; rights = run.rights }
    ∷ runs_from (cut_at S id) (run.first_page + n) (page_limit - (run.first_page + n))) count
    (run_to (cut_at S id) run.rights run.first_page (run.first_page + run.page_count) page_limit is.some (omega (arith, pages)) limit is.equal (λ h. is.ends))

-- How far the same rights are revoked.

pub empty_none : (rights : Rights) → is_empty rights ≡ true → rights ≡ no_rights
empty_none rights h = by rights.read rights.write rights.execute h
  where
    by : (r w x : Bool) → (let rights : Rights = record { read = r; write = w; execute = x } in is_empty rights) ≡ true
        → (let rights : Rights = record { read = r; write = w; execute = x } in rights) ≡ no_rights
    by false false false h = refl
    by true w x h = absurd (true≢false (sym h))
    by false true x h = absurd (true≢false (sym h))
    by false false true h = absurd (true≢false (sym h))

pub both_empty : (a b : Rights) → is_empty a ≡ true → is_empty b ≡ true → a ≡ b
both_empty a b h k = empty_none a h ∙ sym (empty_none b k)

-- no run goes on from the page before
abbrev pub EndsBefore : (ℕ → Rights) → ℕ → Type 0
EndsBefore f page = (q : ℕ) → q + 1 ≡ page → same_rights (f page) (f q) ≡ false

-- so the least run does not begin before the page
pub begins_behind : (f : ℕ → Rights) (page : ℕ) (result : Option CutRun) → EndsBefore f page → IsRunFrom f page result → BeginsFrom page result
begins_behind f page None apart is = tt
begins_behind f page (Some run) apart is = elim (cases_lt run.first_page page) [
  | inl front ↦
      let before : (page - 1) + 1 ≡ page = omega (arith, front) in
      let reaches = is.reaches in
      let last : f (page - 1) ≡ run.rights = is.equal (page - 1) (omega (arith, front)) (omega (arith, reaches)) in
      let here : f page ≡ run.rights = is.equal page (omega (arith, front)) reaches in
      let same : same_rights (f page) (f (page - 1)) ≡ true =
      ap (λ (r : Rights). same_rights r (f (page - 1))) here ∙ ap (same_rights run.rights) last ∙ same_rights_itself run.rights in
      absurd (true≢false (sym same ∙ apart (page - 1) before))
  | inr from ↦ from
]

-- behind a maximal run
pub ends_behind : (f : ℕ → Rights) (page : ℕ) (run : CutRun) → IsLeastCutRun f page run → EndsBefore f (run.first_page + run.page_count)
ends_behind f page run is q last =
    let pages = is.pages in
    subst (λ (r : Rights). same_rights (f (run.first_page + run.page_count)) r ≡ false) (sym (is.equal q (omega (arith, pages, last)) (omega (arith, last)))) is.ends
