-- What is served goes on as far as all records of the space do.
use Rattle.std.proofs.Common.{◌≡◌, ℕ, ◌+◌, ◌<◌, ◌≤◌, Bool, true, false, refl, sym, ap, ◌∙◌, List, [], ◌∷◌, inl, inr, arith}
use Rattle.std.specs.Prelude.{◌==◌, ◌-◌, nat_lt, None, Option, Some, if◌then◌else◌}
use Rattle.std.proofs.lemmas.Bool.{and_parts, cases_Bool, cond-true, eqb-true, false≢true, ltb-true, ltb-false}
use Rattle.std.proofs.lemmas.Bool.Decides.{nat_tests}
use Rattle.mapdb_fpage.specs.RightSets.{is_empty, union}
use Rattle.mapdb_fpage.specs.declared.right_sets.Rights.{Rights}
use Rattle.mapdb_fpage.specs.RightSets.{same_rights}
use Rattle.mapdb_fpage.specs.RightBits.{exact_rights}
use Rattle.mapdb_facts.specs.Records.{IsAmong, records_of}
use Rattle.mapdb_facts.specs.State.{State, state_of}
use Rattle.mapdb_facts.specs.WellFormed.{all_formed}
use Rattle.mapdb_facts.specs.declared.names.RecordId.{RecordId}
use Rattle.mapdb_facts.specs.declared.names.Space.{Space}
use Rattle.mapdb_facts.specs.declared.operations.Op.{Op}
use Rattle.mapdb_rights.specs.Frame.{frame_at}
use Rattle.mapdb_rights.specs.Live.{ShowUntil, ShowsOn}
use Rattle.mapdb_rights.specs.PageRights.{pair_with}
use Rattle.mapdb_rights.specs.Right.{rights_at}
use Rattle.mapdb_rights.specs.Steady.{frame_on}
use Rattle.mapdb_replica.specs.FirstPairs.{first_from, with_later}
use Rattle.mapdb_replica.specs.Issue.{holders}
use Rattle.mapdb_replica.specs.Pairs.{Pair, page_rights, holder_pair}
use Rattle.mapdb_replica.specs.Running.{continues, pair_on}
use Rattle.mapdb_replica.specs.Served.{served}
use Rattle.mapdb_replica.specs.declared.pieces.Holder.{Holder}
use Rattle.mapdb_replica.proofs.Pages.PairLaws.{into_to}
use Rattle.mapdb_replica.proofs.Pages.ServedPages.{found_all}

-- One record.

none_on : (count : ℕ) (frame later : Option ℕ) (rights : Rights) → is_empty rights ≡ true → pair_with later rights ≡ pair_on count (pair_with frame rights)
none_on count frame later rights empty = none later ∙ sym (ap (pair_on count) (none frame))
  where
    none : (o : Option ℕ) → pair_with o rights ≡ None
    none None = refl
    none (Some f) = cond-true (is_empty rights) None (Some (f, rights)) empty

some_if : (count frame : ℕ) (rights : Rights) (b : Bool) → (if b then None else Some (frame + count, rights)) ≡ pair_on count (if b then None else Some (frame, rights))
some_if count frame rights true = refl
some_if count frame rights false = refl

pair_with-on : (count : ℕ) (frame : Option ℕ) (rights : Rights) → pair_with (frame_on count frame) rights ≡ pair_on count (pair_with frame rights)
pair_with-on count None rights = refl
pair_with-on count (Some frame) rights = some_if count frame rights (is_empty rights)

pair_at-on : (S : State) (id : RecordId) (page count : ℕ) → ShowsOn S id page count → holder_pair S (page + count) id ≡ pair_on count (holder_pair S page id)
pair_at-on S id page count on =
    ap (pair_with (frame_at S id (page + count))) on.rights
    ∙ elim (cases_Bool (is_empty (rights_at S id page))) [
      | inl empty ↦ none_on count (frame_at S id page) (frame_at S id (page + count)) (rights_at S id page) empty
      | inr some ↦ ap (λ (o : Option ℕ). pair_with o (rights_at S id page)) (on.frame some) ∙ pair_with-on count (frame_at S id page) (rights_at S id page)
    ]

-- All of a space.

same_distance : (n m count : ℕ) → ((n + count) == (m + count)) ≡ (n == m)
same_distance n m count = grind (arith, nat_tests)

with_later-on : (count : ℕ) (found later : Option Pair) → with_later (pair_on count found) (pair_on count later) ≡ pair_on count (with_later found later)
with_later-on count None later = refl
with_later-on count (Some first) None = refl
with_later-on count (Some first) (Some later) =
    ap (λ (b : Bool). Some (first.0 + count, if b then union first.1 later.1 else first.1)) (same_distance later.0 first.0 count)

first_from-on : (S : State) (page count : ℕ) (found : Option Pair) (hs : List Holder) → ((h : Holder) → IsAmong h hs → ShowsOn S h.id page count)
    → first_from S (page + count) (pair_on count found) hs ≡ pair_on count (first_from S page found hs)
unfolding first_from
first_from-on S page count found [] on = refl
first_from-on S page count found (h ∷ hs) on =
    ap (λ (o : Option Pair). first_from S (page + count) o hs)
    (ap (with_later (pair_on count found)) (pair_at-on S h.id page count (on h (inl refl))) ∙ with_later-on count found (holder_pair S page h.id))
    ∙ first_from-on S page count (with_later found (holder_pair S page h.id)) hs (λ x k. on x (inr k))

pub served_on : (ops : List Op) (space : Space) (page count end : ℕ) → all_formed ops ≡ true → ShowUntil (state_of ops) space page end → page + count < end
    → served ops space (page + count) ≡ pair_on count (served ops space page)
unfolding served page_rights
served_on ops space page count end all shown inside =
    sym (found_all (state_of ops) (page + count) (holders (records_of ops) space))
    ∙ first_from-on (state_of ops) page count None (holders (records_of ops) space)
    (λ h k. shown h.id (into_to ops space h all k) count inside)
    ∙ ap (pair_on count) (found_all (state_of ops) page (holders (records_of ops) space))

-- A run.

pair_on-sum : (o : Option Pair) (a b c : ℕ) → a + b ≡ c → pair_on b (pair_on a o) ≡ pair_on c o
pair_on-sum None a b c sum = refl
pair_on-sum (Some pair) a b c sum = let total : (pair.0 + a) + b ≡ pair.0 + c = omega arith in ap (λ (n : ℕ). Some (n, pair.1)) total

continued : (first : Option Pair) (count : ℕ) (later : Option Pair) → continues first count later ≡ true → later ≡ pair_on count first
continued None count None h = refl
continued None count (Some later) h = absurd (false≢true h)
continued (Some first) count None h = absurd (false≢true h)
continued (Some first) count (Some later) h =
    let parts = and_parts (later.0 == first.0 + count) (same_rights later.1 first.1) h in
    let frame : later.0 ≡ first.0 + count = eqb-true later.0 (first.0 + count) parts.0 in
    let rights : later.1 ≡ first.1 = exact_rights later.1 first.1 parts.1 in
    λ i. Some (frame i, rights i)

module _ (f : ℕ → Option Pair) (page : ℕ) where
  -- up to the end all pages belong to the run
  abbrev pub Runs : ℕ → Type 0
  Runs end = (count : ℕ) → page + count < end → f (page + count) ≡ pair_on count (f page)

  -- the pages that were passed, and those that go on from there
  pub longer : (mid end : ℕ) → page < mid → Runs mid → continues (f page) (mid - page) (f mid) ≡ true
      → ((count : ℕ) → mid + count < end → f (mid + count) ≡ pair_on count (f mid)) → Runs end
  longer mid end above so_far here later count inside = at (nat_lt (page + count) mid) refl
    where
      at : (b : Bool) → nat_lt (page + count) mid ≡ b → f (page + count) ≡ pair_on count (f page)
      at true e = so_far count (ltb-true (page + count) mid e)
      at false e =
          let behind : mid ≤ page + count = ltb-false (page + count) mid e in
          let place : page + count ≡ mid + ((page + count) - mid) = omega arith in
          ap f place ∙ later ((page + count) - mid) (omega arith)
          ∙ ap (pair_on ((page + count) - mid)) (continued (f page) (mid - page) (f mid) here)
          ∙ pair_on-sum (f page) (mid - page) ((page + count) - mid) count (omega arith)
