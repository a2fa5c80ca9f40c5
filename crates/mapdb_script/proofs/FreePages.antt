-- Pages of a Map's target, as far as they were gone over.
use Rattle.std.proofs.Common.{◌≡◌, ◌∙◌, ◌≤◌, ◌<◌, ◌+◌, ◌-◌, ◌⊎◌, inl, inr, ℕ, true, false, Some, None, refl, sym, ap, arith}
use Rattle.std.proofs.lemmas.Bool.{cases_Bool, ltb-false, ltb-true, true≢false}
use Rattle.std.specs.Prelude.{Option, nat_lt}
use Rattle.std.specs.Option.{is_some}
use Rattle.mapdb_facts.specs.declared.names.Space.{Space}
use Rattle.mapdb_fpage.specs.declared.items.Transfer.{Transfer}
use Rattle.mapdb_fpage.specs.declared.right_sets.Rights.{Rights}
use Rattle.mapdb_replica.specs.Pairs.{Pair}
use Rattle.mapdb_replica.specs.Running.{AreSteady, pair_on}
use Rattle.mapdb_rights.specs.declared.index.served_pages.SteadyPages.{SteadyPages}
use Rattle.mapdb_script.specs.Standing.{sent_page, shares}

-- what goes on shares what the first shares
shares_on : (count : ℕ) (o : Option Pair) (rights : Rights) → shares (pair_on count o) rights ≡ shares o rights
shares_on count None rights = refl
shares_on count (Some pair) rights = refl

-- what pages from one on are served from, which go on steadily
pub steady_on : (f : ℕ → Option Pair) (pages : SteadyPages) (page number : ℕ) → AreSteady f pages → pages.page ≡ page → page ≤ number → number < pages.end
    → f number ≡ pair_on (number - page) pages.served
steady_on f pages page number steady at low high =
    let same = steady.same (number - page) (omega (arith, at)) in
    let is : pages.page + (number - page) ≡ number = omega (arith, at) in
    ap f (sym is) ∙ same ∙ ap (pair_on (number - page)) (sym steady.here)

low_or_high : (number page : ℕ) → (number < page) ⊎ (page ≤ number)
low_or_high number page = elim (cases_Bool (nat_lt number page)) [
  | inl below ↦ inl (ltb-true number page below)
  | inr above ↦ inr (ltb-false number page above)
]

-- nothing comes to more pages
pub none_on : (f : ℕ → Option Pair) (carried : Transfer) (first page from next : ℕ) (here : SteadyPages)
    → carried.target.first_page ≤ first → first ≤ page
    → ((number : ℕ) → first ≤ number → number < page → shares (f (sent_page carried number)) carried.rights ≡ false)
    → from ≡ sent_page carried page → here.page ≡ from → AreSteady f here → shares here.served carried.rights ≡ false
    → next ≡ page + (here.end - from)
    → (number : ℕ) → first ≤ number → number < next → shares (f (sent_page carried number)) carried.rights ≡ false
none_on f carried first page from next here low above none is at steady miss to number from_first below =
    elim (low_or_high number page) [
      | inl before ↦ none number from_first before
      | inr later ↦
          let further : here.page < here.end = steady.above in
          let there : sent_page carried number ≡ from + (number - page) = omega (arith, is, low, above, later) in
          let same : f (from + (number - page)) ≡ pair_on ((from + (number - page)) - from) here.served =
          steady_on f here from (from + (number - page)) steady at (omega arith) (omega (arith, to, later, below, at, further)) in
          ap (λ n. shares (f n) carried.rights) there ∙ ap (λ (o : Option Pair). shares o carried.rights) same
          ∙ shares_on _ here.served carried.rights ∙ miss
    ]

-- each of the first pages of the target to which something would come is free
abbrev pub AreFree : (Space → ℕ → Option Pair) → Space → Transfer → Space → ℕ → Type 0
AreFree served_at sender carried receiver end =
    (number : ℕ) → carried.target.first_page ≤ number → number < end
    → shares (served_at sender (sent_page carried number)) carried.rights ≡ true → served_at receiver number ≡ None

none_there : (count : ℕ) (o : Option Pair) → is_some o ≡ false → pair_on count o ≡ None
none_there count None e = refl
none_there count (Some pair) e = cc

some_there : (count : ℕ) (o : Option Pair) → is_some o ≡ true → pair_on count o ≡ None → ⊥
some_there count None some e = cc
some_there count (Some pair) some e = cc

-- more pages of the receiver show nothing
pub free_by_none : (served_at : Space → ℕ → Option Pair) (sender : Space) (carried : Transfer) (receiver : Space) (page next : ℕ) (there : SteadyPages)
    → AreFree served_at sender carried receiver page → there.page ≡ page → AreSteady (served_at receiver) there → is_some there.served ≡ false
    → next ≤ there.end → AreFree served_at sender carried receiver next
free_by_none served_at sender carried receiver page next there free at steady none to number low high some =
    elim (low_or_high number page) [
      | inl before ↦ free number low before some
      | inr later ↦
          steady_on (served_at receiver) there page number steady at later (omega (arith, to, high))
          ∙ none_there (number - page) there.served none
    ]

-- to more pages nothing comes
pub free_by_nothing : (served_at : Space → ℕ → Option Pair) (sender : Space) (carried : Transfer) (receiver : Space) (page next : ℕ)
    → AreFree served_at sender carried receiver page
    → ((number : ℕ) → page ≤ number → number < next → shares (served_at sender (sent_page carried number)) carried.rights ≡ false)
    → AreFree served_at sender carried receiver next
free_by_nothing served_at sender carried receiver page next free none number low high some =
    elim (low_or_high number page) [
      | inl before ↦ free number low before some
      | inr later ↦ absurd (true≢false (sym some ∙ none number later high))
    ]

-- something comes to a page that shows something
pub taken_page : (served_at : Space → ℕ → Option Pair) (sender : Space) (carried : Transfer) (receiver : Space) (page number : ℕ) (there : SteadyPages)
    → there.page ≡ page → AreSteady (served_at receiver) there → is_some there.served ≡ true → page ≤ number → number < there.end
    → served_at receiver number ≡ None → ⊥
taken_page served_at sender carried receiver page number there at steady some low high none =
    some_there (number - page) there.served some (sym (steady_on (served_at receiver) there page number steady at low high) ∙ none)
