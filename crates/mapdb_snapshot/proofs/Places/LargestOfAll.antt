-- The largest place at a page has the most pages of all places that begin there.
use Rattle.std.proofs.Common.{◌≡◌, ℕ, zero, suc, ◌-◌, ◌%◌, ◌^◌, ◌≤◌, Bool, true, false, refl, sym, subst, ◌∙◌, inl, inr, arith}
use Rattle.std.specs.Prelude.{◌==◌, if◌then◌else◌, nat_le}
use Rattle.std.proofs.lemmas.Bool.{and_from, cases_lt, eq-eqb, false≢true, le-leb}
use Rattle.std.proofs.Math.Pow.{pow_mono}
use Rattle.mapdb_fpage.specs.Place.{Place, page_total}
use Rattle.mapdb_snapshot.specs.Cutting.{largest_place, most_doublings}
use Rattle.mapdb_snapshot.specs.Largest.{BeginsAt, PlacesAreLargest}
use Rattle.mapdb_snapshot.proofs.Places.LargestPlaces.{has_place}
use Rattle.mapdb_snapshot.proofs.Places.PlacesCover.{IsLargest, is_largest}

has_from : (doublings page count : ℕ) → page % 2 ^ doublings ≡ 0 → 2 ^ doublings ≤ count → has_place doublings page count ≡ true
has_from doublings page count aligned fits =
    and_from ((page % 2 ^ doublings) == 0) (nat_le (2 ^ doublings) count) (eq-eqb (page % 2 ^ doublings) 0 aligned) (le-leb (2 ^ doublings) count fits)

most_by : (limit page count n : ℕ) (t : Bool) → has_place (suc limit) page count ≡ t → n ≤ suc limit → page % 2 ^ n ≡ 0 → 2 ^ n ≤ count
    → (n ≤ limit → n ≤ most_doublings limit page count) → n ≤ (if t then suc limit else most_doublings limit page count)
most_by limit page count n true is low aligned fits fewer = low
most_by limit page count n false is low aligned fits fewer = elim (cases_lt n (suc limit)) [
  | inl less ↦ fewer (omega (arith, less))
  | inr more ↦
      let same : n ≡ suc limit = omega (arith, low, more) in
      absurd (false≢true (sym is ∙ subst (λ k. has_place k page count ≡ true) same (has_from n page count aligned fits)))
]

-- no more doublings fit
most : (limit page count n : ℕ) → n ≤ limit → page % 2 ^ n ≡ 0 → 2 ^ n ≤ count → n ≤ most_doublings limit page count
unfolding most_doublings
most zero page count n low aligned fits = low
most (suc limit) page count n low aligned fits =
    most_by limit page count n (has_place (suc limit) page count) refl low aligned fits (λ less. most limit page count n less aligned fits)

fewer_pages : (page count : ℕ) (other : Place) → BeginsAt page count other → page_total other ≤ page_total (largest_place page count)
fewer_pages page count other begins =
    let is = begins.0 in
    let n : ℕ = other.order - 12 in
    let low : n ≤ 36 = omega (arith, is.at_most_all) in
    let aligned : page % 2 ^ n ≡ 0 = subst (λ first. first % 2 ^ n ≡ 0) begins.1 is.aligned in
    let most_are : n ≤ most_doublings 36 page count = most 36 page count n low aligned begins.2 in
    pow_mono (omega (arith, most_are))

pub places_are_largest : PlacesAreLargest
places_are_largest page count some room =
    let is : IsLargest page count = is_largest page count some in
    ((is.place room, refl, is.total), fewer_pages page count)
