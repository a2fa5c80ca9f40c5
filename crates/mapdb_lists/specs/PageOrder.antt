-- Rights at pages in a list, in ascending order of page.
use Rattle.std.specs.Prelude.{◌≡◌, ℕ, ◌<◌, ◌≤◌, List, length, get_or}
use Rattle.mapdb_lists.specs.declared.few_changes.PageRights.{PageRights}

-- each change stands in front of all behind it
abbrev pub PagesRise : List PageRights → Type 0
PagesRise list = (i j : ℕ) (d : PageRights) → i < j → j < length list
    → (get_or list i d).page < (get_or list j d).page

-- so many of the changes stand at the page or in front of it, and all others behind it
pub record IsSpot (list : List PageRights) (page spot : ℕ) : Type 0 where
  pub inside : spot ≤ length list
  pub up_to : (k : ℕ) (d : PageRights) → k < spot → (get_or list k d).page ≤ page
  pub behind : (k : ℕ) (d : PageRights) → spot ≤ k → k < length list
      → page < (get_or list k d).page

-- the change at this index stands at the page
pub record StandsAtPage (list : List PageRights) (page index : ℕ) : Type 0 where
  pub inside : index < length list
  pub here : (d : PageRights) → (get_or list index d).page ≡ page

-- no change stands at the page, and one there belongs at this index
pub record IsGap (list : List PageRights) (page index : ℕ) : Type 0 where
  pub inside : index ≤ length list
  pub front : (k : ℕ) (d : PageRights) → k < index → (get_or list k d).page < page
  pub behind : (k : ℕ) (d : PageRights) → index ≤ k → k < length list
      → page < (get_or list k d).page

-- so many of the changes stand in front of the page, and all others at it or behind it
pub record AreInFront (list : List PageRights) (page index : ℕ) : Type 0 where
  pub front : (k : ℕ) (d : PageRights) → k < index → (get_or list k d).page < page
  pub others : (k : ℕ) (d : PageRights) → index ≤ k → k < length list
      → page ≤ (get_or list k d).page
