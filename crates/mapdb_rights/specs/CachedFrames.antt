-- The frames that are cached beside rights.
use Rattle.std.specs.Prelude.{◌≡◌, ◌<◌, ◌+◌, ℕ, false, Some}
use Rattle.mapdb_fpage.specs.Bounds.{page_limit}
use Rattle.mapdb_fpage.specs.RightSets.{is_empty}
use Rattle.mapdb_facts.specs.State.{State}
use Rattle.mapdb_facts.specs.declared.names.RecordId.{RecordId}
use Rattle.mapdb_lists.specs.Changes.{PageChanges, cached_in, seen_in}
use Rattle.mapdb_rights.specs.Frame.{frame_at}

-- the record reaches a frame at the page, as far from it as the shift says
pub record HasFrame (S : State) (id : RecordId) (page shift : ℕ) : Type 0 where
  pub frame : ℕ
  pub reached : frame_at S id page ≡ Some frame
  pub below : frame < page_limit
  pub far : frame + page_limit ≡ page + shift

-- where cached rights are not empty, the frame is as far from the page as the change says
abbrev pub AreFrames : State → PageChanges → Type 0
AreFrames S changes = (id : RecordId) (page : ℕ) → is_empty (cached_in changes id page) ≡ false
    → HasFrame S id page (seen_in changes id page).shift
