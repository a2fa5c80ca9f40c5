use Rattle.std.proofs.Common.{◌≡◌, ◌++◌, ◌∙◌, ℕ, List, OnOk, append_assoc}
use Rattle.std.specs.Prelude.{Result, Ok, Err, if◌then◌else◌, codes, string_bytes}
use Rattle.std.specs.Result.{is_ok}
use Rattle.mapdb_script.proofs.replies.Refusal.push.Goals as goal

-- a text behind another
pushed : {A E : Type 0} (result : Result A E) (new old added : List ℕ) → new ≡ (if is_ok result then old ++ added else old)
    → OnOk result (new ≡ old ++ added)
pushed (Ok x) new old added e = e
pushed (Err f) new old added e = tt

-- a second text behind a first one
pushed_behind : {A E : Type 0} (result : Result A E) (new between old first second : List ℕ) → between ≡ old ++ first
    → OnOk result (new ≡ between ++ second) → OnOk result (new ≡ old ++ (first ++ second))
pushed_behind (Ok x) new between old first second e f = f ∙ rw e (append_assoc old first second)
pushed_behind (Err g) new between old first second e f = tt

pub returns-in_ok-push_str-in-SpaceEnded : goal.returns-in_ok-push_str-in-SpaceEnded
returns-in_ok-push_str-in-SpaceEnded c = rw c.in-SpaceEnded.is (pushed_behind c.push_space.result _ _ _ _ _ c.in_ok-push_str-in-SpaceEnded.ensures.bytes c.push_space.ensures)

pub returns-in-NumbersSpent : goal.returns-in-NumbersSpent
returns-in-NumbersSpent c =
    rw c.in-NumbersSpent.is (pushed c.push_str-in-NumbersSpent.result (string_bytes c.push_str-in-NumbersSpent.new.self) (string_bytes c.args.text.now)
    (codes "refused numbers-spent") c.push_str-in-NumbersSpent.ensures.bytes)

pub returns-in-Full : goal.returns-in-Full
returns-in-Full c =
    rw c.in-Full.is (pushed c.push_str-in-Full.result (string_bytes c.push_str-in-Full.new.self) (string_bytes c.args.text.now) (codes "refused full")
    c.push_str-in-Full.ensures.bytes)

pub returns-in_ok-push_str-in-Clash : goal.returns-in_ok-push_str-in-Clash
returns-in_ok-push_str-in-Clash c = rw c.in-Clash.is (pushed_behind c.push_name.result _ _ _ _ _ c.in_ok-push_str-in-Clash.ensures.bytes c.push_name.ensures)

pub returns-in_ok-push_str-in-Snapshot : goal.returns-in_ok-push_str-in-Snapshot
returns-in_ok-push_str-in-Snapshot c =
    let old = string_bytes c.args.text.now in
    let between = string_bytes c.push_str-in-Snapshot.new.self in
    let new = string_bytes c.push_str-in-Snapshot-2.new.self in
    rw (c.in-Snapshot.is, ← c.snapshot_name.ensures) (pushed_behind c.push_str-in-Snapshot-2.result new between old (codes "refused snapshot ") c.snapshot_name.result.now
    c.in_ok-push_str-in-Snapshot.ensures.bytes (pushed c.push_str-in-Snapshot-2.result new between c.snapshot_name.result.now c.push_str-in-Snapshot-2.ensures.bytes))
