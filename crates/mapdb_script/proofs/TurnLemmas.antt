-- A turn of the engine, beside what processor 0 accepted.
use Rattle.std.proofs.Common.{◌≡◌, ◌+◌, Bool, cond, List, ℕ, Some, ap, arith, false, refl, true}
use Rattle.std.specs.Prelude.{Result, Ok, Err, IfErr, OnErr, OnOk, if◌then◌else◌}
use Rattle.mapdb_cluster.specs.Net.{Net}
use Rattle.mapdb_lines.specs.Fronts.{BeginsWith}
use Rattle.mapdb_lines.specs.declared.fault.LineFault.{LineFault}
use Rattle.mapdb_lines.specs.declared.lines.Line.{Line}
use Rattle.mapdb_script.specs.Accepting.{Accepted}
use Rattle.mapdb_script.specs.Answering.{LineDone, Reply, ScriptCluster, done_by, is_refusal, reply_text}
use Rattle.mapdb_script.specs.Run.{Responds}
use Rattle.mapdb_script.specs.Script.{ScriptState, turn_of}
use Rattle.mapdb_script.specs.Standing.{CopiesStandFor, NamesPlaces, ShowsAfter}
use Rattle.mapdb_script.specs.States.{EngineStandsFor, Turns, beside, net_of, script_state, seen_of}
use Rattle.mapdb_script.specs.declared.engine.Engine.{Engine}
use Rattle.mapdb_script.specs.declared.faults.ScriptFault.{ScriptFault}
use Rattle.mapdb_script.specs.declared.faults.ScriptFault.TheVariants as script
use Rattle.mapdb_script.proofs.StandingLines.{line_stands}

-- what is seen of a line is what it did, beside what processor 0 accepted by then
pub seen_done : (done : Result LineDone LineFault) (reply : Reply) (net : Net) → seen_of done ≡ Ok (reply, net)
    → (next : Accepted) × (done ≡ Ok (record { reply = reply; cluster = record { net = net; accepted = next } }))
seen_done (Ok done) reply net e =
    let same : (let seen : Reply × Net = (done.reply, done.cluster.net) in seen) ≡ (reply, net) = cc in
    let told : done.reply ≡ reply = ap (λ (seen : Reply × Net). seen.0) same in
    let left : done.cluster.net ≡ net = ap (λ (seen : Reply × Net). seen.1) same in
    (done.cluster.accepted, λ i. Ok (record { reply = told i; cluster = record { net = left i; accepted = done.cluster.accepted } }))
seen_done (Err fault) reply net e = absurd (never e)
  where
    never : (let r : Result (Reply × Net) LineFault = Err fault in r) ≡ Ok (reply, net) → ⊥
    never e = cc

-- a line that is not at fault, and what stands after it
pub line_seen : (shows after : Bool) (cluster : ScriptCluster) → CopiesStandFor shows cluster.net.copies cluster.accepted → (said : Line) (reply : Reply) (net : Net)
    → NamesPlaces said → ShowsAfter shows cluster.net.copies said after → seen_of (done_by cluster said) ≡ Ok (reply, net)
    → (next : Accepted) × CopiesStandFor (cond (is_refusal reply) shows after) net.copies next
    × (done_by cluster said ≡ Ok (record { reply = reply; cluster = record { net = net; accepted = next } }))
line_seen shows after cluster stands said reply net places on e =
    let seen = seen_done (done_by cluster said) reply net e in
    let done : LineDone = record { reply = reply; cluster = record { net = net; accepted = seen.0 } } in
    (seen.0, line_stands shows after cluster stands said done places on seen.1, seen.1)

-- the engine counted the line, and notes whether processor 0's copy shows the tree after it
pub record Takes (old new : Engine) (reply : Reply) (after : Bool) : Type 0 where
  pub tree : new.shows_tree ≡ cond (is_refusal reply) old.shows_tree after
  pub lines : new.lines ≡ old.lines + 1
  pub commands : new.commands ≡ old.commands + 1
  pub refused : new.refused ≡ old.refused + (if is_refusal reply then 1 else 0)

pub takes_refusal : (old new : Engine) (reply : Reply) (after : Bool) → is_refusal reply ≡ true → new.shows_tree ≡ old.shows_tree → new.lines ≡ old.lines + 1
    → new.commands ≡ old.commands + 1 → new.refused ≡ old.refused + 1 → Takes old new reply after
takes_refusal old new reply after is tree lines commands refused =
    record { tree = rw is tree; lines = lines; commands = commands; refused = rw is refused }

pub takes_done : (old new : Engine) (reply : Reply) (after : Bool) → is_refusal reply ≡ false → new.shows_tree ≡ after → new.lines ≡ old.lines + 1
    → new.commands ≡ old.commands + 1 → new.refused ≡ old.refused → Takes old new reply after
takes_done old new reply after is tree lines commands refused =
    record { tree = rw is tree; lines = lines; commands = commands; refused = rw is (omega (arith, refused)) }

-- a line that the engine took
pub turn_seen : (old new : Engine) (accepted : Accepted) (said : Line) (after : Bool) (reply : Reply) (text : List ℕ) → EngineStandsFor old accepted → NamesPlaces said
    → ShowsAfter old.shows_tree old.cluster.copies.items said after → seen_of (done_by (beside old.cluster accepted) said) ≡ Ok (reply, net_of new.cluster)
    → Takes old new reply after → text ≡ reply_text reply
    → (next : Accepted) × EngineStandsFor new next × (turn_of (script_state old accepted) (Some said) ≡ Ok (text, script_state new next))
turn_seen old new accepted said after reply text stands places on e takes is =
    let seen = line_seen old.shows_tree after (beside old.cluster accepted) stands said reply (net_of new.cluster) places on e in
    (seen.0, rw takes.tree seen.1, rw (seen.2, is, takes.lines, takes.commands, takes.refused) refl)

-- a line that was done, whose reply waits or was written, or of which the writer took a part
pub replied : (new : Engine) (number : ℕ) (turned : Result (List ℕ × ScriptState) LineFault) (text : List ℕ) (result : Result Unit ScriptFault)
    (Puts : List ℕ → Type 0) (Fails : Type 0) → Turns (Ok text) new turned → OnOk result (Puts text)
    → OnErr result ((part : List ℕ) × BeginsWith text part × Puts part) → IfErr result (λ fault. (fault ≡ script.Write) × Fails)
    → (told : List ℕ) × Puts told × (next : Accepted) × Responds result number (script_state new next) turned told × OnOk result (EngineStandsFor new next)
replied new number turned text (Ok done) Puts Fails turns puts part write = (text, puts, turns.0, turns.2, turns.1)
replied new number turned text (Err script.Write) Puts Fails turns puts part write = (part.0, part.2, turns.0, rw turns.2 part.1, tt)
replied new number turned text (Err fault) Puts Fails turns puts part write = absurd (let same = write.0 in cc)
