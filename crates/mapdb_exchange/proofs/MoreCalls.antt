-- One call more from a seat, and one message more on a link.
use Rattle.std.proofs.Common.{◌≡◌, ◌∙◌, ℕ, ◌+◌, ◌<◌, Bool, true, false, inl, inr, List, [], ◌∷◌, ◌++◌, refl, ap, sym, append_assoc, append-nil, get_or, length, take}
use Rattle.std.proofs.lemmas.List.{take_more}
use Rattle.std.specs.Prelude.{◌^◌, Err, Ok, Result, if◌then◌else◌, nat_lt}
use Rattle.mapdb_facts.specs.declared.operations.Op.{Op}
use Rattle.mapdb_replica.specs.declared.commands.Command.{Command}
use Rattle.mapdb_node.specs.Histories.{call}
use Rattle.mapdb_node.specs.declared.events.NodeEvent.{NodeEvent}
use Rattle.mapdb_node.specs.declared.events.NodeEvent.TheVariants.{Issue, OwnAt, Served, Take}
use Rattle.mapdb_node.specs.declared.events.NodeReply.{NodeReply}
use Rattle.mapdb_node.specs.declared.events.NodeReply.TheVariants as reply
use Rattle.mapdb_node.specs.declared.seats.Call.{Call}
use Rattle.mapdb_exchange.specs.Calls.{IsToldSince, commands_in, faults_in, held_in, issued_in, ops_in, own_in, place_after, taken_in, with_error, with_event_command, with_fault, with_held, with_ops}
use Rattle.mapdb_exchange.specs.declared.faults.NodeFault.TheVariants.{Own}
use Rattle.mapdb_exchange.specs.declared.faults.WorkFault.{WorkFault}
use Rattle.mapdb_exchange.specs.declared.faults.WorkFault.TheVariants.{Node}
use Rattle.mapdb_exchange.specs.declared.messages.Batch.{Batch as BatchOf}
use Rattle.mapdb_exchange.specs.declared.messages.Message.{Message}
use Rattle.mapdb_exchange.proofs.Numbering.{batches_put, fin_put}
use Rattle.mapdb_exchange.specs.declared.messages.Message.TheVariants.{Batch, Fin}

-- the first of a list, with one more
take_next : {A : Type 0} (start xs : List A) (i : ℕ) (x : A) → i < length xs → x ≡ get_or xs i x → (start ++ take i xs) ++ x ∷ [] ≡ start ++ take (i + 1) xs
take_next {A} start xs i x within here =
    append_assoc start (take i xs) (x ∷ [])
    ∙ ap (λ (ys : List A). start ++ ys) (ap (λ (y : A). take i xs ++ y ∷ []) here ∙ sym (take_more xs i x within))

with_held_more : (event : NodeEvent) (answer : NodeReply) (xs ys : List Op) → with_held event answer (xs ++ ys) ≡ with_held event answer xs ++ ys
with_held_more (Take op) (reply.Taken new) xs ys = refl
with_held_more (Take op) (reply.Issued first count) xs ys = refl
with_held_more (Take op) (reply.Revoked count) xs ys = refl
with_held_more (Take op) reply.Ended xs ys = refl
with_held_more (Take op) (reply.Served found) xs ys = refl
with_held_more (Take op) (reply.Own own) xs ys = refl
with_held_more (Take op) (reply.IssueRefused why) xs ys = refl
with_held_more (Take op) (reply.TakeRefused why) xs ys = refl
with_held_more (Issue command) answer xs ys = refl
with_held_more (Served space page) answer xs ys = refl
with_held_more (OwnAt place) answer xs ys = refl

held_more : (cs : List Call) (c : Call) → held_in (cs ++ c ∷ []) ≡ held_in cs ++ with_held c.event c.reply []
held_more [] c = refl
held_more (x ∷ cs) c =
    ap (λ (ops : List Op). with_held x.event x.reply ops) (held_more cs c)
    ∙ with_held_more x.event x.reply (held_in cs) (with_held c.event c.reply [])

is_held : (op : Op) (answer : NodeReply) → taken_in answer ≡ Ok tt → with_held (Take op) answer [] ≡ op ∷ []
is_held op (reply.Taken new) h = refl
is_held op (reply.Issued first count) h = cc
is_held op (reply.Revoked count) h = cc
is_held op reply.Ended h = cc
is_held op (reply.Served found) h = cc
is_held op (reply.Own own) h = cc
is_held op (reply.IssueRefused why) h = cc
is_held op (reply.TakeRefused why) h = cc

-- one operation more was taken
pub took_more : (start ops : List Op) (i : ℕ) (op : Op) (cs : List Call) (place : ℕ) (answer : NodeReply) → i < length ops → op ≡ get_or ops i op
    → held_in cs ≡ start ++ take i ops → taken_in answer ≡ Ok tt → held_in (cs ++ call (Take op) place answer ∷ []) ≡ start ++ take (i + 1) ops
took_more start ops i op cs place answer within here before taken =
    held_more cs (call (Take op) place answer)
    ∙ (ap (λ (xs : List Op). held_in cs ++ xs) (is_held op answer taken)
    ∙ (ap (λ (xs : List Op). xs ++ op ∷ []) before ∙ take_next start ops i op within here))

with_command_more : (event : NodeEvent) (xs ys : List Command) → with_event_command event (xs ++ ys) ≡ with_event_command event xs ++ ys
with_command_more (Issue command) xs ys = refl
with_command_more (Take op) xs ys = refl
with_command_more (Served space page) xs ys = refl
with_command_more (OwnAt place) xs ys = refl

commands_more : (cs : List Call) (c : Call) → commands_in (cs ++ c ∷ []) ≡ commands_in cs ++ with_event_command c.event []
commands_more [] c = refl
commands_more (x ∷ cs) c =
    ap (λ (commands : List Command). with_event_command x.event commands) (commands_more cs c)
    ∙ with_command_more x.event (commands_in cs) (with_event_command c.event [])

-- one command more was issued
pub issued_more : (start script : List Command) (i : ℕ) (command : Command) (cs : List Call) (place : ℕ) (answer : NodeReply) → i < length script
    → command ≡ get_or script i command → commands_in cs ≡ start ++ take i script
    → commands_in (cs ++ call (Issue command) place answer ∷ []) ≡ start ++ take (i + 1) script
issued_more start script i command cs place answer within here before =
    commands_more cs (call (Issue command) place answer)
    ∙ (ap (λ (commands : List Command). commands ++ command ∷ []) before ∙ take_next start script i command within here)

-- what is asked for an own operation is no command
pub own_is_none : (cs : List Call) (own place : ℕ) (answer : NodeReply) → commands_in (cs ++ call (OwnAt own) place answer ∷ []) ≡ commands_in cs
own_is_none cs own place answer = commands_more cs (call (OwnAt own) place answer) ∙ append-nil (commands_in cs)

with_error_more : {A : Type 0} (o : Result A WorkFault) (xs ys : List WorkFault) → with_error o (xs ++ ys) ≡ with_error o xs ++ ys
with_error_more (Ok value) xs ys = refl
with_error_more (Err fault) xs ys = refl

with_fault_more : (event : NodeEvent) (answer : NodeReply) (xs ys : List WorkFault) → with_fault event answer (xs ++ ys) ≡ with_fault event answer xs ++ ys
with_fault_more (Take op) answer xs ys = with_error_more (taken_in answer) xs ys
with_fault_more (Issue command) answer xs ys = with_error_more (issued_in answer) xs ys
with_fault_more (OwnAt place) answer xs ys = with_error_more (own_in answer) xs ys
with_fault_more (Served space page) answer xs ys = refl

faults_more : (cs : List Call) (c : Call) → faults_in (cs ++ c ∷ []) ≡ faults_in cs ++ with_fault c.event c.reply []
faults_more [] c = refl
faults_more (x ∷ cs) c =
    ap (λ (faults : List WorkFault). with_fault x.event x.reply faults) (faults_more cs c)
    ∙ with_fault_more x.event x.reply (faults_in cs) (with_fault c.event c.reply [])

pub no_error : {A : Type 0} (o : Result A WorkFault) (value : A) → o ≡ Ok value → with_error o [] ≡ []
no_error o value is = ap (λ p. with_error p []) is

pub an_error : {A : Type 0} (o : Result A WorkFault) (fault : WorkFault) → o ≡ Err fault → with_error o [] ≡ fault ∷ []
an_error o fault is = ap (λ p. with_error p []) is

module _ (cs : List Call) (event : NodeEvent) (place : ℕ) (answer : NodeReply) where
  abbrev next : List Call
  next = cs ++ call event place answer ∷ []

  -- one reply more told no fault
  pub none_more : with_fault event answer [] ≡ [] → faults_in next ≡ faults_in cs
  none_more none = faults_more cs (call event place answer) ∙ ap (λ (faults : List WorkFault). faults_in cs ++ faults) none ∙ append-nil (faults_in cs)

  -- one reply more told this fault
  pub told_more : (fault : WorkFault) → with_fault event answer [] ≡ fault ∷ [] → faults_in next ≡ faults_in cs ++ fault ∷ []
  told_more fault told = faults_more cs (call event place answer) ∙ ap (λ (faults : List WorkFault). faults_in cs ++ faults) told

-- a reply that told an own operation told no fault
pub own_told_none : (cs : List Call) (own place : ℕ) (answer : NodeReply) (op : Op) → own_in answer ≡ Ok op → faults_in (cs ++ call (OwnAt own) place answer ∷ []) ≡ faults_in cs
own_told_none cs own place answer op is = none_more cs (OwnAt own) place answer (no_error (own_in answer) op is)

-- what a reply that told an own operation leaves as it was
pub ruleset own_is_read = (own_is_none, own_told_none)

-- what is told since is told since before, where none was told between
pub told_after : (untold : WorkFault → Type 0) (old between new : List Call) (fault : WorkFault) → faults_in between ≡ faults_in old → IsToldSince untold between new fault → IsToldSince untold old new fault
told_after untold old between new fault none (inl told) = inl (told ∙ ap (λ (faults : List WorkFault). faults ++ fault ∷ []) none)
told_after untold old between new fault none (inr other) = inr (other.0 ∙ none, other.1)

-- there is no place behind all
pub place_fault : (first count : ℕ) (fault : WorkFault) → place_after first count ≡ Err fault → fault ≡ Node Own
place_fault first count fault is = by (nat_lt (first + count) (2 ^ 32)) is
  where
    by : (t : Bool) → (if t then Ok (first + count) else Err (Node Own)) ≡ Err fault → fault ≡ Node Own
    by true h = cc
    by false h = cc

with_ops_more : (m : Message) (xs ys : List Op) → with_ops m (xs ++ ys) ≡ with_ops m xs ++ ys
with_ops_more (Batch b) xs ys = sym (append_assoc b.ops xs ys)
with_ops_more Fin xs ys = refl

ops_more : (ms : List Message) (m : Message) → ops_in (ms ++ m ∷ []) ≡ ops_in ms ++ with_ops m []
ops_more [] m = refl
ops_more (x ∷ ms) m =
    ap (λ (ops : List Op). with_ops x ops) (ops_more ms m)
    ∙ with_ops_more x (ops_in ms) (with_ops m [])

-- the operations of one batch more were taken
pub batch_taken : (start old new : List Op) (ms : List Message) (b : BatchOf) → old ≡ start ++ ops_in ms → new ≡ old ++ b.ops
    → new ≡ start ++ ops_in (ms ++ Batch b ∷ [])
batch_taken start old new ms b before taken =
    taken
    ∙ (ap (λ (ops : List Op). ops ++ b.ops) before
    ∙ (append_assoc start (ops_in ms) b.ops
    ∙ ap (λ (ops : List Op). start ++ ops) (sym (ops_more ms (Batch b) ∙ ap (λ (ops : List Op). ops_in ms ++ ops) (append-nil b.ops)))))

-- Fin carries no operation
pub fin_taken : (start held : List Op) (ms : List Message) → held ≡ start ++ ops_in ms → held ≡ start ++ ops_in (ms ++ Fin ∷ [])
fin_taken start held ms before =
    before ∙ ap (λ (ops : List Op). start ++ ops) (sym (ops_more ms Fin ∙ append-nil (ops_in ms)))

-- what one more message of a link was, and what was taken of it
pub ruleset message_taken = (batches_put, fin_put, batch_taken, fin_taken)
