-- After a plain list the tree reflects the copy's state.
use Rattle.std.proofs.Common.{◌≡◌, ℕ, Bool, true, Some, refl, sym, ap, subst, List, [], ◌∷◌, ◌++◌}
use Rattle.std.specs.Prelude.{None, Result, Ok, Err, if◌then◌else◌, false}
use Rattle.mapdb_fpage.specs.Transfer.{transfer_of}
use Rattle.mapdb_facts.specs.Names.{is_root_number}
use Rattle.mapdb_facts.proofs.Lists.SameNames.{not_first_space}
use Rattle.mapdb_facts.specs.declared.operations.Op.{Op}
use Rattle.mapdb_replica.specs.Commands.{IsCommand, command_outcome}
use Rattle.mapdb_replica.specs.Replica.{Log, empty, with_issued}
use Rattle.mapdb_replica.specs.declared.commands.Command.{Command}
use Rattle.mapdb_replica.specs.declared.commands.Command.TheVariants.{End, Map, Unmap}
use Rattle.mapdb_replica.specs.declared.faults.IssueFault.{IssueFault}
use Rattle.mapdb_sequential.proofs.Lists.Issued.{candidates, carries, issued, outcome_ops}
use Rattle.mapdb_sequential.proofs.Trees.Linking.{short_start}
use Rattle.mapdb_sequential.proofs.Trees.PathTrees.{first_path_tree}
use Rattle.mapdb_sequential.proofs.Lists.Settled.{kept_after, settled_start}
use Rattle.mapdb_sequential.proofs.Trees.Starting.{shows_start}
use Rattle.mapdb_sequential.proofs.Lists.StateSteps.{IsKept}
use Rattle.mapdb_sequential.proofs.Lists.Stepping.{Reflects, end_step, map_step, unmap_step}
use Rattle.mapdb_sequential.specs.Plain.{After, AreCommands, GoesOnWith, IsPlain, tree_refusal_of}
use Rattle.mapdb_tree.specs.Tree.{Tree, first_tree}
use Rattle.mapdb_tree.specs.declared.faults.TreeFault.{TreeFault}

-- what holds of a copy and its tree after each command
pub record Matched (log : Log) (T : Tree) : Type 0 where
  pub kept : IsKept log.ops
  pub reflects : Reflects log.ops T

pub matched_start : (processor : ℕ) → Matched (empty processor) first_tree
matched_start processor = record { kept = settled_start; reflects = record { ways = first_path_tree; shows = shows_start; like = short_start } }

-- an End that is not refused is not of the first space
end_open : (over first : Bool) (ended top : TreeFault) → (if over then Some ended else (if first then Some top else None)) ≡ None → first ≡ false
end_open true first ended top h = absurd (no_fault h)
  where
    no_fault : Some ended ≡ None → ⊥
    no_fault e = cc
end_open false true ended top h = absurd (no_fault h)
  where
    no_fault : Some top ≡ None → ⊥
    no_fault e = cc
end_open false false ended top h = refl

reflects_step : (ops : List Op) (processor : ℕ) (command : Command) (T T' : Tree) → IsKept ops → IsCommand command → Reflects ops T
    → tree_refusal_of T command ≡ None → After T command T'
    → Reflects (issued ops (candidates ops processor command)) T'
reflects_step ops processor (Map sender item receiver window) T T' kept good is open_to after =
    map_step ops processor sender receiver (transfer_of item window) T T' kept
    (carries item.send_base item.rights item.page window good.0 good.1) is open_to after
reflects_step ops processor (Unmap space page rights flush) T T' kept good is open_to after =
    unmap_step ops space page rights flush T T' kept good is after
reflects_step ops processor (End space) T T' kept good is open_to after =
    end_step ops space T T' kept (not_first_space space (end_open (T.is_over space) (is_root_number space) _ _ open_to)) is after

matched_next : (log : Log) (command : Command) (ops : List Op) (T T' : Tree) → IsCommand command → Matched log T
    → command_outcome log command ≡ Ok ops → tree_refusal_of T command ≡ None → After T command T'
    → Matched (with_issued log ops) T'
matched_next log command ops T T' good is issues open_to after =
    let all : List Op = candidates log.ops log.processor command in
    let same : issued log.ops all ≡ log.ops ++ ops = ap (λ (x : List Op). log.ops ++ x) (outcome_ops log command ops issues) in
    record {
      kept = subst IsKept same (kept_after log.ops log.processor command is.kept good);
      reflects = subst (λ (x : List Op). Reflects x T') same
          (reflects_step log.ops log.processor command T T' is.kept good is.reflects open_to after);
    }

-- one command, whether it is refused or not
matched_step : (log : Log) (T : Tree) (command : Command) (Rest : Log → Tree → Type 0) (outcome : Result (List Op) IssueFault)
    → command_outcome log command ≡ outcome → IsCommand command → Matched log T
    → GoesOnWith log T command Rest outcome → (next_log : Log) × (next : Tree) × Matched next_log next × Rest next_log next
matched_step log T command Rest (Err refusal) comes good is rest = (log, T, is, rest)
matched_step log T command Rest (Ok ops) comes good is (open_to, next, after, rest) =
    (with_issued log ops, next, matched_next log command ops T next good is comes open_to after, rest)

pub matched_run : (commands : List Command) (log last : Log) (T T' : Tree) → AreCommands commands → IsPlain log T commands last T' → Matched log T
    → Matched last T'
matched_run [] log last T T' are (same_log, same_tree) is = subst (λ (x : Log). Matched x T') (sym same_log) (subst (Matched log) (sym same_tree) is)
matched_run (command ∷ commands) log last T T' are plain is =
    let next = matched_step log T command (λ next_log next. IsPlain next_log next commands last T')
    (command_outcome log command) refl are.0 is plain in
    matched_run commands next.0 last next.1 T' are.1 next.3 next.2
