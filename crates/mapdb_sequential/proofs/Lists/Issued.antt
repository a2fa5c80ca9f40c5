-- What a copy issues for a command, and what it carries.
use Rattle.std.proofs.Common.{◌≡◌, ℕ, ◌^◌, ◌/◌, Some, refl, ◌∙◌, List, [], ◌∷◌, ◌++◌, arith}
use Rattle.std.specs.Prelude.{IfSome, Option, None, Result, Ok, Err, min}
use Rattle.mapdb_fpage.proofs.Aligned.{part_place}
use Rattle.mapdb_fpage.specs.Place.{IsPlace, Place, is_page}
use Rattle.mapdb_fpage.specs.Transfer.{carried, carried_by, transfer_of}
use Rattle.mapdb_fpage.specs.declared.right_sets.Rights.{Rights}
use Rattle.mapdb_facts.proofs.States.Joins.{state_of-append}
use Rattle.mapdb_facts.specs.State.{join, state_of}
use Rattle.mapdb_facts.specs.declared.operations.Op.{Op}
use Rattle.mapdb_facts.specs.declared.operations.Op.TheVariants.{Closed}
use Rattle.mapdb_replica.proofs.News.NewsOfBatches.{state-taken}
use Rattle.mapdb_replica.specs.Commands.{command_outcome}
use Rattle.mapdb_replica.specs.Issue.{map_candidates}
use Rattle.mapdb_replica.specs.Replica.{Log, issued_unless, limit_refusal, news, spaces_refusal, unless_spaces}
use Rattle.mapdb_replica.specs.Unmap.{ending_refusal, ended_refusal, unmap_candidates}
use Rattle.mapdb_replica.specs.declared.commands.Command.{Command}
use Rattle.mapdb_replica.specs.declared.commands.Command.TheVariants.{End, Map, Unmap}
use Rattle.mapdb_replica.specs.declared.faults.IssueFault.{IssueFault}
use Rattle.mapdb_sequential.proofs.Lists.StateSteps.{IsTransfer}

-- what a copy of this processor may issue for a command
abbrev pub candidates : List Op → ℕ → Command → List Op
candidates ops processor (Map sender item receiver window) = map_candidates ops processor sender (transfer_of item window) receiver
candidates ops processor (Unmap space page rights flush) = unmap_candidates ops space page rights flush
candidates ops processor (End space) = Closed space ∷ []

-- the copy's operations with the new ones of these
abbrev pub issued : List Op → List Op → List Op
issued ops more = ops ++ news (state_of ops) more

pub state_of_issued : (ops more : List Op) → state_of (issued ops more) ≡ join (state_of ops) (state_of more)
state_of_issued ops more = state-taken ops more ∙ state_of-append ops more

abbrev issues : List Op → Result (List Op) IssueFault
issues ops = Ok ops

abbrev refuses : IssueFault → Result (List Op) IssueFault
refuses fault = Err fault

ok_is : (xs ys : List Op) → issues xs ≡ issues ys → xs ≡ ys
ok_is xs ys e = cc

no_ok : (fault : IssueFault) (ys : List Op) → refuses fault ≡ issues ys → ⊥
no_ok fault ys e = cc

open_ops : (a b : Option IssueFault) (more ops : List Op) → unless_spaces a (issued_unless b more) ≡ Ok ops → more ≡ ops
open_ops (Some fault) b more ops e = absurd (no_ok fault ops e)
open_ops None (Some fault) more ops e = absurd (no_ok fault ops e)
open_ops None None more ops e = ok_is more ops e

-- what is issued where nothing refuses
pub outcome_ops : (log : Log) (command : Command) (ops : List Op) → command_outcome log command ≡ Ok ops
    → news (state_of log.ops) (candidates log.ops log.processor command) ≡ ops
outcome_ops log (Map sender item receiver window) ops e =
    let all : List Op = map_candidates log.ops log.processor sender (transfer_of item window) receiver in
    open_ops (spaces_refusal (state_of log.ops) sender receiver) (limit_refusal log.ops all) (news (state_of log.ops) all) ops e
outcome_ops log (Unmap space page rights flush) ops e =
    let all : List Op = unmap_candidates log.ops space page rights flush in
    open_ops (ended_refusal (state_of log.ops) space) (limit_refusal log.ops all) (news (state_of log.ops) all) ops e
outcome_ops log (End space) ops e =
    let all : List Op = Closed space ∷ [] in
    open_ops (ending_refusal (state_of log.ops) space) (limit_refusal log.ops all) (news (state_of log.ops) all) ops e

carried_is : (page : Place) (base : ℕ) (window : Place) (rights : Rights) → IsPlace page → IsPlace window
    → IsTransfer (carried base rights page window)
carried_is page base window rights is_page is_window = record {
  from = part_place page (min page.order window.order) (base / 2 ^ min page.order window.order) is_page
      (omega (arith, is_page.at_least_a_page, is_window.at_least_a_page)) (omega arith);
  to = part_place window (min page.order window.order) (base / 2 ^ min page.order window.order) is_window
      (omega (arith, is_page.at_least_a_page, is_window.at_least_a_page)) (omega arith);
  size = refl;
}

-- a Map carries from a place to a place of one size
pub carries : (base : ℕ) (rights : Rights) (page window : Option Place) → IfSome page IsPlace → IfSome window IsPlace
    → IfSome (carried_by base rights page window) IsTransfer
carries base rights (Some page) (Some window) is_page is_window = carried_is page base window rights is_page is_window
carries base rights (Some page) None is_page is_window = tt
carries base rights None window is_page is_window = tt
