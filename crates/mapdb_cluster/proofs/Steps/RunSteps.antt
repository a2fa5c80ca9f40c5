-- Runs, one event after the other.
use Rattle.std.proofs.Common.{◌≡◌, ℕ, zero, suc, ◌+◌, ◌<◌, refl, sym, ap, ◌∙◌, List, [], ◌∷◌, ◌++◌, get_or, length, take, arith}
use Rattle.std.specs.Prelude.{false}
use Rattle.std.proofs.lemmas.Bool.{true≢false}
use Rattle.mapdb_replica.specs.Memory.{EndsAfter, Enough, Memory, ends}
use Rattle.mapdb_cluster.specs.Honest.{AllTrusted, IsTrusted}
use Rattle.mapdb_cluster.specs.Net.{Net, event_done}
use Rattle.mapdb_cluster.specs.Run.{Happens, Move, after, all_done, move_done, replies}
use Rattle.mapdb_cluster.specs.Steps.{Steps, memory_told}
use Rattle.mapdb_cluster.specs.declared.events.Event.{Event}
use Rattle.mapdb_cluster.specs.declared.events.Reply.{Reply}

after-append : (net : Net) (xs ys : List Move) → after net (xs ++ ys) ≡ after (after net xs) ys
after-append net [] ys = refl
after-append net (move ∷ xs) ys = after-append (move_done net move).net xs ys

replies-append : (net : Net) (xs ys : List Move) → replies net (xs ++ ys) ≡ replies net xs ++ replies (after net xs) ys
replies-append net [] ys = refl
replies-append net (move ∷ xs) ys = ap (λ (rs : List Reply). (move_done net move).reply ∷ rs) (replies-append (move_done net move).net xs ys)

all_done-append : (xs ys : List Event) → all_done (xs ++ ys) ≡ all_done xs ++ all_done ys
all_done-append [] ys = refl
all_done-append (event ∷ xs) ys = ap (λ (moves : List Move). Happens event Enough ∷ moves) (all_done-append xs ys)

next_of : (events : List Event) (i : ℕ) (event : Event) → i < length events → event ≡ get_or events i event → take (i + 1) events ≡ take i events ++ event ∷ []
next_of [] i event within is = absurd (omega arith)
next_of (first ∷ rest) zero event within is = ap (λ (e : Event). e ∷ []) (sym is)
next_of (first ∷ rest) (suc i) event within is =
    let next : suc i + 1 ≡ suc (i + 1) = omega arith in
    ap (λ n. take n (first ∷ rest)) next ∙ ap (λ (es : List Event). first ∷ es) (next_of rest i event (omega arith) is)

-- one reply more that refuses no operation as bad, nor for a clash
pub trusted_more : (told : List Reply) (reply : Reply) → AllTrusted told → IsTrusted reply → AllTrusted (told ++ reply ∷ [])
trusted_more [] reply all one = (one, tt)
trusted_more (first ∷ rest) reply all one = (all.0, trusted_more rest reply all.1 one)

enough : (memory : Memory) → ends memory ≡ false → memory ≡ Enough
enough Enough h = refl
enough (EndsAfter count) h = absurd (true≢false h)

-- a step for which memory was enough is the event with memory enough
module _ (start now new : Net) (events : List Event) (i : ℕ) (event : Event) (reply : Reply) (within : i < length events) (is : event ≡ get_or events i event)
    (so_far : now ≡ after start (all_done (take i events))) (step : Steps now event reply new) (lasted : ends (memory_told reply) ≡ false) where
  one_more : all_done (take (i + 1) events) ≡ all_done (take i events) ++ Happens event Enough ∷ []
  one_more = ap all_done (next_of events i event within is) ∙ all_done-append (take i events) (event ∷ [])

  full : memory_told reply ≡ Enough
  full = enough (memory_told reply) lasted

  pub net-next : new ≡ after start (all_done (take (i + 1) events))
  net-next =
      sym step.done ∙ ap (λ (memory : Memory). (event_done now event memory).net) full ∙ ap (λ (net : Net). (event_done net event Enough).net) so_far
      ∙ sym (ap (after start) one_more ∙ after-append start (all_done (take i events)) (Happens event Enough ∷ []))

  pub replies-next : (told more : List Reply) → told ≡ replies start (all_done (take i events)) → more ≡ told ++ reply ∷ [] → more ≡ replies start (all_done (take (i + 1) events))
  replies-next told more told_is more_is =
      let here : reply ≡ (event_done (after start (all_done (take i events))) event Enough).reply =
      sym step.replied ∙ ap (λ (memory : Memory). (event_done now event memory).reply) full ∙ ap (λ (net : Net). (event_done net event Enough).reply) so_far in
      more_is ∙ ap (λ (rs : List Reply). rs ++ reply ∷ []) told_is ∙ ap (λ (r : Reply). replies start (all_done (take i events)) ++ r ∷ []) here
      ∙ sym (ap (replies start) one_more ∙ replies-append start (all_done (take i events)) (Happens event Enough ∷ []))
