-- What all records of a space show up to an end is served steadily up to there.
use Rattle.std.proofs.Common.{◌≡◌, ℕ, ap, sym, true, ◌∙◌, ◌+◌, ◌<◌, subst}
use Rattle.mapdb_facts.specs.State.{state_of}
use Rattle.mapdb_facts.specs.WellFormed.{all_formed}
use Rattle.mapdb_facts.specs.declared.names.Space.{Space}
use Rattle.mapdb_facts.specs.declared.operations.Op.{Op}
use Rattle.mapdb_rights.specs.ShownSpaces.{IsShownFrom}
use Rattle.mapdb_rights.specs.declared.index.served_pages.SteadyPages.{SteadyPages}
use Rattle.mapdb_replica.specs.Running.{IsSteadyPart, pair_on}
use Rattle.mapdb_replica.specs.Served.{served}
use Rattle.mapdb_replica.proofs.Pages.RunningPages.{served_on}
use Rattle.mapdb_replica.proofs.Pages.ServedAlone.{served_is}
use Rattle.std.proofs.Common.{List}

pub shown_steady : (ops : List Op) (space : Space) → all_formed ops ≡ true → (page : ℕ) (shown : SteadyPages) → IsShownFrom (state_of ops) space page shown
    → IsSteadyPart (served ops space) page shown
shown_steady ops space formed page shown h = (
  h.begins,
  record {
    here = served_is ops space page formed shown.served h.served ∙ ap (served ops space) (sym h.begins);
    above = subst (λ n. n < shown.end) (sym h.begins) h.above;
    limit = h.limit;
    same = subst (λ n. (count : ℕ) → n + count < shown.end → served ops space (n + count) ≡ pair_on count (served ops space n)) (sym h.begins)
        (λ count inside. served_on ops space page count shown.end formed h.until inside);
  },
)
