use Rattle.std.proofs.Common.{◌≡◌, Some, ap, refl, sym, subst, ◌∙◌}
use Rattle.std.specs.Prelude.{None}
use Rattle.std.proofs.lemmas.Bool.{true≢false}
use Rattle.mapdb_facts.specs.State.{nothing}
use Rattle.mapdb_facts.specs.declared.operations.Record.{Record}
use Rattle.mapdb_lists.specs.Changes.{cached_in}
use Rattle.mapdb_lists.proofs.Lists.Entries.{none_aligned}
use Rattle.mapdb_rights.specs.CachedFrames.{AreFrames}
use Rattle.mapdb_rights.proofs.Rights.FramesFrom.{no_change_frames}
use Rattle.mapdb_rights.proofs.Settling.Ended.{empty_stands}
use Rattle.mapdb_rights.proofs.index.rights_index.RightsIndex.new.Goals as goal

pub returns : goal.returns
returns c = record {
  there = refl;
  stands = record {
    shows = record {
      rights = λ id page. ap (λ e. cached_in e id page) c.new.ensures ∙ empty_stands id page;
      frames = subst (λ e. AreFrames nothing e) (sym c.new.ensures) (no_change_frames nothing);
      live_there = record {
        named = λ id r held. absurd (none_some r held);
        formed = λ r held. absurd (none_some r held);
        placed = λ r held. absurd (none_some r held);
        listed = record {
          places = λ r held has. absurd (none_some r held);
          aligned = none_aligned c.new-3.result c.new-3.ensures;
          only = λ e has. absurd (true≢false (sym has ∙ c.new-3.ensures e));
        };
      };
    };
    listed_there = record {
      named = λ id r held. absurd (none_some r held);
      formed = λ r held. absurd (none_some r held);
      sources = λ r held. absurd (none_some r held);
      aligned = none_aligned c.new-2.result c.new-2.ensures;
      held = λ e has. absurd (true≢false (sym has ∙ c.new-2.ensures e));
    };
    idle_there = λ r held. absurd (none_some r held);
  };
}
  where
    none_some : (r : Record) → None ≡ Some r → ⊥
    none_some r e = cc
