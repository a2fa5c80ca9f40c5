use Rattle.std.proofs.Common.{◌≡◌, suc, cond, length, refl, ap, ◌∙◌, arith, rules}
use Rattle.std.specs.Prelude.{◌==◌, slice_index}
use Rattle.std.specs.Map.{lookup}
use Rattle.mapdb_facts.specs.Names.{same_space}
use Rattle.mapdb_lists.specs.BySpace.{or_place, told_place}
use Rattle.mapdb_lists.proofs.PlaceLemmas.SpacePlaces.{put_far, put_near, words_far, words_near}
use Rattle.mapdb_lists.proofs.space_places.tell.Goals as goal

pub returns-in_default-clause-words : goal.returns-in_default-clause-words
returns-in_default-clause-words c = words_far c.args.near.now.items c.args.near.now.items c.args.spaces.now c.requires.words c.args.space (λ n. refl)

pub returns-in_default-clause-ok : goal.returns-in_default-clause-ok
returns-in_default-clause-ok c =
    put_far c.args.near.now.items c.args.near.now.items c.args.spaces.now c.requires.words c.args.space
    (λ q. lookup (same_space q) c.args.far.now.entries) (λ q. lookup (same_space q) c.insert.new.self.entries)
    (λ n. refl) c.requires.none c.in_ok-insert.ensures.updates.0

pub returns-clause-words : goal.returns-clause-words
returns-clause-words c =
    let is : c.in-Some.word ≡ suc (length c.args.spaces.now) = omega (arith, c.in-Some.ensures) in
    words_near c.args.near.now.items c.set_word.new.near.items c.args.spaces.now c.requires.words c.args.space
    (λ n. c.set_word.ensures n ∙ ap (λ w. cond (c.args.space.number == n) w (slice_index c.args.near.now.items n)) is)

pub returns-clause-ok : goal.returns-clause-ok
returns-clause-ok c =
    let is : c.in-Some.word ≡ suc (length c.args.spaces.now) = omega (arith, c.in-Some.ensures) in
    put_near c.args.near.now.items c.set_word.new.near.items c.args.spaces.now c.requires.words c.args.space
    (λ q. lookup (same_space q) c.args.far.now.entries) (λ q. lookup (same_space q) c.move_far.new.far.entries)
    (λ n. c.set_word.ensures n ∙ ap (λ w. cond (c.args.space.number == n) w (slice_index c.args.near.now.items n)) is)
    (λ q. c.in_ok-move_far.ensures.ok q
    ∙ ap (λ w. or_place (told_place c.args.spaces.now w q) (lookup (same_space q) c.args.far.now.entries)) (search rules))
