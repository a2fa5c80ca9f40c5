use Rattle.std.proofs.Common.{ℕ, List, [], ◌∷◌, ◌++◌, ap, subst, sym, ◌∙◌}
use Rattle.mapdb_facts.specs.declared.names.Space.{Space}
use Rattle.mapdb_lists.specs.BySpace.{AreWordsOf}
use Rattle.mapdb_lists.proofs.PlaceLemmas.SpacePlaces.{words_kept}
use Rattle.mapdb_lists.proofs.space_places.SpacePlaces.put.Goals as goal

pub returns-in_err-reserve-clause-words : goal.returns-in_err-reserve-clause-words
returns-in_err-reserve-clause-words c = subst (λ (l : List Space). AreWordsOf c.args.self.now.near.items l) (sym c.reserve.ensures.items) c.requires.words

pub returns-in_err-reach-clause-words : goal.returns-in_err-reach-clause-words
returns-in_err-reach-clause-words c =
    words_kept c.args.self.now.near.items c.reach.new.near.items c.reserve.new.self.items
    (subst (λ (l : List Space). AreWordsOf c.args.self.now.near.items l) (sym c.reserve.ensures.items) c.requires.words) c.args.space c.reach.ensures.same

pub tell-requires-clause-words : goal.tell-requires-clause-words
tell-requires-clause-words c =
    subst (λ (l : List Space). AreWordsOf c.reach.new.near.items l) (sym c.as_slice.ensures.value)
    (words_kept c.args.self.now.near.items c.reach.new.near.items c.reserve.new.self.items
    (subst (λ (l : List Space). AreWordsOf c.args.self.now.near.items l) (sym c.reserve.ensures.items) c.requires.words) c.args.space c.reach.ensures.same)

pub returns-in_err-tell-clause-words : goal.returns-in_err-tell-clause-words
returns-in_err-tell-clause-words c =
    subst (λ (near : List ℕ). AreWordsOf near c.reserve.new.self.items) (sym c.in_err-tell.ensures.kept)
    (words_kept c.args.self.now.near.items c.reach.new.near.items c.reserve.new.self.items
    (subst (λ (l : List Space). AreWordsOf c.args.self.now.near.items l) (sym c.reserve.ensures.items) c.requires.words) c.args.space c.reach.ensures.same)

pub returns-clause-words : goal.returns-clause-words
returns-clause-words c =
    subst (λ (l : List Space). AreWordsOf c.tell.new.near.items l)
    (ap (λ (l : List Space). l ++ c.args.space ∷ []) c.as_slice.ensures.value ∙ sym c.push_reserved.ensures.items) c.in_ok-tell.ensures.words
