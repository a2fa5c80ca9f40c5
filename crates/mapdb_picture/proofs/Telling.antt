-- Texts to which one piece after the other is added.
use Rattle.std.proofs.Common.{◌≡◌, ℕ, true, false, List, [], ◌∷◌, ◌++◌, length, refl, sym, ap, ◌∙◌, append_assoc, arith}
use Rattle.std.specs.Prelude.{codes, flat_map, nat_eq}
use Rattle.std.proofs.lemmas.Bool.{eqb-true}
use Rattle.mapdb_facts.specs.Facts.{records_of_facts, state_of_facts}
use Rattle.mapdb_facts.specs.Records.{records_of}
use Rattle.mapdb_facts.specs.State.{State, state_of}
use Rattle.mapdb_facts.specs.declared.holding.Facts.{Facts}
use Rattle.mapdb_facts.specs.declared.names.Space.{Space}
use Rattle.mapdb_facts.specs.declared.operations.Op.{Op}
use Rattle.mapdb_facts.specs.declared.operations.Record.{Record}
use Rattle.mapdb_facts.proofs.RecordLemmas.Listed.{records_of-facts}
use Rattle.mapdb_snapshot.specs.Cutting.{cut_names}
use Rattle.mapdb_snapshot.specs.Snapshot.{ended_of}
use Rattle.mapdb_picture.specs.Explanation.{block_of, explanation_of, explanation_text, or_nothing, root_block}
use Rattle.mapdb_picture.specs.Picture.{ended_line, graph_of, if_absent, picture_of, picture_text, record_lines, referred_names, root_line}

-- one piece more, and those that are left
pub told : {A : Type 0} (f : A → List ℕ) (old new all : List ℕ) (x : A) (xs left : List A) → new ≡ old ++ f x → left ≡ x ∷ xs
    → old ++ flat_map f left ≡ all → new ++ flat_map f xs ≡ all
told f old new all x xs left more is before =
    ap (λ (t : List ℕ). t ++ flat_map f xs) more ∙ append_assoc old (f x) (flat_map f xs)
    ∙ ap (λ ys. old ++ flat_map f ys) (sym is) ∙ before

-- whether a text is empty
pub told_nothing : (text : List ℕ) → nat_eq (length text) 0 ≡ true → or_nothing text ≡ codes "nothing\n"
told_nothing [] e = refl
told_nothing (c ∷ cs) e = let empty : length (c ∷ cs) ≡ 0 = eqb-true (length (c ∷ cs)) 0 e in absurd (omega arith)

pub told_something : (text : List ℕ) → nat_eq (length text) 0 ≡ false → or_nothing text ≡ text
told_something [] e = cc
told_something (c ∷ cs) e = refl

-- the state and the records of a copy are those of its operations
pub explanation_is : (facts : Facts) (ops : List Op) (space : Space) (page : ℕ) (first blocks text whole : List ℕ)
    → state_of_facts facts ≡ state_of ops → first ≡ root_block (state_of_facts facts) space page
    → blocks ≡ flat_map (block_of (state_of_facts facts) space page) (records_of_facts facts)
    → text ≡ first ++ blocks → whole ≡ or_nothing text → whole ≡ explanation_text ops space page
explanation_is facts ops space page first blocks text whole state is_first are_blocks is all =
    all ∙ ap or_nothing (is ∙ (λ i. is_first i ++ are_blocks i))
    ∙ ap (λ (rs : List Record). explanation_of (state_of_facts facts) rs space page) (records_of-facts facts ops state)
    ∙ ap (λ (S : State). explanation_of S (records_of ops) space page) state

pub picture_is : (facts : Facts) (ops given : List Op) (first records absent ended whole : List ℕ)
    → state_of_facts facts ≡ state_of ops → given ≡ ops → first ≡ root_line (state_of_facts facts)
    → records ≡ flat_map (record_lines (state_of_facts facts)) (records_of_facts facts)
    → absent ≡ flat_map (if_absent (state_of_facts facts)) (referred_names (records_of_facts facts) (cut_names given))
    → ended ≡ flat_map ended_line (ended_of given)
    → whole ≡ graph_of first records absent ended → whole ≡ picture_text ops
picture_is facts ops given first records absent ended whole state same is_first are_records are_absent are_ended all =
    all ∙ (λ i. graph_of (is_first i) (are_records i) (are_absent i) (are_ended i))
    ∙ ap (λ (xs : List Op). picture_of (state_of_facts facts) (records_of_facts facts) (cut_names xs) (ended_of xs)) same
    ∙ ap (λ (rs : List Record). picture_of (state_of_facts facts) rs (cut_names ops) (ended_of ops)) (records_of-facts facts ops state)
    ∙ ap (λ (S : State). picture_of S (records_of ops) (cut_names ops) (ended_of ops)) state
