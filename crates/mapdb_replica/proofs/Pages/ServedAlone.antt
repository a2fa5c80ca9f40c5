-- A page is served from one frame alone, with the same rights of it.
use Rattle.std.proofs.Common.{◌≡◌, ℕ, true, false, List, Some, refl, sym, ap, subst, ◌∙◌, arith}
use Rattle.std.specs.Prelude.{None, Option}
use Rattle.std.proofs.lemmas.Bool.{true≢false}
use Rattle.std.proofs.lemmas.Bool.Decides.{nat_tests}
use Rattle.mapdb_fpage.specs.RightSets.{includes}
use Rattle.mapdb_fpage.specs.declared.right_sets.Right.{Right}
use Rattle.mapdb_fpage.specs.declared.right_sets.Right.TheVariants.{Execute, Read, Write}
use Rattle.mapdb_fpage.specs.declared.right_sets.Rights.{Rights}
use Rattle.mapdb_facts.specs.Names.{is_before}
use Rattle.mapdb_facts.specs.State.{State, state_of}
use Rattle.mapdb_facts.specs.WellFormed.{all_formed}
use Rattle.mapdb_facts.specs.declared.names.RecordId.{RecordId}
use Rattle.mapdb_facts.specs.declared.names.Space.{Space}
use Rattle.mapdb_facts.specs.declared.operations.Op.{Op}
use Rattle.mapdb_rights.specs.Frame.{frame_at}
use Rattle.mapdb_rights.specs.PageRights.{HasPair}
use Rattle.mapdb_rights.specs.Served.{IsServed}
use Rattle.mapdb_replica.specs.Pairs.{Pair}
use Rattle.mapdb_replica.specs.Served.{served}
use Rattle.mapdb_replica.proofs.Pages.ServedLaws.{page_is_served}
use Rattle.mapdb_rights.proofs.Rights.OneFrameRelation.{some_number}
use Rattle.mapdb_fpage.proofs.Booleans.{same_test}

-- two names, neither of which comes before the other, are one
neither_before : (a b : RecordId) → is_before a b ≡ false → is_before b a ≡ false → a ≡ b
neither_before a b h k = λ i. record { number = number i; processor = processor i }
  where
    number : a.number ≡ b.number
    number = grind (arith, nat_tests)

    processor : a.processor ≡ b.processor
    processor = grind (arith, nat_tests)

pub same_sets : (a b : Rights) → ((right : Right) → includes a right ≡ true → includes b right ≡ true)
    → ((right : Right) → includes b right ≡ true → includes a right ≡ true) → a ≡ b
same_sets a b to from = λ i. record {
  read = same_test a.read b.read (to Read) (from Read) i;
  write = same_test a.write b.write (to Write) (from Write) i;
  execute = same_test a.execute b.execute (to Execute) (from Execute) i;
}

module _ (S : State) (space : Space) (page : ℕ) where
  one_served : (a b : Option Pair) → IsServed S space page a → IsServed S space page b → a ≡ b
  one_served None None h k = refl
  one_served None (Some b) h k = absurd (true≢false (sym (h k.0 k.1.into) ∙ k.1.has_some))
  one_served (Some a) None h k = absurd (true≢false (sym (k h.0 h.1.into) ∙ h.1.has_some))
  one_served (Some a) (Some b) h k =
      let name : h.0 ≡ k.0 = neither_before h.0 k.0 (k.1.least h.0 h.1.into h.1.has_some) (h.1.least k.0 k.1.into k.1.has_some) in
      let frame : a.0 ≡ b.0 = some_number a.0 b.0 (sym h.2 ∙ ap (λ (id : RecordId). frame_at S id page) name ∙ k.2) in
      let rights : a.1 ≡ b.1 = same_sets a.1 b.1
      (λ right has. (k.3 right).1 (subst (λ (f : ℕ). HasPair S space page f right) frame ((h.3 right).0 has)))
      (λ right has. (h.3 right).1 (subst (λ (f : ℕ). HasPair S space page f right) (sym frame) ((k.3 right).0 has))) in
      λ i. Some (frame i, rights i)

-- what the index tells is what the page is served from
pub served_is : (ops : List Op) (space : Space) (page : ℕ) → all_formed ops ≡ true → (found : Option Pair) → IsServed (state_of ops) space page found → found ≡ served ops space page
served_is ops space page all found h = one_served (state_of ops) space page found (served ops space page) h (page_is_served ops space page all)
