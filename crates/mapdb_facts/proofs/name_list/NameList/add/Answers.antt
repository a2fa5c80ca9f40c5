use Rattle.std.proofs.Common.{◌≡◌, List, [], ◌∷◌, ◌++◌, cond, length, ap, arith, sym, ◌∙◌}
use Rattle.std.specs.Prelude.{Some}
use Rattle.mapdb_facts.specs.Names.{same_id}
use Rattle.mapdb_facts.specs.declared.names.RecordId.{RecordId}
use Rattle.mapdb_facts.specs.NamedValues.{place_of}
use Rattle.mapdb_facts.proofs.NameLemmas.NamedEntries.{place_added}
use Rattle.mapdb_facts.proofs.name_list.NameList.add.Goals as goal

pub invariant_of-self-2 : goal.invariant_of-self-2
invariant_of-self-2 c =
    let names : List RecordId = c.self.inside.names.items in
    let at : c.len.result ≡ length names = omega (arith, c.len.ensures, c.in_ok-reserve.ensures.len, c.self.inside.names.ok.0) in
    record {
      found = λ q.
          c.in_ok-put.ensures.ok q
          ∙ ap (λ o. cond (same_id c.args.id q) (Some c.len.result) o) (c.self.invariant.found q)
          ∙ ap (λ n. cond (same_id c.args.id q) (Some n) (place_of q names)) at
          ∙ sym (place_added names c.args.id q (ap (place_of c.args.id) c.self.view_is ∙ c.requires))
          ∙ ap (λ (l : List RecordId). place_of q l) (sym (c.push_reserved.ensures.items ∙ ap (λ (l : List RecordId). l ++ c.args.id ∷ []) c.in_ok-reserve.ensures.items));
      few = c.in_ok-put.ensures.few c.self.invariant.few;
    }
