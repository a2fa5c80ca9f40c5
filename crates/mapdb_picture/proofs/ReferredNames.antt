-- Names that are put into a set, one after the other, are those of a list in ascending order, each once.
use Rattle.std.proofs.Common.{◌≡◌, true, false, refl, sym, ap, subst, ◌∙◌, List, [], ◌∷◌, ◌++◌}
use Rattle.std.specs.Prelude.{Bool, map}
use Rattle.std.proofs.lemmas.Bool.{cond-true}
use Rattle.std.proofs.lemmas.Cmp.{tied_itself}
use Rattle.std.specs.BTreeSet.{insert_key}
use Rattle.std.specs.Cmp.{IsTotalOrder}
use Rattle.std.specs.Ordering.{is_eq, match_ordering, ordering_reverse}
use Rattle.std.specs.declared.cmp.Ordering.{Ordering}
use Rattle.std.specs.declared.cmp.Ordering.TheVariants.{Equal, Greater, Less}
use Rattle.mapdb_fpage.specs.RightSets.{is_empty}
use Rattle.mapdb_facts.specs.Kept.{id_cmp}
use Rattle.mapdb_facts.specs.declared.names.RecordId.{RecordId}
use Rattle.mapdb_facts.specs.declared.operations.Op.{Op}
use Rattle.mapdb_facts.specs.declared.operations.Op.TheVariants.{Born, Closed, Cut}
use Rattle.mapdb_facts.specs.declared.operations.Record.{Record}
use Rattle.mapdb_facts.specs.declared.operations.Revocation.{Revocation}
use Rattle.mapdb_facts.proofs.Lists.Comparing.{exact_ids}
use Rattle.mapdb_facts.proofs.NameLemmas.NamesInOrder.{id_total}
use Rattle.mapdb_snapshot.specs.Cutting.{cut_names}
use Rattle.mapdb_snapshot.proofs.Names.Inserting.{name_added}
use Rattle.mapdb_picture.specs.Picture.{referred_names, sorted_names}

module _ {K : Type 0} {cmp : K → K → Ordering} (order : IsTotalOrder cmp) where
  -- a key that is put before a list stands where the order says
  put_at : (k x : K) (xs : List K) (o : Ordering) → cmp k x ≡ o
      → insert_key cmp (x ∷ xs) k ≡ match_ordering o (k ∷ x ∷ xs) (x ∷ xs) (x ∷ insert_key cmp xs k)
  put_at k x xs o e = ap (λ (r : Ordering). match_ordering r (k ∷ x ∷ xs) (x ∷ xs) (x ∷ insert_key cmp xs k)) e

  back : (p q : K) (o : Ordering) → cmp p q ≡ o → cmp q p ≡ ordering_reverse o
  back p q o e = order.antisymm q p ∙ ap ordering_reverse e

  -- before what stands at the head, or is put there
  put_before : (p q x : K) (xs : List K) (o : Ordering) → cmp q x ≡ o → cmp p q ≡ Less → cmp p x ≡ Less
      → insert_key cmp (match_ordering o (q ∷ x ∷ xs) (x ∷ xs) (x ∷ insert_key cmp xs q)) p
      ≡ p ∷ match_ordering o (q ∷ x ∷ xs) (x ∷ xs) (x ∷ insert_key cmp xs q)
  put_before p q x xs Less e low lower = put_at p q (x ∷ xs) Less low
  put_before p q x xs Equal e low lower = put_at p x xs Less lower
  put_before p q x xs Greater e low lower = put_at p x (insert_key cmp xs q) Less lower

  abbrev Swaps : K → K → List K → Type 0
  Swaps p q xs = insert_key cmp (insert_key cmp xs p) q ≡ insert_key cmp (insert_key cmp xs q) p

  swap_at : (p q x : K) (xs : List K) (o : Ordering) → cmp p x ≡ o → cmp p q ≡ Less → Swaps p q xs → Swaps p q (x ∷ xs)
  swap_at p q x xs Less e low again =
      ap (λ (ks : List K). insert_key cmp ks q) (put_at p x xs Less e)
      ∙ put_at q p (x ∷ xs) Greater (back p q Less low)
      ∙ sym (put_before p q x xs (cmp q x) refl low e)
  swap_at p q x xs Equal e low again =
      let above : cmp q x ≡ Greater = back x q Less (sym (order.congr p x q e) ∙ low) in
      ap (λ (ks : List K). insert_key cmp ks q) (put_at p x xs Equal e)
      ∙ put_at q x xs Greater above
      ∙ sym (ap (λ (ks : List K). insert_key cmp ks p) (put_at q x xs Greater above) ∙ put_at p x (insert_key cmp xs q) Equal e)
  swap_at p q x xs Greater e low again =
      let above : cmp q x ≡ Greater = back x q Less (order.trans x p q (back p x Greater e) low) in
      ap (λ (ks : List K). insert_key cmp ks q) (put_at p x xs Greater e)
      ∙ put_at q x (insert_key cmp xs p) Greater above
      ∙ ap (λ (ks : List K). x ∷ ks) again
      ∙ sym (ap (λ (ks : List K). insert_key cmp ks p) (put_at q x xs Greater above) ∙ put_at p x (insert_key cmp xs q) Greater e)

  lesser_first : (p q : K) (xs : List K) → cmp p q ≡ Less → Swaps p q xs
  lesser_first p q [] low = put_at q p [] Greater (back p q Less low) ∙ sym (put_at p q [] Less low)
  lesser_first p q (x ∷ xs) low = swap_at p q x xs (cmp p x) refl low (lesser_first p q xs low)

  -- of two keys either may be put first
  put_either_way : ((x y : K) → cmp x y ≡ Equal → x ≡ y) → (p q : K) (xs : List K) → Swaps p q xs
  put_either_way exact p q xs = by (cmp p q) refl
    where
      by : (o : Ordering) → cmp p q ≡ o → Swaps p q xs
      by Less e = lesser_first p q xs e
      by Equal e = subst (λ (k : K). Swaps p k xs) (exact p q e) refl
      by Greater e = sym (lesser_first q p xs (back p q Greater e))

  -- a key that is there is not put again
  twice_at : (k x : K) (xs : List K) (o : Ordering) → cmp k x ≡ o
      → insert_key cmp (insert_key cmp xs k) k ≡ insert_key cmp xs k
      → insert_key cmp (match_ordering o (k ∷ x ∷ xs) (x ∷ xs) (x ∷ insert_key cmp xs k)) k
      ≡ match_ordering o (k ∷ x ∷ xs) (x ∷ xs) (x ∷ insert_key cmp xs k)
  twice_at k x xs Less e again = put_at k k (x ∷ xs) Equal (tied_itself order k)
  twice_at k x xs Equal e again = put_at k x xs Equal e
  twice_at k x xs Greater e again =
      put_at k x (insert_key cmp xs k) Greater e ∙ ap (λ (ks : List K). x ∷ ks) again

  put_twice : (k : K) (xs : List K) → insert_key cmp (insert_key cmp xs k) k ≡ insert_key cmp xs k
  put_twice k [] = put_at k k [] Equal (tied_itself order k)
  put_twice k (x ∷ xs) = twice_at k x xs (cmp k x) refl (put_twice k xs)

same_ids : (a b : RecordId) → id_cmp a b ≡ Equal → a ≡ b
same_ids a b e = exact_ids a b (ap is_eq e)

abbrev put : List RecordId → RecordId → List RecordId
put = insert_key id_cmp

either_way : (a b : RecordId) (ids : List RecordId) → put (put ids a) b ≡ put (put ids b) a
either_way = put_either_way id_total same_ids

-- a name that is put into a list stands in its order as one that is put into that
sorted_at : (id x : RecordId) (xs : List RecordId) (o : Ordering) → id_cmp id x ≡ o → sorted_names (put xs id) ≡ put (sorted_names xs) id
    → sorted_names (match_ordering o (id ∷ x ∷ xs) (x ∷ xs) (x ∷ put xs id)) ≡ put (put (sorted_names xs) x) id
sorted_at id x xs Less e again = refl
sorted_at id x xs Equal e again =
    sym (put_twice id_total x (sorted_names xs)) ∙ ap (put (put (sorted_names xs) x)) (sym (same_ids id x e))
sorted_at id x xs Greater e again = ap (λ (ids : List RecordId). put ids x) again ∙ either_way id x (sorted_names xs)

sorted_put : (id : RecordId) (xs : List RecordId) → sorted_names (put xs id) ≡ put (sorted_names xs) id
sorted_put id [] = refl
sorted_put id (x ∷ xs) = sorted_at id x xs (id_cmp id x) refl (sorted_put id xs)

-- so it is behind others
put_behind : (id : RecordId) (xs ids : List RecordId) → sorted_names (xs ++ put ids id) ≡ put (sorted_names (xs ++ ids)) id
put_behind id [] ids = sorted_put id ids
put_behind id (x ∷ xs) ids =
    ap (λ (names : List RecordId). put names x) (put_behind id xs ids) ∙ either_way id x (sorted_names (xs ++ ids))

-- the names of which rights are revoked are in order
one_more : (ops : List Op) (cut : Revocation) → is_empty cut.rights ≡ false → put (cut_names ops) cut.target ≡ cut_names (Cut cut ∷ ops)
one_more ops cut some = name_added (Cut cut) cut (cut_names ops) (put (cut_names ops) cut.target) refl some refl ops refl

cut_sorted : (b : Bool) (cut : Revocation) (ops : List Op) → is_empty cut.rights ≡ b → sorted_names (cut_names ops) ≡ cut_names ops
    → sorted_names (cut_names (Cut cut ∷ ops)) ≡ cut_names (Cut cut ∷ ops)
cut_sorted true cut ops none again =
    let same : cut_names (Cut cut ∷ ops) ≡ cut_names ops = cond-true (is_empty cut.rights) _ _ none in
    ap sorted_names same ∙ again ∙ sym same
cut_sorted false cut ops some again =
    ap sorted_names (sym (one_more ops cut some)) ∙ sorted_put cut.target (cut_names ops)
    ∙ ap (λ (ids : List RecordId). put ids cut.target) again ∙ one_more ops cut some

sorted_cuts : (ops : List Op) → sorted_names (cut_names ops) ≡ cut_names ops
sorted_cuts [] = refl
sorted_cuts (Born r ∷ ops) = sorted_cuts ops
sorted_cuts (Cut cut ∷ ops) = cut_sorted (is_empty cut.rights) cut ops refl (sorted_cuts ops)
sorted_cuts (Closed space ∷ ops) = sorted_cuts ops

-- the names of the parents of the records that are left come to the names so far, which are in order
pub record Gathered (records left : List Record) (names so_far : List RecordId) : Type 0 where
  pub all : referred_names left so_far ≡ referred_names records names
  pub sorted : sorted_names so_far ≡ so_far

pub gathered-first : (records left : List Record) (ops : List Op) (so_far : List RecordId) → left ≡ records → so_far ≡ cut_names ops
    → Gathered records left (cut_names ops) so_far
gathered-first records left ops so_far is names = record {
  all = (λ i. referred_names (is i) (names i));
  sorted = ap sorted_names names ∙ sorted_cuts ops ∙ sym names;
}

pub gathered-next : (records left rest : List Record) (r : Record) (names old new : List RecordId) → left ≡ r ∷ rest
    → new ≡ put old r.parent → Gathered records left names old → Gathered records rest names new
gathered-next records left rest r names old new is more before = record {
  all = ap (referred_names rest) more ∙ put_behind r.parent (map (λ (s : Record). s.parent) rest) old
      ∙ ap (λ (rs : List Record). referred_names rs old) (sym is) ∙ before.all;
  sorted = ap sorted_names more ∙ sorted_put r.parent old ∙ ap (λ (ids : List RecordId). put ids r.parent) before.sorted ∙ sym more;
}

pub gathered-last : (records left : List Record) (names so_far : List RecordId) → left ≡ [] → Gathered records left names so_far
    → so_far ≡ referred_names records names
gathered-last records left names so_far is before =
    sym before.sorted ∙ ap (λ (rs : List Record). referred_names rs so_far) (sym is) ∙ before.all
