-- What messages have stays what it is, and to take what is behind a mark comes to what taking all does.
use Rattle.std.proofs.Common.{◌≡◌, ℕ, ◌++◌, ◌∷◌, ◌<◌, ◌≤◌, ◌+◌, ◌-◌, All, List, [], ap, arith, drop, get_or, inl, inr, length, refl, slice_get, subst, suc, sym, take, true, zero, ◌∙◌, append-nil}
use Rattle.std.proofs.Math.ListN.{length-set}
use Rattle.std.specs.List.{filter}
use Rattle.std.specs.Prelude.{Result, Some, count_by, not, slice_set, ◌==◌, Err, Ok, OnOk, is_ok, max, nat_le}
use Rattle.std.proofs.lemmas.Bool.{and_from, and_parts, cases_Bool, cond-false, eqb-true, leb-false, leb-true, not-true}
use Rattle.std.proofs.lemmas.List.{drop_all, drop-append-le, length-append, length-drop, length-take-le, set-append_left, take-append-drop, take-append-le, take-take}
use Rattle.std.proofs.Math.Seq.{take-length}
use Rattle.std.proofs.lemmas.List.Elements.{All-head, All-tail, All-weaker, filter-append}
use Rattle.std.proofs.lemmas.List.Sums.{length-filter}
use Rattle.mapdb_facts.specs.Adding.{is_new}
use Rattle.mapdb_facts.specs.State.{IsSound, Rec, state_of}
use Rattle.mapdb_facts.proofs.States.Joins.{atom_right}
use Rattle.mapdb_facts.specs.WellFormed.{all_formed, is_formed}
use Rattle.mapdb_facts.specs.declared.operations.Op.{Op}
use Rattle.mapdb_replica.specs.Agreement.{knows_all}
use Rattle.mapdb_replica.specs.Replica.{Log, news}
use Rattle.mapdb_replica.specs.Taking.{Takes, first_bad, least_clash, take_outcome, too_many}
use Rattle.mapdb_replica.specs.declared.faults.TakeFault.{TakeFault}
use Rattle.mapdb_cluster.proofs.Steps.Slots.{one_there, set_here, set_other}
use Rattle.mapdb_replica.proofs.Copies.Bounding.{formed_good}
use Rattle.mapdb_replica.proofs.Calls.CallCases.{TakeCases, take_cases}
use Rattle.mapdb_replica.proofs.News.NewsAtoms.{news_give}
use Rattle.mapdb_replica.proofs.News.SoundTakes.{taken_parts, takes_are_sound}
use Rattle.mapdb_replica.proofs.News.UnheldClashes.{least_clash-unheld}
use Rattle.mapdb_replica.proofs.News.UnheldTurns.{news-unheld}
use Rattle.mapdb_replica.proofs.Copies.Agreeing.{covers_known}
use Rattle.mapdb_script.specs.Marks.{HoldsFirst, IsMark, mark_of_two}
use Rattle.mapdb_script.specs.Sendings.{IsSent, after_taking, TakesPart, TakesSent, known_among, ops_sent, messages_of, ops_between, sent_by}
use Rattle.mapdb_script.specs.declared.sendings.Sending.{Sending}
use Rattle.mapdb_script.proofs.MarkLemmas.{Grows, first_later, takes_grow, was_there}
use Rattle.mapdb_replica.proofs.Unmaps.CutCopies.{set_back, get_back, get_front}

-- nothing is left of what is held
none_left : (held ops : List Op) → knows_all held ops ≡ true → filter (is_new (state_of held)) ops ≡ []
none_left held [] known = refl
none_left held (op ∷ ops) known =
    let parts = and_parts (not (is_new (state_of held) op)) (knows_all held ops) known in
    cond-false (is_new (state_of held) op) (op ∷ filter (is_new (state_of held)) ops) (filter (is_new (state_of held)) ops) (not-true (is_new (state_of held) op) parts.0)
    ∙ none_left held ops parts.1

formed_behind : (k : ℕ) (ops : List Op) → all_formed ops ≡ true → all_formed (drop k ops) ≡ true
formed_behind zero ops formed = formed
formed_behind (suc k) [] formed = refl
formed_behind (suc k) (op ∷ ops) formed = formed_behind k ops (and_parts (is_formed op) (all_formed ops) formed).1

module _ (held ops : List Op) (mark : ℕ) (first : HoldsFirst held mark ops) where
  -- what is left of all is left of what is behind the mark
  left_behind : filter (is_new (state_of held)) ops ≡ filter (is_new (state_of held)) (drop mark ops)
  left_behind =
      ap (filter (is_new (state_of held))) (sym (take-append-drop mark ops))
      ∙ filter-append (is_new (state_of held)) (take mark ops) (drop mark ops)
      ∙ ap (λ (xs : List Op). xs ++ filter (is_new (state_of held)) (drop mark ops)) (none_left held (take mark ops) first.known)

  count_behind : count_by (is_new (state_of held)) ops ≡ count_by (is_new (state_of held)) (drop mark ops)
  count_behind = sym (length-filter (is_new (state_of held)) ops) ∙ ap (λ (xs : List Op). length xs) left_behind ∙ length-filter (is_new (state_of held)) (drop mark ops)

  pub outcome_behind : IsSound held → all_formed ops ≡ true → take_outcome held (drop mark ops) ≡ take_outcome held ops
  outcome_behind sound formed =
      let bad : first_bad 0 (drop mark ops) ≡ first_bad 0 ops = formed_good 0 (drop mark ops) (formed_behind mark ops formed) ∙ sym (formed_good 0 ops formed) in
      let clash : least_clash held (drop mark ops) ≡ least_clash held ops =
      sym (least_clash-unheld held (drop mark ops) sound) ∙ ap (least_clash held) (sym left_behind) ∙ least_clash-unheld held ops sound in
      let turns : news (state_of held) (drop mark ops) ≡ news (state_of held) ops =
      sym (news-unheld (state_of held) (drop mark ops)) ∙ ap (news (state_of held)) (sym left_behind) ∙ news-unheld (state_of held) ops in
      rw (bad, clash, turns, ← count_behind) refl

-- ---- parts of lists

known_front : (held ops : List Op) (k n : ℕ) → k ≤ n → knows_all held (take n ops) ≡ true → knows_all held (take k ops) ≡ true
known_front held ops zero n less known = refl
known_front held [] (suc k) n less known = refl
known_front held (op ∷ ops) (suc k) zero less known = absurd (omega (arith, less))
known_front held (op ∷ ops) (suc k) (suc n) less known =
    let parts = and_parts (not (is_new (state_of held) op)) (knows_all held (take n ops)) known in
    and_from (not (is_new (state_of held) op)) (knows_all held (take k ops)) parts.0 (known_front held ops k n (omega (arith, less)) parts.1)

known_inside : (held ops : List Op) (f k n : ℕ) → f + k ≤ n → knows_all held (take n ops) ≡ true → knows_all held (take k (drop f ops)) ≡ true
known_inside held ops zero k n less known = known_front held ops k n (omega (arith, less)) known
known_inside held [] (suc f) zero n less known = refl
known_inside held [] (suc f) (suc k) n less known = refl
known_inside held (op ∷ ops) (suc f) k zero less known = absurd (omega (arith, less))
known_inside held (op ∷ ops) (suc f) k (suc n) less known =
    known_inside held ops f k n (omega (arith, less)) (and_parts (not (is_new (state_of held) op)) (knows_all held (take n ops)) known).1

formed_front : (k : ℕ) (ops : List Op) → all_formed ops ≡ true → all_formed (take k ops) ≡ true
formed_front zero ops formed = refl
formed_front (suc k) [] formed = refl
formed_front (suc k) (op ∷ ops) formed =
    let parts = and_parts (is_formed op) (all_formed ops) formed in and_from (is_formed op) (all_formed (take k ops)) parts.0 (formed_front k ops parts.1)

pub formed_part : (first end : ℕ) (ops : List Op) → all_formed ops ≡ true → all_formed (ops_between first end ops) ≡ true
formed_part first end ops formed = formed_front (end - first) (drop first ops) (formed_behind first ops formed)

part_length : (first end : ℕ) (ops : List Op) → first ≤ end → end ≤ length ops → length (ops_between first end ops) ≡ end - first
part_length first end ops ordered within = length-take-le (end - first) (drop first ops) (omega (arith, length-drop first ops))

-- the part that is all of a list
pub part_all : (ops : List Op) → ops_between 0 (length ops) ops ≡ ops
part_all ops = let all : length ops - 0 ≡ length ops = omega arith in ap (λ (k : ℕ). take k ops) all ∙ take-length ops

-- what is held of a sender's list is held of a part of it
pub known_part : (held ops : List Op) (sending : Sending) (mark : ℕ) → sending.first ≤ sending.end → sending.end ≤ length ops → HoldsFirst held mark ops
    → HoldsFirst held (known_among sending mark) (ops_between sending.first sending.end ops)
known_part held ops sending mark ordered within first =
    let k = known_among sending mark in
    let few : k ≤ sending.end - sending.first = omega arith in
    record {
      within = rw (part_length sending.first sending.end ops ordered within) few;
      known = rw (take-take k (sending.end - sending.first) (drop sending.first ops) few) (known_of_part k (λ some. omega (arith, some)));
    }
  where
    known_of_part : (k : ℕ) → (0 < k → sending.first + k ≤ mark) → knows_all held (take k (drop sending.first ops)) ≡ true
    known_of_part zero some = refl
    known_of_part (suc k) some = known_inside held ops sending.first (suc k) mark (some (omega arith)) first.known

-- a copy holds each part of its own list
own_part : (held : List Op) (sending : Sending) → IsSound held → sending.first ≤ sending.end → sending.end ≤ length held
    → HoldsFirst held (sending.end - sending.first) (ops_between sending.first sending.end held)
own_part held sending sound ordered within = record {
  within = rw (part_length sending.first sending.end held ordered within) (omega arith);
  known = rw (take-take (sending.end - sending.first) (sending.end - sending.first) (drop sending.first held) (omega arith))
      (known_inside held held sending.first (sending.end - sending.first) (length held) (omega (arith, ordered, within)) (rw (take-length held) (covers_known held held sound (λ atom has. has))));
}

-- nothing of it is left
pub own_left : (held : List Op) (sending : Sending) → sending.first ≤ sending.end → sending.end ≤ length held
    → drop (sending.end - sending.first) (ops_between sending.first sending.end held) ≡ []
own_left held sending ordered within =
    drop_all (sending.end - sending.first) (ops_between sending.first sending.end held) (omega (arith, part_length sending.first sending.end held ordered within))

-- so taking it comes to taking nothing
pub own_held : (held : List Op) (sending : Sending) → IsSound held → all_formed held ≡ true → sending.first ≤ sending.end → sending.end ≤ length held
    → take_outcome held [] ≡ take_outcome held (ops_between sending.first sending.end held)
own_held held sending sound formed ordered within =
    ap (take_outcome held) (sym (own_left held sending ordered within))
    ∙ outcome_behind held (ops_between sending.first sending.end held) (sending.end - sending.first) (own_part held sending sound ordered within) sound
    (formed_part sending.first sending.end held formed)

-- ---- what is held once it was taken

news_sound : (held batch : List Op) → IsSound (held ++ batch) → IsSound (held ++ news (state_of held) batch)
news_sound held batch sound r s in_r in_s same = sound r s ((news_give held batch (Rec r)).0 in_r) ((news_give held batch (Rec s)).0 in_s) same

news_known : (held batch ops : List Op) → IsSound held → take_outcome held batch ≡ Ok ops → knows_all (held ++ ops) batch ≡ true
news_known held batch ops sound is =
    let fresh = (taken_parts (first_bad 0 batch) (least_clash held batch) (too_many held batch) (news (state_of held) batch) ops is).3 in
    subst (λ (xs : List Op). knows_all (held ++ xs) batch ≡ true) fresh
    (covers_known (held ++ news (state_of held) batch) batch (news_sound held batch (takes_are_sound held batch ops sound is))
    (λ atom has. (news_give held batch atom).1 (atom_right held batch atom has)))

-- a copy holds all of a batch that it took, or of which it took what comes to the same
pub held_after : (part batch : List Op) (taken : Result ℕ TakeFault) (old new : Log) → IsSound old.ops → Takes part (take_outcome old.ops batch) taken old new → OnOk taken (knows_all new.ops batch ≡ true)
held_after part batch taken old new sound takes = by_case (take_outcome old.ops batch) taken refl (take_cases part (take_outcome old.ops batch) taken old new takes)
  where
    by_case : (outcome : Result (List Op) TakeFault) (taken : Result ℕ TakeFault) → take_outcome old.ops batch ≡ outcome → TakeCases part outcome taken old new → OnOk taken (knows_all new.ops batch ≡ true)
    by_case (Ok ops) (Ok count) is cases = rw (cases.1) (news_known old.ops batch ops sound is)
    by_case (Err why) (Ok count) is cases = absurd cases
    by_case outcome (Err fault) is cases = tt

known_joined : (held ops : List Op) (f k n : ℕ) → n ≤ f + k → knows_all held (take f ops) ≡ true → knows_all held (take k (drop f ops)) ≡ true → knows_all held (take n ops) ≡ true
known_joined held ops zero k n less one two = known_front held ops n k (omega (arith, less)) two
known_joined held ops (suc f) k zero less one two = refl
known_joined held [] (suc f) k (suc n) less one two = refl
known_joined held (op ∷ ops) (suc f) k (suc n) less one two =
    let parts = and_parts (not (is_new (state_of held) op)) (knows_all held (take f ops)) one in
    and_from (not (is_new (state_of held) op)) (knows_all held (take n ops)) parts.0 (known_joined held ops f k n (omega (arith, less)) parts.1 two)

-- so many first operations of a list are held, and a part of it that begins among them
more_known : (held ops : List Op) (mark : ℕ) (sending : Sending) → sending.first ≤ sending.end → sending.end ≤ length ops → sending.first ≤ mark
    → HoldsFirst held mark ops → knows_all held (ops_between sending.first sending.end ops) ≡ true → HoldsFirst held (max mark sending.end) ops
more_known held ops mark sending ordered within begins first part = elim (cases_Bool (nat_le mark sending.end)) [
  | inl early ↦
      let less = leb-true mark sending.end early in
      let most : max mark sending.end ≡ sending.end = omega (arith, less) in
      rw most (record {
        within = within;
        known = known_joined held ops sending.first (sending.end - sending.first) sending.end (omega (arith, ordered)) (known_front held ops sending.first mark begins first.known) part;
      })
  | inr late ↦
      let less = leb-false mark sending.end late in
      let most : max mark sending.end ≡ mark = omega (arith, less) in
      rw most first
]

held_first : (held ops : List Op) (mark : ℕ) (sending : Sending) (taken : Result ℕ TakeFault) → sending.first ≤ sending.end → sending.end ≤ length ops
    → HoldsFirst held mark ops → OnOk taken (knows_all held (ops_between sending.first sending.end ops) ≡ true) → HoldsFirst held (after_taking mark sending (is_ok taken)) ops
held_first held ops mark sending (Err fault) ordered within first part = first
held_first held ops mark sending (Ok count) ordered within first part = elim (cases_Bool (nat_le sending.first mark)) [
  | inl begins ↦ rw begins (more_known held ops mark sending ordered within (leb-true sending.first mark begins) first part)
  | inr not_yet ↦ rw not_yet first
]

-- ---- messages stay

part_stays : (first end : ℕ) (ops more : List Op) → first ≤ end → end ≤ length ops → ops_between first end (ops ++ more) ≡ ops_between first end ops
part_stays first end ops more ordered within =
    ap (take (end - first)) (drop-append-le first ops more (omega arith))
    ∙ take-append-le (end - first) (drop first ops) more (omega (arith, length-drop first ops))

module _ (copies : List Log) (at : ℕ) (old new : Log) (there : slice_get copies at ≡ Some old) (grows : Grows old new) where
  one_stays : (sending : Sending) → IsSent copies sending → (IsSent (slice_set copies at new) sending) × (ops_sent (slice_set copies at new) sending ≡ ops_sent copies sending)
  one_stays sending sent = elim (cases_Bool (at == sending.sender)) [
    | inl same ↦
        let is : at ≡ sending.sender = eqb-true at sending.sender same in
        let was : slice_get copies sending.sender ≡ Some old = ap (slice_get copies) (sym is) ∙ there in
        let now : slice_get (slice_set copies at new) sending.sender ≡ Some new = ap (slice_get (slice_set copies at new)) (sym is) ∙ set_here copies at old new there in
        let long : sending.end ≤ length old.ops = sent.within old was in
        let longer : sending.end ≤ length new.ops = rw grows.is (omega (arith, long, length-append old.ops grows.more)) in (
          record {
            there = omega (arith, sent.there, length-set copies at new);
            ordered = sent.ordered;
            within = λ log found. subst (λ (x : Log). sending.end ≤ length x.ops) (one_there (slice_set copies at new) sending.sender new log now found) longer;
          },
          ap (λ o. sent_by o sending) now
              ∙ ap (ops_between sending.first sending.end) grows.is
              ∙ part_stays sending.first sending.end old.ops grows.more sent.ordered long
              ∙ ap (λ o. sent_by o sending) (sym was),
        )
    | inr apart ↦
        let same : slice_get (slice_set copies at new) sending.sender ≡ slice_get copies sending.sender = set_other copies at sending.sender new apart in (
          record { there = omega (arith, sent.there, length-set copies at new); ordered = sent.ordered; within = λ log found. sent.within log (sym same ∙ found) },
          ap (λ o. sent_by o sending) same,
        )
  ]

  -- what was sent stays sent, and has the same operations
  pub sent_stay : (sendings : List Sending) → All (IsSent copies) sendings → All (IsSent (slice_set copies at new)) sendings
  sent_stay sendings all = All-weaker (IsSent copies) (IsSent (slice_set copies at new)) (λ sending sent. (one_stays sending sent).0) sendings all

  pub messages_stay : (sendings : List Sending) → All (IsSent copies) sendings → messages_of (slice_set copies at new) sendings ≡ messages_of copies sendings
  messages_stay [] all = refl
  messages_stay (sending ∷ sendings) all =
      ap (λ (ops : List Op). ops ∷ messages_of (slice_set copies at new) sendings) (one_stays sending (All-head (IsSent copies) sending sendings all)).1
      ∙ ap (λ (rest : List (List Op)). ops_sent copies sending ∷ rest) (messages_stay sendings (All-tail (IsSent copies) sending sendings all))

-- a message among them
pub message_at : (copies : List Log) (sendings : List Sending) (i : ℕ) (sending : Sending) → slice_get sendings i ≡ Some sending → slice_get (messages_of copies sendings) i ≡ Some (ops_sent copies sending)
message_at copies [] i sending there = cc
message_at copies (first ∷ sendings) zero sending there = let same : first ≡ sending = cc in ap (λ (s : Sending). Some (ops_sent copies s)) same
message_at copies (first ∷ sendings) (suc i) sending there = message_at copies sendings i sending there

pub message_is : (copies : List Log) (sending : Sending) (log : Log) → slice_get copies sending.sender ≡ Some log → ops_sent copies sending ≡ ops_between sending.first sending.end log.ops
message_is copies sending log there = ap (λ o. sent_by o sending) there

-- ---- one copy of several

-- one copy took a part of its own list
pub behind_own : (copies : List Log) (into : ℕ) (sending : Sending) (copy after : Log) (taken : Result ℕ TakeFault) → sending.sender ≡ into → slice_get copies into ≡ Some copy
    → TakesPart (sending.end - sending.first) (ops_between sending.first sending.end copy.ops) taken copy after → TakesSent copies into sending taken (slice_set copies into after)
behind_own copies into sending copy after taken own there takes = record {
  one = copy;
  other = copy;
  after = after;
  there = there;
  other_there = ap (slice_get copies) own ∙ there;
  known = sending.end - sending.first;
  takes = takes;
  kept = refl;
}

-- one copy took from the first copy behind the cut, or that one from one in front of it
module _ (copies front back : List Log) (into known : ℕ) (sending : Sending) (one other : Log) (cut : copies ≡ front ++ back) (some : 0 < length back) where
  pub there_back : into < length front → sending.sender ≡ length front → one ≡ get_or front into one → other ≡ get_or back 0 other → (slice_get copies into ≡ Some one) × (slice_get copies sending.sender ≡ Some other)
  there_back within e one_is other_is = (rw cut (get_front front back into one within one_is), rw cut (get_back front back sending.sender other e some other_is))

  pub behind_back : (after : Log) (taken : Result ℕ TakeFault) → into < length front → sending.sender ≡ length front → one ≡ get_or front into one → other ≡ get_or back 0 other
      → TakesPart known (ops_between sending.first sending.end other.ops) taken one after → TakesSent copies into sending taken (slice_set front into after ++ back)
  behind_back after taken within e one_is other_is takes = record {
    one = one;
    other = other;
    after = after;
    there = rw cut (get_front front back into one within one_is);
    other_there = rw cut (get_back front back sending.sender other e some other_is);
    known = known;
    takes = takes;
    kept = rw cut (sym (set-append_left front back into after within));
  }

  pub there_front : into ≡ length front → sending.sender < length front → one ≡ get_or back 0 one → other ≡ get_or front sending.sender other → (slice_get copies into ≡ Some one) × (slice_get copies sending.sender ≡ Some other)
  there_front e within one_is other_is = (rw cut (get_back front back into one e some one_is), rw cut (get_front front back sending.sender other within other_is))

  pub behind_front : (after : Log) (taken : Result ℕ TakeFault) → into ≡ length front → sending.sender < length front → one ≡ get_or back 0 one → other ≡ get_or front sending.sender other
      → TakesPart known (ops_between sending.first sending.end other.ops) taken one after → TakesSent copies into sending taken (front ++ slice_set back 0 after)
  behind_front after taken e within one_is other_is takes = record {
    one = one;
    other = other;
    after = after;
    there = rw cut (get_back front back into one e some one_is);
    other_there = rw cut (get_front front back sending.sender other within other_is);
    known = known;
    takes = takes;
    kept = rw cut (set_back front back into after e some);
  }

-- what is noted of a copy and the one whose sending it took
pub mark_after : (copies new : List Log) (into mark : ℕ) (sending : Sending) (taken : Result ℕ TakeFault) → IsSent copies sending → IsMark copies (mark_of_two into sending.sender mark)
    → TakesSent copies into sending taken new → IsMark new (mark_of_two into sending.sender (after_taking mark sending (is_ok taken)))
mark_after copies new into mark sending taken sent so takes = subst (λ (logs : List Log). IsMark logs (mark_of_two into sending.sender known)) (sym takes.kept) now
  where
    known : ℕ
    known = after_taking mark sending (is_ok taken)

    grows : Grows takes.one takes.after
    grows = takes_grow _ _ taken takes.one takes.after takes.takes.takes

    held : HoldsFirst takes.after.ops known takes.other.ops
    held =
        let before = so takes.one takes.other takes.there takes.other_there in
        let long : sending.end ≤ length takes.other.ops = sent.within takes.other takes.other_there in
        held_first takes.after.ops takes.other.ops mark sending taken sent.ordered long
        (subst (λ (ops : List Op). HoldsFirst ops mark takes.other.ops) (sym grows.is) (subst (λ (ops : List Op). HoldsFirst (takes.one.ops ++ grows.more) mark ops) (append-nil takes.other.ops)
        (first_later takes.one.ops grows.more takes.other.ops [] mark before)))
        takes.takes.held

    now : IsMark (slice_set copies into takes.after) (mark_of_two into sending.sender known)
    now = λ a b a_there b_there.
        let is_after : takes.after ≡ a = one_there (slice_set copies into takes.after) into takes.after a (set_here copies into takes.one takes.after takes.there) a_there in
        let was = was_there copies into takes.one takes.after takes.there grows sending.sender b b_there in
        let is_other : was.before ≡ takes.other = one_there copies sending.sender was.before takes.other was.there takes.other_there in
        let longer : b.ops ≡ takes.other.ops ++ was.grows.more = was.grows.is ∙ ap (λ (log : Log). log.ops ++ was.grows.more) is_other in
        subst (λ (log : Log). HoldsFirst log.ops known b.ops) is_after (rw longer (subst (λ (ops : List Op). HoldsFirst ops known (takes.other.ops ++ was.grows.more)) (append-nil takes.after.ops)
        (first_later takes.after.ops [] takes.other.ops was.grows.more known held)))
