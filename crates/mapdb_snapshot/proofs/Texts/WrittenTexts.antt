-- What is written is the text of the operations.
use Rattle.std.proofs.Common.{◌≡◌, ap, ◌∙◌, List, [], ◌∷◌, ◌++◌, append_assoc}
use Rattle.std.specs.Prelude.{ℕ, codes, decimal}
use Rattle.mapdb_facts.specs.Facts.{records_of_facts, state_of_facts}
use Rattle.mapdb_facts.specs.State.{State, state_of}
use Rattle.mapdb_facts.specs.declared.holding.Facts.{Facts}
use Rattle.mapdb_facts.specs.declared.operations.Op.{Op}
use Rattle.mapdb_facts.specs.declared.operations.Record.{Record}
use Rattle.mapdb_facts.proofs.RecordLemmas.Listed.{records_of-facts}
use Rattle.mapdb_snapshot.specs.Cutting.{cut_names, cuts_of, cuts_of_names}
use Rattle.mapdb_snapshot.specs.Snapshot.{ended_of, snapshot_data, snapshot_object, whole_number}
use Rattle.mapdb_snapshot.specs.declared.faults.TheConstants.{SNAPSHOT_VERSION}
use Rattle.json.specs.Print.{escape_byte}
use Rattle.serde_json.specs.Data.{Data, member, no_members, object}
use Rattle.serde_json.specs.Written.{compact_text}

-- the object of the facts is that of the operations
pub object_is : (facts : Facts) (ops given : List Op) → given ≡ ops → state_of_facts facts ≡ state_of ops
    → snapshot_object (cuts_of_names (state_of_facts facts) (cut_names given)) (ended_of given) (records_of_facts facts) ≡ snapshot_data ops
object_is facts ops given same state =
    ap (λ (xs : List Op). snapshot_object (cuts_of_names (state_of_facts facts) (cut_names xs)) (ended_of xs) (records_of_facts facts)) same
    ∙ ap (λ (S : State). snapshot_object (cuts_of_names S (cut_names ops)) (ended_of ops) (records_of_facts facts)) state
    ∙ ap (λ (records : List Record). snapshot_object (cuts_of ops) (ended_of ops) records) (records_of-facts facts ops state)

-- the object of three lists
abbrev pub of_lists : Data → Data → Data → Data
of_lists cuts ended records =
    object (member (codes "cuts") cuts (member (codes "ended") ended
    (member (codes "records") records (member (codes "version") (whole_number SNAPSHOT_VERSION) no_members))))

-- its text, piece by piece
pub of_pieces : (cuts ended records : Data)
    → codes "{\"cuts\":" ++ compact_text cuts ++ codes ",\"ended\":" ++ compact_text ended ++ codes ",\"records\":" ++ compact_text records
    ++ (codes ",\"version\":" ++ (decimal SNAPSHOT_VERSION ++ codes "}"))
    ≡ compact_text (of_lists cuts ended records)
unfolding escape_byte
of_pieces cuts ended records = simp append_assoc

-- pieces that were written one behind the other
pub behind : (a x b y c z d t₁ t₂ t₃ t₄ t₅ t₆ t₇ : List ℕ) → t₁ ≡ a → t₂ ≡ t₁ ++ x → t₃ ≡ t₂ ++ b → t₄ ≡ t₃ ++ y → t₅ ≡ t₄ ++ c → t₆ ≡ t₅ ++ z
    → t₇ ≡ t₆ ++ d → t₇ ≡ a ++ x ++ b ++ y ++ c ++ z ++ d
behind a x b y c z d t₁ t₂ t₃ t₄ t₅ t₆ t₇ e₁ e₂ e₃ e₄ e₅ e₆ e₇ = cc

-- its text, piece by piece, each before all that stand behind it
pub of_scanned_pieces : (cuts ended records : Data)
    → codes "{\"cuts\":" ++ (compact_text cuts ++ (codes ",\"ended\":" ++ (compact_text ended ++ (codes ",\"records\":" ++ (compact_text records
    ++ (codes ",\"version\":" ++ (decimal SNAPSHOT_VERSION ++ (125 ∷ []))))))))
    ≡ compact_text (of_lists cuts ended records)
unfolding escape_byte
of_scanned_pieces cuts ended records = simp append_assoc

-- pieces that were scanned one behind the other
pub before : (t a x b y c z d e t₁ t₂ t₃ t₄ t₅ t₆ t₇ : List ℕ) → t ≡ a ++ t₁ → t₁ ≡ x ++ t₂ → t₂ ≡ b ++ t₃ → t₃ ≡ y ++ t₄ → t₄ ≡ c ++ t₅ → t₅ ≡ z ++ t₆
    → t₆ ≡ d ++ t₇ → t₇ ≡ e → t ≡ a ++ (x ++ (b ++ (y ++ (c ++ (z ++ (d ++ e))))))
before t a x b y c z d e t₁ t₂ t₃ t₄ t₅ t₆ t₇ e₀ e₁ e₂ e₃ e₄ e₅ e₆ e₇ = cc
