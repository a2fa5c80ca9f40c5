-- The places that a line names are places.
use Rattle.std.proofs.Common.{ℕ, Bool, true, false, Err, Ok, Result, Some, List, [], ◌∷◌}
use Rattle.std.specs.Prelude.{IfOk, IfSome, None, Option, if◌then◌else◌}
use Rattle.mapdb_lines.specs.Grammar.{both_at, delivery_at, ending_at, is_comment, keyword_of, line_at, loading_at, map_at, page_query_at, processors_at, said_at, said_by, saving_at, sending_at, tabling_at, tree_query_at, unmapping_at, versioning_at, words_map_at}
use Rattle.mapdb_lines.specs.Lines.{without_return}
use Rattle.mapdb_lines.specs.Spellings.{◌>>=◌, address_at, base_at, fpage_at, item_at, mark_at, mode_at, or_fault, processor_at, send_at, space_at, space_number_at, window_at}
use Rattle.mapdb_lines.specs.Words.{behind_words, four_of, one_of, six_of, three_of, two_of, words_of}
use Rattle.mapdb_lines.specs.declared.fault.LineFault.{LineFault}
use Rattle.mapdb_lines.specs.declared.fault.LineFault.TheVariants as fault
use Rattle.mapdb_lines.specs.declared.grammar.Keyword.{Keyword}
use Rattle.mapdb_lines.specs.declared.grammar.Keyword.TheVariants as keyword
use Rattle.mapdb_lines.specs.declared.lines.Line.{Line}
use Rattle.mapdb_lines.specs.declared.lines.Line.TheVariants as line
use Rattle.mapdb_lines.proofs.SpelledPlaces.{Gives, IsPage, spelled_item, spelled_page, spelled_send, spelled_window, step, step_with}

-- the places of the line's command are places
abbrev pub NamesPlaces : Line → Type 0
NamesPlaces (line.Map at sender item receiver window) = IsPage item.page × IsPage window
NamesPlaces (line.Unmap at space page rights flush) = IsPage page
NamesPlaces said = Unit {0}

map_names : (words : List (List ℕ)) → Gives (map_at words) NamesPlaces
unfolding map_at
map_names words =
    step (or_fault (six_of words) fault.Words) _ NamesPlaces (λ word.
    step (processor_at word.0) _ NamesPlaces (λ processor.
    step (space_at word.1) _ NamesPlaces (λ sender.
    step_with (send_at word.2) _ (λ send. IsPage send.0) NamesPlaces (spelled_send word.2) (λ send sent.
    step (base_at word.3) _ NamesPlaces (λ base.
    step (space_at word.4) _ NamesPlaces (λ receiver.
    step_with (fpage_at word.5) _ IsPage NamesPlaces (spelled_page word.5) (λ window is. record { holds = (sent, is) })))))))

words_map_names : (words : List (List ℕ)) → Gives (words_map_at words) NamesPlaces
unfolding words_map_at
words_map_names words =
    step (or_fault (six_of words) fault.Words) _ NamesPlaces (λ word.
    step (processor_at word.0) _ NamesPlaces (λ processor.
    step (space_at word.1) _ NamesPlaces (λ sender.
    step_with (item_at word.2 word.3) _ (λ item. IsPage item.page) NamesPlaces (spelled_item word.2 word.3) (λ item sent.
    step (space_at word.4) _ NamesPlaces (λ receiver.
    step_with (window_at word.5) _ IsPage NamesPlaces (spelled_window word.5) (λ window is. record { holds = (sent, is) }))))))

unmapping_names : (words : List (List ℕ)) → Gives (unmapping_at words) NamesPlaces
unfolding unmapping_at
unmapping_names words =
    step (or_fault (four_of words) fault.Words) _ NamesPlaces (λ word.
    step (processor_at word.0) _ NamesPlaces (λ processor.
    step (space_at word.1) _ NamesPlaces (λ space.
    step_with (send_at word.2) _ (λ send. IsPage send.0) NamesPlaces (spelled_send word.2) (λ send sent.
    step (mode_at word.3) _ NamesPlaces (λ flush. record { holds = sent })))))

processors_names : (words : List (List ℕ)) → Gives (processors_at words) NamesPlaces
unfolding processors_at
processors_names words =
    step (or_fault (one_of words) fault.Words) _ NamesPlaces (λ word.
    step (processor_at word) _ NamesPlaces (λ count. record { holds = tt }))

ending_names : (words : List (List ℕ)) → Gives (ending_at words) NamesPlaces
unfolding ending_at
ending_names words =
    step (or_fault (two_of words) fault.Words) _ NamesPlaces (λ word.
    step (processor_at word.0) _ NamesPlaces (λ processor.
    step (space_at word.1) _ NamesPlaces (λ space. record { holds = tt })))

tree_names : (words : List (List ℕ)) → Gives (tree_query_at words) NamesPlaces
unfolding tree_query_at
tree_names words =
    step (or_fault (two_of words) fault.Words) _ NamesPlaces (λ word.
    step (space_at word.0) _ NamesPlaces (λ space.
    step (address_at word.1) _ NamesPlaces (λ address. record { holds = tt })))

sending_names : (words : List (List ℕ)) → Gives (sending_at words) NamesPlaces
unfolding sending_at
sending_names words =
    step (or_fault (three_of words) fault.Words) _ NamesPlaces (λ word.
    step (processor_at word.0) _ NamesPlaces (λ processor.
    step (mark_at word.1) _ NamesPlaces (λ first.
    step (mark_at word.2) _ NamesPlaces (λ end. record { holds = tt }))))

delivery_names : (words : List (List ℕ)) → Gives (delivery_at words) NamesPlaces
unfolding delivery_at
delivery_names words =
    step (or_fault (two_of words) fault.Words) _ NamesPlaces (λ word.
    step (mark_at word.0) _ NamesPlaces (λ message.
    step (processor_at word.1) _ NamesPlaces (λ processor. record { holds = tt })))

saving_names : (words : List (List ℕ)) → Gives (saving_at words) NamesPlaces
unfolding saving_at
saving_names words =
    step (or_fault (one_of words) fault.Words) _ NamesPlaces (λ word.
    step (processor_at word) _ NamesPlaces (λ processor. record { holds = tt }))

loading_names : (words : List (List ℕ)) (text : List ℕ) → Gives (loading_at words text) NamesPlaces
unfolding loading_at
loading_names [] text = record { holds = tt }
loading_names (word ∷ []) text = record { holds = tt }
loading_names (word ∷ first ∷ words) text = step (processor_at word) _ NamesPlaces (λ processor. record { holds = tt })

tabling_names : (words : List (List ℕ)) → Gives (tabling_at words) NamesPlaces
unfolding tabling_at
tabling_names words =
    step (or_fault (one_of words) fault.Words) _ NamesPlaces (λ word.
    step (processor_at word) _ NamesPlaces (λ processor. record { holds = tt }))

versioning_names : (words : List (List ℕ)) → Gives (versioning_at words) NamesPlaces
unfolding versioning_at
versioning_names words =
    step (or_fault (two_of words) fault.Words) _ NamesPlaces (λ word.
    step (processor_at word.0) _ NamesPlaces (λ processor.
    step (space_number_at word.1) _ NamesPlaces (λ number. record { holds = tt })))

line_names : (word : Option Keyword) (words : List (List ℕ)) (text : List ℕ) → Gives (line_at word words text) NamesPlaces
unfolding line_at
line_names None words text = record { holds = tt }
line_names (Some keyword.Processors) words text = processors_names words
line_names (Some keyword.Map) words text = map_names words
line_names (Some keyword.Words) words text = words_map_names words
line_names (Some keyword.Unmap) words text = unmapping_names words
line_names (Some keyword.End) words text = ending_names words
line_names (Some keyword.Rights) words text = step (page_query_at words) _ NamesPlaces (λ query. record { holds = tt })
line_names (Some keyword.Served) words text = step (page_query_at words) _ NamesPlaces (λ query. record { holds = tt })
line_names (Some keyword.Tree) words text = tree_names words
line_names (Some keyword.Send) words text = sending_names words
line_names (Some keyword.Deliver) words text = delivery_names words
line_names (Some keyword.Merge) words text = step (both_at words) _ NamesPlaces (λ pair. record { holds = tt })
line_names (Some keyword.Same) words text = step (both_at words) _ NamesPlaces (λ pair. record { holds = tt })
line_names (Some keyword.Covers) words text = step (both_at words) _ NamesPlaces (λ pair. record { holds = tt })
line_names (Some keyword.Save) words text = saving_names words
line_names (Some keyword.Load) words text = loading_names words text
line_names (Some keyword.Table) words text = tabling_names words
line_names (Some keyword.Version) words text = versioning_names words

-- what a line says, if it says anything, names places
abbrev pub SaysPlaces : Option Line → Type 0
SaysPlaces said = IfSome said NamesPlaces

by_comment : (b : Bool) (o : Result Line LineFault) → IfOk o NamesPlaces → IfOk (if b then Ok None else (o >>= λ said. Ok (Some said))) SaysPlaces
by_comment true o is = tt
by_comment false (Ok said) is = is
by_comment false (Err why) is = tt

said_at_places : (words : List (List ℕ)) (text : List ℕ) → IfOk (said_at words text) SaysPlaces
unfolding said_at
said_at_places [] text = tt
said_at_places (word ∷ words) text = by_comment (is_comment word) (line_at (keyword_of word) words text) (line_names (keyword_of word) words text).holds

pub said_places : (bytes : List ℕ) → IfOk (said_by bytes) SaysPlaces
unfolding said_by
said_places bytes = said_at_places (words_of (without_return bytes)) (behind_words 2 (without_return bytes))
