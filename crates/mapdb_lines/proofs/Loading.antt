-- The words of a line, as its next word is found or not.
use Rattle.mapdb_lines.proofs.WordLemmas.{words_next, words_none}

pub ruleset words = (words_none, words_next)
