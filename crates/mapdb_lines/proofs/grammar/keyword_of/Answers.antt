use Rattle.std.proofs.Common.{ap, arith, sym}
use Rattle.std.specs.Prelude.{codes}
use Rattle.std.proofs.lemmas.Slice.Eq.{text_from_reads}
use Rattle.mapdb_lines.specs.Grammar.{keyword_of}
use Rattle.mapdb_lines.proofs.grammar.keyword_of.Goals as goal

pub returns-in-merge : goal.returns-in-merge
returns-in-merge c = sym (ap keyword_of (text_from_reads c.args.word.now (codes "merge") (omega arith) (omega arith, (omega arith, (omega arith, (omega arith, (omega arith, tt)))))))

pub returns-in-table : goal.returns-in-table
returns-in-table c = sym (ap keyword_of (text_from_reads c.args.word.now (codes "table") (omega arith) (omega arith, (omega arith, (omega arith, (omega arith, (omega arith, tt)))))))

pub returns-in-rights : goal.returns-in-rights
returns-in-rights c = sym (ap keyword_of (text_from_reads c.args.word.now (codes "rights") (omega arith) (omega arith, (omega arith, (omega arith, (omega arith, (omega arith, (omega arith, tt))))))))

pub returns-in-served : goal.returns-in-served
returns-in-served c = sym (ap keyword_of (text_from_reads c.args.word.now (codes "served") (omega arith) (omega arith, (omega arith, (omega arith, (omega arith, (omega arith, (omega arith, tt))))))))

pub returns-in-covers : goal.returns-in-covers
returns-in-covers c = sym (ap keyword_of (text_from_reads c.args.word.now (codes "covers") (omega arith) (omega arith, (omega arith, (omega arith, (omega arith, (omega arith, (omega arith, tt))))))))

pub returns-in-deliver : goal.returns-in-deliver
returns-in-deliver c = sym (ap keyword_of (text_from_reads c.args.word.now (codes "deliver") (omega arith) (omega arith, (omega arith, (omega arith, (omega arith, (omega arith, (omega arith, (omega arith, tt)))))))))

pub returns-in-version : goal.returns-in-version
returns-in-version c = sym (ap keyword_of (text_from_reads c.args.word.now (codes "version") (omega arith) (omega arith, (omega arith, (omega arith, (omega arith, (omega arith, (omega arith, (omega arith, tt)))))))))

pub returns-in-processors : goal.returns-in-processors
returns-in-processors c = sym (ap keyword_of (text_from_reads c.args.word.now (codes "processors") (omega arith) (omega arith, (omega arith, (omega arith, (omega arith, (omega arith, (omega arith, (omega arith, (omega arith, (omega arith, (omega arith, tt))))))))))))
