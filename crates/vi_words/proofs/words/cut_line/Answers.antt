use Rattle.std.proofs.Common.{◌+◌, sym}
use Rattle.vi_words.proofs.WordLemmas.{lines_of_text-nil, lines_of_text-empty, some_bytes, lines_of_text-found, lines_of_text-last}
use Rattle.std.proofs.lemmas.List.{take_rest}
use Rattle.vi_words.proofs.words.cut_line.Goals as goal

pub returns-in-Some : goal.returns-in-Some
returns-in-Some c = rw (take_rest c.args.text.now (c.in-Some.end + 1)) (lines_of_text-found c.args.text.now c.in-Some.end (sym c.in-Some.ensures.place))

pub returns-in-None : goal.returns-in-None
returns-in-None c = lines_of_text-empty c.args.text.now c.if-is_empty.ensures

pub returns-in-None-2 : goal.returns-in-None-2
returns-in-None-2 c = rw lines_of_text-nil (lines_of_text-last c.args.text.now (some_bytes c.args.text.now c.if-is_empty.ensures) (sym c.in-None-2.ensures.place))
