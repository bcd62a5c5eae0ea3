use Rattle.std.proofs.Common.{drop, sym}
use Rattle.std.proofs.lemmas.List.{take_rest}
use Rattle.vi_words.proofs.WordLemmas.{words_of-none, words_of-found, words_of-last}
use Rattle.vi_words.proofs.words.cut_word.Goals as goal

pub returns-in_err-start : goal.returns-in_err-start
returns-in_err-start c = rw c.from_residual.ensures (words_of-none c.args.line.now (sym c.in_err-start.ensures.place))

pub returns-in-Some : goal.returns-in-Some
returns-in-Some c =
    let rest = take_rest c.args.line.now c.in_ok-start.start in
    let found = sym (rw rest at c.in-Some.ensures.place) in
    rw (rest, take_rest (drop c.in_ok-start.start c.args.line.now) c.in-Some.end)
    (words_of-found c.args.line.now c.in_ok-start.start c.in-Some.end (sym c.in_ok-start.ensures.place) found)

pub returns-in-None : goal.returns-in-None
returns-in-None c =
    let rest = take_rest c.args.line.now c.in_ok-start.start in
    let none = sym (rw rest at c.in-None.ensures.place) in
    rw rest (words_of-last c.args.line.now c.in_ok-start.start (sym c.in_ok-start.ensures.place) none)
