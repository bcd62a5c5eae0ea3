use Rattle.std.proofs.Common.{◌+◌, take, drop, refl, sym}
use Rattle.std.proofs.lemmas.Result.{err_from_is_err_and}
use Rattle.std.proofs.lemmas.List.{take_rest}
use Rattle.vi_words.specs.Numbers.{name_number_of}
use Rattle.vi_script.specs.Forms.{caller_of}
use Rattle.vi_script.proofs.ReadLemmas.{refused_first, refused_second, await_of-found, await_of-none, await_read}
use Rattle.vi_script.proofs.name.awaited_name.Goals as goal

pub returns-in_default : goal.returns-in_default
returns-in_default c = (refl, await_of-none c.args.word.now (sym c.in_default.ensures.place))

pub returns-in_err-caller : goal.returns-in_err-caller
returns-in_err-caller c =
    let p = err_from_is_err_and c.from_residual.result c.from_residual.ensures.1 in
    rw (p.1, p.2, await_of-found c.args.word.now _ (sym c.in-Some.ensures.place))
    (refused_first _ (caller_of (take c.in-Some.dot c.args.word.now)) _ c.in_err-caller.ensures)

pub returns-in_err-line : goal.returns-in_err-line
returns-in_err-line c =
    let p = err_from_is_err_and c.from_residual-in_err-line.result c.from_residual-in_err-line.ensures.1 in
    let rest = take_rest c.args.word.now (c.in-Some.dot + 1) in
    rw (p.1, p.2, await_of-found c.args.word.now _ (sym c.in-Some.ensures.place))
    (refused_second _ (caller_of (take c.in-Some.dot c.args.word.now)) (name_number_of (drop (c.in-Some.dot + 1) c.args.word.now)) _ (rw rest at c.in_err-line.ensures))

pub returns : goal.returns
returns c =
    let rest = take_rest c.args.word.now (c.in-Some.dot + 1) in
    rw (await_of-found c.args.word.now _ (sym c.in-Some.ensures.place))
    (await_read (caller_of (take c.in-Some.dot c.args.word.now)) (name_number_of (drop (c.in-Some.dot + 1) c.args.word.now)) _ _ c.in_ok-caller.ensures (rw rest at c.in_ok-line.ensures))
