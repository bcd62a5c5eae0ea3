use Rattle.std.proofs.Common.{sym, ap, ◌∙◌, Some}
use Rattle.vi_words.proofs.HexLemmas.{hex_of-nil, hex_of-decoded, hex_of-none, none_as_wanted}
use Rattle.vi_words.proofs.hex_word.hex_bytes.Goals as goal

pub returns-then-is_empty : goal.returns-then-is_empty
returns-then-is_empty c = sym (hex_of-nil c.args.word.now c.if-is_empty.ensures)

pub returns-in-Ok : goal.returns-in-Ok
returns-in-Ok c = ap (λ x. Some x) c.from_vec.ensures ∙ sym (hex_of-decoded c.args.word.now _ c.if-is_empty.ensures c.in-Ok.ensures.ok)

pub returns-in-Err : goal.returns-in-Err
returns-in-Err c =
    none_as_wanted c.no_bytes.result _ c.no_bytes.ensures.none c.no_bytes.ensures.refused
    (λ other. hex_of-none c.args.word.now c.in-Err.fault c.if-is_empty.ensures other c.in-Err.ensures.err)
