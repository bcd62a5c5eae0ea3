use Rattle.std.proofs.Common.{append_assoc}
use Rattle.std.proofs.lemmas.Result.{IfOk-equal}
use Rattle.vi_make.specs.LoadScript.{write_line}
use Rattle.vi_make.proofs.turn.Turn.push_write.Goals as goal

pub returns : goal.returns
unfolding write_line
returns c =
    let digits = c.in_ok-digits.ensures in
    IfOk-equal _ _ _ _ c.writeln.ensures.bytes
    (rw (c.endpoint-endpoint.ensures, c.first-first.ensures, c.as_str-digits.ensures.value, digits, c.written.ensures) (simp append_assoc))
