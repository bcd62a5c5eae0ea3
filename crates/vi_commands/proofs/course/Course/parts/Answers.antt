use Rattle.std.proofs.Common.{sym, ◌∙◌, arith}
use Rattle.vi_commands.proofs.OneLemmas.{with_parts-next}
use Rattle.vi_lines.specs.Calls.{parts_of}
use Rattle.vi_commands.proofs.course.Course.parts.Goals as goal

pub loop-part-preserved : goal.loop-part-preserved
loop-part-preserved c =
    let goes = sym c.in_ok-part.ensures.stops ∙ c.if-branch.false in
    let next = with_parts-next c.loop-part.self c.args.line.now c.args.number c.loop-part.part (parts_of c.args.line.now.job) (omega (arith, c.loop-part-test.true, c.parts-part-end.ensures)) goes in
    (rw c.in_ok-part.ensures.replied (sym next ∙ c.loop-part.invariant.0), omega (arith, c.in_ok-part.ensures.most, c.loop-part.invariant.1))
