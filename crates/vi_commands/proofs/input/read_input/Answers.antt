use Rattle.std.proofs.Common.{arith}
use Rattle.vi_commands.proofs.KnownBytesLemmas.{TakesAtMost-next}
use Rattle.vi_commands.proofs.input.read_input.Goals as goal

pub returns-then-is_err-clause-reads_at_most : goal.returns-then-is_err-clause-reads_at_most
returns-then-is_err-clause-reads_at_most g c =
    TakesAtMost-next _ _ _ c.args.limit 4096 c.in-Ok.count _ _ c.loop-turn.invariant.read c.loop-turn.invariant.within c.in-Ok.ensures.bytes.0
    (omega (arith, c.in-Ok.ensures.bound))
