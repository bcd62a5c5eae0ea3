use Rattle.std.proofs.Common.{ℕ, arith, length-drop}
use Rattle.std.proofs.lemmas.List.{length-take}
use Rattle.vi_commands.proofs.KnownBytesLemmas.{Appends-next}
use Rattle.vi_commands.proofs.output.write_text.Goals as goal

pub loop-written-preserved : goal.loop-written-preserved
loop-written-preserved g c = record {
  within = omega (arith, c.in_ok-written.ensures.bound, length-take {A = ℕ}, length-drop {A = ℕ});
  taken = Appends-next _ _ _ c.loop-written.written c.in_ok-written.field-0 _ c.args.text.now
      (omega (arith, c.in_ok-written.ensures.bound, length-take {A = ℕ}, length-drop {A = ℕ})) c.loop-written.invariant.taken c.in_ok-written.ensures.bytes;
  count = omega arith;
}
