use Rattle.std.proofs.Common.{◌≤◌, length}
use Rattle.std.specs.Io.KnownBytes.{Consumes}
use Rattle.vi_commands.proofs.input.read_input.Given as goal

abbrev pub invariant-loop-turn : goal.invariant-loop-turn
invariant-loop-turn g l = record {
  read : Consumes (g.S.Source.left l.initial.source) (g.S.Source.left l.source) l.input.items;
  some_a_turn : l._turn ≤ length l.input.items;
  within : length l.input.items ≤ l.limit;
  count : g.S.Source.faults l.initial.source ≤ g.S.Source.faults l.source;
}
