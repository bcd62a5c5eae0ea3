use Rattle.std.proofs.Common.{◌≡◌, ◌*◌, ◌≤◌, [], length, take, drop}
use Rattle.vi_history.specs.declared.call.Caller.{Caller}
use Rattle.vi_lines.specs.Rules.{count_lines}
use Rattle.vi_commands.specs.Counts.{number_for}
use Rattle.vi_commands.specs.OneThread.{with_lines}
use Rattle.vi_commands.proofs.one.one_thread.Given as goal

abbrev pub invariant-loop-line : goal.invariant-loop-line
invariant-loop-line l =
    (with_lines l.course (take l.line-index l.line-items) (drop l.line-index l.line-items) ≡ with_lines l.initial.course [] l.line-items)
    × ((c : Caller) → number_for l.counts c ≡ count_lines (take l.line-index l.line-items) c)
    × (length l.course.entries ≤ 17 * l.line-index)
