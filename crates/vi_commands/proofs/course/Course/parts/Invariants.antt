use Rattle.std.proofs.Common.{◌≡◌, ◌+◌, ◌≤◌, ◌-◌, length}
use Rattle.vi_commands.specs.OneThread.{with_parts}
use Rattle.vi_lines.specs.Calls.{parts_of}
use Rattle.vi_commands.proofs.course.Course.parts.Given as goal

abbrev pub invariant-loop-part : goal.invariant-loop-part
invariant-loop-part l =
    (with_parts l.self l.line l.number l.part (parts_of l.line.job + 1 - l.part) ≡ with_parts l.initial.self l.line l.number 1 (parts_of l.line.job))
    × (length l.self.entries + 1 ≤ length l.initial.self.entries + l.part)
