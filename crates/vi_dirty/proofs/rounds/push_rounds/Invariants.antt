use Rattle.std.specs.String.{string_bytes}
use Rattle.vi_dirty.proofs.Course.{Going}
use Rattle.vi_dirty.proofs.rounds.push_rounds.Given as goal

abbrev pub invariant-loop-i : goal.invariant-loop-i
invariant-loop-i l =
    Going l.script l.every l.count l.i l.initial.course.all.room l.initial.course.tracker.one (string_bytes l.initial.out) l.initial.course.all.pages l.entries l.course.tracker l.course.all (string_bytes l.out) l.rest
