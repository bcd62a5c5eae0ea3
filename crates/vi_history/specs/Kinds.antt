-- Kinds of answers.
use Rattle.std.specs.Prelude.{Bool, true, false}
use Rattle.vi_history.specs.declared.entry.Kind.{Kind}
use Rattle.vi_history.specs.declared.entry.Kind.TheVariants.{Status, Probed, Nothing, Set, Read, Wrote, Fault}

-- the answer is a fault
abbrev pub is_fault : Kind → Bool
is_fault Status = false
is_fault Probed = false
is_fault Nothing = false
is_fault Set = false
is_fault Read = false
is_fault Wrote = false
is_fault Fault = true
