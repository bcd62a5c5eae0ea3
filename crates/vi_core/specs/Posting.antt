-- Whether what is awaited is posted as finished.
use Rattle.std.specs.Prelude.{ℕ, Bool, nat_le, List}
use Rattle.vi_lines.specs.declared.line.Await.{Await}
use Rattle.vi_model.specs.Control.{Control}
use Rattle.vi_control.specs.Calls.{posted_by}

-- the line is one of the first of its caller that are posted
abbrev pub is_posted_by : List ℕ → Control → Await → Bool
is_posted_by ids c a = nat_le a.line (posted_by ids c a.caller)
