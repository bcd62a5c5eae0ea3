-- What a control takes from a script's lines.
use Rattle.std.specs.Prelude.{List, map, filter}
use Rattle.vi_history.specs.declared.call.Caller.{Caller}
use Rattle.vi_lines.specs.declared.line.Line.{Line}
use Rattle.vi_lines.specs.Calls.{same_caller}
use Rattle.vi_control.specs.declared.transfer.Transfer.{Transfer}
use Rattle.vi_control.specs.Plan.{transfer_of}

-- what the caller's lines transfer
abbrev pub transfers_in : List Line → Caller → List Transfer
transfers_in lines caller = map (λ l. transfer_of l.job) (filter (λ l. same_caller l.caller caller) lines)
