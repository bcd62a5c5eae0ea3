use Rattle.std.proofs.Common.{◌≡◌, take}
use Rattle.vi_control.specs.Opening.{transfers_in}
use Rattle.vi_control.proofs.opening.transfers_in.Given as goal

abbrev pub invariant-loop-line : goal.invariant-loop-line
invariant-loop-line l = l.transfers.items ≡ transfers_in (take l.line-index l.lines) l.caller
