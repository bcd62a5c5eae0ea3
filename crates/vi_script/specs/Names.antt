-- Names and forms as the reader of a text keeps them.
use Rattle.std.specs.Prelude.{min, List, map}
use Rattle.vi_history.specs.declared.call.Caller.{Caller}
use Rattle.vi_history.specs.declared.call.Caller.TheVariants.{Driver, Back}
use Rattle.vi_lines.specs.declared.line.Await.{Await}
use Rattle.vi_lines.specs.declared.line.Who.{Who}
use Rattle.vi_lines.specs.declared.line.Who.TheVariants as who
use Rattle.vi_script.specs.declared.name.Name.{Name}
use Rattle.vi_script.specs.declared.name.Name.TheVariants as name
use Rattle.vi_script.specs.declared.name.AwaitedName.{AwaitedName}
use Rattle.vi_script.specs.declared.name.TurnName.{TurnName}
use Rattle.vi_script.specs.declared.name.TurnName.TheVariants as turn
use Rattle.vi_script.specs.Forms.{turn_of_caller}

-- the caller that a name names, the line that an awaited word does, and a turn
abbrev pub named : Name → Caller
named (name.Driver number) = Driver number
named (name.Back id) = Back id

abbrev pub awaited : AwaitedName → Await
awaited a = record { caller = named a.caller; line = a.line }

abbrev pub all_awaited : List AwaitedName → List Await
all_awaited names = map awaited names

abbrev pub turned : TurnName → Who
turned (turn.Caller caller) = turn_of_caller (named caller)
turned turn.Device = who.Device
turned turn.Events = who.Events

abbrev pub all_turned : List TurnName → List Who
all_turned turns = map turned turns

-- what is kept of a name in numbers of 8 and of 32 bits: larger ones count as the largest
abbrev pub caller_kept : Name → Caller
caller_kept (name.Driver number) = Driver (min number 255)
caller_kept (name.Back id) = Back (min id 4294967295)

abbrev pub await_kept : AwaitedName → Await
await_kept a = record { caller = caller_kept a.caller; line = min a.line 4294967295 }

abbrev pub turn_kept : TurnName → Who
turn_kept (turn.Caller caller) = turn_of_caller (caller_kept caller)
turn_kept turn.Device = who.Device
turn_kept turn.Events = who.Events
