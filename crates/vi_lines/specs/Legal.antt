-- Legal histories of a script.
use Rattle.std.specs.Prelude.{◌≡◌, List, map, Some}
use Rattle.vi_history.specs.Start.{start}
use Rattle.vi_history.specs.Histories.{IsLegal}
use Rattle.vi_history.specs.Records.{IsShownWell}
use Rattle.vi_history.specs.declared.call.Call.{Call}
use Rattle.vi_history.specs.declared.entry.Entry.{Entry}
use Rattle.vi_history.specs.declared.outcome.Outcome.{Outcome}
use Rattle.vi_lines.specs.Value.{ScriptValue}
use Rattle.vi_lines.specs.Calls.{call_of}

-- these are the script's calls of the entries, one for each
abbrev pub AreCalls : ScriptValue → List Entry → List Call → Type 0
AreCalls s entries calls = map (λ h. call_of s h.mark.caller h.mark.line h.mark.part) entries ≡ map (λ c. Some c) calls

-- Each entry answers a call of the script, and its answer is that of the one-thread device after the entries
-- before it.
pub record IsLegalHistory (s : ScriptValue) (entries : List Entry) : Type 0 where
  pub calls : List Call
  pub named : AreCalls s entries calls
  pub legal : IsLegal (start s.setup) calls entries

-- the fault records of an outcome are those of its history, with as many event buffers as the queue has
pub record HasRecords (s : ScriptValue) (o : Outcome) : Type 0 where
  pub calls : List Call
  pub named : AreCalls s o.entries calls
  pub well : IsShownWell s.setup.queue calls o.entries o.shown o.dropped
