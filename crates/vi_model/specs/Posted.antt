-- Which lines are posted as finished, and which lines somebody awaits.
use Rattle.std.specs.Prelude.{◌==◌, ℕ, Bool, ◌&&◌, nat_le, List, get_or}
use Rattle.std.specs.List.{list_any, list_all}
use Rattle.vi_history.specs.declared.call.Caller.{Caller}
use Rattle.vi_history.specs.declared.call.Caller.TheVariants.{Driver, Back}
use Rattle.vi_lines.specs.declared.line.Await.{Await}
use Rattle.vi_lines.specs.Value.{ScriptValue}
use Rattle.vi_lines.specs.Calls.{same_caller}
use Rattle.vi_model.specs.Control.{Control, port_of}
use Rattle.vi_model.specs.Places.{place_of}

-- how many of the caller's first lines are posted
abbrev pub posted_of : ScriptValue → Control → Caller → ℕ
posted_of s c (Driver number) = (port_of c number).posted
posted_of s c (Back id) = get_or c.posted (place_of s id) 0

-- the line is one of them
abbrev pub is_posted : ScriptValue → Control → Await → Bool
is_posted s c a = nat_le a.line (posted_of s c a.caller)

-- all these lines are posted
abbrev pub all_posted : ScriptValue → Control → List Await → Bool
all_posted s c awaits = list_all (is_posted s c) awaits

-- some line of the script awaits this one
unfoldable pub is_awaited : ScriptValue → Caller → ℕ → Bool
is_awaited s caller line = list_any (λ l. list_any (λ a. same_caller a.caller caller && (a.line == line)) l.awaits) s.lines
