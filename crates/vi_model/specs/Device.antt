-- The device's turn: the first of five rules that applies.
use Rattle.std.specs.Prelude.{ℕ, Bool, false, not, ◌||◌, nat_lt, if◌then◌else◌, List, [], ◌∷◌, length, Option, Some, None, is_some, find}
use Rattle.std.specs.List.{range_with_len}
use Rattle.vi_lines.specs.Value.{ScriptValue}
use Rattle.vi_model.specs.Lanes.{Miss}
use Rattle.vi_model.specs.Removals.{Removal, first_ready}
use Rattle.vi_model.specs.Control.{Queued, Setting, Port, Control, Made, Link, driver_count, port_of, link_of, with_port}
use Rattle.vi_model.specs.Places.{place_count}
use Rattle.vi_model.specs.Starts.{finish, start, queued_call, setting_call}
use Rattle.vi_model.specs.Serves.{serve_ack, serve_miss, is_shut}

-- the lowest driver that left a setting
abbrev pub first_setting : Control → Option ℕ
first_setting c = find (λ driver. is_some (port_of c driver).setting) (range_with_len 0 driver_count)

-- a frame of the back end is there
abbrev pub has_frame : Control → ℕ → Bool
has_frame c place = nat_lt 0 (link_of c place).acks || nat_lt 0 (length (link_of c place).up)

-- the lowest place with a frame
abbrev pub first_frame : ScriptValue → Control → Option ℕ
first_frame s c = find (has_frame c) (range_with_len 0 (place_count s))

-- a miss is there, and its page isn't closed
abbrev pub is_free : ScriptValue → Control → ℕ → Option Miss → Bool
is_free s c place None = false
is_free s c place (Some m) = not (is_shut s c place m)

-- the lowest place with a parked miss whose page isn't closed
abbrev pub first_free : ScriptValue → Control → Option ℕ
first_free s c = find (λ place. is_free s c place (link_of c place).parked) (range_with_len 0 (place_count s))

-- serve the parked miss of a place
abbrev pub serve_parked : ScriptValue → Control → ℕ → Option Miss → Option Made
serve_parked s c place None = None
serve_parked s c place (Some m) = let x : Link = link_of c place in Some (serve_miss s c place (record x { parked = None }) m)

-- serve the oldest miss on its way up
abbrev pub serve_up : ScriptValue → Control → ℕ → List Miss → Option Made
serve_up s c place [] = None
serve_up s c place (m ∷ ms) = let x : Link = link_of c place in Some (serve_miss s c place (record x { up = ms }) m)

-- serve a frame of a place: an acknowledgement before a miss
abbrev pub serve_frame : ScriptValue → Control → ℕ → Option Made
serve_frame s c place =
    if nat_lt 0 (link_of c place).acks
    then Some (record { control = serve_ack c place; entry = None })
    else serve_up s c place (link_of c place).up

-- start the setting of a driver
abbrev pub start_setting : ScriptValue → Control → ℕ → Option Setting → Option Made
start_setting s c driver None = None
start_setting s c driver (Some x) = let p : Port = port_of c driver in Some (start s (with_port c driver (record p { setting = None })) (setting_call driver x))

-- fifth, the setting of the lowest driver that left one
abbrev pub rule_setting : ScriptValue → Control → Option ℕ → Option Made
rule_setting s c None = None
rule_setting s c (Some driver) = start_setting s c driver (port_of c driver).setting

-- fourth, the next request of the queue
abbrev pub rule_queue : ScriptValue → Control → List Queued → Option Made
rule_queue s c [] = rule_setting s c (first_setting c)
rule_queue s c (q ∷ qs) = Some (start s (record c { queue = qs }) (queued_call q))

-- third, a frame of the lowest place that has one
abbrev pub rule_frame : ScriptValue → Control → Option ℕ → Option Made
rule_frame s c None = rule_queue s c c.queue
rule_frame s c (Some place) = serve_frame s c place

-- second, a parked miss whose page isn't closed
abbrev pub rule_parked : ScriptValue → Control → Option ℕ → Option Made
rule_parked s c None = rule_frame s c (first_frame s c)
rule_parked s c (Some place) = serve_parked s c place (link_of c place).parked

-- first, the removal that was begun first of those that wait for nobody is finished
abbrev pub rule_finish : ScriptValue → Control → Option Removal → Option Made
rule_finish s c None = rule_parked s c (first_free s c)
rule_finish s c (Some r) = Some (finish c r)

-- the device's turn, None where it waits
unfoldable pub device_turn : ScriptValue → Control → Option Made
device_turn s c = rule_finish s c (first_ready c.removals)
