-- There is room for a call that starts or finishes.
use Rattle.std.proofs.Common.{◌≡◌, ℕ, zero, suc, ◌+◌, ◌<◌, ◌≤◌, Bool, true, false, cond, eqb, List, [], ◌∷◌, length, get_or, set, map, Some, None, refl, ap, arith}
use Rattle.std.specs.Prelude.{find, sum_by}
use Rattle.std.specs.List.{list_any}
use Rattle.std.proofs.lemmas.List.Sums.{sum_by-cons}
use Rattle.vi_history.specs.Device.{Domain}
use Rattle.vi_history.specs.declared.reading.Reading.TheVariants.{Silent, Malformed, Asks}
use Rattle.vi_history.specs.declared.request.Request.TheVariants.{Attach, Detach, Map, Unmap, Probe}
use Rattle.vi_device.specs.Values.{DeviceValue, RoomIn}
use Rattle.vi_model.specs.declared.task.Task.{Task}
use Rattle.vi_model.specs.declared.task.Task.TheVariants.{Reads, Sets}
use Rattle.vi_model.specs.Control.{Port, Started, no_port}
use Rattle.vi_model.specs.Removals.{Removal, is_ready}
use Rattle.vi_model.specs.Asking.{count_option}
use Rattle.vi_model.specs.Rooms.{is_map, mappings_in}
use Rattle.vi_model.specs.Bounds.{open_calls, HasStartRoom}
use Rattle.vi_shoot.specs.declared.ops.Token.{Token}
use Rattle.vi_shoot.specs.declared.ops.Token.TheVariants as token
use Rattle.vi_calls.specs.Value.{CallsValue, port_at}
use Rattle.vi_calls.specs.Moves.{with_setting}
use Rattle.vi_removals.specs.declared.removals.Ready.{Ready}
use Rattle.vi_removals.specs.Value.{Opened, removals_of}
use Rattle.vi_removals.specs.Takings.{IsTaking}
use Rattle.vi_control.specs.declared.control.Control.TheInside.{Inside}
use Rattle.vi_control.specs.Inner.{seen}
use Rattle.vi_control.specs.Rooms.{HasRoom}
use Rattle.vi_control.specs.Tokens.{HasTaskRoom}
use Rattle.vi_control.specs.Started.{started_of, IsNextRequest, IsNextSetting, IsNextBy, IsNext}

-- the mapping of a MAP fits
mapping-fits : (maps id : ℕ) (ys : List Domain) → mappings_in id ys + 1 ≤ maps → RoomIn maps (find (λ y. eqb y.id id) ys)
mapping-fits maps id [] le = tt
mapping-fits maps id (y ∷ ys) le = go (eqb y.id id) le (mapping-fits maps id ys)
  where
    go : (b : Bool) → cond b (length y.mappings) (mappings_in id ys) + 1 ≤ maps → (mappings_in id ys + 1 ≤ maps → RoomIn maps (find (λ y. eqb y.id id) ys)) → RoomIn maps (cond b (Some y) (find (λ y. eqb y.id id) ys))
    go true le rest = omega (arith, le)
    go false le rest = rest le

pub task-room : (v : DeviceValue) (task : Task) → (is_map (Some task) ≡ true → (domain : ℕ) → mappings_in domain v.dev.domains + 1 ≤ v.maps) → HasTaskRoom v task
task-room v (Reads Silent) room = tt
task-room v (Reads (Malformed probe)) room = tt
task-room v (Reads (Asks (Attach domain endpoint flags))) room = tt
task-room v (Reads (Asks (Detach domain endpoint))) room = tt
task-room v (Reads (Asks (Map domain first last target flags))) room = mapping-fits v.maps domain v.dev.domains (room refl domain)
task-room v (Reads (Asks (Unmap domain first last))) room = tt
task-room v (Reads (Asks (Probe endpoint))) room = tt
task-room v (Sets on) room = tt

-- what takes translations away maps nothing
pub taking-room : (v : DeviceValue) (ids : List ℕ) (task : Task) → IsTaking ids task → HasTaskRoom v task
taking-room v ids (Reads Silent) taking = tt
taking-room v ids (Reads (Malformed probe)) taking = tt
taking-room v ids (Reads (Asks (Attach domain endpoint flags))) taking = tt
taking-room v ids (Reads (Asks (Detach domain endpoint))) taking = tt
taking-room v ids (Reads (Asks (Map domain first last target flags))) taking = absurd taking
taking-room v ids (Reads (Asks (Unmap domain first last))) taking = tt
taking-room v ids (Reads (Asks (Probe endpoint))) taking = tt
taking-room v ids (Sets on) taking = tt

-- a driver's answered lines and its setting are among the open calls
abbrev pub calls_in : Port → ℕ
calls_in p = count_option p.setting + length p.answered

port-calls : (ports : List Port) (driver : ℕ) → calls_in (get_or ports driver no_port) ≤ sum_by calls_in ports
port-calls [] driver = omega arith
port-calls (p ∷ ps) zero = omega (arith, sum_by-cons calls_in p ps)
port-calls (p ∷ ps) (suc k) = omega (arith, sum_by-cons calls_in p ps, port-calls ps k)

some-ready : (rs : List Removal) → list_any is_ready rs ≡ true → 1 ≤ length rs
some-ready [] any = absurd (cc)
some-ready (r ∷ rs) any = omega arith

answered-left : (ports : List Port) (driver : ℕ)
    → (let p : Port = get_or (set ports driver (with_setting None (get_or ports driver no_port))) driver no_port in p.answered) ≡ (let p : Port = get_or ports driver no_port in p.answered)
answered-left [] driver = refl
answered-left (p ∷ ps) zero = refl
answered-left (p ∷ ps) (suc k) = answered-left ps k

-- a line more can be answered
pub finish-room : (p : Inside) (driver : ℕ) → open_calls (seen p).state ≤ 8 → list_any is_ready (removals_of p.removals) ≡ true → length (port_at p.calls driver).answered < 8
finish-room p driver few any = omega (arith, few, some-ready (removals_of p.removals) any, port-calls p.calls.ports driver)

next-by : (p : Inside) (new : CallsValue) (call : Started) (t : Token) → open_calls (seen p).state ≤ 8 → IsNextBy p.calls new call t → length (port_at new call.driver).answered < 8
next-by p new call (token.Chain head) few next =
    let x : IsNextRequest p.calls new call head next.0 next.1 = next.2 in
    let queued : length p.calls.queue ≡ suc (length next.1) = ap length x.queue in
    let ports : new.ports ≡ p.calls.ports = ap (λ v. v.ports) x.left_calls in
    rw ports (omega (arith, few, queued, port-calls p.calls.ports call.driver))
next-by p new call (token.Setting driver line) few next =
    let x : IsNextSetting p.calls new call driver next.1.0 = next.1.1 in
    let some : count_option (port_at p.calls driver).setting ≡ 1 = rw x.setting refl in
    let same : call.driver ≡ driver = ap (λ c. c.driver) x.is in
    rw (same, x.left_calls, answered-left p.calls.ports driver) (omega (arith, few, some, port-calls p.calls.ports driver))

pub next-answers : (p : Inside) (new : CallsValue) (call : Ready) → open_calls (seen p).state ≤ 8 → IsNext p.calls new call → length (port_at new call.driver).answered < 8
next-answers p new call few next = next-by p new (started_of call) call.token few next

start-by : (p : Inside) (new : CallsValue) (call : Started) (t : Token) → HasRoom (seen p) → IsNextBy p.calls new call t → HasStartRoom (length p.removals.ids) (seen p).state call
start-by p new call (token.Chain head) room next =
    let x : IsNextRequest p.calls new call head next.0 next.1 = next.2 in
    rw x.is (room.request next.0 next.1 x.queue)
start-by p new call (token.Setting driver line) room next =
    let x : IsNextSetting p.calls new call driver next.1.0 = next.1.1 in
    rw x.is (room.setting driver next.1.0 x.below x.setting)

-- and started
pub next-room : (p : Inside) (new : CallsValue) (call : Ready) → HasRoom (seen p) → IsNext p.calls new call → HasStartRoom (length p.removals.ids) (seen p).state (started_of call)
next-room p new call room next = start-by p new (started_of call) call.token room next

-- there are as many removals as open ones
pub length-removals : (os : List Opened) → length (map (λ o. o.removal) os) ≡ length os
length-removals [] = refl
length-removals (o ∷ os) = ap suc (length-removals os)
