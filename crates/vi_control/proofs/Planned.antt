-- A control as it is built: its plan is the script's, and its tables have a row a place.
use Rattle.std.proofs.Common.{◌≡◌, ◌≤◌, ◌+◌, ◌^◌, ℕ, zero, suc, List, [], ◌∷◌, All, length, map, get_or, replicate, None, refl, ap, sym, ◌∙◌, arith}
use Rattle.std.specs.List.{range_with_len, count_by, sum_by}
use Rattle.std.proofs.lemmas.List.{ext_get_or, get_or-map, length-map, length-replicate}
use Rattle.std.proofs.lemmas.List.FromFn.{length-map-range_with_len, get_or-map-range_with_len}
use Rattle.std.proofs.lemmas.List.Elements.{All-replicate, All-nil}
use Rattle.std.proofs.lemmas.Simd.{map-map}
use Rattle.vi_bytes.specs.declared.region.EndpointSetup.{EndpointSetup}
use Rattle.vi_config.specs.Space.{config_bytes}
use Rattle.vi_history.specs.Device.{Endpoint}
use Rattle.vi_history.specs.Start.{start_dev, unattached}
use Rattle.vi_history.specs.declared.call.Caller.TheVariants.{Back}
use Rattle.vi_calls.specs.Moves.{no_calls}
use Rattle.vi_grants.specs.declared.row.Grant.{Grant}
use Rattle.vi_device.specs.Values.{DeviceValue}
use Rattle.vi_events.specs.Value.{EventQueue, no_events}
use Rattle.vi_grants.specs.Rows.{GrantRow, empty_row}
use Rattle.vi_lines.specs.Calls.{driver_call, parts_of}
use Rattle.vi_lines.specs.Valid.{IsValidSetup}
use Rattle.vi_lines.specs.Value.{ScriptValue}
use Rattle.vi_lines.specs.declared.line.Line.{Line}
use Rattle.vi_model.specs.Control.{driver_count, no_port, no_lanes}
use Rattle.vi_model.specs.Places.{ids_of, place_count}
use Rattle.vi_model.specs.Rooms.{is_map, is_back, all_maps, all_parts, all_transfers}
use Rattle.vi_model.specs.Tasks.{task_in}
use Rattle.vi_model.specs.Worlds.{opening_control}
use Rattle.vi_control.specs.declared.control.Control.TheInside.{Inside}
use Rattle.vi_control.specs.declared.transfer.Transfer.{Transfer}
use Rattle.vi_control.specs.Inner.{grants_in, spare_in, HasPages, IsKept, config_of}
use Rattle.vi_control.specs.Opening.{transfers_in}
use Rattle.vi_control.specs.Plan.{plan_of}
use Rattle.vi_control.proofs.Setups.{setup_of, memory_bound}

-- a table by places is one by ids
by_places : (f : ℕ → List Transfer) (ids : List ℕ) → map (λ k. f (get_or ids k 0)) (range_with_len 0 (length ids)) ≡ map f ids
by_places f ids =
    let rows : length (map (λ k. f (get_or ids k 0)) (range_with_len 0 (length ids))) ≡ length ids = length-map-range_with_len (λ k. f (get_or ids k 0)) 0 (length ids) in
    ext_get_or [] (map (λ k. f (get_or ids k 0)) (range_with_len 0 (length ids))) (map f ids) (rows ∙ sym (length-map ids f)) (λ k below.
    get_or-map-range_with_len (λ k. f (get_or ids k 0)) 0 (length ids) k k [] (omega (arith, below, rows)) (omega arith)
    ∙ sym (get_or-map f ids k 0 [] (omega (arith, below, rows))))

pub plan_made : (s : ScriptValue) (ids : List ℕ) (rows : List (List Transfer)) → ids ≡ ids_of s → rows ≡ map (λ id. transfers_in s.lines (Back id)) ids
    → record { ids = ids; transfers = rows; buffers = s.setup.queue } ≡ plan_of s
unfolding plan_of
plan_made s ids rows e f = rw (f, e, by_places (λ id. transfers_in s.lines (Back id)) (ids_of s)) refl

empty_grants : (n each : ℕ) → map grants_in (replicate n (empty_row each)) ≡ replicate n []
empty_grants zero each = refl
empty_grants (suc n) each = ap (λ gs. [] ∷ gs) (empty_grants n each)

empty_spares : (n each : ℕ) → map spare_in (replicate n (empty_row each)) ≡ replicate n each
empty_spares zero each = refl
empty_spares (suc n) each = ap (λ gs. each ∷ gs) (empty_spares n each)

empty_pages : (n each : ℕ) → All HasPages (replicate n (empty_row each))
empty_pages n each = All-replicate HasPages n (empty_row each) (All-nil (λ (g : Grant). g.lease.page + g.lease.count ≤ 2 ^ 52))

pub state_made : (s : ScriptValue)
    → record {
      dev = start_dev s.setup;
      mappings = all_maps s;
      queue = [];
      ports = replicate driver_count no_port;
      removals = [];
      grants = map grants_in (replicate (place_count s) (empty_row (all_parts s)));
      spares = map spare_in (replicate (place_count s) (empty_row (all_parts s)));
      mail = replicate (place_count s) no_lanes;
      parked = replicate (place_count s) None;
      posted = replicate (place_count s) 0;
      events = record { shown = []; waiting = []; dropped = 0; room = all_transfers s };
    } ≡ opening_control s
state_made s = rw (empty_grants (place_count s) (all_parts s), empty_spares (place_count s) (all_parts s)) refl

-- what was counted of a script's lines is what its control has room for
pub maps_made : (s : ScriptValue) (lines : List Line) (n : ℕ) → lines ≡ s.lines → n ≡ count_by (λ l. is_map (task_in (driver_call l.job))) lines → n ≡ all_maps s
unfolding all_maps
maps_made s lines n e f = rw (f, e) refl

pub parts_made : (s : ScriptValue) (lines : List Line) (n : ℕ) → lines ≡ s.lines → n ≡ sum_by (λ l. parts_of l.job) lines → n ≡ all_parts s
unfolding all_parts
parts_made s lines n e f = rw (f, e) refl

pub transfers_made : (s : ScriptValue) (lines : List Line) (n : ℕ) → lines ≡ s.lines → n ≡ count_by (λ l. is_back l.caller) lines → n ≡ all_transfers s
unfolding all_transfers
transfers_made s lines n e f = rw (f, e) refl

pub places_are : (s : ScriptValue) (n : ℕ) → n ≡ length s.setup.endpoints → n ≡ place_count s
places_are s n e = e ∙ sym (length-map s.setup.endpoints (λ (x : EndpointSetup). x.id))

-- and the parts are built with that
pub device_built : (s : ScriptValue) (v : DeviceValue) (n : ℕ) → v ≡ record { dev = start_dev s.setup; maps = n } → n ≡ all_maps s → v ≡ record { dev = start_dev s.setup; maps = all_maps s }
device_built s v n e f = e ∙ ap (λ m. let d : DeviceValue = record { dev = start_dev s.setup; maps = m } in d) f

pub events_built : (s : ScriptValue) (v : EventQueue) (n : ℕ) → v ≡ record { buffers = s.setup.queue; events = no_events n } → n ≡ all_transfers s → v ≡ record { buffers = s.setup.queue; events = no_events (all_transfers s) }
events_built s v n e f = e ∙ ap (λ m. let q : EventQueue = record { buffers = s.setup.queue; events = no_events m } in q) f

pub grants_built : (s : ScriptValue) (rows : List GrantRow) (places parts : ℕ) → rows ≡ replicate places (empty_row parts) → places ≡ place_count s → parts ≡ all_parts s
    → rows ≡ replicate (place_count s) (empty_row (all_parts s))
grants_built s rows places parts e p q = rw (e, p, q) refl

pub rows_built : (s : ScriptValue) (lines : List Line) (ids : List ℕ) (rows : List (List Transfer)) → rows ≡ map (λ id. transfers_in lines (Back id)) ids → lines ≡ s.lines → ids ≡ ids_of s
    → rows ≡ map (λ id. transfers_in s.lines (Back id)) (ids_of s)
rows_built s lines ids rows e l i = rw (e, l, i) refl

pub rows_made : {A : Type 0} (g : A → List Transfer) (f : ℕ → List Transfer) (rows : List A) (ids : List ℕ) → map g rows ≡ map f ids → length rows ≡ length ids
rows_made g f rows ids e = sym (length-map rows g) ∙ (ap length e ∙ length-map ids f)

-- its parts are what a control needs
pub kept_made : (p : Inside) (s : ScriptValue) (places parts : ℕ) → IsValidSetup s.setup → places ≡ place_count s → p.device.dev ≡ start_dev s.setup
    → p.removals ≡ record { ids = ids_of s; opened = [] } → p.calls ≡ no_calls → p.grants ≡ replicate places (empty_row parts)
    → p.lanes ≡ record { mail = replicate places no_lanes; parked = replicate places None } → p.posted.items ≡ replicate places 0
    → length p.transfers.items ≡ places → p.config ≡ config_bytes (config_of (start_dev s.setup)) → IsKept p
kept_made p s places parts v n dev rem calls grants lanes posted rows config =
    let ids : p.removals.ids ≡ ids_of s = ap (λ r. r.ids) rem in
    let held : length p.removals.ids ≡ length (ids_of s) = ap length ids in
    let count : length p.removals.ids ≡ places = ap length ids ∙ sym n in
    let ends : length (ids_of s) ≡ length s.setup.endpoints = length-map s.setup.endpoints (λ (e : EndpointSetup). e.id) in
    record {
      endpoints = ap (λ d. map (λ (x : Endpoint). x.id) d.endpoints) dev ∙ (map-map (λ (x : Endpoint). x.id) unattached s.setup.endpoints ∙ sym ids);
      distinct = rw ids ((setup_of s.setup v).distinct);
      few = omega (arith, held, ends, v.few);
      memory = rw dev (memory_bound s.setup.memory v.memory_fits);
      ports = ap (λ c. length c.ports) calls ∙ length-replicate driver_count no_port;
      grants = ap length grants ∙ (length-replicate places (empty_row parts) ∙ sym count);
      mail = ap (λ l. length l.mail) lanes ∙ (length-replicate places no_lanes ∙ sym count);
      parked = ap (λ l. length l.parked) lanes ∙ (length-replicate places None ∙ sym count);
      posted = ap length posted ∙ (length-replicate places 0 ∙ sym count);
      transfers = rows ∙ sym count;
      pages = rw grants (empty_pages places parts);
      config = rw dev config;
      tied = rw (calls, rem) (record { same = refl; once = λ head. omega arith; named = All-nil _; drivers = All-nil _ });
    }
