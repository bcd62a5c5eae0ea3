-- Worked runs: what some scripts come to, turn by turn.
use Rattle.std.proofs.Common.{◌≡◌, ℕ, zero, suc, ◌^◌, ◌-◌, Bool, true, false, List, [], ◌∷◌, ◌++◌, refl}
use Rattle.std.proofs.lemmas.Bool.{leb-true}
use Rattle.vi_bytes.specs.declared.region.EndpointSetup.{EndpointSetup}
use Rattle.vi_history.specs.Requests.{reading, request_bytes}
use Rattle.vi_history.specs.Replies.{status_answer, set_answer, read_answer, wrote_answer, fault_answer}
use Rattle.vi_history.specs.Runs.{run as page_run}
use Rattle.vi_history.specs.Start.{zero_page, start}
use Rattle.vi_history.specs.Statuses.{status}
use Rattle.vi_history.specs.Effects.{commit}
use Rattle.vi_history.specs.Translation.{look}
use Rattle.vi_history.specs.declared.request.Request.TheVariants.{Attach, Detach, Map, Unmap}
use Rattle.vi_history.specs.declared.call.Caller.{Caller}
use Rattle.vi_history.specs.declared.call.Caller.TheVariants.{Driver, Back}
use Rattle.vi_history.specs.declared.entry.Entry.{Entry}
use Rattle.vi_lines.specs.declared.job.Job.{Job}
use Rattle.vi_lines.specs.declared.job.Job.TheVariants as job
use Rattle.vi_lines.specs.declared.line.Line.{Line}
use Rattle.vi_lines.specs.declared.line.Await.{Await}
use Rattle.vi_lines.specs.declared.line.Who.{Who}
use Rattle.vi_lines.specs.declared.line.Who.TheVariants as who
use Rattle.vi_lines.specs.Value.{ScriptValue}
use Rattle.vi_lines.specs.Calls.{call_of}
use Rattle.vi_lines.specs.Valid.{IsValidSetup, IsValid}
use Rattle.vi_lines.specs.Fields.{HasFields}
use Rattle.vi_model.specs.Playable.{IsPlayable}
use Rattle.vi_model.specs.Tasks.{removes, closes}
use Rattle.vi_model.specs.Cuts.{cut}
use Rattle.vi_model.specs.Posted.{is_awaited}
use Rattle.vi_model.specs.Starts.{entry_of, finish, start as start_call}
use Rattle.vi_model.specs.Serves.{serve_ack, serve_miss}
use Rattle.vi_model.specs.Device.{device_turn}
use Rattle.vi_model.specs.Drivers.{collect, submit, driver_turn}
use Rattle.vi_model.specs.Backs.{wish, ask, receive, access}
use Rattle.vi_model.specs.Worlds.{World, opening}
use Rattle.vi_model.specs.Turns.{control_turn, accessed_page, access_turn, turn, run}
use Rattle.vi_model.specs.Rooms.{all_maps, all_parts, all_transfers}

plain : ℕ → EndpointSetup
plain id = record { id = id; regions = [] }

line : Caller → Job → Bool → List Await → Line
line caller job add awaits = record { caller = caller; job = job; add = add; awaits = awaits }

await : Caller → ℕ → Await
await caller line = record { caller = caller; line = line }

-- a script with so many pages of memory, queues of 16 and caches of 8 leases
script : ℕ → List EndpointSetup → List Line → ScriptValue
script memory endpoints lines = record {
  setup = record { memory = memory; queue = 16; cache = 8; granule = 4096; input = record { first = 0; last = 2 ^ 64 - 1 }; bypass = false; events = true; endpoints = endpoints };
  turns = [];
  lines = lines;
}

times : ℕ → List Who → List Who
times zero turns = []
times (suc n) turns = turns ++ times n turns

history_of : ScriptValue → List Who → List Entry
history_of s turns = let w : World = run s (opening s) turns in w.history

-- An access fail: a write to a page that is cached for reading.
read_only : ScriptValue
read_only = script 1 (plain 7 ∷ []) ((line (Driver 0) (job.Ask (Attach 1 7 0)) false ([])) ∷ (line (Driver 0) (job.Ask (Map 1 4096 8191 0 1)) false ([])) ∷ (line (Back 7) (job.Read 4096 1) false ((await (Driver 0) 2) ∷ [])) ∷ (line (Back 7) (job.Write 4100 (170 ∷ [])) false ([])) ∷ [])

read_only_turns : List Who
read_only_turns = ([]) ++ times 14 ((who.Driver 0) ∷ (who.Back 7) ∷ who.Device ∷ who.Events ∷ [])

read_only_history : history_of read_only read_only_turns ≡ entry_of (Driver 0) 1 0 (status_answer 0) ∷ entry_of (Driver 0) 2 0 (status_answer 0) ∷ entry_of (Back 7) 1 1 (read_answer (0 ∷ [])) ∷ entry_of (Back 7) 2 1 (fault_answer 2) ∷ []
unfolding read_only read_only_turns history_of times line await plain script opening turn control_turn accessed_page access_turn driver_turn collect submit device_turn start_call finish serve_ack serve_miss wish ask receive access is_awaited look page_run cut status commit removes closes reading request_bytes start zero_page call_of all_maps all_parts all_transfers
read_only_history = refl

-- A removal that waits for two back ends: the first acknowledges and its new miss is parked, and the second writes
-- once more by its cache before it acknowledges.
two_waits : ScriptValue
two_waits = script 1 (plain 5 ∷ plain 6 ∷ []) ((line (Driver 0) (job.Ask (Attach 1 5 0)) false ([])) ∷ (line (Driver 0) (job.Ask (Attach 1 6 0)) false ([])) ∷ (line (Driver 0) (job.Ask (Map 1 4096 8191 0 3)) false ([])) ∷ (line (Back 5) (job.Write 4096 (1 ∷ [])) false ((await (Driver 0) 3) ∷ [])) ∷ (line (Back 6) (job.Read 4096 1) false ((await (Driver 0) 3) ∷ [])) ∷ (line (Driver 0) (job.Ask (Unmap 1 4096 8191)) false ((await (Back 5) 1) ∷ (await (Back 6) 1) ∷ [])) ∷ (line (Back 5) (job.Read 4096 1) false ((await (Back 6) 1) ∷ [])) ∷ (line (Back 6) (job.Write 4096 (2 ∷ [])) false ([])) ∷ [])

two_waits_turns : List Who
two_waits_turns = ((who.Driver 0) ∷ who.Device ∷ (who.Driver 0) ∷ (who.Driver 0) ∷ who.Device ∷ (who.Driver 0) ∷ (who.Driver 0) ∷ who.Device ∷ (who.Driver 0) ∷ (who.Back 5) ∷ (who.Back 5) ∷ who.Device ∷ (who.Back 5) ∷ (who.Back 5) ∷ (who.Back 5) ∷ (who.Back 5) ∷ (who.Back 6) ∷ (who.Back 6) ∷ who.Device ∷ (who.Back 6) ∷ (who.Back 6) ∷ (who.Back 6) ∷ (who.Back 6) ∷ (who.Driver 0) ∷ who.Device ∷ (who.Back 5) ∷ who.Device ∷ (who.Back 5) ∷ (who.Back 5) ∷ who.Device ∷ (who.Back 6) ∷ (who.Back 6) ∷ who.Device ∷ who.Device ∷ who.Device ∷ (who.Back 5) ∷ (who.Driver 0) ∷ []) ++ times 3 ((who.Driver 0) ∷ (who.Back 5) ∷ (who.Back 6) ∷ who.Device ∷ who.Events ∷ [])

two_waits_history : history_of two_waits two_waits_turns ≡ entry_of (Driver 0) 1 0 (status_answer 0) ∷ entry_of (Driver 0) 2 0 (status_answer 0) ∷ entry_of (Driver 0) 3 0 (status_answer 0) ∷ entry_of (Back 5) 1 1 (wrote_answer) ∷ entry_of (Back 6) 1 1 (read_answer (1 ∷ [])) ∷ entry_of (Back 6) 2 1 (wrote_answer) ∷ entry_of (Driver 0) 4 0 (status_answer 0) ∷ entry_of (Back 5) 2 1 (fault_answer 2) ∷ []
unfolding two_waits two_waits_turns history_of times line await plain script opening turn control_turn accessed_page access_turn driver_turn collect submit device_turn start_call finish serve_ack serve_miss wish ask receive access is_awaited look page_run cut status commit removes closes reading request_bytes start zero_page call_of all_maps all_parts all_transfers
two_waits_history = refl

-- An Update is under way when an UNMAP starts: it is taken before the Invalidate behind it.
update_first : ScriptValue
update_first = script 1 (plain 5 ∷ []) ((line (Driver 0) (job.Ask (Attach 1 5 0)) false ([])) ∷ (line (Driver 0) (job.Ask (Map 1 4096 8191 0 3)) false ([])) ∷ (line (Back 5) (job.Read 4096 1) false ((await (Driver 0) 2) ∷ [])) ∷ (line (Driver 0) (job.Ask (Unmap 1 4096 8191)) false ([])) ∷ [])

update_first_turns : List Who
update_first_turns = ((who.Driver 0) ∷ who.Device ∷ (who.Driver 0) ∷ (who.Driver 0) ∷ who.Device ∷ (who.Driver 0) ∷ (who.Back 5) ∷ (who.Back 5) ∷ who.Device ∷ (who.Driver 0) ∷ who.Device ∷ []) ++ times 6 ((who.Driver 0) ∷ (who.Back 5) ∷ who.Device ∷ who.Events ∷ [])

update_first_history : history_of update_first update_first_turns ≡ entry_of (Driver 0) 1 0 (status_answer 0) ∷ entry_of (Driver 0) 2 0 (status_answer 0) ∷ entry_of (Driver 0) 3 0 (status_answer 0) ∷ entry_of (Back 5) 1 1 (fault_answer 2) ∷ []
unfolding update_first update_first_turns history_of times line await plain script opening turn control_turn accessed_page access_turn driver_turn collect submit device_turn start_call finish serve_ack serve_miss wish ask receive access is_awaited look page_run cut status commit removes closes reading request_bytes start zero_page call_of all_maps all_parts all_transfers
update_first_history = refl

-- An endpoint joins the domain while an UNMAP is open: its page is closed, too.
joined_late : ScriptValue
joined_late = script 1 (plain 5 ∷ plain 6 ∷ []) ((line (Driver 0) (job.Ask (Attach 1 5 0)) false ([])) ∷ (line (Driver 0) (job.Ask (Map 1 4096 8191 0 3)) false ([])) ∷ (line (Back 5) (job.Write 4096 (51 ∷ [])) false ((await (Driver 0) 2) ∷ [])) ∷ (line (Driver 0) (job.Ask (Unmap 1 4096 8191)) false ((await (Back 5) 1) ∷ [])) ∷ (line (Driver 1) (job.Ask (Attach 1 6 0)) false ((await (Back 5) 1) ∷ [])) ∷ (line (Back 6) (job.Read 4096 1) false ((await (Driver 1) 1) ∷ [])) ∷ [])

joined_late_turns : List Who
joined_late_turns = ((who.Driver 0) ∷ who.Device ∷ (who.Driver 0) ∷ (who.Driver 0) ∷ who.Device ∷ (who.Driver 0) ∷ (who.Back 5) ∷ (who.Back 5) ∷ who.Device ∷ (who.Back 5) ∷ (who.Back 5) ∷ (who.Back 5) ∷ (who.Back 5) ∷ (who.Driver 0) ∷ who.Device ∷ (who.Driver 1) ∷ who.Device ∷ (who.Driver 1) ∷ (who.Back 6) ∷ (who.Back 6) ∷ who.Device ∷ (who.Back 5) ∷ who.Device ∷ who.Device ∷ who.Device ∷ (who.Back 6) ∷ (who.Driver 0) ∷ []) ++ times 3 ((who.Driver 0) ∷ (who.Driver 1) ∷ (who.Back 5) ∷ (who.Back 6) ∷ who.Device ∷ who.Events ∷ [])

joined_late_history : history_of joined_late joined_late_turns ≡ entry_of (Driver 0) 1 0 (status_answer 0) ∷ entry_of (Driver 0) 2 0 (status_answer 0) ∷ entry_of (Back 5) 1 1 (wrote_answer) ∷ entry_of (Driver 1) 1 0 (status_answer 0) ∷ entry_of (Driver 0) 3 0 (status_answer 0) ∷ entry_of (Back 6) 1 1 (fault_answer 2) ∷ []
unfolding joined_late joined_late_turns history_of times line await plain script opening turn control_turn accessed_page access_turn driver_turn collect submit device_turn start_call finish serve_ack serve_miss wish ask receive access is_awaited look page_run cut status commit removes closes reading request_bytes start zero_page call_of all_maps all_parts all_transfers
joined_late_history = refl

-- A run of pages: one lease serves both accesses, and the second comes before the removal.
one_run : ScriptValue
one_run = script 2 (plain 7 ∷ []) ((line (Driver 0) (job.Ask (Attach 1 7 0)) false ([])) ∷ (line (Driver 0) (job.Ask (Map 1 4096 12287 0 3)) false ([])) ∷ (line (Back 7) (job.Read 4096 1) false ((await (Driver 0) 2) ∷ [])) ∷ (line (Driver 0) (job.Ask (Unmap 1 4096 12287)) false ((await (Back 7) 1) ∷ [])) ∷ (line (Back 7) (job.Read 8192 1) false ([])) ∷ [])

one_run_turns : List Who
one_run_turns = ((who.Driver 0) ∷ who.Device ∷ (who.Driver 0) ∷ (who.Driver 0) ∷ who.Device ∷ (who.Driver 0) ∷ (who.Back 7) ∷ (who.Back 7) ∷ who.Device ∷ (who.Back 7) ∷ (who.Back 7) ∷ (who.Back 7) ∷ (who.Back 7) ∷ (who.Driver 0) ∷ who.Device ∷ (who.Back 7) ∷ []) ++ times 4 ((who.Driver 0) ∷ (who.Back 7) ∷ who.Device ∷ who.Events ∷ [])

one_run_history : history_of one_run one_run_turns ≡ entry_of (Driver 0) 1 0 (status_answer 0) ∷ entry_of (Driver 0) 2 0 (status_answer 0) ∷ entry_of (Back 7) 1 1 (read_answer (0 ∷ [])) ∷ entry_of (Back 7) 2 1 (read_answer (0 ∷ [])) ∷ entry_of (Driver 0) 3 0 (status_answer 0) ∷ []
unfolding one_run one_run_turns history_of times line await plain script opening turn control_turn accessed_page access_turn driver_turn collect submit device_turn start_call finish serve_ack serve_miss wish ask receive access is_awaited look page_run cut status commit removes closes reading request_bytes start zero_page call_of all_maps all_parts all_transfers
one_run_history = refl

-- A batch: its second request is answered before its first, whose removal waits.
batch : ScriptValue
batch = script 1 (plain 5 ∷ []) ((line (Driver 0) (job.Ask (Attach 1 5 0)) false ([])) ∷ (line (Driver 0) (job.Ask (Map 1 4096 8191 0 3)) false ([])) ∷ (line (Back 5) (job.Read 4096 1) false ((await (Driver 0) 2) ∷ [])) ∷ (line (Driver 0) (job.Ask (Unmap 1 4096 8191)) true ((await (Back 5) 1) ∷ [])) ∷ (line (Driver 0) (job.Ask (Detach 9 5)) false ([])) ∷ [])

batch_turns : List Who
batch_turns = ((who.Driver 0) ∷ who.Device ∷ (who.Driver 0) ∷ (who.Driver 0) ∷ who.Device ∷ (who.Driver 0) ∷ (who.Back 5) ∷ (who.Back 5) ∷ who.Device ∷ (who.Back 5) ∷ (who.Back 5) ∷ (who.Back 5) ∷ (who.Back 5) ∷ (who.Driver 0) ∷ (who.Driver 0) ∷ who.Device ∷ who.Device ∷ []) ++ times 6 ((who.Driver 0) ∷ (who.Back 5) ∷ who.Device ∷ who.Events ∷ [])

batch_history : history_of batch batch_turns ≡ entry_of (Driver 0) 1 0 (status_answer 0) ∷ entry_of (Driver 0) 2 0 (status_answer 0) ∷ entry_of (Back 5) 1 1 (read_answer (0 ∷ [])) ∷ entry_of (Driver 0) 4 0 (status_answer 4) ∷ entry_of (Driver 0) 3 0 (status_answer 0) ∷ []
unfolding batch batch_turns history_of times line await plain script opening turn control_turn accessed_page access_turn driver_turn collect submit device_turn start_call finish serve_ack serve_miss wish ask receive access is_awaited look page_run cut status commit removes closes reading request_bytes start zero_page call_of all_maps all_parts all_transfers
batch_history = refl

-- The bypass field is set and cleared.
bypassed : ScriptValue
bypassed = script 1 (plain 7 ∷ []) ((line (Driver 0) (job.Bypass true) false ([])) ∷ (line (Back 7) (job.Write 0 (85 ∷ [])) false ((await (Driver 0) 1) ∷ [])) ∷ (line (Driver 0) (job.Bypass false) false ((await (Back 7) 1) ∷ [])) ∷ (line (Back 7) (job.Read 0 1) false ((await (Driver 0) 2) ∷ [])) ∷ [])

bypassed_turns : List Who
bypassed_turns = ([]) ++ times 16 ((who.Driver 0) ∷ (who.Back 7) ∷ who.Device ∷ who.Events ∷ [])

bypassed_history : history_of bypassed bypassed_turns ≡ entry_of (Driver 0) 1 0 (set_answer) ∷ entry_of (Back 7) 1 1 (wrote_answer) ∷ entry_of (Driver 0) 2 0 (set_answer) ∷ entry_of (Back 7) 2 1 (fault_answer 1) ∷ []
unfolding bypassed bypassed_turns history_of times line await plain script opening turn control_turn accessed_page access_turn driver_turn collect submit device_turn start_call finish serve_ack serve_miss wish ask receive access is_awaited look page_run cut status commit removes closes reading request_bytes start zero_page call_of all_maps all_parts all_transfers
bypassed_history = refl

-- The first of these scripts can be played, so there are scripts that the laws are about.
setup_is_valid : IsValidSetup read_only.setup
unfolding read_only line await plain script
setup_is_valid = record {
  memory_fits = refl;
  queue_fits = refl;
  cache_fits = refl;
  granule_fits = refl;
  proper = leb-true 0 (2 ^ 64 - 1) refl;
  few = leb-true 1 16 refl;
  endpoints_each = (record { few = leb-true 0 16 refl; regions_each = refl; disjoint = tt }, refl, tt);
}

script_is_valid : IsValid read_only
unfolding read_only line await plain script
script_is_valid = record {
  setup_valid = setup_is_valid;
  turns_each = refl;
  lines_each = refl;
  few = leb-true 4 10000 refl;
  bytes = leb-true 2 16777216 refl;
  calls = leb-true 1 8 refl;
  awaits_each = (refl, (refl, (refl, (refl, tt))));
}

fields_fit : HasFields read_only
unfolding read_only line await plain script
fields_fit = (
  (leb-true 2 (2 ^ 32) refl, leb-true 8 (2 ^ 32) refl, leb-true 1 (2 ^ 32) refl),
  ((leb-true 2 (2 ^ 32) refl, leb-true 4097 (2 ^ 64) refl, leb-true 8192 (2 ^ 64) refl, leb-true 1 (2 ^ 64) refl, leb-true 2 (2 ^ 32) refl), (tt, (tt, tt))),
)

read_only_is_playable : IsPlayable read_only
read_only_is_playable = record { valid = script_is_valid; fields = fields_fit }
