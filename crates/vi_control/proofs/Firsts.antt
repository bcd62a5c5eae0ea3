-- What may be done with a control in which nothing has happened.
use Rattle.std.proofs.Common.{◌≡◌, ℕ, false, List, [], ◌∷◌, Option, Some, None, length, get_or, replicate, refl, ap, sym, ◌∙◌, arith}
use Rattle.std.proofs.lemmas.Bool.{false≢true}
use Rattle.vi_bytes.specs.Parts.{IsTransfer}
use Rattle.vi_history.specs.Requests.{reading}
use Rattle.vi_lines.specs.Valid.{IsValid}
use Rattle.vi_lines.specs.Value.{ScriptValue}
use Rattle.vi_model.specs.Control.{Queued, Setting, Port, Control, driver_count, no_port, no_lanes, link_of}
use Rattle.vi_model.specs.Drivers.{left, Chain}
use Rattle.vi_model.specs.Lanes.{Lanes}
use Rattle.vi_model.specs.Places.{place_count}
use Rattle.vi_lines.specs.Fields.{HasFields}
use Rattle.vi_model.specs.Playable.{IsPlayable}
use Rattle.vi_model.specs.Rooms.{is_map}
use Rattle.vi_model.specs.Worlds.{opening, opening_control}
use Rattle.vi_model.specs.declared.task.Task.TheVariants.{Reads}
use Rattle.vi_sound.proofs.Laws.{opening_is_sound}
use Rattle.vi_sound.proofs.Moves.Opening.{same_all}
use Rattle.vi_control.specs.Asked.{transfer_at}
use Rattle.vi_control.specs.Calls.{MayAsk}
use Rattle.vi_control.specs.Plan.{Plan, plan_of}
use Rattle.vi_control.specs.Rooms.{HasTurnRoom, HasRoom}
use Rattle.vi_control.specs.Value.{ControlValue}
use Rattle.vi_control.proofs.Sound.{sound_room}

pub may_ask : (s : ScriptValue) (plan : Plan) (iova len : ℕ) → IsTransfer iova len → (transfer_at plan 0 1).iova ≡ iova → MayAsk plan 0 (link_of (opening_control s) 0) iova len
may_ask s plan iova len t e =
    let none : ◌≡◌ {A = ℕ} (get_or (replicate (place_count s) 0) 0 0) 0 = same_all (place_count s) 0 0 in
    record {
      transfer = t;
      up = ap (λ (l : Lanes). l.up) (same_all (place_count s) 0 no_lanes);
      parked = same_all (place_count s) 0 None;
      few = omega (arith, none);
      within = rw none (record { low = omega (arith, e); high = omega (arith, e) });
    }

-- its device has room for a turn
first_room : (s : ScriptValue) → IsValid s → HasFields s → HasTurnRoom (place_count s) (opening_control s)
unfolding opening
first_room s valid fields = let play : IsPlayable s = record { valid = valid; fields = fields } in sound_room s (opening s) play (opening_is_sound s play)

pub opening_room : (s : ScriptValue) (v : ControlValue) → IsValid s → HasFields s → v.plan ≡ plan_of s → v.state ≡ opening_control s → HasRoom v
unfolding plan_of
opening_room s v valid fields p e = rw (p, e) (first_room s valid fields)

nothing_left : (x : Setting) → ◌≡◌ {A = Option Setting} None (Some x) → ⊥
nothing_left x e = cc

-- and so it has where a request waits that is no MAP
queued_room : (s : ScriptValue) (read : List ℕ) (write : ℕ) → is_map (Some (Reads (reading read write))) ≡ false → HasTurnRoom (place_count s) (opening_control s)
    → HasTurnRoom (place_count s) (left (opening_control s) 0 1 (Chain read write))
queued_room s read write none room =
    let c : Control = opening_control s in
    record {
      whole = room.whole;
      calls = omega arith;
      request = λ q rest e.
          let same : record { driver = 0; line = 1; read = read; write = write } ≡ q = cc in
          record {
            removal = omega arith;
            lanes = λ place below. let down = ap (λ (l : Lanes). length l.down) (same_all (place_count s) place no_lanes) in omega (arith, down);
            mapping = λ is domain. absurd (false≢true (sym none ∙ (ap (λ (x : Queued). is_map (Some (Reads (reading x.read x.write)))) same ∙ is)));
          };
      setting = λ driver x below e. let none = ap (λ (p : Port). p.setting) (same_all driver_count driver no_port) in absurd (nothing_left x (sym none ∙ e));
      miss = λ place m below there.
          let r = room.miss place m below there in
          record { grant = r.grant; update = r.update; reply = r.reply; shown = r.shown; faults = r.faults; alone = r.alone };
      acks = room.acks;
    }

pub started_room : (s : ScriptValue) (v : ControlValue) (read : List ℕ) (write : ℕ) → IsValid s → HasFields s → v.plan ≡ plan_of s → v.state ≡ left (opening_control s) 0 1 (Chain read write)
    → is_map (Some (Reads (reading read write))) ≡ false → HasRoom v
unfolding plan_of
started_room s v read write valid fields p e none = rw (p, e) (queued_room s read write none (first_room s valid fields))

-- a request of one byte asks for nothing
pub nothing_asked : is_map (Some (Reads (reading (9 ∷ []) 0))) ≡ false
unfolding reading
nothing_asked = refl
