-- The device serves a miss that was taken, and which rule of its turn that is.
use Rattle.std.proofs.Common.{◌≡◌, ℕ, ◌<◌, Bool, true, false, cond, ◌||◌, nat_lt, List, [], ◌∷◌, length, drop, get_or, set, slice_get, find, Option, Some, None, is_some, refl, ap, sym, ◌∙◌, arith}
use Rattle.std.specs.List.{range_with_len}
use Rattle.std.proofs.lemmas.Bool.Decides.{nat_tests}
use Rattle.std.proofs.lemmas.List.{get_or-set_same}
use Rattle.vi_history.specs.Device.{Dev}
use Rattle.vi_history.specs.Replies.{fault_answer}
use Rattle.vi_history.specs.Translation.{translate}
use Rattle.vi_history.specs.declared.found.Found.{Found}
use Rattle.vi_history.specs.declared.found.Found.TheVariants as found
use Rattle.vi_lanes.specs.Value.{LanesValue, lanes_at, parked_at, with_lanes, with_parked, without_miss}
use Rattle.vi_model.specs.Bounds.{HasMissRoom}
use Rattle.vi_model.specs.Control.{Link, Control, Made, Queued, link_of, lanes_of, with_link, no_lanes}
use Rattle.vi_model.specs.Device as model
use Rattle.vi_model.specs.Device.{device_turn}
use Rattle.vi_model.specs.Lanes.{Lanes, Miss}
use Rattle.vi_model.specs.Places.{id_at, back_at}
use Rattle.vi_model.specs.Removals.{Removal, is_ready}
use Rattle.vi_model.specs.Serves.{page_of, is_shut, serve_found, serve_miss, serve_ack, parked_link, noted, miss_record}
use Rattle.vi_model.specs.Starts.{entry_of}
use Rattle.vi_removals.specs.Value.{RemovalsValue}
use Rattle.vi_lines.specs.Value.{ScriptValue}
use Rattle.vi_control.specs.Inner.{seen}
use Rattle.vi_control.specs.Serving.{HasGrantRoom, HasFaultRoom}
use Rattle.vi_control.specs.Places.{is_free_at, first_free_in, has_frame_in, first_frame_in}
use Rattle.vi_control.specs.Work.{work_of, finish_work, queue_work, setting_work, Serves}
use Rattle.vi_control.specs.declared.control.Control.TheInside.{Inside}
use Rattle.vi_control.proofs.Finding.{found_passes}
use Rattle.vi_control.proofs.Linking.{set_set, link_tables, state_parked, state_lanes}
use Rattle.vi_control.proofs.Missing.{quiet, loud}

-- a row that is written twice
link_twice : (c : Control) (place : ℕ) (x y : Link) → with_link (with_link c place x) place y ≡ with_link c place y
link_twice c place x y =
    link_tables (with_link c place x) place y _ _ _ _ _ (set_set c.grants place x.grants y.grants) (set_set c.spares place x.spare y.spare) (set_set c.mail place (lanes_of x) (lanes_of y)) (set_set c.parked place x.parked y.parked) (set_set c.posted place x.posted y.posted)

-- it is one whether the row without the miss was written before or not
serve_again : (s : ScriptValue) (c : Control) (place : ℕ) (x : Link) (m : Miss) → serve_miss s (with_link c place x) place x m ≡ serve_miss s c place x m
unfolding serve_miss
serve_again s c place x m = go (is_shut s c place m) (translate c.dev (id_at s place) m.iova m.need)
  where
    go : (b : Bool) (f : Found)
        → cond b (quiet (with_link (with_link c place x) place (parked_link x m))) (serve_found s (with_link c place x) place x m f) ≡ cond b (quiet (with_link c place (parked_link x m))) (serve_found s c place x m f)
    go true f = ap quiet (link_twice c place x (parked_link x m))
    go false (found.At target) = ap quiet (link_twice c place x _)
    go false (found.Fault reason) =
        ap (λ (d : Control). loud (record d { events = noted s.setup.queue c.events (miss_record s place m reason) }) (entry_of (back_at s place) m.line m.part (fault_answer reason))) (link_twice c place x _)

serve_moved : (s : ScriptValue) (c d : Control) (place : ℕ) (x : Link) (m : Miss) → d ≡ with_link c place x → link_of d place ≡ x → serve_miss s d place (link_of d place) m ≡ serve_miss s c place x m
serve_moved s c d place x m same link = ap (λ y. serve_miss s d place y m) link ∙ (ap (λ e. serve_miss s e place x m) same ∙ serve_again s c place x m)

-- a miss that isn't parked any more
abbrev pub unparked : Inside → ℕ → Inside
unparked p place = record p { lanes = with_parked place None p.lanes }

pub served_parked : (s : ScriptValue) (p : Inside) (place : ℕ) (m : Miss) (made : Made) → get_or p.lanes.parked place None ≡ Some m → get_or (set p.lanes.parked place None) place None ≡ None
    → serve_miss s (seen (unparked p place)).state place (link_of (seen (unparked p place)).state place) m ≡ made
    → model.serve_parked s (seen p).state place (let x : Link = link_of (seen p).state place in x.parked) ≡ Some made
served_parked s p place m made here free served =
    let x : Link = link_of (seen p).state place in
    ap (model.serve_parked s (seen p).state place) here
    ∙ ap Some (sym (serve_moved s (seen p).state (seen (unparked p place)).state place (record x { parked = None }) m (sym (state_parked p place None)) (ap (λ o. (let y : Link = record x { parked = o } in y)) free)) ∙ served)

-- a miss that left its lane
abbrev pub taken_up : Inside → ℕ → Inside
taken_up p place = record p { lanes = with_lanes place (without_miss (lanes_at place p.lanes)) p.lanes }

pub up_first : (up : List Miss) (m : Miss) → Some m ≡ slice_get up 0 → up ≡ m ∷ drop 1 up
up_first [] m e = absurd cc
up_first (n ∷ up) m e = let same : n ≡ m = cc in ap (λ x. x ∷ up) same

pub served_up : (s : ScriptValue) (p : Inside) (place : ℕ) (m : Miss) (made : Made) → Some m ≡ slice_get (lanes_at place p.lanes).up 0 → place < length p.lanes.mail
    → serve_miss s (seen (taken_up p place)).state place (link_of (seen (taken_up p place)).state place) m ≡ made
    → model.serve_up s (seen p).state place (let x : Link = link_of (seen p).state place in x.up) ≡ Some made
served_up s p place m made first below served =
    let x : Link = link_of (seen p).state place in
    let left : Lanes = without_miss (lanes_at place p.lanes) in
    let there : get_or (set p.lanes.mail place left) place no_lanes ≡ left = get_or-set_same p.lanes.mail place left no_lanes below in
    ap (model.serve_up s (seen p).state place) (up_first (lanes_at place p.lanes).up m first)
    ∙ ap Some (sym (serve_moved s (seen p).state (seen (taken_up p place)).state place (record x { up = drop 1 (lanes_at place p.lanes).up }) m (sym (state_lanes p place left)) (ap (λ (l : Lanes). (let y : Link = record x { down = l.down; acks = l.acks; up = l.up; replies = l.replies } in y)) there)) ∙ served)

-- the room is still there
pub taken_room : (p : Inside) (place : ℕ) (m : Miss) → place < length p.lanes.mail → HasMissRoom (seen p).state (link_of (seen p).state place) m
    → HasGrantRoom (link_of (seen (taken_up p place)).state place) (page_of m.iova)
taken_room p place m below room =
    let left : Lanes = without_miss (lanes_at place p.lanes) in
    let there : get_or (set p.lanes.mail place left) place no_lanes ≡ left = get_or-set_same p.lanes.mail place left no_lanes below in
    record { grant = room.grant; update = rw there room.update; reply = rw there room.reply }

pub taken_fault : (p : Inside) (place : ℕ) (m : Miss) → place < length p.lanes.mail → HasMissRoom (seen p).state (link_of (seen p).state place) m
    → HasFaultRoom (seen (taken_up p place)).state (link_of (seen (taken_up p place)).state place)
taken_fault p place m below room =
    let left : Lanes = without_miss (lanes_at place p.lanes) in
    let there : get_or (set p.lanes.mail place left) place no_lanes ≡ left = get_or-set_same p.lanes.mail place left no_lanes below in
    record { reply = rw there room.reply; shown = room.shown; faults = room.faults }

-- ---- the rules

pub turn_parked : (s : ScriptValue) (c : Control) (place : ℕ) → Serves (work_of s c) → model.first_free s c ≡ Some place → device_turn s c ≡ model.serve_parked s c place (let x : Link = link_of c place in x.parked)
unfolding work_of device_turn
turn_parked s c place serves free = go (find is_ready c.removals) serves
  where
    go : (o : Option Removal) → Serves (finish_work s c o) → model.rule_finish s c o ≡ model.serve_parked s c place (let x : Link = link_of c place in x.parked)
    go None serves = ap (model.rule_parked s c) free
    go (Some r) serves = absurd serves

pub turn_frame : (s : ScriptValue) (c : Control) (place : ℕ) → Serves (work_of s c) → model.first_free s c ≡ None → model.first_frame s c ≡ Some place → device_turn s c ≡ model.serve_frame s c place
unfolding work_of device_turn
turn_frame s c place serves free frame = go (find is_ready c.removals) serves
  where
    go : (o : Option Removal) → Serves (finish_work s c o) → model.rule_finish s c o ≡ model.serve_frame s c place
    go None serves = ap (model.rule_parked s c) free ∙ ap (model.rule_frame s c) frame
    go (Some r) serves = absurd serves

pub no_turn : (s : ScriptValue) (c : Control) → Serves (work_of s c) → model.first_free s c ≡ None → model.first_frame s c ≡ None → ⊥
unfolding work_of
no_turn s c serves free frame = go (find is_ready c.removals) serves
  where
    setting : (o : Option ℕ) → Serves (setting_work o) → ⊥
    setting None serves = serves
    setting (Some driver) serves = serves

    queue : (qs : List Queued) → Serves (queue_work c qs) → ⊥
    queue [] serves = setting (model.first_setting c) serves
    queue (q ∷ qs) serves = serves

    go : (o : Option Removal) → Serves (finish_work s c o) → ⊥
    go None serves = queue c.queue (rw (free, frame) at serves)
    go (Some r) serves = serves

-- an acknowledgement is served before a miss
pub frame_ack : (s : ScriptValue) (c : Control) (place : ℕ) → nat_lt 0 (let x : Link = link_of c place in x.acks) ≡ true → model.serve_frame s c place ≡ Some (quiet (serve_ack c place))
frame_ack s c place some = ap (λ b. cond b (Some (quiet (serve_ack c place))) (model.serve_up s c place (let x : Link = link_of c place in x.up))) some

pub frame_up : (s : ScriptValue) (c : Control) (place : ℕ) → nat_lt 0 (let x : Link = link_of c place in x.acks) ≡ false → model.serve_frame s c place ≡ model.serve_up s c place (let x : Link = link_of c place in x.up)
frame_up s c place none = ap (λ b. cond b (Some (quiet (serve_ack c place))) (model.serve_up s c place (let x : Link = link_of c place in x.up))) none

-- ---- what was found

-- a parked miss whose page isn't closed is there
pub free_is_there : (dev : Dev) (removals : RemovalsValue) (lanes : LanesValue) (place : ℕ) → first_free_in dev removals lanes ≡ Some place → is_some (parked_at place lanes) ≡ true
free_is_there dev removals lanes place e = go (parked_at place lanes) (found_passes (λ i. is_free_at dev removals i (parked_at i lanes)) (range_with_len 0 (length removals.ids)) place e)
  where
    go : (o : Option Miss) → is_free_at dev removals place o ≡ true → is_some o ≡ true
    go None passes = absurd cc
    go (Some m) passes = refl

-- a frame that is no acknowledgement is a miss
pub frame_is_there : (lanes : LanesValue) (places place : ℕ) → first_frame_in places lanes ≡ Some place → nat_lt 0 (lanes_at place lanes).acks ≡ false → 0 < length (lanes_at place lanes).up
frame_is_there lanes places place e none =
    let passes = found_passes (λ i. has_frame_in (lanes_at i lanes)) (range_with_len 0 places) place e in
    let up : nat_lt 0 (length (lanes_at place lanes).up) ≡ true = ap (λ b. b || nat_lt 0 (length (lanes_at place lanes).up)) (sym none) ∙ passes in
    grind (arith, nat_tests, up)
