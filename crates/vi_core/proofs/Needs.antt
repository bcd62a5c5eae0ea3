-- What the actors' turns ask of a world's parts, its soundness gives.
use Rattle.std.proofs.Common.{◌≡◌, ◌<◌, ◌≤◌, ℕ, List, length, get_or, set, Some, refl, arith, ap, ap₂, subst, sym, ◌∙◌}
use Rattle.std.proofs.lemmas.List.{get_or_default, length-map}
use Rattle.std.proofs.Math.ListN.{get_or-map}
use Rattle.vi_bytes.specs.declared.region.EndpointSetup.{EndpointSetup}
use Rattle.vi_lines.specs.Value.{ScriptValue}
use Rattle.vi_model.specs.Control.{driver_count}
use Rattle.vi_model.specs.Places.{place_count}
use Rattle.vi_model.specs.Backs.{Wish, Accesses, Asks, Receives, Rests, wish}
use Rattle.vi_model.specs.Worlds.{stand_of}
use Rattle.vi_model.specs.Turns.{wished_page}
use Rattle.vi_driver.specs.Drivers.{OwnDriver, own_driver}
use Rattle.vi_backend.specs.Wishes.{own_wish, shown, IsAccess}
use Rattle.vi_backend.specs.Laws.{WishesAgree}
use Rattle.vi_control.specs.Plan.{Plan, plan_of}
use Rattle.vi_control.specs.Value.{ControlValue}
use Rattle.vi_control.specs.Rooms.{HasTurnRoom, HasRoom}
use Rattle.vi_control.proofs.Sound.{sound_room}
use Rattle.vi_lines.specs.declared.line.Who.TheVariants as who
use Rattle.vi_core.specs.declared.turned.Turned.{Turned}
use Rattle.vi_core.specs.Moves.{HasMoved}
use Rattle.vi_core.specs.DriverTurns.{HasDriveRoom, IsDriversTurn}
use Rattle.vi_core.specs.BackTurns.{HasConverseRoom}
use Rattle.vi_core.specs.Parts.{Parts, world_of, no_driver, no_back, IsDriverOf, IsBackAt, IsKept}
use Rattle.vi_core.proofs.DriveRoom.{drive_room}
use Rattle.vi_core.proofs.ConverseRoom.{converse_room}
use Rattle.vi_sound.proofs.Space.PageRoom.{page_room}
use Rattle.vi_core.proofs.Moving.{many_drivers, many_backs, driver_moves}
use Rattle.vi_core.proofs.MovingBacks.{seat_is, page_wished}

-- a driver of the world is the script's driver with its stand
pub driver_is : (p : Parts) (n : ℕ) → IsKept p → n < driver_count → get_or p.drivers n no_driver ≡ own_driver p.script n (stand_of (world_of p) n)
driver_is p n kept lt =
    let d : OwnDriver = get_or p.drivers n no_driver in
    let is : IsDriverOf p.script n d = kept.drivers n lt in
    ap₂ (λ m ls. let x : OwnDriver = record { number = m; lines = ls; stand = d.stand } in x) is.number_is is.lines_are
    ∙ ap (own_driver p.script n) (sym (get_or-map (λ (x : OwnDriver). x.stand) p.drivers n no_driver))

pub drive_needs : (p : Parts) (n : ℕ) → IsKept p → n < driver_count
    → HasDriveRoom (let c : ControlValue = p.control in c.plan) (let c : ControlValue = p.control in c.state) (get_or p.drivers n no_driver)
drive_needs p n kept lt =
    subst (λ plan. HasDriveRoom plan (let c : ControlValue = p.control in c.state) (get_or p.drivers n no_driver)) (sym kept.plan)
    (subst (HasDriveRoom (plan_of p.script) (let c : ControlValue = p.control in c.state)) (sym (driver_is p n kept lt)) (drive_room p.script (world_of p) n kept.playable kept.sound lt))

pub converse_needs : (p : Parts) (place : ℕ) → IsKept p → place < place_count p.script
    → HasConverseRoom (let c : ControlValue = p.control in c.plan) (let c : ControlValue = p.control in c.state) place (get_or p.backs place no_back)
converse_needs p place kept lt =
    let at : IsBackAt p.script place (get_or p.backs place no_back) = kept.backs place lt in
    subst (λ plan. HasConverseRoom plan (let c : ControlValue = p.control in c.state) place (get_or p.backs place no_back)) (sym kept.plan)
    (converse_room p.script (world_of p) place (get_or p.backs place no_back) kept.playable kept.sound lt at.back at.own (sym (seat_is p place)))

places_are : (s : ScriptValue) → length (let plan : Plan = plan_of s in plan.ids) ≡ place_count s
unfolding plan_of
places_are s = refl

pub serve_needs : (p : Parts) → IsKept p → HasRoom p.control
serve_needs p kept =
    subst (λ n. HasTurnRoom n (let c : ControlValue = p.control in c.state)) (sym (ap (λ (plan : Plan). length plan.ids) kept.plan ∙ places_are p.script)) (sound_room p.script (world_of p) kept.playable kept.sound)

-- the page that a back end wishes to access is there
pub page_there : (p : Parts) (place page : ℕ) → WishesAgree → IsKept p → place < place_count p.script → wished_page (own_wish (get_or p.backs place no_back)) ≡ Some page → page < length p.pages
page_there p place page agree kept lt wishes =
    let at : IsBackAt p.script place (get_or p.backs place no_back) = kept.backs place lt in
    let f = page_wished (own_wish (get_or p.backs place no_back)) page wishes in
    subst (λ n. n < length p.pages) f.3
    (page_room p.script (world_of p) place f.0 f.1 kept.playable kept.sound lt (ap (wish p.script place) (seat_is p place) ∙ sym (agree p.script place (get_or p.backs place no_back) at.own at.back) ∙ f.2))

-- and it is an access that it wishes for
pub wishes_access : (h : Wish) (page : ℕ) → wished_page h ≡ Some page → IsAccess (shown h)
wishes_access (Accesses l a) page e = tt
wishes_access (Asks m) page e = absurd cc
wishes_access (Receives tests) page e = absurd cc
wishes_access Rests page e = absurd cc

-- an element that was read is the one that is there
pub read_is : {X : Type 0} (xs : List X) (i : ℕ) (v d : X) → v ≡ get_or xs i v → i < length xs → v ≡ get_or xs i d
read_is xs i v d e lt = e ∙ get_or_default xs i v d lt

driver_below : (p : Parts) (n : ℕ) → IsKept p → n < driver_count → n < length p.drivers
driver_below p n kept lt = let e = many_drivers p kept in omega (arith, e, lt)

pub back_below : (p : Parts) (place : ℕ) → IsKept p → place < place_count p.script → place < length p.backs
back_below p place kept lt = let e = many_backs p kept in omega (arith, e, lt)

-- a driver that was read drives
pub read_drives : (p : Parts) (n : ℕ) (v : OwnDriver) → IsKept p → n < driver_count → v ≡ get_or p.drivers n v
    → HasDriveRoom (let c : ControlValue = p.control in c.plan) (let c : ControlValue = p.control in c.state) v
read_drives p n v kept lt e =
    subst (HasDriveRoom (let c : ControlValue = p.control in c.plan) (let c : ControlValue = p.control in c.state)) (sym (read_is p.drivers n v no_driver e (driver_below p n kept lt))) (drive_needs p n kept lt)

pub read_driven : (p : Parts) (n : ℕ) (v : OwnDriver) (c : ControlValue) (d : OwnDriver) (t : Turned) → IsKept p → n < driver_count → v ≡ get_or p.drivers n v
    → IsDriversTurn p.control c v d t → c.plan ≡ (let old : ControlValue = p.control in old.plan) → HasMoved (who.Driver n) p (record p { control = c; drivers = set p.drivers n d }) t
read_driven p n v c d t kept lt e turns plan =
    driver_moves p n c d t kept lt (subst (λ x. IsDriversTurn p.control c x d t) (read_is p.drivers n v no_driver e (driver_below p n kept lt)) turns) plan

-- there are at most 16 back ends
pub few_places : (p : Parts) → IsKept p → place_count p.script ≤ 16
few_places p kept = let e = length-map p.script.setup.endpoints (λ (x : EndpointSetup). x.id) in let few = kept.playable.valid.setup_valid.few in omega (arith, e, few)
