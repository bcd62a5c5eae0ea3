-- A back end's turn over its own lines and the control, where it is no access.
use Rattle.std.specs.Prelude.{◌≡◌, ◌<◌, ℕ, Bool, true, ◌&&◌, ◌||◌, nat_lt, if◌then◌else◌, List, [], ◌∷◌, length, map, take, drop, get_or, All, Option, Some, None}
use Rattle.std.specs.List.{list_all}
use Rattle.vi_bytes.specs.declared.span.Span.{Span}
use Rattle.vi_history.specs.declared.call.Caller.TheVariants.{Back}
use Rattle.vi_iotlb.specs.declared.frame.Frame.{Frame}
use Rattle.vi_lines.specs.declared.line.Who.TheVariants as who
use Rattle.vi_lines.specs.Value.{ScriptValue}
use Rattle.vi_model.specs.Lanes.{Down, Invalidate, Miss}
use Rattle.vi_model.specs.Control.{Link, Control, link_of, with_link}
use Rattle.vi_model.specs.Places.{place_in, place_of}
use Rattle.vi_model.specs.Backs.{Seat, Exchange, Asks, wish, ask, receive, heard}
use Rattle.vi_model.specs.Actors.{seat_in, back_actor}
use Rattle.vi_model.specs.Turns.{ControlTurn, AccessTurn, wished, access_turn}
use Rattle.vi_backend.specs.declared.wish.Done.{Done}
use Rattle.vi_backend.specs.Own.{Own, IsOwn, IsBackOf}
use Rattle.vi_backend.specs.Wishes.{own_wish, own_awaits, tests_in}
use Rattle.vi_core.specs.declared.turned.Turned.{Turned}
use Rattle.vi_core.specs.declared.turned.Turned.TheVariants.{Moved}
use Rattle.vi_core.specs.Turning.{turned_of}
use Rattle.vi_core.specs.Posting.{is_posted_by}
use Rattle.vi_control.specs.Calls.{IsCaller, posted_by, with_posted, sent}
use Rattle.vi_control.specs.Plan.{Plan, plan_of, transfer_of}
use Rattle.vi_control.specs.Value.{ControlValue, with_state, entry_with}

-- each of the back ends' five tables has a row for each of so many places
pub record HasRows (places : ℕ) (c : Control) : Type 0 where
  pub grants : length c.grants ≡ places
  pub spares : length c.spares ≡ places
  pub mail : length c.mail ≡ places
  pub parked : length c.parked ≡ places
  pub posted : length c.posted ≡ places

-- no miss of it is on its way up, and none is parked
pub record HasNoMiss (x : Link) : Type 0 where
  pub up : x.up ≡ []
  pub parked : x.parked ≡ None

-- What a back end's turn under control needs, which a sound world gives it: it is the back end at its place, and the
-- control knows its transfers and what it last posted; it asks where no miss of it is open, finds room to acknowledge
-- an Invalidate, and has a Reply under way only where its miss is open; and what it awaits is of callers that there are.
pub record HasConverseRoom (plan : Plan) (c : Control) (place : ℕ) (b : Own) : Type 0 where
  pub own : IsOwn b
  pub below : place < length plan.ids
  pub endpoint : place_in plan.ids b.id ≡ place
  pub rows : HasRows (length plan.ids) c
  pub transfers : get_or plan.transfers place [] ≡ map (λ l. transfer_of l.job) b.lines
  pub told : (let x : Link = link_of c place in x.posted) ≡ b.seat.told
  pub asks : (m : Miss) → own_wish b ≡ Asks m → HasNoMiss (link_of c place)
  pub acks : (reach : Option Span) (rest : List Down) → (let x : Link = link_of c place in x.down) ≡ Invalidate reach ∷ rest → (let x : Link = link_of c place in x.acks) < 8
  pub reply : (fault : Bool) (rest : List Bool) → (let x : Link = link_of c place in x.replies) ≡ fault ∷ rest → b.seat.asking ≡ true
  pub awaited : All (λ a. IsCaller plan.ids a.caller) (own_awaits b)

-- a back end's turn of a script, where it is no access
abbrev pub converse_of : ScriptValue → Control → ℕ → Seat → ControlTurn
converse_of s c place z = wished s place c (back_actor z) (wish s place z)

-- what a turn left is what this one says
pub record Conversed (t : ControlTurn) (old new : ControlValue) (before after : Own) (turned : Turned) : Type 0 where
  pub control : new ≡ with_state t.control old
  pub back : after ≡ record before { seat = seat_in t.actor }
  pub turned_is : turned_of turned ≡ t.turned

-- it is the back end's turn, whichever script both are of
abbrev pub IsBacksTurn : ℕ → ControlValue → ControlValue → Own → Own → Turned → Type 0
IsBacksTurn place old new before after turned = (s : ScriptValue) → plan_of s ≡ old.plan → IsBackOf s place before → Conversed (converse_of s old.state place before.seat) old new before after turned

-- what a turn did: it moved, or else waits or rests
abbrev pub turned_by : Bool → Turned → Turned
turned_by moved idle = if moved then Moved else idle

-- what an exchange left is what this one says
pub record Exchanged (place : ℕ) (m : Exchange) (old new : ControlValue) (before after : Own) (moved : Bool) : Type 0 where
  pub control : new ≡ with_state (with_link old.state place m.link) old
  pub back : after ≡ record before { seat = m.seat }
  pub moved_is : moved ≡ m.moved

-- it asked for what it wishes
abbrev pub HasAsked : ℕ → ControlValue → ControlValue → Own → Own → Type 0
HasAsked place old new before after = (m : Miss) → own_wish before ≡ Asks m → Exchanged place (ask (link_of old.state place) before.seat m) old new before after true

-- it received as its wish says, whichever script both are of
abbrev pub HasReceived : ℕ → ControlValue → ControlValue → Own → Own → Bool → Type 0
HasReceived place old new before after moved = (s : ScriptValue) → plan_of s ≡ old.plan → IsBackOf s place before
    → Exchanged place (receive s old.state place (tests_in (own_wish before)) (link_of old.state place) before.seat) old new before after moved

-- it wishes to test whether the lines that it awaits are posted, and they are
abbrev pub finds_posted : List ℕ → Control → Own → Bool
finds_posted ids c b = tests_in (own_wish b) && list_all (is_posted_by ids c) (own_awaits b)

-- the control after the back end posted the number of its finished lines
abbrev pub after_posting : Own → ControlValue → ControlValue
after_posting b v = with_state (with_posted v.plan.ids (Back b.id) b.seat.finished v.state) v

-- and after it answered, if it did
abbrev pub after_answer : ℕ → Option Frame → ControlValue → ControlValue
after_answer place None v = v
after_answer place (Some answer) v = with_state (sent v.plan place answer v.state) v

-- the back end after it received no frame, and whether that moved it
abbrev pub after_hearing : List ℕ → Control → Own → Own
after_hearing ids c b = record b { seat = heard b.seat (b.seat.ready || finds_posted ids c b) }

abbrev pub hearing_moves : List ℕ → Control → Own → Bool
hearing_moves ids c b = nat_lt (posted_by ids c (Back b.id)) b.seat.finished || (nat_lt 0 b.seat.since || finds_posted ids c b)

-- What an access of a script left is what this one says: the page, the back end, and the entry, whose bytes stand on
-- the page as it was.
pub record Reached (t : AccessTurn) (old new : List ℕ) (before after : Own) (done : Done) : Type 0 where
  pub page : new ≡ t.page
  pub back : after ≡ record before { seat = seat_in t.actor }
  pub entry : t.entry ≡ Some (entry_with (take done.len (drop done.from old)) done.mark)

-- it is the back end's access, whichever script it is of
abbrev pub IsBacksAccess : List ℕ → List ℕ → Own → Own → Done → Type 0
IsBacksAccess old new before after done = (s : ScriptValue) → IsBackOf s (place_of s before.id) before → Reached (access_turn s (who.Back before.id) (back_actor before.seat) old) old new before after done
