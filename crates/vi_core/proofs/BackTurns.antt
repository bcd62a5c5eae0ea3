-- A back end asks and receives.
use Rattle.std.proofs.Common.{◌≡◌, ◌&&◌, ◌||◌, nat_lt, nat_le, ℕ, Bool, true, false, cond, List, [], ◌∷◌, length, get_or, drop, Some, None, refl, ◌∙◌, ap, sym, subst}
use Rattle.std.specs.List.{list_all}
use Rattle.vi_history.specs.declared.call.Caller.{Caller}
use Rattle.vi_history.specs.declared.call.Caller.TheVariants.{Driver, Back}
use Rattle.vi_iotlb.specs.declared.frame.Frame.{Frame}
use Rattle.vi_iotlb.specs.declared.frame.Frame.TheVariants as frame
use Rattle.vi_lines.specs.declared.line.Await.{Await}
use Rattle.vi_lines.specs.Value.{ScriptValue}
use Rattle.vi_lanes.specs.Frames.{next_frame, next_in, down_frame}
use Rattle.vi_model.specs.Lanes.{Down, Update, Invalidate, Miss}
use Rattle.vi_model.specs.Control.{Link, Control, link_of, lanes_of, with_link}
use Rattle.vi_model.specs.Places.{place_in}
use Rattle.vi_model.specs.Places.{ids_of}
use Rattle.vi_model.specs.Posted.{posted_of, all_posted}
use Rattle.vi_model.specs.Backs.{Seat, Exchange, Asks, ask, receive, take_down, take_reply, heard, finds}
use Rattle.vi_model.specs.Backs as model
use Rattle.vi_backend.specs.Own.{Own, IsBackOf}
use Rattle.vi_backend.specs.Accesses.{asked_seat}
use Rattle.vi_backend.specs.Frames.{answer_to, after as taken, down_frame as back_frame}
use Rattle.vi_backend.specs.Laws.{AwaitsAgree, FramesAgree}
use Rattle.vi_backend.specs.Wishes.{own_wish, own_awaits, tests_in, shown, frame_of}
use Rattle.vi_backend.specs.declared.wish.Wish.TheVariants as shows
use Rattle.vi_control.specs.Asked.{asked_at}
use Rattle.vi_control.specs.Calls.{MayAsk, MaySend, posted_by, with_miss, sent, sent_link, received, received_from}
use Rattle.vi_control.specs.Plan.{Plan, plan_of}
use Rattle.vi_control.specs.Value.{ControlValue, with_state}
use Rattle.vi_core.specs.BackTurns.{HasConverseRoom, HasNoMiss, Exchanged, HasAsked, HasReceived, finds_posted, after_posting, after_answer, after_hearing, hearing_moves}
use Rattle.vi_core.specs.Posting.{is_posted_by}
use Rattle.vi_core.proofs.BackTurnsLinks.{with_count, same_link, link_kept, posted_link, posted_with, sent_with}
use Rattle.vi_core.proofs.BackTurnsAsks.{PartsAllJoin, IsQuestion, is_question}

-- what its holder is told to ask by is the frame of the miss that it wishes to send
pub shown_ask : (w : model.Wish) (f : Frame) → shown w ≡ shows.Ask f → (m : Miss) × (w ≡ Asks m) × (f ≡ frame_of m)
shown_ask (model.Accesses lease a) f h = absurd cc
shown_ask (model.Asks m) f h = (m, refl, cc)
shown_ask (model.Receives tests) f h = absurd cc
shown_ask model.Rests f h = absurd cc

-- a miss is sent as its frame
sent_miss : (plan : Plan) (place : ℕ) (m : Miss) (x : Link) → asked_at plan place x.posted m.iova m.len m.need m.fail ≡ m → sent_link plan place (frame_of m) x ≡ with_miss m x
sent_miss plan place m x h = go m.fail h where
  go : (b : Bool) → asked_at plan place x.posted m.iova m.len m.need b ≡ m → sent_link plan place (cond b (frame.AccessFail m.iova m.len m.need) (frame.Miss m.iova m.len m.need)) x ≡ with_miss m x
  go true h = ap (λ k. with_miss k x) h
  go false h = ap (λ k. with_miss k x) h

may_send_miss : (plan : Plan) (place : ℕ) (m : Miss) (x : Link) → MayAsk plan place x m.iova m.len → MaySend plan place x (frame_of m)
may_send_miss plan place m x h = go m.fail where
  go : (b : Bool) → MaySend plan place x (cond b (frame.AccessFail m.iova m.len m.need) (frame.Miss m.iova m.len m.need))
  go true = h
  go false = h

-- the row after a posting
posted_row : (v : ControlValue) (place : ℕ) (b : Own) → HasConverseRoom v.plan v.state place b → link_of (after_posting b v).state place ≡ with_count (link_of v.state place) b.seat.finished
posted_row v place b room =
    ap (λ c. link_of c place) (posted_link v.state v.plan.ids place b.id b.seat.finished room.endpoint)
    ∙ same_link v.state place (length v.plan.ids) (with_count (link_of v.state place) b.seat.finished) room.rows room.below

-- what it wishes to ask may be sent after the posting
pub may_ask : (old mid : ControlValue) (place : ℕ) (b : Own) (f : Frame) → HasConverseRoom old.plan old.state place b → PartsAllJoin → shown (own_wish b) ≡ shows.Ask f → mid ≡ after_posting b old
    → MaySend mid.plan place (link_of mid.state place) f
may_ask old mid place b f room joins h is =
    let t = shown_ask (own_wish b) f h in
    let q : IsQuestion old.plan place b t.0 = is_question old.plan place b t.0 room.own room.transfers joins t.1 in
    let alone : HasNoMiss (link_of old.state place) = room.asks t.0 t.1 in
    let may : MayAsk old.plan place (with_count (link_of old.state place) b.seat.finished) t.0.iova t.0.len = record { transfer = q.transfer; up = alone.up; parked = alone.parked; few = q.few; within = q.within } in
    let sends : MaySend old.plan place (with_count (link_of old.state place) b.seat.finished) (frame_of t.0) = may_send_miss old.plan place t.0 _ may in
    rw (is, posted_row old place b room, t.2) sends

-- it posts and asks
pub asks : (old mid new : ControlValue) (place : ℕ) (before after : Own) (f : Frame) → HasConverseRoom old.plan old.state place before → PartsAllJoin → shown (own_wish before) ≡ shows.Ask f → mid ≡ after_posting before old
    → new ≡ with_state (sent mid.plan place f mid.state) mid → after ≡ record before { seat = asked_seat before.seat } → HasAsked place old new before after
unfolding ask
asks old mid new place before after f room joins h is n a m w =
    let t = shown_ask (own_wish before) f h in
    let same : t.0 ≡ m = cc in
    let frame_is : f ≡ frame_of m = t.2 ∙ ap frame_of same in
    let q : IsQuestion old.plan place before m = is_question old.plan place before m room.own room.transfers joins w in
    let x : Link = with_count (link_of old.state place) before.seat.finished in
    let row : sent old.plan place f (after_posting before old).state ≡ with_link old.state place (with_miss m x) =
    ap (λ c. sent old.plan place f c) (posted_link old.state old.plan.ids place before.id before.seat.finished room.endpoint)
    ∙ sent_with old.plan old.state place (length old.plan.ids) x f room.rows room.below
    ∙ ap (λ g. with_link old.state place (sent_link old.plan place g x)) frame_is
    ∙ ap (with_link old.state place) (sent_miss old.plan place m x q.asked) in
    record {
      control = n ∙ ap (λ (v : ControlValue). with_state (sent v.plan place f v.state) v) is ∙ ap (λ c. with_state c old) row;
      back = a;
      moved_is = refl;
    }

-- lines are posted alike by the ids of a plan and of its script
all_agree : (s : ScriptValue) (c : Control) (awaits : List Await) → list_all (is_posted_by (ids_of s) c) awaits ≡ all_posted s c awaits
all_agree s c [] = refl
all_agree s c (a ∷ awaits) = go a.caller (all_agree s c awaits) where
  go : (k : Caller) → list_all (is_posted_by (ids_of s) c) awaits ≡ all_posted s c awaits
      → (nat_le a.line (posted_by (ids_of s) c k) && list_all (is_posted_by (ids_of s) c) awaits) ≡ (nat_le a.line (posted_of s c k) && all_posted s c awaits)
  go (Driver number) rest = ap (λ b. nat_le a.line (posted_of s c (Driver number)) && b) rest
  go (Back id) rest = ap (λ b. nat_le a.line (posted_of s c (Back id)) && b) rest

-- the ids of a plan are those of its script
plan_ids : (s : ScriptValue) (plan : Plan) → plan_of s ≡ plan → plan.ids ≡ ids_of s
unfolding plan_of
plan_ids s plan p = ap (λ (q : Plan). q.ids) (sym p)

-- a back end finds posted what the model says
finds_agree : (s : ScriptValue) (plan : Plan) (c : Control) (place : ℕ) (b : Own) → AwaitsAgree → plan_of s ≡ plan → IsBackOf s place b
    → finds_posted plan.ids c b ≡ finds s c place (tests_in (own_wish b)) b.seat
finds_agree s plan c place b awaits p back =
    ap (λ ids. tests_in (own_wish b) && list_all (is_posted_by ids c) (own_awaits b)) (plan_ids s plan p)
    ∙ ap (λ t. tests_in (own_wish b) && t) (all_agree s c (own_awaits b) ∙ ap (λ lines. all_posted s c lines) (awaits s place b back))

-- what a receiving comes to, by what is under way
pub receive_lanes : (s : ScriptValue) (c : Control) (place : ℕ) (tests : Bool) (x : Link) (z : Seat) (down : List Down) → x.down ≡ down → receive s c place tests x z ≡ take_down s c place tests x z down
unfolding receive
receive_lanes s c place tests x z down e = ap (take_down s c place tests x z) e

pub receive_reply : (s : ScriptValue) (c : Control) (place : ℕ) (tests : Bool) (x : Link) (z : Seat) (replies : List Bool) → x.down ≡ [] → x.replies ≡ replies → receive s c place tests x z ≡ take_reply s c place tests x z replies
receive_reply s c place tests x z replies e q = receive_lanes s c place tests x z [] e ∙ ap (take_reply s c place tests x z) q

-- where no frame is under way, both lanes are empty
record HasNothing (x : Link) : Type 0 where
  pub down : x.down ≡ []
  pub replies : x.replies ≡ []

has_nothing : (x : Link) → None ≡ next_frame (lanes_of x) → HasNothing x
has_nothing x h = go x.down x.replies refl refl h where
  go : (down : List Down) (replies : List Bool) → x.down ≡ down → x.replies ≡ replies → None ≡ next_in down replies → HasNothing x
  go (d ∷ down) replies e q h = absurd cc
  go [] (fault ∷ replies) e q h = absurd cc
  go [] [] e q h = record { down = e; replies = q }

received_nothing : (x : Link) → HasNothing x → received_from x.down x ≡ x
received_nothing x none =
    ap (λ down. received_from down x) none.down
    ∙ ap (λ replies. record x { replies = drop 1 replies }) none.replies
    ∙ ap (λ replies. record x { replies = replies }) (sym none.replies)

-- nothing is taken
pub nothing_taken : (old mid : ControlValue) (place : ℕ) → None ≡ next_frame (lanes_of (link_of old.state place)) → mid ≡ with_state (received place old.state) old → mid ≡ old
nothing_taken old mid place h is =
    let x : Link = link_of old.state place in
    is ∙ ap (λ y. with_state (with_link old.state place y) old) (received_nothing x (has_nothing x h)) ∙ ap (λ c. with_state c old) (link_kept old.state place)

-- it posts and hears nothing
pub hears : (old new : ControlValue) (place : ℕ) (before after : Own) (moved : Bool) → HasConverseRoom old.plan old.state place before → AwaitsAgree → None ≡ next_frame (lanes_of (link_of old.state place))
    → new ≡ after_posting before old → after ≡ after_hearing old.plan.ids old.state before → moved ≡ hearing_moves old.plan.ids old.state before → HasReceived place old new before after moved
hears old new place before after moved room awaits h n a m s p back =
    let x : Link = link_of old.state place in
    let none : HasNothing x = has_nothing x h in
    let found = finds_agree s old.plan old.state place before awaits p back in
    let posted : posted_by old.plan.ids old.state (Back before.id) ≡ before.seat.told = ap (λ k. get_or old.state.posted k 0) room.endpoint ∙ room.told in
    subst (λ e. Exchanged place e old new before after moved) (sym (receive_reply s old.state place (tests_in (own_wish before)) x before.seat [] none.down none.replies)) (record {
      control = n ∙ ap (λ c. with_state c old) (posted_link old.state old.plan.ids place before.id before.seat.finished room.endpoint);
      back = a ∙ ap (λ b. record before { seat = heard before.seat (before.seat.ready || b) }) found;
      moved_is = m ∙ ap (λ k. nat_lt k before.seat.finished || (nat_lt 0 before.seat.since || finds_posted old.plan.ids old.state before)) posted
          ∙ ap (λ b. nat_lt before.seat.told before.seat.finished || (nat_lt 0 before.seat.since || b)) found;
    })

-- the control after a frame was taken, by the row that is left
taken_row : (old mid : ControlValue) (place : ℕ) (b : Own) (y : Link) → place_in old.plan.ids b.id ≡ place → mid ≡ with_state (with_link old.state place y) old
    → after_posting b mid ≡ with_state (with_link old.state place (with_count y b.seat.finished)) old
taken_row old mid place b y at is =
    ap (after_posting b) is ∙ ap (λ c. with_state c old) (posted_with old.state old.plan.ids place b.id b.seat.finished y at)

-- it takes an Update or an Invalidate
takes_down : (s : ScriptValue) (old mid new : ControlValue) (place : ℕ) (before after : Own) (d : Down) (down : List Down) → HasConverseRoom old.plan old.state place before
    → mid ≡ with_state (with_link old.state place (let x : Link = link_of old.state place in record x { down = down })) old
    → new ≡ after_answer place (answer_to (down_frame d)) (after_posting before mid)
    → after ≡ record before { seat = (take_down s old.state place (tests_in (own_wish before)) (link_of old.state place) before.seat (d ∷ down)).seat }
    → Exchanged place (take_down s old.state place (tests_in (own_wish before)) (link_of old.state place) before.seat (d ∷ down)) old new before after true
takes_down s old mid new place before after (Update lease) down room is n a =
    let x : Link = link_of old.state place in
    record { control = n ∙ taken_row old mid place before (record x { down = down }) room.endpoint is; back = a; moved_is = refl }
takes_down s old mid new place before after (Invalidate reach) down room is n a =
    let x : Link = link_of old.state place in
    let y : Link = record x { down = down; posted = before.seat.finished } in
    record {
      control = n ∙ ap (λ (v : ControlValue). with_state (sent v.plan place frame.Ack v.state) v) (taken_row old mid place before (record x { down = down }) room.endpoint is)
          ∙ ap (λ c. with_state c old) (sent_with old.plan old.state place (length old.plan.ids) y frame.Ack room.rows room.below);
      back = a;
      moved_is = refl;
    }

-- what is under way is the same frame to both
same_frame : (d : Down) → down_frame d ≡ back_frame d
same_frame (Update lease) = refl
same_frame (Invalidate None) = refl
same_frame (Invalidate (Some span)) = refl

same_some : {A : Type 0} (x y : A) → Some x ≡ Some y → x ≡ y
same_some x y h = cc

-- it takes a frame
pub takes : (old mid new : ControlValue) (place : ℕ) (before after : Own) (f : Frame) → HasConverseRoom old.plan old.state place before → FramesAgree → Some f ≡ next_frame (lanes_of (link_of old.state place))
    → mid ≡ with_state (received place old.state) old → new ≡ after_answer place (answer_to f) (after_posting before mid) → after ≡ record before { seat = taken before.capacity f before.seat } → HasReceived place old new before after true
takes old mid new place before after f room law h is n a s p back = go x.down x.replies refl refl h where
  x : Link
  x = link_of old.state place

  tests : Bool
  tests = tests_in (own_wish before)

  go : (down : List Down) (replies : List Bool) → x.down ≡ down → x.replies ≡ replies → Some f ≡ next_in down replies → Exchanged place (receive s old.state place tests x before.seat) old new before after true
  go (d ∷ down) replies e q h =
      let frame_is : f ≡ down_frame d = same_some f (down_frame d) h in
      let seat = law s old.state place tests x before d down room.own back e in
      let to = receive_lanes s old.state place tests x before.seat (d ∷ down) e in
      let a : after ≡ record before { seat = (take_down s old.state place tests x before.seat (d ∷ down)).seat } =
      a ∙ ap (λ k. record before { seat = taken before.capacity k before.seat }) (frame_is ∙ same_frame d) ∙ ap (λ z. record before { seat = z }) (sym seat) ∙ ap (λ (m : Exchange). record before { seat = m.seat }) to in
      subst (λ m. Exchanged place m old new before after true) (sym to)
      (takes_down s old mid new place before after d down room (is ∙ ap (λ ds. with_state (with_link old.state place (received_from ds x)) old) e) (n ∙ ap (λ k. after_answer place (answer_to k) (after_posting before mid)) frame_is) a)
  go [] (fault ∷ replies) e q h =
      let frame_is : f ≡ frame.Reply fault = same_some f (frame.Reply fault) h in
      let left = is ∙ ap (λ ds. with_state (with_link old.state place (received_from ds x)) old) e ∙ ap (λ rs. with_state (with_link old.state place (record x { replies = drop 1 rs })) old) q in
      subst (λ m. Exchanged place m old new before after true) (sym (receive_reply s old.state place tests x before.seat (fault ∷ replies) e q)) (record {
        control = n ∙ ap (λ k. after_answer place (answer_to k) (after_posting before mid)) frame_is ∙ taken_row old mid place before (record x { replies = replies }) room.endpoint left;
        back = a ∙ ap (λ k. record before { seat = taken before.capacity k before.seat }) frame_is;
        moved_is = refl;
      })
  go [] [] e q h = absurd cc
