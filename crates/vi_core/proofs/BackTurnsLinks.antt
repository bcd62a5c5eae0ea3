-- A back end's row in the control's five tables.
use Rattle.std.proofs.Common.{zero, suc, ◌≡◌, ◌==◌, ◌<◌, ◌||◌, ℕ, Bool, true, false, cond, List, [], ◌∷◌, length, None, refl, arith, ◌∙◌, ap}
use Rattle.std.specs.Bool.{IsTrue}
use Rattle.std.proofs.lemmas.List.{get_or-set_same, set-get_or, set-set}
use Rattle.vi_history.specs.declared.call.Caller.TheVariants.{Back}
use Rattle.vi_iotlb.specs.declared.frame.Frame.{Frame}
use Rattle.vi_model.specs.Control.{Link, Control, no_lanes, link_of, lanes_of, with_link}
use Rattle.vi_model.specs.Places.{place_in}
use Rattle.vi_removals.specs.Takings.{has_id}
use Rattle.vi_control.specs.Calls.{with_posted, sent, sent_link}
use Rattle.vi_core.specs.BackTurns.{HasRows}
use Rattle.vi_control.specs.Plan.{Plan}

-- an id that has a place is there
pub has_placed : (ids : List ℕ) (id : ℕ) → place_in ids id < length ids → IsTrue (has_id id ids)
has_placed [] id lt = absurd (omega (arith, lt))
has_placed (i ∷ ids) id lt = go (i == id) lt (has_placed ids id) where
  go : (b : Bool) → cond b zero (suc (place_in ids id)) < suc (length ids) → (place_in ids id < length ids → IsTrue (has_id id ids)) → IsTrue (b || has_id id ids)
  go true lt rest = refl
  go false lt rest = rest (omega (arith, lt))

-- the row with this number of finished lines
abbrev pub with_count : Link → ℕ → Link
with_count x n = record x { posted = n }

-- what is written is read
pub same_link : (c : Control) (place places : ℕ) (x : Link) → HasRows places c → place < places → link_of (with_link c place x) place ≡ x
same_link c place places x rows lt =
    let g : place < length c.grants = rw rows.grants lt in
    let s : place < length c.spares = rw rows.spares lt in
    let m : place < length c.mail = rw rows.mail lt in
    let p : place < length c.parked = rw rows.parked lt in
    let q : place < length c.posted = rw rows.posted lt in
    rw (
      get_or-set_same c.grants place x.grants [] g,
      get_or-set_same c.spares place x.spare 0 s,
      get_or-set_same c.mail place (lanes_of x) no_lanes m,
      get_or-set_same c.parked place x.parked None p,
      get_or-set_same c.posted place x.posted 0 q,
    ) refl

-- a row that is written twice
pub link_twice : (c : Control) (place : ℕ) (x y : Link) → with_link (with_link c place x) place y ≡ with_link c place y
link_twice c place x y =
    rw (
      set-set c.grants place x.grants y.grants,
      set-set c.spares place x.spare y.spare,
      set-set c.mail place (lanes_of x) (lanes_of y),
      set-set c.parked place x.parked y.parked,
      set-set c.posted place x.posted y.posted,
    ) refl

-- a row that is written as it was
pub link_kept : (c : Control) (place : ℕ) → with_link c place (link_of c place) ≡ c
link_kept c place =
    rw (set-get_or c.grants place [], set-get_or c.spares place 0, set-get_or c.mail place no_lanes, set-get_or c.parked place None, set-get_or c.posted place 0) refl

-- a posting is the row with the number
pub posted_link : (c : Control) (ids : List ℕ) (place id n : ℕ) → place_in ids id ≡ place → with_posted ids (Back id) n c ≡ with_link c place (with_count (link_of c place) n)
posted_link c ids place id n at =
    rw (at, set-get_or c.grants place [], set-get_or c.spares place 0, set-get_or c.mail place no_lanes, set-get_or c.parked place None) refl

-- so it is after the row was written
pub posted_with : (c : Control) (ids : List ℕ) (place id n : ℕ) (x : Link) → place_in ids id ≡ place → with_posted ids (Back id) n (with_link c place x) ≡ with_link c place (with_count x n)
posted_with c ids place id n x at = rw (at, set-set c.posted place x.posted n) refl

-- what is sent after the row was written
pub sent_with : (plan : Plan) (c : Control) (place places : ℕ) (x : Link) (f : Frame) → HasRows places c → place < places → sent plan place f (with_link c place x) ≡ with_link c place (sent_link plan place f x)
sent_with plan c place places x f rows lt =
    link_twice c place x (sent_link plan place f (link_of (with_link c place x) place)) ∙ ap (λ y. with_link c place (sent_link plan place f y)) (same_link c place places x rows lt)
