-- A back end's turn by the values that were read of the parts.
use Rattle.std.proofs.Common.{◌≡◌, ◌<◌, ◌≤◌, ℕ, List, [], length, get_or, set, take, drop, Option, Some, None, ap, subst, sym, ◌∙◌}
use Rattle.std.specs.Prelude.{nat_eq}
use Rattle.std.specs.List.{position}
use Rattle.vi_lines.specs.declared.line.Who.TheVariants as who
use Rattle.vi_model.specs.Places.{place_count}
use Rattle.vi_model.specs.Turns.{wished_page}
use Rattle.vi_backend.specs.declared.wish.Done.{Done}
use Rattle.vi_backend.specs.Own.{Own, IsOwn}
use Rattle.vi_backend.specs.Wishes.{own_wish, shown, IsAccess}
use Rattle.vi_backend.specs.Laws.{WishesAgree}
use Rattle.vi_control.specs.Value.{ControlValue}
use Rattle.vi_core.specs.declared.turned.Turned.{Turned}
use Rattle.vi_core.specs.declared.turned.Turned.TheVariants.{Moved}
use Rattle.vi_core.specs.Histories.{HistoryValue, pushed}
use Rattle.vi_core.specs.BackTurns.{HasConverseRoom, IsBacksTurn, IsBacksAccess}
use Rattle.vi_core.specs.Parts.{Parts, no_back, IsBackAt, IsKept}
use Rattle.vi_core.specs.Moves.{HasMoved}
use Rattle.vi_core.proofs.MovingBacks.{found_back, converse_moves, reach_room, reach_moves, entry_of_done}
use Rattle.vi_core.proofs.Needs.{read_is, back_below, converse_needs, page_there, wishes_access}

-- the back end of this id is at this place, and its wish has this page or none
pub record IsFound (p : Parts) (id place : ℕ) (page : Option ℕ) : Type 0 where
  pub below : place < place_count p.script
  pub id_is : (let b : Own = get_or p.backs place no_back in b.id) ≡ id
  pub wishes : wished_page (own_wish (get_or p.backs place no_back)) ≡ page

pub is_found : (p : Parts) (id place : ℕ) (page : Option ℕ) (v : Own) → IsKept p → position (λ (b : Own). nat_eq b.id id) p.backs ≡ Some place → v ≡ get_or p.backs place v
    → wished_page (own_wish v) ≡ page → IsFound p id place page
is_found p id place page v kept found e wishes =
    let f = found_back p id place kept found in
    record {
      below = f.0;
      id_is = f.1;
      wishes = ap (λ b. wished_page (own_wish b)) (sym (read_is p.backs place v no_back e (back_below p place kept f.0))) ∙ wishes;
    }

-- what was read is the back end at the place
back_read : (p : Parts) (id place : ℕ) (page : Option ℕ) (v : Own) → IsKept p → IsFound p id place page → v ≡ get_or p.backs place v → v ≡ get_or p.backs place no_back
back_read p id place page v kept f e = read_is p.backs place v no_back e (back_below p place kept f.below)

pub read_own : (p : Parts) (id place : ℕ) (page : Option ℕ) (v : Own) → IsKept p → IsFound p id place page → v ≡ get_or p.backs place v → IsOwn v
read_own p id place page v kept f e =
    subst IsOwn (sym (back_read p id place page v kept f e)) (let at : IsBackAt p.script place (get_or p.backs place no_back) = kept.backs place f.below in at.own)

pub read_wishes : (p : Parts) (id place page : ℕ) (v : Own) → IsKept p → IsFound p id place (Some page) → v ≡ get_or p.backs place v → IsAccess (shown (own_wish v))
read_wishes p id place page v kept f e =
    subst (λ b. IsAccess (shown (own_wish b))) (sym (back_read p id place (Some page) v kept f e)) (wishes_access (own_wish (get_or p.backs place no_back)) page f.wishes)

pub found_page : (p : Parts) (id place page : ℕ) → WishesAgree → IsKept p → IsFound p id place (Some page) → page < length p.pages
found_page p id place page agree kept f = page_there p place page agree kept f.below f.wishes

-- the access of what was read, of what is there
access_read : (p : Parts) (id place page : ℕ) (v b : Own) (old bytes : List ℕ) (done : Done) → WishesAgree → IsKept p → IsFound p id place (Some page) → v ≡ get_or p.backs place v → old ≡ get_or p.pages page old
    → IsBacksAccess old bytes v b done → IsBacksAccess (get_or p.pages page []) bytes (get_or p.backs place no_back) b done
access_read p id place page v b old bytes done agree kept f e o access =
    subst (λ x. IsBacksAccess x bytes (get_or p.backs place no_back) b done) (read_is p.pages page old [] o (found_page p id place page agree kept f))
    (subst (λ x. IsBacksAccess old bytes x b done) (back_read p id place (Some page) v kept f e) access)

stays_read : (p : Parts) (id place page : ℕ) (old bytes : List ℕ) (done : Done) → WishesAgree → IsKept p → IsFound p id place (Some page) → old ≡ get_or p.pages page old
    → take done.len (drop done.from bytes) ≡ take done.len (drop done.from old) → take done.len (drop done.from bytes) ≡ take done.len (drop done.from (get_or p.pages page []))
stays_read p id place page old bytes done agree kept f o stays = stays ∙ ap (λ x. take done.len (drop done.from x)) (read_is p.pages page old [] o (found_page p id place page agree kept f))

pub read_room : (p : Parts) (id place page : ℕ) (v b : Own) (old bytes : List ℕ) (done : Done) → WishesAgree → IsKept p → IsFound p id place (Some page) → v ≡ get_or p.backs place v → old ≡ get_or p.pages page old
    → IsBacksAccess old bytes v b done → take done.len (drop done.from bytes) ≡ take done.len (drop done.from old)
    → (1 ≤ (let h : HistoryValue = p.history in h.spare_entries)) × (length (take done.len (drop done.from bytes)) ≤ (let h : HistoryValue = p.history in h.spare_bytes))
read_room p id place page v b old bytes done agree kept f e o access stays =
    reach_room p place page bytes b done agree kept f.below f.wishes (access_read p id place page v b old bytes done agree kept f e o access) (stays_read p id place page old bytes done agree kept f o stays)

pub read_reaches : (p : Parts) (id place page : ℕ) (v b : Own) (old bytes : List ℕ) (done : Done) → WishesAgree → IsKept p → IsFound p id place (Some page) → v ≡ get_or p.backs place v → old ≡ get_or p.pages page old
    → IsBacksAccess old bytes v b done → take done.len (drop done.from bytes) ≡ take done.len (drop done.from old) → IsOwn b
    → HasMoved (who.Back id) p (record p { backs = set p.backs place b; pages = set p.pages page bytes; history = pushed (entry_of_done bytes done) p.history }) Moved
read_reaches p id place page v b old bytes done agree kept f e o access stays own =
    subst (λ n. HasMoved (who.Back n) p (record p { backs = set p.backs place b; pages = set p.pages page bytes; history = pushed (entry_of_done bytes done) p.history }) Moved) f.id_is
    (reach_moves p place page bytes b done agree kept f.below f.wishes (access_read p id place page v b old bytes done agree kept f e o access) (stays_read p id place page old bytes done agree kept f o stays) own)

-- a turn under control
pub read_needs : (p : Parts) (id place : ℕ) (v : Own) → IsKept p → IsFound p id place None → v ≡ get_or p.backs place v
    → HasConverseRoom (let c : ControlValue = p.control in c.plan) (let c : ControlValue = p.control in c.state) place v
read_needs p id place v kept f e =
    subst (HasConverseRoom (let c : ControlValue = p.control in c.plan) (let c : ControlValue = p.control in c.state) place) (sym (back_read p id place None v kept f e)) (converse_needs p place kept f.below)

pub read_converses : (p : Parts) (id place : ℕ) (v : Own) (c : ControlValue) (b : Own) (t : Turned) → WishesAgree → IsKept p → IsFound p id place None → v ≡ get_or p.backs place v
    → IsBacksTurn place p.control c v b t → IsOwn b → c.plan ≡ (let old : ControlValue = p.control in old.plan)
    → HasMoved (who.Back id) p (record p { control = c; backs = set p.backs place b }) t
read_converses p id place v c b t agree kept f e turns own plan =
    subst (λ n. HasMoved (who.Back n) p (record p { control = c; backs = set p.backs place b }) t) f.id_is
    (converse_moves p place c b t agree kept f.below f.wishes (subst (λ x. IsBacksTurn place p.control c x b t) (back_read p id place None v kept f e) turns) own plan)
