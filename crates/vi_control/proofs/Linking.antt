-- A control's state after parts of it changed at one place.
use Rattle.std.proofs.Common.{◌≡◌, ◌==◌, ℕ, zero, suc, ◌+◌, ◌≤◌, ◌<◌, ◌^◌, Bool, true, false, cond, not, List, [], ◌∷◌, ◌++◌, length, map, get_or, set, Option, Some, None, is_some, IsNone, refl, ap, sym, ◌∙◌, arith, length-set}
use Rattle.std.proofs.Math.ListN as list
use Rattle.std.proofs.lemmas.List.{map-set, set-get_or, get_or-set_same}
use Rattle.std.proofs.lemmas.List.Elements.{All-set, All-append, All-filter, All-get_or, All-cons, All-nil}
use Rattle.vi_bytes.specs.declared.lease.Lease.{Lease}
use Rattle.vi_grants.specs.Rows.{GrantRow, grant_of, row_at, empty_row}
use Rattle.vi_grants.specs.Rows as rows
use Rattle.vi_grants.specs.declared.row.Grant.{Grant}
use Rattle.vi_lanes.specs.Value.{LanesValue, lanes_at, with_lanes, told, replied}
use Rattle.vi_model.specs.Control.{Link, Control, link_of, lanes_of, with_link, no_lanes}
use Rattle.vi_model.specs.Grants.{lease_under}
use Rattle.vi_model.specs.Lanes.{Lanes, Miss, Update}
use Rattle.vi_model.specs.Serves.{granted_link}
use Rattle.vi_control.specs.Inner.{seen, grants_in, spare_in, HasPages, IsKept}
use Rattle.vi_control.specs.declared.control.Control.TheInside.{Inside}

-- what is written twice at one place
pub set_set : {X : Type 0} (xs : List X) (k : ℕ) (a b : X) → set (set xs k a) k b ≡ set xs k b
set_set [] k a b = refl
set_set (x ∷ xs) zero a b = refl
set_set (x ∷ xs) (suc k) a b = ap (λ ys. x ∷ ys) (set_set xs k a b)

-- a row is written to the five tables
pub link_tables : (c : Control) (place : ℕ) (x : Link) (grants : List (List Grant)) (spares : List ℕ) (mail : List Lanes) (parked : List (Option Miss)) (posted : List ℕ)
    → set c.grants place x.grants ≡ grants → set c.spares place x.spare ≡ spares → set c.mail place (lanes_of x) ≡ mail → set c.parked place x.parked ≡ parked → set c.posted place x.posted ≡ posted
    → with_link c place x ≡ record c { grants = grants; spares = spares; mail = mail; parked = parked; posted = posted }
link_tables c place x grants spares mail parked posted g s m p q = rw (g, s, m, p, q) refl

-- a lease is granted under the page where a grant for it is there
pub under_is : (page : ℕ) (gs : List Grant) → is_some (lease_under page gs) ≡ is_some (grant_of page gs)
under_is page [] = refl
under_is page (g ∷ gs) = rest (g.asked == page) (under_is page gs)
  where
    rest : (b : Bool) → is_some (lease_under page gs) ≡ is_some (grant_of page gs) → is_some (cond b (Some g.lease) (lease_under page gs)) ≡ is_some (cond b (Some g) (grant_of page gs))
    rest true e = refl
    rest false e = e

none_of : {X Y : Type 0} (o : Option X) (p : Option Y) → is_some o ≡ is_some p → IsNone p → o ≡ None
none_of None p e none = refl
none_of (Some x) None e none = absurd cc
none_of (Some x) (Some y) e none = absurd cc

pub none_under : (page : ℕ) (gs : List Grant) → IsNone (grant_of page gs) → lease_under page gs ≡ None
none_under page gs none = none_of (lease_under page gs) (grant_of page gs) (under_is page gs) none

-- the tables of rows
pub grants_at : (rs : List GrantRow) (place : ℕ) → get_or (map grants_in rs) place [] ≡ (row_at rs place).grants
grants_at rs place = list.get_or-map grants_in rs place (empty_row 0)

pub spare_at : (rs : List GrantRow) (place : ℕ) → get_or (map spare_in rs) place 0 ≡ (row_at rs place).spare
spare_at rs place = list.get_or-map spare_in rs place (empty_row 0)

-- with the miss parked, and with none
pub state_parked : (p : Inside) (place : ℕ) (o : Option Miss)
    → with_link (seen p).state place (let x : Link = link_of (seen p).state place in record x { parked = o }) ≡ (let c : Control = (seen p).state in record c { parked = set p.lanes.parked place o })
state_parked p place o =
    link_tables (seen p).state place (let x : Link = link_of (seen p).state place in record x { parked = o }) _ _ _ _ _ (set-get_or (map grants_in p.grants) place []) (set-get_or (map spare_in p.grants) place 0) (set-get_or p.lanes.mail place no_lanes) refl (set-get_or p.posted.items place 0)

-- with other lanes
pub state_lanes : (p : Inside) (place : ℕ) (lanes : Lanes)
    → with_link (seen p).state place (let x : Link = link_of (seen p).state place in record x { down = lanes.down; acks = lanes.acks; up = lanes.up; replies = lanes.replies })
    ≡ (let c : Control = (seen p).state in record c { mail = set p.lanes.mail place lanes })
state_lanes p place lanes =
    link_tables (seen p).state place (let x : Link = link_of (seen p).state place in record x { down = lanes.down; acks = lanes.acks; up = lanes.up; replies = lanes.replies }) _ _ _ _ _ (set-get_or (map grants_in p.grants) place []) (set-get_or (map spare_in p.grants) place 0) refl (set-get_or p.lanes.parked place None) (set-get_or p.posted.items place 0)

-- with another row of grants too
pub state_row : (p : Inside) (place : ℕ) (row : GrantRow) (lanes : Lanes)
    → with_link (seen p).state place (let x : Link = link_of (seen p).state place in record x { grants = row.grants; spare = row.spare; down = lanes.down; acks = lanes.acks; up = lanes.up; replies = lanes.replies })
    ≡ (let c : Control = (seen p).state in record c { grants = map grants_in (set p.grants place row); spares = map spare_in (set p.grants place row); mail = set p.lanes.mail place lanes })
state_row p place row lanes =
    link_tables (seen p).state place (let x : Link = link_of (seen p).state place in record x { grants = row.grants; spare = row.spare; down = lanes.down; acks = lanes.acks; up = lanes.up; replies = lanes.replies }) _ _ _ _ _
    (sym (map-set grants_in p.grants place row)) (sym (map-set spare_in p.grants place row)) refl (set-get_or p.lanes.parked place None) (set-get_or p.posted.items place 0)

-- a lease is granted
granted_row : (page : ℕ) (l : Lease) (x : Link) (row : GrantRow) (lanes : Lanes) → x.grants ≡ row.grants → x.spare ≡ row.spare
    → granted_link x page (Some l)
    ≡ (let new : GrantRow = rows.granted page l row in record x { grants = new.grants; spare = new.spare; down = x.down ++ Update l ∷ []; replies = x.replies ++ false ∷ [] })
granted_row page l x row lanes g s = rw (g, s, under_is page row.grants) refl

pub state_granted : (p : Inside) (place page : ℕ) (l : Lease) → place < length p.lanes.mail
    → with_link (seen p).state place (granted_link (link_of (seen p).state place) page (Some l))
    ≡ (let c : Control = (seen p).state in record c {
      grants = map grants_in (set p.grants place (rows.granted page l (row_at p.grants place)));
      spares = map spare_in (set p.grants place (rows.granted page l (row_at p.grants place)));
      mail = (let v : LanesValue = with_lanes place (told (Update l) (lanes_at place p.lanes)) p.lanes in let w : LanesValue = with_lanes place (replied false (lanes_at place v)) v in w.mail);
    })
state_granted p place page l below =
    let told_here : Lanes = told (Update l) (lanes_at place p.lanes) in
    let there : get_or (set p.lanes.mail place told_here) place no_lanes ≡ told_here = get_or-set_same p.lanes.mail place told_here no_lanes below in
    let twice : set (set p.lanes.mail place told_here) place (replied false told_here) ≡ set p.lanes.mail place (replied false told_here) = set_set p.lanes.mail place told_here (replied false told_here) in
    ap (with_link (seen p).state place) (granted_row page l (link_of (seen p).state place) (row_at p.grants place) (lanes_at place p.lanes) (grants_at p.grants place) (spare_at p.grants place))
    ∙ (state_row p place (rows.granted page l (row_at p.grants place)) (replied false told_here)
    ∙ rw (there, twice) refl)

-- what is so of a control's parts stays so
pub kept_lanes : (p : Inside) (lanes : LanesValue) → IsKept p → length lanes.mail ≡ length p.lanes.mail → length lanes.parked ≡ length p.lanes.parked → IsKept (record p { lanes = lanes })
kept_lanes p lanes k mail parked = record {
  endpoints = k.endpoints;
  distinct = k.distinct;
  few = k.few;
  memory = k.memory;
  ports = k.ports;
  grants = k.grants;
  mail = mail ∙ k.mail;
  parked = parked ∙ k.parked;
  posted = k.posted;
  transfers = k.transfers;
  pages = k.pages;
  config = k.config;
  tied = k.tied;
}

pub kept_row : (p : Inside) (place : ℕ) (row : GrantRow) → IsKept p → HasPages row → IsKept (record p { grants = set p.grants place row })
kept_row p place row k pages = record {
  endpoints = k.endpoints;
  distinct = k.distinct;
  few = k.few;
  memory = k.memory;
  ports = k.ports;
  grants = length-set p.grants place row ∙ k.grants;
  mail = k.mail;
  parked = k.parked;
  posted = k.posted;
  transfers = k.transfers;
  pages = All-set HasPages p.grants place row pages k.pages;
  config = k.config;
  tied = k.tied;
}

-- the row at a place has pages below 2^52
pub pages_at : (p : Inside) (place : ℕ) → IsKept p → place < length p.removals.ids → HasPages (row_at p.grants place)
pages_at p place k below = let same = k.grants in All-get_or HasPages p.grants place (empty_row 0) (omega (arith, below, same)) k.pages

-- the pages of a grant are below 2^52
abbrev pub IsLow : Grant → Type 0
IsLow g = g.lease.page + g.lease.count ≤ 2 ^ 52

-- so it is after a lease was granted
pub pages_granted : (page : ℕ) (l : Lease) (row : GrantRow) → HasPages row → l.page + l.count ≤ 2 ^ 52 → HasPages (rows.granted page l row)
pages_granted page l row pages ends =
    let new : Grant = record { asked = page; lease = l } in
    All-append IsLow (rows.others page row.grants) (new ∷ []) (All-filter (λ g. not (g.asked == page)) IsLow row.grants pages) (All-cons IsLow new [] ends (All-nil IsLow))

pub kept_granted : (p : Inside) (place page : ℕ) (l : Lease) → IsKept p → place < length p.removals.ids → l.page + l.count ≤ 2 ^ 52
    → IsKept (record p {
      grants = set p.grants place (rows.granted page l (row_at p.grants place));
      lanes = (let v : LanesValue = with_lanes place (told (Update l) (lanes_at place p.lanes)) p.lanes in with_lanes place (replied false (lanes_at place v)) v);
    })
kept_granted p place page l k below ends =
    let v : LanesValue = with_lanes place (told (Update l) (lanes_at place p.lanes)) p.lanes in
    let w : LanesValue = with_lanes place (replied false (lanes_at place v)) v in
    let q : Inside = record p { grants = set p.grants place (rows.granted page l (row_at p.grants place)) } in
    kept_lanes q w (kept_row p place (rows.granted page l (row_at p.grants place)) k (pages_granted page l (row_at p.grants place) (pages_at p place k below) ends))
    (length-set v.mail place (replied false (lanes_at place v)) ∙ length-set p.lanes.mail place (told (Update l) (lanes_at place p.lanes))) refl
