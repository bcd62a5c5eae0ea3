-- The rows of a mail, and their lanes as they are seen.
use Rattle.std.proofs.Common.{◌≡◌, ◌<◌, ℕ, zero, suc, List, [], ◌∷◌, length, map, get_or, set, replicate, refl, ap, sym, ◌∙◌, arith}
use Rattle.std.proofs.lemmas.List.{map-set, get_or-map, length-map}
use Rattle.vi_mail.specs.declared.mail.Mail.TheInside.{Inside}
use Rattle.vi_mail.specs.Lanes.{FourLanes, SlottedLanes, no_lanes, lanes_at}
use Rattle.vi_mail.specs.Inside.{lanes_in, mail_lanes, AllHaveSlots, HasSlots}

pub row_changed : (f : FourLanes → FourLanes) (rows : List SlottedLanes) (place : ℕ) (row new : SlottedLanes) → place < length (map lanes_in rows) → row ≡ get_or rows place row → new ≡ record { lanes = f row.lanes; slots = row.slots }
    → map lanes_in (set rows place new) ≡ set (map lanes_in rows) place (f (get_or (map lanes_in rows) place no_lanes))
row_changed f rows place row new below here changed =
    let there : get_or (map lanes_in rows) place no_lanes ≡ row.lanes = get_or-map lanes_in rows place row no_lanes (omega (arith, below, length-map rows lanes_in)) ∙ ap lanes_in (sym here) in
    map-set lanes_in rows place new ∙ ap (λ lanes. set (map lanes_in rows) place lanes) (ap lanes_in changed ∙ ap f (sym there))

pub AllHaveSlots-set : (slots : ℕ) (rows : List SlottedLanes) (place : ℕ) (new : SlottedLanes) → AllHaveSlots slots rows → new.slots ≡ slots → AllHaveSlots slots (set rows place new)
AllHaveSlots-set slots [] place new all same = tt
AllHaveSlots-set slots (row ∷ rows) zero new all same = (same, all.1)
AllHaveSlots-set slots (row ∷ rows) (suc place) new all same = (all.0, AllHaveSlots-set slots rows place new all.1 same)

slots_at : (slots : ℕ) (rows : List SlottedLanes) (place : ℕ) (d : SlottedLanes) → AllHaveSlots slots rows → place < length rows → (get_or rows place d).slots ≡ slots
slots_at slots [] place d all below = absurd (omega (arith, below))
slots_at slots (row ∷ rows) zero d all below = all.0
slots_at slots (row ∷ rows) (suc place) d all below = slots_at slots rows place d all.1 (omega (arith, below))

-- a row has the lanes of its place, and the mail's slots
pub row_at : (m : Inside) (place : ℕ) (row : SlottedLanes) → HasSlots m → place < length (map lanes_in m.rows.items) → row ≡ get_or m.rows.items place row
    → (lanes_at place (mail_lanes m) ≡ row.lanes) × (row.slots ≡ m.slots)
row_at m place row all below here =
    let lt : place < length m.rows.items = omega (arith, below, length-map m.rows.items lanes_in) in (
      get_or-map lanes_in m.rows.items place row no_lanes lt ∙ ap lanes_in (sym here),
      ap (λ (r : SlottedLanes). r.slots) here ∙ slots_at m.slots m.rows.items place row all lt,
    )

pub map-replicate : (n : ℕ) (row : SlottedLanes) → map lanes_in (replicate n row) ≡ replicate n row.lanes
map-replicate zero row = refl
map-replicate (suc n) row = ap (λ rows. row.lanes ∷ rows) (map-replicate n row)

pub AllHaveSlots-replicate : (n : ℕ) (row : SlottedLanes) → AllHaveSlots row.slots (replicate n row)
AllHaveSlots-replicate zero row = tt
AllHaveSlots-replicate (suc n) row = (refl, AllHaveSlots-replicate n row)
