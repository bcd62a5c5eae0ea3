-- How what is kept is seen.
use Rattle.std.specs.Prelude.{◌≡◌, ℕ, ◌≤◌, ◌+◌, List, [], ◌∷◌, map, take}
use Rattle.vi_iotlb.specs.Frames.{IsSendable, frame_bytes}
use Rattle.vi_iotlb.specs.declared.frame.Frame.{Frame}
use Rattle.vi_mail.specs.declared.coded.Coded.TheInside.{Inside as CodedInside}
use Rattle.vi_mail.specs.declared.row.Row.TheInside.{Inside as RowInside}
use Rattle.vi_mail.specs.declared.mail.Mail.TheInside.{Inside as MailInside}
use Rattle.vi_mail.specs.Coding.{frame_of}
use Rattle.vi_mail.specs.Lanes.{FourLanes, SlottedLanes, Lanes}

-- the bytes that count
abbrev pub kept_bytes : CodedInside → List ℕ
kept_bytes c = take c.len c.bytes

abbrev pub coded_frame : CodedInside → Frame
coded_frame c = frame_of (kept_bytes c)

-- they are those of a frame that can be sent
pub record IsCoded (c : CodedInside) : Type 0 where
  pub fits : c.len ≤ 44
  pub sendable : IsSendable (coded_frame c)
  pub written : frame_bytes (coded_frame c) ≡ kept_bytes c

abbrev pub row_lanes : RowInside → SlottedLanes
row_lanes r = record {
  lanes = record { main_down = r.main_down.frames; main_up = r.main_up.frames; back_down = r.back_down.frames; back_up = r.back_up.frames };
  slots = r.slots;
}

-- each lane has its bound
pub record HasBounds (r : RowInside) : Type 0 where
  pub main_down : r.main_down.bound ≡ r.slots + 1
  pub main_up : r.main_up.bound ≡ r.slots
  pub back_down : r.back_down.bound ≡ 1
  pub back_up : r.back_up.bound ≡ 1

-- the lanes of one back end
abbrev pub lanes_in : SlottedLanes → FourLanes
lanes_in row = row.lanes

abbrev pub mail_lanes : MailInside → Lanes
mail_lanes m = record { rows = map lanes_in m.rows.items; slots = m.slots }

-- each row has these slots
abbrev pub AllHaveSlots : ℕ → List SlottedLanes → Type 0
AllHaveSlots slots [] = Unit {0}
AllHaveSlots slots (row ∷ rows) = (row.slots ≡ slots) × AllHaveSlots slots rows

abbrev pub HasSlots : MailInside → Type 0
HasSlots m = AllHaveSlots m.slots m.rows.items
