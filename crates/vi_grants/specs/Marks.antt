-- Which pages were asked for, by places that pages share.
use Rattle.std.specs.Prelude.{◌≡◌, ℕ, ◌%◌, Bool, true, false, List, length, get_or, set, All}
use Rattle.vi_grants.specs.declared.row.Grant.{Grant}

-- the page's place among so many
abbrev pub slot_of : ℕ → ℕ → ℕ
slot_of page places = page % places

abbrev pub is_marked : ℕ → List Bool → Bool
is_marked page marks = get_or marks (slot_of page (length marks)) false

abbrev pub marked : ℕ → List Bool → List Bool
marked page marks = set marks (slot_of page (length marks)) true

-- the places of all pages that were asked for in these grants are marked
abbrev pub AreMarked : List Bool → List Grant → Type 0
AreMarked marks grants = All (λ g. is_marked g.asked marks ≡ true) grants
