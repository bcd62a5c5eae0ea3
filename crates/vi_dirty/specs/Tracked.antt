-- A tracker as contracts see it: the state that follows the history, and the pages that were written meanwhile.
use Rattle.std.specs.Prelude.{◌≡◌, ◌==◌, ℕ, ◌-◌, Bool, false, List, [], ◌∷◌, ◌++◌}
use Rattle.std.specs.List.{list_any}
use Rattle.vi_history.specs.Device.{One}
use Rattle.vi_history.specs.Replies.{page_at, next}
use Rattle.vi_history.specs.declared.call.Call.{Call}
use Rattle.vi_history.specs.declared.entry.Entry.{Entry}
use Rattle.vi_state.specs.Followed.{maps_made}
use Rattle.vi_state.specs.Written.{writes, page_set}

-- the device with the memory, the pages that were written since they were last taken, rising, and how many more mappings there
-- is room for
pub record TrackerValue : Type 0 where
  pub one : One
  pub set : List ℕ
  pub spare : ℕ

-- the tracker after a call that was answered so
abbrev pub fed : TrackerValue → Call → Entry → TrackerValue
fed t c h = record { one = next t.one c; set = page_set t.one.dev.pages (t.set ++ writes t.one c); spare = t.spare - maps_made c h }

-- the tracker after calls that were answered so
abbrev pub fed_all : TrackerValue → List Call → List Entry → TrackerValue
fed_all t [] hs = t
fed_all t (c ∷ cs) [] = t
fed_all t (c ∷ cs) (h ∷ hs) = fed_all (fed t c h) cs hs

-- the page is one of these
abbrev pub is_among : ℕ → List ℕ → Bool
is_among page pages = list_any (λ p. p == page) pages

-- two memories have the same bytes in each page that isn't one of these
abbrev pub AreEqualBut : List ℕ → List (List ℕ) → List (List ℕ) → Type 0
AreEqualBut pages a b = (page : ℕ) → is_among page pages ≡ false → page_at a page ≡ page_at b page
