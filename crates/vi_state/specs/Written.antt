-- Which pages of the memory calls write.
use Rattle.std.specs.Prelude.{◌==◌, ℕ, ◌/◌, List, [], ◌∷◌, ◌++◌, filter}
use Rattle.std.specs.List.{list_any, range_with_len}
use Rattle.vi_bytes.specs.declared.lease.Need.TheVariants as need
use Rattle.vi_bytes.specs.declared.span.TheConstants.{PAGE}
use Rattle.vi_history.specs.Device.{One}
use Rattle.vi_history.specs.Replies.{next}
use Rattle.vi_history.specs.Translation.{translate}
use Rattle.vi_history.specs.declared.call.Call.{Call}
use Rattle.vi_history.specs.declared.call.Call.TheVariants as call
use Rattle.vi_history.specs.declared.found.Found.{Found}
use Rattle.vi_history.specs.declared.found.Found.TheVariants.{At, Fault}

-- the page that a translation leads to
abbrev pub page_found : Found → List ℕ
page_found (At target) = target / PAGE ∷ []
page_found (Fault reason) = []

-- the page that a call writes in this state: that of its target, where it is a write that doesn't fault
abbrev pub writes : One → Call → List ℕ
writes one (call.Ask request) = []
writes one (call.Raw read write) = []
writes one (call.Bypass on) = []
writes one (call.Read endpoint part) = []
writes one (call.Write endpoint part bytes) = page_found (translate one.dev endpoint part.iova need.Write)

-- the pages that calls write from this state on, as often as they are written
abbrev pub written : One → List Call → List ℕ
written one [] = []
written one (c ∷ cs) = writes one c ++ written (next one c) cs

-- pages as a set, rising
abbrev pub page_set : ℕ → List ℕ → List ℕ
page_set count pages = filter (λ p. list_any (λ q. q == p) pages) (range_with_len 0 count)
