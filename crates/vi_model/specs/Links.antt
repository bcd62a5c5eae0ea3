-- What ties a back end's grants, its cache and the frames under way to the device.
use Rattle.std.specs.Prelude.{◌≡◌, ℕ, true, false, List, [], ◌∷◌, ◌++◌, Option, Some, None, length}
use Rattle.std.specs.List.{AllByRecursion}
use Rattle.vi_bytes.specs.Leases.{has_page}
use Rattle.vi_bytes.specs.declared.span.Span.{Span}
use Rattle.vi_bytes.specs.declared.lease.Lease.{Lease}
use Rattle.vi_history.specs.Device.{Dev}
use Rattle.vi_history.specs.Translation.{lease}
use Rattle.vi_model.specs.Tasks.{closes}
use Rattle.vi_model.specs.Lanes.{Down, Update, Invalidate, sent_reaches}
use Rattle.vi_model.specs.Grants.{piece, touches, lease_under}
use Rattle.vi_grants.specs.declared.row.Grant.{Grant}
use Rattle.vi_model.specs.Removals.{Removal, waits_for, awaited_reaches}

-- no page has two grants
abbrev pub AreDistinct : List Grant → Type 0
AreDistinct [] = Unit {0}
AreDistinct (g ∷ gs) = (lease_under g.asked gs ≡ None) × AreDistinct gs

-- the lease is granted, under some page
abbrev pub IsGranted : List Grant → Lease → Type 0
IsGranted grants l = (page : ℕ) × (lease_under page grants ≡ Some l)

-- each of the leases is
abbrev pub AreGranted : List Grant → List Lease → Type 0
AreGranted grants leases = AllByRecursion (IsGranted grants) leases

-- the lease of each Update under way is
abbrev pub UpdatesAreGranted : List Grant → List Down → Type 0
UpdatesAreGranted grants [] = Unit {0}
UpdatesAreGranted grants (Update l ∷ down) = IsGranted grants l × UpdatesAreGranted grants down
UpdatesAreGranted grants (Invalidate reach ∷ down) = UpdatesAreGranted grants down

-- no page of the leases has an address of the reach
abbrev pub AreClear : Option Span → List Lease → Type 0
AreClear reach leases = AllByRecursion (λ l. touches reach l ≡ false) leases

-- no page of an Update under way has one
abbrev pub UpdatesAreClear : Option Span → List Down → Type 0
UpdatesAreClear reach [] = Unit {0}
UpdatesAreClear reach (Update l ∷ down) = (touches reach l ≡ false) × UpdatesAreClear reach down
UpdatesAreClear reach (Invalidate other ∷ down) = UpdatesAreClear reach down

-- no page of an Update that stands behind an Invalidate has an address of its reach
abbrev pub AreClearBehind : List Down → Type 0
AreClearBehind [] = Unit {0}
AreClearBehind (Update l ∷ down) = AreClearBehind down
AreClearBehind (Invalidate reach ∷ down) = UpdatesAreClear reach down × AreClearBehind down

-- no page of a cached lease or of an Update under way has an address of one of these reaches
abbrev pub AreClearOf : List (Option Span) → List Lease → List Down → Type 0
AreClearOf reaches cache down = AllByRecursion (λ reach. AreClear reach cache × UpdatesAreClear reach down) reaches

-- a removal that closes a page of a granted lease now still waits for the back end
abbrev pub WaitsWhereClosing : Dev → ℕ → ℕ → List Grant → Removal → Type 0
WaitsWhereClosing dev endpoint place grants r =
    (asked : ℕ) (l : Lease) → lease_under asked grants ≡ Some l → (page : ℕ) → has_page l page ≡ true → closes dev r.task endpoint page ≡ true → waits_for place r ≡ true

-- The grants are a map, each under a page of its lease; what is cached or under way is granted; each page of a grant
-- is translated so now; what closes one waits. The removals that wait for the back end are, in their order, those of
-- its acknowledgements under way and then those of the Invalidates under way, and nothing it caches or is sent after
-- them is in their reach.
pub record IsLinked (dev : Dev) (removals : List Removal) (endpoint place : ℕ) (grants : List Grant) (cache : List Lease) (down : List Down) (acks : ℕ) : Type 0 where
  pub distinct : AreDistinct grants
  pub asked : (page : ℕ) (l : Lease) → lease_under page grants ≡ Some l → has_page l page ≡ true
  pub cached : AreGranted grants cache
  pub updates : UpdatesAreGranted grants down
  pub current : (asked : ℕ) (l : Lease) → lease_under asked grants ≡ Some l → (page : ℕ) → has_page l page ≡ true → lease dev endpoint page ≡ Some (piece l page)
  pub wait : AllByRecursion (WaitsWhereClosing dev endpoint place grants) removals
  pub gone : List (Option Span)
  pub count : length gone ≡ acks
  pub order : awaited_reaches place removals ≡ gone ++ sent_reaches down
  pub clear : AreClearOf gone cache down
  pub behind : AreClearBehind down
