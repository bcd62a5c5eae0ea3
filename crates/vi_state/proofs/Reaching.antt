-- An address leads to the same place of a page, where all mappings go by pages.
use Rattle.std.proofs.Common.{◌≡◌, ℕ, ◌+◌, ◌-◌, ◌%◌, ◌≤◌, Bool, true, false, cond, not, List, [], ◌∷◌, Option, Some, None, refl, arith}
use Rattle.std.specs.List.{AllByRecursion, list_any, find}
use Rattle.std.proofs.lemmas.Bool.Decides.{nat_tests}
use Rattle.vi_bytes.specs.Spans.{has}
use Rattle.vi_bytes.specs.declared.span.TheConstants.{PAGE}
use Rattle.vi_bytes.specs.declared.lease.Mapping.{Mapping}
use Rattle.vi_bytes.specs.declared.lease.Need.{Need}
use Rattle.vi_bytes.specs.declared.region.Region.{Region}
use Rattle.vi_bytes.specs.declared.region.Membership.{Membership}
use Rattle.vi_bytes.specs.declared.region.Membership.TheVariants.{Unattached, Member}
use Rattle.vi_history.specs.Device.{Dev, Endpoint, Domain, endpoint_of, domain_of}
use Rattle.vi_history.specs.Translation.{permits, Look, Leads, Nowhere, bypassed, look, look_of, look_by, look_in_domain, look_in_mapping, is_in_memory, found_for, translate}
use Rattle.vi_history.specs.declared.reason.TheConstants.{UNKNOWN, MAPPING, DOMAIN}
use Rattle.vi_history.specs.declared.found.Found.TheVariants.{At, Fault}
use Rattle.vi_state.specs.Kept.{IsPaged, IsRoomy, IsKept, KeepsOffset}
use Rattle.vi_state.proofs.Keeping.{found_roomy}

-- the target is at the same place of its page
abbrev Stays : ℕ → Look → Type 0
Stays a (Leads target flags) = target % PAGE ≡ a % PAGE
Stays a (Nowhere reason) = Unit {0}

stays_mapping : (a : ℕ) (ms : List Mapping) → AllByRecursion IsPaged ms → Stays a (look_in_mapping a (find (λ m. has m.span a) ms))
stays_mapping a [] ok = tt
stays_mapping a (m ∷ ms) ok = go (has m.span a) refl (stays_mapping a ms ok.1)
  where
    go : (v : Bool) → has m.span a ≡ v → Stays a (look_in_mapping a (find (λ m. has m.span a) ms)) → Stays a (look_in_mapping a (cond v (Some m) (find (λ m. has m.span a) ms)))
    go true e r = offset m.span.first m.target (grind (arith, nat_tests, e)) ok.0.0 ok.0.1
      where
        offset : (f t : ℕ) → f ≤ a → f % PAGE ≡ 0 → t % PAGE ≡ 0 → (t + (a - f)) % PAGE ≡ a % PAGE
        offset f t le x y = omega (arith, le, x, y)
    go false e r = r

stays_domain : (maps spare a : ℕ) (rs : List Region) (o : Option Domain) → ((y : Domain) → o ≡ Some y → IsRoomy maps spare y) → Stays a (look_in_domain a rs o)
stays_domain maps spare a rs None ok = tt
stays_domain maps spare a rs (Some y) ok = go y.bypass (list_any (λ r. has r.span a) rs) (stays_mapping a y.mappings (ok y refl).1)
  where
    go : (b h : Bool) → Stays a (look_in_mapping a (find (λ m. has m.span a) y.mappings)) → Stays a (cond b (bypassed a) (cond h (Nowhere MAPPING) (look_in_mapping a (find (λ m. has m.span a) y.mappings))))
    go true h m = refl
    go false true m = tt
    go false false m = m

stays_by : (maps spare : ℕ) (dev : Dev) (a : ℕ) (rs : List Region) (o : Membership) → IsKept maps spare dev → Stays a (look_by dev a rs o)
stays_by maps spare dev a rs Unattached ok = go dev.bypass
  where
    go : (b : Bool) → Stays a (cond b (bypassed a) (Nowhere DOMAIN))
    go true = refl
    go false = tt
stays_by maps spare dev a rs (Member d) ok = stays_domain maps spare a rs (domain_of dev d) (λ y e. found_roomy maps spare dev.domains d y ok.domains e)

stays_of : (maps spare : ℕ) (dev : Dev) (a : ℕ) (o : Option Endpoint) → IsKept maps spare dev → Stays a (look_of dev a o)
stays_of maps spare dev a None ok = tt
stays_of maps spare dev a (Some x) ok = stays_by maps spare dev a x.regions x.domain ok

stays : (maps spare : ℕ) (dev : Dev) (e a : ℕ) → IsKept maps spare dev → Stays a (look dev e a)
unfolding look
stays maps spare dev e a ok = stays_of maps spare dev a (endpoint_of dev e) ok

keeps_found : (pages a : ℕ) (need : Need) (l : Look) → Stays a l → KeepsOffset pages a (found_for pages need l)
keeps_found pages a need (Nowhere reason) ok = tt
keeps_found pages a need (Leads target flags) ok = go (permits need flags) (is_in_memory pages target) refl
  where
    go : (p m : Bool) → is_in_memory pages target ≡ m → KeepsOffset pages a (cond (not p) (Fault MAPPING) (cond (not m) (Fault UNKNOWN) (At target)))
    go false m e = tt
    go true false e = tt
    go true true e = (ok, grind (arith, nat_tests, e))

pub keeps_offset : (maps spare : ℕ) (dev : Dev) (e a : ℕ) (need : Need) → IsKept maps spare dev → KeepsOffset dev.pages a (translate dev e a need)
keeps_offset maps spare dev e a need ok = keeps_found dev.pages a need (look dev e a) (stays maps spare dev e a ok)
