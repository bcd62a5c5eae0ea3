-- The reason of a fault is one of the three that there are (Virtio 1.2, 5.13.6.9).
use Rattle.std.proofs.Common.{◌≡◌, ℕ, ◌≤◌, Bool, true, false, cond, not, List, Option, Some, None, find, subst, lit≤}
use Rattle.std.specs.List.{list_any}
use Rattle.vi_bytes.specs.Spans.{has}
use Rattle.vi_bytes.specs.declared.lease.Mapping.{Mapping}
use Rattle.vi_bytes.specs.declared.lease.Need.{Need}
use Rattle.vi_bytes.specs.declared.region.Membership.{Membership}
use Rattle.vi_bytes.specs.declared.region.Membership.TheVariants.{Unattached, Member}
use Rattle.vi_bytes.specs.declared.region.Region.{Region}
use Rattle.vi_history.specs.Device.{Dev, Endpoint, Domain, endpoint_of, domain_of}
use Rattle.vi_history.specs.Translation.{Look, Leads, Nowhere, look, look_of, look_by, look_in_domain, look_in_mapping, found_for, permits, is_in_memory, translate}
use Rattle.vi_history.specs.declared.found.Found.{Found}
use Rattle.vi_history.specs.declared.found.Found.TheVariants as found
use Rattle.vi_history.specs.declared.reason.TheConstants.{UNKNOWN, MAPPING}

abbrev HasReason : Look → Type 0
HasReason (Leads target flags) = Unit {0}
HasReason (Nowhere reason) = reason ≤ 2

reason_if : (b : Bool) (x y : Look) → HasReason x → HasReason y → HasReason (cond b x y)
reason_if true x y h k = h
reason_if false x y h k = k

reason_in_mapping : (address : ℕ) (o : Option Mapping) → HasReason (look_in_mapping address o)
reason_in_mapping address None = lit≤ tt
reason_in_mapping address (Some m) = tt

reason_in_domain : (address : ℕ) (regions : List Region) (o : Option Domain) → HasReason (look_in_domain address regions o)
reason_in_domain address regions None = lit≤ tt
reason_in_domain address regions (Some y) =
    reason_if y.bypass _ _ tt (reason_if (list_any (λ r. has r.span address) regions) _ _ (lit≤ tt) (reason_in_mapping address (find (λ m. has m.span address) y.mappings)))

reason_by : (dev : Dev) (address : ℕ) (regions : List Region) (m : Membership) → HasReason (look_by dev address regions m)
reason_by dev address regions Unattached = reason_if dev.bypass _ _ tt (lit≤ tt)
reason_by dev address regions (Member domain) = reason_in_domain address regions (domain_of dev domain)

reason_of : (dev : Dev) (address : ℕ) (o : Option Endpoint) → HasReason (look_of dev address o)
reason_of dev address None = lit≤ tt
reason_of dev address (Some x) = reason_by dev address x.regions x.domain

reason_of_look : (dev : Dev) (endpoint address : ℕ) → HasReason (look dev endpoint address)
unfolding look
reason_of_look dev endpoint address = reason_of dev address (endpoint_of dev endpoint)

abbrev FaultsSo : Found → Type 0
FaultsSo (found.At target) = Unit {0}
FaultsSo (found.Fault reason) = reason ≤ 2

faults_if : (b : Bool) (x y : Found) → FaultsSo x → FaultsSo y → FaultsSo (cond b x y)
faults_if true x y h k = h
faults_if false x y h k = k

faults_for : (pages : ℕ) (n : Need) (l : Look) → HasReason l → FaultsSo (found_for pages n l)
faults_for pages n (Leads target flags) h =
    faults_if (not (permits n flags)) (found.Fault MAPPING) (cond (not (is_in_memory pages target)) (found.Fault UNKNOWN) (found.At target)) (lit≤ tt)
    (faults_if (not (is_in_memory pages target)) (found.Fault UNKNOWN) (found.At target) (lit≤ tt) tt)
faults_for pages n (Nowhere reason) h = h

pub reason_most : (dev : Dev) (endpoint address : ℕ) (n : Need) (reason : ℕ) → translate dev endpoint address n ≡ found.Fault reason → reason ≤ 2
reason_most dev endpoint address n reason e = subst FaultsSo e (faults_for dev.pages n (look dev endpoint address) (reason_of_look dev endpoint address))
