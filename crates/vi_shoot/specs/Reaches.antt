-- What a removal takes from endpoints, and the pages that it closes.
use Rattle.std.specs.Prelude.{ℕ, ◌-◌, ◌^◌, Bool, true, false, ◌==◌}
use Rattle.vi_bytes.specs.Spans.{IsProper, meets, page_span}
use Rattle.vi_bytes.specs.declared.span.Span.{Span}
use Rattle.vi_bytes.specs.declared.region.Membership.{Membership}
use Rattle.vi_bytes.specs.declared.region.Membership.TheVariants.{Unattached, Member}
use Rattle.vi_shoot.specs.declared.what.What.{What}
use Rattle.vi_shoot.specs.declared.what.What.TheVariants.{Unmap, Endpoint, BypassOff}
use Rattle.vi_shoot.specs.declared.what.Reach.{Reach}
use Rattle.vi_shoot.specs.declared.what.Reach.TheVariants.{All, Within}

-- the endpoint is in this domain
abbrev pub is_member : ℕ → Membership → Bool
is_member domain (Member d) = d == domain
is_member domain Unattached = false

-- the endpoint is in no domain
abbrev pub is_unattached : Membership → Bool
is_unattached (Member d) = false
is_unattached Unattached = true

-- A removal is for an endpoint, by where the endpoint is now: an UNMAP for each in its domain, an ATTACH or a
-- DETACH for its own, and bypass off for each in no domain.
abbrev pub is_for : What → ℕ → Membership → Bool
is_for (Unmap domain span) place now = is_member domain now
is_for (Endpoint endpoint) place now = endpoint == place
is_for BypassOff place now = is_unattached now

-- an UNMAP closes the pages of its span, and any other removal all pages
abbrev pub reach_of : What → Reach
reach_of (Unmap domain span) = Within span
reach_of (Endpoint endpoint) = All
reach_of BypassOff = All

-- the page is one of these
abbrev pub reaches : Reach → ℕ → Bool
reaches All page = true
reaches (Within span) page = meets (page_span page) span

-- the addresses of the pages
abbrev pub reach_span : Reach → Span
reach_span All = record { first = 0; last = 2 ^ 64 - 1 }
reach_span (Within span) = span

-- a reach that is not all pages has a page
abbrev pub IsProperReach : Reach → Type 0
IsProperReach All = Unit {0}
IsProperReach (Within span) = IsProper span
