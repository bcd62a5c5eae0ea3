-- Whether a granted lease has a page that a removal reaches, by the addresses of its pages.
use Rattle.std.proofs.Common.{◌≡◌, ◌+◌, ◌^◌, ◌≤◌, not, List, [], ◌∷◌, Option, All, refl}
use Rattle.std.specs.List.{filter}
use Rattle.std.proofs.lemmas.List.Elements.{All-head, All-tail}
use Rattle.vi_bytes.specs.Spans.{IsProper}
use Rattle.vi_bytes.specs.declared.span.Span.{Span}
use Rattle.vi_grants.specs.Rows.{IsGrant, is_met}
use Rattle.vi_grants.specs.declared.row.Grant.{Grant}
use Rattle.vi_model.specs.Grants.{spared}
use Rattle.vi_removals.specs.Value.{addresses_of}
use Rattle.vi_control.proofs.Reaching.{touches-reach}

-- the grants that a reach leaves are those that its addresses don't meet
pub spared_is : (reach : Option Span) (gs : List Grant) → IsProper (addresses_of reach) → All IsGrant gs → All (λ g. g.lease.page + g.lease.count ≤ 2 ^ 52) gs
    → spared reach gs ≡ filter (λ g. not (is_met (addresses_of reach) g)) gs
spared_is reach [] proper grants pages = refl
spared_is reach (g ∷ gs) proper grants pages =
    let here : IsGrant g = All-head IsGrant g gs grants in
    let ends : g.lease.page + g.lease.count ≤ 2 ^ 52 = All-head (λ g. g.lease.page + g.lease.count ≤ 2 ^ 52) g gs pages in
    rw (touches-reach reach g.lease proper here.lease.some ends, spared_is reach gs proper (All-tail IsGrant g gs grants) (All-tail (λ g. g.lease.page + g.lease.count ≤ 2 ^ 52) g gs pages)) refl
