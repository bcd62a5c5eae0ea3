-- What an acknowledgement changes.
use Rattle.std.proofs.Common.{◌≡◌, ℕ, ◌+◌, ◌-◌, ◌^◌, ◌≤◌, Bool, true, false, cond, not, List, [], ◌∷◌, length, map, set, filter, Some, All, refl, ap, sym, subst, ◌∙◌, arith, count_by}
use Rattle.std.specs.List.{list_any}
use Rattle.std.specs.Option.{option_map}
use Rattle.std.proofs.lemmas.List.Elements.{All-filter}
use Rattle.std.proofs.lemmas.List.{set-get_or}
use Rattle.vi_bytes.specs.Spans.{IsProper}
use Rattle.vi_bytes.specs.declared.span.Span.{Span}
use Rattle.vi_grants.specs.Rows.{GrantRow, IsGrant, is_met, without_span, row_at}
use Rattle.vi_grants.specs.declared.row.Grant.{Grant}
use Rattle.vi_grants.proofs.Finds.{count_by-from_lengths}
use Rattle.vi_model.specs.Grants.{spared}
use Rattle.vi_model.specs.Removals.{acked_grants}
use Rattle.vi_model.specs.Tasks.{reach_of}
use Rattle.vi_removals.specs.Value.{Opened, is_awaiting, oldest_awaiting, addresses_in}
use Rattle.vi_shoot.proofs.Firsts.{filter_all}
use Rattle.vi_control.specs.Inner.{HasPages}
use Rattle.vi_control.proofs.Touching.{spared_is}

-- what the oldest removal that waits for the back end leaves of the grants
pub acked_is : (place : ℕ) (span : Span) (os : List Opened) (gs : List Grant) → Some span ≡ option_map addresses_in (oldest_awaiting place os) → IsProper span → All IsGrant gs → All (λ g. g.lease.page + g.lease.count ≤ 2 ^ 52) gs
    → acked_grants place (map (λ o. o.removal) os) gs ≡ filter (λ g. not (is_met span g)) gs
acked_is place span [] gs e proper grants pages = absurd cc
acked_is place span (o ∷ os) gs e proper grants pages = go (is_awaiting place o) e (λ k. acked_is place span os gs k proper grants pages)
  where
    go : (b : Bool) → Some span ≡ option_map addresses_in (cond b (Some o) (oldest_awaiting place os)) → (Some span ≡ option_map addresses_in (oldest_awaiting place os) → acked_grants place (map (λ o. o.removal) os) gs ≡ filter (λ g. not (is_met span g)) gs)
        → cond b (spared (reach_of o.removal.task) gs) (acked_grants place (map (λ o. o.removal) os) gs) ≡ filter (λ g. not (is_met span g)) gs
    go true e rest =
        let same : addresses_in o ≡ span = cc in
        let own : IsProper (addresses_in o) = subst IsProper (sym same) proper in
        subst (λ a. spared (reach_of o.removal.task) gs ≡ filter (λ g. not (is_met a g)) gs) same (spared_is (reach_of o.removal.task) gs own grants pages)
    go false e rest = rest e

-- the row after the grants that a span meets were taken out
pub count_left : (p : Grant → Bool) (gs : List Grant) → length gs - length (filter (λ g. not (p g)) gs) ≡ count_by p gs
count_left p gs = count_by-from_lengths p gs (filter (λ g. not (p g)) gs) (length gs) (length (filter (λ g. not (p g)) gs)) refl refl refl

pub pages_left : (span : Span) (row : GrantRow) → HasPages row → HasPages (without_span span row)
pages_left span row pages = All-filter (λ g. not (is_met span g)) (λ g. g.lease.page + g.lease.count ≤ 2 ^ 52) row.grants pages

-- where the span meets none, nothing changes
none_counted : (p : Grant → Bool) (gs : List Grant) → list_any p gs ≡ false → count_by p gs ≡ 0
none_counted p gs none =
    let all : filter (λ g. not (p g)) gs ≡ gs = filter_all p gs none in
    sym (count_left p gs) ∙ (ap (λ left. length gs - length left) all ∙ same (length gs))
  where
    same : (n : ℕ) → n - n ≡ 0
    same n = omega arith

pub none_taken : (span : Span) (rows : List GrantRow) (place : ℕ) → list_any (is_met span) (row_at rows place).grants ≡ false → rows ≡ set rows place (without_span span (row_at rows place))
none_taken span rows place none =
    let row = row_at rows place in
    let grants : filter (λ g. not (is_met span g)) row.grants ≡ row.grants = filter_all (is_met span) row.grants none in
    let counted : count_by (is_met span) row.grants ≡ 0 = none_counted (is_met span) row.grants none in
    let spare : row.spare + count_by (is_met span) row.grants ≡ row.spare = omega (arith, counted) in
    let left : without_span span row ≡ row = ap (λ gs. (let r : GrantRow = record { grants = gs; spare = row.spare + count_by (is_met span) row.grants } in r)) grants ∙ ap (λ n. (let r : GrantRow = record { grants = row.grants; spare = n } in r)) spare in
    sym (ap (set rows place) left ∙ set-get_or rows place _)
