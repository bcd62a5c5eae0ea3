-- The leases that each back end was granted, a row a back end.
use Rattle.std.specs.Prelude.{◌≡◌, ◌==◌, ℕ, ◌+◌, ◌-◌, ◌≤◌, Bool, not, if◌then◌else◌, List, [], ◌∷◌, ◌++◌, All, Option, None, is_some, IsNone, filter, find, count_by, get_or}
use Rattle.vi_bytes.specs.Leases.{IsLease, HasPage, reaches_into}
use Rattle.vi_bytes.specs.declared.lease.Lease.{Lease}
use Rattle.vi_bytes.specs.declared.span.Span.{Span}
use Rattle.vi_grants.specs.declared.row.Grant.{Grant}

-- the grants of one back end, oldest first, and for how many more pages there is room
pub record GrantRow : Type 0 where
  pub grants : List Grant
  pub spare : ℕ

-- a granted lease has the page that was asked for
pub record IsGrant (g : Grant) : Type 0 where
  pub lease : IsLease g.lease
  pub has_asked : HasPage g.lease g.asked

-- the grant for the page
abbrev pub grant_of : ℕ → List Grant → Option Grant
grant_of asked grants = find (λ g. g.asked == asked) grants

-- no page was asked for in two of the grants
abbrev pub AreDistinct : List Grant → Type 0
AreDistinct [] = Unit {0}
AreDistinct (g ∷ gs) = (grant_of g.asked gs ≡ None) × AreDistinct gs

-- what is so of every row
pub record IsRow (row : GrantRow) : Type 0 where
  pub grants_each : All IsGrant row.grants
  pub distinct : AreDistinct row.grants

-- there is a grant for the page, or room for one
abbrev pub HasRoom : ℕ → GrantRow → Type 0
HasRoom asked row = IsNone (grant_of asked row.grants) → 1 ≤ row.spare

-- the grants for other pages
abbrev pub others : ℕ → List Grant → List Grant
others asked grants = filter (λ g. not (g.asked == asked)) grants

-- the row after a grant: it stands at the end, in the place of one for the same page, or takes a part of the room
abbrev pub granted : ℕ → Lease → GrantRow → GrantRow
granted asked lease row = record {
  grants = others asked row.grants ++ (record { asked = asked; lease = lease }) ∷ [];
  spare = if is_some (grant_of asked row.grants) then row.spare else row.spare - 1;
}

-- a page of the granted lease has an address of the span
abbrev pub is_met : Span → Grant → Bool
is_met span g = reaches_into g.lease span

-- the row after the grants that the span meets were taken out: their room is there again
abbrev pub without_span : Span → GrantRow → GrantRow
without_span span row = record {
  grants = filter (λ g. not (is_met span g)) row.grants;
  spare = row.spare + count_by (is_met span) row.grants;
}

-- a row with no grants
abbrev pub empty_row : ℕ → GrantRow
empty_row spare = record { grants = []; spare = spare }

-- the row of the back end
abbrev pub row_at : List GrantRow → ℕ → GrantRow
row_at rows place = get_or rows place (empty_row 0)
