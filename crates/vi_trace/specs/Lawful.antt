-- Lawful caches over a trace, as sets of pages: one before the first line and one behind each.
use Rattle.std.specs.Prelude.{zero, suc, ◌≡◌, ◌≤◌, ◌<◌, ℕ, ◌+◌, Bool, true, false, List, [], ◌∷◌, length}
use Rattle.vi_bytes.specs.Spans.{Meets, page_span}
use Rattle.vi_bytes.specs.declared.span.Span.{Span}
use Rattle.vi_bytes.specs.declared.lease.Need.{Need}
use Rattle.vi_iotlb.specs.Frames.{ReadAs}
use Rattle.vi_iotlb.specs.declared.frame.Frame.TheVariants as frame
use Rattle.vi_trace.specs.declared.trace.Event.{Event}
use Rattle.vi_trace.specs.declared.trace.Event.TheVariants.{Down, Up, Access}
use Rattle.vi_trace.specs.declared.trace.TraceLine.{TraceLine}
use Rattle.vi_trace.specs.Rules.{allows}

-- the bytes are an Update that gives the page with this permission
pub record Gives (page perm : ℕ) (bytes : List ℕ) : Type 0 where
  pub first : ℕ
  pub count : ℕ
  pub target : ℕ
  pub reads : ReadAs bytes (frame.Update first count target perm)
  pub from_first : first ≤ page
  pub to_last : page < first + count

-- an Update of the page
abbrev pub Updates : ℕ → Event → Type 0
Updates page (Down bytes) = (perm : ℕ) × Gives page perm bytes
Updates page (Up bytes) = ⊥
Updates page (Access address need) = ⊥

-- an Update of the page that permits what is needed
abbrev pub Permits : ℕ → Need → Event → Type 0
Permits page need (Down bytes) = (perm : ℕ) × Gives page perm bytes × (allows need perm ≡ true)
Permits page need (Up bytes) = ⊥
Permits page need (Access address n) = ⊥

-- an Invalidate of the span
abbrev pub Invalidates : Span → Event → Type 0
Invalidates span (Down bytes) = ReadAs bytes (frame.Invalidate span)
Invalidates span (Up bytes) = ⊥
Invalidates span (Access address need) = ⊥

-- an Invalidate
abbrev pub IsInvalidate : Event → Type 0
IsInvalidate event = (span : Span) × Invalidates span event

-- an Ack
abbrev pub IsAck : Event → Type 0
IsAck (Down bytes) = ⊥
IsAck (Up bytes) = ReadAs bytes frame.Ack
IsAck (Access address need) = ⊥

-- the line at i, from 0, is there and records such an event
abbrev pub At : (Event → Type 0) → List TraceLine → ℕ → Type 0
At P [] i = ⊥
At P (l ∷ ls) zero = P l.event
At P (l ∷ ls) (suc i) = At P ls i

abbrev pub UpdatesAt : List TraceLine → ℕ → ℕ → Type 0
UpdatesAt lines i page = At (Updates page) lines i

abbrev pub GrantsAt : List TraceLine → ℕ → ℕ → Need → Type 0
GrantsAt lines i page need = At (Permits page need) lines i

abbrev pub InvalidatesAt : List TraceLine → ℕ → Span → Type 0
InvalidatesAt lines i span = At (Invalidates span) lines i

abbrev pub AcksAt : List TraceLine → ℕ → Type 0
AcksAt lines i = At IsAck lines i

abbrev pub AccessesAt : List TraceLine → ℕ → ℕ → Need → Type 0
AccessesAt lines i address need = At (λ event. event ≡ Access address need) lines i

-- n of the first i lines record such an event
pub data Counts (P : Event → Type 0) : ℕ → List TraceLine → ℕ → Type 0 where
  none : (lines : List TraceLine) → Counts P zero lines zero
  counted : (i : ℕ) (l : TraceLine) (ls : List TraceLine) (n : ℕ) → P l.event → Counts P i ls n → Counts P (suc i) (l ∷ ls) (suc n)
  passed : (i : ℕ) (l : TraceLine) (ls : List TraceLine) (n : ℕ) → ¬ P l.event → Counts P i ls n → Counts P (suc i) (l ∷ ls) n

-- the line at i, from 0, is an Invalidate of this span, and the one at j the Ack that takes it: as many Acks stand
-- above the Ack as Invalidates above the Invalidate
pub record Acknowledges (lines : List TraceLine) (i j : ℕ) (span : Span) : Type 0 where
  pub before : i < j
  pub invalidates : InvalidatesAt lines i span
  pub acks : AcksAt lines j
  pub above : ℕ
  pub invalidates_above : Counts IsInvalidate i lines above
  pub acks_above : Counts IsAck j lines above

-- a lawful cache: it begins empty; at an Update's line it may gain pages of that Update, at other lines it gains
-- nothing; and between each Invalidate and its Ack there is a line behind which it has no page of the span
pub record IsLawful (lines : List TraceLine) (holds : ℕ → ℕ → Bool) : Type 0 where
  pub begins : (page : ℕ) → holds 0 page ≡ false
  pub gains : (i page : ℕ) → i < length lines → holds i page ≡ false → holds (i + 1) page ≡ true → UpdatesAt lines i page
  pub drops : (i j : ℕ) (span : Span) → Acknowledges lines i j span
      → (k : ℕ) × (i ≤ k) × (k ≤ j) × ((page : ℕ) → Meets (page_span page) span → holds (k + 1) page ≡ false)
