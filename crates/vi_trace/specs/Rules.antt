-- The rules of the channel: what is known behind each line, where a rule is broken, and what a trace is found to be.
use Rattle.std.specs.Prelude.{◌≡◌, ◌≢◌, ◌==◌, ℕ, ◌+◌, ◌-◌, ◌*◌, ◌/◌, ◌%◌, zero, suc, Bool, true, false, not, if◌then◌else◌, List, [], ◌∷◌, ◌++◌, filter}
use Rattle.std.specs.List.{list_any}
use Rattle.vi_bytes.specs.Spans.{meets, page_span}
use Rattle.vi_bytes.specs.declared.span.Span.{Span}
use Rattle.vi_bytes.specs.declared.span.TheConstants.{PAGE}
use Rattle.vi_bytes.specs.declared.lease.Need.{Need}
use Rattle.vi_iotlb.specs.Fields.{permission_for}
use Rattle.vi_iotlb.specs.Frames.{ReadAs}
use Rattle.vi_iotlb.specs.declared.frame.Frame.{Frame}
use Rattle.vi_iotlb.specs.declared.frame.Frame.TheVariants as frame
use Rattle.vi_trace.specs.declared.finding.Rule.{Rule}
use Rattle.vi_trace.specs.declared.finding.Rule.TheVariants as rule
use Rattle.vi_trace.specs.declared.finding.Finding.{Finding}
use Rattle.vi_trace.specs.declared.finding.Finding.TheVariants.{Held, Broken}
use Rattle.vi_trace.specs.declared.trace.Event.{Event}
use Rattle.vi_trace.specs.declared.trace.Event.TheVariants.{Down, Up, Access}
use Rattle.vi_trace.specs.declared.trace.TraceLine.{TraceLine}

-- a page of the greatest cache with its permission
pub record Kept : Type 0 where
  pub page : ℕ
  pub perm : ℕ

-- the spans of the open Invalidates, oldest first, and the greatest cache, what came last in front
pub record Known : Type 0 where
  pub waiting : List Span
  pub cache : List Kept

-- before the first line
abbrev pub nothing_known : Known
nothing_known = record { waiting = []; cache = [] }

-- the permission of a page, 0 where it isn't there
abbrev pub perm_of : ℕ → List Kept → ℕ
perm_of page [] = 0
perm_of page (k ∷ ks) = if k.page == page then k.perm else perm_of page ks

-- the permission has the bit of what is needed: 1 permits reading and 2 writing
abbrev pub allows : Need → ℕ → Bool
allows need perm = perm / permission_for need % 2 == 1

-- the pages of an Update, each with its permission
abbrev pub pages_kept : ℕ → ℕ → ℕ → List Kept
pages_kept page zero perm = []
pages_kept page (suc count) perm = record { page = page + count; perm = perm } ∷ pages_kept page count perm

-- the addresses of an Update's pages
abbrev pub pages_span : ℕ → ℕ → Span
pages_span page count = record { first = PAGE * page; last = PAGE * (page + count - 1) + 4095 }

-- a page of an Update meets the span
abbrev pub update_meets : ℕ → ℕ → Span → Bool
update_meets page count span = meets (pages_span page count) span

-- an Ack of the span takes the page out
abbrev pub takes : Span → Kept → Bool
takes span k = meets (page_span k.page) span

-- a frame that may go to the back end
abbrev pub GoesDown : Frame → Type 0
GoesDown (frame.Update page count target perm) = Unit {0}
GoesDown (frame.Invalidate span) = Unit {0}
GoesDown (frame.Miss iova len need) = ⊥
GoesDown (frame.AccessFail iova len need) = ⊥
GoesDown frame.Ack = ⊥
GoesDown (frame.Reply fault) = ⊥

-- the first rule that an event breaks, by what is known above it
pub data Breaks (known : Known) : Event → Rule → Type 0 where
  down : (bytes : List ℕ) → ((f : Frame) → ReadAs bytes f → ¬ GoesDown f) → Breaks known (Down bytes) rule.Frame
  up : (bytes : List ℕ) → ((f : Frame) → ReadAs bytes f → f ≢ frame.Ack) → Breaks known (Up bytes) rule.Frame
  ack : (bytes : List ℕ) → ReadAs bytes frame.Ack → known.waiting ≡ [] → Breaks known (Up bytes) rule.Ack
  update : (bytes : List ℕ) (page count target perm : ℕ) → ReadAs bytes (frame.Update page count target perm)
      → list_any (update_meets page count) known.waiting ≡ true → Breaks known (Down bytes) rule.Update
  access : (address : ℕ) (need : Need) → allows need (perm_of (address / PAGE) known.cache) ≡ false → Breaks known (Access address need) rule.Access

-- no rule is broken by the event, and this is known behind it
pub data Goes (known : Known) : Event → Known → Type 0 where
  updated : (bytes : List ℕ) (page count target perm : ℕ) → ReadAs bytes (frame.Update page count target perm)
      → list_any (update_meets page count) known.waiting ≡ false
      → Goes known (Down bytes) (record { waiting = known.waiting; cache = pages_kept page count perm ++ known.cache })
  invalidated : (bytes : List ℕ) (span : Span) → ReadAs bytes (frame.Invalidate span)
      → Goes known (Down bytes) (record { waiting = known.waiting ++ span ∷ []; cache = known.cache })
  acknowledged : (bytes : List ℕ) (span : Span) (spans : List Span) → ReadAs bytes frame.Ack → known.waiting ≡ span ∷ spans
      → Goes known (Up bytes) (record { waiting = spans; cache = filter (λ k. not (takes span k)) known.cache })
  used : (address : ℕ) (need : Need) → allows need (perm_of (address / PAGE) known.cache) ≡ true → Goes known (Access address need) known

-- what lines are found to be, by what is known above them: the first line at which a rule is broken, and its first
-- rule, or that all hold
pub data Judges : Known → List TraceLine → Finding → Type 0 where
  held : (known : Known) → Judges known [] Held
  broken : (known : Known) (l : TraceLine) (ls : List TraceLine) (r : Rule) → Breaks known l.event r → Judges known (l ∷ ls) (Broken l.number r)
  goes : (known more : Known) (l : TraceLine) (ls : List TraceLine) (f : Finding) → Goes known l.event more → Judges more ls f → Judges known (l ∷ ls) f
