-- What a finding says of a trace.
use Rattle.std.specs.Prelude.{◌≡◌, ◌≤◌, ◌<◌, ℕ, ◌+◌, ◌/◌, Bool, false, List, length}
use Rattle.vi_bytes.specs.Spans.{Meets, page_span}
use Rattle.vi_bytes.specs.declared.span.Span.{Span}
use Rattle.vi_bytes.specs.declared.span.TheConstants.{PAGE}
use Rattle.vi_bytes.specs.declared.lease.Need.{Need}
use Rattle.vi_trace.specs.declared.finding.Finding.{Finding}
use Rattle.vi_trace.specs.declared.finding.Finding.TheVariants.{Held}
use Rattle.vi_trace.specs.declared.trace.TraceLine.{TraceLine}
use Rattle.vi_trace.specs.Rules.{Judges, nothing_known}
use Rattle.vi_trace.specs.Lawful.{Acknowledges, IsLawful, UpdatesAt, GrantsAt, AccessesAt}

-- a trace has one finding at most
abbrev pub JudgedOnce : Type 0
JudgedOnce = (lines : List TraceLine) (f g : Finding) → Judges nothing_known lines f → Judges nothing_known lines g → f ≡ g

-- no lawful cache has a page of an acknowledged span behind the Ack, before a later Update of the page
abbrev pub NoCacheOutlivesAnAck : List TraceLine → Type 0
NoCacheOutlivesAnAck lines = (holds : ℕ → ℕ → Bool) → IsLawful lines holds
    → (i j m page : ℕ) (span : Span) → Acknowledges lines i j span → j ≤ m → m < length lines → Meets (page_span page) span
    → ((u : ℕ) → j < u → u ≤ m → ¬ UpdatesAt lines u page)
    → holds (m + 1) page ≡ false

-- each use is of a page that the page's last Update above permits, and no Ack behind that Update has taken the page back
abbrev pub EachUseIsGranted : List TraceLine → Type 0
EachUseIsGranted lines = (m address : ℕ) (need : Need) → AccessesAt lines m address need
    → (u : ℕ) × (u < m) × GrantsAt lines u (address / PAGE) need
    × ((v : ℕ) → u < v → v < m → ¬ UpdatesAt lines v (address / PAGE))
    × ((i j : ℕ) (span : Span) → Acknowledges lines i j span → u < j → j < m → ¬ Meets (page_span (address / PAGE)) span)

-- what a trace that holds says of every lawful cache
abbrev pub NothingOutlivesItsAck : Type 0
NothingOutlivesItsAck = (lines : List TraceLine) → Judges nothing_known lines Held → NoCacheOutlivesAnAck lines

-- and of the uses
abbrev pub UsesAreGranted : Type 0
UsesAreGranted = (lines : List TraceLine) → Judges nothing_known lines Held → EachUseIsGranted lines
