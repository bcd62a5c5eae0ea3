-- Uses are granted: where each page of the greatest cache comes from.
use Rattle.std.proofs.Common.{zero, suc, ◌≡◌, ◌≤◌, ◌<◌, ◌+◌, ◌/◌, ℕ, true, not, List, [], ◌∷◌, ◌++◌, length, ap, sym, ◌∙◌, subst, arith, inl, inr}
use Rattle.std.specs.Prelude.{◌⊎◌, filter}
use Rattle.std.proofs.lemmas.Bool.{cases_Bool, cases_lt}
use Rattle.vi_bytes.specs.Spans.{Meets, meets, page_span}
use Rattle.vi_bytes.specs.declared.span.Span.{Span}
use Rattle.vi_bytes.specs.declared.span.TheConstants.{PAGE}
use Rattle.vi_bytes.specs.declared.lease.Need.{Need}
use Rattle.vi_iotlb.specs.Frames.{ReadAs}
use Rattle.vi_iotlb.specs.declared.frame.Frame.TheVariants as frame
use Rattle.vi_trace.specs.declared.finding.Finding.TheVariants.{Held}
use Rattle.vi_trace.specs.declared.trace.Event.{Event}
use Rattle.vi_trace.specs.declared.trace.Event.TheVariants.{Down, Up, Access}
use Rattle.vi_trace.specs.declared.trace.TraceLine.{TraceLine}
use Rattle.vi_trace.specs.Rules.{Known, nothing_known, Goes, Judges, allows, perm_of, pages_kept, takes, updated, invalidated, acknowledged, used}
use Rattle.vi_trace.specs.Lawful.{Updates, Permits, IsAck, UpdatesAt, GrantsAt, AcksAt, AccessesAt, Acknowledges, Counts}
use Rattle.vi_trace.specs.Laws.{UsesAreGranted}
use Rattle.vi_trace.proofs.FrameLemmas.{one_update, no_update}
use Rattle.vi_trace.proofs.Numbers.{meets-from_Meets, perm_of-within, perm_of-beside, perm_of-left, perm_of-taken, nothing_allowed}
use Rattle.vi_trace.proofs.Waiting.{taken_line, Queue, quiet, joins, leaves, queue, count_none, Waits, Comes, waits_on, begins_to_wait, comes_on}
use Rattle.vi_trace.proofs.Outlives.{from_start}

-- the span that the Ack at j takes: it waits, or is still to come
data Takes (known : Known) (j : ℕ) (ls : List TraceLine) (span : Span) : Type 0 where
  waits : Waits known j ls span → Takes known j ls span
  comes : (i : ℕ) → Comes known i j ls span → Takes known j ls span

takes_on : (known more : Known) (j : ℕ) (l : TraceLine) (ls : List TraceLine) (span : Span) → Queue known more l.event → Takes known (suc j) (l ∷ ls) span → Takes more j ls span
takes_on known more j l ls span q (waits w) = waits (waits_on known more j l ls span q w)
takes_on known more j l ls span q (comes zero c) = waits (begins_to_wait known more j l ls span q c)
takes_on known more j l ls span q (comes (suc i) c) = comes i (comes_on known more i j l ls span q c)

-- what an Ack takes is the oldest that waits
oldest_waits : (known : Known) (l : TraceLine) (ls : List TraceLine) (span first : Span) (front behind spans : List Span) → known.waiting ≡ front ++ span ∷ behind
    → known.waiting ≡ first ∷ spans → Counts IsAck zero (l ∷ ls) (length front) → first ≡ span
oldest_waits known l ls span first [] behind spans is begins acks =
    let both : span ∷ behind ≡ first ∷ spans = sym is ∙ begins in cc
oldest_waits known l ls span first (s ∷ front) behind spans is begins acks =
    let none : suc (length front) ≡ 0 = count_none IsAck (l ∷ ls) (length (s ∷ front)) acks in absurd (omega arith)

oldest : (known : Known) (l : TraceLine) (ls : List TraceLine) (span first : Span) (spans : List Span) → known.waiting ≡ first ∷ spans → Takes known zero (l ∷ ls) span → first ≡ span
oldest known l ls span first spans begins (waits w) = oldest_waits known l ls span first w.front w.behind spans w.is begins w.acks
oldest known l ls span first spans begins (comes i c) =
    let none : length known.waiting + c.above ≡ 0 = count_none IsAck (l ∷ ls) (length known.waiting + c.above) c.acks_above in
    let some : length known.waiting ≡ suc (length spans) = ap (λ (w : List Span). length w) begins in
    absurd (omega arith)

-- a page that is permitted behind an event was permitted by it, or above it and is neither updated nor taken by it
record Lasts (known : Known) (e : Event) (page : ℕ) (need : Need) : Type 0 where
  pub allowed : allows need (perm_of page known.cache) ≡ true
  pub not_updated : ¬ Updates page e
  pub not_taken : (first : Span) (spans : List Span) → IsAck e → known.waiting ≡ first ∷ spans → ¬ Meets (page_span page) first

abbrev ComesFrom : Known → Event → ℕ → Need → Type 0
ComesFrom known e page need = Permits page need e ⊎ Lasts known e page need

beside_update : (known : Known) (bytes : List ℕ) (page first count target perm : ℕ) (need : Need) → ReadAs bytes (frame.Update first count target perm) → (page < first) ⊎ (first + count ≤ page)
    → allows need (perm_of page (pages_kept first count perm ++ known.cache)) ≡ true → Lasts known (Down bytes) page need
beside_update known bytes page first count target perm need reads apart allowed = record {
  allowed = rw (perm_of-beside first count perm page known.cache apart) at allowed;
  not_updated = λ u.
      let g = u.1 in
      let same = one_update bytes g.first g.count g.target u.0 first count target perm g.reads reads in
      let firsts : g.first ≡ first = same.page_is in
      let counts : g.count ≡ count = same.count_is in
      let from : g.first ≤ page = g.from_first in
      let to : page < g.first + g.count = g.to_last in
      elim apart [ inl low ↦ omega arith | inr high ↦ omega arith ];
  not_taken = λ s ss ack. absurd ack;
}

behind_update : (known : Known) (bytes : List ℕ) (page first count target perm : ℕ) (need : Need) → ReadAs bytes (frame.Update first count target perm)
    → allows need (perm_of page (pages_kept first count perm ++ known.cache)) ≡ true → ComesFrom known (Down bytes) page need
behind_update known bytes page first count target perm need reads allowed =
    elim (cases_lt page first) [
      | inl low ↦ inr (beside_update known bytes page first count target perm need reads (inl low) allowed)
      | inr from ↦ elim (cases_lt page (first + count)) [
        | inl to ↦ inl (perm, record { first = first; count = count; target = target; reads = reads; from_first = from; to_last = to }, (rw (perm_of-within first count perm page known.cache from to) at allowed))
        | inr high ↦ inr (beside_update known bytes page first count target perm need reads (inr high) allowed)
      ]
    ]

behind_ack : (known : Known) (bytes : List ℕ) (page : ℕ) (need : Need) (span : Span) (spans : List Span) → known.waiting ≡ span ∷ spans
    → allows need (perm_of page (filter (λ k. not (takes span k)) known.cache)) ≡ true → Lasts known (Up bytes) page need
behind_ack known bytes page need span spans begins allowed =
    elim (cases_Bool (meets (page_span page) span)) [
      | inl met ↦
          let gone : allows need 0 ≡ true = rw (perm_of-taken span page known.cache met) at allowed in
          let not_so = nothing_allowed need in
          absurd (cc)
      | inr apart ↦ record {
        allowed = rw (perm_of-left span page known.cache apart) at allowed;
        not_updated = λ u. u;
        not_taken = λ s ss ack first share.
            let both : span ∷ spans ≡ s ∷ ss = sym begins ∙ first in
            let same : s ≡ span = cc in
            let met : meets (page_span page) span ≡ true = meets-from_Meets (page_span page) span (subst (λ (x : Span). Meets (page_span page) x) same share) in
            cc;
      }
    ]

comes_from : (known more : Known) (e : Event) (page : ℕ) (need : Need) → Goes known e more → allows need (perm_of page more.cache) ≡ true → ComesFrom known e page need
comes_from known more e page need (updated bytes first count target perm reads clear) allowed = behind_update known bytes page first count target perm need reads allowed
comes_from known more e page need (invalidated bytes span reads) allowed = inr (record {
  allowed = allowed;
  not_updated = λ u. no_update bytes span u.1.first u.1.count u.1.target u.0 reads u.1.reads;
  not_taken = λ s ss ack. absurd ack;
})
comes_from known more e page need (acknowledged bytes span spans reads begins) allowed = inr (behind_ack known bytes page need span spans begins allowed)
comes_from known more e page need (used address n has) allowed = inr (record { allowed = allowed; not_updated = λ u. u; not_taken = λ s ss ack. absurd ack })

-- a use that is taken is permitted
use_allowed : (known more : Known) (e : Event) (address : ℕ) (need : Need) → Goes known e more → e ≡ Access address need → allows need (perm_of (address / PAGE) known.cache) ≡ true
use_allowed known more e address need (updated bytes first count target perm reads clear) is = absurd (cc)
use_allowed known more e address need (invalidated bytes span reads) is = absurd (cc)
use_allowed known more e address need (acknowledged bytes span spans reads begins) is = absurd (cc)
use_allowed known more e address need (used a n has) is =
    let addresses : a ≡ address = cc in
    let needs : n ≡ need = cc in
    subst (λ (x : Need). allows x (perm_of (address / PAGE) known.cache) ≡ true) needs (subst (λ (x : ℕ). allows n (perm_of (x / PAGE) known.cache) ≡ true) addresses has)

-- where the right to the page at the line m comes from: from what is known above all lines, or from an Update
abbrev NotUpdated : List TraceLine → ℕ → ℕ → ℕ → Type 0
NotUpdated ls from m page = (v : ℕ) → from ≤ v → v < m → ¬ UpdatesAt ls v page

abbrev NotTaken : Known → List TraceLine → ℕ → ℕ → ℕ → Type 0
NotTaken known ls from m page = (j : ℕ) (span : Span) → from ≤ j → j < m → AcksAt ls j → Takes known j ls span → ¬ Meets (page_span page) span

data Granted (known : Known) (ls : List TraceLine) (m page : ℕ) (need : Need) : Type 0 where
  above : allows need (perm_of page known.cache) ≡ true → NotUpdated ls 0 m page → NotTaken known ls 0 m page → Granted known ls m page need
  within : (u : ℕ) → u < m → GrantsAt ls u page need → NotUpdated ls (u + 1) m page → NotTaken known ls (u + 1) m page → Granted known ls m page need

not_updated_on : (l : TraceLine) (ls : List TraceLine) (from m page : ℕ) → NotUpdated ls from m page → NotUpdated (l ∷ ls) (from + 1) (suc m) page
not_updated_on l ls from m page apart zero low high = absurd (omega arith)
not_updated_on l ls from m page apart (suc v) low high = apart v (omega arith) (omega arith)

not_taken_on : (known more : Known) (l : TraceLine) (ls : List TraceLine) (from m page : ℕ) → Queue known more l.event → NotTaken more ls from m page → NotTaken known (l ∷ ls) (from + 1) (suc m) page
not_taken_on known more l ls from m page q apart zero span low high acks t = absurd (omega arith)
not_taken_on known more l ls from m page q apart (suc j) span low high acks t = apart j span (omega arith) (omega arith) acks (takes_on known more j l ls span q t)

not_updated_at_all : (l : TraceLine) (ls : List TraceLine) (m page : ℕ) → ¬ Updates page l.event → NotUpdated ls 0 m page → NotUpdated (l ∷ ls) 0 (suc m) page
not_updated_at_all l ls m page here apart zero low high = here
not_updated_at_all l ls m page here apart (suc v) low high = apart v (omega arith) (omega arith)

first_not_taken : (known more : Known) (l : TraceLine) (ls : List TraceLine) (page : ℕ) (need : Need) (span : Span) → Queue known more l.event → Lasts known l.event page need → IsAck l.event
    → Takes known zero (l ∷ ls) span → ¬ Meets (page_span page) span
first_not_taken known more l ls page need span (quiet no_ack no_invalidate same) lasts ack t = absurd (no_ack ack)
first_not_taken known more l ls page need span (joins last reads no_ack same) lasts ack t = absurd (no_ack ack)
first_not_taken known more l ls page need span (leaves first spans _ no_invalidate begins rest) lasts ack t =
    subst (λ (s : Span). ¬ Meets (page_span page) s) (oldest known l ls span first spans begins t) (lasts.not_taken first spans ack begins)

not_taken_at_all : (known more : Known) (l : TraceLine) (ls : List TraceLine) (m page : ℕ) (need : Need) → Queue known more l.event → Lasts known l.event page need
    → NotTaken more ls 0 m page → NotTaken known (l ∷ ls) 0 (suc m) page
not_taken_at_all known more l ls m page need q lasts apart zero span low high acks t = first_not_taken known more l ls page need span q lasts acks t
not_taken_at_all known more l ls m page need q lasts apart (suc j) span low high acks t = apart j span (omega arith) (omega arith) acks (takes_on known more j l ls span q t)

granted_on : (known more : Known) (l : TraceLine) (ls : List TraceLine) (m page : ℕ) (need : Need) → Goes known l.event more → Granted more ls m page need → Granted known (l ∷ ls) (suc m) page need
granted_on known more l ls m page need taken (within u below grants apart kept) =
    within (suc u) (omega arith) grants
    (λ v low high. not_updated_on l ls (u + 1) m page apart v (omega arith) high)
    (λ j span low high. not_taken_on known more l ls (u + 1) m page (queue known more l.event taken) kept j span (omega arith) high)
granted_on known more l ls m page need taken (above allowed apart kept) =
    elim (comes_from known more l.event page need taken allowed) [
      | inl permits ↦
          within 0 (omega arith) permits (not_updated_on l ls 0 m page apart) (not_taken_on known more l ls 0 m page (queue known more l.event taken) kept)
      | inr lasts ↦
          above lasts.allowed (not_updated_at_all l ls m page lasts.not_updated apart) (not_taken_at_all known more l ls m page need (queue known more l.event taken) lasts kept)
    ]

granted : (m : ℕ) (ls : List TraceLine) (known : Known) (address : ℕ) (need : Need) → Judges known ls Held → AccessesAt ls m address need → Granted known ls m (address / PAGE) need
granted m [] known address need holds accesses = absurd accesses
granted zero (l ∷ ls) known address need holds accesses =
    let t = taken_line known l ls holds in
    above (use_allowed known t.more l.event address need t.taken accesses) (λ v low high. absurd (omega arith)) (λ j span low high. absurd (omega arith))
granted (suc m) (l ∷ ls) known address need holds accesses =
    let t = taken_line known l ls holds in
    granted_on known t.more l ls m (address / PAGE) need t.taken (granted m ls t.more address need t.holds accesses)

-- nothing is known above the first line, so the right comes from an Update
from_update : (lines : List TraceLine) (m page : ℕ) (need : Need) → Granted nothing_known lines m page need
    → (u : ℕ) × (u < m) × GrantsAt lines u page need
    × ((v : ℕ) → u < v → v < m → ¬ UpdatesAt lines v page)
    × ((i j : ℕ) (span : Span) → Acknowledges lines i j span → u < j → j < m → ¬ Meets (page_span page) span)
from_update lines m page need (above allowed apart kept) = let not_so = nothing_allowed need in absurd (cc)
from_update lines m page need (within u below grants apart kept) =
    (u, below, grants, λ v low high. apart v (omega arith) high, λ i j span a low high. kept j span (omega arith) high a.acks (comes i (from_start lines i j span a)))

pub uses_granted : UsesAreGranted
uses_granted lines holds m address need accesses = from_update lines m (address / PAGE) need (granted m lines nothing_known address need holds accesses)
