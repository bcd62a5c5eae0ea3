-- Nothing outlives its Ack: no Update of the span's pages stands between Invalidate and Ack, so what a lawful cache
-- has dropped by then it doesn't gain again.
use Rattle.std.proofs.Common.{zero, suc, ◌≡◌, ◌≤◌, ◌<◌, ◌+◌, ◌-◌, ℕ, Bool, false, List, [], ◌∷◌, length, subst, arith, inl, inr}
use Rattle.std.proofs.lemmas.Bool.{cases_Bool, cases_lt, cases_eq}
use Rattle.vi_bytes.specs.Spans.{Meets, page_span}
use Rattle.vi_bytes.specs.declared.span.Span.{Span}
use Rattle.vi_trace.specs.declared.finding.Finding.TheVariants.{Held}
use Rattle.vi_trace.specs.declared.trace.TraceLine.{TraceLine}
use Rattle.vi_trace.specs.Rules.{Known, nothing_known, Judges}
use Rattle.vi_trace.specs.Lawful.{IsAck, UpdatesAt, AcksAt, Acknowledges, IsLawful, Counts}
use Rattle.vi_trace.specs.Laws.{NothingOutlivesItsAck}
use Rattle.vi_trace.proofs.FrameLemmas.{no_ack_updates}
use Rattle.vi_trace.proofs.Waiting.{taken_line, queue, Waits, Comes, waits_on, begins_to_wait, comes_on, no_update_of_open}

-- while a span waits, no page that meets it is updated
not_while_waiting : (u : ℕ) (ls : List TraceLine) (known : Known) (j page : ℕ) (span : Span) → Judges known ls Held → Waits known j ls span
    → u < j → UpdatesAt ls u page → Meets (page_span page) span → ⊥
not_while_waiting u [] known j page span holds w below updates share = updates
not_while_waiting zero (l ∷ ls) known j page span holds w below updates share =
    let t = taken_line known l ls holds in
    no_update_of_open known t.more l.event page span w.front w.behind t.taken w.is updates share
not_while_waiting (suc u) (l ∷ ls) known zero page span holds w below updates share = absurd (omega arith)
not_while_waiting (suc u) (l ∷ ls) known (suc j) page span holds w below updates share =
    let t = taken_line known l ls holds in
    not_while_waiting u ls t.more j page span t.holds (waits_on known t.more j l ls span (queue known t.more l.event t.taken) w) (omega arith) updates share

-- nor between an Invalidate that is still to come and its Ack
not_between : (i : ℕ) (ls : List TraceLine) (known : Known) (j u page : ℕ) (span : Span) → Judges known ls Held → Comes known i j ls span
    → i < u → u < j → UpdatesAt ls u page → Meets (page_span page) span → ⊥
not_between i [] known j u page span holds c above below updates share = updates
not_between i (l ∷ ls) known j zero page span holds c above below updates share = absurd (omega arith)
not_between i (l ∷ ls) known zero (suc u) page span holds c above below updates share = absurd (omega arith)
not_between zero (l ∷ ls) known (suc j) (suc u) page span holds c above below updates share =
    let t = taken_line known l ls holds in
    not_while_waiting u ls t.more j page span t.holds (begins_to_wait known t.more j l ls span (queue known t.more l.event t.taken) c) (omega arith) updates share
not_between (suc i) (l ∷ ls) known (suc j) (suc u) page span holds c above below updates share =
    let t = taken_line known l ls holds in
    not_between i ls t.more j u page span t.holds (comes_on known t.more i j l ls span (queue known t.more l.event t.taken) c) (omega arith) (omega arith) updates share

-- an Ack is no Update
not_at_ack : (i : ℕ) (ls : List TraceLine) (page : ℕ) → AcksAt ls i → UpdatesAt ls i page → ⊥
not_at_ack i [] page acks updates = updates
not_at_ack zero (l ∷ ls) page acks updates = no_ack_updates l.event page acks updates
not_at_ack (suc i) (l ∷ ls) page acks updates = not_at_ack i ls page acks updates

-- what isn't held and isn't updated isn't held later
stays_away : (lines : List TraceLine) (holds : ℕ → ℕ → Bool) (page k d : ℕ) → IsLawful lines holds → holds (k + 1) page ≡ false
    → ((u : ℕ) → k < u → u ≤ k + d → ¬ UpdatesAt lines u page) → k + d < length lines → holds (k + d + 1) page ≡ false
stays_away lines holds page k zero lawful away apart within = subst (λ (n : ℕ). holds n page ≡ false) (omega arith) away
stays_away lines holds page k (suc d) lawful away apart within =
    let before : holds (k + d + 1) page ≡ false = stays_away lines holds page k d lawful away (λ u above below. apart u above (omega arith)) (omega arith) in
    let number : k + d + 1 + 1 ≡ k + suc d + 1 = omega arith in
    elim (cases_Bool (holds (k + d + 1 + 1) page)) [
      | inl gained ↦ absurd (apart (k + d + 1) (omega arith) (omega arith) (lawful.gains (k + d + 1) page (omega arith) before gained))
      | inr still ↦ subst (λ (n : ℕ). holds n page ≡ false) number still
    ]

-- an Acknowledges from the beginning
pub from_start : (lines : List TraceLine) (i j : ℕ) (span : Span) → Acknowledges lines i j span → Comes nothing_known i j lines span
from_start lines i j span a = record {
  invalidates = a.invalidates;
  above = a.above;
  invalidates_above = a.invalidates_above;
  acks_above = subst (λ (n : ℕ). Counts IsAck j lines n) (omega arith) a.acks_above;
}

no_update_behind : (lines : List TraceLine) (i j k m page : ℕ) (span : Span) → Judges nothing_known lines Held → Acknowledges lines i j span → i ≤ k → Meets (page_span page) span
    → ((u : ℕ) → j < u → u ≤ m → ¬ UpdatesAt lines u page) → (u : ℕ) → k < u → u ≤ m → ¬ UpdatesAt lines u page
no_update_behind lines i j k m page span holds a from share later u above below =
    λ updates. elim (cases_lt j u) [
      | inl behind ↦ later u behind below updates
      | inr upto ↦ elim (cases_eq u j) [
        | inl same ↦ not_at_ack j lines page a.acks (subst (λ (n : ℕ). UpdatesAt lines n page) same updates)
        | inr other ↦ not_between i lines nothing_known j u page span holds (from_start lines i j span a) (omega arith) (omega arith) updates share
      ]
    ]

pub nothing_outlives : NothingOutlivesItsAck
nothing_outlives lines judged holds lawful i j m page span a upto within share later =
    let dropped = lawful.drops i j span a in
    let k : ℕ = dropped.0 in
    let from : i ≤ k = dropped.1 in
    let to : k ≤ j = dropped.2 in
    let number : k + (m - k) + 1 ≡ m + 1 = omega arith in
    subst (λ (n : ℕ). holds n page ≡ false) number
    (stays_away lines holds page k (m - k) lawful (dropped.3 page share)
    (λ u above below. no_update_behind lines i j k m page span judged a from share later u above (omega arith)) (omega arith))
