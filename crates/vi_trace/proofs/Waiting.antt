-- The open Invalidates line by line: which Ack takes which span.
use Rattle.std.proofs.Common.{zero, suc, ◌≡◌, ◌≤◌, ◌<◌, ◌+◌, ℕ, true, false, List, [], ◌∷◌, ◌++◌, length, refl, ap, sym, ◌∙◌, subst, arith, append_assoc, length-append}
use Rattle.std.specs.List.{list_any}
use Rattle.vi_bytes.specs.Spans.{Meets, page_span}
use Rattle.vi_bytes.specs.declared.span.Span.{Span}
use Rattle.vi_trace.specs.declared.finding.Finding.TheVariants.{Held}
use Rattle.vi_trace.specs.declared.trace.Event.{Event}
use Rattle.vi_trace.specs.declared.trace.TraceLine.{TraceLine}
use Rattle.vi_trace.specs.Rules.{Known, Goes, Judges, update_meets, updated, invalidated, acknowledged, used, goes}
use Rattle.vi_trace.specs.Lawful.{Updates, Invalidates, IsInvalidate, IsAck, Counts, none, counted, passed, InvalidatesAt}
use Rattle.vi_trace.proofs.FrameLemmas.{one_update, no_update, same_invalidate}
use Rattle.vi_trace.proofs.Numbers.{update_meets-from_page, any_within}

-- what an event does to the spans of the open Invalidates
pub data Queue (known more : Known) (e : Event) : Type 0 where
  quiet : ¬ IsAck e → ¬ IsInvalidate e → more.waiting ≡ known.waiting → Queue known more e
  joins : (span : Span) → Invalidates span e → ¬ IsAck e → more.waiting ≡ known.waiting ++ span ∷ [] → Queue known more e
  leaves : (span : Span) (spans : List Span) → IsAck e → ¬ IsInvalidate e → known.waiting ≡ span ∷ spans → more.waiting ≡ spans → Queue known more e

pub queue : (known more : Known) (e : Event) → Goes known e more → Queue known more e
queue known more e (updated bytes page count target perm reads clear) = quiet (λ a. a) (λ i. no_update bytes i.0 page count target perm i.1 reads) refl
queue known more e (invalidated bytes span reads) = joins span reads (λ a. a) refl
queue known more e (acknowledged bytes span spans reads first) = leaves span spans reads (λ i. i.1) first refl
queue known more e (used address need has) = quiet (λ a. a) (λ i. i.1) refl

-- a line of a trace that holds is taken, and so is what stands below it
pub record Taken (known : Known) (l : TraceLine) (ls : List TraceLine) : Type 0 where
  pub more : Known
  pub taken : Goes known l.event more
  pub holds : Judges more ls Held

pub taken_line : (known : Known) (l : TraceLine) (ls : List TraceLine) → Judges known (l ∷ ls) Held → Taken known l ls
taken_line known l ls (goes _ more _ _ _ taken judged) = record { more = more; taken = taken; holds = judged }

-- counting a line that counts, and one that doesn't
pub record Counted (P : Event → Type 0) (i : ℕ) (ls : List TraceLine) (n : ℕ) : Type 0 where
  pub less : ℕ
  pub one : n ≡ less + 1
  pub rest : Counts P i ls less

pub count_none : (P : Event → Type 0) (lines : List TraceLine) (n : ℕ) → Counts P zero lines n → n ≡ 0
count_none P lines n (none _) = refl

pub count_yes : (P : Event → Type 0) (i : ℕ) (l : TraceLine) (ls : List TraceLine) (n : ℕ) → P l.event → Counts P (suc i) (l ∷ ls) n → Counted P i ls n
count_yes P i l ls n here (counted _ _ _ less _ rest) = record { less = less; one = omega arith; rest = rest }
count_yes P i l ls n here (passed _ _ _ _ not_here rest) = absurd (not_here here)

pub count_no : (P : Event → Type 0) (i : ℕ) (l : TraceLine) (ls : List TraceLine) (n : ℕ) → ¬ P l.event → Counts P (suc i) (l ∷ ls) n → Counts P i ls n
count_no P i l ls n not_here (counted _ _ _ less here rest) = absurd (not_here here)
count_no P i l ls n not_here (passed _ _ _ _ _ rest) = rest

-- the span waits, and the Ack behind the first j lines takes it: it has as many in front as Acks stand above
pub record Waits (known : Known) (j : ℕ) (ls : List TraceLine) (span : Span) : Type 0 where
  pub front : List Span
  pub behind : List Span
  pub is : known.waiting ≡ front ++ span ∷ behind
  pub acks : Counts IsAck j ls (length front)

-- the Invalidate of the span is the line at i, and the Ack behind the first j lines takes it
pub record Comes (known : Known) (i j : ℕ) (ls : List TraceLine) (span : Span) : Type 0 where
  pub invalidates : InvalidatesAt ls i span
  pub above : ℕ
  pub invalidates_above : Counts IsInvalidate i ls above
  pub acks_above : Counts IsAck j ls (length known.waiting + above)

one_gone : (known more : Known) (j : ℕ) (l : TraceLine) (ls : List TraceLine) (span first : Span) (front behind spans : List Span)
    → known.waiting ≡ front ++ span ∷ behind → known.waiting ≡ first ∷ spans → more.waiting ≡ spans → IsAck l.event → Counts IsAck (suc j) (l ∷ ls) (length front) → Waits more j ls span
one_gone known more j l ls span first [] behind spans is begins rest ack acks =
    let counted = count_yes IsAck j l ls 0 ack acks in
    let one = counted.one in
    absurd (omega arith)
one_gone known more j l ls span first (s ∷ front) behind spans is begins rest ack acks =
    let counted = count_yes IsAck j l ls (length (s ∷ front)) ack acks in
    let one : suc (length front) ≡ counted.less + 1 = counted.one in
    let same : counted.less ≡ length front = omega arith in
    let both : s ∷ (front ++ span ∷ behind) ≡ first ∷ spans = sym is ∙ begins in
    let tails : front ++ span ∷ behind ≡ spans = cc in
    record { front = front; behind = behind; is = rest ∙ sym tails; acks = subst (λ (n : ℕ). Counts IsAck j ls n) same counted.rest }

pub waits_on : (known more : Known) (j : ℕ) (l : TraceLine) (ls : List TraceLine) (span : Span) → Queue known more l.event → Waits known (suc j) (l ∷ ls) span → Waits more j ls span
waits_on known more j l ls span (quiet no_ack no_invalidate same) w =
    record { front = w.front; behind = w.behind; is = same ∙ w.is; acks = count_no IsAck j l ls (length w.front) no_ack w.acks }
waits_on known more j l ls span (joins last reads no_ack same) w =
    record { front = w.front; behind = w.behind ++ last ∷ []; is = same ∙ ap (λ x. x ++ last ∷ []) w.is ∙ append_assoc w.front (span ∷ w.behind) (last ∷ []); acks = count_no IsAck j l ls (length w.front) no_ack w.acks }
waits_on known more j l ls span (leaves first spans ack no_invalidate begins rest) w =
    one_gone known more j l ls span first w.front w.behind spans w.is begins rest ack w.acks

-- at its own line the Invalidate begins to wait
pub begins_to_wait : (known more : Known) (j : ℕ) (l : TraceLine) (ls : List TraceLine) (span : Span) → Queue known more l.event → Comes known zero (suc j) (l ∷ ls) span → Waits more j ls span
begins_to_wait known more j l ls span (quiet no_ack no_invalidate same) c = absurd (no_invalidate (span, c.invalidates))
begins_to_wait known more j l ls span (leaves first spans ack no_invalidate begins rest) c = absurd (no_invalidate (span, c.invalidates))
begins_to_wait known more j l ls span (joins last reads no_ack same) c =
    let none_above : c.above ≡ 0 = count_none IsInvalidate (l ∷ ls) c.above c.invalidates_above in
    let number : length known.waiting + c.above ≡ length known.waiting = omega arith in
    record {
      front = known.waiting;
      behind = [];
      is = same ∙ ap (λ s. known.waiting ++ s ∷ []) (same_invalidate l.event last span reads c.invalidates);
      acks = subst (λ (n : ℕ). Counts IsAck j ls n) number (count_no IsAck j l ls (length known.waiting + c.above) no_ack c.acks_above);
    }

-- above its own line it is still to come
pub comes_on : (known more : Known) (i j : ℕ) (l : TraceLine) (ls : List TraceLine) (span : Span) → Queue known more l.event → Comes known (suc i) (suc j) (l ∷ ls) span → Comes more i j ls span
comes_on known more i j l ls span (quiet no_ack no_invalidate same) c =
    let number : length known.waiting + c.above ≡ length more.waiting + c.above = ap (λ (w : List Span). length w + c.above) (sym same) in
    record {
      invalidates = c.invalidates;
      above = c.above;
      invalidates_above = count_no IsInvalidate i l ls c.above no_invalidate c.invalidates_above;
      acks_above = subst (λ (n : ℕ). Counts IsAck j ls n) number (count_no IsAck j l ls (length known.waiting + c.above) no_ack c.acks_above);
    }
comes_on known more i j l ls span (joins last reads no_ack same) c =
    let counted = count_yes IsInvalidate i l ls c.above (last, reads) c.invalidates_above in
    let one : c.above ≡ counted.less + 1 = counted.one in
    let longer : length more.waiting ≡ length known.waiting + 1 = ap (λ (w : List Span). length w) same ∙ length-append known.waiting (last ∷ []) in
    let number : length known.waiting + c.above ≡ length more.waiting + counted.less = omega arith in
    record {
      invalidates = c.invalidates;
      above = counted.less;
      invalidates_above = counted.rest;
      acks_above = subst (λ (n : ℕ). Counts IsAck j ls n) number (count_no IsAck j l ls (length known.waiting + c.above) no_ack c.acks_above);
    }
comes_on known more i j l ls span (leaves first spans ack no_invalidate begins rest) c =
    let counted = count_yes IsAck j l ls (length known.waiting + c.above) ack c.acks_above in
    let one : length known.waiting + c.above ≡ counted.less + 1 = counted.one in
    let longer : length known.waiting ≡ suc (length spans) = ap (λ (w : List Span). length w) begins in
    let shorter : length more.waiting ≡ length spans = ap (λ (w : List Span). length w) rest in
    let number : counted.less ≡ length more.waiting + c.above = omega arith in
    record {
      invalidates = c.invalidates;
      above = c.above;
      invalidates_above = count_no IsInvalidate i l ls c.above no_invalidate c.invalidates_above;
      acks_above = subst (λ (n : ℕ). Counts IsAck j ls n) number counted.rest;
    }

-- an Update of a page that meets an open Invalidate isn't taken
pub no_update_of_open : (known more : Known) (e : Event) (page : ℕ) (span : Span) (front behind : List Span) → Goes known e more → known.waiting ≡ front ++ span ∷ behind
    → Updates page e → Meets (page_span page) span → ⊥
no_update_of_open known more e page span front behind (updated bytes first count target perm reads clear) is gives share =
    let g = gives.1 in
    let same = one_update bytes g.first g.count g.target gives.0 first count target perm g.reads reads in
    let firsts : g.first ≡ first = same.page_is in
    let counts : g.count ≡ count = same.count_is in
    let from : g.first ≤ page = g.from_first in
    let to : page < g.first + g.count = g.to_last in
    let met = update_meets-from_page first count page span (omega arith) (omega arith) share in
    let found : list_any (update_meets first count) (front ++ span ∷ behind) ≡ true = any_within (update_meets first count) front behind span met in
    let clear_there : list_any (update_meets first count) (front ++ span ∷ behind) ≡ false = rw is at clear in
    cc
no_update_of_open known more e page span front behind (invalidated bytes other reads) is gives share =
    let g = gives.1 in
    no_update bytes other g.first g.count g.target gives.0 reads g.reads
no_update_of_open known more e page span front behind (acknowledged bytes first spans reads begins) is gives share = gives
no_update_of_open known more e page span front behind (used address need has) is gives share = gives
