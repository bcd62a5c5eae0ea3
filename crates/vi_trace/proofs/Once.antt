-- Exactly one rule applies to an event, so a trace has one finding at most.
use Rattle.std.proofs.Common.{◌≡◌, ℕ, not, List, [], ◌∷◌, ◌++◌, refl, ap, sym, ◌∙◌, subst}
use Rattle.std.specs.Prelude.{filter}
use Rattle.vi_bytes.specs.declared.span.Span.{Span}
use Rattle.vi_iotlb.specs.declared.frame.Frame.TheVariants as frame
use Rattle.vi_trace.specs.declared.finding.Rule.{Rule}
use Rattle.vi_trace.specs.declared.finding.Finding.{Finding}
use Rattle.vi_trace.specs.declared.finding.Finding.TheVariants.{Broken}
use Rattle.vi_trace.specs.declared.trace.Event.{Event}
use Rattle.vi_trace.specs.declared.trace.TraceLine.{TraceLine}
use Rattle.vi_trace.specs.Rules.{Known, nothing_known, Breaks, Goes, Judges, takes, pages_kept, down, up, ack, update, access, updated, invalidated, acknowledged, used, held, broken, goes}
use Rattle.vi_trace.specs.Laws.{JudgedOnce}
use Rattle.vi_trace.proofs.FrameLemmas.{one_update, one_span, no_update}

one_rule : (known : Known) (e : Event) (r q : Rule) → Breaks known e r → Breaks known e q → r ≡ q
one_rule known e r q (down bytes none) (down _ none') = refl
one_rule known e r q (down bytes none) (update _ page count target perm reads met) = absurd (none (frame.Update page count target perm) reads tt)
one_rule known e r q (update bytes page count target perm reads met) (down _ none) = absurd (none (frame.Update page count target perm) reads tt)
one_rule known e r q (update bytes page count target perm reads met) (update _ page' count' target' perm' reads' met') = refl
one_rule known e r q (up bytes none) (up _ none') = refl
one_rule known e r q (up bytes none) (ack _ reads empty) = absurd (none frame.Ack reads refl)
one_rule known e r q (ack bytes reads empty) (up _ none) = absurd (none frame.Ack reads refl)
one_rule known e r q (ack bytes reads empty) (ack _ reads' empty') = refl
one_rule known e r q (access address need lacks) (access _ _ lacks') = refl

-- where a rule is broken, the event isn't taken
broken_or_taken : (known more : Known) (e : Event) (r : Rule) → Breaks known e r → Goes known e more → ⊥
broken_or_taken known more e r (down bytes none) (updated _ page count target perm reads clear) = none (frame.Update page count target perm) reads tt
broken_or_taken known more e r (down bytes none) (invalidated _ span reads) = none (frame.Invalidate span) reads tt
broken_or_taken known more e r (update bytes page count target perm reads met) (updated _ page' count' target' perm' reads' clear) =
    let same = one_update bytes page count target perm page' count' target' perm' reads reads' in
    let pages = same.page_is in
    let counts = same.count_is in
    cc
broken_or_taken known more e r (update bytes page count target perm reads met) (invalidated _ span reads') = no_update bytes span page count target perm reads' reads
broken_or_taken known more e r (up bytes none) (acknowledged _ span spans reads first) = none frame.Ack reads refl
broken_or_taken known more e r (ack bytes reads empty) (acknowledged _ span spans reads' first) = cc
broken_or_taken known more e r (access address need lacks) (used _ _ has) = cc

abbrev with_update : Known → ℕ → ℕ → ℕ → Known
with_update known page count perm = record { waiting = known.waiting; cache = pages_kept page count perm ++ known.cache }

abbrev with_invalidate : Known → Span → Known
with_invalidate known span = record { waiting = known.waiting ++ span ∷ []; cache = known.cache }

abbrev with_ack : Known → Span → List Span → Known
with_ack known span spans = record { waiting = spans; cache = filter (λ k. not (takes span k)) known.cache }

one_more : (known a b : Known) (e : Event) → Goes known e a → Goes known e b → a ≡ b
one_more known a b e (updated bytes page count target perm reads clear) (updated _ page' count' target' perm' reads' clear') =
    let same = one_update bytes page count target perm page' count' target' perm' reads reads' in
    ap (λ p. with_update known p count perm) same.page_is ∙ ap (λ n. with_update known page' n perm) same.count_is ∙ ap (with_update known page' count') same.perm_is
one_more known a b e (updated bytes page count target perm reads clear) (invalidated _ span reads') = absurd (no_update bytes span page count target perm reads' reads)
one_more known a b e (invalidated bytes span reads) (updated _ page count target perm reads' clear) = absurd (no_update bytes span page count target perm reads reads')
one_more known a b e (invalidated bytes span reads) (invalidated _ span' reads') = ap (with_invalidate known) (one_span bytes span span' reads reads')
one_more known a b e (acknowledged bytes span spans reads first) (acknowledged _ span' spans' reads' first') =
    let both : span ∷ spans ≡ span' ∷ spans' = sym first ∙ first' in
    let heads : span ≡ span' = cc in
    let tails : spans ≡ spans' = cc in
    ap (λ s. with_ack known s spans) heads ∙ ap (with_ack known span') tails
one_more known a b e (used address need has) (used _ _ has') = refl

judged_alike : (lines : List TraceLine) (known : Known) (f g : Finding) → Judges known lines f → Judges known lines g → f ≡ g
judged_alike [] known f g (held _) (held _) = refl
judged_alike (l ∷ ls) known f g (broken _ _ _ r breaks) (broken _ _ _ q breaks') = ap (Broken l.number) (one_rule known l.event r q breaks breaks')
judged_alike (l ∷ ls) known f g (broken _ _ _ r breaks) (goes _ more _ _ _ taken judged) = absurd (broken_or_taken known more l.event r breaks taken)
judged_alike (l ∷ ls) known f g (goes _ more _ _ _ taken judged) (broken _ _ _ r breaks) = absurd (broken_or_taken known more l.event r breaks taken)
judged_alike (l ∷ ls) known f g (goes _ more _ _ _ taken judged) (goes _ more' _ _ _ taken' judged') =
    judged_alike ls more f g judged (subst (λ (k : Known). Judges k ls g) (one_more known more' more l.event taken' taken) judged')

pub judged_one : JudgedOnce
judged_one lines f g p q = judged_alike lines nothing_known f g p q
