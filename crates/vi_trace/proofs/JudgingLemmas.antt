-- A trace line by line: what the rest is found to be behind a line, it is with the line.
use Rattle.std.proofs.Common.{◌≡◌, ◌<◌, ◌≤◌, ◌+◌, ℕ, List, ◌∷◌, length, drop, get_or, Some, None, Option, ap, sym, ◌∙◌, subst}
use Rattle.std.proofs.lemmas.List.{drop_more, at_drop_all}
use Rattle.vi_trace.specs.declared.finding.Rule.{Rule}
use Rattle.vi_trace.specs.declared.finding.Finding.{Finding}
use Rattle.vi_trace.specs.declared.finding.Finding.TheVariants.{Held, Broken}
use Rattle.vi_trace.specs.declared.state.State.{State}
use Rattle.vi_trace.specs.declared.trace.TraceLine.{TraceLine}
use Rattle.vi_trace.specs.Rules.{Known, Breaks, Goes, Judges, held, broken, goes}
use Rattle.vi_trace.specs.Steps.{Holds, Steps}

-- the lines from the one at i on begin with it
next_line : (lines : List TraceLine) (i : ℕ) (l : TraceLine) → i < length lines → l ≡ get_or lines i l → drop i lines ≡ l ∷ drop (i + 1) lines
next_line lines i l within is = drop_more lines i l within ∙ ap (λ x. x ∷ drop (i + 1) lines) (sym is)

pub broken_there : (known : Known) (lines : List TraceLine) (i : ℕ) (l : TraceLine) (r : Rule) → i < length lines → l ≡ get_or lines i l → Breaks known l.event r
    → Judges known (drop i lines) (Broken l.number r)
broken_there known lines i l r within is breaks =
    subst (λ (ls : List TraceLine). Judges known ls (Broken l.number r)) (sym (next_line lines i l within is)) (broken known l (drop (i + 1) lines) r breaks)

pub goes_there : (known more : Known) (lines : List TraceLine) (i : ℕ) (l : TraceLine) (f : Finding) → i < length lines → l ≡ get_or lines i l → Goes known l.event more
    → Judges more (drop (i + 1) lines) f → Judges known (drop i lines) f
goes_there known more lines i l f within is taken rest =
    subst (λ (ls : List TraceLine). Judges known ls f) (sym (next_line lines i l within is)) (goes known more l (drop (i + 1) lines) f taken rest)

pub holds_at_end : (known : Known) (lines : List TraceLine) (i : ℕ) → length lines ≤ i → Judges known (drop i lines) Held
holds_at_end known lines i ended =
    subst (λ (ls : List TraceLine). Judges known ls Held) (sym (at_drop_all (λ (x : List TraceLine). x) lines i ended)) (held known)

-- the state behind a line that breaks no rule
pub taken_there : (known : Known) (l : TraceLine) (state : State) (answer : Option Rule) → answer ≡ None → Steps known l.event state answer
    → (more : Known) × Goes known l.event more × Holds state more
taken_there known l state answer is steps = rw is at steps

pub refused_there : (known : Known) (l : TraceLine) (state : State) (answer : Option Rule) (r : Rule) → answer ≡ Some r → Steps known l.event state answer → Breaks known l.event r
refused_there known l state answer r is steps = rw is at steps
