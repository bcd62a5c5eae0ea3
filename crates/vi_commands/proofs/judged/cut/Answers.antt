use Rattle.std.proofs.Common.{◌≡◌, ◌∷◌, codes, true, false, refl, sym, ◌∙◌, subst, arith}
use Rattle.std.proofs.lemmas.List.{length-take-le}
use Rattle.vi_words.specs.Words.{is_word}
use Rattle.vi_commands.proofs.JudgedLemmas.{IsCutSoFar, cut_begins, cut_within, cut_line_within, cut_next, cut_found}
use Rattle.vi_commands.proofs.judged.cut.Goals as goal

pub loop-line-init : goal.loop-line-init
loop-line-init c = rw c.of-lines.ensures (cut_begins c.args.input.now)

pub slice_bounds-result-end : goal.slice_bounds-result-end
slice_bounds-result-end c =
    let left : c.loop-line.lines ≡ c.in-Some.line.now ∷ c.take.new.self = c.in-Some.ensures in
    let cut = subst (IsCutSoFar c.args.input.now c.loop-line.at) left c.loop-line.invariant in
    sym (length-take-le c.loop-line.at c.args.input.now (cut_within c.args.input.now c.loop-line.at c.in-Some.line.now c.take.new.self cut))

pub overflow_add-at : goal.overflow_add-at
overflow_add-at c =
    let left : c.loop-line.lines ≡ c.in-Some.line.now ∷ c.take.new.self = c.in-Some.ensures in
    let cut = subst (IsCutSoFar c.args.input.now c.loop-line.at) left c.loop-line.invariant in
    omega (arith, c.requires, cut_within c.args.input.now c.loop-line.at c.in-Some.line.now c.take.new.self cut)

pub overflow_add-at-then-eq : goal.overflow_add-at-then-eq
overflow_add-at-then-eq c =
    let left : c.loop-line.lines ≡ c.in-Some.line.now ∷ c.take.new.self = c.in-Some.ensures in
    let cut = subst (IsCutSoFar c.args.input.now c.loop-line.at) left c.loop-line.invariant in
    omega (arith, c.requires, cut_within c.args.input.now c.loop-line.at c.in-Some.line.now c.take.new.self cut)

pub returns-then-eq : goal.returns-then-eq
returns-then-eq c =
    let left : c.loop-line.lines ≡ c.in-Some.line.now ∷ c.take.new.self = c.in-Some.ensures in
    let cut = subst (IsCutSoFar c.args.input.now c.loop-line.at) left c.loop-line.invariant in
    let same : is_word c.in-Some.line.now (codes "report") ≡ true = sym c.eq.ensures ∙ c.if-eq.true in
    cut_found c.args.input.now c.loop-line.at c.min.result c.in-Some.line.now c.take.new.self cut same c.min.ensures

pub overflow_add-at-in-Some-2 : goal.overflow_add-at-in-Some-2
overflow_add-at-in-Some-2 c =
    let left : c.loop-line.lines ≡ c.in-Some.line.now ∷ c.take.new.self = c.in-Some.ensures in
    let cut = subst (IsCutSoFar c.args.input.now c.loop-line.at) left c.loop-line.invariant in
    omega (arith, c.requires, cut_line_within c.args.input.now c.loop-line.at c.in-Some.line.now c.take.new.self cut)

pub loop-line-preserved : goal.loop-line-preserved
loop-line-preserved c =
    let left : c.loop-line.lines ≡ c.in-Some.line.now ∷ c.take.new.self = c.in-Some.ensures in
    let cut = subst (IsCutSoFar c.args.input.now c.loop-line.at) left c.loop-line.invariant in
    let other : is_word c.in-Some.line.now (codes "report") ≡ false = sym c.eq.ensures ∙ c.if-eq.false in
    cut_next c.args.input.now c.loop-line.at c.in-Some.line.now c.take.new.self cut other

pub returns : goal.returns
returns c = c.loop-line.invariant.search ∙ rw c.in_default.ensures.0 refl
