use Rattle.std.proofs.Common.{length, ap, sym, ◌∙◌, arith}
use Rattle.vi_bytes.specs.Mappings.{MappingSet}
use Rattle.vi_tree.specs.Trees.{level}
use Rattle.vi_tree.proofs.ListLemmas.{takes_one}
use Rattle.vi_tree.proofs.LevelLemmas.{level-mono, level-small}
use Rattle.vi_tree.proofs.UnmapLemmas.{TakenOut-more, TakenOut-all, TakenOut-number, steps_more, steps_fit}
use Rattle.vi_tree.proofs.tree.Tree.remove_within.Goals as goal

pub lowest-requires : goal.lowest-requires
lowest-requires c =
    let so_far = c.loop-met.invariant.0 in
    let size = so_far.size in
    let few = c.requires.few in
    let small = level-small (length c.args.self.now.mappings) (omega arith) in
    omega (arith, steps_fit c.args.steps.now c.loop-met.steps c.loop-met.removed (level (length c.args.self.now.mappings)) c.requires.counts (omega arith) small c.loop-met.invariant.2)

pub remove-requires-clause-there : goal.remove-requires-clause-there
remove-requires-clause-there c =
    let so_far = c.loop-met.invariant.0 in
    let takes = takes_one c.args.span.now c.loop-met.self.mappings c.in-Some.met so_far.apart c.requires.proper (sym c.lowest.ensures.found ∙ c.in-Some.is) so_far.uncut in
    takes.one

pub remove-requires-clause-counts : goal.remove-requires-clause-counts
remove-requires-clause-counts c =
    let so_far = c.loop-met.invariant.0 in
    let size = so_far.size in
    let few = c.requires.few in
    let small = level-small (length c.args.self.now.mappings) (omega arith) in
    let lower = level-mono (length c.loop-met.self.mappings) (length c.args.self.now.mappings) (omega arith) in
    omega (arith, steps_fit c.args.steps.now c.loop-met.steps c.loop-met.removed (level (length c.args.self.now.mappings)) c.requires.counts (omega arith) small c.loop-met.invariant.2, c.lowest.ensures.counted)

pub loop-met-smaller : goal.loop-met-smaller
loop-met-smaller c =
    let so_far = c.loop-met.invariant.0 in
    let takes = takes_one c.args.span.now c.loop-met.self.mappings c.in-Some.met so_far.apart c.requires.proper (sym c.lowest.ensures.found ∙ c.in-Some.is) so_far.uncut in
    omega (arith, takes.one, ap (λ (s : MappingSet). length s.mappings) c.remove.ensures.removed)

pub loop-met-preserved : goal.loop-met-preserved
loop-met-preserved c =
    let so_far = c.loop-met.invariant.0 in
    let takes = takes_one c.args.span.now c.loop-met.self.mappings c.in-Some.met so_far.apart c.requires.proper (sym c.lowest.ensures.found ∙ c.in-Some.is) so_far.uncut in
    let size = so_far.size in
    let rises = c.loop-met.invariant.1 in
    let lower = level-mono (length c.loop-met.self.mappings) (length c.args.self.now.mappings) (omega arith) in (
      TakenOut-more c.args.span.now c.args.self.now c.loop-met.self c.remove.new.self c.loop-met.removed c.in-Some.met c.requires.proper so_far (sym c.lowest.ensures.found ∙ c.in-Some.is) c.remove.ensures.removed c.remove.ensures.apart c.remove.ensures.few,
      omega (arith, c.lowest.ensures.rises, c.remove.ensures.rises),
      steps_more c.args.steps.now c.loop-met.steps c.lowest.new.steps c.remove.new.steps c.loop-met.removed (level (length c.loop-met.self.mappings)) (level (length c.args.self.now.mappings)) lower c.loop-met.invariant.2 c.lowest.ensures.counted c.remove.ensures.counted,
    )

pub returns-clause-number : goal.returns-clause-number
returns-clause-number c = TakenOut-number c.args.span.now c.args.self.now c.loop-met.self c.loop-met.removed c.requires.proper c.loop-met.invariant.0 (sym c.lowest.ensures.found ∙ c.in_default.is)

pub returns-clause-removed : goal.returns-clause-removed
returns-clause-removed c = TakenOut-all c.args.span.now c.args.self.now c.loop-met.self c.loop-met.removed c.requires.proper c.loop-met.invariant.0 (sym c.lowest.ensures.found ∙ c.in_default.is)

pub returns-clause-counted : goal.returns-clause-counted
returns-clause-counted c =
    let size = c.loop-met.invariant.0.size in
    let lower = level-mono (length c.loop-met.self.mappings) (length c.args.self.now.mappings) (omega arith) in
    omega (arith, c.loop-met.invariant.2, c.lowest.ensures.counted)
