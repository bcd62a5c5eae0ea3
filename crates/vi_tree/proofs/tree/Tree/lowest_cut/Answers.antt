use Rattle.std.proofs.Common.{◌≤◌, length, sym, ap, ◌∙◌, arith}
use Rattle.std.specs.Option.{option_or}
use Rattle.vi_bytes.specs.Mappings.{AreApart, mapping_at}
use Rattle.vi_tree.specs.Trees.{shape_of, cut_of, level}
use Rattle.vi_tree.proofs.ListLemmas.{cut_at_ends}
use Rattle.vi_tree.proofs.TreeLemmas.{level_low}
use Rattle.vi_tree.proofs.tree.Tree.lowest_cut.Goals as goal

pub cut_at-requires-in-None : goal.cut_at-requires-in-None
cut_at-requires-in-None c =
    let small : level (length c.args.self.now.mappings) ≤ 64 = rw (← c.self.view_is) (level_low c.self.inside.nodes c.self.inside.root c.self.inside.spare (shape_of c.self.inside.nodes c.self.inside.root) c.self.invariant) in
    omega (arith, c.cut_at.ensures.counted)

pub returns-in-Some-clause-found : goal.returns-in-Some-clause-found
returns-in-Some-clause-found c =
    let span = c.args.span.now in
    let ms = c.args.self.now.mappings in
    let apart : AreApart ms = rw (← c.self.view_is) c.self.invariant.apart in
    sym (cut_at_ends span ms apart c.requires.proper ∙ ap (λ o. option_or o (cut_of span (mapping_at span.last ms))) (sym c.cut_at.ensures.found ∙ c.in-Some.is))

pub returns-in-None-clause-found : goal.returns-in-None-clause-found
returns-in-None-clause-found c =
    let span = c.args.span.now in
    let ms = c.args.self.now.mappings in
    let apart : AreApart ms = rw (← c.self.view_is) c.self.invariant.apart in
    c.cut_at-in-None.ensures.found ∙ sym (cut_at_ends span ms apart c.requires.proper ∙ ap (λ o. option_or o (cut_of span (mapping_at span.last ms))) (sym c.cut_at.ensures.found ∙ c.in-None.is))
