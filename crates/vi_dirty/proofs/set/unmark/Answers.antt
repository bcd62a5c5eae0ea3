use Rattle.std.proofs.Common.{◌∙◌, get_or, refl, arith}
use Rattle.std.proofs.lemmas.List.{length-set}
use Rattle.vi_dirty.proofs.Marking.{still_marked, unmarked_next}
use Rattle.vi_dirty.proofs.set.unmark.Goals as goal

pub index_mut-requires : goal.index_mut-requires
index_mut-requires c =
    let page = get_or c.args.pages.now c.loop-page.page-index 0 in
    omega (arith, still_marked c.loop-page.marks.items c.args.pages.now c.loop-page.page-index page 0 c.loop-page-test.true refl (c.loop-page.invariant.once page), c.loop-page.marks.ok.0)

pub loop-page-preserved : goal.loop-page-preserved
loop-page-preserved c =
    let page = get_or c.args.pages.now c.loop-page.page-index 0 in
    let within = still_marked c.loop-page.marks.items c.args.pages.now c.loop-page.page-index page 0 c.loop-page-test.true refl (c.loop-page.invariant.once page) in
    record {
      once = unmarked_next c.loop-page.marks.items c.args.pages.now c.loop-page.page-index page 0 c.loop-page-test.true refl within c.loop-page.invariant.once;
      length = length-set c.loop-page.marks.items page _ ∙ c.loop-page.invariant.length;
    }
