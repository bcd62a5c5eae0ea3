use Rattle.std.proofs.Common.{◌∷◌, [], ◌++◌, ◌∙◌, get_or, refl, sym, ap, ap₂}
use Rattle.vi_dirty.specs.Marks.{PageSetValue, marked}
use Rattle.vi_state.specs.Written.{page_set}
use Rattle.vi_dirty.proofs.Marking.{marked_set}
use Rattle.vi_dirty.proofs.Sets.{set_more, set_nil}
use Rattle.vi_dirty.proofs.set.PageSet.extend.Goals as goal

pub loop-page-init : goal.loop-page-init
loop-page-init c = record {
  room = refl;
  pages = let marks = c.self.inside.marks.items in rw (← c.self.view_is) (sym (set_nil _ (marked marks) (marked_set marks)));
}

pub loop-page-preserved : goal.loop-page-preserved
loop-page-preserved c = record {
  room = ap (λ (s : PageSetValue). s.room) c.insert.ensures ∙ c.loop-page.invariant.room;
  pages =
      ap (λ (s : PageSetValue). s.pages) c.insert.ensures
      ∙ ap₂ (λ n ps. page_set n (ps ++ get_or c.args.pages.now c.loop-page.page-index 0 ∷ [])) c.loop-page.invariant.room c.loop-page.invariant.pages
      ∙ set_more c.args.self.now.room c.args.self.now.pages c.args.pages.now c.loop-page.page-index 0 c.loop-page-test.true;
}
