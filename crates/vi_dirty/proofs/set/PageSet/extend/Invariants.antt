use Rattle.std.proofs.Common.{◌≡◌, ◌++◌, take}
use Rattle.vi_state.specs.Written.{page_set}
use Rattle.vi_dirty.proofs.set.PageSet.extend.Given as goal

abbrev pub invariant-loop-page : goal.invariant-loop-page
invariant-loop-page l = record {
  room : l.self.room ≡ l.initial.self.room;
  pages : l.self.pages ≡ page_set l.initial.self.room (l.initial.self.pages ++ take l.page-index l.pages);
}
