use Rattle.std.proofs.Common.{◌≡◌, drop}
use Rattle.vi_dirty.specs.Led.{led, IsReady}
use Rattle.vi_dirty.proofs.following.feed_all.Given as goal

-- the entries that are still to come can be followed, and lead to where all entries lead
abbrev pub invariant-loop-entry : goal.invariant-loop-entry
invariant-loop-entry l = record {
  ready : IsReady l.script l.tracker.one l.tracker.spare (drop l.entry-index l.entries);
  ends : led l.script l.tracker (drop l.entry-index l.entries) ≡ led l.script l.initial.tracker l.entries;
}
