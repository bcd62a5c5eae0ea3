use Rattle.std.proofs.Common.{ℕ, ◌≤◌, ◌<◌, length, sym, subst}
use Rattle.vi_history.specs.declared.entry.Entry.{Entry}
use Rattle.vi_lines.specs.Value.{ScriptValue}
use Rattle.vi_control.specs.Value.{entry_with}
use Rattle.vi_run.proofs.LogRoom.{FindsRoom}
use Rattle.vi_run.proofs.Reaching.{Reaches, page_inside, reach_wish, reach_makes, reach_room, reach_due, reach_turned, reach_plays, one_stamped}
use Rattle.vi_run.proofs.backs.access_turn.Goals as goal

pub try_page-requires-clause-inside : goal.try_page-requires-clause-inside
try_page-requires-clause-inside g c =
    subst (λ (s : ScriptValue). c.args.page < s.setup.memory) c.requires.own.script (page_inside c.args.pass.now c.args.place c.args.page c.args.back.now c.requires.idle c.requires.plays c.requires.wish)

pub reach-done-requires-clause-wish : goal.reach-done-requires-clause-wish
reach-done-requires-clause-wish g c = reach_wish c.args.pass.now c.args.place c.args.page c.args.back.now c.requires.idle c.requires.plays c.requires.wish

pub stamp-requires-clause-room : goal.stamp-requires-clause-room
stamp-requires-clause-room g c =
    let k : Reaches c.args.pass.now c.args.place c.args.page c.args.back.now c.in-Ok.value c.reach-done.new.page c.reach-done.new.back c.reach-done.result =
    (record {
      idle = c.requires.idle;
      plays = c.requires.plays;
      wishes = c.requires.wish;
      at = c.in-Ok.ensures.sound;
      turn = c.reach-done.ensures.turn;
      own = c.reach-done.ensures.own;
      stays = c.reach-done.ensures.stays;
    }) in
    let e : Entry = entry_with c.read.result.now c.reach-done.result.mark in
    let room : FindsRoom c.args.pass.now e = reach_room c.args.pass.now c.args.place c.args.page c.args.back.now c.in-Ok.value c.reach-done.new.page c.reach-done.new.back c.reach-done.result k e
    (reach_makes c.args.pass.now c.args.place c.args.page c.args.back.now c.in-Ok.value c.reach-done.new.page c.reach-done.new.back c.reach-done.result k c.read.result.now c.read.ensures.bytes) in (
      subst (λ (n : ℕ). 1 ≤ n) (sym c.in-Ok.ensures.same.entries) room.entries,
      subst (λ (n : ℕ). length e.bytes ≤ n) (sym c.in-Ok.ensures.same.bytes) room.bytes,
    )

pub stamp-requires-clause-due : goal.stamp-requires-clause-due
stamp-requires-clause-due g c =
    let k : Reaches c.args.pass.now c.args.place c.args.page c.args.back.now c.in-Ok.value c.reach-done.new.page c.reach-done.new.back c.reach-done.result =
    (record {
      idle = c.requires.idle;
      plays = c.requires.plays;
      wishes = c.requires.wish;
      at = c.in-Ok.ensures.sound;
      turn = c.reach-done.ensures.turn;
      own = c.reach-done.ensures.own;
      stays = c.reach-done.ensures.stays;
    }) in
    reach_due c.args.pass.now c.args.place c.args.page c.args.back.now c.in-Ok.value c.reach-done.new.page c.reach-done.new.back c.reach-done.result k
    c.try_page.new.pass.view (entry_with c.read.result.now c.reach-done.result.mark) c.in-Ok.ensures.won
    (reach_makes c.args.pass.now c.args.place c.args.page c.args.back.now c.in-Ok.value c.reach-done.new.page c.reach-done.new.back c.reach-done.result k c.read.result.now c.read.ensures.bytes)

pub give_page-requires-clause-inside : goal.give_page-requires-clause-inside
give_page-requires-clause-inside g c =
    subst (λ (s : ScriptValue). c.args.page < s.setup.memory) c.requires.own.script (page_inside c.args.pass.now c.args.place c.args.page c.args.back.now c.requires.idle c.requires.plays c.requires.wish)

pub returns-clause-plays : goal.returns-clause-plays
returns-clause-plays g c =
    let k : Reaches c.args.pass.now c.args.place c.args.page c.args.back.now c.in-Ok.value c.reach-done.new.page c.reach-done.new.back c.reach-done.result =
    (record {
      idle = c.requires.idle;
      plays = c.requires.plays;
      wishes = c.requires.wish;
      at = c.in-Ok.ensures.sound;
      turn = c.reach-done.ensures.turn;
      own = c.reach-done.ensures.own;
      stays = c.reach-done.ensures.stays;
    }) in
    reach_plays c.args.pass.now c.args.place c.args.page c.args.back.now c.in-Ok.value c.reach-done.new.page c.reach-done.new.back c.reach-done.result k
    c.stamp.new.pass c.give_page.new.pass c.read.result.now c.stamp.result
    (one_stamped c.args.pass.now c.try_page.new.pass c.stamp.new.pass c.args.page c.in-Ok.value c.read.result.now c.reach-done.new.page c.reach-done.result c.stamp.result
    c.in-Ok.ensures.same c.in-Ok.ensures.won c.read.ensures.bytes c.stamp.ensures.ticket c.stamp.ensures.room) c.give_page.ensures.same c.give_page.ensures.given

pub returns-clause-turned : goal.returns-clause-turned
returns-clause-turned g c =
    let k : Reaches c.args.pass.now c.args.place c.args.page c.args.back.now c.in-Ok.value c.reach-done.new.page c.reach-done.new.back c.reach-done.result =
    (record {
      idle = c.requires.idle;
      plays = c.requires.plays;
      wishes = c.requires.wish;
      at = c.in-Ok.ensures.sound;
      turn = c.reach-done.ensures.turn;
      own = c.reach-done.ensures.own;
      stays = c.reach-done.ensures.stays;
    }) in
    reach_turned c.args.pass.now c.args.place c.args.page c.args.back.now c.in-Ok.value c.reach-done.new.page c.reach-done.new.back c.reach-done.result k
    c.stamp.new.pass c.give_page.new.pass c.read.result.now c.stamp.result
    (one_stamped c.args.pass.now c.try_page.new.pass c.stamp.new.pass c.args.page c.in-Ok.value c.read.result.now c.reach-done.new.page c.reach-done.result c.stamp.result
    c.in-Ok.ensures.same c.in-Ok.ensures.won c.read.ensures.bytes c.stamp.ensures.ticket c.stamp.ensures.room) c.give_page.ensures.given c.give_page.ensures.placed
