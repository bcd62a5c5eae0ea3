use Rattle.vi_lines.proofs.TransferLemmas.{HasTransfers-from_valid}
use Rattle.vi_run.proofs.Opening.{new_driver, new_back}
use Rattle.vi_run.proofs.opened.role_of.Goals as goal

pub new-requires-in-Back-clause-transfers : goal.new-requires-in-Back-clause-transfers
new-requires-in-Back-clause-transfers c = HasTransfers-from_valid c.args.script.now c.requires.playable.valid

pub returns-in_ok-new-in-Driver : goal.returns-in_ok-new-in-Driver
returns-in_ok-new-in-Driver c = new_driver _ _ c.requires.actor.0 c.in-Driver.number _ c.requires.playable c.requires.actor.1 c.in-Driver.is c.in_ok-new-in-Driver.ensures

pub returns-in_ok-new-in-Back : goal.returns-in_ok-new-in-Back
returns-in_ok-new-in-Back c =
    let e = c.in_ok-new-in-Back.ensures in
    new_back _ _ c.requires.actor.0 c.in-Back.id _ _ c.requires.playable c.requires.actor.1 c.in-Back.is c.place_of-place.ensures.place c.place_of-place.ensures.below e.back e.own e.seat
