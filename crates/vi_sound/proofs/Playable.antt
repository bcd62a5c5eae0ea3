-- A valid script whose requests fit their fields can be played.
use Rattle.vi_model.specs.Laws.{ValidIsPlayable}

pub valid_is_playable : ValidIsPlayable
valid_is_playable s valid fit = record { valid = valid; fields = fit }
