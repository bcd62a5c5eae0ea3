-- A sound world's control has the room that the device's calls ask for.
use Rattle.vi_lines.specs.Value.{ScriptValue}
use Rattle.vi_model.specs.Places.{place_count}
use Rattle.vi_model.specs.Playable.{IsPlayable}
use Rattle.vi_model.specs.Sound.{IsSound}
use Rattle.vi_model.specs.Worlds.{World}
use Rattle.vi_sound.proofs.Space.Room.{requests_fit, settings_fit, misses_fit, open_calls_fit, acks_are_awaited, mappings_are_whole}
use Rattle.vi_control.specs.Rooms.{HasTurnRoom}

pub sound_room : (s : ScriptValue) (w : World) → IsPlayable s → IsSound s w → HasTurnRoom (place_count s) w.control
sound_room s w play sound = record {
  whole = mappings_are_whole s w sound;
  calls = open_calls_fit s w play sound;
  request = λ q rest e. requests_fit s w q rest play sound e;
  setting = λ driver x below e. settings_fit s w driver x play sound below e;
  miss = λ place m below there. misses_fit s w place m play sound below there;
  acks = λ place below some. acks_are_awaited s w place sound below some;
}
