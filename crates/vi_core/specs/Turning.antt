-- What a turn did, as code says it.
use Rattle.vi_model.specs.Turns as model
use Rattle.vi_core.specs.declared.turned.Turned.{Turned}
use Rattle.vi_core.specs.declared.turned.Turned.TheVariants.{Moved, Waiting, Rest}

abbrev pub turned_of : Turned → model.Turned
turned_of Moved = model.Moved
turned_of Waiting = model.Waiting
turned_of Rest = model.Rest
