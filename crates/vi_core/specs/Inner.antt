-- How a world is seen.
use Rattle.vi_core.specs.declared.world.World.TheInside.{Inside}
use Rattle.vi_core.specs.Running.{Running}
use Rattle.vi_core.specs.Parts.{Parts, running, IsKept}

abbrev pub parts_of : Inside → Parts
parts_of w = record { script = w.script; control = w.control; drivers = w.drivers.items; backs = w.backs.items; pages = w.pages.items; history = w.history }

abbrev pub seen : Inside → Running
seen w = running (parts_of w)

abbrev pub IsWorld : Inside → Type 0
IsWorld w = IsKept (parts_of w)
