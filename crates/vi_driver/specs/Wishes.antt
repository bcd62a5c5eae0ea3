-- What a driver wants to do next.
use Rattle.std.specs.Prelude.{if◌then◌else◌, List, [], ◌∷◌, Option, Some, None}
use Rattle.vi_lines.specs.declared.line.Await.{Await}
use Rattle.vi_lines.specs.declared.line.Line.{Line}
use Rattle.vi_driver.specs.declared.wish.DriverWish.{DriverWish}
use Rattle.vi_driver.specs.declared.wish.DriverWish.TheVariants.{Submit, Collect, Await as Wait, Rest}
use Rattle.vi_driver.specs.Drivers.{OwnDriver, continues_batch, next_line, is_open}

-- where no line is left: to collect while a call is open, and then to rest
abbrev pub wish_at_end : OwnDriver → DriverWish
wish_at_end d = if is_open d.stand then Collect else Rest

-- a line waits for the lines that it awaits, and is submitted where there are none
abbrev pub wish_for : List Await → DriverWish
wish_for [] = Submit
wish_for (a ∷ rest) = Wait

-- before a line: to collect where a call of another batch is open
abbrev pub wish_before : Line → OwnDriver → DriverWish
wish_before l d = if continues_batch d then wish_for l.awaits else Collect

abbrev pub wish_at : Option Line → OwnDriver → DriverWish
wish_at None d = wish_at_end d
wish_at (Some l) d = wish_before l d

-- the driver's wish
unfoldable pub wish_of : OwnDriver → DriverWish
wish_of d = wish_at (next_line d) d
