-- The requests of what was said fit their fields, if each statement's does.
use Rattle.std.proofs.Common.{List, [], ◌∷◌, ◌++◌}
use Rattle.vi_lines.specs.declared.line.Line.{Line}
use Rattle.vi_script.specs.Statements.{Statement, Memory, Queue, Cache, Granule, Input, Bypass, Events, Endpoint, Reserve, Turns, Actor}
use Rattle.vi_script.specs.Said.{Said, says, script_of}
use Rattle.vi_lines.specs.Fields.{JobFits, LinesFit, HasFields}
use Rattle.vi_script.specs.Fitting.{StatementFits}

LinesFit-push : (lines : List Line) (l : Line) → LinesFit lines → JobFits l.job → LinesFit (lines ++ l ∷ [])
LinesFit-push [] l all new = (new, tt)
LinesFit-push (x ∷ xs) l all new = (all.0, LinesFit-push xs l all.1 new)

pub LinesFit-says : (above : Said) (s : Statement) → LinesFit above.lines → StatementFits s → LinesFit (says above s).lines
LinesFit-says above (Memory pages) all new = all
LinesFit-says above (Queue size) all new = all
LinesFit-says above (Cache entries) all new = all
LinesFit-says above (Granule granule) all new = all
LinesFit-says above (Input span) all new = all
LinesFit-says above (Bypass on) all new = all
LinesFit-says above (Events on) all new = all
LinesFit-says above (Endpoint id) all new = all
LinesFit-says above (Reserve id region) all new = all
LinesFit-says above (Turns turns) all new = all
LinesFit-says above (Actor l) all new = LinesFit-push above.lines l all new

pub HasFields-script_of : (said : Said) → LinesFit said.lines → HasFields (script_of said)
unfolding script_of
HasFields-script_of said all = all
