-- That the numbers of a statement's request fit the fields of a request (Virtio 1.2, 5.13.6).
use Rattle.vi_lines.specs.Fields.{JobFits}
use Rattle.vi_script.specs.Statements.{Statement, Memory, Queue, Cache, Granule, Input, Bypass, Events, Endpoint, Reserve, Turns, Actor}

-- the request of an actor line does, if it has one
abbrev pub StatementFits : Statement → Type 0
StatementFits (Memory pages) = Unit {0}
StatementFits (Queue size) = Unit {0}
StatementFits (Cache entries) = Unit {0}
StatementFits (Granule granule) = Unit {0}
StatementFits (Input span) = Unit {0}
StatementFits (Bypass on) = Unit {0}
StatementFits (Events on) = Unit {0}
StatementFits (Endpoint id) = Unit {0}
StatementFits (Reserve endpoint region) = Unit {0}
StatementFits (Turns turns) = Unit {0}
StatementFits (Actor l) = JobFits l.job
