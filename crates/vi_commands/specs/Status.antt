-- The statuses of the program: their numbers, and the texts that are written with them.
use Rattle.std.specs.Prelude.{ℕ, List, [], ◌∷◌, ◌++◌, codes}
use Rattle.std.specs.Fmt.{decimal}
use Rattle.vi_script.specs.Faults.{kind_text}
use Rattle.vi_script.specs.declared.fault.BadKind.{BadKind}
use Rattle.vi_commands.specs.declared.status.Status.{Status}
use Rattle.vi_commands.specs.declared.status.Status.TheVariants.{Ok, Usage, BadScript, TooLong, ReadFault, WriteFault, OutOfMemory, Wrong, BadReport, BadTrace}

-- the number with which the process ends
abbrev pub status_number : Status → ℕ
status_number Ok = 0
status_number Usage = 2
status_number (BadScript _ _) = 3
status_number TooLong = 4
status_number ReadFault = 5
status_number WriteFault = 6
status_number Wrong = 7
status_number OutOfMemory = 8
status_number (BadReport _) = 10
status_number (BadTrace _) = 14

-- the text and LF
abbrev pub line_of : List ℕ → List ℕ
line_of text = text ++ 10 ∷ []

-- where a script is refused, and why
abbrev pub bad_script_text : ℕ → BadKind → List ℕ
bad_script_text line kind = line_of (codes "bad script line " ++ decimal line ++ codes ": " ++ kind_text kind)

-- where a report is refused
abbrev pub bad_report_text : ℕ → List ℕ
bad_report_text line = line_of (codes "bad report line " ++ decimal line)

-- where a text is no trace
abbrev pub bad_trace_text : ℕ → List ℕ
bad_trace_text line = line_of (codes "bad trace line " ++ decimal line)

-- The text that is written with a status. With Ok and Wrong the command's own text is written, and after a fault
-- or where memory is out none.
abbrev pub status_text : Status → List ℕ
status_text Ok = []
status_text Usage = line_of (codes "usage: viommu run W | sim S T | one | check | make N | load N W | dirty K W | trace")
status_text (BadScript line kind) = bad_script_text line kind
status_text TooLong = line_of (codes "input too long")
status_text ReadFault = []
status_text WriteFault = []
status_text OutOfMemory = []
status_text Wrong = []
status_text (BadReport line) = bad_report_text line
status_text (BadTrace line) = bad_trace_text line
