-- The forms of the command line, by the words behind the program's name.
use Rattle.std.specs.Prelude.{◌≤◌, ⊤, ℕ, ◌&&◌, nat_le, if◌then◌else◌, List, [], ◌∷◌, map, String, string_bytes, Some, None, codes}
use Rattle.std.specs.declared.option.Option.{Option}
use Rattle.std.specs.Str.{bytes_eq}
use Rattle.vi_words.specs.Numbers.{number_of}
use Rattle.vi_commands.specs.declared.command.TheConstants.{MOST_MOVES}
use Rattle.vi_commands.specs.declared.command.Command.{Command}
use Rattle.vi_commands.specs.declared.command.Command.TheVariants.{Script, Text, Make}
use Rattle.vi_commands.specs.declared.command.Task.TheVariants.{Sim, One, Check}
use Rattle.vi_commands.specs.declared.command.TextTask.TheVariants.{Trace}

-- `sim S T`: S is a number below 2^64, and T one that is at most MOST_MOVES
abbrev pub sim_for : Option ℕ → Option ℕ → Option Command
sim_for None moves = None
sim_for (Some generator_seed) None = None
sim_for (Some generator_seed) (Some moves) = if nat_le moves MOST_MOVES then Some (Script (Sim generator_seed moves)) else None

-- the words behind `sim`
abbrev pub sim_of : List (List ℕ) → Option Command
sim_of (generator_seed ∷ moves ∷ []) = sim_for (number_of generator_seed) (number_of moves)
sim_of words = None

-- a load script has 1 to 400 rounds
abbrev pub make_for : Option ℕ → Option Command
make_for None = None
make_for (Some rounds) = if nat_le 1 rounds && nat_le rounds 400 then Some (Make rounds) else None

-- `make N`: the words behind `make`
abbrev pub make_of : List (List ℕ) → Option Command
make_of (rounds ∷ []) = make_for (number_of rounds)
make_of words = None

-- a command whose name stands alone: no word is behind it
abbrev pub alone : Command → List (List ℕ) → Option Command
alone command [] = Some command
alone command words = None

-- a command by its name and the words behind it
abbrev pub named : List ℕ → List (List ℕ) → Option Command
named name words =
    if bytes_eq name (codes "sim") then sim_of words else (
    if bytes_eq name (codes "one") then alone (Script One) words else (
    if bytes_eq name (codes "check") then alone (Script Check) words else (
    if bytes_eq name (codes "make") then make_of words else (
    if bytes_eq name (codes "trace") then alone (Text Trace) words else None))))

-- the command whose form the words are
abbrev pub command_of : List (List ℕ) → Option Command
command_of [] = None
command_of (name ∷ words) = named name words

-- the command whose form these texts are
abbrev pub command_in : {A : Type 0} → List (String A) → Option Command
command_in words = command_of (map string_bytes words)

-- a command as its form has it: a load script has 1 to 400 rounds
abbrev pub IsForm : Option Command → Type 0
IsForm None = ⊤
IsForm (Some (Script task)) = ⊤
IsForm (Some (Text task)) = ⊤
IsForm (Some (Make rounds)) = (1 ≤ rounds) × (rounds ≤ 400)
