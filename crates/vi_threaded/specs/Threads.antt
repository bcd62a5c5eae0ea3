-- The forms of the command line that run threads, by the words behind the program's name.
use Rattle.std.specs.Prelude.{◌≤◌, ℕ, ◌&&◌, nat_le, if◌then◌else◌, List, [], ◌∷◌, map, String, string_bytes, Some, None, codes}
use Rattle.std.specs.declared.option.Option.{Option}
use Rattle.std.specs.Str.{bytes_eq}
use Rattle.vi_words.specs.Numbers.{number_of}
use Rattle.vi_threaded.specs.declared.threaded.TheConstants.{MOST_WORKERS, LONGEST_ROUND}
use Rattle.vi_threaded.specs.declared.threaded.Threaded.{Threaded}
use Rattle.vi_threaded.specs.declared.threaded.Threaded.TheVariants.{Run, Load, Dirty}

-- `run W`: there are 1 to 16 workers
abbrev pub run_for : Option ℕ → Option Threaded
run_for None = None
run_for (Some workers) = if nat_le 1 workers && nat_le workers MOST_WORKERS then Some (Run workers) else None

-- the words behind `run`
abbrev pub run_of : List (List ℕ) → Option Threaded
run_of (workers ∷ []) = run_for (number_of workers)
run_of words = None

-- `load N W`: there are 1 to 400 rounds, and 1 to 16 workers
abbrev pub load_for : Option ℕ → Option ℕ → Option Threaded
load_for None workers = None
load_for (Some rounds) None = None
load_for (Some rounds) (Some workers) =
    if nat_le 1 rounds && nat_le rounds 400 then (if nat_le 1 workers && nat_le workers MOST_WORKERS then Some (Load rounds workers) else None) else None

-- the words behind `load`
abbrev pub load_of : List (List ℕ) → Option Threaded
load_of (rounds ∷ workers ∷ []) = load_for (number_of rounds) (number_of workers)
load_of words = None

-- `dirty K W`: a round has 1 to 10000 entries, and there are 1 to 16 workers
abbrev pub dirty_for : Option ℕ → Option ℕ → Option Threaded
dirty_for None workers = None
dirty_for (Some every) None = None
dirty_for (Some every) (Some workers) =
    if nat_le 1 every && nat_le every LONGEST_ROUND then (if nat_le 1 workers && nat_le workers MOST_WORKERS then Some (Dirty every workers) else None) else None

-- the words behind `dirty`
abbrev pub dirty_of : List (List ℕ) → Option Threaded
dirty_of (every ∷ workers ∷ []) = dirty_for (number_of every) (number_of workers)
dirty_of words = None

-- a form by its name and the words behind it
abbrev pub threaded_named : List ℕ → List (List ℕ) → Option Threaded
threaded_named name words =
    if bytes_eq name (codes "run") then run_of words else (
    if bytes_eq name (codes "load") then load_of words else (
    if bytes_eq name (codes "dirty") then dirty_of words else None))

-- the form that the words are
abbrev pub threaded_of : List (List ℕ) → Option Threaded
threaded_of [] = None
threaded_of (name ∷ words) = threaded_named name words

abbrev pub threaded_in : {A : Type 0} → List (String A) → Option Threaded
threaded_in words = threaded_of (map string_bytes words)

-- the numbers of a form are within their bounds
abbrev pub IsThreaded : Threaded → Type 0
IsThreaded (Run workers) = (1 ≤ workers) × (workers ≤ MOST_WORKERS)
IsThreaded (Load rounds workers) = ((1 ≤ rounds) × (rounds ≤ 400)) × ((1 ≤ workers) × (workers ≤ MOST_WORKERS))
IsThreaded (Dirty every workers) = ((1 ≤ every) × (every ≤ LONGEST_ROUND)) × ((1 ≤ workers) × (workers ≤ MOST_WORKERS))

-- on how many workers it runs
abbrev pub workers_of : Threaded → ℕ
workers_of (Run workers) = workers
workers_of (Load rounds workers) = workers
workers_of (Dirty every workers) = workers
