-- Words that are no form of a run on threads, and the bounds of those that are.
use Rattle.std.proofs.Common.{◌≡◌, ◌<◌, ℕ, Bool, true, false, cond, ◌&&◌, List, [], ◌∷◌, String, string_bytes, length, map, Some, None, IfSome, codes, refl, arith}
use Rattle.std.specs.Prelude.{nat_le}
use Rattle.std.specs.declared.option.Option.{Option}
use Rattle.std.specs.Str.{bytes_eq}
use Rattle.std.proofs.lemmas.Bool.{leb-true, false_from_ne_true}
use Rattle.std.proofs.lemmas.Slice.Eq.{bytes_eq-Decides}
use Rattle.vi_words.specs.Numbers.{number_of}
use Rattle.vi_threaded.specs.Threads.{run_for, run_of, load_for, load_of, dirty_for, dirty_of, threaded_named, IsThreaded}
use Rattle.vi_threaded.specs.declared.threaded.TheConstants.{MOST_WORKERS, LONGEST_ROUND}
use Rattle.vi_threaded.specs.declared.threaded.Threaded.{Threaded}
use Rattle.vi_threaded.specs.declared.threaded.Threaded.TheVariants.{Run, Load, Dirty}

-- only one word stands behind `run`
pub run_of_short : {A : Type 0} (words : List (String A)) → length words < 1 → run_of (map string_bytes words) ≡ None
run_of_short [] short = refl
run_of_short (a ∷ words) short = absurd (omega arith)

pub run_of_long : {A : Type 0} (words : List (String A)) → 1 < length words → run_of (map string_bytes words) ≡ None
run_of_long [] long = refl
run_of_long (a ∷ []) long = absurd (omega arith)
run_of_long (a ∷ b ∷ words) long = refl

pub ruleset no_run = (run_of_short, run_of_long)

-- and two behind `load`
pub load_of_short : {A : Type 0} (words : List (String A)) → length words < 2 → load_of (map string_bytes words) ≡ None
load_of_short [] short = refl
load_of_short (a ∷ []) short = refl
load_of_short (a ∷ b ∷ words) short = absurd (omega arith)

pub load_of_long : {A : Type 0} (words : List (String A)) → 2 < length words → load_of (map string_bytes words) ≡ None
load_of_long [] long = refl
load_of_long (a ∷ []) long = refl
load_of_long (a ∷ b ∷ []) long = absurd (omega arith)
load_of_long (a ∷ b ∷ c ∷ words) long = refl

pub ruleset no_load = (load_of_short, load_of_long)

-- and behind `dirty`
pub dirty_of_short : {A : Type 0} (words : List (String A)) → length words < 2 → dirty_of (map string_bytes words) ≡ None
dirty_of_short [] short = refl
dirty_of_short (a ∷ []) short = refl
dirty_of_short (a ∷ b ∷ words) short = absurd (omega arith)

pub dirty_of_long : {A : Type 0} (words : List (String A)) → 2 < length words → dirty_of (map string_bytes words) ≡ None
dirty_of_long [] long = refl
dirty_of_long (a ∷ []) long = refl
dirty_of_long (a ∷ b ∷ []) long = absurd (omega arith)
dirty_of_long (a ∷ b ∷ c ∷ words) long = refl

pub ruleset no_dirty = (dirty_of_short, dirty_of_long)

-- every form that words are has its numbers within their bounds
abbrev AreWithin : Option Threaded → Type 0
AreWithin form = IfSome form IsThreaded

run_within : (o : Option ℕ) → AreWithin (run_for o)
run_within None = tt
run_within (Some n) = go (nat_le 1 n) (nat_le n MOST_WORKERS) refl refl
  where
    go : (a b : Bool) → nat_le 1 n ≡ a → nat_le n MOST_WORKERS ≡ b → AreWithin (cond (a && b) (Some (Run n)) None)
    go true true low high = (leb-true 1 n low, leb-true n MOST_WORKERS high)
    go true false low high = tt
    go false b low high = tt

runs_within : (words : List (List ℕ)) → AreWithin (run_of words)
runs_within [] = tt
runs_within (workers ∷ []) = run_within (number_of workers)
runs_within (workers ∷ more ∷ words) = tt

load_within : (o p : Option ℕ) → AreWithin (load_for o p)
load_within None p = tt
load_within (Some m) None = tt
load_within (Some m) (Some n) = go (nat_le 1 m) (nat_le m 400) (nat_le 1 n) (nat_le n MOST_WORKERS) refl refl refl refl
  where
    go : (a b c d : Bool) → nat_le 1 m ≡ a → nat_le m 400 ≡ b → nat_le 1 n ≡ c → nat_le n MOST_WORKERS ≡ d
        → AreWithin (cond (a && b) (cond (c && d) (Some (Load m n)) None) None)
    go true true true true some few low high = ((leb-true 1 m some, leb-true m 400 few), (leb-true 1 n low, leb-true n MOST_WORKERS high))
    go true true true false some few low high = tt
    go true true false d some few low high = tt
    go true false c d some few low high = tt
    go false b c d some few low high = tt

loads_within : (words : List (List ℕ)) → AreWithin (load_of words)
loads_within [] = tt
loads_within (rounds ∷ []) = tt
loads_within (rounds ∷ workers ∷ []) = load_within (number_of rounds) (number_of workers)
loads_within (rounds ∷ workers ∷ more ∷ words) = tt

dirty_within : (o p : Option ℕ) → AreWithin (dirty_for o p)
dirty_within None p = tt
dirty_within (Some m) None = tt
dirty_within (Some m) (Some n) = go (nat_le 1 m) (nat_le m LONGEST_ROUND) (nat_le 1 n) (nat_le n MOST_WORKERS) refl refl refl refl
  where
    go : (a b c d : Bool) → nat_le 1 m ≡ a → nat_le m LONGEST_ROUND ≡ b → nat_le 1 n ≡ c → nat_le n MOST_WORKERS ≡ d
        → AreWithin (cond (a && b) (cond (c && d) (Some (Dirty m n)) None) None)
    go true true true true some short low high = ((leb-true 1 m some, leb-true m LONGEST_ROUND short), (leb-true 1 n low, leb-true n MOST_WORKERS high))
    go true true true false some short low high = tt
    go true true false d some short low high = tt
    go true false c d some short low high = tt
    go false b c d some short low high = tt

dirties_within : (words : List (List ℕ)) → AreWithin (dirty_of words)
dirties_within [] = tt
dirties_within (every ∷ []) = tt
dirties_within (every ∷ workers ∷ []) = dirty_within (number_of every) (number_of workers)
dirties_within (every ∷ workers ∷ more ∷ words) = tt

pub named_within : (name : List ℕ) (words : List (List ℕ)) → AreWithin (threaded_named name words)
named_within name words = go (bytes_eq name (codes "run")) (bytes_eq name (codes "load")) (bytes_eq name (codes "dirty"))
  where
    go : (a b c : Bool) → AreWithin (cond a (run_of words) (cond b (load_of words) (cond c (dirty_of words) None)))
    go true b c = runs_within words
    go false true c = loads_within words
    go false false true = dirties_within words
    go false false false = tt

other_name : (name text : List ℕ) → (name ≡ text → ⊥) → bytes_eq name text ≡ false
other_name name text other = false_from_ne_true (bytes_eq name text) (λ same. other ((bytes_eq-Decides name text).0 same))

-- no other name is one of a form
pub threaded_none : (name : List ℕ) (words : List (List ℕ)) → (name ≡ codes "run" → ⊥) → (name ≡ codes "load" → ⊥) → (name ≡ codes "dirty" → ⊥) → None ≡ threaded_named name words
threaded_none name words run load dirty = rw (other_name name (codes "run") run, other_name name (codes "load") load, other_name name (codes "dirty") dirty) refl
