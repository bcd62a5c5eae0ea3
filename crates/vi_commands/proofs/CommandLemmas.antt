-- Words that are no form of a command.
use Rattle.std.proofs.Common.{◌≡◌, ◌<◌, ℕ, Bool, true, false, cond, ◌&&◌, List, [], ◌∷◌, String, string_bytes, length, map, Some, None, codes, refl, arith}
use Rattle.std.specs.Prelude.{nat_le}
use Rattle.std.specs.declared.option.Option.{Option}
use Rattle.std.specs.Str.{bytes_eq}
use Rattle.std.proofs.lemmas.Bool.{leb-true, false_from_ne_true}
use Rattle.std.proofs.lemmas.Slice.Eq.{bytes_eq-Decides}
use Rattle.vi_words.specs.Numbers.{number_of}
use Rattle.vi_commands.specs.Command.{sim_for, sim_of, make_for, make_of, alone, named, command_of, command_in, IsForm}
use Rattle.vi_commands.specs.declared.command.TheConstants.{MOST_MOVES}
use Rattle.vi_commands.specs.declared.command.Command.{Command}
use Rattle.vi_commands.specs.declared.command.Command.TheVariants.{Script, Text, Make}
use Rattle.vi_commands.specs.declared.command.Task.TheVariants.{Sim, One, Check}
use Rattle.vi_commands.specs.declared.command.TextTask.TheVariants.{Trace}

-- only two words stand behind `sim`
pub sim_of_short : {A : Type 0} (words : List (String A)) → length words < 2 → sim_of (map string_bytes words) ≡ None
sim_of_short [] short = refl
sim_of_short (a ∷ []) short = refl
sim_of_short (a ∷ b ∷ words) short = absurd (omega arith)

pub sim_of_long : {A : Type 0} (words : List (String A)) → 2 < length words → sim_of (map string_bytes words) ≡ None
sim_of_long [] long = refl
sim_of_long (a ∷ []) long = refl
sim_of_long (a ∷ b ∷ []) long = absurd (omega arith)
sim_of_long (a ∷ b ∷ c ∷ words) long = refl

pub ruleset no_sim = (sim_of_short, sim_of_long)

-- and only one behind `make`
pub make_of_short : {A : Type 0} (words : List (String A)) → length words < 1 → make_of (map string_bytes words) ≡ None
make_of_short [] short = refl
make_of_short (a ∷ words) short = absurd (omega arith)

pub make_of_long : {A : Type 0} (words : List (String A)) → 1 < length words → make_of (map string_bytes words) ≡ None
make_of_long [] long = refl
make_of_long (a ∷ []) long = absurd (omega arith)
make_of_long (a ∷ b ∷ words) long = refl

pub ruleset no_make = (make_of_short, make_of_long)

-- every command that words are has its form
number_form : (o : Option ℕ) → IsForm (make_for o)
number_form None = tt
number_form (Some n) = go (nat_le 1 n) (nat_le n 400) refl refl
  where
    go : (a b : Bool) → nat_le 1 n ≡ a → nat_le n 400 ≡ b → IsForm (cond (a && b) (Some (Make n)) None)
    go true true low high = (leb-true 1 n low, leb-true n 400 high)
    go true false low high = tt
    go false b low high = tt

make_form : (words : List (List ℕ)) → IsForm (make_of words)
make_form [] = tt
make_form (rounds ∷ []) = number_form (number_of rounds)
make_form (rounds ∷ more ∷ words) = tt

schedule_form : (o p : Option ℕ) → IsForm (sim_for o p)
schedule_form None p = tt
schedule_form (Some generator_seed) None = tt
schedule_form (Some generator_seed) (Some moves) = go (nat_le moves MOST_MOVES)
  where
    go : (b : Bool) → IsForm (cond b (Some (Script (Sim generator_seed moves))) None)
    go true = tt
    go false = tt

sim_form : (words : List (List ℕ)) → IsForm (sim_of words)
sim_form [] = tt
sim_form (generator_seed ∷ []) = tt
sim_form (generator_seed ∷ moves ∷ []) = schedule_form (number_of generator_seed) (number_of moves)
sim_form (generator_seed ∷ moves ∷ more ∷ words) = tt

alone_form : (command : Command) (words : List (List ℕ)) → IsForm (Some command) → IsForm (alone command words)
alone_form command [] form = form
alone_form command (more ∷ words) form = tt

named_form : (name : List ℕ) (words : List (List ℕ)) → IsForm (named name words)
named_form name words = go (bytes_eq name (codes "sim")) (bytes_eq name (codes "one")) (bytes_eq name (codes "check")) (bytes_eq name (codes "make")) (bytes_eq name (codes "trace"))
  where
    go : (a b c d e : Bool) → IsForm (cond a (sim_of words) (cond b (alone (Script One) words) (cond c (alone (Script Check) words) (cond d (make_of words) (cond e (alone (Text Trace) words) None)))))
    go true b c d e = sim_form words
    go false true c d e = alone_form (Script One) words tt
    go false false true d e = alone_form (Script Check) words tt
    go false false false true e = make_form words
    go false false false false true = alone_form (Text Trace) words tt
    go false false false false false = tt

command_form : (words : List (List ℕ)) → IsForm (command_of words)
command_form [] = tt
command_form (name ∷ words) = named_form name words

pub command_in-form : {A : Type 0} (words : List (String A)) → IsForm (command_in words)
command_in-form words = command_form (map string_bytes words)

other_name : (name text : List ℕ) → (name ≡ text → ⊥) → bytes_eq name text ≡ false
other_name name text other = false_from_ne_true (bytes_eq name text) (λ same. other ((bytes_eq-Decides name text).0 same))

-- no other name is one of a command
pub named_none : (name : List ℕ) (words : List (List ℕ)) → (name ≡ codes "sim" → ⊥) → (name ≡ codes "one" → ⊥) → (name ≡ codes "check" → ⊥) → (name ≡ codes "make" → ⊥)
    → (name ≡ codes "trace" → ⊥) → None ≡ named name words
named_none name words sim one check make trace =
    rw (other_name name (codes "sim") sim, other_name name (codes "one") one, other_name name (codes "check") check, other_name name (codes "make") make, other_name name (codes "trace") trace) refl
