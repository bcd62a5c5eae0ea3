-- The line and the part of a call of the script.
use Rattle.std.proofs.Common.{◌≡◌, ◌==◌, ℕ, zero, suc, ◌≤◌, Bool, true, false, cond, ◌&&◌, length, Some, None, IsSome, arith, refl}
use Rattle.std.specs.Prelude.{nat_le}
use Rattle.std.proofs.lemmas.Bool.{and_parts, leb-true, eqb-true, false≢true}
use Rattle.std.proofs.lemmas.Option.{slice_get_within}
use Rattle.vi_history.specs.declared.call.Caller.{Caller}
use Rattle.vi_history.specs.declared.call.Caller.TheVariants.{Driver}
use Rattle.vi_lines.specs.declared.line.Line.{Line}
use Rattle.vi_lines.specs.Value.{ScriptValue}
use Rattle.vi_lines.specs.Calls.{lines_of, line_of, parts_of, driver_call, back_call, call_of}
use Rattle.vi_sound.proofs.Values.Known.{known_line}

line_there : (s : ScriptValue) (c : Caller) (line : ℕ) (l : Line) → line_of s c line ≡ Some l → (1 ≤ line) × (line ≤ length (lines_of s c))
line_there s c zero l e = absurd cc
line_there s c (suc before) l e = let lt = slice_get_within (lines_of s c) before l e in (omega arith, omega (arith, lt))

-- the line of a call is one of its caller's lines
pub call_line : (s : ScriptValue) (c : Caller) (line part : ℕ) → IsSome (call_of s c line part) → (1 ≤ line) × (line ≤ length (lines_of s c))
call_line s c line part known = let l = known_line s c line part known in line_there s c line l.0 l.1

-- a driver's call is its line's part 0
pub driver_part : (s : ScriptValue) (j line part : ℕ) → IsSome (call_of s (Driver j) line part) → part ≡ 0
driver_part s j line part known = let l = known_line s (Driver j) line part known in go l.0 (part == 0) refl l.2
  where
    go : (l : Line) (b : Bool) → (part == 0) ≡ b → IsSome (cond b (driver_call l.job) None) → part ≡ 0
    go l true e h = eqb-true part 0 e
    go l false e h = absurd (false≢true h)

-- a back end's call is a part of its line's transfer
pub back_part : (id part : ℕ) (l : Line) → IsSome (cond (nat_le 1 part && nat_le part (parts_of l.job)) (back_call id l.job part) None) → (1 ≤ part) × (part ≤ parts_of l.job)
back_part id part l known = go (nat_le 1 part && nat_le part (parts_of l.job)) refl known
  where
    go : (b : Bool) → (nat_le 1 part && nat_le part (parts_of l.job)) ≡ b → IsSome (cond b (back_call id l.job part) None) → (1 ≤ part) × (part ≤ parts_of l.job)
    go true e h = let both = and_parts (nat_le 1 part) (nat_le part (parts_of l.job)) e in (leb-true 1 part both.0, leb-true part (parts_of l.job) both.1)
    go false e h = absurd (false≢true h)
