-- The test of a finished world says what it is to say.
use Rattle.std.proofs.Common.{◌≡◌, ℕ, zero, suc, ◌+◌, ◌≤◌, ◌<◌, Bool, true, List, [], ◌∷◌, length, refl, arith, sym, subst, ◌⊎◌, inl, inr}
use Rattle.std.specs.Prelude.{nat_le}
use Rattle.std.specs.List.{list_all, range_with_len}
use Rattle.std.proofs.lemmas.Bool.{and_parts, leb-true, cases_eq}
use Rattle.vi_history.specs.declared.call.Caller.TheVariants.{Driver}
use Rattle.vi_lines.specs.Calls.{lines_of}
use Rattle.vi_model.specs.Control.{driver_count}
use Rattle.vi_model.specs.Places.{place_count, back_at}
use Rattle.vi_model.specs.Worlds.{stand_of, seat_of}
use Rattle.vi_model.specs.Turns.{is_none}
use Rattle.vi_model.specs.Rounds.{is_driver_finished, is_back_finished, is_finished, FinishedHasFinished}

range_all : (p : ℕ → Bool) (a n i : ℕ) → list_all p (range_with_len a n) ≡ true → a ≤ i → i < a + n → p i ≡ true
range_all p a zero i h low high = absurd (omega (arith, low, high))
range_all p a (suc n) i h low high = go (and_parts (p a) (list_all p (range_with_len (a + 1) n)) h) (cases_eq i a) (λ t l. range_all p (a + 1) n i t l (omega (arith, high)))
  where
    go : (p a ≡ true) × (list_all p (range_with_len (a + 1) n) ≡ true) → (i ≡ a) ⊎ (i ≡ a → ⊥) → (list_all p (range_with_len (a + 1) n) ≡ true → a + 1 ≤ i → p i ≡ true) → p i ≡ true
    go both (inl e) rest = subst (λ j. p j ≡ true) (sym e) both.0
    go both (inr ne) rest = rest both.1 (omega (arith, low, ne))

none_is : (ns : List ℕ) → is_none ns ≡ true → ns ≡ []
none_is [] h = refl
none_is (n ∷ ns) h = absurd cc

pub finished_has_finished : FinishedHasFinished
unfolding is_finished
finished_has_finished s w h = record {
  drivers = λ j lt. leb-true (length (lines_of s (Driver j))) (stand_of w j).submitted (driver j lt).0;
  none_open = λ j lt. none_is (stand_of w j).open_lines (driver j lt).1;
  backs = λ k lt. leb-true (length (lines_of s (back_at s k))) (seat_of w k).finished (range_all (is_back_finished s w) 0 (place_count s) k both.1 (omega arith) (omega (arith, lt)));
}
  where
    both : (list_all (is_driver_finished s w) (range_with_len 0 driver_count) ≡ true) × (list_all (is_back_finished s w) (range_with_len 0 (place_count s)) ≡ true)
    both = and_parts (list_all (is_driver_finished s w) (range_with_len 0 driver_count)) (list_all (is_back_finished s w) (range_with_len 0 (place_count s))) h

    driver : (j : ℕ) → j < driver_count → (nat_le (length (lines_of s (Driver j))) (stand_of w j).submitted ≡ true) × (is_none (stand_of w j).open_lines ≡ true)
    driver j lt = and_parts (nat_le (length (lines_of s (Driver j))) (stand_of w j).submitted) (is_none (stand_of w j).open_lines) (range_all (is_driver_finished s w) 0 driver_count j both.0 (omega arith) (omega (arith, lt)))
