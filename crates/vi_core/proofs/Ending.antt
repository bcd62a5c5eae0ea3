-- Whether every line of a world's script is finished.
use Rattle.std.proofs.Common.{◌≡◌, ◌<◌, ℕ, Bool, true, not, ◌&&◌, List, [], ◌∷◌, length, get_or, map, refl, arith, ap, ap₂, sym, ◌∙◌}
use Rattle.std.specs.Prelude.{nat_le, nat_eq, Result, Ok, Err, IfOk}
use Rattle.std.specs.List.{list_all, range_with_len}
use Rattle.std.proofs.lemmas.List.{ext_get_or, get_or_default, length-map}
use Rattle.std.proofs.Math.ListN.{get_or-map}
use Rattle.std.proofs.lemmas.Bool.Decides.{nat_tests}
use Rattle.std.proofs.lemmas.List.Folds.{list_all-map}
use Rattle.std.proofs.lemmas.List.FromFn.{length-map-range_with_len, get_or-map-range_with_len}
use Rattle.vi_history.specs.declared.call.Caller.TheVariants.{Driver}
use Rattle.vi_lines.specs.Calls.{lines_of}
use Rattle.vi_model.specs.Control.{driver_count}
use Rattle.vi_model.specs.Places.{place_count}
use Rattle.vi_model.specs.Worlds.{stand_of}
use Rattle.vi_model.specs.Turns.{is_none}
use Rattle.vi_model.specs.Rounds as model
use Rattle.vi_driver.specs.Drivers.{OwnDriver}
use Rattle.vi_driver.specs.Drivers as driver
use Rattle.vi_backend.specs.Own.{Own}
use Rattle.vi_backend.specs.Wishes as back
use Rattle.vi_core.specs.Parts.{Parts, world_of, no_driver, no_back, IsBackAt, IsKept}
use Rattle.vi_core.proofs.Moving.{many_drivers, many_backs}
use Rattle.vi_core.proofs.MovingBacks.{seat_is}
use Rattle.vi_core.proofs.Needs.{driver_is}

-- a test of each element is one of each place
all_same : {X : Type 0} (f : X → Bool) (g : ℕ → Bool) (xs : List X) (d : X) (n : ℕ) → length xs ≡ n → ((k : ℕ) → k < n → f (get_or xs k d) ≡ g k) → list_all f xs ≡ list_all g (range_with_len 0 n)
all_same f g xs d n len same =
    sym (list_all-map (λ b. b) f xs)
    ∙ ap (list_all (λ b. b)) (ext_get_or true (map f xs) (map g (range_with_len 0 n)) (length-map xs f ∙ len ∙ sym (length-map-range_with_len g 0 n)) (λ k lt.
    let m = length-map xs f in
    let below : k < n = omega (arith, lt, m, len) in
    get_or_default (map f xs) k true (f d) lt ∙ get_or-map f xs k d ∙ same k below ∙ sym (get_or-map-range_with_len g 0 n k k true below (omega arith))))
    ∙ list_all-map (λ b. b) g (range_with_len 0 n)

none_open : (xs : List ℕ) → not (not (nat_eq (length xs) 0)) ≡ is_none xs
none_open [] = refl
none_open (n ∷ ns) = grind (arith, nat_tests)

driver_finished : (p : Parts) (n : ℕ) → IsKept p → n < driver_count → driver.is_finished (get_or p.drivers n no_driver) ≡ model.is_driver_finished p.script (world_of p) n
driver_finished p n kept lt = ap driver.is_finished (driver_is p n kept lt)
    ∙ ap (λ b. nat_le (length (lines_of p.script (Driver n))) (stand_of (world_of p) n).submitted && b) (none_open (stand_of (world_of p) n).open_lines)

back_finished : (p : Parts) (place : ℕ) → IsKept p → place < place_count p.script → back.is_finished (get_or p.backs place no_back) ≡ model.is_back_finished p.script (world_of p) place
back_finished p place kept lt =
    let at : IsBackAt p.script place (get_or p.backs place no_back) = kept.backs place lt in
    ap₂ (λ ls z. nat_le (length ls) z) at.back.own_lines (ap (λ z. z.finished) (sym (seat_is p place)))

pub all_finished : (p : Parts) → IsKept p
    → (list_all (λ (d : OwnDriver). driver.is_finished d) p.drivers && list_all (λ (b : Own). back.is_finished b) p.backs) ≡ model.is_finished p.script (world_of p)
unfolding model.is_finished
all_finished p kept =
    ap₂ (λ a b. a && b)
    (all_same (λ (d : OwnDriver). driver.is_finished d) (model.is_driver_finished p.script (world_of p)) p.drivers no_driver driver_count (many_drivers p kept) (λ n lt. driver_finished p n kept lt))
    (all_same (λ (b : Own). back.is_finished b) (model.is_back_finished p.script (world_of p)) p.backs no_back (place_count p.script) (many_backs p kept) (λ place lt. back_finished p place kept lt))

-- what is so of an answer, if it is one, has consequences
pub ok_also : {X E : Type 0} {P Q : X → Type 0} (r : Result X E) → ((x : X) → P x → Q x) → IfOk r P → IfOk r Q
ok_also (Ok x) f p = f x p
ok_also (Err e) f p = tt
