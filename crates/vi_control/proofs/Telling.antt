-- The back ends that are told of a removal.
use Rattle.std.proofs.Common.{◌≡◌, ℕ, zero, suc, ◌+◌, ◌<◌, Option, List, length, map, get_or, take, Bool, false, refl, arith}
use Rattle.std.specs.List.{range_with_len}
use Rattle.std.proofs.lemmas.List.{get_or-take}
use Rattle.std.proofs.lemmas.List.FromFn.{fill_by_all}
use Rattle.vi_bytes.specs.declared.span.Span.{Span}
use Rattle.vi_model.specs.Lanes.{Lanes}
use Rattle.vi_model.specs.Control.{no_lanes}
use Rattle.vi_lanes.specs.Value.{LanesValue}
use Rattle.vi_control.specs.Awaits.{told_at, told_all}

-- each was told
pub told-filled : (flags : List Bool) (reach : Option Span) (old new : LanesValue) (places : ℕ) → places ≡ length old.mail → length new.mail ≡ length old.mail → new.parked ≡ old.parked
    → ((k : ℕ) → k < places → get_or new.mail k no_lanes ≡ told_at flags reach old.mail k) → new ≡ record old { mail = told_all flags reach old.mail }
told-filled flags reach old new places all long parked told =
    let mail : new.mail ≡ told_all flags reach old.mail = fill_by_all (told_at flags reach old.mail) new.mail (length old.mail) no_lanes long (λ k lt. told k (omega (arith, lt, all))) in
    rw (← mail, ← parked) refl

-- the flags of the places are the first ones
map-same : (f g : ℕ → Lanes) (p n : ℕ) → ((k : ℕ) → k < p + n → f k ≡ g k) → map f (range_with_len p n) ≡ map g (range_with_len p n)
map-same f g p zero same = refl
map-same f g p (suc n) same = rw (same p (omega arith), map-same f g (p + 1) n (λ k lt. same k (omega (arith, lt)))) refl

pub told-first : (flags : List Bool) (reach : Option Span) (mail : List Lanes) (n : ℕ) → n ≡ length mail → told_all (take n flags) reach mail ≡ told_all flags reach mail
told-first flags reach mail n all =
    map-same (told_at (take n flags) reach mail) (told_at flags reach mail) 0 (length mail) (λ k lt.
    let same = get_or-take n flags k false (omega (arith, lt, all)) in
    rw same refl)
