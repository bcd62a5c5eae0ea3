-- Bytes that move from the front of a list into a buffer.
use Rattle.std.proofs.Common.{◌≡◌, ℕ, ◌+◌, ◌≤◌, ◌<◌, min, List, [], ◌++◌, length, take, drop, sym, ◌∙◌, ap, arith}
use Rattle.std.proofs.lemmas.List.{take-append-drop, take_at, drop-drop, drop_all, length-take-le, length-drop}

-- what a buffer's front was given and what is left are what was left before
pub given_and_left : (bytes front buf : List ℕ) (place n : ℕ) → front ≡ take n (drop place bytes) → n ≤ length (drop place bytes)
    → drop place bytes ≡ take n (front ++ drop n buf) ++ drop (place + n) bytes
given_and_left bytes front buf place n given fits =
    let size : length front ≡ n = ap length given ∙ length-take-le n (drop place bytes) fits in
    let taken : take n (front ++ drop n buf) ≡ take n (drop place bytes) = take_at front (drop n buf) n size ∙ given in
    sym (take-append-drop n (drop place bytes)) ∙ ap (λ (xs : List ℕ). xs ++ drop n (drop place bytes)) (sym taken)
    ∙ ap (λ (ys : List ℕ). take n (front ++ drop n buf) ++ ys) (drop-drop n place bytes)

-- nothing is left where a buffer with room was given nothing
pub none_left : (bytes : List ℕ) (place n room most : ℕ) → n ≡ min (min (length (drop place bytes)) room) most → 1 ≤ most → n ≡ 0 → 0 < room
    → drop (place + n) bytes ≡ []
none_left bytes place n room most count some none has_room =
    drop_all (place + n) bytes (omega (arith, length-drop place bytes))
