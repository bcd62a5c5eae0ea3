-- Reads and writes one after the other, where what is left and what was taken are told.
use Rattle.std.proofs.Common.{◌≡◌, ℕ, zero, suc, ◌+◌, ◌≤◌, List, [], ◌∷◌, ◌++◌, length, take, drop, refl, sym, ◌∙◌, ap, subst, arith, length-append}
use Rattle.std.specs.declared.option.Option.{Option}
use Rattle.std.specs.Io.KnownBytes.{Consumes, Appends}
use Rattle.std.proofs.KnownBytes.{Appends-trans, Consumes-trans}
use Rattle.std.proofs.lemmas.List.{length-take}
use Rattle.std.proofs.Math.Seq.{take-add}
use Rattle.vi_commands.specs.Input.{TakesAtMost}

-- a shorter front of a front
take-take : (n m : ℕ) (l : List ℕ) → n ≤ m → take n (take m l) ≡ take n l
take-take zero m l le = refl
take-take (suc n) zero l le = absurd (omega arith)
take-take (suc n) (suc m) [] le = refl
take-take (suc n) (suc m) (x ∷ l) le = ap (λ (k : List ℕ). x ∷ k) (take-take n m l (omega arith))

-- a text's first m bytes were taken, and then n of a piece that begins there
pub Appends-next : (a b c : Option (List ℕ)) (m n size : ℕ) (text : List ℕ) → n ≤ size → Appends a b (take m text) → Appends b c (take n (take size (drop m text)))
    → Appends a c (take (m + n) text)
Appends-next a b c m n size text fits first next =
    let piece : take n (take size (drop m text)) ≡ take n (drop m text) = take-take n size (drop m text) fits in
    subst (Appends a c) (ap (λ (l : List ℕ). take m text ++ l) piece ∙ sym (take-add m n text)) (Appends-trans a b c _ _ first next)

-- some bytes were read, within the limit, and then those of one more piece
pub TakesAtMost-next : (a b c : Option (List ℕ)) (limit size n : ℕ) (bytes piece : List ℕ) → Consumes a b bytes → length bytes ≤ limit
    → Consumes b c (take n piece) → n ≤ size → TakesAtMost (limit + size) a c
TakesAtMost-next a b c limit size n bytes piece first within next fits =
    (bytes ++ take n piece, omega (arith, length-append bytes (take n piece), length-take n piece), Consumes-trans a b c bytes (take n piece) first next)
