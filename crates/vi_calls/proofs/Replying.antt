-- The bytes of a reply say its answer.
use Rattle.std.proofs.Common.{◌≡◌, ℕ, ◌+◌, Bool, true, false, List, [], ◌∷◌, ◌++◌, length, take, get_or, set, refl, ap, sym, ◌∙◌, length-append}
use Rattle.std.specs.Prelude.{if◌then◌else◌, ◌==◌}
use Rattle.std.proofs.Math.Seq.{take-append_seam, set-append_seam, get_or-append_seam}
use Rattle.vi_bytes.specs.Fields.{byte_at}
use Rattle.vi_history.specs.Replies.{nothing_answer, status_answer, probed_answer}
use Rattle.vi_calls.specs.Replies.{tail_bytes, answer_of, is_set, AreAnswer}

pub answer_of-probed : (properties : List ℕ) (code : ℕ) → length properties ≡ 512 → answer_of (properties ++ tail_bytes code) ≡ probed_answer code properties
answer_of-probed properties code whole =
    let bytes = properties ++ tail_bytes code in
    let long : length bytes ≡ 516 = length-append properties (tail_bytes code) ∙ ap (λ n. n + 4) whole in
    let front : take 512 bytes ≡ properties = ap (λ n. take n bytes) (sym whole) ∙ take-append_seam properties (tail_bytes code) in
    let status : byte_at 512 bytes ≡ code = ap (λ n. get_or bytes n 0) (sym whole) ∙ get_or-append_seam properties code (0 ∷ 0 ∷ 0 ∷ []) 0 in
    rw (long, front, status) refl

pub AreAnswer-probed : (properties : List ℕ) (code : ℕ) → length properties ≡ 512 → AreAnswer (properties ++ tail_bytes code)
AreAnswer-probed properties code whole = rw (answer_of-probed properties code whole) refl

-- the status is put behind the properties
pub status-put : (properties : List ℕ) (code : ℕ) → length properties ≡ 512 → set (properties ++ 0 ∷ 0 ∷ 0 ∷ 0 ∷ []) 512 code ≡ properties ++ tail_bytes code
status-put properties code whole = ap (λ n. set (properties ++ 0 ∷ 0 ∷ 0 ∷ 0 ∷ []) n code) (sym whole) ∙ set-append_seam properties 0 (0 ∷ 0 ∷ 0 ∷ []) code

-- they are of no setting
pub not-set : (bytes : List ℕ) → is_set (answer_of bytes) ≡ false
not-set bytes = go (length bytes == 0) (length bytes == 4)
  where
    go : (a b : Bool) → is_set (if a then nothing_answer else (if b then status_answer (byte_at 0 bytes) else probed_answer (byte_at 512 bytes) (take 512 bytes))) ≡ false
    go true b = refl
    go false true = refl
    go false false = refl
