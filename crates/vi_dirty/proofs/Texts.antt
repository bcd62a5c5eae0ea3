-- Texts that grow at their ends.
use Rattle.std.proofs.Common.{◌≡◌, ℕ, List, ◌++◌, cond, is_ok, Result, Ok, Err, append_assoc, ap, ◌∙◌}
use Rattle.std.specs.Result.{OnOk}

-- what holds once a text was pushed
pub on_pushed : {A E Q : Type 0} (r : Result A E) (now longer same : List ℕ) → now ≡ cond (is_ok r) longer same → (now ≡ longer → Q) → OnOk r Q
on_pushed (Ok v) now longer same is holds = holds is
on_pushed (Err e) now longer same is holds = tt

-- three pieces, of which the first two stand there already
pub added_last : (start first second third now new : List ℕ) → now ≡ (start ++ first) ++ second → new ≡ now ++ third → new ≡ start ++ ((first ++ second) ++ third)
added_last start first second third now new before is = is ∙ ap (λ l. l ++ third) before ∙ ap (λ l. l ++ third) (append_assoc start first second) ∙ append_assoc start (first ++ second) third

-- four pieces, one after the other
pub four_added : (start a b d e : List ℕ) (first second third last : List ℕ) → first ≡ start ++ a → second ≡ first ++ b → third ≡ second ++ d → last ≡ third ++ e → last ≡ start ++ (((a ++ b) ++ d) ++ e)
four_added start a b d e first second third last p q r s =
    s ∙ ap (λ l. l ++ e) (r ∙ ap (λ l. l ++ d) (q ∙ ap (λ l. l ++ b) p ∙ append_assoc start a b) ∙ append_assoc start (a ++ b) d) ∙ append_assoc start ((a ++ b) ++ d) e
