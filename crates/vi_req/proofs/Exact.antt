-- A result that meets one fact of its value or one of its error is that value or that error, where both facts
-- have one value at most and never hold together.
use Rattle.std.proofs.Common.{◌≡◌, ◌↔◌, Result, Ok, Err, MatchResult, ap, subst}

module _ {T E : Type 0} (P : T → Type 0) (Q : E → Type 0) (one_value : (x y : T) → P x → P y → x ≡ y) (one_error : (d e : E) → Q d → Q e → d ≡ e) (apart : (x : T) (e : E) → P x → Q e → ⊥) where
  pub exact_ok : (r : Result T E) → MatchResult r P Q → (y : T) → (r ≡ Ok y) ↔ P y
  exact_ok (Ok x) p y = (λ e. subst P (cc) p, λ q. ap Ok (one_value x y p q))
  exact_ok (Err d) q y = (λ e. cc, λ p. absurd (apart y d p q))

  pub exact_err : (r : Result T E) → MatchResult r P Q → (d : E) → (r ≡ Err d) ↔ Q d
  exact_err (Ok x) p d = (λ e. cc, λ q. absurd (apart x d p q))
  exact_err (Err e) q d = (λ i. subst Q (cc) q, λ r. ap Err (one_error e d q r))
