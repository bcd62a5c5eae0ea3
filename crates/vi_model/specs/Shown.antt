-- The fault records that are delivered, by the number of their fault.
use Rattle.std.specs.Prelude.{◌≡◌, ◌⊎◌, ℕ, suc, ◌+◌, ◌<◌, ◌≤◌, List, [], ◌∷◌, ◌++◌, length, Some, slice_get}
use Rattle.vi_history.specs.declared.outcome.Shown.{Shown}
use Rattle.vi_model.specs.Control.{Events}

-- the records are taken from these in order, each at most once, with their numbers from this one on
abbrev pub AreNumbered : ℕ → List (List ℕ) → List Shown → Type 0
AreNumbered number [] [] = Unit {0}
AreNumbered number [] (x ∷ xs) = ⊥
AreNumbered number (r ∷ rs) [] = AreNumbered (suc number) rs []
AreNumbered number (r ∷ rs) (x ∷ xs) = ((x ≡ record { entry = number; bytes = r }) × AreNumbered (suc number) rs xs) ⊎ AreNumbered (suc number) rs (x ∷ xs)

-- With so many event buffers: what was delivered is taken from the history's records, and the others are counted as
-- dropped; the first records are all there, one for each buffer; what nobody has read is the last of it.
pub record AreShown (buffers : ℕ) (records : List (List ℕ)) (e : Events) : Type 0 where
  pub taken : AreNumbered 1 records e.shown
  pub count : length e.shown + e.dropped ≡ length records
  pub enough : 0 < e.dropped → buffers ≤ length e.shown
  pub first : (i : ℕ) → i < buffers → i < length e.shown → (x : Shown) × (slice_get e.shown i ≡ Some x) × (x.entry ≡ i + 1)
  pub read : List Shown
  pub last : e.shown ≡ read ++ e.waiting
  pub few : length e.waiting ≤ buffers
