-- The ends of a run of pages, within the 16 pages that have the page's number divided by 16.
use Rattle.std.specs.Prelude.{◌≡◌, ℕ, ◌+◌, ◌-◌, ◌*◌, ◌/◌, ◌<◌, ◌≤◌, Bool, true, false}

-- from this page up to p all pass the test, and the one below it doesn't, or is of another block
pub record IsLowest (test : ℕ → Bool) (p low : ℕ) : Type 0 where
  pub up_to : low ≤ p
  pub block : p / 16 * 16 ≤ low
  pub all : (q : ℕ) → low ≤ q → q < p → test q ≡ true
  pub ends : p / 16 * 16 < low → test (low - 1) ≡ false

-- from p up to this page all pass the test, and the one above it doesn't, or is of another block
pub record IsHighest (test : ℕ → Bool) (p high : ℕ) : Type 0 where
  pub from : p ≤ high
  pub block : high < p / 16 * 16 + 16
  pub all : (q : ℕ) → p < q → q ≤ high → test q ≡ true
  pub ends : high + 1 < p / 16 * 16 + 16 → test (high + 1) ≡ false
