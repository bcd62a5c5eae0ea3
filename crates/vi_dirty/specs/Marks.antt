-- A set of pages as the code keeps it: a mark for each page of the memory, and the marked pages in the order of their marking.
use Rattle.std.specs.Prelude.{◌≡◌, ◌==◌, ℕ, ◌≤◌, Bool, false, cond, List, length, get_or, filter, count_by}
use Rattle.std.specs.List.{range_with_len}

-- a set of pages below a number, rising
pub record PageSetValue : Type 0 where
  pub room : ℕ
  pub pages : List ℕ

-- the marked pages, rising
abbrev pub marked : List Bool → List ℕ
marked marks = filter (λ page. get_or marks page false) (range_with_len 0 (length marks))

abbrev pub one_if : Bool → ℕ
one_if b = cond b 1 0

-- how often a page is in a list
abbrev pub times : ℕ → List ℕ → ℕ
times page pages = count_by (λ p. p == page) pages

-- the marked pages stand in the list once, and no others, and there is room for all pages
pub record IsMarked (marks : List Bool) (order : List ℕ) (capacity : ℕ) : Type 0 where
  pub once : (page : ℕ) → times page order ≡ one_if (get_or marks page false)
  pub count : length order ≡ count_by (λ m. m) marks
  pub room : length marks ≤ capacity
