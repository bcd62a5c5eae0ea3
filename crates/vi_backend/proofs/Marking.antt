-- Marks of awaited lines, await by await.
use Rattle.std.proofs.Common.{◌≡◌, ◌≢◌, ◌==◌, ◌<◌, ◌≤◌, ℕ, zero, suc, ◌+◌, ◌-◌, Bool, true, false, cond, ◌&&◌, ◌||◌, List, [], ◌∷◌, length, map, set, fold, take, get_or, replicate, refl, sym, ap, ap₂, ◌∙◌, arith, eq-eqb, ne_eqb, lt-ltb}
use Rattle.std.specs.List.{range_with_len, list_any}
use Rattle.std.proofs.lemmas.List.Sums.{fold_more}
use Rattle.vi_history.specs.declared.call.Caller.{Caller}
use Rattle.vi_lines.specs.declared.line.Await.{Await}
use Rattle.vi_lines.specs.declared.line.Line.{Line}
use Rattle.vi_lines.specs.Value.{ScriptValue}
use Rattle.vi_lines.specs.Calls.{same_caller}
use Rattle.vi_model.specs.Posted.{is_awaited}
use Rattle.vi_backend.specs.Own.{awaited_of, marked, marked_by}

-- the marks of so many lines from this one on
abbrev pub marks : (ℕ → Bool) → ℕ → ℕ → List Bool
marks f first count = map f (range_with_len first count)

marks_same : (f g : ℕ → Bool) (first count : ℕ) → ((n : ℕ) → first ≤ n → f n ≡ g n) → marks f first count ≡ marks g first count
marks_same f g first zero same = refl
marks_same f g first (suc count) same = ap₂ (λ x xs. x ∷ xs) (same first (omega arith)) (marks_same f g (first + 1) count (λ n le. same n (omega arith)))

or_true : (b : Bool) → true ≡ b || true
or_true true = refl
or_true false = refl

or_false : (b : Bool) → b ≡ b || false
or_false true = refl
or_false false = refl

differ : (b : Bool) (m n : ℕ) → m ≢ n → b ≡ b || (m == n)
differ b m n ne = or_false b ∙ ap (λ c. b || c) (sym (ne_eqb m n ne))

-- setting one mark, counted from the first line
set_mark : (f : ℕ → Bool) (first count i : ℕ) → set (marks f first count) i true ≡ marks (λ n. f n || (first + i == n)) first count
set_mark f first zero i = refl
set_mark f first (suc count) zero =
    let here : first + 0 ≡ first = omega arith in
    ap₂ (λ x xs. x ∷ xs) (or_true (f first) ∙ ap (λ c. f first || c) (sym (eq-eqb (first + 0) first here)))
    (marks_same f (λ n. f n || (first + 0 == n)) (first + 1) count (λ n le. differ (f n) (first + 0) n (λ e. omega arith)))
set_mark f first (suc count) (suc i) =
    let on : first + 1 + i ≡ first + suc i = omega arith in
    ap₂ (λ x xs. x ∷ xs) (differ (f first) (first + suc i) first (λ e. omega arith))
    (set_mark f (first + 1) count i ∙ marks_same (λ n. f n || (first + 1 + i == n)) (λ n. f n || (first + suc i == n)) (first + 1) count (λ n le. ap (λ k. f n || (k == n)) on))

marked_marks : (f : ℕ → Bool) (count line : ℕ) → marked line (marks f 1 count) ≡ marks (λ n. f n || (line == n)) 1 count
marked_marks f count zero = marks_same f (λ n. f n || (0 == n)) 1 count (λ n le. differ (f n) 0 n (λ e. omega arith))
marked_marks f count (suc line) =
    let one : suc line - 1 ≡ line = omega arith in
    let on : 1 + line ≡ suc line = omega arith in
    let some : 0 < suc line = omega arith in
    ap (λ b. cond b (set (marks f 1 count) (suc line - 1) true) (marks f 1 count)) (lt-ltb 0 (suc line) some) ∙ ap (λ k. set (marks f 1 count) k true) one ∙ (set_mark f 1 count line ∙ marks_same (λ n. f n || (1 + line == n)) (λ n. f n || (suc line == n)) 1 count (λ n le. ap (λ k. f n || (k == n)) on))

or_assoc : (a b c : Bool) → (a || b) || c ≡ a || (b || c)
or_assoc true b c = refl
or_assoc false b c = refl

-- some of these awaits is of the caller's line
abbrev pub awaits_it : Caller → List Await → ℕ → Bool
awaits_it c awaits n = list_any (λ (a : Await). same_caller a.caller c && (a.line == n)) awaits

-- one await, and then the others
one_await : (c : Caller) (awaits : List Await) (line : ℕ) (f : ℕ → Bool) (count : ℕ) (b : Bool)
    → ((g : ℕ → Bool) → fold (marked_by c) (marks g 1 count) awaits ≡ marks (λ n. g n || awaits_it c awaits n) 1 count)
    → fold (marked_by c) (cond b (marked line (marks f 1 count)) (marks f 1 count)) awaits ≡ marks (λ n. f n || ((b && (line == n)) || awaits_it c awaits n)) 1 count
one_await c awaits line f count true rest_ = ap (λ xs. fold (marked_by c) xs awaits) (marked_marks f count line) ∙ (rest_ (λ n. f n || (line == n))
    ∙ marks_same (λ n. (f n || (line == n)) || awaits_it c awaits n) (λ n. f n || ((line == n) || awaits_it c awaits n)) 1 count (λ n le. or_assoc (f n) (line == n) (awaits_it c awaits n)))
one_await c awaits line f count false rest_ = rest_ f

marked_all : (c : Caller) (awaits : List Await) (f : ℕ → Bool) (count : ℕ) → fold (marked_by c) (marks f 1 count) awaits ≡ marks (λ n. f n || awaits_it c awaits n) 1 count
marked_all c [] f count = marks_same f (λ n. f n || false) 1 count (λ n le. or_false (f n))
marked_all c (a ∷ awaits) f count = one_await c awaits a.line f count (same_caller a.caller c) (λ g. marked_all c awaits g count)

-- the marks of a script's lines, line by line
abbrev pub marked_by_line : Caller → List Bool → Line → List Bool
marked_by_line c xs l = fold (marked_by c) xs l.awaits

marked_lines : (c : Caller) (ls : List Line) (f : ℕ → Bool) (count : ℕ) → fold (marked_by_line c) (marks f 1 count) ls ≡ marks (λ n. f n || list_any (λ (l : Line). awaits_it c l.awaits n) ls) 1 count
marked_lines c [] f count = marks_same f (λ n. f n || false) 1 count (λ n le. or_false (f n))
marked_lines c (l ∷ ls) f count = ap (λ xs. fold (marked_by_line c) xs ls) (marked_all c l.awaits f count) ∙ (marked_lines c ls (λ n. f n || awaits_it c l.awaits n) count
    ∙ marks_same (λ n. (f n || awaits_it c l.awaits n) || list_any (λ (l : Line). awaits_it c l.awaits n) ls) (λ n. f n || (awaits_it c l.awaits n || list_any (λ (l : Line). awaits_it c l.awaits n) ls)) 1 count
    (λ n le. or_assoc (f n) (awaits_it c l.awaits n) (list_any (λ (l : Line). awaits_it c l.awaits n) ls)))

none_marked : (first count : ℕ) → replicate count false ≡ marks (λ n. false) first count
none_marked first zero = refl
none_marked first (suc count) = ap (λ xs. false ∷ xs) (none_marked (first + 1) count)

-- all lines of the script have marked the awaited ones
pub all_marked : (s : ScriptValue) (c : Caller) (count : ℕ) → fold (marked_by_line c) (replicate count false) s.lines ≡ awaited_of s c count
unfolding is_awaited
all_marked s c count = ap (λ xs. fold (marked_by_line c) xs s.lines) (none_marked 1 count) ∙ marked_lines c s.lines (λ n. false) count

pub marked_more : (c : Caller) (xs : List Bool) (awaits : List Await) (k : ℕ) (d : Await) → k < length awaits → fold (marked_by c) xs (take (k + 1) awaits) ≡ marked_by c (fold (marked_by c) xs (take k awaits)) (get_or awaits k d)
marked_more c xs awaits k d lt = fold_more (marked_by c) xs awaits k d lt

pub line_more : (c : Caller) (xs : List Bool) (ls : List Line) (k : ℕ) (d : Line) → k < length ls → fold (marked_by_line c) xs (take (k + 1) ls) ≡ marked_by_line c (fold (marked_by_line c) xs (take k ls)) (get_or ls k d)
line_more c xs ls k d lt = fold_more (marked_by_line c) xs ls k d lt

-- a list's first elements, where these are all
pub take_past : {A : Type 0} (xs : List A) (k : ℕ) → length xs ≤ k → take k xs ≡ xs
take_past [] zero le = refl
take_past [] (suc k) le = refl
take_past (x ∷ xs) zero le = absurd (omega arith)
take_past (x ∷ xs) (suc k) le = ap (λ ys. x ∷ ys) (take_past xs k (omega arith))
