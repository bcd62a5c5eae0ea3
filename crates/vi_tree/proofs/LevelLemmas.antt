-- How high a balanced tree may be, and how many nodes that makes the calls look at.
use Rattle.std.proofs.Common.{◌≡◌, ℕ, zero, suc, ◌+◌, ◌*◌, ◌^◌, ◌≤◌, ◌<◌, max, nat_le, true, false, cond, ◌∷◌, ◌++◌, length, length-append, ap, ◌∙◌, arith, ⊎_elim}
use Rattle.std.proofs.Math.Nat.{pow-zero, pow-suc, pow-le-pow_left, pow-le-pow_right, mul-le-mul_left, mul-le-mul_right, mul_comm, mul-add, add-mul, suc-mul}
use Rattle.std.proofs.lemmas.Nat.{pow-add, pow_pos, pow_below, mul-le}
use Rattle.std.proofs.lemmas.Bool.{leb-true, leb-false, cases_lt}
use Rattle.vi_ranges.proofs.MappingLemmas.{by_test}
use Rattle.vi_tree.specs.Shapes.{Shape, Leaf, Branch, height, inorder, IsBalanced}
use Rattle.vi_tree.specs.Trees.{log_of, level}

square : (x : ℕ) → x ^ 2 ≡ x * x
square x = pow-suc x 1 ∙ ap (λ y. y * x) (pow-suc x 0 ∙ ap (λ y. y * x) (pow-zero x) ∙ omega arith)

-- the sides' squares, one of them twice
squares : (a b r : ℕ) → 2 * r ≤ a * a → r ≤ b * b → a ≤ b → 4 * r ≤ (a + b) * (a + b)
squares a b r left right le =
    let across : a * a ≤ a * b = mul-le-mul_left a le in
    let more : a * a ≤ b * b = mul-le a a b b le le in
    let whole : (a + b) * (a + b) ≡ a * a + a * b + (a * b + b * b) = omega (arith, mul-add (a + b) a b, add-mul a b a, add-mul a b b, mul_comm b a) in
    omega arith

squares' : (a b r : ℕ) → 2 * r ≤ a * a → r ≤ b * b → b ≤ a → 4 * r ≤ (a + b) * (a + b)
squares' a b r left right le =
    let across : b * b ≤ a * b = mul-le-mul_right b le in
    let whole : (a + b) * (a + b) ≡ a * a + a * b + (a * b + b * b) = omega (arith, mul-add (a + b) a b, add-mul a b a, add-mul a b b, mul_comm b a) in
    omega arith

halves : (a b r : ℕ) → 2 * r ≤ a * a → r ≤ b * b → 4 * r ≤ (a + b) * (a + b)
halves a b r left right = ⊎_elim (λ (lt : a < b). squares a b r left right (omega arith)) (λ (le : b ≤ a). squares' a b r left right le) (cases_lt a b)

double : (h : ℕ) → 2 ^ (h + 1) ≡ 2 * 2 ^ h
double h = pow-add 2 h 1 ∙ omega arith

quadruple : (h : ℕ) → 2 ^ (h + 2) ≡ 4 * 2 ^ h
quadruple h = pow-add 2 h 2 ∙ omega arith

mono : (i j : ℕ) → i ≤ j → 2 ^ i ≤ 2 ^ j
mono i j le = pow-le-pow_right {n = 2} (omega arith) le

-- a balanced tree is no higher than twice the logarithm of its mappings and one
high_bound : (t : Shape) → IsBalanced t → 2 ^ height t ≤ (length (inorder t) + 1) * (length (inorder t) + 1)
high_bound Leaf balanced = omega (arith, pow-zero 2)
high_bound (Branch key l m r) balanced =
    let left : height l ≤ height r + 1 = balanced.0 in
    let right : height r ≤ height l + 1 = balanced.1 in
    let below_l = high_bound l balanced.2 in
    let below_r = high_bound r balanced.3 in
    let a = length (inorder l) + 1 in
    let b = length (inorder r) + 1 in
    let size : length (inorder l ++ m ∷ inorder r) + 1 ≡ a + b = omega (arith, length-append (inorder l) (m ∷ inorder r)) in
    let result : 2 ^ (max (height l) (height r) + 1) ≤ (a + b) * (a + b) = ⊎_elim
    (λ (lt : height r < height l).
    let low : 2 ^ height l ≡ 2 * 2 ^ height r = ap (λ h. 2 ^ h) (omega arith) ∙ double (height r) in
    let top : 2 ^ (max (height l) (height r) + 1) ≡ 4 * 2 ^ height r = ap (λ h. 2 ^ h) (omega arith) ∙ quadruple (height r) in
    let all = halves a b (2 ^ height r) (omega arith) below_r in
    omega arith)
    (λ (le : height l ≤ height r). ⊎_elim
    (λ (lt : height l < height r).
    let low : 2 ^ height r ≡ 2 * 2 ^ height l = ap (λ h. 2 ^ h) (omega arith) ∙ double (height l) in
    let top : 2 ^ (max (height l) (height r) + 1) ≡ 4 * 2 ^ height l = ap (λ h. 2 ^ h) (omega arith) ∙ quadruple (height l) in
    let all = halves b a (2 ^ height l) (omega arith) below_l in
    let same : (b + a) * (b + a) ≡ (a + b) * (a + b) = ap (λ x. x * x) (omega arith) in
    omega arith)
    (λ (ge : height r ≤ height l).
    let even : 2 ^ height l ≡ 2 ^ height r = ap (λ h. 2 ^ h) (omega arith) in
    let top : 2 ^ (max (height l) (height r) + 1) ≡ 2 * 2 ^ height r = ap (λ h. 2 ^ h) (omega arith) ∙ double (height r) in
    let whole : (a + b) * (a + b) ≡ a * a + a * b + (a * b + b * b) = omega (arith, mul-add (a + b) a b, add-mul a b a, add-mul a b b, mul_comm b a) in
    omega arith)
    (cases_lt (height l) (height r)))
    (cases_lt (height r) (height l)) in
    rw size result

-- the logarithm is the greatest such exponent
pub log_of-reaches : (x : ℕ) → 1 ≤ x → 2 ^ log_of x ≤ x
unfolding log_of
log_of-reaches zero some = absurd (omega arith)
log_of-reaches (suc zero) some =
    let P : ℕ → Type 0 = λ n. 2 ^ n ≤ 1 in
    by_test (nat_le (2 ^ (0 + 1)) 1) (λ b. P (cond b (0 + 1) 0)) (λ (t : nat_le (2 ^ (0 + 1)) 1 ≡ true). leb-true (2 ^ (0 + 1)) 1 t) (λ (t : nat_le (2 ^ (0 + 1)) 1 ≡ false). omega (arith, pow-zero 2))
log_of-reaches (suc (suc x)) some =
    let below = log_of-reaches (suc x) (omega arith) in
    let k = log_of (suc x) in
    let P : ℕ → Type 0 = λ n. 2 ^ n ≤ suc (suc x) in
    by_test (nat_le (2 ^ (k + 1)) (suc (suc x))) (λ b. P (cond b (k + 1) k))
    (λ (t : nat_le (2 ^ (k + 1)) (suc (suc x)) ≡ true). leb-true (2 ^ (k + 1)) (suc (suc x)) t)
    (λ (t : nat_le (2 ^ (k + 1)) (suc (suc x)) ≡ false). omega arith)

pub log_of-greatest : (x h : ℕ) → 2 ^ h ≤ x → h ≤ log_of x
unfolding log_of
log_of-greatest zero h le = absurd (omega (arith, pow_pos h))
log_of-greatest (suc x) h le =
    let k = log_of x in
    let P : ℕ → Type 0 = λ n. h ≤ n in
    by_test (nat_le (2 ^ (k + 1)) (suc x)) (λ b. P (cond b (k + 1) k))
    (λ (t : nat_le (2 ^ (k + 1)) (suc x) ≡ true). ⊎_elim
    (λ (lt : k + 1 < h).
    let more : 2 ^ (k + 2) ≤ 2 ^ h = mono (k + 2) h (omega arith) in
    let twice : 2 ^ (k + 2) ≡ 2 * 2 ^ (k + 1) = ap (λ n. 2 ^ n) (omega arith) ∙ double (k + 1) in
    let some : 0 < 2 ^ (k + 1) = pow_pos (k + 1) in
    let again : k + 1 ≤ log_of x = log_of-greatest x (k + 1) (omega arith) in
    absurd (omega arith))
    (λ (ge : h ≤ k + 1). ge)
    (cases_lt (k + 1) h))
    (λ (t : nat_le (2 ^ (k + 1)) (suc x) ≡ false).
    let lt : suc x < 2 ^ (k + 1) = leb-false (2 ^ (k + 1)) (suc x) t in
    ⊎_elim
    (λ (higher : k < h). let more : 2 ^ (k + 1) ≤ 2 ^ h = mono (k + 1) h (omega arith) in absurd (omega arith))
    (λ (ge : h ≤ k). ge)
    (cases_lt k h))

pub level-reaches : (n : ℕ) → 2 ^ level n ≤ (n + 1) ^ 2
unfolding level
level-reaches n = log_of-reaches ((n + 1) ^ 2) (omega (arith, square (n + 1), mul-le 1 1 (n + 1) (n + 1) (omega arith) (omega arith)))

pub level-greatest : (n h : ℕ) → 2 ^ h ≤ (n + 1) ^ 2 → h ≤ level n
unfolding level
level-greatest n h le = log_of-greatest ((n + 1) ^ 2) h le

pub height-level : (t : Shape) → IsBalanced t → height t ≤ level (length (inorder t))
height-level t balanced = level-greatest (length (inorder t)) (height t) (let bound = high_bound t balanced in omega (arith, square (length (inorder t) + 1)))

pub level-mono : (n k : ℕ) → n ≤ k → level n ≤ level k
level-mono n k le =
    let reaches = level-reaches n in
    let more : (n + 1) ^ 2 ≤ (k + 1) ^ 2 = pow-le-pow_left (omega arith) 2 in
    level-greatest k (level n) (omega arith)

pub level-small : (n : ℕ) → n < 2 ^ 32 → level n ≤ 64
level-small n few =
    let reaches = level-reaches n in
    let more : (n + 1) * (n + 1) ≤ 4294967296 * 4294967296 = mul-le (n + 1) (n + 1) 4294967296 4294967296 (omega arith) (omega arith) in
    let same = square (n + 1) in
    ⊎_elim
    (λ (higher : 64 < level n). let above : 2 ^ 64 < 2 ^ level n = pow_below 64 (level n) higher in absurd (omega arith))
    (λ (ge : level n ≤ 64). ge)
    (cases_lt 64 (level n))

-- powers of n + 2
pow_sum : (x a b i j : ℕ) → 2 ^ a ≤ x ^ i → 2 ^ b ≤ x ^ j → 2 ^ (a + b) ≤ x ^ (i + j)
pow_sum x a b i j p q = rw (pow-add 2 a b, pow-add x i j) (mul-le (2 ^ a) (2 ^ b) (x ^ i) (x ^ j) p q)

pow_times : (x h i c : ℕ) → 2 ^ h ≤ x ^ i → 2 ^ (c * h) ≤ x ^ (c * i)
pow_times x h i zero p =
    let none : 0 * h ≡ 0 = omega arith in
    let none' : 0 * i ≡ 0 = omega arith in
    rw (none, none') (omega (arith, pow-zero 2, pow-zero x))
pow_times x h i (suc c) p =
    let more : suc c * h ≡ c * h + h = suc-mul c h in
    let more' : suc c * i ≡ c * i + i = suc-mul c i in
    rw (more, more') (pow_sum x (c * h) h (c * i) i (pow_times x h i c p) p)

level_two : (n : ℕ) → 2 ^ level n ≤ (n + 2) ^ 2
level_two n =
    let reaches = level-reaches n in
    let more : (n + 1) ^ 2 ≤ (n + 2) ^ 2 = pow-le-pow_left (omega arith) 2 in
    omega arith

one_more : (n : ℕ) → 2 ^ 1 ≤ (n + 2) ^ 1
one_more n = pow-le-pow_left {n = 2} {m = n + 2} (omega arith) 1

-- what the calls' bounds are in powers
pub find-bound : (n s : ℕ) → s ≤ level n → 2 ^ s ≤ (n + 1) ^ 2
find-bound n s le = let reaches = level-reaches n in let more : 2 ^ s ≤ 2 ^ level n = mono s (level n) le in omega arith

pub insert-bound : (n s : ℕ) → s ≤ 7 * level n + 1 → 2 ^ s ≤ (n + 2) ^ 16
insert-bound n s le =
    let most : 2 ^ s ≤ 2 ^ (7 * level n + 1) = mono s (7 * level n + 1) le in
    let times : 2 ^ (7 * level n) ≤ (n + 2) ^ 14 = pow_times (n + 2) (level n) 2 7 (level_two n) in
    let all : 2 ^ (7 * level n + 1) ≤ (n + 2) ^ 15 = pow_sum (n + 2) (7 * level n) 1 14 1 times (one_more n) in
    let more : (n + 2) ^ 15 ≤ (n + 2) ^ 16 = pow-le-pow_right {n = n + 2} (omega arith) (omega arith) in
    omega arith

pub unmap-bound : (n : ℕ) → 2 ^ (8 * level n + 1) ≤ (n + 2) ^ 32
unmap-bound n =
    let times : 2 ^ (8 * level n) ≤ (n + 2) ^ 16 = pow_times (n + 2) (level n) 2 8 (level_two n) in
    let all : 2 ^ (8 * level n + 1) ≤ (n + 2) ^ 17 = pow_sum (n + 2) (8 * level n) 1 16 1 times (one_more n) in
    let more : (n + 2) ^ 17 ≤ (n + 2) ^ 32 = pow-le-pow_right {n = n + 2} (omega arith) (omega arith) in
    omega arith
