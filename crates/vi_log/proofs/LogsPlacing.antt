-- What stands in a history whose entries are put in their places one after another.
use Rattle.std.proofs.Common.{◌≡◌, ◌≢◌, ◌==◌, ℕ, zero, suc, ◌+◌, ◌-◌, ◌<◌, ◌≤◌, cond, Bool, List, [], ◌∷◌, ◌++◌, length, set, replicate, take, fold, count_by, slice_get, if◌then◌else◌, All, Some, ⊎_elim, refl, sym, ap, ap₂, ◌∙◌, arith, append_assoc}
use Rattle.std.proofs.lemmas.Bool.{cases_lt, cases_eq, lt-ltb, le-ltb, eq-eqb, ne_eqb}
use Rattle.std.proofs.lemmas.List.{length-append, length-set, length-replicate, replicate_more}
use Rattle.std.proofs.lemmas.List.Elements.{All-nil, All-cons}
use Rattle.std.proofs.lemmas.List.Sums.{sum_by-cons, fold_more}
use Rattle.std.proofs.lemmas.Option.{none-some, get_or_from_slice_get, slice_get_within}
use Rattle.vi_history.specs.declared.entry.Entry.{Entry}
use Rattle.vi_log.specs.Logs.{Ticketed, Stands, blank, filled, placed}

module _ {A : Type 0} where
  get-set_there : (xs : List A) (i : ℕ) (x : A) → i < length xs → slice_get (set xs i x) i ≡ Some x
  get-set_there [] i x within = absurd (omega (arith, within))
  get-set_there (y ∷ ys) zero x within = refl
  get-set_there (y ∷ ys) (suc i) x within = get-set_there ys i x (omega (arith, within))

  get-set_other : (xs : List A) (i k : ℕ) (x : A) → k ≢ i → slice_get (set xs i x) k ≡ slice_get xs k
  get-set_other [] i k x other = refl
  get-set_other (y ∷ ys) zero zero x other = absurd (other refl)
  get-set_other (y ∷ ys) zero (suc k) x other = refl
  get-set_other (y ∷ ys) (suc i) zero x other = refl
  get-set_other (y ∷ ys) (suc i) (suc k) x other = get-set_other ys i k x (λ e. other (ap suc e))

  get-append : (xs ys : List A) (k : ℕ) (x : A) → slice_get xs k ≡ Some x → slice_get (xs ++ ys) k ≡ Some x
  get-append [] ys k x at = absurd (none-some x at)
  get-append (y ∷ xs) ys zero x at = at
  get-append (y ∷ xs) ys (suc k) x at = get-append xs ys k x at

  get_end : (xs : List A) (k : ℕ) (x : A) → length xs ≡ k → slice_get (xs ++ x ∷ []) k ≡ Some x
  get_end [] zero x long = refl
  get_end [] (suc k) x long = absurd (omega (arith, long))
  get_end (y ∷ xs) zero x long = absurd (omega (arith, long))
  get_end (y ∷ xs) (suc k) x long = get_end xs k x (omega (arith, long))

-- how many of the entries have this ticket
abbrev pub tickets : ℕ → List Ticketed → ℕ
tickets ticket xs = count_by (λ x. x.ticket == ticket) xs

abbrev same : ℕ → ℕ → ℕ
same n m = cond (n == m) 1 0

pub tickets-cons : (ticket : ℕ) (x : Ticketed) (xs : List Ticketed) → tickets ticket (x ∷ xs) ≡ same x.ticket ticket + tickets ticket xs
tickets-cons ticket x xs = sum_by-cons (λ (y : Ticketed). same y.ticket ticket) x xs

same_yes : (n m : ℕ) → n ≡ m → same n m ≡ 1
same_yes n m e = ap (λ (b : Bool). cond b 1 0) (eq-eqb n m e)

same_no : (n m : ℕ) → n ≢ m → same n m ≡ 0
same_no n m e = ap (λ (b : Bool). cond b 1 0) (ne_eqb n m e)

pub length-filled : (history : List Entry) (place : ℕ) → length history ≤ place → length (filled history place) ≡ place
length-filled history place short = omega (arith, short, length-append history (replicate (place - length history) blank), length-replicate (place - length history) blank)

-- one more blank
pub filled_more : (history before all : List Entry) (place : ℕ) (e : Entry) → length history ≤ place → before ≡ filled history place → e ≡ blank → all ≡ before ++ e ∷ [] → all ≡ filled history (place + 1)
filled_more history before all place e short was empty is =
    let next : place - length history + 1 ≡ place + 1 - length history = omega (arith, short) in
    is ∙ ap₂ (λ (es : List Entry) (e' : Entry). es ++ e' ∷ []) was empty
    ∙ append_assoc history (replicate (place - length history) blank) (blank ∷ [])
    ∙ ap (λ (es : List Entry). history ++ es) (replicate_more (place - length history) blank ∙ ap (λ (n : ℕ). replicate n blank) next)

placed_within : (history : List Entry) (x : Ticketed) → x.ticket < length history → placed history x ≡ set history x.ticket x.entry
placed_within history x within = ap (λ (b : Bool). if b then set history x.ticket x.entry else filled history x.ticket ++ x.entry ∷ []) (lt-ltb x.ticket (length history) within)

placed_behind : (history : List Entry) (x : Ticketed) → length history ≤ x.ticket → placed history x ≡ filled history x.ticket ++ x.entry ∷ []
placed_behind history x short = ap (λ (b : Bool). if b then set history x.ticket x.entry else filled history x.ticket ++ x.entry ∷ []) (le-ltb x.ticket (length history) short)

-- the entry stands at its ticket
placed_stands : (history : List Entry) (x : Ticketed) → Stands (placed history x) x
placed_stands history x = ⊎_elim
    (λ (within : x.ticket < length history). ap (λ (es : List Entry). slice_get es x.ticket) (placed_within history x within) ∙ get-set_there history x.ticket x.entry within)
    (λ (short : length history ≤ x.ticket). ap (λ (es : List Entry). slice_get es x.ticket) (placed_behind history x short)
    ∙ get_end (filled history x.ticket) x.ticket x.entry (length-filled history x.ticket short))
    (cases_lt x.ticket (length history))

-- what stands elsewhere stays
placed_keeps : (history : List Entry) (x : Ticketed) (place : ℕ) (e : Entry) → place ≢ x.ticket → slice_get history place ≡ Some e → slice_get (placed history x) place ≡ Some e
placed_keeps history x place e other at = ⊎_elim
    (λ (within : x.ticket < length history). ap (λ (es : List Entry). slice_get es place) (placed_within history x within) ∙ get-set_other history x.ticket place x.entry other ∙ at)
    (λ (short : length history ≤ x.ticket). ap (λ (es : List Entry). slice_get es place) (placed_behind history x short)
    ∙ get-append (filled history x.ticket) (x.entry ∷ []) place e (get-append history (replicate (x.ticket - length history) blank) place e at))
    (cases_lt x.ticket (length history))

-- no longer than the tickets ask for
placed_short : (history : List Entry) (x : Ticketed) (n : ℕ) → length history ≤ n → x.ticket < n → length (placed history x) ≤ n
placed_short history x n few below = ⊎_elim
    (λ (within : x.ticket < length history). omega (arith, few, ap length (placed_within history x within), length-set history x.ticket x.entry))
    (λ (short : length history ≤ x.ticket). omega (arith, below, ap length (placed_behind history x short), length-append (filled history x.ticket) (x.entry ∷ []), length-filled history x.ticket short))
    (cases_lt x.ticket (length history))

-- what stands where no further ticket leads stays
all_keep : (xs : List Ticketed) (history : List Entry) (place : ℕ) (e : Entry) → tickets place xs ≡ 0 → slice_get history place ≡ Some e → slice_get (fold placed history xs) place ≡ Some e
all_keep [] history place e none at = at
all_keep (x ∷ xs) history place e none at =
    let more = tickets-cons place x xs in
    let other : place ≢ x.ticket = λ is. absurd (omega (arith, none, more, same_yes x.ticket place (sym is))) in
    all_keep xs (placed history x) place e (omega (arith, none, more)) (placed_keeps history x place e other at)

-- entries with tickets of their own stand at them
pub all_stand : (xs : List Ticketed) (history : List Entry) → ((ticket : ℕ) → tickets ticket xs ≤ 1) → All (Stands (fold placed history xs)) xs
all_stand [] history own = All-nil (Stands history)
all_stand (x ∷ xs) history own =
    let others : tickets x.ticket xs ≡ 0 = omega (arith, own x.ticket, tickets-cons x.ticket x xs, same_yes x.ticket x.ticket refl) in
    All-cons (Stands (fold placed (placed history x) xs)) x xs
    (all_keep xs (placed history x) x.ticket x.entry others (placed_stands history x))
    (all_stand xs (placed history x) (λ ticket. omega (arith, own ticket, tickets-cons ticket x xs)))

-- no longer than the tickets ask for
pub all_short : (xs : List Ticketed) (history : List Entry) (n : ℕ) → ((ticket : ℕ) → n ≤ ticket → tickets ticket xs ≡ 0) → length history ≤ n → length (fold placed history xs) ≤ n
all_short [] history n below few = few
all_short (x ∷ xs) history n below few = ⊎_elim
    (λ (low : x.ticket < n). all_short xs (placed history x) n (λ ticket high. omega (arith, below ticket high, tickets-cons ticket x xs)) (placed_short history x n few low))
    (λ (high : n ≤ x.ticket). absurd (omega (arith, below x.ticket high, tickets-cons x.ticket x xs, same_yes x.ticket x.ticket refl)))
    (cases_lt x.ticket n)

-- the entry of a ticket that is there, with what holds of all entries
pub found : (P : Ticketed → Type 0) (ticket : ℕ) (xs : List Ticketed) → 1 ≤ tickets ticket xs → All P xs → (x : Ticketed) × (x.ticket ≡ ticket) × P x
found P ticket [] occurs all = absurd (omega (arith, occurs))
found P ticket (x ∷ xs) occurs all = ⊎_elim
    (λ (is : x.ticket ≡ ticket). (x, is, all 0 x (omega arith)))
    (λ (other : x.ticket ≢ ticket). found P ticket xs (omega (arith, occurs, tickets-cons ticket x xs, same_no x.ticket ticket other)) (λ k d within. all (suc k) d (omega (arith, within))))
    (cases_eq x.ticket ticket)

-- one more entry of a log is put in its place
pub placed_more : (history before after : List Entry) (xs : List Ticketed) (index : ℕ) (x : Ticketed) → slice_get xs index ≡ Some x → before ≡ fold placed history (take index xs)
    → after ≡ placed before x → after ≡ fold placed history (take (index + 1) xs)
placed_more history before after xs index x at was is =
    is ∙ ap (λ (es : List Entry). placed es x) was
    ∙ ap (placed (fold placed history (take index xs))) (sym (get_or_from_slice_get xs index x x at))
    ∙ sym (fold_more placed history xs index x (slice_get_within xs index x at))
