-- The queue shows the open calls.
use Rattle.std.proofs.Common.{◌≡◌, ℕ, ◌≤◌, Bool, true, false, List, [], ◌∷◌, ◌++◌, map, Option, Some, None, refl, ap, ap₂, sym, ◌∙◌, subst, arith}
use Rattle.std.specs.Prelude.{count_by, sum_by, filter, find, ◌==◌, if◌then◌else◌, IsPermutation}
use Rattle.std.specs.List.{AllByRecursion, flat_map}
use Rattle.std.specs.Option.{option_to_list}
use Rattle.std.proofs.lemmas.List.{map-append}
use Rattle.std.proofs.lemmas.List.Sorted.{IsPermutation-map}
use Rattle.std.proofs.lemmas.List.Sums.{sum_by-cons}
use Rattle.vi_vring.specs.Values as ring
use Rattle.vi_calls.specs.declared.row.Token.{Token}
use Rattle.vi_calls.specs.declared.calls.Submitted.{Submitted}
use Rattle.vi_calls.specs.Replies.{answer_bytes, answer_of}
use Rattle.vi_calls.specs.Shown.{chain_parts, call_parts, popped_parts, taken_parts, is_of_request, reply_bytes, request_replies, ShowsCalls}
use Rattle.vi_calls.specs.Rows.{RowValue, is_head, is_in}
use Rattle.vi_calls.specs.Inner.{shown, queued_by, taken_by, bytes_of, answer_in, answered_by, port_by, tokens_with, HasAnswer, AreTied}
use Rattle.vi_calls.proofs.Counting.{one, count-cons, is-same, has, find-All, All-each}
use Rattle.vi_calls.proofs.Permuting.{times, times-append, times-cons, permuted}
use Rattle.vi_calls.proofs.Tables.{used_head}
use Rattle.vi_calls.proofs.Replying.{not-set}

All-both : {X : Type 0} (P Q : X → Type 0) (xs : List X) → AllByRecursion P xs → AllByRecursion Q xs → AllByRecursion (λ x. P x × Q x) xs
All-both P Q [] p q = tt
All-both P Q (x ∷ xs) p q = ((p.0, q.0), All-both P Q xs p.1 q.1)

available-shown : (table : List Submitted) (qs : List ring.Queued) → map chain_parts qs ≡ map call_parts (map (queued_by table) qs)
available-shown table [] = refl
available-shown table (q ∷ qs) = ap (λ rest. chain_parts q ∷ rest) (available-shown table qs)

popped-shown : (table : List Submitted) (qs : List ring.Queued) → map popped_parts qs ≡ map taken_parts (map (taken_by table) qs)
popped-shown table [] = refl
popped-shown table (q ∷ qs) = ap (λ rest. popped_parts q ∷ rest) (popped-shown table qs)

-- each used chain is found by its head
each-found : (us : List ring.Used) → ((head : ℕ) → count_by (has used_head head) us ≤ 1) → AllByRecursion (λ u. find (has used_head u.head) us ≡ Some u) us
each-found [] once = tt
each-found (v ∷ vs) once = (
  rw (is-same v.head) refl,
  All-each (λ u. find (has used_head u.head) vs ≡ Some u) (λ u. find (has used_head u.head) (v ∷ vs) ≡ Some u) vs later
      (each-found vs (λ head. omega (arith, once head, count-cons (has used_head head) v vs))),
)
  where
    all-used : (us : List ring.Used) → AllByRecursion (λ (u : ring.Used). Unit {0}) us
    all-used [] = tt
    all-used (u ∷ us) = (tt, all-used us)

    later : (u : ring.Used) → find (has used_head u.head) vs ≡ Some u → find (has used_head u.head) (v ∷ vs) ≡ Some u
    later u found =
        let there = (find-All used_head (λ (u : ring.Used). Unit {0}) u.head vs u found (all-used vs)).2 in
        go (v.head == u.head) refl
      where
        go : (b : Bool) → (v.head == u.head) ≡ b → (if b then Some v else find (has used_head u.head) vs) ≡ Some u
        go true e =
            let there = (find-All used_head (λ (u : ring.Used). Unit {0}) u.head vs u found (all-used vs)).2 in
            let w : one (v.head == u.head) ≡ 1 = ap one e in
            absurd (omega (arith, there, w, once u.head, count-cons (has used_head u.head) v vs))
        go false e = found

-- ---- the chains of answered lines

abbrev token_heads : Token → List ℕ
token_heads t = option_to_list t.head

abbrev row_heads : RowValue → List ℕ
row_heads r = flat_map token_heads r.answered

-- a chain stands there as often as it is an answered line's
token-times : (head : ℕ) (h : Option ℕ) → times head (option_to_list h) ≡ one (is_head head h)
token-times head None = refl
token-times head (Some k) = omega (arith, times-cons head k [])

row-times : (head : ℕ) (ts : List Token) → times head (flat_map token_heads ts) ≡ count_by (is_in head) ts
row-times head [] = refl
row-times head (t ∷ ts) =
    omega (arith, times-append head (token_heads t) (flat_map token_heads ts), token-times head t.head, count-cons (is_in head) t ts, row-times head ts)

rows-times : (head : ℕ) (rows : List RowValue) → times head (flat_map row_heads rows) ≡ sum_by (tokens_with head) rows
rows-times head [] = refl
rows-times head (r ∷ rows) =
    omega (arith, times-append head (row_heads r) (flat_map row_heads rows), row-times head r.answered, sum_by-cons (tokens_with head) r rows, rows-times head rows)

used-times : (head : ℕ) (us : List ring.Used) → times head (map used_head us) ≡ count_by (has used_head head) us
used-times head [] = refl
used-times head (u ∷ us) = omega (arith, times-cons head u.head (map used_head us), count-cons (has used_head head) u us, used-times head us)

-- ---- their replies

-- the reply in the used chain with this head
abbrev reply_in : List ring.Used → ℕ → List ℕ
reply_in used head = answer_bytes (answer_of (bytes_of used head))

row-replies : (used : List ring.Used) (ts : List Token) → map reply_bytes (filter is_of_request (map (answered_by used) ts)) ≡ map (reply_in used) (flat_map token_heads ts)
row-replies used [] = refl
row-replies used (t ∷ ts) = go t.head (row-replies used ts)
  where
    go : (h : Option ℕ) → map reply_bytes (filter is_of_request (map (answered_by used) ts)) ≡ map (reply_in used) (flat_map token_heads ts)
        → map reply_bytes (filter is_of_request (record { line = t.line; answer = answer_in used h } ∷ map (answered_by used) ts)) ≡ map (reply_in used) (option_to_list h ++ flat_map token_heads ts)
    go None rest = rest
    go (Some k) rest = rw (not-set (bytes_of used k)) (ap (λ (rs : List (List ℕ)). reply_in used k ∷ rs) rest)

rows-replies : (used : List ring.Used) (rows : List RowValue) → flat_map request_replies (map (port_by used) rows) ≡ map (reply_in used) (flat_map row_heads rows)
rows-replies used [] = refl
rows-replies used (r ∷ rows) =
    ap₂ (λ (a b : List (List ℕ)). a ++ b) (row-replies used r.answered) (rows-replies used rows)
    ∙ sym (map-append (reply_in used) (row_heads r) (flat_map row_heads rows))

-- a used chain has its own reply
used-replies : (used us : List ring.Used) → AllByRecursion (λ u. (find (has used_head u.head) used ≡ Some u) × HasAnswer u) us
    → map (reply_in used) (map used_head us) ≡ map (λ (u : ring.Used). u.bytes) us
used-replies used [] all = refl
used-replies used (u ∷ us) all =
    let found = all.0.0 in
    let whole = all.0.1 in
    let mine : reply_in used u.head ≡ u.bytes = rw found whole in
    ap₂ (λ (b : List ℕ) (bs : List (List ℕ)). b ∷ bs) mine (used-replies used us all.1)

pub shows-calls : (table : List Submitted) (rows : List RowValue) (l : ring.Lists) → AreTied table rows l → ShowsCalls (shown table rows l) l
shows-calls table rows l t = record {
  available = available-shown table l.available;
  popped = popped-shown table l.popped;
  used = subst (IsPermutation (map (λ (u : ring.Used). u.bytes) l.used)) (sym (rows-replies l.used rows))
      (subst (λ (bs : List (List ℕ)). IsPermutation bs (map (reply_in l.used) (flat_map row_heads rows))) (used-replies l.used l.used all)
      (IsPermutation-map (reply_in l.used) (map used_head l.used) (flat_map row_heads rows) heads));
}
  where
    found : AllByRecursion (λ u. find (has used_head u.head) l.used ≡ Some u) l.used
    found = each-found l.used (λ head. omega (arith, t.once head))

    all : AllByRecursion (λ u. (find (has used_head u.head) l.used ≡ Some u) × HasAnswer u) l.used
    all = All-both (λ u. find (has used_head u.head) l.used ≡ Some u) HasAnswer l.used found t.replies

    heads : IsPermutation (map used_head l.used) (flat_map row_heads rows)
    heads = permuted (map used_head l.used) (flat_map row_heads rows) (λ head. omega (arith, used-times head l.used, t.owned head, rows-times head rows))
