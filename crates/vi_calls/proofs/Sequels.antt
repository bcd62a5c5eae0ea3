-- A taken chain, and what becomes of it.
use Rattle.std.proofs.Common.{◌≡◌, ◌≢◌, ℕ, Bool, true, false, not, List, [], ◌∷◌, ◌++◌, Option, Some, None, refl, ap, sym, ◌∙◌}
use Rattle.std.specs.Prelude.{find, filter, ◌==◌, if◌then◌else◌}
use Rattle.std.specs.Option.{option_or}
use Rattle.std.proofs.lemmas.List.{append-nil}
use Rattle.std.proofs.lemmas.List.Folds.{find-append}
use Rattle.std.proofs.lemmas.List.Elements.{filter-append}
use Rattle.vi_history.specs.Replies.{Answer}
use Rattle.vi_model.specs.Control.{Queued}
use Rattle.vi_model.specs.Starts.{answer_port}
use Rattle.vi_calls.specs.Value.{Taken, CallsValue, has_head, taken_with}
use Rattle.vi_calls.specs.Moves.{taken_first, answered_taken, answered_chain}
use Rattle.vi_calls.specs.Laws.{IsFirst, TakenIsFound, AnsweredAtOnce, OthersStay}
use Rattle.vi_calls.proofs.Counting.{is-same, is-other, is-at, find-absent, filter-absent}

abbrev taken_head : Taken → ℕ
taken_head t = t.head

or-none : {X : Type 0} (o : Option X) → option_or o None ≡ o
or-none None = refl
or-none (Some x) = refl

module _ (v : CallsValue) (q : Queued) (rest : List Queued) (head : ℕ) (f : IsFirst v q rest head) where
  pub taken-found-again : taken_with head (taken_first head v.queue v) ≡ Some (record { head = head; call = q })
  taken-found-again =
      let found : find (has_head head) (v.taken ++ record { head = head; call = q } ∷ []) ≡ Some (record { head = head; call = q }) =
      find-append (has_head head) v.taken (record { head = head; call = q } ∷ []) ∙ (rw (find-absent taken_head head v.taken f.fresh, is-same head) refl) in
      rw (f.first, found) refl

  pub answered-again : (a : Answer) → answered_chain head a (taken_first head v.queue v) ≡ record v { queue = rest; ports = answer_port v.ports q.driver q.line a }
  unfolding answered_chain
  answered-again a =
      let left : filter (λ t. not (has_head head t)) (v.taken ++ record { head = head; call = q } ∷ []) ≡ v.taken =
      filter-append (λ t. not (has_head head t)) v.taken (record { head = head; call = q } ∷ [])
      ∙ (rw (is-same head) (append-nil (filter (λ t. not (has_head head t)) v.taken) ∙ filter-absent taken_head head v.taken f.fresh)) in
      rw (taken-found-again, f.first, left) refl

pub found-again : TakenIsFound
found-again = λ v q rest head f. taken-found-again v q rest head f

pub at-once : AnsweredAtOnce
at-once = λ v q rest head a f. answered-again v q rest head f a

-- a chain with another head, and the others
find-others : (head other : ℕ) → other ≢ head → (ts : List Taken) → find (has_head other) (filter (λ t. not (has_head head t)) ts) ≡ find (has_head other) ts
find-others head other e [] = refl
find-others head other e (t ∷ ts) = go (t.head == head) refl (find-others head other e ts)
  where
    go : (b : Bool) → (t.head == head) ≡ b → find (has_head other) (filter (λ t. not (has_head head t)) ts) ≡ find (has_head other) ts
        → find (has_head other) (if not b then t ∷ filter (λ t. not (has_head head t)) ts else filter (λ t. not (has_head head t)) ts) ≡ find (has_head other) (t ∷ ts)
    go true is rest =
        let no : (t.head == other) ≡ false = ap (λ n. n == other) (is-at t.head head is) ∙ is-other other head e in
        rw no rest
    go false is rest = ap (λ o. if t.head == other then Some t else o) rest

found-head : (head : ℕ) (ts : List Taken) (t : Taken) → find (has_head head) ts ≡ Some t → t.head ≡ head
found-head head [] t f = absurd (cc)
found-head head (x ∷ xs) t f = go (x.head == head) refl f (found-head head xs t)
  where
    go : (b : Bool) → (x.head == head) ≡ b → (if b then Some x else find (has_head head) xs) ≡ Some t → (find (has_head head) xs ≡ Some t → t.head ≡ head) → t.head ≡ head
    go true is f rest = let same : x ≡ t = cc in ap taken_head (sym same) ∙ is-at x.head head is
    go false is f rest = rest f

find-moved : (head other : ℕ) → other ≢ head → (v : CallsValue) (queue : List Queued) → taken_with other (taken_first head queue v) ≡ taken_with other v
find-moved head other e v [] = refl
find-moved head other e v (q ∷ rest) = find-append (has_head other) v.taken (record { head = head; call = q } ∷ []) ∙ (rw (is-other other head e) (or-none (taken_with other v)))

find-answered : (head other : ℕ) → other ≢ head → (v : CallsValue) (a : Answer) → taken_with other (answered_chain head a v) ≡ taken_with other v
unfolding answered_chain
find-answered head other e v a = go (taken_with head v) refl
  where
    go : (o : Option Taken) → taken_with head v ≡ o → taken_with other (answered_taken o a v) ≡ taken_with other v
    go None is = refl
    go (Some t) is = rw (found-head head v.taken t is) (find-others head other e v.taken)

pub others-stay : OthersStay
others-stay = λ v head other a e. (find-moved head other e v v.queue, find-answered head other e v a)
