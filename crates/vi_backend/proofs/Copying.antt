-- Lines that are copied one by one.
use Rattle.std.proofs.Common.{◌≡◌, ℕ, zero, suc, ◌+◌, ◌^◌, ◌<◌, Bool, false, List, [], ◌∷◌, ◌++◌, All, length, take, refl, sym, ap, ◌∙◌, subst, arith}
use Rattle.std.specs.Prelude.{map}
use Rattle.std.specs.List.{range_with_len, slice_get}
use Rattle.std.proofs.lemmas.List.Elements.{All-filter, All-nil}
use Rattle.vi_history.specs.declared.call.Caller.{Caller}
use Rattle.vi_lines.specs.declared.line.Line.{Line}
use Rattle.vi_lines.specs.Value.{ScriptValue}
use Rattle.vi_lines.specs.Calls.{HasTransfers, TransfersWell, lines_of, line_of, same_caller}
use Rattle.vi_model.specs.Posted.{is_awaited}
use Rattle.vi_backend.specs.Own.{IsOwn, IsGrantedLease, awaited_of, listed}

take_next : (xs : List Line) (i : ℕ) → take (suc i) xs ≡ take i xs ++ listed (slice_get xs i)
take_next [] zero = refl
take_next [] (suc i) = refl
take_next (x ∷ xs) zero = refl
take_next (x ∷ xs) (suc i) = ap (λ ys. x ∷ ys) (take_next xs i)

pub take_listed : (s : ScriptValue) (c : Caller) (i : ℕ) → take (i + 1) (lines_of s c) ≡ take i (lines_of s c) ++ listed (line_of s c (i + 1))
take_listed s c i =
    let on : i + 1 ≡ suc i = omega arith in
    rw (on) (take_next (lines_of s c) i)

map_more : (f : ℕ → Bool) (a n : ℕ) → map f (range_with_len a (suc n)) ≡ map f (range_with_len a n) ++ f (a + n) ∷ []
map_more f a zero = let here : a + 0 ≡ a = omega arith in rw here refl
map_more f a (suc n) =
    let on : a + 1 + n ≡ a + suc n = omega arith in
    ap (λ ys. f a ∷ ys) (map_more f (a + 1) n ∙ ap (λ k. map f (range_with_len (a + 1) n) ++ f k ∷ []) on)

pub awaited_more : (s : ScriptValue) (c : Caller) (i : ℕ) → awaited_of s c (i + 1) ≡ awaited_of s c i ++ is_awaited s c (i + 1) ∷ []
awaited_more s c i =
    let on : i + 1 ≡ suc i = omega arith in
    let one : 1 + i ≡ i + 1 = omega arith in
    ap (λ n. map (is_awaited s c) (range_with_len 1 n)) on ∙ (map_more (is_awaited s c) 1 i ∙ ap (λ k. awaited_of s c i ++ is_awaited s c k ∷ []) one)

length_counted : (f : ℕ → Bool) (n a : ℕ) → length (map f (range_with_len a n)) ≡ n
length_counted f zero a = refl
length_counted f (suc n) a = ap suc (length_counted f n (a + 1))

-- a back end before its first turn
pub starts_own : (s : ScriptValue) (c : Caller) (id capacity : ℕ) (lines : List Line) (awaited : List Bool) → HasTransfers s → lines ≡ lines_of s c → awaited ≡ awaited_of s c (length lines) → length lines < 2 ^ 32
    → IsOwn (record { id = id; lines = lines; awaited = awaited; capacity = capacity; seat = record { finished = 0; done = 0; ready = false; asking = false; since = 0; told = 0; cache = [] } })
starts_own s c id capacity lines awaited h e f few = record {
  transfers = subst (λ ls. All (λ (l : Line). TransfersWell l.job) ls) (sym e) (All-filter (λ l. same_caller l.caller c) (λ l. TransfersWell l.job) s.lines h);
  count = few;
  awaited_each = ap length f ∙ length_counted (is_awaited s c) (length lines) 1;
  told_finished = omega arith;
  finished_lines = omega arith;
  parts = omega arith;
  accesses = omega arith;
  asks_for_line = λ q. cc;
  leases = All-nil IsGrantedLease;
}
