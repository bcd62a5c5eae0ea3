-- What is refused step by step: nothing is read of a whole where nothing is read of a part.
use Rattle.std.proofs.Common.{◌≡◌, ◌==◌, ℕ, ◌+◌, List, [], ◌++◌, length, Option, Some, None, take, drop, refl, ap, sym, arith}
use Rattle.std.specs.List.{position, position_or_len}
use Rattle.std.specs.Option.{option_map}
use Rattle.std.proofs.lemmas.List.{drop_all}
use Rattle.vi_history.specs.declared.call.Caller.{Caller}
use Rattle.vi_words.specs.Numbers.{name_number_of, digits_in}
use Rattle.vi_words.proofs.WordLemmas.{position_or_len-found, position_or_len-none}
use Rattle.vi_lines.specs.declared.line.Await.{Await}
use Rattle.vi_script.specs.declared.fault.Refusal.{Refusal}
use Rattle.vi_script.specs.declared.fault.Refusal.TheVariants as refusal
use Rattle.vi_script.specs.Faults.{Refuses}
use Rattle.vi_script.specs.Forms.{◌>>=◌, caller_of, await_of}

-- a refusal of one thing is one of another that means nothing where the first does
pub refuses-also : {V W : Type 0} (r : Refusal) (o : Option V) (p : Option W) → (o ≡ None → p ≡ None) → Refuses r o → Refuses r p
refuses-also (refusal.Bad kind) o p also h = (h.0, also h.1)
refuses-also refusal.OutOfMemory o p also h = tt

-- the first step of two is refused, or the second
pub refused_first : {A B : Type 0} (r : Refusal) (o : Option A) (f : A → Option B) → Refuses r o → Refuses r (o >>= f)
refused_first r o f e = refuses-also r o (o >>= f) (λ n. rw n refl) e

then_none : {A B : Type 0} (o : Option A) (f : A → Option B) → ((x : A) → f x ≡ None) → (o >>= f) ≡ None
then_none None f h = refl
then_none (Some x) f h = h x

pub refused_second : {A B C : Type 0} (r : Refusal) (o : Option A) (p : Option B) (f : A → B → Option C) → Refuses r p → Refuses r (o >>= (λ x. p >>= (λ y. f x y)))
refused_second r o p f e =
    refuses-also r p (o >>= (λ x. p >>= (λ y. f x y)))
    (λ n. then_none o (λ x. p >>= (λ y. f x y)) (λ x. ap (λ q. q >>= (λ y. f x y)) n)) e

-- an awaited word is cut at its first dot
pub await_of-found : (word : List ℕ) (dot : ℕ) → position (λ b. b == 46) word ≡ Some dot
    → await_of word ≡ (caller_of (take dot word) >>= (λ caller. name_number_of (drop (dot + 1) word) >>= (λ line. Some (record { caller = caller; line = line }))))
unfolding await_of
await_of-found word dot h =
    let e = position_or_len-found (λ b. b == 46) word dot h in
    rw e refl

name_number_of-nil : name_number_of [] ≡ None
unfolding name_number_of digits_in
name_number_of-nil = refl

pub await_of-none : (word : List ℕ) → position (λ b. b == 46) word ≡ None → await_of word ≡ None
unfolding await_of
await_of-none word h =
    let n : position_or_len (λ b. b == 46) word ≡ length word = sym (position_or_len-none (λ b. b == 46) word h) in
    let rest : drop (position_or_len (λ b. b == 46) word + 1) word ≡ [] = rw n (drop_all (length word + 1) word (omega arith)) in
    let none : name_number_of (drop (position_or_len (λ b. b == 46) word + 1) word) ≡ None = rw rest name_number_of-nil in
    then_none (caller_of (take (position_or_len (λ b. b == 46) word) word)) _ (λ caller. ap (λ q. q >>= (λ line. Some (record { caller = caller; line = line }))) none)

-- both parts of an awaited word are read
pub await_read : (o : Option Caller) (p : Option ℕ) (caller : Caller) (line : ℕ) → o ≡ Some caller → p ≡ Some line
    → ◌>>=◌ {B = Await} o (λ c. ◌>>=◌ {B = Await} p (λ l. Some (record { caller = c; line = l }))) ≡ Some (record { caller = caller; line = line })
await_read o p caller line e f = rw (e, f) refl

-- what is read behind what was read already
abbrev pub behind : {A : Type 0} → List A → Option (List A) → Option (List A)
behind front more = option_map (λ xs. front ++ xs) more
