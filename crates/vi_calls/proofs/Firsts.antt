-- The first of a driver's answered lines.
use Rattle.std.proofs.Common.{◌≡◌, ℕ, ◌+◌, ◌≤◌, ◌<◌, Bool, true, false, not, List, [], ◌∷◌, map, Option, Some, None, refl, ap, subst, ◌∙◌, arith}
use Rattle.std.specs.Prelude.{if◌then◌else◌, ◌==◌, nat_lt, count_by}
use Rattle.std.specs.Option.{option_map}
use Rattle.std.proofs.lemmas.Bool.Decides.{nat_tests}
use Rattle.vi_vring.specs.Values.{Used}
use Rattle.vi_model.specs.Drivers.{first_answer, other_answers}
use Rattle.vi_model.specs.Drivers as drivers
use Rattle.vi_model.specs.Held.{count_answers}
use Rattle.vi_calls.specs.declared.row.Token.{Token}
use Rattle.vi_calls.specs.Rows.{first_token, lower, other_tokens}
use Rattle.vi_calls.specs.Inner.{answered_by}
use Rattle.vi_calls.proofs.Counting.{one, count-cons, map-filter, has, filter-absent}

abbrev pub line_of : Token → ℕ
line_of t = t.line

-- a line's answers are counted by its tokens
pub count-answers : (used : List Used) (line : ℕ) (ts : List Token) → count_answers line (map (answered_by used) ts) ≡ count_by (has line_of line) ts
count-answers used line [] = refl
count-answers used line (t ∷ ts) = omega (arith, count-cons (has line_of line) t ts, count-answers used line ts)

pub first-answer : (used : List Used) (ts : List Token) → first_answer (map (answered_by used) ts) ≡ option_map (answered_by used) (first_token ts)
first-answer used [] = refl
first-answer used (t ∷ ts) = go (first_token ts) (first-answer used ts)
  where
    lower-one : (a b : Token) (c : Bool) → (if c then answered_by used b else answered_by used a) ≡ answered_by used (if c then b else a)
    lower-one a b true = refl
    lower-one a b false = refl

    go : (o : Option Token) → first_answer (map (answered_by used) ts) ≡ option_map (answered_by used) o
        → first_answer (map (answered_by used) (t ∷ ts)) ≡ Some (answered_by used (lower t o))
    go None e = ap (λ o. Some (drivers.lower (answered_by used t) o)) e
    go (Some b) e = ap (λ o. Some (drivers.lower (answered_by used t) o)) e ∙ ap (λ a. Some a) (lower-one t b (nat_lt b.line t.line))

pub other-answers : (used : List Used) (line : ℕ) (ts : List Token) → other_answers line (map (answered_by used) ts) ≡ map (answered_by used) (other_tokens line ts)
other-answers used line ts = map-filter (answered_by used) (λ a. not (a.line == line)) ts

-- where each line is there once, the first token alone leaves with its line
pub count-others : (p : Token → Bool) (ts : List Token) (t : Token) → first_token ts ≡ Some t → ((line : ℕ) → count_by (has line_of line) ts ≤ 1)
    → count_by p (other_tokens t.line ts) + one (p t) ≡ count_by p ts
count-others p [] t first once = absurd (cc)
count-others p (a ∷ ts) t first once = go (first_token ts) refl first (λ b f. count-others p ts b f fewer)
  where
    fewer : (line : ℕ) → count_by (has line_of line) ts ≤ 1
    fewer line = omega (arith, once line, count-cons (has line_of line) a ts)

    mine : a ≡ t → count_by p (other_tokens t.line (a ∷ ts)) + one (p t) ≡ count_by p (a ∷ ts)
    mine same =
        let self : one (a.line == a.line) ≡ 1 = grind (arith, nat_tests) in
        let is : (a.line == a.line) ≡ true = grind (arith, nat_tests) in
        let none : count_by (has line_of a.line) ts ≡ 0 = omega (arith, once a.line, count-cons (has line_of a.line) a ts, self) in
        let rest : other_tokens a.line ts ≡ ts = filter-absent line_of a.line ts none in
        subst (λ (u : Token). count_by p (other_tokens u.line (a ∷ ts)) + one (p u) ≡ count_by p (a ∷ ts)) same
        (rw (is, rest) (omega (arith, count-cons p a ts)))

    later : (b : Token) → count_by p (other_tokens b.line ts) + one (p b) ≡ count_by p ts → b ≡ t → b.line < a.line → count_by p (other_tokens t.line (a ∷ ts)) + one (p t) ≡ count_by p (a ∷ ts)
    later b rest same below =
        let no : (a.line == b.line) ≡ false = grind (arith, nat_tests) in
        subst (λ (u : Token). count_by p (other_tokens u.line (a ∷ ts)) + one (p u) ≡ count_by p (a ∷ ts)) same
        (rw no (omega (arith, count-cons p a ts, count-cons p a (other_tokens b.line ts), rest)))

    choose : (b : Token) (c : Bool) → nat_lt b.line a.line ≡ c → count_by p (other_tokens b.line ts) + one (p b) ≡ count_by p ts → Some (if c then b else a) ≡ Some t
        → count_by p (other_tokens t.line (a ∷ ts)) + one (p t) ≡ count_by p (a ∷ ts)
    choose b true e rest s = let below : b.line < a.line = grind (arith, nat_tests) in later b rest (cc) below
    choose b false e rest s = mine (cc)

    go : (o : Option Token) → first_token ts ≡ o → Some (lower a o) ≡ Some t
        → ((b : Token) → first_token ts ≡ Some b → count_by p (other_tokens b.line ts) + one (p b) ≡ count_by p ts)
        → count_by p (other_tokens t.line (a ∷ ts)) + one (p t) ≡ count_by p (a ∷ ts)
    go None f s rest = mine (cc)
    go (Some b) f s rest = choose b (nat_lt b.line a.line) refl (rest b f) s
