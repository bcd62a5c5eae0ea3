-- What is kept for each back end, after one row was written.
use Rattle.std.proofs.Common.{◌≡◌, ℕ, ◌<◌, List, [], get_or, set, length, Option, None, arith, ◌∙◌, ap, sym, subst, ◌⊎◌, inl, inr, length-set}
use Rattle.std.proofs.lemmas.Bool.{cases_eq}
use Rattle.std.proofs.lemmas.List.{get_or-set_same, get_or-set_other}
use Rattle.vi_model.specs.Lanes.{Miss, Lanes}
use Rattle.vi_grants.specs.declared.row.Grant.{Grant}
use Rattle.vi_model.specs.Control.{Link, Control, joined, with_link, lanes_of, link_of, no_lanes}
use Rattle.vi_model.specs.Backs.{Seat, no_seat}
use Rattle.vi_model.specs.Sound.{HasTables}

joined_same : (g h : List Grant) (e f : ℕ) (x y : Lanes) (m l : Option Miss) (i j : ℕ) → g ≡ h → e ≡ f → x ≡ y → m ≡ l → i ≡ j → joined g e x m i ≡ joined h f y l j
joined_same g h e f x y m l i j p s q r t = ap (λ v. joined v e x m i) p ∙ (ap (λ v. joined h v x m i) s ∙ (ap (λ v. joined h f v m i) q ∙ (ap (λ v. joined h f y v i) r ∙ ap (λ v. joined h f y l v) t)))

pub link_same : (c : Control) (n k : ℕ) (x : Link) → HasTables c n → k < n → link_of (with_link c k x) k ≡ x
link_same c n k x ok lt =
    let a = ok.of_grants in let f = ok.of_spares in let b = ok.of_mail in let d = ok.of_parked in let e = ok.of_posted in
    joined_same _ _ _ _ _ _ _ _ _ _
    (get_or-set_same c.grants k x.grants [] (omega (arith, lt, a)))
    (get_or-set_same c.spares k x.spare 0 (omega (arith, lt, f)))
    (get_or-set_same c.mail k (lanes_of x) no_lanes (omega (arith, lt, b)))
    (get_or-set_same c.parked k x.parked None (omega (arith, lt, d)))
    (get_or-set_same c.posted k x.posted 0 (omega (arith, lt, e)))

pub link_other : (c : Control) (k j : ℕ) (x : Link) → (j ≡ k → ⊥) → link_of (with_link c k x) j ≡ link_of c j
link_other c k j x ne =
    joined_same _ _ _ _ _ _ _ _ _ _
    (get_or-set_other c.grants k j x.grants [] ne)
    (get_or-set_other c.spares k j x.spare 0 ne)
    (get_or-set_other c.mail k j (lanes_of x) no_lanes ne)
    (get_or-set_other c.parked k j x.parked None ne)
    (get_or-set_other c.posted k j x.posted 0 ne)

pub tables_link : (c : Control) (n k : ℕ) (x : Link) → HasTables c n → HasTables (with_link c k x) n
tables_link c n k x ok = record {
  of_grants = length-set c.grants k x.grants ∙ ok.of_grants;
  of_spares = length-set c.spares k x.spare ∙ ok.of_spares;
  of_mail = length-set c.mail k (lanes_of x) ∙ ok.of_mail;
  of_parked = length-set c.parked k x.parked ∙ ok.of_parked;
  of_posted = length-set c.posted k x.posted ∙ ok.of_posted;
}

pub at_link : (P : ℕ → Link → Type 0) (c : Control) (n k : ℕ) (x : Link) → HasTables c n → k < n
    → P k x → ((j : ℕ) → j < n → (j ≡ k → ⊥) → P j (link_of c j))
    → (j : ℕ) → j < n → P j (link_of (with_link c k x) j)
at_link P c n k x ok lt own other j below = go (cases_eq j k)
  where
    go : (j ≡ k) ⊎ (j ≡ k → ⊥) → P j (link_of (with_link c k x) j)
    go (inl e) = subst (λ i. P i (link_of (with_link c k x) i)) (sym e) (subst (P k) (sym (link_same c n k x ok lt)) own)
    go (inr ne) = subst (P j) (sym (link_other c k j x ne)) (other j below ne)

pub at_both : (P : ℕ → Link → Seat → Type 0) (c : Control) (zs : List Seat) (n k : ℕ) (x : Link) (z : Seat) → HasTables c n → length zs ≡ n → k < n
    → P k x z → ((j : ℕ) → j < n → (j ≡ k → ⊥) → P j (link_of c j) (get_or zs j no_seat))
    → (j : ℕ) → j < n → P j (link_of (with_link c k x) j) (get_or (set zs k z) j no_seat)
at_both P c zs n k x z ok len lt own other j below = go (cases_eq j k)
  where
    go : (j ≡ k) ⊎ (j ≡ k → ⊥) → P j (link_of (with_link c k x) j) (get_or (set zs k z) j no_seat)
    go (inl e) =
        let here : get_or (set zs k z) k no_seat ≡ z = get_or-set_same zs k z no_seat (omega (arith, lt, len)) in
        let mine : P k (link_of (with_link c k x) k) z = subst (λ y. P k y z) (sym (link_same c n k x ok lt)) own in
        subst (λ i. P i (link_of (with_link c k x) i) (get_or (set zs k z) i no_seat)) (sym e) (subst (P k (link_of (with_link c k x) k)) (sym here) mine)
    go (inr ne) =
        let one : P j (link_of (with_link c k x) j) (get_or zs j no_seat) = subst (λ y. P j y (get_or zs j no_seat)) (sym (link_other c k j x ne)) (other j below ne) in
        subst (P j (link_of (with_link c k x) j)) (sym (get_or-set_other zs k j z no_seat ne)) one
