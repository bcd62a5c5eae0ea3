-- What a pop comes to, case by case.
use Rattle.std.proofs.Common.{◌≡◌, ℕ, Bool, List, Result, Ok, Err, IsOk, refl, ap, sym, ◌∙◌}
use Rattle.std.specs.Prelude.{if◌then◌else◌}
use Rattle.std.proofs.lemmas.Bool.{eq-eqb, ne_eqb}
use Rattle.vi_vring.specs.declared.chain.Chain.{Chain as ChainData}
use Rattle.vi_vring.specs.declared.chain.Popped.{Popped}
use Rattle.vi_vring.specs.declared.chain.Popped.TheVariants.{Chain, Empty, Broken}
use Rattle.vi_vring.specs.declared.chain.Break.{Break}
use Rattle.vi_vring.specs.declared.walking.Piece.{Piece}
use Rattle.vi_vring.specs.declared.walking.Totals.{Totals}
use Rattle.vi_vring.specs.Shown.{shown, surveyed, totals_of}
use Rattle.vi_vring.specs.Device.{available_index, head_at, popped_as, popped_of, returned_broken, area_after_pop, taken_by, taken_after_pop}

abbrev pub chain_with : ℕ → Totals → ChainData
chain_with head t = record { head = head; read = t.read; write = t.write }

-- a chain whose totals are known, and one with a break
popped_as_chain : (head : ℕ) (r : Result (List Piece) Break) (t : Totals) → Ok t ≡ surveyed r → popped_as head r ≡ Chain (chain_with head t)
popped_as_chain head (Ok pieces) t e = let same : totals_of pieces ≡ t = cc in ap (λ u. Chain (chain_with head u)) same
popped_as_chain head (Err fault) t e = absurd cc

popped_as_broken : (head : ℕ) (r : Result (List Piece) Break) (b : Break) → Err b ≡ surveyed r → popped_as head r ≡ Broken b
popped_as_broken head (Ok pieces) b e = absurd cc
popped_as_broken head (Err fault) b e = let same : fault ≡ b = cc in ap Broken same

-- a chain that is shown has no break
pub popped_whole : (head : ℕ) (r : Result (List Piece) Break) (chain : ChainData) → popped_as head r ≡ Chain chain → IsOk r
popped_whole head (Ok pieces) chain e = refl
popped_whole head (Err fault) chain e = absurd cc

module _ (n : ℕ) (area : List ℕ) (taken : ℕ) where
  choice : Bool → Popped
  choice b = if b then Empty else popped_as (head_at n area taken) (shown n area (head_at n area taken))

  pub popped_empty : available_index n area ≡ taken → popped_of n area taken ≡ Empty
  unfolding popped_of choice
  popped_empty e = ap choice (eq-eqb (available_index n area) taken e)

  pub popped_found : (available_index n area ≡ taken → ⊥) → (r : Result (List Piece) Break) → shown n area (head_at n area taken) ≡ r
      → popped_of n area taken ≡ popped_as (head_at n area taken) r
  unfolding popped_of choice
  popped_found e r s = ap choice (ne_eqb (available_index n area) taken e) ∙ ap (popped_as (head_at n area taken)) s

  -- the same of what was read: the available index and the entry's head
  pub popped_at : (index head : ℕ) (r : Result (List Piece) Break) → index ≡ available_index n area → (index ≡ taken → ⊥) → head ≡ head_at n area taken → shown n area head ≡ r
      → popped_of n area taken ≡ popped_as head r
  popped_at index head r i e h s = rw h (popped_found (λ x. e (i ∙ x)) r (ap (shown n area) (sym h) ∙ s))

  -- and of the chain's totals, or its break
  module _ (index head : ℕ) (i : index ≡ available_index n area) (e : index ≡ taken → ⊥) (h : head ≡ head_at n area taken) where
    pub popped_chain : (t : Totals) → Ok t ≡ surveyed (shown n area head) → popped_of n area taken ≡ Chain (chain_with head t)
    popped_chain t s = popped_at index head (shown n area head) i e h refl ∙ popped_as_chain head (shown n area head) t s

    pub popped_broken : (b : Break) → Err b ≡ surveyed (shown n area head) → popped_of n area taken ≡ Broken b
    popped_broken b s = popped_at index head (shown n area head) i e h refl ∙ popped_as_broken head (shown n area head) b s

  pub area_popped : (p : Popped) → popped_of n area taken ≡ p → area_after_pop n taken area ≡ returned_broken n (head_at n area taken) p area
  unfolding area_after_pop
  area_popped p e = ap (λ q. returned_broken n (head_at n area taken) q area) e

  pub taken_popped : (p : Popped) → popped_of n area taken ≡ p → taken_after_pop n area taken ≡ taken_by p taken
  unfolding taken_after_pop
  taken_popped p e = ap (λ q. taken_by q taken) e
