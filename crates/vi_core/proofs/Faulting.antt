-- The numbers of faults, with one more entry.
use Rattle.std.proofs.Common.{◌≡◌, ℕ, suc, ◌+◌, ◌<◌, Bool, true, false, cond, List, [], ◌∷◌, ◌++◌, length, take, get_or, ap, ap₂, sym, ◌∙◌, arith}
use Rattle.std.proofs.Math.Seq.{take-suc}
use Rattle.std.proofs.lemmas.List.{length-take-le}
use Rattle.vi_history.specs.Kinds.{is_fault}
use Rattle.vi_history.specs.declared.entry.Entry.{Entry}
use Rattle.vi_core.specs.Outcomes.{fault_numbers}

fault_numbers_more : (number : ℕ) (hs : List Entry) (h : Entry) → fault_numbers number (hs ++ h ∷ []) ≡ fault_numbers number hs ++ cond (is_fault h.mark.kind) ((number + length hs) ∷ []) []
fault_numbers_more number [] h = let e : number ≡ number + 0 = omega arith in ap (λ n. cond (is_fault h.mark.kind) (n ∷ []) []) e
fault_numbers_more number (g ∷ hs) h =
    let e : number + 1 + length hs ≡ number + suc (length hs) = omega arith in
    go (is_fault g.mark.kind) (fault_numbers_more (number + 1) hs h ∙ ap (λ n. fault_numbers (number + 1) hs ++ cond (is_fault h.mark.kind) (n ∷ []) []) e)
  where
    go : (b : Bool) → fault_numbers (number + 1) (hs ++ h ∷ []) ≡ fault_numbers (number + 1) hs ++ cond (is_fault h.mark.kind) ((number + suc (length hs)) ∷ []) []
        → cond b (number ∷ fault_numbers (number + 1) (hs ++ h ∷ [])) (fault_numbers (number + 1) (hs ++ h ∷ [])) ≡ cond b (number ∷ fault_numbers (number + 1) hs) (fault_numbers (number + 1) hs) ++ cond (is_fault h.mark.kind) ((number + suc (length hs)) ∷ []) []
    go true rest = ap (λ ns. number ∷ ns) rest
    go false rest = rest

-- one more entry of a list
pub fault_step : (entries : List Entry) (i number : ℕ) (h : Entry) (old new : List ℕ) → i < length entries → h ≡ get_or entries i h → number ≡ i → old ≡ fault_numbers 1 (take i entries)
    → new ≡ old ++ cond (is_fault h.mark.kind) ((number + 1) ∷ []) [] → new ≡ fault_numbers 1 (take (i + 1) entries)
fault_step entries i number h old new lt is n o e =
    let size = length-take-le i entries (omega (arith, lt)) in
    let at : number + 1 ≡ 1 + length (take i entries) = omega (arith, size, n) in
    let on : suc i ≡ i + 1 = omega arith in
    let more : take i entries ++ h ∷ [] ≡ take (i + 1) entries = ap (λ (x : Entry). take i entries ++ x ∷ []) is ∙ (sym (take-suc entries i h lt) ∙ ap (λ k. take k entries) on) in
    e
    ∙ ap₂ (λ ns k. ns ++ cond (is_fault h.mark.kind) (k ∷ []) []) o at
    ∙ sym (fault_numbers_more 1 (take i entries) h)
    ∙ ap (fault_numbers 1) more
