-- An event that the checker takes or refuses, against what is known.
use Rattle.std.proofs.Common.{◌≡◌, ◌/◌, ℕ, true, false, not, List, [], ◌∷◌, ◌++◌, None, refl, ap, sym, ◌∙◌, subst, inl, inr, length, drop, suc, arith}
use Rattle.std.specs.Prelude.{filter}
use Rattle.std.specs.List.{list_any}
use Rattle.std.specs.BTreeMap.{get}
use Rattle.std.specs.Ordering.{nat_cmp}
use Rattle.std.proofs.lemmas.Bool.{cases_Bool}
use Rattle.vi_bytes.specs.Spans.{meets, page_span}
use Rattle.vi_bytes.specs.declared.span.Span.{Span}
use Rattle.vi_bytes.specs.declared.span.TheConstants.{PAGE}
use Rattle.vi_bytes.specs.declared.lease.Need.{Need}
use Rattle.vi_iotlb.specs.Frames.{ReadAs}
use Rattle.vi_iotlb.specs.declared.frame.Frame.{Frame}
use Rattle.vi_iotlb.specs.declared.frame.Frame.TheVariants as frame
use Rattle.vi_iotlb.proofs.OneReading.{one_frame}
use Rattle.vi_trace.specs.declared.finding.Rule.TheVariants as rule
use Rattle.vi_trace.specs.declared.state.State.{State}
use Rattle.vi_trace.specs.declared.trace.Event.{Event}
use Rattle.vi_trace.specs.declared.trace.Event.TheVariants.{Down, Up, Access}
use Rattle.vi_trace.specs.Rules.{Kept, Known, Breaks, Goes, GoesDown, allows, perm_of, pages_kept, takes, update_meets, down, up, ack, update, access, updated, invalidated, acknowledged, used}
use Rattle.vi_trace.specs.Steps.{IsCache, Holds}
use Rattle.vi_trace.proofs.Numbers.{perm_of-left, perm_of-taken}

-- the event is taken, and the state is what is known behind it
abbrev pub Moves : Known → Event → State → Type 0
Moves known event state = (more : Known) × Goes known event more × Holds state more

pub not_sent : (known : Known) (bytes : List ℕ) (f : Frame) → ReadAs bytes f → ¬ GoesDown f → Breaks known (Down bytes) rule.Frame
not_sent known bytes f reads stays = down bytes (λ g as_g goes. stays (subst GoesDown (one_frame bytes g f as_g reads) goes))

pub over_open : (known : Known) (bytes : List ℕ) (page count target perm : ℕ) (state : State) → Holds state known → ReadAs bytes (frame.Update page count target perm)
    → list_any (update_meets page count) state.waiting.items ≡ true → Breaks known (Down bytes) rule.Update
over_open known bytes page count target perm state holds reads met =
    update bytes page count target perm reads (ap (list_any (update_meets page count)) (sym holds.waiting) ∙ met)

pub moves_update : (known : Known) (bytes : List ℕ) (page count target perm : ℕ) (old new : State) → Holds old known → ReadAs bytes (frame.Update page count target perm)
    → list_any (update_meets page count) old.waiting.items ≡ false → new.waiting ≡ old.waiting
    → ((kept : List Kept) → IsCache old.cache kept → IsCache new.cache (pages_kept page count perm ++ kept)) → Moves known (Down bytes) new
moves_update known bytes page count target perm old new holds reads clear same keeps = (
  record { waiting = known.waiting; cache = pages_kept page count perm ++ known.cache },
  updated bytes page count target perm reads (ap (list_any (update_meets page count)) (sym holds.waiting) ∙ clear),
  record { waiting = ap (λ w. w.items) same ∙ holds.waiting; cache = keeps known.cache holds.cache },
)

pub moves_invalidate : (known : Known) (bytes : List ℕ) (span : Span) (old new : State) → Holds old known → ReadAs bytes (frame.Invalidate span)
    → new.waiting.items ≡ old.waiting.items ++ span ∷ [] → new.cache ≡ old.cache → Moves known (Down bytes) new
moves_invalidate known bytes span old new holds reads pushed same = (
  record { waiting = known.waiting ++ span ∷ []; cache = known.cache },
  invalidated bytes span reads,
  record { waiting = pushed ∙ ap (λ w. w ++ span ∷ []) holds.waiting; cache = rw same holds.cache },
)

cache_left : (span : Span) (old new : State) (kept : List Kept) → IsCache old.cache kept
    → ((page : ℕ) → meets (page_span page) span ≡ true → get nat_cmp new.cache page ≡ None)
    → ((page : ℕ) → meets (page_span page) span ≡ false → get nat_cmp new.cache page ≡ get nat_cmp old.cache page)
    → IsCache new.cache (filter (λ k. not (takes span k)) kept)
cache_left span old new kept is gone left page =
    elim (cases_Bool (meets (page_span page) span)) [
      | inl met ↦ rw (gone page met) (sym (perm_of-taken span page kept met))
      | inr apart ↦ rw (left page apart) (is page ∙ sym (perm_of-left span page kept apart))
    ]

pub moves_ack : (known : Known) (bytes : List ℕ) (span : Span) (old new : State) → Holds old known → ReadAs bytes frame.Ack
    → old.waiting.items ≡ span ∷ new.waiting.items
    → ((page : ℕ) → meets (page_span page) span ≡ true → get nat_cmp new.cache page ≡ None)
    → ((page : ℕ) → meets (page_span page) span ≡ false → get nat_cmp new.cache page ≡ get nat_cmp old.cache page)
    → Moves known (Up bytes) new
moves_ack known bytes span old new holds reads popped gone left = (
  record { waiting = new.waiting.items; cache = filter (λ k. not (takes span k)) known.cache },
  acknowledged bytes span new.waiting.items reads (sym holds.waiting ∙ popped),
  record { waiting = refl; cache = cache_left span old new known.cache holds.cache gone left },
)

pub no_ack : (known : Known) (bytes : List ℕ) → ¬ ReadAs bytes frame.Ack → Breaks known (Up bytes) rule.Frame
no_ack known bytes other = up bytes (λ f reads is. other (subst (λ (g : Frame). ReadAs bytes g) is reads))

-- a list that is as it was without its first item has none
pub no_items : (spans : List Span) → spans ≡ drop 1 spans → spans ≡ []
no_items [] same = refl
no_items (s ∷ spans) same = let lengths : suc (length spans) ≡ length spans = ap (λ (x : List Span). length x) same in absurd (omega arith)

pub none_open : (known : Known) (bytes : List ℕ) (state : State) → Holds state known → ReadAs bytes frame.Ack → state.waiting.items ≡ [] → Breaks known (Up bytes) rule.Ack
none_open known bytes state holds reads empty = ack bytes reads (sym holds.waiting ∙ empty)

pub moves_use : (known : Known) (address : ℕ) (need : Need) (old new : State) → Holds old known → new ≡ old
    → allows need (perm_of (address / PAGE) known.cache) ≡ true → Moves known (Access address need) new
moves_use known address need old new holds same has = (known, used address need has, rw same holds)

pub not_permitted : (known : Known) (address : ℕ) (need : Need) → allows need (perm_of (address / PAGE) known.cache) ≡ false → Breaks known (Access address need) rule.Access
not_permitted known address need lacks = access address need lacks
