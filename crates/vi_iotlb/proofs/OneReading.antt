-- Bytes read as one frame at most, or are refused in one way, and never both.
use Rattle.std.proofs.Common.{◌≡◌, ◌≢◌, ◌≤◌, ◌<◌, ◌+◌, ◌-◌, ◌%◌, ◌^◌, ◌↔◌, ℕ, Bool, true, false, IsTrue, List, refl, ap, sym, ◌∙◌, arith}
use Rattle.vi_bytes.specs.declared.span.Span.{Span}
use Rattle.vi_bytes.specs.declared.lease.Need.{Need}
use Rattle.vi_bytes.specs.declared.lease.Need.TheVariants.{Read, Write}
use Rattle.vi_iotlb.specs.Fields.{permission_for, span_size, IsRange}
use Rattle.vi_iotlb.specs.Frames.{ReadAs}
use Rattle.vi_iotlb.specs.Refusals.{RefusedAs}
use Rattle.vi_iotlb.specs.declared.frame.Frame.{Frame}
use Rattle.vi_iotlb.specs.declared.frame.Frame.TheVariants.{Miss, AccessFail, Update, Invalidate, Ack, Reply}
use Rattle.vi_iotlb.specs.declared.refusal.FrameFault.{FrameFault}
use Rattle.vi_iotlb.specs.declared.refusal.FrameFault.TheVariants.{Short, Request, Flags, Size, Kind, Perm, Field}

one_need : (a b : Need) → permission_for a ≡ permission_for b → a ≡ b
one_need Read Read e = refl
one_need Read Write e = absurd (omega arith)
one_need Write Read e = absurd (omega arith)
one_need Write Write e = refl

one_last : (first last last' : ℕ) → first ≤ last → first ≤ last' → last < 2 ^ 64 → last' < 2 ^ 64 → (last - first + 1) % 2 ^ 64 ≡ (last' - first + 1) % 2 ^ 64 → last ≡ last'
one_last first last last' p q b c z = omega arith

abbrev span : ℕ → ℕ → Span
span first last = record { first = first; last = last }

one_span : (s t : Span) → IsRange s → IsRange t → s.first ≡ t.first → span_size s ≡ span_size t → s ≡ t
one_span s t p q f z =
    let lasts = one_last s.first s.last t.last p.proper (rw f q.proper) p.ends q.ends (z ∙ ap (λ n. (t.last - n + 1) % 2 ^ 64) (sym f)) in
    ap (λ n. span n s.last) f ∙ ap (span t.first) lasts

one_bool : (a b : Bool) (n : ℕ) → IsTrue a ↔ (n ≢ 0) → IsTrue b ↔ (n ≢ 0) → a ≡ b
one_bool true true n p q = refl
one_bool false false n p q = refl
one_bool true false n p q = grind arith
one_bool false true n p q = grind arith

pub one_frame : (bytes : List ℕ) (f g : Frame) → ReadAs bytes f → ReadAs bytes g → f ≡ g
one_frame bytes (Miss i l n) (Miss j m o) p q = let e = one_need n o (sym p.1.permission_at_36 ∙ q.1.permission_at_36) in cc
one_frame bytes (AccessFail i l n) (AccessFail j m o) p q = let e = one_need n o (sym p.1.permission_at_36 ∙ q.1.permission_at_36) in cc
one_frame bytes (Update page count target perm) (Update page' count' target' perm') p q =
    let pages : page ≡ page' = omega (arith, p.1.pages.from_page, q.1.pages.from_page) in
    let counts : count ≡ count' = omega (arith, p.1.pages.whole_pages, q.1.pages.whole_pages) in
    let targets : target ≡ target' = omega (arith, p.1.pages.to_page, q.1.pages.to_page) in
    let perms : perm ≡ perm' = sym p.1.permission_at_36 ∙ q.1.permission_at_36 in
    cc
one_frame bytes (Invalidate s) (Invalidate t) p q = ap Invalidate (one_span s t p.1.range q.1.range (sym p.1.iova_at_12 ∙ q.1.iova_at_12) (sym p.1.size_at_20 ∙ q.1.size_at_20))
one_frame bytes Ack Ack p q = refl
one_frame bytes (Reply a) (Reply b) p q = ap Reply (one_bool a b _ p.1 q.1)
one_frame bytes f g p q = absurd (omega arith)

pub one_fault : (bytes : List ℕ) (d e : FrameFault) → RefusedAs bytes d → RefusedAs bytes e → d ≡ e
one_fault bytes Short Short p q = refl
one_fault bytes (Request r) (Request s) p q = ap Request (sym p.1 ∙ q.1)
one_fault bytes (Flags f) (Flags g) p q = ap Flags (sym p.1 ∙ q.1)
one_fault bytes (Size s) (Size t) p q = ap Size (sym p.1 ∙ q.1)
one_fault bytes (Kind t) (Kind u) p q = ap Kind (sym p.0 ∙ q.0)
one_fault bytes (Perm p) (Perm q) h i = ap Perm (sym h.0 ∙ i.0)
one_fault bytes Field Field p q = refl
one_fault bytes d e p q = absurd (grind arith)

pub apart : (bytes : List ℕ) (f : Frame) (e : FrameFault) → ReadAs bytes f → RefusedAs bytes e → ⊥
apart bytes f e p q = grind arith
