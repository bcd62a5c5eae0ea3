-- The pages of a reach by its addresses.
use Rattle.std.proofs.Common.{◌<◌, ◌^◌, ◌↔◌, ℕ, IsTrue, refl, arith}
use Rattle.vi_bytes.specs.Spans.{Meets, page_span}
use Rattle.vi_bytes.proofs.SpanLemmas.{meets-iff, IsProper-page_span, Meets-from_ends}
use Rattle.vi_shoot.specs.declared.what.Reach.{Reach}
use Rattle.vi_shoot.specs.declared.what.Reach.TheVariants.{All, Within}
use Rattle.vi_shoot.specs.Reaches.{IsProperReach, reach_span, reaches}

pub Meets-reach : (reach : Reach) (page : ℕ) → page < 2 ^ 52 → IsProperReach reach → IsTrue (reaches reach page) ↔ Meets (page_span page) (reach_span reach)
Meets-reach All page below proper = (λ has. Meets-from_ends (page_span page) (reach_span All) (IsProper-page_span page) (omega arith) (omega arith) (omega arith), λ m. refl)
Meets-reach (Within span) page below proper = meets-iff (page_span page) span (IsProper-page_span page) proper
