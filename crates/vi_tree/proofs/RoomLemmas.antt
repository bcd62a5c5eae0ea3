-- Mappings and room together stay as many, for the tests.
use Rattle.std.proofs.Common.{◌≡◌, ℕ, ◌+◌, ◌-◌, ◌≤◌, length, Result, Ok, Err, ap, arith}
use Rattle.std.specs.Result.{OnOk, OnErr, IfOk}
use Rattle.vi_bytes.specs.declared.span.Span.{Span}
use Rattle.vi_bytes.specs.declared.lease.Mapping.{Mapping}
use Rattle.vi_bytes.specs.Mappings.{MappingSet, with_mapping, within_span, without_span}
use Rattle.vi_ranges.proofs.MappingLemmas.{length-with_mapping, length-within_without}

pub room_inserted : {A E : Type 0} (r : Result A E) (before now : MappingSet) (m : Mapping) (n : ℕ) → OnOk r (now ≡ record { mappings = with_mapping m before.mappings; spare = before.spare - 1 }) → OnErr r (now ≡ before) → 1 ≤ before.spare → n ≤ length before.mappings + before.spare → n ≤ length now.mappings + now.spare
room_inserted (Ok a) before now m n ok err some room = omega (arith, ap (λ (s : MappingSet). length s.mappings) ok, ap (λ (s : MappingSet). s.spare) ok, length-with_mapping m before.mappings)
room_inserted (Err e) before now m n ok err some room = omega (arith, ap (λ (s : MappingSet). length s.mappings) err, ap (λ (s : MappingSet). s.spare) err)

pub room_removed : {E : Type 0} (r : Result ℕ E) (before now : MappingSet) (span : Span) (n : ℕ) → IfOk r (λ k. k ≡ length (within_span span before.mappings)) → IfOk r (λ k. now ≡ record { mappings = without_span span before.mappings; spare = before.spare + k }) → OnErr r (now ≡ before) → n ≤ length before.mappings + before.spare → n ≤ length now.mappings + now.spare
room_removed (Ok k) before now span n number ok err room = omega (arith, ap (λ (s : MappingSet). length s.mappings) ok, ap (λ (s : MappingSet). s.spare) ok, length-within_without span before.mappings)
room_removed (Err e) before now span n number ok err room = omega (arith, ap (λ (s : MappingSet). length s.mappings) err, ap (λ (s : MappingSet). s.spare) err)
