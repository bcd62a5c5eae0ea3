-- No open call.
use Rattle.std.proofs.Common.{◌≡◌, ℕ, ◌≤◌, List, replicate, length, inl, inr, refl, arith}
use Rattle.std.proofs.lemmas.List.Elements.{All-nil}
use Rattle.vi_vring.specs.Moves.{IsRingSize, ShowsChain, chain_of, new_ring, no_lists}
use Rattle.vi_calls.specs.declared.calls.Submitted.{Submitted}
use Rattle.vi_calls.specs.declared.calls.Calls.TheInside.{Inside}
use Rattle.vi_calls.specs.Rows.{no_row}
use Rattle.vi_calls.specs.Inner.{AreTied, IsWhole, IsKept}

least : (n : ℕ) → IsRingSize n → 16 ≤ n
least n (inl e) = omega (arith, e)
least n (inr (inl e)) = omega (arith, e)
least n (inr (inr (inl e))) = omega (arith, e)
least n (inr (inr (inr (inl e)))) = omega (arith, e)
least n (inr (inr (inr (inr e)))) = omega (arith, e)

greatest : (n : ℕ) → IsRingSize n → n ≤ 256
greatest n (inl e) = omega (arith, e)
greatest n (inr (inl e)) = omega (arith, e)
greatest n (inr (inr (inl e))) = omega (arith, e)
greatest n (inr (inr (inr (inl e)))) = omega (arith, e)
greatest n (inr (inr (inr (inr e)))) = omega (arith, e)

IsWhole-new : (n : ℕ) → IsRingSize n → IsWhole (new_ring n 1024 1024)
IsWhole-new n size = record {
  some = least n size;
  most = greatest n size;
  reading = refl;
  writing = refl;
  known = refl;
  shows = All-nil (λ q. ShowsChain (new_ring n 1024 1024) (chain_of q));
}

AreTied-none : (table : List Submitted) → AreTied table (replicate 8 no_row) no_lists
AreTied-none table = record {
  once = λ head. omega arith;
  below = λ head some. absurd (omega (arith, some));
  owned = λ head. refl;
  chains = refl;
  available = tt;
  popped = tt;
  replies = tt;
}

pub IsKept-new : (p : Inside) (n : ℕ) → IsRingSize n → p.ring ≡ new_ring n 1024 1024 → p.queued ≡ 0 → length p.submitted ≡ 256 → p.rows.items ≡ replicate 8 no_row → IsKept p
IsKept-new p n size new none table rows = record {
  ring_whole = rw new (IsWhole-new n size);
  count = rw (new, none) refl;
  table = table;
  drivers = rw rows refl;
  tied = rw (new, rows) (AreTied-none p.submitted);
}
