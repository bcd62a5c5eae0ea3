-- What the ring's calls say where its lists are known.
use Rattle.std.proofs.Common.{◌≡◌, ℕ, ◌<◌, ◌≤◌, ◌↔◌, Option, Some, None, IfSome, Result, Ok, Err, IsOk, IsErr, arith, refl}
use Rattle.std.specs.Option.{option_map}
use Rattle.vi_vring.specs.Values as ring
use Rattle.vi_calls.specs.Inner.{lists_or}

-- a fact of the known lists
pub of-known : (o : Option ring.Lists) (P : ring.Lists → Type 0) → o ≡ Some (lists_or o) → IfSome o P → P (lists_or o)
of-known None P known fact = absurd (cc)
of-known (Some l) P known fact = fact

-- they stay known
pub known-after : (o p : Option ring.Lists) (f : ring.Lists → ring.Lists) → o ≡ Some (lists_or o) → p ≡ option_map f o → p ≡ Some (f (lists_or o))
known-after None p f known after = absurd (cc)
known-after (Some l) p f known after = after

pub still-known : (p : Option ring.Lists) (l : ring.Lists) → p ≡ Some l → p ≡ Some (lists_or p)
still-known p l e = rw e refl

pub lists-are : (p : Option ring.Lists) (l : ring.Lists) → p ≡ Some l → lists_or p ≡ l
lists-are p l e = rw e refl

-- a call that fails only where something is too small
pub ok-enough : {T E : Type 0} (r : Result T E) (free needs : ℕ) → IsErr r ↔ (free < needs) → needs ≤ free → IsOk r
ok-enough (Ok x) free needs when enough = refl
ok-enough (Err e) free needs when enough = absurd (omega (arith, when.0 refl, enough))

pub to-known : (o : Option ring.Lists) (P : ring.Lists → Type 0) → P (lists_or o) → IfSome o P
to-known None P fact = tt
to-known (Some l) P fact = fact
