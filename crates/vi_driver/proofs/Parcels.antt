-- A parcel is known by its parts.
use Rattle.std.proofs.Common.{◌≡◌, Bool, Option, Some, None, refl}
use Rattle.vi_model.specs.Drivers.{Parcel, Chain, Switch}
use Rattle.vi_driver.specs.Parcels.{read_in, write_in, switch_in}

-- one that doesn't set the bypass field is a request of its readable bytes and writable size
pub is_chain : (p : Parcel) → switch_in (Some p) ≡ None → p ≡ Chain (read_in (Some p)) (write_in (Some p))
is_chain (Chain read write) e = refl
is_chain (Switch on) e = absurd cc

-- one that does is a setting
pub is_switch : (o : Option Parcel) (on : Bool) → switch_in o ≡ Some on → o ≡ Some (Switch on)
is_switch None on e = absurd cc
is_switch (Some (Chain read write)) on e = absurd cc
is_switch (Some (Switch set)) on e = cc
