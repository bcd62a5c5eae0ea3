-- A place of the parked frames.
use Rattle.std.proofs.Common.{ℕ, zero, suc, List, [], ◌∷◌, Option, None, IfSome, get_or, set}
use Rattle.vi_iotlb.specs.declared.frame.Frame.{Frame}
use Rattle.vi_parked.specs.Asking.{IsAsking, AreAsking}

pub AreAsking-set : (frames : List (Option Frame)) (place : ℕ) (parked : Option Frame) → AreAsking frames → IfSome parked IsAsking → AreAsking (set frames place parked)
AreAsking-set [] place parked asking new = tt
AreAsking-set (frame ∷ frames) zero parked asking new = (new, asking.1)
AreAsking-set (frame ∷ frames) (suc place) parked asking new = (asking.0, AreAsking-set frames place parked asking.1 new)

pub IsAsking-get_or : (frames : List (Option Frame)) (place : ℕ) → AreAsking frames → IfSome (get_or frames place None) IsAsking
IsAsking-get_or [] place asking = tt
IsAsking-get_or (frame ∷ frames) zero asking = asking.0
IsAsking-get_or (frame ∷ frames) (suc place) asking = IsAsking-get_or frames place asking.1

pub ruleset asking_places = (AreAsking-set, IsAsking-get_or)
