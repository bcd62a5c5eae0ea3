-- What may be parked: a back end's question about its translations.
use Rattle.std.specs.Prelude.{List, [], ◌∷◌, Option, IfSome}
use Rattle.vi_iotlb.specs.declared.frame.Frame.{Frame}
use Rattle.vi_iotlb.specs.declared.frame.Frame.TheVariants.{Miss, AccessFail, Update, Invalidate, Ack, Reply}

-- the frame is a miss or an access fail
abbrev pub IsAsking : Frame → Type 0
IsAsking (Miss iova len need) = Unit {0}
IsAsking (AccessFail iova len need) = Unit {0}
IsAsking (Update page count target permission) = ⊥
IsAsking (Invalidate span) = ⊥
IsAsking Ack = ⊥
IsAsking (Reply fault) = ⊥

-- and so is each that is parked
abbrev pub AreAsking : List (Option Frame) → Type 0
AreAsking [] = Unit {0}
AreAsking (parked ∷ rest) = IfSome parked IsAsking × AreAsking rest
