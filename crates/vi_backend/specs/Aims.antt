-- What a back end needs of its part, and the wish that comes of it.
use Rattle.std.specs.Prelude.{◌-◌, ◌+◌, ◌/◌, Bool, true, false, if◌then◌else◌, Option, Some, None}
use Rattle.vi_bytes.specs.declared.span.TheConstants.{PAGE}
use Rattle.vi_bytes.specs.declared.lease.Lease.{Lease}
use Rattle.vi_history.specs.Translation.{permits}
use Rattle.vi_iotlb.specs.declared.frame.Frame.{Frame}
use Rattle.vi_iotlb.specs.declared.frame.Frame.TheVariants as frame
use Rattle.vi_model.specs.Backs.{Access, need_of}
use Rattle.vi_backend.specs.declared.wish.Wish.{Wish}
use Rattle.vi_backend.specs.declared.wish.Wish.TheVariants as shows
use Rattle.vi_backend.specs.declared.part.Aim.{Aim}

-- the aim of an access
abbrev pub aim_of : Access → Aim
aim_of a = record { part = a.part; need = need_of a.work }

-- the frame that asks for it
abbrev pub aim_frame : Aim → Bool → Frame
aim_frame a fail = if fail then frame.AccessFail a.part.iova a.part.len a.need else frame.Miss a.part.iova a.part.len a.need

-- the wish where the cache has this lease of its page
abbrev pub aim_wish : Aim → Option Lease → Wish
aim_wish a None = shows.Ask (aim_frame a false)
aim_wish a (Some l) = if permits a.need l.perm then shows.Access (l.target + (a.part.iova / PAGE - l.page)) else shows.Ask (aim_frame a true)
