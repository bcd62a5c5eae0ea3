-- The frame that bytes are kept for, as a total function: of what no frame is written as it says an Ack.
use Rattle.std.specs.Prelude.{ℕ, ◌+◌, ◌-◌, ◌/◌, ◌%◌, ◌^◌, not, ◌==◌, if◌then◌else◌, List}
use Rattle.vi_bytes.specs.declared.lease.Need.{Need}
use Rattle.vi_bytes.specs.declared.lease.Need.TheVariants.{Read, Write}
use Rattle.vi_iotlb.specs.Fields.{request_of, flags_of, iova_of, size_of, user_address_of, permission_of, type_of, answer_of}
use Rattle.vi_iotlb.specs.declared.frame.Frame.{Frame}
use Rattle.vi_iotlb.specs.declared.frame.Frame.TheVariants.{Miss, AccessFail, Update, Invalidate, Ack, Reply}
use Rattle.vi_iotlb.specs.declared.frame.TheConstants.{USER_BASE}

-- the need that asks for this permission
abbrev pub need_of : ℕ → Need
need_of permission = if permission == 1 then Read else Write

-- what a back end asks, by its type
abbrev pub ask_of : ℕ → ℕ → ℕ → Need → Frame
ask_of type iova size need = if type == 1 then Miss iova size need else (if type == 4 then AccessFail iova size need else Ack)

-- the pages that an update grants
abbrev pub update_of : ℕ → ℕ → ℕ → ℕ → Frame
update_of iova size address permission = Update (iova / 4096) (size / 4096) ((address - USER_BASE) / 4096) permission

-- the addresses that an invalidate takes back; a size of 0 says all
abbrev pub invalidate_of : ℕ → ℕ → Frame
invalidate_of iova size = Invalidate (record { first = iova; last = iova + (size + (2 ^ 64 - 1)) % 2 ^ 64 })

-- a reply is of a back end's request, and else an acknowledgement
abbrev pub reply_of : ℕ → ℕ → Frame
reply_of request answer = if request == 1 then Reply (not (answer == 0)) else Ack

-- the frame, by its flags and its request
unfoldable pub frame_of : List ℕ → Frame
frame_of bytes =
    if flags_of bytes == 5 then reply_of (request_of bytes) (answer_of bytes)
    else (if flags_of bytes == 1 then update_of (iova_of bytes) (size_of bytes) (user_address_of bytes) (permission_of bytes)
    else (if request_of bytes == 22 then invalidate_of (iova_of bytes) (size_of bytes)
    else ask_of (type_of bytes) (iova_of bytes) (size_of bytes) (need_of (permission_of bytes))))
