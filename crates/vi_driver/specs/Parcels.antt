-- What a driver's line leaves for the device, part by part.
use Rattle.std.specs.Prelude.{ℕ, Bool, List, [], Option, Some, None}
use Rattle.vi_history.specs.Requests.{request_bytes}
use Rattle.vi_lines.specs.declared.job.Job.{Job}
use Rattle.vi_lines.specs.declared.job.Job.TheVariants as job
use Rattle.vi_model.specs.Drivers.{Parcel, Chain, Switch}

-- the bytes of a job's request with fields; other jobs have none to encode
abbrev pub encoded_of : Job → List ℕ
encoded_of (job.Ask request) = request_bytes request
encoded_of (job.Raw read write) = []
encoded_of (job.Bypass on) = []
encoded_of (job.Read iova len) = []
encoded_of (job.Write iova bytes) = []

-- the device-readable bytes of a request; a setting of the bypass field has none
abbrev pub read_in : Option Parcel → List ℕ
read_in None = []
read_in (Some (Chain read write)) = read
read_in (Some (Switch on)) = []

-- the size of its writable part
abbrev pub write_in : Option Parcel → ℕ
write_in None = 0
write_in (Some (Chain read write)) = write
write_in (Some (Switch on)) = 0

-- to what the bypass field is set, None where it isn't
abbrev pub switch_in : Option Parcel → Option Bool
switch_in None = None
switch_in (Some (Chain read write)) = None
switch_in (Some (Switch on)) = Some on
