-- The device's next work: the first that applies.
use Rattle.std.specs.Prelude.{ℕ, List, [], ◌∷◌, Option, Some, None}
use Rattle.vi_lines.specs.Value.{ScriptValue}
use Rattle.vi_model.specs.Removals.{Removal, first_ready}
use Rattle.vi_model.specs.Control.{Queued, Control}
use Rattle.vi_model.specs.Device.{first_setting, first_frame, first_free}
use Rattle.vi_control.specs.declared.work.Work.{Work}
use Rattle.vi_control.specs.declared.work.Work.TheVariants.{Finish, Parked, Frame, Request, Bypass, Idle}

-- fifth, the setting of the lowest driver that left one
abbrev pub setting_work : Option ℕ → Work
setting_work None = Idle
setting_work (Some driver) = Bypass driver

-- fourth, the next request of the queue
abbrev pub queue_work : Control → List Queued → Work
queue_work c [] = setting_work (first_setting c)
queue_work c (q ∷ rest) = Request

-- third, a frame of the lowest place that has one
abbrev pub frame_work : Control → Option ℕ → Work
frame_work c None = queue_work c c.queue
frame_work c (Some place) = Frame place

-- second, a parked miss whose page isn't closed
abbrev pub parked_work : ScriptValue → Control → Option ℕ → Work
parked_work s c None = frame_work c (first_frame s c)
parked_work s c (Some place) = Parked place

-- first, a removal that waits for nobody
abbrev pub finish_work : ScriptValue → Control → Option Removal → Work
finish_work s c None = parked_work s c (first_free s c)
finish_work s c (Some r) = Finish

unfoldable pub work_of : ScriptValue → Control → Work
work_of s c = finish_work s c (first_ready c.removals)

-- it is to serve what a back end sent
abbrev pub Serves : Work → Type 0
Serves Finish = ⊥
Serves (Parked place) = Unit {0}
Serves (Frame place) = Unit {0}
Serves Request = ⊥
Serves (Bypass driver) = ⊥
Serves Idle = ⊥

-- it is to start what a driver asks for
abbrev pub Starts : Work → Type 0
Starts Finish = ⊥
Starts (Parked place) = ⊥
Starts (Frame place) = ⊥
Starts Request = Unit {0}
Starts (Bypass driver) = Unit {0}
Starts Idle = ⊥
