-- The device's next work, by the parts of a control.
use Rattle.std.specs.Prelude.{ℕ, Bool, true, false, List, [], ◌∷◌, length, Option, Some, None}
use Rattle.std.specs.List.{list_any}
use Rattle.vi_calls.specs.Moves.{first_setting}
use Rattle.vi_calls.specs.Value.{CallsValue}
use Rattle.vi_history.specs.Device.{Dev}
use Rattle.vi_lanes.specs.Value.{LanesValue}
use Rattle.vi_model.specs.Control.{Queued}
use Rattle.vi_model.specs.Removals.{is_ready}
use Rattle.vi_removals.specs.Value.{RemovalsValue, removals_of}
use Rattle.vi_control.specs.declared.work.Work.{Work}
use Rattle.vi_control.specs.declared.work.Work.TheVariants.{Finish, Parked, Frame, Request}
use Rattle.vi_control.specs.Places.{first_frame_in, first_free_in}
use Rattle.vi_control.specs.Work.{setting_work}

-- a request of the queue, before a setting
abbrev pub work_by_queue : List Queued → Option ℕ → Work
work_by_queue [] setting = setting_work setting
work_by_queue (q ∷ rest) setting = Request

-- a frame, before a request
abbrev pub work_by_frame : Option ℕ → List Queued → Option ℕ → Work
work_by_frame None queue setting = work_by_queue queue setting
work_by_frame (Some place) queue setting = Frame place

-- a parked miss, before a frame
abbrev pub work_by_free : Option ℕ → Option ℕ → List Queued → Option ℕ → Work
work_by_free None frame queue setting = work_by_frame frame queue setting
work_by_free (Some place) frame queue setting = Parked place

-- a removal that waits for nobody, before a parked miss
abbrev pub work_by_ready : Bool → Option ℕ → Option ℕ → List Queued → Option ℕ → Work
work_by_ready true free frame queue setting = Finish
work_by_ready false free frame queue setting = work_by_free free frame queue setting

abbrev pub work_in : Dev → CallsValue → RemovalsValue → LanesValue → Work
work_in dev calls removals lanes =
    work_by_ready (list_any is_ready (removals_of removals)) (first_free_in dev removals lanes) (first_frame_in (length removals.ids) lanes) calls.queue (first_setting calls)
