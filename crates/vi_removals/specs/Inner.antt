-- How the open removals are kept: by the numbers of vi_shoot, with the driver's call for each number.
use Rattle.std.specs.Prelude.{◌≡◌, ℕ, ◌≤◌, true, not, List, [], ◌∷◌, length, map, get_or, take, drop, Some}
use Rattle.std.specs.List.{list_all}
use Rattle.vi_history.specs.declared.reading.Reading.TheVariants.{Silent}
use Rattle.vi_model.specs.declared.task.Task.TheVariants.{Reads}
use Rattle.vi_shoot.specs.declared.ops.Op.{Op}
use Rattle.vi_shoot.specs.Removals.{AreOpen}
use Rattle.vi_removals.specs.declared.removals.Call.{Call}
use Rattle.vi_removals.specs.declared.removals.Removals.TheInside.{Inside}
use Rattle.vi_removals.specs.Value.{Opened, RemovalsValue, opened_by}
use Rattle.vi_removals.specs.Takings.{what_of, IsTaking}

-- the call that a number without a removal has
abbrev pub no_call : Call
no_call = record { driver = 0; line = 0; task = Reads Silent }

abbrev pub call_at : List Call → ℕ → Call
call_at calls number = get_or calls number no_call

-- the open removal, with the call of its number and the flags of the endpoints that there are
abbrev pub opened_of : List Call → ℕ → Op → Opened
opened_of calls count op =
    opened_by (call_at calls op.number).driver (call_at calls op.number).line (call_at calls op.number).task (take count op.waiting.0) op.token

abbrev pub seen : Inside → RemovalsValue
seen p = record { ids = p.ids.items; opened = map (opened_of p.calls (length p.ids.items)) p.ops }

-- a removal takes what the call of its number takes, and has flags for 16 places, none up where there is no endpoint
pub record IsTied (ids : List ℕ) (calls : List Call) (op : Op) : Type 0 where
  pub taking : IsTaking ids (call_at calls op.number).task
  pub takes : what_of ids (call_at calls op.number).task ≡ Some op.what
  pub flags : length op.waiting.0 ≡ 16
  pub beyond : list_all not (drop (length ids) op.waiting.0) ≡ true

abbrev pub AreTied : List ℕ → List Call → List Op → Type 0
AreTied ids calls [] = Unit {0}
AreTied ids calls (op ∷ ops) = IsTied ids calls op × AreTied ids calls ops

pub record IsWhole (p : Inside) : Type 0 where
  pub few : length p.ids.items ≤ 16
  pub numbers : length p.calls ≡ 8
  pub open_ops : AreOpen p.ops
  pub tied : AreTied p.ids.items p.calls p.ops
