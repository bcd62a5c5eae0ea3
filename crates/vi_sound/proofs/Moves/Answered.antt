-- An access by a lease that is the device's has the one-thread device's answer.
use Rattle.std.proofs.Common.{◌≡◌, ℕ, true, Some, sym}
use Rattle.vi_bytes.specs.declared.lease.Lease.{Lease}
use Rattle.vi_history.specs.Device.{One}
use Rattle.vi_history.specs.Translation.{lease, permits}
use Rattle.vi_history.specs.Replies.{page_at}
use Rattle.vi_lines.specs.Value.{ScriptValue}
use Rattle.vi_model.specs.Grants.{piece}
use Rattle.vi_model.specs.Places.{id_at}
use Rattle.vi_model.specs.Serves.{page_of}
use Rattle.vi_model.specs.Backs.{Seat, Access, need_of, target_of, access}
use Rattle.vi_model.specs.Whole.{IsWholeDev}
use Rattle.vi_model.specs.Laws.{access_call, IsAnswered}
use Rattle.vi_sound.proofs.Values.Aligned.{leased}
use Rattle.vi_sound.proofs.Moves.Accesses.{access_reply}

pub accesses_answer : (s : ScriptValue) (place : ℕ) (z : Seat) (one : One) (l : Lease) (a : Access) → IsWholeDev one.dev
    → lease one.dev (id_at s place) (page_of a.part.iova) ≡ Some (piece l (page_of a.part.iova)) → permits (need_of a.work) l.perm ≡ true
    → IsAnswered one (access_call (id_at s place) a.part a.work) (target_of l a) (access s place z l a (page_at one.memory (target_of l a)))
unfolding access
accesses_answer s place z one l a whole leads may =
    let found = leased one.dev (id_at s place) a.part.iova (need_of a.work) (piece l (page_of a.part.iova)) whole leads may in
    let answered = access_reply one (id_at s place) (target_of l a) a.part a.work found in
    record { answer = sym answered.0; memory = answered.1 }
