use Rattle.std.proofs.Common.{◌≡◌, ◌==◌, ◌≤◌, ℕ, Bool, true, false, cond, sym, ap, subst, arith, ◌∙◌}
use Rattle.vi_history.specs.Device.{One}
use Rattle.vi_history.specs.Requests.{reading}
use Rattle.vi_history.specs.declared.call.Call.{Call}
use Rattle.vi_history.specs.declared.call.Call.TheVariants as call
use Rattle.vi_history.specs.declared.entry.Entry.{Entry}
use Rattle.vi_history.specs.declared.reading.Reading.{Reading}
use Rattle.vi_history.specs.declared.reading.Reading.TheVariants.{Silent, Malformed, Asks}
use Rattle.vi_history.specs.declared.request.Request.{Request}
use Rattle.vi_history.specs.declared.request.Request.TheVariants.{Attach, Detach, Map, Unmap, Probe}
use Rattle.vi_history.specs.declared.status.TheConstants.{OK}
use Rattle.vi_state.specs.Followed.{StateValue, IsFollowed, maps_of, maps_read, maps_asked, maps_if, maps_made}
use Rattle.vi_state.proofs.Staying.{next_ids, stays_followed}
use Rattle.tests_device.proofs.state.both.Goals as goal

of_most : (q : Request) → maps_of q ≤ 1
of_most (Attach domain endpoint flags) = omega arith
of_most (Detach domain endpoint) = omega arith
of_most (Map domain first last target flags) = omega arith
of_most (Unmap domain first last) = omega arith
of_most (Probe endpoint) = omega arith

read_most : (r : Reading) → maps_read r ≤ 1
read_most Silent = omega arith
read_most (Malformed probe) = omega arith
read_most (Asks request) = of_most request

asked_most : (c : Call) → maps_asked c ≤ 1
asked_most (call.Ask request) = of_most request
asked_most (call.Raw read write) = read_most (reading read write)
asked_most (call.Bypass on) = omega arith
asked_most (call.Read endpoint part) = omega arith
asked_most (call.Write endpoint part bytes) = omega arith

made_most : (c : Call) (h : Entry) → maps_made c h ≤ 1
made_most c h = go (h.mark.code == OK)
  where
    go : (v : Bool) → cond v (maps_asked c) 0 ≤ 1
    go true = asked_most c
    go false = omega arith

pub returns-clause-later : goal.returns-clause-later
returns-clause-later c =
    subst (λ (one : One). IsFollowed one c.args.later.now) (sym c.in_ok-entry.ensures.ok) (stays_followed c.args.plain.now c.args.later.now c.args.call.now c.requires.later)

pub returns-clause-pages : goal.returns-clause-pages
returns-clause-pages c = ap (λ (one : One). one.dev.pages) c.in_ok-entry.ensures.ok ∙ (next_ids c.args.plain.now c.args.call.now).1

pub returns-clause-room : goal.returns-clause-room
returns-clause-room c = omega (arith, ap (λ (s : StateValue). s.spare) c.follow.ensures.next, made_most c.args.call.now c.in_ok-entry.entry)
