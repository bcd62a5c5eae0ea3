use Rattle.std.proofs.Common.{length, arith}
use Rattle.vi_calls.proofs.Writing.{popped-taken, write-below, write-shown, write-out, write-fits, write-driver, write-room, seen-write, IsKept-write}
use Rattle.vi_calls.proofs.calls.Calls.write.Goals as goal

pub bounds-self-inside-head : goal.bounds-self-inside-head
bounds-self-inside-head c =
    let taken = rw (← c.self.view_is) at c.requires.taken in
    let popped = popped-taken c.self.inside c.args.head taken in
    write-below c.self.inside c.self.invariant c.args.head popped

pub push-requires-clause-shown : goal.push-requires-clause-shown
push-requires-clause-shown c =
    let taken = rw (← c.self.view_is) at c.requires.taken in
    let popped = popped-taken c.self.inside c.args.head taken in
    write-shown c.self.inside c.self.invariant c.args.head popped

pub push-requires-clause-out : goal.push-requires-clause-out
push-requires-clause-out c =
    let taken = rw (← c.self.view_is) at c.requires.taken in
    let popped = popped-taken c.self.inside c.args.head taken in
    write-out c.self.inside c.self.invariant c.args.head popped

pub push-requires-clause-fits : goal.push-requires-clause-fits
push-requires-clause-fits c =
    let taken = rw (← c.self.view_is) at c.requires.taken in
    let popped = popped-taken c.self.inside c.args.head taken in
    let fits = rw (← c.self.view_is) at c.requires.fits in
    write-fits c.self.inside c.self.invariant c.args.head popped (length c.args.bytes.now) fits

pub index_mut-row-requires : goal.index_mut-row-requires
index_mut-row-requires c =
    let taken = rw (← c.self.view_is) at c.requires.taken in
    let popped = popped-taken c.self.inside c.args.head taken in
    omega (arith, write-driver c.self.inside c.self.invariant c.args.head popped, c.self.invariant.drivers, c.self.inside.rows.ok.0)

pub add-requires : goal.add-requires
add-requires c =
    let taken = rw (← c.self.view_is) at c.requires.taken in
    let popped = popped-taken c.self.inside c.args.head taken in
    let room = rw (← c.self.view_is) at c.requires.room in
    write-room c.self.inside c.self.invariant c.args.head popped c.index_mut-row.result.now c.index_mut-row.ensures.value room

pub invariant_of-self : goal.invariant_of-self
invariant_of-self c =
    let taken = rw (← c.self.view_is) at c.requires.taken in
    let popped = popped-taken c.self.inside c.args.head taken in
    IsKept-write c.self.inside c.self.invariant c.args.head popped c.index_mut-row.result.now c.index_mut-row.ensures.value c.add.new.self c.add.ensures c.args.bytes.now c.push.new.self c.push.ensures.ring c.push.ensures.shows c.requires.answer

pub returns : goal.returns
returns c =
    let taken = rw (← c.self.view_is) at c.requires.taken in
    let popped = popped-taken c.self.inside c.args.head taken in
    rw (← c.self.view_is) (seen-write c.self.inside c.self.invariant c.args.head popped c.index_mut-row.result.now c.index_mut-row.ensures.value c.add.new.self c.add.ensures c.args.bytes.now c.push.new.self c.push.ensures.ring)
