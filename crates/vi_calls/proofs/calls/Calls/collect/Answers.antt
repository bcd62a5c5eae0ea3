use Rattle.std.proofs.Common.{refl}
use Rattle.vi_calls.proofs.Collecting.{first-none, seen-none, first-set, seen-set, IsKept-set, collect-some, line-used, bytes-used, seen-used, IsKept-used}
use Rattle.vi_calls.proofs.calls.Calls.collect.Goals as goal

pub returns-in-None-clause-line : goal.returns-in-None-clause-line
returns-in-None-clause-line c = rw (← c.self.view_is, first-none c.self.inside c.self.invariant c.args.driver c.requires.driver c.index_mut-row.result.now c.index_mut-row.ensures.value c.take_first.result c.take_first.ensures.first c.take_first.new.self c.take_first.ensures.rest c.in-None.is) refl

pub returns-in-None-clause-bytes : goal.returns-in-None-clause-bytes
returns-in-None-clause-bytes c = rw (← c.self.view_is, first-none c.self.inside c.self.invariant c.args.driver c.requires.driver c.index_mut-row.result.now c.index_mut-row.ensures.value c.take_first.result c.take_first.ensures.first c.take_first.new.self c.take_first.ensures.rest c.in-None.is) refl

pub returns-in-None-clause-rest : goal.returns-in-None-clause-rest
returns-in-None-clause-rest c = rw (← c.self.view_is) (seen-none c.self.inside c.self.invariant c.args.driver c.requires.driver c.index_mut-row.result.now c.index_mut-row.ensures.value c.take_first.result c.take_first.ensures.first c.take_first.new.self c.take_first.ensures.rest c.in-None.is)

pub invariant_of-self-in-None-head : goal.invariant_of-self-in-None-head
invariant_of-self-in-None-head c =
    let once = rw (← c.self.view_is) at c.requires.once in
    IsKept-set c.self.inside c.self.invariant c.args.driver c.requires.driver c.index_mut-row.result.now c.index_mut-row.ensures.value c.take_first.result c.take_first.ensures.first c.take_first.new.self c.take_first.ensures.rest c.in-Some.token c.in-Some.is once c.in-None-head.is

pub returns-in-None-head-clause-line : goal.returns-in-None-head-clause-line
returns-in-None-head-clause-line c =
    let once = rw (← c.self.view_is) at c.requires.once in
    rw (← c.self.view_is, first-set c.self.inside c.self.invariant c.args.driver c.requires.driver c.index_mut-row.result.now c.index_mut-row.ensures.value c.take_first.result c.take_first.ensures.first c.take_first.new.self c.take_first.ensures.rest c.in-Some.token c.in-Some.is once c.in-None-head.is) refl

pub returns-in-None-head-clause-bytes : goal.returns-in-None-head-clause-bytes
returns-in-None-head-clause-bytes c =
    let once = rw (← c.self.view_is) at c.requires.once in
    rw (← c.self.view_is, first-set c.self.inside c.self.invariant c.args.driver c.requires.driver c.index_mut-row.result.now c.index_mut-row.ensures.value c.take_first.result c.take_first.ensures.first c.take_first.new.self c.take_first.ensures.rest c.in-Some.token c.in-Some.is once c.in-None-head.is) refl

pub returns-in-None-head-clause-rest : goal.returns-in-None-head-clause-rest
returns-in-None-head-clause-rest c =
    let once = rw (← c.self.view_is) at c.requires.once in
    rw (← c.self.view_is) (seen-set c.self.inside c.self.invariant c.args.driver c.requires.driver c.index_mut-row.result.now c.index_mut-row.ensures.value c.take_first.result c.take_first.ensures.first c.take_first.new.self c.take_first.ensures.rest c.in-Some.token c.in-Some.is once c.in-None-head.is)

pub unwrap-len-requires : goal.unwrap-len-requires
unwrap-len-requires c =
    let once = rw (← c.self.view_is) at c.requires.once in
    collect-some c.self.inside c.self.invariant c.args.driver c.requires.driver c.index_mut-row.result.now c.index_mut-row.ensures.value c.take_first.result c.take_first.ensures.first c.take_first.new.self c.take_first.ensures.rest c.in-Some.token c.in-Some.is once c.in-Some-head.head c.in-Some-head.is c.collect.result c.collect.ensures.len

pub invariant_of-self-in-Some-head : goal.invariant_of-self-in-Some-head
invariant_of-self-in-Some-head c =
    let once = rw (← c.self.view_is) at c.requires.once in
    IsKept-used c.self.inside c.self.invariant c.args.driver c.requires.driver c.index_mut-row.result.now c.index_mut-row.ensures.value c.take_first.result c.take_first.ensures.first c.take_first.new.self c.take_first.ensures.rest c.in-Some.token c.in-Some.is once c.in-Some-head.head c.in-Some-head.is c.collect.new.self c.collect.ensures.ring c.collect.ensures.shows

pub returns-in-Some-head-clause-line : goal.returns-in-Some-head-clause-line
returns-in-Some-head-clause-line c =
    let once = rw (← c.self.view_is) at c.requires.once in
    let says = rw c.unwrap-len.ensures at c.collect.ensures.len in
    rw (← c.self.view_is) (line-used c.self.inside c.self.invariant c.args.driver c.requires.driver c.index_mut-row.result.now c.index_mut-row.ensures.value c.take_first.result c.take_first.ensures.first c.take_first.new.self c.take_first.ensures.rest c.in-Some.token c.in-Some.is once c.in-Some-head.head c.in-Some-head.is c.unwrap-len.result says)

pub returns-in-Some-head-clause-bytes : goal.returns-in-Some-head-clause-bytes
returns-in-Some-head-clause-bytes c =
    let once = rw (← c.self.view_is) at c.requires.once in
    rw (← c.self.view_is) (bytes-used c.self.inside c.self.invariant c.args.driver c.requires.driver c.index_mut-row.result.now c.index_mut-row.ensures.value c.take_first.result c.take_first.ensures.first c.take_first.new.self c.take_first.ensures.rest c.in-Some.token c.in-Some.is once c.in-Some-head.head c.in-Some-head.is c.args.out.now c.collect.new.out c.collect.ensures.bytes)

pub returns-in-Some-head-clause-rest : goal.returns-in-Some-head-clause-rest
returns-in-Some-head-clause-rest c =
    let once = rw (← c.self.view_is) at c.requires.once in
    rw (← c.self.view_is) (seen-used c.self.inside c.self.invariant c.args.driver c.requires.driver c.index_mut-row.result.now c.index_mut-row.ensures.value c.take_first.result c.take_first.ensures.first c.take_first.new.self c.take_first.ensures.rest c.in-Some.token c.in-Some.is once c.in-Some-head.head c.in-Some-head.is c.collect.new.self c.collect.ensures.ring)
