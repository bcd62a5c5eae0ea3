use Rattle.std.proofs.Common.{◌≡◌, ap, sym, ◌∙◌}
use Rattle.vi_bytes.specs.Fields.{field}
use Rattle.vi_vring.specs.declared.chain.Popped.TheVariants.{Chain, Empty, Broken}
use Rattle.vi_vring.specs.Device.{popped_of, head_at, used_after}
use Rattle.vi_vring.proofs.Pops.{chain_with, popped_empty, popped_chain, popped_broken, area_popped, taken_popped}
use Rattle.vi_vring.proofs.device.take_next.Goals.{In-Ok, After-return_used}
use Rattle.vi_vring.proofs.device.take_next.Goals as goal

empty : (c : goal.Then-u16_at-taken) → popped_of c.args.n c.args.area.now c.args.taken.now ≡ Empty
empty c = popped_empty c.args.n c.args.area.now c.args.taken.now (ap (λ at. field at 2 c.args.area.now) (sym c.available_index.ensures) ∙ sym c.u16_at.ensures ∙ c.if-u16_at-taken.true)

pub returns-then-u16_at-taken-clause-popped : goal.returns-then-u16_at-taken-clause-popped
returns-then-u16_at-taken-clause-popped c = sym (empty c)

pub returns-then-u16_at-taken-clause-area : goal.returns-then-u16_at-taken-clause-area
returns-then-u16_at-taken-clause-area c = sym (area_popped c.args.n c.args.area.now c.args.taken.now Empty (empty c))

pub returns-then-u16_at-taken-clause-taken : goal.returns-then-u16_at-taken-clause-taken
returns-then-u16_at-taken-clause-taken c = sym (taken_popped c.args.n c.args.area.now c.args.taken.now Empty (empty c))

-- the chain that was surveyed, from the head that was read
found : (c : In-Ok) → popped_of c.args.n c.args.area.now c.args.taken.now ≡ Chain (chain_with c.u16_at-head.result c.in-Ok.found)
found c =
    let index = c.u16_at.ensures ∙ ap (λ at. field at 2 c.args.area.now) c.available_index.ensures in
    let head = c.u16_at-head.ensures ∙ ap (λ at. field at 2 c.args.area.now) c.available_entry.ensures in
    popped_chain c.args.n c.args.area.now c.args.taken.now c.u16_at.result c.u16_at-head.result index c.if-u16_at-taken.false head c.in-Ok.found c.in-Ok.ensures

pub returns-in-Ok-clause-popped : goal.returns-in-Ok-clause-popped
returns-in-Ok-clause-popped c = sym (found c)

pub returns-in-Ok-clause-area : goal.returns-in-Ok-clause-area
returns-in-Ok-clause-area c = sym (area_popped c.args.n c.args.area.now c.args.taken.now _ (found c))

pub returns-in-Ok-clause-taken : goal.returns-in-Ok-clause-taken
returns-in-Ok-clause-taken c = sym (taken_popped c.args.n c.args.area.now c.args.taken.now _ (found c))

head : (c : After-return_used) → c.u16_at-head.result ≡ head_at c.args.n c.args.area.now c.args.taken.now
head c = c.u16_at-head.ensures ∙ ap (λ at. field at 2 c.args.area.now) c.available_entry.ensures

broken : (c : After-return_used) → popped_of c.args.n c.args.area.now c.args.taken.now ≡ Broken c.in-Err.fault
broken c =
    let index = c.u16_at.ensures ∙ ap (λ at. field at 2 c.args.area.now) c.available_index.ensures in
    popped_broken c.args.n c.args.area.now c.args.taken.now c.u16_at.result c.u16_at-head.result index c.if-u16_at-taken.false (head c) c.in-Err.fault c.in-Err.ensures

pub returns-in-Err-clause-popped : goal.returns-in-Err-clause-popped
returns-in-Err-clause-popped c = sym (broken (goal.at.returns-in-Err-clause-popped c).After-return_used)

pub returns-in-Err-clause-area : goal.returns-in-Err-clause-area
returns-in-Err-clause-area c =
    c.return_used.ensures ∙ ap (λ h. used_after c.args.n h 0 c.args.area.now) (head (goal.at.returns-in-Err-clause-area c).After-return_used) ∙ sym (area_popped c.args.n c.args.area.now c.args.taken.now (Broken c.in-Err.fault) (broken (goal.at.returns-in-Err-clause-area c).After-return_used))

pub returns-in-Err-clause-taken : goal.returns-in-Err-clause-taken
returns-in-Err-clause-taken c = sym (taken_popped c.args.n c.args.area.now c.args.taken.now (Broken c.in-Err.fault) (broken (goal.at.returns-in-Err-clause-taken c).After-return_used))
