use Rattle.std.proofs.Common.{◌≡◌, get_or, ap, arith}
use Rattle.vi_device.specs.Values.{id_at}
use Rattle.vi_removals.specs.Value.{removals_of}
use Rattle.vi_control.specs.Places.{id_in}
use Rattle.vi_control.proofs.Cutting.{run_fits, granted_run, granted_fits}
use Rattle.vi_control.proofs.granting.open_run.Goals as goal

pub overflow_add-last : goal.overflow_add-last
overflow_add-last c =
    let same : id_at c.args.device.now.dev c.args.place ≡ id_in c.args.removals.now c.args.place = ap (λ ids. get_or ids c.args.place 0) c.requires.seated.endpoints in
    let fits = run_fits c.args.device.now.dev _ _ c.args.page c.in-Some.run' same c.in-Some.ensures.run c.requires.whole c.requires.page c.requires.memory c.in-Some.ensures.permission in
    omega (arith, fits.ends, c.from.ensures)

pub overflow_sub-last : goal.overflow_sub-last
overflow_sub-last c =
    let same : id_at c.args.device.now.dev c.args.place ≡ id_in c.args.removals.now c.args.place = ap (λ ids. get_or ids c.args.place 0) c.requires.seated.endpoints in
    let fits = run_fits c.args.device.now.dev _ _ c.args.page c.in-Some.run' same c.in-Some.ensures.run c.requires.whole c.requires.page c.requires.memory c.in-Some.ensures.permission in
    omega (arith, fits.lease.some, c.from.ensures)

pub lowest_open-low-requires-clause-first : goal.lowest_open-low-requires-clause-first
lowest_open-low-requires-clause-first c =
    let same : id_at c.args.device.now.dev c.args.place ≡ id_in c.args.removals.now c.args.place = ap (λ ids. get_or ids c.args.place 0) c.requires.seated.endpoints in
    let fits = run_fits c.args.device.now.dev _ _ c.args.page c.in-Some.run' same c.in-Some.ensures.run c.requires.whole c.requires.page c.requires.memory c.in-Some.ensures.permission in
    fits.asked.0

pub highest_open-high-requires-clause-page : goal.highest_open-high-requires-clause-page
highest_open-high-requires-clause-page c =
    let same : id_at c.args.device.now.dev c.args.place ≡ id_in c.args.removals.now c.args.place = ap (λ ids. get_or ids c.args.place 0) c.requires.seated.endpoints in
    let fits = run_fits c.args.device.now.dev _ _ c.args.page c.in-Some.run' same c.in-Some.ensures.run c.requires.whole c.requires.page c.requires.memory c.in-Some.ensures.permission in
    omega (arith, fits.asked.1, c.from.ensures)

pub highest_open-high-requires-clause-last : goal.highest_open-high-requires-clause-last
highest_open-high-requires-clause-last c =
    let same : id_at c.args.device.now.dev c.args.place ≡ id_in c.args.removals.now c.args.place = ap (λ ids. get_or ids c.args.place 0) c.requires.seated.endpoints in
    let fits = run_fits c.args.device.now.dev _ _ c.args.page c.in-Some.run' same c.in-Some.ensures.run c.requires.whole c.requires.page c.requires.memory c.in-Some.ensures.permission in
    omega (arith, fits.ends, fits.lease.some, c.from.ensures)

pub overflow_add-result-in-Some : goal.overflow_add-result-in-Some
overflow_add-result-in-Some c =
    let same : id_at c.args.device.now.dev c.args.place ≡ id_in c.args.removals.now c.args.place = ap (λ ids. get_or ids c.args.place 0) c.requires.seated.endpoints in
    let fits = run_fits c.args.device.now.dev _ _ c.args.page c.in-Some.run' same c.in-Some.ensures.run c.requires.whole c.requires.page c.requires.memory c.in-Some.ensures.permission in
    omega (arith, fits.grant.in_memory, c.lowest_open-low.ensures.up_to, c.requires.page)

pub returns-in-Some-clause-run : goal.returns-in-Some-clause-run
returns-in-Some-clause-run c =
    let same : id_at c.args.device.now.dev c.args.place ≡ id_in c.args.removals.now c.args.place = ap (λ ids. get_or ids c.args.place 0) c.requires.seated.endpoints in
    let fits = run_fits c.args.device.now.dev _ _ c.args.page c.in-Some.run' same c.in-Some.ensures.run c.requires.whole c.requires.page c.requires.memory c.in-Some.ensures.permission in
    granted_run c.args.device.now.dev _ _ c.args.place c.args.page c.lowest_open-low.result c.highest_open-high.result (removals_of c.args.removals.now) c.in-Some.run' same c.in-Some.ensures.run fits c.requires.open c.lowest_open-low.ensures (rw c.from.ensures at c.highest_open-high.ensures)

pub returns-in-Some-clause-grant : goal.returns-in-Some-clause-grant
returns-in-Some-clause-grant c =
    let same : id_at c.args.device.now.dev c.args.place ≡ id_in c.args.removals.now c.args.place = ap (λ ids. get_or ids c.args.place 0) c.requires.seated.endpoints in
    let fits = run_fits c.args.device.now.dev _ _ c.args.page c.in-Some.run' same c.in-Some.ensures.run c.requires.whole c.requires.page c.requires.memory c.in-Some.ensures.permission in
    granted_fits c.args.device.now.dev _ _ c.args.place c.args.page c.lowest_open-low.result c.highest_open-high.result (removals_of c.args.removals.now) c.in-Some.run' same c.in-Some.ensures.run fits c.requires.open c.lowest_open-low.ensures (rw c.from.ensures at c.highest_open-high.ensures) c.requires.whole c.requires.page c.requires.memory
