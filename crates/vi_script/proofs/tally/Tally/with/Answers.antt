use Rattle.std.proofs.Common.{◌≡◌, ◌≤◌, ◌<◌, ◌+◌, length, refl, sym, subst, ◌∙◌, arith, length-append}
use Rattle.vi_lines.specs.declared.line.Line.{Line}
use Rattle.vi_lines.specs.Limits.{transferred, bytes_in}
use Rattle.vi_lines.specs.Index.{AreRows}
use Rattle.vi_script.proofs.TallyLemmas.{AreRows_push, bytes_in_push, have_callers_push, driver-from_caller, table_push, table_small}
use Rattle.vi_script.proofs.tally.Tally.with.Goals as goal

pub with_line-batches-requires-clause-few : goal.with_line-batches-requires-clause-few
with_line-batches-requires-clause-few c = rw c.self.invariant.batches (table_small c.self.inside.lines.items c.self.invariant.few)

pub invariant_of-result : goal.invariant_of-result
invariant_of-result c =
    let lines = c.self.inside.lines.items in
    let l : Line = c.args.line in
    let is = c.in_ok-push.ensures.items in
    let room : length lines < 10000 = rw c.self.view_is c.requires.room in
    let within : bytes_in lines + transferred l.job ≤ 16777216 = rw c.self.view_is c.requires.within in
    let bytes : c.self.inside.transferred + c.transferred.result ≡ bytes_in lines + transferred l.job =
    rw (c.transferred.ensures, c.self.invariant.bytes) refl in
    record {
      rows = subst (λ xs. AreRows xs c.add_place.new.rows.items) (sym is) (AreRows_push lines l c.self.inside.rows.items c.add_place.new.rows.items c.len-place.result c.self.invariant.rows (omega arith) c.in_ok-add_place.ensures);
      bytes = rw is (bytes ∙ sym (bytes_in_push lines l));
      batches = rw (is, c.with_line-batches.ensures, c.of.ensures, c.self.invariant.batches) (sym (table_push lines l (driver-from_caller l.caller c.requires.caller)));
      callers = rw is (have_callers_push lines l c.self.invariant.callers c.requires.caller);
      few = rw is (omega (arith, length-append {A = Line}));
      within = rw bytes within;
    }

pub with_line-batches-requires-clause-driver : goal.with_line-batches-requires-clause-driver
with_line-batches-requires-clause-driver c = rw c.of.ensures (driver-from_caller c.args.line.caller c.requires.caller)
