use Rattle.std.proofs.Common.{◌≡◌, Some, None, refl, sym}
use Rattle.vi_lines.specs.Calls.{line_of, call_of}
use Rattle.vi_lines.proofs.IndexLemmas.{line_of-caller}
use Rattle.vi_lines.proofs.script.Script.call.Goals as goal

pub call-requires : goal.call-requires
call-requires c =
    let found : line_of c.args.self.now c.args.caller c.args.line ≡ Some c.in-Some.found.now = sym c.in-Some.ensures in
    (line_of-caller c.args.self.now c.args.caller c.args.line c.in-Some.found.now c.requires found).1

pub returns-in-Some : goal.returns-in-Some
unfolding call_of
returns-in-Some c =
    let found : line_of c.args.self.now c.args.caller c.args.line ≡ Some c.in-Some.found.now = sym c.in-Some.ensures in
    let caller = (line_of-caller c.args.self.now c.args.caller c.args.line c.in-Some.found.now c.requires found).0 in
    rw (found, ← caller) c.call.ensures

pub returns-in-None : goal.returns-in-None
unfolding call_of
returns-in-None c =
    let none : line_of c.args.self.now c.args.caller c.args.line ≡ None = sym c.in-None.ensures in
    rw none refl
