use Rattle.vi_script.specs.Said.{setup_of, script_of}
use Rattle.vi_script.proofs.draft.Draft.into_script.Goals as goal

pub returns : goal.returns
unfolding script_of setup_of
returns c =
    rw (← c.self.view_is)
    (rw (c.setup-setup.ensures, c.from_vec.ensures, c.from_vec-lines.ensures, c.into_lines.ensures.lines, c.from_vec-2.ensures) at c.new.ensures)
