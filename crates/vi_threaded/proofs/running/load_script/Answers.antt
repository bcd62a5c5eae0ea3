use Rattle.vi_threaded.proofs.LoadLemmas.{load_script-few}
use Rattle.vi_threaded.proofs.running.load_script.Goals as goal

pub parse-requires : goal.parse-requires
parse-requires c = rw (c.as_slice.ensures, c.in_ok-text.ensures.written) (load_script-few c.args.rounds c.requires.1)
