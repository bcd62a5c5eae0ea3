use Rattle.std.proofs.Common.{map, string_bytes}
use Rattle.vi_threaded.proofs.ThreadLemmas.{threaded_none}
use Rattle.vi_threaded.proofs.threaded.named.Goals as goal

pub returns-in_default : goal.returns-in_default
returns-in_default c = threaded_none c.args.name.now (map string_bytes c.args.behind.now) c.in_default.not-run c.in_default.not-load c.in_default.not-dirty
