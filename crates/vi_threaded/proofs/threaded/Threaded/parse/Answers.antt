use Rattle.std.proofs.Common.{map, string_bytes}
use Rattle.vi_threaded.proofs.ThreadLemmas.{named_within}
use Rattle.vi_threaded.proofs.threaded.Threaded.parse.Goals as goal

pub returns-in-Some-clause-bounds : goal.returns-in-Some-clause-bounds
returns-in-Some-clause-bounds c = rw c.named.ensures (named_within c.as_str.result.now (map string_bytes c.in-Some.behind.now))
