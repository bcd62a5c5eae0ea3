use Rattle.std.proofs.Common.{map, string_bytes}
use Rattle.vi_commands.proofs.CommandLemmas.{named_none}
use Rattle.vi_commands.proofs.command.named.Goals as goal

pub returns-in_default : goal.returns-in_default
returns-in_default c = named_none c.args.name.now (map string_bytes c.args.behind.now) c.in_default.not-sim c.in_default.not-one c.in_default.not-check c.in_default.not-make c.in_default.not-trace
