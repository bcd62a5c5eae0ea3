use Rattle.std.proofs.Common.{ℕ, arith, ◌≡◌, min, length, drop, length-drop, length-append}
use Rattle.std.proofs.lemmas.Grind.{common_steps}
use Rattle.std.proofs.lemmas.List.{length-take}
use Rattle.vi_commands.proofs.Moved.{given_and_left, none_left}
use Rattle.vi_commands.proofs.list_source.ListSourceSource.read.Goals as goal

-- the bytes that were left are those that the buffer was given and those that are left now
pub returns-clause-bytes : goal.returns-clause-bytes
returns-clause-bytes c =
    let left = drop c.args.self.now.place c.args.self.now.bytes in
    let count : c.min-count.result ≡ min (min (length left) (length c.args.buf.now)) c.args.self.now.most = grind (arith, common_steps) in (
      given_and_left c.args.self.now.bytes _ c.args.buf.now c.args.self.now.place _ (grind (arith, common_steps)) (omega arith),
      λ none room. none_left c.args.self.now.bytes c.args.self.now.place _ (length c.args.buf.now) _ count c.args.self.now.gives_some none
          (omega (arith, room, length-append {A = ℕ}, length-drop {A = ℕ}, length-take {A = ℕ})),
    )
