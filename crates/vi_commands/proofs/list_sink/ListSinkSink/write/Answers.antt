use Rattle.std.proofs.Common.{inl, inr, arith, rules, refl}
use Rattle.vi_commands.proofs.list_sink.ListSinkSink.write.Goals as goal
use Rattle.vi_commands.proofs.list_sink.ListSinkSink.write.Goals.{then-listed-via-then-listed, then-listed-via-else-listed+then-count-self}

pub returns-then-listed-clause-fails : goal.returns-then-listed-clause-fails
returns-then-listed-clause-fails c =
    elim c.then-listed.branch [
      | then-listed-via-then-listed w ↦ (λ _. inl (search rules), λ _. refl)
      | then-listed-via-else-listed+then-count-self w ↦ (λ _. inr (omega arith), λ _. refl)
    ]
