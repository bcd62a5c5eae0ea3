-- The verdict as a line of text, its answers and its call spelled as in reports.
use Rattle.std.specs.Prelude.{ℕ, List, ◌++◌, codes, decimal}
use Rattle.vi_history.specs.declared.call.Caller.{Caller}
use Rattle.vi_history.specs.declared.entry.Entry.{Entry}
use Rattle.vi_report.specs.Texts.{name_text, answer_text}
use Rattle.vi_check.specs.declared.verdict.Verdict.{Verdict}
use Rattle.vi_check.specs.declared.verdict.Verdict.TheVariants.{Legal, Wrong, Order, Extra, Missing, Faults}

-- an entry's answer as in its line of a report
abbrev pub answer_words : Entry → List ℕ
answer_words h = answer_text h.mark.kind h.mark.code h.bytes

abbrev pub wrong_words : ℕ → Entry → Entry → List ℕ
wrong_words entry want got = codes "wrong " ++ decimal entry ++ codes " want " ++ answer_words want ++ codes " got " ++ answer_words got

abbrev pub missing_words : Caller → ℕ → ℕ → List ℕ
missing_words caller line part = codes "missing " ++ name_text caller line part

-- the line without its LF
abbrev pub words : Verdict → List ℕ
words Legal = codes "legal"
words (Wrong entry want got) = wrong_words entry want got
words (Order entry) = codes "order " ++ decimal entry
words (Extra entry) = codes "extra " ++ decimal entry
words (Missing caller line part) = missing_words caller line part
words (Faults at) = codes "faults " ++ decimal at

unfoldable pub verdict_text : Verdict → List ℕ
verdict_text v = words v ++ codes "\n"
