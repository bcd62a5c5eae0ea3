-- A report that was written is read again, so no two outcomes have one report.
use Rattle.std.proofs.Common.{◌≡◌, ℕ, suc, ◌+◌, ◌^◌, ◌<◌, ◌≤◌, List, [], ◌∷◌, ◌++◌, length, All, Result, Ok, codes, refl, sym, ap, ◌∙◌, append_assoc, arith}
use Rattle.std.specs.List.{flat_map}
use Rattle.std.proofs.lemmas.List.Elements.{All-head, All-tail}
use Rattle.vi_history.specs.Outcomes.{IsEntry, NamesEntry, IsWellMade}
use Rattle.vi_history.specs.declared.entry.Entry.{Entry}
use Rattle.vi_history.specs.declared.outcome.Outcome.{Outcome}
use Rattle.vi_history.specs.declared.outcome.Shown.{Shown}
use Rattle.vi_report.specs.Texts.{head_line, entry_line, entry_lines, faults_line, record_line, text}
use Rattle.vi_report.specs.Types.{IsTypedEntry, IsTypedShown, IsTyped}
use Rattle.vi_report.specs.Lines.{after}
use Rattle.vi_report.specs.Reading.{entries_at, records_at, read_report}
use Rattle.vi_report.proofs.LineLemmas.{entry_at-entry_line, head_at-head_line, faults_at-faults_line, record_at-record_line}

entries_at-entry_lines : (number : ℕ) (entries : List Entry) (rest : List ℕ) → All IsEntry entries → All IsTypedEntry entries → number + length entries ≤ 2 ^ 32
    → entries_at (length entries) number (entry_lines number entries ++ rest) ≡ Ok (entries, rest)
unfolding entries_at
entries_at-entry_lines number [] rest made typed few = refl
entries_at-entry_lines number (h ∷ hs) rest made typed few =
    let parts : entry_lines number (h ∷ hs) ++ rest ≡ entry_line number h ++ (entry_lines (number + 1) hs ++ rest) = append_assoc (entry_line number h) (entry_lines (number + 1) hs) rest in
    ap (entries_at (suc (length hs)) number) parts
    ∙ rw (
      entry_at-entry_line number h (entry_lines (number + 1) hs ++ rest) (All-head IsEntry h hs made) (All-head IsTypedEntry h hs typed) (omega arith),
      entries_at-entry_lines (number + 1) hs rest (All-tail IsEntry h hs made) (All-tail IsTypedEntry h hs typed) (omega arith),
    ) refl

records_at-record_lines : (count line : ℕ) (shown : List Shown) (rest : List ℕ) → count < 2 ^ 32 → All (NamesEntry count) shown → All IsTypedShown shown
    → records_at (length shown) count line (flat_map record_line shown ++ rest) ≡ Ok (shown, rest)
unfolding records_at
records_at-record_lines count line [] rest few names typed = refl
records_at-record_lines count line (x ∷ xs) rest few names typed =
    let parts : flat_map record_line (x ∷ xs) ++ rest ≡ record_line x ++ (flat_map record_line xs ++ rest) = append_assoc (record_line x) (flat_map record_line xs) rest in
    ap (records_at (suc (length xs)) count line) parts
    ∙ rw (
      record_at-record_line count x (flat_map record_line xs ++ rest) few (All-head (NamesEntry count) x xs names) (All-head IsTypedShown x xs typed),
      records_at-record_lines count (line + 1) xs rest few (All-tail (NamesEntry count) x xs names) (All-tail IsTypedShown x xs typed),
    ) refl

regrouped : (a b c d e : List ℕ) → (((a ++ b) ++ c) ++ d) ++ e ≡ a ++ (b ++ (c ++ (d ++ e)))
regrouped a b c d e = simp append_assoc

-- the report of a well made outcome reads as that outcome
pub read_report-text : (o : Outcome) → IsWellMade o → IsTyped o → read_report (text o) ≡ Ok o
unfolding text read_report after
read_report-text o made typed =
    let records = flat_map record_line o.shown ++ codes "end\n" in
    let faults = faults_line (length o.shown) o.dropped ++ records in
    let entries = entry_lines 1 o.entries ++ faults in
    let parts : text o ≡ head_line (length o.entries) ++ entries = regrouped (head_line (length o.entries)) (entry_lines 1 o.entries) (faults_line (length o.shown) o.dropped) (flat_map record_line o.shown) (codes "end\n") in
    ap read_report parts
    ∙ rw (
      head_at-head_line (length o.entries) entries made.few,
      entries_at-entry_lines 1 o.entries faults made.entries typed.entries (omega (arith, made.few)),
      faults_at-faults_line (length o.shown) o.dropped records made.few_shown typed.dropped,
      records_at-record_lines (length o.entries) (length o.entries + 3) o.shown (codes "end\n") made.few made.shown typed.shown,
    ) refl

abbrev read : Outcome → Result Outcome ℕ
read o = Ok o

read-same : (a b : Outcome) → read a ≡ read b → a ≡ b
read-same a b e = cc

-- no two outcomes have one report
pub text-same : (a b : Outcome) → IsWellMade a → IsTyped a → IsWellMade b → IsTyped b → text a ≡ text b → a ≡ b
text-same a b made_a typed_a made_b typed_b same =
    read-same a b (sym (read_report-text a made_a typed_a) ∙ ap read_report same ∙ read_report-text b made_b typed_b)
