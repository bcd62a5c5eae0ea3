-- A line that was written is read again, whatever follows it.
use Rattle.std.proofs.Common.{◌≡◌, ℕ, ◌+◌, ◌-◌, ◌^◌, ◌<◌, ◌≤◌, leb, List, ◌∷◌, ◌++◌, length, Some, None, decimal, codes, refl, ap, ◌∙◌, append_assoc, arith}
use Rattle.std.specs.List.{prefix_len}
use Rattle.std.specs.Char.{is_ascii_digit}
use Rattle.std.proofs.lemmas.Bool.{eq-eqb, le-leb, and_from}
use Rattle.hex.specs.Hex.{encode_lower}
use Rattle.vi_history.specs.Outcomes.{HasPart, HasBytes, IsEntry, NamesEntry}
use Rattle.vi_history.specs.declared.call.Caller.{Caller}
use Rattle.vi_history.specs.declared.call.Caller.TheVariants.{Driver, Back}
use Rattle.vi_history.specs.declared.entry.Entry.{Entry}
use Rattle.vi_history.specs.declared.entry.Kind.{Kind}
use Rattle.vi_history.specs.declared.entry.Kind.TheVariants.{Status, Probed, Nothing, Set, Read, Wrote, Fault}
use Rattle.vi_history.specs.declared.outcome.Shown.{Shown}
use Rattle.vi_report.specs.Texts.{head_line, name_text, answer_text, entry_line, faults_line, record_line}
use Rattle.vi_report.specs.Types.{AreBytes, IsTypedCaller, IsTypedEntry, IsTypedShown}
use Rattle.vi_report.specs.declared.reading.answer.Answer.{Answer}
use Rattle.vi_report.specs.declared.reading.name.Name.{Name}
use Rattle.vi_report.specs.Lines.{after, driver_at, back_at, name_at, kind_at, code_at, properties_at, read_at, answer_at, call_at, entry_at, head_at, faults_at, record_at}
use Rattle.vi_report.proofs.Fields.{number_at-decimal, count_at-decimal, bytes_at-encode, sized_at-encode}

-- the name of these parts
abbrev named : Caller → ℕ → ℕ → Name
named caller line part = record { caller = caller; line = line; part = part }

driver_at-text : (number line : ℕ) (rest : List ℕ) → number < 8 → 1 ≤ line → line < 2 ^ 32 → prefix_len is_ascii_digit rest ≡ 0
    → driver_at (100 ∷ (decimal number ++ 46 ∷ (decimal line ++ rest))) ≡ Some (named (Driver number) line 0, rest)
unfolding driver_at after
driver_at-text number line rest known some small ends =
    rw (number_at-decimal 8 number (46 ∷ (decimal line ++ rest)) known (omega arith) refl, count_at-decimal (2 ^ 32) line rest some small (omega arith) ends) refl

back_at-text : (endpoint line part : ℕ) (rest : List ℕ) → endpoint < 2 ^ 32 → 1 ≤ line → line < 2 ^ 32 → 1 ≤ part → part < 2 ^ 32 → prefix_len is_ascii_digit rest ≡ 0
    → back_at (98 ∷ (decimal endpoint ++ 46 ∷ (decimal line ++ 46 ∷ (decimal part ++ rest)))) ≡ Some (named (Back endpoint) line part, rest)
unfolding back_at after
back_at-text endpoint line part rest small_id some small some_part small_part ends =
    rw (number_at-decimal (2 ^ 32) endpoint (46 ∷ (decimal line ++ 46 ∷ (decimal part ++ rest))) small_id (omega arith) refl, count_at-decimal (2 ^ 32) line (46 ∷ (decimal part ++ rest)) some small (omega arith) refl, count_at-decimal (2 ^ 32) part rest some_part small_part (omega arith) ends) refl

-- a back end's name begins otherwise than a driver's
driver_at-back : (bytes : List ℕ) → driver_at (98 ∷ bytes) ≡ None
unfolding driver_at after
driver_at-back bytes = refl

name_at-name_text : (caller : Caller) (line part : ℕ) (rest : List ℕ) → HasPart caller part → IsTypedCaller caller → 1 ≤ line → line < 2 ^ 32 → part < 2 ^ 32 → prefix_len is_ascii_digit rest ≡ 0
    → name_at (name_text caller line part ++ rest) ≡ Some (named caller line part, rest)
name_at-name_text (Driver number) line part rest has typed some small small_part ends =
    let parts : name_text (Driver number) line part ++ rest ≡ 100 ∷ (decimal number ++ 46 ∷ (decimal line ++ rest)) = simp append_assoc in
    rw (parts, driver_at-text number line rest (omega (arith, has.0)) some small ends, has.1) refl
name_at-name_text (Back endpoint) line part rest has typed some small small_part ends =
    let parts : name_text (Back endpoint) line part ++ rest ≡ 98 ∷ (decimal endpoint ++ 46 ∷ (decimal line ++ 46 ∷ (decimal part ++ rest))) = simp append_assoc in
    rw (parts, driver_at-back (decimal endpoint ++ 46 ∷ (decimal line ++ 46 ∷ (decimal part ++ rest))), back_at-text endpoint line part rest typed some small has small_part ends) refl

-- ---- answers

-- the answer of these parts
abbrev answered : Kind → ℕ → List ℕ → Answer
answered kind code bytes = record { kind = kind; code = code; bytes = bytes }

properties_at-text : (code : ℕ) (bytes rest : List ℕ) → code < 2 ^ 8 → length bytes ≡ 512 → AreBytes bytes
    → answer_at (codes "probed " ++ (decimal code ++ 32 ∷ (encode_lower bytes ++ 10 ∷ rest))) ≡ Some (answered Probed code bytes, 10 ∷ rest)
unfolding answer_at kind_at properties_at after
properties_at-text code bytes rest small size fits =
    rw (number_at-decimal 256 code (32 ∷ (encode_lower bytes ++ 10 ∷ rest)) small (omega arith) refl, sized_at-encode 512 bytes (10 ∷ rest) size fits refl) refl

answer_at-answer_text : (kind : Kind) (code : ℕ) (bytes rest : List ℕ) → HasBytes kind code bytes → code < 2 ^ 8 → AreBytes bytes
    → answer_at (answer_text kind code bytes ++ 10 ∷ rest) ≡ Some (answered kind code bytes, 10 ∷ rest)
unfolding answer_at kind_at code_at properties_at read_at after
answer_at-answer_text Status code bytes rest has small fits =
    rw (number_at-decimal 256 code (10 ∷ rest) small (omega arith) refl, has) refl
answer_at-answer_text Probed code bytes rest has small fits =
    let parts : answer_text Probed code bytes ++ 10 ∷ rest ≡ codes "probed " ++ (decimal code ++ 32 ∷ (encode_lower bytes ++ 10 ∷ rest)) = simp append_assoc in
    ap answer_at parts ∙ properties_at-text code bytes rest small has fits
answer_at-answer_text Nothing code bytes rest has small fits = rw (has.0, has.1) refl
answer_at-answer_text Set code bytes rest has small fits = rw (has.0, has.1) refl
answer_at-answer_text Read code bytes rest has small fits =
    let within = and_from (leb 1 (length bytes)) (leb (length bytes) 4096) (le-leb 1 (length bytes) has.1) (le-leb (length bytes) 4096 has.2) in
    rw (bytes_at-encode bytes (10 ∷ rest) fits refl, within, has.0) refl
answer_at-answer_text Wrote code bytes rest has small fits = rw (has.0, has.1) refl
answer_at-answer_text Fault code bytes rest has small fits =
    rw (number_at-decimal 256 code (10 ∷ rest) small (omega arith) refl, has) refl

-- ---- lines

call_at-text : (number : ℕ) (caller : Caller) (line part : ℕ) (rest : List ℕ) → number < 2 ^ 32 → HasPart caller part → IsTypedCaller caller → 1 ≤ line → line < 2 ^ 32 → part < 2 ^ 32
    → call_at number (decimal number ++ 32 ∷ (name_text caller line part ++ 32 ∷ rest)) ≡ Some (named caller line part, rest)
unfolding call_at after
call_at-text number caller line part rest small has typed some small_line small_part =
    rw (
      number_at-decimal (2 ^ 32) number (32 ∷ (name_text caller line part ++ 32 ∷ rest)) small (omega arith) refl,
      name_at-name_text caller line part (32 ∷ rest) has typed some small_line small_part refl,
      eq-eqb number number refl,
    ) refl

pub entry_at-entry_line : (number : ℕ) (h : Entry) (rest : List ℕ) → IsEntry h → IsTypedEntry h → number < 2 ^ 32
    → entry_at number (entry_line number h ++ rest) ≡ Some (h, rest)
unfolding entry_line entry_at after
entry_at-entry_line number h rest made typed small =
    let name = name_text h.mark.caller h.mark.line h.mark.part in
    let answer = answer_text h.mark.kind h.mark.code h.bytes in
    let parts : entry_line number h ++ rest ≡ decimal number ++ 32 ∷ (name ++ 32 ∷ (answer ++ 10 ∷ rest)) = simp append_assoc in
    ap (entry_at number) parts
    ∙ rw (
      call_at-text number h.mark.caller h.mark.line h.mark.part (answer ++ 10 ∷ rest) small made.part typed.mark.caller made.line typed.mark.line typed.mark.part,
      answer_at-answer_text h.mark.kind h.mark.code h.bytes rest made.answer typed.mark.code typed.bytes,
    ) refl

pub head_at-head_line : (count : ℕ) (rest : List ℕ) → count < 2 ^ 32 → head_at (head_line count ++ rest) ≡ Some (count, rest)
unfolding head_at after
head_at-head_line count rest small =
    let parts : head_line count ++ rest ≡ codes "viommu history " ++ (decimal count ++ 10 ∷ rest) = simp append_assoc in
    ap head_at parts ∙ rw (number_at-decimal (2 ^ 32) count (10 ∷ rest) small (omega arith) refl) refl

pub faults_at-faults_line : (shown dropped : ℕ) (rest : List ℕ) → shown < 2 ^ 32 - 1 → dropped < 2 ^ 32
    → faults_at (faults_line shown dropped ++ rest) ≡ Some (record { shown = shown; dropped = dropped }, rest)
unfolding faults_at after
faults_at-faults_line shown dropped rest few few_dropped =
    let after_shown = codes " dropped " ++ (decimal dropped ++ 10 ∷ rest) in
    let after_all = codes " shown " ++ (decimal shown ++ after_shown) in
    let parts : faults_line shown dropped ++ rest ≡ codes "faults " ++ (decimal (shown + dropped) ++ after_all) = simp append_assoc in
    ap faults_at parts
    ∙ rw (
      number_at-decimal (2 ^ 33) (shown + dropped) after_all (omega arith) (omega arith) refl,
      number_at-decimal (2 ^ 32 - 1) shown after_shown few (omega arith) refl,
      number_at-decimal (2 ^ 32) dropped (10 ∷ rest) few_dropped (omega arith) refl,
      eq-eqb (shown + dropped) (shown + dropped) refl,
    ) refl

pub record_at-record_line : (count : ℕ) (x : Shown) (rest : List ℕ) → count < 2 ^ 32 → NamesEntry count x → IsTypedShown x
    → record_at count (record_line x ++ rest) ≡ Some (x, rest)
unfolding record_at after
record_at-record_line count x rest few names typed =
    let parts : record_line x ++ rest ≡ decimal x.entry ++ 32 ∷ (encode_lower x.bytes ++ 10 ∷ rest) = simp append_assoc in
    ap (record_at count) parts
    ∙ rw (
      count_at-decimal (count + 1) x.entry (32 ∷ (encode_lower x.bytes ++ 10 ∷ rest)) names.first (omega (arith, names.last)) (omega (arith, names.last)) refl,
      sized_at-encode 24 x.bytes (10 ∷ rest) typed.size typed.bytes refl,
    ) refl
