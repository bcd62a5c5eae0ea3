-- The bytes above a line of a text are those of the lines above it.
use Rattle.std.proofs.Common.{◌≡◌, ◌==◌, ℕ, zero, suc, ◌+◌, ◌-◌, ◌<◌, ◌≤◌, Bool, true, false, cond, List, [], ◌∷◌, ◌++◌, length, take, drop, get_or, None, refl, sym, ap, ◌∙◌, inl, inr, arith, length-append, codes}
use Rattle.std.specs.List.{position_from}
use Rattle.std.specs.Prelude.{min, nat_le}
use Rattle.std.proofs.lemmas.List.{append-nil, drop_all, drop_more, take_more, take_all, length-take, length-drop}
use Rattle.std.proofs.lemmas.Grind.{flat_map-append}
use Rattle.std.proofs.lemmas.Iterator.Adapters.{position_from-zero}
use Rattle.vi_commands.specs.Cuts.{IsCutAt}
use Rattle.std.proofs.lemmas.Bool.{cases_Bool, leb-true, leb-false}
use Rattle.std.proofs.lemmas.Bool.Decides.{nat_tests}
use Rattle.vi_words.specs.Words.{in_front, lines_of_text, is_word}
use Rattle.std.specs.Prelude.{Result}
use Rattle.vi_script.specs.Texts.{script, Bad}
use Rattle.vi_lines.specs.Value.{ScriptValue}
use Rattle.vi_script.specs.Parsing.{Faults}
use Rattle.vi_script.specs.declared.fault.ScriptFault.{ScriptFault}
use Rattle.vi_script.specs.declared.fault.ScriptFault.TheVariants as fault
use Rattle.vi_commands.specs.Judged.{bytes_of_lines, lines_above, without_report, judged_at, judged_script, report_at, judged_report}

-- a byte more in the first line is a byte more in the bytes
front_bytes : (b : ℕ) (lines : List (List ℕ)) (n : ℕ) → suc n < length (in_front b lines) → (suc n < length lines) × (bytes_of_lines (take (suc n) (in_front b lines)) ≡ b ∷ bytes_of_lines (take (suc n) lines))
front_bytes b [] n below = absurd (omega arith)
front_bytes b (f ∷ fs) n below = (below, refl)

above_at : (b : ℕ) (bs : List ℕ) (n : ℕ) (e : Bool) → (b == 10) ≡ e
    → (n < length (lines_of_text bs) → take (length (bytes_of_lines (take n (lines_of_text bs)))) bs ≡ bytes_of_lines (take n (lines_of_text bs)))
    → (suc n < length (lines_of_text bs) → take (length (bytes_of_lines (take (suc n) (lines_of_text bs)))) bs ≡ bytes_of_lines (take (suc n) (lines_of_text bs)))
    → suc n < length (cond e ([] ∷ lines_of_text bs) (in_front b (lines_of_text bs)))
    → take (length (bytes_of_lines (take (suc n) (cond e ([] ∷ lines_of_text bs) (in_front b (lines_of_text bs)))))) (b ∷ bs)
    ≡ bytes_of_lines (take (suc n) (cond e ([] ∷ lines_of_text bs) (in_front b (lines_of_text bs))))
above_at b bs n true is ends goes lt = let same : b ≡ 10 = grind (arith, nat_tests) in rw same (ap (λ (l : List ℕ). 10 ∷ l) (ends (omega (arith, lt))))
above_at b bs n false is ends goes lt =
    let front = front_bytes b (lines_of_text bs) n lt in
    rw front.1 (ap (λ (l : List ℕ). b ∷ l) (goes front.0))

pub bytes_above : (text : List ℕ) (n : ℕ) → n < length (lines_of_text text) → take (length (bytes_of_lines (take n (lines_of_text text)))) text ≡ bytes_of_lines (take n (lines_of_text text))
unfolding lines_of_text
bytes_above text zero below = refl
bytes_above [] (suc n) below = absurd (omega arith)
bytes_above (b ∷ bs) (suc n) below = above_at b bs n (b == 10) refl (bytes_above bs n) (bytes_above bs (suc n)) below

-- all lines with their LFs have no byte more than the text and a last LF
whole_at : (b : ℕ) (e : Bool) (lines : List (List ℕ)) (n : ℕ) → length (bytes_of_lines lines) ≤ n + 1 → length (bytes_of_lines (cond e ([] ∷ lines) (in_front b lines))) ≤ suc n + 1
whole_at b true lines n few = omega (arith, few)
whole_at b false [] n few = omega arith
whole_at b false (f ∷ fs) n few = omega (arith, few)

bytes_whole : (text : List ℕ) → length (bytes_of_lines (lines_of_text text)) ≤ length text + 1
unfolding lines_of_text
bytes_whole [] = omega arith
bytes_whole (b ∷ bs) = whole_at b (b == 10) (lines_of_text bs) (length bs) (bytes_whole bs)

some_lines : (lines : List (List ℕ)) (n : ℕ) → length (bytes_of_lines (take n lines)) ≤ length (bytes_of_lines lines)
some_lines [] zero = omega arith
some_lines [] (suc n) = omega arith
some_lines (l ∷ ls) zero = omega arith
some_lines (l ∷ ls) (suc n) =
    let more = some_lines ls n in
    omega (arith, more, length-append (l ++ 10 ∷ []) (bytes_of_lines (take n ls)), length-append (l ++ 10 ∷ []) (bytes_of_lines ls))

-- the line is exactly `report`
abbrev is_report : List ℕ → Bool
is_report line = is_word line (codes "report")

-- the input was looked at up to this place, where these lines are left; the first line `report` is the first among them
pub record IsCutSoFar (input : List ℕ) (at : ℕ) (left : List (List ℕ)) : Type 0 where
  pub count : ℕ
  pub rest : drop count (lines_of_text input) ≡ left
  pub few : count ≤ length (lines_of_text input)
  pub place : at ≡ length (bytes_of_lines (take count (lines_of_text input)))
  pub search : lines_above input ≡ position_from (λ line. is_word line (codes "report")) count left

pub cut_begins : (input : List ℕ) → IsCutSoFar input 0 (lines_of_text input)
cut_begins input = record { count = 0; rest = refl; few = omega arith; place = refl; search = position_from-zero is_report (lines_of_text input) }

-- a line is left, so its bytes are there
behind_count : (input : List ℕ) (count : ℕ) (line : List ℕ) (others : List (List ℕ)) → drop count (lines_of_text input) ≡ line ∷ others → count < length (lines_of_text input)
behind_count input count line others rest = omega (arith, length-drop count (lines_of_text input), ap length rest)

line_bytes : (input : List ℕ) (count : ℕ) (line : List ℕ) (others : List (List ℕ)) → drop count (lines_of_text input) ≡ line ∷ others
    → bytes_of_lines (take (count + 1) (lines_of_text input)) ≡ bytes_of_lines (take count (lines_of_text input)) ++ (line ++ 10 ∷ [])
line_bytes input count line others rest =
    let below = behind_count input count line others rest in
    let lines = lines_of_text input in
    let at : line ∷ others ≡ get_or lines count [] ∷ drop (count + 1) lines = sym rest ∙ drop_more lines count [] below in
    let same : get_or lines count [] ≡ line = cc at in
    let last : (line ++ 10 ∷ []) ++ [] ≡ line ++ 10 ∷ [] = append-nil (line ++ 10 ∷ []) in
    ap bytes_of_lines (take_more lines count [] below ∙ ap (λ (l : List ℕ). take count lines ++ l ∷ []) same)
    ∙ (flat_map-append (λ (l : List ℕ). l ++ 10 ∷ []) (take count lines) (line ∷ []) ∙ ap (λ (l : List ℕ). bytes_of_lines (take count lines) ++ l) last)

pub cut_within : (input : List ℕ) (at : ℕ) (line : List ℕ) (others : List (List ℕ)) → IsCutSoFar input at (line ∷ others) → at ≤ length input
cut_within input at line others cut =
    let front = bytes_above input cut.count (behind_count input cut.count line others cut.rest) in
    omega (arith, cut.place, ap length front, length-take (length (bytes_of_lines (take cut.count (lines_of_text input)))) input)

pub cut_next : (input : List ℕ) (at : ℕ) (line : List ℕ) (others : List (List ℕ)) → IsCutSoFar input at (line ∷ others) → is_word line (codes "report") ≡ false
    → IsCutSoFar input (at + (length line + 1)) others
cut_next input at line others cut other =
    let lines = lines_of_text input in
    let below = behind_count input cut.count line others cut.rest in
    let behind : line ∷ others ≡ get_or lines cut.count [] ∷ drop (cut.count + 1) lines = sym cut.rest ∙ drop_more lines cut.count [] below in
    let bytes = line_bytes input cut.count line others cut.rest in
    record {
      count = cut.count + 1;
      rest = cc behind;
      few = omega (arith, below);
      place = omega (arith, cut.place, ap length bytes, length-append (bytes_of_lines (take cut.count lines)) (line ++ 10 ∷ []), length-append line (10 ∷ []));
      search = cut.search ∙ rw other refl;
    }

pub cut_line_within : (input : List ℕ) (at : ℕ) (line : List ℕ) (others : List (List ℕ)) → IsCutSoFar input at (line ∷ others) → at + length line ≤ length input
cut_line_within input at line others cut =
    let lines = lines_of_text input in
    let bytes = line_bytes input cut.count line others cut.rest in
    omega (arith, cut.place, ap length bytes, length-append (bytes_of_lines (take cut.count lines)) (line ++ 10 ∷ []), length-append line (10 ∷ []), some_lines lines (cut.count + 1), bytes_whole input)

drop_min : (xs : List ℕ) (n : ℕ) → drop (min (length xs) n) xs ≡ drop n xs
drop_min xs n = elim (cases_Bool (nat_le n (length xs))) [
  | inl y ↦ let small = leb-true n (length xs) y in let same : min (length xs) n ≡ n = omega (arith, small) in ap (λ (k : ℕ). drop k xs) same
  | inr z ↦ let large = leb-false n (length xs) z in drop_all (min (length xs) n) xs (omega (arith, large)) ∙ sym (drop_all n xs (omega (arith, large)))
]

pub cut_found : (input : List ℕ) (at behind : ℕ) (line : List ℕ) (others : List (List ℕ)) → IsCutSoFar input at (line ∷ others) → is_word line (codes "report") ≡ true
    → behind ≡ min (length input) (at + 6 + 1)
    → IsCutAt input (take at input) (take (length input - behind) (drop behind input))
cut_found input at behind line others cut same place =
    let bytes = bytes_of_lines (take cut.count (lines_of_text input)) in
    let front = bytes_above input cut.count (behind_count input cut.count line others cut.rest) in
    let seven : at + 6 + 1 ≡ length bytes + 7 = omega (arith, cut.place) in
    let whole : take (length input - behind) (drop behind input) ≡ drop behind input = take_all (length input - behind) (drop behind input) (omega (arith, length-drop behind input)) in
    record {
      count = cut.count;
      found = cut.search ∙ rw same refl;
      is_above = ap (λ (n : ℕ). take n input) cut.place ∙ front;
      is_behind = whole ∙ (ap (λ (n : ℕ). drop n input) place ∙ (drop_min input (at + 6 + 1) ∙ ap (λ (n : ℕ). drop n input) seven));
      script_within = omega (arith, length-take at input);
      report_within = omega (arith, length-take (length input - behind) (drop behind input), length-drop behind input);
    }

-- the whole input behind its end
pub none_behind : (input : List ℕ) → take (length input - length input) (drop (length input) input) ≡ []
none_behind input = let zero_left : length input - length input ≡ 0 = omega arith in rw zero_left refl

-- the report where the input was cut, and where it wasn't
pub report_cut : (input script report : List ℕ) → IsCutAt input script report → report ≡ judged_report input
unfolding judged_report
report_cut input script report cut = cut.is_behind ∙ sym (ap (report_at input) cut.found)

pub report_uncut : (input : List ℕ) → lines_above input ≡ None → take (length input - length input) (drop (length input) input) ≡ judged_report input
unfolding judged_report
report_uncut input none = none_behind input ∙ sym (ap (report_at input) none)

pub script_cut : (input script_bytes report : List ℕ) → IsCutAt input script_bytes report → script script_bytes ≡ judged_script input
unfolding judged_script
script_cut input script_bytes report cut = ap script cut.is_above ∙ sym (ap (judged_at input) cut.found)

pub script_uncut : (input : List ℕ) → lines_above input ≡ None → without_report (length (lines_of_text input)) (script input) ≡ judged_script input
unfolding judged_script
script_uncut input none = sym (ap (judged_at input) none)

lines_at : (b : ℕ) (e : Bool) (lines : List (List ℕ)) (n : ℕ) → length lines ≤ n → length (cond e ([] ∷ lines) (in_front b lines)) ≤ suc n
lines_at b true lines n few = omega (arith, few)
lines_at b false [] n few = omega arith
lines_at b false (f ∷ fs) n few = omega (arith, few)

-- a text has no more lines than bytes
pub lines_few : (text : List ℕ) → length (lines_of_text text) ≤ length text
unfolding lines_of_text
lines_few [] = omega arith
lines_few (b ∷ bs) = lines_at b (b == 10) (lines_of_text bs) (length bs) (lines_few bs)

pub faults_without : (count : ℕ) (e : ScriptFault) (r : Result ScriptValue Bad) → Faults e r → Faults e (without_report count r)
faults_without count (fault.Bad line kind) r is = ap (without_report count) is
faults_without count fault.OutOfMemory r is = tt
