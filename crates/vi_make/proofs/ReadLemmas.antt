-- A text that is read to its end, line by line.
use Rattle.std.proofs.Common.{◌≡◌, ℕ, ◌+◌, List, [], ◌∷◌, ◌++◌, length, refl, ap, subst, ◌∙◌, append_assoc, arith}
use Rattle.vi_history.specs.declared.call.Caller.{Caller}
use Rattle.vi_words.specs.Words.{lines_of_text}
use Rattle.vi_lines.specs.declared.line.Line.{Line}
use Rattle.vi_script.specs.Forms.{Act}
use Rattle.vi_script.specs.Said.{Said}
use Rattle.vi_script.specs.Texts.{said_from}
use Rattle.vi_make.proofs.WordLemmas.{joined, has_bad_byte-joined, lines_of_text-line}
use Rattle.vi_make.proofs.JudgeLemmas.{with_line, IsModest, HasRoom, AreLine, judge-line}
use Rattle.vi_make.proofs.TextLemmas.{ended, ended-joined}

-- So many lines from this number on are read, whatever follows them: they say the one below the other.
pub record AreRead (number : ℕ) (said : Said) (text : List ℕ) (count : ℕ) (next : Said) : Type 0 where
  pub read : (rest : List ℕ) → said_from number said (lines_of_text (text ++ rest)) ≡ said_from (number + count) next (lines_of_text rest)
  pub counted : (rest : List ℕ) → length (lines_of_text (text ++ rest)) ≡ count + length (lines_of_text rest)

pub read-none : (number : ℕ) (said : Said) → AreRead number said [] 0 said
read-none number said =
    let e : number + 0 ≡ number = omega arith in
    record { read = λ rest. rw e refl; counted = λ rest. omega arith }

pub read-both : (number : ℕ) (said : Said) (text : List ℕ) (count : ℕ) (next : Said) (more : List ℕ) (others : ℕ) (last : Said)
    → AreRead number said text count next → AreRead (number + count) next more others last → AreRead number said (text ++ more) (count + others) last
read-both number said text count next more others last first second =
    record {
      read = λ rest.
          let whole : text ++ more ++ rest ≡ text ++ (more ++ rest) = append_assoc text more rest in
          let sum : number + count + others ≡ number + (count + others) = omega arith in
          ap (λ xs. said_from number said (lines_of_text xs)) whole ∙ (first.read (more ++ rest) ∙ (second.read rest ∙ ap (λ n. said_from n last (lines_of_text rest)) sum));
      counted = λ rest.
          let whole : text ++ more ++ rest ≡ text ++ (more ++ rest) = append_assoc text more rest in
          let one = first.counted (more ++ rest) in
          let two = second.counted rest in
          ap (λ xs. length (lines_of_text xs)) whole ∙ (let sum : length (lines_of_text (text ++ (more ++ rest))) ≡ count + others + length (lines_of_text rest) = omega arith in sum);
    }

pub read-line : (number : ℕ) (said : Said) (text : List ℕ) (words : List (List ℕ)) (caller : Caller) (act : Act) (l : Line)
    → text ≡ ended words → AreLine words caller act l → IsModest l → HasRoom said number l → AreRead number said text 1 (with_line said l)
read-line number said text words caller act l is are modest room =
    let cut : (rest : List ℕ) → lines_of_text (text ++ rest) ≡ joined words ∷ lines_of_text rest =
    λ rest.
    ap (λ xs. lines_of_text (xs ++ rest)) (is ∙ ended-joined words)
    ∙ (ap lines_of_text (append_assoc (joined words) (10 ∷ []) rest) ∙ lines_of_text-line (joined words) rest (has_bad_byte-joined words are.plain)) in
    record {
      read = λ rest. ap (λ ls. said_from number said ls) (cut rest) ∙ rw (judge-line said number words caller act l are modest room) refl;
      counted = λ rest. ap length (cut rest) ∙ (let e : length (joined words ∷ lines_of_text rest) ≡ 1 + length (lines_of_text rest) = omega arith in e);
    }

pub read-as : (number : ℕ) (said : Said) (text other : List ℕ) (count total : ℕ) (next : Said) → text ≡ other → count ≡ total → AreRead number said text count next → AreRead number said other total next
read-as number said text other count total next same sum are =
    subst (λ n. AreRead number said other n next) sum (subst (λ xs. AreRead number said xs count next) same are)
