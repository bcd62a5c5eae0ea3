-- Reading the lines of a report. Each reader takes what it reads from the front of the bytes, and gives it with
-- the bytes that follow it, or nothing where it doesn't stand there. A line is read up to and with its LF.
use Rattle.std.specs.Prelude.{ℕ, ◌+◌, ◌-◌, ◌^◌, ◌==◌, Bool, true, false, not, ◌&&◌, ◌||◌, nat_lt, nat_le, if◌then◌else◌, List, [], ◌∷◌, length, drop, take_while, codes, Option, Some, None, option_and_then}
use Rattle.std.specs.List.{prefix_len}
use Rattle.std.specs.Option.{option_or}
use Rattle.std.specs.Result.{result_ok}
use Rattle.std.specs.Char.{is_ascii_digit}
use Rattle.std.specs.Str.Parse.{digits_value}
use Rattle.hex.specs.Hex.{decode_of}
use Rattle.vi_history.specs.declared.call.Caller.TheVariants.{Driver, Back}
use Rattle.vi_history.specs.declared.entry.Entry.{Entry}
use Rattle.vi_history.specs.declared.entry.Kind.{Kind}
use Rattle.vi_history.specs.declared.entry.Kind.TheVariants.{Status, Probed, Nothing, Set, Read, Wrote, Fault}
use Rattle.vi_history.specs.declared.outcome.Shown.{Shown}
use Rattle.vi_report.specs.declared.reading.answer.Answer.{Answer}
use Rattle.vi_report.specs.declared.reading.line.FaultCounts.{FaultCounts}
use Rattle.vi_report.specs.declared.reading.name.Name.{Name}

-- the next step, with what the step before it found
infixl 10 ◌>>=◌
abbrev pub ◌>>=◌ : {A B : Type 0} → Option A → (A → Option B) → Option B
o >>= f = option_and_then f o

-- a step that only tests
abbrev pub only_if : {A : Type 0} → Bool → A → Option A
only_if test x = if test then Some x else None

-- what follows this text
unfoldable pub after : List ℕ → List ℕ → Option (List ℕ)
after [] bytes = Some bytes
after (c ∷ cs) [] = None
after (c ∷ cs) (b ∷ bytes) = if b == c then after cs bytes else None

-- there is a digit, and no needless 0 in front
abbrev pub is_plain : List ℕ → Bool
is_plain [] = false
is_plain (c ∷ []) = true
is_plain (c ∷ d ∷ ds) = not (c == 48)

-- a number below the limit, in decimal without needless zeros
unfoldable pub number_at : ℕ → List ℕ → Option (ℕ × List ℕ)
number_at limit bytes =
    let digits = take_while is_ascii_digit bytes in
    only_if (is_plain digits && nat_lt (digits_value 10 digits) limit) (digits_value 10 digits, drop (prefix_len is_ascii_digit bytes) bytes)

-- a number from 1 and below the limit
unfoldable pub count_at : ℕ → List ℕ → Option (ℕ × List ℕ)
count_at limit bytes = do
  n ← number_at limit bytes
  only_if (nat_lt 0 n.0) n

-- one of the digits `0` to `9` and `a` to `f`
abbrev pub is_lower_digit : ℕ → Bool
is_lower_digit c = is_ascii_digit c || (nat_le 97 c && nat_le c 102)

-- bytes as lower-case digits, two for each
unfoldable pub bytes_at : List ℕ → Option (List ℕ × List ℕ)
bytes_at bytes = do
  read ← result_ok (decode_of (take_while is_lower_digit bytes))
  Some (read, drop (prefix_len is_lower_digit bytes) bytes)

-- this many bytes
unfoldable pub sized_at : ℕ → List ℕ → Option (List ℕ × List ℕ)
sized_at size bytes = do
  read ← bytes_at bytes
  only_if (length read.0 == size) read

-- `dJ.L`: drivers are 0 to 7, lines count from 1
unfoldable pub driver_at : List ℕ → Option (Name × List ℕ)
driver_at bytes = do
  number_text ← after (codes "d") bytes
  number ← number_at 8 number_text
  line_text ← after (codes ".") number.1
  line ← count_at (2 ^ 32) line_text
  Some (record { caller = Driver number.0; line = line.0; part = 0 }, line.1)

-- `bE.L.P`: lines and parts count from 1
unfoldable pub back_at : List ℕ → Option (Name × List ℕ)
back_at bytes = do
  endpoint_text ← after (codes "b") bytes
  endpoint ← number_at (2 ^ 32) endpoint_text
  line_text ← after (codes ".") endpoint.1
  line ← count_at (2 ^ 32) line_text
  part_text ← after (codes ".") line.1
  part ← count_at (2 ^ 32) part_text
  Some (record { caller = Back endpoint.0; line = line.0; part = part.0 }, part.1)

-- the name of a call
abbrev pub name_at : List ℕ → Option (Name × List ℕ)
name_at bytes = option_or (driver_at bytes) (back_at bytes)

-- the word that an answer of this kind begins with, and the space behind it where more follows
abbrev pub word_of : Kind → List ℕ
word_of Status = codes "status "
word_of Probed = codes "probed "
word_of Nothing = codes "nothing"
word_of Set = codes "set"
word_of Read = codes "read "
word_of Wrote = codes "wrote"
word_of Fault = codes "fault "

-- the word of this kind
abbrev pub word_at : Kind → List ℕ → Option (Kind × List ℕ)
word_at kind bytes = do
  rest ← after (word_of kind) bytes
  Some (kind, rest)

-- the word of some kind
unfoldable pub kind_at : List ℕ → Option (Kind × List ℕ)
kind_at bytes =
    option_or (word_at Status bytes) (option_or (word_at Probed bytes) (option_or (word_at Nothing bytes) (option_or (word_at Set bytes)
    (option_or (word_at Read bytes) (option_or (word_at Wrote bytes) (word_at Fault bytes))))))

-- a status or a reason, which is below 256
unfoldable pub code_at : Kind → List ℕ → Option (Answer × List ℕ)
code_at kind bytes = do
  code ← number_at 256 bytes
  Some (record { kind = kind; code = code.0; bytes = [] }, code.1)

-- a status and 512 bytes
unfoldable pub properties_at : List ℕ → Option (Answer × List ℕ)
properties_at bytes = do
  code ← number_at 256 bytes
  properties_text ← after (codes " ") code.1
  properties ← sized_at 512 properties_text
  Some (record { kind = Probed; code = code.0; bytes = properties.0 }, properties.1)

-- 1 to 4096 bytes
unfoldable pub read_at : List ℕ → Option (Answer × List ℕ)
read_at bytes = do
  read ← bytes_at bytes
  only_if (nat_le 1 (length read.0) && nat_le (length read.0) 4096) (record { kind = Read; code = 0; bytes = read.0 }, read.1)

-- what an answer of this kind says behind its word
abbrev pub said_at : Kind → List ℕ → Option (Answer × List ℕ)
said_at Status bytes = code_at Status bytes
said_at Probed bytes = properties_at bytes
said_at Nothing bytes = Some (record { kind = Nothing; code = 0; bytes = [] }, bytes)
said_at Set bytes = Some (record { kind = Set; code = 0; bytes = [] }, bytes)
said_at Read bytes = read_at bytes
said_at Wrote bytes = Some (record { kind = Wrote; code = 0; bytes = [] }, bytes)
said_at Fault bytes = code_at Fault bytes

-- an answer: the word of its kind, and what it says behind it
unfoldable pub answer_at : List ℕ → Option (Answer × List ℕ)
answer_at bytes = do
  kind ← kind_at bytes
  said_at kind.0 kind.1

-- the entry of this call and answer
abbrev pub entry_of : Name → Answer → Entry
entry_of name answer =
    record { mark = record { caller = name.caller; line = name.line; part = name.part; kind = answer.kind; code = answer.code }; bytes = answer.bytes }

-- this number of an entry and the entry's name, each with a space behind it
unfoldable pub call_at : ℕ → List ℕ → Option (Name × List ℕ)
call_at number bytes = do
  read ← number_at (2 ^ 32) bytes
  name_text ← after (codes " ") read.1
  name ← name_at name_text
  answer_text ← after (codes " ") name.1
  only_if (read.0 == number) (name.0, answer_text)

-- the line of the entry with this number
unfoldable pub entry_at : ℕ → List ℕ → Option (Entry × List ℕ)
entry_at number bytes = do
  name ← call_at number bytes
  answer ← answer_at name.1
  rest ← after (codes "\n") answer.1
  Some (entry_of name.0 answer.0, rest)

-- the first line: the number of entries
unfoldable pub head_at : List ℕ → Option (ℕ × List ℕ)
head_at bytes = do
  count_text ← after (codes "viommu history ") bytes
  count ← number_at (2 ^ 32) count_text
  rest ← after (codes "\n") count.1
  Some (count.0, rest)

-- the line with the counts of faults, of which the first is the sum of the others
unfoldable pub faults_at : List ℕ → Option (FaultCounts × List ℕ)
faults_at bytes = do
  all_text ← after (codes "faults ") bytes
  all ← number_at (2 ^ 33) all_text
  shown_text ← after (codes " shown ") all.1
  shown ← number_at (2 ^ 32 - 1) shown_text
  dropped_text ← after (codes " dropped ") shown.1
  dropped ← number_at (2 ^ 32) dropped_text
  rest ← after (codes "\n") dropped.1
  only_if (all.0 == shown.0 + dropped.0) (record { shown = shown.0; dropped = dropped.0 }, rest)

-- the line of a delivered record, in a report of this many entries: the number of one of them, and 24 bytes
unfoldable pub record_at : ℕ → List ℕ → Option (Shown × List ℕ)
record_at count bytes = do
  entry ← count_at (count + 1) bytes
  record_text ← after (codes " ") entry.1
  read ← sized_at 24 record_text
  rest ← after (codes "\n") read.1
  Some (record { entry = entry.0; bytes = read.0 }, rest)
