-- Statements: forms with their numbers and bytes read, or what is wrong with these.
use Rattle.std.specs.Prelude.{ℕ, Bool, true, false, nat_lt, ◌&&◌, if◌then◌else◌, List, [], Option, Some, None, Result, Ok, Err, codes}
use Rattle.std.specs.List.{list_all}
use Rattle.vi_bytes.specs.declared.span.Span.{Span}
use Rattle.vi_bytes.specs.declared.region.Region.{Region}
use Rattle.vi_history.specs.declared.call.Caller.{Caller}
use Rattle.vi_history.specs.declared.call.Caller.TheVariants.{Driver, Back}
use Rattle.vi_history.specs.declared.request.Request.TheVariants as request
use Rattle.vi_words.specs.Numbers.{number_of, hex_of}
use Rattle.vi_words.specs.Words.{is_word}
use Rattle.vi_script.specs.declared.fault.BadKind.{BadKind}
use Rattle.vi_script.specs.declared.fault.BadKind.TheVariants as bad
use Rattle.vi_lines.specs.declared.job.Job.{Job}
use Rattle.vi_lines.specs.declared.job.Job.TheVariants as job
use Rattle.vi_lines.specs.declared.line.Line.{Line}
use Rattle.vi_lines.specs.declared.line.Await.{Await}
use Rattle.vi_lines.specs.declared.line.Who.{Who}
use Rattle.vi_lines.specs.declared.line.Who.TheVariants as who
use Rattle.vi_script.specs.Forms.{Act, Form, SetsMemory, SetsQueue, SetsCache, SetsGranule, SetsInput, StartsBypass, StartsEvents, DeclaresEndpoint, Reserves, TakesTurns, Acts, Deed, Attaches, Detaches, Maps, Unmaps, Probes, SetsBypass, SendsRaw, Reads, Writes}

-- a statement of a script
pub data Statement : Type 0 where
  Memory : (pages : ℕ) → Statement
  Queue : (size : ℕ) → Statement
  Cache : (entries : ℕ) → Statement
  Granule : (granule : ℕ) → Statement
  Input : (span : Span) → Statement
  Bypass : (on : Bool) → Statement
  Events : (on : Bool) → Statement
  Endpoint : (id : ℕ) → Statement
  Reserve : (endpoint : ℕ) → (region : Region) → Statement
  Turns : (turns : List Who) → Statement
  Actor : (line : Line) → Statement

-- go on with what was read, or stop at what is wrong
infixl 10 ◌>>=◌
abbrev pub ◌>>=◌ : {A B : Type 0} → Result A BadKind → (A → Result B BadKind) → Result B BadKind
(Ok x) >>= f = f x
(Err kind) >>= f = Err kind

-- what is there, or this kind of refusal
abbrev pub or_bad : {A : Type 0} → BadKind → Option A → Result A BadKind
or_bad kind None = Err kind
or_bad kind (Some x) = Ok x

-- a word in a number's place
abbrev pub number_at : List ℕ → Result ℕ BadKind
number_at word = or_bad bad.Number (number_of word)

-- a domain or an endpoint is below 2^32
abbrev pub below_32_bits : ℕ → Result ℕ BadKind
below_32_bits n = if nat_lt n 4294967296 then Ok n else Err bad.Number

abbrev pub id_at : List ℕ → Result ℕ BadKind
id_at word = number_at word >>= (λ n. below_32_bits n)

-- a word in the place of bytes; for a raw request - stands for no bytes
abbrev pub bytes_at : List ℕ → Result (List ℕ) BadKind
bytes_at word = or_bad bad.Hex (hex_of word)

abbrev pub raw_bytes_at : List ℕ → Result (List ℕ) BadKind
raw_bytes_at word = if is_word word (codes "-") then Ok [] else bytes_at word

-- an endpoint's id in a name is below 2^32, and so is the number of an awaited line
abbrev pub fits : Caller → Bool
fits (Driver number) = true
fits (Back id) = nat_lt id 4294967296

abbrev pub await_fits : Await → Bool
await_fits a = fits a.caller && nat_lt a.line 4294967296

abbrev pub turn_fits : Who → Bool
turn_fits (who.Driver number) = true
turn_fits (who.Back id) = nat_lt id 4294967296
turn_fits who.Device = true
turn_fits who.Events = true

-- the flags of an attach
abbrev pub bypass_flag : Bool → ℕ
bypass_flag true = 1
bypass_flag false = 0

-- the job of an actor line: its numbers are read first, and then its bytes
abbrev pub job_of : Deed → Result Job BadKind
job_of (Attaches domain endpoint bypass) = do
  d ← id_at domain
  e ← id_at endpoint
  Ok (job.Ask (request.Attach d e (bypass_flag bypass)))
job_of (Detaches domain endpoint) = do
  d ← id_at domain
  e ← id_at endpoint
  Ok (job.Ask (request.Detach d e))
job_of (Maps domain first last target flags) = do
  d ← id_at domain
  a ← number_at first
  b ← number_at last
  t ← number_at target
  Ok (job.Ask (request.Map d a b t flags))
job_of (Unmaps domain first last) = do
  d ← id_at domain
  a ← number_at first
  b ← number_at last
  Ok (job.Ask (request.Unmap d a b))
job_of (Probes endpoint) = do
  e ← id_at endpoint
  Ok (job.Ask (request.Probe e))
job_of (SetsBypass on) = Ok (job.Bypass on)
job_of (SendsRaw hex writable) = do
  w ← number_at writable
  bytes ← raw_bytes_at hex
  Ok (job.Raw bytes w)
job_of (Reads iova len) = do
  a ← number_at iova
  n ← number_at len
  Ok (job.Read a n)
job_of (Writes iova hex) = do
  a ← number_at iova
  bytes ← bytes_at hex
  Ok (job.Write a bytes)

-- the names of the line fit
abbrev pub names_fit : Caller → List Await → Bool
names_fit caller awaits = fits caller && list_all (λ a. await_fits a) awaits

-- the line of a caller that does and awaits this
abbrev pub line_with : Caller → Act → Result Line BadKind
line_with caller act =
    if names_fit caller act.awaits then job_of act.deed >>= (λ j. Ok (record { caller = caller; job = j; add = act.add; awaits = act.awaits })) else Err bad.Number

-- the range from a number to a number
abbrev pub span_at : List ℕ → List ℕ → Result Span BadKind
span_at first last = do
  a ← number_at first
  b ← number_at last
  Ok (record { first = a; last = b })

-- the statement of a form
abbrev pub statement_of : Form → Result Statement BadKind
statement_of (SetsMemory pages) = number_at pages >>= (λ n. Ok (Memory n))
statement_of (SetsQueue size) = number_at size >>= (λ n. Ok (Queue n))
statement_of (SetsCache entries) = number_at entries >>= (λ n. Ok (Cache n))
statement_of (SetsGranule granule) = number_at granule >>= (λ n. Ok (Granule n))
statement_of (SetsInput first last) = span_at first last >>= (λ span. Ok (Input span))
statement_of (StartsBypass on) = Ok (Bypass on)
statement_of (StartsEvents on) = Ok (Events on)
statement_of (DeclaresEndpoint id) = id_at id >>= (λ n. Ok (Endpoint n))
statement_of (Reserves endpoint kind first last) = do
  e ← id_at endpoint
  span ← span_at first last
  Ok (Reserve e (record { kind = kind; span = span }))
statement_of (TakesTurns turns) = if list_all (λ t. turn_fits t) turns then Ok (Turns turns) else Err bad.Number
statement_of (Acts caller act) = line_with caller act >>= (λ l. Ok (Actor l))
