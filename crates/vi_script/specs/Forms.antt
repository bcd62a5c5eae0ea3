-- The forms of statements: which words stand where. Words are taken by position.
use Rattle.std.specs.Prelude.{◌==◌, ℕ, Bool, true, false, if◌then◌else◌, List, [], ◌∷◌, Option, Some, None, codes}
use Rattle.std.specs.List.{before_first, after_first}
use Rattle.vi_bytes.specs.declared.region.RegionKind.{RegionKind}
use Rattle.vi_bytes.specs.declared.region.RegionKind.TheVariants.{Reserved, Msi}
use Rattle.vi_history.specs.declared.call.Caller.{Caller}
use Rattle.vi_history.specs.declared.call.Caller.TheVariants.{Driver, Back}
use Rattle.vi_words.specs.Numbers.{name_number_of}
use Rattle.vi_words.specs.Words.{is_word}
use Rattle.vi_lines.specs.declared.line.Await.{Await}
use Rattle.vi_lines.specs.declared.line.Who.{Who}
use Rattle.vi_lines.specs.declared.line.Who.TheVariants as who

-- go on with a value, if there is one
infixl 10 ◌>>=◌
abbrev pub ◌>>=◌ : {A B : Type 0} → Option A → (A → Option B) → Option B
None >>= f = None
(Some x) >>= f = f x

-- a caller's name: d and a driver's number, or b and an endpoint's id
abbrev pub caller_of : List ℕ → Option Caller
caller_of [] = None
caller_of (b ∷ digits) =
    if b == 100 then name_number_of digits >>= (λ number. Some (Driver number)) else (
    if b == 98 then name_number_of digits >>= (λ id. Some (Back id)) else None)

-- an awaited word: a caller's name, a dot, and the number of one of its lines
unfoldable pub await_of : List ℕ → Option Await
await_of word = do
  caller ← caller_of (before_first (λ b. b == 46) word)
  line ← name_number_of (after_first (λ b. b == 46) word)
  Some (record { caller = caller; line = line })

-- all words are awaited words
abbrev pub awaits_in_words : List (List ℕ) → Option (List Await)
awaits_in_words [] = Some []
awaits_in_words (word ∷ words) = do
  first ← await_of word
  others ← awaits_in_words words
  Some (first ∷ others)

-- the words behind the word after, of which there is one or more
abbrev pub some_awaits : List (List ℕ) → Option (List Await)
some_awaits [] = None
some_awaits (word ∷ words) = awaits_in_words (word ∷ words)

-- how an actor line may end: with nothing, or with after and awaited words
abbrev pub ending_of : List (List ℕ) → Option (List Await)
ending_of [] = Some []
ending_of (word ∷ words) = if is_word word (codes "after") then some_awaits words else None

-- a turn: a caller's name, the device, or the event reader
abbrev pub turn_of_caller : Caller → Who
turn_of_caller (Driver number) = who.Driver number
turn_of_caller (Back id) = who.Back id

abbrev pub turn_of : List ℕ → Option Who
turn_of word =
    if is_word word (codes "dev") then Some who.Device else (
    if is_word word (codes "evt") then Some who.Events else
    (caller_of word >>= (λ caller. Some (turn_of_caller caller))))

-- all words are turns
abbrev pub turns_in_words : List (List ℕ) → Option (List Who)
turns_in_words [] = Some []
turns_in_words (word ∷ words) = do
  first ← turn_of word
  others ← turns_in_words words
  Some (first ∷ others)

-- what an actor line does, its numbers and bytes still words
pub data Deed : Type 0 where
  Attaches : (domain endpoint : List ℕ) → (bypass : Bool) → Deed
  Detaches : (domain endpoint : List ℕ) → Deed
  Maps : (domain first last target : List ℕ) → (flags : ℕ) → Deed
  Unmaps : (domain first last : List ℕ) → Deed
  Probes : (endpoint : List ℕ) → Deed
  SetsBypass : (on : Bool) → Deed
  SendsRaw : (hex writable : List ℕ) → Deed
  Reads : (iova len : List ℕ) → Deed
  Writes : (iova hex : List ℕ) → Deed

-- what an actor line does, whether its driver goes on without waiting, and which lines it awaits
pub record Act : Type 0 where
  pub deed : Deed
  pub add : Bool
  pub awaits : List Await

-- a statement, its numbers and bytes still words
pub data Form : Type 0 where
  SetsMemory : (pages : List ℕ) → Form
  SetsQueue : (size : List ℕ) → Form
  SetsCache : (entries : List ℕ) → Form
  SetsGranule : (granule : List ℕ) → Form
  SetsInput : (first last : List ℕ) → Form
  StartsBypass : (on : Bool) → Form
  StartsEvents : (on : Bool) → Form
  DeclaresEndpoint : (id : List ℕ) → Form
  Reserves : (endpoint : List ℕ) → (kind : RegionKind) → (first last : List ℕ) → Form
  TakesTurns : (turns : List Who) → Form
  Acts : (caller : Caller) → (act : Act) → Form

-- on or off, and nothing behind it
abbrev pub switch_of : List ℕ → Option Bool
switch_of word =
    if is_word word (codes "on") then Some true else (
    if is_word word (codes "off") then Some false else None)

-- a deed with this ending
abbrev pub act_with : Bool → Deed → List (List ℕ) → Option Act
act_with add deed words = ending_of words >>= (λ awaits. Some (record { deed = deed; add = add; awaits = awaits }))

-- behind the numbers of an attach: bypass, or not
abbrev pub attach_ending : Bool → (Bool → Deed) → List (List ℕ) → Option Act
attach_ending add attaches [] = act_with add (attaches false) []
attach_ending add attaches (word ∷ words) =
    if is_word word (codes "bypass") then act_with add (attaches true) words else act_with add (attaches false) (word ∷ words)

-- behind the numbers of a map: r, w or rw, or none of them
abbrev pub map_ending : Bool → (ℕ → Deed) → List (List ℕ) → Option Act
map_ending add maps [] = act_with add (maps 0) []
map_ending add maps (word ∷ words) =
    if is_word word (codes "r") then act_with add (maps 1) words else (
    if is_word word (codes "w") then act_with add (maps 2) words else (
    if is_word word (codes "rw") then act_with add (maps 3) words else
    act_with add (maps 0) (word ∷ words)))

abbrev pub attach_act : Bool → List (List ℕ) → Option Act
attach_act add (domain ∷ endpoint ∷ words) = attach_ending add (λ bypass. Attaches domain endpoint bypass) words
attach_act add _ = None

abbrev pub detach_act : Bool → List (List ℕ) → Option Act
detach_act add (domain ∷ endpoint ∷ words) = act_with add (Detaches domain endpoint) words
detach_act add _ = None

abbrev pub map_act : Bool → List (List ℕ) → Option Act
map_act add (domain ∷ first ∷ last ∷ target ∷ words) = map_ending add (λ flags. Maps domain first last target flags) words
map_act add _ = None

abbrev pub unmap_act : Bool → List (List ℕ) → Option Act
unmap_act add (domain ∷ first ∷ last ∷ words) = act_with add (Unmaps domain first last) words
unmap_act add _ = None

abbrev pub probe_act : Bool → List (List ℕ) → Option Act
probe_act add (endpoint ∷ words) = act_with add (Probes endpoint) words
probe_act add _ = None

abbrev pub raw_act : Bool → List (List ℕ) → Option Act
raw_act add (hex ∷ writable ∷ words) = act_with add (SendsRaw hex writable) words
raw_act add _ = None

abbrev pub bypass_act : List (List ℕ) → Option Act
bypass_act (word ∷ words) = switch_of word >>= (λ on. act_with false (SetsBypass on) words)
bypass_act _ = None

abbrev pub read_act : List (List ℕ) → Option Act
read_act (iova ∷ len ∷ words) = act_with false (Reads iova len) words
read_act _ = None

abbrev pub write_act : List (List ℕ) → Option Act
write_act (iova ∷ hex ∷ words) = act_with false (Writes iova hex) words
write_act _ = None

-- a driver's request, by its verb
abbrev pub request_act : Bool → List (List ℕ) → Option Act
request_act add [] = None
request_act add (verb ∷ words) =
    if is_word verb (codes "attach") then attach_act add words else (
    if is_word verb (codes "detach") then detach_act add words else (
    if is_word verb (codes "map") then map_act add words else (
    if is_word verb (codes "unmap") then unmap_act add words else (
    if is_word verb (codes "probe") then probe_act add words else (
    if is_word verb (codes "raw") then raw_act add words else None)))))

-- what a driver does: a bypass setting, add and a request, or a request that it waits for
abbrev pub driver_act : List (List ℕ) → Option Act
driver_act [] = None
driver_act (verb ∷ words) =
    if is_word verb (codes "bypass") then bypass_act words else (
    if is_word verb (codes "add") then request_act true words else
    request_act false (verb ∷ words))

-- what a back end does, by its verb
abbrev pub back_act : List (List ℕ) → Option Act
back_act [] = None
back_act (verb ∷ words) =
    if is_word verb (codes "read") then read_act words else (
    if is_word verb (codes "write") then write_act words else None)

abbrev pub act_of : Caller → List (List ℕ) → Option Act
act_of (Driver number) words = driver_act words
act_of (Back id) words = back_act words

-- settings of one number, of a switch, of a range
abbrev pub number_form : (List ℕ → Form) → List (List ℕ) → Option Form
number_form sets (number ∷ []) = Some (sets number)
number_form sets _ = None

abbrev pub switch_form : (Bool → Form) → List (List ℕ) → Option Form
switch_form sets (word ∷ []) = switch_of word >>= (λ on. Some (sets on))
switch_form sets _ = None

abbrev pub input_form : List (List ℕ) → Option Form
input_form (first ∷ last ∷ []) = Some (SetsInput first last)
input_form _ = None

-- the kind of a region
abbrev pub kind_of : List ℕ → Option RegionKind
kind_of word =
    if is_word word (codes "reserved") then Some Reserved else (
    if is_word word (codes "msi") then Some Msi else None)

abbrev pub reserve_form : List (List ℕ) → Option Form
reserve_form (endpoint ∷ kind ∷ first ∷ last ∷ []) = kind_of kind >>= (λ k. Some (Reserves endpoint k first last))
reserve_form _ = None

-- turns, of which there is one or more
abbrev pub turns_form : List (List ℕ) → Option Form
turns_form [] = None
turns_form (word ∷ words) = turns_in_words (word ∷ words) >>= (λ turns. Some (TakesTurns turns))

abbrev pub actor_form : Caller → List (List ℕ) → Option Form
actor_form caller words = act_of caller words >>= (λ act. Some (Acts caller act))

abbrev pub line_form : Option Caller → List (List ℕ) → Option Form
line_form caller words = caller >>= (λ c. actor_form c words)

-- the form that the words of a line have: a setting by its first word, or an actor line behind its caller's name
unfoldable pub form_of : List (List ℕ) → Option Form
form_of [] = None
form_of (first ∷ words) =
    if is_word first (codes "memory") then number_form SetsMemory words else (
    if is_word first (codes "queue") then number_form SetsQueue words else (
    if is_word first (codes "cache") then number_form SetsCache words else (
    if is_word first (codes "granule") then number_form SetsGranule words else (
    if is_word first (codes "input") then input_form words else (
    if is_word first (codes "bypass") then switch_form StartsBypass words else (
    if is_word first (codes "events") then switch_form StartsEvents words else (
    if is_word first (codes "endpoint") then number_form DeclaresEndpoint words else (
    if is_word first (codes "reserve") then reserve_form words else (
    if is_word first (codes "turns") then turns_form words else
    line_form (caller_of first) words)))))))))
