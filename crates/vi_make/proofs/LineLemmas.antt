-- The words of each line of the load script, and what they say.
use Rattle.std.proofs.Common.{◌≡◌, ℕ, ◌^◌, ◌<◌, false, List, [], ◌∷◌, ◌++◌, Some, decimal, codes, refl, arith}
use Rattle.std.proofs.lemmas.Bool.{lt-ltb}
use Rattle.hex.specs.Hex.{IsBytes, encode_lower}
use Rattle.vi_history.specs.declared.call.Caller.TheVariants.{Driver, Back}
use Rattle.vi_history.specs.declared.request.Request.{Request}
use Rattle.vi_history.specs.declared.request.Request.TheVariants.{Attach, Map, Unmap}
use Rattle.vi_words.specs.Numbers.{number_of, digits_in}
use Rattle.vi_lines.specs.declared.job.Job.{Job}
use Rattle.vi_lines.specs.declared.job.Job.TheVariants as job
use Rattle.vi_lines.specs.declared.line.Line.{Line}
use Rattle.vi_lines.specs.declared.line.Await.{Await}
use Rattle.vi_script.specs.Forms.{Act, Deed, Attaches, Maps, Unmaps, Reads, Writes, form_of}
use Rattle.vi_make.proofs.NumberLemmas.{number_of-decimal, hex_of-encode, are_plain-decimal, is_plain_word-decimal, is_plain_word-encode}
use Rattle.vi_make.proofs.NameLemmas.{awaits, caller_of-driver, caller_of-back, is_word-back, await_of-driver, await_of-back, are_plain-await}
use Rattle.vi_make.proofs.JudgeLemmas.{AreLine}

-- a request of a driver, and a transfer of an endpoint
abbrev pub asks : ℕ → Request → List Await → Line
asks driver request awaited = record { caller = Driver driver; job = job.Ask request; add = false; awaits = awaited }

abbrev pub transfers : ℕ → Job → List Await → Line
transfers endpoint what awaited = record { caller = Back endpoint; job = what; add = false; awaits = awaited }

abbrev pub does : Deed → List Await → Act
does deed awaited = record { deed = deed; add = false; awaits = awaited }

-- the names of a driver and of an endpoint, and of their lines
abbrev pub driver_name : ℕ → List ℕ
driver_name driver = 100 ∷ decimal driver

abbrev pub back_name : ℕ → List ℕ
back_name endpoint = 98 ∷ decimal endpoint

abbrev pub driver_await : ℕ → ℕ → List ℕ
driver_await driver line = 100 ∷ (decimal driver ++ 46 ∷ decimal line)

abbrev pub back_await : ℕ → ℕ → List ℕ
back_await endpoint line = 98 ∷ (decimal endpoint ++ 46 ∷ decimal line)

-- ---- the words

abbrev pub attach_words : ℕ → ℕ → List (List ℕ)
attach_words driver endpoint = driver_name driver ∷ codes "attach" ∷ decimal endpoint ∷ decimal endpoint ∷ []

abbrev pub first_map_words : ℕ → ℕ → ℕ → ℕ → ℕ → List (List ℕ)
first_map_words driver endpoint first last target =
    driver_name driver ∷ codes "map" ∷ decimal endpoint ∷ decimal first ∷ decimal last ∷ decimal target ∷ codes "rw" ∷ []

abbrev pub map_words : ℕ → ℕ → ℕ → ℕ → ℕ → ℕ → List (List ℕ)
map_words driver endpoint first last target line =
    driver_name driver ∷ codes "map" ∷ decimal endpoint ∷ decimal first ∷ decimal last ∷ decimal target ∷ codes "rw" ∷ codes "after" ∷ back_await endpoint line ∷ []

abbrev pub write_words : ℕ → ℕ → ℕ → List ℕ → ℕ → List (List ℕ)
write_words driver endpoint first bytes line =
    back_name endpoint ∷ codes "write" ∷ decimal first ∷ encode_lower bytes ∷ codes "after" ∷ driver_await driver line ∷ []

abbrev pub read_words : ℕ → ℕ → List (List ℕ)
read_words endpoint first = back_name endpoint ∷ codes "read" ∷ decimal first ∷ codes "4" ∷ []

abbrev pub unmap_words : ℕ → ℕ → ℕ → ℕ → ℕ → List (List ℕ)
unmap_words driver endpoint first last line =
    driver_name driver ∷ codes "unmap" ∷ decimal endpoint ∷ decimal first ∷ decimal last ∷ codes "after" ∷ back_await endpoint line ∷ []

abbrev pub fault_words : ℕ → ℕ → ℕ → ℕ → List (List ℕ)
fault_words driver endpoint first line =
    back_name endpoint ∷ codes "read" ∷ decimal first ∷ codes "4" ∷ codes "after" ∷ driver_await driver line ∷ []

-- ---- what they say

number_of-4 : number_of (codes "4") ≡ Some 4
unfolding number_of digits_in
number_of-4 = refl

pub attach_words-line : (driver endpoint : ℕ) → driver < 2 ^ 32 → endpoint < 2 ^ 32
    → AreLine (attach_words driver endpoint) (Driver driver) (does (Attaches (decimal endpoint) (decimal endpoint) false) []) (asks driver (Attach endpoint endpoint 0) [])
unfolding form_of
attach_words-line driver endpoint small_driver small =
    let fits : endpoint < 2 ^ 64 = omega arith in
    let fits_driver : driver < 2 ^ 64 = omega arith in
    record {
      plain = rw (are_plain-decimal driver fits_driver, is_plain_word-decimal endpoint fits) refl;
      speak = refl;
      form = rw (caller_of-driver driver small_driver) refl;
      line = rw (number_of-decimal endpoint fits, lt-ltb endpoint 4294967296 small) refl;
    }

pub first_map_words-line : (driver endpoint first last target : ℕ) → driver < 2 ^ 32 → endpoint < 2 ^ 32 → first < 2 ^ 64 → last < 2 ^ 64 → target < 2 ^ 64
    → AreLine (first_map_words driver endpoint first last target) (Driver driver) (does (Maps (decimal endpoint) (decimal first) (decimal last) (decimal target) 3) [])
    (asks driver (Map endpoint first last target 3) [])
unfolding form_of
first_map_words-line driver endpoint first last target small_driver small fits_first fits_last fits_target =
    let fits : endpoint < 2 ^ 64 = omega arith in
    let fits_driver : driver < 2 ^ 64 = omega arith in
    record {
      plain = rw (are_plain-decimal driver fits_driver, is_plain_word-decimal endpoint fits, is_plain_word-decimal first fits_first, is_plain_word-decimal last fits_last, is_plain_word-decimal target fits_target) refl;
      speak = refl;
      form = rw (caller_of-driver driver small_driver) refl;
      line = rw (number_of-decimal endpoint fits, lt-ltb endpoint 4294967296 small, number_of-decimal first fits_first, number_of-decimal last fits_last, number_of-decimal target fits_target) refl;
    }

pub map_words-line : (driver endpoint first last target line : ℕ) → driver < 2 ^ 32 → endpoint < 2 ^ 32 → first < 2 ^ 64 → last < 2 ^ 64 → target < 2 ^ 64 → line < 2 ^ 32
    → AreLine (map_words driver endpoint first last target line) (Driver driver) (does (Maps (decimal endpoint) (decimal first) (decimal last) (decimal target) 3) (awaits (Back endpoint) line ∷ []))
    (asks driver (Map endpoint first last target 3) (awaits (Back endpoint) line ∷ []))
unfolding form_of
map_words-line driver endpoint first last target line small_driver small fits_first fits_last fits_target small_line =
    let fits : endpoint < 2 ^ 64 = omega arith in
    let fits_driver : driver < 2 ^ 64 = omega arith in
    record {
      plain = rw (are_plain-decimal driver fits_driver, is_plain_word-decimal endpoint fits, is_plain_word-decimal first fits_first, is_plain_word-decimal last fits_last, is_plain_word-decimal target fits_target, are_plain-await endpoint line small small_line) refl;
      speak = refl;
      form = rw (caller_of-driver driver small_driver, await_of-back endpoint line small small_line) refl;
      line = rw (number_of-decimal endpoint fits, lt-ltb endpoint 4294967296 small, lt-ltb line 4294967296 small_line, number_of-decimal first fits_first, number_of-decimal last fits_last, number_of-decimal target fits_target) refl;
    }

pub write_words-line : (driver endpoint first b : ℕ) (bs : List ℕ) (line : ℕ) → driver < 2 ^ 32 → endpoint < 2 ^ 32 → first < 2 ^ 64 → IsBytes (b ∷ bs) → line < 2 ^ 32
    → AreLine (write_words driver endpoint first (b ∷ bs) line) (Back endpoint) (does (Writes (decimal first) (encode_lower (b ∷ bs))) (awaits (Driver driver) line ∷ []))
    (transfers endpoint (job.Write first (b ∷ bs)) (awaits (Driver driver) line ∷ []))
unfolding form_of
write_words-line driver endpoint first b bs line small_driver small fits_first bytes small_line =
    let fits : endpoint < 2 ^ 64 = omega arith in
    record {
      plain = rw (are_plain-decimal endpoint fits, is_plain_word-decimal first fits_first, is_plain_word-encode b bs bytes, are_plain-await driver line small_driver small_line) refl;
      speak = refl;
      form = rw (is_word-back endpoint small, caller_of-back endpoint small, await_of-driver driver line small_driver small_line) refl;
      line = rw (lt-ltb endpoint 4294967296 small, lt-ltb line 4294967296 small_line, number_of-decimal first fits_first, hex_of-encode b bs bytes) refl;
    }

pub read_words-line : (endpoint first : ℕ) → endpoint < 2 ^ 32 → first < 2 ^ 64
    → AreLine (read_words endpoint first) (Back endpoint) (does (Reads (decimal first) (codes "4")) []) (transfers endpoint (job.Read first 4) [])
unfolding form_of
read_words-line endpoint first small fits_first =
    let fits : endpoint < 2 ^ 64 = omega arith in
    record {
      plain = rw (are_plain-decimal endpoint fits, is_plain_word-decimal first fits_first) refl;
      speak = refl;
      form = rw (is_word-back endpoint small, caller_of-back endpoint small) refl;
      line = rw (lt-ltb endpoint 4294967296 small, number_of-decimal first fits_first, number_of-4) refl;
    }

pub unmap_words-line : (driver endpoint first last line : ℕ) → driver < 2 ^ 32 → endpoint < 2 ^ 32 → first < 2 ^ 64 → last < 2 ^ 64 → line < 2 ^ 32
    → AreLine (unmap_words driver endpoint first last line) (Driver driver) (does (Unmaps (decimal endpoint) (decimal first) (decimal last)) (awaits (Back endpoint) line ∷ []))
    (asks driver (Unmap endpoint first last) (awaits (Back endpoint) line ∷ []))
unfolding form_of
unmap_words-line driver endpoint first last line small_driver small fits_first fits_last small_line =
    let fits : endpoint < 2 ^ 64 = omega arith in
    let fits_driver : driver < 2 ^ 64 = omega arith in
    record {
      plain = rw (are_plain-decimal driver fits_driver, is_plain_word-decimal endpoint fits, is_plain_word-decimal first fits_first, is_plain_word-decimal last fits_last, are_plain-await endpoint line small small_line) refl;
      speak = refl;
      form = rw (caller_of-driver driver small_driver, await_of-back endpoint line small small_line) refl;
      line = rw (number_of-decimal endpoint fits, lt-ltb endpoint 4294967296 small, lt-ltb line 4294967296 small_line, number_of-decimal first fits_first, number_of-decimal last fits_last) refl;
    }

pub fault_words-line : (driver endpoint first line : ℕ) → driver < 2 ^ 32 → endpoint < 2 ^ 32 → first < 2 ^ 64 → line < 2 ^ 32
    → AreLine (fault_words driver endpoint first line) (Back endpoint) (does (Reads (decimal first) (codes "4")) (awaits (Driver driver) line ∷ []))
    (transfers endpoint (job.Read first 4) (awaits (Driver driver) line ∷ []))
unfolding form_of
fault_words-line driver endpoint first line small_driver small fits_first small_line =
    let fits : endpoint < 2 ^ 64 = omega arith in
    record {
      plain = rw (are_plain-decimal endpoint fits, is_plain_word-decimal first fits_first, are_plain-await driver line small_driver small_line) refl;
      speak = refl;
      form = rw (is_word-back endpoint small, caller_of-back endpoint small, await_of-driver driver line small_driver small_line) refl;
      line = rw (lt-ltb endpoint 4294967296 small, lt-ltb line 4294967296 small_line, number_of-decimal first fits_first, number_of-4) refl;
    }
