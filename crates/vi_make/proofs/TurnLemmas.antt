-- The five lines of a driver and its endpoint in a round are taken.
use Rattle.std.proofs.Common.{◌≡◌, ◌==◌, ℕ, zero, suc, ◌+◌, ◌*◌, ◌^◌, ◌<◌, ◌≤◌, List, [], ◌∷◌, ◌++◌, length, decimal, refl, ap, sym, subst, arith, inl, inr}
use Rattle.std.specs.Prelude.{if◌then◌else◌}
use Rattle.std.specs.Int.{byte_at}
use Rattle.std.proofs.lemmas.Bool.{cases_Bool, eqb-true}
use Rattle.std.proofs.lemmas.Bool.Decides.{nat_tests}
use Rattle.hex.specs.Hex.{IsBytes, encode_lower}
use Rattle.vi_history.specs.declared.call.Caller.TheVariants.{Driver, Back}
use Rattle.vi_history.specs.declared.request.Request.TheVariants.{Map, Unmap}
use Rattle.vi_lines.specs.declared.job.Job.TheVariants as job
use Rattle.vi_lines.specs.declared.line.Line.{Line}
use Rattle.vi_lines.specs.declared.line.Await.{Await}
use Rattle.vi_script.specs.Forms.{Writes}
use Rattle.vi_script.specs.Said.{Said}
use Rattle.vi_make.specs.LoadScript.{endpoint_of, first_of, last_of, target_of, written_in, map_line, write_line, read_line, unmap_line, fault_line, turn_lines}
use Rattle.vi_make.proofs.NameLemmas.{awaits}
use Rattle.vi_make.proofs.JudgeLemmas.{with_line}
use Rattle.vi_make.proofs.LineLemmas.{asks, transfers, does, first_map_words, first_map_words-line, map_words, map_words-line, write_words, write_words-line, read_words, read_words-line, unmap_words, unmap_words-line, fault_words, fault_words-line}
use Rattle.vi_make.proofs.TextLemmas.{map_line-first, map_line-later, write_line-ended, read_line-ended, unmap_line-ended, fault_line-ended}
use Rattle.vi_make.proofs.ReadLemmas.{AreRead, read-both, read-line}
use Rattle.vi_make.proofs.StateLemmas.{IsReady, ready-more, HaveLines, have-more, have-asked, have-answered, awaits_back, awaits_driver, room-driver, room-back, modest-asks, modest-asks_after, modest-read, modest-read_after, modest-write}

-- ---- what the lines say

abbrev pub map_awaits : ℕ → ℕ → List Await
map_awaits round driver = if round == 0 then [] else awaits (Back (endpoint_of driver)) (3 * round) ∷ []

abbrev pub map_of : ℕ → ℕ → Line
map_of round driver = asks driver (Map (endpoint_of driver) (first_of round) (last_of round) (target_of round driver) 3) (map_awaits round driver)

abbrev pub write_of : ℕ → ℕ → Line
write_of round driver = transfers (endpoint_of driver) (job.Write (first_of round) (written_in round driver)) (awaits (Driver driver) (2 * round + 2) ∷ [])

abbrev pub read_of : ℕ → ℕ → Line
read_of round driver = transfers (endpoint_of driver) (job.Read (first_of round) 4) []

abbrev pub unmap_of : ℕ → ℕ → Line
unmap_of round driver = asks driver (Unmap (endpoint_of driver) (first_of round) (last_of round)) (awaits (Back (endpoint_of driver)) (3 * round + 2) ∷ [])

abbrev pub fault_of : ℕ → ℕ → Line
fault_of round driver = transfers (endpoint_of driver) (job.Read (first_of round) 4) (awaits (Driver driver) (2 * round + 3) ∷ [])

-- ---- the bytes that are written

written_in-bytes : (round driver : ℕ) → written_in round driver
    ≡ byte_at 3 (4 * round + driver) ∷ byte_at 2 (4 * round + driver) ∷ byte_at 1 (4 * round + driver) ∷ byte_at 0 (4 * round + driver) ∷ []
unfolding written_in
written_in-bytes round driver = refl

pub length-written_in : (round driver : ℕ) → length (written_in round driver) ≡ 4
length-written_in round driver = ap length (written_in-bytes round driver)

are_bytes : (a b c d : ℕ) → a < 256 → b < 256 → c < 256 → d < 256 → IsBytes (a ∷ b ∷ c ∷ d ∷ [])
are_bytes a b c d p q r s zero = p
are_bytes a b c d p q r s (suc zero) = q
are_bytes a b c d p q r s (suc (suc zero)) = r
are_bytes a b c d p q r s (suc (suc (suc zero))) = s
are_bytes a b c d p q r s (suc (suc (suc (suc i)))) = omega arith

byte_small : (k n : ℕ) → byte_at k n < 256
byte_small zero n = omega arith
byte_small (suc k) n = omega arith

-- ---- each line is read

-- numbers of a turn are small
pub record IsTurn (round driver : ℕ) : Type 0 where
  pub round_below : round < 400
  pub driver_below : driver < 4

first_fits : (round : ℕ) → first_of round + 4100 ≤ 2 ^ 32
first_fits round = omega arith

target_fits : (round driver : ℕ) → driver < 4 → target_of round driver < 2 ^ 64
target_fits round driver below = omega arith

first_map-read : (said : Said) (bytes number driver : ℕ) → IsReady said bytes → bytes ≤ 16777216 → number ≤ 10000 → driver < 4
    → AreRead number said (map_line 0 driver) 1 (with_line said (map_of 0 driver))
first_map-read said bytes number driver ready fits few below =
    read-line number said (map_line 0 driver) (first_map_words driver (endpoint_of driver) (first_of 0) (last_of 0) (target_of 0 driver)) (Driver driver) _ (map_of 0 driver)
    (map_line-first driver)
    (first_map_words-line driver (endpoint_of driver) (first_of 0) (last_of 0) (target_of 0 driver) (omega arith) (omega arith) (omega arith) (omega arith) (target_fits 0 driver below))
    (modest-asks driver _ below)
    (room-driver said bytes number driver _ [] ready fits few refl)

later_map-read : (said : Said) (bytes number round driver asked : ℕ) → IsReady said bytes → HaveLines said.lines driver asked (3 * round) → bytes ≤ 16777216 → number ≤ 10000 → 1 ≤ round → IsTurn round driver
    → AreRead number said (map_line round driver) 1 (with_line said (asks driver (Map (endpoint_of driver) (first_of round) (last_of round) (target_of round driver) 3) (awaits (Back (endpoint_of driver)) (3 * round) ∷ [])))
later_map-read said bytes number round driver asked ready have fits few later turn =
    let below = turn.driver_below in
    let small = turn.round_below in
    let first = first_fits round in
    read-line number said (map_line round driver) (map_words driver (endpoint_of driver) (first_of round) (last_of round) (target_of round driver) (3 * round)) (Driver driver) _ _
    (map_line-later round driver later)
    (map_words-line driver (endpoint_of driver) (first_of round) (last_of round) (target_of round driver) (3 * round) (omega arith) (omega arith) (omega arith) (omega arith) (target_fits round driver below) (omega arith))
    (modest-asks_after driver _ (endpoint_of driver) (3 * round) below)
    (room-driver said bytes number driver _ _ ready fits few (awaits_back said.lines driver asked (3 * round) (3 * round) have (omega arith) (omega arith)))

map-read : (said : Said) (bytes number round driver asked : ℕ) → IsReady said bytes → HaveLines said.lines driver asked (3 * round) → bytes ≤ 16777216 → number ≤ 10000 → IsTurn round driver
    → AreRead number said (map_line round driver) 1 (with_line said (map_of round driver))
map-read said bytes number round driver asked ready have fits few turn =
    elim (cases_Bool (round == 0)) [
      | inl y ↦
          let is : round ≡ 0 = eqb-true round 0 y in
          subst (λ r. AreRead number said (map_line r driver) 1 (with_line said (map_of r driver))) (sym is) (first_map-read said bytes number driver ready fits few turn.driver_below)
      | inr n ↦
          let later : 1 ≤ round = grind (arith, nat_tests) in
          rw n (later_map-read said bytes number round driver asked ready have fits few later turn)
    ]

write-read : (said : Said) (bytes number round driver answered : ℕ) → IsReady said bytes → HaveLines said.lines driver (2 * round + 2) answered → bytes + 4 ≤ 16777216 → number ≤ 10000 → IsTurn round driver
    → AreRead number said (write_line round driver) 1 (with_line said (write_of round driver))
write-read said bytes number round driver answered ready have fits few turn =
    let below = turn.driver_below in
    let small = turn.round_below in
    let first = first_fits round in
    let n = 4 * round + driver in
    let is = written_in-bytes round driver in
    let are = write_words-line driver (endpoint_of driver) (first_of round) (byte_at 3 n) (byte_at 2 n ∷ byte_at 1 n ∷ byte_at 0 n ∷ []) (2 * round + 2) (omega arith) (omega arith) (omega arith)
    (are_bytes (byte_at 3 n) (byte_at 2 n) (byte_at 1 n) (byte_at 0 n) (byte_small 3 n) (byte_small 2 n) (byte_small 1 n) (byte_small 0 n)) (omega arith) in
    read-line number said (write_line round driver) (write_words driver (endpoint_of driver) (first_of round) (written_in round driver) (2 * round + 2)) (Back (endpoint_of driver))
    (does (Writes (decimal (first_of round)) (encode_lower (written_in round driver))) (awaits (Driver driver) (2 * round + 2) ∷ [])) (write_of round driver)
    (write_line-ended round driver)
    (rw is are)
    (modest-write (endpoint_of driver) (first_of round) (written_in round driver) driver (2 * round + 2) (length-written_in round driver) (omega arith) below)
    (room-back said bytes number driver _ _ ready (omega (arith, length-written_in round driver)) few below (awaits_driver said.lines driver (2 * round + 2) answered (2 * round + 2) have (omega arith) (omega arith)))

read-read : (said : Said) (bytes number round driver : ℕ) → IsReady said bytes → bytes + 4 ≤ 16777216 → number ≤ 10000 → IsTurn round driver
    → AreRead number said (read_line round driver) 1 (with_line said (read_of round driver))
read-read said bytes number round driver ready fits few turn =
    let below = turn.driver_below in
    let first = first_fits round in
    read-line number said (read_line round driver) (read_words (endpoint_of driver) (first_of round)) (Back (endpoint_of driver)) _ (read_of round driver)
    (read_line-ended round driver)
    (read_words-line (endpoint_of driver) (first_of round) (omega arith) (omega arith))
    (modest-read (endpoint_of driver) (first_of round) (omega arith))
    (room-back said bytes number driver _ [] ready fits few below refl)

unmap-read : (said : Said) (bytes number round driver asked : ℕ) → IsReady said bytes → HaveLines said.lines driver asked (3 * round + 2) → bytes ≤ 16777216 → number ≤ 10000 → IsTurn round driver
    → AreRead number said (unmap_line round driver) 1 (with_line said (unmap_of round driver))
unmap-read said bytes number round driver asked ready have fits few turn =
    let below = turn.driver_below in
    let small = turn.round_below in
    let first = first_fits round in
    read-line number said (unmap_line round driver) (unmap_words driver (endpoint_of driver) (first_of round) (last_of round) (3 * round + 2)) (Driver driver) _ (unmap_of round driver)
    (unmap_line-ended round driver)
    (unmap_words-line driver (endpoint_of driver) (first_of round) (last_of round) (3 * round + 2) (omega arith) (omega arith) (omega arith) (omega arith) (omega arith))
    (modest-asks_after driver _ (endpoint_of driver) (3 * round + 2) below)
    (room-driver said bytes number driver _ _ ready fits few (awaits_back said.lines driver asked (3 * round + 2) (3 * round + 2) have (omega arith) (omega arith)))

fault-read : (said : Said) (bytes number round driver answered : ℕ) → IsReady said bytes → HaveLines said.lines driver (2 * round + 3) answered → bytes + 4 ≤ 16777216 → number ≤ 10000 → IsTurn round driver
    → AreRead number said (fault_line round driver) 1 (with_line said (fault_of round driver))
fault-read said bytes number round driver answered ready have fits few turn =
    let below = turn.driver_below in
    let small = turn.round_below in
    let first = first_fits round in
    read-line number said (fault_line round driver) (fault_words driver (endpoint_of driver) (first_of round) (2 * round + 3)) (Back (endpoint_of driver)) _ (fault_of round driver)
    (fault_line-ended round driver)
    (fault_words-line driver (endpoint_of driver) (first_of round) (2 * round + 3) (omega arith) (omega arith) (omega arith) (omega arith))
    (modest-read_after (endpoint_of driver) (first_of round) driver (2 * round + 3) (omega arith) below)
    (room-back said bytes number driver _ _ ready fits few below (awaits_driver said.lines driver (2 * round + 3) answered (2 * round + 3) have (omega arith) (omega arith)))

-- ---- the turn

-- what was said with the map, the write, the read, the unmap, and the last read
abbrev pub mapped : Said → ℕ → ℕ → Said
mapped said round driver = with_line said (map_of round driver)

abbrev pub written : Said → ℕ → ℕ → Said
written said round driver = with_line (mapped said round driver) (write_of round driver)

abbrev pub seen : Said → ℕ → ℕ → Said
seen said round driver = with_line (written said round driver) (read_of round driver)

abbrev pub unmapped : Said → ℕ → ℕ → Said
unmapped said round driver = with_line (seen said round driver) (unmap_of round driver)

abbrev pub after_turn : Said → ℕ → ℕ → Said
after_turn said round driver = with_line (unmapped said round driver) (fault_of round driver)

ready-mapped : (said : Said) (bytes round driver : ℕ) → IsReady said bytes → IsReady (mapped said round driver) bytes
ready-mapped said bytes round driver ready = ready-more said bytes bytes (map_of round driver) ready refl (omega arith)

ready-written : (said : Said) (bytes round driver : ℕ) → IsReady said bytes → IsReady (written said round driver) (bytes + 4)
ready-written said bytes round driver ready =
    ready-more (mapped said round driver) bytes (bytes + 4) (write_of round driver) (ready-mapped said bytes round driver ready) refl (omega (arith, length-written_in round driver))

ready-seen : (said : Said) (bytes round driver : ℕ) → IsReady said bytes → IsReady (seen said round driver) (bytes + 8)
ready-seen said bytes round driver ready =
    ready-more (written said round driver) (bytes + 4) (bytes + 8) (read_of round driver) (ready-written said bytes round driver ready) refl (omega arith)

ready-unmapped : (said : Said) (bytes round driver : ℕ) → IsReady said bytes → IsReady (unmapped said round driver) (bytes + 8)
ready-unmapped said bytes round driver ready =
    ready-more (seen said round driver) (bytes + 8) (bytes + 8) (unmap_of round driver) (ready-seen said bytes round driver ready) refl (omega arith)

pub ready-turn : (said : Said) (bytes round driver : ℕ) → IsReady said bytes → IsReady (after_turn said round driver) (bytes + 12)
ready-turn said bytes round driver ready =
    ready-more (unmapped said round driver) (bytes + 8) (bytes + 12) (fault_of round driver) (ready-unmapped said bytes round driver ready) refl (omega arith)

have-mapped : (said : Said) (round driver : ℕ) → HaveLines said.lines driver (2 * round + 1) (3 * round) → HaveLines (mapped said round driver).lines driver (2 * round + 2) (3 * round)
have-mapped said round driver have = have-asked said.lines driver (2 * round + 1) (3 * round) (2 * round + 2) _ (map_awaits round driver) have (omega arith)

have-written : (said : Said) (round driver : ℕ) → HaveLines said.lines driver (2 * round + 1) (3 * round) → HaveLines (written said round driver).lines driver (2 * round + 2) (3 * round + 1)
have-written said round driver have =
    have-answered (mapped said round driver).lines driver (2 * round + 2) (3 * round) (3 * round + 1) _ (awaits (Driver driver) (2 * round + 2) ∷ []) (have-mapped said round driver have) refl

have-seen : (said : Said) (round driver : ℕ) → HaveLines said.lines driver (2 * round + 1) (3 * round) → HaveLines (seen said round driver).lines driver (2 * round + 2) (3 * round + 2)
have-seen said round driver have =
    have-answered (written said round driver).lines driver (2 * round + 2) (3 * round + 1) (3 * round + 2) _ [] (have-written said round driver have) (omega arith)

have-unmapped : (said : Said) (round driver : ℕ) → HaveLines said.lines driver (2 * round + 1) (3 * round) → HaveLines (unmapped said round driver).lines driver (2 * round + 3) (3 * round + 2)
have-unmapped said round driver have =
    have-asked (seen said round driver).lines driver (2 * round + 2) (3 * round + 2) (2 * round + 3) _ (awaits (Back (endpoint_of driver)) (3 * round + 2) ∷ []) (have-seen said round driver have) (omega arith)

pub have-turn : (said : Said) (round driver : ℕ) → HaveLines said.lines driver (2 * round + 1) (3 * round) → HaveLines (after_turn said round driver).lines driver (2 * round + 3) (3 * round + 3)
have-turn said round driver have =
    have-answered (unmapped said round driver).lines driver (2 * round + 3) (3 * round + 2) (3 * round + 3) _ (awaits (Driver driver) (2 * round + 3) ∷ []) (have-unmapped said round driver have) (omega arith)

-- the lines of others stay
pub others-turn : (said : Said) (round driver other asked answered : ℕ) → HaveLines said.lines other asked answered → HaveLines (after_turn said round driver).lines other asked answered
others-turn said round driver other asked answered have =
    have-more (unmapped said round driver).lines (fault_of round driver) other asked answered
    (have-more (seen said round driver).lines (unmap_of round driver) other asked answered
    (have-more (written said round driver).lines (read_of round driver) other asked answered
    (have-more (mapped said round driver).lines (write_of round driver) other asked answered
    (have-more said.lines (map_of round driver) other asked answered have))))

pub turn-read : (said : Said) (bytes number round driver : ℕ) → IsReady said bytes → HaveLines said.lines driver (2 * round + 1) (3 * round) → bytes + 12 ≤ 16777216 → number + 4 ≤ 10000 → IsTurn round driver
    → AreRead number said (turn_lines round driver) 5 (after_turn said round driver)
turn-read said bytes number round driver ready have fits few turn =
    let map = map-read said bytes number round driver (2 * round + 1) ready have (omega arith) (omega arith) turn in
    let write = write-read (mapped said round driver) bytes (number + 1) round driver (3 * round) (ready-mapped said bytes round driver ready) (have-mapped said round driver have) (omega arith) (omega arith) turn in
    let read = read-read (written said round driver) (bytes + 4) (number + 2) round driver (ready-written said bytes round driver ready) (omega arith) (omega arith) turn in
    let unmap = unmap-read (seen said round driver) (bytes + 8) (number + 3) round driver (2 * round + 2) (ready-seen said bytes round driver ready) (have-seen said round driver have) (omega arith) (omega arith) turn in
    let fault = fault-read (unmapped said round driver) (bytes + 8) (number + 4) round driver (3 * round + 2) (ready-unmapped said bytes round driver ready) (have-unmapped said round driver have) (omega arith) few turn in
    let two = read-both number said (map_line round driver) 1 (mapped said round driver) (write_line round driver) 1 (written said round driver) map write in
    let three = read-both number said (map_line round driver ++ write_line round driver) 2 (written said round driver) (read_line round driver) 1 (seen said round driver) two read in
    let four = read-both number said (map_line round driver ++ write_line round driver ++ read_line round driver) 3 (seen said round driver) (unmap_line round driver) 1 (unmapped said round driver) three unmap in
    read-both number said (map_line round driver ++ write_line round driver ++ read_line round driver ++ unmap_line round driver) 4 (unmapped said round driver) (fault_line round driver) 1 (after_turn said round driver) four fault
