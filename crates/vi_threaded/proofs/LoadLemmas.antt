-- A load script has fewer bytes than a script may have, so that it can be read.
use Rattle.std.proofs.Common.{◌≡◌, ◌==◌, ℕ, zero, suc, ◌+◌, ◌*◌, ◌-◌, ◌^◌, ◌≤◌, ◌<◌, Bool, true, false, cond, List, ◌++◌, length, decimal, codes, refl, arith, length-append}
use Rattle.std.specs.List.{flat_map, range_with_len}
use Rattle.std.proofs.lemmas.Fmt.{length-decimal-le}
use Rattle.hex.specs.Hex.{lower_digits}
use Rattle.hex.proofs.HexLemmas.{length-encode_with}
use Rattle.vi_make.specs.LoadScript.{endpoint_of, first_of, last_of, target_of, written_in, setup_lines, attach_line, range_words, map_ending, map_line, write_line, read_line, unmap_line, fault_line, turn_lines, round_lines, load_script}

-- a number below 2 ^ 32 has ten digits at most
digits_few : (n : ℕ) → n < 2 ^ 32 → length (decimal n) ≤ 10
digits_few n small = length-decimal-le 10 n (omega arith) (omega arith) (omega arith)

-- what many numbers write, where each writes so much at most
flat_map_few : (f : ℕ → List ℕ) (most start count : ℕ) → ((n : ℕ) → start ≤ n → n < start + count → length (f n) ≤ most) → length (flat_map f (range_with_len start count)) ≤ most * count
flat_map_few f most start zero few = omega arith
flat_map_few f most start (suc count) few =
    let here = few start (omega arith) (omega arith) in
    let rest = flat_map_few f most (start + 1) count (λ n low high. few n (omega (arith, low)) (omega (arith, high))) in
    let whole = length-append (f start) (flat_map f (range_with_len (start + 1) count)) in
    let more : most * suc count ≡ most + most * count = omega arith in
    omega (arith, here, rest, whole, more)

-- the number of a round, of a driver, and those that are made of them
record AreSmall (round driver : ℕ) : Type 0 where
  driver_few : length (decimal driver) ≤ 10
  endpoint_few : length (decimal (endpoint_of driver)) ≤ 10
  first_few : length (decimal (first_of round)) ≤ 10
  last_few : length (decimal (last_of round)) ≤ 10
  target_few : length (decimal (target_of round driver)) ≤ 10
  before_few : length (decimal (3 * round)) ≤ 10
  read_few : length (decimal (3 * round + 2)) ≤ 10
  mapped_few : length (decimal (2 * round + 2)) ≤ 10
  unmapped_few : length (decimal (2 * round + 3)) ≤ 10

small : (round driver : ℕ) → round < 400 → driver < 4 → AreSmall round driver
small round driver few low = record {
  driver_few = digits_few driver (omega arith);
  endpoint_few = digits_few (endpoint_of driver) (omega arith);
  first_few = digits_few (first_of round) (omega arith);
  last_few = digits_few (last_of round) (omega arith);
  target_few = digits_few (target_of round driver) (omega arith);
  before_few = digits_few (3 * round) (omega arith);
  read_few = digits_few (3 * round + 2) (omega arith);
  mapped_few = digits_few (2 * round + 2) (omega arith);
  unmapped_few = digits_few (2 * round + 3) (omega arith);
}

-- a line is its fixed letters and a few numbers
attach_few : (driver : ℕ) → driver < 4 → length (attach_line driver) ≤ 100
unfolding attach_line
attach_few driver low =
    let n = small 0 driver (omega arith) low in
    simp length-append (omega (arith, n.driver_few, n.endpoint_few))

ending_few : (round driver : ℕ) → AreSmall round driver → length (map_ending round driver) ≤ 40
ending_few round driver n = go (round == 0)
  where
    go : (b : Bool) → length (let bytes : List ℕ = cond b (codes "\n") (codes " after b" ++ decimal (endpoint_of driver) ++ codes "." ++ decimal (3 * round) ++ codes "\n") in bytes) ≤ 40
    go true = omega arith
    go false = simp length-append (omega (arith, n.endpoint_few, n.before_few))

map_few : (round driver : ℕ) → AreSmall round driver → length (map_line round driver) ≤ 200
unfolding map_line range_words
map_few round driver n =
    let ending = ending_few round driver n in
    simp length-append (omega (arith, n.driver_few, n.endpoint_few, n.first_few, n.last_few, n.target_few, ending))

-- four bytes are written, as two digits each
written_four : (round driver : ℕ) → length (written_in round driver) ≡ 4
unfolding written_in
written_four round driver = refl

write_few : (round driver : ℕ) → AreSmall round driver → length (write_line round driver) ≤ 200
unfolding write_line
write_few round driver n =
    let digits = length-encode_with lower_digits (written_in round driver) in
    let four = written_four round driver in
    simp length-append (omega (arith, digits, four, n.driver_few, n.endpoint_few, n.first_few, n.mapped_few))

read_few : (round driver : ℕ) → AreSmall round driver → length (read_line round driver) ≤ 200
unfolding read_line
read_few round driver n = simp length-append (omega (arith, n.endpoint_few, n.first_few))

unmap_few : (round driver : ℕ) → AreSmall round driver → length (unmap_line round driver) ≤ 200
unfolding unmap_line range_words
unmap_few round driver n = simp length-append (omega (arith, n.driver_few, n.endpoint_few, n.first_few, n.last_few, n.read_few))

fault_few : (round driver : ℕ) → AreSmall round driver → length (fault_line round driver) ≤ 200
unfolding fault_line
fault_few round driver n = simp length-append (omega (arith, n.driver_few, n.endpoint_few, n.first_few, n.unmapped_few))

turn_few : (round driver : ℕ) → round < 400 → driver < 4 → length (turn_lines round driver) ≤ 1000
turn_few round driver few low =
    let n = small round driver few low in
    let a = map_few round driver n in
    let b = write_few round driver n in
    let c = read_few round driver n in
    let d = unmap_few round driver n in
    let e = fault_few round driver n in
    simp length-append (omega (arith, a, b, c, d, e))

round_few : (round : ℕ) → round < 400 → length (round_lines round) ≤ 4000
unfolding round_lines
round_few round few =
    let each = flat_map_few (λ driver. turn_lines round driver) 1000 0 4 (λ driver least low. turn_few round driver few (omega (arith, low))) in
    omega (arith, each)

attaches_few : length (flat_map (λ driver. attach_line driver) (range_with_len 0 4)) ≤ 400
attaches_few = let each = flat_map_few (λ driver. attach_line driver) 100 0 4 (λ driver least low. attach_few driver (omega (arith, low))) in omega (arith, each)

setup_few : length setup_lines ≤ 100
unfolding setup_lines
setup_few = omega arith

-- these three parts together are short
joined_few : (setup attaches rest : List ℕ) (rounds : ℕ) → length setup ≤ 100 → length attaches ≤ 400 → length rest ≤ 4000 * rounds → rounds ≤ 400 → length (setup ++ attaches ++ rest) < 2 ^ 32 - 1
joined_few setup attaches rest rounds first second third most =
    let all = length-append (setup ++ attaches) rest in
    let front = length-append setup attaches in
    omega (arith, all, front, first, second, third, most)

-- the load script of 400 rounds has less than two million bytes
pub load_script-few : (rounds : ℕ) → rounds ≤ 400 → length (load_script rounds) < 2 ^ 32 - 1
unfolding load_script
load_script-few rounds most =
    joined_few setup_lines (flat_map (λ driver. attach_line driver) (range_with_len 0 4)) (flat_map (λ round. round_lines round) (range_with_len 0 rounds)) rounds
    setup_few attaches_few (flat_map_few (λ round. round_lines round) 4000 0 rounds (λ round least low. round_few round (omega (arith, low, most)))) most
