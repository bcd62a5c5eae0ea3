-- The rounds of the load script are taken.
use Rattle.std.proofs.Common.{◌≡◌, ℕ, zero, suc, ◌+◌, ◌*◌, ◌<◌, ◌≤◌, [], ◌++◌, length, refl, ap, sym, subst, ◌∙◌, arith, length-append}
use Rattle.std.specs.List.{flat_map, range_with_len}
use Rattle.vi_script.specs.Said.{Said}
use Rattle.vi_make.specs.LoadScript.{turn_lines, round_lines}
use Rattle.vi_make.proofs.Ranges.{flat_map_more}
use Rattle.vi_make.proofs.ReadLemmas.{AreRead, read-none, read-both, read-as}
use Rattle.vi_make.proofs.StateLemmas.{IsReady, HaveLines, have-fewer}
use Rattle.vi_make.proofs.TurnLemmas.{IsTurn, after_turn, turn-read, ready-turn, have-turn, others-turn}

-- so many rounds are above, and so many bytes and lines
pub record HaveRounds (said : Said) (rounds bytes count : ℕ) : Type 0 where
  pub ready : IsReady said bytes
  pub of_0 : HaveLines said.lines 0 (2 * rounds + 1) (3 * rounds)
  pub of_1 : HaveLines said.lines 1 (2 * rounds + 1) (3 * rounds)
  pub of_2 : HaveLines said.lines 2 (2 * rounds + 1) (3 * rounds)
  pub of_3 : HaveLines said.lines 3 (2 * rounds + 1) (3 * rounds)
  pub lines : length said.lines ≡ count

-- what was said with the turns of the first driver, the second, the third, and the last
abbrev pub turned_0 : Said → ℕ → Said
turned_0 said round = after_turn said round 0

abbrev pub turned_1 : Said → ℕ → Said
turned_1 said round = after_turn (turned_0 said round) round 1

abbrev pub turned_2 : Said → ℕ → Said
turned_2 said round = after_turn (turned_1 said round) round 2

pub after_round : Said → ℕ → Said
after_round said round = after_turn (turned_2 said round) round 3

-- what holds where a driver's turn comes
pub record IsDue (said : Said) (bytes round driver : ℕ) : Type 0 where
  pub ready : IsReady said bytes
  pub have : HaveLines said.lines driver (2 * round + 1) (3 * round)

due_1 : (said : Said) (round bytes count : ℕ) → HaveRounds said round bytes count → IsDue (turned_0 said round) (bytes + 12) round 1
due_1 said round bytes count have = record { ready = ready-turn said bytes round 0 have.ready; have = others-turn said round 0 1 _ _ have.of_1 }

due_2 : (said : Said) (round bytes count : ℕ) → HaveRounds said round bytes count → IsDue (turned_1 said round) (bytes + 12 + 12) round 2
due_2 said round bytes count have =
    let due = due_1 said round bytes count have in
    record { ready = ready-turn (turned_0 said round) (bytes + 12) round 1 due.ready; have = others-turn (turned_0 said round) round 1 2 _ _ (others-turn said round 0 2 _ _ have.of_2) }

due_3 : (said : Said) (round bytes count : ℕ) → HaveRounds said round bytes count → IsDue (turned_2 said round) (bytes + 12 + 12 + 12) round 3
due_3 said round bytes count have =
    let due = due_2 said round bytes count have in
    record {
      ready = ready-turn (turned_1 said round) (bytes + 12 + 12) round 2 due.ready;
      have = others-turn (turned_1 said round) round 2 3 _ _ (others-turn (turned_0 said round) round 1 3 _ _ (others-turn said round 0 3 _ _ have.of_3));
    }

-- the numbers of a round are small
pub record IsRound (bytes number round : ℕ) : Type 0 where
  pub bytes_fit : bytes + 48 ≤ 16777216
  pub few : number + 20 ≤ 10000
  pub below : round < 400

is_turn : (bytes number round driver : ℕ) → IsRound bytes number round → driver < 4 → IsTurn round driver
is_turn bytes number round driver is below = record { round_below = is.below; driver_below = below }

round-read : (said : Said) (bytes number round count : ℕ) → HaveRounds said round bytes count → IsRound bytes number round → AreRead number said (round_lines round) 20 (after_round said round)
unfolding round_lines after_round
round-read said bytes number round count have is =
    let one = due_1 said round bytes count have in
    let two = due_2 said round bytes count have in
    let three = due_3 said round bytes count have in
    let fits = is.bytes_fit in
    let few = is.few in
    let turn_0 = turn-read said bytes number round 0 have.ready have.of_0 (omega arith) (omega arith) (is_turn bytes number round 0 is (omega arith)) in
    let turn_1 = turn-read (turned_0 said round) (bytes + 12) (number + 5) round 1 one.ready one.have (omega arith) (omega arith) (is_turn bytes number round 1 is (omega arith)) in
    let turn_2 = turn-read (turned_1 said round) (bytes + 12 + 12) (number + 5 + 5) round 2 two.ready two.have (omega arith) (omega arith) (is_turn bytes number round 2 is (omega arith)) in
    let turn_3 = turn-read (turned_2 said round) (bytes + 12 + 12 + 12) (number + 5 + 5 + 5) round 3 three.ready three.have (omega arith) (omega arith) (is_turn bytes number round 3 is (omega arith)) in
    let last = read-both (number + 5 + 5 + 5) (turned_2 said round) (turn_lines round 3) 5 (after_turn (turned_2 said round) round 3) [] 0 (after_turn (turned_2 said round) round 3) turn_3 (read-none (number + 5 + 5 + 5 + 5) (after_turn (turned_2 said round) round 3)) in
    let second = read-both (number + 5 + 5) (turned_1 said round) (turn_lines round 2) 5 (turned_2 said round) (turn_lines round 3 ++ []) 5 (after_turn (turned_2 said round) round 3) turn_2 last in
    let first = read-both (number + 5) (turned_0 said round) (turn_lines round 1) 5 (turned_1 said round) (turn_lines round 2 ++ (turn_lines round 3 ++ [])) 10 (after_turn (turned_2 said round) round 3) turn_1 second in
    read-both number said (turn_lines round 0) 5 (turned_0 said round) (turn_lines round 1 ++ (turn_lines round 2 ++ (turn_lines round 3 ++ []))) 15 (after_turn (turned_2 said round) round 3) turn_0 first

length-turn : (said : Said) (round driver : ℕ) → length (after_turn said round driver).lines ≡ length said.lines + 5
length-turn said round driver = simp length-append (omega arith)

round-have : (said : Said) (bytes round count : ℕ) → HaveRounds said round bytes count → HaveRounds (after_round said round) (round + 1) (bytes + 48) (count + 20)
unfolding after_round
round-have said bytes round count have =
    let one = due_1 said round bytes count have in
    let two = due_2 said round bytes count have in
    let three = due_3 said round bytes count have in
    let total : bytes + 12 + 12 + 12 + 12 ≡ bytes + 48 = omega arith in
    let last = after_turn (turned_2 said round) round 3 in
    let have_0 = others-turn (turned_2 said round) round 3 0 _ _ (others-turn (turned_1 said round) round 2 0 _ _ (others-turn (turned_0 said round) round 1 0 _ _ (have-turn said round 0 have.of_0))) in
    let have_1 = others-turn (turned_2 said round) round 3 1 _ _ (others-turn (turned_1 said round) round 2 1 _ _ (have-turn (turned_0 said round) round 1 one.have)) in
    let have_2 = others-turn (turned_2 said round) round 3 2 _ _ (have-turn (turned_1 said round) round 2 two.have) in
    let have_3 = have-turn (turned_2 said round) round 3 three.have in
    record {
      ready = subst (λ n. IsReady last n) total (ready-turn (turned_2 said round) (bytes + 12 + 12 + 12) round 3 three.ready);
      of_0 = have-fewer last.lines 0 _ _ _ _ have_0 (omega arith) (omega arith);
      of_1 = have-fewer last.lines 1 _ _ _ _ have_1 (omega arith) (omega arith);
      of_2 = have-fewer last.lines 2 _ _ _ _ have_2 (omega arith) (omega arith);
      of_3 = have-fewer last.lines 3 _ _ _ _ have_3 (omega arith) (omega arith);
      lines = omega (arith, have.lines, length-turn said round 0, length-turn (turned_0 said round) round 1, length-turn (turned_1 said round) round 2, length-turn (turned_2 said round) round 3);
    }

-- what was said with so many rounds
pub after_rounds : Said → ℕ → Said
after_rounds said zero = said
after_rounds said (suc n) = after_round (after_rounds said n) n

have-as : (said : Said) (rounds bytes count more total all : ℕ) → HaveRounds said rounds bytes count → rounds ≡ more → bytes ≡ total → count ≡ all → HaveRounds said more total all
have-as said rounds bytes count more total all have e f g =
    subst (λ n. HaveRounds said more total n) g (subst (λ n. HaveRounds said more n count) f (subst (λ n. HaveRounds said n bytes count) e have))

pub rounds-have : (said : Said) (bytes count n : ℕ) → HaveRounds said 0 bytes count → HaveRounds (after_rounds said n) n (bytes + 48 * n) (count + 20 * n)
unfolding after_rounds
rounds-have said bytes count zero have = have-as said 0 bytes count 0 (bytes + 48 * 0) (count + 20 * 0) have refl (omega arith) (omega arith)
rounds-have said bytes count (suc n) have =
    have-as (after_round (after_rounds said n) n) (n + 1) (bytes + 48 * n + 48) (count + 20 * n + 20) (suc n) (bytes + 48 * suc n) (count + 20 * suc n)
    (round-have (after_rounds said n) (bytes + 48 * n) n (count + 20 * n) (rounds-have said bytes count n have)) (omega arith) (omega arith) (omega arith)

pub rounds-read : (said : Said) (bytes count number n : ℕ) → HaveRounds said 0 bytes count → bytes + 48 * n ≤ 16777216 → number + 20 * n ≤ 10000 → n ≤ 400
    → AreRead number said (flat_map round_lines (range_with_len 0 n)) (20 * n) (after_rounds said n)
unfolding after_rounds
rounds-read said bytes count number zero have fits few small = read-none number said
rounds-read said bytes count number (suc n) have fits few small =
    let front = rounds-read said bytes count number n have (omega arith) (omega arith) (omega arith) in
    let last = round-read (after_rounds said n) (bytes + 48 * n) (number + 20 * n) n (count + 20 * n) (rounds-have said bytes count n have) (record { bytes_fit = omega arith; few = omega arith; below = omega arith }) in
    let next : n + 1 ≡ suc n = omega arith in
    let text : flat_map round_lines (range_with_len 0 n) ++ round_lines n ≡ flat_map round_lines (range_with_len 0 (suc n)) =
    sym (flat_map_more round_lines n) ∙ ap (λ k. flat_map round_lines (range_with_len 0 k)) next in
    read-as number said (flat_map round_lines (range_with_len 0 n) ++ round_lines n) (flat_map round_lines (range_with_len 0 (suc n))) (20 * n + 20) (20 * suc n) (after_round (after_rounds said n) n) text (omega arith)
    (read-both number said (flat_map round_lines (range_with_len 0 n)) (20 * n) (after_rounds said n) (round_lines n) 20 (after_round (after_rounds said n) n) front last)
