-- The load script is accepted.
use Rattle.std.proofs.Common.{◌≡◌, ℕ, ◌+◌, ◌*◌, ◌<◌, ◌≤◌, List, [], ◌++◌, length, Some, None, Ok, refl, ap, sym, ◌∙◌, arith}
use Rattle.std.specs.List.{flat_map, range_with_len}
use Rattle.std.proofs.lemmas.List.{append-nil}
use Rattle.vi_history.specs.declared.call.Caller.TheVariants.{Driver}
use Rattle.vi_history.specs.declared.request.Request.TheVariants.{Attach}
use Rattle.vi_words.specs.Words.{lines_of_text, words_of}
use Rattle.vi_words.specs.Numbers.{number_of, digits_in}
use Rattle.vi_lines.specs.declared.line.Line.{Line}
use Rattle.vi_script.specs.Forms.{form_of}
use Rattle.vi_script.specs.Said.{Said, nothing_said, script_of}
use Rattle.vi_script.specs.Texts.{judge, said_from, script_from, script}
use Rattle.vi_make.specs.LoadScript.{endpoint_of, setup_lines, attach_line, round_lines, load_script}
use Rattle.vi_make.specs.Laws.{IsAccepted, HasTextLines, HasCallerLines}
use Rattle.vi_make.proofs.JudgeLemmas.{with_line}
use Rattle.vi_make.proofs.LineLemmas.{asks, attach_words, attach_words-line}
use Rattle.vi_make.proofs.TextLemmas.{attach_line-ended}
use Rattle.vi_make.proofs.ReadLemmas.{AreRead, read-none, read-both, read-line}
use Rattle.vi_make.proofs.StateLemmas.{IsReady, ready-more, room-driver, modest-asks, four_endpoints}
use Rattle.vi_make.proofs.RoundLemmas.{HaveRounds, after_rounds, rounds-have, rounds-read}

-- ---- the setup

abbrev pub after_setup : Said
after_setup = record {
  settings = record { memory = Some 64; queue = Some 64; cache = Some 8; granule = None; input = None; bypass = None; events = None };
  endpoints = four_endpoints;
  turns = [];
  lines = [];
}

setup-said : (rest : List ℕ) → said_from 1 nothing_said (lines_of_text (setup_lines ++ rest)) ≡ said_from 8 after_setup (lines_of_text rest)
unfolding setup_lines lines_of_text words_of number_of digits_in form_of judge
setup-said rest = refl

setup-counted : (rest : List ℕ) → length (lines_of_text (setup_lines ++ rest)) ≡ 7 + length (lines_of_text rest)
unfolding setup_lines lines_of_text
setup-counted rest = omega arith

setup-read : AreRead 1 nothing_said setup_lines 7 after_setup
setup-read = record { read = setup-said; counted = setup-counted }

-- ---- the attaches

abbrev attach_of : ℕ → Line
attach_of driver = asks driver (Attach (endpoint_of driver) (endpoint_of driver) 0) []

attach-read : (said : Said) (number driver : ℕ) → IsReady said 0 → number ≤ 10000 → driver < 4 → AreRead number said (attach_line driver) 1 (with_line said (attach_of driver))
attach-read said number driver ready few below =
    read-line number said (attach_line driver) (attach_words driver (endpoint_of driver)) (Driver driver) _ (attach_of driver)
    (attach_line-ended driver)
    (attach_words-line driver (endpoint_of driver) (omega arith) (omega arith))
    (modest-asks driver _ below)
    (room-driver said 0 number driver _ [] ready (omega arith) few refl)

ready-attached : (said : Said) (driver : ℕ) → IsReady said 0 → IsReady (with_line said (attach_of driver)) 0
ready-attached said driver ready = ready-more said 0 0 (attach_of driver) ready refl refl

abbrev attached_0 : Said
attached_0 = with_line after_setup (attach_of 0)

abbrev attached_1 : Said
attached_1 = with_line attached_0 (attach_of 1)

abbrev attached_2 : Said
attached_2 = with_line attached_1 (attach_of 2)

abbrev after_attaches : Said
after_attaches = with_line attached_2 (attach_of 3)

setup-ready : IsReady after_setup 0
setup-ready = record { endpoints = refl; wait = refl; transferred = refl }

attaches-read : AreRead 8 after_setup (flat_map (λ driver. attach_line driver) (range_with_len 0 4)) 4 after_attaches
attaches-read =
    let ready_0 = ready-attached after_setup 0 setup-ready in
    let ready_1 = ready-attached attached_0 1 ready_0 in
    let ready_2 = ready-attached attached_1 2 ready_1 in
    let first = attach-read after_setup 8 0 setup-ready (omega arith) (omega arith) in
    let second = attach-read attached_0 9 1 ready_0 (omega arith) (omega arith) in
    let third = attach-read attached_1 10 2 ready_1 (omega arith) (omega arith) in
    let last = attach-read attached_2 11 3 ready_2 (omega arith) (omega arith) in
    let one = read-both 11 attached_2 (attach_line 3) 1 after_attaches [] 0 after_attaches last (read-none 12 after_attaches) in
    let two = read-both 10 attached_1 (attach_line 2) 1 attached_2 (attach_line 3 ++ []) 1 after_attaches third one in
    let three = read-both 9 attached_0 (attach_line 1) 1 attached_1 (attach_line 2 ++ (attach_line 3 ++ [])) 2 after_attaches second two in
    read-both 8 after_setup (attach_line 0) 1 attached_0 (attach_line 1 ++ (attach_line 2 ++ (attach_line 3 ++ []))) 3 after_attaches first three

attaches-have : HaveRounds after_attaches 0 0 4
attaches-have =
    record {
      ready = record { endpoints = refl; wait = refl; transferred = refl };
      of_0 = record { of_driver = omega arith; of_back = omega arith };
      of_1 = record { of_driver = omega arith; of_back = omega arith };
      of_2 = record { of_driver = omega arith; of_back = omega arith };
      of_3 = record { of_driver = omega arith; of_back = omega arith };
      lines = refl;
    }

-- ---- the whole

load_script-read : (rounds : ℕ) → rounds ≤ 400 → AreRead 1 nothing_said (load_script rounds) (11 + 20 * rounds) (after_rounds after_attaches rounds)
unfolding load_script
load_script-read rounds small =
    let attaches = flat_map (λ driver. attach_line driver) (range_with_len 0 4) in
    let front = read-both 1 nothing_said setup_lines 7 after_setup attaches 4 after_attaches setup-read attaches-read in
    let more = rounds-read after_attaches 0 4 12 rounds attaches-have (omega arith) (omega arith) small in
    read-both 1 nothing_said (setup_lines ++ attaches) 11 after_attaches (flat_map round_lines (range_with_len 0 rounds)) (20 * rounds) (after_rounds after_attaches rounds) front more

lines_of_text-nil : lines_of_text [] ≡ []
unfolding lines_of_text
lines_of_text-nil = refl

said_from-end : (number : ℕ) (said : Said) → said_from number said (lines_of_text []) ≡ Ok said
said_from-end number said = rw lines_of_text-nil refl

load_script-script : (rounds : ℕ) → rounds ≤ 400 → script (load_script rounds) ≡ Ok (script_of (after_rounds after_attaches rounds))
unfolding script
load_script-script rounds small =
    let are = load_script-read rounds small in
    let whole : load_script rounds ++ [] ≡ load_script rounds = append-nil (load_script rounds) in
    ap (λ xs. script_from (said_from 1 nothing_said (lines_of_text xs))) (sym whole)
    ∙ ap script_from (are.read [] ∙ said_from-end (1 + (11 + 20 * rounds)) (after_rounds after_attaches rounds))

pub accepted : IsAccepted
accepted rounds some small = rw (load_script-script rounds small) refl

pub text_lines : HasTextLines
text_lines rounds some small =
    let are = load_script-read rounds small in
    let none : length (lines_of_text []) ≡ 0 = ap length lines_of_text-nil in
    ap (λ xs. length (lines_of_text xs)) (sym (append-nil (load_script rounds)))
    ∙ (are.counted [] ∙ (let e : 11 + 20 * rounds + length (lines_of_text []) ≡ 20 * rounds + 11 = omega arith in e))

lines_of : (said : Said) → (script_of said).lines ≡ said.lines
unfolding script_of
lines_of said = refl

pub caller_lines : HasCallerLines
caller_lines rounds some small =
    let have = rounds-have after_attaches 0 4 rounds attaches-have in
    rw (load_script-script rounds small, lines_of (after_rounds after_attaches rounds)) (omega (arith, have.lines))
