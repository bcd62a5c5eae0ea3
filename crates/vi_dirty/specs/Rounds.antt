-- The pages that calls write, round by round, as text. Words are separated by one space, and every line ends with LF.
use Rattle.std.specs.Prelude.{◌≡◌, ℕ, zero, suc, ◌+◌, List, [], ◌++◌, length, take, drop, codes, decimal, String, string_bytes}
use Rattle.std.specs.Int.{div_ceil}
use Rattle.std.specs.List.{flat_map}
use Rattle.std.specs.Global.{Global}
use Rattle.vi_history.specs.Device.{One}
use Rattle.vi_history.specs.Histories.{after}
use Rattle.vi_history.specs.declared.call.Call.{Call}
use Rattle.vi_state.specs.Written.{written, page_set}

-- the pages that calls write from this state on, as a set
abbrev pub pages_written : One → List Call → List ℕ
pages_written one calls = page_set one.dev.pages (written one calls)

-- how many rounds of so many calls these are: the last one may have fewer
abbrev pub round_count : ℕ → List Call → ℕ
round_count every calls = div_ceil (length calls) every

-- how many pages there are, and the pages
abbrev pub pages_text : List ℕ → List ℕ
pages_text pages = decimal (length pages) ++ flat_map (λ page. codes " " ++ decimal page) pages ++ codes "\n"

-- the line of a round: its number, and its pages
abbrev pub round_line : ℕ → List ℕ → List ℕ
round_line number pages = codes "round " ++ decimal number ++ codes " " ++ pages_text pages

-- the lines of so many rounds of so many calls from this state on, numbered from this number on
abbrev pub round_lines : ℕ → ℕ → ℕ → One → List Call → List ℕ
round_lines every number zero one calls = []
round_lines every number (suc rounds) one calls =
    round_line number (pages_written one (take every calls)) ++ round_lines every (number + 1) rounds (after one (take every calls)) (drop every calls)

-- how many rounds there are, their lines, and the pages of all
abbrev pub text_from : ℕ → One → List Call → List ℕ
text_from every one calls =
    codes "rounds " ++ decimal (round_count every calls) ++ codes "\n" ++ round_lines every 1 (round_count every calls) one calls ++ codes "dirty " ++ pages_text (pages_written one calls)

unfoldable pub dirty_text : ℕ → One → List Call → List ℕ
dirty_text every one calls = text_from every one calls

-- the new text is the old one with this at its end
abbrev pub Adds : String Global → String Global → List ℕ → Type 0
Adds old new added = string_bytes new ≡ string_bytes old ++ added
