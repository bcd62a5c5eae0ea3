use Rattle.std.proofs.Common.{◌≡◌, ◌+◌, ◌≤◌, length}
use Rattle.vi_words.specs.Words.{lines_of_text}
use Rattle.vi_lines.specs.Fields.{LinesFit}
use Rattle.vi_script.specs.Said.{nothing_said}
use Rattle.vi_script.specs.Texts.{said_from}
use Rattle.vi_script.proofs.reading.parse.Given as goal

abbrev pub invariant-loop-line : goal.invariant-loop-line
invariant-loop-line l = record {
  read : said_from 1 nothing_said (lines_of_text l.bytes) ≡ said_from (l.number + 1) l.draft l.lines;
  few : l.number ≤ 10000;
  above : length l.draft.lines ≤ l.number;
  fields : LinesFit l.draft.lines;
}

abbrev pub decreases-loop-line : goal.decreases-loop-line
decreases-loop-line l = length l.lines
