use Rattle.std.proofs.Common.{◌++◌, ◌∙◌, ap, ap₂, codes, decimal}
use Rattle.std.proofs.lemmas.Result.{on_ok_weaker}
use Rattle.std.specs.String.{string_bytes}
use Rattle.vi_state.specs.Written.{page_set, written}
use Rattle.vi_dirty.specs.Rounds.{pages_text, pages_written, round_count, round_lines}
use Rattle.vi_dirty.proofs.Course.{count_is}
use Rattle.vi_dirty.proofs.Texts.{four_added}
use Rattle.vi_dirty.proofs.rounds.push_text.Goals as goal

pub returns : goal.returns
returns c = on_ok_weaker c.push_pages.result (λ last calls are.
    let one = c.args.course.now.tracker.one in
    let count = c.div_ceil-count.ensures ∙ count_is c.args.script.now c.args.every c.args.entries.now calls are in
    let room = c.requires.go.room in
    let rounds = codes "rounds " ++ decimal (round_count c.args.every calls) ++ codes "\n" in
    let first = c.in_ok-writeln.ensures.bytes ∙ ap (λ n. string_bytes c.args.out.now ++ (codes "rounds " ++ decimal n ++ codes "\n")) count in
    let all = c.as_slice.ensures.value ∙ c.in_ok-pages.ensures.pages ∙ c.in_ok-push_rounds.ensures.all calls are ∙ ap₂ (λ n ps. page_set n (ps ++ written one calls)) room c.requires.fresh in
    four_added (string_bytes c.args.out.now) rounds (round_lines c.args.every 1 (round_count c.args.every calls) one calls) (codes "dirty ") (pages_text (pages_written one calls)) _ _ _ _
    first (c.in_ok-push_rounds.ensures.lines calls are) c.in_ok-push_str.ensures.bytes (last ∙ ap (λ ps. string_bytes c.push_str.new.self ++ pages_text ps) all))
    c.push_pages.ensures
