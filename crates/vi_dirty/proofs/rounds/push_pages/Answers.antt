use Rattle.std.proofs.Common.{◌≡◌, ◌++◌, ◌∙◌, List, ℕ, codes, decimal, length, append-nil, sym, subst}
use Rattle.std.proofs.lemmas.List.{take_all}
use Rattle.std.specs.List.{flat_map}
use Rattle.std.specs.String.{string_bytes}
use Rattle.vi_dirty.proofs.Texts.{on_pushed, added_last}
use Rattle.vi_dirty.proofs.rounds.push_pages.Goals as goal

pub loop-page-init : goal.loop-page-init
loop-page-init c = c.in_ok-write.ensures.bytes ∙ sym (append-nil _)

pub returns : goal.returns
returns c =
    let all = take_all c.loop-page.page-index c.args.pages.now c.loop-page-test.false in
    let count = decimal (length c.args.pages.now) in
    let before = subst (λ (l : List ℕ). string_bytes c.loop-page.out ≡ string_bytes c.args.out.now ++ count ++ flat_map (λ page. codes " " ++ decimal page) l) all c.loop-page.invariant in
    on_pushed c.push_str.result _ _ _ c.push_str.ensures.bytes (λ is. added_last (string_bytes c.args.out.now) count _ _ (string_bytes c.loop-page.out) _ before is)
