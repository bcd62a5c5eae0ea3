use Rattle.std.proofs.Common.{rules, arith, ap, ◌∙◌, sym, refl}
use lib.ListN.{get_elem?}
use mathlib.Core.Option.{some}
use Rattle.vi_turns.specs.declared.slot.Slot.{Slot}
use Rattle.vi_turns.proofs.Closing.{page_at, still_full, still_out, taken_first, taken_more}
use Rattle.vi_turns.proofs.emptied.emptied.Goals as goal

pub unreachable-requires : goal.unreachable-requires
unreachable-requires c =
    let i = c.loop-i.invariant.items in
    let p = page_at _ c.loop-i.i c.take.result c.requires.shelf c.loop-i.auto.i (sym (ap (λ l. get_elem? l c.loop-i.i) i) ∙ c.take.ensures.value) in
    c.in_default.not-Page p.0 p.1

pub loop-i-init : goal.loop-i-init
loop-i-init c = let others = c.take-first.ensures.others in record {
  items = search rules;
  len = search rules;
  filled = still_full _ _ 0 _ _ c.requires.full others.1 others.2;
  out = still_out _ _ 0 (λ k low. absurd (omega (arith, low))) others.1;
  taken = taken_first _ _ c.args.room.items c.take-first.ensures.value (search rules);
  count = search rules;
  room = refl;
}

pub loop-i-preserved : goal.loop-i-preserved
loop-i-preserved c =
    let i = c.loop-i.invariant.items in
    let others = c.take.ensures.others in record {
      items = search rules;
      len = search rules;
      filled = still_full _ _ c.loop-i.i _ _ c.loop-i.invariant.filled others.1 others.2;
      out = still_out _ _ c.loop-i.i c.loop-i.invariant.out others.1;
      taken = taken_more _ c.loop-i.i _ _ _ _ c.in-Page.page c.loop-i.invariant.taken
          (sym (ap (λ l. get_elem? l c.loop-i.i) i) ∙ (c.take.ensures.value ∙ ap (λ (x : Slot). some x) c.in-Page.is)) c.push_reserved.ensures.items refl;
      count = search rules;
      room = search rules;
    }
