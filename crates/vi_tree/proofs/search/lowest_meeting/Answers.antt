use Rattle.std.proofs.Common.{◌≡◌, ◌<◌, ◌≤◌, Some, arith, ap, subst}
use Rattle.vi_tree.specs.Shapes.{link_height}
use Rattle.vi_tree.specs.Held.{Stands}
use Rattle.vi_tree.proofs.HeldLemmas.{low_links, ContainsKey-from_link}
use Rattle.vi_tree.proofs.SearchLemmas.{Left, goes_left, goes_right, height_some, finds_one, finds_lowest, stand_left, stand_right}
use Rattle.vi_tree.proofs.search.lowest_meeting.Goals as goal

pub read-node-requires-clause-there : goal.read-node-requires-clause-there
read-node-requires-clause-there c =
    let st : Stands c.args.nodes.now (Some c.in-Some.child) = subst (λ link. Stands c.args.nodes.now link) c.in-Some.is c.loop-link.invariant.stands in
    ContainsKey-from_link c.args.nodes.now c.in-Some.child st.shape st.holds.leads st.holds.held

pub read-node-requires-clause-counts : goal.read-node-requires-clause-counts
read-node-requires-clause-counts c =
    let st : Stands c.args.nodes.now (Some c.in-Some.child) = subst (λ link. Stands c.args.nodes.now link) c.in-Some.is c.loop-link.invariant.stands in
    let top : link_height c.loop-link.link ≡ c.in-Some.child.height = ap link_height c.in-Some.is in
    let counted = c.loop-link.invariant.counted in
    let room = c.requires.counts in
    let some : 1 ≤ c.in-Some.child.height = height_some c.args.nodes.now c.in-Some.child st in
    omega arith

pub loop-link-preserved-then-span-node : goal.loop-link-preserved-then-span-node
loop-link-preserved-then-span-node c =
    let s = c.args.nodes.now in
    let child = c.in-Some.child in
    let node = c.read-node.result in
    let read = c.read-node.ensures.node in
    let st : Stands s (Some child) = subst (λ link. Stands s link) c.in-Some.is c.loop-link.invariant.stands in
    let low = low_links s child node st.shape st.holds.leads st.holds.held read in
    let lower : link_height node.left < child.height = low.left in
    let top : link_height c.loop-link.link ≡ child.height = ap link_height c.in-Some.is in
    let rises = c.loop-link.invariant.rises in
    let counted = c.loop-link.invariant.counted in
    let one = c.read-node.ensures.counted in
    record {
      stands = stand_left s child node st read;
      narrows = λ t holds apart. goes_left s c.args.span.now child node c.loop-link.found read t (subst (λ link. Left s c.args.span.now t link c.loop-link.found) c.in-Some.is (c.loop-link.invariant.narrows t holds apart)) c.if-span-node.true;
      rises = omega arith;
      counted = omega arith;
    }

pub loop-link-preserved-then-node-span : goal.loop-link-preserved-then-node-span
loop-link-preserved-then-node-span c =
    let s = c.args.nodes.now in
    let child = c.in-Some.child in
    let node = c.read-node.result in
    let read = c.read-node.ensures.node in
    let st : Stands s (Some child) = subst (λ link. Stands s link) c.in-Some.is c.loop-link.invariant.stands in
    let low = low_links s child node st.shape st.holds.leads st.holds.held read in
    let lower : link_height node.right < child.height = low.right in
    let top : link_height c.loop-link.link ≡ child.height = ap link_height c.in-Some.is in
    let rises = c.loop-link.invariant.rises in
    let counted = c.loop-link.invariant.counted in
    let one = c.read-node.ensures.counted in
    record {
      stands = stand_right s child node st read;
      narrows = λ t holds apart. goes_right s c.args.span.now child node c.loop-link.found read t (subst (λ link. Left s c.args.span.now t link c.loop-link.found) c.in-Some.is (c.loop-link.invariant.narrows t holds apart)) c.if-node-span.true;
      rises = omega arith;
      counted = omega arith;
    }

pub loop-link-preserved : goal.loop-link-preserved
loop-link-preserved c =
    let s = c.args.nodes.now in
    let child = c.in-Some.child in
    let node = c.read-node.result in
    let read = c.read-node.ensures.node in
    let st : Stands s (Some child) = subst (λ link. Stands s link) c.in-Some.is c.loop-link.invariant.stands in
    let low = low_links s child node st.shape st.holds.leads st.holds.held read in
    let lower : link_height node.left < child.height = low.left in
    let top : link_height c.loop-link.link ≡ child.height = ap link_height c.in-Some.is in
    let rises = c.loop-link.invariant.rises in
    let counted = c.loop-link.invariant.counted in
    let one = c.read-node.ensures.counted in
    record {
      stands = stand_left s child node st read;
      narrows = λ t holds apart. finds_one s c.args.span.now child node c.loop-link.found read t (subst (λ link. Left s c.args.span.now t link c.loop-link.found) c.in-Some.is (c.loop-link.invariant.narrows t holds apart)) c.if-span-node.false c.if-node-span.false;
      rises = omega arith;
      counted = omega arith;
    }

pub returns-then-node-span-2-clause-found : goal.returns-then-node-span-2-clause-found
returns-then-node-span-2-clause-found c = λ t holds apart.
    let s = c.args.nodes.now in
    let left = subst (λ link. Left s c.args.span.now t link c.loop-link.found) c.in-Some.is (c.loop-link.invariant.narrows t holds apart) in
    finds_lowest s c.args.span.now c.in-Some.child c.read-node.result c.loop-link.found c.read-node.ensures.node t left c.if-span-node.false c.if-node-span.false c.if-node-span-2.true
