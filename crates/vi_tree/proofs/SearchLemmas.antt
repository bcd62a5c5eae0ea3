-- Looking for the lowest mapping that meets a span, level by level.
use Rattle.std.proofs.Common.{◌≡◌, ◌≤◌, ◌<◌, ◌+◌, max, arith, ◌∷◌, ◌++◌, Option, Some, None, refl, sym, ap, ◌∙◌}
use Rattle.std.specs.Option.{option_or}
use Rattle.slab.specs.Slab.{Slab, get}
use Rattle.vi_bytes.specs.declared.span.Span.{Span}
use Rattle.vi_bytes.specs.declared.lease.Mapping.{Mapping}
use Rattle.vi_bytes.specs.Mappings.{AreApart, mapping_meeting}
use Rattle.vi_tree.specs.declared.node.Child.{Child}
use Rattle.vi_tree.specs.declared.node.Node.{Node}
use Rattle.vi_tree.specs.Shapes.{Shape, Leaf, Branch, height, inorder, link_of}
use Rattle.vi_tree.specs.Held.{Holds, Stands}
use Rattle.vi_tree.proofs.ListLemmas.{AreApart-left, AreApart-right, meeting_lower, meeting_higher, meeting_here, meeting_first, or_none}
use Rattle.vi_tree.proofs.HeldLemmas.{opened, leaf_from_link}
use Rattle.vi_tree.proofs.PathLemmas.{holds_left, holds_right}

pub meeting_none : (span : Span) (t : Shape) → None ≡ link_of t → mapping_meeting span (inorder t) ≡ None
meeting_none span t leads = ap (λ u. mapping_meeting span (inorder u)) (leaf_from_link t leads)

-- what the search looks for in the first tree is what it looks for in the second, or what it has found
pub record Left (s : Slab Node) (span : Span) (t : Shape) (link : Option Child) (found : Option Mapping) : Type 0 where
  pub shape : Shape
  pub holds : Holds s link shape
  pub apart : AreApart (inorder shape)
  pub meeting : mapping_meeting span (inorder t) ≡ option_or (mapping_meeting span (inorder shape)) found

abbrev pub Narrows : Slab Node → Span → Option Child → Option Child → Option Mapping → Type 0
Narrows s span first link found = (t : Shape) → Holds s first t → AreApart (inorder t) → Left s span t link found

or_some : (o : Option Mapping) (m : Mapping) (found : Option Mapping) → option_or (option_or o (Some m)) found ≡ option_or o (Some m)
or_some None m found = refl
or_some (Some x) m found = refl

pub all_left : (s : Slab Node) (span : Span) (link : Option Child) → Narrows s span link link None
all_left s span link t holds apart = record { shape = t; holds = holds; apart = apart; meeting = sym (or_none (mapping_meeting span (inorder t))) }

pub none_left : (s : Slab Node) (span : Span) (t : Shape) (found : Option Mapping) → Left s span t None found → found ≡ mapping_meeting span (inorder t)
none_left s span t found n = sym (n.meeting ∙ ap (λ o. option_or o found) (meeting_none span n.shape n.holds.leads))

module _ (s : Slab Node) (span : Span) (child : Child) (node : Node) (found : Option Mapping) (read : get s child.key ≡ Some node) where
  pub goes_left : (t : Shape) → Left s span t (Some child) found → span.last < node.mapping.span.first → Left s span t node.left found
  goes_left t n lower =
      let o = opened s child node n.shape n.holds.leads n.holds.held read in
      let whole : AreApart (inorder o.l ++ node.mapping ∷ inorder o.r) = rw o.is at n.apart in
      let is : inorder n.shape ≡ inorder o.l ++ node.mapping ∷ inorder o.r = ap inorder o.is in
      record {
        shape = o.l;
        holds = holds_left s child node n.shape n.holds read o;
        apart = AreApart-left (inorder o.l) (node.mapping ∷ inorder o.r) whole;
        meeting = n.meeting ∙ ap (λ q. option_or q found) (ap (mapping_meeting span) is ∙ meeting_lower span (inorder o.l) node.mapping (inorder o.r) whole lower);
      }

  pub goes_right : (t : Shape) → Left s span t (Some child) found → node.mapping.span.last < span.first → Left s span t node.right found
  goes_right t n higher =
      let o = opened s child node n.shape n.holds.leads n.holds.held read in
      let whole : AreApart (inorder o.l ++ node.mapping ∷ inorder o.r) = rw o.is at n.apart in
      let is : inorder n.shape ≡ inorder o.l ++ node.mapping ∷ inorder o.r = ap inorder o.is in
      record {
        shape = o.r;
        holds = holds_right s child node n.shape n.holds read o;
        apart = (AreApart-right (inorder o.l) (node.mapping ∷ inorder o.r) whole).2;
        meeting = n.meeting ∙ ap (λ q. option_or q found) (ap (mapping_meeting span) is ∙ meeting_higher span (inorder o.l) node.mapping (inorder o.r) whole higher);
      }

  pub finds_one : (t : Shape) → Left s span t (Some child) found → node.mapping.span.first ≤ span.last → span.first ≤ node.mapping.span.last → Left s span t node.left (Some node.mapping)
  finds_one t n begins ends =
      let o = opened s child node n.shape n.holds.leads n.holds.held read in
      let whole : AreApart (inorder o.l ++ node.mapping ∷ inorder o.r) = rw o.is at n.apart in
      let is : inorder n.shape ≡ inorder o.l ++ node.mapping ∷ inorder o.r = ap inorder o.is in
      record {
        shape = o.l;
        holds = holds_left s child node n.shape n.holds read o;
        apart = AreApart-left (inorder o.l) (node.mapping ∷ inorder o.r) whole;
        meeting = n.meeting ∙ (ap (λ q. option_or q found) (ap (mapping_meeting span) is ∙ meeting_here span (inorder o.l) node.mapping (inorder o.r) begins ends) ∙ or_some (mapping_meeting span (inorder o.l)) node.mapping found);
      }

  pub finds_lowest : (t : Shape) → Left s span t (Some child) found → node.mapping.span.first ≤ span.last → span.first ≤ node.mapping.span.last → node.mapping.span.first ≤ span.first → Some node.mapping ≡ mapping_meeting span (inorder t)
  finds_lowest t n begins ends low =
      let o = opened s child node n.shape n.holds.leads n.holds.held read in
      let whole : AreApart (inorder o.l ++ node.mapping ∷ inorder o.r) = rw o.is at n.apart in
      let is : inorder n.shape ≡ inorder o.l ++ node.mapping ∷ inorder o.r = ap inorder o.is in
      sym (n.meeting ∙ ap (λ q. option_or q found) (ap (mapping_meeting span) is ∙ meeting_first span (inorder o.l) node.mapping (inorder o.r) whole low begins ends))

-- behind a link whose node was read the search goes on
pub stand_left : (s : Slab Node) (child : Child) (node : Node) → Stands s (Some child) → get s child.key ≡ Some node → Stands s node.left
stand_left s child node st read =
    let o = opened s child node st.shape st.holds.leads st.holds.held read in
    record { shape = o.l; holds = holds_left s child node st.shape st.holds read o }

pub stand_right : (s : Slab Node) (child : Child) (node : Node) → Stands s (Some child) → get s child.key ≡ Some node → Stands s node.right
stand_right s child node st read =
    let o = opened s child node st.shape st.holds.leads st.holds.held read in
    record { shape = o.r; holds = holds_right s child node st.shape st.holds read o }

-- a link that leads to a node tells a height
child_height : (child : Child) (t : Shape) → Some child ≡ link_of t → 1 ≤ child.height
child_height child Leaf leads = absurd (cc)
child_height child (Branch key l m r) leads =
    let same : child ≡ record { key = key; height = max (height l) (height r) + 1 } = cc in
    rw same (omega arith)

pub height_some : (s : Slab Node) (child : Child) → Stands s (Some child) → 1 ≤ child.height
height_some s child st = child_height child st.shape st.holds.leads
