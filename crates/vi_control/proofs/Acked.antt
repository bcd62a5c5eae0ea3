-- A control after an acknowledgement was served.
use Rattle.std.proofs.Common.{◌≡◌, ℕ, ◌-◌, ◌<◌, not, List, length, set, filter, Some, All, refl, ap, sym, ◌∙◌, arith, length-set}
use Rattle.std.specs.Option.{option_map}
use Rattle.std.proofs.lemmas.List.Elements.{All-get_or}
use Rattle.vi_bytes.specs.Spans.{IsProper}
use Rattle.vi_bytes.specs.declared.span.Span.{Span}
use Rattle.vi_grants.specs.Rows.{GrantRow, IsRow, is_met, without_span, row_at, empty_row}
use Rattle.vi_lanes.specs.Value.{lanes_at, with_lanes, without_ack}
use Rattle.vi_model.specs.Control.{Link, Control, link_of, with_link}
use Rattle.vi_model.specs.Removals.{Removal, acked, acked_grants}
use Rattle.vi_model.specs.Serves.{acked_link, serve_ack}
use Rattle.vi_removals.specs.Value.{RemovalsValue, removals_of, with_ack, oldest_awaiting, addresses_in}
use Rattle.vi_control.specs.Inner.{seen, IsKept}
use Rattle.vi_control.specs.declared.control.Control.TheInside.{Inside}
use Rattle.vi_control.proofs.Acking.{acked_is, count_left, pages_left}
use Rattle.vi_control.proofs.Ties.{tied-acked}
use Rattle.vi_control.proofs.Linking.{grants_at, spare_at, state_row, kept_row, pages_at}

-- the parts then
abbrev pub after_ack : Inside → ℕ → Span → Inside
after_ack p place span = record p {
  removals = record p.removals { opened = with_ack place p.removals.opened };
  grants = set p.grants place (without_span span (row_at p.grants place));
  lanes = with_lanes place (without_ack (lanes_at place p.lanes)) p.lanes;
}

link_acked : (place : ℕ) (span : Span) (removals : List Removal) (x : Link) (row : GrantRow) → x.grants ≡ row.grants → x.spare ≡ row.spare → acked_grants place removals row.grants ≡ filter (λ g. not (is_met span g)) row.grants
    → acked_link place removals x ≡ (let new : GrantRow = without_span span row in record x { grants = new.grants; spare = new.spare; acks = x.acks - 1 })
link_acked place span removals x row g s h = rw (g, s, h, count_left (is_met span) row.grants) refl

pub state_acked : (p : Inside) (place : ℕ) (span : Span) → IsKept p → place < length p.removals.ids → All IsRow p.grants
    → Some span ≡ option_map addresses_in (oldest_awaiting place p.removals.opened) → IsProper span
    → (let after : RemovalsValue = record p.removals { opened = with_ack place p.removals.opened } in removals_of after) ≡ acked place (removals_of p.removals)
    → (let c : Control = (seen (after_ack p place span)).state in c) ≡ serve_ack (seen p).state place
unfolding serve_ack
state_acked p place span k below rows found proper removals =
    let row : GrantRow = row_at p.grants place in
    let same = k.grants in
    let here : IsRow row = All-get_or IsRow p.grants place (empty_row 0) (omega (arith, below, same)) rows in
    let left = acked_is place span p.removals.opened row.grants found proper here.grants_each (pages_at p place k below) in
    let linked = ap (with_link (seen p).state place) (link_acked place span (removals_of p.removals) (link_of (seen p).state place) row (grants_at p.grants place) (spare_at p.grants place) left) ∙ state_row p place (without_span span row) (without_ack (lanes_at place p.lanes)) in
    ap (λ rs. (let c : Control = (seen (after_ack p place span)).state in record c { removals = rs })) removals
    ∙ ap (λ (c : Control). record c { removals = acked place (removals_of p.removals) }) (sym linked)

pub kept_ack : (p : Inside) (place : ℕ) (span : Span) → IsKept p → place < length p.removals.ids → IsKept (after_ack p place span)
kept_ack p place span k below = record {
  endpoints = k.endpoints;
  distinct = k.distinct;
  few = k.few;
  memory = k.memory;
  ports = k.ports;
  grants = length-set p.grants place (without_span span (row_at p.grants place)) ∙ k.grants;
  mail = length-set p.lanes.mail place (without_ack (lanes_at place p.lanes)) ∙ k.mail;
  parked = k.parked;
  posted = k.posted;
  transfers = k.transfers;
  pages = (kept_row p place (without_span span (row_at p.grants place)) k (pages_left span (row_at p.grants place) (pages_at p place k below))).pages;
  config = k.config;
  tied = tied-acked p.calls.taken p.removals.opened place k.tied;
}
