-- The open removals, a list in the order in which they began.
use Rattle.std.specs.Prelude.{◌≡◌, ℕ, ◌≤◌, ◌<◌, Bool, false, not, ◌&&◌, ◌||◌, ◌==◌, if◌then◌else◌, List, [], ◌∷◌, ◌++◌, length}
use Rattle.std.specs.List.{list_any, filter, find, range_with_len}
use Rattle.std.specs.Option.{unwrap_or}
use Rattle.vi_bytes.specs.declared.region.Membership.{Membership}
use Rattle.vi_shoot.specs.declared.what.What.{What}
use Rattle.vi_shoot.specs.declared.what.Reach.{Reach}
use Rattle.vi_shoot.specs.declared.waiting.Waiting.{Waiting}
use Rattle.vi_shoot.specs.declared.ops.Op.{Op}
use Rattle.vi_shoot.specs.declared.ops.Token.{Token}
use Rattle.vi_shoot.specs.Waits.{is_nobody, is_awaited, not_awaiting}
use Rattle.vi_shoot.specs.Reaches.{is_for, reach_of, reaches, IsProperReach}

-- the removal waits for the back end of this place
abbrev pub waits_for : ℕ → Op → Bool
waits_for place op = is_awaited place op.waiting

-- it waits for nobody
abbrev pub is_ready : Op → Bool
is_ready op = is_nobody op.waiting

-- An open removal closes a page for an endpoint where it is for that endpoint, or still waits for its back end
-- whatever domain the endpoint is in now, and its reach has the page.
abbrev pub closes_page : ℕ → ℕ → Membership → Op → Bool
closes_page place page now op = (is_for op.what place now || waits_for place op) && reaches (reach_of op.what) page

abbrev pub closes : ℕ → ℕ → Membership → List Op → Bool
closes place page now ops = list_any (λ op. closes_page place page now op) ops

-- the removal has this number
abbrev pub is_number : ℕ → Op → Bool
is_number number op = op.number == number

abbrev pub has_number : ℕ → List Op → Bool
has_number number ops = list_any (λ op. is_number number op) ops

-- a removal has this number and waits for nobody
abbrev pub is_closable : ℕ → List Op → Bool
is_closable number ops = list_any (λ op. is_number number op && is_ready op) ops

-- the lowest number below 8 that no removal has
abbrev pub free_number : List Op → ℕ
free_number ops = unwrap_or (find (λ number. not (has_number number ops)) (range_with_len 0 8)) 8

-- a removal begins, behind the others
abbrev pub begun : What → Waiting → Token → List Op → List Op
begun what waiting token ops = ops ++ (record { number = free_number ops; what = what; waiting = waiting; token = token }) ∷ []

-- it waits for this back end no longer
abbrev pub acknowledged : ℕ → Op → Op
acknowledged place op = record op { waiting = not_awaiting place op.waiting }

-- the oldest that waits for this back end no longer does
abbrev pub acked : ℕ → List Op → List Op
acked place [] = []
acked place (op ∷ ops) = if waits_for place op then acknowledged place op ∷ ops else op ∷ acked place ops

-- the removals with other numbers
abbrev pub without_number : ℕ → List Op → List Op
without_number number ops = filter (λ op. not (is_number number op)) ops

-- what a call answers of a removal
abbrev pub number_of : Op → ℕ
number_of op = op.number

abbrev pub number_and_reach : Op → ℕ × Reach
number_and_reach op = (op.number, reach_of op.what)

abbrev pub what_and_token : Op → What × Token
what_and_token op = (op.what, op.token)

-- each has a number below 8 that no later one has, and a reach with a page
abbrev pub AreNumbered : List Op → Type 0
AreNumbered [] = Unit {0}
AreNumbered (op ∷ ops) = (op.number < 8) × (has_number op.number ops ≡ false) × IsProperReach (reach_of op.what) × AreNumbered ops

-- open removals: at most 8, each with a number of its own
pub record AreOpen (ops : List Op) : Type 0 where
  pub few : length ops ≤ 8
  pub each : AreNumbered ops
