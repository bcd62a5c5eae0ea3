-- A driver's row as it is kept: of an answered line, the chain that has its answer.
use Rattle.std.specs.Prelude.{ℕ, ◌==◌, not, Bool, true, false, nat_lt, if◌then◌else◌, List, [], ◌∷◌, ◌++◌, filter, Option, Some, None}
use Rattle.vi_model.specs.Control.{Setting}
use Rattle.vi_calls.specs.declared.row.Setting.{Setting as Left}
use Rattle.vi_calls.specs.declared.row.Token.{Token}
use Rattle.vi_calls.specs.declared.row.Row.TheInside.{Inside}
use Rattle.std.specs.Option.{option_map}

pub record RowValue : Type 0 where
  pub setting : Option Setting
  pub answered : List Token
  pub posted : ℕ

abbrev pub no_row : RowValue
no_row = record { setting = None; answered = []; posted = 0 }

-- a setting, as contracts see it
abbrev pub setting_of : Left → Setting
setting_of x = record { line = x.line; on = x.on }

abbrev pub row_of : Inside → RowValue
row_of r = record { setting = option_map setting_of r.setting; answered = r.answered.items; posted = r.posted }

-- one more line is answered
abbrev pub added : Token → RowValue → RowValue
added token r = record r { answered = r.answered ++ token ∷ [] }

-- the answered line of the lowest number
abbrev pub lower : Token → Option Token → Token
lower a None = a
lower a (Some b) = if nat_lt b.line a.line then b else a

abbrev pub first_token : List Token → Option Token
first_token [] = None
first_token (a ∷ rest) = Some (lower a (first_token rest))

-- the other lines
abbrev pub other_tokens : ℕ → List Token → List Token
other_tokens line tokens = filter (λ t. not (t.line == line)) tokens

abbrev pub without_first : Option Token → RowValue → RowValue
without_first None r = r
without_first (Some t) r = record r { answered = other_tokens t.line r.answered }

-- its answer stands in the chain with this head, or in a chain
abbrev pub is_head : ℕ → Option ℕ → Bool
is_head head None = false
is_head head (Some h) = h == head

abbrev pub is_in : ℕ → Token → Bool
is_in head t = is_head head t.head

abbrev pub is_some_head : Option ℕ → Bool
is_some_head None = false
is_some_head (Some h) = true

abbrev pub is_in_chain : Token → Bool
is_in_chain t = is_some_head t.head
