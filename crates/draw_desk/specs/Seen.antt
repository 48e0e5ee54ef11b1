-- What a desk looks at.
use Rattle.std.specs.Prelude.{ℕ, List, Option, Some, None}
use Rattle.std.specs.Borrow.{Bor}

-- by what it knows who may ask, and who may command
pub record AccessView : Type 0 where
  pub host : List ℕ
  pub origin : List ℕ
  pub token : List ℕ

-- what of a request it looks at; a field that wasn't sent once is none
pub record SentView : Type 0 where
  pub method : List ℕ
  pub target : List ℕ
  pub host : Option (List ℕ)
  pub origin : Option (List ℕ)
  pub token : Option (List ℕ)
  -- which text of the file the page says that it knows
  pub known : Option (List ℕ)
  pub body : List ℕ

abbrev pub field_sent : Option (Bor (List ℕ)) → Option (List ℕ)
field_sent (Some field) = Some field.now
field_sent None = None
