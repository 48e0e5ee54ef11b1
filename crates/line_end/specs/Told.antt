-- What a step says and does, in the words of its rules.
use Rattle.std.specs.Prelude.{◌≡◌, ◌≤◌, ◌⊎◌, Bool, true, false, List}
use Rattle.line_laws.specs.declared.words.Side.{Side}
use Rattle.line_laws.specs.declared.words.Side.TheVariants.{First, Second}
use Rattle.line_laws.specs.declared.words.Position.TheVariants.{Right}
use Rattle.line_laws.specs.declared.words.Item.{Item}
use Rattle.line_laws.specs.declared.words.Item.TheVariants.{Ask, Give, Query, Clear, NoToken}
use Rattle.line_laws.specs.declared.words.QueryOut.TheVariants.{Sound}
use Rattle.line_laws.specs.End.{End, Seen}
use Rattle.line_laws.specs.Step.{StepSoFar, is_right, is_driven_right}
use Rattle.line_laws.specs.Invariant.{how_many, is_give, is_query, is_clear, is_none}

-- ---- words

abbrev pub is_ask : Item → Bool
is_ask Ask = true
is_ask Give = false
is_ask Query = false
is_ask Clear = false
is_ask NoToken = false

-- one of these items is such a one
abbrev pub HasSome : (Item → Bool) → List Item → Type 0
HasSome is items = 1 ≤ how_many is items

abbrev pub IsDrivenRight : Seen → Type 0
IsDrivenRight seen = is_driven_right seen.drive ≡ true

-- ---- what a step says

-- The token is given away only where the lock isn't at the right and isn't driven there; the end has none then.
pub record GivesUnlocked (seen : Seen) (end : End) : Type 0 where
  pub away : end.token ≡ false
  pub unlocked : is_right end.lock ≡ false
  pub undriven : is_driven_right seen.drive ≡ false

-- It is asked for only where it isn't here, and the operator wishes it or the lock is driven right.
pub record AsksForNeed (seen : Seen) (end : End) : Type 0 where
  pub away : end.token ≡ false
  pub need : (seen.wish ≡ true) ⊎ IsDrivenRight seen

-- The partner is queried only where the token is here and the own part free; the query is sound then.
pub record QueriesSound (seen : Seen) (end : End) : Type 0 where
  pub here : end.token ≡ true
  pub free : seen.busy ≡ false
  pub sound : end.query ≡ Sound

-- No token is said to be here only by the second end, and only where none is.
pub record SaysTrue (side : Side) (end : End) : Type 0 where
  pub second : side ≡ Second
  pub away : end.token ≡ false

-- all that a step says is so
pub record IsTrueSaid (side : Side) (seen : Seen) (so_far : StepSoFar) : Type 0 where
  pub give : HasSome is_give so_far.given → GivesUnlocked seen so_far.end
  pub ask : HasSome is_ask so_far.given → AsksForNeed seen so_far.end
  pub query : HasSome is_query so_far.given → QueriesSound seen so_far.end
  pub clear : HasSome is_clear so_far.given → seen.busy ≡ false
  pub none : HasSome is_none so_far.given → SaysTrue side so_far.end

-- ---- what a step does

-- The token comes only where it was, or by a Give, or, at the first end, where it was told that the second has none.
abbrev pub TokenComes : Side → List Item → End → Type 0
TokenComes side items old = (old.token ≡ true) ⊎ (HasSome is_give items ⊎ ((side ≡ First) × ((old.none_told ≡ true) ⊎ HasSome is_none items)))

-- The lock comes to the right only where it was, or is driven there and the token is here.
abbrev pub LockComes : Seen → End → End → Type 0
LockComes seen old new = (old.lock ≡ Right) ⊎ (IsDrivenRight seen × (new.token ≡ true))

-- The line is known to be empty only where the own part is free, and where it was known or a Clear came.
pub record EmptyComes (seen : Seen) (items : List Item) (old : End) : Type 0 where
  pub free : seen.busy ≡ false
  pub known : (old.empty ≡ true) ⊎ HasSome is_clear items
