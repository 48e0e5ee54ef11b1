-- When a link is safe: in the connection that is the last of both ends.
use Rattle.std.specs.Prelude.{◌≡◌, ℕ, ◌≤◌, ◌<◌, ◌^◌, false, List, [], ◌++◌, length, Some}
use Rattle.rasta_core_link.specs.State.{confirmed_items, is_open}
use Rattle.rasta_core_link.specs.Receipt.{Receipt}
use Rattle.rasta_core_spec.specs.Ends.{EndState, Outcome, is_taken}
use Rattle.rasta_core_spec.specs.Run.{Ends}

-- What one end took is a beginning of what the other gave, and the other holds no more for confirmed than that.
pub record IsSafe (giver taker : EndState) : Type 0 where
  pub rest : List (List ℕ)
  pub beginning : giver.given ≡ taker.taken ++ rest
  pub confirmed : confirmed_items giver.link ≤ length taker.taken

-- both directions of a connection that is the last of both ends
abbrev pub AreSafe : Ends → Type 0
AreSafe ends = (connection : ℕ) → ends.client.connection ≡ Some connection → ends.server.connection ≡ Some connection
    → IsSafe ends.client ends.server × IsSafe ends.server ends.client

-- The link of an end counts the items that the end gave and took in its last connection; made anew since, it counts none.
pub data IsCounted (end : EndState) : Type 0 where
  counts : end.link.given ≡ length end.given → end.link.taken ≡ length end.taken → IsCounted end
  made_anew : is_open end.link.phase ≡ false → end.link.given ≡ 0 → end.link.taken ≡ 0 → IsCounted end

-- both ends, in a connection that is the last of both
abbrev pub AreCounted : Ends → Type 0
AreCounted ends = (connection : ℕ) → ends.client.connection ≡ Some connection → ends.server.connection ≡ Some connection
    → IsCounted ends.client × IsCounted ends.server

-- The link of an end counts none, and holds none for confirmed.
pub record CountsNone (end : EndState) : Type 0 where
  pub given : end.link.given ≡ 0
  pub taken : end.link.taken ≡ 0
  pub confirmed : confirmed_items end.link ≡ 0

-- the client, as long as its server hasn't entered its last connection
abbrev pub IsCountedAlone : Ends → Type 0
IsCountedAlone ends = (connection : ℕ) → ends.client.connection ≡ Some connection → (ends.server.connection ≡ Some connection → ⊥)
    → CountsNone ends.client

-- an end has given and taken fewer than 2^31 items in its last connection
pub record IsFew (end : EndState) : Type 0 where
  pub given : length end.given < 2 ^ 31
  pub taken : length end.taken < 2 ^ 31

-- both ends, in a connection that is the last of both
abbrev pub AreFew : Ends → Type 0
AreFew ends = (connection : ℕ) → ends.client.connection ≡ Some connection → ends.server.connection ≡ Some connection
    → IsFew ends.client × IsFew ends.server

-- a call that sends nothing, and gives and takes no item
pub record DoesNothing (made : Outcome) : Type 0 where
  pub pdus : made.pdus ≡ []
  pub given : made.given ≡ []
  pub taken : made.taken ≡ []

-- nothing was taken of what came
abbrev pub IsIdle : Receipt → Type 0
IsIdle receipt = (receipt.items ≡ []) × (is_taken receipt.verdict ≡ false)
