-- What is seen of a route's sections while a train passes, and which section it lets go.
use Rattle.std.specs.Prelude.{◌≡◌, ◌==◌, ◌&&◌, ◌||◌, ◌⊎◌, ℕ, suc, Bool, true, false, not, IsTrue, List, [], ◌∷◌, ◌++◌}
use Rattle.std.specs.List.{Contains}
use Rattle.std.specs.FinSet.{contains, empty, insert, remove}
use Rattle.bit_row.specs.Places.{Places}

-- One look at a section of the route: its place in path order, counted from 0, and whether it was occupied.
pub record Look : Type 0 where
  pub section : ℕ
  pub occupied : Bool

-- A section was seen in a state.
abbrev pub WasSeen : List Look → ℕ → Bool → Type 0
WasSeen looks k occupied = Contains looks (record { section = k; occupied = occupied })

-- Some section was seen occupied.
abbrev pub IsReached : List Look → Type 0
IsReached looks = (k : ℕ) × WasSeen looks k true

-- When a section was last looked at, it wasn't occupied. The latest look comes first.
abbrev pub LastSeenClear : List Look → ℕ → Type 0
LastSeenClear looks k = (later : List Look) × (earlier : List Look)
    × (looks ≡ later ++ record { section = k; occupied = false } ∷ earlier) × ((occupied : Bool) → WasSeen later k occupied → ⊥)

-- The passage over n sections lets section k go: the authority has ended, the section was seen occupied and
-- last seen clear, and it is the last one or the next was seen occupied.
pub record MayBeFreed (n : ℕ) (looks : List Look) (k : ℕ) (ended : Bool) : Type 0 where
  pub over : IsTrue ended
  pub reached : WasSeen looks k true
  pub left : LastSeenClear looks k
  pub next : (suc k ≡ n) ⊎ WasSeen looks (suc k) true

-- What is kept of the looks: the sections seen occupied, and those that were so when last looked at.
pub record PassageState : Type 0 where
  pub sections : ℕ
  pub seen : Places
  pub occupied : Places

-- One look more.
abbrev pub after_look : PassageState → ℕ → Bool → PassageState
after_look p k true = record p { seen = insert p.seen k; occupied = insert p.occupied k }
after_look p k false = record p { occupied = remove p.occupied k }

-- The passage over n sections after these looks, the latest first.
unfoldable pub passage_after : ℕ → List Look → PassageState
passage_after n [] = record { sections = n; seen = empty; occupied = empty }
passage_after n (look ∷ looks) = after_look (passage_after n looks) look.section look.occupied

-- Whether section k may be freed, as it is computed.
abbrev pub is_freeable : PassageState → ℕ → Bool → Bool
is_freeable p k ended = ended && contains p.seen k && not (contains p.occupied k) && (suc k == p.sections || contains p.seen (suc k))
