-- Keys by their places, and the places of a key.
use Rattle.std.specs.Prelude.{◌≡◌, ◌≢◌, ℕ, ◌+◌, ◌*◌, ◌%◌, ◌<◌, ◌≤◌, List, [], ◌∷◌, length, slice_index_or}

-- what stands in place of a key that was removed; keys are below it
abbrev pub no_key : ℕ
no_key = 4294967295

-- what contracts see of an index: the key of each place, and how many places more have their memory already
pub record IndexState : Type 0 where
  pub keys : List ℕ
  pub room : ℕ

-- the key of a place; beyond the last place there is none
abbrev pub key_at : List ℕ → ℕ → ℕ
key_at keys place = slice_index_or keys place no_key

-- This place has a key, and of the places from `from` on it is the first.
pub record IsFirstFrom (from key : ℕ) (keys : List ℕ) (place : ℕ) : Type 0 where
  pub within : place < length keys
  pub from_there : from ≤ place
  pub has : key_at keys place ≡ key
  pub first : (other : ℕ) → from ≤ other → other < place → key_at keys other ≢ key

-- This place has a key, and of the places before `end` it is the last.
pub record IsLastBefore (end key : ℕ) (keys : List ℕ) (place : ℕ) : Type 0 where
  pub within : place < length keys
  pub before : place < end
  pub has : key_at keys place ≡ key
  pub last : (other : ℕ) → place < other → other < end → key_at keys other ≢ key

-- no place from `from` on has a key
abbrev pub HasNoneFrom : ℕ → ℕ → List ℕ → Type 0
HasNoneFrom from key keys = (place : ℕ) → from ≤ place → key_at keys place ≢ key

-- no place before `end` has a key
abbrev pub HasNoneBefore : ℕ → ℕ → List ℕ → Type 0
HasNoneBefore end key keys = (place : ℕ) → place < end → key_at keys place ≢ key

-- the key of bytes, behind those that were read
abbrev pub key_behind : ℕ → List ℕ → ℕ
key_behind key [] = key
key_behind key (byte ∷ later) = key_behind ((key * 31 + byte) % 2147483648) later

abbrev pub key_of : List ℕ → ℕ
key_of bytes = key_behind 0 bytes
