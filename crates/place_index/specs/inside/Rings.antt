-- The rings of an index.
use Rattle.std.specs.Prelude.{◌≡◌, ◌≢◌, ℕ, ◌+◌, ◌-◌, ◌%◌, ◌^◌, ◌<◌, ◌≤◌, nat_lt, ◌==◌, ◌⊎◌, List, length, slice_index_or, if◌then◌else◌}
use Rattle.place_index.specs.Places.{key_at, no_key}

-- the bucket of a key; of a removed one none
abbrev pub bucket_of : ℕ → ℕ → ℕ
bucket_of buckets key = if key == no_key then buckets else key % buckets

-- the bucket in whose ring a node is: a bucket in its own, a place in that of its key
unfoldable pub home : ℕ → List ℕ → ℕ → ℕ
home buckets keys node = if nat_lt node buckets then node else bucket_of buckets (key_at keys (node - buckets))

-- A node is in its ring: the nodes before and behind it are in the same ring and lead back to it; the one behind it is newer,
-- or else the bucket; and none of the ring stands between them.
pub record IsLinked (end : ℕ) (home newer older : ℕ → ℕ) (node : ℕ) : Type 0 where
  pub newer_within : newer node < end
  pub newer_home : home (newer node) ≡ home node
  pub newer_back : older (newer node) ≡ node
  pub older_within : older node < end
  pub older_home : home (older node) ≡ home node
  pub older_back : newer (older node) ≡ node
  pub order : (node < newer node) ⊎ (newer node ≡ home node)
  pub next : (other : ℕ) → node < other → other < end → home other ≡ home node → (node < newer node) × (newer node ≤ other)

-- Each node of a ring is linked.
abbrev pub AreLinked : ℕ → ℕ → (ℕ → ℕ) → (ℕ → ℕ) → (ℕ → ℕ) → Type 0
AreLinked buckets end home newer older = (node : ℕ) → node < end → home node < buckets → IsLinked end home newer older node

-- the node that a row has for a node
abbrev pub at : List ℕ → ℕ → ℕ
at row node = slice_index_or row node 0

-- what is always true of the rows of an index
pub record IsWhole (buckets room : ℕ) (keys newer older : List ℕ) : Type 0 where
  pub newer_length : length newer ≡ buckets + length keys
  pub older_length : length older ≡ buckets + length keys
  pub numbered : buckets + length keys + room ≤ 2 ^ 32
  pub some : buckets ≡ 0 → length keys + room ≡ 0
  pub linked : AreLinked buckets (buckets + length keys) (home buckets keys) (at newer) (at older)

-- the first place behind a node: behind a bucket the first of all
abbrev pub place_behind : ℕ → ℕ → ℕ
place_behind buckets node = if nat_lt node buckets then 0 else node - buckets + 1

-- how many places stand before a node: before a bucket, which closes its ring, all
abbrev pub places_before : ℕ → ℕ → ℕ → ℕ
places_before buckets count node = if nat_lt node buckets then count else node - buckets

-- what a search in the ring of a key begins with
pub record CanSearch (buckets node key : ℕ) (keys newer older : List ℕ) : Type 0 where
  pub room : ℕ
  pub whole : IsWhole buckets room keys newer older
  pub is_key : key ≢ no_key
  pub some : 0 < buckets
  pub within : node < buckets + length keys
  pub in_ring : home buckets keys node ≡ key % buckets

-- Each bucket is alone in its ring, and there is no other node.
pub record AreAlone (buckets : ℕ) (newer older : List ℕ) : Type 0 where
  pub newer_length : length newer ≡ buckets
  pub older_length : length older ≡ buckets
  pub newer_own : (node : ℕ) → node < buckets → at newer node ≡ node
  pub older_own : (node : ℕ) → node < buckets → at older node ≡ node
