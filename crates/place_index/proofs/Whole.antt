-- The rows of an index stay whole as keys come and go.
use Rattle.std.proofs.Common.{◌≡◌, ◌≢◌, ℕ, ◌+◌, ◌-◌, ◌%◌, ◌^◌, ◌<◌, ◌≤◌, inl, inr, List, [], ◌∷◌, ◌++◌, length, get_or, set, sym, ap, ◌∙◌, subst, arith, length-append}
use Rattle.std.proofs.lemmas.Bool.{cases_lt}
use Rattle.std.proofs.lemmas.List.{get_or_append_left, get_or_at, get_or-set_same, get_or-set_other, length-set}
use Rattle.place_index.specs.Places.{key_at, no_key}
use Rattle.place_index.specs.inside.Rings.{AreAlone, AreLinked, IsLinked, IsWhole, at, bucket_of, home}
use Rattle.place_index.proofs.Homes.{bucket-key, home-append, home-gone, home-has, home-new, home-own, home-set}
use Rattle.place_index.proofs.Linked.{AreRings, Joins, Leaves, StandsAlone, joined, left, linked_bucket, stood}

pub rings : (m room : ℕ) (keys newer older : List ℕ) → IsWhole m room keys newer older → AreRings m (m + length keys) (home m keys) (at newer) (at older)
rings m room keys newer older whole = record { own = home-own m keys; within = omega arith; linked = whole.linked }

-- where there is a place, or room for one, there is a bucket
pub buckets : (m room : ℕ) (keys newer older : List ℕ) → IsWhole m room keys newer older → 0 < length keys + room → 0 < m
buckets m room keys newer older whole more = elim (cases_lt 0 m) [
  | inl some ↦ some
  | inr none ↦ (let zero : m ≡ 0 = omega arith in let nothing : length keys + room ≡ 0 = whole.some zero in absurd (omega arith))
]

-- a new key falls into a bucket
pub bucket_within : (m room key : ℕ) (keys newer older : List ℕ) → IsWhole m room keys newer older → 0 < room → key % m < m
bucket_within m room key keys newer older whole more =
    let some : 0 < m = buckets m room keys newer older whole (omega arith)
    in omega arith

-- the newest place of a bucket is a node
pub newest_within : (m room b : ℕ) (keys newer older : List ℕ) → IsWhole m room keys newer older → b < m → at older b < m + length keys
newest_within m room b keys newer older whole below = (linked_bucket m (m + length keys) b (home m keys) (at newer) (at older) (rings m room keys newer older whole) below).older_within

pub joins : (m room key : ℕ) (keys newer older : List ℕ) → IsWhole m room keys newer older → 0 < room → key ≢ no_key
    → Joins m (m + length keys) (key % m) (home m keys) (at newer) (at older) (home m (keys ++ key ∷ []))
    (at (set (newer ++ key % m ∷ []) (at older (key % m)) (length newer)))
    (at (set (older ++ at older (key % m) ∷ []) (key % m) (length newer)))
joins m room key keys newer older whole more some =
    let low : key % m < m = bucket_within m room key keys newer older whole more
    in let there : at older (key % m) < m + length keys = newest_within m room (key % m) keys newer older whole low
    in let newer_length : length newer ≡ m + length keys = whole.newer_length
    in let older_length : length older ≡ m + length keys = whole.older_length
    in let newer_more : length (newer ++ key % m ∷ []) ≡ length newer + 1 = length-append newer (key % m ∷ [])
    in let older_more : length (older ++ at older (key % m) ∷ []) ≡ length older + 1 = length-append older (at older (key % m) ∷ [])
    in record {
      bucket = low;
      home_stays = λ i within. home-append m keys key i within;
      home_new = home-new m keys key ∙ bucket-key m key some;
      newer_joins = get_or-set_same (newer ++ key % m ∷ []) (at older (key % m)) (length newer) 0 (omega arith) ∙ newer_length;
      newer_new = get_or-set_other (newer ++ key % m ∷ []) (at older (key % m)) (m + length keys) (length newer) 0 (λ e. omega arith) ∙ get_or_at newer (key % m) [] 0 (m + length keys) newer_length;
      newer_stays = λ i within apart. get_or-set_other (newer ++ key % m ∷ []) (at older (key % m)) i (length newer) 0 apart ∙ get_or_append_left newer (key % m ∷ []) 0 i (omega arith);
      older_joins = get_or-set_same (older ++ at older (key % m) ∷ []) (key % m) (length newer) 0 (omega arith) ∙ newer_length;
      older_new = get_or-set_other (older ++ at older (key % m) ∷ []) (key % m) (m + length keys) (length newer) 0 (λ e. omega arith) ∙ get_or_at older (at older (key % m)) [] 0 (m + length keys) older_length;
      older_stays = λ i within apart. get_or-set_other (older ++ at older (key % m) ∷ []) (key % m) i (length newer) 0 apart ∙ get_or_append_left older (at older (key % m) ∷ []) 0 i (omega arith);
    }

-- A key comes, and its place joins the ring of its bucket.
pub whole-joined : (m room key : ℕ) (keys newer older : List ℕ) → IsWhole m room keys newer older → 0 < room → key ≢ no_key
    → IsWhole m (room - 1) (keys ++ key ∷ []) (set (newer ++ key % m ∷ []) (at older (key % m)) (length newer)) (set (older ++ at older (key % m) ∷ []) (key % m) (length newer))
whole-joined m room key keys newer older whole more some =
    let newer2 : List ℕ = set (newer ++ key % m ∷ []) (at older (key % m)) (length newer)
    in let older2 : List ℕ = set (older ++ at older (key % m) ∷ []) (key % m) (length newer)
    in let newer_length : length newer ≡ m + length keys = whole.newer_length
    in let older_length : length older ≡ m + length keys = whole.older_length
    in let newer_more : length newer2 ≡ length newer + 1 = length-set (newer ++ key % m ∷ []) (at older (key % m)) (length newer) ∙ length-append newer (key % m ∷ [])
    in let older_more : length older2 ≡ length older + 1 = length-set (older ++ at older (key % m) ∷ []) (key % m) (length newer) ∙ length-append older (at older (key % m) ∷ [])
    in let keys_more : length (keys ++ key ∷ []) ≡ length keys + 1 = length-append keys (key ∷ [])
    in let numbered : m + length keys + room ≤ 2 ^ 32 = whole.numbered
    in let low : key % m < m = bucket_within m room key keys newer older whole more
    in let end : m + length keys + 1 ≡ m + length (keys ++ key ∷ []) = omega arith
    in record {
      newer_length = omega arith;
      older_length = omega arith;
      numbered = omega arith;
      some = λ e. omega arith;
      linked = subst (λ e. AreLinked m e (home m (keys ++ key ∷ [])) (at newer2) (at older2)) end
          (joined m (m + length keys) (key % m) (home m keys) (at newer) (at older) _ _ _ (rings m room keys newer older whole) (joins m room key keys newer older whole more some));
    }

-- A place comes that has no key.
pub whole-alone : (m room : ℕ) (keys newer older : List ℕ) → IsWhole m room keys newer older → 0 < room
    → IsWhole m (room - 1) (keys ++ no_key ∷ []) (newer ++ 0 ∷ []) (older ++ 0 ∷ [])
whole-alone m room keys newer older whole more =
    let newer_length : length newer ≡ m + length keys = whole.newer_length
    in let older_length : length older ≡ m + length keys = whole.older_length
    in let newer_more : length (newer ++ 0 ∷ []) ≡ length newer + 1 = length-append newer (0 ∷ [])
    in let older_more : length (older ++ 0 ∷ []) ≡ length older + 1 = length-append older (0 ∷ [])
    in let keys_more : length (keys ++ no_key ∷ []) ≡ length keys + 1 = length-append keys (no_key ∷ [])
    in let numbered : m + length keys + room ≤ 2 ^ 32 = whole.numbered
    in let some : 0 < m = buckets m room keys newer older whole (omega arith)
    in let end : m + length keys + 1 ≡ m + length (keys ++ no_key ∷ []) = omega arith
    in let stands : StandsAlone m (m + length keys) (home m keys) (at newer) (at older) (home m (keys ++ no_key ∷ [])) (at (newer ++ 0 ∷ [])) (at (older ++ 0 ∷ [])) = record {
      home_stays = λ i within. home-append m keys no_key i within;
      home_new = home-new m keys no_key;
      newer_stays = λ i within. get_or_append_left newer (0 ∷ []) 0 i (omega arith);
      older_stays = λ i within. get_or_append_left older (0 ∷ []) 0 i (omega arith);
    }
    in record {
      newer_length = omega arith;
      older_length = omega arith;
      numbered = omega arith;
      some = λ e. omega arith;
      linked = subst (λ e. AreLinked m e (home m (keys ++ no_key ∷ [])) (at (newer ++ 0 ∷ [])) (at (older ++ 0 ∷ []))) end
          (stood m (m + length keys) (home m keys) (at newer) (at older) _ _ _ whole.linked stands);
    }

-- a place that has a key is linked
pub linked_place : (m room place : ℕ) (keys newer older : List ℕ) → IsWhole m room keys newer older → place < length keys → key_at keys place ≢ no_key
    → (home m keys (m + place) < m) × IsLinked (m + length keys) (home m keys) (at newer) (at older) (m + place)
linked_place m room place keys newer older whole within some =
    let home : home m keys (m + place) ≡ key_at keys place % m = home-has m keys place some
    in let more : 0 < m = buckets m room keys newer older whole (omega arith)
    in let low : key_at keys place % m < m = omega arith
    in (omega arith, whole.linked (m + place) (omega arith) (omega arith))

-- A key is removed, and its place leaves its ring.
pub whole-left : (m room place : ℕ) (keys newer older : List ℕ) → IsWhole m room keys newer older → place < length keys → key_at keys place ≢ no_key
    → IsWhole m room (set keys place no_key) (set newer (at older (m + place)) (at newer (m + place))) (set older (at newer (m + place)) (at older (m + place)))
whole-left m room place keys newer older whole within some =
    let newer_length : length newer ≡ m + length keys = whole.newer_length
    in let older_length : length older ≡ m + length keys = whole.older_length
    in let newer_same : length (set newer (at older (m + place)) (at newer (m + place))) ≡ length newer = length-set newer (at older (m + place)) (at newer (m + place))
    in let older_same : length (set older (at newer (m + place)) (at older (m + place))) ≡ length older = length-set older (at newer (m + place)) (at older (m + place))
    in let keys_same : length (set keys place no_key) ≡ length keys = length-set keys place no_key
    in let numbered : m + length keys + room ≤ 2 ^ 32 = whole.numbered
    in let linked = linked_place m room place keys newer older whole within some
    in let newer_there : at newer (m + place) < m + length keys = linked.1.newer_within
    in let older_there : at older (m + place) < m + length keys = linked.1.older_within
    in let leaves : Leaves m (m + length keys) (m + place) (home m keys) (at newer) (at older) (home m (set keys place no_key)) (at (set newer (at older (m + place)) (at newer (m + place)))) (at (set older (at newer (m + place)) (at older (m + place)))) = record {
      within = omega arith;
      place = omega arith;
      live = linked.0;
      home_stays = λ i apart. home-set m keys place i apart;
      home_gone = home-gone m keys place within;
      newer_leads = get_or-set_same newer (at older (m + place)) (at newer (m + place)) 0 (omega arith);
      newer_stays = λ i apart. get_or-set_other newer (at older (m + place)) i (at newer (m + place)) 0 apart;
      older_leads = get_or-set_same older (at newer (m + place)) (at older (m + place)) 0 (omega arith);
      older_stays = λ i apart. get_or-set_other older (at newer (m + place)) i (at older (m + place)) 0 apart;
    }
    in record {
      newer_length = omega arith;
      older_length = omega arith;
      numbered = omega arith;
      some = λ e. absurd (let more : 0 < m = buckets m room keys newer older whole (omega arith) in omega arith);
      linked = subst (λ n. AreLinked m (m + n) (home m (set keys place no_key)) (at (set newer (at older (m + place)) (at newer (m + place)))) (at (set older (at newer (m + place)) (at older (m + place))))) (sym keys_same)
          (left m (m + length keys) (m + place) (home m keys) (at newer) (at older) _ _ _ (rings m room keys newer older whole) leaves);
    }

-- the same of rows that are equal to these
pub whole-like : (m room : ℕ) (keys newer older keys2 newer2 older2 : List ℕ) → keys2 ≡ keys → newer2 ≡ newer → older2 ≡ older → IsWhole m room keys newer older → IsWhole m room keys2 newer2 older2
whole-like m room keys newer older keys2 newer2 older2 same_keys same_newer same_older whole =
    subst (λ k. IsWhole m room k newer2 older2) (sym same_keys) (subst (λ n. IsWhole m room keys n older2) (sym same_newer) (subst (λ o. IsWhole m room keys newer o) (sym same_older) whole))

-- The rows of an index of no place are whole.
pub whole-new : (m room : ℕ) (newer older : List ℕ) → AreAlone m newer older → 0 < m → m + room ≤ 2 ^ 32 → IsWhole m room [] newer older
whole-new m room newer older alone some numbered =
    let newer_length : length newer ≡ m = alone.newer_length
    in let older_length : length older ≡ m = alone.older_length
    in record {
      newer_length = omega arith;
      older_length = omega arith;
      numbered = omega arith;
      some = λ e. omega arith;
      linked = λ node within live.
          let low : node < m = omega arith
          in let newer_own : at newer node ≡ node = alone.newer_own node low
          in let older_own : at older node ≡ node = alone.older_own node low
          in let own : home m [] node ≡ node = home-own m [] node low
          in record {
            newer_within = omega arith;
            newer_home = ap (home m []) newer_own;
            newer_back = ap (at older) newer_own ∙ older_own;
            older_within = omega arith;
            older_home = ap (home m []) older_own;
            older_back = ap (at newer) older_own ∙ newer_own;
            order = inr (newer_own ∙ sym own);
            next = λ other after inside same. let home2 : home m [] other ≡ other = home-own m [] other (omega arith) in absurd (omega arith);
          };
    }
