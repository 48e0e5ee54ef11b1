-- Searches in a ring for the places of a key.
use Rattle.std.proofs.Common.{◌≡◌, ◌≢◌, ℕ, ◌+◌, ◌-◌, ◌%◌, ◌<◌, ◌≤◌, ◌⊎◌, inl, inr, List, Option, length, get_or, IfSome, IfNone, nat_lt, if◌then◌else◌, sym, ap, ◌∙◌, subst, arith}
use Rattle.std.proofs.lemmas.Bool.{cases_eq, cases_lt}
use Rattle.std.proofs.lemmas.Bool.Decides.{nat_tests}
use Rattle.std.proofs.lemmas.List.{get_or_default, get_or_past}
use Rattle.place_index.specs.Places.{HasNoneBefore, HasNoneFrom, IsFirstFrom, IsLastBefore, key_at, no_key}
use Rattle.place_index.specs.inside.Rings.{AreLinked, CanSearch, IsLinked, IsWhole, at, home, place_behind, places_before}
use Rattle.place_index.proofs.Homes.{home-has, home-own}
use Rattle.place_index.proofs.Whole.{buckets}

-- A node of a key's ring that lies behind another, with no place of the key between them.
pub record IsAhead (m node key : ℕ) (keys : List ℕ) (x : ℕ) : Type 0 where
  pub within : x < m + length keys
  pub in_ring : home m keys x ≡ key % m
  pub beyond : m ≤ x → node < x
  pub next : (other : ℕ) → node < m + other → key_at keys other ≡ key → (node < x) × (x ≤ m + other)

-- A node of a key's ring that lies before another, with no place of the key between them.
pub record IsBehind (m node key : ℕ) (keys : List ℕ) (x : ℕ) : Type 0 where
  pub within : x < m + length keys
  pub in_ring : home m keys x ≡ key % m
  pub before : m ≤ x → x < m + places_before m (length keys) node
  pub last : (other : ℕ) → other < places_before m (length keys) node → key_at keys other ≡ key → m + other ≤ x

-- how far a search may still go
abbrev pub left : ℕ → ℕ → ℕ → ℕ
left m end x = if nat_lt x m then 0 else end - x

-- a place of a key is in the key's ring
pub place_of_key : (m key other : ℕ) (keys : List ℕ) → key ≢ no_key → key_at keys other ≡ key → (m + other < m + length keys) × (home m keys (m + other) ≡ key % m)
place_of_key m key other keys is_key same =
    let some : key_at keys other ≢ no_key = λ e. is_key (sym same ∙ e)
    in let within : other < length keys = elim (cases_lt other (length keys)) [ inl lt ↦ lt | inr past ↦ absurd (some (get_or_past keys other no_key past)) ]
    in (omega arith, home-has m keys other some ∙ ap (λ k. k % m) same)

-- a bucket that is in a key's ring is the key's
pub bucket_of_key : (m key x : ℕ) (keys : List ℕ) → home m keys x ≡ key % m → x < m → x ≡ key % m
bucket_of_key m key x keys in_ring low = sym (home-own m keys x low) ∙ in_ring

-- a node in a key's ring is linked
pub linked_in_ring : (m node key x : ℕ) (keys newer older : List ℕ) → CanSearch m node key keys newer older → x < m + length keys → home m keys x ≡ key % m → IsLinked (m + length keys) (home m keys) (at newer) (at older) x
linked_in_ring m node key x keys newer older can within in_ring =
    let some : 0 < m = can.some
    in let low : key % m < m = omega arith
    in can.whole.linked x within (omega arith)

-- from a node on: the next one lies ahead of it, and of each place of the key not beyond
pub ahead : (m node key from : ℕ) (keys newer older : List ℕ) → CanSearch m node key keys newer older → from < m + length keys → home m keys from ≡ key % m
    → node ≤ from
    → ((other : ℕ) → node < m + other → key_at keys other ≡ key → from < m + other)
    → IsAhead m node key keys (at newer from)
ahead m node key from keys newer older can within in_ring start below =
    let own = linked_in_ring m node key from keys newer older can within in_ring
    in let some : 0 < m = can.some
    in let low : key % m < m = omega arith
    in record {
      within = own.newer_within;
      in_ring = own.newer_home ∙ in_ring;
      beyond = λ place. elim own.order [ inl lt ↦ omega arith | inr e ↦ absurd (omega arith) ];
      next = λ other behind same.
          let there = place_of_key m key other keys can.is_key same
          in let up = own.next (m + other) (below other behind same) there.0 (there.1 ∙ sym in_ring)
          in let first : from < at newer from = up.0
          in let second : at newer from ≤ m + other = up.1
          in (omega arith, omega arith);
    }

pub ahead_first : (m node key : ℕ) (keys newer older : List ℕ) → CanSearch m node key keys newer older → IsAhead m node key keys (at newer node)
ahead_first m node key keys newer older can = ahead m node key node keys newer older can can.within can.in_ring (omega arith) (λ other behind same. behind)

pub ahead_more : (m node key x : ℕ) (keys newer older : List ℕ) → CanSearch m node key keys newer older → IsAhead m node key keys x → m ≤ x → key_at keys (x - m) ≢ key → IsAhead m node key keys (at newer x)
ahead_more m node key x keys newer older can is place not =
    let beyond : node < x = is.beyond place
    in ahead m node key x keys newer older can is.within is.in_ring (omega arith) (λ other behind same.
    let up : x ≤ m + other = (is.next other behind same).1
    in elim (cases_eq x (m + other)) [
      | inl e ↦ absurd (not (let there : x - m ≡ other = omega arith in ap (key_at keys) there ∙ same))
      | inr ne ↦ omega arith
    ])

pub left-bucket : (m end x : ℕ) → x < m → left m end x ≡ 0
left-bucket m end x low = grind (arith, nat_tests)

pub left-place : (m end x : ℕ) → m ≤ x → left m end x ≡ end - x
left-place m end x place = grind (arith, nat_tests)

-- the search goes on with less
pub ahead_less : (m node key x : ℕ) (keys newer older : List ℕ) → CanSearch m node key keys newer older → IsAhead m node key keys x → m ≤ x → left m (m + length keys) (at newer x) < left m (m + length keys) x
ahead_less m node key x keys newer older can is place =
    let own = linked_in_ring m node key x keys newer older can is.within is.in_ring
    in let some : 0 < m = can.some
    in let low : key % m < m = omega arith
    in let within : x < m + length keys = is.within
    in let in_ring : home m keys x ≡ key % m = is.in_ring
    in let here : left m (m + length keys) x ≡ m + length keys - x = left-place m (m + length keys) x place
    in elim own.order [
      | inl lt ↦ (let there : left m (m + length keys) (at newer x) ≡ m + length keys - at newer x = left-place m (m + length keys) (at newer x) (omega arith) in omega arith)
      | inr e ↦ (let there : left m (m + length keys) (at newer x) ≡ 0 = left-bucket m (m + length keys) (at newer x) (omega arith) in omega arith)
    ]

pub behind-place : (m node other : ℕ) → place_behind m node ≤ other → node < m + other
behind-place m node other from = elim (cases_lt node m) [ inl lt ↦ omega arith | inr ge ↦ (let place : place_behind m node ≡ node - m + 1 = grind (arith, nat_tests) in omega arith) ]

pub place-behind : (m node other : ℕ) → node < m + other → place_behind m node ≤ other
place-behind m node other after = elim (cases_lt node m) [
  | inl lt ↦ (let bucket : place_behind m node ≡ 0 = grind (arith, nat_tests) in omega arith)
  | inr ge ↦ (let place : place_behind m node ≡ node - m + 1 = grind (arith, nat_tests) in omega arith)
]

pub found_ahead : (m node key x : ℕ) (keys : List ℕ) → IsAhead m node key keys x → m ≤ x → key_at keys (x - m) ≡ key → IsFirstFrom (place_behind m node) key keys (x - m)
found_ahead m node key x keys is place same =
    let within : x < m + length keys = is.within
    in let beyond : node < x = is.beyond place
    in record {
      within = omega arith;
      from_there = place-behind m node (x - m) (omega arith);
      has = same;
      first = λ other from before e. let up : x ≤ m + other = (is.next other (behind-place m node other from) e).1 in omega arith;
    }

pub none_ahead : (m node key x other : ℕ) (keys newer older : List ℕ) → CanSearch m node key keys newer older → IsAhead m node key keys x → x < m → place_behind m node ≤ other → key_at keys other ≢ key
none_ahead m node key x other keys newer older can is low from same =
    let before : node < x = (is.next other (behind-place m node other from) same).0
    in let bucket : x ≡ key % m = bucket_of_key m key x keys is.in_ring low
    in let own : node ≡ key % m = bucket_of_key m key node keys can.in_ring (omega arith)
    in omega arith

-- from a node back: the node before it lies before it, and each place of the key not behind that
pub behind : (m node key from : ℕ) (keys newer older : List ℕ) → CanSearch m node key keys newer older → from < m + length keys → home m keys from ≡ key % m
    → (m ≤ from → from ≤ m + places_before m (length keys) node)
    → ((other : ℕ) → other < places_before m (length keys) node → key_at keys other ≡ key → (from < m) ⊎ (m + other < from))
    → (from < m → places_before m (length keys) node ≡ length keys)
    → IsBehind m node key keys (at older from)
behind m node key from keys newer older can within in_ring start above bucket =
    let own = linked_in_ring m node key from keys newer older can within in_ring
    in let in_ring2 : home m keys (at older from) ≡ key % m = own.older_home ∙ in_ring
    in let within2 : at older from < m + length keys = own.older_within
    in let before = linked_in_ring m node key (at older from) keys newer older can within2 in_ring2
    in let back : at newer (at older from) ≡ from = own.older_back
    in let some : 0 < m = can.some
    in let low : key % m < m = omega arith
    in record {
      within = within2;
      in_ring = in_ring2;
      before = λ place. elim before.order [
        | inl lt ↦ (elim (cases_lt from m) [
          | inl under ↦ (let all : places_before m (length keys) node ≡ length keys = bucket under in omega arith)
          | inr over ↦ (let reach : from ≤ m + places_before m (length keys) node = start over in omega arith)
        ])
        | inr e ↦ (let under : from < m = omega arith in let all : places_before m (length keys) node ≡ length keys = bucket under in omega arith)
      ];
      last = λ other inside same.
          let there = place_of_key m key other keys can.is_key same
          in elim (cases_lt (at older from) (m + other)) [
            | inl lt ↦ absurd (
                let up = before.next (m + other) lt there.0 (there.1 ∙ sym in_ring2)
                in let first : at older from < at newer (at older from) = up.0
                in let second : at newer (at older from) ≤ m + other = up.1
                in elim (above other inside same) [
                  | inl under ↦ (let one : from ≡ key % m = bucket_of_key m key from keys in_ring under
                      in let two : at older from ≡ key % m = bucket_of_key m key (at older from) keys in_ring2 (omega arith)
                      in omega arith)
                  | inr over ↦ omega arith
                ])
            | inr ge ↦ ge
          ];
    }

pub before-bucket : (m count node : ℕ) → node < m → places_before m count node ≡ count
before-bucket m count node low = grind (arith, nat_tests)

pub before-place : (m count node : ℕ) → m ≤ node → places_before m count node ≡ node - m
before-place m count node place = grind (arith, nat_tests)

pub behind_first : (m node key : ℕ) (keys newer older : List ℕ) → CanSearch m node key keys newer older → IsBehind m node key keys (at older node)
behind_first m node key keys newer older can =
    behind m node key node keys newer older can can.within can.in_ring
    (λ place. let end : places_before m (length keys) node ≡ node - m = before-place m (length keys) node place in omega arith)
    (λ other inside same. elim (cases_lt node m) [
      | inl under ↦ inl under
      | inr place ↦ inr (let end : places_before m (length keys) node ≡ node - m = before-place m (length keys) node place in omega arith)
    ])
    (before-bucket m (length keys) node)

pub behind_more : (m node key x : ℕ) (keys newer older : List ℕ) → CanSearch m node key keys newer older → IsBehind m node key keys x → m ≤ x → key_at keys (x - m) ≢ key → IsBehind m node key keys (at older x)
behind_more m node key x keys newer older can is place not =
    let before : x < m + places_before m (length keys) node = is.before place
    in behind m node key x keys newer older can is.within is.in_ring
    (λ over. omega arith)
    (λ other inside same.
    let up : m + other ≤ x = is.last other inside same
    in elim (cases_eq x (m + other)) [
      | inl e ↦ absurd (not (let there : x - m ≡ other = omega arith in ap (key_at keys) there ∙ same))
      | inr ne ↦ inr (omega arith)
    ])
    (λ under. absurd (omega arith))

pub behind_less : (m node key x : ℕ) (keys newer older : List ℕ) → CanSearch m node key keys newer older → IsBehind m node key keys x → m ≤ x → at older x < x
behind_less m node key x keys newer older can is place =
    let own = linked_in_ring m node key x keys newer older can is.within is.in_ring
    in let in_ring2 : home m keys (at older x) ≡ key % m = own.older_home ∙ is.in_ring
    in let before = linked_in_ring m node key (at older x) keys newer older can own.older_within in_ring2
    in let back : at newer (at older x) ≡ x = own.older_back
    in let some : 0 < m = can.some
    in let low : key % m < m = omega arith
    in elim before.order [ inl lt ↦ omega arith | inr e ↦ absurd (omega arith) ]

pub found_behind : (m node key x : ℕ) (keys : List ℕ) → IsBehind m node key keys x → m ≤ x → key_at keys (x - m) ≡ key → IsLastBefore (places_before m (length keys) node) key keys (x - m)
found_behind m node key x keys is place same =
    let within : x < m + length keys = is.within
    in let before : x < m + places_before m (length keys) node = is.before place
    in record {
      within = omega arith;
      before = omega arith;
      has = same;
      last = λ other after inside e. let up : m + other ≤ x = is.last other inside e in omega arith;
    }

pub none_behind : (m node key x other : ℕ) (keys : List ℕ) → IsBehind m node key keys x → x < m → other < places_before m (length keys) node → key_at keys other ≢ key
none_behind m node key x other keys is low inside same = let up : m + other ≤ x = is.last other inside same in omega arith

-- what is read of a row is what the row has
pub read : (row : List ℕ) (i x : ℕ) → i < length row → x ≡ get_or row i x → at row i ≡ x
read row i x within same = sym (same ∙ get_or_default row i x 0 within)

pub key-read : (keys : List ℕ) (place x : ℕ) → place < length keys → x ≡ get_or keys place x → key_at keys place ≡ x
key-read keys place x within same = sym (same ∙ get_or_default keys place x no_key within)

-- A search begins at the bucket of a key.
pub can_from_bucket : (m room key : ℕ) (keys newer older : List ℕ) → IsWhole m room keys newer older → key < no_key → 0 < m → CanSearch m (key % m) key keys newer older
can_from_bucket m room key keys newer older whole is_key some =
    let low : key % m < m = omega arith
    in record { room = room; whole = whole; is_key = λ e. omega arith; some = some; within = omega arith; in_ring = home-own m keys (key % m) low }

-- A search begins at a place that has the key.
pub can_from_place : (m room place key : ℕ) (keys newer older : List ℕ) → IsWhole m room keys newer older → place < length keys → key ≢ no_key → key_at keys place ≡ key → CanSearch m (m + place) key keys newer older
can_from_place m room place key keys newer older whole within is_key same =
    let some : 0 < m = buckets m room keys newer older whole (omega arith)
    in record { room = room; whole = whole; is_key = is_key; some = some; within = omega arith; in_ring = (place_of_key m key place keys is_key same).1 }

-- an index without buckets has no place
pub none_anywhere : (room key place : ℕ) (m : ℕ) (keys newer older : List ℕ) → IsWhole m room keys newer older → m ≡ 0 → key < no_key → key_at keys place ≢ key
none_anywhere room key place m keys newer older whole none is_key same =
    let nothing : length keys + room ≡ 0 = whole.some none
    in let past : key_at keys place ≡ no_key = get_or_past keys place no_key (omega arith)
    in omega arith

pub first_like : (from from2 key key2 : ℕ) (keys keys2 : List ℕ) (result : Option ℕ) → from ≡ from2 → key ≡ key2 → keys ≡ keys2 → IfSome result (IsFirstFrom from key keys) → IfSome result (IsFirstFrom from2 key2 keys2)
first_like from from2 key key2 keys keys2 result same_from same_key same_keys found =
    subst (λ k. IfSome result (IsFirstFrom from2 key2 k)) same_keys (subst (λ k. IfSome result (IsFirstFrom from2 k keys)) same_key (subst (λ f. IfSome result (IsFirstFrom f key keys)) same_from found))

pub none_from_like : (from from2 key key2 : ℕ) (keys keys2 : List ℕ) (result : Option ℕ) → from ≡ from2 → key ≡ key2 → keys ≡ keys2 → IfNone result (HasNoneFrom from key keys) → IfNone result (HasNoneFrom from2 key2 keys2)
none_from_like from from2 key key2 keys keys2 result same_from same_key same_keys none =
    subst (λ k. IfNone result (HasNoneFrom from2 key2 k)) same_keys (subst (λ k. IfNone result (HasNoneFrom from2 k keys)) same_key (subst (λ f. IfNone result (HasNoneFrom f key keys)) same_from none))

pub last_like : (end end2 key key2 : ℕ) (keys keys2 : List ℕ) (result : Option ℕ) → end ≡ end2 → key ≡ key2 → keys ≡ keys2 → IfSome result (IsLastBefore end key keys) → IfSome result (IsLastBefore end2 key2 keys2)
last_like end end2 key key2 keys keys2 result same_end same_key same_keys found =
    subst (λ k. IfSome result (IsLastBefore end2 key2 k)) same_keys (subst (λ k. IfSome result (IsLastBefore end2 k keys)) same_key (subst (λ f. IfSome result (IsLastBefore f key keys)) same_end found))

pub none_before_like : (end end2 key key2 : ℕ) (keys keys2 : List ℕ) (result : Option ℕ) → end ≡ end2 → key ≡ key2 → keys ≡ keys2 → IfNone result (HasNoneBefore end key keys) → IfNone result (HasNoneBefore end2 key2 keys2)
none_before_like end end2 key key2 keys keys2 result same_end same_key same_keys none =
    subst (λ k. IfNone result (HasNoneBefore end2 key2 k)) same_keys (subst (λ k. IfNone result (HasNoneBefore end2 k keys)) same_key (subst (λ f. IfNone result (HasNoneBefore f key keys)) same_end none))

pub behind-bucket : (m node : ℕ) → node < m → place_behind m node ≡ 0
behind-bucket m node low = grind (arith, nat_tests)

pub behind-own : (m place : ℕ) → place_behind m (m + place) ≡ place + 1
behind-own m place = let over : m ≤ m + place = omega arith in grind (arith, nat_tests)

pub before-own : (m count place : ℕ) → places_before m count (m + place) ≡ place
before-own m count place = let end : places_before m count (m + place) ≡ m + place - m = before-place m count (m + place) (omega arith) in omega arith
