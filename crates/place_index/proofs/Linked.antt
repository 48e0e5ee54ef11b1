-- Rings of nodes: a new node joins one, and a node leaves one.
use Rattle.std.proofs.Common.{◌≡◌, ◌≢◌, ℕ, ◌+◌, ◌<◌, ◌≤◌, ◌⊎◌, inl, inr, sym, ap, ◌∙◌, subst, arith}
use Rattle.std.proofs.lemmas.Bool.{cases_eq}
use Rattle.place_index.specs.inside.Rings.{AreLinked, IsLinked}

-- Buckets are nodes, each in a ring of its own.
pub record AreRings (m end : ℕ) (h n o : ℕ → ℕ) : Type 0 where
  pub own : (node : ℕ) → node < m → h node ≡ node
  pub within : m ≤ end
  pub linked : AreLinked m end h n o

-- a bucket is linked
pub linked_bucket : (m end b : ℕ) (h n o : ℕ → ℕ) → AreRings m end h n o → b < m → IsLinked end h n o b
linked_bucket m end b h n o rings below =
    let own : h b ≡ b = rings.own b below
    in let within : m ≤ end = rings.within
    in rings.linked b (omega arith) (omega arith)

-- the node before a bucket is in its ring
pub home-newest : (m end b : ℕ) (h n o : ℕ → ℕ) → AreRings m end h n o → b < m → h (o b) ≡ b
home-newest m end b h n o rings below = (linked_bucket m end b h n o rings below).older_home ∙ rings.own b below

-- the node before a bucket is linked
pub linked_newest : (m end b : ℕ) (h n o : ℕ → ℕ) → AreRings m end h n o → b < m → IsLinked end h n o (o b)
linked_newest m end b h n o rings below =
    let home : h (o b) ≡ b = home-newest m end b h n o rings below
    in rings.linked (o b) (linked_bucket m end b h n o rings below).older_within (omega arith)

-- no node of a ring is newer than the one before its bucket
pub newest : (m end b j : ℕ) (h n o : ℕ → ℕ) → AreRings m end h n o → b < m → o b < j → j < end → h j ≡ b → ⊥
newest m end b j h n o rings below after within same =
    let home : h (o b) ≡ b = home-newest m end b h n o rings below
    in let next = (linked_newest m end b h n o rings below).next j after within (same ∙ sym home)
    in let back : n (o b) ≡ b = (linked_bucket m end b h n o rings below).older_back
    in let first : o b < n (o b) = next.0
    in let low : o b < m = omega arith
    in let own : h (o b) ≡ o b = rings.own (o b) low
    in omega arith

-- A new node joins the ring of a bucket, as its newest.
pub record Joins (m end b : ℕ) (h n o h2 n2 o2 : ℕ → ℕ) : Type 0 where
  pub bucket : b < m
  pub home_stays : (i : ℕ) → i < end → h2 i ≡ h i
  pub home_new : h2 end ≡ b
  pub newer_joins : n2 (o b) ≡ end
  pub newer_new : n2 end ≡ b
  pub newer_stays : (i : ℕ) → i < end → i ≢ o b → n2 i ≡ n i
  pub older_joins : o2 b ≡ end
  pub older_new : o2 end ≡ o b
  pub older_stays : (i : ℕ) → i < end → i ≢ b → o2 i ≡ o i

-- what is so of the node before a node
pub record HasOlder (end : ℕ) (h n o : ℕ → ℕ) (i : ℕ) : Type 0 where
  pub within : o i < end
  pub home : h (o i) ≡ h i
  pub back : n (o i) ≡ i

pub joined_new : (m end b : ℕ) (h n o h2 n2 o2 : ℕ → ℕ) → AreRings m end h n o → Joins m end b h n o h2 n2 o2 → IsLinked (end + 1) h2 n2 o2 end
joined_new m end b h n o h2 n2 o2 rings joins =
    let ring = linked_bucket m end b h n o rings joins.bucket
    in let newer : n2 end ≡ b = joins.newer_new
    in let older : o2 end ≡ o b = joins.older_new
    in let low : b < m = joins.bucket
    in let span : m ≤ end = rings.within
    in let there : o b < end = ring.older_within
    in let home_b : h2 b ≡ b = joins.home_stays b (omega arith) ∙ rings.own b low
    in let home_l : h2 (o b) ≡ b = joins.home_stays (o b) there ∙ home-newest m end b h n o rings low
    in record {
      newer_within = omega arith;
      newer_home = ap h2 newer ∙ home_b ∙ sym joins.home_new;
      newer_back = ap o2 newer ∙ joins.older_joins;
      older_within = omega arith;
      older_home = ap h2 older ∙ home_l ∙ sym joins.home_new;
      older_back = ap n2 older ∙ joins.newer_joins;
      order = inr (newer ∙ sym joins.home_new);
      next = λ j after within same. absurd (omega arith);
    }

-- the node before a node is led to as before, but from the bucket
pub joined_older : (m end b i : ℕ) (h n o h2 n2 o2 : ℕ → ℕ) → AreRings m end h n o → Joins m end b h n o h2 n2 o2 → i < end → h i < m → HasOlder (end + 1) h2 n2 o2 i
joined_older m end b i h n o h2 n2 o2 rings joins within live = elim (cases_eq i b) [ inl e ↦ of_bucket e | inr ne ↦ of_other ne ]
  where
    of_bucket : i ≡ b → HasOlder (end + 1) h2 n2 o2 i
    of_bucket e =
        let older : o2 i ≡ end = ap o2 e ∙ joins.older_joins
        in let home_i : h2 i ≡ b = joins.home_stays i within ∙ ap h e ∙ rings.own b joins.bucket
        in record {
          within = omega arith;
          home = ap h2 older ∙ joins.home_new ∙ sym home_i;
          back = ap n2 older ∙ joins.newer_new ∙ sym e;
        }

    of_other : (i ≡ b → ⊥) → HasOlder (end + 1) h2 n2 o2 i
    of_other ne =
        let own = rings.linked i within live
        in let ring = linked_bucket m end b h n o rings joins.bucket
        in let older : o2 i ≡ o i = joins.older_stays i within ne
        in let there : o i < end = own.older_within
        in let apart : o i ≢ o b = λ e. ne (sym own.older_back ∙ ap n e ∙ ring.older_back)
        in record {
          within = omega arith;
          home = ap h2 older ∙ joins.home_stays (o i) there ∙ own.older_home ∙ sym (joins.home_stays i within);
          back = ap n2 older ∙ joins.newer_stays (o i) there apart ∙ own.older_back;
        }

pub joined_newest : (m end b : ℕ) (h n o h2 n2 o2 : ℕ → ℕ) → AreRings m end h n o → Joins m end b h n o h2 n2 o2 → IsLinked (end + 1) h2 n2 o2 (o b)
joined_newest m end b h n o h2 n2 o2 rings joins =
    let ring = linked_bucket m end b h n o rings joins.bucket
    in let newer : n2 (o b) ≡ end = joins.newer_joins
    in let low : b < m = joins.bucket
    in let there : o b < end = ring.older_within
    in let home : h (o b) ≡ b = home-newest m end b h n o rings low
    in let home_l : h2 (o b) ≡ b = joins.home_stays (o b) there ∙ home
    in let older = joined_older m end b (o b) h n o h2 n2 o2 rings joins there (omega arith)
    in record {
      newer_within = omega arith;
      newer_home = ap h2 newer ∙ joins.home_new ∙ sym home_l;
      newer_back = ap o2 newer ∙ joins.older_new;
      older_within = older.within;
      older_home = older.home;
      older_back = older.back;
      order = inl (omega arith);
      next = λ j after within same. elim (cases_eq j end) [
        | inl e ↦ (omega arith, omega arith)
        | inr ne ↦ (let below : j < end = omega arith
            in absurd (newest m end b j h n o rings low after below (sym (joins.home_stays j below) ∙ same ∙ home_l)))
      ];
    }

pub joined_other : (m end b i : ℕ) (h n o h2 n2 o2 : ℕ → ℕ) → AreRings m end h n o → Joins m end b h n o h2 n2 o2 → i < end → h i < m → i ≢ o b → IsLinked (end + 1) h2 n2 o2 i
joined_other m end b i h n o h2 n2 o2 rings joins within live apart =
    let own = rings.linked i within live
    in let newer : n2 i ≡ n i = joins.newer_stays i within apart
    in let there : n i < end = own.newer_within
    in let home_i : h2 i ≡ h i = joins.home_stays i within
    in let beside : n i ≢ b = λ e. apart (sym own.newer_back ∙ ap o e)
    in let older = joined_older m end b i h n o h2 n2 o2 rings joins within live
    in let above : h i ≡ b → i < n i = λ home. elim own.order [ inl lt ↦ lt | inr e ↦ absurd (beside (e ∙ home)) ]
    in record {
      newer_within = omega arith;
      newer_home = ap h2 newer ∙ joins.home_stays (n i) there ∙ own.newer_home ∙ sym home_i;
      newer_back = ap o2 newer ∙ joins.older_stays (n i) there beside ∙ own.newer_back;
      older_within = older.within;
      older_home = older.home;
      older_back = older.back;
      order = elim own.order [ inl lt ↦ inl (omega arith) | inr e ↦ inr (newer ∙ e ∙ sym home_i) ];
      next = λ j after below same. elim (cases_eq j end) [
        | inl e ↦ (let first : i < n i = above (sym home_i ∙ sym same ∙ ap h2 e ∙ joins.home_new) in (omega arith, omega arith))
        | inr ne ↦ (let lower : j < end = omega arith
            in let next = own.next j after lower (sym (joins.home_stays j lower) ∙ same ∙ home_i)
            in let first : i < n i = next.0
            in let second : n i ≤ j = next.1
            in (omega arith, omega arith))
      ];
    }

-- Rings stay rings where a node joins one.
pub joined : (m end b : ℕ) (h n o h2 n2 o2 : ℕ → ℕ) → AreRings m end h n o → Joins m end b h n o h2 n2 o2 → AreLinked m (end + 1) h2 n2 o2
joined m end b h n o h2 n2 o2 rings joins i within live = elim (cases_eq i end) [
  | inl e ↦ subst (λ x. IsLinked (end + 1) h2 n2 o2 x) (sym e) (joined_new m end b h n o h2 n2 o2 rings joins)
  | inr ne ↦ (let below : i < end = omega arith
      in let home : h2 i ≡ h i = joins.home_stays i below
      in elim (cases_eq i (o b)) [
        | inl e ↦ subst (λ x. IsLinked (end + 1) h2 n2 o2 x) (sym e) (joined_newest m end b h n o h2 n2 o2 rings joins)
        | inr apart ↦ joined_other m end b i h n o h2 n2 o2 rings joins below (omega arith) apart
      ])
]

-- A node that is in no ring is new, and all others are as they were.
pub record StandsAlone (m end : ℕ) (h n o h2 n2 o2 : ℕ → ℕ) : Type 0 where
  pub home_stays : (i : ℕ) → i < end → h2 i ≡ h i
  pub home_new : h2 end ≡ m
  pub newer_stays : (i : ℕ) → i < end → n2 i ≡ n i
  pub older_stays : (i : ℕ) → i < end → o2 i ≡ o i

pub stood : (m end : ℕ) (h n o h2 n2 o2 : ℕ → ℕ) → AreLinked m end h n o → StandsAlone m end h n o h2 n2 o2 → AreLinked m (end + 1) h2 n2 o2
stood m end h n o h2 n2 o2 linked alone i within live =
    let new : h2 end ≡ m = alone.home_new
    in let apart : i ≢ end = λ e. let same : h2 i ≡ h2 end = ap h2 e in omega arith
    in let below : i < end = omega arith
    in let home_i : h2 i ≡ h i = alone.home_stays i below
    in let own = linked i below (omega arith)
    in let newer : n2 i ≡ n i = alone.newer_stays i below
    in let older : o2 i ≡ o i = alone.older_stays i below
    in let newer_there : n i < end = own.newer_within
    in let older_there : o i < end = own.older_within
    in record {
      newer_within = omega arith;
      newer_home = ap h2 newer ∙ alone.home_stays (n i) newer_there ∙ own.newer_home ∙ sym home_i;
      newer_back = ap o2 newer ∙ alone.older_stays (n i) newer_there ∙ own.newer_back;
      older_within = omega arith;
      older_home = ap h2 older ∙ alone.home_stays (o i) older_there ∙ own.older_home ∙ sym home_i;
      older_back = ap n2 older ∙ alone.newer_stays (o i) older_there ∙ own.older_back;
      order = elim own.order [ inl lt ↦ inl (omega arith) | inr e ↦ inr (newer ∙ e ∙ sym home_i) ];
      next = λ j after upper same.
          let away : j ≢ end = λ e. let ends : h2 j ≡ h2 end = ap h2 e in omega arith
          in let lower : j < end = omega arith
          in let next = own.next j after lower (sym (alone.home_stays j lower) ∙ same ∙ home_i)
          in let first : i < n i = next.0
          in let second : n i ≤ j = next.1
          in (omega arith, omega arith);
    }

-- A node leaves its ring: those beside it are led past it.
pub record Leaves (m end p : ℕ) (h n o h2 n2 o2 : ℕ → ℕ) : Type 0 where
  pub within : p < end
  pub place : m ≤ p
  pub live : h p < m
  pub home_stays : (i : ℕ) → i ≢ p → h2 i ≡ h i
  pub home_gone : h2 p ≡ m
  pub newer_leads : n2 (o p) ≡ n p
  pub newer_stays : (i : ℕ) → i ≢ o p → n2 i ≡ n i
  pub older_leads : o2 (n p) ≡ o p
  pub older_stays : (i : ℕ) → i ≢ n p → o2 i ≡ o i

-- a place isn't beside itself
pub not_newer : (m end p : ℕ) (h n o : ℕ → ℕ) → IsLinked end h n o p → m ≤ p → h p < m → n p ≢ p
not_newer m end p h n o own place live e = elim own.order [ inl lt ↦ omega arith | inr home ↦ omega arith ]

pub not_older : (m end p : ℕ) (h n o : ℕ → ℕ) → IsLinked end h n o p → m ≤ p → h p < m → o p ≢ p
not_older m end p h n o own place live e = not_newer m end p h n o own place live (sym (ap n e) ∙ own.older_back)

pub left_older : (m end p i : ℕ) (h n o h2 n2 o2 : ℕ → ℕ) → AreRings m end h n o → Leaves m end p h n o h2 n2 o2 → i < end → h i < m → i ≢ p → HasOlder end h2 n2 o2 i
left_older m end p i h n o h2 n2 o2 rings leaves within live apart = elim (cases_eq i (n p)) [ inl e ↦ of_next e | inr ne ↦ of_other ne ]
  where
    of_next : i ≡ n p → HasOlder end h2 n2 o2 i
    of_next e =
        let gone = rings.linked p leaves.within leaves.live
        in let older : o2 i ≡ o p = ap o2 e ∙ leaves.older_leads
        in let away : o p ≢ p = not_older m end p h n o gone leaves.place leaves.live
        in let there : o p < end = gone.older_within
        in let home_i : h2 i ≡ h p = leaves.home_stays i apart ∙ ap h e ∙ gone.newer_home
        in record {
          within = omega arith;
          home = ap h2 older ∙ leaves.home_stays (o p) away ∙ gone.older_home ∙ sym home_i;
          back = ap n2 older ∙ leaves.newer_leads ∙ sym e;
        }

    of_other : (i ≡ n p → ⊥) → HasOlder end h2 n2 o2 i
    of_other ne =
        let gone = rings.linked p leaves.within leaves.live
        in let own = rings.linked i within live
        in let older : o2 i ≡ o i = leaves.older_stays i ne
        in let there : o i < end = own.older_within
        in let away : o i ≢ p = λ e. ne (sym own.older_back ∙ ap n e)
        in let beside : o i ≢ o p = λ e. apart (sym own.older_back ∙ ap n e ∙ gone.older_back)
        in record {
          within = omega arith;
          home = ap h2 older ∙ leaves.home_stays (o i) away ∙ own.older_home ∙ sym (leaves.home_stays i apart);
          back = ap n2 older ∙ leaves.newer_stays (o i) beside ∙ own.older_back;
        }

-- the node before the one that left is led past it
pub left_before : (m end p : ℕ) (h n o h2 n2 o2 : ℕ → ℕ) → AreRings m end h n o → Leaves m end p h n o h2 n2 o2 → IsLinked end h2 n2 o2 (o p)
left_before m end p h n o h2 n2 o2 rings leaves =
    let gone = rings.linked p leaves.within leaves.live
    in let place : m ≤ p = leaves.place
    in let live : h p < m = leaves.live
    in let vanished : h2 p ≡ m = leaves.home_gone
    in let older_there : o p < end = gone.older_within
    in let newer_there : n p < end = gone.newer_within
    in let home_o : h (o p) ≡ h p = gone.older_home
    in let away : o p ≢ p = not_older m end p h n o gone place live
    in let away_newer : n p ≢ p = not_newer m end p h n o gone place live
    in let before = rings.linked (o p) older_there (omega arith)
    in let back : n (o p) ≡ p = gone.older_back
    in let first : o p < p = elim before.order [ inl lt ↦ omega arith | inr e ↦ absurd (omega arith) ]
    in let newer : n2 (o p) ≡ n p = leaves.newer_leads
    in let home2 : h2 (o p) ≡ h p = leaves.home_stays (o p) away ∙ home_o
    in let older = left_older m end p (o p) h n o h2 n2 o2 rings leaves older_there (omega arith) away
    in record {
      newer_within = omega arith;
      newer_home = ap h2 newer ∙ leaves.home_stays (n p) away_newer ∙ gone.newer_home ∙ sym home2;
      newer_back = ap o2 newer ∙ leaves.older_leads;
      older_within = older.within;
      older_home = older.home;
      older_back = older.back;
      order = elim gone.order [ inl lt ↦ inl (omega arith) | inr e ↦ inr (newer ∙ e ∙ sym home2) ];
      next = λ j after upper same.
          let other : j ≢ p = λ e. let ends : h2 j ≡ h2 p = ap h2 e in omega arith
          in let home_j : h j ≡ h p = sym (leaves.home_stays j other) ∙ same ∙ home2
          in let through = before.next j after upper (home_j ∙ sym home_o)
          in let reached : n (o p) ≤ j = through.1
          in let later : p < j = omega arith
          in let next = gone.next j later upper home_j
          in let up : p < n p = next.0
          in let end : n p ≤ j = next.1
          in (omega arith, omega arith);
    }

pub left_other : (m end p i : ℕ) (h n o h2 n2 o2 : ℕ → ℕ) → AreRings m end h n o → Leaves m end p h n o h2 n2 o2 → i < end → h i < m → i ≢ p → i ≢ o p → IsLinked end h2 n2 o2 i
left_other m end p i h n o h2 n2 o2 rings leaves within live apart beside =
    let gone = rings.linked p leaves.within leaves.live
    in let vanished : h2 p ≡ m = leaves.home_gone
    in let own = rings.linked i within live
    in let newer : n2 i ≡ n i = leaves.newer_stays i beside
    in let there : n i < end = own.newer_within
    in let home_i : h2 i ≡ h i = leaves.home_stays i apart
    in let away : n i ≢ p = λ e. beside (sym own.newer_back ∙ ap o e)
    in let off : n i ≢ n p = λ e. apart (sym own.newer_back ∙ ap o e ∙ gone.newer_back)
    in let older = left_older m end p i h n o h2 n2 o2 rings leaves within live apart
    in record {
      newer_within = omega arith;
      newer_home = ap h2 newer ∙ leaves.home_stays (n i) away ∙ own.newer_home ∙ sym home_i;
      newer_back = ap o2 newer ∙ leaves.older_stays (n i) off ∙ own.newer_back;
      older_within = older.within;
      older_home = older.home;
      older_back = older.back;
      order = elim own.order [ inl lt ↦ inl (omega arith) | inr e ↦ inr (newer ∙ e ∙ sym home_i) ];
      next = λ j after upper same.
          let other : j ≢ p = λ e. let ends : h2 j ≡ h2 p = ap h2 e in omega arith
          in let next = own.next j after upper (sym (leaves.home_stays j other) ∙ same ∙ home_i)
          in let first : i < n i = next.0
          in let second : n i ≤ j = next.1
          in (omega arith, omega arith);
    }

-- Rings stay rings where a node leaves its own.
pub left : (m end p : ℕ) (h n o h2 n2 o2 : ℕ → ℕ) → AreRings m end h n o → Leaves m end p h n o h2 n2 o2 → AreLinked m end h2 n2 o2
left m end p h n o h2 n2 o2 rings leaves i within live =
    let vanished : h2 p ≡ m = leaves.home_gone
    in let apart : i ≢ p = λ e. let ends : h2 i ≡ h2 p = ap h2 e in omega arith
    in let home : h2 i ≡ h i = leaves.home_stays i apart
    in elim (cases_eq i (o p)) [
      | inl e ↦ subst (λ x. IsLinked end h2 n2 o2 x) (sym e) (left_before m end p h n o h2 n2 o2 rings leaves)
      | inr beside ↦ left_other m end p i h n o h2 n2 o2 rings leaves within (omega arith) apart beside
    ]
