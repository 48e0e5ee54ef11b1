-- Why two routes conflict, and how that is told.
use Rattle.std.specs.Prelude.{◌⊎◌, ◌↔◌, Bool, ◌||◌, ℕ, List, [], ◌∷◌, ◌++◌, codes, if◌then◌else◌, IsTrue}
use Rattle.control_table.specs.layout.declared.ids.RouteId.{RouteId}
use Rattle.control_table.specs.layout.Entries.{Site}
use Rattle.control_table.specs.Table.{Lists, RequireDifferently, SameEntry, ShareSection}
use Rattle.station_layout.specs.declared.conflict_reasons.ConflictReasons.{ConflictReasons}

-- Which reasons two routes have to conflict: they have the same entry signal, share a section, require a point at
-- different sides, or one lists the other as an extra conflict.
pub record AreReasons (l : Site) (a b : RouteId) (r : ConflictReasons) : Type 0 where
  pub entry : IsTrue r.entry ↔ SameEntry l a b
  pub section : IsTrue r.section ↔ ShareSection l a b
  pub point : IsTrue r.point ↔ RequireDifferently l a b
  pub extra : IsTrue r.extra ↔ (Lists l a b ⊎ Lists l b a)

-- there is a reason
abbrev pub has_reason : ConflictReasons → Bool
has_reason r = r.entry || (r.section || (r.point || r.extra))

abbrev pub word_if : Bool → List ℕ → List (List ℕ)
word_if holds word = if holds then word ∷ [] else []

-- the words for the reasons, in this order
abbrev pub reason_words : ConflictReasons → List (List ℕ)
reason_words r = word_if r.entry (codes "entry") ++ (word_if r.section (codes "section") ++ (word_if r.point (codes "point") ++ word_if r.extra (codes "extra")))
