-- A report grows with each pair of routes and with each route.
use Rattle.std.proofs.Common.{◌≡◌, ℕ, suc, ◌+◌, ◌-◌, ◌≤◌, ◌<◌, get_or, append_assoc, ap, subst, Bool, true, false, List, [], ◌++◌, length, drop, Option, inl, inr, IsTrue, ◌↔◌, refl, sym, ◌∙◌, arith}
use Rattle.std.proofs.lemmas.Bool.{false≢true}
use Rattle.std.proofs.KnownBytes.{Appends-nil, Appends-trans, Appends-kept}
use Rattle.std.specs.Io.KnownBytes.{Appends, Keeps}
use Rattle.std.proofs.lemmas.List.{append-nil, drop_more, drop_all}
use Rattle.control_table.specs.layout.Entries.{RouteEntry, Site}
use Rattle.control_table.specs.Table.{Conflict}
use Rattle.station_check.specs.Report.{conflict_line, TellsBehind, TellsRoutes, Reported, slow_line, slow_lines, summary_line}
use Rattle.station_check.specs.inside.Told.{ToldPair, ToldBehind, ToldRoutes, ToldSlow}

module _ (l : Site) where
  pub pair_free : (a b : ℕ) (c : Option (List ℕ)) (r : Bool) → IsTrue r ↔ Conflict l (record { 0 = a }) (record { 0 = b }) → r ≡ false → ToldPair l a b c c
  pair_free a b c r decides h = ([], inr ((λ conflict. false≢true (sym h ∙ decides.1 conflict)), refl), Appends-nil c)

  pub pair_told : (a b : ℕ) (c d : Option (List ℕ)) (r : Bool) → IsTrue r ↔ Conflict l (record { 0 = a }) (record { 0 = b }) → r ≡ true → Appends c d (conflict_line l a b) → ToldPair l a b c d
  pair_told a b c d r decides h told = (conflict_line l a b, inl (decides.0 h, refl), told)

  pub behind_begins : (a : ℕ) (c : Option (List ℕ)) → ToldBehind l a 0 c c
  unfolding TellsBehind
  behind_begins a c = ([], refl, Appends-nil c)

  pub one_behind : (a k : ℕ) (c d e : Option (List ℕ)) → ToldBehind l a k c d → ToldPair l a (a + suc k) d e → ToldBehind l a (suc k) c e
  unfolding TellsBehind
  one_behind a k c d e told pair = (told.0 ++ pair.0, (told.0, pair.0, told.1, pair.1, refl), Appends-trans c d e told.0 pair.0 told.2 pair.2)

  -- the same by the number of the later route
  pub next_behind : (a b : ℕ) (c d e : Option (List ℕ)) → a + 1 ≤ b → ToldBehind l a (b - suc a) c d → ToldPair l a b d e → ToldBehind l a (b + 1 - suc a) c e
  next_behind a b c d e le told pair =
      let n : b + 1 - suc a ≡ suc (b - suc a) = omega arith in
      let m : a + suc (b - suc a) ≡ b = omega arith in
      rw n (one_behind a (b - suc a) c d e told (rw m pair))

  pub routes_begin : (c d : Option (List ℕ)) → Appends c d (summary_line l) → ToldRoutes l 0 c d
  unfolding TellsRoutes
  routes_begin c d told = (summary_line l, refl, told)

  pub next_route : (k : ℕ) (c d e : Option (List ℕ)) → ToldRoutes l k c d → ToldBehind l k (length l.routes - suc k) d e → ToldRoutes l (k + 1) c e
  unfolding TellsRoutes
  next_route k c d e told behind =
      let n : k + 1 ≡ suc k = omega arith in
      rw n (told.0 ++ behind.0, (told.0, behind.0, told.1, behind.1, refl), Appends-trans c d e told.0 behind.0 told.2 behind.2)

-- ---- the slow routes

-- those of the first i routes were told
abbrev pub ToldSlowTo : List RouteEntry → ℕ → Option (List ℕ) → Option (List ℕ) → Type 0
ToldSlowTo routes i old new = (text : List ℕ) × Appends old new text × (text ++ slow_lines (drop i routes) ≡ slow_lines routes)

pub slow_begins : (routes : List RouteEntry) (c : Option (List ℕ)) → ToldSlowTo routes 0 c c
slow_begins routes c = ([], Appends-nil c, refl)

pub slow_next : (routes : List RouteEntry) (i : ℕ) (r d : RouteEntry) (c x e : Option (List ℕ)) → i < length routes → r ≡ get_or routes i d → ToldSlowTo routes i c x → Appends x e (slow_line r) → ToldSlowTo routes (i + 1) c e
slow_next routes i r d c x e lt at told line =
    let rest = slow_lines (drop (i + 1) routes) in
    let split : slow_lines (drop i routes) ≡ slow_line r ++ rest = rw (drop_more routes i d lt, ← at) refl in
    (told.0 ++ slow_line r, Appends-trans c x e told.0 (slow_line r) told.1 line, append_assoc told.0 (slow_line r) rest ∙ (ap (λ text. told.0 ++ text) (sym split) ∙ told.2))

pub slow_ends : (routes : List RouteEntry) (i : ℕ) (c d : Option (List ℕ)) → length routes ≤ i → ToldSlowTo routes i c d → ToldSlow routes c d
slow_ends routes i c d le told =
    let all : told.0 ≡ slow_lines routes = sym (append-nil told.0) ∙ (ap (λ rest. told.0 ++ slow_lines rest) (sym (drop_all i routes le)) ∙ told.2) in
    subst (Appends c d) all told.1

pub reported : (l : Site) (c d e f : Option (List ℕ)) → ToldRoutes l (length l.routes) c d → ToldSlow l.routes d e → Keeps e f → Reported l c f
reported l c d e f pairs slow kept =
    (pairs.0 ++ slow_lines l.routes, (pairs.0, pairs.1, refl), Appends-kept c e f (pairs.0 ++ slow_lines l.routes) (Appends-trans c d e pairs.0 (slow_lines l.routes) pairs.2 slow) kept)
