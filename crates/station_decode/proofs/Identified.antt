-- The nodes of a layout by their identities.
use Rattle.std.proofs.Common.{◌≡◌, ℕ, zero, suc, ◌+◌, ◌==◌, Bool, true, false, cond, not, nat_lt, List, [], ◌∷◌, ◌++◌, length, map, Option, Some, None, slice_get, refl, ap, sym, ◌∙◌, arith}
use Rattle.std.specs.Option.{option_map}
use Rattle.std.specs.List.{position, position_or_len}
use Rattle.std.proofs.lemmas.Bool.Decides.{nat_tests}
use Rattle.std.proofs.lemmas.List.{map-append}
use Rattle.ixl_spec.specs.layout.Entries.{Site}
use Rattle.ixl_spec.specs.layout.Nodes.{identities, node_names}
use Rattle.station_decode.specs.Datagrams.{identified, name_among}

-- the first entry is looked at before the others
position-cons : {A : Type 0} (p : A → Bool) (x : A) (xs : List A) → position p (x ∷ xs) ≡ cond (p x) (Some 0) (option_map suc (position p xs))
position-cons p x xs = by_first (p x) (position_or_len p xs) (length xs)
  where
    by_first : (b : Bool) (k n : ℕ)
        → cond (nat_lt (cond (not b) (1 + k) 0) (suc n)) (Some (cond (not b) (1 + k) 0)) None ≡ cond b (Some 0) (option_map suc (cond (nat_lt k n) (Some k) None))
    by_first true k n = grind (arith, nat_tests)
    by_first false k n = further (nat_lt (1 + k) (suc n)) (nat_lt k n) (grind (arith, nat_tests))
      where
        further : (a b : Bool) → a ≡ b → cond a (Some (1 + k)) None ≡ option_map suc (cond b (Some k) None)
        further a true e = rw e (ap Some (omega arith))
        further a false e = rw e refl

-- the name at the place that was found, if one was
abbrev at : Option ℕ → List (List ℕ) → Option (List ℕ)
at None names = None
at (Some place) names = slice_get names place

at_behind : (found : Option ℕ) (name : List ℕ) (names : List (List ℕ)) → at found names ≡ at (option_map suc found) (name ∷ names)
at_behind None name names = refl
at_behind (Some place) name names = refl

among : (nodes : List (ℕ × List ℕ)) (id : ℕ) → name_among nodes id ≡ at (position (λ own. own == id) (map (λ (n : ℕ × List ℕ). n.0) nodes)) (map (λ (n : ℕ × List ℕ). n.1) nodes)
among [] id = refl
among (node ∷ nodes) id =
    by (node.0 == id) (position (λ own. own == id) (map (λ (n : ℕ × List ℕ). n.0) nodes)) (among nodes id)
    ∙ ap (λ found. at found (node.1 ∷ map (λ (n : ℕ × List ℕ). n.1) nodes)) (sym (position-cons (λ own. own == id) node.0 (map (λ (n : ℕ × List ℕ). n.0) nodes)))
  where
    by : (v : Bool) (found : Option ℕ) → name_among nodes id ≡ at found (map (λ (n : ℕ × List ℕ). n.1) nodes)
        → cond v (Some node.1) (name_among nodes id) ≡ at (cond v (Some 0) (option_map suc found)) (node.1 ∷ map (λ (n : ℕ × List ℕ). n.1) nodes)
    by true found is = refl
    by false found is = is ∙ at_behind found node.1 (map (λ (n : ℕ × List ℕ). n.1) nodes)

-- of entries of a kind
firsts : {A : Type 0} (id_of : A → ℕ) (name_of : A → List ℕ) (entries : List A) → map (λ (n : ℕ × List ℕ). n.0) (map (λ e. (id_of e, name_of e)) entries) ≡ map id_of entries
firsts id_of name_of [] = refl
firsts id_of name_of (e ∷ entries) = ap (λ ids. id_of e ∷ ids) (firsts id_of name_of entries)

seconds : {A : Type 0} (id_of : A → ℕ) (name_of : A → List ℕ) (entries : List A) → map (λ (n : ℕ × List ℕ). n.1) (map (λ e. (id_of e, name_of e)) entries) ≡ map name_of entries
seconds id_of name_of [] = refl
seconds id_of name_of (e ∷ entries) = ap (λ names. name_of e ∷ names) (seconds id_of name_of entries)

three : {A B : Type 0} (f : A → B) (xs ys zs : List A) (us vs ws : List B) → map f xs ≡ us → map f ys ≡ vs → map f zs ≡ ws → map f (xs ++ (ys ++ zs)) ≡ us ++ (vs ++ ws)
three f xs ys zs us vs ws ex ey ez =
    map-append f xs (ys ++ zs)
    ∙ ap (λ first. first ++ map f (ys ++ zs)) ex
    ∙ ap (λ rest. us ++ rest) (map-append f ys zs ∙ ap (λ first. first ++ map f zs) ey ∙ ap (λ rest. vs ++ rest) ez)

ids_are : (site : Site) → map (λ (n : ℕ × List ℕ). n.0) (identified site) ≡ identities site
ids_are site =
    ap (λ ids. site.station.id ∷ ids)
    (three (λ (n : ℕ × List ℕ). n.0) (map (λ s. (s.id, s.name)) site.signals) (map (λ p. (p.id, p.name)) site.points) (map (λ d. (d.id, d.name)) site.detectors) _ _ _
    (firsts (λ s. s.id) (λ s. s.name) site.signals) (firsts (λ p. p.id) (λ p. p.name) site.points) (firsts (λ d. d.id) (λ d. d.name) site.detectors))

names_are : (site : Site) → map (λ (n : ℕ × List ℕ). n.1) (identified site) ≡ node_names site
names_are site =
    ap (λ names. site.station.name ∷ names)
    (three (λ (n : ℕ × List ℕ). n.1) (map (λ s. (s.id, s.name)) site.signals) (map (λ p. (p.id, p.name)) site.points) (map (λ d. (d.id, d.name)) site.detectors) _ _ _
    (seconds (λ s. s.id) (λ s. s.name) site.signals) (seconds (λ p. p.id) (λ p. p.name) site.points) (seconds (λ d. d.id) (λ d. d.name) site.detectors))

pub named_of : (site : Site) (id : ℕ) → name_among (identified site) id ≡ at (position (λ own. own == id) (identities site)) (node_names site)
named_of site id =
    among (identified site) id
    ∙ ap (λ ids. at (position (λ own. own == id) ids) (map (λ (n : ℕ × List ℕ). n.1) (identified site))) (ids_are site)
    ∙ ap (at (position (λ own. own == id) (identities site))) (names_are site)
