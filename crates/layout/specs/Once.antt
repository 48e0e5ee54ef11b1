-- What a layout has once.
use Rattle.std.specs.Prelude.{ℕ, ◌≢◌, List, [], ◌∷◌, ◌++◌, map}
use Rattle.std.specs.List.{AllPairs}
use Rattle.layout.specs.declared.port.Port.{Port}
use Rattle.layout.specs.declared.entries.Joint.{Joint}
use Rattle.layout.specs.Entries.{Site}

-- no two are the same
abbrev pub Distinct : {A : Type 0} → List A → Type 0
Distinct xs = AllPairs (λ x y. x ≢ y) xs

-- all names of a station, which are of one set
unfoldable pub all_names : Site → List (List ℕ)
all_names site =
    site.station.name ∷ (site.sections ++ (map (λ t. t.name) site.tracks ++ (map (λ p. p.name) site.points ++ (site.borders
    ++ (map (λ s. s.name) site.signals ++ (map (λ d. d.name) site.detectors ++ map (λ r. r.name) site.routes))))))

-- all identities of nodes, which are of one set
unfoldable pub all_ids : Site → List ℕ
all_ids site = site.station.id ∷ (map (λ p. p.id) site.points ++ (map (λ s. s.id) site.signals ++ map (λ d. d.id) site.detectors))

-- the ports that are joined
abbrev pub joined_ports : List Joint → List Port
joined_ports [] = []
joined_ports (joint ∷ joints) = joint.first ∷ joint.second ∷ joined_ports joints

-- No name and no identity is used twice, no port is joined twice, and no two signals stand at one.
pub record Once (site : Site) : Type 0 where
  pub names : Distinct (all_names site)
  pub ids : Distinct (all_ids site)
  pub joined : Distinct (joined_ports site.joints)
  pub signalled : Distinct (map (λ s. s.at) site.signals)
