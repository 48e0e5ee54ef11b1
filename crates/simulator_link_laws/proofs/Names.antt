-- The names of a station are names of telegrams, each at its place.
use Rattle.std.proofs.Common.{◌≡◌, ℕ, suc, ◌+◌, List, [], ◌++◌, map, length, Some, slice_get, refl, ap, subst, ◌∙◌}
use Rattle.std.proofs.lemmas.Option.{get_or_from_slice_get}
use Rattle.std.specs.Option.{option_map}
use Rattle.simulator_spec.specs.layout.Entries.{DetectorEntry, Site}
use Rattle.simulator_spec.specs.layout.Once.{all_names}
use Rattle.simulator_spec.specs.layout.Station.{IsStation}
use Rattle.simulator_spec.specs.layout.declared.entries.Point.{Point}
use Rattle.simulator_spec.specs.layout.declared.entries.Signal.{Signal}
use Rattle.simulator_spec.specs.sci_telegram.Names.{IsName}
use Rattle.simulator_link_laws.proofs.Lists.{get_left, get_map, get_right, within_some}

pub record HasNames (site : Site) : Type 0 where
  pub station : IsName site.station.name
  pub signals : (place : ℕ) (entry : Signal) → slice_get site.signals place ≡ Some entry → IsName entry.name
  pub points : (place : ℕ) (entry : Point) → slice_get site.points place ≡ Some entry → IsName entry.name
  pub detectors : (place : ℕ) (entry : DetectorEntry) → slice_get site.detectors place ≡ Some entry → IsName entry.name
  pub sections : (place : ℕ) (name : List ℕ) → slice_get site.sections place ≡ Some name → IsName name

abbrev AreNames : List (List ℕ) → Type 0
AreNames names = (place : ℕ) (name : List ℕ) → slice_get names place ≡ Some name → IsName name

-- lists of names one after the other
first_part : (first rest : List (List ℕ)) → AreNames (first ++ rest) → AreNames first
first_part first rest all place name at = all place name (get_left first rest place (within_some first place name at) ∙ at)

last_part : (first rest : List (List ℕ)) → AreNames (first ++ rest) → AreNames rest
last_part first rest all place name at = all (length first + place) name (get_right first rest place (length first + place) refl ∙ at)

-- the names of entries
of_entries : {A : Type 0} (name_of : A → List ℕ) (entries : List A) → AreNames (map name_of entries) → (place : ℕ) (entry : A) → slice_get entries place ≡ Some entry → IsName (name_of entry)
of_entries name_of entries all place entry at = all place (name_of entry) (get_map name_of entries place ∙ ap (option_map name_of) at)

pub station_names : (site : Site) → IsStation site → HasNames site
unfolding all_names
station_names site station = record {
  station = names 0 site.station.name refl;
  signals = of_entries (λ s. s.name) site.signals (first_part _ _ behind_borders);
  points = of_entries (λ p. p.name) site.points (first_part _ _ behind_tracks);
  detectors = of_entries (λ d. d.name) site.detectors (first_part _ (map (λ r. r.name) site.routes) (last_part (map (λ s. s.name) site.signals) _ behind_borders));
  sections = first_part site.sections _ behind_station;
}
  where
    names : AreNames (all_names site)
    names place name at = subst IsName (get_or_from_slice_get (all_names site) place name [] at) (station.names place [] (within_some (all_names site) place name at))

    behind_station : AreNames (site.sections ++ (map (λ t. t.name) site.tracks ++ (map (λ p. p.name) site.points ++ (site.borders ++ (map (λ s. s.name) site.signals ++ (map (λ d. d.name) site.detectors ++ map (λ r. r.name) site.routes))))))
    behind_station place name at = names (suc place) name at

    behind_tracks : AreNames (map (λ p. p.name) site.points ++ (site.borders ++ (map (λ s. s.name) site.signals ++ (map (λ d. d.name) site.detectors ++ map (λ r. r.name) site.routes))))
    behind_tracks = last_part (map (λ t. t.name) site.tracks) _ (last_part site.sections _ behind_station)

    behind_borders : AreNames (map (λ s. s.name) site.signals ++ (map (λ d. d.name) site.detectors ++ map (λ r. r.name) site.routes))
    behind_borders = last_part site.borders _ (last_part (map (λ p. p.name) site.points) _ behind_tracks)
