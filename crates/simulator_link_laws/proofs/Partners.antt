-- The links of a layout, by the identities of their controllers.
use Rattle.std.proofs.Common.{◌≡◌, ℕ, ◌+◌, ◌<◌, List, ◌++◌, length, map, Some, slice_get, option_map, refl, sym, ap, subst, ◌∙◌, arith}
use Rattle.std.proofs.lemmas.Option.{get_or_from_slice_get}
use Rattle.simulator_spec.specs.layout.Entries.{DetectorEntry, Site}
use Rattle.simulator_spec.specs.layout.declared.entries.Point.{Point}
use Rattle.simulator_spec.specs.layout.declared.entries.Signal.{Signal}
use Rattle.simulator_spec.specs.Links.{names_at}
use Rattle.simulator_spec.specs.Nodes.{detector_link, links, names_of, partners, point_link}
use Rattle.simulator_link_laws.proofs.Lists.{get_left, get_map, get_right, length_joined, length_map, some_within, within_some}

abbrev pub signal_ids : Site → List ℕ
signal_ids site = map (λ (s : Signal). s.id) site.signals

abbrev pub point_ids : Site → List ℕ
point_ids site = map (λ (p : Point). p.id) site.points

abbrev pub detector_ids : Site → List ℕ
detector_ids site = map (λ (d : DetectorEntry). d.id) site.detectors

pub partners_count : (site : Site) → length (partners site) ≡ links site
partners_count site =
    length_joined (signal_ids site) (point_ids site ++ detector_ids site)
    ∙ ap (λ n. length (signal_ids site) + n) (length_joined (point_ids site) (detector_ids site))
    ∙ sums (length (signal_ids site)) (length (point_ids site)) (length (detector_ids site)) (length site.signals) (length site.points) (length site.detectors)
    (length_map (λ (s : Signal). s.id) site.signals) (length_map (λ (p : Point). p.id) site.points) (length_map (λ (d : DetectorEntry). d.id) site.detectors)
  where
    sums : (a b c d e f : ℕ) → a ≡ d → b ≡ e → c ≡ f → a + (b + c) ≡ d + e + f
    sums a b c d e f p q r = omega arith

pub partner_at : (site : Site) (link : ℕ) → link < links site → (id : ℕ) × (slice_get (partners site) link ≡ Some id)
partner_at site link below = some_within (partners site) link (subst (λ n. link < n) (sym (partners_count site)) below)

pub below_links : (site : Site) (link id : ℕ) → slice_get (partners site) link ≡ Some id → link < links site
below_links site link id at = subst (λ n. link < n) (partners_count site) (within_some (partners site) link id at)

pub named_at : (site : Site) (link id : ℕ) → slice_get (partners site) link ≡ Some id → names_at site link ≡ names_of site id
named_at site link id at = ap (names_of site) (get_or_from_slice_get (partners site) link id 0 at)

-- ---- the entry of a link

pub signal_partner : (site : Site) (place : ℕ) (entry : Signal) → slice_get site.signals place ≡ Some entry → slice_get (partners site) place ≡ Some entry.id
signal_partner site place entry at =
    let found = get_map (λ (s : Signal). s.id) site.signals place ∙ ap (option_map (λ (s : Signal). s.id)) at
    in get_left (signal_ids site) (point_ids site ++ detector_ids site) place (within_some (signal_ids site) place entry.id found) ∙ found

pub point_partner : (site : Site) (place : ℕ) (entry : Point) → slice_get site.points place ≡ Some entry → slice_get (partners site) (point_link site place) ≡ Some entry.id
point_partner site place entry at =
    let found = get_map (λ (p : Point). p.id) site.points place ∙ ap (option_map (λ (p : Point). p.id)) at
    in get_right (signal_ids site) (point_ids site ++ detector_ids site) place (point_link site place) (ap (λ n. n + place) (sym (length_map (λ (s : Signal). s.id) site.signals)))
    ∙ get_left (point_ids site) (detector_ids site) place (within_some (point_ids site) place entry.id found) ∙ found

pub detector_partner : (site : Site) (place : ℕ) (entry : DetectorEntry) → slice_get site.detectors place ≡ Some entry → slice_get (partners site) (detector_link site place) ≡ Some entry.id
detector_partner site place entry at =
    let found = get_map (λ (d : DetectorEntry). d.id) site.detectors place ∙ ap (option_map (λ (d : DetectorEntry). d.id)) at
    in get_right (signal_ids site) (point_ids site ++ detector_ids site) (length (point_ids site) + place) (detector_link site place)
    (sums (length site.signals) (length site.points) (length (signal_ids site)) (length (point_ids site)) place (length_map (λ (s : Signal). s.id) site.signals) (length_map (λ (p : Point). p.id) site.points))
    ∙ get_right (point_ids site) (detector_ids site) place (length (point_ids site) + place) refl ∙ found
  where
    sums : (a b c d n : ℕ) → c ≡ a → d ≡ b → a + b + n ≡ c + (d + n)
    sums a b c d n p q = omega arith
