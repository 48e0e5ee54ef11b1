-- The controllers of a station as it lies when it is started.
use Rattle.std.proofs.Common.{◌≡◌, refl, sym, ap, ◌∙◌, ℕ, ◌+◌, ◌<◌, ◌≤◌, List, [], ◌∷◌, ◌++◌, length, map, take, get_or, arith}
use Rattle.std.specs.List.{zip}
use Rattle.std.proofs.lemmas.List.{length-map, map_more, take_all}
use Rattle.std.proofs.lemmas.Slice.Zip.{firsts-zip, get_or-zip}
use Rattle.simulator_spec.specs.sci_telegram.declared.message.Occupancy.{Occupancy}
use Rattle.simulator_spec.specs.sci_telegram.declared.message.Position.{Position}
use Rattle.simulator_spec.specs.layout.Entries.{Site}
use Rattle.simulator_spec.specs.layout.declared.entries.Point.{Point}
use Rattle.simulator_spec.specs.signal_ctl.Signal.{SignalState}
use Rattle.simulator_spec.specs.point_ctl.Drive.{PointState}
use Rattle.simulator_spec.specs.tds_ctl.declared.section.Section.{Section}
use Rattle.simulator_spec.specs.ixl_spec.Table.{Table}
use Rattle.simulator_spec.specs.First.{Outset, at_zero, first_controller, first_interlocking, new_detector, new_signal, point_standing, world_at}
use Rattle.simulator_spec.specs.State.{ClockedControllerState, WorldState}

-- one more is made
pub next_made : {A B : Type 0} (make : A → B) (entries same : List A) (index : ℕ) (entry : A) (made new : List B) (one : B) → entries ≡ same → index < length entries → entry ≡ get_or entries index entry
    → made ≡ map make (take index same) → one ≡ make entry → new ≡ made ++ one ∷ [] → new ≡ map make (take (index + 1) same)
next_made make entries same index entry made new one are_same below is_entry made_is one_is new_is =
    let within : index < length same = omega (arith, ap length are_same)
    in new_is
    ∙ ap (λ before. before ++ one ∷ []) made_is
    ∙ ap (λ last. map make (take index same) ++ last ∷ []) (one_is ∙ ap make (is_entry ∙ ap (λ all. get_or all index entry) are_same))
    ∙ sym (map_more make same index entry within)

-- pairs of lists of one length
pub length_zipped : {A B : Type 0} (xs : List A) (ys : List B) → length ys ≡ length xs → length (zip xs ys) ≡ length xs
length_zipped xs ys same = sym (length-map (zip xs ys) (λ (p : _ × _). p.0)) ∙ ap length (firsts-zip xs ys same)

-- one more point is made where it stands
pub next_point : (site : Site) (points : List Point) (positions : List Position) (index : ℕ) (entry : Point) (position : Position) (made new : List (ClockedControllerState PointState)) (one : ClockedControllerState PointState)
    → points ≡ site.points → length positions ≡ length site.points → index < length points → entry ≡ get_or points index entry → position ≡ get_or positions index position
    → made ≡ map (point_standing site) (take index (zip site.points positions)) → one ≡ point_standing site (entry, position) → new ≡ made ++ one ∷ []
    → new ≡ map (point_standing site) (take (index + 1) (zip site.points positions))
next_point site points positions index entry position made new one are_same same below entry_is position_is =
    let within : index < length site.points = omega (arith, below, ap length are_same)
    in next_made (point_standing site) (zip site.points positions) (zip site.points positions) index (entry, position) made new one refl (omega (arith, within, length_zipped site.points positions same))
    (ap (λ e. (e, position)) (entry_is ∙ ap (λ all. get_or all index entry) are_same) ∙ ap (λ p. (get_or site.points index entry, p)) position_is
    ∙ sym (get_or-zip site.points positions index (entry, position) within (omega (arith, within, same))))

pub all_points_made : (site : Site) (positions : List Position) (count : ℕ) → length positions ≡ length site.points → length site.points ≤ count
    → map (point_standing site) (take count (zip site.points positions)) ≡ map (point_standing site) (zip site.points positions)
all_points_made site positions count same enough =
    ap (map (point_standing site)) (take_all count (zip site.points positions) (omega (arith, enough, length_zipped site.points positions same)))

pub outset_seen : (site : Site) (table : Table) (outset : Outset) (signals : List (ClockedControllerState SignalState)) (points : List (ClockedControllerState PointState)) (detectors : List (ClockedControllerState (List Section)))
    (stands : List Position) (occupied : List Occupancy)
    → signals ≡ map (λ entry. first_controller (new_signal site at_zero entry)) site.signals
    → points ≡ map (point_standing site) (zip site.points outset.positions)
    → detectors ≡ map (λ entry. first_controller (new_detector site at_zero outset.occupancies entry)) site.detectors
    → stands ≡ outset.positions
    → occupied ≡ outset.occupancies
    → (record { time = 0; interlocking = first_interlocking site table; signals = signals; points = points; detectors = detectors; positions = stands; occupancies = occupied; sent = []; frozen = [] }) ≡ world_at site table outset
unfolding world_at
outset_seen site table outset signals points detectors stands occupied signals_are points_are detectors_are stands_are occupied_are =
    let made : List (ClockedControllerState SignalState) → List (ClockedControllerState PointState) → List (ClockedControllerState (List Section)) → List Position → List Occupancy → WorldState =
    λ s p d l o. record { time = 0; interlocking = first_interlocking site table; signals = s; points = p; detectors = d; positions = l; occupancies = o; sent = []; frozen = [] }
    in let all_signals = map (λ entry. first_controller (new_signal site at_zero entry)) site.signals
    in let all_points = map (point_standing site) (zip site.points outset.positions)
    in let all_detectors = map (λ entry. first_controller (new_detector site at_zero outset.occupancies entry)) site.detectors
    in ap (λ s. made s points detectors stands occupied) signals_are
    ∙ ap (λ p. made all_signals p detectors stands occupied) points_are
    ∙ ap (λ d. made all_signals all_points d stands occupied) detectors_are
    ∙ ap (λ l. made all_signals all_points all_detectors l occupied) stands_are
    ∙ ap (λ o. made all_signals all_points all_detectors outset.positions o) occupied_are
