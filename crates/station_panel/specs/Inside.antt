-- What contracts inside the crate say of a disturbed network, and of a panel that is attended. No promise names any of it.
use Rattle.std.specs.Prelude.{◌≡◌, ℕ, nat_le, Bool, true, false, List, [], ◌∷◌, Option}
use Rattle.panel_desk.specs.node_lines.simulator_event.layout.declared.ids.NodeId.{NodeId}
use Rattle.panel_desk.specs.declared.pictured.Pictured as pictures
use Rattle.station_drive.specs.declared.datagrams.Datagrams as networks
use Rattle.station_drive.specs.simulator_event.declared.station.Station as stations
use Rattle.station_drive.specs.Told.{Call, Grows, Sends}
use Rattle.station_panel.specs.DisturbedNetwork.{DisturbedView, LateView, Waits, comes_late, counted, is_cut_off, is_turn}
use Rattle.station_panel.specs.Turns.{CutShort, EndsSo, Moment, Turns}
use Rattle.station_panel.specs.declared.ending.Ending.{Ending}
use Rattle.station_panel.specs.declared.ending.Limits.{Limits}

-- whether it is lost, and what is counted: nothing where a node is cut off
abbrev pub LosesIf : {Network : Type 0} → (cut turn : Bool) → DisturbedView Network → Bool → DisturbedView Network → Type 0
LosesIf true turn old lost new = (lost ≡ true) × (new ≡ old)
LosesIf false true old lost new = (lost ≡ true) × (new ≡ record old { since = 0 })
LosesIf false false old lost new = (lost ≡ false) × (new ≡ counted old)

abbrev pub Loses : {Network : Type 0} → DisturbedView Network → NodeId → List ℕ → Bool → DisturbedView Network → Type 0
Loses old to bytes lost new = LosesIf (is_cut_off old to bytes) (is_turn old) old lost new

-- whether it is kept: only what comes late is
abbrev pub Keeps : {Network : Type 0} → DisturbedView Network → NodeId → List ℕ → Bool → DisturbedView Network → Type 0
Keeps old to bytes true new = (comes_late old ≡ true) × Waits old to bytes new
Keeps old to bytes false new = new ≡ old

-- whether the first that waits is due
abbrev pub is_first_due : List LateView → ℕ → Bool
is_first_due [] reading = false
is_first_due (first ∷ more) reading = nat_le first.due reading

-- the first that waits goes on to the network below
abbrev pub FirstGoes : {Network Net : Type 0} → (Network → Net) → (Net → Call → Net → Type 0) → List LateView → DisturbedView Network → DisturbedView Network → Type 0
FirstGoes told carries [] old new = Unit {0}
FirstGoes {Network} told carries (first ∷ more) old new =
    (net : Network) × carries (told old.net) (Sends first.to first.bytes) (told net) × (new ≡ record old { net = net; late = more })

-- ---- a panel that is attended

module _ {Station Network : Type 0} (s : stations.Ghosts Station) (n : networks.Ghosts Network) (p : pictures.Ghosts Station) where
  -- Turns led from one moment to another, each at a reading of the clock, and with the last of them the panel ended so.
  pub record AttendsUntil (limits : Limits) (readings_old readings_new : Option (List ℕ)) (old new : Moment Station Network) (ending : Ending) : Type 0 where
    pub readings : List ℕ
    pub read : Grows readings_old readings_new readings
    pub turns : Turns s n p limits.memory old readings new
    pub ends : EndsSo limits.for_ms old.run.first readings ending

  -- Turns led to a last moment, and the panel was broken off after it.
  pub record BreaksAfter (limits : Limits) (old new : Moment Station Network) : Type 0 where
    pub readings : List ℕ
    pub last : Moment Station Network
    pub turns : Turns s n p limits.memory old readings last
    pub cut : CutShort s n p last new
