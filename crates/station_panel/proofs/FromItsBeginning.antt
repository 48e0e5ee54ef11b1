-- What a panel comes to whose turns led on from its beginning.
use Rattle.std.proofs.Common.{◌≡◌, ℕ, List, [], ◌∷◌, Option, refl, subst}
use Rattle.panel_desk.specs.Answers.{DeskView}
use Rattle.panel_desk.specs.declared.pictured.Pictured as pictures
use Rattle.station_drive.specs.declared.datagrams.Datagrams as networks
use Rattle.station_drive.specs.simulator_event.declared.station.Station as stations
use Rattle.station_drive.specs.Engines.{EngineView}
use Rattle.station_drive.specs.Told.{Grows}
use Rattle.station_panel.specs.DisturbedNetwork.{DisturbedView}
use Rattle.station_panel.specs.Inside.{AttendsUntil, BreaksAfter}
use Rattle.station_panel.specs.Served.{IsAttended, IsBroken}
use Rattle.station_panel.specs.Turns.{EndsSo, Moment, Turns, at_once, beginning_of, begins}
use Rattle.station_panel.specs.declared.ending.Ending.{Ending}
use Rattle.station_panel.specs.declared.ending.Limits.{Limits}
use Rattle.station_panel.proofs.Readings.{grows_on}

module _ {Station Network : Type 0} (s : stations.Ghosts Station) (n : networks.Ghosts Network) (p : pictures.Ghosts Station) where
  -- it couldn't begin
  pub stays_unbegun : (limits : Limits) (engine : EngineView Station (DisturbedView Network)) (desk : DeskView) (first : ℕ) (readings_old text : Option (List ℕ)) → engine.text ≡ text
      → IsBroken s n p limits engine desk readings_old text
  stays_unbegun limits engine desk first readings_old text is = record {
    last = beginning_of (s.site engine.station) engine desk first;
    attended = record { first = first; readings = []; read = tt; turns = begins };
    left = beginning_of (s.site engine.station) engine desk first;
    cut = at_once refl refl refl;
    text = is;
  }

  module _ (limits : Limits) (engine : EngineView Station (DisturbedView Network)) (desk : DeskView) (first : ℕ) {begun new : Moment Station Network} {text : Option (List ℕ)} (same : begun ≡ beginning_of (s.site engine.station) engine desk first) (text_is : new.text ≡ text) where
    -- it was attended up to its limits
    pub attended_until : (readings_old mid readings_new : Option (List ℕ)) (ending : Ending) → Grows readings_old mid (first ∷ []) → AttendsUntil s n p limits mid readings_new begun new ending
        → IsAttended s n p limits engine desk readings_old readings_new text ending
    attended_until readings_old mid readings_new ending read a = record {
      last = new;
      attended = record {
        first = first;
        readings = a.readings;
        read = grows_on readings_old mid readings_new (first ∷ []) a.readings read a.read;
        turns = subst (λ (m : Moment Station Network). Turns s n p limits.memory m a.readings new) same a.turns;
      };
      ends = subst (λ (m : Moment Station Network). EndsSo limits.for_ms m.run.first a.readings ending) same a.ends;
      text = text_is;
    }

    -- it was broken off
    pub broken_after : (readings_old : Option (List ℕ)) → BreaksAfter s n p limits begun new → IsBroken s n p limits engine desk readings_old text
    broken_after readings_old b = record {
      last = b.last;
      attended = record { first = first; readings = b.readings; read = tt; turns = subst (λ (m : Moment Station Network). Turns s n p limits.memory m b.readings b.last) same b.turns };
      left = new;
      cut = b.cut;
      text = text_is;
    }
