-- A point that is known at a side lies there in the field.
use Rattle.simulator_recovery.proofs.Words.Basics.{◌≡◌, ℕ, ◌<◌, length, Some, slice_get, refl, sym, ap, ◌∙◌, arith, same_Some, slice_get_within}
use Rattle.simulator_recovery.proofs.Words.Links.{settled, reading_of, is_up}
use Rattle.simulator_recovery.proofs.Words.Controllers.{Position, Side, PointState}
use Rattle.simulator_recovery.proofs.Words.Interlockings.{IsTableOf, At, Known, KnownPointState, Table}
use Rattle.simulator_recovery.proofs.Words.Stations.{Site, Once, IsStation, position_of, ClockedControllerState, WorldState, IsReached, Represents}
use Rattle.simulator_recovery.proofs.Words.Machine.{Machine, side_seen, position_seen}
use Rattle.simulator_recovery.proofs.Words.Recovery.{IsUpAtClock, LawsBelow}
use Rattle.simulator_recovery.proofs.Lemmas.Points.FieldPointsSeen.{AnswersIn, answers_in, known_stands}
use Rattle.simulator_recovery.proofs.Lemmas.Ground.EndCalls.{at_place}

-- a position that is seen at a side is that side
seen_there : (where_it_lies : Position) (side : Side) → position_seen where_it_lies ≡ Some (side_seen side) → where_it_lies ≡ position_of side
seen_there Position.Right Side.Right e = refl
seen_there Position.Left Side.Left e = refl
seen_there Position.Right Side.Left e = absurd (cc e)
seen_there Position.Left Side.Right e = absurd (cc e)
seen_there Position.NoEndPosition Side.Right e = absurd (cc e)
seen_there Position.NoEndPosition Side.Left e = absurd (cc e)

module _ (site : Site) (table : Table) (world : WorldState) (machine : Machine) (represented : Represents site table world machine) (place : ℕ) (side : Side)
    (known : KnownPointState) (there : slice_get world.interlocking.ixl.known_points place ≡ Some known) where
  few : place < length site.points
  few = let within = slice_get_within world.interlocking.ixl.known_points place known there in let many = represented.linked.whole.clients.known_points in omega (arith, within, many)

  controller : (c : ClockedControllerState PointState) × (slice_get world.points place ≡ Some c)
  controller = let f = few in let many = represented.linked.whole.points in at_place world.points place (omega (arith, f, many))

  lies : (one : Position) × (slice_get world.positions place ≡ Some one)
  lies = let f = few in let many = represented.points.count in at_place world.positions place (omega (arith, f, many))

  -- a point lies where the machine's stands
  lies_there : (machine.points place).position ≡ Some (side_seen side) → At world.positions place (λ one. one ≡ position_of side)
  lies_there stands = (
    lies.0,
    lies.1,
    seen_there lies.0 side (ap position_seen (sym (represented.points.sensed place controller.0 lies.0 controller.1 lies.1))
        ∙ (sym (represented.points.each place controller.0 controller.1).position ∙ stands)),
  )

-- ---- a world that is reached

pub known_lies : LawsBelow → (site : Site) (table : Table) → Once site → IsStation site → IsTableOf site table → (world : WorldState) → IsReached site table world → (place : ℕ) (side : Side)
    → IsUpAtClock world place → Known world.interlocking.ixl place side → At world.positions place (λ one. one ≡ position_of side)
known_lies laws site table once station is_table world reached place side up known = lies_there site table world seen.machine seen.represented place side known.0 known.1
    (known_stands site table world seen.machine seen.represented place known.0 known.1
    (ap (λ (k : KnownPointState). is_up (settled (reading_of world.interlocking.clock) k.client.link).phase) (same_Some known.0 up.0 (sym known.1 ∙ up.1)) ∙ up.2) known.2.0 side known.2.1)
  where
    seen : AnswersIn site table world
    seen = answers_in laws site table once station is_table world reached
