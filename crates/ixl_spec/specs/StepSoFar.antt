-- What a step has done so far. Each part of a step leads from one to the next.
use Rattle.std.specs.Prelude.{◌≡◌, ℕ, zero, suc, List, [], ◌∷◌, ◌++◌, map, length, Option, Some, None, slice_get, if◌then◌else◌}
use Rattle.std.specs.FinSet.{empty, insert}
use Rattle.closings.specs.control_table.bit_row.Places.{Places}
use Rattle.closings.specs.sci_telegram.declared.message.Aspect.{Aspect}
use Rattle.closings.specs.sci_telegram.declared.message.Side.{Side}
use Rattle.rasta_core.specs.Outbox.{OutboxState}
use Rattle.ixl_client.specs.Client.{ClientState, is_outside}
use Rattle.ixl_client.specs.ClientSoFar as client
use Rattle.ixl_client.specs.ClientSoFar.{LinkCall, begun}
use Rattle.ixl_client.specs.Step.{commanding}
use Rattle.ixl_client.specs.declared.command.Command.TheVariants as commands
use Rattle.ixl_spec.specs.Table.{Row, Table}
use Rattle.ixl_spec.specs.State.{KnownDetectorState, IxlState, KnownSignalState, RouteState, KnownPointState, changed}

-- a controller
pub data Node : Type 0 where
  Signal : ℕ → Node
  Point : ℕ → Node
  Detector : ℕ → Node

pub record StepSoFar : Type 0 where
  pub ixl : IxlState
  -- the datagrams handed out
  pub outbox : OutboxState
  -- the calls made of each link, and the items acted on, oldest first
  pub calls : List (Node × LinkCall)
  pub acted : List (Node × List ℕ)

-- an empty outbox for all links that a station can have
abbrev pub empty_outbox : OutboxState
empty_outbox = record { datagrams = []; capacity = 5120 }

-- a step that has done nothing yet
abbrev pub begun_with : IxlState → OutboxState → StepSoFar
begun_with ixl outbox = record { ixl = ixl; outbox = outbox; calls = []; acted = [] }

-- what a client did is part of the step
abbrev pub noted : Node → client.ClientSoFar → StepSoFar → StepSoFar
noted node done part = record part {
  outbox = done.outbox;
  calls = part.calls ++ map (λ call. (node, call)) done.calls;
  acted = part.acted ++ map (λ item. (node, item)) done.acted;
}

-- something is done with what a list has at a place, and nothing where it has nothing there
abbrev pub with_one : {A : Type 0} → Option A → (A → StepSoFar → StepSoFar) → StepSoFar → StepSoFar
with_one None does part = part
with_one (Some one) does part = does one part

-- ---- signals

-- outside nothing was given or heard
unfoldable pub known_signal_after : Option Aspect → ℕ → Option Aspect → ClientState → KnownSignalState
known_signal_after aspect number indicated client =
    if is_outside client.stage then record { client = client; aspect = None; number = 0; indicated = None }
    else record { client = client; aspect = aspect; number = number; indicated = indicated }

abbrev pub with_known_signal : ℕ → KnownSignalState → StepSoFar → StepSoFar
with_known_signal signal known_signal part = record part { ixl = record part.ixl { known_signals = changed (λ old. known_signal) signal part.ixl.known_signals } }

-- a signal is given an aspect
unfoldable pub giving_aspect : ℕ → ℕ → Aspect → StepSoFar → StepSoFar
giving_aspect now signal aspect part = with_one (slice_get part.ixl.known_signals signal) give part where
  give : KnownSignalState → StepSoFar → StepSoFar
  give known_signal part =
      let done = commanding now (commands.Indicate aspect) (begun known_signal.client part.outbox)
      in with_known_signal signal (known_signal_after (Some aspect) done.client.link.given known_signal.indicated done.client) (noted (Signal signal) done part)

-- ---- points

unfoldable pub known_point_after : Option Side → Places → ClientState → KnownPointState
known_point_after side moved client =
    if is_outside client.stage then record { client = client; side = None; moved = empty }
    else record { client = client; side = side; moved = moved }

abbrev pub with_known_point : ℕ → KnownPointState → StepSoFar → StepSoFar
with_known_point point known_point part = record part { ixl = record part.ixl { known_points = changed (λ old. known_point) point part.ixl.known_points } }

-- all numbers below this one
abbrev pub all_below : ℕ → Places
all_below zero = empty
all_below (suc n) = insert (all_below n) n

-- a point is given a move
unfoldable pub giving_move : ℕ → ℕ → Side → StepSoFar → StepSoFar
giving_move now point side part = with_one (slice_get part.ixl.known_points point) give part where
  give : KnownPointState → StepSoFar → StepSoFar
  give known_point part =
      let done = commanding now (commands.Move side) (begun known_point.client part.outbox)
      in with_known_point point (known_point_after known_point.side (all_below (length part.ixl.routes)) done.client) (noted (Point point) done part)

-- ---- detectors

unfoldable pub detector_after : Places → ClientState → KnownDetectorState
detector_after occupied client =
    if is_outside client.stage then record { client = client; occupied = empty } else record { client = client; occupied = occupied }

abbrev pub with_detector : ℕ → KnownDetectorState → StepSoFar → StepSoFar
with_detector place detector part = record part { ixl = record part.ixl { detectors = changed (λ old. detector) place part.ixl.detectors } }

-- ---- routes

abbrev pub with_route : ℕ → (RouteState → RouteState) → StepSoFar → StepSoFar
with_route number change part = record part { ixl = record part.ixl { routes = changed change number part.ixl.routes } }

-- something is done with a route of the table, as it is now
unfoldable pub at_route : Table → ℕ → (Row → RouteState → StepSoFar → StepSoFar) → StepSoFar → StepSoFar
at_route table number does part =
    with_one (slice_get table.rows number) (λ row part. with_one (slice_get part.ixl.routes number) (does row) part) part

-- all routes, in table order
abbrev pub over : (ℕ → StepSoFar → StepSoFar) → ℕ → StepSoFar → StepSoFar
over does zero part = part
over does (suc number) part = does number (over does number part)

-- all of a list, in order
abbrev pub along : {A : Type 0} → (A → StepSoFar → StepSoFar) → List A → StepSoFar → StepSoFar
along does [] part = part
along does (first ∷ others) part = along does others (does first part)

-- A part of a step leads from a state and an outbox to others, whatever was called and acted on before.
abbrev pub Leads : (StepSoFar → StepSoFar) → IxlState → OutboxState → IxlState → OutboxState → Type 0
Leads does ixl outbox new handed_out =
    (part : StepSoFar) → part.ixl ≡ ixl → part.outbox ≡ outbox → ((does part).ixl ≡ new) × ((does part).outbox ≡ handed_out)
