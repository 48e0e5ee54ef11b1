-- What an interlocking keeps.
use Rattle.std.specs.Prelude.{ℕ, zero, suc, Bool, List, [], ◌∷◌, Option}
use Rattle.closings.specs.sci_telegram.declared.message.Aspect.{Aspect}
use Rattle.closings.specs.sci_telegram.declared.message.Side.{Side}
use Rattle.closings.specs.control_table.bit_row.Places.{Places}
use Rattle.closings.specs.declared.closed.Closings.{Closings}
use Rattle.release.specs.Passage.{PassageState}
use Rattle.ixl_client.specs.Client.{ClientState}
use Rattle.ixl_spec.specs.declared.phase.Phase.{Phase}

pub record RouteState : Type 0 where
  pub phase : Phase
  pub cancelled : Bool
  -- what was reported of its sections since authority was given
  pub passage : PassageState
  -- whether an approach section was occupied or unknown in some step since authority was given
  pub approached : Bool
  -- the clock reading at which it was released in its last setting, if it was
  pub released : Option ℕ

pub record KnownSignalState : Type 0 where
  pub client : ClientState
  -- the last aspect given in the present connection, and how many items were given there with it
  pub aspect : Option Aspect
  pub number : ℕ
  -- the aspect that the last report of the present connection told
  pub indicated : Option Aspect

pub record KnownPointState : Type 0 where
  pub client : ClientState
  -- the side that the last report of the present connection told, if it told one
  pub side : Option Side
  -- the routes since whose setting it was given a move in the present connection, for that route or another
  pub moved : Places

pub record KnownDetectorState : Type 0 where
  pub client : ClientState
  -- the sections last told as occupied in the present connection, by their places in the detector's order
  pub occupied : Places

pub record IxlState : Type 0 where
  pub known_signals : List KnownSignalState
  pub known_points : List KnownPointState
  pub detectors : List KnownDetectorState
  pub routes : List RouteState
  -- the clock reading of its creation, and whether it was told to resume
  pub created : ℕ
  pub resumed : Bool
  -- what is closed
  pub closed : Closings

-- one of a list is changed
abbrev pub changed : {A : Type 0} → (A → A) → ℕ → List A → List A
changed change place [] = []
changed change zero (one ∷ others) = change one ∷ others
changed change (suc place) (one ∷ others) = one ∷ changed change place others
