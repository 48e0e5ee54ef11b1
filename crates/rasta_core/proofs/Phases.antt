-- Phases and admissions, case by case. Their types have no names outside the crate of the link, so they are written
-- as the type of such a value.
use Rattle.std.proofs.Common.{◌≡◌, ℕ, ◌⊎◌, List, [], true, false, arith}
use Rattle.rasta_core_spec.specs.State.{LinkState, is_open, is_up, is_asking, is_client}
use Rattle.rasta_core_spec.specs.Clock.{open_state}
use Rattle.rasta_core_spec.specs.Receipt.{up, missing, admission}
use Rattle.rasta_core_spec.specs.phase.State.TheVariants as state
use Rattle.rasta_core_spec.specs.body.Body.TheVariants.{ConnectionResponse, RetransmissionRequest, RetransmissionResponse, DisconnectionRequest, Heartbeat, Data, RetransmittedData}

abbrev pub TypeOf : {A : Type 0} → A → Type 0
TypeOf {A} a = A

pub up_open : (l : LinkState) → is_up l.phase ≡ true → is_open l.phase ≡ true
up_open l e = grind arith

pub up_heard : (l : LinkState) → is_up l.phase ≡ true → is_asking l ≡ false
up_heard l e = grind arith

pub start_open : (l : LinkState) → open_state l.phase ≡ state.Start → is_open l.phase ≡ true
start_open l e = grind arith

pub start_asking : (l : LinkState) → open_state l.phase ≡ state.Start → is_asking l ≡ is_client l.identity.role
start_asking l e = grind arith

pub up_up : (l : LinkState) → open_state l.phase ≡ state.Up → is_up l.phase ≡ true
up_up l e = grind arith

pub requested_up : (l : LinkState) → open_state l.phase ≡ state.RetransmissionRequested → is_up l.phase ≡ true
requested_up l e = grind arith

pub running_up : (l : LinkState) → open_state l.phase ≡ state.RetransmissionRunning → is_up l.phase ≡ true
running_up l e = grind arith

pub down_closed : (l : LinkState) → open_state l.phase ≡ state.Down → is_open l.phase ≡ false
down_closed l e = grind arith

pub never_quiet : (l : LinkState) → open_state l.phase ≡ state.Quiet → ⊥
never_quiet l e = grind arith

pub asking_client : (l : LinkState) → is_asking l ≡ true → is_client l.identity.role ≡ true
asking_client l e = grind arith

-- the five admissions: their values
abbrev pub Admits : LinkState → Type 0
Admits l = TypeOf (admission Heartbeat l.phase)

abbrev pub violates : (l : LinkState) → Admits l
violates l = admission (ConnectionResponse (record { version = []; window = 0; reserved = [] })) l.phase

abbrev pub closes : (l : LinkState) → Admits l
closes l = admission (DisconnectionRequest 0 0) l.phase

abbrev pub in_turn_value : (l : LinkState) → Admits l
in_turn_value l = admission Heartbeat (up l).phase

abbrev pub discards : (l : LinkState) → Admits l
discards l = admission Heartbeat (missing l).link.phase

abbrev pub resumes : (l : LinkState) → Admits l
resumes l = admission RetransmissionResponse (missing l).link.phase

pub heartbeat_admission : (l : LinkState) → (admission Heartbeat l.phase ≡ in_turn_value l) ⊎ (admission Heartbeat l.phase ≡ discards l)
unfolding missing
heartbeat_admission l = grind arith

pub data_admission : (l : LinkState) (items : List (List ℕ)) → (admission (Data items) l.phase ≡ in_turn_value l) ⊎ (admission (Data items) l.phase ≡ discards l)
unfolding missing
data_admission l items = grind arith

pub again_admission : (l : LinkState) (items : List (List ℕ)) → (admission (RetransmittedData items) l.phase ≡ in_turn_value l) ⊎ ((admission (RetransmittedData items) l.phase ≡ discards l) ⊎ (admission (RetransmittedData items) l.phase ≡ violates l))
unfolding missing
again_admission l items = grind arith

pub request_admission : (l : LinkState) → (admission RetransmissionRequest l.phase ≡ in_turn_value l) ⊎ ((admission RetransmissionRequest l.phase ≡ discards l) ⊎ (admission RetransmissionRequest l.phase ≡ violates l))
unfolding missing
request_admission l = grind arith

pub response_admission : (l : LinkState) → (admission RetransmissionResponse l.phase ≡ resumes l) ⊎ (admission RetransmissionResponse l.phase ≡ violates l)
unfolding missing
response_admission l = grind arith
