-- What an end outside of any connection does: it opens one, refuses what comes, or grants a request.
use Rattle.std.proofs.Common.{◌≡◌, ℕ, ◌≤◌, Bool, true, false, List, [], ◌++◌, ◌⊎◌, inl, inr, refl, sym, subst, arith}
use Rattle.std.specs.Prelude.{nat_le, ◌==◌, ◌&&◌, not, if◌then◌else◌}
use Rattle.std.proofs.lemmas.List.{append-nil}
use Rattle.rasta_core_spec.specs.Parameters.{connection_limit}
use Rattle.rasta_core_spec.specs.State.{LinkState, is_open, is_client}
use Rattle.rasta_core_spec.specs.Clock.{deadline, settled, state_at}
use Rattle.rasta_core_spec.specs.PdusHandedOut.{Step, silent, telling, limited, entered}
use Rattle.rasta_core_spec.specs.Establishment.{may_open, requesting, granting}
use Rattle.rasta_core_spec.specs.Receipt.{accepting, refusing, resting, by_state, hearing}
use Rattle.rasta_core_spec.specs.Calls.{opening, opens}
use Rattle.rasta_core_spec.specs.phase.State.{State}
use Rattle.rasta_core_spec.specs.phase.State.TheVariants as state
use Rattle.rasta_core_spec.specs.reason.Reason.TheVariants as reason
use Rattle.rasta_core_spec.specs.verdict.Verdict.TheVariants as verdict
use Rattle.rasta_core_spec.specs.pdu.Pdu.{Pdu}
use Rattle.rasta_core_spec.specs.body.Body.{Body}
use Rattle.rasta_core_spec.specs.body.Body.TheVariants.{ConnectionRequest, ConnectionResponse, RetransmissionRequest, RetransmissionResponse, DisconnectionRequest, Heartbeat, Data, RetransmittedData}
use Rattle.rasta_core.specs.EndFlow.{EndFlow}
use Rattle.rasta_core.specs.Order.{InOrder}
use Rattle.rasta_core.specs.LinkAndFlow.{Plays, GoesOn, StepGoesOn}
use Rattle.rasta_core.specs.FirstPdus.{Asks, IsEarly, PlaysEarly, EarlyGoesOn, HearsOutside, refuses, grants}
use Rattle.rasta_core.proofs.OrderTests.{by_test}
use Rattle.rasta_core.proofs.Enters.{both_left}
use Rattle.rasta_core.proofs.OrderOpenings.{requesting_on}
use Rattle.rasta_core.proofs.OrderCalls.{entering_on, false_then}
use Rattle.rasta_core.proofs.EarlyCalls.{early_entering}

-- an end that is down has a clock past the first quiet time
pub is_late : (link : LinkState) → state_at link.clock link ≡ state.Down → 1 ≤ link.clock
unfolding state_at deadline
is_late link down = grind (arith, down)

-- outside, a call begins with nothing but the clock
pub entered_outside : (now : ℕ) (link : LinkState) → is_open link.phase ≡ false → entered now link ≡ silent (record link { clock = now })
unfolding entered settled limited
entered_outside now link shut =
    by_test (λ (begun : LinkState). limited begun ≡ silent (record link { clock = now })) (is_open link.phase && nat_le (deadline link) now) _ (record link { clock = now })
    (λ e. absurd (cc (both_left (is_open link.phase) (nat_le (deadline link) now) e, shut)))
    (λ e. false_then (is_open link.phase && nat_le connection_limit link.sent) _ (silent (record link { clock = now })) (closed_now e))
  where
    closed_now : (is_open link.phase && nat_le (deadline link) now) ≡ false → (is_open link.phase && nat_le connection_limit link.sent) ≡ false
    closed_now e = shut_first (is_open link.phase) (nat_le connection_limit link.sent) shut
      where
        shut_first : (one other : Bool) → one ≡ false → (one && other) ≡ false
        shut_first true other is = absurd (cc (is))
        shut_first false other is = refl

-- ---- opening

-- an end that has just closed is quiet
told_quiet : (link : LinkState) → may_open (telling reason.Sequence link).link ≡ false
unfolding telling state_at deadline
told_quiet link = grind arith

silent_open : (now : ℕ) (link : LinkState) → opens now link ≡ true → (entered now link).pdus ≡ []
unfolding opens entered settled limited
silent_open now link =
    by_test (λ (begun : LinkState). may_open (limited begun).link ≡ true → (limited begun).pdus ≡ []) (is_open link.phase && nat_le (deadline link) now) _ (record link { clock = now })
    (λ e may. refl)
    (λ e. by_test (λ (step : Step). may_open step.link ≡ true → step.pdus ≡ []) (is_open link.phase && nat_le connection_limit link.sent)
    (telling reason.Sequence (record link { clock = now })) (silent (record link { clock = now }))
    (λ told may. absurd (cc (told_quiet (record link { clock = now }), may))) (λ told may. refl))

down_now : (link : LinkState) → may_open link ≡ true → (is_client link.identity.role ≡ true) × (state_at link.clock link ≡ state.Down)
down_now link may = grind (arith, may)

-- a client that opens begins a connection
pub opening_asks : (now : ℕ) (link : LinkState) → opens now link ≡ true → Asks (opening now link).link (opening now link).pdus
unfolding opening opens
opening_asks now link may =
    let begun = (entered now link).link
    in let is = down_now (entered now link).link may
    in subst (λ (step : Step). Asks step.link ((entered now link).pdus ++ step.pdus)) (sym (true_then (may_open (entered now link).link) (requesting (entered now link).link) (silent (entered now link).link) may))
    (subst (λ (pdus : List Pdu). Asks (requesting (entered now link).link).link (pdus ++ (requesting (entered now link).link).pdus)) (sym (silent_open now link may))
    (requesting_on (entered now link).link is.0 (is_late (entered now link).link is.1)))
  where
    true_then : {A : Type 0} (test : Bool) (one other : A) → test ≡ true → (if test then one else other) ≡ one
    true_then true one other e = refl
    true_then false one other e = absurd (cc (e))

-- one that doesn't goes on
pub opening_not : (now : ℕ) (link : LinkState) (own other : EndFlow) → InOrder own other → Plays link own other → opens now link ≡ false → StepGoesOn own other (opening now link) []
unfolding opening opens
opening_not now link own other order plays may =
    subst (λ (step : Step). GoesOn own other step.link ((entered now link).pdus ++ step.pdus) [] [])
    (sym (false_then (may_open (entered now link).link) (requesting (entered now link).link) (silent (entered now link).link) may))
    (subst (λ (pdus : List Pdu). GoesOn own other (entered now link).link pdus [] []) (sym (append-nil (entered now link).pdus)) (entering_on now link own other order plays))

pub opening_not_early : (now : ℕ) (link : LinkState) (client : EndFlow) → IsEarly client → PlaysEarly link client → opens now link ≡ false
    → EarlyGoesOn client (opening now link).link (opening now link).pdus
unfolding opening opens
opening_not_early now link client early plays may =
    subst (λ (step : Step). EarlyGoesOn client step.link ((entered now link).pdus ++ step.pdus))
    (sym (false_then (may_open (entered now link).link) (requesting (entered now link).link) (silent (entered now link).link) may))
    (subst (λ (pdus : List Pdu). EarlyGoesOn client (entered now link).link pdus) (sym (append-nil (entered now link).pdus)) (early_entering now link client early plays))

-- ---- hearing

none_of : {A B : Type 0} → (A → ⊥) → (B → ⊥) → A ⊎ B → ⊥
none_of a b (inl one) = a one
none_of a b (inr one) = b one

module _ (pdu : Pdu) (link : LinkState) where
  rests : state_at link.clock link ≡ state.Down → (body : Body) → pdu.body ≡ body → HearsOutside pdu link (resting body pdu link)
  unfolding resting
  rests down (ConnectionRequest asked) same = go (is_client link.identity.role) refl
    where
      go : (client : Bool) → is_client link.identity.role ≡ client
          → HearsOutside pdu link (if client then refusing verdict.WrongState link else accepting (granting pdu asked link))
      go true is = refuses verdict.WrongState (λ e. cc) refl
      go false is = grants asked is same down (is_late link down) refl
  rests down (ConnectionResponse asked) same = refuses verdict.WrongState (λ e. cc) refl
  rests down RetransmissionRequest same = refuses verdict.WrongState (λ e. cc) refl
  rests down RetransmissionResponse same = refuses verdict.WrongState (λ e. cc) refl
  rests down (DisconnectionRequest detail why) same = refuses verdict.WrongState (λ e. cc) refl
  rests down Heartbeat same = refuses verdict.WrongState (λ e. cc) refl
  rests down (Data items) same = refuses verdict.WrongState (λ e. cc) refl
  rests down (RetransmittedData items) same = refuses verdict.WrongState (λ e. cc) refl

  outside_state : is_open link.phase ≡ false → (its : State) → state_at link.clock link ≡ its → (its ≡ state.Quiet) ⊎ (its ≡ state.Down)
  unfolding state_at
  outside_state shut its is = grind (arith, shut, is)

  pub hears_outside : is_open link.phase ≡ false → HearsOutside pdu link (hearing pdu link)
  unfolding hearing by_state
  hears_outside shut =
      by_test (HearsOutside pdu link) (not (pdu.receiver == link.identity.own)) (refusing verdict.NotForMe link) _ (λ e. refuses verdict.NotForMe (λ e. cc) refl)
      (λ mine. by_test (HearsOutside pdu link) (not (pdu.sender == link.identity.partner)) (refusing verdict.WrongSender link) (by_state (state_at link.clock link) pdu link)
      (λ e. refuses verdict.WrongSender (λ e. cc) refl)
      (λ his. in_state (state_at link.clock link) refl (outside_state shut (state_at link.clock link) refl)))
    where
      in_state : (its : State) → state_at link.clock link ≡ its → (its ≡ state.Quiet) ⊎ (its ≡ state.Down) → HearsOutside pdu link (by_state its pdu link)
      in_state state.Quiet is one = refuses verdict.Quiet (λ e. cc) refl
      in_state state.Down is one = rests is pdu.body refl
      in_state state.Start is one = absurd (none_of (λ e. cc) (λ e. cc) one)
      in_state state.Up is one = absurd (none_of (λ e. cc) (λ e. cc) one)
      in_state state.RetransmissionRequested is one = absurd (none_of (λ e. cc) (λ e. cc) one)
      in_state state.RetransmissionRunning is one = absurd (none_of (λ e. cc) (λ e. cc) one)
