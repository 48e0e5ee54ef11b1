-- As time goes on a client begins no connection.
use Rattle.std.proofs.Common.{◌≡◌, ◌⊎◌, inl, inr, ℕ, ◌+◌, ◌≤◌, Bool, true, false, ◌&&◌, nat_le, nat_lt, refl, sym, ap, ◌∙◌, arith}
use Rattle.std.specs.Prelude.{if◌then◌else◌}
use Rattle.std.proofs.lemmas.Bool.Decides.{nat_tests}
use Rattle.rasta_core.specs.Clock.{deadline, open_state, settled, state_at}
use Rattle.rasta_core.specs.Ends.{EndState, end_later, end_restarted, reading_of}
use Rattle.rasta_core.specs.Events.{Calls, Elsewhere, Event, Loses, Passes, Restarts, happened}
use Rattle.rasta_core.specs.Invariant.{Timely}
use Rattle.rasta_core.specs.Names.{Names}
use Rattle.rasta_core.specs.Parameters.{quiet_time, time_limit}
use Rattle.rasta_core.specs.Run.{Ends, called, later, lost, restarted}
use Rattle.rasta_core.specs.State.{LinkState, is_open, is_up}
use Rattle.rasta_core.specs.identity.Role.TheVariants as role
use Rattle.rasta_core.specs.phase.State.TheVariants as state
use Rattle.simulator_machine.specs.Link.{Quiet, Down, Start}
use Rattle.simulator_move_laws.specs.Flows.{LeavesUncalled}
use Rattle.simulator_move_laws.specs.EndsSeen.{client_in, client_of}
use Rattle.simulator_move_laws.proofs.Links.EndsSeen.{AreSettled}
use Rattle.simulator_move_laws.proofs.Links.States.{IsSettled, IsShut, client_shut, client_start, client_up, is_down, made_quiet}
use Rattle.simulator_move_laws.proofs.Links.Tests.{by_test}

-- what a client that is seen starting says of its link
starting : (end : EndState) → IsSettled (reading_of end.clock) end.link → client_of end ≡ Start → (is_open end.link.phase ≡ true) × (is_up end.link.phase ≡ false)
starting end settles e = by_phase (is_open end.link.phase) (is_up end.link.phase) refl refl where
  shut : (client_of end ≡ Quiet) ⊎ (client_of end ≡ Down) → ⊥
  shut (inl quiet) = absurd (cc (quiet, e))
  shut (inr down) = absurd (cc (down, e))

  by_phase : (o u : Bool) → is_open end.link.phase ≡ o → is_up end.link.phase ≡ u → (is_open end.link.phase ≡ true) × (is_up end.link.phase ≡ false)
  by_phase false u opened up = absurd (shut (client_shut end opened))
  by_phase true true opened up = absurd (cc (e, client_up end settles up))
  by_phase true false opened up = (opened, up)

-- a link that is open when its clock has gone on has the phase that it had
same_phase : (now : ℕ) (link : LinkState) → is_open (settled now link).phase ≡ true → (settled now link).phase ≡ link.phase
unfolding settled
same_phase now link = by_test (λ (l : LinkState). is_open l.phase ≡ true → l.phase ≡ link.phase) (is_open link.phase && nat_le (deadline link) now) _ (record link { clock = now }) (λ e o. absurd (cc o)) (λ e o. refl)

started_before : (end : EndState) (link : LinkState) → IsSettled (reading_of end.clock) end.link → link.phase ≡ end.link.phase → (is_open link.phase ≡ true) × (is_up link.phase ≡ false) → client_of end ≡ Start
started_before end link settles same told =
    client_start end settles (sym (ap is_open same) ∙ told.0) (sym (ap is_up same) ∙ told.1)

later_start : (elapsed moment : ℕ) (end : EndState) → IsSettled (reading_of end.clock) end.link → IsSettled (reading_of (end_later elapsed moment end).clock) (end_later elapsed moment end).link
    → client_of (end_later elapsed moment end) ≡ Start → client_of end ≡ Start
unfolding end_later
later_start elapsed moment end settles later e =
    let told = starting (end_later elapsed moment end) later e
    in started_before end (settled (reading_of (end.clock + elapsed)) end.link) settles (same_phase (reading_of (end.clock + elapsed)) end.link told.0) told

anew_start : (clock first moment : ℕ) (end : EndState) → client_of (end_restarted clock first moment end) ≡ Start → ⊥
unfolding end_restarted
anew_start clock first moment end e = let quiet = ap client_in (made_quiet end.link.identity first clock) in absurd (cc (quiet, e))

-- the client begins a connection in its own calls only
pub begins_none : AreSettled → (names : Names) (event : Event) (ends : Ends) → Timely names ends → Timely names (happened event ends) → LeavesUncalled role.Client event
    → client_of (happened event ends).client ≡ Start → client_of ends.client ≡ Start
unfolding called later lost restarted
begins_none settles names (Calls role.Client call) ends timely after uncalled e = absurd uncalled
begins_none settles names (Calls role.Server call) ends timely after uncalled e = e
begins_none settles names (Passes elapsed of_client of_server) ends timely after uncalled e =
    later_start of_client ends.moment ends.client (settles names ends role.Client timely) (settles names (later elapsed of_client of_server ends) role.Client after) e
begins_none settles names (Loses bytes) ends timely after uncalled e = e
begins_none settles names (Restarts role.Client clock first) ends timely after uncalled e = absurd (anew_start clock first ends.moment ends.client e)
begins_none settles names (Restarts role.Server clock first) ends timely after uncalled e = e
begins_none settles names (Elsewhere count) ends timely after uncalled e = e

-- ---- a client that is down

down_shut : (end : EndState) → IsSettled (reading_of end.clock) end.link → client_of end ≡ Down → IsShut end.link
down_shut end settles e = by_phase (is_open end.link.phase) (is_up end.link.phase) refl refl where
  by_phase : (o u : Bool) → is_open end.link.phase ≡ o → is_up end.link.phase ≡ u → is_open end.link.phase ≡ false
  by_phase false u opened up = opened
  by_phase true true opened up = absurd (cc (e, client_up end settles up))
  by_phase true false opened up = absurd (cc (e, client_start end settles opened up))

quiet_over : (test : Bool) → (if test then state.Quiet else state.Down) ≡ state.Down → test ≡ false
quiet_over true e = absurd (cc e)
quiet_over false e = refl

shut_state : (now : ℕ) (link : LinkState) → IsShut link → state_at now link ≡ (if nat_lt now (link.closed_at + quiet_time) then state.Quiet else state.Down)
unfolding state_at deadline
shut_state now link shut = ap (λ (o : Bool). if o && nat_lt now (if o then link.own_stamp + time_limit else link.closed_at) then open_state link.phase
    else if nat_lt now ((if o then link.own_stamp + time_limit else link.closed_at) + quiet_time) then state.Quiet else state.Down) shut

shut_settled : (now : ℕ) (link : LinkState) → IsShut link → settled now link ≡ record link { clock = now }
unfolding settled
shut_settled now link shut = by_test (λ (l : LinkState). l ≡ record link { clock = now }) (is_open link.phase && nat_le (deadline link) now) _ (record link { clock = now }) (λ e. absurd (opened (is_open link.phase) shut e)) (λ e. refl) where
  opened : (o : Bool) → o ≡ false → (o && nat_le (deadline link) now) ≡ true → ⊥
  opened true e f = cc e
  opened false e f = cc f

reads_later : (clock elapsed : ℕ) → reading_of clock ≤ reading_of (clock + elapsed)
reads_later clock elapsed = omega arith

still_over : (now then_ bound : ℕ) → now ≤ then_ → nat_lt now bound ≡ false → nat_lt then_ bound ≡ false
still_over now then_ bound later e = grind (arith, nat_tests)

down_later : (elapsed moment : ℕ) (end : EndState) → IsSettled (reading_of end.clock) end.link → client_of end ≡ Down → client_of (end_later elapsed moment end) ≡ Down
unfolding end_later
down_later elapsed moment end settles e =
    let shut = down_shut end settles e
    in let over = quiet_over (nat_lt (reading_of end.clock) (end.link.closed_at + quiet_time)) (sym (shut_state (reading_of end.clock) end.link shut) ∙ is_down end e)
    in let then_over = still_over (reading_of end.clock) (reading_of (end.clock + elapsed)) (end.link.closed_at + quiet_time) (reads_later end.clock elapsed) over
    in ap (λ (l : LinkState). client_in (state_at (reading_of (end.clock + elapsed)) l)) (shut_settled (reading_of (end.clock + elapsed)) end.link shut)
    ∙ ap client_in (shut_state (reading_of (end.clock + elapsed)) (record end.link { clock = reading_of (end.clock + elapsed) }) shut
    ∙ ap (λ (b : Bool). if b then state.Quiet else state.Down) then_over)

pub down_stays : AreSettled → (names : Names) (elapsed of_client of_server : ℕ) (ends : Ends) → Timely names ends → client_of ends.client ≡ Down
    → client_of (happened (Passes elapsed of_client of_server) ends).client ≡ Down
unfolding later
down_stays settles names elapsed of_client of_server ends timely e = down_later of_client ends.moment ends.client (settles names ends role.Client timely) e
