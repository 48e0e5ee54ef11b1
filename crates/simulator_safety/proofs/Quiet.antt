-- The state of a client's end is that of its link, whether the clock rules were applied or not.
use Rattle.std.proofs.Common.{◌≡◌, ◌+◌, ◌&&◌, ℕ, Bool, true, false, nat_le, nat_lt, if◌then◌else◌, arith, refl, ap, sym, ◌∙◌}
use Rattle.std.proofs.lemmas.Bool.Decides.{nat_tests}
use Rattle.simulator_link_laws.specs.rasta_core.Clock.{deadline, open_state, settled, state_at}
use Rattle.simulator_link_laws.specs.rasta_core.Ends.{EndState, reading_of}
use Rattle.simulator_link_laws.specs.rasta_core.Parameters.{quiet_time}
use Rattle.simulator_link_laws.specs.rasta_core.State.{LinkState, is_open}
use Rattle.simulator_link_laws.specs.rasta_core.phase.Phase.{Phase}
use Rattle.simulator_link_laws.specs.rasta_core.phase.Phase.TheVariants as phase
use Rattle.simulator_link_laws.specs.rasta_core.phase.State.{State}
use Rattle.simulator_link_laws.specs.rasta_core.phase.State.TheVariants as state
use Rattle.simulator_link_laws.specs.simulator_move_laws.EndsSeen.{client_in, client_of}
use Rattle.simulator_link_laws.specs.simulator_move_laws.Link.{client_at}

-- the state by whether the link is open, its phase and its deadline
abbrev of_parts : Bool → Phase → ℕ → ℕ → State
of_parts o p until now = if o && nat_lt now until then open_state p else if nat_lt now (until + quiet_time) then state.Quiet else state.Down

parts_are : (now : ℕ) (link : LinkState) → state_at now link ≡ of_parts (is_open link.phase) link.phase (deadline link) now
unfolding state_at
parts_are now link = refl

clocked_deadline : (now : ℕ) (link : LinkState) → deadline (record link { clock = now }) ≡ deadline link
unfolding deadline
clocked_deadline now link = refl

closed_deadline : (at now : ℕ) (link : LinkState) → deadline (record link { phase = phase.Closed; closed_at = at; clock = now }) ≡ at
unfolding deadline
closed_deadline at now link = refl

clocked_state : (now : ℕ) (link : LinkState) → state_at now (record link { clock = now }) ≡ state_at now link
clocked_state now link =
    parts_are now (record link { clock = now }) ∙ ap (λ until. of_parts (is_open link.phase) link.phase until now) (clocked_deadline now link) ∙ sym (parts_are now link)

not_before : (until now : ℕ) → nat_le until now ≡ true → nat_lt now until ≡ false
not_before until now late = grind (arith, nat_tests)

settled_state : (now : ℕ) (link : LinkState) → state_at now (settled now link) ≡ state_at now link
unfolding settled
settled_state now link = by (is_open link.phase) (nat_le (deadline link) now) refl refl where
  by : (o late : Bool) → is_open link.phase ≡ o → nat_le (deadline link) now ≡ late → state_at now (settled now link) ≡ state_at now link
  by false late is at = ap (λ (b : Bool). state_at now (if b && nat_le (deadline link) now then record link { phase = phase.Closed; closed_at = deadline link; clock = now } else record link { clock = now })) is
      ∙ clocked_state now link
  by true false is at = ap (λ (b : Bool). state_at now (if b && nat_le (deadline link) now then record link { phase = phase.Closed; closed_at = deadline link; clock = now } else record link { clock = now })) is
      ∙ ap (λ (b : Bool). state_at now (if b then record link { phase = phase.Closed; closed_at = deadline link; clock = now } else record link { clock = now })) at
      ∙ clocked_state now link
  by true true is at = ap (λ (b : Bool). state_at now (if b && nat_le (deadline link) now then record link { phase = phase.Closed; closed_at = deadline link; clock = now } else record link { clock = now })) is
      ∙ ap (λ (b : Bool). state_at now (if b then record link { phase = phase.Closed; closed_at = deadline link; clock = now } else record link { clock = now })) at
      ∙ parts_are now (record link { phase = phase.Closed; closed_at = deadline link; clock = now })
      ∙ ap (λ until. of_parts false phase.Closed until now) (closed_deadline (deadline link) now link)
      ∙ sym (parts_are now link ∙ ap (λ o. of_parts o link.phase (deadline link) now) is
      ∙ ap (λ b. if b then open_state link.phase else if nat_lt now (deadline link + quiet_time) then state.Quiet else state.Down) (not_before (deadline link) now at))

pub client_is : (now : ℕ) (link : LinkState) (end : EndState) → reading_of end.clock ≡ now → end.link ≡ settled now link → client_of end ≡ client_at now link
client_is now link end clock link_is =
    ap (λ n. client_in (state_at n end.link)) clock
    ∙ ap (λ (l : LinkState). client_in (state_at now l)) link_is ∙ ap client_in (settled_state now link)
