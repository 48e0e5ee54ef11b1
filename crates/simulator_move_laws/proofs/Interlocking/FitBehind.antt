-- What a client gave and took fits to its stage after each part of a step.
use Rattle.std.proofs.Common.{◌≡◌, ℕ, Bool, true, false, not, List, [], ◌∷◌, ◌++◌, refl, sym, ap, subst, ◌∙◌}
use Rattle.std.specs.Prelude.{if◌then◌else◌}
use Rattle.std.proofs.lemmas.Bool.{false≢true}
use Rattle.ixl_spec.specs.rasta_core.Calls.{opens, ticking as link_ticking}
use Rattle.ixl_spec.specs.rasta_core.Outbox.{OutboxState}
use Rattle.ixl_spec.specs.rasta_core.State.{LinkState, is_client, is_open, is_up}
use Rattle.ixl_spec.specs.ixl_client.Client.{ClientState, is_ready}
use Rattle.ixl_spec.specs.ixl_client.ClientSoFar.{Opens, Ticks, begun}
use Rattle.ixl_spec.specs.ixl_client.Step.{commanding, fallen, hearing, ticking}
use Rattle.ixl_spec.specs.ixl_client.declared.command.Command.{Command}
use Rattle.ixl_spec.specs.Step.{Datagram}
use Rattle.simulator_move_laws.specs.Fits.{FitsBehind, IsAlive, commands_after_tick}
use Rattle.simulator_move_laws.specs.Calls.{Items, items_after, no_items}
use Rattle.simulator_move_laws.specs.Link.{ClientFits, is_inside}
use Rattle.simulator_move_laws.proofs.Interlocking.Places.{open_inside}
use Rattle.simulator_move_laws.proofs.Interlocking.Clients.{Standing}
use Rattle.simulator_move_laws.proofs.Interlocking.Entered.{TickedAnew, TickedOn, ticked_link, ticks_anew, ticks_on}
use Rattle.simulator_move_laws.proofs.Interlocking.ClientFits.{begins, commands_on, fits_behind, inside_ready}
use Rattle.simulator_move_laws.proofs.Interlocking.DatagramHeard.{hears}
use Rattle.simulator_move_laws.proofs.Interlocking.ClientTicks.{anew_fits, anew_outside, ticking_calls, ticking_client, two_take, went_fits}

module _ (now : ℕ) (client : ClientState) (outbox : OutboxState) (items : Items) (commands : List Command) (fits : ClientFits now client items commands) (alive : IsAlive now client.link) where
  inside : is_open client.link.phase ≡ true → is_inside now client.link ≡ true
  inside = open_inside now client.link alive

  begun_so : (bytes : List ℕ) → Standing now (Datagram bytes) client.link items client.peer commands false 0 (begun client outbox)
  begun_so bytes = begins now (Datagram bytes) client items commands false 0 outbox fits inside (λ e. absurd (false≢true e))

  datagram_behind : (bytes : List ℕ) → FitsBehind now client (hearing now bytes (begun client outbox)) items commands
  datagram_behind bytes =
      let heard = hears now (Datagram bytes) client.link items client.peer commands false 0 (λ e. absurd (false≢true e)) bytes (begun client outbox) refl (begun_so bytes)
      in fits_behind now (Datagram bytes) client.link items client.peer commands false 0 (hearing now bytes (begun client outbox)) heard.0 heard.1

  up : is_ready client.stage ≡ true → is_up client.link.phase ≡ true
  up ready = up_where (is_up client.link.phase) refl (sym (inside_ready client.stage ready) ∙ fits.steady.outside) where
    up_where : (b : Bool) → is_up client.link.phase ≡ b → false ≡ not (is_up client.link.phase) → is_up client.link.phase ≡ true
    up_where true e is = e
    up_where false e is = absurd (false≢true (is ∙ ap not e))

  command_behind : (command : Command) → is_ready client.stage ≡ true → FitsBehind now client (commanding now command (begun client outbox)) items (commands ++ command ∷ [])
  command_behind command ready =
      let done = commands_on now (Datagram []) client items commands false 0 outbox command (begun_so []) (up ready) ready (λ e. absurd (false≢true e))
      in fits_behind now (Datagram []) client.link items client.peer (commands ++ command ∷ []) false 0 (commanding now command (begun client outbox)) done.stands done.outside

  tick_behind : FitsBehind now client (ticking now (begun client outbox)) items (commands_after_tick now client.link commands)
  tick_behind =
      subst (λ calls. ClientFits now (ticking now (begun client outbox)).client (items_after now calls client.link items) (commands_after_tick now client.link commands)) (sym (ticking_calls now client outbox))
      (subst (λ (c : ClientState). ClientFits now c (items_after now (Ticks ∷ Opens ∷ []) client.link items) (commands_after_tick now client.link commands)) (sym (ticking_client now client outbox))
      (subst (λ i. ClientFits now went i (commands_after_tick now client.link commands)) (sym (two_take now client.link items)) (cases (opens now (link_ticking now client.link).link) refl)))
    where
      link : LinkState
      link = ticked_link now client.link

      went : ClientState
      went = fallen (record client { link = link })

      Goal : Bool → Type 0
      Goal b = ClientFits now went (if b then no_items else items) (if b then [] else commands)

      anew : (it : TickedAnew now client.link) → Goal true
      anew it = subst (λ (c : ClientState). ClientFits now c no_items []) (sym (anew_outside client link (ap is_up it.phase)))
          (anew_fits now client link (ap is_up it.phase) (ap (λ i. is_client i.role) it.identity ∙ fits.steady.opens))

      on : (it : TickedOn now client.link) → Goal false
      on it = went_fits now client link it.goes it.up inside items commands fits

      cases : (b : Bool) → opens now (link_ticking now client.link).link ≡ b → Goal b
      cases true is = anew (ticks_anew now client.link is)
      cases false is = on (ticks_on now client.link is)

pub datagram_fits : (now : ℕ) (bytes : List ℕ) (client : ClientState) (outbox : OutboxState) (items : Items) (commands : List Command) →
    ClientFits now client items commands → IsAlive now client.link → FitsBehind now client (hearing now bytes (begun client outbox)) items commands
datagram_fits now bytes client outbox items commands fits alive = datagram_behind now client outbox items commands fits alive bytes

pub command_fits : (now : ℕ) (command : Command) (client : ClientState) (outbox : OutboxState) (items : Items) (commands : List Command) →
    ClientFits now client items commands → IsAlive now client.link → is_ready client.stage ≡ true → FitsBehind now client (commanding now command (begun client outbox)) items (commands ++ command ∷ [])
command_fits now command client outbox items commands fits alive ready = command_behind now client outbox items commands fits alive command ready

pub tick_fits : (now : ℕ) (client : ClientState) (outbox : OutboxState) (items : Items) (commands : List Command) →
    ClientFits now client items commands → IsAlive now client.link → FitsBehind now client (ticking now (begun client outbox)) items (commands_after_tick now client.link commands)
tick_fits now client outbox items commands fits alive = tick_behind now client outbox items commands fits alive
