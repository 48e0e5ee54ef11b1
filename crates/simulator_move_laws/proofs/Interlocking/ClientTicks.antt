-- A client on a tick: the calls that it makes, and how it fits after them.
use Rattle.std.proofs.Common.{◌≡◌, ℕ, Bool, true, false, not, List, [], ◌∷◌, ◌++◌, refl, sym, ap, ◌∙◌}
use Rattle.std.specs.Prelude.{◌||◌, if◌then◌else◌}
use Rattle.std.proofs.lemmas.Bool.{true≢false}
use Rattle.ixl_spec.specs.rasta_core.Calls.{opens, ticking as link_ticking}
use Rattle.ixl_spec.specs.rasta_core.Outbox.{OutboxState}
use Rattle.ixl_spec.specs.rasta_core.State.{LinkState, is_client, is_open, is_up}
use Rattle.ixl_spec.specs.ixl_client.Client.{ClientState, IsClient, PeerState, is_outside, is_ready}
use Rattle.ixl_spec.specs.ixl_client.Made.{link_after}
use Rattle.ixl_spec.specs.ixl_client.ClientSoFar.{LinkCall, Opens, Ticks, Closes, Sends, Receives, begun, call_made, calling}
use Rattle.ixl_spec.specs.ixl_client.Step.{fallen, ticking}
use Rattle.ixl_spec.specs.ixl_client.declared.command.Command.{Command}
use Rattle.ixl_spec.specs.ixl_client.declared.stage.Stage.TheVariants as stage
use Rattle.ixl_spec.specs.Step.{Input}
use Rattle.simulator_move_laws.specs.Calls.{Items, has_begun, items_after, items_by, no_items}
use Rattle.simulator_move_laws.specs.Facts.{AreCallsIn}
use Rattle.simulator_move_laws.specs.Link.{ClientFits, is_inside}
use Rattle.simulator_move_laws.specs.Telegrams.{given_by}
use Rattle.simulator_move_laws.proofs.Interlocking.Tests.{by_test}
use Rattle.simulator_move_laws.proofs.Interlocking.Phases.{Goes, stays_open, stays_up}
use Rattle.simulator_move_laws.proofs.Interlocking.Places.{inside_open}
use Rattle.simulator_move_laws.proofs.Interlocking.ClientFits.{fallen_link}
use Rattle.simulator_move_laws.proofs.Interlocking.DatagramHeard.{is_outside_at}
use Rattle.simulator_move_laws.proofs.Interlocking.Entered.{ticked_link}

-- ---- the calls

pub ticking_calls : (now : ℕ) (client : ClientState) (outbox : OutboxState) → (ticking now (begun client outbox)).calls ≡ Ticks ∷ Opens ∷ []
unfolding ticking calling
ticking_calls now client outbox = refl

pub ticking_client : (now : ℕ) (client : ClientState) (outbox : OutboxState) → (ticking now (begun client outbox)).client ≡ fallen (record client { link = ticked_link now client.link })
unfolding ticking calling
ticking_client now client outbox = refl

pub two_calls : (now : ℕ) (link : LinkState) → link_after now (Ticks ∷ Opens ∷ []) link ≡ ticked_link now link
unfolding link_after
two_calls now link = refl

pub ticks_take : (now : ℕ) (link : LinkState) (items : Items) → items_by now Ticks link items ≡ items
unfolding items_by
ticks_take now link items = refl

pub two_take : (now : ℕ) (link : LinkState) (items : Items) → items_after now (Ticks ∷ Opens ∷ []) link items ≡ (if opens now (link_ticking now link).link then no_items else items)
unfolding items_after items_by
two_take now link items = refl

pub fallen_peer : (client : ClientState) → (fallen client).peer ≡ client.peer
unfolding fallen
fallen_peer client = by_test (λ (c : ClientState). c.peer ≡ client.peer) (is_up client.link.phase) client (record client { stage = stage.Outside }) (λ e. refl) (λ e. refl)

-- ---- which calls begin a connection

pub none_begins : (now : ℕ) (input : Input) (peer : PeerState) (calls : List LinkCall) (link : LinkState) → AreCallsIn input peer calls → has_begun now calls link ≡ false
unfolding has_begun
none_begins now input peer [] link are = refl
none_begins now input peer (Opens ∷ others) link are = absurd are.0
none_begins now input peer (Ticks ∷ others) link are = none_begins now input peer others (call_made now Ticks link).link are.1
none_begins now input peer ((Closes why) ∷ others) link are = none_begins now input peer others (call_made now (Closes why) link).link are.1
none_begins now input peer ((Sends item) ∷ others) link are = none_begins now input peer others (call_made now (Sends item) link).link are.1
none_begins now input peer ((Receives bytes) ∷ others) link are = none_begins now input peer others (call_made now (Receives bytes) link).link are.1

begun_then : (now : ℕ) (input : Input) (peer : PeerState) (calls others : List LinkCall) (link : LinkState) → AreCallsIn input peer calls → has_begun now (calls ++ others) link ≡ has_begun now others (link_after now calls link)
unfolding has_begun link_after
begun_then now input peer [] others link are = refl
begun_then now input peer (Opens ∷ later) others link are = absurd are.0
begun_then now input peer (Ticks ∷ later) others link are = begun_then now input peer later others (call_made now Ticks link).link are.1
begun_then now input peer ((Closes why) ∷ later) others link are = begun_then now input peer later others (call_made now (Closes why) link).link are.1
begun_then now input peer ((Sends item) ∷ later) others link are = begun_then now input peer later others (call_made now (Sends item) link).link are.1
begun_then now input peer ((Receives bytes) ∷ later) others link are = begun_then now input peer later others (call_made now (Receives bytes) link).link are.1

two_begin : (now : ℕ) (link : LinkState) → has_begun now (Ticks ∷ Opens ∷ []) link ≡ opens now (link_ticking now link).link
unfolding has_begun
two_begin now link = cases (opens now (link_ticking now link).link) where
  cases : (b : Bool) → (b || false) ≡ b
  cases true = refl
  cases false = refl

-- a connection begins where the last call opens the link
pub begins_where_opened : (now : ℕ) (input : Input) (peer : PeerState) (calls : List LinkCall) (start link : LinkState) → AreCallsIn input peer calls → link ≡ link_after now calls start →
    has_begun now (calls ++ Ticks ∷ Opens ∷ []) start ≡ opens now (link_ticking now link).link
begins_where_opened now input peer calls start link are made =
    begun_then now input peer calls (Ticks ∷ Opens ∷ []) start are
    ∙ two_begin now (link_after now calls start) ∙ ap (λ l. opens now (link_ticking now l).link) (sym made)

-- ---- the client, where its link goes on

module _ (now : ℕ) (client : ClientState) (link : LinkState) (goes : Goes client.link link) (risen : is_up link.phase ≡ true → is_up client.link.phase ≡ true)
    (alive : is_open client.link.phase ≡ true → is_inside now client.link ≡ true) where
  abbrev pub went : ClientState
  went = fallen (record client { link = link })

  pub went_link : went.link ≡ link
  went_link = fallen_link (record client { link = link })

  pub went_peer : went.peer ≡ client.peer
  unfolding fallen
  went_peer = by_test (λ (c : ClientState). c.peer ≡ client.peer) (is_up link.phase) (record client { link = link }) (record client { link = link; stage = stage.Outside }) (λ e. refl) (λ e. refl)

  pub went_inside : is_inside now link ≡ true → is_inside now client.link ≡ true
  went_inside inside = alive (stays_open client.link.phase link.phase goes.may (inside_open now link inside))

  pub still_down : is_inside now link ≡ true → is_up link.phase ≡ false → is_up client.link.phase ≡ false
  still_down inside down = cases (is_up client.link.phase) refl where
    cases : (b : Bool) → is_up client.link.phase ≡ b → is_up client.link.phase ≡ false
    cases true up = absurd (true≢false (sym (stays_up client.link.phase link.phase goes.may up (inside_open now link inside)) ∙ down))
    cases false e = e

  pub went_stage : IsClient client → is_inside now link ≡ true → went.stage ≡ client.stage
  unfolding fallen
  went_stage is inside = by_test (λ (c : ClientState). c.stage ≡ client.stage) (is_up link.phase) (record client { link = link }) (record client { link = link; stage = stage.Outside }) (λ up. refl)
      (λ down. sym (is_outside_at client.stage (is.outside ∙ ap not (still_down inside down))))

  went_outside : IsClient client → is_outside went.stage ≡ not (is_up went.link.phase)
  unfolding fallen
  went_outside is = by_test (λ (c : ClientState). is_outside c.stage ≡ not (is_up c.link.phase)) (is_up link.phase) (record client { link = link }) (record client { link = link; stage = stage.Outside })
      (λ up. is.outside ∙ ap not (risen up) ∙ sym (ap not up)) (λ down. sym (ap not down))

  here : is_inside now went.link ≡ true → is_inside now link ≡ true
  here inside = ap (is_inside now) (sym went_link) ∙ inside

  pub went_fits : (items : Items) (commands : List Command) → ClientFits now client items commands → ClientFits now went items commands
  went_fits items commands fits = record {
    steady = record {
      outside = went_outside fits.steady;
      opens = ap (λ (l : LinkState). is_client l.identity.role) went_link ∙ ap (λ i. is_client i.role) goes.identity ∙ fits.steady.opens;
    };
    given = λ inside. fits.given (went_inside (here inside)) ∙ ap (λ p. given_by p client.stage commands) (sym went_peer)
        ∙ ap (λ s. given_by went.peer s commands) (sym (went_stage fits.steady (here inside)));
    early = λ inside ready. fits.early (went_inside (here inside)) (ap is_ready (sym (went_stage fits.steady (here inside))) ∙ ready);
  }

-- ---- the client, where its link opens

pub anew_outside : (client : ClientState) (link : LinkState) → is_up link.phase ≡ false → fallen (record client { link = link }) ≡ record client { link = link; stage = stage.Outside }
unfolding fallen
anew_outside client link down = rw down refl

pub anew_fits : (now : ℕ) (client : ClientState) (link : LinkState) → is_up link.phase ≡ false → is_client link.identity.role ≡ true →
    ClientFits now (record client { link = link; stage = stage.Outside }) no_items []
anew_fits now client link down opens = record {
  steady = record { outside = sym (ap not down); opens = opens };
  given = λ inside. refl;
  early = λ inside ready. refl;
}
