-- Each call at an end keeps the order of both.
use Rattle.std.proofs.Common.{◌≡◌, ℕ, ◌≤◌, length, Bool, true, false, ◌&&◌, if◌then◌else◌, List, [], Option, Some, None, refl, ap, subst, ◌∙◌}
use Rattle.std.specs.Prelude.{is_ok}
use Rattle.rasta_core_spec.specs.State.{LinkState, is_client}
use Rattle.rasta_core_spec.specs.Clock.{state_at}
use Rattle.rasta_core_spec.specs.PdusHandedOut.{Step, entered}
use Rattle.rasta_core_spec.specs.Establishment.{may_open, is_down}
use Rattle.rasta_core_spec.specs.Calls.{answer_to_send, opens, opening, ticking, closing_by, sending_item}
use Rattle.rasta_core_spec.specs.identity.Identity.{Identity}
use Rattle.rasta_core_spec.specs.identity.Role.{Role}
use Rattle.rasta_core_spec.specs.identity.Role.TheVariants as role
use Rattle.rasta_core_spec.specs.reason.Reason.{Reason}
use Rattle.rasta_core_spec.specs.Ends.{Outcome, Ticks, Opens, Closes, Sends, outcome, reading_of, end_after, newer}
use Rattle.rasta_core_spec.specs.Run.{Ends, end_of, called}
use Rattle.rasta_core.specs.Order.{InOrder}
use Rattle.rasta_core.specs.LinkAndFlow.{GoesOn}
use Rattle.rasta_core.specs.FirstPdus.{EarlyGoesOn}
use Rattle.rasta_core_spec.specs.Each.{Each}
use Rattle.rasta_core.specs.TimedEnds.{IsInside, standing}
use Rattle.rasta_core_spec.specs.Names.{Names}
use Rattle.rasta_core.specs.Invariant.{Timely}
use Rattle.rasta_core_spec.specs.Events.{MayCall}
use Rattle.rasta_core.proofs.Deeds.{Own, Steps, ticking_does, closing_does, sending_does, opening_does}
use Rattle.rasta_core.proofs.BothEndsAfter.{made_at}
use Rattle.rasta_core.proofs.CallsKept.{ends_ready, ends_clock}
use Rattle.rasta_core.specs.Ordered.{IsAlone, AreTogether, Ordered, unbegun, alone, together}
use Rattle.rasta_core.proofs.OrderLaws.{Laws}
use Rattle.rasta_core.proofs.Outside.{entered_identity}
use Rattle.rasta_core.proofs.Few.{none_few, one_few}
use Rattle.rasta_core.proofs.Made.{client_together, server_together, client_alone, server_rests, client_asked}
use Rattle.rasta_core.proofs.Comes.{deed_pdus, deed_silent, server_out, nothing_yet, server_earlier}
use Rattle.rasta_core_spec.specs.Values.{IsPdu}

server_opens_not : (now : ℕ) (link : LinkState) → (entered now link).link.identity.role ≡ role.Server → opens now link ≡ false
unfolding opens
server_opens_not now link is = not_client (entered now link).link is
  where
    not_client : (l : LinkState) → l.identity.role ≡ role.Server → may_open l ≡ false
    not_client l e = ap (λ (r : Role). is_client r && is_down (state_at l.clock l)) e

module _ (law : Laws) (names : Names) (ends : Ends) (timely : Timely names ends) where
  pub client_key : ends.client.link.identity.key ≡ names.key
  client_key = ap (λ (i : Identity). i.key) timely.client.identity

  pub server_key : ends.server.link.identity.key ≡ names.key
  server_key = ap (λ (i : Identity). i.key) timely.server.identity

  -- a call of the client that enters nothing
  pub client_call : (made : Outcome) → made.enters ≡ None → Each IsPdu made.pdus → length made.given ≤ length made.pdus
      → ((is : AreTogether names ends) → GoesOn is.client is.server made.link made.pdus made.given made.taken)
      → ((is : IsAlone names ends) → EarlyGoesOn is.client made.link made.pdus × (made.given ≡ []) × (made.taken ≡ []))
      → Ordered names ends → Ordered names (made_at role.Client made ends)
  unfolding end_after
  client_call made none are few goes goes_alone (unbegun is) = unbegun (ap (λ enters. newer enters ends.client.connection) none ∙ is)
  client_call made none are few goes goes_alone (alone is) = let on = goes_alone is in alone (client_alone law names ends made none are few is client_key on.1 on.2 on.0)
  client_call made none are few goes goes_alone (together is) = together (client_together law names ends made none are few is client_key (goes is))

  -- a call of the server that enters nothing
  pub server_call : (made : Outcome) → made.enters ≡ None → Each IsPdu made.pdus → length made.given ≤ length made.pdus
      → ((is : AreTogether names ends) → GoesOn is.server is.client made.link made.pdus made.given made.taken)
      → ((is : IsAlone names ends) → made.pdus ≡ [])
      → Ordered names ends → Ordered names (made_at role.Server made ends)
  server_call made none are few goes silent_alone (unbegun is) = unbegun is
  server_call made none are few goes silent_alone (alone is) = alone (server_rests names ends made none (silent_alone is) is)
  server_call made none are few goes silent_alone (together is) = together (server_together law names ends made none are few is server_key (goes is))

  pub swap : (is : AreTogether names ends) → InOrder is.server is.client
  swap is = record { there = is.order.back; back = is.order.there }

  -- what a call does, at the reading of the clock
  pub at_clock : (who : Role) (enters : ℕ → Bool) (step : ℕ → Step) → Steps (end_of who ends).link (enters (end_of who ends).link.clock) (step (end_of who ends).link.clock)
      → Steps (end_of who ends).link (enters (reading_of (end_of who ends).clock)) (step (reading_of (end_of who ends).clock))
  at_clock who enters step does = subst (λ (now : ℕ). Steps (end_of who ends).link (enters now) (step now)) (ends_clock names ends who timely) does

  pub step_pdus : (link : LinkState) (enters : Bool) (step : Step) → Steps link enters step → Each IsPdu step.pdus
  step_pdus link enters step does = deed_pdus link.identity link.clock Own (standing link) (standing step.link) enters [] step.pdus does.deed

  step_silent : (link : LinkState) (enters : Bool) (step : Step) → Steps link enters step → (IsInside (standing link) → ⊥) → enters ≡ false → step.pdus ≡ []
  step_silent link enters step does out none = deed_silent link.identity link.clock Own (standing link) (standing step.link) enters [] step.pdus does.deed out none

  -- ---- calls without bytes, at the client

  pub ticks_client : Ordered names ends → Ordered names (called role.Client Ticks ends)
  unfolding called outcome
  ticks_client = client_call _ refl (step_pdus ends.client.link false (ticking now ends.client.link) does) (none_few (ticking now ends.client.link).pdus)
      (λ is. law.ticking_on now ends.client.link is.client is.server is.order is.client_plays)
      (λ is. (law.early_ticking now ends.client.link is.client is.early is.plays, refl, refl))
    where
      now : ℕ
      now = reading_of ends.client.clock

      does : Steps ends.client.link false (ticking now ends.client.link)
      does = at_clock role.Client (λ n. false) (λ n. ticking n ends.client.link) (ticking_does ends.client.link (ends_ready names ends role.Client timely))

  pub closes_client : (why : Reason) → Ordered names ends → Ordered names (called role.Client (Closes why) ends)
  unfolding called outcome
  closes_client why = client_call _ refl (step_pdus ends.client.link false (closing_by now why ends.client.link) does) (none_few (closing_by now why ends.client.link).pdus)
      (λ is. law.closing_on now ends.client.link is.client is.server is.order is.client_plays why)
      (λ is. (law.early_closing now ends.client.link is.client is.early is.plays why, refl, refl))
    where
      now : ℕ
      now = reading_of ends.client.clock

      does : Steps ends.client.link false (closing_by now why ends.client.link)
      does = at_clock role.Client (λ n. false) (λ n. closing_by n why ends.client.link) (closing_does ends.client.link why (ends_ready names ends role.Client timely))

  pub sends_client : (item : List ℕ) → MayCall names role.Client (Sends item) ends → Ordered names ends → Ordered names (called role.Client (Sends item) ends)
  unfolding called outcome
  sends_client item may = client_call _ refl (step_pdus ends.client.link false (sending_item now item ends.client.link) does) (one_few (is_ok (answer_to_send now ends.client.link)) item (sending_item now item ends.client.link).pdus (law.sending_carries now item ends.client.link))
      (λ is. law.sending_on now ends.client.link is.client is.server is.order is.client_plays item)
      (λ is. (law.early_sending now ends.client.link is.client is.early is.plays item, law.early_accepts now ends.client.link is.client is.early is.plays item, refl))
    where
      now : ℕ
      now = reading_of ends.client.clock

      does : Steps ends.client.link false (sending_item now item ends.client.link)
      does = at_clock role.Client (λ n. false) (λ n. sending_item n item ends.client.link) (sending_does ends.client.link item (ends_ready names ends role.Client timely) may)

  pub opens_client : Ordered names ends → Ordered names (called role.Client Opens ends)
  unfolding called outcome
  opens_client ordered = go (opens now ends.client.link) refl
    where
      now : ℕ
      now = reading_of ends.client.clock

      does : Steps ends.client.link (opens now ends.client.link) (opening now ends.client.link)
      does = at_clock role.Client (λ n. opens n ends.client.link) (λ n. opening n ends.client.link) (opening_does ends.client.link (ends_ready names ends role.Client timely))

      entered_if : (may : Bool) → Option ℕ
      entered_if may = if may then Some ends.moment else None

      go : (may : Bool) → opens now ends.client.link ≡ may
          → Ordered names (made_at role.Client (record {
            link = (opening now ends.client.link).link;
            pdus = (opening now ends.client.link).pdus;
            enters = if opens now ends.client.link then Some ends.moment else None;
            given = [];
            taken = [];
          }) ends)
      go true is = alone (client_asked law names ends _ ends.moment (ap (λ (b : Bool). if b then Some ends.moment else None) is)
          (step_pdus ends.client.link (opens now ends.client.link) (opening now ends.client.link) does) client_key refl refl (server_earlier names ends timely) (nothing_yet names ends timely)
          (law.opening_asks now ends.client.link is))
      go false is = client_call _ (ap (λ (b : Bool). if b then Some ends.moment else None) is) (step_pdus ends.client.link (opens now ends.client.link) (opening now ends.client.link) does) (none_few (opening now ends.client.link).pdus)
          (λ one. law.opening_not now ends.client.link one.client one.server one.order one.client_plays is)
          (λ one. (law.opening_not_early now ends.client.link one.client one.early one.plays is, refl, refl)) ordered

  -- ---- and at the server

  pub ticks_server : Ordered names ends → Ordered names (called role.Server Ticks ends)
  unfolding called outcome
  ticks_server = server_call _ refl (step_pdus ends.server.link false (ticking now ends.server.link) does) (none_few (ticking now ends.server.link).pdus)
      (λ is. law.ticking_on now ends.server.link is.server is.client (swap is) is.server_plays)
      (λ is. step_silent ends.server.link false (ticking now ends.server.link) does (server_out names ends timely is) refl)
    where
      now : ℕ
      now = reading_of ends.server.clock

      does : Steps ends.server.link false (ticking now ends.server.link)
      does = at_clock role.Server (λ n. false) (λ n. ticking n ends.server.link) (ticking_does ends.server.link (ends_ready names ends role.Server timely))

  pub closes_server : (why : Reason) → Ordered names ends → Ordered names (called role.Server (Closes why) ends)
  unfolding called outcome
  closes_server why = server_call _ refl (step_pdus ends.server.link false (closing_by now why ends.server.link) does) (none_few (closing_by now why ends.server.link).pdus)
      (λ is. law.closing_on now ends.server.link is.server is.client (swap is) is.server_plays why)
      (λ is. step_silent ends.server.link false (closing_by now why ends.server.link) does (server_out names ends timely is) refl)
    where
      now : ℕ
      now = reading_of ends.server.clock

      does : Steps ends.server.link false (closing_by now why ends.server.link)
      does = at_clock role.Server (λ n. false) (λ n. closing_by n why ends.server.link) (closing_does ends.server.link why (ends_ready names ends role.Server timely))

  pub sends_server : (item : List ℕ) → MayCall names role.Server (Sends item) ends → Ordered names ends → Ordered names (called role.Server (Sends item) ends)
  unfolding called outcome
  sends_server item may = server_call _ refl (step_pdus ends.server.link false (sending_item now item ends.server.link) does) (one_few (is_ok (answer_to_send now ends.server.link)) item (sending_item now item ends.server.link).pdus (law.sending_carries now item ends.server.link))
      (λ is. law.sending_on now ends.server.link is.server is.client (swap is) is.server_plays item)
      (λ is. step_silent ends.server.link false (sending_item now item ends.server.link) does (server_out names ends timely is) refl)
    where
      now : ℕ
      now = reading_of ends.server.clock

      does : Steps ends.server.link false (sending_item now item ends.server.link)
      does = at_clock role.Server (λ n. false) (λ n. sending_item n item ends.server.link) (sending_does ends.server.link item (ends_ready names ends role.Server timely) may)

  pub opens_server : Ordered names ends → Ordered names (called role.Server Opens ends)
  unfolding called outcome
  opens_server = server_call _ (ap (λ (b : Bool). if b then Some ends.moment else None) never) (step_pdus ends.server.link (opens now ends.server.link) (opening now ends.server.link) does) (none_few (opening now ends.server.link).pdus)
      (λ is. law.opening_not now ends.server.link is.server is.client (swap is) is.server_plays never)
      (λ is. step_silent ends.server.link (opens now ends.server.link) (opening now ends.server.link) does (server_out names ends timely is) never)
    where
      now : ℕ
      now = reading_of ends.server.clock

      does : Steps ends.server.link (opens now ends.server.link) (opening now ends.server.link)
      does = at_clock role.Server (λ n. opens n ends.server.link) (λ n. opening n ends.server.link) (opening_does ends.server.link (ends_ready names ends role.Server timely))

      its_role : (entered now ends.server.link).link.identity.role ≡ role.Server
      its_role = ap (λ (i : Identity). i.role) (entered_identity now ends.server.link ∙ timely.server.identity)

      never : opens now ends.server.link ≡ false
      never = server_opens_not now ends.server.link its_role
