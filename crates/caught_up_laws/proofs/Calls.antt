-- Each call at an end keeps the exact order of both.
use Rattle.std.proofs.Common.{◌≡◌, ℕ, ◌<◌, Bool, true, false, ◌&&◌, if◌then◌else◌, List, [], Option, Some, None, refl, ap, ◌∙◌, arith}
use Rattle.std.specs.Prelude.{nat_le}
use Rattle.rasta_core_spec.specs.Parameters.{connection_limit}
use Rattle.rasta_core_spec.specs.State.{LinkState, is_client, is_open}
use Rattle.rasta_core_spec.specs.Clock.{deadline, settled, state_at}
use Rattle.rasta_core_spec.specs.PdusHandedOut.{Step, entered, limited, sending, silent, telling}
use Rattle.rasta_core_spec.specs.Establishment.{may_open, is_down}
use Rattle.rasta_core_spec.specs.Calls.{opens, opening}
use Rattle.rasta_core_spec.specs.identity.Identity.{Identity}
use Rattle.rasta_core_spec.specs.identity.Role.{Role}
use Rattle.rasta_core_spec.specs.identity.Role.TheVariants as role
use Rattle.rasta_core_spec.specs.reason.Reason.{Reason}
use Rattle.rasta_core_spec.specs.Ends.{Call, Outcome, Sent, Ticks, Opens, Closes, Sends, outcome, reading_of, end_after, newer}
use Rattle.rasta_core_spec.specs.Run.{Ends, end_of, called}
use Rattle.rasta_core.specs.Order.{InOrder}
use Rattle.rasta_core.specs.LinkAndFlow.{GoesOn}
use Rattle.rasta_core.specs.FirstPdus.{EarlyGoesOn}
use Rattle.rasta_core.specs.TimedEnds.{times_of}
use Rattle.rasta_core_spec.specs.Each.{Each}
use Rattle.rasta_core_spec.specs.Names.{Names}
use Rattle.rasta_core.specs.Invariant.{InFlight, Timely}
use Rattle.rasta_core_spec.specs.Events.{MayCall}
use Rattle.rasta_core_spec.specs.Values.{IsPdu}
use Rattle.caught_up_laws.specs.Exact.{AreTogether, Exact, IsAlone, alone, together, unbegun}
use Rattle.caught_up_laws.specs.inside.Laws.{Laws}
use Rattle.caught_up_laws.proofs.Lists.{by_test, each_turned}
use Rattle.caught_up_laws.proofs.Made.{made_at, client_together, server_together, client_alone, server_rests, client_asked}

pub same_ends : (now : ℕ) (link : LinkState) → (entered now link).link.identity ≡ link.identity
unfolding entered settled limited telling sending
same_ends now link =
    by_test (λ (begun : LinkState). (limited begun).link.identity ≡ link.identity) (is_open link.phase && nat_le (deadline link) now) _ (record link { clock = now })
    (λ e. refl)
    (λ e. by_test (λ (step : Step). step.link.identity ≡ link.identity) (is_open link.phase && nat_le connection_limit link.sent) _ (silent (record link { clock = now })) (λ e. refl) (λ e. refl))

-- nothing was sent in a connection that is only just beginning
nothing_yet : (names : Names) (ends : Ends) → Timely names ends → Each (λ (d : Sent). d.connection ≡ ends.moment → d.sender ≡ role.Client → ⊥) ends.sent
nothing_yet names ends is =
    each_turned (InFlight names (times_of ends is.of_client is.of_server is.newest)) (λ (d : Sent). d.connection ≡ ends.moment → d.sender ≡ role.Client → ⊥)
    (λ (sent : Sent) flies same client. earlier sent.connection flies.known.counted same) ends.sent is.datagrams
  where
    earlier : (connection : ℕ) → connection < ends.moment → connection ≡ ends.moment → ⊥
    earlier connection lt same = omega arith

server_earlier : (names : Names) (ends : Ends) → Timely names ends → ends.server.connection ≡ Some ends.moment → ⊥
server_earlier names ends is e = omega (arith, is.ends_timed.server.began ends.moment e)

server_opens_not : (now : ℕ) (link : LinkState) → (entered now link).link.identity.role ≡ role.Server → opens now link ≡ false
unfolding opens
server_opens_not now link is = not_client (entered now link).link is
  where
    not_client : (l : LinkState) → l.identity.role ≡ role.Server → may_open l ≡ false
    not_client l e = ap (λ (r : Role). is_client r && is_down (state_at l.clock l)) e

module _ (law : Laws) (names : Names) (ends : Ends) (timely : Timely names ends) where
  pub client_key : ends.client.link.identity.key ≡ names.key
  client_key = ap (λ (i : Identity). i.key) timely.client.identity

  pub server_key : ends.server.link.identity.key ≡ names.key
  server_key = ap (λ (i : Identity). i.key) timely.server.identity

  -- a call of the client that enters nothing
  pub client_call : (made : Outcome) → made.enters ≡ None → Each IsPdu made.pdus
      → ((is : AreTogether names ends) → GoesOn is.client is.server made.link made.pdus made.given made.taken)
      → ((is : IsAlone names ends) → EarlyGoesOn is.client made.link made.pdus)
      → Exact names ends → Exact names (made_at role.Client made ends)
  unfolding end_after
  client_call made none are goes goes_alone (unbegun is) = unbegun (ap (λ enters. newer enters ends.client.connection) none ∙ is)
  client_call made none are goes goes_alone (alone is) = alone (client_alone law names ends made none are is client_key (goes_alone is))
  client_call made none are goes goes_alone (together is) = together (client_together law names ends made none are is client_key (goes is))

  -- a call of the server that enters nothing
  pub server_call : (made : Outcome) → made.enters ≡ None → Each IsPdu made.pdus
      → ((is : AreTogether names ends) → GoesOn is.server is.client made.link made.pdus made.given made.taken)
      → ((is : IsAlone names ends) → made.pdus ≡ [])
      → Exact names ends → Exact names (made_at role.Server made ends)
  server_call made none are goes silent_alone (unbegun is) = unbegun is
  server_call made none are goes silent_alone (alone is) = alone (server_rests names ends made none (silent_alone is) is)
  server_call made none are goes silent_alone (together is) = together (server_together law names ends made none are is server_key (goes is))

  pub swap : (is : AreTogether names ends) → InOrder is.server is.client
  swap is = record { there = is.order.back; back = is.order.there }

  says : (who : Role) (call : Call) → MayCall names who call ends → Each IsPdu (outcome call ends.moment (end_of who ends)).pdus
  says who call may = law.pdus names ends who call timely may

  server_out : IsAlone names ends → is_open ends.server.link.phase ≡ false
  server_out is = go (is_open ends.server.link.phase) refl
    where
      go : (opened : Bool) → is_open ends.server.link.phase ≡ opened → is_open ends.server.link.phase ≡ false
      go true e = absurd (is.not_of_server (law.server_joins names ends timely e ∙ is.of_client))
      go false e = e

  -- a server outside that enters nothing says nothing
  pub server_silent : (call : Call) → (outcome call ends.moment ends.server).enters ≡ None → IsAlone names ends → (outcome call ends.moment ends.server).pdus ≡ []
  server_silent call none is = (law.does_nothing call ends.moment ends.server (server_out is) none).pdus

  -- ---- calls without bytes, at the client

  pub ticks_client : Exact names ends → Exact names (called role.Client Ticks ends)
  unfolding called outcome
  ticks_client = client_call _ refl (says role.Client Ticks tt)
      (λ is. law.ticking_on now ends.client.link is.client is.server is.order is.client_plays)
      (λ is. law.early_ticking now ends.client.link is.client is.early is.plays)
    where
      now : ℕ
      now = reading_of ends.client.clock

  pub closes_client : (why : Reason) → Exact names ends → Exact names (called role.Client (Closes why) ends)
  unfolding called outcome
  closes_client why = client_call _ refl (says role.Client (Closes why) tt)
      (λ is. law.closing_on now ends.client.link is.client is.server is.order is.client_plays why)
      (λ is. law.early_closing now ends.client.link is.client is.early is.plays why)
    where
      now : ℕ
      now = reading_of ends.client.clock

  pub sends_client : (item : List ℕ) → MayCall names role.Client (Sends item) ends → Exact names ends → Exact names (called role.Client (Sends item) ends)
  unfolding called outcome
  sends_client item may = client_call _ refl (says role.Client (Sends item) may)
      (λ is. law.sending_on now ends.client.link is.client is.server is.order is.client_plays item)
      (λ is. law.early_sending now ends.client.link is.client is.early is.plays item)
    where
      now : ℕ
      now = reading_of ends.client.clock

  pub opens_client : Exact names ends → Exact names (called role.Client Opens ends)
  unfolding called outcome
  opens_client ordered = go (opens now ends.client.link) refl
    where
      now : ℕ
      now = reading_of ends.client.clock

      entered_if : (may : Bool) → Option ℕ
      entered_if may = if may then Some ends.moment else None

      go : (may : Bool) → opens now ends.client.link ≡ may
          → Exact names (made_at role.Client (record {
            link = (opening now ends.client.link).link;
            pdus = (opening now ends.client.link).pdus;
            enters = if opens now ends.client.link then Some ends.moment else None;
            given = [];
            taken = [];
          }) ends)
      go true is = alone (client_asked law names ends _ ends.moment (ap (λ (b : Bool). if b then Some ends.moment else None) is)
          (says role.Client Opens tt) client_key (server_earlier names ends timely) (nothing_yet names ends timely)
          (law.opening_asks now ends.client.link is))
      go false is = client_call _ (ap (λ (b : Bool). if b then Some ends.moment else None) is) (says role.Client Opens tt)
          (λ one. law.opening_not now ends.client.link one.client one.server one.order one.client_plays is)
          (λ one. law.opening_not_early now ends.client.link one.client one.early one.plays is) ordered

  -- ---- and at the server

  pub ticks_server : Exact names ends → Exact names (called role.Server Ticks ends)
  unfolding called outcome
  ticks_server = server_call _ refl (says role.Server Ticks tt)
      (λ is. law.ticking_on now ends.server.link is.server is.client (swap is) is.server_plays)
      (λ is. server_silent Ticks refl is)
    where
      now : ℕ
      now = reading_of ends.server.clock

  pub closes_server : (why : Reason) → Exact names ends → Exact names (called role.Server (Closes why) ends)
  unfolding called outcome
  closes_server why = server_call _ refl (says role.Server (Closes why) tt)
      (λ is. law.closing_on now ends.server.link is.server is.client (swap is) is.server_plays why)
      (λ is. server_silent (Closes why) refl is)
    where
      now : ℕ
      now = reading_of ends.server.clock

  pub sends_server : (item : List ℕ) → MayCall names role.Server (Sends item) ends → Exact names ends → Exact names (called role.Server (Sends item) ends)
  unfolding called outcome
  sends_server item may = server_call _ refl (says role.Server (Sends item) may)
      (λ is. law.sending_on now ends.server.link is.server is.client (swap is) is.server_plays item)
      (λ is. server_silent (Sends item) refl is)
    where
      now : ℕ
      now = reading_of ends.server.clock

  pub opens_server : Exact names ends → Exact names (called role.Server Opens ends)
  unfolding called outcome
  opens_server = server_call _ (ap (λ (b : Bool). if b then Some ends.moment else None) never) (says role.Server Opens tt)
      (λ is. law.opening_not now ends.server.link is.server is.client (swap is) is.server_plays never)
      (λ is. server_silent Opens (ap (λ (b : Bool). if b then Some ends.moment else None) never) is)
    where
      now : ℕ
      now = reading_of ends.server.clock

      its_role : (entered now ends.server.link).link.identity.role ≡ role.Server
      its_role = ap (λ (i : Identity). i.role) (same_ends now ends.server.link ∙ timely.server.identity)

      never : opens now ends.server.link ≡ false
      never = server_opens_not now ends.server.link its_role
