-- What a client knows of its server, as what a step takes of it.
use Rattle.std.proofs.Common.{◌≡◌, ◌≤◌, ◌⊎◌, ◌+◌, ◌-◌, ◌&&◌, ◌++◌, ℕ, suc, inl, inr, Bool, true, false, nat_le, nat_lt, if◌then◌else◌, List, [], ◌∷◌, length, arith, refl, ap, sym, ◌∙◌, subst}
use Rattle.std.specs.Prelude.{◌≢◌, Result, Ok, Err}
use Rattle.std.proofs.lemmas.Bool.{false≢true}
use Rattle.std.proofs.lemmas.Bool.Decides.{nat_tests}
use Rattle.std.proofs.lemmas.List.{append-nil, length-append, length-map}
use Rattle.std.proofs.lemmas.List.Elements.{All-nil}
use Rattle.simulator_link_laws.specs.sci_telegram.TelegramRead.{reading}
use Rattle.simulator_link_laws.specs.sci_telegram.Telegrams.{IsTelegram, writing}
use Rattle.simulator_link_laws.specs.sci_telegram.declared.fault.SciFault.{SciFault}
use Rattle.simulator_link_laws.specs.sci_telegram.declared.message.Message.{Message}
use Rattle.simulator_link_laws.specs.sci_telegram.declared.message.Message.TheVariants as message
use Rattle.simulator_link_laws.specs.sci_telegram.declared.message.SignalMessage.TheVariants.{IndicateAspect, IndicatedAspect}
use Rattle.simulator_link_laws.specs.sci_telegram.declared.telegram.Telegram.{Telegram}
use Rattle.simulator_link_laws.specs.rasta_core.Clock.{deadline, settled, state_at}
use Rattle.simulator_link_laws.specs.rasta_core.Ends.{reading_of}
use Rattle.simulator_link_laws.specs.rasta_core.Run.{Ends}
use Rattle.simulator_link_laws.specs.rasta_core.State.{LinkState, confirmed_items, is_open, is_up}
use Rattle.simulator_link_laws.specs.rasta_core.Steps.{all_made}
use Rattle.simulator_link_laws.specs.rasta_core.phase.Phase.{Phase}
use Rattle.simulator_link_laws.specs.rasta_core.phase.Phase.TheVariants as phase
use Rattle.simulator_link_laws.specs.object_host.Host.{HostState}
use Rattle.simulator_link_laws.specs.signal_ctl.Signal.{SignalState}
use Rattle.simulator_link_laws.specs.point_ctl.Drive.{PointState}
use Rattle.simulator_link_laws.specs.ixl_client.Client.{PeerState}
use Rattle.simulator_link_laws.specs.ixl_client.Made.{link_after}
use Rattle.simulator_link_laws.specs.ixl_client.ClientSoFar.{LinkCall}
use Rattle.simulator_link_laws.specs.ixl_client.Step.{message_of}
use Rattle.simulator_link_laws.specs.ixl_client.declared.command.Command.{Command}
use Rattle.simulator_link_laws.specs.ixl_client.declared.stage.Stage.{Stage}
use Rattle.simulator_link_laws.specs.ixl_client.declared.stage.Stage.TheVariants as stage
use Rattle.simulator_link_laws.specs.ixl_spec.State.{KnownSignalState}
use Rattle.simulator_link_laws.specs.ixl_spec.Step.{Input}
use Rattle.simulator_machine.specs.Link.{Server, Before, In, Gone, Link}
use Rattle.simulator_machine.specs.Point.{Point, Position, reports_made}
use Rattle.simulator_machine.specs.Signal.{Signal}
use Rattle.simulator_link_laws.specs.simulator_move_laws.Items.{all_said, aspects_in, aspects_of, reports_in, said_by}
use Rattle.simulator_link_laws.specs.simulator_move_laws.Flows.{ClientKnows, FlowsInOrder, commands_taken, given_after, of_server, reports_given, taken_after}
use Rattle.simulator_link_laws.specs.simulator_move_laws.EndsSeen.{represented, server_of}
use Rattle.simulator_link_laws.specs.simulator_move_laws.Point.{AreSaid, IsPointSeen}
use Rattle.simulator_link_laws.specs.simulator_move_laws.Signal.{IsSignalSeen}
use Rattle.simulator_link_laws.specs.simulator_move_laws.Calls.{Items, items_after}
use Rattle.simulator_link_laws.specs.simulator_move_laws.Facts.{LinkFacts}
use Rattle.simulator_link_laws.specs.simulator_move_laws.Link.{is_inside}
use Rattle.simulator_link_laws.specs.simulator_move_laws.Nodes.{KnownSignalFits, openings}
use Rattle.simulator_link_laws.specs.simulator_move_laws.Telegrams as rules
use Rattle.simulator_link_laws.specs.simulator_move_laws.Telegrams.{given_by, item_of, positions_told}
use Rattle.simulator_safety.specs.At.{IsClientAt}
use Rattle.simulator_safety.specs.Calls.{as_calls}
use Rattle.simulator_safety.proofs.FarEndCalls.{given_same, links_same, taken_same}
use Rattle.simulator_safety.proofs.Told.{heard_of_said}

-- ---- the link

before_deadline : (now until : ℕ) → nat_le until now ≡ false → nat_lt now until ≡ true
before_deadline now until early = grind (arith, nat_tests)

pub settled_inside : (now : ℕ) (link : LinkState) → is_open (settled now link).phase ≡ true → is_inside now link ≡ true
unfolding settled
settled_inside now link = by (is_open link.phase) (nat_le (deadline link) now) refl refl where
  by : (o late : Bool) → is_open link.phase ≡ o → nat_le (deadline link) now ≡ late →
      is_open (if is_open link.phase && nat_le (deadline link) now then record link { phase = phase.Closed; closed_at = deadline link; clock = now } else record link { clock = now }).phase ≡ true →
      is_inside now link ≡ true
  by false late closed at opened = absurd (false≢true (sym closed_then ∙ opened)) where
    closed_then : is_open (if is_open link.phase && nat_le (deadline link) now then record link { phase = phase.Closed; closed_at = deadline link; clock = now } else record link { clock = now }).phase ≡ false
    closed_then = rw closed closed
  by true true was at opened = absurd (false≢true (sym (rw (was, at) refl) ∙ opened))
  by true false was at opened = rw (was, before_deadline now (deadline link) at) refl

up_open : (p : Phase) → is_up p ≡ true → is_open p ≡ true
up_open phase.Closed up = absurd (false≢true up)
up_open phase.Start up = refl
up_open phase.Up up = refl
up_open phase.RetransmissionRequested up = refl
up_open phase.RetransmissionRunning up = refl

known_so : (ends : Ends) (link link' : LinkState) (given given' taken taken' : List (List ℕ)) → link ≡ link' → given ≡ given' → taken ≡ taken' → ClientKnows ends link given taken →
    ClientKnows ends link' given' taken'
known_so ends link link' given given' taken taken' linked gave took knows =
    subst (λ l. ClientKnows ends l given' taken') linked (subst (λ xs. ClientKnows ends link xs taken') gave (subst (λ xs. ClientKnows ends link given xs) took knows))

module _ (now : ℕ) (input : Input) (peer : PeerState) (link : LinkState) (items : Items) (ends : Ends) (at : IsClientAt now input peer link items ends) (made : List LinkCall) where
  abbrev then_link : LinkState
  then_link = link_after now made (settled now link)

  abbrev then_items : Items
  then_items = items_after now made (settled now link) items

  pub known_then : ClientKnows ends (all_made (reading_of ends.client.clock) (as_calls at.connection made) ends.client.link).link
      (given_after (reading_of ends.client.clock) (as_calls at.connection made) ends.client.link ends.client.given)
      (taken_after (reading_of ends.client.clock) (as_calls at.connection made) ends.client.link ends.client.taken) → ClientKnows ends then_link then_items.given then_items.taken
  known_then knows =
      let calls = as_calls at.connection made
      in let linked = ap (λ n. (all_made n calls ends.client.link).link) at.clock ∙ ap (λ (l : LinkState). (all_made now calls l).link) at.link_is
      ∙ links_same now at.connection made (settled now link)
      in let gave = ap (λ n. given_after n calls ends.client.link ends.client.given) at.clock ∙ ap (λ (l : LinkState). given_after now calls l ends.client.given) at.link_is
      ∙ ap (given_after now calls (settled now link)) (sym at.given) ∙ given_same now at.connection made (settled now link) items
      in let took = ap (λ n. taken_after n calls ends.client.link ends.client.taken) at.clock ∙ ap (λ (l : LinkState). taken_after now calls l ends.client.taken) at.link_is
      ∙ ap (taken_after now calls (settled now link)) (sym at.taken) ∙ taken_same now at.connection made (settled now link) items
      in known_so ends _ then_link _ then_items.given _ then_items.taken linked gave took knows

  pub link_facts : ClientKnows ends then_link then_items.given then_items.taken → (seen : Link) → seen ≡ represented ends → LinkFacts now then_link then_items seen
  unfolding represented
  link_facts knows seen is = record {
    up = λ up before. knows.up up (sym (ap (λ (l : Link). l.server) is) ∙ before);
    quiet = λ down inside. knows.quiet (ap (λ n. state_at n then_link) at.clock ∙ down) (sym (ap (λ (l : Link). l.server) is) ∙ inside);
    alive = λ opened. sym (ap (λ n. nat_lt n (deadline then_link)) at.clock) ∙ knows.alive opened;
    counted = knows.counted;
  }

-- ---- a signal

one_aspect : (read : Result Telegram SciFault) → length (said_by aspects_of read) ≤ 1
one_aspect (Err fault) = omega arith
one_aspect (Ok telegram) = by telegram.message where
  by : (m : Message) → length (aspects_of m) ≤ 1
  by (message.Initialisation protocol told) = omega arith
  by (message.Point told) = omega arith
  by (message.Signal (IndicateAspect aspect)) = omega arith
  by (message.Signal (IndicatedAspect aspect)) = omega arith
  by (message.Detection told) = omega arith

one_more : (one more both all : ℕ) → both ≡ one + more → one ≤ 1 → more ≤ all → both ≤ suc all
one_more one more both all is first others = omega (arith, is, first, others)

-- an item tells one aspect at most
aspects_few : (items : List (List ℕ)) → length (aspects_in items) ≤ length items
unfolding all_said
aspects_few [] = omega arith
aspects_few (item ∷ items) =
    one_more (length (said_by aspects_of (reading item))) (length (aspects_in items)) _ (length items) (length-append (said_by aspects_of (reading item)) (aspects_in items))
    (one_aspect (reading item)) (aspects_few items)

given_few : (peer : PeerState) (at : Stage) (commands : List Command) → length (given_by peer at commands) ≤ 2 + length commands
given_few peer stage.Outside commands = omega arith
given_few peer stage.AwaitsAnswer commands = omega arith
given_few peer stage.AwaitsStart commands = omega arith
given_few peer (stage.AwaitsStatus left) commands = omega arith
given_few peer stage.Completed commands = omega (arith, length-map commands (λ command. item_of peer (message_of command)))
given_few peer stage.AwaitsReport commands = omega (arith, length-map commands (λ command. item_of peer (message_of command)))

-- sums
few_done : (confirmed taken rest given commands aspects others all : ℕ) → confirmed ≤ taken → given ≡ taken + rest → given ≤ 2 + commands → all ≡ commands → all ≡ aspects + others → others ≤ rest
    → confirmed - openings ≤ aspects
few_done confirmed taken rest given commands aspects others all held is few all_is all_are less = omega (arith, held, is, few, all_is, all_are, less)

none_done : (confirmed taken done : ℕ) → confirmed ≤ taken → taken ≡ 0 → confirmed - openings ≤ done
none_done confirmed taken done held none = omega (arith, held, none)

module _
    (aspects_join : (first others : List (List ℕ)) → aspects_in (first ++ others) ≡ aspects_in first ++ aspects_in others)
    (now : ℕ) (input : Input) (known_signal : KnownSignalState) (items : Items) (ends : Ends) (host : HostState SignalState) (signal : Signal)
    (at : IsClientAt now input known_signal.client.peer known_signal.client.link items ends) (seen : IsSignalSeen ends host signal) (fits : KnownSignalFits now known_signal items signal) (flows : FlowsInOrder ends)
    (outside : is_open ends.server.link.phase ≡ false → server_of ends ≢ In)
  where
    confirmed_inside : (link : LinkState) → is_inside now known_signal.client.link ≡ true → is_open ends.server.link.phase ≡ true → server_of ends ≡ In →
        confirmed_items link ≤ length (commands_taken ends) → confirmed_items link - openings ≤ length signal.done
    confirmed_inside link inside opened is held =
        let taken : List (List ℕ) = ends.server.taken
        in let rest : List (List ℕ) = flows.commands.rest
        in let beginning : ends.client.given ≡ taken ++ rest = flows.commands.same ∙ ap (λ s. of_server s ends.server.taken ++ rest) is
        in let gave : length ends.client.given ≤ 2 + length fits.commands =
        subst (λ xs. length xs ≤ 2 + length fits.commands) (sym (fits.client.given inside) ∙ at.given) (given_few known_signal.client.peer known_signal.client.stage fits.commands)
        in let all : length (aspects_in ends.client.given) ≡ length fits.commands =
        ap length (sym seen.given ∙ fits.aspects inside) ∙ length-map fits.commands rules.aspect_of
        in subst (λ done. confirmed_items link - openings ≤ length done) (sym (seen.done opened))
        (few_done (confirmed_items link) (length taken) (length rest) (length ends.client.given) (length fits.commands) (length (aspects_in taken)) (length (aspects_in rest))
        (length (aspects_in ends.client.given))
        (subst (λ s. confirmed_items link ≤ length (of_server s ends.server.taken)) is held)
        (ap length beginning ∙ length-append taken rest) gave all
        (ap (λ xs. length (aspects_in xs)) beginning ∙ ap length (aspects_join taken rest) ∙ length-append (aspects_in taken) (aspects_in rest)) (aspects_few rest))

    confirmed_at : (link : LinkState) → is_inside now known_signal.client.link ≡ true → confirmed_items link ≤ length (commands_taken ends) →
        (signal.link.server ≡ Gone) ⊎ (confirmed_items link - openings ≤ length signal.done)
    unfolding represented
    confirmed_at link inside held = by (server_of ends) (is_open ends.server.link.phase) refl refl where
      by : (server : Server) (o : Bool) → server_of ends ≡ server → is_open ends.server.link.phase ≡ o →
          (signal.link.server ≡ Gone) ⊎ (confirmed_items link - openings ≤ length signal.done)
      by Gone o is is_open = inl (ap (λ (l : Link). l.server) seen.link ∙ is)
      by Before o is is_open = inr (none_done (confirmed_items link) (length (commands_taken ends)) (length signal.done) held (ap (λ s. length (of_server s ends.server.taken)) is))
      by In true is is_open = inr (confirmed_inside link inside is_open is held)
      by In false is is_closed = absurd (outside is_closed is)

    pub confirmed_done : (link : LinkState) (given taken : List (List ℕ)) → ClientKnows ends link given taken → is_up link.phase ≡ true →
        (signal.link.server ≡ Gone) ⊎ (confirmed_items link - openings ≤ length signal.done)
    confirmed_done link given taken knows up =
        let opened = up_open link.phase up
        in confirmed_at link (settled_inside now known_signal.client.link (ap (λ (l : LinkState). is_open l.phase) (sym at.link_is) ∙ knows.inside opened)) (knows.confirmed opened)

-- ---- a point

said_given : (ends : Ends) (host : HostState PointState) (point : Point) → IsPointSeen ends host point → AreSaid host.own_name host.peer_name (reports_given ends)
said_given ends host point seen = by (server_of ends) where
  by : (server : Server) → AreSaid host.own_name host.peer_name (of_server server ends.server.given)
  by Before = record { reports = []; are = refl; own = All-nil _ }
  by In = seen.said
  by Gone = seen.said

-- all reports made are those that a client hears in what the server gave
pub made_is_heard : ((telegram : Telegram) → IsTelegram telegram → reading (writing telegram) ≡ Ok telegram) →
    (peer : PeerState) (ends : Ends) (host : HostState PointState) (point : Point) → IsPointSeen ends host point → peer.objects ≡ host.own_name ∷ [] →
    reports_made point ≡ positions_told peer (reports_given ends)
made_is_heard read peer ends host point seen objects =
    seen.made
    ∙ sym (heard_of_said read peer host.own_name host.peer_name objects seen.named.own seen.named.peer (reports_given ends) [] (reports_given ends)
    (sym (append-nil (reports_given ends))) (said_given ends host point seen))

pub reports_heard : ((telegram : Telegram) → IsTelegram telegram → reading (writing telegram) ≡ Ok telegram) →
    ((first others : List (List ℕ)) → reports_in (first ++ others) ≡ reports_in first ++ reports_in others) →
    (peer : PeerState) (ends : Ends) (host : HostState PointState) (point : Point) (link : LinkState) (given taken : List (List ℕ)) → IsPointSeen ends host point → peer.objects ≡ host.own_name ∷ [] →
    ClientKnows ends link given taken → (rest : List Position) × (reports_made point ≡ positions_told peer taken ++ rest)
reports_heard read reports_join peer ends host point link given taken seen objects knows = (
  reports_in knows.reports.rest,
  seen.made ∙ ap reports_in knows.reports.same ∙ reports_join taken knows.reports.rest
      ∙ ap (λ xs. xs ++ reports_in knows.reports.rest)
      (sym (heard_of_said read peer host.own_name host.peer_name objects seen.named.own seen.named.peer taken knows.reports.rest (reports_given ends) knows.reports.same (said_given ends host point seen))),
)
