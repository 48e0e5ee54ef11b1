-- A step of a signal's host is a list of moves of the machine's signal.
use Rattle.std.proofs.Common.{◌≡◌, ℕ, Bool, true, false, nat_lt, if◌then◌else◌, ◌+◌, List, [], ◌∷◌, ◌++◌, map, append_assoc, refl, ap, sym, ◌∙◌, subst}
use Rattle.std.specs.Prelude.{◌≢◌, Option, Some, None, Result, Ok, Err}
use Rattle.std.proofs.lemmas.Bool.{true≢false, false≢true}
use Rattle.std.proofs.lemmas.List.{append-nil}
use Rattle.sci_telegram.specs.TelegramRead.{reading}
use Rattle.sci_telegram.specs.declared.fault.SciFault.{SciFault}
use Rattle.sci_telegram.specs.declared.message.Aspect as sent
use Rattle.sci_telegram.specs.declared.message.Aspect.TheVariants.{Stop, Proceed, Slow}
use Rattle.sci_telegram.specs.declared.message.Message.{Message}
use Rattle.sci_telegram.specs.declared.message.Message.TheVariants as message
use Rattle.sci_telegram.specs.declared.message.SignalMessage.{SignalMessage}
use Rattle.sci_telegram.specs.declared.message.SignalMessage.TheVariants.{IndicateAspect, IndicatedAspect}
use Rattle.sci_telegram.specs.declared.telegram.Telegram.{Telegram}
use Rattle.rasta_core.specs.State.{is_open}
use Rattle.rasta_core.specs.Clock.{alive_until, settled}
use Rattle.rasta_core.specs.Ends.{EndState, end_later, end_restarted, kept, reading_of}
use Rattle.rasta_core.specs.Events.{Start, started}
use Rattle.rasta_core.specs.Names.{Names, identity_of}
use Rattle.rasta_core.specs.Run.{Ends, later, restarted}
use Rattle.rasta_core.specs.identity.Role.TheVariants as role
use Rattle.rasta_core.specs.Calls.{created}
use Rattle.object_host.specs.Host.{HostState, HostSoFar, keeping}
use Rattle.object_host.specs.Hosted.{new_host}
use Rattle.object_host.specs.Made.{command_of, commands_of, is_command}
use Rattle.object_host.specs.Step.{host_step}
use Rattle.object_host.specs.declared.input.Input.{Input}
use Rattle.object_host_laws.specs.Acted.{IsActedOn}
use Rattle.object_host_laws.specs.World.{Event, begun, HostRestarts, Passes, Steps as WorldSteps, World, called_all, entering, happened, host_of, host_restarted, step_of, stepped, told_since}
use Rattle.signal_ctl.specs.Signal.{SignalState, indicates, signal_behaviour}
use Rattle.signal_ctl.specs.History.{or_else}
use Rattle.signal_ctl.specs.Lamp.{aspect_shown, standing}
use Rattle.object_host_laws.specs.Signal.{IsTold, aspect_due, last_indicated}
use Rattle.simulator_machine.specs.Link.{Server, In, Link, LinkMove, Opens, Enters, ComesUp, Closes, Leaves, QuietEnds}
use Rattle.simulator_machine.specs.Signal as machine
use Rattle.simulator_machine.specs.Lists.{last_of}
use Rattle.simulator_machine.specs.Point.{Position}
use Rattle.simulator_machine.specs.Run.{first, unlinked}
use Rattle.simulator_machine.specs.Signal.{Aspect, shown, shown_by, Signal, SignalMove, SignalLink, Acts, SignalMay, signal_after, aspects_given}
use Rattle.simulator_machine.specs.Chains.{LinkMayChain, SignalMayChain, link_chained, signal_chained}
use Rattle.simulator_machine.specs.Invariant.{IsSignalSound}
use Rattle.simulator_move_laws.specs.Items.{all_said, aspect_seen, aspects_in, aspects_of, said_by}
use Rattle.simulator_move_laws.specs.LinkMoves.{LinkGoes, moves_by, server_moves}
use Rattle.simulator_move_laws.specs.EndsSeen.{represented, server_of}
use Rattle.simulator_move_laws.specs.Ends.{AreFit, IsAtEnd, OpensNone, Steps, hosted_on, server_later}
use Rattle.simulator_move_laws.specs.Signal.{IsSignalSeen, SignalGoes}
use Rattle.simulator_move_laws.proofs.Controllers.Lists.{cancelled, chain_joined, chain_may}
use Rattle.simulator_move_laws.proofs.Controllers.Places.{alone_goes, at_end_later, fit_alone, in_where_open, leaves_opens_none, moved_opens_none, open_before, server_opens_none}

-- the moves of a link leave the aspects of a signal
pub linked_keeps : (moves : List LinkMove) (signal : Signal) → OpensNone moves →
    ((signal_chained (map SignalLink moves) signal).done ≡ signal.done) × ((signal_chained (map SignalLink moves) signal).flight ≡ signal.flight)
    × ((signal_chained (map SignalLink moves) signal).confirmed ≡ signal.confirmed)
linked_keeps [] signal none = (refl, refl, refl)
linked_keeps (Opens ∷ moves) signal none = absurd none
linked_keeps (Enters ∷ moves) signal none = linked_keeps moves (signal_after (SignalLink Enters) signal) none
linked_keeps (ComesUp ∷ moves) signal none = linked_keeps moves (signal_after (SignalLink ComesUp) signal) none
linked_keeps (Closes ∷ moves) signal none = linked_keeps moves (signal_after (SignalLink Closes) signal) none
linked_keeps (Leaves ∷ moves) signal none = linked_keeps moves (signal_after (SignalLink Leaves) signal) none
linked_keeps (QuietEnds ∷ moves) signal none = linked_keeps moves (signal_after (SignalLink QuietEnds) signal) none

-- aspects are acted on
record HasActed (first rest : List Aspect) (old new : Signal) : Type 0 where
  done : new.done ≡ old.done ++ first
  flight : new.flight ≡ rest
  link : new.link ≡ old.link
  confirmed : new.confirmed ≡ old.confirmed

next_acted : (first : Aspect) (others : List Aspect) (signal : Signal) → signal.flight ≡ first ∷ others →
    signal_after Acts signal ≡ record signal { done = signal.done ++ first ∷ []; flight = others }
next_acted first others signal is = rw is refl

has_acted : (first rest : List Aspect) (signal : Signal) → signal.flight ≡ first ++ rest → HasActed first rest signal (signal_chained (map (λ aspect. Acts) first) signal)
has_acted [] rest signal is = record { done = sym (append-nil signal.done); flight = is; link = refl; confirmed = refl }
has_acted (aspect ∷ others) rest signal is =
    let acted : Signal = record signal { done = signal.done ++ aspect ∷ []; flight = others ++ rest }
    in let more = has_acted others rest acted refl
    in subst (λ s. HasActed (aspect ∷ others) rest signal (signal_chained (map (λ aspect. Acts) others) s)) (sym (next_acted aspect (others ++ rest) signal is))
    (record { done = more.done ∙ append_assoc signal.done (aspect ∷ []) others; flight = more.flight; link = more.link; confirmed = more.confirmed })

acts_stay : (signal : Signal) → (signal_after Acts signal).link ≡ signal.link
acts_stay signal = by signal.flight refl where
  by : (flight : List Aspect) → signal.flight ≡ flight → (signal_after Acts signal).link ≡ signal.link
  by [] is = rw is refl
  by (first ∷ others) is = rw is refl

acts_may : (aspects : List Aspect) (signal : Signal) → signal.link.server ≡ In → SignalMayChain (map (λ aspect. Acts) aspects) signal
acts_may [] signal inside = tt
acts_may (aspect ∷ others) signal inside = (inside, acts_may others (signal_after Acts signal) (ap (λ (l : Link). l.server) (acts_stay signal) ∙ inside))

module _
    (linked_may : (moves : List LinkMove) (signal : Signal) → LinkMayChain moves signal.link → SignalMayChain (map SignalLink moves) signal)
    (linked_link : (moves : List LinkMove) (signal : Signal) → (signal_chained (map SignalLink moves) signal).link ≡ link_chained moves signal.link)
    (aspects_join : (first others : List (List ℕ)) → aspects_in (first ++ others) ≡ aspects_in first ++ aspects_in others)
  where
    -- the moves of the link alone
    pub links_go : (moves : List LinkMove) (old new : Link) (signal : Signal) → OpensNone moves → LinkGoes moves old new → signal.link ≡ old →
        SignalMayChain (map SignalLink moves) signal × ((signal_chained (map SignalLink moves) signal).link ≡ new)
    links_go moves old new signal none goes is =
        (linked_may moves signal (subst (LinkMayChain moves) (sym is) goes.may), linked_link moves signal ∙ ap (link_chained moves) is ∙ goes.leads)

    module _ (input : Input) (connection : ℕ) (ends new : Ends) (host after : HostState SignalState) (signal : Signal)
        (sound : IsSignalSound signal) (seen : IsSignalSeen ends host signal) (steps : Steps input connection ends new)
        (client_same : new.client ≡ ends.client)
        (items : List (List ℕ)) (taken_is : new.server.taken ≡ kept (entering input connection ends) ends.server.taken ++ items)
        (opened_before : is_open new.server.link.phase ≡ true → entering input connection ends ≡ None → is_open ends.server.link.phase ≡ true)
        (at_end_after : IsAtEnd new after) (told_after : IsTold (hosted_on new after))
      where
        abbrev moves : List LinkMove
        moves = server_moves (server_of ends) (server_of new)

        abbrev linked : Signal
        linked = signal_chained (map SignalLink moves) signal

        keeps : (linked.done ≡ signal.done) × (linked.flight ≡ signal.flight) × (linked.confirmed ≡ signal.confirmed)
        keeps = linked_keeps moves signal (server_opens_none (server_of ends) (server_of new))

        goes : SignalMayChain (map SignalLink moves) signal × (linked.link ≡ represented new)
        goes = links_go moves (represented ends) (represented new) signal (server_opens_none (server_of ends) (server_of new)) steps.goes seen.link

        total : aspects_given signal ≡ aspects_in new.client.given
        total = seen.given ∙ ap (λ (e : EndState). aspects_in e.given) (sym client_same)

        -- what was acted on before, and what the server took before the step in this connection
        before : is_open new.server.link.phase ≡ true → signal.done ≡ aspects_in (kept (entering input connection ends) ends.server.taken)
        unfolding represented all_said
        before opened = by (entering input connection ends) refl where
          by : (e : Option ℕ) → entering input connection ends ≡ e → signal.done ≡ aspects_in (kept e ends.server.taken)
          by None none = seen.done (opened_before opened none)
          by (Some entered) some = sound.none_done (ap (λ (l : Link). l.server) seen.link ∙ (steps.enters entered some).0)

        -- closed, the moves of the link suffice
        closed : is_open new.server.link.phase ≡ false → SignalGoes signal (IsSignalSeen new after)
        closed is = record {
          moves = map SignalLink moves;
          may = goes.0;
          sees = record {
            at_end = at_end_after;
            told = told_after;
            link = goes.1;
            given = ap (λ aspects. aspects ++ linked.flight) keeps.0 ∙ ap (λ aspects. signal.done ++ aspects) keeps.1 ∙ total;
            done = λ opened. absurd (true≢false (sym opened ∙ is));
          };
          confirmed = keeps.2;
        }

        opened : is_open new.server.link.phase ≡ true → SignalGoes signal (IsSignalSeen new after)
        unfolding represented
        opened is =
            let here = steps.fit_after.same is
            in let safe = (steps.fit_after.safe here.0 here.1 here.2).0
            in let old_taken = kept (entering input connection ends) ends.server.taken
            in let flight_is : signal.flight ≡ aspects_in items ++ aspects_in safe.rest =
            cancelled signal.done signal.flight (aspects_in items ++ aspects_in safe.rest)
            (total ∙ ap aspects_in safe.beginning ∙ aspects_join new.server.taken safe.rest
            ∙ ap (λ xs. aspects_in xs ++ aspects_in safe.rest) taken_is
            ∙ ap (λ xs. xs ++ aspects_in safe.rest) (aspects_join old_taken items ∙ ap (λ xs. xs ++ aspects_in items) (sym (before is)))
            ∙ append_assoc signal.done (aspects_in items) (aspects_in safe.rest))
            in let acts = has_acted (aspects_in items) (aspects_in safe.rest) linked (keeps.1 ∙ flight_is)
            in let inside : linked.link.server ≡ In = ap (λ (l : Link). l.server) goes.1 ∙ in_where_open new steps.fit_after is
            in let done_is : (signal_chained (map (λ aspect. Acts) (aspects_in items)) linked).done ≡ aspects_in new.server.taken =
            acts.done ∙ ap (λ xs. xs ++ aspects_in items) (keeps.0 ∙ before is) ∙ sym (aspects_join old_taken items) ∙ ap aspects_in (sym taken_is)
            in let joined = chain_joined SignalMay signal_after (map SignalLink moves) (map (λ aspect. Acts) (aspects_in items)) signal
            in record {
              moves = map SignalLink moves ++ map (λ aspect. Acts) (aspects_in items);
              may = chain_may SignalMay signal_after (map SignalLink moves) (map (λ aspect. Acts) (aspects_in items)) signal goes.0 (acts_may (aspects_in items) linked inside);
              sees = subst (IsSignalSeen new after) (sym joined) (record {
                at_end = at_end_after;
                told = told_after;
                link = acts.link ∙ goes.1;
                given = ap (λ xs. xs ++ (signal_chained (map (λ aspect. Acts) (aspects_in items)) linked).flight) done_is
                    ∙ ap (λ xs. aspects_in new.server.taken ++ xs) acts.flight
                    ∙ sym (ap aspects_in safe.beginning ∙ aspects_join new.server.taken safe.rest);
                done = λ _. done_is;
              });
              confirmed = ap (λ (s : Signal). s.confirmed) joined ∙ acts.confirmed ∙ keeps.2;
            }

        pub signal_goes : SignalGoes signal (IsSignalSeen new after)
        signal_goes = by (is_open new.server.link.phase) refl where
          by : (b : Bool) → is_open new.server.link.phase ≡ b → SignalGoes signal (IsSignalSeen new after)
          by true is = opened is
          by false is = closed is

-- ---- what a step leaves of the host

module _
    (told_law : (event : Event SignalState) (world : World SignalState) → settled (reading_of world.ends.server.clock) world.ends.server.link ≡ world.ends.server.link
    → IsTold world → IsTold (happened signal_behaviour event world))
    (acted_law : (input : Input) (connection : ℕ) (ends : Ends) (host : HostState SignalState) (acted : List (List ℕ)) (told : List Telegram) → host.link ≡ ends.server.link
    → settled (reading_of ends.server.clock) ends.server.link ≡ ends.server.link → IsActedOn ends.server acted told
    → IsActedOn (called_all connection (host_step signal_behaviour (reading_of ends.server.clock) input host).calls ends).server
    (kept (entering input connection ends) acted ++ (host_step signal_behaviour (reading_of ends.server.clock) input host).acted)
    (told_since (entering input connection ends) told ++ (host_step signal_behaviour (reading_of ends.server.clock) input host).told))
  where
    pub step_told : (input : Input) (connection : ℕ) (ends : Ends) (host : HostState SignalState) → AreFit ends → IsTold (hosted_on ends host) →
        IsTold (hosted_on (called_all connection (step_of signal_behaviour input (hosted_on ends host)).calls ends) (step_of signal_behaviour input (hosted_on ends host)).host)
    unfolding happened stepped
    step_told input connection ends host fit told =
        let world : World SignalState = hosted_on ends host
        in let part : HostSoFar SignalState = step_of signal_behaviour input world
        in let after : IsTold (stepped signal_behaviour input connection world) = told_law (WorldSteps input connection) world fit.settled_at told
        in let acted = acted_law input connection ends (host_of world) ends.server.taken (commands_of ends.server.taken) refl fit.settled_at
        (record { dropped = []; beginning = sym (append-nil ends.server.taken); whole = λ _. refl; told_is = refl })
        in record {
          steady = record { outside = after.steady.outside; idle = after.steady.idle };
          until = after.until;
          inside = λ opened. after.inside opened
              ∙ ap (λ ts. last_indicated ts Stop)
              (acted.told_is ∙ ap commands_of (sym (acted.beginning ∙ ap (λ xs. (kept (entering input connection ends) ends.server.taken ++ part.acted) ++ xs) (acted.whole opened)
              ∙ append-nil (kept (entering input connection ends) ends.server.taken ++ part.acted))));
          late = after.late;
        }

module _
    (told_law : (event : Event SignalState) (world : World SignalState) → settled (reading_of world.ends.server.clock) world.ends.server.link ≡ world.ends.server.link
    → IsTold world → IsTold (happened signal_behaviour event world))
  where
    pub later_told : (elapsed of_client of_server : ℕ) (ends : Ends) (host : HostState SignalState) → AreFit ends → IsTold (hosted_on ends host) →
        IsTold (hosted_on (later elapsed of_client of_server ends) host)
    unfolding happened later end_later
    later_told elapsed of_client of_server ends host fit told =
        let after : IsTold (happened signal_behaviour (Passes elapsed of_client of_server) (hosted_on ends host)) = told_law (Passes elapsed of_client of_server) (hosted_on ends host) fit.settled_at told
        in record {
          steady = record { outside = after.steady.outside; idle = after.steady.idle };
          until = after.until;
          inside = after.inside;
          late = after.late;
        }

    pub restarted_told : (clock first : ℕ) (object : SignalState) (ends : Ends) (host : HostState SignalState) → AreFit ends → IsTold (hosted_on ends host) →
        IsTold (hosted_on (restarted role.Server clock first ends) (new_host signal_behaviour ends.server.link.identity host.own_name host.peer_name first clock object host.version))
    unfolding happened restarted end_restarted host_restarted new_host keeping created
    restarted_told clock first object ends host fit told =
        let after : IsTold (happened signal_behaviour (HostRestarts clock first object) (hosted_on ends host)) = told_law (HostRestarts clock first object) (hosted_on ends host) fit.settled_at told
        in record {
          steady = record { outside = after.steady.outside; idle = after.steady.idle };
          until = after.until;
          inside = λ opened. absurd (false≢true opened);
          late = after.late;
        }

-- ---- what happens to the link alone

module _
    (linked_may : (moves : List LinkMove) (signal : Signal) → LinkMayChain moves signal.link → SignalMayChain (map SignalLink moves) signal)
    (linked_link : (moves : List LinkMove) (signal : Signal) → (signal_chained (map SignalLink moves) signal).link ≡ link_chained moves signal.link)
  where
    pub linked_seen : (moves : List LinkMove) (ends new : Ends) (host after : HostState SignalState) (signal : Signal) → OpensNone moves → LinkGoes moves (represented ends) (represented new) →
        IsSignalSeen ends host signal → IsAtEnd new after → IsTold (hosted_on new after) → new.client.given ≡ ends.client.given →
        (is_open new.server.link.phase ≡ true → (is_open ends.server.link.phase ≡ true) × (new.server.taken ≡ ends.server.taken)) → SignalGoes signal (IsSignalSeen new after)
    linked_seen moves ends new host after signal none goes seen at_end told given-same inside =
        let keeps = linked_keeps moves signal none
        in let linked : Signal = signal_chained (map SignalLink moves) signal
        in record {
          moves = map SignalLink moves;
          may = linked_may moves signal (subst (LinkMayChain moves) (sym seen.link) goes.may);
          sees = record {
            at_end = at_end;
            told = told;
            link = linked_link moves signal ∙ ap (link_chained moves) seen.link ∙ goes.leads;
            given = ap (λ aspects. aspects ++ linked.flight) keeps.0 ∙ ap (λ aspects. signal.done ++ aspects) keeps.1 ∙ seen.given ∙ ap aspects_in (sym given-same);
            done = λ opened. keeps.0 ∙ seen.done (inside opened).0 ∙ ap aspects_in (sym (inside opened).1);
          };
          confirmed = keeps.2;
        }

    pub later_seen : (elapsed of_client of_server : ℕ) (moves : List LinkMove) (ends : Ends) (host : HostState SignalState) (signal : Signal) → OpensNone moves →
        LinkGoes moves (represented ends) (represented (later elapsed of_client of_server ends)) → IsSignalSeen ends host signal → IsTold (hosted_on (later elapsed of_client of_server ends) host) →
        SignalGoes signal (IsSignalSeen (later elapsed of_client of_server ends) host)
    unfolding later end_later
    later_seen elapsed of_client of_server moves ends host signal none goes seen told =
        linked_seen moves ends (later elapsed of_client of_server ends) host host signal none goes seen (at_end_later elapsed of_client of_server ends host seen.at_end) told refl
        (λ opened. (open_before (reading_of (ends.server.clock + of_server)) ends.server.link opened, refl))

    pub restarted_seen : (clock first : ℕ) (object : SignalState) (ends : Ends) (host : HostState SignalState) (signal : Signal) → AreFit (restarted role.Server clock first ends) →
        LinkGoes (moves_by false (is_open ends.server.link.phase) false) (represented ends) (represented (restarted role.Server clock first ends)) → IsSignalSeen ends host signal →
        IsTold (hosted_on (restarted role.Server clock first ends) (new_host signal_behaviour ends.server.link.identity host.own_name host.peer_name first clock object host.version)) →
        SignalGoes signal (IsSignalSeen (restarted role.Server clock first ends)
        (new_host signal_behaviour ends.server.link.identity host.own_name host.peer_name first clock object host.version))
    unfolding restarted end_restarted new_host keeping created
    restarted_seen clock first object ends host signal fit goes seen told =
        linked_seen (moves_by false (is_open ends.server.link.phase) false) ends (restarted role.Server clock first ends) host
        (new_host signal_behaviour ends.server.link.identity host.own_name host.peer_name first clock object host.version) signal
        (leaves_opens_none (is_open ends.server.link.phase)) goes seen fit.settled_at told refl (λ opened. absurd (false≢true opened))

-- ---- what happens elsewhere

told_elsewhere : (ends new : Ends) (host : HostState SignalState) → new.server ≡ ends.server → IsTold (hosted_on ends host) → IsTold (hosted_on new host)
told_elsewhere ends new host same told =
    let P : EndState → Type 0 = λ e. IsTold (hosted_on (record new { server = e }) host)
    in let here : P ends.server = record {
      steady = record { outside = told.steady.outside; idle = told.steady.idle };
      until = told.until;
      inside = told.inside;
      late = told.late;
    }
    in subst P (sym same) here

pub elsewhere_seen : (ends new : Ends) (host : HostState SignalState) (signal other : Signal) → new.server ≡ ends.server → IsSignalSeen ends host signal → other.link ≡ represented new →
    aspects_given other ≡ aspects_in new.client.given → (is_open new.server.link.phase ≡ true → other.done ≡ signal.done) → IsSignalSeen new host other
elsewhere_seen ends new host signal other server-same seen link given done = record {
  at_end = subst (λ (e : EndState). settled (reading_of e.clock) host.link ≡ e.link) (sym server-same) seen.at_end;
  told = told_elsewhere ends new host server-same seen.told;
  link = link;
  given = given;
  done = λ opened. done opened ∙ seen.done (ap (λ (e : EndState). is_open e.link.phase) (sym server-same) ∙ opened) ∙ ap (λ (e : EndState). aspects_in e.taken) (sym server-same);
}

-- ---- time at the controller alone

module _
    (linked_may : (moves : List LinkMove) (signal : Signal) → LinkMayChain moves signal.link → SignalMayChain (map SignalLink moves) signal)
    (linked_link : (moves : List LinkMove) (signal : Signal) → (signal_chained (map SignalLink moves) signal).link ≡ link_chained moves signal.link)
  where
    pub alone_seen : (elapsed of_client of_server : ℕ) (ends : Ends) (host : HostState SignalState) (signal : Signal) → AreFit ends → AreFit (later elapsed of_client of_server ends) →
        IsSignalSeen ends host signal → IsTold (hosted_on (later elapsed of_client of_server ends) host) → SignalGoes signal (IsSignalSeen (server_later elapsed of_client of_server ends) host)
    unfolding later end_later
    alone_seen elapsed of_client of_server ends host signal fit fit_later seen told =
        let new : Ends = server_later elapsed of_client of_server ends
        in linked_seen linked_may linked_link (moves_by false (is_open ends.server.link.phase) (is_open new.server.link.phase)) ends new host host signal
        (moved_opens_none (is_open ends.server.link.phase) (is_open new.server.link.phase))
        (alone_goes elapsed of_client of_server ends fit (fit_alone elapsed of_client of_server ends fit fit_later)) seen
        (at_end_later elapsed of_client of_server ends host seen.at_end) (told_elsewhere (later elapsed of_client of_server ends) new host refl told) refl
        (λ opened. (open_before (reading_of (ends.server.clock + of_server)) ends.server.link opened, refl))

-- ---- the beginning

pub begun_seen : (names : Names) (start : Start) (own_name peer_name : List ℕ) (object : SignalState) (version place : ℕ) (positions : ℕ → Position) → AreFit (started names start) →
    represented (started names start) ≡ unlinked → IsTold (begun signal_behaviour names start own_name peer_name object version) →
    IsSignalSeen (started names start) (new_host signal_behaviour (identity_of role.Server names) own_name peer_name start.server_first start.server_clock object version) ((first positions).signals place)
unfolding new_host keeping created all_said
begun_seen names start own_name peer_name object version place positions fit linked told = record {
  at_end = fit.settled_at;
  told = record {
    steady = record { outside = told.steady.outside; idle = told.steady.idle };
    until = told.until;
    inside = λ opened. absurd (false≢true opened);
    late = told.late;
  };
  link = sym linked;
  given = refl;
  done = λ opened. absurd (false≢true opened);
}

-- ---- what is shown

shown_same : (items : List (List ℕ)) (last : sent.Aspect) → last_of (aspect_seen last) (aspects_in items) ≡ aspect_seen (last_indicated (commands_of items) last)
unfolding all_said last_indicated commands_of
shown_same [] last = refl
shown_same (item ∷ items) last = by (reading item) (λ other. shown_same items other) where
  of_signal : (m : SignalMessage) (t : Telegram) → t.message ≡ message.Signal m → ((other : sent.Aspect) → last_of (aspect_seen other) (aspects_in items) ≡ aspect_seen (last_indicated (commands_of items) other)) →
      last_of (aspect_seen last) (aspects_of (message.Signal m) ++ aspects_in items) ≡ aspect_seen (last_indicated (commands_of items) (or_else (indicates (message.Signal m)) last))
  of_signal (IndicateAspect aspect) t is more = more aspect
  of_signal (IndicatedAspect aspect) t is more = more last

  of_message : (m : Message) (t : Telegram) → t.message ≡ m → ((other : sent.Aspect) → last_of (aspect_seen other) (aspects_in items) ≡ aspect_seen (last_indicated (commands_of items) other)) →
      last_of (aspect_seen last) (aspects_of m ++ aspects_in items) ≡ aspect_seen (last_indicated ((if is_command m then t ∷ [] else []) ++ commands_of items) last)
  of_message (message.Initialisation protocol what) t is more = more last
  of_message (message.Signal m) t is more = of_signal m t is more ∙ ap (λ m. aspect_seen (last_indicated (commands_of items) (or_else (indicates m) last))) (sym is)
  of_message (message.Point m) t is more = more last ∙ ap (λ m. aspect_seen (last_indicated (commands_of items) (or_else (indicates m) last))) (sym is)
  of_message (message.Detection m) t is more = more last ∙ ap (λ m. aspect_seen (last_indicated (commands_of items) (or_else (indicates m) last))) (sym is)

  by : (read : Result Telegram SciFault) → ((other : sent.Aspect) → last_of (aspect_seen other) (aspects_in items) ≡ aspect_seen (last_indicated (commands_of items) other)) → last_of (aspect_seen last) (said_by aspects_of read ++ aspects_in items) ≡ aspect_seen (last_indicated (command_of read ++ commands_of items) last)
  by (Err fault) more = more last
  by (Ok telegram) more = of_message telegram.message telegram refl more

stands_as : (aspect : sent.Aspect) (until now : ℕ) → standing aspect until now ≢ Stop → standing aspect until now ≡ aspect
stands_as Stop until now other = absurd (other refl)
stands_as Proceed until now other = by (nat_lt now until) refl where
  by : (b : Bool) → nat_lt now until ≡ b → standing Proceed until now ≡ Proceed
  by true is = rw is refl
  by false is = absurd (other (rw is refl))
stands_as Slow until now other = by (nat_lt now until) refl where
  by : (b : Bool) → nat_lt now until ≡ b → standing Slow until now ≡ Slow
  by true is = rw is refl
  by false is = absurd (other (rw is refl))

pub shows : ((world : World SignalState) → IsTold world → aspect_shown world.object.lamp (reading_of world.ends.server.clock) ≡ aspect_due world) →
    (ends : Ends) (host : HostState SignalState) (signal : Signal) → AreFit ends → IsSignalSeen ends host signal → aspect_shown host.object.lamp (reading_of ends.server.clock) ≢ Stop →
    shown signal ≡ aspect_seen (aspect_shown host.object.lamp (reading_of ends.server.clock))
unfolding represented
shows due ends host signal fit seen other = by (is_open ends.server.link.phase) refl where
  now : ℕ
  now = reading_of ends.server.clock

  until : ℕ
  until = alive_until ends.server.link

  last : sent.Aspect
  last = last_indicated (commands_of ends.server.taken) Stop

  is_due : (b : Bool) → is_open ends.server.link.phase ≡ b → aspect_shown host.object.lamp now ≡ standing (if b then last else Stop) until now
  is_due b is = due (hosted_on ends host) seen.told ∙ ap (λ (o : Bool). standing (if o then last else Stop) until now) is

  by : (b : Bool) → is_open ends.server.link.phase ≡ b → shown signal ≡ aspect_seen (aspect_shown host.object.lamp now)
  by false closed = absurd (other (is_due false closed))
  by true opened =
      ap (λ (s : Server). shown_by s signal.done) (ap (λ (l : Link). l.server) seen.link ∙ in_where_open ends fit opened)
      ∙ ap (last_of machine.Stop) (seen.done opened)
      ∙ shown_same ends.server.taken Stop
      ∙ ap aspect_seen (sym (is_due true opened ∙ stands_as last until now (λ stops. other (is_due true opened ∙ stops))))
