-- A signal in its host shows what its host acted on, event by event.
use Rattle.std.proofs.Common.{◌≡◌, ◌≤◌, ◌+◌, ◌*◌, ◌/◌, ℕ, Bool, true, false, nat_le, nat_lt, not, ◌&&◌, if◌then◌else◌, lit<, List, [], ◌∷◌, ◌++◌, append_assoc, arith, refl, ap, sym, ◌∙◌, subst}
use Rattle.std.specs.Prelude.{Option, Some, None}
use Rattle.std.proofs.Math.Nat.{div-mul-le_self}
use Rattle.std.proofs.lemmas.Nat.{le-div}
use Rattle.std.proofs.lemmas.Bool.{true≢false, false≢true}
use Rattle.std.proofs.lemmas.Bool.Decides.{nat_tests}
use Rattle.sci_telegram.specs.declared.message.Aspect.{Aspect}
use Rattle.sci_telegram.specs.declared.message.Aspect.TheVariants.{Stop, Proceed, Slow}
use Rattle.rasta_core.specs.State.{LinkState, is_open}
use Rattle.rasta_core.specs.Clock.{deadline, alive_until, settled}
use Rattle.rasta_core.specs.Calls.{created}
use Rattle.rasta_core.specs.phase.Phase.TheVariants as phase
use Rattle.rasta_core.specs.Ends.{EndState, end_later, end_restarted, outcome, reading_of}
use Rattle.rasta_core.specs.Run.{Ends, called, later, lost, restarted}
use Rattle.rasta_core.specs.Events.{Start}
use Rattle.rasta_core.specs.Names.{Names, identity_of}
use Rattle.rasta_core.specs.identity.Identity.{Identity}
use Rattle.rasta_core.specs.identity.Role.TheVariants as role
use Rattle.object_host.specs.Host.{HostState, HostSoFar, is_completed, is_outside, keeping}
use Rattle.object_host.specs.Hosted.{IsHosted, IsSteady, new_host}
use Rattle.object_host.specs.Object.{ObjectCall, Keeps, Ticks, object_after_all}
use Rattle.object_host.specs.Step.{host_step}
use Rattle.object_host.specs.Told.{IsToldIn, has_lost, loss_where}
use Rattle.object_host.specs.declared.stage.Stage.{Stage}
use Rattle.object_host.specs.declared.stage.Stage.TheVariants as stage
use Rattle.object_host.specs.declared.input.Input.{Input}
use Rattle.object_host.specs.declared.input.Input.TheVariants as inputs
use Rattle.object_host_laws.specs.World.{Commands, ClientRestarts, Elsewhere, Event, HostRestarts, Loses, Passes, Steps, World, begun, entering, happened, host_of, host_restarted, step_of, stepped, told_since}
use Rattle.signal_ctl.specs.History.{last_aspect, last_kept}
use Rattle.signal_ctl.specs.Lamp.{aspect_shown, standing}
use Rattle.signal_ctl.specs.Signal.{SignalState, is_stop, signal_behaviour}
use Rattle.object_host_laws.specs.Signal.{IsTold, aspect_due, last_indicated}
use Rattle.object_host_laws.proofs.Calls.{aspect_joined, begins, begins_lost, coming_is, ends, kept_last, paying_is, told_joined}

-- a stopped signal indicates stop
pub stopped : (aspect : Aspect) → is_stop aspect ≡ true → aspect ≡ Stop
stopped Stop is = refl
stopped Proceed is = absurd (false≢true is)
stopped Slow is = absurd (false≢true is)

not_completed : (s : Stage) → is_outside s ≡ true → is_completed s ≡ false
not_completed stage.Outside out = refl
not_completed stage.AwaitsCheck out = refl
not_completed stage.AwaitsRequest out = refl
not_completed stage.Completed out = absurd (false≢true out)
not_completed stage.Refused out = refl

-- outside a connection a steady signal indicates stop
idle_outside : (host : HostState SignalState) → IsSteady signal_behaviour host → is_outside host.stage ≡ true → host.object.lamp.indicated ≡ Stop
idle_outside host steady out = stopped host.object.lamp.indicated (steady.idle (not_completed host.stage out))

not_before : (until now : ℕ) → until ≤ now → nat_lt now until ≡ false
not_before until now past = grind (arith, nat_tests)

dark : (aspect : Aspect) (until now : ℕ) → until ≤ now → standing aspect until now ≡ Stop
dark Stop until now past = refl
dark Proceed until now past = rw (not_before until now past) refl
dark Slow until now past = rw (not_before until now past) refl

pub shows : (world : World SignalState) → IsTold world → aspect_shown world.object.lamp (reading_of world.ends.server.clock) ≡ aspect_due world
shows world told =
    ap (λ until. standing world.object.lamp.indicated until now) told.until ∙ cases (is_open link.phase) (is_outside world.stage) refl refl
  where
    link : LinkState
    link = world.ends.server.link

    now : ℕ
    now = reading_of world.ends.server.clock

    due : (b : Bool) → is_open link.phase ≡ b → standing (if b then last_indicated world.told Stop else Stop) (alive_until link) now ≡ aspect_due world
    due b is = ap (λ (o : Bool). standing (if o then last_indicated world.told Stop else Stop) (alive_until link) now) (sym is)

    cases : (o out : Bool) → is_open link.phase ≡ o → is_outside world.stage ≡ out → standing world.object.lamp.indicated (alive_until link) now ≡ aspect_due world
    cases true out opened is = ap (λ aspect. standing aspect (alive_until link) now) (told.inside opened) ∙ due true opened
    cases false true closed is = ap (λ aspect. standing aspect (alive_until link) now) (idle_outside (host_of world) told.steady is) ∙ due false closed
    cases false false closed is = dark world.object.lamp.indicated (alive_until link) now (told.late closed is) ∙ due false closed

-- the clock rules leave the moment at which a link dies, and open none
alive_by : (now : ℕ) (link : LinkState) (b : Bool) →
    alive_until (if b then record link { phase = phase.Closed; closed_at = deadline link; clock = now } else record link { clock = now }) ≡ alive_until link
unfolding alive_until deadline
alive_by now link true = refl
alive_by now link false = refl

pub alive_settled : (now : ℕ) (link : LinkState) → alive_until (settled now link) ≡ alive_until link
unfolding settled
alive_settled now link = alive_by now link (is_open link.phase && nat_le (deadline link) now)

open_by : (now : ℕ) (link : LinkState) (b : Bool) →
    is_open (if b then record link { phase = phase.Closed; closed_at = deadline link; clock = now } else record link { clock = now }).phase ≡ true → is_open link.phase ≡ true
open_by now link true opened = absurd (false≢true opened)
open_by now link false opened = opened

pub open_before : (now : ℕ) (link : LinkState) → is_open (settled now link).phase ≡ true → is_open link.phase ≡ true
unfolding settled
open_before now link = open_by now link (is_open link.phase && nat_le (deadline link) now)

-- what is told of the time that has come isn't later
pub told_past : (now : ℕ) (link : LinkState) → deadline link ≤ now → alive_until link ≤ now
unfolding alive_until
told_past now link come = omega (arith, come)

pub closed_late : (now : ℕ) (link : LinkState) → is_open link.phase ≡ true → is_open (settled now link).phase ≡ false → nat_le (deadline link) now ≡ true
unfolding settled
closed_late now link opened closed = cases (nat_le (deadline link) now) refl where
  by : (o b : Bool) → is_open (if o && b then record link { phase = phase.Closed; closed_at = deadline link; clock = now } else record link { clock = now }).phase ≡ false →
      is_open link.phase ≡ true → o ≡ true → b ≡ true
  by true true closed opened o = refl
  by true false closed opened o = absurd (true≢false (sym opened ∙ closed))
  by false b closed opened o = absurd (false≢true o)

  cases : (b : Bool) → nat_le (deadline link) now ≡ b → nat_le (deadline link) now ≡ true
  cases b is = by (is_open link.phase) (nat_le (deadline link) now) closed opened opened

pub reached : (until now : ℕ) → nat_le until now ≡ true → until ≤ now
reached until now is = grind (arith, nat_tests)

-- a later clock reads no less
pub reads_later : (clock later : ℕ) → clock ≤ later → clock / 1000 ≤ later / 1000
reads_later clock later goes =
    let below : clock / 1000 * 1000 ≤ clock = div-mul-le_self clock 1000
    in le-div (clock / 1000) later 1000 (lit< tt) (omega (arith, below, goes))

-- time goes on
pub passes : ((now : ℕ) (host : HostState SignalState) → IsSteady signal_behaviour host → IsSteady signal_behaviour (record host { link = settled now host.link })) →
    (elapsed of_client of_server : ℕ) (world : World SignalState) → IsTold world → IsTold (record world { ends = later elapsed of_client of_server world.ends })
unfolding later end_later
passes clocked elapsed of_client of_server world told = record {
  steady = clocked now (host_of world) told.steady;
  until = told.until ∙ sym (alive_settled now link);
  inside = λ opened. told.inside (open_before now link opened);
  late = λ closed inside. subst (λ until. until ≤ now) (sym (alive_settled now link)) (cases (is_open link.phase) refl closed inside);
} where
  link : LinkState
  link = world.ends.server.link

  now : ℕ
  now = reading_of (world.ends.server.clock + of_server)

  cases : (o : Bool) → is_open link.phase ≡ o → is_open (settled now link).phase ≡ false → is_outside world.stage ≡ false → alive_until link ≤ now
  cases true opened closed inside = told_past now link (reached (deadline link) now (closed_late now link opened closed))
  cases false was closed inside =
      let before : alive_until link ≤ reading_of world.ends.server.clock = told.late was inside
      in let goes : reading_of world.ends.server.clock ≤ now = reads_later world.ends.server.clock (world.ends.server.clock + of_server) (omega arith)
      in omega (arith, before, goes)

no_loss : (out inside : Bool) → inside ≡ true → (not out && not inside) ≡ false
no_loss true true is = refl
no_loss false true is = refl
no_loss out false is = absurd (false≢true is)

pub stays_in : (input : Input) (connection : ℕ) (ends : Ends) → is_open ends.server.link.phase ≡ true → entering input connection ends ≡ None
unfolding outcome
stays_in inputs.Tick connection ends opened = refl
stays_in (inputs.Datagram bytes) connection ends opened = rw opened refl
stays_in (inputs.Sense sense) connection ends opened = refl

module _
    (told_law : (now : ℕ) (input : Input) (host : HostState SignalState) → IsToldIn signal_behaviour now input host (host_step signal_behaviour now input host))
    (hosted : (now : ℕ) (input : Input) (host : HostState SignalState) → IsSteady signal_behaviour host → IsHosted signal_behaviour (host_step signal_behaviour now input host).host)
    (steady_of : (host : HostState SignalState) → IsHosted signal_behaviour host → IsSteady signal_behaviour host)
    (link_law : (input : Input) (connection : ℕ) (world : World SignalState) → settled (reading_of world.ends.server.clock) world.ends.server.link ≡ world.ends.server.link
    → (stepped signal_behaviour input connection world).ends.server.link ≡ (step_of signal_behaviour input world).host.link)
    (outside_law : (input : Input) (connection : ℕ) (world : World SignalState) → entering input connection world.ends ≡ None → is_open world.ends.server.link.phase ≡ false
    → is_open (stepped signal_behaviour input connection world).ends.server.link.phase ≡ false)
    (indicated_law : (calls : List ObjectCall) (signal : SignalState) → (object_after_all signal_behaviour calls signal).lamp.indicated ≡ last_aspect calls signal.lamp.indicated)
    (until_law : (calls : List ObjectCall) (signal : SignalState) → (object_after_all signal_behaviour calls signal).lamp.until ≡ last_kept calls signal.lamp.until)
  where
    module _ (input : Input) (connection : ℕ) (world : World SignalState)
        (is_settled : settled (reading_of world.ends.server.clock) world.ends.server.link ≡ world.ends.server.link) (told : IsTold world)
      where
        abbrev pub now : ℕ
        now = reading_of world.ends.server.clock

        abbrev pub part : HostSoFar SignalState
        part = step_of signal_behaviour input world

        abbrev pub new : World SignalState
        new = stepped signal_behaviour input connection world

        tells : IsToldIn signal_behaviour now input (host_of world) part
        tells = told_law now input (host_of world)

        link_is : new.ends.server.link ≡ part.host.link
        link_is = link_law input connection world is_settled

        abbrev pub is_lost_first : Bool
        is_lost_first = has_lost (record (host_of world) { link = settled now world.ends.server.link })

        lost_is : is_lost_first ≡ (not (is_outside world.stage) && not (is_open world.ends.server.link.phase))
        lost_is = ap (λ (l : LinkState). not (is_outside world.stage) && not (is_open l.phase)) is_settled

        abbrev pub first : List ObjectCall
        first = loss_where is_lost_first ++ Ticks now ∷ []

        -- the signal as what comes finds it, where the link is open after the step
        found : is_open new.ends.server.link.phase ≡ true → last_aspect first world.object.lamp.indicated ≡ last_indicated (told_since (entering input connection world.ends) world.told) Stop
        unfolding last_indicated
        found opened_after = by_link (is_open world.ends.server.link.phase) refl where
          old : Aspect
          old = world.object.lamp.indicated

          from : (b : Bool) → is_lost_first ≡ b → last_aspect first old ≡ last_aspect (loss_where b ++ Ticks now ∷ []) old
          from b is = ap (λ (lost : Bool). last_aspect (loss_where lost ++ Ticks now ∷ []) old) is

          enters : (e : Option ℕ) → entering input connection world.ends ≡ e → is_open world.ends.server.link.phase ≡ false →
              last_aspect first old ≡ last_indicated (told_since e world.told) Stop
          enters None none closed = absurd (true≢false (sym opened_after ∙ outside_law input connection world none closed))
          enters (Some entered) some closed = by_stage (is_outside world.stage) refl where
            by_stage : (o : Bool) → is_outside world.stage ≡ o → last_aspect first old ≡ Stop
            by_stage true out = from false (lost_is ∙ ap (λ (o : Bool). not o && not (is_open world.ends.server.link.phase)) out) ∙ begins now old ∙ idle_outside (host_of world) told.steady out
            by_stage false in_it = from true (lost_is ∙ ap (λ (o : Bool). not o && not (is_open world.ends.server.link.phase)) in_it ∙ ap not closed) ∙ begins_lost now old

          by_link : (o : Bool) → is_open world.ends.server.link.phase ≡ o → last_aspect first old ≡ last_indicated (told_since (entering input connection world.ends) world.told) Stop
          by_link true opened =
              from false (lost_is ∙ no_loss (is_outside world.stage) (is_open world.ends.server.link.phase) opened) ∙ begins now old ∙ told.inside opened
              ∙ ap (λ e. last_indicated (told_since e world.told) Stop) (sym (stays_in input connection world.ends opened))
          by_link false closed = enters (entering input connection world.ends) refl closed

        pub step_told : IsTold new
        unfolding stepped
        step_told =
            let after = hosted now input (host_of world) told.steady
            in let steady = steady_of part.host after
            in let during = tells.comes ++ tells.pays
            in let last : Bool → List ObjectCall = λ lost. loss_where lost ++ Keeps (alive_until part.host.link) ∷ []
            in let open_is : is_open new.ends.server.link.phase ≡ is_open part.host.link.phase = ap (λ (l : LinkState). is_open l.phase) link_is
            in record {
              steady = record { outside = λ out. open_is ∙ steady.outside out; idle = steady.idle };
              until = ap (λ (s : SignalState). s.lamp.until) tells.object_is
                  ∙ until_law (first ++ (during ++ last tells.is_lost)) world.object
                  ∙ ap (λ calls. last_kept calls world.object.lamp.until)
                  (ap (λ calls. first ++ calls) (sym (append_assoc during (loss_where tells.is_lost) (Keeps (alive_until part.host.link) ∷ [])))
                  ∙ sym (append_assoc first (during ++ loss_where tells.is_lost) (Keeps (alive_until part.host.link) ∷ [])))
                  ∙ kept_last (first ++ (during ++ loss_where tells.is_lost)) (alive_until part.host.link) world.object.lamp.until
                  ∙ ap alive_until (sym link_is);
              inside = λ opened.
                  ap (λ (s : SignalState). s.lamp.indicated) tells.object_is
                  ∙ indicated_law (first ++ (during ++ last tells.is_lost)) world.object
                  ∙ ap (λ lost. last_aspect (first ++ (during ++ last lost)) world.object.lamp.indicated) (tells.stays (sym open_is ∙ opened))
                  ∙ aspect_joined first (during ++ last false) world.object.lamp.indicated
                  ∙ aspect_joined during (last false) (last_aspect first world.object.lamp.indicated)
                  ∙ ends (alive_until part.host.link) (last_aspect during (last_aspect first world.object.lamp.indicated))
                  ∙ aspect_joined tells.comes tells.pays (last_aspect first world.object.lamp.indicated)
                  ∙ paying_is tells.pays (last_aspect tells.comes (last_aspect first world.object.lamp.indicated)) tells.are_payments
                  ∙ coming_is now tells.comes (last_aspect first world.object.lamp.indicated) tells.are_coming
                  ∙ ap (λ ts. last_indicated ts (last_aspect first world.object.lamp.indicated)) tells.takes
                  ∙ ap (last_indicated part.told) (found opened)
                  ∙ sym (told_joined (told_since (entering input connection world.ends) world.told) part.told Stop);
              late = λ closed inside. absurd (true≢false (sym (after.outside ∙ ap not (sym open_is ∙ closed)) ∙ inside));
            }

    module _
        (clocked : (now : ℕ) (host : HostState SignalState) → IsSteady signal_behaviour host → IsSteady signal_behaviour (record host { link = settled now host.link }))
        (new_law : (identity : Identity) (own_name peer_name : List ℕ) (number moment : ℕ) (signal : SignalState) (version : ℕ)
        → IsHosted signal_behaviour (new_host signal_behaviour identity own_name peer_name number moment signal version))
      where
        -- only the client, or the network
        elsewhere : (world new : World SignalState) → new.ends.server ≡ world.ends.server → host_of new ≡ host_of world → new.told ≡ world.told → IsTold world → IsTold new
        elsewhere world new server-same host-same told-same told =
            let link-same : new.ends.server.link ≡ world.ends.server.link = ap (λ (e : EndState). e.link) server-same
            in let open-same : is_open new.ends.server.link.phase ≡ is_open world.ends.server.link.phase = ap (λ (l : LinkState). is_open l.phase) link-same
            in let lamp-same : new.object.lamp.indicated ≡ world.object.lamp.indicated = ap (λ (h : HostState SignalState). h.object.lamp.indicated) host-same
            in record {
              steady = subst (IsSteady signal_behaviour) (sym host-same) told.steady;
              until = ap (λ (h : HostState SignalState). h.object.lamp.until) host-same ∙ told.until ∙ ap alive_until (sym link-same);
              inside = λ opened. lamp-same ∙ told.inside (sym open-same ∙ opened) ∙ ap (λ ts. last_indicated ts Stop) (sym told-same);
              late = λ closed inside. subst (λ (e : EndState). alive_until e.link ≤ reading_of e.clock) (sym server-same)
                  (told.late (sym open-same ∙ closed) (sym (ap (λ (h : HostState SignalState). is_outside h.stage) host-same) ∙ inside));
            }

        pub event_told : (event : Event SignalState) (world : World SignalState) → settled (reading_of world.ends.server.clock) world.ends.server.link ≡ world.ends.server.link →
            IsTold world → IsTold (happened signal_behaviour event world)
        unfolding happened called lost restarted end_restarted host_restarted new_host keeping created alive_until deadline
        event_told (Commands call) world is_settled told = elsewhere world _ refl refl refl told
        event_told (Steps input connection) world is_settled told = step_told input connection world is_settled told
        event_told (Passes elapsed of_client of_server) world is_settled told = passes clocked elapsed of_client of_server world told
        event_told (Loses bytes) world is_settled told = elsewhere world _ refl refl refl told
        event_told (ClientRestarts clock number) world is_settled told = elsewhere world _ refl refl refl told
        event_told (HostRestarts clock number signal) world is_settled told = record {
          steady = steady_of _ (new_law world.ends.server.link.identity world.own_name world.peer_name number clock signal world.version);
          until = refl;
          inside = λ opened. absurd (false≢true opened);
          late = λ closed inside. absurd (true≢false inside);
        }
        event_told (Elsewhere count) world is_settled told = elsewhere world _ refl refl refl told

        pub begun_told : (names : Names) (start : Start) (own_name peer_name : List ℕ) (signal : SignalState) (version : ℕ) →
            IsTold (begun signal_behaviour names start own_name peer_name signal version)
        unfolding new_host keeping created alive_until deadline
        begun_told names start own_name peer_name signal version = record {
          steady = steady_of _ (new_law (identity_of role.Server names) own_name peer_name start.server_first start.server_clock signal version);
          until = refl;
          inside = λ opened. absurd (false≢true opened);
          late = λ closed inside. absurd (true≢false inside);
        }
