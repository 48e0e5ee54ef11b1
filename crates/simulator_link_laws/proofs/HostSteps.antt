-- A step of a controller, as calls at its end of the link.
use Rattle.std.proofs.Common.{◌≡◌, ℕ, ◌+◌, Bool, true, false, ◌&&◌, ◌||◌, not, List, [], ◌∷◌, ◌++◌, length, map, Option, Some, None, refl, sym, ap, subst, ◌∙◌, if◌then◌else◌}
use Rattle.std.specs.Prelude.{is_some}
use Rattle.std.proofs.lemmas.Bool.{true≢false}
use Rattle.simulator_spec.specs.object_host.Behaviour.{Behaviour}
use Rattle.simulator_spec.specs.object_host.Host.{HostState, LinkCall, HostSoFar, Ticks, Closes, Sends, Receives}
use Rattle.simulator_spec.specs.object_host.Made.{AreCallsFor, AreOwn, IsMadeOf, calls_made}
use Rattle.simulator_spec.specs.object_host.Step.{host_step}
use Rattle.simulator_spec.specs.object_host.declared.input.Input.{Input}
use Rattle.simulator_spec.specs.object_host.declared.input.Input.TheVariants as inputs
use Rattle.object_host_laws.specs.World.{as_call}
use Rattle.simulator_spec.specs.rasta_core.Calls.{closing_by, receiving, sending_item, ticking}
use Rattle.simulator_spec.specs.rasta_core.Clock.{settled}
use Rattle.simulator_spec.specs.rasta_core.Ends as ends_calls
use Rattle.simulator_spec.specs.rasta_core.Ends.{Call, EndState, handed_out, is_taken, newer, outcome, reading_of}
use Rattle.simulator_spec.specs.rasta_core.Events.{MayRun, run}
use Rattle.simulator_spec.specs.rasta_core.Invariant.{Timely}
use Rattle.simulator_spec.specs.rasta_core.Names.{AreNames, Names}
use Rattle.simulator_spec.specs.rasta_core.Outbox.{spellings}
use Rattle.simulator_spec.specs.rasta_core.Run.{Ends, called}
use Rattle.simulator_spec.specs.rasta_core.State.{LinkState, is_open}
use Rattle.simulator_spec.specs.rasta_core.Steps.{EnterNone, all_made, calls_at, enters_by, made_by}
use Rattle.simulator_spec.specs.rasta_core.identity.Identity.{Identity}
use Rattle.simulator_spec.specs.rasta_core.identity.Role.TheVariants as role
use Rattle.simulator_spec.specs.rasta_pdu.declared.key.Key.{Key}
use Rattle.simulator_spec.specs.rasta_pdu.declared.pdu.Pdu.{Pdu}
use Rattle.simulator_move_laws.specs.Flows.{ServerIsAfter}
use Rattle.simulator_spec.specs.Links.{ServerEnd, end_of_server}
use Rattle.simulator_spec.specs.Controllers.{controller_after, has_entered, is_inside_at, is_some_sent, step_of}
use Rattle.simulator_spec.specs.State.{ClockedControllerState}
use Rattle.simulator_link_laws.proofs.ServerAnswers.{is_made, silent_outside, some_first, taken_is_answered}
use Rattle.simulator_link_laws.proofs.Laws.{CallLaws, LinkLaws, ServerLaws}
use Rattle.simulator_link_laws.proofs.Places.{IsKept}
use Rattle.simulator_link_laws.proofs.Settled.{settled_identity}

-- ---- the calls of a host, and calls of an end

all_made_link : (now connection : ℕ) (calls : List LinkCall) (link : LinkState) → (all_made now (map (as_call connection) calls) link).link ≡ (calls_made now calls link).link
unfolding all_made calls_made made_by
all_made_link now connection [] link = refl
all_made_link now connection (Ticks ∷ others) link = all_made_link now connection others (ticking now link).link
all_made_link now connection (Closes why ∷ others) link = all_made_link now connection others (closing_by now why link).link
all_made_link now connection (Sends item ∷ others) link = all_made_link now connection others (sending_item now item link).link
all_made_link now connection (Receives bytes ∷ others) link = all_made_link now connection others (receiving now bytes link).link

all_made_pdus : (now connection : ℕ) (calls : List LinkCall) (link : LinkState) → (all_made now (map (as_call connection) calls) link).pdus ≡ (calls_made now calls link).pdus
unfolding all_made calls_made made_by
all_made_pdus now connection [] link = refl
all_made_pdus now connection (Ticks ∷ others) link = ap (λ (rest : List Pdu). (ticking now link).pdus ++ rest) (all_made_pdus now connection others (ticking now link).link)
all_made_pdus now connection (Closes why ∷ others) link = ap (λ (rest : List Pdu). (closing_by now why link).pdus ++ rest) (all_made_pdus now connection others (closing_by now why link).link)
all_made_pdus now connection (Sends item ∷ others) link = ap (λ (rest : List Pdu). (sending_item now item link).pdus ++ rest) (all_made_pdus now connection others (sending_item now item link).link)
all_made_pdus now connection (Receives bytes ∷ others) link = ap (λ (rest : List Pdu). (receiving now bytes link).pdus ++ rest) (all_made_pdus now connection others (receiving now bytes link).link)

own_enter_none : (now connection : ℕ) (calls : List LinkCall) (link : LinkState) → AreOwn calls → EnterNone now (map (as_call connection) calls) link
unfolding EnterNone enters_by
own_enter_none now connection [] link own = tt
own_enter_none now connection (Ticks ∷ others) link own = (refl, own_enter_none now connection others _ own.1)
own_enter_none now connection (Closes why ∷ others) link own = (refl, own_enter_none now connection others _ own.1)
own_enter_none now connection (Sends item ∷ others) link own = (refl, own_enter_none now connection others _ own.1)
own_enter_none now connection (Receives bytes ∷ others) link own = absurd own.0

-- ---- whether a server enters

entered_is : (connection : ℕ) (inside some : Bool) (entered : Option ℕ) → (inside ≡ true → entered ≡ None) → (inside ≡ false → some ≡ true → entered ≡ Some connection) → (inside ≡ false → some ≡ false → entered ≡ None)
    → entered ≡ (if not inside && some then Some connection else None)
entered_is connection true some entered within enters none = within refl
entered_is connection false true entered within enters none = enters refl refl
entered_is connection false false entered within enters none = none refl refl

newer_is : (connection : ℕ) (test : Bool) (last : Option ℕ) → newer (if test then Some connection else None) last ≡ (if test then Some connection else last)
newer_is connection true last = refl
newer_is connection false last = refl

some_is_test : (connection : ℕ) (test : Bool) → is_some (if test then Some connection else None) ≡ test
some_is_test connection true = refl
some_is_test connection false = refl

taken_enters : (connection : ℕ) (bytes : List ℕ) (moment : ℕ) (end : EndState) → (outcome (ends_calls.Receives bytes connection) moment end).enters
    ≡ (if not (is_open end.link.phase) && is_taken (receiving (reading_of end.clock) bytes end.link).verdict then Some connection else None)
unfolding outcome
taken_enters connection bytes moment end = refl

enters_where_taken : (connection : ℕ) (bytes : List ℕ) (now : ℕ) (link : LinkState) → enters_by now (ends_calls.Receives bytes connection) link ≡ (not (is_open link.phase) && is_taken (receiving now bytes link).verdict)
unfolding enters_by
enters_where_taken connection bytes now link = refl

received_pdus : (connection : ℕ) (bytes : List ℕ) (others : List Call) (now : ℕ) (link : LinkState) → (all_made now (ends_calls.Receives bytes connection ∷ others) link).pdus
    ≡ (receiving now bytes link).pdus ++ (all_made now others (receiving now bytes link).link).pdus
unfolding all_made made_by
received_pdus connection bytes others now link = refl

enter_none_then : (now : ℕ) (call : Call) (others : List Call) (link : LinkState) → enters_by now call link ≡ false → EnterNone now others (made_by now call link).link → EnterNone now (call ∷ others) link
unfolding EnterNone
enter_none_then now call others link first rest = (first, rest)

called_link : (call : Call) (ends : Ends) → (called role.Server call ends).server.link ≡ (made_by (reading_of ends.server.clock) call ends.server.link).link
unfolding called ends_calls.end_after
called_link call ends = (is_made call ends.moment ends.server).link

-- ---- a step of a controller

-- what a step leaves of the controller's end, and what it sends
pub record IsStepped (names : Names) (time : ℕ) (key : Key) (new : ServerEnd) (pdus : List Pdu) (old after : Ends) : Type 0 where
  pub kept : IsKept new after.server
  pub sent : after.sent ≡ old.sent ++ handed_out old.time role.Server new.connection (spellings key pdus)

module _ {Object : Type 0} (does : Behaviour Object)
    (calls_for : (now : ℕ) (input : Input) (host : HostState Object) → AreCallsFor input (host_step does now input host).calls)
    (made_of : (now : ℕ) (input : Input) (host : HostState Object) → IsMadeOf now (settled now host.link) (host_step does now input host))
    (laws : LinkLaws) (calling : CallLaws) (serving : ServerLaws)
    (names : Names) (are : AreNames names) (connection moment : ℕ) (server : ClockedControllerState Object) (ends : Ends) (timely : Timely names ends)
    (is : IsKept (end_of_server server) ends.server) (moment_is : ends.moment ≡ moment) where
  abbrev now : ℕ
  now = reading_of server.clock

  abbrev start : LinkState
  start = settled now server.host.link

  abbrev clock_reads : ℕ
  clock_reads = reading_of ends.server.clock

  same_now : clock_reads ≡ now
  same_now = ap reading_of is.clock_is

  abbrev done : Input → HostSoFar Object
  done input = step_of does input server

  abbrev calls : Input → List Call
  calls input = map (as_call connection) (done input).calls

  abbrev after : Input → Ends
  after input = run (calls_at role.Server (calls input)) ends

  pdus_are : (input : Input) → (all_made clock_reads (calls input) ends.server.link).pdus ≡ (done input).pdus
  pdus_are input = ap (λ (n : ℕ). (all_made n (calls input) ends.server.link).pdus) same_now
      ∙ ap (λ (l : LinkState). (all_made now (calls input) l).pdus) is.link_is
      ∙ all_made_pdus now connection (done input).calls start
      ∙ sym (made_of now input server.host).pdus_are

  inside_is : is_open ends.server.link.phase ≡ is_inside_at server.clock server.host.link
  inside_is = ap (λ (l : LinkState). is_open l.phase) is.link_is

  -- whether the server enters, and what its calls then make of it
  abbrev Enters : Input → Type 0
  Enters input = (entered : Option ℕ) × ServerIsAfter (calls input) entered ends (after input) × (entered ≡ (if has_entered server (done input) then Some connection else None))

  own_enters : (input : Input) → AreOwn (done input).calls → MayRun names (calls_at role.Server (calls input)) ends → Enters input
  own_enters input own may = (
    None,
    serving.none names (calls input) ends are timely may none,
    entered_is connection (is_inside_at server.clock server.host.link) (is_some_sent (done input).pdus) None (λ e. refl)
        (λ outside some. absurd (true≢false (sym some ∙ ap is_some_sent (nothing outside)))) (λ outside silent. refl),
  )
    where
      none : EnterNone clock_reads (calls input) ends.server.link
      none = own_enter_none clock_reads connection (done input).calls ends.server.link own

      nothing : is_inside_at server.clock server.host.link ≡ false → (done input).pdus ≡ []
      nothing outside = sym (pdus_are input) ∙ silent_outside calling (calls input) ends.server (inside_is ∙ outside) none

  -- of a server that receives first
  module _ (input : Input) (bytes : List ℕ) (others : List LinkCall) (own : AreOwn others) (calls_are : (done input).calls ≡ Receives bytes ∷ others) where
    abbrev first : Call
    first = ends_calls.Receives bytes connection

    abbrev rest : List Call
    rest = map (as_call connection) others

    these : calls input ≡ first ∷ rest
    these = ap (map (as_call connection)) calls_are

    abbrev is_taken_here : Bool
    is_taken_here = is_taken (receiving clock_reads bytes ends.server.link).verdict

    some_pdus : is_some_sent (done input).pdus ≡ is_some_sent ((receiving clock_reads bytes ends.server.link).pdus ++ (all_made clock_reads rest (receiving clock_reads bytes ends.server.link).link).pdus)
    some_pdus = ap is_some_sent (sym (pdus_are input) ∙ ap (λ (c : List Call). (all_made clock_reads c ends.server.link).pdus) these ∙ received_pdus connection bytes rest clock_reads ends.server.link)

    answered : is_inside_at server.clock server.host.link ≡ false → is_taken_here ≡ true → is_some_sent (done input).pdus ≡ true
    answered outside taken = some_pdus ∙ some_first _ _ (taken_is_answered clock_reads bytes ends.server.link (inside_is ∙ outside) taken)

    enters_nothing : is_taken_here ≡ false → enters_by clock_reads first ends.server.link ≡ false
    enters_nothing none = enters_where_taken connection bytes clock_reads ends.server.link ∙ no_both (not (is_open ends.server.link.phase)) is_taken_here none where
      no_both : (a b : Bool) → b ≡ false → a && b ≡ false
      no_both true b e = e
      no_both false b e = refl

    nothing : is_inside_at server.clock server.host.link ≡ false → is_taken_here ≡ false → is_some_sent (done input).pdus ≡ false
    nothing outside none = ap is_some_sent (sym (pdus_are input) ∙ ap (λ (c : List Call). (all_made clock_reads c ends.server.link).pdus) these
        ∙ silent_outside calling (first ∷ rest) ends.server (inside_is ∙ outside)
        (enter_none_then clock_reads first rest ends.server.link (enters_nothing none) (own_enter_none clock_reads connection others (made_by clock_reads first ends.server.link).link own)))

    abbrev entered : Option ℕ
    entered = (outcome first ends.moment ends.server).enters

    by_verdict : (o t : Bool) → is_open ends.server.link.phase ≡ o → is_taken_here ≡ t → entered ≡ (if not o && t then Some connection else None)
    by_verdict o t e f = taken_enters connection bytes ends.moment ends.server
        ∙ ap (λ (b : Bool). if not b && is_taken_here then Some connection else None) e ∙ ap (λ (b : Bool). if not o && b then Some connection else None) f

    first_enters : MayRun names (calls_at role.Server (calls input)) ends → Enters input
    first_enters may = (
      entered,
      subst (λ (c : List Call). ServerIsAfter c entered ends (run (calls_at role.Server c) ends)) (sym these)
          (serving.first names first rest ends are timely (subst (λ (c : List Call). MayRun names (calls_at role.Server c) ends) these may)
          (own_enter_none clock_reads connection others (called role.Server first ends).server.link own)),
      entered_is connection (is_inside_at server.clock server.host.link) (is_some_sent (done input).pdus) entered
          (λ within. by_verdict true is_taken_here (inside_is ∙ within) refl)
          (λ outside some. enters_here outside some is_taken_here refl)
          (λ outside silent. stays_here outside silent is_taken_here refl),
    )
      where
        enters_here : is_inside_at server.clock server.host.link ≡ false → is_some_sent (done input).pdus ≡ true → (t : Bool) → is_taken_here ≡ t → entered ≡ Some connection
        enters_here outside some true taken = by_verdict false true (inside_is ∙ outside) taken
        enters_here outside some false taken = absurd (true≢false (sym some ∙ nothing outside taken))

        stays_here : is_inside_at server.clock server.host.link ≡ false → is_some_sent (done input).pdus ≡ false → (t : Bool) → is_taken_here ≡ t → entered ≡ None
        stays_here outside silent true taken = absurd (true≢false (sym (answered outside taken) ∙ silent))
        stays_here outside silent false taken = by_verdict false false (inside_is ∙ outside) taken

  enters : (input : Input) → AreCallsFor input (done input).calls → MayRun names (calls_at role.Server (calls input)) ends → Enters input
  enters inputs.Tick own may = own_enters inputs.Tick own may
  enters (inputs.Datagram bytes) first may = first_enters (inputs.Datagram bytes) bytes.now first.0 first.2 first.1 may
  enters (inputs.Sense sense) own may = own_enters (inputs.Sense sense) own may

  -- the controller's end after the step
  link_after : (input : Input) → Timely names (after input) → (after input).server.link ≡ (done input).host.link
  link_after input later = (calling.after role.Server (calls input) ends).link
      ∙ ap (λ (n : ℕ). (all_made n (calls input) ends.server.link).link) same_now
      ∙ ap (λ (l : LinkState). (all_made now (calls input) l).link) is.link_is
      ∙ all_made_link now connection (done input).calls start
      ∙ sym (made_of now input server.host).link_is

  clock_after : (input : Input) → (after input).server.clock ≡ server.clock
  clock_after input = (calling.after role.Server (calls input) ends).clock ∙ is.clock_is

  settled_after : (input : Input) → Timely names (after input) → (after input).server.link ≡ settled now (done input).host.link
  settled_after input later = sym (laws.settles names (after input) role.Server later)
      ∙ ap (λ (c : ℕ). settled (reading_of c) (after input).server.link) (clock_after input)
      ∙ ap (settled now) (link_after input later)

  key_is : ends.server.link.identity.key ≡ server.host.link.identity.key
  key_is = ap (λ (l : LinkState). l.identity.key) is.link_is ∙ ap (λ (i : Identity). i.key) (settled_identity now server.host.link)

  pub host_stepped : (input : Input) → MayRun names (calls_at role.Server (calls input)) ends → Timely names (after input)
      → IsStepped names ends.time server.host.link.identity.key (end_of_server (controller_after (done input) connection moment server)) (done input).pdus ends (after input)
  unfolding controller_after
  host_stepped input may later = from (enters input (calls_for now input server.host) may) where
    from : Enters input → IsStepped names ends.time server.host.link.identity.key (end_of_server (controller_after (done input) connection moment server)) (done input).pdus ends (after input)
    from (entered, told, entered_here) = record {
      kept = record {
        link_is = settled_after input later;
        clock_is = clock_after input;
        connection_is = connection_after;
        left_is = told.left
            ∙ ap (λ (n : ℕ). if (is_open ends.server.link.phase || is_some entered) && not (is_open (after input).server.link.phase) then ends.moment + n else ends.server.left) (ap length (pdus_are input))
            ∙ ap (λ (b : Bool). if (b || is_some entered) && not (is_open (after input).server.link.phase) then ends.moment + length (done input).pdus else ends.server.left) inside_is
            ∙ ap (λ (b : Bool). if (is_inside_at server.clock server.host.link || b) && not (is_open (after input).server.link.phase) then ends.moment + length (done input).pdus else ends.server.left)
            (ap is_some entered_here ∙ some_is_test connection (has_entered server (done input)))
            ∙ ap (λ (l : LinkState). if (is_inside_at server.clock server.host.link || has_entered server (done input)) && not (is_open l.phase) then ends.moment + length (done input).pdus else ends.server.left) (link_after input later)
            ∙ ap (λ (n : ℕ). if (is_inside_at server.clock server.host.link || has_entered server (done input)) && not (is_open (done input).host.link.phase) then n + length (done input).pdus else ends.server.left) moment_is
            ∙ ap (λ (n : ℕ). if (is_inside_at server.clock server.host.link || has_entered server (done input)) && not (is_open (done input).host.link.phase) then moment + length (done input).pdus else n) is.left_is;
      };
      sent = told.sent
          ∙ ap (λ (pdus : List Pdu). ends.sent ++ handed_out ends.time role.Server (after input).server.connection (spellings ends.server.link.identity.key pdus)) (pdus_are input)
          ∙ ap (λ (k : Key). ends.sent ++ handed_out ends.time role.Server (after input).server.connection (spellings k (done input).pdus)) key_is
          ∙ ap (λ (c : Option ℕ). ends.sent ++ handed_out ends.time role.Server c (spellings server.host.link.identity.key (done input).pdus)) connection_after;
    }
      where
        connection_after : (after input).server.connection ≡ (if has_entered server (done input) then Some connection else server.connection)
        connection_after = told.connection ∙ ap (λ (e : Option ℕ). newer e ends.server.connection) entered_here
            ∙ newer_is connection (has_entered server (done input)) ends.server.connection
            ∙ ap (λ (c : Option ℕ). if has_entered server (done input) then Some connection else c) is.connection_is
