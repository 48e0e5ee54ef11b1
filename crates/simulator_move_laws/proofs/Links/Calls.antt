-- Lists of calls at one end, at its clock.
use Rattle.simulator_move_laws.proofs.Links.Events.{EventLaws, opened, entering, server_opens_none, never_ticks, never_closes, never_sends}
use Rattle.std.proofs.Common.{◌≡◌, ◌⊎◌, inl, inr, ℕ, Bool, true, false, ◌||◌, List, [], ◌∷◌, ◌++◌, Option, Some, None, refl, sym, ap, ◌∙◌}
use Rattle.std.specs.Prelude.{if◌then◌else◌, is_ok}
use Rattle.std.proofs.lemmas.List.{append-nil}
use Rattle.rasta_core.specs.Calls.{answer_to_send, opens, receiving}
use Rattle.rasta_core.specs.Each.{Each}
use Rattle.rasta_core.specs.Ends.{Sent, EndState, Call, Ticks, Opens, Closes, Sends, Receives, outcome, end_after, kept, newer, reading_of}
use Rattle.rasta_core.specs.Events.{Calls, IsAmong, IsDelivered, MayCall, MayRun, run}
use Rattle.rasta_core.specs.Invariant.{Timely}
use Rattle.rasta_core.specs.Names.{AreNames, Names}
use Rattle.rasta_core.specs.Run.{Ends, called}
use Rattle.rasta_core.specs.State.{LinkState, is_open}
use Rattle.rasta_core.specs.Steps.{calls_at, made_by}
use Rattle.rasta_core.specs.identity.Role.{Role}
use Rattle.rasta_core.specs.identity.Role.TheVariants as role
use Rattle.simulator_machine.specs.Link.{Server, Before, Link}
use Rattle.simulator_move_laws.specs.Flows.{ClientIsAfter, begins, given_after, given_by, has_begun, taken_after, taken_by, EntersRightly}
use Rattle.simulator_move_laws.specs.EndsSeen.{server_of, is_inside, is_same_connection, represented, server_in, state_of}
use Rattle.simulator_move_laws.proofs.Links.EndEnters.{TakingLaws, enters_by, of_last}

-- ---- what may be made stays so

among_later : (datagram : Sent) (sent more : List Sent) → IsAmong datagram sent → IsAmong datagram (sent ++ more)
among_later datagram [] more among = absurd among
among_later datagram (first ∷ others) more (inl same) = inl same
among_later datagram (first ∷ others) more (inr later) = inr (among_later datagram others more later)

delivered_later : (who : Role) (call : Call) (ends : Ends) (bytes : List ℕ) (connection : ℕ) (datagram : Sent) → IsDelivered ends bytes connection datagram
    → IsDelivered (called who call ends) bytes connection datagram
unfolding called
delivered_later role.Client call ends bytes connection datagram delivered = record {
  was_sent = among_later datagram ends.sent _ delivered.was_sent;
  bytes_same = delivered.bytes_same;
  connection_same = delivered.connection_same;
  in_time = delivered.in_time;
}
delivered_later role.Server call ends bytes connection datagram delivered = record {
  was_sent = among_later datagram ends.sent _ delivered.was_sent;
  bytes_same = delivered.bytes_same;
  connection_same = delivered.connection_same;
  in_time = delivered.in_time;
}

pub may_later : (names : Names) (whose : Role) (other : Call) (who : Role) (call : Call) (ends : Ends) → MayCall names who call ends → MayCall names who call (called whose other ends)
may_later names whose other who Ticks ends may = tt
may_later names whose other who Opens ends may = tt
may_later names whose other who (Closes why) ends may = tt
may_later names whose other who (Sends item) ends may = may
may_later names whose other who (Receives bytes connection) ends (inl (datagram, delivered)) = inl (datagram, delivered_later whose other ends bytes connection datagram delivered)
may_later names whose other who (Receives bytes connection) ends (inr nothing) = inr nothing

each_later : (names : Names) (whose : Role) (other : Call) (who : Role) (calls : List Call) (ends : Ends) → Each (λ call. MayCall names who call ends) calls
    → Each (λ call. MayCall names who call (called whose other ends)) calls
each_later names whose other who [] ends each = tt
each_later names whose other who (first ∷ others) ends each = (may_later names whose other who first ends each.0, each_later names whose other who others ends each.1)

pub calls_may : (names : Names) (who : Role) (calls : List Call) (ends : Ends) → Each (λ call. MayCall names who call ends) calls → MayRun names (calls_at who calls) ends
calls_may names who [] ends each = tt
calls_may names who (first ∷ others) ends each = (each.0, calls_may names who others (called who first ends) (each_later names who first who others ends each.1))

-- ---- calls of a client

some_opens : (moment : ℕ) (test : Bool) → test ≡ true → (if test then Some moment else None) ≡ Some moment
some_opens moment true e = refl
some_opens moment false e = absurd (cc e)

none_opens : (moment : ℕ) (test : Bool) → test ≡ false → (if test then Some moment else None) ≡ None
none_opens moment true e = absurd (cc e)
none_opens moment false e = refl

-- what one call of a client does: it begins a connection, or it enters none
abbrev pub Begins : Ends → Call → Type 0
Begins ends call = (begins (reading_of ends.client.clock) call ends.client.link ≡ true) × ((outcome call ends.moment ends.client).enters ≡ Some ends.moment)

abbrev pub EntersNothing : Ends → Call → Type 0
EntersNothing ends call = (begins (reading_of ends.client.clock) call ends.client.link ≡ false) × ((outcome call ends.moment ends.client).enters ≡ None)

client_begins : TakingLaws → (names : Names) (call : Call) (ends : Ends) → AreNames names → Timely names ends → MayCall names role.Client call ends → Begins ends call ⊎ EntersNothing ends call
unfolding outcome
client_begins laws names Ticks ends are timely may = inr (refl, refl)
client_begins laws names (Closes why) ends are timely may = inr (refl, refl)
client_begins laws names (Sends item) ends are timely may = inr (refl, refl)
client_begins laws names Opens ends are timely may = choose (opens (reading_of ends.client.clock) ends.client.link) refl where
  choose : (test : Bool) → opens (reading_of ends.client.clock) ends.client.link ≡ test → Begins ends Opens ⊎ EntersNothing ends Opens
  choose true e = inl (e, some_opens ends.moment (opens (reading_of ends.client.clock) ends.client.link) e)
  choose false e = inr (e, none_opens ends.moment (opens (reading_of ends.client.clock) ends.client.link) e)
client_begins laws names (Receives bytes connection) ends are timely may = choose (outcome (Receives bytes connection) ends.moment ends.client).enters refl where
  choose : (enters : Option ℕ) → (outcome (Receives bytes connection) ends.moment ends.client).enters ≡ enters → Begins ends (Receives bytes connection) ⊎ EntersNothing ends (Receives bytes connection)
  choose None e = inr (refl, e)
  choose (Some number) e =
      let by = enters_by laws names ends role.Client bytes connection number are timely may e in absurd (cc by.opens.is_server)

made_link : (call : Call) (moment : ℕ) (end : EndState) → (outcome call moment end).link ≡ (made_by (reading_of end.clock) call end.link).link
unfolding outcome made_by
made_link Ticks moment end = refl
made_link Opens moment end = refl
made_link (Closes why) moment end = refl
made_link (Sends item) moment end = refl
made_link (Receives bytes connection) moment end = refl

-- the lists of a client after one call
one_given : (call : Call) (moment : ℕ) (end : EndState) → (begins (reading_of end.clock) call end.link ≡ true) × ((outcome call moment end).enters ≡ Some moment) ⊎ (begins (reading_of end.clock) call end.link ≡ false) × ((outcome call moment end).enters ≡ None)
    → ((end_after (outcome call moment end) moment end).given ≡ given_by (reading_of end.clock) call end.link end.given) × ((end_after (outcome call moment end) moment end).taken ≡ taken_by (reading_of end.clock) call end.link end.taken)
unfolding end_after outcome
one_given Ticks moment end what = (append-nil end.given, append-nil end.taken)
one_given (Closes why) moment end what = (append-nil end.given, append-nil end.taken)
one_given (Sends item) moment end what = (by_answer (is_ok (answer_to_send (reading_of end.clock) end.link)), append-nil end.taken) where
  by_answer : (answer : Bool) → end.given ++ (if answer then item ∷ [] else []) ≡ (if answer then end.given ++ item ∷ [] else end.given)
  by_answer true = refl
  by_answer false = append-nil end.given
one_given Opens moment end what = (by_opening (opens (reading_of end.clock) end.link) end.given, by_opening (opens (reading_of end.clock) end.link) end.taken) where
  by_opening : (test : Bool) (items : List (List ℕ)) → kept (if test then Some moment else None) items ++ [] ≡ (if test then [] else items)
  by_opening true items = refl
  by_opening false items = append-nil items
one_given (Receives bytes connection) moment end (inl begins) = absurd (cc begins.0)
one_given (Receives bytes connection) moment end (inr none) = (
  ap (λ (e : Option ℕ). kept e end.given ++ []) none.1 ∙ append-nil end.given,
  ap (λ (e : Option ℕ). kept e end.taken ++ (receiving (reading_of end.clock) bytes end.link).items) none.1,
)

-- ---- a list of a client's calls

module _ (laws : EventLaws) (names : Names) (are : AreNames names) where
  same_server : (call : Call) (ends : Ends) → (outcome call ends.moment ends.client).enters ≡ None → server_of (called role.Client call ends) ≡ server_of ends
  unfolding called end_after
  same_server call ends none = ap (λ (e : Option ℕ). server_in (is_inside (state_of ends.server)) (is_same_connection (newer e ends.client.connection) ends.server.connection)) none

  begun_before : (call : Call) (ends : Ends) → Timely names ends → begins (reading_of ends.client.clock) call ends.client.link ≡ true → (outcome call ends.moment ends.client).enters ≡ Some ends.moment
      → server_of (called role.Client call ends) ≡ Before
  unfolding represented
  begun_before Opens ends timely begun enters = ap (λ (l : Link). l.server) (opened laws names are ends timely ends.moment enters).new_is
  begun_before Ticks ends timely begun enters = absurd (cc begun)
  begun_before (Closes why) ends timely begun enters = absurd (cc begun)
  begun_before (Sends item) ends timely begun enters = absurd (cc begun)
  begun_before (Receives bytes connection) ends timely begun enters = absurd (cc begun)

  one_server : (call : Call) (ends : Ends) → Timely names ends → Begins ends call ⊎ EntersNothing ends call
      → server_of (called role.Client call ends) ≡ (if begins (reading_of ends.client.clock) call ends.client.link then Before else server_of ends)
  one_server call ends timely (inl begun) = begun_before call ends timely begun.0 begun.1 ∙ sym (ap (λ (b : Bool). if b then Before else server_of ends) begun.0)
  one_server call ends timely (inr none) = same_server call ends none.1 ∙ sym (ap (λ (b : Bool). if b then Before else server_of ends) none.0)

  both_servers : (first later : Bool) (was : Server) → (if later then Before else (if first then Before else was)) ≡ (if first || later then Before else was)
  both_servers true true was = refl
  both_servers true false was = refl
  both_servers false later was = refl

  pub call_then : (call : Call) (calls : List Call) (ends last : Ends) → Timely names ends → MayCall names role.Client call ends → ClientIsAfter calls (called role.Client call ends) last → ClientIsAfter (call ∷ calls) ends last
  unfolding called end_after has_begun given_after taken_after
  call_then call calls ends last timely may rest = record {
    given = rest.given ∙ ap (λ (l : LinkState). given_after now calls l next.client.given) linked ∙ ap (given_after now calls (made_by now call ends.client.link).link) lists.0;
    taken = rest.taken ∙ ap (λ (l : LinkState). taken_after now calls l next.client.taken) linked ∙ ap (taken_after now calls (made_by now call ends.client.link).link) lists.1;
    server = rest.server
        ∙ ap (λ (l : LinkState). if has_begun now calls l then Before else server_of next) linked
        ∙ ap (λ (s : Server). if has_begun now calls (made_by now call ends.client.link).link then Before else s) (one_server call ends timely what)
        ∙ both_servers (begins now call ends.client.link) (has_begun now calls (made_by now call ends.client.link).link) (server_of ends);
    inside = λ opened. elim (rest.inside opened) [
      | inl was ↦ by_call what was
      | inr later ↦ inr (later_begun (begins now call ends.client.link) (ap (has_begun now calls) (sym linked) ∙ later))
    ];
  }
    where
      next : Ends
      next = called role.Client call ends

      now : ℕ
      now = reading_of ends.client.clock

      what : Begins ends call ⊎ EntersNothing ends call
      what = client_begins laws.taking names call ends are timely may

      lists : (next.client.given ≡ given_by now call ends.client.link ends.client.given) × (next.client.taken ≡ taken_by now call ends.client.link ends.client.taken)
      lists = one_given call ends.moment ends.client what

      linked : next.client.link ≡ (made_by now call ends.client.link).link
      linked = made_link call ends.moment ends.client

      later_begun : (first : Bool) {later : Bool} → later ≡ true → (first || later) ≡ true
      later_begun true is = refl
      later_begun false is = is

      first_begun : (first later : Bool) → first ≡ true → (first || later) ≡ true
      first_begun true later is = refl
      first_begun false later is = absurd (cc (is))

      by_call : Begins ends call ⊎ EntersNothing ends call → is_open next.client.link.phase ≡ true →
          (is_open ends.client.link.phase ≡ true) ⊎ ((begins now call ends.client.link || has_begun now calls (made_by now call ends.client.link).link) ≡ true)
      by_call (inl begun) was = inr (first_begun (begins now call ends.client.link) (has_begun now calls (made_by now call ends.client.link).link) begun.0)
      by_call (inr none) was = inl (by_phase (is_open ends.client.link.phase) refl) where
        by_phase : (b : Bool) → is_open ends.client.link.phase ≡ b → b ≡ true
        by_phase true is = refl
        by_phase false is = absurd (cc (was, laws.stays call ends.moment ends.client is none.1))

  pub client_after : (calls : List Call) (ends : Ends) → Timely names ends → MayRun names (calls_at role.Client calls) ends → ClientIsAfter calls ends (run (calls_at role.Client calls) ends)
  unfolding has_begun given_after taken_after
  client_after [] ends timely may = record { given = refl; taken = refl; server = refl; inside = λ opened. inl opened }
  client_after (call ∷ calls) ends timely may = call_then call calls ends (run (calls_at role.Client calls) (called role.Client call ends)) timely may.0
      (client_after calls (called role.Client call ends) (laws.time names (Calls role.Client call) ends are timely may.0) may.1)

-- ---- a server that enters

-- how a server enters a connection: it is the client's last one, which the server hadn't entered, and the client isn't down
pub enters_rightly : EventLaws → (names : Names) → AreNames names → (ends : Ends) → Timely names ends → (call : Call) (entered : ℕ) → MayCall names role.Server call ends
    → (outcome call ends.moment ends.server).enters ≡ Some entered → EntersRightly entered ends
enters_rightly laws names are ends timely (Receives bytes connection) entered may enters =
    let by = entering laws names are ends timely bytes connection entered may enters
    in let who = enters_by laws.taking names ends role.Server bytes connection entered are timely may enters
    in record {
      before = ap (λ (b : Bool). server_in b (is_same_connection ends.client.connection ends.server.connection)) by.inside ∙ ap (server_in false) by.before;
      connection = of_last names ends bytes connection who.datagram timely who.delivered ∙ ap (λ (n : ℕ). Some n) (sym who.same);
      begun = by.client;
    }
enters_rightly laws names are ends timely Opens entered may enters = absurd (server_opens_none laws names are ends timely entered enters)
enters_rightly laws names are ends timely Ticks entered may enters = absurd (never_ticks laws names are ends timely ends.server entered enters)
enters_rightly laws names are ends timely (Closes why) entered may enters = absurd (never_closes laws names are ends timely why ends.server entered enters)
enters_rightly laws names are ends timely (Sends item) entered may enters = absurd (never_sends laws names are ends timely item ends.server entered enters)
