-- What stays so of an end as long as it is in one connection.
use Rattle.rasta_core_recovery.proofs.Words.Basics.{◌≡◌, ℕ, ◌∙◌, ◌+◌, ◌≤◌, ◌<◌, inl, inr, Bool, true, false, ◌&&◌, not, List, [], ◌∷◌, ◌++◌, length, Option, Some, None, if◌then◌else◌, refl, sym, ap, arith, false≢true, same_Some}
use Rattle.rasta_core_recovery.proofs.Words.Links.{Each, is_open, created, opens, receiving, Role, Call, Closes, EndState, Opens, Outcome, Receives, Sends, Ticks, end_after, end_later, end_restarted, is_taken, kept, newer, outcome, reading_of, Calls, Elsewhere, Event, Loses, May, MayCall, MayRun, Passes as TimePasses, Restarts, happened, run, AreNames, Names, Ends, called, end_of, later, lost, restarted, Timely}
use Rattle.rasta_core_recovery.proofs.Words.Recovery.{AreIn, LawsBelow}
use Rattle.rasta_core_recovery.proofs.Lemmas.Windows.ConfirmingEvents.{settled_open}
use Rattle.rasta_core_recovery.proofs.Lemmas.Rounds.Facts.{is_newest}
use Rattle.rasta_core_recovery.proofs.Lemmas.Rounds.Blocks.{as_many_both}

-- ---- one end

-- What is so of an end stays so while time passes, as long as it is open.
abbrev pub StaysLater : (EndState → Type 0) → Type 0
StaysLater Q = (elapsed moment : ℕ) (one : EndState) → is_open (end_later elapsed moment one).link.phase ≡ true → Q one → Q (end_later elapsed moment one)

-- And so it does over a call in its connection.
abbrev pub StaysCalled : (EndState → Type 0) → Role → Call → Ends → Type 0
StaysCalled Q who call ends = (outcome call ends.moment (end_of who ends)).enters ≡ None → is_open (end_of who ends).link.phase ≡ true
    → is_open (outcome call ends.moment (end_of who ends)).link.phase ≡ true
    → Q (end_of who ends) → Q (end_after (outcome call ends.moment (end_of who ends)) ends.moment (end_of who ends))

abbrev pub StaysOver : (EndState → Type 0) → Role → Event → Ends → Type 0
StaysOver Q who (Calls other call) ends = other ≡ who → StaysCalled Q who call ends
StaysOver Q who _ ends = Unit {0}

module _ (laws : LawsBelow) (names : Names) (are : AreNames names) (connection : ℕ) (Q : EndState → Type 0) (over_time : StaysLater Q) where
  -- The end's last connection is this one, or a later one; and while it is in this one, that is so.
  pub record IsWhileIn (end : EndState) : Type 0 where
    pub last : ℕ
    pub is_last : end.connection ≡ Some last
    pub from : connection ≤ last
    pub since : is_open end.link.phase ≡ true → last ≡ connection → Q end

  module _ (who : Role) (ends : Ends) (timely : Timely names ends) (is : IsWhileIn (end_of who ends)) where
    abbrev end : EndState
    end = end_of who ends

    -- a connection that it enters is later than those before
    enters_later : (call : Call) → MayCall names who call ends → (entered : ℕ) → (outcome call ends.moment end).enters ≡ Some entered → is.last < entered
    unfolding outcome
    enters_later Ticks may entered e = absurd (cc e)
    enters_later (Closes why) may entered e = absurd (cc e)
    enters_later (Sends item) may entered e = absurd (cc e)
    enters_later Opens may entered e = choose (opens (reading_of end.clock) end.link) e
      where
        choose : (b : Bool) → (if b then Some ends.moment else None) ≡ Some entered → is.last < entered
        choose true f = let c = laws.one_connection_counted names ends who is.last timely is.is_last in let s = same_Some ends.moment entered f in omega (arith, c, s)
        choose false f = absurd (cc f)
    enters_later (Receives bytes of) may entered e = choose (is_open end.link.phase) (is_taken (receiving (reading_of end.clock) bytes end.link).verdict) refl refl e
      where
        by_may : is_open end.link.phase ≡ false → is_taken (receiving (reading_of end.clock) bytes end.link).verdict ≡ true → of ≡ entered
            → MayCall names who (Receives bytes of) ends → is.last < entered
        by_may shut taken s (inl sent) =
            let new = (laws.opening_is_new names ends who bytes of sent.0 are timely sent.1 shut taken).is_new is.last is.is_last in let c = sent.1.connection_same in omega (arith, new, c, s)
        by_may shut taken s (inr other) = absurd (false≢true (sym (laws.what_is_taken names ends who bytes timely other).1 ∙ taken))

        choose : (a b : Bool) → is_open end.link.phase ≡ a → is_taken (receiving (reading_of end.clock) bytes end.link).verdict ≡ b
            → (if not a && b then Some of else None) ≡ Some entered → is.last < entered
        choose false true f g h = by_may f g (same_Some of entered h) may
        choose false false f g h = absurd (cc h)
        choose true b f g h = absurd (cc h)

    module _ (call : Call) (may : MayCall names who call ends) (stays : StaysCalled Q who call ends) where
      abbrev made : Outcome
      made = outcome call ends.moment end

      called_while : IsWhileIn (end_after made ends.moment end)
      unfolding end_after
      called_while = choose made.enters refl
        where
          choose : (found : Option ℕ) → made.enters ≡ found → IsWhileIn (end_after made ends.moment end)
          choose (Some entered) e = let over = enters_later call may entered e in record {
            last = entered;
            is_last = ap (λ (o : Option ℕ). newer o end.connection) e;
            from = let f = is.from in omega (arith, f, over);
            since = λ opened same. absurd (let f = is.from in omega (arith, f, over, same));
          }
          choose None e = record {
            last = is.last;
            is_last = ap (λ (o : Option ℕ). newer o end.connection) e ∙ is.is_last;
            from = is.from;
            since = λ opened same. goes opened same (is_open end.link.phase) refl;
          }
            where
              goes : is_open made.link.phase ≡ true → is.last ≡ connection → (b : Bool) → is_open end.link.phase ≡ b → Q (end_after made ends.moment end)
              goes opened same true was = stays e was opened (is.since was same)
              goes opened same false shut = absurd (false≢true (sym (laws.outside_until_it_enters_stays call ends.moment end shut e) ∙ opened))

  later_while : (elapsed moment : ℕ) (one : EndState) → IsWhileIn one → IsWhileIn (end_later elapsed moment one)
  unfolding end_later
  later_while elapsed moment one is = record {
    last = is.last;
    is_last = is.is_last;
    from = is.from;
    since = λ opened same. over_time elapsed moment one opened (is.since (settled_open (reading_of (one.clock + elapsed)) one.link opened).1 same);
  }

  restarted_while : (clock first moment : ℕ) (one : EndState) → IsWhileIn one → IsWhileIn (end_restarted clock first moment one)
  unfolding end_restarted created
  restarted_while clock first moment one is = record { last = is.last; is_last = is.is_last; from = is.from; since = λ opened same. absurd (false≢true opened) }

  event_while : (who : Role) (event : Event) (ends : Ends) → Timely names ends → May names event ends → StaysOver Q who event ends → IsWhileIn (end_of who ends)
      → IsWhileIn (end_of who (happened event ends))
  unfolding called later lost restarted
  event_while Role.Client (Calls Role.Client call) ends timely may stays is = called_while Role.Client ends timely is call may (stays refl)
  event_while Role.Client (Calls Role.Server call) ends timely may stays is = is
  event_while Role.Server (Calls Role.Server call) ends timely may stays is = called_while Role.Server ends timely is call may (stays refl)
  event_while Role.Server (Calls Role.Client call) ends timely may stays is = is
  event_while Role.Client (TimePasses elapsed of_client of_server) ends timely may stays is = later_while of_client ends.moment ends.client is
  event_while Role.Server (TimePasses elapsed of_client of_server) ends timely may stays is = later_while of_server ends.moment ends.server is
  event_while Role.Client (Loses bytes) ends timely may stays is = is
  event_while Role.Server (Loses bytes) ends timely may stays is = is
  event_while Role.Client (Restarts Role.Client clock first) ends timely may stays is = restarted_while clock first ends.moment ends.client is
  event_while Role.Client (Restarts Role.Server clock first) ends timely may stays is = is
  event_while Role.Server (Restarts Role.Server clock first) ends timely may stays is = restarted_while clock first ends.moment ends.server is
  event_while Role.Server (Restarts Role.Client clock first) ends timely may stays is = is
  event_while Role.Client (Elsewhere count) ends timely may stays is = is
  event_while Role.Server (Elsewhere count) ends timely may stays is = is

  -- Over events of a kind over each of which it stays so.
  pub all_while : (Allowed : Event → Type 0) (who : Role) → ((event : Event) (ends : Ends) → Timely names ends → May names event ends → Allowed event → StaysOver Q who event ends)
      → (events : List Event) (ends : Ends) → Timely names ends → MayRun names events ends → Each Allowed events → IsWhileIn (end_of who ends) → IsWhileIn (end_of who (run events ends))
  all_while Allowed who stays [] ends timely may allowed is = is
  all_while Allowed who stays (e ∷ events) ends timely may allowed is =
      all_while Allowed who stays events (happened e ends) (laws.every_event_keeps_time names e ends are timely may.0) may.1 allowed.1 (event_while who e ends timely may.0 (stays e ends timely may.0 allowed.0) is)

-- ---- what stays so over every call in a connection

abbrev AnyEvent : Event → Type 0
AnyEvent event = Unit {0}

all_any : (events : List Event) → Each AnyEvent events
all_any [] = tt
all_any (e ∷ events) = (tt, all_any events)

-- what is so of no end
abbrev NeverSo : EndState → Type 0
NeverSo one = ⊥

-- an end has given so many items at least
abbrev HasGiven : ℕ → EndState → Type 0
HasGiven many one = many ≤ length one.given

given_later : (many : ℕ) → StaysLater (HasGiven many)
unfolding end_later
given_later many elapsed moment one opened is = is

given_called : (many : ℕ) (who : Role) (call : Call) (ends : Ends) → StaysCalled (HasGiven many) who call ends
unfolding end_after
given_called many who call ends none was opened is =
    let given_is = ap (λ (e : Option ℕ). kept e (end_of who ends).given ++ (outcome call ends.moment (end_of who ends)).given) none
    in let long = ap length given_is ∙ as_many_both (end_of who ends).given (outcome call ends.moment (end_of who ends)).given
    in omega (arith, is, long)

over_each : (Q : EndState → Type 0) → ((who : Role) (call : Call) (ends : Ends) → StaysCalled Q who call ends) → (who : Role) (event : Event) (ends : Ends) → StaysOver Q who event ends
over_each Q stays who (Calls other call) ends = λ same. stays who call ends
over_each Q stays who (TimePasses elapsed of_client of_server) ends = tt
over_each Q stays who (Loses bytes) ends = tt
over_each Q stays who (Restarts other clock first) ends = tt
over_each Q stays who (Elsewhere count) ends = tt

module _ (laws : LawsBelow) (names : Names) (are : AreNames names) (events : List Event) (ends : Ends) (timely : Timely names ends) (may : MayRun names events ends) (who : Role) (connection : ℕ) where
  module _ (Q : EndState → Type 0) (over_time : StaysLater Q) (over_calls : (who : Role) (call : Call) (ends : Ends) → StaysCalled Q who call ends)
      (last : (end_of who ends).connection ≡ Some connection) (first : is_open (end_of who ends).link.phase ≡ true → Q (end_of who ends)) where
    then_so : IsWhileIn laws names are connection Q over_time (end_of who (run events ends))
    then_so = all_while laws names are connection Q over_time AnyEvent who (λ event e t m allowed. over_each Q over_calls who event e) events ends timely may (all_any events)
        (record { last = connection; is_last = last; from = omega arith; since = λ opened same. first opened })

  abbrev after : Ends
  after = run events ends

  -- Its last connection is none before.
  record IsLaterLast : Type 0 where
    other : ℕ
    is_last : (end_of who after).connection ≡ Some other
    from : connection ≤ other

  last_rises : (end_of who ends).connection ≡ Some connection → IsLaterLast
  last_rises last = let is = then_so (HasGiven 0) (given_later 0) (given_called 0) last (λ opened. omega arith) in record { other = is.last; is_last = is.is_last; from = is.from }

  module _ (last : (end_of who ends).connection ≡ Some connection) (then_last : (end_of who after).connection ≡ Some connection) (opened : is_open (end_of who after).link.phase ≡ true) where
    -- where it is in the same after them, it has given no fewer items
    pub given_rises : length (end_of who ends).given ≤ length (end_of who after).given
    given_rises =
        let is = then_so (HasGiven (length (end_of who ends).given)) (given_later (length (end_of who ends).given)) (given_called (length (end_of who ends).given)) last (λ o. omega arith)
        in is.since opened (same_Some is.last connection (sym is.is_last ∙ then_last))

    -- and it was in it
    pub was_open : is_open (end_of who ends).link.phase ≡ true
    was_open = choose (is_open (end_of who ends).link.phase) refl
      where
        choose : (b : Bool) → is_open (end_of who ends).link.phase ≡ b → is_open (end_of who ends).link.phase ≡ true
        choose true e = e
        choose false e = absurd (
            let is = then_so NeverSo (λ elapsed moment one o none. none) (λ w call other none was o never. never) last (λ o. false≢true (sym e ∙ o))
            in is.since opened (same_Some is.last connection (sym is.is_last ∙ then_last)))

-- Between two moments at which an end's last connection is the same, it is this.
pub last_between : (laws : LawsBelow) (names : Names) → AreNames names → (events more : List Event) (ends : Ends) → Timely names ends → MayRun names events ends → Timely names (run events ends)
    → MayRun names more (run events ends) → (who : Role) (connection : ℕ) → (end_of who ends).connection ≡ Some connection
    → (end_of who (run more (run events ends))).connection ≡ Some connection
    → (end_of who (run events ends)).connection ≡ Some connection
last_between laws names are events more ends timely may then_timely then_may who connection last end_last =
    let next = last_rises laws names are events ends timely may who connection last
    in let end = last_rises laws names are more (run events ends) then_timely then_may who next.other next.is_last
    in let same = same_Some end.other connection (sym end.is_last ∙ end_last)
    in let from = next.from
    in let on = end.from
    in next.is_last ∙ ap Some (omega (arith, from, on, same))

-- ---- both ends

-- Two ends that are in a connection, which was the last of the server before, were in it before.
pub were_in : (laws : LawsBelow) (names : Names) → AreNames names → (events : List Event) (ends : Ends) → Timely names ends → MayRun names events ends → Timely names (run events ends)
    → (connection : ℕ) → ends.server.connection ≡ Some connection → (run events ends).server.connection ≡ Some connection → AreIn (run events ends) → AreIn ends
were_in laws names are events ends timely may then_timely connection last then_last then_in = record {
  client = was_open laws names are events ends timely may Role.Client connection
      (sym (client_of ends timely server_in) ∙ last) (sym (client_of (run events ends) then_timely then_in.server) ∙ then_last) then_in.client;
  server = server_in;
}
  where
    server_in : is_open ends.server.link.phase ≡ true
    server_in = was_open laws names are events ends timely may Role.Server connection last then_last then_in.server

    client_of : (one : Ends) → Timely names one → is_open one.server.link.phase ≡ true → one.server.connection ≡ one.client.connection
    client_of one is opened = let newest = is_newest names one is opened in newest.0 ∙ sym newest.1
