-- An end that is in a connection at the end of some events, and was in it at their beginning, was in it throughout.
use Rattle.simulator_recovery.proofs.Words.Basics.{◌≡◌, inl, inr, ℕ, ◌<◌, Bool, true, false, not, ◌&&◌, List, [], ◌∷◌, ◌++◌, Option, Some, None, if◌then◌else◌, refl, sym, ap, subst, ◌∙◌, arith, false≢true, none-some, same_Some}
use Rattle.simulator_recovery.proofs.Words.Links.{IsCall, opens, receiving, Each, Call, Closes, EndState, Opens, Receives, Sends, Ticks, end_after, entered_by, is_taken, newer, outcome, reading_of, Calls, Elsewhere, Event, Loses, May, MayCall, MayRun, Passes, Restarts, happened, run, Timely, AreNames, Names, Ordered, Ends, called, end_of, receipt_at, is_open, Role}
use Rattle.simulator_recovery.proofs.Words.Recovery.{LawsBelow}

-- laws of two ends, handed in by who has them
-- the end of this role is in this connection
pub record IsInOf (who : Role) (connection : ℕ) (ends : Ends) : Type 0 where
  pub at : (end_of who ends).connection ≡ Some connection
  pub opened : is_open (end_of who ends).link.phase ≡ true

-- before each of these events, and after the last
abbrev pub IsInThrough : Role → ℕ → List Event → Ends → Type 0
IsInThrough who connection [] ends = IsInOf who connection ends
IsInThrough who connection (first ∷ others) ends = IsInOf who connection ends × IsInThrough who connection others (happened first ends)

-- the last connection of an end is as before, which it may have left, or a later one
pub data IsLater (before : ℕ) (old new : EndState) : Type 0 where
  same : new.connection ≡ Some before → (is_open old.link.phase ≡ false → is_open new.link.phase ≡ false) → IsLater before old new
  later_one : (connection : ℕ) → new.connection ≡ Some connection → before < connection → IsLater before old new

unchanged : (before : ℕ) (old new : EndState) → old.connection ≡ Some before → new ≡ old → IsLater before old new
unchanged before old new at is = same (ap (λ (e : EndState). e.connection) is ∙ at) (λ out. ap (λ (e : EndState). is_open e.link.phase) is ∙ out)

module _ (laws : LawsBelow) (names : Names) (are : AreNames names) (who : Role) (ends : Ends) (timely : Timely names ends) (before : ℕ) (at : (end_of who ends).connection ≡ Some before) where
  abbrev end : EndState
  end = end_of who ends

  abbrev next : Call → EndState
  next call = end_after (outcome call ends.moment (end_of who ends)) ends.moment (end_of who ends)

  -- which connection it enters, if any
  by_entering : (call : Call) (entered : Option ℕ) → (outcome call ends.moment (end_of who ends)).enters ≡ entered → ((connection : ℕ) → entered ≡ Some connection → before < connection) → IsLater before (end_of who ends) (next call)
  unfolding end_after
  by_entering call None e new = same (ap (λ (o : Option ℕ). newer o end.connection) e ∙ at) (λ out. laws.outside_until_it_enters call ends.moment end out e)
  by_entering call (Some connection) e new = later_one connection (ap (λ (o : Option ℕ). newer o end.connection) e) (new connection refl)

  -- what it takes outside is a new request
  takes_new : (bytes : List ℕ) (connection : ℕ) → MayCall names who (Receives bytes connection) ends → is_open end.link.phase ≡ false → is_taken (receipt_at who bytes ends).verdict ≡ true → before < connection
  takes_new bytes connection (inl (datagram, delivered)) out taken =
      let opening = laws.opening_is_new names ends who bytes connection datagram are timely delivered out taken
      in subst (λ (n : ℕ). before < n) delivered.connection_same (opening.is_new before at)
  takes_new bytes connection (inr other) out taken = absurd (false≢true (sym (laws.what_is_taken names ends who bytes timely other).1 ∙ taken))

  outside_taken : (opened taken : Bool) (connection found : ℕ) → (if not opened && taken then Some connection else None) ≡ Some found → (opened ≡ false) × (taken ≡ true) × (found ≡ connection)
  outside_taken true taken connection found e = absurd (none-some found e)
  outside_taken false false connection found e = absurd (none-some found e)
  outside_taken false true connection found e = (refl, refl, sym (same_Some connection found e))

  opens_at : (b : Bool) (found : ℕ) → (if b then Some ends.moment else None) ≡ Some found → found ≡ ends.moment
  opens_at true found e = sym (same_Some ends.moment found e)
  opens_at false found e = absurd (none-some found e)

  called_later : (call : Call) → MayCall names who call ends → IsLater before (end_of who ends) (next call)
  unfolding outcome
  called_later Ticks may = by_entering Ticks None refl (λ connection e. absurd (none-some connection e))
  called_later (Closes why) may = by_entering (Closes why) None refl (λ connection e. absurd (none-some connection e))
  called_later (Sends item) may = by_entering (Sends item) None refl (λ connection e. absurd (none-some connection e))
  called_later Opens may = by_entering Opens (if opens (reading_of end.clock) end.link then Some ends.moment else None) refl
      (λ connection e. let is = opens_at (opens (reading_of end.clock) end.link) connection e in let lt = laws.one_connection_counted names ends who before timely at in omega (arith, is, lt))
  called_later (Receives bytes connection) may = by_entering (Receives bytes connection) (entered_by end.link (receiving (reading_of end.clock) bytes end.link).verdict connection) refl
      (λ found e. let so = outside_taken (is_open end.link.phase) (is_taken (receiving (reading_of end.clock) bytes end.link).verdict) connection found e in
      subst (λ (n : ℕ). before < n) (sym so.2) (takes_new bytes connection may so.0 so.1))

-- an event that is a call
event_later : (laws : LawsBelow) (names : Names) → AreNames names → (who : Role) (event : Event) (ends : Ends) → Timely names ends → IsCall event → May names event ends → (before : ℕ) → (end_of who ends).connection ≡ Some before
    → IsLater before (end_of who ends) (end_of who (happened event ends))
unfolding called
event_later laws names are Role.Client (Calls Role.Client call) ends timely is may before at = called_later laws names are Role.Client ends timely before at call may
event_later laws names are Role.Server (Calls Role.Server call) ends timely is may before at = called_later laws names are Role.Server ends timely before at call may
event_later laws names are Role.Client (Calls Role.Server call) ends timely is may before at = unchanged before ends.client ends.client at refl
event_later laws names are Role.Server (Calls Role.Client call) ends timely is may before at = unchanged before ends.server ends.server at refl
event_later laws names are Role.Client (Elsewhere count) ends timely is may before at = unchanged before ends.client ends.client at refl
event_later laws names are Role.Server (Elsewhere count) ends timely is may before at = unchanged before ends.server ends.server at refl
event_later laws names are who (Passes elapsed of_client of_server) ends timely is may before at = absurd is
event_later laws names are who (Loses bytes) ends timely is may before at = absurd is
event_later laws names are who (Restarts whose clock first) ends timely is may before at = absurd is

module _ (laws : LawsBelow) (names : Names) (are : AreNames names) (who : Role) (connection : ℕ) where
  -- what an end has come to that has left this connection, or is in a later one
  data IsGone (ends : Ends) : Type 0 where
    out : (end_of who ends).connection ≡ Some connection → is_open (end_of who ends).link.phase ≡ false → IsGone ends
    after : (other : ℕ) → (end_of who ends).connection ≡ Some other → connection < other → IsGone ends

  abbrev Ending : List Event → Ends → Type 0
  Ending events ends = ((end_of who (run events ends)).connection ≡ Some connection) × (is_open (end_of who (run events ends)).link.phase ≡ true)

  gone_stays : (event : Event) (ends : Ends) → Timely names ends → IsCall event → May names event ends → IsGone ends → IsGone (happened event ends)
  gone_stays event ends timely is may (out at shut) = choose (event_later laws names are who event ends timely is may connection at)
    where
      choose : IsLater connection (end_of who ends) (end_of who (happened event ends)) → IsGone (happened event ends)
      choose (same e stays) = out e (stays shut)
      choose (later_one other e more) = after other e more
  gone_stays event ends timely is may (after other at more) = choose (event_later laws names are who event ends timely is may other at)
    where
      choose : IsLater other (end_of who ends) (end_of who (happened event ends)) → IsGone (happened event ends)
      choose (same e stays) = after other e more
      choose (later_one last e further) = after last e (omega (arith, more, further))

  never_back : (events : List Event) (ends : Ends) → Timely names ends → Each IsCall events → MayRun names events ends → IsGone ends → Ending events ends → ⊥
  never_back [] ends timely is may (out at shut) (e, opened) = false≢true (sym shut ∙ opened)
  never_back [] ends timely is may (after other at more) (e, opened) = let same_one = same_Some other connection (sym at ∙ e) in absurd (omega (arith, more, same_one))
  never_back (first ∷ others) ends timely is may gone ending =
      never_back others (happened first ends) (laws.every_event_keeps_time names first ends are timely may.0) is.1 may.1 (gone_stays first ends timely is.0 may.0 gone) ending

  pub in_through : (events : List Event) (ends : Ends) → Timely names ends → Each IsCall events → MayRun names events ends → (end_of who ends).connection ≡ Some connection → Ending events ends → IsInThrough who connection events ends
  in_through [] ends timely is may at ending = record { at = at; opened = ending.1 }
  in_through (first ∷ others) ends timely is may at ending = choose (is_open (end_of who ends).link.phase) refl (λ e. in_through others (happened first ends) (laws.every_event_keeps_time names first ends are timely may.0) is.1 may.1 e ending)
    where
      Rest : Type 0
      Rest = (end_of who (happened first ends)).connection ≡ Some connection → IsInThrough who connection others (happened first ends)

      goes_on : Rest → IsLater connection (end_of who ends) (end_of who (happened first ends)) → IsInThrough who connection others (happened first ends)
      goes_on rest (same e stays) = rest e
      goes_on rest (later_one other e more) = absurd (never_back others (happened first ends) (laws.every_event_keeps_time names first ends are timely may.0) is.1 may.1 (after other e more) ending)

      choose : (b : Bool) → is_open (end_of who ends).link.phase ≡ b → Rest → IsInThrough who connection (first ∷ others) ends
      choose true opened rest = (record { at = at; opened = opened }, goes_on rest (event_later laws names are who first ends timely is.0 may.0 connection at))
      choose false shut rest = absurd (never_back (first ∷ others) ends timely is may (out at shut) ending)

-- ---- parts of what happens

pub run_both : (one other : List Event) (ends : Ends) → run (one ++ other) ends ≡ run other (run one ends)
run_both [] other ends = refl
run_both (first ∷ one) other ends = run_both one other (happened first ends)

pub may_front : (names : Names) (one other : List Event) (ends : Ends) → MayRun names (one ++ other) ends → MayRun names one ends × MayRun names other (run one ends)
may_front names [] other ends may = (tt, may)
may_front names (first ∷ one) other ends may = let more = may_front names one other (happened first ends) may.1 in ((may.0, more.0), more.1)

pub through_here : (who : Role) (connection : ℕ) (events : List Event) (ends : Ends) → IsInThrough who connection events ends → IsInOf who connection ends
through_here who connection [] ends is = is
through_here who connection (first ∷ others) ends is = is.0

pub through_front : (who : Role) (connection : ℕ) (one other : List Event) (ends : Ends) → IsInThrough who connection (one ++ other) ends → IsInThrough who connection one ends × IsInThrough who connection other (run one ends)
through_front who connection [] other ends is = (through_here who connection other ends is, is)
through_front who connection (first ∷ one) other ends is = let more = through_front who connection one other (happened first ends) is.1 in ((is.0, more.0), more.1)

pub run_timely : LawsBelow → (names : Names) → AreNames names → (events : List Event) (ends : Ends) → MayRun names events ends → Timely names ends → Ordered names ends → Timely names (run events ends) × Ordered names (run events ends)
run_timely laws names are [] ends may timely ordered = (timely, ordered)
run_timely laws names are (first ∷ others) ends may timely ordered =
    run_timely laws names are others (happened first ends) may.1 (laws.every_event_keeps_time names first ends are timely may.0) (laws.every_event_keeps_order_kept names first ends are timely ordered may.0)
