-- An end that is in one connection at two moments is in it at each moment between them.
use Rattle.simulator_recovery.proofs.Words.Basics.{◌≡◌, inl, inr, ℕ, ◌+◌, ◌<◌, ◌≤◌, ◌&&◌, Bool, true, false, not, if◌then◌else◌, List, [], ◌∷◌, ◌++◌, length, Option, Some, None, refl, sym, ap, subst, ◌∙◌, arith, false≢true, length-append, none-some, same_Some}
use Rattle.simulator_recovery.proofs.Words.Links.{created, opens, Call, Closes, EndState, Opens, Outcome, Receives, Sends, Ticks, end_after, end_later, end_restarted, is_taken, kept, newer, outcome, reading_of, Calls, Elsewhere, Event, Loses, May, MayCall, MayRun, Passes, Restarts, happened, run, Timely, AreNames, Names, Ends, called, end_of, later, lost, restarted, Ordered, IsCounted, counts, made_anew, IsOut, receipt_at, is_open, Role}
use Rattle.simulator_recovery.proofs.Words.Recovery.{LawsBelow}
use Rattle.simulator_recovery.proofs.Lemmas.Ground.LinkCounts.{settled_open}

-- what laws of one link say
-- ---- what an event leaves of an end

-- a call at one of the ends is one at this end, or leaves it as it is
data CalledAt (who at : Role) (call : Call) (ends : Ends) : Type 0 where
  here : at ≡ who → end_of who (called at call ends) ≡ end_after (outcome call ends.moment (end_of who ends)) ends.moment (end_of who ends) → CalledAt who at call ends
  there : end_of who (called at call ends) ≡ end_of who ends → CalledAt who at call ends

called_at : (who at : Role) (call : Call) (ends : Ends) → CalledAt who at call ends
unfolding called
called_at Role.Client Role.Client call ends = here refl refl
called_at Role.Client Role.Server call ends = there refl
called_at Role.Server Role.Client call ends = there refl
called_at Role.Server Role.Server call ends = here refl refl

-- it keeps its connection, and what it has taken there; and it isn't in it anew
record KeepsOn (old new : EndState) : Type 0 where
  connection : new.connection ≡ old.connection
  within : is_open new.link.phase ≡ true → is_open old.link.phase ≡ true
  taken : new.taken ≡ old.taken

later_end : (elapsed moment : ℕ) (end : EndState) → KeepsOn end (end_later elapsed moment end)
unfolding end_later
later_end elapsed moment end = record { connection = refl; within = λ opened. (settled_open (reading_of (end.clock + elapsed)) end.link opened).1; taken = refl }

later_at : (who : Role) (elapsed of_client of_server : ℕ) (ends : Ends) → KeepsOn (end_of who ends) (end_of who (later elapsed of_client of_server ends))
unfolding later
later_at Role.Client elapsed of_client of_server ends = later_end of_client ends.moment ends.client
later_at Role.Server elapsed of_client of_server ends = later_end of_server ends.moment ends.server

restarted_end : (clock first moment : ℕ) (end : EndState) → KeepsOn end (end_restarted clock first moment end)
unfolding end_restarted created
restarted_end clock first moment end = record { connection = refl; within = λ opened. absurd (false≢true opened); taken = refl }

restarted_at : (who at : Role) (clock first : ℕ) (ends : Ends) → KeepsOn (end_of who ends) (end_of who (restarted at clock first ends))
unfolding restarted
restarted_at Role.Client Role.Client clock first ends = restarted_end clock first ends.moment ends.client
restarted_at Role.Client Role.Server clock first ends = record { connection = refl; within = λ opened. opened; taken = refl }
restarted_at Role.Server Role.Client clock first ends = record { connection = refl; within = λ opened. opened; taken = refl }
restarted_at Role.Server Role.Server clock first ends = restarted_end clock first ends.moment ends.server

lost_at : (who : Role) (bytes : List ℕ) (ends : Ends) → end_of who (lost bytes ends) ≡ end_of who ends
unfolding lost
lost_at Role.Client bytes ends = refl
lost_at Role.Server bytes ends = refl

elsewhere_at : (who : Role) (count : ℕ) (ends : Ends) → end_of who (happened (Elsewhere count) ends) ≡ end_of who ends
elsewhere_at Role.Client count ends = refl
elsewhere_at Role.Server count ends = refl

module _ (laws : LawsBelow) (names : Names) (are : AreNames names) (who : Role) where
  abbrev own : Ends → EndState
  own ends = end_of who ends

  -- ---- a call at the end

  -- a connection that it enters is later than its last
  entered_later : (call : Call) (ends : Ends) → Timely names ends → MayCall names who call ends → (last entered : ℕ) → (own ends).connection ≡ Some last → (outcome call ends.moment (own ends)).enters ≡ Some entered → last < entered
  unfolding outcome
  entered_later Ticks ends timely may last entered is e = absurd (none-some entered e)
  entered_later (Closes why) ends timely may last entered is e = absurd (none-some entered e)
  entered_later (Sends item) ends timely may last entered is e = absurd (none-some entered e)
  entered_later Opens ends timely may last entered is e = choose (opens (reading_of (own ends).clock) (own ends).link) e
    where
      choose : (b : Bool) → (if b then Some ends.moment else None) ≡ Some entered → last < entered
      choose true f = let few = laws.one_connection_counted names ends who last timely is in subst (λ (n : ℕ). last < n) (same_Some ends.moment entered f) few
      choose false f = absurd (none-some entered f)
  entered_later (Receives bytes connection) ends timely may last entered is e = choose (is_open (own ends).link.phase) refl (is_taken (receipt_at who bytes ends).verdict) refl e
    where
      by_may : MayCall names who (Receives bytes connection) ends → IsOut who ends → is_taken (receipt_at who bytes ends).verdict ≡ true → last < connection
      by_may (inl (datagram, delivered)) out taken = subst (λ (n : ℕ). last < n) delivered.connection_same ((laws.opening_is_new names ends who bytes connection datagram are timely delivered out taken).is_new last is)
      by_may (inr other) out taken = absurd (false≢true (sym (laws.what_is_taken names ends who bytes timely other).1 ∙ taken))

      choose : (a : Bool) → is_open (own ends).link.phase ≡ a → (b : Bool) → is_taken (receipt_at who bytes ends).verdict ≡ b → (if not a && b then Some connection else None) ≡ Some entered → last < entered
      choose true out b taken f = absurd (none-some entered f)
      choose false out true taken f = subst (λ (n : ℕ). last < n) (same_Some connection entered f) (by_may may out taken)
      choose false out false taken f = absurd (none-some entered f)

  -- what a call leaves of the end
  record Leaves (last : ℕ) (old new : EndState) : Type 0 where
    connection : ℕ
    is : new.connection ≡ Some connection
    later : last ≤ connection
    -- where the connection is the same
    within : connection ≡ last → is_open new.link.phase ≡ true → is_open old.link.phase ≡ true
    more : connection ≡ last → length old.taken ≤ length new.taken

  call_leaves : (call : Call) (ends : Ends) → Timely names ends → MayCall names who call ends → (last : ℕ) → (own ends).connection ≡ Some last → Leaves last (own ends) (end_after (outcome call ends.moment (own ends)) ends.moment (own ends))
  unfolding end_after
  call_leaves call ends timely may last is = by_entering (outcome call ends.moment (own ends)).enters refl
    where
      made : Outcome
      made = outcome call ends.moment (own ends)

      after : EndState
      after = end_after made ends.moment (own ends)

      inside : made.enters ≡ None → is_open made.link.phase ≡ true → is_open (own ends).link.phase ≡ true
      inside none opened = choose (is_open (own ends).link.phase) refl
        where
          choose : (b : Bool) → is_open (own ends).link.phase ≡ b → is_open (own ends).link.phase ≡ true
          choose true e = e
          choose false e = absurd (false≢true (sym (laws.outside_until_it_enters call ends.moment (own ends) e none) ∙ opened))

      by_entering : (entered : Option ℕ) → made.enters ≡ entered → Leaves last (own ends) after
      by_entering None e = record {
        connection = last;
        is = ap (λ (o : Option ℕ). newer o (own ends).connection) e ∙ is;
        later = omega arith;
        within = λ same opened. inside e opened;
        more = λ same. let count = length-append (own ends).taken made.taken
            in subst (λ (l : List (List ℕ)). length (own ends).taken ≤ length (l ++ made.taken)) (sym (ap (λ (o : Option ℕ). kept o (own ends).taken) e)) (omega (arith, count));
      }
      by_entering (Some entered) e = let new = entered_later call ends timely may last entered is e in record {
        connection = entered;
        is = ap (λ (o : Option ℕ). newer o (own ends).connection) e;
        later = omega (arith, new);
        within = λ same opened. absurd (omega (arith, new, same));
        more = λ same. absurd (omega (arith, new, same));
      }

  -- ---- any event

  same_leaves : (last : ℕ) (old new : EndState) → new.connection ≡ old.connection → (is_open new.link.phase ≡ true → is_open old.link.phase ≡ true) → new.taken ≡ old.taken → old.connection ≡ Some last → Leaves last old new
  same_leaves last old new same opened taken is = record {
    connection = last;
    is = same ∙ is;
    later = omega arith;
    within = λ e. opened;
    more = λ e. let count = ap length taken in omega (arith, count);
  }

  event_leaves : (event : Event) (ends : Ends) → Timely names ends → May names event ends → (last : ℕ) → (own ends).connection ≡ Some last → Leaves last (own ends) (own (happened event ends))
  event_leaves (Calls at call) ends timely may last is = by_call (called_at who at call ends)
    where
      by_call : CalledAt who at call ends → Leaves last (own ends) (own (called at call ends))
      by_call (here same e) = subst (Leaves last (own ends)) (sym e) (call_leaves call ends timely (subst (λ (r : Role). MayCall names r call ends) same may) last is)
      by_call (there e) = subst (Leaves last (own ends)) (sym e) (same_leaves last (own ends) (own ends) refl (λ opened. opened) refl is)
  event_leaves (Passes elapsed of_client of_server) ends timely may last is = let e = later_at who elapsed of_client of_server ends in
      same_leaves last (own ends) (own (later elapsed of_client of_server ends)) (e.connection) e.within e.taken is
  event_leaves (Loses bytes) ends timely may last is = subst (Leaves last (own ends)) (sym (lost_at who bytes ends)) (same_leaves last (own ends) (own ends) refl (λ opened. opened) refl is)
  event_leaves (Restarts at clock first) ends timely may last is = let e = restarted_at who at clock first ends in
      same_leaves last (own ends) (own (restarted at clock first ends)) e.connection e.within e.taken is
  event_leaves (Elsewhere count) ends timely may last is = subst (Leaves last (own ends)) (sym (elsewhere_at who count ends)) (same_leaves last (own ends) (own ends) refl (λ opened. opened) refl is)

  -- ---- many events

  leaves_then : (last : ℕ) (one two three : EndState) → (a : Leaves last one two) → Leaves a.connection two three → Leaves last one three
  leaves_then last one two three a b = record {
    connection = b.connection;
    is = b.is;
    later = let m = a.later in let n = b.later in omega (arith, m, n);
    within = λ same opened. let m = a.later in let n = b.later in a.within (omega (arith, m, n, same)) (b.within (omega (arith, m, n, same)) opened);
    more = λ same. let m = a.later in let n = b.later in let k = a.more (omega (arith, m, n, same)) in let l = b.more (omega (arith, m, n, same)) in omega (arith, k, l);
  }

  run_leaves : (events : List Event) (ends : Ends) → Timely names ends → MayRun names events ends → (last : ℕ) → (own ends).connection ≡ Some last → Leaves last (own ends) (own (run events ends))
  run_leaves [] ends timely may last is = same_leaves last (own ends) (own ends) refl (λ opened. opened) refl is
  run_leaves (first ∷ others) ends timely may last is =
      let one = event_leaves first ends timely may.0 last is
      in leaves_then last (own ends) (own (happened first ends)) (own (run others (happened first ends))) one (run_leaves others (happened first ends) (laws.every_event_keeps_time names first ends are timely may.0) may.1 one.connection one.is)

  -- ---- between two moments at which it is in one connection

  pub record IsHeld (connection : ℕ) (old mid new : EndState) : Type 0 where
    pub is : mid.connection ≡ Some connection
    pub within : is_open new.link.phase ≡ true → is_open mid.link.phase ≡ true
    pub more : length old.taken ≤ length mid.taken

  pub held_between : (before behind : List Event) (ends : Ends) (connection : ℕ) → Timely names ends → MayRun names before ends → MayRun names behind (run before ends) → Timely names (run before ends)
      → (own ends).connection ≡ Some connection → (own (run behind (run before ends))).connection ≡ Some connection → IsHeld connection (own ends) (own (run before ends)) (own (run behind (run before ends)))
  held_between before behind ends connection timely may then_may then_timely is new_is = record {
    is = a.is ∙ ap Some same;
    within = λ opened. b.within (omega (arith, later_one, same, last)) opened;
    more = a.more same;
  }
    where
      a : Leaves connection (own ends) (own (run before ends))
      a = run_leaves before ends timely may connection is

      b : Leaves a.connection (own (run before ends)) (own (run behind (run before ends)))
      b = run_leaves behind (run before ends) then_timely then_may a.connection a.is

      last : b.connection ≡ connection
      last = same_Some b.connection connection (sym b.is ∙ new_is)

      later_one : a.connection ≤ b.connection
      later_one = b.later

      same : a.connection ≡ connection
      same = let m = a.later in let n = b.later in let l = last in omega (arith, m, n, l)

-- ---- and what its link counts

-- two ends at a moment between two others at which they are in one connection
pub record AreHeld (old mid : Ends) : Type 0 where
  pub within : is_open mid.client.link.phase ≡ true
  pub taken : old.client.link.taken ≤ mid.client.link.taken

counted_taken : (end : EndState) → IsCounted end → is_open end.link.phase ≡ true → end.link.taken ≡ length end.taken
counted_taken end (counts given taken) opened = taken
counted_taken end (made_anew closed given taken) opened = absurd (false≢true (sym closed ∙ opened))

pub are_held : LawsBelow → (names : Names) → AreNames names → (before behind : List Event) (ends : Ends) (connection : ℕ) → Timely names ends → Ordered names ends → MayRun names before ends → MayRun names behind (run before ends)
    → ends.client.connection ≡ Some connection → ends.server.connection ≡ Some connection
    → (run behind (run before ends)).client.connection ≡ Some connection → (run behind (run before ends)).server.connection ≡ Some connection
    → is_open ends.client.link.phase ≡ true → is_open (run behind (run before ends)).client.link.phase ≡ true → AreHeld ends (run before ends)
are_held laws names are before behind ends connection timely ordered may then_may client server new_client new_server opened new_opened = record {
  within = mid_open;
  taken = let m = c.more in let old = counted_taken ends.client (laws.items_are_counted names ends ordered connection client server).0 opened in let new = counted_taken mid.client (laws.items_are_counted names mid mid_ordered connection c.is s.is).0 mid_open in omega (arith, m, old, new);
}
  where
    mid : Ends
    mid = run before ends

    mid_timely : Timely names mid
    mid_timely = laws.every_run_keeps_time names before ends are timely may

    mid_ordered : Ordered names mid
    mid_ordered = laws.every_run_keeps_order names before ends are timely ordered may

    c : IsHeld laws names are Role.Client connection ends.client mid.client (run behind mid).client
    c = held_between laws names are Role.Client before behind ends connection timely may then_may mid_timely client new_client

    s : IsHeld laws names are Role.Server connection ends.server mid.server (run behind mid).server
    s = held_between laws names are Role.Server before behind ends connection timely may then_may mid_timely server new_server

    mid_open : is_open mid.client.link.phase ≡ true
    mid_open = c.within new_opened
