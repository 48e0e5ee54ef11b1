-- As long as both ends stay in the connection in which they were marked, nothing falls since then.
use Rattle.rasta_core_recovery.proofs.Words.Basics.{◌≡◌, ℕ, ◌∙◌, ◌≤◌, ◌<◌, inl, inr, Bool, true, false, ◌&&◌, not, List, [], ◌∷◌, Option, Some, None, if◌then◌else◌, refl, sym, ap, arith, false≢true, same_Some}
use Rattle.rasta_core_recovery.proofs.Words.Links.{is_open, opens, receiving, Role, Call, Closes, Opens, Receives, Sends, Ticks, end_after, end_later, end_restarted, is_taken, newer, outcome, reading_of, Calls, Elsewhere, Event, Loses, May, MayCall, MayRun, Passes as TimePasses, Restarts, happened, run, AreNames, Names, Ends, called, later, lost, restarted, Timely, Ordered}
use Rattle.rasta_core_recovery.proofs.Words.Recovery.{AreIn, Marks, NothingFallsSince, RisingSince, LawsBelow}
use Rattle.rasta_core_recovery.proofs.Lemmas.Falling.FallsEvents.{client_goes, elsewhere_rises, loses_rise, made_anew, server_goes, time_passes}

module _ (laws : LawsBelow) (names : Names) (are : AreNames names) (marks : Marks) (connection : ℕ) where
  -- The server's last connection is the one in which it was marked, or a later one; and while it is that one, nothing falls since then.
  pub record IsSince (ends : Ends) : Type 0 where
    pub last : ℕ
    pub is_last : ends.server.connection ≡ Some last
    pub from : connection ≤ last
    pub rising : last ≡ connection → NothingFallsSince names marks ends

  module _ (ends : Ends) (timely : Timely names ends) (ordered : Ordered names ends) (since : IsSince ends) where
    -- a connection that a server enters is later than those before
    enters_later : (call : Call) → MayCall names Role.Server call ends → (entered : ℕ) → (outcome call ends.moment ends.server).enters ≡ Some entered → since.last < entered
    unfolding outcome
    enters_later Ticks may entered e = absurd (cc e)
    enters_later (Closes why) may entered e = absurd (cc e)
    enters_later (Sends item) may entered e = absurd (cc e)
    enters_later Opens may entered e = choose (opens (reading_of ends.server.clock) ends.server.link) e
      where
        choose : (b : Bool) → (if b then Some ends.moment else None) ≡ Some entered → since.last < entered
        choose true f = let c = laws.one_connection_counted names ends Role.Server since.last timely since.is_last in let s = same_Some ends.moment entered f in omega (arith, c, s)
        choose false f = absurd (cc f)
    enters_later (Receives bytes of) may entered e =
        choose (is_open ends.server.link.phase) (is_taken (receiving (reading_of ends.server.clock) bytes ends.server.link).verdict) refl refl e
      where
        by_may : is_open ends.server.link.phase ≡ false → is_taken (receiving (reading_of ends.server.clock) bytes ends.server.link).verdict ≡ true → of ≡ entered
            → MayCall names Role.Server (Receives bytes of) ends → since.last < entered
        by_may shut takes s (inl sent) =
            let new = (laws.opening_is_new names ends Role.Server bytes of sent.0 are timely sent.1 shut takes).is_new since.last since.is_last in let c = sent.1.connection_same in omega (arith, new, c, s)
        by_may shut takes s (inr other) = absurd (false≢true (sym (laws.what_is_taken names ends Role.Server bytes timely other).1 ∙ takes))

        choose : (a b : Bool) → is_open ends.server.link.phase ≡ a → is_taken (receiving (reading_of ends.server.clock) bytes ends.server.link).verdict ≡ b
            → (if not a && b then Some of else None) ≡ Some entered → since.last < entered
        choose false true f g h = by_may f g (same_Some of entered h) may
        choose false false f g h = absurd (cc h)
        choose true b f g h = absurd (cc h)

    server_since : (call : Call) → MayCall names Role.Server call ends → IsSince (called Role.Server call ends)
    unfolding called end_after
    server_since call may = choose (outcome call ends.moment ends.server).enters refl
      where
        choose : (found : Option ℕ) → (outcome call ends.moment ends.server).enters ≡ found → IsSince (called Role.Server call ends)
        choose (Some entered) e = let more = enters_later call may entered e in record {
          last = entered;
          is_last = ap (λ (o : Option ℕ). newer o ends.server.connection) e;
          from = let f = since.from in omega (arith, f, more);
          rising = λ same. absurd (let f = since.from in omega (arith, f, more, same));
        }
        choose None e = record {
          last = since.last;
          is_last = ap (λ (o : Option ℕ). newer o ends.server.connection) e ∙ since.is_last;
          from = since.from;
          rising = λ same in_new. goes same in_new (is_open ends.server.link.phase) refl;
        }
          where
            goes : since.last ≡ connection → (in_new : AreIn (called Role.Server call ends)) → (b : Bool) → is_open ends.server.link.phase ≡ b → RisingSince names marks (called Role.Server call ends)
            goes same in_new true was = server_goes laws names are ends timely ordered call may marks in_new was (since.rising same)
            goes same in_new false shut = absurd (false≢true (sym (laws.outside_until_it_enters_stays call ends.moment ends.server shut e) ∙ in_new.server))

    client_since : (call : Call) → MayCall names Role.Client call ends → IsSince (called Role.Client call ends)
    unfolding called
    client_since call may = record {
      last = since.last;
      is_last = since.is_last;
      from = since.from;
      rising = λ same in_new. client_goes laws names are ends timely ordered call may marks in_new (since.rising same);
    }

    pub event_since : (event : Event) → May names event ends → IsSince (happened event ends)
    unfolding later end_later lost restarted end_restarted
    event_since (Calls Role.Server call) may = server_since call may
    event_since (Calls Role.Client call) may = client_since call may
    event_since (TimePasses elapsed of_client of_server) may = record {
      last = since.last;
      is_last = since.is_last;
      from = since.from;
      rising = λ same. time_passes names marks elapsed of_client of_server ends may timely (since.rising same);
    }
    event_since (Loses bytes) may = record { last = since.last; is_last = since.is_last; from = since.from; rising = λ same. loses_rise names marks bytes ends (since.rising same) }
    event_since (Restarts Role.Client clock first) may =
        record { last = since.last; is_last = since.is_last; from = since.from; rising = λ same. made_anew names marks Role.Client clock first ends }
    event_since (Restarts Role.Server clock first) may =
        record { last = since.last; is_last = since.is_last; from = since.from; rising = λ same. made_anew names marks Role.Server clock first ends }
    event_since (Elsewhere count) may =
        record { last = since.last; is_last = since.is_last; from = since.from; rising = λ same. elsewhere_rises names marks count ends (since.rising same) }

  pub all_since : (events : List Event) (ends : Ends) → Timely names ends → Ordered names ends → IsSince ends → MayRun names events ends → IsSince (run events ends)
  all_since [] ends timely ordered since may = since
  all_since (e ∷ events) ends timely ordered since may =
      all_since events (happened e ends) (laws.every_event_keeps_time names e ends are timely may.0) (laws.every_event_keeps_order_kept names e ends are timely ordered may.0) (event_since ends timely ordered since e may.0) may.1
