-- What waits was said since an earlier moment, where the own stamp is younger; so what was said long ago is confirmed.
use Rattle.rasta_core_recovery.proofs.Words.Basics.{◌≡◌, ℕ, ◌∙◌, List, length, sym, subst, arith, same_Some}
use Rattle.rasta_core_recovery.proofs.Words.Links.{Each, Role, Event, MayRun, Start, run, started, AreNames, Names, Ends, end_of, sent, Timely, Rises}
use Rattle.rasta_core_recovery.proofs.Words.Recovery.{RisingSince, marks_of, AsksNothingAgain, StayIn, WaitsAsGiven, WaitsSince, LawsBelow}
use Rattle.rasta_core_recovery.proofs.Lemmas.Windows.ConfirmingEvents.{both_of, settled_so}
use Rattle.rasta_core_recovery.proofs.Lemmas.Windows.Confirmed.{Both, client_inside, server_joined}
use Rattle.rasta_core_recovery.proofs.Lemmas.Lasting.LongEvents.{IsSince, all_since}
use Rattle.rasta_core_recovery.proofs.Lemmas.Lasting.LongGiven.{Given, all_from, all_given, none_from}
use Rattle.rasta_core_recovery.proofs.Lemmas.Lasting.LongMarks.{marked_now}
use Rattle.rasta_core_recovery.proofs.Lemmas.Rounds.Holds.{Holds, holds_after, holds_run}

module _ (laws : LawsBelow) (names : Names) (are : AreNames names) (ends : Ends) (holds : Holds names ends)
    (more : List Event) (may : MayRun names more ends) (stay : StayIn ends (run more ends)) where
  open holds use {timely, ordered, rising as rises}

  both : Both names ends
  both = both_of names ends timely ordered stay.before

  since : IsSince laws names are (marks_of ends) both.together.connection (run more ends)
  since = all_since laws names are (marks_of ends) both.together.connection more ends timely ordered (record {
    last = both.together.connection;
    is_last = both.together.of_server;
    from = omega arith;
    rising = λ same in_it. marked_now names ends timely in_it (rises in_it);
  }) may

  rising : RisingSince names (marks_of ends) (run more ends)
  rising = since.rising (same_Some since.last both.together.connection (sym since.is_last ∙ stay.same ∙ both.together.of_server)) stay.after

  timely_then : Timely names (run more ends)
  timely_then = (holds_run laws names are more ends holds may).timely

  pub client_waits : WaitsSince ends.client.link (run more ends).client.link
  client_waits = record {
    returned = rising.client_marked.waits;
    long_ago = λ long. rising.client_marked.waits
        (let s = settled_so laws names (run more ends) Role.Client timely_then stay.after.client in let y = s.young in let c = s.clock in omega (arith, long, y, c));
  }

  pub server_waits : WaitsSince ends.server.link (run more ends).server.link
  server_waits = record {
    returned = rising.server_marked.waits;
    long_ago = λ long. rising.server_marked.waits
        (let s = settled_so laws names (run more ends) Role.Server timely_then stay.after.server in let y = s.young in let c = s.clock in omega (arith, long, y, c));
  }

  -- ---- what was given since

  client_rise : Rises 0 ends.client.link.sent ends.client.link.waiting
  client_rise = let c = client_inside names ends both in subst (λ (n : ℕ). Rises 0 n ends.client.link.waiting) (sym c.counted)
      (subst (Rises 0 (sent both.together.client)) (sym c.keeps.waiting) both.together.order.there.waits.rises)

  server_rise : Rises 0 ends.server.link.sent ends.server.link.waiting
  server_rise = let j = server_joined names ends both in subst (λ (n : ℕ). Rises 0 n ends.server.link.waiting) (sym j.inside.counted)
      (subst (Rises 0 (sent both.together.server)) (sym j.inside.keeps.waiting) both.together.order.back.waits.rises)

  one_then : (run more ends).server.connection ≡ (run more ends).client.connection
  one_then = laws.one_connection_inside names (run more ends) timely_then stay.after.client stay.after.server

  pub given_long_ago : (who : Role) → Each (AsksNothingAgain names who) more → WaitsAsGiven (end_of who ends) (end_of who (run more ends))
  given_long_ago Role.Client asks long = let few = (is.since stay.after.client same).few in let all = all_from ends.client.link.sent (run more ends).client.link.waiting (client_waits.long_ago long) in
      omega (arith, few, all)
    where
      is : Given laws names are ends.client.link.sent (length ends.client.given) both.together.connection Role.Client (run more ends)
      is = all_given laws names are ends.client.link.sent (length ends.client.given) both.together.connection Role.Client more ends timely may asks (record {
        last = both.together.connection;
        is_last = both.together.of_client;
        from = omega arith;
        since = λ opened same. record { sent = omega arith; few = let n = none_from 0 ends.client.link.sent ends.client.link.waiting client_rise in omega (arith, n) };
      })

      same : is.last ≡ both.together.connection
      same = same_Some is.last both.together.connection (sym is.is_last ∙ sym one_then ∙ stay.same ∙ both.together.of_server)
  given_long_ago Role.Server asks long = let few = (is.since stay.after.server same).few in let all = all_from ends.server.link.sent (run more ends).server.link.waiting (server_waits.long_ago long) in
      omega (arith, few, all)
    where
      is : Given laws names are ends.server.link.sent (length ends.server.given) both.together.connection Role.Server (run more ends)
      is = all_given laws names are ends.server.link.sent (length ends.server.given) both.together.connection Role.Server more ends timely may asks (record {
        last = both.together.connection;
        is_last = both.together.of_server;
        from = omega arith;
        since = λ opened same. record { sent = omega arith; few = let n = none_from 0 ends.server.link.sent ends.server.link.waiting server_rise in omega (arith, n) };
      })

      same : is.last ≡ both.together.connection
      same = same_Some is.last both.together.connection (sym is.is_last ∙ stay.same ∙ both.together.of_server)

module _ (laws : LawsBelow) (names : Names) (start : Start) (events more : List Event) (are : AreNames names) (may : MayRun names events (started names start))
    (may_more : MayRun names more (run events (started names start))) (stay : StayIn (run events (started names start)) (run more (run events (started names start)))) where
  before : Holds names (run events (started names start))
  before = holds_after laws names start events are may

  pub client_since : WaitsSince (run events (started names start)).client.link (run more (run events (started names start))).client.link
  client_since = client_waits laws names are (run events (started names start)) before more may_more stay

  pub server_since : WaitsSince (run events (started names start)).server.link (run more (run events (started names start))).server.link
  server_since = server_waits laws names are (run events (started names start)) before more may_more stay

  pub given_since : (who : Role) → Each (AsksNothingAgain names who) more
      → WaitsAsGiven (end_of who (run events (started names start))) (end_of who (run more (run events (started names start))))
  given_since who asks = given_long_ago laws names are (run events (started names start)) before more may_more stay who asks
