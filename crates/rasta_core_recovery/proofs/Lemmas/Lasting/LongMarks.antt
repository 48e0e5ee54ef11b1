-- Two ends are marked where they stand.
use Rattle.rasta_core_recovery.proofs.Words.Basics.{◌≤◌, arith}
use Rattle.rasta_core_recovery.proofs.Words.Links.{Sent, Names, Ends, Timely}
use Rattle.rasta_core_recovery.proofs.Words.Recovery.{AreIn, IsOf, Rising, RisingSince, Stand, marks_of, nothing_sent, stands, the_client, the_client_since, the_server, the_server_since, Mark, Speaker, unmarked}
use Rattle.rasta_core_recovery.proofs.Lemmas.Falling.FallsEvents.{client_past, server_past, kept_before}
use Rattle.rasta_core_recovery.proofs.Lemmas.Falling.FallsLists.{rises_turned}

-- what an end has sent is told with marks, too, that it doesn't pass
told_by : (names : Names) (one : Speaker) (mark partner_mark : Mark) (d : Sent) (at : Stand) → at.now ≤ mark.now → at.returns ≤ partner_mark.now → IsOf names one d at
    → IsOf names (record one { mark = mark; partner_mark = partner_mark }) d at
told_by names one mark partner_mark d at early returned of sender same in_time pdu read = let t = of sender same in_time pdu read in record {
  some = t.some;
  number = t.number;
  stamped = t.stamped;
  was_read = t.was_read;
  confirms = t.confirms;
  returns = t.returns;
  recent = t.recent;
  fresh = t.fresh;
  early = λ few. early;
  paired = λ few. returned;
}

module _ (names : Names) (ends : Ends) (timely : Timely names ends) (are_in : AreIn ends) (rising : Rising names ends) where
  client_before : rising.client_kept ≤ ends.server.link.clock
  client_before = kept_before names unmarked ends timely rising

  server_before : rising.server_kept ≤ ends.client.link.clock
  server_before = let k = rising.server_keeps.before in let t = timely.client.clock in omega (arith, k, t)

  -- all that was said is said by now, and returns nothing later than that
  pub marked_now : RisingSince names (marks_of ends) ends
  marked_now = record {
    client_kept = rising.client_kept;
    server_kept = rising.server_kept;
    none_yet = rising.none_yet;
    client_keeps = rising.client_keeps;
    server_keeps = rising.server_keeps;
    of_client = rises_turned (IsOf names (the_client ends rising.server_kept)) (IsOf names (the_client_since (marks_of ends) ends rising.server_kept)) nothing_sent
        (stands ends.client.link rising.client_kept) ends.sent
        (λ d at most. told_by names (the_client ends rising.server_kept) (marks_of ends).client (marks_of ends).server d at most.1 (let b = client_before in let m = most.3 in omega (arith, b, m))) rising.of_client;
    of_server = rises_turned (IsOf names (the_server ends rising.client_kept)) (IsOf names (the_server_since (marks_of ends) ends rising.client_kept)) nothing_sent
        (stands ends.server.link rising.server_kept) ends.sent
        (λ d at most. told_by names (the_server ends rising.client_kept) (marks_of ends).server (marks_of ends).client d at most.1 (let b = server_before in let m = most.3 in omega (arith, b, m))) rising.of_server;
    client_marked = record {
      before = omega arith;
      paired = λ few. client_before;
      waits = λ young. absurd (let p = client_past names ends timely are_in.client in let t = timely.client.clock in omega (arith, young, p, t));
    };
    server_marked = record {
      before = omega arith;
      paired = λ few. server_before;
      waits = λ young. absurd (let p = server_past names ends timely are_in.server in let t = timely.server.clock in omega (arith, young, p, t));
    };
  }
