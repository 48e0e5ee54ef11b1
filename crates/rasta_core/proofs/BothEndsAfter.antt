-- From what a call does at one end to what is true of both after it.
use Rattle.std.proofs.Common.{◌≡◌, ℕ, ◌∙◌, ◌+◌, Bool, true, false, ◌&&◌, ◌||◌, not, if◌then◌else◌, ◌++◌, length, Option, Some, is_some, refl, sym, ap, subst, arith}
use Rattle.rasta_core_spec.specs.State.{LinkState, is_open, is_asking}
use Rattle.rasta_core_spec.specs.Outbox.{spellings}
use Rattle.rasta_core_spec.specs.identity.Identity.{Identity}
use Rattle.rasta_core_spec.specs.identity.Role.{Role}
use Rattle.rasta_core_spec.specs.identity.Role.TheVariants as role
use Rattle.rasta_core_spec.specs.Ends.{EndState, Outcome, reading_of, end_after, handed_out, newer, leaves}
use Rattle.rasta_core_spec.specs.Run.{Ends, end_of, with_end}
use Rattle.rasta_core_spec.specs.key.Key.{Key}
use Rattle.rasta_core_spec.specs.Each.{Each}
use Rattle.rasta_core_spec.specs.TrueClocks.{Offset}
use Rattle.rasta_core.specs.TimedEnds.{Standing, Inside, Outside, Past, Times, IsInside, IsOutside, closed_at, standing, timed, times_of}
use Rattle.rasta_core.specs.Timely.{AreTimed}
use Rattle.rasta_core_spec.specs.Names.{Names}
use Rattle.rasta_core.specs.Invariant.{InFlight, IsEnd, Timely}
use Rattle.rasta_core.proofs.Reception.{Reads}
use Rattle.rasta_core.proofs.Sounds.{standing_closed}
use Rattle.rasta_core.proofs.InsidePdus.{Acts, IsKept}
use Rattle.rasta_core.proofs.Conversation.{WrittenIsRead, HasTold, Leaves, after, conversation}

-- the two ends after a call that did this at one
abbrev pub made_at : Role → Outcome → Ends → Ends
made_at who made ends =
    let new = end_after made ends.moment (end_of who ends)
    in record (with_end who new ends) {
      sent = ends.sent ++ handed_out ends.time who new.connection (spellings (end_of who ends).link.identity.key made.pdus);
      moment = ends.moment + length made.pdus;
    }

pub open_inside : (l : LinkState) → IsInside (standing l) → is_open l.phase ≡ true
open_inside l inside = choose (is_open l.phase) inside
  where
    choose : (b : Bool) → IsInside (if b then Inside (is_asking l) l.own_stamp l.partner_stamp else Outside l.closed_at) → b ≡ true
    choose true i = refl
    choose false i = absurd i

pub shut_outside : (l : LinkState) → IsOutside (standing l) → is_open l.phase ≡ false
shut_outside l is_out = choose (is_open l.phase) is_out
  where
    choose : (b : Bool) → IsOutside (if b then Inside (is_asking l) l.own_stamp l.partner_stamp else Outside l.closed_at) → b ≡ false
    choose true i = absurd i
    choose false i = refl

left_after : (a b : Bool) (moment left : ℕ) → a ≡ true → b ≡ false → (if a && not b then moment else left) ≡ moment
left_after true false moment left ea eb = refl
left_after true true moment left ea eb = cc
left_after false b moment left ea eb = cc

left_before : (a b : Bool) (moment left : ℕ) → b ≡ true → (if a && not b then moment else left) ≡ left
left_before true true moment left eb = refl
left_before false true moment left eb = refl
left_before a false moment left eb = cc

pub leaving : (old new : LinkState) (enters : Option ℕ) (moment left : ℕ) → (is_open old.phase || is_some enters) ≡ true
    → Leaves (standing new) left (if leaves old enters new then moment else left) moment
leaving old new enters moment left moved = record {
  stays = λ i. left_before _ _ moment left (open_inside new i);
  goes = λ o. left_after _ _ moment left moved (shut_outside new o);
}

-- the client called, and when it left if it did; and the server called, which leaves the client's past
pub record Finished (names : Names) (client server : Offset) (ends : Ends) : Type 0 where
  pub timely : Timely names ends
  pub client_off : timely.of_client.offset ≡ client
  pub server_off : timely.of_server.offset ≡ server
  pub left_then : is_open ends.client.link.phase ≡ false → timely.of_client.left_clock ≡ ends.client.link.closed_at

pub record FinishedBy (names : Names) (past : Past) (server : Offset) (ends : Ends) : Type 0 where
  pub timely : Timely names ends
  pub same : timely.of_client.left_clock ≡ past.left_clock
  pub client_off : timely.of_client.offset ≡ past.offset
  pub server_off : timely.of_server.offset ≡ server

-- the invariant after an event, with what became of the client's past, and of how far the clocks are off
pub record FollowsOff (names : Names) (before : Ends) (is : Timely names before) (client server : Offset) (ends : Ends) : Type 0 where
  pub timely : Timely names ends
  pub client_off : timely.of_client.offset ≡ client
  pub server_off : timely.of_server.offset ≡ server
  pub stays : is_open before.client.link.phase ≡ false → is_open ends.client.link.phase ≡ false → timely.of_client.left_clock ≡ is.of_client.left_clock
  pub leaves : is_open before.client.link.phase ≡ true → is_open ends.client.link.phase ≡ false → timely.of_client.left_clock ≡ ends.client.link.closed_at

-- clocks are off no further
abbrev pub Follows : (names : Names) (before : Ends) (is : Timely names before) (ends : Ends) → Type 0
Follows names before is ends = FollowsOff names before is is.of_client.offset is.of_server.offset ends

pub not_shut : {A : Type 0} (b : Bool) → b ≡ true → b ≡ false → A
not_shut b e f = cc

pub client_follows : (names : Names) (ends : Ends) (is : Timely names ends) (later : Ends) → is_open ends.client.link.phase ≡ true → Finished names is.of_client.offset is.of_server.offset later → Follows names ends is later
client_follows names ends is later opened done = record {
  timely = done.timely;
  client_off = done.client_off;
  server_off = done.server_off;
  stays = λ shut o. not_shut (is_open ends.client.link.phase) opened shut;
  leaves = λ i o. done.left_then o;
}

pub server_follows : (names : Names) (ends : Ends) (is : Timely names ends) (later : Ends) → later.client ≡ ends.client → FinishedBy names is.of_client is.of_server.offset later → Follows names ends is later
server_follows names ends is later same done = record {
  timely = done.timely;
  client_off = done.client_off;
  server_off = done.server_off;
  stays = λ shut o. done.same;
  leaves = λ opened o. not_shut (is_open ends.client.link.phase) opened (ap (λ (e : EndState). is_open e.link.phase) (sym same) ∙ o);
}

pub reading : (now clock : ℕ) → now ≡ reading_of clock → Reads now clock
reading now clock e = record { reached = omega (arith, e); passed = omega (arith, e) }

-- what a call did at the client: it stood so before it uttered anything
abbrev pub before_client : Ends → Past → Past → ℕ → Outcome → Standing → Past → Times
before_client ends of_client of_server newest made stands past = record (times_of ends of_client of_server newest) {
  client = record (timed ends.client of_client) { standing = stands; connection = newer made.enters ends.client.connection; past = past };
}

pub record client_done (names : Names) (ends : Ends) (of_client of_server : Past) (newest : ℕ) (made : Outcome) (stands : Standing) (past : Past) : Type 0 where
  pub are : AreTimed (before_client ends of_client of_server newest made stands past)
  pub flies : Each (InFlight names (before_client ends of_client of_server newest made stands past)) ends.sent
  pub inside : IsInside stands
  pub acts : Acts ends.client.link.identity ends.client.link.clock stands (standing made.link) made.pdus
  pub keeps : IsKept ends.client.link made.link
  pub moved : (is_open ends.client.link.phase || is_some made.enters) ≡ true

pub client_finished : WrittenIsRead → (names : Names) (ends : Ends) (of_client of_server : Past) (newest : ℕ) (made : Outcome) (stands : Standing) (past : Past)
    → IsEnd names role.Client ends.client → IsEnd names role.Server ends.server
    → client_done names ends of_client of_server newest made stands past → Finished names past.offset of_server.offset (made_at role.Client made ends)
unfolding end_after
client_finished law names ends of_client of_server newest made stands past client server done = record {
  timely = record {
    of_client = told.past;
    of_server = of_server;
    newest = newest;
    client = record { identity = done.keeps.identity ∙ client.identity; clock = done.keeps.clock ∙ client.clock; sound = done.keeps.sound };
    server = server;
    ends_timed = told.are;
    datagrams = subst (λ (c : Option ℕ). Each (InFlight names final) (ends.sent ++ handed_out ends.time role.Client c (spellings ends.client.link.identity.key made.pdus))) (sym (done.are.client.in_newest done.inside))
        (subst (λ (key : Key). Each (InFlight names final) (ends.sent ++ handed_out ends.time role.Client (Some newest) (spellings key made.pdus))) (sym (ap (λ (i : Identity). i.key) client.identity)) told.datagrams);
  };
  left_then = λ o. told.left_then (subst IsOutside (sym (standing_closed made.link o)) tt) ∙ ap closed_at (standing_closed made.link o);
  client_off = told.off;
  server_off = refl;
}
  where
    left : ℕ
    left = if leaves ends.client.link made.enters made.link then ends.moment + length made.pdus else ends.client.left

    told : HasTold names role.Client (standing made.link) left (length made.pdus) (before_client ends of_client of_server newest made stands past) (ends.sent ++ handed_out ends.time role.Client (Some newest) (spellings names.key made.pdus))
    told = conversation law names ends.client.link.clock role.Client (before_client ends of_client of_server newest made stands past) made.pdus ends.sent (standing made.link) left
        done.are done.inside (reading _ _ client.clock) done.flies
        (subst (λ (i : Identity). Acts i ends.client.link.clock stands (standing made.link) made.pdus) client.identity done.acts)
        (leaving ends.client.link made.link made.enters (ends.moment + length made.pdus) ends.client.left done.moved)

    final : Times
    final = after role.Client (standing made.link) left told.past (length made.pdus) (before_client ends of_client of_server newest made stands past)

-- what a call did at the server: it stood so before it uttered anything
abbrev pub before_server : Ends → Past → Past → ℕ → Outcome → Standing → Past → Times
before_server ends of_client of_server newest made stands past = record (times_of ends of_client of_server newest) {
  server = record (timed ends.server of_server) { standing = stands; connection = newer made.enters ends.server.connection; past = past };
}

pub record server_done (names : Names) (ends : Ends) (of_client of_server : Past) (newest : ℕ) (made : Outcome) (stands : Standing) (past : Past) : Type 0 where
  pub are : AreTimed (before_server ends of_client of_server newest made stands past)
  pub flies : Each (InFlight names (before_server ends of_client of_server newest made stands past)) ends.sent
  pub inside : IsInside stands
  pub acts : Acts ends.server.link.identity ends.server.link.clock stands (standing made.link) made.pdus
  pub keeps : IsKept ends.server.link made.link
  pub moved : (is_open ends.server.link.phase || is_some made.enters) ≡ true

pub server_finished : WrittenIsRead → (names : Names) (ends : Ends) (of_client of_server : Past) (newest : ℕ) (made : Outcome) (stands : Standing) (past : Past)
    → IsEnd names role.Client ends.client → IsEnd names role.Server ends.server
    → server_done names ends of_client of_server newest made stands past → FinishedBy names of_client past.offset (made_at role.Server made ends)
unfolding end_after
server_finished law names ends of_client of_server newest made stands past client server done = record {
  timely = record {
    of_client = of_client;
    of_server = told.past;
    newest = newest;
    client = client;
    server = record { identity = done.keeps.identity ∙ server.identity; clock = done.keeps.clock ∙ server.clock; sound = done.keeps.sound };
    ends_timed = told.are;
    datagrams = subst (λ (c : Option ℕ). Each (InFlight names final) (ends.sent ++ handed_out ends.time role.Server c (spellings ends.server.link.identity.key made.pdus))) (sym (done.are.server.in_newest done.inside))
        (subst (λ (key : Key). Each (InFlight names final) (ends.sent ++ handed_out ends.time role.Server (Some newest) (spellings key made.pdus))) (sym (ap (λ (i : Identity). i.key) server.identity)) told.datagrams);
  };
  same = refl;
  client_off = refl;
  server_off = told.off;
}
  where
    left : ℕ
    left = if leaves ends.server.link made.enters made.link then ends.moment + length made.pdus else ends.server.left

    told : HasTold names role.Server (standing made.link) left (length made.pdus) (before_server ends of_client of_server newest made stands past) (ends.sent ++ handed_out ends.time role.Server (Some newest) (spellings names.key made.pdus))
    told = conversation law names ends.server.link.clock role.Server (before_server ends of_client of_server newest made stands past) made.pdus ends.sent (standing made.link) left
        done.are done.inside (reading _ _ server.clock) done.flies
        (subst (λ (i : Identity). Acts i ends.server.link.clock stands (standing made.link) made.pdus) server.identity done.acts)
        (leaving ends.server.link made.link made.enters (ends.moment + length made.pdus) ends.server.left done.moved)

    final : Times
    final = after role.Server (standing made.link) left told.past (length made.pdus) (before_server ends of_client of_server newest made stands past)
