-- Time, restarts and losses keep the invariant, and it holds at the beginning.
use Rattle.std.proofs.Common.{◌≡◌, ℕ, ◌∙◌, ◌+◌, ◌*◌, ◌≤◌, ◌<◌, Bool, true, false, ◌&&◌, ◌||◌, not, nat_le, if◌then◌else◌, List, [], ◌∷◌, refl, sym, ap, subst, arith, leb-false}
use Rattle.rasta_core_spec.specs.Parameters.{time_limit}
use Rattle.rasta_core_spec.specs.State.{LinkState, is_open, is_asking}
use Rattle.rasta_core_spec.specs.Clock.{settled, deadline}
use Rattle.rasta_core_spec.specs.PdusHandedOut.{closed}
use Rattle.rasta_core_spec.specs.Calls.{created}
use Rattle.rasta_core_spec.specs.identity.Role.{Role}
use Rattle.rasta_core_spec.specs.identity.Role.TheVariants as role
use Rattle.rasta_core_spec.specs.Bag.{without_oldest, is_copy}
use Rattle.rasta_core_spec.specs.Ends.{Sent, EndState, reading_of, end_later, end_restarted}
use Rattle.rasta_core_spec.specs.Run.{Ends, later, lost, restarted}
use Rattle.rasta_core_spec.specs.Each.{Each}
use Rattle.rasta_core_spec.specs.TrueClocks.{GoesOff, IsSmall, Offset, set}
use Rattle.rasta_core.specs.TimedEnds.{Standing, Inside, Outside, Past, Timed, Times, IsInside, own_stamp, standing, timed, times_of}
use Rattle.rasta_core.specs.Moves.{clock_on, time_on, outside}
use Rattle.rasta_core.specs.Timely.{IsTimed, AreTimed}
use Rattle.rasta_core_spec.specs.Names.{Names, AreNames}
use Rattle.rasta_core.specs.Invariant.{InFlight, IsEnd, IsSound, Timely}
use Rattle.rasta_core_spec.specs.Events.{IsWithinDrift, new_end, Start, started}
use Rattle.rasta_core.proofs.EachLaws.{each_turned}
use Rattle.rasta_core.proofs.MovesOfEnds.{LivesOn, sent_on_kept, time_on_kept, client_out_kept, server_out_kept}
use Rattle.rasta_core.proofs.Datagrams.{known_sent_on, known_time_on, known_client_out, known_server_out}
use Rattle.rasta_core.proofs.Sounds.{standing_open}
use Rattle.rasta_core.proofs.States.{and_first}
use Rattle.rasta_core.proofs.Conversation.{in_flight_turned}
use Rattle.rasta_core.proofs.BothEndsAfter.{Follows, FollowsOff, not_shut}

-- ---- time

-- what time does at an end: it goes on, or leaves just before
pub data Settling (time moment own : ℕ) (offset : Offset) (end : EndState) (past : Past) : Type 0 where
  lives : timed (end_later own moment end) (record past { offset = offset }) ≡ clock_on own offset (timed end past) → LivesOn (clock_on own offset (timed end past))
      → is_open (end_later own moment end).link.phase ≡ is_open end.link.phase → Settling time moment own offset end past
  leaves_at : (closed : ℕ) → timed (end_later own moment end) (record past { left_at = time; left_clock = closed; offset = offset })
      ≡ clock_on own offset (outside time moment end.clock past.offset closed closed (timed end past))
      → end.clock ≤ 1000 * closed + 999 → is_open end.link.phase ≡ true → (end_later own moment end).link.closed_at ≡ closed → Settling time moment own offset end past

two_same : {A : Type 0} (f : Standing → ℕ → A) (s t : Standing) (l m : ℕ) → s ≡ t → l ≡ m → f s l ≡ f t m
two_same f s t l m e g = cc

left_then : (a b : Bool) (moment left : ℕ) → a ≡ true → b ≡ false → (if (a || false) && not b then moment else left) ≡ moment
left_then true false moment left ea eb = refl
left_then true true moment left ea eb = cc
left_then false b moment left ea eb = cc

left_same : (a b : Bool) (moment left : ℕ) → a ≡ b → (if (a || false) && not b then moment else left) ≡ left
left_same true true moment left e = refl
left_same true false moment left e = cc
left_same false b moment left e = refl

when_open : (b : Bool) (x y : ℕ) → b ≡ true → (if b then x else y) ≡ x
when_open true x y e = refl
when_open false x y e = cc

and_not : (a b : Bool) → a ≡ true → (a && b) ≡ false → b ≡ false
and_not true b e f = f
and_not false b e f = cc

-- a link after the clock rules, by their test
abbrev over : ℕ → LinkState → LinkState
over now l = record (closed l) { closed_at = deadline l; clock = now }

abbrev onward : ℕ → LinkState → LinkState
onward now l = record l { clock = now }

settled_over : (l : LinkState) (now : ℕ) → (is_open l.phase && nat_le (deadline l) now) ≡ true → settled now l ≡ over now l
unfolding settled
settled_over l now e = ap (λ (b : Bool). if b then over now l else onward now l) e

settled_onward : (l : LinkState) (now : ℕ) → (is_open l.phase && nat_le (deadline l) now) ≡ false → settled now l ≡ onward now l
unfolding settled
settled_onward l now e = ap (λ (b : Bool). if b then over now l else onward now l) e

opened : (l : LinkState) → IsInside (standing l) → is_open l.phase ≡ true
opened l i = pick (is_open l.phase) i
  where
    pick : (b : Bool) → IsInside (if b then Inside (is_asking l) l.own_stamp l.partner_stamp else Outside l.closed_at) → b ≡ true
    pick true i = refl
    pick false i = absurd i

until : (l : LinkState) → is_open l.phase ≡ true → deadline l ≡ l.own_stamp + time_limit
unfolding deadline
until l o = when_open (is_open l.phase) _ _ o

pub settling : (names : Names) (who : Role) (end : EndState) (past : Past) (time moment newest own : ℕ) (offset : Offset) → IsEnd names who end → IsTimed time moment newest (timed end past)
    → Settling time moment own offset end past
unfolding end_later
settling names who end past time moment newest own offset is timed_so = choose (is_open l.phase && nat_le (deadline l) now) refl
  where
    l : LinkState
    l = end.link

    now : ℕ
    now = reading_of (end.clock + own)

    stamp_is : is_open l.phase ≡ true → own_stamp (standing l) ≡ l.own_stamp
    stamp_is o = ap own_stamp (standing_open l o)

    inside : is_open l.phase ≡ true → IsInside (standing l)
    inside o = subst IsInside (sym (standing_open l o)) tt

    gone : (is_open l.phase && nat_le (deadline l) now) ≡ true → is_open l.phase ≡ true → Settling time moment own offset end past
    gone e o = leaves_at (deadline l)
        (two_same (λ (s : Standing) (left : ℕ). record { standing = s; clock = end.clock + own; connection = end.connection; left = left; past = record past { left_at = time; left_clock = deadline l; offset = offset } }) _ _ _ _
        (ap standing (settled_over l now e))
        (left_then (is_open l.phase) (is_open (settled now l).phase) moment end.left o (ap (λ (x : LinkState). is_open x.phase) (settled_over l now e))))
        (omega (arith, until l o, stamp_is o, timed_so.young (inside o))) o (ap (λ (x : LinkState). x.closed_at) (settled_over l now e))

    stays : (is_open l.phase && nat_le (deadline l) now) ≡ false → Settling time moment own offset end past
    stays e = lives
        (two_same (λ (s : Standing) (left : ℕ). record { standing = s; clock = end.clock + own; connection = end.connection; left = left; past = record past { offset = offset } }) _ _ _ _
        (ap standing (settled_onward l now e))
        (left_same (is_open l.phase) (is_open (settled now l).phase) moment end.left (sym (ap (λ (x : LinkState). is_open x.phase) (settled_onward l now e)))))
        (λ i. young i)
        (ap (λ (x : LinkState). is_open x.phase) (settled_onward l now e))
      where
        young : IsInside (standing l) → end.clock + own < 1000 * (own_stamp (standing l) + time_limit)
        young i =
            let o : is_open l.phase ≡ true = opened l i in
            let f : now < deadline l = leb-false _ _ (and_not (is_open l.phase) (nat_le (deadline l) now) o e) in
            omega (arith, f, until l o, stamp_is o)

    choose : (b : Bool) → (is_open l.phase && nat_le (deadline l) now) ≡ b → Settling time moment own offset end past
    choose true e = gone e (and_first (is_open l.phase) (nat_le (deadline l) now) e)
    choose false e = stays e

-- an end after the clock rules is still an end
settled_sound : (l : LinkState) (now : ℕ) → IsSound l → IsSound (settled now l)
unfolding settled
settled_sound l now sound = choose (is_open l.phase && nat_le (deadline l) now)
  where
    choose : (b : Bool) → IsSound (if b then over now l else onward now l)
    choose true = record { own = sound.own; partner = sound.partner; heard = sound.heard; items = sound.items }
    choose false = record { own = sound.own; partner = sound.partner; heard = sound.heard; items = sound.items }

settled_identity : (l : LinkState) (now : ℕ) → (settled now l).identity ≡ l.identity
unfolding settled
settled_identity l now = choose (is_open l.phase && nat_le (deadline l) now)
  where
    choose : (b : Bool) → (if b then over now l else onward now l).identity ≡ l.identity
    choose true = refl
    choose false = refl

settled_clock : (l : LinkState) (now : ℕ) → (settled now l).clock ≡ now
unfolding settled
settled_clock l now = choose (is_open l.phase && nat_le (deadline l) now)
  where
    choose : (b : Bool) → (if b then over now l else onward now l).clock ≡ now
    choose true = refl
    choose false = refl

end_later_is : (names : Names) (who : Role) (own moment : ℕ) (end : EndState) → IsEnd names who end → IsEnd names who (end_later own moment end)
unfolding end_later
end_later_is names who own moment end is = record {
  identity = settled_identity end.link (reading_of (end.clock + own)) ∙ is.identity;
  clock = settled_clock end.link (reading_of (end.clock + own));
  sound = settled_sound end.link (reading_of (end.clock + own)) is.sound;
}

-- both ends after the clock rules, before time goes on
record Settled (names : Names) (past server_before : Past) (before later : LinkState) (times : Times) (sent : List Sent) (of_client of_server : ℕ) (client_off server_off : Offset) (client server : Past → Timed) : Type 0 where
  client_past : Past
  server_past : Past
  client_is : client_past.offset ≡ client_off
  server_is : server_past.offset ≡ server_off
  client_then : Timed
  server_then : Timed
  client_was : client_then.past.offset ≡ past.offset
  server_was : server_then.past.offset ≡ server_before.offset
  client_same : client client_past ≡ clock_on of_client client_off client_then
  server_same : server server_past ≡ clock_on of_server server_off server_then
  client_lives : LivesOn (clock_on of_client client_off client_then)
  server_lives : LivesOn (clock_on of_server server_off server_then)
  are : AreTimed (record times { client = client_then; server = server_then })
  flies : Each (InFlight names (record times { client = client_then; server = server_then })) sent
  stays : is_open before.phase ≡ false → client_past.left_clock ≡ past.left_clock
  leaves : is_open before.phase ≡ true → is_open later.phase ≡ false → client_past.left_clock ≡ later.closed_at

settled_both : (names : Names) (ends : Ends) (is : Timely names ends) (of_client of_server : ℕ) (client_off server_off : Offset)
    → Settling ends.time ends.moment of_client client_off ends.client is.of_client → Settling ends.time ends.moment of_server server_off ends.server is.of_server
    → Settled names is.of_client is.of_server ends.client.link (end_later of_client ends.moment ends.client).link (times_of ends is.of_client is.of_server is.newest) ends.sent of_client of_server client_off server_off
    (λ past. timed (end_later of_client ends.moment ends.client) past) (λ past. timed (end_later of_server ends.moment ends.server) past)
settled_both names ends is of_client of_server client_off server_off (lives e l so) (lives f m too) = record {
  client_past = record is.of_client { offset = client_off };
  server_past = record is.of_server { offset = server_off };
  client_then = timed ends.client is.of_client;
  server_then = timed ends.server is.of_server;
  client_is = refl;
  server_is = refl;
  client_was = refl;
  server_was = refl;
  client_same = e;
  server_same = f;
  client_lives = l;
  server_lives = m;
  are = is.ends_timed;
  flies = is.datagrams;
  stays = λ out. refl;
  leaves = λ was_in out. not_shut (is_open ends.client.link.phase) was_in (sym so ∙ out);
}
settled_both names ends is of_client of_server client_off server_off (leaves_at closed e soon was at) (lives f m too) = record {
  client_past = record is.of_client { left_at = ends.time; left_clock = closed; offset = client_off };
  server_past = record is.of_server { offset = server_off };
  client_then = outside ends.time ends.moment ends.client.clock is.of_client.offset closed closed (timed ends.client is.of_client);
  server_then = timed ends.server is.of_server;
  client_is = refl;
  server_is = refl;
  client_was = refl;
  server_was = refl;
  client_same = e;
  server_same = f;
  client_lives = λ i. absurd i;
  server_lives = m;
  are = client_out_kept ends.client.clock is.of_client.offset closed closed times is.ends_timed.client.small soon refl is.ends_timed;
  flies = each_turned (InFlight names times) _ (in_flight_turned names times _ (known_client_out ends.client.clock is.of_client.offset closed closed times)) ends.sent is.datagrams;
  stays = λ out. not_shut (is_open ends.client.link.phase) was out;
  leaves = λ was_in out. sym at;
}
  where
    times : Times
    times = times_of ends is.of_client is.of_server is.newest
settled_both names ends is of_client of_server client_off server_off (lives e l so) (leaves_at closed f soon was at) = record {
  client_past = record is.of_client { offset = client_off };
  server_past = record is.of_server { left_at = ends.time; left_clock = closed; offset = server_off };
  client_then = timed ends.client is.of_client;
  server_then = outside ends.time ends.moment ends.server.clock is.of_server.offset closed closed (timed ends.server is.of_server);
  client_is = refl;
  server_is = refl;
  client_was = refl;
  server_was = refl;
  client_same = e;
  server_same = f;
  client_lives = l;
  server_lives = λ i. absurd i;
  are = server_out_kept ends.server.clock is.of_server.offset closed closed times is.ends_timed.server.small soon refl is.ends_timed;
  flies = each_turned (InFlight names times) _ (in_flight_turned names times _ (known_server_out ends.server.clock is.of_server.offset closed closed times)) ends.sent is.datagrams;
  stays = λ out. refl;
  leaves = λ was_in out. not_shut (is_open ends.client.link.phase) was_in (sym so ∙ out);
}
  where
    times : Times
    times = times_of ends is.of_client is.of_server is.newest
settled_both names ends is of_client of_server client_off server_off (leaves_at closed e soon was at) (leaves_at shut f soon_too was_too at_too) = record {
  client_past = record is.of_client { left_at = ends.time; left_clock = closed; offset = client_off };
  server_past = record is.of_server { left_at = ends.time; left_clock = shut; offset = server_off };
  client_then = outside ends.time ends.moment ends.client.clock is.of_client.offset closed closed (timed ends.client is.of_client);
  server_then = outside ends.time ends.moment ends.server.clock is.of_server.offset shut shut (timed ends.server is.of_server);
  client_is = refl;
  server_is = refl;
  client_was = refl;
  server_was = refl;
  client_same = e;
  server_same = f;
  client_lives = λ i. absurd i;
  server_lives = λ i. absurd i;
  are = server_out_kept ends.server.clock is.of_server.offset shut shut half is.ends_timed.server.small soon_too refl (client_out_kept ends.client.clock is.of_client.offset closed closed times is.ends_timed.client.small soon refl is.ends_timed);
  flies = each_turned (InFlight names half) _ (in_flight_turned names half _ (known_server_out ends.server.clock is.of_server.offset shut shut half)) ends.sent
      (each_turned (InFlight names times) (InFlight names half) (in_flight_turned names times half (known_client_out ends.client.clock is.of_client.offset closed closed times)) ends.sent is.datagrams);
  stays = λ out. not_shut (is_open ends.client.link.phase) was out;
  leaves = λ was_in out. sym at;
}
  where
    times : Times
    times = times_of ends is.of_client is.of_server is.newest

    half : Times
    half = record times { client = outside ends.time ends.moment ends.client.clock is.of_client.offset closed closed (timed ends.client is.of_client) }

two_timed : {A : Type 0} (f : Timed → Timed → A) (a b c d : Timed) → a ≡ b → c ≡ d → f a c ≡ f b d
two_timed f a b c d e g = cc

pub later_off : (names : Names) (elapsed of_client of_server : ℕ) (client server : Offset) (ends : Ends) (is : Timely names ends) → GoesOff elapsed of_client is.of_client.offset client
    → GoesOff elapsed of_server is.of_server.offset server → FollowsOff names ends is client server (later elapsed of_client of_server ends)
unfolding later
later_off names elapsed of_client of_server client server ends is goes goes_too = record {
  timely = record {
    of_client = both.client_past;
    of_server = both.server_past;
    newest = is.newest;
    client = end_later_is names role.Client of_client ends.moment ends.client is.client;
    server = end_later_is names role.Server of_server ends.moment ends.server is.server;
    ends_timed = subst AreTimed (sym same) (time_on_kept elapsed of_client of_server client server between off off_too both.client_lives both.server_lives both.are);
    datagrams = subst (λ (t : Times). Each (InFlight names t) ends.sent) (sym same)
        (each_turned (InFlight names between) _ (in_flight_turned names between _ (known_time_on elapsed of_client of_server client server between off off_too)) ends.sent both.flies);
  };
  client_off = both.client_is;
  server_off = both.server_is;
  stays = λ shut o. both.stays shut;
  leaves = both.leaves;
}
  where
    times : Times
    times = times_of ends is.of_client is.of_server is.newest

    both : Settled names is.of_client is.of_server ends.client.link (end_later of_client ends.moment ends.client).link times ends.sent of_client of_server client server (λ past. timed (end_later of_client ends.moment ends.client) past) (λ past. timed (end_later of_server ends.moment ends.server) past)
    both = settled_both names ends is of_client of_server client server
        (settling names role.Client ends.client is.of_client ends.time ends.moment is.newest of_client client is.client is.ends_timed.client)
        (settling names role.Server ends.server is.of_server ends.time ends.moment is.newest of_server server is.server is.ends_timed.server)

    between : Times
    between = record times { client = both.client_then; server = both.server_then }

    off : GoesOff elapsed of_client both.client_then.past.offset client
    off = subst (λ (o : Offset). GoesOff elapsed of_client o client) (sym both.client_was) goes

    off_too : GoesOff elapsed of_server both.server_then.past.offset server
    off_too = subst (λ (o : Offset). GoesOff elapsed of_server o server) (sym both.server_was) goes_too

    same : times_of (later elapsed of_client of_server ends) both.client_past both.server_past is.newest ≡ time_on elapsed of_client of_server client server between
    same = two_timed (λ (c s : Timed). record { time = ends.time + elapsed; client = c; server = s; moment = ends.moment; newest = is.newest }) _ _ _ _ both.client_same both.server_same

-- a clock that keeps within the drift is off no further
within_off : (elapsed own : ℕ) (offset : Offset) → IsSmall offset → IsWithinDrift elapsed own → GoesOff elapsed own offset offset
within_off elapsed own offset small within = record { small = small; least = omega (arith, within.least); most = omega (arith, within.most) }

pub later_kept : (names : Names) (elapsed of_client of_server : ℕ) (ends : Ends) (is : Timely names ends) → IsWithinDrift elapsed of_client → IsWithinDrift elapsed of_server
    → Follows names ends is (later elapsed of_client of_server ends)
later_kept names elapsed of_client of_server ends is within within_too =
    later_off names elapsed of_client of_server is.of_client.offset is.of_server.offset ends is
    (within_off elapsed of_client is.of_client.offset is.ends_timed.client.small within) (within_off elapsed of_server is.of_server.offset is.ends_timed.server.small within_too)

-- ---- restarts

restarted_sound : (names : Names) (who : Role) (end : EndState) (clock first moment : ℕ) → IsEnd names who end → IsEnd names who (end_restarted clock first moment end)
unfolding end_restarted created
restarted_sound names who end clock first moment is = record {
  identity = is.identity;
  clock = omega arith;
  sound = record { own = is.sound.own; partner = is.sound.partner; heard = omega arith; items = tt };
}

set_small : IsSmall set
set_small = record { behind = omega arith; ahead = omega arith }

-- the client made anew
pub record Renewed (names : Names) (clock : ℕ) (server : Offset) (ends : Ends) : Type 0 where
  pub timely : Timely names ends
  pub left_then : timely.of_client.left_clock ≡ clock
  pub is_out : is_open ends.client.link.phase ≡ false
  pub client_off : timely.of_client.offset ≡ set
  pub server_off : timely.of_server.offset ≡ server

pub client_restarted : (names : Names) (clock first : ℕ) (ends : Ends) → (is : Timely names ends) → Renewed names clock is.of_server.offset (restarted role.Client clock first ends)
unfolding restarted end_restarted created
client_restarted names clock first ends is = record {
  timely = record {
    of_client = record is.of_client { left_at = ends.time; left_clock = clock; offset = set };
    of_server = is.of_server;
    newest = is.newest;
    client = restarted_sound names role.Client ends.client clock first ends.moment is.client;
    server = is.server;
    ends_timed = client_out_kept (clock * 1000) set clock clock times set_small (omega arith) refl is.ends_timed;
    datagrams = each_turned (InFlight names times) _ (in_flight_turned names times _ (known_client_out (clock * 1000) set clock clock times)) ends.sent is.datagrams;
  };
  left_then = refl;
  is_out = refl;
  client_off = refl;
  server_off = refl;
}
  where
    times : Times
    times = times_of ends is.of_client is.of_server is.newest

-- the client goes on where the server is made anew
pub server_restarted : (names : Names) (clock first : ℕ) (ends : Ends) (is : Timely names ends) → FollowsOff names ends is is.of_client.offset set (restarted role.Server clock first ends)
unfolding restarted end_restarted created
server_restarted names clock first ends is = record {
  timely = record {
    of_client = is.of_client;
    of_server = record is.of_server { left_at = ends.time; left_clock = clock; offset = set };
    newest = is.newest;
    client = is.client;
    server = restarted_sound names role.Server ends.server clock first ends.moment is.server;
    ends_timed = server_out_kept (clock * 1000) set clock clock times set_small (omega arith) refl is.ends_timed;
    datagrams = each_turned (InFlight names times) _ (in_flight_turned names times _ (known_server_out (clock * 1000) set clock clock times)) ends.sent is.datagrams;
  };
  client_off = refl;
  server_off = refl;
  stays = λ shut o. refl;
  leaves = λ was o. not_shut (is_open ends.client.link.phase) was o;
}
  where
    times : Times
    times = times_of ends is.of_client is.of_server is.newest

-- ---- losses, and what is sent elsewhere

lost_flies : (names : Names) (times : Times) (bytes : List ℕ) (sent : List Sent) → Each (InFlight names times) sent → Each (InFlight names times) (without_oldest bytes sent)
lost_flies names times bytes [] flies = tt
lost_flies names times bytes (first ∷ others) flies = choose (is_copy bytes first) (lost_flies names times bytes others flies.1)
  where
    gone : InFlight names times (record first { is_lost = true })
    gone = record { pdu = flies.0.pdu; is_pdu = flies.0.is_pdu; read = flies.0.read; receiver = flies.0.receiver; sender = flies.0.sender; back = flies.0.back; known = flies.0.known }

    choose : (b : Bool) → Each (InFlight names times) (without_oldest bytes others)
        → Each (InFlight names times) (if b then (record first { is_lost = true }) ∷ others else first ∷ without_oldest bytes others)
    choose true rest = (gone, flies.1)
    choose false rest = (flies.0, rest)

pub lost_kept : (names : Names) (bytes : List ℕ) (ends : Ends) (is : Timely names ends) → Follows names ends is (lost bytes ends)
unfolding lost
lost_kept names bytes ends is = record {
  timely = record {
    of_client = is.of_client;
    of_server = is.of_server;
    newest = is.newest;
    client = is.client;
    server = is.server;
    ends_timed = is.ends_timed;
    datagrams = lost_flies names (times_of ends is.of_client is.of_server is.newest) bytes ends.sent is.datagrams;
  };
  client_off = refl;
  server_off = refl;
  stays = λ shut o. refl;
  leaves = λ was o. not_shut (is_open ends.client.link.phase) was o;
}

pub elsewhere_kept : (names : Names) (count : ℕ) (ends : Ends) (is : Timely names ends) → Follows names ends is (record ends { moment = ends.moment + count })
elsewhere_kept names count ends is = record {
  timely = record {
    of_client = is.of_client;
    of_server = is.of_server;
    newest = is.newest;
    client = is.client;
    server = is.server;
    ends_timed = sent_on_kept count times is.ends_timed;
    datagrams = each_turned (InFlight names times) _ (in_flight_turned names times _ (known_sent_on count times)) ends.sent is.datagrams;
  };
  client_off = refl;
  server_off = refl;
  stays = λ shut o. refl;
  leaves = λ was o. not_shut (is_open ends.client.link.phase) was o;
}
  where
    times : Times
    times = times_of ends is.of_client is.of_server is.newest

-- ---- the beginning

new_is_end : (names : Names) (who : Role) (clock first moment : ℕ) → AreNames names → IsEnd names who (new_end names who clock first moment)
unfolding created
new_is_end names role.Client clock first moment are = record { identity = refl; clock = omega arith; sound = record { own = are.client; partner = are.server; heard = omega arith; items = tt } }
new_is_end names role.Server clock first moment are = record { identity = refl; clock = omega arith; sound = record { own = are.server; partner = are.client; heard = omega arith; items = tt } }

new_timed : (names : Names) (who : Role) (clock first time moment : ℕ) → IsTimed time moment 0 (timed (new_end names who clock first moment) (record { left_at = time; left_clock = clock; returned_at = 0; heard_at = 0; heard_clock = 0; offset = set }))
unfolding created
new_timed names who clock first time moment = record {
  small = set_small;
  left_before = omega arith;
  returned_before = omega arith;
  heard_before = omega arith;
  left_counted = omega arith;
  began = λ c e. cc;
  in_newest = λ i. absurd i;
  was_read = λ i. absurd i;
  reached = λ i. absurd i;
  young = λ i. absurd i;
  apart = λ o. omega arith;
  closed = λ o. refl;
  heard_is = λ h. absurd h;
  prompt = λ h. absurd h;
  over = λ o c e. cc;
}

pub started_timely : (names : Names) (start : Start) → AreNames names → Renewed names start.client_clock set (started names start)
unfolding created
started_timely names start are = record {
  timely = record {
    of_client = record { left_at = start.time; left_clock = start.client_clock; returned_at = 0; heard_at = 0; heard_clock = 0; offset = set };
    of_server = record { left_at = start.time; left_clock = start.server_clock; returned_at = 0; heard_at = 0; heard_clock = 0; offset = set };
    newest = 0;
    client = new_is_end names role.Client start.client_clock start.client_first start.moment are;
    server = new_is_end names role.Server start.server_clock start.server_first start.moment are;
    ends_timed = record {
      client = new_timed names role.Client start.client_clock start.client_first start.time start.moment;
      server = new_timed names role.Server start.server_clock start.server_first start.time start.moment;
      begun = λ i. absurd i;
      joined = λ h. absurd h;
      client_heard = λ h. absurd h;
      server_heard = λ h. absurd h;
      server_alone = λ i. absurd i;
      client_alone = λ i. absurd i;
    };
    datagrams = tt;
  };
  left_then = refl;
  is_out = refl;
  client_off = refl;
  server_off = refl;
}
