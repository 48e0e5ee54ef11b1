-- A new connection comes up healthy; an end outside is quiet, and then down.
use Rattle.rasta_core_recovery.proofs.Words.Basics.{◌≡◌, ℕ, ◌∙◌, ◌+◌, ◌≤◌, ◌<◌, Bool, true, false, ◌&&◌, ◌==◌, not, nat_lt, if◌then◌else◌, List, [], ◌∷◌, ◌++◌, refl, sym, ap, subst, arith, nat_tests}
use Rattle.rasta_core_recovery.proofs.Words.Links.{LinkState, is_open, is_up, is_client, settled, deadline, state_at, Step, silent, then_do, limited, entered, beating, requesting, may_open, Verdict, Receipt, refusing, by_state, hearing, opening, ticking, Role, Phase, State, Names, identity_of, Pdu, Identity}
use Rattle.rasta_core_recovery.proofs.Lemmas.Rounds.Links.{Pair, heard, all_heard, worked, end_round, pair_rounds, the_step, same_step}
use Rattle.rasta_core_recovery.proofs.Lemmas.ComingUp.Healthy.{Healthy}
use Rattle.rasta_core_recovery.proofs.Lemmas.ComingUp.Opens.{Left, resting_link, comes_up}

abbrev pub both_down : Names → ℕ → ℕ → ℕ → ℕ → Left → Left → Pair
both_down names c s client_closed server_closed client server =
    record { client = resting_link names Role.Client c client_closed client; server = resting_link names Role.Server s server_closed server; to_client = []; to_server = [] }

pub new_is_healthy : (names : Names) (rest c s client_closed server_closed : ℕ) (client server : Left) → client_closed + 6000 ≤ c + 10 → server_closed + 6000 ≤ s + 20 → rest + 2 < 2147483000
    → Healthy names rest (pair_rounds 4 (both_down names c s client_closed server_closed client server))
new_is_healthy names rest c s client_closed server_closed client server h g room = subst (λ (p : Pair). Healthy names rest p) (sym (comes_up names c s client_closed server_closed client server h g)) (record {
  of_client = false;
  of_server = false;
  near = record {
    beside = record {
      client = refl;
      server = refl;
      to_client = refl;
      to_server = refl;
      hears_server = record {
        reads = refl;
        first = omega arith;
        some = omega arith;
        expected = refl;
        confirmed = omega arith;
        reading = s + 10 + 10;
        kept = refl;
        since = omega arith;
        before = omega arith;
        sent_before = omega arith;
        calm = omega arith;
        recent = omega arith;
        own_before = omega arith;
      };
      hears_client = record {
        reads = refl;
        first = omega arith;
        some = omega arith;
        expected = refl;
        confirmed = omega arith;
        reading = c + 10 + 10 + 10;
        kept = refl;
        since = omega arith;
        before = omega arith;
        sent_before = omega arith;
        calm = omega arith;
        recent = omega arith;
        own_before = omega arith;
      };
    };
    client_room = omega (arith, room);
    server_room = omega (arith, room);
  };
  steady_client = record { up = refl; alive = omega arith };
  steady_server = record { up = refl; alive = omega arith };
})

-- ---- outside

pub refused : (a b : Bool) (k : LinkState) (v w : Verdict) (r : Receipt) → r.link ≡ k → r.pdus ≡ []
    → ((if not a then refusing v k else if not b then refusing w k else r).link ≡ k) × ((if not a then refusing v k else if not b then refusing w k else r).pdus ≡ [])
refused true true k v w r e f = (e, f)
refused true false k v w r e f = (refl, refl)
refused false b k v w r e f = (refl, refl)

-- an end outside: the clock rules change nothing but its clock
pub settled_out : (now : ℕ) (l : LinkState) → is_open l.phase ≡ false → settled now l ≡ record l { clock = now }
unfolding settled
settled_out now l out = rw out refl

pub entered_out : (now : ℕ) (l : LinkState) → is_open l.phase ≡ false → entered now l ≡ silent (record l { clock = now })
unfolding entered limited
entered_out now l out = ap limited (settled_out now l out) ∙ rw out refl

pub quiet_then : (now : ℕ) (l : LinkState) → is_open l.phase ≡ false → now < l.closed_at + 6000 → state_at now l ≡ State.Quiet
unfolding state_at deadline
quiet_then now l out quiet = rw (out, early) refl
  where
    early : nat_lt now (l.closed_at + 6000) ≡ true
    early = let q = quiet in grind (arith, nat_tests)

pub down_then : (now : ℕ) (l : LinkState) → is_open l.phase ≡ false → l.closed_at + 6000 ≤ now → state_at now l ≡ State.Down
unfolding state_at deadline
down_then now l out over = rw (out, early) refl
  where
    early : nat_lt now (l.closed_at + 6000) ≡ false
    early = let q = over in grind (arith, nat_tests)

-- an end outside that is quiet refuses what comes
pub quiet_hearing : (pdu : Pdu) (k : LinkState) → is_open k.phase ≡ false → k.clock < k.closed_at + 6000 → ((hearing pdu k).link ≡ k) × ((hearing pdu k).pdus ≡ [])
unfolding hearing by_state
quiet_hearing pdu k out quiet =
    refused (pdu.receiver == k.identity.own) (pdu.sender == k.identity.partner) k Verdict.NotForMe Verdict.WrongSender (by_state (state_at k.clock k) pdu k)
    (ap (λ s. (by_state s pdu k).link) (quiet_then k.clock k out quiet)) (ap (λ s. (by_state s pdu k).pdus) (quiet_then k.clock k out quiet))

-- and doesn't open
pub quiet_may_not : (k : LinkState) → is_open k.phase ≡ false → k.clock < k.closed_at + 6000 → (if may_open k then requesting k else silent k) ≡ silent k
quiet_may_not k out quiet = rw (quiet_then k.clock k out quiet) (shut (is_client k.identity.role))
  where
    shut : (b : Bool) → (if b && false then requesting k else silent k) ≡ silent k
    shut true = refl
    shut false = refl

pub quiet_opening : (now : ℕ) (k : LinkState) → is_open k.phase ≡ false → now < k.closed_at + 6000 → opening now k ≡ silent (record k { clock = now })
unfolding opening
quiet_opening now k out quiet = ap (λ (s : Step). then_do s (λ j. if may_open j then requesting j else silent j)) (entered_out now k out) ∙ quiet_may_not (record k { clock = now }) out quiet

-- an end outside that is quiet: whatever comes, it stays so and says nothing
pub quiet_hears : (now : ℕ) (pdu : Pdu) (l : LinkState) → is_open l.phase ≡ false → now < l.closed_at + 6000 → heard now pdu l ≡ silent (record l { clock = now })
unfolding heard hearing by_state
quiet_hears now pdu l out quiet =
    ap (λ (s : Step). then_do s (λ k. record { link = (hearing pdu k).link; pdus = (hearing pdu k).pdus })) (entered_out now l out)
    ∙ same_step same.0 same.1
  where
    k : LinkState
    k = record l { clock = now }

    same : ((hearing pdu k).link ≡ k) × ((hearing pdu k).pdus ≡ [])
    same = refused (pdu.receiver == k.identity.own) (pdu.sender == k.identity.partner) k Verdict.NotForMe Verdict.WrongSender (by_state (state_at k.clock k) pdu k)
        (ap (λ s. (by_state s pdu k).link) (quiet_then now k out quiet)) (ap (λ s. (by_state s pdu k).pdus) (quiet_then now k out quiet))

pub quiet_hears_all : (now : ℕ) (pdus : List Pdu) (l : LinkState) → is_open l.phase ≡ false → now < l.closed_at + 6000 → l.clock ≡ now → all_heard now pdus l ≡ silent l
unfolding all_heard
quiet_hears_all now [] l out quiet at = refl
quiet_hears_all now (first ∷ others) l out quiet at =
    ap (λ (s : Step). then_do s (λ k. all_heard now others k)) (quiet_hears now first l out quiet ∙ ap (λ (c : ℕ). silent (record l { clock = c })) (sym at))
    ∙ ap (λ (s : Step). the_step s.link ([] ++ s.pdus)) (quiet_hears_all now others l out quiet at)

pub quiet_works : (now : ℕ) (who : Role) (l : LinkState) → is_open l.phase ≡ false → now < l.closed_at + 6000 → worked now who l ≡ silent (record l { clock = now })
unfolding worked ticking opening beating
quiet_works now who l out quiet = choose who
  where
    k : LinkState
    k = record l { clock = now }

    not_up : (p : Phase) → is_open p ≡ false → is_up p ≡ false
    not_up Phase.Closed o = refl
    not_up Phase.Start o = cc
    not_up Phase.Up o = cc
    not_up Phase.RetransmissionRequested o = cc
    not_up Phase.RetransmissionRunning o = cc

    ticks : ticking now l ≡ silent k
    ticks = ap (λ (s : Step). then_do s beating) (entered_out now l out) ∙ rw (not_up l.phase out) refl

    shut : (b : Bool) → (if b && false then requesting k else silent k) ≡ silent k
    shut true = refl
    shut false = refl

    opens_not : opening now k ≡ silent k
    opens_not = ap (λ (s : Step). then_do s (λ j. if may_open j then requesting j else silent j)) (entered_out now k out)
        ∙ rw (quiet_then now k out quiet) (shut (is_client l.identity.role))

    choose : (who : Role) → worked now who l ≡ silent k
    choose Role.Client = ap (λ (s : Step). then_do s (λ j. opening now j)) ticks ∙ opens_not
    choose Role.Server = ticks

-- a round at an end that is quiet until after it: nothing but its clock changes
pub quiet_stays : (now : ℕ) (pdus : List Pdu) (l : LinkState) → is_open l.phase ≡ false → now < l.closed_at + 6000 → end_round now pdus l ≡ silent (record l { clock = now })
unfolding end_round
quiet_stays now pdus l out quiet =
    ap (λ (k : LinkState). then_do (all_heard now pdus k) (λ j. worked now l.identity.role j)) (settled_out now l out)
    ∙ ap (λ (s : Step). then_do s (λ j. worked now l.identity.role j)) (quiet_hears_all now pdus (record l { clock = now }) out quiet refl)
    ∙ quiet_works now l.identity.role (record l { clock = now }) out quiet

closed_is : (p : Phase) → is_open p ≡ false → p ≡ Phase.Closed
closed_is Phase.Closed o = refl
closed_is Phase.Start o = cc
closed_is Phase.Up o = cc
closed_is Phase.RetransmissionRequested o = cc
closed_is Phase.RetransmissionRunning o = cc

abbrev pub left_of : LinkState → Left
left_of l = record { own_stamp = l.own_stamp; own_first = l.own_first; sent = l.sent; sent_at = l.sent_at; confirmed = l.confirmed; partner_first = l.partner_first; opening_stamp = l.opening_stamp; expected = l.expected; partner_stamp = l.partner_stamp; waiting = l.waiting; given = l.given; taken = l.taken }

-- an end outside, by what it keeps
pub out_is : (names : Names) (who : Role) (l : LinkState) → l.identity ≡ identity_of who names → is_open l.phase ≡ false → l ≡ resting_link names who l.clock l.closed_at (left_of l)
out_is names who l identity shut = ap (λ (p : Phase). record l { phase = p }) (closed_is l.phase shut) ∙ ap (λ (i : Identity). record l { phase = Phase.Closed; identity = i }) identity
