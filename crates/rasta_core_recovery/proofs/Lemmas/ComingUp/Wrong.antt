-- A client that doesn't open again stays outside, and so does its server.
use Rattle.rasta_core_recovery.proofs.Words.Basics.{◌≡◌, ℕ, zero, suc, ◌∙◌, ◌+◌, Bool, true, false, List, [], ◌∷◌, ◌++◌, length, drop, refl, sym, ap, subst, arith}
use Rattle.rasta_core_recovery.proofs.Words.Links.{LinkState, is_open, settled, deadline, state_at, spellings, Step, silent, then_do, entered, limited, beating, sending, beginning, requesting, created, opening, ticking, Role, Sent, EndState, Ticks, outcome, end_after, end_later, handed_out, reading_of, Ends, end_of, called, later, Passes, MayRun, run, started, Names}
use Rattle.rasta_core_recovery.proofs.Words.Recovery.{AreUp, Flow, comings, flow_after, NeverUp, RestsFor, asks_in_vain, asks_once, at_zero, round_where, rounds_where, work_where}
use Rattle.rasta_core_recovery.proofs.Lemmas.Rounds.Fold.{not_up}
use Rattle.rasta_core_recovery.proofs.Lemmas.ComingUp.Stays.{settled_out, entered_out}
use Rattle.rasta_core_recovery.proofs.Lemmas.FirstRound.AnyFirst.{later_sent}

-- ---- an end outside

out_ticks : (now : ℕ) (l : LinkState) → is_open l.phase ≡ false → ticking now l ≡ silent (record l { clock = now })
unfolding ticking beating
out_ticks now l out = ap (λ (s : Step). then_do s beating) (entered_out now l out) ∙ rw (not_up l.phase out) refl

-- what is so of it: it is outside, and has sent so many PDUs in its last connection
record IsOut (count : ℕ) (end : EndState) : Type 0 where
  phase : is_open end.link.phase ≡ false
  sent : end.link.sent ≡ count

out_later : (elapsed moment count : ℕ) (end : EndState) → IsOut count end → IsOut count (end_later elapsed moment end)
unfolding end_later
out_later elapsed moment count end is =
    let e = settled_out (reading_of (end.clock + elapsed)) end.link is.phase in record {
      phase = ap (λ (l : LinkState). is_open l.phase) e ∙ is.phase;
      sent = ap (λ (l : LinkState). l.sent) e ∙ is.sent;
    }

out_after : (moment count : ℕ) (end : EndState) → IsOut count end → IsOut count (end_after (outcome Ticks moment end) moment end)
unfolding end_after outcome
out_after moment count end is =
    let e = out_ticks (reading_of end.clock) end.link is.phase in record {
      phase = ap (λ (s : Step). is_open s.link.phase) e ∙ is.phase;
      sent = ap (λ (s : Step). s.link.sent) e ∙ is.sent;
    }

nil_right : {X : Type 0} (xs : List X) → xs ++ [] ≡ xs
nil_right [] = refl
nil_right (x ∷ xs) = ap (λ ys. x ∷ ys) (nil_right xs)

sends_none : (who : Role) (ends : Ends) → is_open (end_of who ends).link.phase ≡ false → (called who Ticks ends).sent ≡ ends.sent
unfolding called outcome
sends_none who ends out =
    ap (λ (s : Step). ends.sent ++ handed_out ends.time who (end_after (outcome Ticks ends.moment (end_of who ends)) ends.moment (end_of who ends)).connection (spellings (end_of who ends).link.identity.key s.pdus))
    (out_ticks (reading_of (end_of who ends).clock) (end_of who ends).link out)
    ∙ nil_right ends.sent

client_after : (ends : Ends) → (called Role.Client Ticks ends).client ≡ end_after (outcome Ticks ends.moment ends.client) ends.moment ends.client
unfolding called
client_after ends = refl

client_other : (ends : Ends) → (called Role.Client Ticks ends).server ≡ ends.server
unfolding called
client_other ends = refl

server_after : (ends : Ends) → (called Role.Server Ticks ends).server ≡ end_after (outcome Ticks ends.moment ends.server) ends.moment ends.server
unfolding called
server_after ends = refl

server_other : (ends : Ends) → (called Role.Server Ticks ends).client ≡ ends.client
unfolding called
server_other ends = refl

later_client : (ends : Ends) → (later 10000 10000 10000 ends).client ≡ end_later 10000 ends.moment ends.client
unfolding later
later_client ends = refl

later_server : (ends : Ends) → (later 10000 10000 10000 ends).server ≡ end_later 10000 ends.moment ends.server
unfolding later
later_server ends = refl

-- ---- two ends outside, and nothing under way

record AreOut (count : ℕ) (sent : List Sent) (ends : Ends) : Type 0 where
  client : IsOut count ends.client
  server : is_open ends.server.link.phase ≡ false
  same : ends.sent ≡ sent

out_passes : (count : ℕ) (sent : List Sent) (ends : Ends) → AreOut count sent ends → AreOut count sent (later 10000 10000 10000 ends)
out_passes count sent ends are = record {
  client = subst (IsOut count) (sym (later_client ends)) (out_later 10000 ends.moment count ends.client are.client);
  server = (subst (IsOut ends.server.link.sent) (sym (later_server ends)) (out_later 10000 ends.moment ends.server.link.sent ends.server (record { phase = are.server; sent = refl }))).phase;
  same = later_sent ends ∙ are.same;
}

client_ticks : (count : ℕ) (sent : List Sent) (ends : Ends) → AreOut count sent ends → AreOut count sent (called Role.Client Ticks ends)
client_ticks count sent ends are = record {
  client = subst (IsOut count) (sym (client_after ends)) (out_after ends.moment count ends.client are.client);
  server = ap (λ (e : EndState). is_open e.link.phase) (client_other ends) ∙ are.server;
  same = sends_none Role.Client ends are.client.phase ∙ are.same;
}

server_ticks : (count : ℕ) (sent : List Sent) (ends : Ends) → AreOut count sent ends → AreOut count sent (called Role.Server Ticks ends)
server_ticks count sent ends are = record {
  client = subst (IsOut count) (sym (server_other ends)) are.client;
  server = (subst (IsOut ends.server.link.sent) (sym (server_after ends)) (out_after ends.moment ends.server.link.sent ends.server (record { phase = are.server; sent = refl }))).phase;
  same = sends_none Role.Server ends are.server ∙ are.same;
}

work_out : (count : ℕ) (sent : List Sent) (ends : Ends) (ds : List Sent) (b : Bool) → ds ≡ [] → b ≡ false → AreOut count sent ends
    → AreOut count sent (run (Passes 10000 10000 10000 ∷ (comings (ends.time + 10000) ds ++ work_where b)) ends)
work_out count sent ends [] false none shut are = server_ticks count sent _ (client_ticks count sent _ (out_passes count sent ends are))
work_out count sent ends [] true none shut are = absurd (cc shut)
work_out count sent ends (d ∷ ds) b none shut are = absurd (cc none)

drop_all : {X : Type 0} (xs : List X) → drop (length xs) xs ≡ []
drop_all [] = refl
drop_all (x ∷ xs) = drop_all xs

rests_on : (opens : ℕ → Bool) (f : Flow) → RestsFor opens f → RestsFor opens (round_where opens f)
unfolding round_where
rests_on opens f rests = made (work_out f.ends.client.link.sent f.ends.sent f.ends (drop f.passed f.ends.sent) (opens f.ends.client.link.sent) rests.none rests.shut
    (record { client = record { phase = rests.client; sent = refl }; server = rests.server; same = refl }))
  where
    new : Ends
    new = run (Passes 10000 10000 10000 ∷ (comings (f.ends.time + 10000) (drop f.passed f.ends.sent) ++ work_where (opens f.ends.client.link.sent))) f.ends

    made : AreOut f.ends.client.link.sent f.ends.sent new → RestsFor opens (record { ends = new; passed = length f.ends.sent })
    made are = record {
      client = are.client.phase;
      server = are.server;
      none = ap (drop (length f.ends.sent)) are.same ∙ drop_all f.ends.sent;
      shut = ap opens are.client.sent ∙ rests.shut;
    }

pub rests_for_ever : (opens : ℕ → Bool) (n : ℕ) (f : Flow) → RestsFor opens f → RestsFor opens (rounds_where opens n f)
rests_for_ever opens zero f rests = rests
rests_for_ever opens (suc n) f rests = rests_on opens (rounds_where opens n f) (rests_for_ever opens n f rests)

rests_down : (opens : ℕ → Bool) (f : Flow) → RestsFor opens f → AreUp f.ends → ⊥
rests_down opens f rests up = absurd (cc (up.0, not_up f.ends.client.link.phase rests.client))

-- ---- a client that asked in vain

in_vain : (names : Names) → RestsFor asks_once (flow_after names at_zero asks_in_vain 1)
unfolding later end_later settled deadline created called outcome end_after opening entered limited requesting beginning state_at sending
in_vain names = record { client = refl; server = refl; none = refl; shut = refl }

may_ask : (names : Names) → MayRun names asks_in_vain (started names at_zero)
may_ask names = (
  (record { least = omega arith; most = omega arith }, record { least = omega arith; most = omega arith }),
  (tt, ((record { least = omega arith; most = omega arith }, record { least = omega arith; most = omega arith }), tt)),
)

pub asks_for_nothing : (names : Names) → NeverUp names asks_once asks_in_vain
asks_for_nothing names = record {
  may = may_ask names;
  never = λ n. rests_down asks_once (rounds_where asks_once n (flow_after names at_zero asks_in_vain 1)) (rests_for_ever asks_once n (flow_after names at_zero asks_in_vain 1) (in_vain names));
}
