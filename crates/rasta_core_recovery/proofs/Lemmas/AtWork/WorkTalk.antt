-- Two ends that have joined a connection and stay in it at work: each comes to take what the other says.
use Rattle.rasta_core_recovery.proofs.Words.Basics.{◌≡◌, ℕ, ◌+◌, ◌^◌, ◌≤◌, ◌<◌, Bool, true, false, List, [], ◌∷◌, refl, sym, ap, subst, arith}
use Rattle.rasta_core_recovery.proofs.Words.Links.{LinkState, is_open, settled, Step, Role, Pdu, Each, Names}
use Rattle.rasta_core_recovery.proofs.Lemmas.Rounds.Links.{Pair, heard}
use Rattle.rasta_core_recovery.proofs.Lemmas.Rounds.Acts.{Act, acted, IsWork, HasRoom, Roomy, WorkRound, client_step, server_step, behind}
use Rattle.rasta_core_recovery.proofs.Lemmas.Rounds.Calls.{at_reading}
use Rattle.rasta_core_recovery.proofs.Lemmas.Rounds.Fold.{Next, gone_next, stays_next}
use Rattle.rasta_core_recovery.proofs.Lemmas.Rounds.Own.{Utters, Calm}
use Rattle.rasta_core_recovery.proofs.Lemmas.AtWork.WorkFold.{Done, gone_done, so_done, round_through}
use Rattle.rasta_core_recovery.proofs.Lemmas.Rounds.Course.{Joined, lively}
use Rattle.rasta_core_recovery.proofs.Lemmas.ComingUp.TunedEnds.{IsPlainPdu, Round, Bounds}
use Rattle.rasta_core_recovery.proofs.Lemmas.Rounds.Turn.{Either, gone, so, Numbers, reading_joined}
use Rattle.rasta_core_recovery.proofs.Lemmas.ComingUp.Returned.{IsReturned, Returns, Any, returns_step}
use Rattle.rasta_core_recovery.proofs.Lemmas.ComingUp.Converse.{Talk, client_round, server_round, bounds, hearing_now, Goes, Part, goes_by, server_bounds_of}
use Rattle.rasta_core_recovery.proofs.Lemmas.ComingUp.Seen.{BothIn, Rows}
use Rattle.rasta_core_recovery.proofs.Lemmas.AtWork.WorkTurn.{IsSimplePdu, utters_joined, numbers_at_work, Worked, Left, has_left, stays_in, turns_at_work}

-- ---- the first rounds

pub client_numbers : (p : Pair) (r : WorkRound p) → Joined p.client.clock p.client → Either (p.client.clock + 10) (client_step p r).link (Numbers (p.client.clock + 10) p.client (client_step p r))
client_numbers p r is = numbers_at_work Role.Client (p.client.clock + 10) p.to_client r.client_acts p.client r.client_work is refl r.client_room

pub server_numbers : (p : Pair) (r : WorkRound p) → Joined p.server.clock p.server → Either (p.server.clock + 10) (server_step p r).link (Numbers (p.server.clock + 10) p.server (server_step p r))
server_numbers p r is = numbers_at_work Role.Server (p.server.clock + 10) p.to_server r.server_acts p.server r.server_work is refl r.server_room

pub still_in : (now : ℕ) (k : LinkState) (A : Type 0) → is_open k.phase ≡ true → Either now k A → A
still_in now k A is_in (gone left) = absurd (cc (left.is_out, is_in))
still_in now k A is_in (so a) = a

pub rows_at_work : (p : Pair) (r : WorkRound p) → Joined p.client.clock p.client → Joined p.server.clock p.server → BothIn (behind p r) → Rows p (behind p r)
rows_at_work p r c s then_in = record { joined = x.is.joined; client = x.row; server = y.row }
  where
    x : Numbers (p.client.clock + 10) p.client (client_step p r)
    x = still_in (p.client.clock + 10) (client_step p r).link (Numbers (p.client.clock + 10) p.client (client_step p r)) then_in.client (client_numbers p r c)

    y : Numbers (p.server.clock + 10) p.server (server_step p r)
    y = still_in (p.server.clock + 10) (server_step p r).link (Numbers (p.server.clock + 10) p.server (server_step p r)) then_in.server (server_numbers p r s)

-- an end that has joined goes out, or stays so
joined_on : (now : ℕ) (l : LinkState) (s : Step) → Either now s.link (Numbers now l s) → Either now s.link (Joined s.link.clock s.link)
joined_on now l s (gone left) = gone left
joined_on now l s (so n) = so (subst (λ (k : ℕ). Joined k s.link) (sym n.is.clock) n.is)

pub client_joined : (p : Pair) (r : WorkRound p) → Joined p.client.clock p.client → Either (p.client.clock + 10) (client_step p r).link (Joined (client_step p r).link.clock (client_step p r).link)
client_joined p r is = joined_on (p.client.clock + 10) p.client (client_step p r) (client_numbers p r is)

pub server_joined : (p : Pair) (r : WorkRound p) → Joined p.server.clock p.server → Either (p.server.clock + 10) (server_step p r).link (Joined (server_step p r).link.clock (server_step p r).link)
server_joined p r is = joined_on (p.server.clock + 10) p.server (server_step p r) (server_numbers p r is)

-- a server knows no own stamp that is younger than before a round in which nothing younger is returned to it
pub own_behind_at_work : (last now : ℕ) (at : now ≡ last + 10) (who : Role) (due : List Pdu) (acts : List Act) (l : LinkState) → IsWork who due acts → l.clock ≡ last → Joined l.clock l → Each (IsReturned last) due
    → Roomy now acts (settled now l) → is_open (acted now acts l).link.phase ≡ true → (acted now acts l).link.own_stamp ≤ last
own_behind_at_work last now at who due acts l work clock is each room is_in = finish (round_through (Unit {0}) ℕ now (Returns last now at) (Any last now at) (λ g k. tt) (λ g h i k j m ps qs a b. tt) (λ g ps k b. lively now k b.0.is) hear own
    who due acts work 0 l tt (omega (arith, at, clock)) is.connected is.young (λ young. (record { is = reading_joined now l is (omega (arith, at, clock)) young; own = omega (arith, is.own, clock) }, each)) room)
  where
    hear : (g : ℕ) (p : Pdu) (ps : List Pdu) (k : LinkState) → Returns last now at g (p ∷ ps) k → HasRoom k → Done (Unit {0}) ℕ now (Returns last now at) (Any last now at) g k ps (heard now p k)
    hear g p ps k b roomy = either (returns_step last now at g p ps k b)
      where
        either : Next ℕ now (Returns last now at) (Any last now at) g k ps (heard now p k) → Done (Unit {0}) ℕ now (Returns last now at) (Any last now at) g k ps (heard now p k)
        either (gone_next left) = gone_done tt left
        either (stays_next h then_b o) = so_done h then_b o

    own : (g : ℕ) (ps : List Pdu) (k j : LinkState) (qs : List Pdu) → Returns last now at g ps k → Utters k j qs → Returns last now at g ps j × Any last now at g k qs g j
    own g ps k j qs (b, all) u = ((record { is = utters_joined now k j qs b.is u; own = omega (arith, ap (λ (m : LinkState). m.own_stamp) u.same, b.own) }, all), tt)

    finish : Done (Unit {0}) ℕ now (λ g ps k. Returns last now at g ps k × Calm now k) (Any last now at) 0 (at_reading now l) [] (acted now acts l) → (acted now acts l).link.own_stamp ≤ last
    finish (gone_done why left) = absurd (cc (left.is_out, is_in))
    finish (so_done h ((b, all), calm) o) = b.own

-- ---- and then

-- What a round makes of both: where what came to a tuned end didn't ask, it says heartbeats and new items alone.
pub record GoesAtWork (names : Names) (of_client of_server : ℕ) (client_tuned server_tuned : Bool) (p : Pair) (r : WorkRound p) (before : Talk names of_client of_server client_tuned server_tuned p) : Type 0 where
  pub goes : Goes names of_client of_server client_tuned server_tuned p (behind p r) before
  pub client_simple : client_tuned ≡ true → Each IsPlainPdu p.to_client → Each IsSimplePdu (behind p r).to_server
  pub server_simple : server_tuned ≡ true → Each IsPlainPdu p.to_server → Each IsSimplePdu (behind p r).to_client

part_of : (x : Round) (b : Bounds x) (tuned : Bool) (l : LinkState) (s : Step) → Worked x b tuned l s → Part x b tuned l s
part_of x b tuned l s w = record { heeds = w.heeds; plain = w.plain; notes = w.notes }

module _ (names : Names) (of_client of_server : ℕ) (client_tuned server_tuned : Bool) (p : Pair) (r : WorkRound p) (talk : Talk names of_client of_server client_tuned server_tuned p)
    (client_fits : p.client.sent < 2 ^ 31) (server_fits : p.server.sent < 2 ^ 31) (client_short : p.client.clock ≤ of_client + 100000) (server_short : p.server.clock ≤ of_server + 100000) where
  pub client_bounds : Bounds (client_round names of_client of_server client_tuned server_tuned p talk)
  client_bounds = bounds names Role.Client of_server of_client client_tuned server_tuned talk.client_kept talk.server_kept p.client p.server p.to_client p.to_server (record { own = talk.client; other = talk.server }) talk.to_client talk.to_server server_fits client_short

  pub server_bounds : Bounds (server_round names of_client of_server client_tuned server_tuned p talk)
  server_bounds = server_bounds_of names of_client of_server client_tuned server_tuned p talk client_fits server_short

  -- from what each end made of the round
  pub both_go : Worked (client_round names of_client of_server client_tuned server_tuned p talk) client_bounds client_tuned p.client (client_step p r)
      → Worked (server_round names of_client of_server client_tuned server_tuned p talk) server_bounds server_tuned p.server (server_step p r)
      → GoesAtWork names of_client of_server client_tuned server_tuned p r talk
  both_go t u = record {
    goes = goes_by names of_client of_server client_tuned server_tuned p talk (client_step p r) (server_step p r) client_bounds server_bounds (part_of _ client_bounds client_tuned p.client (client_step p r) t) (part_of _ server_bounds server_tuned p.server (server_step p r) u);
    client_simple = t.simple;
    server_simple = u.simple;
  }

  kept_in : {x : Round} {b : Bounds x} {tuned : Bool} {l : LinkState} {s : Step} → is_open s.link.phase ≡ true → Left x b false tuned l s → Worked x b tuned l s
  kept_in is_in (has_left why left) = absurd (cc (left.is_out, is_in))
  kept_in is_in (stays_in w) = w

  -- where the server stays, whether its client does or not
  pub server_worked : is_open (behind p r).server.phase ≡ true → Worked (server_round names of_client of_server client_tuned server_tuned p talk) server_bounds server_tuned p.server (server_step p r)
  server_worked server_in = kept_in server_in (turns_at_work (server_round names of_client of_server client_tuned server_tuned p talk) server_bounds false Role.Server r.server_acts (record { kept = talk.server_kept; tuned = server_tuned }) p.server tt r.server_work refl refl talk.to_server.is refl
      (hearing_now names Role.Server of_client of_server server_tuned client_tuned talk.server_kept talk.client_kept p.server p.client p.to_server p.to_client (record { own = talk.server; other = talk.client }) talk.to_server talk.to_client client_fits server_short) tt r.server_room)

  -- where both stay
  pub talks_at_work : BothIn (behind p r) → GoesAtWork names of_client of_server client_tuned server_tuned p r talk
  talks_at_work then_in = both_go (kept_in then_in.client client_left) (server_worked then_in.server)
    where
      client_left : Left (client_round names of_client of_server client_tuned server_tuned p talk) client_bounds false client_tuned p.client (client_step p r)
      client_left = turns_at_work (client_round names of_client of_server client_tuned server_tuned p talk) client_bounds false Role.Client r.client_acts (record { kept = talk.client_kept; tuned = client_tuned }) p.client tt r.client_work refl refl talk.to_client.is refl
          (hearing_now names Role.Client of_server of_client client_tuned server_tuned talk.client_kept talk.server_kept p.client p.server p.to_client p.to_server (record { own = talk.client; other = talk.server }) talk.to_client talk.to_server server_fits client_short) tt r.client_room
