-- Two ends that share a connection after the first good round: it is known at once what is under way.
use Rattle.rasta_core_recovery.proofs.Words.Basics.{◌≡◌, ℕ, ◌∙◌, ◌+◌, ◌-◌, ◌^◌, ◌≤◌, ◌<◌, true, false, drop, refl, sym, ap, arith}
use Rattle.rasta_core_recovery.proofs.Words.Links.{stamp, LinkState, is_asking, is_open, Names}
use Rattle.rasta_core_recovery.proofs.Lemmas.ComingUp.Converse.{Talk}
use Rattle.rasta_core_recovery.proofs.Lemmas.Rounds.Course.{Joined}
use Rattle.rasta_core_recovery.proofs.Lemmas.Asking.Asks.{Asks, asks_asking}
use Rattle.rasta_core_recovery.proofs.Lemmas.ComingUp.Entered.{entered}
use Rattle.rasta_core_recovery.proofs.Lemmas.Rounds.Facts.{Calls, Facts, Shares}
use Rattle.rasta_core_recovery.proofs.Lemmas.FirstRound.FirstHears.{Below, IsOld, old_behind}
use Rattle.rasta_core_recovery.proofs.Lemmas.FirstRound.FirstRises.{Climbs, KeepsOf, Lately, lately_of}
use Rattle.rasta_core_recovery.proofs.Lemmas.Rounds.Links.{Pair, end_round, pair_round}
use Rattle.rasta_core_recovery.proofs.Lemmas.Rounds.Passed.{lately_without, without}
use Rattle.rasta_core_recovery.proofs.Lemmas.Rounds.Pasts.{Past}
use Rattle.rasta_core_recovery.proofs.Lemmas.ComingUp.Seen.{BothIn, Rows, joined_of, server_behind, server_not_asking}
use Rattle.rasta_core_recovery.proofs.Lemmas.Rounds.Turn.{Either, gone, so}
use Rattle.rasta_core_recovery.proofs.Lemmas.Rounds.Words.{IsNumbered, row_most, voice_of}

-- what an end that heard of its partner before the first round alone has come to: it expects none that its partner says in it, and keeps no
-- stamp that is younger than before it
pub record IsBehindIt (bound last : ℕ) (l : LinkState) : Type 0 where
  pub most : l.expected ≤ bound
  pub kept : ℕ
  pub kept_is : l.partner_stamp ≡ stamp kept
  pub before : kept ≤ last
  pub recent : last ≤ kept + 4000

pub same_kept : (one other clock : ℕ) → one ≤ clock → clock ≤ one + 5000 → other ≤ clock → clock ≤ other + 5000 → stamp one ≡ stamp other → one ≡ other
same_kept one other clock a b c d e = omega (arith, a, b, c, d, e)

-- so it is of the reading whose stamp it keeps, whichever way this is known
pub kept_behind : (p q : Pair) (climbs : Climbs q) → is_asking q.client ≡ false → IsBehindIt p.server.sent p.server.clock q.client → q.server.clock ≡ p.server.clock + 10
    → climbs.client_kept ≤ p.server.clock
kept_behind p q climbs joined behind server_clock = omega (arith, same, behind.before)
  where
    keeps : KeepsOf q.client q.server climbs.client_kept
    keeps = climbs.client_keeps joined

    same : climbs.client_kept ≡ behind.kept
    same = same_kept climbs.client_kept behind.kept q.server.clock keeps.before (omega (arith, keeps.recent)) (omega (arith, behind.before, server_clock))
        (omega (arith, behind.recent, server_clock)) (sym keeps.kept_is ∙ behind.kept_is)

-- after a round in which the numbers of what both say go on, but for what the server has passed of what is under way to it
pub talk_without : (names : Names) (p q : Pair) (k : ℕ) → Facts names q → Past q.client → Past q.server → Climbs q → BothIn q → Rows p q → 1 ≤ p.client.sent → 1 ≤ p.server.sent
    → q.client.clock ≡ p.client.clock + 10 → q.server.clock ≡ p.server.clock + 10
    → IsBehindIt p.server.sent p.server.clock q.client → q.server.expected ≤ p.client.sent + k → p.client.sent + k ≤ q.client.sent → q.server.own_stamp ≤ p.server.clock
    → Talk names q.client.clock p.server.clock false false (without 0 k q)
talk_without names p q k facts client_past server_past climbs in_it rows client_some server_some client_clock server_clock behind server_most ends server_old = record {
  client = facts.client;
  server = facts.server;
  client_kept = climbs.client_kept;
  server_kept = climbs.server_kept;
  to_client = record {
    is = client_is;
    first = shares.0.first;
    some = shares.0.some;
    most = shares.0.most;
    kept_is = client_keeps.kept_is;
    before = client_keeps.before;
    low = omega (arith, client_keeps.recent, server_clock);
    sent_before = server_past.said in_it.server;
    number = p.server.sent;
    count = to_client.count;
    reading = to_client.reading;
    chain = to_client.chain;
    since = to_client.recent;
    mode = (client_kept, server_old);
    later = omega (arith, server_clock);
    young = λ e. absurd (cc e);
    deaf = λ e. (behind.most, client_is.own);
  };
  to_server = record {
    is = server_is;
    first = shares.1.first;
    some = shares.1.some;
    most = shares.1.most;
    kept_is = climbs.server_keeps.kept_is;
    before = climbs.server_keeps.before;
    low = omega (arith, climbs.server_keeps.recent);
    sent_before = client_past.said in_it.client;
    number = p.client.sent + k;
    count = to_server.count;
    reading = to_server.reading;
    chain = to_server.chain;
    since = let r = to_server.recent in omega (arith, r, server_clock);
    mode = (climbs.server_keeps.before, client_is.own);
    later = omega arith;
    young = λ e. absurd (cc e);
    deaf = λ e. (server_most, server_old);
  };
}
  where
    shares : Shares q.client q.server × Shares q.server q.client
    shares = facts.shares in_it.client rows.joined in_it.server

    server_joined : is_asking q.server ≡ false
    server_joined = server_not_asking names q.server facts.server

    client_is : Joined q.client.clock q.client
    client_is = joined_of q.client in_it.client rows.joined (facts.client_young in_it.client)

    server_is : Joined q.server.clock q.server
    server_is = joined_of q.server in_it.server server_joined (facts.server_young in_it.server)

    client_keeps : KeepsOf q.client q.server climbs.client_kept
    client_keeps = climbs.client_keeps rows.joined

    client_kept : climbs.client_kept ≤ p.server.clock
    client_kept = kept_behind p q climbs rows.joined behind server_clock

    to_client : Lately q.client q.server p.server.sent q.server.sent (q.server.expected - 1) climbs.server_kept q.to_client
    to_client = lately_of q.client q.server p.server.sent q.server.sent climbs.server_kept q.to_client climbs.server_low server_some (shares.1.fits) refl server_joined
        (let r = climbs.server_keeps.recent in omega (arith, r)) rows.server climbs.to_client

    all_to_server : Lately q.server q.client p.client.sent q.client.sent (q.client.expected - 1) climbs.client_kept q.to_server
    all_to_server = lately_of q.server q.client p.client.sent q.client.sent climbs.client_kept q.to_server climbs.client_low client_some (shares.0.fits) refl rows.joined
        (let r = client_keeps.recent in omega (arith, r)) rows.client climbs.to_server

    to_server : Lately q.server q.client (p.client.sent + k) q.client.sent (q.client.expected - 1) climbs.client_kept (drop k q.to_server)
    to_server = lately_without q.server q.client k p.client.sent q.client.sent (q.client.expected - 1) climbs.client_kept q.to_server all_to_server ends

-- where the server has passed none of it
pub talk_first : (names : Names) (p q : Pair) → Facts names q → Past q.client → Past q.server → Climbs q → BothIn q → Rows p q → 1 ≤ p.client.sent → 1 ≤ p.server.sent
    → q.client.clock ≡ p.client.clock + 10 → q.server.clock ≡ p.server.clock + 10
    → IsBehindIt p.server.sent p.server.clock q.client → q.server.expected ≤ p.client.sent → q.server.own_stamp ≤ p.server.clock → Talk names q.client.clock p.server.clock false false q
talk_first names p q facts client_past server_past climbs in_it rows client_some server_some client_clock server_clock behind server_most server_old =
    talk_without names p q 0 facts client_past server_past climbs in_it rows client_some server_some client_clock server_clock behind (omega (arith, server_most))
    (let m = row_most (IsNumbered (voice_of q.client)) p.client.sent q.client.sent q.to_server rows.client in omega (arith, m)) server_old

-- ---- what the ends have come to in the first round

pub behind_of : (bound last now : ℕ) (l : LinkState) → IsOld bound last now l → IsBehindIt bound last l
behind_of bound last now l o = record { most = o.most; kept = o.kept; kept_is = o.kept_is; before = o.before; recent = o.recent }

-- a client that had joined
pub client_behind : (p : Pair) → Below p → Joined p.client.clock p.client → p.client.partner_first ≡ p.server.own_first → p.client.expected ≤ p.server.sent
    → p.server.sent < 2 ^ 31
    → is_open (pair_round p).client.phase ≡ true → IsBehindIt p.server.sent p.server.clock (pair_round p).client
unfolding pair_round
client_behind p below is first most fits then_in =
    choose (old_behind p.server.own_first p.server.sent p.server.clock
    (p.client.clock + 10) fits p.to_client p.client refl is first most below.client_kept keeps.kept_is keeps.before
    keeps.recent below.to_client)
  where
    keeps : KeepsOf p.client p.server below.client_kept
    keeps = below.client_keeps is.joined

    choose : Either (p.client.clock + 10) (end_round (p.client.clock + 10) p.to_client p.client).link
        (IsOld p.server.sent p.server.clock (p.client.clock + 10) (end_round (p.client.clock + 10) p.to_client p.client).link)
        → IsBehindIt p.server.sent p.server.clock (end_round (p.client.clock + 10) p.to_client p.client).link
    choose (gone left) = absurd (cc (left.is_out, then_in))
    choose (so o) = behind_of p.server.sent p.server.clock (p.client.clock + 10) _ o

-- and a server
pub server_behind_it : (p : Pair) → Below p → Joined p.server.clock p.server → p.server.partner_first ≡ p.client.own_first → p.server.expected ≤ p.client.sent
    → p.client.sent < 2 ^ 31
    → is_open (pair_round p).server.phase ≡ true → IsBehindIt p.client.sent p.client.clock (pair_round p).server
unfolding pair_round
server_behind_it p below is first most fits then_in =
    choose (old_behind p.client.own_first p.client.sent p.client.clock
    (p.server.clock + 10) fits p.to_server p.server refl is first most below.server_kept below.server_keeps.kept_is
    below.server_keeps.before below.server_keeps.recent below.to_server)
  where
    choose : Either (p.server.clock + 10) (end_round (p.server.clock + 10) p.to_server p.server).link
        (IsOld p.client.sent p.client.clock (p.server.clock + 10) (end_round (p.server.clock + 10) p.to_server p.server).link)
        → IsBehindIt p.client.sent p.client.clock (end_round (p.server.clock + 10) p.to_server p.server).link
    choose (gone left) = absurd (cc (left.is_out, then_in))
    choose (so o) = behind_of p.client.sent p.client.clock (p.server.clock + 10) _ o

-- where both were in it before
pub talk_at_once : (names : Names) (p : Pair) → Facts names p → Facts names (pair_round p) → Past (pair_round p).client → Past (pair_round p).server → Below p
    → Climbs (pair_round p)
    → BothIn p → is_asking p.client ≡ false → BothIn (pair_round p) → Rows p (pair_round p)
    → (pair_round p).client.clock ≡ p.client.clock + 10 → (pair_round p).server.clock ≡ p.server.clock + 10 → Talk names (pair_round p).client.clock p.server.clock false false (pair_round p)
talk_at_once names p facts then_facts client_past server_past below then_climbs now_in joined then_in rows client_clock server_clock =
    talk_first names p (pair_round p) then_facts client_past server_past then_climbs then_in rows (omega (arith, shares.1.some, shares.1.most)) (omega (arith, shares.0.some, shares.0.most))
    client_clock server_clock
    (client_behind p below client_is shares.0.first shares.0.most shares.1.fits then_in.client)
    (server_behind_it p below server_is shares.1.first shares.1.most shares.0.fits then_in.server).most
    (server_behind p server_is (facts.returned now_in.server) then_in.server)
  where
    shares : Shares p.client p.server × Shares p.server p.client
    shares = facts.shares now_in.client joined now_in.server

    client_is : Joined p.client.clock p.client
    client_is = joined_of p.client now_in.client joined (facts.client_young now_in.client)

    server_is : Joined p.server.clock p.server
    server_is = joined_of p.server now_in.server (server_not_asking names p.server facts.server) (facts.server_young now_in.server)

-- a client that joins in it
pub by_response : (p : Pair) → Asks p.client.clock p.client → Calls p.client p.server p.to_client → is_open (pair_round p).client.phase ≡ true → is_asking (pair_round p).client ≡ false
    → IsBehindIt p.server.sent p.server.clock (pair_round p).client
unfolding pair_round
by_response p is calls then_in joined = let e = entered (p.client.clock + 10) p.server p.to_client p.client is calls.first refl then_in joined in
    record { most = omega (arith, e.expected, calls.said); kept = e.heard.reading; kept_is = e.heard.kept_is; before = e.heard.before; recent = e.heard.recent }

-- where the client asked before, and has joined in it
pub talk_on_joining : (names : Names) (p : Pair) → Facts names p → Facts names (pair_round p) → Past (pair_round p).client → Past (pair_round p).server → Below p
    → Climbs (pair_round p)
    → Asks p.client.clock p.client → is_open p.server.phase ≡ true → is_asking (pair_round p).client ≡ false
    → BothIn (pair_round p) → Rows p (pair_round p) → (pair_round p).client.clock ≡ p.client.clock + 10 → (pair_round p).server.clock ≡ p.server.clock + 10
    → Talk names (pair_round p).client.clock p.server.clock false false (pair_round p)
talk_on_joining names p facts then_facts client_past server_past below then_climbs is server_in joined then_in rows client_clock server_clock =
    talk_first names p (pair_round p) then_facts client_past server_past then_climbs then_in rows calls.some calls.said client_clock server_clock (by_response p is calls then_in.client joined)
    (server_behind_it p below server_is calls.partner calls.most
    (let m = row_most (IsNumbered (voice_of (pair_round p).client)) p.client.sent (pair_round p).client.sent (pair_round p).to_server rows.client in let f = shares.0.fits in
    omega (arith, m, f)) then_in.server).most
    (server_behind p server_is (facts.returned server_in) then_in.server)
  where
    calls : Calls p.client p.server p.to_client
    calls = facts.calls (ap is_open is.starts) (asks_asking p.client.clock p.client is) server_in

    shares : Shares (pair_round p).client (pair_round p).server × Shares (pair_round p).server (pair_round p).client
    shares = then_facts.shares then_in.client rows.joined then_in.server

    server_is : Joined p.server.clock p.server
    server_is = joined_of p.server server_in (server_not_asking names p.server facts.server) (facts.server_young server_in)
