-- The first round at work: what both ends come to in it, and what is under way after it.
use Rattle.rasta_core_recovery.proofs.Words.Basics.{◌≡◌, ℕ, ◌∙◌, ◌+◌, ◌^◌, ◌≤◌, ◌<◌, Bool, true, false, nat_le, List, [], ◌∷◌, ◌++◌, refl, sym, ap, subst, arith, leb-true, leb-false}
use Rattle.rasta_core_recovery.proofs.Words.Links.{stamp, wire, LinkState, is_asking, is_open, settled, Step, silent, then_do, Role, Each, Names, Pdu}
use Rattle.rasta_core_recovery.proofs.Lemmas.Rounds.Acts.{Act, Asks as Opens, Beats, Gives, HasRoom, Hears, IsBefore, IsGift, IsWork, Roomy, WorkRound, acted, all_brought, all_did, behind, client_step, clock_acts, did, server_step}
use Rattle.rasta_core_recovery.proofs.Lemmas.ComingUp.Answered.{HasEntered}
use Rattle.rasta_core_recovery.proofs.Lemmas.Asking.Asks.{Asks, asks_asking}
use Rattle.rasta_core_recovery.proofs.Lemmas.Rounds.Calls.{Lives, at_reading, entered_lives}
use Rattle.rasta_core_recovery.proofs.Lemmas.ComingUp.Converse.{Talk}
use Rattle.rasta_core_recovery.proofs.Lemmas.Rounds.Course.{Joined, lively}
use Rattle.rasta_core_recovery.proofs.Lemmas.Rounds.Facts.{Calls, Facts, IsFirst, Shares}
use Rattle.rasta_core_recovery.proofs.Lemmas.FirstRound.FirstFates.{none_first}
use Rattle.rasta_core_recovery.proofs.Lemmas.FirstRound.FirstGrants.{Asking, ServerFirst, grants, granted, hears_again, hears_first as takes_first, rests}
use Rattle.rasta_core_recovery.proofs.Lemmas.FirstRound.FirstHears.{Any, Below, Hears as HearsOld, IsBelow, IsOld, old_step}
use Rattle.rasta_core_recovery.proofs.Lemmas.FirstRound.FirstRises.{Climbs, KeepsOf}
use Rattle.rasta_core_recovery.proofs.Lemmas.FirstRound.FirstTalk.{IsBehindIt, behind_of, talk_first}
use Rattle.rasta_core_recovery.proofs.Lemmas.Rounds.Fold.{Next, gone_next, stays_next}
use Rattle.rasta_core_recovery.proofs.Lemmas.Rounds.Links.{Pair, heard}
use Rattle.rasta_core_recovery.proofs.Lemmas.ComingUp.Opens.{Left, request, response, resting_link}
use Rattle.rasta_core_recovery.proofs.Lemmas.Rounds.Own.{Calm, Utters}
use Rattle.rasta_core_recovery.proofs.Lemmas.ComingUp.Seen.{BothIn, Rows, joined_of, server_not_asking}
use Rattle.rasta_core_recovery.proofs.Lemmas.ComingUp.Stays.{entered_out, left_of, out_is, settled_out}
use Rattle.rasta_core_recovery.proofs.Lemmas.Rounds.Turn.{Numbers, reading_joined}
use Rattle.rasta_core_recovery.proofs.Lemmas.AtWork.WorkAnswered.{entered_at_work}
use Rattle.rasta_core_recovery.proofs.Lemmas.AtWork.WorkFates.{client_clock_on, quiet_step, server_clock_on}
use Rattle.rasta_core_recovery.proofs.Lemmas.AtWork.WorkFold.{Done, gone_done, round_through, so_done}
use Rattle.rasta_core_recovery.proofs.Lemmas.AtWork.WorkJoins.{rows_joining_at_work}
use Rattle.rasta_core_recovery.proofs.Lemmas.AtWork.WorkOpens.{Comes, comes_first, hears_first, mute_gives, mute_server, passes_over, round_is, server_rests_at_work}
use Rattle.rasta_core_recovery.proofs.Lemmas.AtWork.WorkRun.{Sound}
use Rattle.rasta_core_recovery.proofs.Lemmas.AtWork.WorkTalk.{own_behind_at_work, rows_at_work, server_numbers, still_in}
use Rattle.rasta_core_recovery.proofs.Lemmas.AtWork.WorkTurn.{utters_joined}
use Rattle.rasta_core_recovery.proofs.Lemmas.Rounds.Words.{IsNumbered, row_most, voice_of}

-- ---- what comes in it was sent before it

module _ (first bound last now : ℕ) (fits : bound < 2 ^ 31) where
  pub old_at_work : (who : Role) (due : List Pdu) (acts : List Act) (l : LinkState) → IsWork who due acts → now ≡ l.clock + 10 → Joined l.clock l → l.partner_first ≡ first → l.expected ≤ bound
      → (kept : ℕ) → l.partner_stamp ≡ stamp kept → kept ≤ last → last ≤ kept + 4000
      → Each (IsBelow first bound last) due → Roomy now acts (settled now l) → is_open (acted now acts l).link.phase ≡ true → IsOld bound last now (acted now acts l).link
  old_at_work who due acts l work at is f most kept kept_is before recent each room is_in =
      finish (round_through (Unit {0}) ℕ now (HearsOld first bound last now fits) (Any first bound last now fits) (λ g k. tt) (λ g h i k j m ps qs a b. tt)
      (λ g ps k q. lively now k q.0.is) hear own who due acts work 0 l tt at is.connected is.young
      (λ young. (record { is = reading_joined now l is at young; most = most; kept = kept; kept_is = kept_is; before = before; recent = recent }, f, each)) room)
    where
      hear : (g : ℕ) (p : Pdu) (ps : List Pdu) (k : LinkState) → HearsOld first bound last now fits g (p ∷ ps) k → HasRoom k
          → Done (Unit {0}) ℕ now (HearsOld first bound last now fits) (Any first bound last now fits) g k ps (heard now p k)
      hear g p ps k q roomy = either (old_step first bound last now fits g p ps k q)
        where
          either : Next ℕ now (HearsOld first bound last now fits) (Any first bound last now fits) g k ps (heard now p k)
              → Done (Unit {0}) ℕ now (HearsOld first bound last now fits) (Any first bound last now fits) g k ps (heard now p k)
          either (gone_next left) = gone_done tt left
          either (stays_next h then_q o) = so_done h then_q o

      own : (g : ℕ) (ps : List Pdu) (k j : LinkState) (qs : List Pdu) → HearsOld first bound last now fits g ps k → Utters k j qs
          → HearsOld first bound last now fits g ps j × Any first bound last now fits g k qs g j
      own g ps k j qs (o, p, all) u = (
        (
          record {
            is = utters_joined now k j qs o.is u;
            most = omega (arith, ap (λ (m : LinkState). m.expected) u.same, o.most);
            kept = o.kept;
            kept_is = ap (λ (m : LinkState). m.partner_stamp) u.same ∙ o.kept_is;
            before = o.before;
            recent = o.recent;
          },
          ap (λ (m : LinkState). m.partner_first) u.same ∙ p,
          all,
        ),
        tt,
      )

      finish : Done (Unit {0}) ℕ now (λ g ps k. HearsOld first bound last now fits g ps k × Calm now k) (Any first bound last now fits) 0 (at_reading now l) [] (acted now acts l)
          → IsOld bound last now (acted now acts l).link
      finish (gone_done why left) = absurd (cc (left.is_out, is_in))
      finish (so_done h ((o, p, all), calm) a) = o

client_behind_at_work : (p : Pair) (r : WorkRound p) → Below p → Joined p.client.clock p.client → p.client.partner_first ≡ p.server.own_first
    → p.client.expected ≤ p.server.sent
    → p.server.sent < 2 ^ 31 → is_open (behind p r).client.phase ≡ true → IsBehindIt p.server.sent p.server.clock (behind p r).client
client_behind_at_work p r below is first most fits then_in =
    behind_of p.server.sent p.server.clock (p.client.clock + 10) (client_step p r).link
    (old_at_work p.server.own_first p.server.sent p.server.clock (p.client.clock + 10) fits Role.Client p.to_client r.client_acts p.client r.client_work refl is first most
    below.client_kept keeps.kept_is keeps.before keeps.recent below.to_client r.client_room then_in)
  where
    keeps : KeepsOf p.client p.server below.client_kept
    keeps = below.client_keeps is.joined

server_behind_at_work : (p : Pair) (r : WorkRound p) → Below p → Joined p.server.clock p.server → p.server.partner_first ≡ p.client.own_first
    → p.server.expected ≤ p.client.sent
    → p.client.sent < 2 ^ 31 → is_open (behind p r).server.phase ≡ true → IsBehindIt p.client.sent p.client.clock (behind p r).server
server_behind_at_work p r below is first most fits then_in =
    behind_of p.client.sent p.client.clock (p.server.clock + 10) (server_step p r).link
    (old_at_work p.client.own_first p.client.sent p.client.clock (p.server.clock + 10) fits Role.Server p.to_server r.server_acts p.server r.server_work refl is first most
    below.server_kept below.server_keeps.kept_is below.server_keeps.before below.server_keeps.recent below.to_server r.server_room then_in)

-- a server inside knows no own stamp of it yet
pub server_old_at_work : (p : Pair) (r : WorkRound p) (names : Names) → Facts names p → Joined p.server.clock p.server → is_open (behind p r).server.phase ≡ true
    → (behind p r).server.own_stamp ≤ p.server.clock
server_old_at_work p r names facts is then_in =
    own_behind_at_work p.server.clock (p.server.clock + 10) refl Role.Server p.to_server r.server_acts p.server r.server_work refl is (facts.returned is.connected) r.server_room then_in

-- ---- what is under way after it

pub talk_at_once_at_work : (names : Names) (p : Pair) (r : WorkRound p) → Sound names p → Sound names (behind p r) → Climbs (behind p r) → BothIn p
    → Joined p.client.clock p.client → BothIn (behind p r)
    → Talk names (behind p r).client.clock p.server.clock false false (behind p r)
talk_at_once_at_work names p r sound then_sound then_climbs now_in client_is then_in =
    talk_first names p (behind p r) then_sound.facts then_sound.client_past then_sound.server_past then_climbs then_in (rows_at_work p r client_is server_is then_in)
    (omega (arith, shares.1.some, shares.1.most)) (omega (arith, shares.0.some, shares.0.most))
    (client_clock_on p r client_is then_in.client) (server_clock_on p r server_is then_in.server)
    (client_behind_at_work p r (sound.below now_in) client_is shares.0.first shares.0.most shares.1.fits then_in.client)
    (server_behind_at_work p r (sound.below now_in) server_is shares.1.first shares.1.most shares.0.fits then_in.server).most
    (server_old_at_work p r names sound.facts server_is then_in.server)
  where
    shares : Shares p.client p.server × Shares p.server p.client
    shares = sound.facts.shares now_in.client client_is.joined now_in.server

    server_is : Joined p.server.clock p.server
    server_is = joined_of p.server now_in.server (server_not_asking names p.server sound.facts.server) (sound.facts.server_young now_in.server)

pub talk_on_joining_at_work : (names : Names) (p : Pair) (r : WorkRound p) → Sound names p → Sound names (behind p r) → Climbs (behind p r) → Asks p.client.clock p.client
    → is_open p.server.phase ≡ true
    → is_asking (behind p r).client ≡ false → BothIn (behind p r) → (behind p r).client.clock ≡ p.client.clock + 10
    → Talk names (behind p r).client.clock p.server.clock false false (behind p r)
talk_on_joining_at_work names p r sound then_sound then_climbs is server_in joined then_in client_clock =
    talk_first names p (behind p r) then_sound.facts then_sound.client_past then_sound.server_past then_climbs then_in rows calls.some calls.said client_clock
    (server_clock_on p r server_is then_in.server)
    (record { most = omega (arith, e.expected, calls.said); kept = e.heard.reading; kept_is = e.heard.kept_is; before = e.heard.before; recent = e.heard.recent })
    (server_behind_at_work p r (sound.below (record { client = ap is_open is.starts; server = server_in })) server_is calls.partner calls.most
    (let m = row_most (IsNumbered (voice_of (behind p r).client)) p.client.sent (behind p r).client.sent (behind p r).to_server rows.client in let f = shares.0.fits in omega (arith, m, f))
    then_in.server).most
    (server_old_at_work p r names sound.facts server_is then_in.server)
  where
    calls : Calls p.client p.server p.to_client
    calls = sound.facts.calls (ap is_open is.starts) (asks_asking p.client.clock p.client is) server_in

    shares : Shares (behind p r).client (behind p r).server × Shares (behind p r).server (behind p r).client
    shares = then_sound.facts.shares then_in.client joined then_in.server

    server_is : Joined p.server.clock p.server
    server_is = joined_of p.server server_in (server_not_asking names p.server sound.facts.server) (sound.facts.server_young server_in)

    rows : Rows p (behind p r)
    rows = rows_joining_at_work p r is server_is joined then_in

    e : HasEntered p.server p.client (client_step p r)
    e = entered_at_work (p.client.clock + 10) p.server p.to_client r.client_acts p.client r.client_work is calls.first refl r.client_room then_in.client joined

-- a server that was inside has said nothing in it, where its client still asks
pub none_says_at_work : (p : Pair) (r : WorkRound p) → Joined p.server.clock p.server → 1 ≤ p.server.sent → (behind p r).server.sent < 2 ^ 31 → is_open (behind p r).server.phase ≡ true
    → Each (IsFirst (behind p r).server) (behind p r).to_client → (behind p r).to_client ≡ []
none_says_at_work p r is some fits then_in first = none_first (server_step p r).link p.server.sent (server_step p r).link.sent (server_step p r).pdus some fits
    (still_in (p.server.clock + 10) (server_step p r).link (Numbers (p.server.clock + 10) p.server (server_step p r)) then_in (server_numbers p r is)).row first

-- ---- what a server that is outside makes of a request in it

module _ (names : Names) (now closed_at cf at : ℕ) (left : Left) where
  abbrev taken : LinkState
  taken = granted names now closed_at cf at left

  enters : (Lives now taken)
  enters = record { connected = refl; young = omega arith; room = omega arith }

  over_copies : (rest back : List Act) → Each IsBefore rest → Each IsGift back → Each (λ q. q ≡ request names cf at) (all_brought rest)
      → all_did now (rest ++ (clock_acts Role.Server ++ back)) taken ≡ silent taken
  unfolding did
  over_copies [] back before behind each = mute_server now [] back taken tt behind (entered_lives now taken enters) refl
  over_copies (Hears q ∷ rest) back before behind each =
      passes_over now (Hears q) (rest ++ (clock_acts Role.Server ++ back)) taken (ap (λ (p : Pdu). heard now p taken) each.0 ∙ hears_again names now closed_at cf at left)
      ∙ over_copies rest back before.1 behind each.1
  over_copies (Beats ∷ rest) back before behind each = absurd before.0
  over_copies (Opens ∷ rest) back before behind each = absurd before.0
  over_copies (Gives item ∷ rest) back before behind each =
      passes_over now (Gives item) (rest ++ (clock_acts Role.Server ++ back)) taken (mute_gives now item taken (entered_lives now taken enters) refl)
      ∙ over_copies rest back before.1 behind each

  takes_at_work : (clock : ℕ) (q : Pdu) (qs : List Pdu) (acts : List Act) → closed_at + 6000 ≤ now → IsWork Role.Server (q ∷ qs) acts → q ≡ request names cf at → Each (λ p. p ≡ request names cf at) qs
      → acted now acts (resting_link names Role.Server clock closed_at left) ≡ record { link = taken; pdus = response names (wire left.own_first left.sent) (request names cf at) now ∷ [] }
  takes_at_work clock q qs acts over w is each =
      round_is Role.Server now (q ∷ qs) acts (resting_link names Role.Server clock closed_at left) w
      ∙ ap (λ (k : LinkState). all_did now (w.front ++ (clock_acts Role.Server ++ w.back)) k) (settled_out now (resting_link names Role.Server clock closed_at left) refl)
      ∙ ap (λ (bs : List Act). all_did now (bs ++ (clock_acts Role.Server ++ w.back)) down) c.are
      ∙ hears_first now q c.gifts c.rest (clock_acts Role.Server ++ w.back) down c.given (entered_out now down refl) refl
      ∙ ap (λ (p : Pdu). then_do (heard now p down) (λ k. all_did now (c.rest ++ (clock_acts Role.Server ++ w.back)) k)) is
      ∙ ap (λ (s : Step). then_do s (λ k. all_did now (c.rest ++ (clock_acts Role.Server ++ w.back)) k)) (takes_first names now closed_at cf at left over)
      ∙ ap (λ (s : Step). record { link = s.link; pdus = (response names (wire left.own_first left.sent) (request names cf at) now ∷ []) ++ s.pdus })
      (over_copies c.rest w.back c.before w.behind (subst (Each (λ p. p ≡ request names cf at)) (sym c.brings) each))
    where
      c : Comes q qs w.front
      c = comes_first q qs w.front w.before w.brings

      down : LinkState
      down = resting_link names Role.Server now closed_at left

  first_at_work : (clock : ℕ) (ps : List Pdu) (acts : List Act) → IsWork Role.Server ps acts → Each (λ q. q ≡ request names cf at) ps
      → ServerFirst names now closed_at left cf at (acted now acts (resting_link names Role.Server clock closed_at left))
  first_at_work clock ps acts w each = choose (nat_le (closed_at + 6000) now) refl
    where
      by_list : (qs : List Pdu) → IsWork Role.Server qs acts → Each (λ q. q ≡ request names cf at) qs → closed_at + 6000 ≤ now
          → ServerFirst names now closed_at left cf at (acted now acts (resting_link names Role.Server clock closed_at left))
      by_list [] work is over = rests (server_rests_at_work names now clock closed_at left acts work)
      by_list (q ∷ qs) work is over = grants (takes_at_work clock q qs acts over work is.0 is.1)

      choose : (b : Bool) → nat_le (closed_at + 6000) now ≡ b → ServerFirst names now closed_at left cf at (acted now acts (resting_link names Role.Server clock closed_at left))
      choose false e = rests (quiet_step now acts (resting_link names Role.Server clock closed_at left) refl (leb-false _ _ e))
      choose true e = by_list ps w each (leb-true _ _ e)

pub first_of_at_work : (names : Names) (p : Pair) (r : WorkRound p) → Facts names p → Asking names p → is_open p.server.phase ≡ false
    → ServerFirst names (p.server.clock + 10) p.server.closed_at (left_of p.server) p.client.own_first p.client.own_stamp (server_step p r)
first_of_at_work names p r facts asking shut =
    subst (λ (l : LinkState). ServerFirst names (p.server.clock + 10) p.server.closed_at (left_of p.server) p.client.own_first p.client.own_stamp
    (acted (p.server.clock + 10) r.server_acts l))
    (sym (out_is names Role.Server p.server facts.server shut))
    (first_at_work names (p.server.clock + 10) p.server.closed_at p.client.own_first p.client.own_stamp (left_of p.server) p.server.clock p.to_server r.server_acts r.server_work
    asking.due)
