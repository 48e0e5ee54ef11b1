-- A client that joins in the first round, by a response that its server says in it: what both come to in it.
use Rattle.rasta_core_recovery.proofs.Words.Basics.{◌≡◌, ℕ, ◌⊎◌, inl, inr, ◌∙◌, ◌+◌, ◌-◌, ◌^◌, ◌≤◌, ◌<◌, Bool, true, false, ◌&&◌, ◌==◌, nat_le, nat_lt, List, [], ◌∷◌, ◌++◌, append-nil, refl, sym, ap, subst, arith, nat_tests}
use Rattle.rasta_core_recovery.proofs.Words.Links.{distance, stamp, wire, LinkState, is_asking, is_open, is_up, deadline, settled, state_at, Step, beating, entered, header_of, limited, pdu_of, sending, silent, then_do, ticking, joining, judging, meeting, admitting, age, ahead, asking, behind, bringing, by_state, connected, hearing, in_turn, resting, still_waiting, taking, testing, Role, Each, Names, identity_of, Body, ConnectionRequest, ConnectionResponse, RetransmissionRequest, RetransmissionResponse, DisconnectionRequest, Heartbeat, Data, RetransmittedData, Pdu}
use Rattle.rasta_core_recovery.proofs.Lemmas.Asking.Asks.{Asks, AsksOn, IsTalkPdu, alone_round, asks_asking}
use Rattle.rasta_core_recovery.proofs.Lemmas.Rounds.Calls.{heard_lives, worked_calm}
use Rattle.rasta_core_recovery.proofs.Lemmas.Rounds.Course.{Joined}
use Rattle.rasta_core_recovery.proofs.Lemmas.FirstRound.FirstGrants.{hears_first}
use Rattle.rasta_core_recovery.proofs.Lemmas.FirstRound.FirstQuiet.{left_heard}
use Rattle.rasta_core_recovery.proofs.Lemmas.Rounds.Fold.{Begins, Next, Out, all_hear, begins, gone_next, late, on, round_on, same_clock, stays_next, stays_out, works_out}
use Rattle.rasta_core_recovery.proofs.Lemmas.Rounds.Links.{all_heard, end_round, heard, worked, the_step, same_step}
use Rattle.rasta_core_recovery.proofs.Lemmas.ComingUp.Opens.{Left, asking_link, first_beat, granted_link, joined_link, request, response, resting_link, same_eq, up_link}
use Rattle.rasta_core_recovery.proofs.Lemmas.Rounds.Passed.{one_passed}
use Rattle.rasta_core_recovery.proofs.Lemmas.ComingUp.Stays.{left_of, out_is, quiet_hears_all, settled_out}
use Rattle.rasta_core_recovery.proofs.Lemmas.Rounds.Turn.{Either, Rowed, gone, rows, so}
use Rattle.rasta_core_recovery.proofs.Lemmas.Rounds.Words.{IsNumbered, IsTalk, Row, Voice, row_most, voice_of}

-- ---- rows

pub row_empty : (v : Voice) (n end : ℕ) (ps : List Pdu) → Row (IsNumbered v) n ps end → end ≤ n → ps ≡ []
row_empty v n end [] row most = refl
row_empty v n end (p ∷ ps) row most = let m = row_most (IsNumbered v) (n + 1) end ps row.1 in absurd (omega (arith, m, most))

pub row_talks : (v : Voice) (n end : ℕ) (ps : List Pdu) → Row (IsNumbered v) n ps end → Each IsTalkPdu ps
row_talks v n end [] row = tt
row_talks v n end (p ∷ ps) row = (row.0.talk, row_talks v (n + 1) end ps row.1)

-- ---- its own work, where it said something last in this round

never_due : (a b : Bool) → b ≡ false → (a && b) ≡ false
never_due true b e = e
never_due false b e = refl

works_none : (now : ℕ) (k : LinkState) → Joined now k → k.sent < 2147483000 → k.sent_at ≡ now → worked now k.identity.role k ≡ silent k
works_none now k is room said = worked_calm now k.identity.role k (record { connected = is.connected; young = is.young; room = room }) (never_due (is_up k.phase) (nat_le 300 (now - k.sent_at)) fresh)
    ∙ ap silent (same_clock now k is.clock)
  where
    fresh : nat_le 300 (now - k.sent_at) ≡ false
    fresh = let s = said in grind (arith, nat_tests)

-- ---- one PDU again and again, which changes nothing

pub again : (now : ℕ) (p : Pdu) (l : LinkState) (ps : List Pdu) → Each (λ x. x ≡ p) ps → Out now (heard now p l).link ⊎ (heard now p l ≡ silent l)
    → Out now (all_heard now ps l).link ⊎ (all_heard now ps l ≡ silent l)
unfolding all_heard
again now p l [] each one = inr refl
again now p l (x ∷ ps) each (inl left) = inl (subst (Out now) (sym (ap (λ (y : Pdu). (all_heard now ps (heard now y l).link).link) each.0
    ∙ ap (λ (s : Step). s.link) (quiet_hears_all now ps (heard now p l).link left.is_out left.quiet left.clock))) left)
again now p l (x ∷ ps) each (inr same) = choose (again now p l ps each.1 (inr same))
  where
    whole : all_heard now (x ∷ ps) l ≡ all_heard now ps l
    whole = ap (λ (y : Pdu). then_do (heard now y l) (λ k. all_heard now ps k)) each.0 ∙ ap (λ (s : Step). then_do s (λ k. all_heard now ps k)) same

    choose : Out now (all_heard now ps l).link ⊎ (all_heard now ps l ≡ silent l) → Out now (all_heard now (x ∷ ps) l).link ⊎ (all_heard now (x ∷ ps) l ≡ silent l)
    choose (inl left) = inl (subst (λ (s : Step). Out now s.link) (sym whole) left)
    choose (inr e) = inr (whole ∙ e)

-- ---- the server

-- an end that is outside takes no talk
talk_left : (body : Body) (p : Pdu) (k : LinkState) → IsTalk body → ((resting body p k).link ≡ k) × ((resting body p k).pdus ≡ [])
unfolding resting
talk_left (ConnectionRequest o) p k talk = absurd talk
talk_left (ConnectionResponse o) p k talk = absurd talk
talk_left RetransmissionRequest p k talk = (refl, refl)
talk_left RetransmissionResponse p k talk = (refl, refl)
talk_left (DisconnectionRequest a b) p k talk = (refl, refl)
talk_left Heartbeat p k talk = (refl, refl)
talk_left (Data xs) p k talk = (refl, refl)
talk_left (RetransmittedData xs) p k talk = (refl, refl)

-- a server that was outside: it has granted the request of its client, and then hears the rest
module _ (names : Names) (now closed_at cf at : ℕ) (left : Left) (over : closed_at + 6000 ≤ now) where
  abbrev pub asked : Pdu
  asked = request names cf at

  abbrev pub sf : ℕ
  sf = wire left.own_first left.sent

  abbrev pub answer : Pdu
  answer = response names sf asked now

  abbrev pub rest : LinkState
  rest = resting_link names Role.Server now closed_at left

  abbrev pub grant : LinkState
  grant = granted_link names now closed_at sf asked now

  grant_joined : Joined now grant
  grant_joined = record { clock = refl; connected = refl; joined = refl; young = omega arith; own = omega arith }

  -- it rests, or has granted it, and then hears these
  pub data Granted (E : Pdu → Type 0) (s : Step) : Type 0 where
    still_rests : s ≡ silent rest → Granted E s
    has_granted : (rs : List Pdu) → Each E rs → s ≡ record { link = (all_heard now rs grant).link; pdus = answer ∷ (all_heard now rs grant).pdus } → Granted E s

  grants_in : (E : Pdu → Type 0) → ((x : Pdu) → E x → (x ≡ asked) ⊎ IsTalkPdu x) → (ss : List Pdu) → Each E ss → Granted E (all_heard now ss rest)
  unfolding all_heard
  grants_in E split [] each = still_rests refl
  grants_in E split (x ∷ ss) each = choose (split x each.0) (grants_in E split ss each.1)
    where
      stays : IsTalkPdu x → all_heard now (x ∷ ss) rest ≡ all_heard now ss rest
      stays talk = ap (λ (s : Step). then_do s (λ k. all_heard now ss k)) (left_heard now x rest refl (talk_left x.body x rest talk))

      on_from : all_heard now (x ∷ ss) rest ≡ all_heard now ss rest → Granted E (all_heard now ss rest) → Granted E (all_heard now (x ∷ ss) rest)
      on_from e (still_rests same) = still_rests (e ∙ same)
      on_from e (has_granted rs others same) = has_granted rs others (e ∙ same)

      choose : (x ≡ asked) ⊎ IsTalkPdu x → Granted E (all_heard now ss rest) → Granted E (all_heard now (x ∷ ss) rest)
      choose (inr talk) others = on_from (stays talk) others
      choose (inl same) others = has_granted ss each.1 (ap (λ (y : Pdu). then_do (heard now y rest) (λ k. all_heard now ss k)) same
          ∙ ap (λ (s : Step). then_do s (λ k. all_heard now ss k)) (hears_first names now closed_at cf at left over))

  -- where it has said one PDU alone, that is the response
  pub record SaysOne (s : Step) : Type 0 where
    pub pdus : s.pdus ≡ answer ∷ []
    pub is : Joined now s.link
    pub sent_at : s.link.sent_at ≡ now
    pub role_is : s.link.identity ≡ rest.identity

  pub says_one : (E : Pdu → Type 0) → ((x : Pdu) → E x → (x ≡ asked) ⊎ IsTalkPdu x) → (ss : List Pdu) → Each E ss → is_open (all_heard now ss rest).link.phase ≡ true → (all_heard now ss rest).link.sent ≤ 1
      → SaysOne (all_heard now ss rest)
  says_one E split ss each then_in few = by (grants_in E split ss each)
    where
      by_rows : (rs : List Pdu) → all_heard now ss rest ≡ record { link = (all_heard now rs grant).link; pdus = answer ∷ (all_heard now rs grant).pdus }
          → Next ℕ now (λ g ps l. Joined now l) (Rowed now) 0 grant [] (all_heard now rs grant) → SaysOne (all_heard now ss rest)
      by_rows rs e (gone_next left) = absurd (cc (ap (λ (s : Step). is_open s.link.phase) e, left.is_out, then_in))
      by_rows rs e (stays_next g a o) = record {
        pdus = ap (λ (s : Step). s.pdus) e ∙ ap (λ (ps : List Pdu). answer ∷ ps)
            (row_empty (voice_of grant) 1 (all_heard now rs grant).link.sent (all_heard now rs grant).pdus o.row (let x = ap (λ (s : Step). s.link.sent) e in omega (arith, x, few)));
        is = subst (λ (s : Step). Joined now s.link) (sym e) a;
        sent_at = ap (λ (s : Step). s.link.sent_at) e ∙ said o.goes.sent_at;
        role_is = ap (λ (s : Step). s.link.identity) e ∙ o.goes.identity;
      }
        where
          said : ((all_heard now rs grant).link.sent_at ≡ now) ⊎ ((all_heard now rs grant).link.sent_at ≡ now) → (all_heard now rs grant).link.sent_at ≡ now
          said (inl x) = x
          said (inr x) = x

      by : Granted E (all_heard now ss rest) → SaysOne (all_heard now ss rest)
      by (still_rests same) = absurd (cc (ap (λ (s : Step). is_open s.link.phase) same, then_in))
      by (has_granted rs others same) = by_rows rs same (rows now rs grant grant_joined)

  rests_on : worked now Role.Server rest ≡ silent rest
  unfolding worked settled deadline ticking entered limited beating
  rests_on = refl

  -- where it is inside after the round it was so when all had come
  pub open_then : (E : Pdu → Type 0) → ((x : Pdu) → E x → (x ≡ asked) ⊎ IsTalkPdu x) → (ss : List Pdu) → Each E ss
      → is_open (worked now Role.Server (all_heard now ss rest).link).link.phase ≡ true → is_open (all_heard now ss rest).link.phase ≡ true
  open_then E split ss each then_in = by (grants_in E split ss each)
    where
      by_rows : (rs : List Pdu) → all_heard now ss rest ≡ record { link = (all_heard now rs grant).link; pdus = answer ∷ (all_heard now rs grant).pdus }
          → Next ℕ now (λ g ps l. Joined now l) (Rowed now) 0 grant [] (all_heard now rs grant) → is_open (all_heard now ss rest).link.phase ≡ true
      by_rows rs e (gone_next left) = absurd (let o = works_out now Role.Server (all_heard now rs grant).link left in
          cc (ap (λ (s : Step). is_open (worked now Role.Server s.link).link.phase) e, o.is_out, then_in))
      by_rows rs e (stays_next g a o) = ap (λ (s : Step). is_open s.link.phase) e ∙ a.connected

      by : Granted E (all_heard now ss rest) → is_open (all_heard now ss rest).link.phase ≡ true
      by (still_rests same) = absurd (cc (ap (λ (s : Step). is_open (worked now Role.Server s.link).link.phase) same, ap (λ (s : Step). is_open s.link.phase) rests_on, then_in))
      by (has_granted rs others same) = by_rows rs same (rows now rs grant grant_joined)

  -- after the round it is as it was when all had come
  pub round_one : (ss : List Pdu) → SaysOne (all_heard now ss rest) → (all_heard now ss rest).link.sent ≤ 1 → then_do (all_heard now ss rest) (λ k. worked now Role.Server k) ≡ the_step (all_heard now ss rest).link (answer ∷ [])
  round_one ss one few = same_step (ap (λ (s : Step). s.link) works) (ap (λ (ps : List Pdu). (all_heard now ss rest).pdus ++ ps) (ap (λ (s : Step). s.pdus) works) ∙ append-nil (all_heard now ss rest).pdus ∙ one.pdus)
    where
      k : LinkState
      k = (all_heard now ss rest).link

      works : worked now Role.Server k ≡ silent k
      works = ap (λ i. worked now i.role k) (sym one.role_is) ∙ works_none now k one.is (omega (arith, few)) one.sent_at

  -- ---- and where all that comes is the request, or the first heartbeat of its client

  module _ (beaten : ℕ) (fits : cf < 2 ^ 32) where
    abbrev pub beat : Pdu
    beat = first_beat names beaten cf answer

    abbrev pub is_up_now : LinkState
    is_up_now = up_link names now closed_at sf asked now (stamp beaten)

    abbrev pub IsEither : Pdu → Type 0
    IsEither x = (x ≡ asked) ⊎ (x ≡ beat)

    up_joined : Joined now is_up_now
    up_joined = record { clock = refl; connected = refl; joined = refl; young = omega arith; own = omega arith }

    abbrev voice : Voice
    voice = record { receiver = 0; sender = 0; first = wire cf 0; partner_first = 0; stamp = 0 }

    hears_beat : heard now beat grant ≡ silent is_up_now
    unfolding hearing by_state connected testing ahead behind age admitting in_turn bringing taking still_waiting deadline state_at
    hears_beat = heard_lives now beat grant (record { connected = refl; young = omega arith; room = omega arith })
        ∙ same_step (rw (alive_lt, same_eq names.server, same_eq names.client, level, confirmed, young, not_stale) (ap (λ (own : ℕ). record is_up_now { own_stamp = own }) back))
        (rw (alive_lt, same_eq names.server, same_eq names.client, level, confirmed, young, not_stale) refl)
      where
        alive_lt : nat_lt now (now + 1800) ≡ true
        alive_lt = grind (arith, nat_tests)

        level : distance (wire (wire cf 0) 1) (wire cf 1) ≡ 0
        level = omega (arith, fits)

        confirmed : distance (wire (wire sf 0) 0) (wire sf 0) ≡ 0
        confirmed = omega arith

        young : distance (stamp now) (stamp now) ≡ now - now
        young = omega arith

        not_stale : nat_lt (now - now) (now - now) ≡ false
        not_stale = grind (arith, nat_tests)

        back : now - (now - now) ≡ now
        back = omega arith

    abbrev Now : ℕ → List Pdu → LinkState → Type 0
    Now g ps l = ((l ≡ grant) ⊎ (l ≡ is_up_now)) × Each IsEither ps

    abbrev Any : ℕ → LinkState → List Pdu → ℕ → LinkState → Type 0
    Any g l ps h k = Unit {0}

    as_said : (x y : Pdu) (l k : LinkState) → x ≡ y → l ≡ k → heard now x l ≡ heard now y k
    as_said x y l k e f = ap (λ (z : Pdu). heard now z l) e ∙ ap (heard now y) f

    new_step : (g : ℕ) (x : Pdu) (ps : List Pdu) (l : LinkState) → Now g (x ∷ ps) l → Next ℕ now Now Any g l ps (heard now x l)
    new_step g x ps l (inl e, each) = choose each.0
      where
        passed : heard now x l ≡ heard now asked grant → Out now (heard now asked grant).link ⊎ (heard now asked grant ≡ silent grant) → Next ℕ now Now Any g l ps (heard now x l)
        passed same (inl left) = gone_next (subst (λ (s : Step). Out now s.link) (sym same) left)
        passed same (inr stays) = stays_next 0 (inl (ap (λ (s : Step). s.link) (same ∙ stays)), each.1) tt

        choose : IsEither x → Next ℕ now Now Any g l ps (heard now x l)
        choose (inl same) = passed (as_said x asked l grant same e) (one_passed now voice 0 1 asked grant grant_joined refl (omega arith) (omega arith) (omega arith) (omega arith))
        choose (inr same) = stays_next 0 (inr (ap (λ (s : Step). s.link) (as_said x beat l grant same e ∙ hears_beat)), each.1) tt
    new_step g x ps l (inr e, each) = choose each.0
      where
        passed : (y : Pdu) → heard now x l ≡ heard now y is_up_now → Out now (heard now y is_up_now).link ⊎ (heard now y is_up_now ≡ silent is_up_now) → Next ℕ now Now Any g l ps (heard now x l)
        passed y same (inl left) = gone_next (subst (λ (s : Step). Out now s.link) (sym same) left)
        passed y same (inr stays) = stays_next 0 (inr (ap (λ (s : Step). s.link) (same ∙ stays)), each.1) tt

        choose : IsEither x → Next ℕ now Now Any g l ps (heard now x l)
        choose (inl same) = passed asked (as_said x asked l is_up_now same e) (one_passed now voice 0 2 asked is_up_now up_joined refl (omega arith) (omega arith) (omega arith) (omega arith))
        choose (inr same) = passed beat (as_said x beat l is_up_now same e) (one_passed now voice 1 2 beat is_up_now up_joined refl (omega arith) (omega arith) (omega arith) (omega arith))

    split_either : (x : Pdu) → IsEither x → (x ≡ asked) ⊎ IsTalkPdu x
    split_either x (inl same) = inl same
    split_either x (inr same) = inr (subst IsTalkPdu (sym same) tt)

    pub comes_to : (ss : List Pdu) → Each IsEither ss → is_open (all_heard now ss rest).link.phase ≡ true → ((all_heard now ss rest).link ≡ grant) ⊎ ((all_heard now ss rest).link ≡ is_up_now)
    comes_to ss each then_in = by (grants_in IsEither split_either ss each)
      where
        Ends : LinkState → Type 0
        Ends k = (k ≡ grant) ⊎ (k ≡ is_up_now)

        by_rest : (rs : List Pdu) → all_heard now ss rest ≡ record { link = (all_heard now rs grant).link; pdus = answer ∷ (all_heard now rs grant).pdus }
            → Next ℕ now Now Any 0 grant [] (all_heard now rs grant) → Ends (all_heard now ss rest).link
        by_rest rs e (gone_next left) = absurd (cc (ap (λ (s : Step). is_open s.link.phase) e, left.is_out, then_in))
        by_rest rs e (stays_next g a o) = subst Ends (sym (ap (λ (s : Step). s.link) e)) a.0

        by : Granted IsEither (all_heard now ss rest) → Ends (all_heard now ss rest).link
        by (still_rests same) = absurd (cc (ap (λ (s : Step). is_open s.link.phase) same, then_in))
        by (has_granted rs others same) =
            by_rest rs same (all_hear ℕ now Now Any (λ g l a. tt) (λ g h i l k j ps qs a b. tt) new_step rs 0 grant (inl refl, others))

-- ---- its client

module _ (names : Names) (closed cf at c sf taken : ℕ) (fits : cf < 2 ^ 32) (past : at ≤ c) (young : c < at + 1800) where
  abbrev pub response_to : Pdu
  response_to = response names sf (request names cf at) taken

  abbrev pub asks_at : ℕ → LinkState
  asks_at now = asking_link names now closed cf at

  abbrev pub joins_at : ℕ → LinkState
  joins_at now = joined_link names now closed cf at response_to

  abbrev pub beats_at : ℕ → Pdu
  beats_at now = first_beat names now cf response_to

  hears_response : c + 10 < at + 1800 → heard (c + 10) response_to (asks_at (c + 10)) ≡ the_step (joins_at (c + 10)) (beats_at (c + 10) ∷ [])
  unfolding hearing by_state asking joining judging meeting deadline state_at sending header_of pdu_of
  hears_response then_young = heard_lives (c + 10) response_to (asks_at (c + 10)) (record { connected = refl; young = then_young; room = omega arith })
      ∙ same_step (rw (alive_lt, same_eq names.server, same_eq names.client, answers, same_eq (stamp at)) refl)
      (rw (alive_lt, same_eq names.server, same_eq names.client, answers, same_eq (stamp at)) refl)
    where
      alive_lt : nat_lt (c + 10) (at + 1800) ≡ true
      alive_lt = let h = then_young in grind (arith, nat_tests)

      once : wire (wire cf 0) 0 ≡ cf
      once = omega (arith, fits)

      answers : (wire (wire cf 0) 0 == cf) ≡ true
      answers = rw once (same_eq cf)

  abbrev server_voice : Voice
  server_voice = record { receiver = 0; sender = 0; first = wire sf 0; partner_first = 0; stamp = 0 }

  joined_then : c + 10 < at + 1800 → Joined (c + 10) (joins_at (c + 10))
  joined_then then_young = record { clock = refl; connected = refl; joined = refl; young = then_young; own = omega (arith, past) }

  pub enters : (cs : List Pdu) → Asks c (asks_at c) → Each (λ x. x ≡ response_to) cs → is_open (end_round (c + 10) cs (asks_at c)).link.phase ≡ true
      → is_asking (end_round (c + 10) cs (asks_at c)).link ≡ false
      → end_round (c + 10) cs (asks_at c) ≡ the_step (joins_at (c + 10)) (beats_at (c + 10) ∷ [])
  unfolding all_heard
  enters [] is each then_in joined = absurd (none (alone_round (c + 10) [] (asks_at c) is tt refl))
    where
      none : Either (c + 10) (end_round (c + 10) [] (asks_at c)).link (AsksOn (c + 10) (asks_at c) (end_round (c + 10) [] (asks_at c))) → ⊥
      none (gone left) = cc (left.is_out, then_in)
      none (so a) = cc (asks_asking (c + 10) (end_round (c + 10) [] (asks_at c)).link a.asks, joined)
  enters (x ∷ cs) is each then_in joined = choose (begins (c + 10) (asks_at c) refl refl young)
    where
      now : ℕ
      now = c + 10

      Goal : Step → Type 0
      Goal s = is_open s.link.phase ≡ true → s ≡ the_step (joins_at (c + 10)) (beats_at (c + 10) ∷ [])

      first_heard : now < at + 1800 → all_heard now (x ∷ cs) (asks_at now)
          ≡ record { link = (all_heard now cs (joins_at now)).link; pdus = beats_at now ∷ (all_heard now cs (joins_at now)).pdus }
      first_heard then_young = ap (λ (y : Pdu). then_do (heard now y (asks_at now)) (λ k. all_heard now cs k)) each.0
          ∙ ap (λ (s : Step). then_do s (λ k. all_heard now cs k)) (hears_response then_young)

      works_then : now < at + 1800 → Out now (all_heard now cs (joins_at now)).link ⊎ (all_heard now cs (joins_at now) ≡ silent (joins_at now))
          → Goal (record { link = (worked now Role.Client (all_heard now cs (joins_at now)).link).link; pdus = (beats_at now ∷ (all_heard now cs (joins_at now)).pdus) ++ (worked now Role.Client (all_heard now cs (joins_at now)).link).pdus })
      works_then then_young (inl left) opened = absurd (cc ((works_out now Role.Client (all_heard now cs (joins_at now)).link left).is_out, opened))
      works_then then_young (inr same) opened =
          ap (λ (s : Step). record { link = (worked now Role.Client s.link).link; pdus = (beats_at now ∷ s.pdus) ++ (worked now Role.Client s.link).pdus }) same
          ∙ ap (λ (s : Step). record { link = s.link; pdus = beats_at now ∷ s.pdus }) (works_none now (joins_at now) (joined_then then_young) (omega arith) refl)

      choose : Begins now (asks_at c) → end_round now (x ∷ cs) (asks_at c) ≡ the_step (joins_at (c + 10)) (beats_at (c + 10) ∷ [])
      choose (late left) = absurd (cc ((stays_out now (x ∷ cs) (asks_at c) left).is_out, then_in))
      choose (on e then_young) = subst Goal (sym (round_on now (x ∷ cs) (asks_at c) e ∙ ap (λ (s : Step). then_do s (λ k. worked now Role.Client k)) (first_heard then_young)))
          (works_then then_young (again now response_to (joins_at now) cs each.1
          (one_passed now server_voice 0 1 response_to (joins_at now) (joined_then then_young) refl (omega arith) (omega arith) (omega arith) (omega arith)))) then_in

-- ---- what the round of a server is that was outside

pub out_round : (names : Names) (now : ℕ) (ss : List Pdu) (l : LinkState) → l.identity ≡ identity_of Role.Server names → is_open l.phase ≡ false
    → end_round now ss l ≡ then_do (all_heard now ss (resting_link names Role.Server now l.closed_at (left_of l))) (λ k. worked now Role.Server k)
unfolding end_round
out_round names now ss l is_server shut = ap (λ (k : LinkState). end_round now ss k) (out_is names Role.Server l is_server shut)
    ∙ ap (λ (k : LinkState). then_do (all_heard now ss k) (λ j. worked now Role.Server j)) (settled_out now (resting_link names Role.Server l.clock l.closed_at (left_of l)) refl)

pub out_settled : (names : Names) (now : ℕ) (l : LinkState) → l.identity ≡ identity_of Role.Server names → is_open l.phase ≡ false
    → settled now l ≡ resting_link names Role.Server now l.closed_at (left_of l)
out_settled names now l is_server shut = settled_out now l shut ∙ ap (λ (k : LinkState). record k { clock = now }) (out_is names Role.Server l is_server shut)
