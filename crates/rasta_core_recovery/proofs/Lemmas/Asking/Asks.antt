-- An end that has asked for a connection, and one that is outside: what becomes of a PDU there.
use Rattle.rasta_core_recovery.proofs.Words.Basics.{◌≡◌, ℕ, ◌∙◌, ◌+◌, ◌-◌, ◌≤◌, ◌<◌, ◌⊎◌, inl, inr, Bool, true, false, ◌&&◌, not, nat_le, ◌==◌, List, [], ◌∷◌, ◌++◌, if◌then◌else◌, refl, sym, ap, subst, arith, nat_eq, pointwise}
use Rattle.rasta_core_recovery.proofs.Words.Links.{own_version, window_size, LinkState, is_open, is_asking, is_client, is_up, settled, state_at, open_state, Step, silent, then_do, sending, telling, closed, entered, limited, beating, header_of, pdu_of, meeting, judging, joining, refusing, violating, accepting, answers_request, connected, asking, by_state, hearing, ticking, Verdict, Reason, Role, Phase, State, Pdu, Body, Opening, ConnectionRequest, ConnectionResponse, RetransmissionRequest, RetransmissionResponse, DisconnectionRequest, Heartbeat, Data, RetransmittedData, Each}
use Rattle.rasta_core_recovery.proofs.Lemmas.Rounds.Links.{heard, all_heard, worked, end_round}
use Rattle.rasta_core_recovery.proofs.Lemmas.Rounds.Calls.{at_reading}
use Rattle.rasta_core_recovery.proofs.Lemmas.Rounds.Lists.{each_append}
use Rattle.rasta_core_recovery.proofs.Lemmas.Rounds.Words.{IsTalk, IsSimple, Says, Row, voice_of, IsNumbered, says_row}
use Rattle.rasta_core_recovery.proofs.Lemmas.Rounds.Deed.{Deed, Leaves, leaves, keeps, asks, takes, hears, lives_state}
use Rattle.rasta_core_recovery.proofs.Lemmas.Rounds.Fold.{Out, Lively, heard_case, Next, gone_next, stays_next, all_hear, Work, gone_work, calm_work, beats_work, works, Begins, late, on, begins, stays_out, works_out, round_on}
use Rattle.rasta_core_recovery.proofs.Lemmas.Rounds.Course.{Joined, lively, taken_joined, asked_joined}
use Rattle.rasta_core_recovery.proofs.Lemmas.Rounds.Turn.{Either, gone, so, reading_joined, spoken_joined, Ended, gone_end, done, ends}

abbrev pub IsTalkPdu : Pdu → Type 0
IsTalkPdu p = IsTalk p.body

-- ---- a PDU at an end that has asked

-- what it takes of the response by which it joins, and says at once
pub record Met (p : Pdu) (l k : LinkState) (ps : List Pdu) : Type 0 where
  pub expected : k.expected ≡ 1
  pub first : k.partner_first ≡ p.sequence_number
  pub heard : k.partner_stamp ≡ p.time_stamp
  pub says : Says IsSimple (header_of k) l.sent ps k.sent

-- it has left, or stands as before, or has joined the connection
pub data AskDeed (p : Pdu) (l k : LinkState) (ps : List Pdu) : Type 0 where
  ask_leaves : Leaves l k → AskDeed p l k ps
  ask_keeps : k ≡ l → ps ≡ [] → AskDeed p l k ps
  ask_joins : (IsTalk p.body → ⊥) → k.clock ≡ l.clock → is_open k.phase ≡ true → is_asking k ≡ false → k.own_stamp ≡ l.own_stamp → k.sent_at ≡ l.clock → k.confirmed ≡ l.confirmed → k.sent ≡ l.sent + 1 → Row (IsNumbered (voice_of k)) l.sent ps k.sent → Met p l k ps → AskDeed p l k ps

asks_violating : (p : Pdu) (l : LinkState) → AskDeed p l (violating l).link (violating l).pdus
unfolding telling sending
asks_violating p l = ask_leaves (record { clock = refl; is_out = refl; closed_at = refl })

asks_joining : (p : Pdu) (o : Opening) (l : LinkState) → (IsTalk p.body → ⊥) → AskDeed p l (joining p o l).link (joining p o l).pdus
unfolding joining judging meeting sending telling header_of pdu_of
asks_joining p o l opens = choose (pointwise nat_eq o.version own_version) (o.window == window_size)
  where
    met : LinkState
    met = record (meeting p l) { phase = Phase.Up }

    choose : (a b : Bool) → let s = (if a then (if b then sending Heartbeat met else telling Reason.Window met) else telling Reason.Version met) in AskDeed p l s.link s.pdus
    choose true true = ask_joins opens refl refl refl refl refl refl refl (says_row IsTalk (λ b t. t) (voice_of met) met l.sent (l.sent + 1) (pdu_of (header_of met) l.sent Heartbeat ∷ []) refl (refl, tt, refl))
        (record { expected = refl; first = refl; heard = refl; says = (refl, tt, refl) })
    choose true false = ask_leaves (record { clock = refl; is_out = refl; closed_at = refl })
    choose false b = ask_leaves (record { clock = refl; is_out = refl; closed_at = refl })

asks_body : (p : Pdu) (l : LinkState) (body : Body) → p.body ≡ body → AskDeed p l (asking body p l).link (asking body p l).pdus
unfolding asking
asks_body p l (ConnectionRequest o) e = asks_violating p l
asks_body p l (ConnectionResponse o) e = choose (answers_request p l)
  where
    choose : (b : Bool) → let r = (if b then accepting (joining p o l) else refusing Verdict.BadConfirm l) in AskDeed p l r.link r.pdus
    choose true = asks_joining p o l (λ talk. subst IsTalk e talk)
    choose false = ask_keeps refl refl
asks_body p l RetransmissionRequest e = asks_violating p l
asks_body p l RetransmissionResponse e = asks_violating p l
asks_body p l (DisconnectionRequest d r) e = choose (answers_request p l)
  where
    choose : (b : Bool) → let q = (if b then accepting (silent (closed l)) else refusing Verdict.BadConfirm l) in AskDeed p l q.link q.pdus
    choose true = ask_leaves (record { clock = refl; is_out = refl; closed_at = refl })
    choose false = ask_keeps refl refl
asks_body p l Heartbeat e = asks_violating p l
asks_body p l (Data x) e = asks_violating p l
asks_body p l (RetransmittedData x) e = asks_violating p l

-- an end that has asked, at a reading of its clock
pub record Asks (now : ℕ) (l : LinkState) : Type 0 where
  pub clock : l.clock ≡ now
  pub starts : l.phase ≡ Phase.Start
  pub client : is_client l.identity.role ≡ true
  pub young : now < l.own_stamp + 1800
  pub own : l.own_stamp ≤ now

pub asks_asking : (now : ℕ) (l : LinkState) → Asks now l → is_asking l ≡ true
asks_asking now l is = by l.phase refl is.starts is.client
  where
    by : (at : Phase) → l.phase ≡ at → l.phase ≡ Phase.Start → is_client l.identity.role ≡ true → is_asking l ≡ true
    by at e f g = rw f g

pub asking_is : (now : ℕ) (l : LinkState) → l.clock ≡ now → is_asking l ≡ true → now < l.own_stamp + 1800 → l.own_stamp ≤ now → Asks now l
asking_is now l at asking_now young own = record { clock = at; starts = starts l.phase refl; client = client l asking_now; young = young; own = own }
  where
    starts : (at : Phase) → l.phase ≡ at → l.phase ≡ Phase.Start
    starts Phase.Start e = e
    starts Phase.Closed e = absurd (cc (asking_now, not_asking))
      where
        not_asking : is_asking l ≡ false
        not_asking = rw e refl
    starts Phase.Up e = absurd (cc (asking_now, not_asking))
      where
        not_asking : is_asking l ≡ false
        not_asking = rw e refl
    starts Phase.RetransmissionRequested e = absurd (cc (asking_now, not_asking))
      where
        not_asking : is_asking l ≡ false
        not_asking = rw e refl
    starts Phase.RetransmissionRunning e = absurd (cc (asking_now, not_asking))
      where
        not_asking : is_asking l ≡ false
        not_asking = rw e refl

    client : (l : LinkState) → is_asking l ≡ true → is_client l.identity.role ≡ true
    client l e = grind (arith, e)

pub asks_lively : (now : ℕ) (l : LinkState) → Asks now l → Lively now l
asks_lively now l is = record { clock = is.clock; connected = ap is_open is.starts; young = is.young }

pub asks_hears : (p : Pdu) (l : LinkState) → Asks l.clock l → AskDeed p l (hearing p l).link (hearing p l).pdus
unfolding hearing by_state
asks_hears p l is = choose (p.receiver == l.identity.own) (p.sender == l.identity.partner)
  where
    starts : AskDeed p l (by_state State.Start p l).link (by_state State.Start p l).pdus
    starts = subst (λ (b : Bool). let r = (if b then asking p.body p l else connected p.body p l) in AskDeed p l r.link r.pdus) (sym is.client) (asks_body p l p.body refl)

    state_is : state_at l.clock l ≡ State.Start
    state_is = lives_state l (ap is_open is.starts) is.young ∙ ap open_state is.starts

    choose : (a b : Bool) → let r = (if not a then refusing Verdict.NotForMe l else if not b then refusing Verdict.WrongSender l else by_state (state_at l.clock l) p l) in AskDeed p l r.link r.pdus
    choose false b = ask_keeps refl refl
    choose true false = ask_keeps refl refl
    choose true true = subst (λ (s : State). AskDeed p l (by_state s p l).link (by_state s p l).pdus) (sym state_is) starts

-- ---- a round of an end inside, whether it has joined or still asks

abbrev pub InIt : ℕ → LinkState → Type 0
InIt now l = Joined now l ⊎ Asks now l

pub record AsksOn (now : ℕ) (l : LinkState) (s : Step) : Type 0 where
  pub asks : Asks now s.link
  pub asked : is_asking l ≡ true
  pub own : s.link.own_stamp ≡ l.own_stamp
  pub silent : s.pdus ≡ []

module _ (now : ℕ) where
  -- where it still asks, it has asked before, and said nothing
  abbrev pub Mute : ℕ → LinkState → List Pdu → ℕ → LinkState → Type 0
  Mute g l ps h k = is_asking k ≡ true → (is_asking l ≡ true) × (k.own_stamp ≡ l.own_stamp) × (ps ≡ [])

  pub mute_then : (g h i : ℕ) (l k j : LinkState) (ps qs : List Pdu) → Mute g l ps h k → Mute h k qs i j → Mute g l (ps ++ qs) i j
  mute_then g h i l k j ps qs a b e = let y = b e in let x = a y.0 in (x.0, y.1 ∙ x.1, both x.2 y.2)
    where
      both : ps ≡ [] → qs ≡ [] → ps ++ qs ≡ []
      both f g = cc

  pub in_lively : (l : LinkState) → InIt now l → Lively now l
  in_lively l (inl is) = lively now l is
  in_lively l (inr is) = asks_lively now l is

  in_deed : (p : Pdu) (l k : LinkState) (qs : List Pdu) → Joined now l → Deed p l k qs → Out now k ⊎ (InIt now k × Mute 0 l qs 0 k)
  in_deed p l k qs is (leaves why left) = inl (record { clock = left.clock ∙ is.clock; is_out = left.is_out; quiet = omega (arith, left.closed_at, is.clock); lately = omega (arith, left.closed_at, is.clock) })
  in_deed p l k qs is (keeps b same none) = inr (inl (subst (Joined now) (sym same) is), λ e. absurd (cc (e, ap (λ (j : LinkState). is_asking j) same, is.joined)))
  in_deed p l k qs is (asks passes apart a) = let j = asked_joined now l k qs is a in inr (inl j, λ e. absurd (cc (e, j.joined)))
  in_deed p l k qs is (takes passes t) = let j = taken_joined now p l k qs is passes t in inr (inl j, λ e. absurd (cc (e, j.joined)))

  ask_deed : (p : Pdu) (l k : LinkState) (qs : List Pdu) → Asks now l → AskDeed p l k qs → Out now k ⊎ (InIt now k × Mute 0 l qs 0 k)
  ask_deed p l k qs is (ask_leaves left) = inl (record { clock = left.clock ∙ is.clock; is_out = left.is_out; quiet = omega (arith, left.closed_at, is.clock); lately = omega (arith, left.closed_at, is.clock) })
  ask_deed p l k qs is (ask_keeps same none) = inr (inr (subst (Asks now) (sym same) is), λ e. (asks_asking now l is, ap (λ (j : LinkState). j.own_stamp) same, none))
  ask_deed p l k qs is (ask_joins opens clock in_it joined own said confirmed sent row met) = inr (inl (record { clock = clock ∙ is.clock; connected = in_it; joined = joined; young = omega (arith, is.young, own); own = omega (arith, is.own, own) }), λ e. absurd (cc (e, joined)))

  pub in_step : (g : ℕ) (p : Pdu) (ps : List Pdu) (l : LinkState) → InIt now l → Next ℕ now (λ g ps l. InIt now l) Mute g l ps (heard now p l)
  in_step g p ps l is = choose (heard_case now p l (in_lively l is))
    where
      next : Out now (heard now p l).link ⊎ (InIt now (heard now p l).link × Mute 0 l (heard now p l).pdus 0 (heard now p l).link) → Next ℕ now (λ g ps l. InIt now l) Mute g l ps (heard now p l)
      next (inl left) = gone_next left
      next (inr (a, b)) = stays_next 0 a b

      deed : InIt now l → ((heard now p l).link ≡ (hearing p l).link) → ((heard now p l).pdus ≡ (hearing p l).pdus) → Out now (heard now p l).link ⊎ (InIt now (heard now p l).link × Mute 0 l (heard now p l).pdus 0 (heard now p l).link)
      deed (inl is) e f = in_deed p l (heard now p l).link (heard now p l).pdus is
          (subst (λ (k : LinkState). Deed p l k (heard now p l).pdus) (sym e) (subst (λ (qs : List Pdu). Deed p l (hearing p l).link qs) (sym f) (hears p l is.connected is.joined (omega (arith, is.young, is.clock)))))
      deed (inr is) e f = ask_deed p l (heard now p l).link (heard now p l).pdus is
          (subst (λ (k : LinkState). AskDeed p l k (heard now p l).pdus) (sym e) (subst (λ (qs : List Pdu). AskDeed p l (hearing p l).link qs) (sym f) (asks_hears p l (subst (λ (n : ℕ). Asks n l) (sym is.clock) is))))

      choose : Out now (heard now p l).link ⊎ ((l.sent < 2147483000) × ((heard now p l).link ≡ (hearing p l).link) × ((heard now p l).pdus ≡ (hearing p l).pdus)) → Next ℕ now (λ g ps l. InIt now l) Mute g l ps (heard now p l)
      choose (inl left) = gone_next left
      choose (inr (room, e, f)) = next (deed is e f)

pub reading_asks : (now : ℕ) (l : LinkState) → Asks l.clock l → now ≡ l.clock + 10 → now < l.own_stamp + 1800 → Asks now (at_reading now l)
reading_asks now l is at young = record { clock = refl; starts = is.starts; client = is.client; young = young; own = omega (arith, is.own, at) }

pub not_up : (l : LinkState) → is_asking l ≡ true → is_up l.phase ≡ false
not_up l e = grind (arith, e)

-- what a round makes of an end inside
pub in_round : (now : ℕ) (ps : List Pdu) (l : LinkState) → InIt l.clock l → now ≡ l.clock + 10 → Either now (end_round now ps l).link (Joined now (end_round now ps l).link ⊎ AsksOn now l (end_round now ps l))
in_round now ps l is at = choose (begins now l at (open_is is) (young_is is))
  where
    j : LinkState
    j = at_reading now l

    open_is : InIt l.clock l → is_open l.phase ≡ true
    open_is (inl is) = is.connected
    open_is (inr is) = ap is_open is.starts

    young_is : InIt l.clock l → l.clock < l.own_stamp + 1800
    young_is (inl is) = is.young
    young_is (inr is) = is.young

    then_in : InIt l.clock l → now < l.own_stamp + 1800 → InIt now j
    then_in (inl is) young = inl (reading_joined now l is at young)
    then_in (inr is) young = inr (reading_asks now l is at young)

    Goal : Step → Type 0
    Goal s = Either now s.link (Joined now s.link ⊎ AsksOn now l s)

    heard_all : Step
    heard_all = all_heard now ps j

    joined_ended : (k : LinkState) (qs : List Pdu) → Joined now k → Ended now k (worked now l.identity.role k) → Goal (record { link = (worked now l.identity.role k).link; pdus = qs ++ (worked now l.identity.role k).pdus })
    joined_ended k qs in_it (gone_end left) = gone left
    joined_ended k qs in_it (done b e calm up) = subst (λ (s : Step). Goal (record { link = s.link; pdus = qs ++ s.pdus })) (sym e) (so (inl (spoken_joined now b k in_it)))

    asks_worked : (k : LinkState) (qs : List Pdu) → Asks now k → Mute now 0 j qs 0 k → Work now k (worked now l.identity.role k) → Goal (record { link = (worked now l.identity.role k).link; pdus = qs ++ (worked now l.identity.role k).pdus })
    asks_worked k qs in_it mute (gone_work left) = gone left
    asks_worked k qs in_it mute (beats_work up e) = absurd (cc (up, not_up k (asks_asking now k in_it)))
    asks_worked k qs in_it mute (calm_work e calm) = let m = mute (asks_asking now k in_it) in
        subst (λ (s : Step). Goal (record { link = s.link; pdus = qs ++ s.pdus })) (sym e) (so (inr (record { asks = in_it; asked = m.0; own = m.1; silent = ap (λ (rs : List Pdu). rs ++ []) m.2 })))

    ended : (k : LinkState) (qs : List Pdu) → InIt now k → Mute now 0 j qs 0 k → Goal (record { link = (worked now l.identity.role k).link; pdus = qs ++ (worked now l.identity.role k).pdus })
    ended k qs (inl in_it) mute = joined_ended k qs in_it (ends now l.identity.role k in_it)
    ended k qs (inr in_it) mute = asks_worked k qs in_it mute (works now l.identity.role k (asks_lively now k in_it))

    heard_then : Next ℕ now (λ g ps l. InIt now l) (Mute now) 0 j [] heard_all → Goal (then_do heard_all (λ k. worked now l.identity.role k))
    heard_then (gone_next left) = gone (works_out now l.identity.role heard_all.link left)
    heard_then (stays_next g a o) = ended heard_all.link heard_all.pdus a o

    choose : Begins now l → Goal (end_round now ps l)
    choose (late left) = gone (stays_out now ps l left)
    choose (on e young) = subst Goal (sym (round_on now ps l e))
        (heard_then (all_hear ℕ now (λ g ps l. InIt now l) (Mute now) (λ g l a e. (e, refl, refl)) (mute_then now) (in_step now) ps 0 j (then_in is young)))

-- ---- a round of an end that asks, to which no opening comes

module _ (now : ℕ) where
  abbrev pub Alone : ℕ → List Pdu → LinkState → Type 0
  Alone g ps l = Asks now l × Each IsTalkPdu ps

  abbrev pub Same : ℕ → LinkState → List Pdu → ℕ → LinkState → Type 0
  Same g l ps h k = (k.own_stamp ≡ l.own_stamp) × (ps ≡ [])

  pub same_then : (g h i : ℕ) (l k j : LinkState) (ps qs : List Pdu) → Same g l ps h k → Same h k qs i j → Same g l (ps ++ qs) i j
  same_then g h i l k j ps qs a b = (b.0 ∙ a.0, both a.1 b.1)
    where
      both : ps ≡ [] → qs ≡ [] → ps ++ qs ≡ []
      both f g = cc

  alone_deed : (p : Pdu) (ps : List Pdu) (l k : LinkState) (qs : List Pdu) → Asks now l → Each IsTalkPdu (p ∷ ps) → AskDeed p l k qs → Out now k ⊎ (Alone 0 ps k × Same 0 l qs 0 k)
  alone_deed p ps l k qs is talk (ask_leaves left) = inl (record { clock = left.clock ∙ is.clock; is_out = left.is_out; quiet = omega (arith, left.closed_at, is.clock); lately = omega (arith, left.closed_at, is.clock) })
  alone_deed p ps l k qs is talk (ask_keeps same none) = inr ((subst (Asks now) (sym same) is, talk.1), (ap (λ (j : LinkState). j.own_stamp) same, none))
  alone_deed p ps l k qs is talk (ask_joins opens clock in_it joined own said confirmed sent row met) = absurd (opens talk.0)

  pub alone_step : (g : ℕ) (p : Pdu) (ps : List Pdu) (l : LinkState) → Alone g (p ∷ ps) l → Next ℕ now Alone Same g l ps (heard now p l)
  alone_step g p ps l (is, talk) = choose (heard_case now p l (asks_lively now l is))
    where
      next : Out now (heard now p l).link ⊎ (Alone 0 ps (heard now p l).link × Same 0 l (heard now p l).pdus 0 (heard now p l).link) → Next ℕ now Alone Same g l ps (heard now p l)
      next (inl left) = gone_next left
      next (inr (a, b)) = stays_next 0 a b

      choose : Out now (heard now p l).link ⊎ ((l.sent < 2147483000) × ((heard now p l).link ≡ (hearing p l).link) × ((heard now p l).pdus ≡ (hearing p l).pdus)) → Next ℕ now Alone Same g l ps (heard now p l)
      choose (inl left) = gone_next left
      choose (inr (room, e, f)) = next (alone_deed p ps l (heard now p l).link (heard now p l).pdus is talk
          (subst (λ (k : LinkState). AskDeed p l k (heard now p l).pdus) (sym e) (subst (λ (qs : List Pdu). AskDeed p l (hearing p l).link qs) (sym f) (asks_hears p l (subst (λ (n : ℕ). Asks n l) (sym is.clock) is)))))

pub alone_round : (now : ℕ) (ps : List Pdu) (l : LinkState) → Asks l.clock l → Each IsTalkPdu ps → now ≡ l.clock + 10 → Either now (end_round now ps l).link (AsksOn now l (end_round now ps l))
alone_round now ps l is talk at = choose (begins now l at (ap is_open is.starts) is.young)
  where
    j : LinkState
    j = at_reading now l

    Goal : Step → Type 0
    Goal s = Either now s.link (AsksOn now l s)

    heard_all : Step
    heard_all = all_heard now ps j

    worked_then : (k : LinkState) (qs : List Pdu) → Asks now k → Same now 0 j qs 0 k → Work now k (worked now l.identity.role k) → Goal (record { link = (worked now l.identity.role k).link; pdus = qs ++ (worked now l.identity.role k).pdus })
    worked_then k qs in_it same (gone_work left) = gone left
    worked_then k qs in_it same (beats_work up e) = absurd (cc (up, not_up k (asks_asking now k in_it)))
    worked_then k qs in_it same (calm_work e calm) =
        subst (λ (s : Step). Goal (record { link = s.link; pdus = qs ++ s.pdus })) (sym e) (so (record { asks = in_it; asked = asks_asking l.clock l is; own = same.0; silent = ap (λ (rs : List Pdu). rs ++ []) same.1 }))

    heard_then : Next ℕ now (Alone now) (Same now) 0 j [] heard_all → Goal (then_do heard_all (λ k. worked now l.identity.role k))
    heard_then (gone_next left) = gone (works_out now l.identity.role heard_all.link left)
    heard_then (stays_next g a o) = worked_then heard_all.link heard_all.pdus a.0 o (works now l.identity.role heard_all.link (asks_lively now heard_all.link a.0))

    choose : Begins now l → Goal (end_round now ps l)
    choose (late left) = gone (stays_out now ps l left)
    choose (on e young) = subst Goal (sym (round_on now ps l e))
        (heard_then (all_hear ℕ now (Alone now) (Same now) (λ g l a. (refl, refl)) (same_then now) (alone_step now) ps 0 j (reading_asks now l is at young, talk)))

-- ---- what a server says to which nothing comes opens nothing

pub first_talks : (b : Bool) (j : LinkState) → Each IsTalkPdu (if b then telling Reason.Sequence j else silent j).pdus
unfolding telling sending pdu_of
first_talks true j = (tt, tt)
first_talks false j = tt

beat_talks : (b : Bool) (j : LinkState) → Each IsTalkPdu (if b then sending Heartbeat j else silent j).pdus
unfolding sending pdu_of
beat_talks true j = (tt, tt)
beat_talks false j = tt

pub beating_talks : (j : LinkState) → Each IsTalkPdu (beating j).pdus
unfolding beating
beating_talks j = beat_talks (is_up j.phase && nat_le 300 (j.clock - j.sent_at)) j

ticks_talk : (now : ℕ) (k : LinkState) → Each IsTalkPdu (worked now Role.Server k).pdus
unfolding worked ticking entered limited
ticks_talk now k = each_append IsTalkPdu (limited (settled now k)).pdus (beating (limited (settled now k)).link).pdus
    (first_talks (is_open (settled now k).phase && nat_le 2147483000 (settled now k).sent) (settled now k)) (beating_talks (limited (settled now k)).link)

pub server_talks : (now : ℕ) (l : LinkState) → l.identity.role ≡ Role.Server → Each IsTalkPdu (end_round now [] l).pdus
unfolding end_round all_heard
server_talks now l is = subst (λ (w : Role). Each IsTalkPdu (worked now w (settled now l)).pdus) (sym is) (ticks_talk now (settled now l))
