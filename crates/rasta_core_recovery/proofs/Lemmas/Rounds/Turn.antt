-- A whole round at an end that has joined a connection.
use Rattle.rasta_core_recovery.proofs.Words.Basics.{◌≡◌, ℕ, ◌∙◌, ◌+◌, ◌-◌, ◌^◌, ◌≤◌, ◌<◌, ◌⊎◌, inl, inr, Bool, true, false, List, [], ◌∷◌, ◌++◌, refl, sym, ap, subst, arith}
use Rattle.rasta_core_recovery.proofs.Words.Links.{stamp, LinkState, is_up, Step, then_do, sending, header_of, pdu_of, taking, hearing, Role, Phase, Pdu, RetransmissionRequest, Heartbeat, Each}
use Rattle.rasta_core_recovery.proofs.Lemmas.Rounds.Links.{heard, all_heard, worked, end_round}
use Rattle.rasta_core_recovery.proofs.Lemmas.ComingUp.Healthy.{beats, waits}
use Rattle.rasta_core_recovery.proofs.Lemmas.Rounds.Calls.{at_reading, spoken}
use Rattle.rasta_core_recovery.proofs.Lemmas.Rounds.Lists.{each_append}
use Rattle.rasta_core_recovery.proofs.Lemmas.Rounds.Words.{IsTalk, IsPlain, plain_talk, Row, Voice, voice_of, IsNumbered, Chain, chain_then, row_then, says_row, says_chain}
use Rattle.rasta_core_recovery.proofs.Lemmas.Rounds.Deed.{Deed, leaves, keeps, asks, takes, hears}
use Rattle.rasta_core_recovery.proofs.Lemmas.Rounds.Fold.{Out, heard_case, Next, gone_next, stays_next, all_hear, Work, gone_work, calm_work, beats_work, works, Begins, late, on, begins, stays_out, works_out, round_on}
use Rattle.rasta_core_recovery.proofs.Lemmas.Rounds.Course.{Joined, lively, Goes, goes_none, goes_then, voice_goes, taken_joined, asked_joined, asked_goes, taken_goes}
use Rattle.rasta_core_recovery.proofs.Lemmas.ComingUp.TunedEnds.{IsPlainPdu, IsNoAnswerPdu, not_before, IsShut, IsOutdated, Reached, unheard, waiting, off, low, Deaf, Round, Bounds, Ghost, Tuned, HasHeard, HasWaited, Mode, Hearing, Answers, tunes}

-- an end that waits for a retransmission is up
pub waits_up : (at : Phase) → waits at ≡ true → is_up at ≡ true
waits_up Phase.Closed e = cc
waits_up Phase.Start e = cc
waits_up Phase.Up e = refl
waits_up Phase.RetransmissionRequested e = refl
waits_up Phase.RetransmissionRunning e = refl

-- ---- its own work

pub data Ended (now : ℕ) (k : LinkState) (s : Step) : Type 0 where
  gone_end : Out now s.link → Ended now k s
  done : (b : Bool) → s ≡ record { link = spoken b k; pdus = beats b (spoken b k) } → (is_up (spoken b k).phase ≡ true → now < (spoken b k).sent_at + 300) → (b ≡ true → is_up k.phase ≡ true) → Ended now k s

pub ends : (now : ℕ) (who : Role) (k : LinkState) → Joined now k → Ended now k (worked now who k)
unfolding sending header_of
ends now who k is = choose (works now who k (lively now k is))
  where
    said : LinkState
    said = record k { sent = k.sent + 1; sent_at = k.clock }

    one_less : k.sent + 1 - 1 ≡ k.sent
    one_less = omega arith

    choose : Work now k (worked now who k) → Ended now k (worked now who k)
    choose (gone_work left) = gone_end left
    choose (calm_work e calm) = done false e calm (λ f. absurd (cc f))
    choose (beats_work up e) = done true (e ∙ ap (λ (n : ℕ). record { link = said; pdus = pdu_of (header_of said) n Heartbeat ∷ [] }) (sym one_less)) (λ u. omega (arith, is.clock)) (λ f. up)

pub spoken_joined : (now : ℕ) (b : Bool) (k : LinkState) → Joined now k → Joined now (spoken b k)
spoken_joined now false k is = is
spoken_joined now true k is = record { clock = is.clock; connected = is.connected; joined = is.joined; young = is.young; own = is.own }

pub spoken_goes : (now : ℕ) (b : Bool) (k : LinkState) → Joined now k → Goes now k (beats b (spoken b k)) (spoken b k)
spoken_goes now false k is = goes_none now k
spoken_goes now true k is = record { identity = refl; own_first = refl; partner_first = refl; clock = refl; sent_at = inr is.clock; spoken = λ e. absurd (some_said e) }
  where
    some_said : {q : Pdu} {qs : List Pdu} → q ∷ qs ≡ [] → ⊥
    some_said e = cc

pub one_less : (n : ℕ) → n + 1 - 1 ≡ n
one_less n = omega arith

spoken_chain : (now : ℕ) (b : Bool) (k : LinkState) (kept : ℕ) → Joined now k → 1 ≤ k.expected → k.expected < 2 ^ 31 → k.partner_stamp ≡ stamp kept
    → Chain (voice_of k) k.sent (k.expected - 1) kept (beats b (spoken b k)) (spoken b k).sent (k.expected - 1) kept
unfolding pdu_of
spoken_chain now false k kept is some fits kept_is = (refl, omega arith, omega arith)
spoken_chain now true k kept is some fits kept_is = says_chain IsPlain plain_talk (voice_of k) (spoken true k) k.sent (k.sent + 1) (k.expected - 1) kept (beats true (spoken true k))
    (record { joined = is.joined; voice = refl; some = omega (arith, some); fits = omega (arith, fits); kept_is = kept_is })
    (ap (λ (n : ℕ). pdu_of (header_of (spoken true k)) n Heartbeat) (one_less k.sent), tt, refl)

pub spoken_row : (b : Bool) (k : LinkState) → Row (IsNumbered (voice_of k)) k.sent (beats b (spoken b k)) (spoken b k).sent
unfolding pdu_of
spoken_row false k = refl
spoken_row true k = says_row IsPlain plain_talk (voice_of k) (spoken true k) k.sent (k.sent + 1) (beats true (spoken true k)) refl (ap (λ (n : ℕ). pdu_of (header_of (spoken true k)) n Heartbeat) (one_less k.sent), tt, refl)

spoken_plain : (b : Bool) (k : LinkState) → Each IsPlainPdu (beats b (spoken b k))
unfolding pdu_of
spoken_plain false k = tt
spoken_plain true k = (tt, tt)

spoken_no_answer : (b : Bool) (k : LinkState) → Each IsNoAnswerPdu (beats b (spoken b k))
unfolding pdu_of
spoken_no_answer false k = tt
spoken_no_answer true k = (tt, tt)

-- ---- a round, whatever comes

pub record Numbers (now : ℕ) (l : LinkState) (s : Step) : Type 0 where
  pub is : Joined now s.link
  pub identity : s.link.identity ≡ l.identity
  pub own_first : s.link.own_first ≡ l.own_first
  pub partner_first : s.link.partner_first ≡ l.partner_first
  pub sent_at : (s.link.sent_at ≡ l.sent_at) ⊎ (s.link.sent_at ≡ now)
  pub row : Row (IsNumbered (voice_of s.link)) l.sent s.pdus s.link.sent

-- after a round the end is outside, or this is so
pub data Either (now : ℕ) (k : LinkState) (A : Type 0) : Type 0 where
  gone : Out now k → Either now k A
  so : A → Either now k A

module _ (now : ℕ) where
  pub record Rowed (g : ℕ) (l : LinkState) (ps : List Pdu) (h : ℕ) (k : LinkState) : Type 0 where
    pub goes : Goes now l ps k
    pub row : Row (IsNumbered (voice_of l)) l.sent ps k.sent

  pub rowed_then : (g h i : ℕ) (l k j : LinkState) (ps qs : List Pdu) → Rowed g l ps h k → Rowed h k qs i j → Rowed g l (ps ++ qs) i j
  rowed_then g h i l k j ps qs a b = record {
    goes = goes_then now l k j ps qs a.goes b.goes;
    row = row_then (IsNumbered (voice_of l)) l.sent k.sent j.sent ps qs a.row (subst (λ (v : Voice). Row (IsNumbered v) k.sent qs j.sent) (voice_goes now l k ps a.goes) b.row);
  }

  pub rows_one : (p : Pdu) (l k : LinkState) (qs : List Pdu) → Joined now l → Deed p l k qs → Out now k ⊎ (Joined now k × Rowed 0 l qs 0 k)
  unfolding taking header_of pdu_of
  rows_one p l k qs is (leaves why left) = inl (record { clock = left.clock ∙ is.clock; is_out = left.is_out; quiet = omega (arith, left.closed_at, is.clock); lately = omega (arith, left.closed_at, is.clock) })
  rows_one p l k qs is (keeps b same none) = inr (subst (Joined now) (sym same) is, subst (λ (j : LinkState). Rowed 0 l qs 0 j) (sym same) (subst (λ (rs : List Pdu). Rowed 0 l rs 0 l) (sym none) (record { goes = goes_none now l; row = refl })))
  rows_one p l k qs is (asks passes apart a) = inr (
    asked_joined now l k qs is a,
    record {
      goes = asked_goes now l k qs is a;
      row = subst (λ (rs : List Pdu). Row (IsNumbered (voice_of l)) l.sent rs k.sent) (sym a.pdus)
          (says_row IsTalk (λ b t. t) (voice_of l) l l.sent k.sent (pdu_of (header_of l) l.sent RetransmissionRequest ∷ []) refl (refl, tt, sym (ap (λ (j : LinkState). j.sent) a.link)));
    },
  )
  rows_one p l k qs is (takes passes t) = inr (
    taken_joined now p l k qs is passes t,
    record {
      goes = taken_goes now p l k qs is t;
      row = says_row IsPlain plain_talk (voice_of l) (taking p l) l.sent k.sent qs refl t.answers;
    },
  )

  pub rows_step : (g : ℕ) (p : Pdu) (ps : List Pdu) (l : LinkState) → Joined now l → Next ℕ now (λ g ps l. Joined now l) Rowed g l ps (heard now p l)
  rows_step g p ps l is = choose (heard_case now p l (lively now l is))
    where
      next : Out now (heard now p l).link ⊎ (Joined now (heard now p l).link × Rowed 0 l (heard now p l).pdus 0 (heard now p l).link) → Next ℕ now (λ g ps l. Joined now l) Rowed g l ps (heard now p l)
      next (inl left) = gone_next left
      next (inr (a, b)) = stays_next 0 a (record { goes = b.goes; row = b.row })

      choose : Out now (heard now p l).link ⊎ ((l.sent < 2147483000) × ((heard now p l).link ≡ (hearing p l).link) × ((heard now p l).pdus ≡ (hearing p l).pdus)) → Next ℕ now (λ g ps l. Joined now l) Rowed g l ps (heard now p l)
      choose (inl left) = gone_next left
      choose (inr (room, e, f)) = next (rows_one p l (heard now p l).link (heard now p l).pdus is
          (subst (λ (k : LinkState). Deed p l k (heard now p l).pdus) (sym e) (subst (λ (qs : List Pdu). Deed p l (hearing p l).link qs) (sym f) (hears p l is.connected is.joined (omega (arith, is.young, is.clock))))))

  pub rows : (ps : List Pdu) (l : LinkState) → Joined now l → Next ℕ now (λ g ps l. Joined now l) Rowed 0 l [] (all_heard now ps l)
  rows ps l is = all_hear ℕ now (λ g ps l. Joined now l) Rowed (λ g l a. record { goes = goes_none now l; row = refl }) rowed_then rows_step ps 0 l is

pub reading_joined : (now : ℕ) (l : LinkState) → Joined l.clock l → now ≡ l.clock + 10 → now < l.own_stamp + 1800 → Joined now (at_reading now l)
reading_joined now l is at young = record { clock = refl; connected = is.connected; joined = is.joined; young = young; own = omega (arith, is.own, at) }

pub numbers : (now : ℕ) (ps : List Pdu) (l : LinkState) → Joined l.clock l → now ≡ l.clock + 10 → Either now (end_round now ps l).link (Numbers now l (end_round now ps l))
numbers now ps l is at = choose (begins now l at is.connected is.young)
  where
    j : LinkState
    j = at_reading now l

    Goal : Step → Type 0
    Goal s = Either now s.link (Numbers now l s)

    heard_all : Step
    heard_all = all_heard now ps j

    ended : (k : LinkState) (qs : List Pdu) → Joined now k → Rowed now 0 j qs 0 k → Ended now k (worked now l.identity.role k) → Goal (record { link = (worked now l.identity.role k).link; pdus = qs ++ (worked now l.identity.role k).pdus })
    ended k qs in_it o (gone_end left) = gone left
    ended k qs in_it o (done b e calm up) = subst (λ (s : Step). Goal (record { link = s.link; pdus = qs ++ s.pdus })) (sym e) (so (record {
      is = spoken_joined now b k in_it;
      identity = all.goes.identity;
      own_first = all.goes.own_first;
      partner_first = all.goes.partner_first;
      sent_at = all.goes.sent_at;
      row = subst (λ (v : Voice). Row (IsNumbered v) l.sent (qs ++ beats b (spoken b k)) (spoken b k).sent) (sym (voice_goes now j (spoken b k) (qs ++ beats b (spoken b k)) all.goes)) all.row;
    }))
      where
        all : Rowed now 0 j (qs ++ beats b (spoken b k)) 0 (spoken b k)
        all = rowed_then now 0 0 0 j k (spoken b k) qs (beats b (spoken b k)) o (record { goes = spoken_goes now b k in_it; row = spoken_row b k })

    heard_then : Next ℕ now (λ g ps l. Joined now l) (Rowed now) 0 j [] heard_all → Goal (then_do heard_all (λ k. worked now l.identity.role k))
    heard_then (gone_next left) = gone (works_out now l.identity.role heard_all.link left)
    heard_then (stays_next g a o) = ended heard_all.link heard_all.pdus a (record { goes = o.goes; row = o.row }) (ends now l.identity.role heard_all.link a)

    choose : Begins now l → Goal (end_round now ps l)
    choose (late left) = gone (stays_out now ps l left)
    choose (on e young) = subst Goal (sym (round_on now ps l e)) (heard_then (rows now ps j (reading_joined now l is at young)))

-- ---- a round in which the PDUs of the partner's last round come, which went on in their numbers

pub record Spoke (x : Round) (l : LinkState) (s : Step) : Type 0 where
  pub is : Joined x.now s.link
  pub identity : s.link.identity ≡ l.identity
  pub own_first : s.link.own_first ≡ l.own_first
  pub partner_first : s.link.partner_first ≡ l.partner_first
  pub sent_at : (s.link.sent_at ≡ l.sent_at) ⊎ (s.link.sent_at ≡ x.now)
  pub spoken : s.pdus ≡ [] → s.link.sent_at ≡ l.sent_at
  pub some : 1 ≤ s.link.expected
  pub most : s.link.expected ≤ x.end
  pub rises : l.expected ≤ s.link.expected
  pub kept : ℕ
  pub kept_is : s.link.partner_stamp ≡ stamp kept
  pub since : x.kept ≤ kept
  pub kept_before : kept ≤ x.said_at
  pub chain : Chain (voice_of s.link) l.sent (l.expected - 1) x.kept s.pdus s.link.sent (s.link.expected - 1) kept
  pub calm : is_up s.link.phase ≡ true → x.now < s.link.sent_at + 300

-- what an end may not say and take in a round
pub record Notes (x : Round) (then_tuned : Bool) (s : Step) : Type 0 where
  pub shut : IsShut x → then_tuned ≡ false
  pub hush : then_tuned ≡ false → Each IsNoAnswerPdu s.pdus
  pub hush_plain : Each IsPlainPdu x.pdus → Each IsNoAnswerPdu s.pdus
  pub waits_on : waits x.before.phase ≡ true → then_tuned ≡ false → (waits s.link.phase ≡ true) × Each IsPlainPdu s.pdus
  pub mute : then_tuned ≡ false → is_up s.link.phase ≡ false → s.pdus ≡ []
  pub deaf : then_tuned ≡ false → Deaf x s.link x.end []
  pub outdated_on : x.tuned ≡ false → IsOutdated x x.before → (then_tuned ≡ false) × (s.link.phase ≡ x.before.phase)

module _ (x : Round) (bounds : Bounds x) where
  pub record Linked (g : ℕ) (l : LinkState) (ps : List Pdu) (h : ℕ) (k : LinkState) : Type 0 where
    pub goes : Goes x.now l ps k
    pub rises : l.expected ≤ k.expected
    pub chain : Chain (voice_of l) l.sent (l.expected - 1) g ps k.sent (k.expected - 1) h

  pub linked_then : (g h i : ℕ) (l k j : LinkState) (ps qs : List Pdu) → Linked g l ps h k → Linked h k qs i j → Linked g l (ps ++ qs) i j
  linked_then g h i l k j ps qs a b = record {
    goes = goes_then x.now l k j ps qs a.goes b.goes;
    rises = omega (arith, a.rises, b.rises);
    chain = chain_then (voice_of l) _ _ _ k.sent (k.expected - 1) h _ _ _ ps qs a.chain (subst (λ (v : Voice). Chain v k.sent (k.expected - 1) h qs j.sent (j.expected - 1) i) (voice_goes x.now l k ps a.goes) b.chain);
  }

  -- the end's own work after it
  says_then : (l j k : LinkState) (qs : List Pdu) (g h : ℕ) (b : Bool) → j ≡ at_reading x.now l → g ≡ x.kept → Joined x.now k → 1 ≤ k.expected → k.expected ≤ x.end → k.partner_stamp ≡ stamp h → x.kept ≤ h → h ≤ x.said_at
      → Linked g j qs h k → (is_up (spoken b k).phase ≡ true → x.now < (spoken b k).sent_at + 300) → Spoke x l (record { link = spoken b k; pdus = qs ++ beats b (spoken b k) })
  says_then l j k qs g h b same start in_it some most kept_is since kept_before o calm = record {
    is = spoken_joined x.now b k in_it;
    identity = all.goes.identity ∙ ap (λ (y : LinkState). y.identity) same;
    own_first = all.goes.own_first ∙ ap (λ (y : LinkState). y.own_first) same;
    partner_first = all.goes.partner_first ∙ ap (λ (y : LinkState). y.partner_first) same;
    sent_at = either all.goes.sent_at;
    spoken = λ e. all.goes.spoken e ∙ ap (λ (y : LinkState). y.sent_at) same;
    some = omega (arith, some, expected_stays b);
    most = omega (arith, most, expected_stays b);
    rises = omega (arith, all.rises, ap (λ (y : LinkState). y.expected) same);
    kept = h;
    kept_is = stamp_stays b ∙ kept_is;
    since = since;
    kept_before = kept_before;
    chain = subst (λ (v : Voice). Chain v l.sent (l.expected - 1) x.kept (qs ++ beats b (spoken b k)) (spoken b k).sent ((spoken b k).expected - 1) h) (sym (voice_goes x.now j (spoken b k) (qs ++ beats b (spoken b k)) all.goes))
        (subst (λ (y : LinkState). Chain (voice_of j) y.sent (y.expected - 1) x.kept (qs ++ beats b (spoken b k)) (spoken b k).sent ((spoken b k).expected - 1) h) same
        (subst (λ (y : ℕ). Chain (voice_of j) j.sent (j.expected - 1) y (qs ++ beats b (spoken b k)) (spoken b k).sent ((spoken b k).expected - 1) h) start all.chain));
    calm = calm;
  }
    where
      expected_stays : (b : Bool) → (spoken b k).expected ≡ k.expected
      expected_stays false = refl
      expected_stays true = refl

      stamp_stays : (b : Bool) → (spoken b k).partner_stamp ≡ k.partner_stamp
      stamp_stays false = refl
      stamp_stays true = refl

      last : Linked h k (beats b (spoken b k)) h (spoken b k)
      last = record {
        goes = spoken_goes x.now b k in_it;
        rises = omega (arith, expected_stays b);
        chain = subst (λ (y : ℕ). Chain (voice_of k) k.sent (k.expected - 1) h (beats b (spoken b k)) (spoken b k).sent (y - 1) h) (sym (expected_stays b)) (spoken_chain x.now b k h in_it some (omega (arith, most, bounds.fits)) kept_is);
      }

      all : Linked g j (qs ++ beats b (spoken b k)) h (spoken b k)
      all = linked_then g h h j k (spoken b k) qs (beats b (spoken b k)) o last

      either : ((spoken b k).sent_at ≡ j.sent_at) ⊎ ((spoken b k).sent_at ≡ x.now) → ((spoken b k).sent_at ≡ l.sent_at) ⊎ ((spoken b k).sent_at ≡ x.now)
      either (inl e) = inl (e ∙ ap (λ (y : LinkState). y.sent_at) same)
      either (inr e) = inr e

  -- ---- a round in which what comes may be taken

  abbrev pub EndMode : Bool → ℕ → LinkState → Type 0
  EndMode false kept k = (kept ≡ x.kept) × (k.own_stamp ≡ x.own)
  EndMode true kept k = Tuned k x.end x.confirmed x.returned × (HasHeard x kept k ⊎ ((x.pdus ≡ []) × HasWaited x kept k))

  reached_as : (j k : LinkState) (n : ℕ) → j.expected ≡ k.expected → j.own_stamp ≡ k.own_stamp → j.confirmed ≡ k.confirmed → j.phase ≡ k.phase → n ≡ x.end → Reached x k n [] → Reached x j x.end []
  reached_as j k n e o c f at (unheard u) = unheard u
  reached_as j k n e o c f at (waiting u) = waiting (ap waits f ∙ u)
  reached_as j k n e o c f at (off u) = off (omega (arith, e, at, u))
  reached_as j k n e o c f at (low (inl u)) = low (inl (omega (arith, o, u)))
  reached_as j k n e o c f at (low (inr u)) = low (inr (omega (arith, c, u)))

  deaf_spoken : (b : Bool) (k : LinkState) (n : ℕ) → n ≡ x.end → Deaf x k n [] → Deaf x (spoken b k) x.end []
  deaf_spoken false k n at d = record { expected = d.expected; confirmed = d.confirmed; phase = d.phase; reached = reached_as k k n refl refl refl refl at d.reached }
  deaf_spoken true k n at d = record { expected = d.expected; confirmed = d.confirmed; phase = d.phase; reached = reached_as (spoken true k) k n refl refl refl refl at d.reached }

  phase_stays : (b : Bool) (k : LinkState) → (spoken b k).phase ≡ k.phase
  phase_stays false k = refl
  phase_stays true k = refl

  no_beat : (b : Bool) (k : LinkState) → (b ≡ true → is_up k.phase ≡ true) → is_up k.phase ≡ false → beats b (spoken b k) ≡ []
  no_beat false k up e = refl
  no_beat true k up e = absurd (cc (up refl, e))

  both_none : (ps qs : List Pdu) → ps ≡ [] → qs ≡ [] → ps ++ qs ≡ []
  both_none ps qs e f = cc

  -- what such a round makes of an end
  pub record Heeds (tuned : Bool) (l : LinkState) (s : Step) : Type 0 where
    pub says : Spoke x l s
    pub then_tuned : Bool
    pub mode : EndMode then_tuned says.kept s.link
    pub keeps : tuned ≡ true → then_tuned ≡ true
    pub still : then_tuned ≡ false → s.link.expected ≡ x.before.expected

  -- where it is given no items
  pub record Turn (tuned : Bool) (l : LinkState) (s : Step) : Type 0 where
    pub says : Spoke x l s
    pub then_tuned : Bool
    pub mode : EndMode then_tuned says.kept s.link
    pub keeps : tuned ≡ true → then_tuned ≡ true
    pub plain : tuned ≡ true → Each IsPlainPdu s.pdus
    pub beating : tuned ≡ true → Each IsPlainPdu x.pdus → (b : Bool) × (s.pdus ≡ beats b s.link) × (b ≡ true → s.link.sent_at ≡ x.now)
    pub notes : Notes x then_tuned s

  abbrev pub heeds_of : (tuned : Bool) (l : LinkState) (s : Step) → Turn tuned l s → Heeds tuned l s
  heeds_of tuned l s t = record { says = t.says; then_tuned = t.then_tuned; mode = t.mode; keeps = t.keeps; still = λ e. (t.notes.deaf e).expected }

  pub end_mode : (tuned : Bool) (kept : ℕ) (k : LinkState) (n c r : ℕ) → Mode x tuned kept k n c r [] → (n ≡ x.end) × (c ≤ x.confirmed) × (r ≤ x.returned) → EndMode tuned kept k
  end_mode false kept k n c r m ends_at = m
  end_mode true kept k n c r (t, how) (i, j, h) = (record { reading = t.reading; expected = t.expected ∙ i; confirmed = omega (arith, t.confirmed, j); own = omega (arith, t.own, h) }, either how)
    where
      either : HasHeard x kept k ⊎ (([] ≡ x.pdus) × HasWaited x kept k) → HasHeard x kept k ⊎ ((x.pdus ≡ []) × HasWaited x kept k)
      either (inl e) = inl e
      either (inr (a, b)) = inr (sym a, b)

  spoken_mode : (tuned b : Bool) (kept : ℕ) (k : LinkState) → EndMode tuned kept k → EndMode tuned kept (spoken b k)
  spoken_mode tuned false kept k m = m
  spoken_mode false true kept k m = m
  spoken_mode true true kept k (t, how) = (record { reading = t.reading; expected = t.expected; confirmed = t.confirmed; own = t.own }, how)

  pub turns : (g : Ghost) (l : LinkState) → x.before ≡ l → g.kept ≡ x.kept → Joined l.clock l → x.now ≡ l.clock + 10 → (x.now < l.own_stamp + 1800 → Hearing x g x.pdus (at_reading x.now l))
      → Either x.now (end_round x.now x.pdus l).link (Turn g.tuned l (end_round x.now x.pdus l))
  unfolding says_then
  turns g l same start is at hearing_is = choose (begins x.now l at is.connected is.young)
    where
      j : LinkState
      j = at_reading x.now l

      Goal : Step → Type 0
      Goal s = Either x.now s.link (Turn g.tuned l s)

      heard_all : Step
      heard_all = all_heard x.now x.pdus j

      ended : (k : LinkState) (qs : List Pdu) (h : Ghost) → Hearing x h [] k → Answers x g j qs h k → Ended x.now k (worked x.now l.identity.role k) → Goal (record { link = (worked x.now l.identity.role k).link; pdus = qs ++ (worked x.now l.identity.role k).pdus })
      ended k qs h a o (gone_end left) = gone left
      ended k qs h a o (done b e calm up) = subst (λ (s : Step). Goal (record { link = s.link; pdus = qs ++ s.pdus })) (sym e) (so (record {
        says = says_then l j k qs g.kept h.kept b refl start a.is a.some a.most a.kept_is a.since a.kept_before (record { goes = o.goes; rises = o.rises; chain = o.chain }) calm;
        then_tuned = h.tuned;
        mode = spoken_mode h.tuned b h.kept k (end_mode h.tuned h.kept k a.number a.count a.reading a.mode a.chain);
        keeps = o.stays_tuned;
        plain = λ t. each_append IsPlainPdu qs (beats b (spoken b k)) (o.plain t) (spoken_plain b k);
        beating = λ t p. (b, ap (λ (rs : List Pdu). rs ++ beats b (spoken b k)) (o.calm t p), said_now b);
        notes = record {
          shut = λ s. (a.shut s).0;
          hush = λ f. each_append IsNoAnswerPdu qs (beats b (spoken b k)) (o.hush f) (spoken_no_answer b k);
          hush_plain = λ p. each_append IsNoAnswerPdu qs (beats b (spoken b k)) (o.hush_plain p) (spoken_no_answer b k);
          waits_on = λ w f. let y = o.waits_on (ap (λ (j : LinkState). waits j.phase) (sym same) ∙ w) f in
              (ap waits (phase_stays b k) ∙ y.0, each_append IsPlainPdu qs (beats b (spoken b k)) (subst (Each IsPlainPdu) (sym y.1) tt) (spoken_plain b k));
          mute = λ f u. let v = sym (ap is_up (phase_stays b k)) ∙ u in
              both_none qs (beats b (spoken b k)) (o.mute f (not_before (is_up k.phase) (waits k.phase) v (waits_up k.phase))) (no_beat b k up v);
          deaf = λ f. deaf_spoken b k a.number a.chain.0 (a.deaf f);
          outdated_on = λ f d. let y = a.outdated_on f d in (y.0, phase_stays b k ∙ y.2);
        };
      }))
        where
          said_now : (b : Bool) → b ≡ true → (spoken b k).sent_at ≡ x.now
          said_now true f = a.is.clock
          said_now false f = cc

      heard_then : Next Ghost x.now (Hearing x) (Answers x) g j [] heard_all → Goal (then_do heard_all (λ k. worked x.now l.identity.role k))
      heard_then (gone_next left) = gone (works_out x.now l.identity.role heard_all.link left)
      heard_then (stays_next h a o) = ended heard_all.link heard_all.pdus h a o (ends x.now l.identity.role heard_all.link a.is)

      choose : Begins x.now l → Goal (end_round x.now x.pdus l)
      choose (late left) = gone (stays_out x.now x.pdus l left)
      choose (on e young) = subst Goal (sym (round_on x.now x.pdus l e)) (heard_then (tunes x bounds g x.pdus j (hearing_is young)))
