-- What a round at work makes of an end that has joined a connection.
use Rattle.rasta_core_recovery.proofs.Words.Basics.{◌≡◌, ℕ, ◌∙◌, ◌+◌, ◌-◌, ◌^◌, ◌≤◌, ◌<◌, ◌⊎◌, inl, inr, Bool, true, false, List, [], ◌∷◌, ◌++◌, refl, sym, ap, subst, arith}
use Rattle.rasta_core_recovery.proofs.Words.Links.{stamp, LinkState, is_up, settled, Step, header_of, Header, Role, Pdu, Each}
use Rattle.rasta_core_recovery.proofs.Lemmas.Rounds.Links.{heard}
use Rattle.rasta_core_recovery.proofs.Lemmas.Rounds.Acts.{Act, all_did, acted, IsWork, HasRoom, Roomy}
use Rattle.rasta_core_recovery.proofs.Lemmas.ComingUp.Healthy.{is_reading, waits}
use Rattle.rasta_core_recovery.proofs.Lemmas.Rounds.Calls.{at_reading}
use Rattle.rasta_core_recovery.proofs.Lemmas.Rounds.Lists.{each_append}
use Rattle.rasta_core_recovery.proofs.Lemmas.Rounds.Words.{IsSimple, Says, simple_plain, simple_talk, simple_no_answer, says_most, Row, Voice, voice_of, IsNumbered, Chain, says_row, says_chain}
use Rattle.rasta_core_recovery.proofs.Lemmas.Rounds.Fold.{Out, Next, gone_next, stays_next}
use Rattle.rasta_core_recovery.proofs.Lemmas.Rounds.Own.{Utters, Calm}
use Rattle.rasta_core_recovery.proofs.Lemmas.AtWork.WorkFold.{Done, gone_done, so_done, works_through, round_through}
use Rattle.rasta_core_recovery.proofs.Lemmas.Rounds.Course.{Joined, lively, Goes, goes_none, voice_goes, speaks_now}
use Rattle.rasta_core_recovery.proofs.Lemmas.ComingUp.TunedEnds.{IsPlainPdu, IsNoAnswerPdu, not_before, Round, Bounds, Ghost, HasHeard, HasWaited, Mode, Shut, far_off, outdated, missed, stuck, nothing, Reached, unheard, waiting, off, low, Deaf, IsOutdated, Hearing, Answers, tunes_one}
use Rattle.rasta_core_recovery.proofs.Lemmas.Rounds.Turn.{waits_up, Either, gone, so, Rowed, rowed_then, rows_step, Numbers, linked_then, Spoke, Notes, end_mode, Heeds, reading_joined}

abbrev pub IsSimplePdu : Pdu → Type 0
IsSimplePdu p = IsSimple p.body

-- ---- what an end says of its own

pub utters_joined : (now : ℕ) (l k : LinkState) (qs : List Pdu) → Joined now l → Utters l k qs → Joined now k
utters_joined now l k qs is u = subst (Joined now) (sym u.same) (record { clock = is.clock; connected = is.connected; joined = is.joined; young = is.young; own = is.own })

pub utters_goes : (now : ℕ) (l k : LinkState) (qs : List Pdu) → l.clock ≡ now → Utters l k qs → Goes now l qs k
utters_goes now l k qs at u = record {
  identity = ap (λ (j : LinkState). j.identity) u.same;
  own_first = ap (λ (j : LinkState). j.own_first) u.same;
  partner_first = ap (λ (j : LinkState). j.partner_first) u.same;
  clock = sym (ap (λ (j : LinkState). j.clock) u.same);
  sent_at = either u.sent_at;
  spoken = said u.sent_at;
}
  where
    either : ((qs ≡ []) × (k.sent_at ≡ l.sent_at)) ⊎ ((k.sent_at ≡ l.clock) × (qs ≡ [] → ⊥)) → (k.sent_at ≡ l.sent_at) ⊎ (k.sent_at ≡ now)
    either (inl e) = inl e.1
    either (inr e) = inr (e.0 ∙ at)

    said : ((qs ≡ []) × (k.sent_at ≡ l.sent_at)) ⊎ ((k.sent_at ≡ l.clock) × (qs ≡ [] → ⊥)) → qs ≡ [] → k.sent_at ≡ l.sent_at
    said (inl e) none = e.1
    said (inr e) none = absurd (e.1 none)

pub utters_row : (l k : LinkState) (qs : List Pdu) → Utters l k qs → Row (IsNumbered (voice_of l)) l.sent qs k.sent
utters_row l k qs u = says_row IsSimple simple_talk (voice_of l) l l.sent k.sent qs refl u.says

pub expects_still : (l k : LinkState) (qs : List Pdu) → Utters l k qs → k.expected ≡ l.expected
expects_still l k qs u = ap (λ (j : LinkState). j.expected) u.same

pub utters_chain : (now kept : ℕ) (l k : LinkState) (qs : List Pdu) → Joined now l → 1 ≤ l.expected → l.expected < 2 ^ 31 → l.partner_stamp ≡ stamp kept → Utters l k qs
    → Chain (voice_of l) l.sent (l.expected - 1) kept qs k.sent (k.expected - 1) kept
utters_chain now kept l k qs is some fits kept_is u = subst (λ (y : ℕ). Chain (voice_of l) l.sent (l.expected - 1) kept qs k.sent (y - 1) kept) (sym (expects_still l k qs u))
    (says_chain IsSimple simple_talk (voice_of l) l l.sent k.sent (l.expected - 1) kept qs (speaks_now now l kept is some fits kept_is) u.says)

each_simple : (h : Header) (n end : ℕ) (ps : List Pdu) → Says IsSimple h n ps end → Each IsSimplePdu ps
each_simple h n end [] s = tt
each_simple h n end (p ∷ ps) s = (s.1, each_simple h (n + 1) end ps s.2)

pub simple_are_plain : (ps : List Pdu) → Each IsSimplePdu ps → Each IsPlainPdu ps
simple_are_plain [] each = tt
simple_are_plain (p ∷ ps) each = (simple_plain p.body each.0, simple_are_plain ps each.1)

simple_no_answers : (ps : List Pdu) → Each IsSimplePdu ps → Each IsNoAnswerPdu ps
simple_no_answers [] each = tt
simple_no_answers (p ∷ ps) each = (simple_no_answer p.body each.0, simple_no_answers ps each.1)

pub utters_simple : (l k : LinkState) (qs : List Pdu) → Utters l k qs → Each IsSimplePdu qs
utters_simple l k qs u = each_simple (header_of l) l.sent k.sent qs u.says

-- ---- whatever comes: what it says has rising numbers

pub numbers_at_work : (who : Role) (now : ℕ) (due : List Pdu) (acts : List Act) (l : LinkState) → IsWork who due acts → Joined l.clock l → now ≡ l.clock + 10 → Roomy now acts (settled now l)
    → Either now (acted now acts l).link (Numbers now l (acted now acts l))
numbers_at_work who now due acts l work is at room = finish (round_through (Unit {0}) ℕ now (λ g ps l. Joined now l) (Rowed now) (λ g l. record { goes = goes_none now l; row = refl }) (rowed_then now) (λ g ps l is. lively now l is) hear own
    who due acts work 0 l tt at is.connected is.young (λ young. reading_joined now l is at young) room)
  where
    Ended : ℕ → LinkState → List Pdu → Step → Type 0
    Ended g k ps s = Done (Unit {0}) ℕ now (λ g ps l. Joined now l) (Rowed now) g k ps s

    hear : (g : ℕ) (p : Pdu) (ps : List Pdu) (k : LinkState) → Joined now k → HasRoom k → Ended g k ps (heard now p k)
    hear g p ps k in_it roomy = either (rows_step now g p ps k in_it)
      where
        either : Next ℕ now (λ g ps l. Joined now l) (Rowed now) g k ps (heard now p k) → Ended g k ps (heard now p k)
        either (gone_next left) = gone_done tt left
        either (stays_next h then_in o) = so_done h then_in o

    own : (g : ℕ) (ps : List Pdu) (k j : LinkState) (qs : List Pdu) → Joined now k → Utters k j qs → Joined now j × Rowed now g k qs g j
    own g ps k j qs in_it u = (utters_joined now k j qs in_it u, record { goes = utters_goes now k j qs in_it.clock u; row = utters_row k j qs u })

    finish : Done (Unit {0}) ℕ now (λ g ps k. Joined now k × Calm now k) (Rowed now) 0 (at_reading now l) [] (acted now acts l) → Either now (acted now acts l).link (Numbers now l (acted now acts l))
    finish (gone_done why left) = gone left
    finish (so_done h (then_in, calm) o) = so (record {
      is = then_in;
      identity = o.goes.identity;
      own_first = o.goes.own_first;
      partner_first = o.goes.partner_first;
      sent_at = o.goes.sent_at;
      row = subst (λ (v : Voice). Row (IsNumbered v) l.sent (acted now acts l).pdus (acted now acts l).link.sent) (sym (voice_goes now (at_reading now l) (acted now acts l).link (acted now acts l).pdus o.goes)) o.row;
    })

-- ---- what its partner said with rising numbers comes

module _ (x : Round) (bounds : Bounds x) where
  spoken : (g h : ℕ) (l : LinkState) (s : Step) → g ≡ x.kept → Joined x.now s.link → 1 ≤ s.link.expected → s.link.expected ≤ x.end → s.link.partner_stamp ≡ stamp h → x.kept ≤ h → h ≤ x.said_at
      → Goes x.now (at_reading x.now l) s.pdus s.link → l.expected ≤ s.link.expected → Chain (voice_of (at_reading x.now l)) l.sent (l.expected - 1) g s.pdus s.link.sent (s.link.expected - 1) h → Calm x.now s.link → Spoke x l s
  spoken g h l s start is some most kept_is since before goes rises chain calm = record {
    is = is;
    identity = goes.identity;
    own_first = goes.own_first;
    partner_first = goes.partner_first;
    sent_at = goes.sent_at;
    spoken = goes.spoken;
    some = some;
    most = most;
    rises = rises;
    kept = h;
    kept_is = kept_is;
    since = since;
    kept_before = before;
    chain = subst (λ (v : Voice). Chain v l.sent (l.expected - 1) x.kept s.pdus s.link.sent (s.link.expected - 1) h) (sym (voice_goes x.now (at_reading x.now l) s.link s.pdus goes))
        (subst (λ (y : ℕ). Chain (voice_of (at_reading x.now l)) l.sent (l.expected - 1) y s.pdus s.link.sent (s.link.expected - 1) h) start chain);
    calm = calm;
  }

  -- ---- and what it said confirms and returns more and more

  -- An end that takes what comes says nothing that asks; and where what comes doesn't ask, it says heartbeats and new items alone. One that
  -- isn't tuned answers none that asks, and one that waits for a retransmission waits on.
  record Said (g : Ghost) (l : LinkState) (ps : List Pdu) (h : Ghost) (k : LinkState) : Type 0 where
    goes : Goes x.now l ps k
    rises : l.expected ≤ k.expected
    chain : Chain (voice_of l) l.sent (l.expected - 1) g.kept ps k.sent (k.expected - 1) h.kept
    stays_tuned : g.tuned ≡ true → h.tuned ≡ true
    plain : g.tuned ≡ true → Each IsPlainPdu ps
    simple : g.tuned ≡ true → Each IsPlainPdu x.pdus → Each IsSimplePdu ps
    hush : h.tuned ≡ false → Each IsNoAnswerPdu ps
    hush_plain : Each IsPlainPdu x.pdus → Each IsNoAnswerPdu ps
    waits_on : waits l.phase ≡ true → h.tuned ≡ false → (waits k.phase ≡ true) × Each IsPlainPdu ps
    phase : h.tuned ≡ false → (k.phase ≡ l.phase) ⊎ (waits k.phase ≡ true)
    mute : h.tuned ≡ false → is_up k.phase ≡ false → ps ≡ []

  said_none : (g : Ghost) (l : LinkState) → Said g l [] g l
  said_none g l = record {
    goes = goes_none x.now l;
    rises = omega arith;
    chain = (refl, omega arith, omega arith);
    stays_tuned = λ e. e;
    plain = λ e. tt;
    simple = λ e p. tt;
    hush = λ e. tt;
    hush_plain = λ p. tt;
    waits_on = λ w e. (w, tt);
    phase = λ e. inl refl;
    mute = λ e down. refl;
  }

  said_then : (g h i : Ghost) (l k j : LinkState) (ps qs : List Pdu) → Said g l ps h k → Said h k qs i j → Said g l (ps ++ qs) i j
  said_then g h i l k j ps qs a b =
      let whole = linked_then x bounds g.kept h.kept i.kept l k j ps qs (record { goes = a.goes; rises = a.rises; chain = a.chain }) (record { goes = b.goes; rises = b.rises; chain = b.chain }) in record {
        goes = whole.goes;
        rises = whole.rises;
        chain = whole.chain;
        stays_tuned = λ e. b.stays_tuned (a.stays_tuned e);
        plain = λ e. each_append IsPlainPdu ps qs (a.plain e) (b.plain (a.stays_tuned e));
        simple = λ e p. each_append IsSimplePdu ps qs (a.simple e p) (b.simple (a.stays_tuned e) p);
        hush = λ e. each_append IsNoAnswerPdu ps qs (a.hush (was e)) (b.hush e);
        hush_plain = λ p. each_append IsNoAnswerPdu ps qs (a.hush_plain p) (b.hush_plain p);
        waits_on = λ w e. let y = a.waits_on w (was e) in let z = b.waits_on y.0 e in (z.0, each_append IsPlainPdu ps qs y.1 z.1);
        phase = λ e. phase_then e (a.phase (was e)) (b.phase e);
        mute = λ e down. none_both (a.mute (was e) (was_down (b.phase e) down)) (b.mute e down);
      }
    where
      was : i.tuned ≡ false → h.tuned ≡ false
      was e = not_before i.tuned h.tuned e b.stays_tuned

      phase_then : i.tuned ≡ false → (k.phase ≡ l.phase) ⊎ (waits k.phase ≡ true) → (j.phase ≡ k.phase) ⊎ (waits j.phase ≡ true) → (j.phase ≡ l.phase) ⊎ (waits j.phase ≡ true)
      phase_then e y (inr w) = inr w
      phase_then e (inl y) (inl z) = inl (z ∙ y)
      phase_then e (inr w) (inl z) = inr (b.waits_on w e).0

      was_down : (j.phase ≡ k.phase) ⊎ (waits j.phase ≡ true) → is_up j.phase ≡ false → is_up k.phase ≡ false
      was_down (inl z) down = ap is_up (sym z) ∙ down
      was_down (inr w) down = absurd (cc (waits_up j.phase w, down))

      none_both : ps ≡ [] → qs ≡ [] → ps ++ qs ≡ []
      none_both e f = cc

  said_of : (g h : Ghost) (l k : LinkState) (before after ps : List Pdu) → Hearing x g before l → Hearing x h after k → Answers x g l ps h k → Said g l ps h k
  said_of g h l k before after ps was is a = record {
    goes = a.goes;
    rises = a.rises;
    chain = a.chain;
    stays_tuned = a.stays_tuned;
    plain = a.plain;
    simple = λ e p. subst (Each IsSimplePdu) (sym (a.calm e p)) tt;
    hush = a.hush;
    hush_plain = a.hush_plain;
    waits_on = λ w e. let y = a.waits_on w e in (y.0, subst (Each IsPlainPdu) (sym y.1) tt);
    phase = λ e. phase_of e (was.deaf (not_before h.tuned g.tuned e a.stays_tuned)).phase (is.deaf e).phase;
    mute = λ e down. a.mute e (not_before (is_up k.phase) (waits k.phase) down (waits_up k.phase));
  }
    where
      phase_of : h.tuned ≡ false → (l.phase ≡ x.before.phase) ⊎ (waits l.phase ≡ true) → (k.phase ≡ x.before.phase) ⊎ (waits k.phase ≡ true) → (k.phase ≡ l.phase) ⊎ (waits k.phase ≡ true)
      phase_of e y (inr w) = inr w
      phase_of e (inl y) (inl z) = inl (z ∙ sym y)
      phase_of e (inr w) (inl z) = inr (a.waits_on w e).0

  mode_as : (b : Bool) (kept : ℕ) (l j : LinkState) (n c r : ℕ) (ps : List Pdu) → j.phase ≡ l.phase → j.expected ≡ l.expected → j.confirmed ≡ l.confirmed → j.own_stamp ≡ l.own_stamp → Mode x b kept l n c r ps → Mode x b kept j n c r ps
  mode_as false kept l j n c r ps f e g o m = (m.0, o ∙ m.1)
  mode_as true kept l j n c r ps f e g o (t, how) = (record { reading = ap is_reading f ∙ t.reading; expected = e ∙ t.expected; confirmed = omega (arith, g, t.confirmed); own = omega (arith, o, t.own) }, either how)
    where
      either : HasHeard x kept l ⊎ ((ps ≡ x.pdus) × HasWaited x kept l) → HasHeard x kept j ⊎ ((ps ≡ x.pdus) × HasWaited x kept j)
      either (inl h) = inl (h.0, omega (arith, o, h.1))
      either (inr (h, w)) = inr (h, (w.0, w.1, o ∙ w.2))

  reached_as : (l j : LinkState) (n : ℕ) (ps : List Pdu) → j.phase ≡ l.phase → j.expected ≡ l.expected → j.confirmed ≡ l.confirmed → j.own_stamp ≡ l.own_stamp → Reached x l n ps → Reached x j n ps
  reached_as l j n ps f e g o (unheard u) = unheard u
  reached_as l j n ps f e g o (waiting u) = waiting (ap waits f ∙ u)
  reached_as l j n ps f e g o (off u) = off (omega (arith, e, u))
  reached_as l j n ps f e g o (low (inl u)) = low (inl (omega (arith, o, u)))
  reached_as l j n ps f e g o (low (inr u)) = low (inr (omega (arith, g, u)))

  shut_as : (l j : LinkState) (n : ℕ) (ps : List Pdu) → j.phase ≡ l.phase → j.expected ≡ l.expected → j.confirmed ≡ l.confirmed → j.own_stamp ≡ l.own_stamp → Shut x l n ps → Shut x j n ps
  shut_as l j n ps f e g o (far_off u) = far_off (omega (arith, e, u))
  shut_as l j n ps f e g o (outdated (inl u)) = outdated (inl (omega (arith, o, u)))
  shut_as l j n ps f e g o (outdated (inr u)) = outdated (inr (omega (arith, g, u)))
  shut_as l j n ps f e g o (missed u none) = missed (omega (arith, e, u)) none
  shut_as l j n ps f e g o (stuck u none) = stuck (ap waits f ∙ u) none
  shut_as l j n ps f e g o (nothing u) = nothing u

  utters_hearing : (g : Ghost) (ps : List Pdu) (l k : LinkState) (qs : List Pdu) → Hearing x g ps l → Utters l k qs → Hearing x g ps k
  utters_hearing g ps l k qs is u = record {
    is = utters_joined x.now l k qs is.is u;
    first = is.first ∙ sym (ap (λ (j : LinkState). j.partner_first) u.same);
    partner_first = is.partner_first ∙ sym (ap (λ (j : LinkState). j.own_first) u.same);
    receiver = is.receiver ∙ sym (ap (λ (j : LinkState). j.identity.own) u.same);
    sender = is.sender ∙ sym (ap (λ (j : LinkState). j.identity.partner) u.same);
    some = omega (arith, is.some, e);
    most = omega (arith, is.most, e);
    kept_is = ap (λ (j : LinkState). j.partner_stamp) u.same ∙ is.kept_is;
    kept_before = is.kept_before;
    since = is.since;
    counts = omega (arith, is.counts, says_most IsSimple (header_of l) l.sent qs k.sent u.says);
    number = is.number;
    count = is.count;
    reading = is.reading;
    chain = is.chain;
    low = is.low;
    mode = mode_as g.tuned g.kept l k is.number is.count is.reading ps f e c o is.mode;
    plain = is.plain;
    from_number = is.from_number;
    from_count = is.from_count;
    from_reading = is.from_reading;
    deaf = λ d. let y = is.deaf d in record { expected = e ∙ y.expected; confirmed = c ∙ y.confirmed; phase = phase_as y.phase; reached = reached_as l k is.number ps f e c o y.reached };
    shut = λ s. let y = is.shut s in (y.0, shut_as l k is.number ps f e c o y.1);
    outdated_on = λ b d. let y = is.outdated_on b d in (y.0, outdated_as y.1, f ∙ y.2);
  }
    where
      f : k.phase ≡ l.phase
      f = ap (λ (j : LinkState). j.phase) u.same

      e : k.expected ≡ l.expected
      e = expects_still l k qs u

      c : k.confirmed ≡ l.confirmed
      c = ap (λ (j : LinkState). j.confirmed) u.same

      o : k.own_stamp ≡ l.own_stamp
      o = ap (λ (j : LinkState). j.own_stamp) u.same

      phase_as : (l.phase ≡ x.before.phase) ⊎ (waits l.phase ≡ true) → (k.phase ≡ x.before.phase) ⊎ (waits k.phase ≡ true)
      phase_as (inl y) = inl (f ∙ y)
      phase_as (inr y) = inr (ap waits f ∙ y)

      outdated_as : IsOutdated x l → IsOutdated x k
      outdated_as (inl y) = inl (omega (arith, o, y))
      outdated_as (inr y) = inr (omega (arith, c, y))

  -- Whether all that comes is surely taken: heartbeats and new items.
  abbrev pub Why : Bool → Type 0
  Why true = ⊥
  Why false = Unit {0}

  abbrev pub AllOf : Bool → List Pdu → Type 0
  AllOf true ps = Each IsSimplePdu ps
  AllOf false ps = Unit {0}

  others_of : (sure : Bool) (p : Pdu) (ps : List Pdu) → AllOf sure (p ∷ ps) → AllOf sure ps
  others_of true p ps each = each.1
  others_of false p ps each = tt

  why_of : (sure : Bool) (p : Pdu) (ps : List Pdu) → AllOf sure (p ∷ ps) → (IsSimple p.body → ⊥) → Why sure
  why_of true p ps each not_simple = not_simple each.0
  why_of false p ps each not_simple = tt

  pub record Worked (tuned : Bool) (l : LinkState) (s : Step) : Type 0 where
    pub heeds : Heeds x bounds tuned l s
    pub plain : tuned ≡ true → Each IsPlainPdu s.pdus
    pub simple : tuned ≡ true → Each IsPlainPdu x.pdus → Each IsSimplePdu s.pdus
    pub notes : Notes x heeds.then_tuned s
    pub calm : Calm x.now s.link

  -- what is left after a round
  pub data Left (sure : Bool) (tuned : Bool) (l : LinkState) (s : Step) : Type 0 where
    has_left : Why sure → Out x.now s.link → Left sure tuned l s
    stays_in : Worked tuned l s → Left sure tuned l s

  module _ (sure : Bool) where
    abbrev Through : Ghost → List Pdu → LinkState → Type 0
    Through g ps l = Hearing x g ps l × AllOf sure ps

    hear : (g : Ghost) (p : Pdu) (ps : List Pdu) (k : LinkState) → Through g (p ∷ ps) k → HasRoom k → Done (Why sure) Ghost x.now Through Said g k ps (heard x.now p k)
    hear g p ps k (in_it, each) room = either (tunes_one x bounds g p ps k in_it (room in_it.is.connected))
      where
        either : ((IsSimple p.body → ⊥) × Out x.now (heard x.now p k).link) ⊎ ((h : Ghost) × Hearing x h ps (heard x.now p k).link × Answers x g k (heard x.now p k).pdus h (heard x.now p k).link)
            → Done (Why sure) Ghost x.now Through Said g k ps (heard x.now p k)
        either (inl (why, left)) = gone_done (why_of sure p ps each why) left
        either (inr (h, then_in, o)) = so_done h (then_in, others_of sure p ps each) (said_of g h k (heard x.now p k).link (p ∷ ps) ps (heard x.now p k).pdus in_it then_in o)

    own : (g : Ghost) (ps : List Pdu) (k j : LinkState) (qs : List Pdu) → Through g ps k → Utters k j qs → Through g ps j × Said g k qs g j
    own g ps k j qs (in_it, each) u = let f = expects_still k j qs u in (
      (utters_hearing g ps k j qs in_it u, each),
      record {
        goes = utters_goes x.now k j qs in_it.is.clock u;
        rises = omega (arith, f);
        chain = utters_chain x.now g.kept k j qs in_it.is in_it.some (omega (arith, in_it.most, bounds.fits)) in_it.kept_is u;
        stays_tuned = λ e. e;
        plain = λ e. simple_are_plain qs (utters_simple k j qs u);
        simple = λ e p. utters_simple k j qs u;
        hush = λ e. simple_no_answers qs (utters_simple k j qs u);
        hush_plain = λ p. simple_no_answers qs (utters_simple k j qs u);
        waits_on = λ w e. (ap (λ (m : LinkState). waits m.phase) u.same ∙ w, simple_are_plain qs (utters_simple k j qs u));
        phase = λ e. inl (ap (λ (m : LinkState). m.phase) u.same);
        mute = λ e down. u.mute (ap (λ (m : LinkState). is_up m.phase) (sym u.same) ∙ down);
      },
    )

    ended : (g : Ghost) (l : LinkState) (s : Step) → x.before ≡ l → g.kept ≡ x.kept → Done (Why sure) Ghost x.now (λ h ps k. Through h ps k × Calm x.now k) Said g (at_reading x.now l) [] s → Left sure g.tuned l s
    unfolding spoken
    ended g l s same start (gone_done why left) = has_left why left
    ended g l s same start (so_done h ((a, each), calm) o) = stays_in (record {
      heeds = record {
        says = spoken g.kept h.kept l s start a.is a.some a.most a.kept_is a.since a.kept_before o.goes o.rises o.chain calm;
        then_tuned = h.tuned;
        mode = end_mode x bounds h.tuned h.kept s.link a.number a.count a.reading a.mode a.chain;
        keeps = o.stays_tuned;
        still = λ e. (a.deaf e).expected;
      };
      plain = o.plain;
      simple = o.simple;
      notes = record {
        shut = λ s. (a.shut s).0;
        hush = o.hush;
        hush_plain = o.hush_plain;
        waits_on = λ w f. o.waits_on (ap (λ (m : LinkState). waits m.phase) (sym same) ∙ w) f;
        mute = o.mute;
        deaf = λ f. subst (λ (n : ℕ). Deaf x s.link n []) a.chain.0 (a.deaf f);
        outdated_on = λ f d. let y = a.outdated_on f d in (y.0, y.2);
      };
      calm = calm;
    })

    -- where its clock goes on
    pub works_surely : (who : Role) (acts : List Act) (g : Ghost) (l : LinkState) → IsWork who x.pdus acts → x.before ≡ l → g.kept ≡ x.kept → Hearing x g x.pdus (at_reading x.now l) → AllOf sure x.pdus → Roomy x.now acts (at_reading x.now l)
        → (s : Step) → s ≡ all_did x.now acts (at_reading x.now l) → Left sure g.tuned l s
    works_surely who acts g l work same start is each room s e = ended g l s same start (subst (λ (t : Step). Done (Why sure) Ghost x.now (λ h ps k. Through h ps k × Calm x.now k) Said g (at_reading x.now l) [] t) (sym e)
        (works_through (Why sure) Ghost x.now Through Said said_none said_then (λ g ps l is. lively x.now l is.0.is) hear own who x.pdus acts work g (at_reading x.now l) (is, each) room))

    -- and where its time may be over
    pub turns_at_work : (who : Role) (acts : List Act) (g : Ghost) (l : LinkState) → Why sure → IsWork who x.pdus acts → x.before ≡ l → g.kept ≡ x.kept → Joined l.clock l → x.now ≡ l.clock + 10
        → (x.now < l.own_stamp + 1800 → Hearing x g x.pdus (at_reading x.now l)) → AllOf sure x.pdus → Roomy x.now acts (settled x.now l) → Left sure g.tuned l (acted x.now acts l)
    turns_at_work who acts g l why work same start is at hearing_is each room = ended g l (acted x.now acts l) same start
        (round_through (Why sure) Ghost x.now Through Said said_none said_then (λ g ps l is. lively x.now l is.0.is) hear own who x.pdus acts work g l why at is.connected is.young (λ young. (hearing_is young, each)) room)
