-- An end that comes to the limit of PDUs in a connection closes it, and its partner hears of that: no round later than the next.
use Rattle.rasta_core_recovery.proofs.Words.Basics.{◌≡◌, ℕ, ◌∙◌, ◌+◌, ◌-◌, ◌^◌, ◌≤◌, ◌<◌, Bool, true, false, nat_le, if◌then◌else◌, List, [], ◌∷◌, ◌++◌, refl, sym, ap, subst, arith, nat_tests}
use Rattle.rasta_core_recovery.proofs.Words.Links.{wire, stamp, LinkState, is_open, Step, silent, then_do, sending, telling, limited, entered, beating, header_of, pdu_of, settled, requesting, may_open, hearing, opening, ticking, Role, Identity, Phase, Pdu, DisconnectionRequest, Names}
use Rattle.rasta_core_recovery.proofs.Lemmas.Rounds.Links.{heard, all_heard, worked, end_round, the_step, same_step}
use Rattle.rasta_core_recovery.proofs.Lemmas.ComingUp.Healthy.{beats, is_reading, Follows}
use Rattle.rasta_core_recovery.proofs.Lemmas.Rounds.Calls.{at_reading, heard_lives, spoken}
use Rattle.rasta_core_recovery.proofs.Lemmas.ComingUp.Stays.{quiet_hearing, quiet_hears_all, quiet_may_not, quiet_works}
use Rattle.rasta_core_recovery.proofs.Lemmas.Rounds.Fold.{Out, same_clock, settled_in, beats_not, round_on, works_out}
use Rattle.rasta_core_recovery.proofs.Lemmas.ComingUp.Health.{reading_open, reading_joined, works, Sides, last_word, at_phase, last_heard, chosen_not, named_by, packed_same}

-- an end after it closed at the limit, and what it said in closing
abbrev pub told : LinkState → LinkState
told l = record l { sent = l.sent + 1; sent_at = l.clock; phase = Phase.Closed; closed_at = l.clock }

abbrev pub parting : LinkState → List Pdu
parting l = pdu_of (header_of l) l.sent (DisconnectionRequest 0 2) ∷ []

-- ---- an end that has sent as many PDUs as a connection has closes at its next call

full_enters : (now : ℕ) (l : LinkState) → is_open l.phase ≡ true → now < l.own_stamp + 1800 → 2147483000 ≤ l.sent → entered now l ≡ the_step (told (at_reading now l)) (parting (at_reading now l))
unfolding entered limited telling sending
full_enters now l is_in young full = ap limited (settled_in now l is_in young) ∙ rw (is_in, over) refl
  where
    over : nat_le 2147483000 l.sent ≡ true
    over = let f = full in grind (arith, nat_tests)

full_ticks : (now : ℕ) (l : LinkState) → is_open l.phase ≡ true → now < l.own_stamp + 1800 → 2147483000 ≤ l.sent → ticking now l ≡ the_step (told (at_reading now l)) (parting (at_reading now l))
unfolding ticking
full_ticks now l is_in young full =
    ap (λ (s : Step). then_do s beating) (full_enters now l is_in young full)
    ∙ ap (λ (s : Step). the_step s.link (parting (at_reading now l) ++ s.pdus)) (beats_not (told (at_reading now l)) refl)

full_hears : (now : ℕ) (p : Pdu) (ps : List Pdu) (l : LinkState) → is_open l.phase ≡ true → now < l.own_stamp + 1800 → 2147483000 ≤ l.sent
    → all_heard now (p ∷ ps) (at_reading now l) ≡ the_step (told (at_reading now l)) (parting (at_reading now l))
unfolding all_heard heard
full_hears now p ps l is_in young full =
    ap (λ (s : Step). then_do (then_do s (λ k. the_step (hearing p k).link (hearing p k).pdus)) (λ k. all_heard now ps k)) (full_enters now (at_reading now l) is_in young full)
    ∙ ap (λ (s : Step). then_do (the_step s.link (parting (at_reading now l) ++ s.pdus)) (λ k. all_heard now ps k)) (same_step quiet.0 quiet.1)
    ∙ ap (λ (s : Step). the_step s.link (parting (at_reading now l) ++ s.pdus)) (quiet_hears_all now ps t refl (omega arith) refl)
  where
    t : LinkState
    t = told (at_reading now l)

    quiet : ((hearing p t).link ≡ t) × ((hearing p t).pdus ≡ [])
    quiet = quiet_hearing p t refl (omega arith)

-- a server at the limit closes in its next round, whatever comes
pub full_round : (now : ℕ) (ps : List Pdu) (l : LinkState) → l.identity.role ≡ Role.Server → is_open l.phase ≡ true → now < l.own_stamp + 1800 → 2147483000 ≤ l.sent
    → end_round now ps l ≡ the_step (told (at_reading now l)) (parting (at_reading now l))
unfolding worked all_heard
full_round now [] l server is_in young full =
    round_on now [] l (settled_in now l is_in young)
    ∙ ap (λ (who : Role). worked now who (at_reading now l)) server
    ∙ full_ticks now (at_reading now l) is_in young full
full_round now (p ∷ ps) l server is_in young full =
    round_on now (p ∷ ps) l (settled_in now l is_in young)
    ∙ ap (λ (s : Step). then_do s (λ k. worked now l.identity.role k)) (full_hears now p ps l is_in young full)
    ∙ ap (λ (s : Step). the_step s.link (parting (at_reading now l) ++ s.pdus)) (quiet_works now l.identity.role (told (at_reading now l)) refl (omega arith))

-- a client that says its last PDU closes in the same round
pub closes_at_limit : (now : ℕ) (k : LinkState) → k.clock ≡ now → is_reading k.phase ≡ true → now < k.own_stamp + 1800 → k.sent + 1 ≡ 2147483000 → nat_le 300 (now - k.sent_at) ≡ true
    → worked now Role.Client k ≡ the_step (told (spoken true k)) (beats true (spoken true k) ++ parting (spoken true k))
unfolding worked opening
closes_at_limit now k at up young last due = ap (λ (s : Step). then_do s (λ l. opening now l)) ticks ∙ ap (λ (s : Step). the_step s.link (beats true said ++ s.pdus)) shuts
  where
    said : LinkState
    said = spoken true k

    room : k.sent < 2147483000
    room = omega (arith, last)

    server_is : true ≡ true → Role.Server ≡ Role.Client → k.sent + 1 < 2147483000
    server_is e f = absurd (cc f)

    ticks : ticking now k ≡ the_step said (beats true said)
    ticks = works now Role.Server k true at up young room server_is due

    enters : entered now said ≡ the_step (told said) (parting said)
    enters = full_enters now said (reading_open k.phase up) young (omega (arith, last)) ∙ ap (λ (j : LinkState). the_step (told j) (parting j)) (same_clock now said at)

    shuts : opening now said ≡ the_step (told said) (parting said)
    shuts = ap (λ (s : Step). then_do s (λ l. if may_open l then requesting l else silent l)) enters
        ∙ ap (λ (s : Step). the_step s.link (parting said ++ s.pdus)) (quiet_may_not (told said) refl (omega arith))

-- ---- and its partner closes as it hears of that

-- the parting word of an end, as its partner sees it
pub parting_is : (names : Names) (who : Role) (f : Bool) (now : ℕ) (l j m : LinkState) → Sides names who j m → (h : Follows f m j) → j.sent < 2 ^ 31
    → l.identity ≡ j.identity → l.own_first ≡ j.own_first → l.partner_first ≡ m.own_first → l.expected ≡ m.sent
    → parting (at_reading now m) ≡ last_word l (m.expected - 1) h.reading (stamp now) ∷ []
unfolding header_of pdu_of
parting_is names who f now l j m sides h fits same own first expected = ap (λ (p : Pdu). p ∷ []) (packed_same (stamp now) (DisconnectionRequest 0 2) receiver sender number counts returns)
  where
    receiver : m.identity.partner ≡ l.identity.own
    receiver = (named_by names who j m sides).0 ∙ sym (ap (λ (i : Identity). i.own) same)

    sender : m.identity.own ≡ l.identity.partner
    sender = (named_by names who j m sides).1 ∙ sym (ap (λ (i : Identity). i.partner) same)

    number : wire m.own_first m.sent ≡ wire l.partner_first l.expected
    number = omega (arith, first, expected)

    counts : (header_of (at_reading now m)).confirmed_sequence_number ≡ wire l.own_first (m.expected - 1)
    counts = chosen_not _ _ (reading_joined m h.reads) ∙ omega (arith, h.first, own, h.some, h.expected, fits)

    returns : (header_of (at_reading now m)).confirmed_time_stamp ≡ stamp h.reading
    returns = chosen_not _ _ (reading_joined m h.reads) ∙ h.kept

-- it goes out
pub goes_out : (now : ℕ) (l : LinkState) (counted own heard_stamp : ℕ) → is_reading l.phase ≡ true → now < l.own_stamp + 1800 → l.own_stamp ≤ own → own ≤ now → l.confirmed ≤ counted → counted < l.sent → l.sent < 2147483000 → l.expected < 2 ^ 31
    → Out now (heard now (last_word l counted own heard_stamp) l).link
goes_out now l counted own heard_stamp up young since before confirmed counts room place =
    subst (λ (s : Step). Out now s.link) (sym (heard_lives now (last_word l counted own heard_stamp) l (record { connected = reading_open l.phase up; young = young; room = room })))
    (record { clock = shut.2; is_out = shut.0; quiet = omega (arith, shut.1); lately = omega (arith, shut.1) })
  where
    k : LinkState
    k = (hearing (last_word l counted own heard_stamp) (at_phase now l.phase l)).link

    shut : (is_open k.phase ≡ false) × (k.closed_at ≡ now) × (k.clock ≡ now)
    shut = last_heard now l counted own heard_stamp young since before confirmed counts (omega (arith, room)) place l.phase up

-- what comes in a round, where the end is outside after its first word
pub out_by_one : (now : ℕ) (p : Pdu) (ps : List Pdu) (l : LinkState) → settled now l ≡ at_reading now l → Out now (heard now p (at_reading now l)).link → Out now (end_round now (p ∷ ps) l).link
unfolding all_heard
out_by_one now p ps l stays left = subst (λ (s : Step). Out now s.link) (sym (round_on now (p ∷ ps) l stays))
    (works_out now l.identity.role (all_heard now (p ∷ ps) (at_reading now l)).link
    (subst (Out now) (sym (ap (λ (s : Step). s.link) (quiet_hears_all now ps (heard now p (at_reading now l)).link left.is_out left.quiet left.clock))) left))

-- or after its second, the first of which it took
pub out_by_two : (now : ℕ) (p q : Pdu) (l k : LinkState) → settled now l ≡ at_reading now l → (heard now p (at_reading now l)).link ≡ k → Out now (heard now q k).link → Out now (end_round now (p ∷ q ∷ []) l).link
unfolding all_heard
out_by_two now p q l k stays takes left = subst (λ (s : Step). Out now s.link) (sym (round_on now (p ∷ q ∷ []) l stays))
    (works_out now l.identity.role (all_heard now (p ∷ q ∷ []) (at_reading now l)).link (subst (λ (j : LinkState). Out now (heard now q j).link) (sym takes) left))
