-- What a call at one of two ends makes of the asks and answers of both.
use Rattle.rasta_core_recovery.proofs.Words.Basics.{◌≡◌, ℕ, ◌∙◌, ◌+◌, ◌^◌, ◌≤◌, ◌<◌, ◌⊎◌, inl, inr, Bool, true, false, nat_le, ◌==◌, List, [], ◌∷◌, if◌then◌else◌, refl, sym, ap, subst, arith, leb-true, leb-false, eqb-false, eqb-true, false≢true}
use Rattle.rasta_core_recovery.proofs.Words.Links.{before, wire, LinkState, is_asking, header_of, pdu_of, ahead, taking, Pdu, Body, ConnectionRequest, ConnectionResponse, Data, DisconnectionRequest, Heartbeat, RetransmissionRequest, RetransmissionResponse, RetransmittedData, Names}
use Rattle.rasta_core_recovery.proofs.Words.Recovery.{AnswerComes, DontCross, HasAsked, IsAnswer, IsAnswerTo, IsAsk, IsSaid, IsWaiting, View, of_partner, reached_by}
use Rattle.std.proofs.lemmas.Bool.{ltb-false}
use Rattle.rasta_core_recovery.proofs.Lemmas.Asking.AsksBlocks.{SaysBlocks}
use Rattle.rasta_core_recovery.proofs.Lemmas.Asking.AsksCalls.{Acts, Answers, IsQuiet, Rests, hears_one, misses, rests}
use Rattle.rasta_core_recovery.proofs.Lemmas.Asking.AsksSaid.{BothAsk, Brought, Called, after, grows, partner_keeps, keeps_ask, keeps_answer, partner_keeps_ask, partner_ask_only, partner_answer_only, partner_keeps_answer, keeps_to, partner_keeps_to, partner_to_only, to_only, own_said, says_next, partner_below}
use Rattle.rasta_core_recovery.proofs.Lemmas.Asking.AsksSeen.{are_few, partner_fits, passed_it, said_once, turn_seen}
use Rattle.rasta_core_recovery.proofs.Lemmas.Rounds.Course.{placed}
use Rattle.rasta_core_recovery.proofs.Lemmas.Rounds.Deed.{Asked, InTurn, Passes, Taken}
use Rattle.rasta_core_recovery.proofs.Lemmas.ComingUp.Healthy.{is_reading}
use Rattle.rasta_core_recovery.proofs.Lemmas.Windows.WindowNumbers.{wire_once}
use Rattle.rasta_core_recovery.proofs.Lemmas.Rounds.Words.{IsPlain, IsSimple, IsSpeech, Row, Says, row_most}

-- ---- bodies

ask_or_plain : (body : Body) → IsSpeech body → (body ≡ RetransmissionRequest) ⊎ IsPlain body
ask_or_plain (ConnectionRequest opening) speech = absurd speech
ask_or_plain (ConnectionResponse opening) speech = absurd speech
ask_or_plain RetransmissionRequest speech = inl refl
ask_or_plain RetransmissionResponse speech = inr tt
ask_or_plain (DisconnectionRequest detail reason) speech = absurd speech
ask_or_plain Heartbeat speech = inr tt
ask_or_plain (Data items) speech = inr tt
ask_or_plain (RetransmittedData items) speech = inr tt

no_both : (body : Body) → body ≡ RetransmissionRequest → body ≡ RetransmissionResponse → ⊥
no_both body e f = cc (e, f)

quiet_asks : (body : Body) → IsSimple body → body ≡ RetransmissionRequest → ⊥
quiet_asks body simple e = subst IsSimple e simple

quiet_answers : (body : Body) → IsSimple body → body ≡ RetransmissionResponse → ⊥
quiet_answers body simple e = subst IsSimple e simple

pub plain_asks : (body : Body) → IsPlain body → body ≡ RetransmissionRequest → ⊥
plain_asks body plain e = subst IsPlain e plain

reading_waits : (k : LinkState) → is_reading k.phase ≡ true → IsWaiting k → ⊥
reading_waits k reading_is waiting = false≢true (sym (ap is_reading waiting) ∙ reading_is)

-- ---- what an end says in answer

-- a PDU of an answer to this one
record IsReply (p : Pdu) (l : LinkState) (n : ℕ) (q : Pdu) : Type 0 where
  number : q.sequence_number ≡ wire l.own_first n
  confirms : q.confirmed_sequence_number ≡ wire l.partner_first (before (wire l.expected (ahead p l + 1)))
  plain : IsPlain q.body
  asked : p.body ≡ RetransmissionRequest

reply_row : (p : Pdu) (l : LinkState) → is_asking l ≡ false → p.body ≡ RetransmissionRequest → (n : ℕ) (ps : List Pdu) (last : ℕ) → Says IsPlain (header_of (taking p l)) n ps last → Row (IsReply p l) n ps last
unfolding pdu_of header_of taking
reply_row p l joined asked n [] last says = says
reply_row p l joined asked n (q ∷ ps) last says = (
  record {
    number = ap (λ (r : Pdu). r.sequence_number) says.0;
    confirms = ap (λ (r : Pdu). r.confirmed_sequence_number) says.0 ∙ ap (λ (b : Bool). if b then 0 else wire l.partner_first (before (wire l.expected (ahead p l + 1)))) joined;
    plain = says.1;
    asked = asked;
  },
  reply_row p l joined asked (n + 1) ps last says.2,
)

-- an ask, of its sender
record IsAsking (first n : ℕ) (p : Pdu) : Type 0 where
  number : p.sequence_number ≡ wire first n
  asks : p.body ≡ RetransmissionRequest

module _ (names : Names) (call : Called names) where
  abbrev v : View
  v = call.view

  abbrev w : View
  w = after call.view call.end call.more

  abbrev l : LinkState
  l = call.view.own.link

  abbrev k : LinkState
  k = call.end.link

  -- ---- all of it

  both_ask : (IsWaiting k → HasAsked names w) → ((n : ℕ) → IsAnswer names w n → (asked : ℕ) × IsAnswerTo names w asked n)
      → ((h : HasAsked names (of_partner v)) → (reached_by k ≤ h.number) ⊎ ((answered : ℕ) × AnswerComes names (of_partner w) answered)) → DontCross names w → BothAsk names w
  both_ask asked answers comes cross = record {
    own = record { few = are_few names w call.then_seen; asked = asked; answers = answers; passed = passed_it names w call.then_seen; once = said_once names w call.then_seen };
    partner = record {
      few = are_few names (of_partner w) (turn_seen names w call.then_seen);
      asked = λ waits. let h = call.was.partner.asked waits in record {
        number = h.number;
        ask = partner_keeps_ask names call h.number h.ask;
        asks_no_more = λ other a. h.asks_no_more other (partner_ask_only names call other a);
        answers_no_more = λ other a. h.answers_no_more other (partner_answer_only names call other a);
        comes = comes h;
        missed = let m = h.missed in let g = grows names call in omega (arith, m, g);
      };
      answers = λ n a. let to = call.was.partner.answers n (partner_answer_only names call n a) in (to.0, partner_keeps_to names call to.0 n to.1);
      passed = passed_it names (of_partner w) (turn_seen names w call.then_seen);
      once = said_once names (of_partner w) (turn_seen names w call.then_seen);
    };
    cross = cross;
  }

  -- an answer of the end that still came to its partner still does
  pub still_comes : (answered : ℕ) → AnswerComes names (of_partner v) answered → AnswerComes names (of_partner w) answered
  still_comes answered c = record { answer = keeps_answer names call answered c.answer; ahead = c.ahead }

  -- ---- it rests

  module _ (r : Rests l k) (row : Row (IsQuiet l.own_first) l.sent call.ps k.sent) where
    ask_before : (n : ℕ) (p : Pdu) → IsSaid names w n p → p.body ≡ RetransmissionRequest → IsSaid names v n p
    ask_before n p said is = choose (own_said names call (IsQuiet l.own_first) (λ m q quiet. quiet.number) row n p said)
      where
        choose : IsSaid names v n p ⊎ ((l.sent ≤ n) × IsQuiet l.own_first n p) → IsSaid names v n p
        choose (inl s) = s
        choose (inr (above, quiet)) = absurd (quiet_asks p.body quiet.simple is)

    answer_before : (n : ℕ) (p : Pdu) → IsSaid names w n p → p.body ≡ RetransmissionResponse → IsSaid names v n p
    answer_before n p said is = choose (own_said names call (IsQuiet l.own_first) (λ m q quiet. quiet.number) row n p said)
      where
        choose : IsSaid names v n p ⊎ ((l.sent ≤ n) × IsQuiet l.own_first n p) → IsSaid names v n p
        choose (inl s) = s
        choose (inr (above, quiet)) = absurd (quiet_answers p.body quiet.simple is)

    rests_asked : IsWaiting k → HasAsked names w
    rests_asked waits = record {
      number = h.number;
      ask = keeps_ask names call h.number h.ask;
      asks_no_more = λ other a. h.asks_no_more other (record { pdu = a.pdu; said = ask_before other a.pdu a.said a.asks; asks = a.asks });
      answers_no_more = λ other a. h.answers_no_more other (record { pdu = a.pdu; said = answer_before other a.pdu a.said a.answers; answers = a.answers });
      comes = choose h.comes;
      missed = let m = h.missed in let e = r.reached in omega (arith, m, e);
    }
      where
        h : HasAsked names v
        h = call.was.own.asked (r.waits waits)

        choose : (reached_by v.partner.link ≤ h.number) ⊎ ((answered : ℕ) × AnswerComes names v answered) → (reached_by v.partner.link ≤ h.number) ⊎ ((answered : ℕ) × AnswerComes names w answered)
        choose (inl ahead_of) = inl ahead_of
        choose (inr (answered, c)) = inr (answered, record { answer = partner_keeps_answer names call answered c.answer; ahead = let e = r.reached in let a = c.ahead in omega (arith, e, a) })

    rests_all : BothAsk names w
    rests_all = both_ask rests_asked
        (λ n a. let to = call.was.own.answers n (record { pdu = a.pdu; said = answer_before n a.pdu a.said a.answers; answers = a.answers }) in (to.0, keeps_to names call to.0 n to.1))
        (λ h. choose h h.comes)
        (λ asked answered partner_asked partner_answered x y. call.was.cross asked answered partner_asked partner_answered
        (to_only names call asked answered x (answer_before answered x.answer.pdu x.answer.said x.answer.answers))
        (partner_to_only names call partner_asked partner_answered y (ask_before partner_asked y.ask.pdu y.ask.said y.ask.asks)))
      where
        choose : (h : HasAsked names (of_partner v)) → (reached_by l ≤ h.number) ⊎ ((answered : ℕ) × AnswerComes names (of_partner v) answered)
            → (reached_by k ≤ h.number) ⊎ ((answered : ℕ) × AnswerComes names (of_partner w) answered)
        choose h (inl ahead_of) = inl (let e = r.reached in omega (arith, e, ahead_of))
        choose h (inr (answered, c)) = inr (answered, still_comes answered c)

  -- ---- a PDU of its partner comes

  module _ (joined : is_asking l ≡ false) (p : Pdu) (came : call.Came p) (receiver : (p.receiver == l.identity.own) ≡ true) (sender : (p.sender == l.identity.partner) ≡ true) (passes : Passes p l) where
    brought : Brought names v p
    brought = call.find p came receiver sender

    meets : l.partner_first ≡ v.partner.link.own_first
    meets = (call.seen.own_joined joined).partner_first ∙ sym call.seen.partner_inside.own_first

    was_at : reached_by l ≡ l.expected
    was_at = ap (λ (b : Bool). if b then 1 else l.expected) joined

    place_fits : brought.place < 2 ^ 31
    place_fits = let b = brought.said.below in let f = partner_fits names v call.seen in omega (arith, b, f)

    expected_most : l.expected ≤ v.partner.link.sent
    expected_most = let e = was_at in let r = call.seen.own_reached in let m = call.seen.order.back.counts.most in let c = call.seen.partner_inside.counted in omega (arith, e, r, m, c)

    is_placed : (l.expected ≤ brought.place) × (wire l.expected (ahead p l + 1) ≡ brought.place + 1)
    is_placed = placed (record { receiver = 0; sender = 0; first = v.partner.link.own_first; partner_first = 0; stamp = 0 }) brought.place v.partner.link.sent p l (sym meets) brought.said.numbered
        brought.said.below (partner_fits names v call.seen) expected_most passes.near

    -- ---- it misses a PDU, and asks

    module _ (not_next : (ahead p l == 0) ≡ false) (a : Asked l k call.ps) where
      -- its partner has said one after the one that it expects
      is_missed : reached_by l + 1 < v.partner.link.sent
      is_missed = let at = is_placed in let e = was_at in let b = brought.said.below in let f = place_fits in let apart_is = not_there in let n = beyond in omega (arith, e, b, n)
        where
          not_there : brought.place ≡ l.expected → ⊥
          not_there e = eqb-false (ahead p l) 0 not_next (let at = is_placed.1 in let near = ltb-false 200 _ passes.near in let f = place_fits in omega (arith, at, e, near, f))

          choose : (b : Bool) → nat_le brought.place l.expected ≡ b → l.expected < brought.place
          choose true e = absurd (not_there (let most = leb-true _ _ e in let low = is_placed.0 in omega (arith, most, low)))
          choose false e = leb-false _ _ e

          beyond : l.expected < brought.place
          beyond = choose (nat_le brought.place l.expected) refl

      asking_row : Row (IsAsking l.own_first) l.sent call.ps k.sent
      unfolding pdu_of header_of
      asking_row = subst (λ (qs : List Pdu). Row (IsAsking l.own_first) l.sent qs k.sent) (sym a.pdus)
          (record { number = refl; asks = refl }, sym (ap (λ (x : LinkState). x.sent) a.link))

      one_more : k.sent ≡ l.sent + 1
      one_more = ap (λ (x : LinkState). x.sent) a.link

      stands_still : reached_by k ≡ reached_by l
      stands_still = ap reached_by a.link ∙ sym (ap (λ (b : Bool). if b then 1 else l.expected) joined)

      said_now : (n : ℕ) (p : Pdu) → IsSaid names w n p → IsSaid names v n p ⊎ ((l.sent ≤ n) × IsAsking l.own_first n p)
      said_now = own_said names call (IsAsking l.own_first) (λ m q asking_is. asking_is.number) asking_row

      answered_before : (n : ℕ) (p : Pdu) → IsSaid names w n p → p.body ≡ RetransmissionResponse → IsSaid names v n p
      answered_before n p said is = choose (said_now n p said)
        where
          choose : IsSaid names v n p ⊎ ((l.sent ≤ n) × IsAsking l.own_first n p) → IsSaid names v n p
          choose (inl s) = s
          choose (inr (above, asking_is)) = absurd (no_both p.body asking_is.asks is)

      next_ask : IsAsk names w l.sent
      unfolding pdu_of header_of
      next_ask = record {
        pdu = pdu_of (header_of l) l.sent RetransmissionRequest;
        said = says_next names call (pdu_of (header_of l) l.sent RetransmissionRequest) [] a.pdus refl (let e = one_more in omega (arith, e));
        asks = refl;
      }

      misses_all : BothAsk names w
      misses_all = both_ask
          (λ waits. record {
            number = l.sent;
            ask = next_ask;
            asks_no_more = λ other ask. let b = ask.said.below in let e = one_more in omega (arith, b, e);
            answers_no_more = λ other answer. (answered_before other answer.pdu answer.said answer.answers).below;
            comes = inl (partner_below names call);
            missed = let m = is_missed in let e = stands_still in omega (arith, m, e);
          })
          (λ n answer. let to = call.was.own.answers n (record { pdu = answer.pdu; said = answered_before n answer.pdu answer.said answer.answers; answers = answer.answers }) in (to.0, keeps_to names call to.0 n to.1))
          (λ h. choose h h.comes)
          (λ asked answered partner_asked partner_answered x y.
          crosses asked answered partner_asked partner_answered x y (answered_before answered x.answer.pdu x.answer.said x.answer.answers) (said_now partner_asked y.ask.pdu y.ask.said))
        where
          choose : (h : HasAsked names (of_partner v)) → (reached_by l ≤ h.number) ⊎ ((answered : ℕ) × AnswerComes names (of_partner v) answered)
              → (reached_by k ≤ h.number) ⊎ ((answered : ℕ) × AnswerComes names (of_partner w) answered)
          choose h (inl ahead_of) = inl (let e = stands_still in omega (arith, e, ahead_of))
          choose h (inr (answered, c)) = inr (answered, still_comes answered c)

          crosses : (asked answered partner_asked partner_answered : ℕ) (x : IsAnswerTo names w asked answered) (y : IsAnswerTo names (of_partner w) partner_asked partner_answered)
              → IsSaid names v answered x.answer.pdu → IsSaid names v partner_asked y.ask.pdu ⊎ ((l.sent ≤ partner_asked) × IsAsking l.own_first partner_asked y.ask.pdu)
              → (partner_answered < asked) ⊎ (answered < partner_asked)
          crosses asked answered partner_asked partner_answered x y said (inl s) =
              call.was.cross asked answered partner_asked partner_answered (to_only names call asked answered x said) (partner_to_only names call partner_asked partner_answered y s)
          crosses asked answered partner_asked partner_answered x y said (inr (above, asking_is)) = inr (let b = said.below in omega (arith, b, above))

    -- ---- it takes a PDU of its partner

    module _ (t : Taken p l k call.ps) (first : p.body ≡ RetransmissionRequest → Answers call.ps) where
      now_at : reached_by k ≡ brought.place + 1
      now_at = ap (λ (b : Bool). if b then 1 else k.expected) t.stays.joined ∙ t.expected ∙ is_placed.1

      in_turn_at : InTurn p l → brought.place ≡ l.expected
      in_turn_at turn = let level = eqb-true (ahead p l) 0 turn.0 in let at = is_placed.1 in let some = is_placed.0 in let fits = place_fits in omega (arith, level, at, some, fits)

      replies : Row (IsReply p l) l.sent call.ps k.sent
      replies = choose (ask_or_plain p.body t.speech)
        where
          choose : (p.body ≡ RetransmissionRequest) ⊎ IsPlain p.body → Row (IsReply p l) l.sent call.ps k.sent
          choose (inl ask) = reply_row p l joined ask l.sent call.ps k.sent t.answers
          choose (inr plain) = silent call.ps (t.calm plain) t.answers
            where
              silent : (qs : List Pdu) → qs ≡ [] → Says IsPlain (header_of (taking p l)) l.sent qs k.sent → Row (IsReply p l) l.sent qs k.sent
              silent [] e says = says
              silent (q ∷ qs) e says = absurd (some e)
                where
                  some : q ∷ qs ≡ [] → ⊥
                  some f = cc f

      said_then : (n : ℕ) (q : Pdu) → IsSaid names w n q → IsSaid names v n q ⊎ ((l.sent ≤ n) × IsReply p l n q)
      said_then = own_said names call (IsReply p l) (λ m q reply. reply.number) replies

      asked_then : (n : ℕ) (q : Pdu) → IsSaid names w n q → q.body ≡ RetransmissionRequest → IsSaid names v n q
      asked_then n q said is = choose (said_then n q said)
        where
          choose : IsSaid names v n q ⊎ ((l.sent ≤ n) × IsReply p l n q) → IsSaid names v n q
          choose (inl s) = s
          choose (inr (above, reply)) = absurd (plain_asks q.body reply.plain is)

      -- a reply confirms the PDU that was taken
      confirms_it : (n : ℕ) (q : Pdu) → IsReply p l n q → q.confirmed_sequence_number ≡ wire v.partner.link.own_first brought.place
      confirms_it n q reply = reply.confirms ∙ ap (λ (x : ℕ). wire l.partner_first (before x)) is_placed.1
          ∙ ap (wire l.partner_first) (before_one brought.place place_fits) ∙ ap (λ (f : ℕ). wire f brought.place) meets
        where
          before_one : (x : ℕ) → x < 2 ^ 31 → before (x + 1) ≡ x
          before_one x fits = omega (arith, fits)

      answers_then : (n : ℕ) → IsAnswer names w n → (asked : ℕ) × IsAnswerTo names w asked n
      answers_then n answer = choose (said_then n answer.pdu answer.said)
        where
          choose : IsSaid names v n answer.pdu ⊎ ((l.sent ≤ n) × IsReply p l n answer.pdu) → (asked : ℕ) × IsAnswerTo names w asked n
          choose (inl s) = let to = call.was.own.answers n (record { pdu = answer.pdu; said = s; answers = answer.answers }) in (to.0, keeps_to names call to.0 n to.1)
          choose (inr (above, reply)) = (
            brought.place,
            record {
              answer = answer;
              ask = record { pdu = p; said = partner_keeps names call brought.place p brought.said; asks = reply.asked };
              confirms = confirms_it n answer.pdu reply;
            },
          )

      -- the answer to the ask that it took is still to come
      now_answered : p.body ≡ RetransmissionRequest → AnswerComes names (of_partner w) l.sent
      now_answered body = record { answer = record { pdu = (first body).first; said = said; answers = (first body).answers }; ahead = partner_below names call }
        where
          row : Row (IsReply p l) l.sent ((first body).first ∷ (first body).rest) k.sent
          row = subst (λ (qs : List Pdu). Row (IsReply p l) l.sent qs k.sent) (first body).are replies

          said : IsSaid names w l.sent (first body).first
          said = says_next names call (first body).first (first body).rest (first body).are row.0.number
              (let m = row_most (IsReply p l) (l.sent + 1) k.sent (first body).rest row.1 in omega (arith, m))

      comes_then : (h : HasAsked names (of_partner v)) → (reached_by k ≤ h.number) ⊎ ((answered : ℕ) × AnswerComes names (of_partner w) answered)
      comes_then h = choose h.comes
        where
          by_turn : h.number ≤ brought.place → reached_by l ≤ h.number → (p.body ≡ RetransmissionResponse) ⊎ InTurn p l → (answered : ℕ) × AnswerComes names (of_partner w) answered
          by_turn over ahead_of (inl response) = absurd
              (let before_it = h.answers_no_more brought.place (record { pdu = p; said = brought.said; answers = response }) in omega (arith, before_it, over))
          by_turn over ahead_of (inr turn) = (l.sent, now_answered (ap (λ (q : Pdu). q.body) is_the_ask ∙ h.ask.asks))
            where
              same : h.number ≡ brought.place
              same = let at = in_turn_at turn in let e = was_at in omega (arith, over, ahead_of, at, e)

              is_the_ask : p ≡ h.ask.pdu
              is_the_ask = said_once names (of_partner v) (turn_seen names v call.seen) brought.place p h.ask.pdu brought.said
                  (subst (λ (n : ℕ). IsSaid names (of_partner v) n h.ask.pdu) same h.ask.said)

          by_number : reached_by l ≤ h.number → (b : Bool) → nat_le (brought.place + 1) h.number ≡ b → (reached_by k ≤ h.number) ⊎ ((answered : ℕ) × AnswerComes names (of_partner w) answered)
          by_number ahead_of true e = inl (let below = leb-true _ _ e in let at = now_at in omega (arith, below, at))
          by_number ahead_of false e = inr (by_turn (let over = leb-false _ _ e in omega (arith, over)) ahead_of t.turn)

          choose : (reached_by l ≤ h.number) ⊎ ((answered : ℕ) × AnswerComes names (of_partner v) answered) → (reached_by k ≤ h.number) ⊎ ((answered : ℕ) × AnswerComes names (of_partner w) answered)
          choose (inl ahead_of) = by_number ahead_of (nat_le (brought.place + 1) h.number) refl
          choose (inr (answered, c)) = inr (answered, still_comes answered c)

      -- an answer of the partner stands before the ask that was taken: else it would still come to an end that doesn't wait
      partner_answered_before : p.body ≡ RetransmissionRequest → (n : ℕ) → IsAnswer names (of_partner w) n → n < brought.place
      partner_answered_before body n answer = choose (nat_le (brought.place + 1) n) refl
        where
          not_here : n ≡ brought.place → ⊥
          not_here e = no_both p.body body (ap (λ (q : Pdu). q.body)
              (said_once names (of_partner w) (turn_seen names w call.then_seen) n p answer.pdu (subst (λ (m : ℕ). IsSaid names (of_partner w) m p) (sym e) (partner_keeps names call brought.place p brought.said)) answer.said)
              ∙ answer.answers)

          lower : n ≤ brought.place → (b : Bool) → nat_le brought.place n ≡ b → n < brought.place
          lower most true e = absurd (not_here (let over = leb-true _ _ e in omega (arith, over, most)))
          lower most false e = leb-false _ _ e

          choose : (b : Bool) → nat_le (brought.place + 1) n ≡ b → n < brought.place
          choose true e = absurd (reading_waits k t.reading
              ((are_few names w call.then_seen).answer_waits n (record { answer = answer; ahead = let over = leb-true _ _ e in let at = now_at in omega (arith, over, at) })))
          choose false e = lower (let over = leb-false _ _ e in omega (arith, over)) (nat_le brought.place n) refl

      crosses_then : DontCross names w
      crosses_then asked answered partner_asked partner_answered x y = choose (said_then answered x.answer.pdu x.answer.said)
        where
          choose : IsSaid names v answered x.answer.pdu ⊎ ((l.sent ≤ answered) × IsReply p l answered x.answer.pdu) → (partner_answered < asked) ⊎ (answered < partner_asked)
          choose (inl s) = call.was.cross asked answered partner_asked partner_answered (to_only names call asked answered x s)
              (partner_to_only names call partner_asked partner_answered y (asked_then partner_asked y.ask.pdu y.ask.said y.ask.asks))
          choose (inr (above, reply)) = inl (let below = partner_answered_before reply.asked partner_answered y.answer in let e = same in omega (arith, below, e))
            where
              same : brought.place ≡ asked
              same = let b = x.ask.said.below in let f = partner_fits names v call.seen in
                  wire_once v.partner.link.own_first brought.place asked place_fits (omega (arith, b, f)) (sym (confirms_it answered x.answer.pdu reply) ∙ x.confirms)

      takes_all : BothAsk names w
      takes_all = both_ask (λ waits. absurd (reading_waits k t.reading waits)) answers_then comes_then crosses_then

  -- ---- where it says nothing quiet but in its answers

  pub partner_blocks : (base : ℕ) → SaysBlocks names (of_partner v) base → SaysBlocks names (of_partner w) base
  partner_blocks base blocks n low below = choose (blocks n low below)
    where
      choose : IsAsk names (of_partner v) n ⊎ (IsAnswer names (of_partner v) n ⊎ ((base < n) × ((m : ℕ) → m + 1 ≡ n → IsAsk names (of_partner v) m → ⊥)))
          → IsAsk names (of_partner w) n ⊎ (IsAnswer names (of_partner w) n ⊎ ((base < n) × ((m : ℕ) → m + 1 ≡ n → IsAsk names (of_partner w) m → ⊥)))
      choose (inl ask) = inl (partner_keeps_ask names call n ask)
      choose (inr (inl answer)) = inr (inl (partner_keeps_answer names call n answer))
      choose (inr (inr (over, none))) = inr (inr (over, λ m e a. none m e (partner_ask_only names call m a)))

  module _ (silent : call.MaySpeak → ⊥) (base : ℕ) (from : base ≤ l.sent) (blocks : SaysBlocks names v base) where
    abbrev Stands : ℕ → Type 0
    Stands n = IsAsk names w n ⊎ (IsAnswer names w n ⊎ ((base < n) × ((m : ℕ) → m + 1 ≡ n → IsAsk names w m → ⊥)))

    -- what stood so before still does
    stands_on : (F : ℕ → Pdu → Type 0) → ((m : ℕ) (p : Pdu) → F m p → p.sequence_number ≡ wire l.own_first m) → Row F l.sent call.ps k.sent → (n : ℕ) → base ≤ n → n < l.sent → Stands n
    stands_on F number row n low below = choose (blocks n low below)
      where
        old_ask : (m : ℕ) → m + 1 ≡ n → IsAsk names w m → IsAsk names v m
        old_ask m e a = record { pdu = a.pdu; said = by (own_said names call F number row m a.pdu a.said); asks = a.asks }
          where
            by : IsSaid names v m a.pdu ⊎ ((l.sent ≤ m) × F m a.pdu) → IsSaid names v m a.pdu
            by (inl s) = s
            by (inr (above, f)) = absurd (omega (arith, above, e, below))

        choose : IsAsk names v n ⊎ (IsAnswer names v n ⊎ ((base < n) × ((m : ℕ) → m + 1 ≡ n → IsAsk names v m → ⊥))) → Stands n
        choose (inl ask) = inl (keeps_ask names call n ask)
        choose (inr (inl answer)) = inr (inl (keeps_answer names call n answer))
        choose (inr (inr (over, none))) = inr (inr (over, λ m e a. none m e (old_ask m e a)))

    blocks_rest : Rests l k → Row (IsQuiet l.own_first) l.sent call.ps k.sent → (call.ps ≡ []) ⊎ call.MaySpeak → SaysBlocks names w base
    blocks_rest r row (inr speaks) n low below = absurd (silent speaks)
    blocks_rest r row (inl none) n low below = stands_on (IsQuiet l.own_first) (λ m q quiet. quiet.number) row n low (omega (arith, below, nothing))
      where
        nothing : l.sent ≡ k.sent
        nothing = subst (λ (qs : List Pdu). Row (IsQuiet l.own_first) l.sent qs k.sent) none row

    module _ (joined : is_asking l ≡ false) (p : Pdu) (came : call.Came p) (receiver : (p.receiver == l.identity.own) ≡ true) (sender : (p.sender == l.identity.partner) ≡ true) (passes : Passes p l) where
      blocks_miss : (not_next : (ahead p l == 0) ≡ false) (a : Asked l k call.ps) → SaysBlocks names w base
      blocks_miss not_next a n low below = choose (nat_le l.sent n) refl
        where
          choose : (b : Bool) → nat_le l.sent n ≡ b → Stands n
          choose true e = inl (subst (IsAsk names w) (let over = leb-true _ _ e in let more = one_more joined p came receiver sender passes not_next a in omega (arith, over, more, below))
              (next_ask joined p came receiver sender passes not_next a))
          choose false e = stands_on (IsAsking l.own_first) (λ m q asking_is. asking_is.number) (asking_row joined p came receiver sender passes not_next a) n low (leb-false _ _ e)

      blocks_take : (t : Taken p l k call.ps) (first : p.body ≡ RetransmissionRequest → Answers call.ps) → SaysBlocks names w base
      blocks_take t first n low below = choose (nat_le l.sent n) refl
        where
          row : Row (IsReply p l) l.sent call.ps k.sent
          row = replies joined p came receiver sender passes t first

          -- it answered, where it said something
          asked : l.sent < k.sent → p.body ≡ RetransmissionRequest
          asked some = by (ask_or_plain p.body t.speech)
            where
              by : (p.body ≡ RetransmissionRequest) ⊎ IsPlain p.body → p.body ≡ RetransmissionRequest
              by (inl ask) = ask
              by (inr plain) = absurd (let same = subst (λ (qs : List Pdu). Row (IsReply p l) l.sent qs k.sent) (t.calm plain) row in omega (arith, same, some))

          -- after the first no ask stands
          none_asks : l.sent < n → (m : ℕ) → m + 1 ≡ n → IsAsk names w m → ⊥
          none_asks over m e a = let s = (asked_then joined p came receiver sender passes t first m a.pdu a.said a.asks).below in omega (arith, s, e, over)

          later : l.sent ≤ n → (b : Bool) → nat_le n l.sent ≡ b → Stands n
          later over true e = inr (inl (subst (IsAnswer names w) (let most = leb-true _ _ e in omega (arith, over, most))
              (now_answered joined p came receiver sender passes t first (asked (omega (arith, over, below)))).answer))
          later over false e = inr (inr (let f = leb-false _ _ e in omega (arith, f, from), none_asks (leb-false _ _ e)))

          choose : (b : Bool) → nat_le l.sent n ≡ b → Stands n
          choose true e = later (leb-true _ _ e) (nat_le n l.sent) refl
          choose false e = stands_on (IsReply p l) (λ m q reply. reply.number) row n low (leb-false _ _ e)

    pub blocks_go : SaysBlocks names w base
    blocks_go = by call.acts
      where
        by : Acts call.Came call.MaySpeak l k call.ps → SaysBlocks names w base
        by (rests r row may_speak) = blocks_rest r row may_speak
        by (misses joined p came receiver sender passes not_next a) = blocks_miss joined p came receiver sender passes not_next a
        by (hears_one joined p came receiver sender passes t first) = blocks_take joined p came receiver sender passes t first

  -- it stays one that has joined
  pub stays_joined : is_asking l ≡ false → is_asking k ≡ false
  stays_joined was_joined = by call.acts
    where
      by : Acts call.Came call.MaySpeak l k call.ps → is_asking k ≡ false
      by (rests r row may_speak) = r.joined was_joined
      by (misses joined p came receiver sender passes not_next a) = ap is_asking a.link
      by (hears_one joined p came receiver sender passes t first) = t.stays.joined

  pub goes : BothAsk names w
  goes = by call.acts
    where
      by : Acts call.Came call.MaySpeak l k call.ps → BothAsk names w
      by (rests r row may_speak) = rests_all r row
      by (misses joined p came receiver sender passes not_next a) = misses_all joined p came receiver sender passes not_next a
      by (hears_one joined p came receiver sender passes t first) = takes_all joined p came receiver sender passes t first

  -- ---- nothing comes

  pub stands_by : ((p : Pdu) → call.Came p → ⊥) → (IsWaiting k → IsWaiting l) × (reached_by k ≡ reached_by l)
  stands_by none = by call.acts
    where
      by : Acts call.Came call.MaySpeak l k call.ps → (IsWaiting k → IsWaiting l) × (reached_by k ≡ reached_by l)
      by (rests r row may_speak) = (r.waits, r.reached)
      by (misses joined p came receiver sender passes not_next a) = absurd (none p came)
      by (hears_one joined p came receiver sender passes t first) = absurd (none p came)

  pub own_still_comes : ((p : Pdu) → call.Came p → ⊥) → (answered : ℕ) → AnswerComes names v answered → AnswerComes names w answered
  own_still_comes none answered c = record { answer = partner_keeps_answer names call answered c.answer; ahead = let e = (stands_by none).1 in let a = c.ahead in omega (arith, e, a) }

  -- ---- a new connection

  -- where its partner has said none after the PDU that it expects, and no ask from there on, it says nothing
  pub says_nothing : (call.MaySpeak → ⊥) → v.partner.link.sent ≤ reached_by l + 1 → ((n : ℕ) → IsAsk names (of_partner v) n → n < reached_by l) → k.sent ≡ l.sent
  says_nothing silent few asks = by call.acts
    where
      by : Acts call.Came call.MaySpeak l k call.ps → k.sent ≡ l.sent
      by (rests r row (inl none)) = sym (subst (λ (qs : List Pdu). Row (IsQuiet l.own_first) l.sent qs k.sent) none row)
      by (rests r row (inr speaks)) = absurd (silent speaks)
      by (misses joined p came receiver sender passes not_next a) = absurd (let m = is_missed joined p came receiver sender passes not_next a in omega (arith, m, few))
      by (hears_one joined p came receiver sender passes t first) = choose (ask_or_plain p.body t.speech)
        where
          choose : (p.body ≡ RetransmissionRequest) ⊎ IsPlain p.body → k.sent ≡ l.sent
          choose (inr plain) = sym (subst (λ (qs : List Pdu). Row (IsReply p l) l.sent qs k.sent) (t.calm plain) (replies joined p came receiver sender passes t first))
          choose (inl ask) = absurd
              (let b = asks (brought joined p came receiver sender passes).place (record { pdu = p; said = (brought joined p came receiver sender passes).said; asks = ask })
              in let low = (is_placed joined p came receiver sender passes).0 in let e = was_at joined p came receiver sender passes in omega (arith, b, low, e))

  pub asked_still : k.sent ≡ l.sent → (n : ℕ) → IsAsk names w n → IsAsk names v n
  asked_still same n a = record { pdu = a.pdu; said = by call.acts; asks = a.asks }
    where
      before_it : (F : ℕ → Pdu → Type 0) → IsSaid names v n a.pdu ⊎ ((l.sent ≤ n) × F n a.pdu) → IsSaid names v n a.pdu
      before_it F (inl s) = s
      before_it F (inr (above, f)) = absurd (let b = a.said.below in omega (arith, b, above, same))

      by : Acts call.Came call.MaySpeak l k call.ps → IsSaid names v n a.pdu
      by (rests r row may_speak) = before_it (IsQuiet l.own_first) (own_said names call (IsQuiet l.own_first) (λ m q quiet. quiet.number) row n a.pdu a.said)
      by (misses joined p came receiver sender passes not_next asked) = before_it (IsAsking l.own_first) (said_now joined p came receiver sender passes not_next asked n a.pdu a.said)
      by (hears_one joined p came receiver sender passes t first) = before_it (IsReply p l) (said_then joined p came receiver sender passes t first n a.pdu a.said)

  pub joins_asking_none : is_asking l ≡ true → (n : ℕ) → IsAsk names w n → IsAsk names v n
  joins_asking_none asking n a = record { pdu = a.pdu; said = by call.acts; asks = a.asks }
    where
      by : Acts call.Came call.MaySpeak l k call.ps → IsSaid names v n a.pdu
      by (rests r row may_speak) = ask_before r row n a.pdu a.said a.asks
      by (misses joined p came receiver sender passes not_next asked) = absurd (false≢true (sym joined ∙ asking))
      by (hears_one joined p came receiver sender passes t first) = absurd (false≢true (sym joined ∙ asking))
