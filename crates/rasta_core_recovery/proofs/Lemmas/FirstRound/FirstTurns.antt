-- Who asks and who answers, of what is under way between two ends.
use Rattle.rasta_core_recovery.proofs.Words.Basics.{◌≡◌, ℕ, zero, suc, ◌⊎◌, inl, inr, ◌∙◌, ◌+◌, ◌-◌, ◌≤◌, ◌<◌, Bool, true, false, if◌then◌else◌, List, [], ◌∷◌, Some, Ok, refl, sym, ap, subst, arith}
use Rattle.rasta_core_recovery.proofs.Words.Links.{wire, LinkState, is_asking, reading, Key, Role, Phase, Pdu, Body, RetransmissionRequest, RetransmissionResponse, Each, Sent, IsAmong, Names, Ends}
use Rattle.rasta_core_recovery.proofs.Words.Recovery.{AnAnswerComes, AnswerComes, AskInTurn, AsksInTurn, HasAsked, IsAnswer, IsAsk, IsSaid, IsWaiting, View, of_client, of_partner, of_server, reached_by, can_come}
use Rattle.rasta_core_recovery.proofs.Lemmas.FirstRound.FirstNew.{StandsAt}
use Rattle.rasta_core_recovery.proofs.Lemmas.ComingUp.Healthy.{waits}
use Rattle.rasta_core_recovery.proofs.Lemmas.Rounds.Links.{Pair}
use Rattle.rasta_core_recovery.proofs.Lemmas.Rounds.Mirror.{AreRead, arriving, bytes_from, chosen}
use Rattle.rasta_core_recovery.proofs.Lemmas.Rounds.Steps.{FewMarks}
use Rattle.rasta_core_recovery.proofs.Lemmas.Rounds.Words.{IsNumbered, Row, Voice, row_most}

-- ---- where PDUs that come were sent

pub each_source : (key : Key) (P : Sent → Type 0) (who : Role) (ds : List Sent) (ps : List Pdu) → Each P ds → AreRead key (bytes_from who ds) ps
    → Each (λ (p : Pdu). (d : Sent) × P d × (d.sender ≡ who) × (reading key d.bytes ≡ Ok p)) ps
each_source key P who [] [] each are = tt
each_source key P who [] (p ∷ ps) each are = absurd are
each_source key P who (d ∷ ds) ps each are = by_sender (λ qs read. each_source key P who ds qs each.1 read) who d.sender refl refl are
  where
    From : Pdu → Type 0
    From p = (x : Sent) × P x × (x.sender ≡ who) × (reading key x.bytes ≡ Ok p)

    Others : Type 0
    Others = (qs : List Pdu) → AreRead key (bytes_from who ds) qs → Each From qs

    taken : Others → d.sender ≡ who → (qs : List Pdu) → AreRead key (d.bytes ∷ bytes_from who ds) qs → Each From qs
    taken others same [] read = absurd read
    taken others same (q ∷ qs) read = ((d, each.0, same, read.0), others qs read.1)

    by_sender : Others → (one other : Role) → one ≡ who → d.sender ≡ other → AreRead key (chosen one other d.bytes (bytes_from who ds)) ps → Each From ps
    by_sender others Role.Client Role.Client e f read = taken others (f ∙ e) ps read
    by_sender others Role.Server Role.Server e f read = taken others (f ∙ e) ps read
    by_sender others Role.Client Role.Server e f read = others ps read
    by_sender others Role.Server Role.Client e f read = others ps read

arriving_can : (P : Sent → Type 0) (t : ℕ) (ds : List Sent) → Each P ds → Each (λ (d : Sent). P d × (can_come t d ≡ true)) (arriving t ds)
arriving_can P t [] each = tt
arriving_can P t (d ∷ ds) each = choose (can_come t d) refl (arriving_can P t ds each.1)
  where
    choose : (b : Bool) → can_come t d ≡ b → Each (λ (x : Sent). P x × (can_come t x ≡ true)) (arriving t ds)
        → Each (λ (x : Sent). P x × (can_come t x ≡ true)) (if b then d ∷ arriving t ds else arriving t ds)
    choose true e more = ((each.0, e), more)
    choose false e more = more

pub each_turned : (P Q : Pdu → Type 0) (ps : List Pdu) → ((p : Pdu) → P p → Q p) → Each P ps → Each Q ps
each_turned P Q [] turn each = tt
each_turned P Q (p ∷ ps) turn each = (turn p each.0, each_turned P Q ps turn each.1)

-- ---- one end's PDUs under way, by their numbers

-- a datagram of this end in its connection spells this PDU
abbrev pub Source : Names → View → Pdu → Type 0
Source names view p = (d : Sent) × IsAmong d view.sent × (d.sender ≡ view.who) × (view.own.connection ≡ Some d.connection) × (reading names.key d.bytes ≡ Ok p)

pub stands_in : (P : Pdu → Type 0) (i : ℕ) (p : Pdu) (ps : List Pdu) → Each P ps → StandsAt i p ps → P p
stands_in P i p [] each is = absurd is
stands_in P zero p (x ∷ ps) each same = subst P same each.0
stands_in P (suc i) p (x ∷ ps) each is = stands_in P i p ps each.1 is

-- a PDU of this number, of an end whose first one has that one
abbrev pub IsNth : ℕ → ℕ → Pdu → Type 0
IsNth first n p = p.sequence_number ≡ wire first n

pub row_nth : (v : Voice) (n end : ℕ) (ps : List Pdu) → Row (IsNumbered v) n ps end → Row (IsNth v.first) n ps end
row_nth v n end [] row = row
row_nth v n end (p ∷ ps) row = (row.0.number, row_nth v (n + 1) end ps row.1)

numbered_at : (v : ℕ) (n end i : ℕ) (p : Pdu) (ps : List Pdu) → Row (IsNth v) n ps end → StandsAt i p ps → IsNth v (n + i) p × (n + i < end)
numbered_at v n end i p [] row is = absurd is
numbered_at v n end zero p (x ∷ ps) row same = (
  (let e : n ≡ n + 0 = omega arith in subst (λ (m : ℕ). IsNth v m p) e (subst (IsNth v n) same row.0)),
  (let m = row_most (IsNth v) (n + 1) end ps row.1 in omega (arith, m)),
)
numbered_at v n end (suc i) p (x ∷ ps) row is = let r = numbered_at v (n + 1) end i p ps row.1 is in (
  (let e : n + 1 + i ≡ n + suc i = omega arith in subst (λ (m : ℕ). IsNth v m p) e r.0),
  (let l = r.1 in omega (arith, l)),
)

module _ (names : Names) (view : View) (n : ℕ) (v : ℕ) (ps : List Pdu) (row : Row (IsNth v) n ps view.own.link.sent) (first : v ≡ view.own.link.own_first)
    (source : Each (Source names view) ps) (own : AsksInTurn names view) (partner : AsksInTurn names (of_partner view)) (joined : is_asking view.partner.link ≡ false) where
  said : (i : ℕ) (p : Pdu) → StandsAt i p ps → IsSaid names view (n + i) p
  said i p is = let s = stands_in (Source names view) i p ps source is in let r = numbered_at v n view.own.link.sent i p ps row is in record {
    datagram = s.0;
    among = s.1;
    sender = s.2;
    connection = s.3;
    read = s.4;
    numbered = r.0 ∙ ap (λ (x : ℕ). wire x (n + i)) first;
    below = r.1;
  }

  there_is : (P : Body → Type 0) (a : ℕ) (pdu : Pdu) → IsSaid names view a pdu → P pdu.body → (i : ℕ) (p : Pdu) → n + i ≡ a → StandsAt i p ps → P p.body
  there_is P a pdu is so i p at stands = subst (λ (x : Pdu). P x.body)
      (own.once (n + i) pdu p (subst (λ (m : ℕ). IsSaid names view m pdu) (sym at) is) (said i p stands)) so

  ask_there : (a : ℕ) → IsAsk names view a → (i : ℕ) (p : Pdu) → n + i ≡ a → StandsAt i p ps → p.body ≡ RetransmissionRequest
  ask_there a ask i p at stands = there_is (λ (b : Body). b ≡ RetransmissionRequest) a ask.pdu ask.said ask.asks i p at stands

  answer_there : (a : ℕ) → IsAnswer names view a → (i : ℕ) (p : Pdu) → n + i ≡ a → StandsAt i p ps → p.body ≡ RetransmissionResponse
  answer_there a answer i p at stands = there_is (λ (b : Body). b ≡ RetransmissionResponse) a answer.pdu answer.said answer.answers i p at stands

  reached : (k : ℕ) → view.partner.link.expected ≤ k → reached_by view.partner.link ≤ k
  reached k most = subst (λ (b : Bool). (if b then 1 else view.partner.link.expected) ≤ k) (sym joined) most

  few_marks : FewMarks (view.partner.link.expected - n) ps
  few_marks = record {
    one_ask = λ i j p q a b s t e g. let same = own.few.one_ask (n + i) (n + j)
        (record { ask = record { pdu = p; said = said i p s; asks = e }; ahead = reached (n + i) (omega (arith, a)) })
        (record { ask = record { pdu = q; said = said j q t; asks = g }; ahead = reached (n + j) (omega (arith, b)) }) in omega (arith, same);
    one_answer = λ i j p q a b s t e g. let same = partner.few.one_answer (n + i) (n + j)
        (record { answer = record { pdu = p; said = said i p s; answers = e }; ahead = reached (n + i) (omega (arith, a)) })
        (record { answer = record { pdu = q; said = said j q t; answers = g }; ahead = reached (n + j) (omega (arith, b)) }) in omega (arith, same);
  }

-- ---- two ends

-- The last ask of an end is still to come to its partner, or an answer is still to come to it: so the PDU of that number, if it is under way,
-- asks or answers.
pub data AskOrAnswer (l m : LinkState) (n k : ℕ) (ps qs : List Pdu) : Type 0 where
  ask_comes : (a : ℕ) → m.expected ≤ a → a < l.sent → ((i : ℕ) (p : Pdu) → k + i ≡ a → StandsAt i p qs → p.body ≡ RetransmissionRequest) → AskOrAnswer l m n k ps qs
  answer_comes : (a : ℕ) → l.expected ≤ a → a < m.sent → ((i : ℕ) (p : Pdu) → n + i ≡ a → StandsAt i p ps → p.body ≡ RetransmissionResponse) → AskOrAnswer l m n k ps qs

-- an answer is still to come
pub record Answer (l m : LinkState) (n : ℕ) (ps : List Pdu) : Type 0 where
  pub number : ℕ
  pub ahead : l.expected ≤ number
  pub below : number < m.sent
  pub answers : (i : ℕ) (p : Pdu) → n + i ≡ number → StandsAt i p ps → p.body ≡ RetransmissionResponse

-- of two ends to which PDUs come from these numbers on
pub record Turns (p : Pair) (n k : ℕ) : Type 0 where
  pub client : waits p.client.phase ≡ true → AskOrAnswer p.client p.server n k p.to_client p.to_server
  pub server : waits p.server.phase ≡ true → AskOrAnswer p.server p.client k n p.to_server p.to_client
  pub client_few : FewMarks (p.client.expected - n) p.to_client
  pub server_few : FewMarks (p.server.expected - k) p.to_server

pub waiting_is : (l : LinkState) → waits l.phase ≡ true → IsWaiting l
waiting_is l e = by l.phase refl
  where
    by : (at : Phase) → l.phase ≡ at → IsWaiting l
    by Phase.Closed f = absurd (cc (e, ap waits f))
    by Phase.Start f = absurd (cc (e, ap waits f))
    by Phase.Up f = absurd (cc (e, ap waits f))
    by Phase.RetransmissionRequested f = f
    by Phase.RetransmissionRunning f = absurd (cc (e, ap waits f))

pub not_asking_reached : (l : LinkState) → is_asking l ≡ false → reached_by l ≡ l.expected
not_asking_reached l e = ap (λ (b : Bool). if b then 1 else l.expected) e

module _ (names : Names) (ends : Ends) (client_joined : is_asking ends.client.link ≡ false) (server_joined : is_asking ends.server.link ≡ false) (asks : AskInTurn names ends) (n k : ℕ) (xs ys : List Pdu)
    (a : Row (IsNth ends.server.link.own_first) n xs ends.server.link.sent) (b : Row (IsNth ends.client.link.own_first) k ys ends.client.link.sent)
    (xs_source : Each (Source names (of_server ends)) xs) (ys_source : Each (Source names (of_client ends)) ys) where
  pub turns_with : Turns (record { client = ends.client.link; server = ends.server.link; to_client = xs; to_server = ys }) n k
  turns_with = record {
    client = λ w. of_asked_client (asks.client.asked (waiting_is ends.client.link w));
    server = λ w. of_asked_server (asks.server.asked (waiting_is ends.server.link w));
    client_few = few_marks names (of_server ends) n ends.server.link.own_first xs a refl xs_source asks.server asks.client client_joined;
    server_few = few_marks names (of_client ends) k ends.client.link.own_first ys b refl ys_source asks.client asks.server server_joined;
  }
    where
      of_asked_client : HasAsked names (of_client ends) → AskOrAnswer ends.client.link ends.server.link n k xs ys
      of_asked_client h = by h.comes
        where
          by : (reached_by ends.server.link ≤ h.number) ⊎ ((answered : ℕ) × AnswerComes names (of_client ends) answered)
              → AskOrAnswer ends.client.link ends.server.link n k xs ys
          by (inl ahead) = ask_comes h.number (omega (arith, ahead, not_asking_reached ends.server.link server_joined)) h.ask.said.below
              (λ i x at stands. ask_there names (of_client ends) k ends.client.link.own_first ys b refl ys_source asks.client asks.server server_joined h.number h.ask i x at stands)
          by (inr (answered, a_comes)) = answer_comes answered (let o = a_comes.ahead in omega (arith, o, not_asking_reached ends.client.link client_joined)) a_comes.answer.said.below
              (λ i x at stands. answer_there names (of_server ends) n ends.server.link.own_first xs a refl xs_source asks.server asks.client client_joined answered a_comes.answer i x at stands)

      of_asked_server : HasAsked names (of_server ends) → AskOrAnswer ends.server.link ends.client.link k n ys xs
      of_asked_server h = by h.comes
        where
          by : (reached_by ends.client.link ≤ h.number) ⊎ ((answered : ℕ) × AnswerComes names (of_server ends) answered)
              → AskOrAnswer ends.server.link ends.client.link k n ys xs
          by (inl ahead) = ask_comes h.number (omega (arith, ahead, not_asking_reached ends.client.link client_joined)) h.ask.said.below
              (λ i x at stands. ask_there names (of_server ends) n ends.server.link.own_first xs a refl xs_source asks.server asks.client client_joined h.number h.ask i x at stands)
          by (inr (answered, a_comes)) = answer_comes answered (let o = a_comes.ahead in omega (arith, o, not_asking_reached ends.server.link server_joined)) a_comes.answer.said.below
              (λ i x at stands. answer_there names (of_client ends) k ends.client.link.own_first ys b refl ys_source asks.client asks.server server_joined answered a_comes.answer i x at stands)

  -- an answer that comes to one of them
  pub answers_with : AnAnswerComes names ends → Answer ends.client.link ends.server.link n xs ⊎ Answer ends.server.link ends.client.link k ys
  answers_with (inl (number, comes)) = inl (record {
    number = number;
    ahead = (let o = comes.ahead in omega (arith, o, not_asking_reached ends.client.link client_joined));
    below = comes.answer.said.below;
    answers = λ i x at stands. answer_there names (of_server ends) n ends.server.link.own_first xs a refl xs_source asks.server asks.client client_joined number comes.answer i x at stands;
  })
  answers_with (inr (number, comes)) = inr (record {
    number = number;
    ahead = (let o = comes.ahead in omega (arith, o, not_asking_reached ends.server.link server_joined));
    below = comes.answer.said.below;
    answers = λ i x at stands. answer_there names (of_client ends) k ends.client.link.own_first ys b refl ys_source asks.client asks.server server_joined number comes.answer i x at stands;
  })
