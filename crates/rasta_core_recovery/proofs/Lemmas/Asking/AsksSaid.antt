-- A call of one of two ends in a connection: what both have said after it, and what they had said before.
use Rattle.rasta_core_recovery.proofs.Words.Basics.{◌≡◌, ℕ, ◌∙◌, ◌+◌, ◌^◌, ◌≤◌, ◌<◌, ◌⊎◌, inl, inr, true, false, ◌==◌, List, [], ◌∷◌, ◌++◌, Option, Some, Ok, refl, sym, ap, subst, arith}
use Rattle.rasta_core_recovery.proofs.Words.Links.{Each, wire, LinkState, header_of, taking, spellings, writing, IsPdu, Role, Pdu, reading, EndState, Sent, handed_out, IsAmong, Names}
use Rattle.rasta_core_recovery.proofs.Words.Recovery.{AsksInTurn, DontCross, IsAnswer, IsAnswerTo, IsAsk, IsSaid, View, of_partner, reached_by, LawsBelow}
use Rattle.rasta_core_recovery.proofs.Lemmas.Asking.AsksCalls.{Acts, IsQuiet, hears_one, misses, rests}
use Rattle.rasta_core_recovery.proofs.Lemmas.Asking.AsksSeen.{Seen, own_fits, said_of}
use Rattle.rasta_core_recovery.proofs.Lemmas.Windows.ConfirmingEvents.{among}
use Rattle.rasta_core_recovery.proofs.Lemmas.Windows.WindowNumbers.{wire_once}
use Rattle.rasta_core_recovery.proofs.Lemmas.Rounds.Words.{IsPlain, Row, row_most, says_most}
use Rattle.rasta_core_recovery.proofs.Lemmas.Rounds.Bridge.{reads_as}
use Rattle.rasta_core_recovery.proofs.Lemmas.Rounds.Happen.{among_front}

-- ---- lists of datagrams

pub among_back : (d : Sent) (one other : List Sent) → IsAmong d other → IsAmong d (one ++ other)
among_back d [] other is = is
among_back d (x ∷ one) other is = inr (among_back d one other is)

pub among_both : (d : Sent) (one other : List Sent) → IsAmong d (one ++ other) → IsAmong d one ⊎ IsAmong d other
among_both d [] other is = inr is
among_both d (x ∷ one) other (inl same) = inl (inl same)
among_both d (x ∷ one) other (inr is) = choose (among_both d one other is)
  where
    choose : IsAmong d one ⊎ IsAmong d other → ((x ≡ d) ⊎ IsAmong d one) ⊎ IsAmong d other
    choose (inl front) = inl (inr front)
    choose (inr back) = inr back

-- ---- what is handed out

-- of the sender, and of a row of PDUs
pub record IsHanded (names : Names) (who : Role) (F : ℕ → Pdu → Type 0) (low last : ℕ) (d : Sent) : Type 0 where
  pub sender : d.sender ≡ who
  pub spells : (pdu : Pdu) → reading names.key d.bytes ≡ Ok pdu → (m : ℕ) × (low ≤ m) × (m < last) × F m pdu

module _ (laws : LawsBelow) (names : Names) (who : Role) (F : ℕ → Pdu → Type 0) (time : ℕ) (connection : Option ℕ) (low last : ℕ) where
  pub handed_row : (n : ℕ) → low ≤ n → (ps : List Pdu) → Each IsPdu ps → Row F n ps last → Each (IsHanded names who F low last) (handed_out time who connection (spellings names.key ps))
  handed_row n above [] are row = tt
  handed_row n above (p ∷ ps) are row = (
    record { sender = refl; spells = λ pdu read. (n, above, let m = row_most F (n + 1) last ps row.1 in omega (arith, m), subst (F n) (reads_as laws names.key p pdu are.0 read) row.0) },
    handed_row (n + 1) (omega (arith, above)) ps are.1 row.1,
  )

-- one that is handed out
pub record IsPosted (names : Names) (who : Role) (connection : Option ℕ) (more : List Sent) (p : Pdu) : Type 0 where
  pub datagram : Sent
  pub among : IsAmong datagram more
  pub sender : datagram.sender ≡ who
  pub in_it : connection ≡ Some datagram.connection
  pub read : reading names.key datagram.bytes ≡ Ok p

pub first_posted : LawsBelow → (names : Names) (who : Role) (time number : ℕ) (connection : Option ℕ) → connection ≡ Some number → (ps : List Pdu) → Each IsPdu ps → (p : Pdu) (rest : List Pdu)
    → ps ≡ p ∷ rest → IsPosted names who connection (handed_out time who connection (spellings names.key ps)) p
first_posted laws names who time number connection is ps are p rest e =
    subst (λ (qs : List Pdu). IsPosted names who connection (handed_out time who connection (spellings names.key qs)) p) (sym e)
    (subst (λ (o : Option ℕ). IsPosted names who o (handed_out time who o (spellings names.key (p ∷ rest))) p) (sym is) (record {
      datagram = record { bytes = writing names.key p; at = time; sender = who; connection = number; is_lost = false };
      among = inl refl;
      sender = refl;
      in_it = refl;
      read = laws.written_is_read names.key p (subst (Each IsPdu) e are).0;
    }))

-- ---- a datagram that came from the partner

pub record Brought (names : Names) (view : View) (p : Pdu) : Type 0 where
  pub place : ℕ
  pub said : IsSaid names (of_partner view) place p

abbrev pub after : View → EndState → List Sent → View
after v end more = record v { own = end; sent = v.sent ++ more }

-- of both, after the call
pub record BothAsk (names : Names) (v : View) : Type 0 where
  pub own : AsksInTurn names v
  pub partner : AsksInTurn names (of_partner v)
  pub cross : DontCross names v

-- A call of an end in its connection: what it sees then, what comes to it and what it hands out, and how it goes on. It may say something quiet that
-- answers nothing only where `MaySpeak` holds.
pub record Called (names : Names) : Type 1 where
  pub view : View
  pub end : EndState
  pub more : List Sent
  pub Came : Pdu → Type 0
  pub MaySpeak : Type 0
  pub ps : List Pdu
  pub apart : view.whom ≡ view.who → ⊥
  pub connection : end.connection ≡ view.own.connection
  pub mine : Each (λ (d : Sent). d.sender ≡ view.who) more
  pub hands : (F : ℕ → Pdu → Type 0) → Row F view.own.link.sent ps end.link.sent → Each (IsHanded names view.who F view.own.link.sent end.link.sent) more
  pub posts : (p : Pdu) (rest : List Pdu) → ps ≡ p ∷ rest → IsPosted names view.who end.connection more p
  pub seen : Seen names view
  pub then_seen : Seen names (after view end more)
  pub acts : Acts Came MaySpeak view.own.link end.link ps
  pub find : (p : Pdu) → Came p → (p.receiver == view.own.link.identity.own) ≡ true → (p.sender == view.own.link.identity.partner) ≡ true → Brought names view p
  pub was : BothAsk names view

module _ (names : Names) (call : Called names) where
  abbrev v : View
  v = call.view

  abbrev w : View
  w = after call.view call.end call.more

  abbrev l : LinkState
  l = call.view.own.link

  abbrev k : LinkState
  k = call.end.link

  pub first_same : k.own_first ≡ l.own_first
  first_same = by call.acts
    where
      by : Acts call.Came call.MaySpeak l k call.ps → k.own_first ≡ l.own_first
      by (rests r row may_speak) = r.own_first
      by (misses joined p came receiver sender passes not_next a) = ap (λ (x : LinkState). x.own_first) a.link
      by (hears_one joined p came receiver sender passes t first) = t.stays.own_first

  pub grows : l.sent ≤ k.sent
  grows = by call.acts
    where
      by : Acts call.Came call.MaySpeak l k call.ps → l.sent ≤ k.sent
      by (rests r row may_speak) = row_most (IsQuiet l.own_first) l.sent k.sent call.ps row
      by (misses joined p came receiver sender passes not_next a) = let e = ap (λ (x : LinkState). x.sent) a.link in omega (arith, e)
      by (hears_one joined p came receiver sender passes t first) = says_most IsPlain (header_of (taking p l)) l.sent call.ps k.sent t.answers

  -- ---- what was said before

  pub keeps : (n : ℕ) (p : Pdu) → IsSaid names v n p → IsSaid names w n p
  keeps n p s = record {
    datagram = s.datagram;
    among = among_front s.datagram v.sent call.more s.among;
    sender = s.sender;
    connection = call.connection ∙ s.connection;
    read = s.read;
    numbered = s.numbered ∙ ap (λ (f : ℕ). wire f n) (sym first_same);
    below = let b = s.below in let g = grows in omega (arith, b, g);
  }

  pub partner_keeps : (n : ℕ) (p : Pdu) → IsSaid names (of_partner v) n p → IsSaid names (of_partner w) n p
  partner_keeps n p s = record {
    datagram = s.datagram;
    among = among_front s.datagram v.sent call.more s.among;
    sender = s.sender;
    connection = s.connection;
    read = s.read;
    numbered = s.numbered;
    below = s.below;
  }

  pub partner_only : (n : ℕ) (p : Pdu) → IsSaid names (of_partner w) n p → IsSaid names (of_partner v) n p
  partner_only n p s = record {
    datagram = s.datagram;
    among = choose (among_both s.datagram v.sent call.more s.among);
    sender = s.sender;
    connection = s.connection;
    read = s.read;
    numbered = s.numbered;
    below = s.below;
  }
    where
      choose : IsAmong s.datagram v.sent ⊎ IsAmong s.datagram call.more → IsAmong s.datagram v.sent
      choose (inl front) = front
      choose (inr back) = absurd (call.apart (sym s.sender ∙ among (λ (d : Sent). d.sender ≡ v.who) s.datagram call.more back call.mine))

  pub keeps_ask : (n : ℕ) → IsAsk names v n → IsAsk names w n
  keeps_ask n a = record { pdu = a.pdu; said = keeps n a.pdu a.said; asks = a.asks }

  pub keeps_answer : (n : ℕ) → IsAnswer names v n → IsAnswer names w n
  keeps_answer n a = record { pdu = a.pdu; said = keeps n a.pdu a.said; answers = a.answers }

  pub partner_keeps_ask : (n : ℕ) → IsAsk names (of_partner v) n → IsAsk names (of_partner w) n
  partner_keeps_ask n a = record { pdu = a.pdu; said = partner_keeps n a.pdu a.said; asks = a.asks }

  abbrev pub partner_ask_only : (n : ℕ) → IsAsk names (of_partner w) n → IsAsk names (of_partner v) n
  partner_ask_only n a = record { pdu = a.pdu; said = partner_only n a.pdu a.said; asks = a.asks }

  abbrev pub partner_answer_only : (n : ℕ) → IsAnswer names (of_partner w) n → IsAnswer names (of_partner v) n
  partner_answer_only n a = record { pdu = a.pdu; said = partner_only n a.pdu a.said; answers = a.answers }

  pub partner_keeps_answer : (n : ℕ) → IsAnswer names (of_partner v) n → IsAnswer names (of_partner w) n
  partner_keeps_answer n a = record { pdu = a.pdu; said = partner_keeps n a.pdu a.said; answers = a.answers }

  pub keeps_to : (asked n : ℕ) → IsAnswerTo names v asked n → IsAnswerTo names w asked n
  keeps_to asked n to = record {
    answer = record { pdu = to.answer.pdu; said = keeps n to.answer.pdu to.answer.said; answers = to.answer.answers };
    ask = partner_keeps_ask asked to.ask;
    confirms = to.confirms;
  }

  pub partner_keeps_to : (asked n : ℕ) → IsAnswerTo names (of_partner v) asked n → IsAnswerTo names (of_partner w) asked n
  partner_keeps_to asked n to = record {
    answer = record { pdu = to.answer.pdu; said = partner_keeps n to.answer.pdu to.answer.said; answers = to.answer.answers };
    ask = keeps_ask asked to.ask;
    confirms = to.confirms ∙ ap (λ (f : ℕ). wire f asked) (sym first_same);
  }

  -- where the end's own ask was said before, or was not
  pub partner_to_only : (asked n : ℕ) (to : IsAnswerTo names (of_partner w) asked n) → IsSaid names v asked to.ask.pdu → IsAnswerTo names (of_partner v) asked n
  partner_to_only asked n to said = record {
    answer = partner_answer_only n to.answer;
    ask = record { pdu = to.ask.pdu; said = said; asks = to.ask.asks };
    confirms = to.confirms ∙ ap (λ (f : ℕ). wire f asked) first_same;
  }

  pub to_only : (asked n : ℕ) (to : IsAnswerTo names w asked n) → IsSaid names v n to.answer.pdu → IsAnswerTo names v asked n
  to_only asked n to said = record {
    answer = record { pdu = to.answer.pdu; said = said; answers = to.answer.answers };
    ask = partner_ask_only asked to.ask;
    confirms = to.confirms;
  }

  -- what the end has said now is of before, or of this row
  pub own_said : (F : ℕ → Pdu → Type 0) → ((m : ℕ) (p : Pdu) → F m p → p.sequence_number ≡ wire l.own_first m) → Row F l.sent call.ps k.sent → (n : ℕ) (p : Pdu) → IsSaid names w n p
      → IsSaid names v n p ⊎ ((l.sent ≤ n) × F n p)
  own_said F number row n p s = choose (among_both s.datagram v.sent call.more s.among)
    where
      fits : n < 2 ^ 31
      fits = let b = s.below in let f = own_fits names w call.then_seen in omega (arith, b, f)

      same_as : (m : ℕ) → m < 2 ^ 31 → p.sequence_number ≡ wire l.own_first m → m ≡ n
      same_as m also e = wire_once l.own_first m n also fits (sym e ∙ s.numbered ∙ ap (λ (f : ℕ). wire f n) first_same)

      choose : IsAmong s.datagram v.sent ⊎ IsAmong s.datagram call.more → IsSaid names v n p ⊎ ((l.sent ≤ n) × F n p)
      choose (inl front) =
          let found = said_of names v call.seen s.datagram p front s.sender (sym call.connection ∙ s.connection) s.read in
          let e = same_as found.0 (let b = found.1.below in let f = own_fits names v call.seen in omega (arith, b, f)) found.1.numbered in
          inl (subst (λ (m : ℕ). IsSaid names v m p) e found.1)
      choose (inr back) =
          let handed = among (IsHanded names v.who F l.sent k.sent) s.datagram call.more back (call.hands F row) in
          let found = handed.spells p s.read in
          let e = same_as found.0 (let b = found.2 in let f = own_fits names w call.then_seen in omega (arith, b, f)) (number found.0 p found.3) in
          inr (subst (λ (m : ℕ). (l.sent ≤ m) × F m p) e (found.1, found.3))

  -- what it says first stands under the next number
  pub says_next : (p : Pdu) (rest : List Pdu) → call.ps ≡ p ∷ rest → p.sequence_number ≡ wire l.own_first l.sent → l.sent < k.sent → IsSaid names w l.sent p
  says_next p rest are number below = let posted = call.posts p rest are in record {
    datagram = posted.datagram;
    among = among_back posted.datagram v.sent call.more posted.among;
    sender = posted.sender;
    connection = posted.in_it;
    read = posted.read;
    numbered = number ∙ ap (λ (f : ℕ). wire f l.sent) (sym first_same);
    below = below;
  }

  pub partner_below : reached_by v.partner.link ≤ l.sent
  partner_below = let r = call.seen.partner_reached in let m = call.seen.order.there.counts.most in let c = call.seen.own_inside.counted in omega (arith, r, m, c)
