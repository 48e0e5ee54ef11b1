-- A connection stays in order where an end answers a retransmission request.
use Rattle.std.proofs.Common.{◌≡◌, ℕ, zero, suc, ◌+◌, ◌-◌, ◌^◌, ◌<◌, ◌≤◌, min, false, List, [], ◌∷◌, ◌++◌, length, take, ◌⊎◌, inl, inr, refl, sym, ap, subst, ◌∙◌, arith}
use Rattle.std.proofs.lemmas.List.{length-append, append-nil}
use Rattle.rasta_core_spec.specs.Sequence.{wire}
use Rattle.rasta_core_spec.specs.PdusHandedOut.{pdu_of}
use Rattle.rasta_core_spec.specs.Receipt.{repeated, retagged}
use Rattle.rasta_core_spec.specs.pdu.Pdu.{Pdu}
use Rattle.rasta_core_spec.specs.body.Body.{Body}
use Rattle.rasta_core_spec.specs.body.Body.TheVariants.{RetransmissionRequest, RetransmissionResponse, Heartbeat, RetransmittedData}
use Rattle.rasta_core_spec.specs.window.Unconfirmed.{Unconfirmed}
use Rattle.rasta_core_spec.specs.header.Header.{Header}
use Rattle.rasta_core.specs.EndFlow.{IsAt, EndFlow, sent, later, items_of}
use Rattle.rasta_core.specs.Order.{IsLevel, Brings, Carries, IsClosing, OpensOn, IsSent, Rises, Waits, Counts, Way}
use Rattle.rasta_core.proofs.Places.{split, within, only_one, IsAfter, CloseNothing, opens_more}
use Rattle.rasta_core.proofs.Tags.{retagged_length, retagged_items, retagged_rises, retagged_later, rises_lower}
use Rattle.rasta_core.proofs.GiverGrowth.{Extends, HasNo, place_of, is_sent_kept}
use Rattle.rasta_core.proofs.OrderOfTaken.{taker_sent}
use Rattle.rasta_core.proofs.Sends.{upto, upto_old, upto_new, below, below_old, below_new}
use Rattle.rasta_core.proofs.Repeats.{length-items_of, items_of-append, length-repeated, IsRepeat, repeated_at, take_before, take_with}

-- the response, the items again, a heartbeat
abbrev pub answer : Header → ℕ → List Unconfirmed → List Pdu
answer header count waiting =
    pdu_of header count RetransmissionResponse ∷ (repeated header (count + 1) waiting ++ pdu_of header (count + 1 + length waiting) Heartbeat ∷ [])

-- how many items are taken before a place of the answer: those before the first that waits, and one more each
abbrev pub again : EndFlow → ℕ → ℕ → ℕ
again part before number = min (length part.given) (before + (number - (sent part + 1)))

abbrev pub answered : Header → ℕ → EndFlow → EndFlow
answered header before part = record part {
  flow = part.flow ++ answer header (sent part) part.waiting;
  passed = upto (sent part) (again part before) part.passed;
  expecting = below (sent part) part.reached part.expecting;
  waiting = retagged (sent part + 1) part.waiting;
}

-- A header of an end.
pub record IsHeader (own : EndFlow) (other_first : ℕ) (header : Header) : Type 0 where
  pub first : header.first_sequence_number ≡ own.first
  pub confirmed : header.confirmed_sequence_number ≡ wire other_first (own.reached - 1)
  pub unsaid : OpensOn own.flow

-- an answer closes nothing
pub answer_goes_on : (header : Header) (count : ℕ) (waiting : List Unconfirmed) → CloseNothing (answer header count waiting)
unfolding pdu_of
answer_goes_on header count waiting zero pdu at closes = subst (λ (p : Pdu). IsClosing p.body) (sym at) closes
answer_goes_on header count waiting (suc place) pdu at closes =
    elim (split place pdu (repeated header (count + 1) waiting) (pdu_of header (count + 1 + length waiting) Heartbeat ∷ []) at) [
      | inl old ↦ subst (λ (p : Pdu). IsClosing p.body) (repeated_at header (count + 1) waiting place pdu old).is closes
      | inr new ↦ subst (λ (p : Pdu). IsClosing p.body) (sym (only_one new.0 pdu (pdu_of header (count + 1 + length waiting) Heartbeat) new.2).1) closes
    ]

module _ (own other : EndFlow) (header : Header) (before : List (List ℕ)) (way : Way own other) (is_header : IsHeader own other.first header) (some : 1 ≤ own.reached)
    (fits : sent own + length own.waiting + 2 < 2 ^ 31) (last : own.given ≡ before ++ items_of own.waiting)
    (unanswered : (place : ℕ) (pdu : Pdu) → IsAt place pdu own.flow → pdu.body ≡ RetransmissionResponse → place < other.reached)
    (asked_no_more : (place : ℕ) (pdu : Pdu) → IsAt place pdu other.flow → pdu.body ≡ RetransmissionRequest → own.reached ≤ place → ⊥)
    (other_waits : other.reading ≡ false)
    (all_wait : later other.reached own.waiting ≡ length own.waiting) where
  count : length own.given ≡ length before + length own.waiting
  count = ap length last ∙ length-append before (items_of own.waiting) ∙ ap (λ n. length before + n) (length-items_of own.waiting)

  length-answer : length (answer header (sent own) own.waiting) ≡ length own.waiting + 2
  length-answer =
      let tail = length-append (repeated header (sent own + 1) own.waiting) (pdu_of header (sent own + 1 + length own.waiting) Heartbeat ∷ [])
      in omega (arith, tail, length-repeated header (sent own + 1) own.waiting)

  pub sent_answered : sent (answered header (length before) own) ≡ sent own + length own.waiting + 2
  sent_answered = omega (arith, length-append own.flow (answer header (sent own) own.waiting), length-answer)

  answered_extends : Extends own (answered header (length before) own) (answer header (sent own) own.waiting)
  answered_extends = record {
    first = refl;
    flow = refl;
    passed = λ number le. upto_old (sent own) number (again own (length before)) own.passed le;
    expecting = λ number lt. below_old (sent own) number own.reached own.expecting lt;
    given = λ number le. refl;
    reached = omega arith;
  }

  passed_after : (number : ℕ) → sent own < number → (answered header (length before) own).passed number ≡ again own (length before) number
  passed_after number lt = upto_new (sent own) number (again own (length before)) own.passed lt

  passed_below : (number : ℕ) → (number ≤ sent own) ⊎ (sent own < number) → (answered header (length before) own).passed number ≤ length own.given
  passed_below number (inl le) = omega (arith, answered_extends.passed number le, way.counts.passed number le)
  passed_below number (inr lt) = omega (arith, passed_after number lt)

  le_or_lt : (a b : ℕ) → (a ≤ b) ⊎ (b < a)
  le_or_lt a b = grind arith

  answered_counts : Counts (answered header (length before) own) other.reached
  answered_counts = record {
    fits = omega (arith, sent_answered);
    some = way.counts.some;
    most = omega (arith, sent_answered, way.counts.most);
    all = omega (arith, passed_after (sent (answered header (length before) own)) (omega (arith, sent_answered)), sent_answered, count);
    passed = λ number le. passed_below number (le_or_lt number (sent own));
  }

  answered_level : (number : ℕ) → sent own < number → IsLevel (answered header (length before) own) number
  answered_level number lt = omega (arith, passed_after number lt, retagged_later (sent own + 1) number own.waiting, count)

  level_here : IsLevel (answered header (length before) own) other.reached
  level_here =
      omega (arith, answered_extends.passed other.reached way.counts.most, retagged_later (sent own + 1) other.reached own.waiting, way.level, all_wait, way.counts.most)

  answered_waits : Waits (answered header (length before) own)
  answered_waits = record {
    few = omega (arith, retagged_length (sent own + 1) own.waiting, way.waits.few);
    rises = rises;
    last = (before, last ∙ ap (λ back. before ++ back) (sym (retagged_items (sent own + 1) own.waiting)));
  }
    where
      rises : Rises 0 (sent (answered header (length before) own)) (retagged (sent own + 1) own.waiting)
      rises =
          rises_lower (sent own + 1) 0 (sent (answered header (length before) own)) (retagged (sent own + 1) own.waiting)
          (retagged_rises (sent own + 1) (sent (answered header (length before) own)) own.waiting (omega (arith, sent_answered))) (omega arith)

  -- ---- each of its PDUs

  sent_so : (place : ℕ) (body : Body) → sent own ≤ place → Carries (answered header (length before) own) place body
      → IsSent (answered header (length before) own) other.first place (pdu_of header place body)
  unfolding pdu_of
  sent_so place body from carries = record {
    number = ap (λ first. wire first place) is_header.first;
    some_expected = omega (arith, expecting_here);
    expected = omega (arith, expecting_here);
    confirms = inl (is_header.confirmed ∙ ap (λ expected. wire other.first (expected - 1)) (sym expecting_here));
    follows = λ two. opens_more own.flow (answer header (sent own) own.waiting) is_header.unsaid (answer_goes_on header (sent own) own.waiting);
    carries = carries;
  }
    where
      expecting_here : (answered header (length before) own).expecting place ≡ own.reached
      expecting_here = below_new (sent own) place own.reached own.expecting from

  repeat_brings : (place : ℕ) (pdu : Pdu) (repeat : IsRepeat header (sent own + 1) own.waiting place pdu)
      → Brings (answered header (length before) own) (sent own + 1 + place) (repeat.one.item ∷ [])
  repeat_brings place pdu repeat =
      let fronts = length-items_of repeat.front
      in let whole = ap length repeat.here
      in let parts = length-append repeat.front (repeat.one ∷ repeat.back)
      in let number_here : (answered header (length before) own).passed (sent own + 1 + place) ≡ length before + length (items_of repeat.front)
      = omega (arith, passed_after (sent own + 1 + place) (omega arith), count, fronts, whole, parts, repeat.at)
      in let number_next : (answered header (length before) own).passed (sent own + 1 + place + 1) ≡ length before + length (items_of repeat.front) + 1
      = omega (arith, passed_after (sent own + 1 + place + 1) (omega arith), count, fronts, whole, parts, repeat.at)
      in let is : own.given ≡ before ++ (items_of repeat.front ++ repeat.one.item ∷ items_of repeat.back)
      = last ∙ ap (λ back. before ++ back) (ap items_of (sym repeat.here) ∙ items_of-append repeat.front (repeat.one ∷ repeat.back))
      in (
        omega (arith, number_here, number_next),
        ap (λ number. take number own.given) number_next
            ∙ take_with before (items_of repeat.front) (items_of repeat.back) own.given repeat.one.item is
            ∙ ap (λ front. front ++ repeat.one.item ∷ [])
            (sym (ap (λ number. take number own.given) number_here ∙ take_before before (items_of repeat.front) (items_of repeat.back) own.given repeat.one.item is)),
      )

  last_brings : Brings (answered header (length before) own) (sent own + 1 + length own.waiting) []
  last_brings =
      let here : (answered header (length before) own).passed (sent own + 1 + length own.waiting) ≡ length own.given
      = omega (arith, passed_after (sent own + 1 + length own.waiting) (omega arith), count)
      in let next : (answered header (length before) own).passed (sent own + 1 + length own.waiting + 1) ≡ length own.given
      = omega (arith, passed_after (sent own + 1 + length own.waiting + 1) (omega arith), count)
      in (
        omega (arith, here, next),
        ap (λ number. take number own.given) (next ∙ sym here)
            ∙ sym (append-nil (take ((answered header (length before) own).passed (sent own + 1 + length own.waiting)) own.given)),
      )

  at_place : (place number : ℕ) (pdu : Pdu) (body : Body) → number ≡ sent own + place → pdu_of header number body ≡ pdu
      → IsSent (answered header (length before) own) other.first number (pdu_of header number body) → IsSent (answered header (length before) own) other.first (sent own + place) pdu
  at_place place number pdu body is same sent_here =
      subst (λ there. IsSent (answered header (length before) own) other.first there pdu) is (subst (IsSent (answered header (length before) own) other.first number) same sent_here)

  repeat_sent : (place next : ℕ) (pdu : Pdu) → place ≡ suc next
      → IsAt next pdu (repeated header (sent own + 1) own.waiting) ⊎ IsAfter next pdu (repeated header (sent own + 1) own.waiting) (pdu_of header (sent own + 1 + length own.waiting) Heartbeat ∷ [])
      → IsSent (answered header (length before) own) other.first (sent own + place) pdu
  repeat_sent place next pdu is (inl at) =
      let repeat = repeated_at header (sent own + 1) own.waiting next pdu at
      in at_place place (sent own + 1 + next) pdu (RetransmittedData (repeat.one.item ∷ [])) (omega (arith, is)) (sym repeat.is)
      (sent_so (sent own + 1 + next) (RetransmittedData (repeat.one.item ∷ [])) (omega arith) (repeat_brings next pdu repeat))
  repeat_sent place next pdu is (inr (zero, after, at)) =
      at_place place (sent own + 1 + length own.waiting) pdu Heartbeat (omega (arith, is, after, length-repeated header (sent own + 1) own.waiting)) at
      (sent_so (sent own + 1 + length own.waiting) Heartbeat (omega arith) last_brings)
  repeat_sent place next pdu is (inr (suc beyond, after, at)) = elim at [ ]

  answer_sent : (place : ℕ) (pdu : Pdu) → IsAt place pdu (answer header (sent own) own.waiting) → IsSent (answered header (length before) own) other.first (sent own + place) pdu
  answer_sent zero pdu at = at_place 0 (sent own) pdu RetransmissionResponse (omega arith) at (sent_so (sent own) RetransmissionResponse (omega arith) tt)
  answer_sent (suc next) pdu at =
      repeat_sent (suc next) next pdu refl (split next pdu (repeated header (sent own + 1) own.waiting) (pdu_of header (sent own + 1 + length own.waiting) Heartbeat ∷ []) at)

  -- ---- only the first of them is a response

  no_repeat : (next : ℕ) (pdu : Pdu)
      → IsAt next pdu (repeated header (sent own + 1) own.waiting) ⊎ IsAfter next pdu (repeated header (sent own + 1) own.waiting) (pdu_of header (sent own + 1 + length own.waiting) Heartbeat ∷ [])
      → pdu.body ≡ RetransmissionResponse → ⊥
  unfolding pdu_of
  no_repeat next pdu (inl at) body =
      let repeat = repeated_at header (sent own + 1) own.waiting next pdu at
      in let its : pdu.body ≡ RetransmittedData (repeat.one.item ∷ []) = ap (λ (p : Pdu). p.body) repeat.is
      in cc (its, body)
  no_repeat next pdu (inr (zero, after, at)) body =
      let its : Heartbeat ≡ pdu.body = ap (λ (p : Pdu). p.body) at
      in cc (its, body)
  no_repeat next pdu (inr (suc beyond, after, at)) body = elim at [ ]

  response_at : (next : ℕ) (pdu : Pdu) → IsAt next pdu (answer header (sent own) own.waiting) → pdu.body ≡ RetransmissionResponse → next ≡ 0
  response_at zero pdu at body = refl
  response_at (suc next) pdu at body =
      absurd (no_repeat next pdu (split next pdu (repeated header (sent own + 1) own.waiting) (pdu_of header (sent own + 1 + length own.waiting) Heartbeat ∷ []) at) body)

  -- and none is a request
  not_asking : (next : ℕ) (pdu : Pdu)
      → IsAt next pdu (repeated header (sent own + 1) own.waiting) ⊎ IsAfter next pdu (repeated header (sent own + 1) own.waiting) (pdu_of header (sent own + 1 + length own.waiting) Heartbeat ∷ [])
      → pdu.body ≡ RetransmissionRequest → ⊥
  unfolding pdu_of
  not_asking next pdu (inl at) body =
      let repeat = repeated_at header (sent own + 1) own.waiting next pdu at
      in let its : pdu.body ≡ RetransmittedData (repeat.one.item ∷ []) = ap (λ (p : Pdu). p.body) repeat.is
      in cc (its, body)
  not_asking next pdu (inr (zero, after, at)) body =
      let its : Heartbeat ≡ pdu.body = ap (λ (p : Pdu). p.body) at
      in cc (its, body)
  not_asking next pdu (inr (suc beyond, after, at)) body = elim at [ ]

  no_asking_in : HasNo RetransmissionRequest (answer header (sent own) own.waiting)
  unfolding pdu_of
  no_asking_in zero pdu at body =
      let its : RetransmissionResponse ≡ pdu.body = ap (λ (p : Pdu). p.body) at
      in cc (its, body)
  no_asking_in (suc next) pdu at body =
      not_asking next pdu (split next pdu (repeated header (sent own + 1) own.waiting) (pdu_of header (sent own + 1 + length own.waiting) Heartbeat ∷ []) at) body

  place_in : (place : ℕ) (pdu : Pdu) → IsAt place pdu (answered header (length before) own).flow → IsAt place pdu own.flow ⊎ IsAfter place pdu own.flow (answer header (sent own) own.waiting)
  place_in = place_of own (answered header (length before) own) (answer header (sent own) own.waiting) answered_extends other.reached way.counts

  each_after : (place : ℕ) (pdu : Pdu) → IsAt place pdu own.flow ⊎ IsAfter place pdu own.flow (answer header (sent own) own.waiting)
      → IsSent (answered header (length before) own) other.first place pdu
  each_after place pdu (inl at) =
      is_sent_kept own (answered header (length before) own) (answer header (sent own) own.waiting) answered_extends other.reached way.counts other.first place pdu
      (within place pdu own.flow at) (way.each place pdu at)
  each_after place pdu (inr (next, is, at)) = subst (λ here. IsSent (answered header (length before) own) other.first here pdu) (sym is) (answer_sent next pdu at)

  -- it is the response that stands at the old end of the flow
  its_place : (place : ℕ) (pdu : Pdu) → IsAt place pdu own.flow ⊎ IsAfter place pdu own.flow (answer header (sent own) own.waiting) → pdu.body ≡ RetransmissionResponse
      → other.reached ≤ place → place ≡ sent own
  its_place place pdu (inl at) body from = absurd (omega (arith, from, unanswered place pdu at body))
  its_place place pdu (inr (next, is, at)) body from = omega (arith, is, response_at next pdu at body)

  goes_on_from : (place : ℕ) → place ≡ sent own → (answered header (length before) own).passed (place + 1) ≡ (answered header (length before) own).passed other.reached
  goes_on_from place is =
      omega (arith, passed_after (place + 1) (omega arith), answered_extends.passed other.reached way.counts.most, way.level, all_wait, count, is)

  pub giver_answered : Way (answered header (length before) own) other
  giver_answered = record {
    counts = answered_counts;
    each = λ place pdu at. each_after place pdu (place_in place pdu at);
    waits = answered_waits;
    taken = way.taken ∙ ap (λ number. take number own.given) (sym (answered_extends.passed other.reached way.counts.most));
    level = level_here;
    ahead = λ reading. absurd (cc (reading, other_waits));
    answers = λ place pdu at body from.
        let is : place ≡ sent own = its_place place pdu (place_in place pdu at) body from
        in record {
          waited_for = other_waits;
          from = goes_on_from place is;
          level = λ number after most. answered_level number (omega (arith, is, after));
          only = λ number that there that_body that_from. its_place number that (place_in number that there) that_body that_from ∙ sym is;
        };
    askings = λ place pdu at body from. absurd (asked_no_more place pdu at body from);
  }

  pub partner_answered : Way other own → Way other (answered header (length before) own)
  partner_answered back =
      taker_sent other own back (answer header (sent own) own.waiting) (upto (sent own) (again own (length before)) own.passed) (below (sent own) own.reached own.expecting)
      own.given (retagged (sent own + 1) own.waiting) (λ number lt. below_old (sent own) number own.reached own.expecting lt) no_asking_in
