-- An end that is up, and took a PDU in turn last, has taken all items of the PDUs before the one that it expects.
use Rattle.std.proofs.Common.{◌≡◌, ℕ, zero, suc, ◌+◌, ◌-◌, ◌<◌, ◌≤◌, Bool, true, false, List, [], ◌∷◌, ◌++◌, length, take, drop, refl, sym, ap, subst, ◌∙◌, append_assoc, arith}
use Rattle.std.proofs.lemmas.List.{length-append, length-take-le, take-append-drop}
use Rattle.rasta_core_spec.specs.Each.{Each}
use Rattle.rasta_core_spec.specs.Given.{new_items}
use Rattle.rasta_core_spec.specs.pdu.Pdu.{Pdu}
use Rattle.rasta_core_spec.specs.body.Body.{Body}
use Rattle.rasta_core_spec.specs.body.Body.TheVariants.{ConnectionRequest, ConnectionResponse, RetransmissionRequest, RetransmissionResponse, DisconnectionRequest, Heartbeat, Data, RetransmittedData}
use Rattle.rasta_core.specs.Carried.{carried}
use Rattle.rasta_core.specs.EndFlow.{EndFlow, IsAt}
use Rattle.rasta_core.specs.Order.{Carries, Way}
use Rattle.caught_up_laws.specs.Chain.{Chained, MayFollow, repeats}

abbrev Plain : Pdu → Type 0
Plain pdu = repeats pdu.body ≡ false

pub at_back : (place : ℕ) (pdu : Pdu) (front more : List Pdu) → IsAt place pdu more → IsAt (length front + place) pdu (front ++ more)
at_back place pdu [] more at = subst (λ (n : ℕ). IsAt n pdu more) (zero_left place) at
  where
    zero_left : (n : ℕ) → n ≡ 0 + n
    zero_left n = omega arith
at_back place pdu (first ∷ front) more at = subst (λ (n : ℕ). IsAt n pdu (first ∷ front ++ more)) (next (length front) place) (at_back place pdu front more at)
  where
    next : (a b : ℕ) → suc (a + b) ≡ suc a + b
    next a b = omega arith

pub at_front : (place : ℕ) (pdu : Pdu) (front more : List Pdu) → IsAt place pdu front → IsAt place pdu (front ++ more)
at_front place pdu [] more at = elim at [ ]
at_front zero pdu (first ∷ front) more at = at
at_front (suc place) pdu (first ∷ front) more at = at_front place pdu front more at

pub within : (place : ℕ) (pdu : Pdu) (flow : List Pdu) → IsAt place pdu flow → place < length flow
within place pdu [] at = elim at [ ]
within zero pdu (first ∷ flow) at = omega arith
within (suc place) pdu (first ∷ flow) at = omega (arith, within place pdu flow at)

pub same_at : (place : ℕ) (one other : Pdu) (flow : List Pdu) → IsAt place one flow → IsAt place other flow → one ≡ other
same_at place one other [] a b = elim a [ ]
same_at zero one other (first ∷ flow) a b = sym a ∙ b
same_at (suc place) one other (first ∷ flow) a b = same_at place one other flow a b

pub carried-append : (one other : List Pdu) → carried (one ++ other) ≡ carried one ++ carried other
carried-append [] other = refl
carried-append (first ∷ one) other = ap (λ rest. new_items first.body ++ rest) (carried-append one other) ∙ sym (append_assoc (new_items first.body) (carried one) (carried other))

-- ---- what follows a PDU that doesn't repeat, and no beginning of a retransmission, doesn't repeat

chained_after : (before : Bool) (front more : List Pdu) → Chained before (front ++ more) → ((place : ℕ) → suc place ≡ length front → (pdu : Pdu) → IsAt place pdu (front ++ more) → Plain pdu) → 1 ≤ length front → Chained false more
chained_after before [] more chained last some = absurd (omega (arith, some))
chained_after before (first ∷ []) more chained last some = subst (λ (b : Bool). Chained b more) (last 0 refl first refl) chained.1
chained_after before (first ∷ second ∷ front) more chained last some =
    chained_after (repeats first.body) (second ∷ front) more chained.1 (λ place is pdu at. last (suc place) (ap suc is) pdu at) (omega arith)

plain_after : (more : List Pdu) → Chained false more → ((place : ℕ) (pdu : Pdu) → IsAt place pdu more → pdu.body ≡ RetransmissionResponse → ⊥) → Each Plain more
plain_after [] chained none = tt
plain_after (first ∷ more) chained none = (plain, plain_after more (subst (λ (b : Bool). Chained b more) plain chained.1) (λ place pdu at is. none (suc place) pdu at is))
  where
    go : (body : Body) → first.body ≡ body → MayFollow false body → repeats body ≡ false
    go (ConnectionRequest opening) is may = refl
    go (ConnectionResponse opening) is may = refl
    go RetransmissionRequest is may = refl
    go RetransmissionResponse is may = absurd (none 0 first refl is)
    go (DisconnectionRequest detail why) is may = refl
    go Heartbeat is may = refl
    go (Data items) is may = refl
    go (RetransmittedData items) is may = absurd (cc (may))

    plain : repeats first.body ≡ false
    plain = go first.body refl chained.0

-- ---- each of them brings the items that it carries

brings : (giver : EndFlow) (place : ℕ) (body : Body) → 1 ≤ place → Carries giver place body → repeats body ≡ false → giver.passed (place + 1) ≡ giver.passed place + length (new_items body)
brings giver place (ConnectionRequest opening) some carries plain = absurd (omega (arith, some, carries.0.0))
brings giver place (ConnectionResponse opening) some carries plain = absurd (omega (arith, some, carries.0.0))
brings giver place RetransmissionRequest some carries plain = carries.0
brings giver place RetransmissionResponse some carries plain = absurd (cc (plain))
brings giver place (DisconnectionRequest detail why) some carries plain = carries.0
brings giver place Heartbeat some carries plain = carries.0
brings giver place (Data items) some carries plain = carries.0
brings giver place (RetransmittedData items) some carries plain = absurd (cc (plain))

counts_on : (giver : EndFlow) (front more : List Pdu) → ((place : ℕ) (pdu : Pdu) → IsAt place pdu (front ++ more) → Carries giver place pdu.body) → 1 ≤ length front → Each Plain more
    → giver.passed (length front + length more) ≡ giver.passed (length front) + length (carried more)
counts_on giver front [] each some plain = ap giver.passed (zero_right (length front)) ∙ sym (zero_right (giver.passed (length front)))
  where
    zero_right : (n : ℕ) → n + 0 ≡ n
    zero_right n = omega arith
counts_on giver front (first ∷ more) each some plain =
    let here : giver.passed (length front + 1) ≡ giver.passed (length front) + length (new_items first.body)
    = brings giver (length front) first.body some (each (length front) first (subst (λ (n : ℕ). IsAt n first (front ++ first ∷ more)) (zero_right (length front)) (at_back 0 first front (first ∷ more) refl))) plain.0
    in let longer : length (front ++ first ∷ []) ≡ length front + 1 = length-append front (first ∷ [])
    in let rest : giver.passed (length (front ++ first ∷ []) + length more) ≡ giver.passed (length (front ++ first ∷ [])) + length (carried more)
    = counts_on giver (front ++ first ∷ []) more (λ place pdu at. each place pdu (subst (IsAt place pdu) (append_assoc front (first ∷ []) more) at)) (omega (arith, longer)) plain.1
    in let rest_at : giver.passed (length front + 1 + length more) ≡ giver.passed (length front + 1) + length (carried more)
    = subst (λ (n : ℕ). giver.passed (n + length more) ≡ giver.passed n + length (carried more)) longer rest
    in let all : length (new_items first.body ++ carried more) ≡ length (new_items first.body) + length (carried more) = length-append (new_items first.body) (carried more)
    in ap giver.passed (one_more (length front) (length more)) ∙ rest_at ∙ ap (λ n. n + length (carried more)) here ∙ added (giver.passed (length front)) (length (new_items first.body)) (length (carried more)) _ all
  where
    zero_right : (n : ℕ) → n + 0 ≡ n
    zero_right n = omega arith

    one_more : (a b : ℕ) → a + suc b ≡ a + 1 + b
    one_more a b = omega arith

    added : (a b c d : ℕ) → d ≡ b + c → a + b + c ≡ a + d
    added a b c d e = omega (arith, e)

-- ---- the whole

module _ (giver taker : EndFlow) (way : Way giver taker) (reads : taker.reading ≡ true) (chained : Chained false giver.flow) (last : (pdu : Pdu) (place : ℕ) → suc place ≡ taker.reached → IsAt place pdu giver.flow → Plain pdu)
    (given : giver.given ≡ carried giver.flow) where
  exactly : (front more : List Pdu) → giver.flow ≡ front ++ more → length front ≡ taker.reached → length (carried front) ≡ length taker.taken
  exactly front more same count =
      let some : 1 ≤ length front = omega (arith, count, way.counts.some)
      in let each : (place : ℕ) (pdu : Pdu) → IsAt place pdu (front ++ more) → Carries giver place pdu.body = λ place pdu at. (way.each place pdu (subst (IsAt place pdu) (sym same) at)).carries
      in let later : Chained false more = chained_after false front more (subst (Chained false) same chained)
      (λ place is pdu at. last pdu place (is ∙ count) (subst (IsAt place pdu) (sym same) at)) some
      in let plain : Each Plain more = plain_after more later (λ place pdu at is. none place pdu at is)
      in let on : giver.passed (length front + length more) ≡ giver.passed (length front) + length (carried more) = counts_on giver front more each some plain
      in let whole : length giver.flow ≡ length front + length more = ap length same ∙ length-append front more
      in let all : giver.passed (length front + length more) ≡ length giver.given = ap giver.passed (sym whole) ∙ way.counts.all
      in let items : length giver.given ≡ length (carried front) + length (carried more) = ap length given ∙ ap (λ (f : List Pdu). length (carried f)) same ∙ ap length (carried-append front more) ∙ length-append (carried front) (carried more)
      in let taken : length taker.taken ≡ giver.passed taker.reached = ap length way.taken ∙ length-take-le (giver.passed taker.reached) giver.given (way.counts.passed taker.reached way.counts.most)
      in let at : giver.passed (length front) ≡ giver.passed taker.reached = ap giver.passed count
      in omega (arith, on, all, items, taken, at)
    where
      none : (place : ℕ) (pdu : Pdu) → IsAt place pdu more → pdu.body ≡ RetransmissionResponse → ⊥
      none place pdu at is =
          let answer = way.answers (length front + place) pdu (subst (IsAt (length front + place) pdu) (sym same) (at_back place pdu front more at)) is (omega (arith, count))
          in cc (answer.waited_for, reads)

  pub level : (front more : List Pdu) → giver.flow ≡ front ++ more → length front ≤ taker.reached → length (carried front) ≤ length taker.taken
  level front more same few =
      let d = taker.reached - length front
      in let whole : length giver.flow ≡ length front + length more = ap length same ∙ length-append front more
      in let enough : d ≤ length more = omega (arith, whole, way.counts.most, few)
      in let split : giver.flow ≡ (front ++ take d more) ++ drop d more = same ∙ ap (λ rest. front ++ rest) (sym (take-append-drop d more)) ∙ sym (append_assoc front (take d more) (drop d more))
      in let count : length (front ++ take d more) ≡ taker.reached = length-append front (take d more) ∙ counted (length front) (length (take d more)) taker.reached (length-take-le d more enough) few
      in let both : length (carried (front ++ take d more)) ≡ length (carried front) + length (carried (take d more)) = ap length (carried-append front (take d more)) ∙ length-append (carried front) (carried (take d more))
      in omega (arith, exactly (front ++ take d more) (drop d more) split count, both)
    where
      counted : (a b c : ℕ) → b ≡ c - a → a ≤ c → a + b ≡ c
      counted a b c e f = omega (arith, e, f)
