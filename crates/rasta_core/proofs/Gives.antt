-- A connection stays in order where an end sends a new item.
use Rattle.std.proofs.Common.{◌≡◌, ℕ, ◌+◌, ◌-◌, ◌^◌, ◌<◌, ◌≤◌, List, [], ◌∷◌, ◌++◌, length, take, ◌⊎◌, inl, inr, refl, sym, ap, subst, ◌∙◌, arith, append_assoc}
use Rattle.std.proofs.lemmas.List.{length-append, take_all, take-append-le}
use Rattle.rasta_core_spec.specs.Sequence.{wire}
use Rattle.rasta_core_spec.specs.pdu.Pdu.{Pdu}
use Rattle.rasta_core_spec.specs.body.Body.TheVariants.{RetransmissionResponse, Data}
use Rattle.rasta_core_spec.specs.window.Unconfirmed.{Unconfirmed}
use Rattle.rasta_core.specs.EndFlow.{IsAt, EndFlow, sent, later, items_of}
use Rattle.rasta_core.specs.Order.{Brings, Carries, IsUnanswered, IsSent, Rises, Waits, Counts, Way}
use Rattle.rasta_core.proofs.Places.{only_one}
use Rattle.rasta_core.proofs.Tags.{later_none, later_one_more, rises_one_more, items_one_more}
use Rattle.rasta_core.proofs.GiverGrowth.{Extends, grown}
use Rattle.rasta_core.proofs.Sends.{upto, upto_old, upto_new, below, below_old, below_new, IsNext}

abbrev pub held : ℕ → List ℕ → Unconfirmed
held tag item = record { tag = tag; item = item }

abbrev pub gives : List ℕ → Pdu → EndFlow → EndFlow
gives item pdu part = record part {
  flow = part.flow ++ pdu ∷ [];
  passed = upto (sent part) (λ number. length part.given + 1) part.passed;
  expecting = below (sent part) part.reached part.expecting;
  given = part.given ++ item ∷ [];
  waiting = part.waiting ++ held (sent part) item ∷ [];
}

module _ (own other : EndFlow) (item : List ℕ) (pdu : Pdu) (way : Way own other) (next : IsNext own other.first (sent own) pdu) (some : 1 ≤ own.reached)
    (fits : sent own + 1 < 2 ^ 31) (few : length own.waiting < 20) (carried : pdu.body ≡ Data (item ∷ [])) where
  sent_gives : sent (gives item pdu own) ≡ sent own + 1
  sent_gives = length-append own.flow (pdu ∷ [])

  given_gives : length (own.given ++ item ∷ []) ≡ length own.given + 1
  given_gives = length-append own.given (item ∷ [])

  gives_extends : Extends own (gives item pdu own) (pdu ∷ [])
  gives_extends = record {
    first = refl;
    flow = refl;
    passed = λ number le. upto_old (sent own) number (λ number. length own.given + 1) own.passed le;
    expecting = λ number lt. below_old (sent own) number own.reached own.expecting lt;
    given = λ number le. take-append-le number own.given (item ∷ []) le;
    reached = omega arith;
  }

  passed_here : (gives item pdu own).passed (sent own) ≡ length own.given
  passed_here = upto_old (sent own) (sent own) (λ number. length own.given + 1) own.passed (omega arith) ∙ way.counts.all

  passed_after : (number : ℕ) → sent own < number → (gives item pdu own).passed number ≡ length own.given + 1
  passed_after number lt = upto_new (sent own) number (λ number. length own.given + 1) own.passed lt

  passed_below : (number : ℕ) → (number ≤ sent own) ⊎ (sent own < number) → (gives item pdu own).passed number ≤ length (own.given ++ item ∷ [])
  passed_below number (inl le) = omega (arith, gives_extends.passed number le, way.counts.passed number le, given_gives)
  passed_below number (inr lt) = omega (arith, passed_after number lt, given_gives)

  le_or_lt : (a b : ℕ) → (a ≤ b) ⊎ (b < a)
  le_or_lt a b = grind arith

  brings_item : Brings (gives item pdu own) (sent own) (item ∷ [])
  brings_item =
      let after = passed_after (sent own + 1) (omega arith)
      in (
        omega (arith, after, passed_here),
        ap (λ number. take number (own.given ++ item ∷ [])) after
            ∙ take_all (length own.given + 1) (own.given ++ item ∷ []) (omega (arith, given_gives))
            ∙ ap (λ front. front ++ item ∷ []) (sym (ap (λ number. take number (own.given ++ item ∷ [])) passed_here
            ∙ take-append-le (length own.given) own.given (item ∷ []) (omega arith)
            ∙ take_all (length own.given) own.given (omega arith))),
      )

  gives_counts : Counts (gives item pdu own) other.reached
  gives_counts = record {
    fits = omega (arith, sent_gives);
    some = way.counts.some;
    most = omega (arith, sent_gives, way.counts.most);
    all = passed_after (sent (gives item pdu own)) (omega (arith, sent_gives)) ∙ sym given_gives;
    passed = λ number le. passed_below number (le_or_lt number (sent own));
  }

  gives_is_sent : (place : ℕ) (that : Pdu) → IsAt place that (pdu ∷ []) → IsSent (gives item pdu own) other.first (sent own + place) that
  gives_is_sent place that at =
      let here : sent own ≡ sent own + place = omega (arith, (only_one place that pdu at).0)
      in subst (λ number. IsSent (gives item pdu own) other.first number that) here (subst (IsSent (gives item pdu own) other.first (sent own)) (only_one place that pdu at).1 is)
    where
      expecting_here : (gives item pdu own).expecting (sent own) ≡ own.reached
      expecting_here = below_new (sent own) (sent own) own.reached own.expecting (omega arith)

      is : IsSent (gives item pdu own) other.first (sent own) pdu
      is = record {
        number = next.number;
        some_expected = omega (arith, expecting_here);
        expected = omega (arith, expecting_here);
        confirms = subst (λ expected. (pdu.confirmed_sequence_number ≡ wire other.first (expected - 1)) ⊎ IsUnanswered (own.flow ++ pdu ∷ []) (sent own) pdu.body) (sym expecting_here) next.confirms;
        follows = next.follows;
        carries = subst (Carries (gives item pdu own) (sent own)) (sym carried) brings_item;
      }

  gives_waits : Waits (gives item pdu own)
  gives_waits = record {
    few = omega (arith, length-append own.waiting (held (sent own) item ∷ []));
    rises = subst (λ high. Rises 0 high (own.waiting ++ held (sent own) item ∷ [])) (sym sent_gives)
        (rises_one_more 0 (sent own) own.waiting (held (sent own) item) way.waits.rises (omega arith) refl);
    last = (
      way.waits.last.0,
      ap (λ front. front ++ item ∷ []) way.waits.last.1
          ∙ append_assoc way.waits.last.0 (items_of own.waiting) (item ∷ [])
          ∙ ap (λ back. way.waits.last.0 ++ back) (sym (items_one_more own.waiting (held (sent own) item))),
    );
  }

  -- an item more waits from here on
  gives_later : (number : ℕ) → number ≤ sent own → later number (gives item pdu own).waiting ≡ later number own.waiting + 1
  gives_later number le = later_one_more number own.waiting (held (sent own) item) le

  none_later : (number : ℕ) → sent own < number → later number (gives item pdu own).waiting ≡ 0
  none_later number lt =
      later_none 0 (sent own + 1) number (own.waiting ++ held (sent own) item ∷ [])
      (rises_one_more 0 (sent own) own.waiting (held (sent own) item) way.waits.rises (omega arith) refl) (omega arith)

  pub giver_gave : Way (gives item pdu own) other
  giver_gave =
      grown own (gives item pdu own) other (pdu ∷ []) way gives_extends gives_counts gives_waits
      gives_is_sent
      (λ place that at body. no_response (sym carried ∙ ap (λ (p : Pdu). p.body) (only_one place that pdu at).1 ∙ body))
      (λ number from most level. omega (arith, gives_extends.passed number most, gives_later number most, level, given_gives))
      (λ number lt most. omega (arith, passed_after number lt, none_later number lt, given_gives))
    where
      no_response : Data (item ∷ []) ≡ RetransmissionResponse → ⊥
      no_response e = cc
