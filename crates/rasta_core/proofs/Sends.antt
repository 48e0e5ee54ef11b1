-- A connection stays in order where an end sends one PDU: one that carries nothing, or a new item.
use Rattle.std.proofs.Common.{◌≡◌, ℕ, ◌+◌, ◌-◌, ◌^◌, ◌<◌, ◌≤◌, [], ◌∷◌, ◌++◌, length, take, ◌⊎◌, inl, inr, refl, sym, ap, subst, ◌∙◌, arith}
use Rattle.std.specs.Prelude.{nat_le, if◌then◌else◌}
use Rattle.std.proofs.lemmas.List.{length-append, append-nil}
use Rattle.std.proofs.lemmas.Bool.{leb-true, leb-false}
use Rattle.rasta_core_spec.specs.Sequence.{wire}
use Rattle.rasta_core_spec.specs.pdu.Pdu.{Pdu}
use Rattle.rasta_core_spec.specs.body.Body.TheVariants.{RetransmissionResponse}
use Rattle.rasta_core.specs.EndFlow.{IsAt, EndFlow, sent, later}
use Rattle.rasta_core.specs.Order.{Brings, Carries, OpensOn, IsUnanswered, IsSent, Counts, Way}
use Rattle.rasta_core.proofs.OrderTests.{by_test}
use Rattle.rasta_core.proofs.Places.{only_one}
use Rattle.rasta_core.proofs.Tags.{later_none, rises_higher}
use Rattle.rasta_core.proofs.GiverGrowth.{Extends, grown}

-- a function of places, as it was up to the last, and another from there on
pub upto : ℕ → (ℕ → ℕ) → (ℕ → ℕ) → ℕ → ℕ
upto last new old number = if nat_le number last then old number else new number

pub upto_old : (last number : ℕ) (new old : ℕ → ℕ) → number ≤ last → upto last new old number ≡ old number
unfolding upto
upto_old last number new old le =
    by_test (λ value. value ≡ old number) (nat_le number last) (old number) (new number) (λ e. refl) (λ e. absurd (omega (arith, le, leb-false number last e)))

pub upto_new : (last number : ℕ) (new old : ℕ → ℕ) → last < number → upto last new old number ≡ new number
unfolding upto
upto_new last number new old lt =
    by_test (λ value. value ≡ new number) (nat_le number last) (old number) (new number) (λ e. absurd (omega (arith, lt, leb-true number last e))) (λ e. refl)

-- likewise, as it was below a place
pub below : ℕ → ℕ → (ℕ → ℕ) → ℕ → ℕ
below first new old number = if nat_le first number then new else old number

pub below_old : (first number new : ℕ) (old : ℕ → ℕ) → number < first → below first new old number ≡ old number
unfolding below
below_old first number new old lt =
    by_test (λ value. value ≡ old number) (nat_le first number) new (old number) (λ e. absurd (omega (arith, lt, leb-true first number e))) (λ e. refl)

pub below_new : (first number new : ℕ) (old : ℕ → ℕ) → first ≤ number → below first new old number ≡ new
unfolding below
below_new first number new old le =
    by_test (λ value. value ≡ new) (nat_le first number) new (old number) (λ e. refl) (λ e. absurd (omega (arith, le, leb-false first number e)))

-- A PDU is the next one of an end: it has the next number, and confirms what the end has taken.
pub record IsNext (own : EndFlow) (other_first : ℕ) (place : ℕ) (pdu : Pdu) : Type 0 where
  pub number : pdu.sequence_number ≡ wire own.first place
  pub confirms : (pdu.confirmed_sequence_number ≡ wire other_first (own.reached - 1)) ⊎ IsUnanswered (own.flow ++ pdu ∷ []) place pdu.body
  pub follows : 2 ≤ place → OpensOn (own.flow ++ pdu ∷ [])

-- ---- a PDU that brings nothing

abbrev pub sends : Pdu → EndFlow → EndFlow
sends pdu part = record part {
  flow = part.flow ++ pdu ∷ [];
  passed = upto (sent part) (λ number. length part.given) part.passed;
  expecting = below (sent part) part.reached part.expecting;
}

module _ (own other : EndFlow) (pdu : Pdu) (way : Way own other) (next : IsNext own other.first (sent own) pdu) (some : 1 ≤ own.reached) (fits : sent own + 1 < 2 ^ 31) where
  sent_sends : sent (sends pdu own) ≡ sent own + 1
  sent_sends = length-append own.flow (pdu ∷ [])

  sends_extends : Extends own (sends pdu own) (pdu ∷ [])
  sends_extends = record {
    first = refl;
    flow = refl;
    passed = λ number le. upto_old (sent own) number (λ number. length own.given) own.passed le;
    expecting = λ number lt. below_old (sent own) number own.reached own.expecting lt;
    given = λ number le. refl;
    reached = omega arith;
  }

  passed_here : (sends pdu own).passed (sent own) ≡ length own.given
  passed_here = upto_old (sent own) (sent own) (λ number. length own.given) own.passed (omega arith) ∙ way.counts.all

  passed_after : (number : ℕ) → sent own < number → (sends pdu own).passed number ≡ length own.given
  passed_after number lt = upto_new (sent own) number (λ number. length own.given) own.passed lt

  passed_below : (number : ℕ) → (number ≤ sent own) ⊎ (sent own < number) → (sends pdu own).passed number ≤ length own.given
  passed_below number (inl le) = omega (arith, sends_extends.passed number le, way.counts.passed number le)
  passed_below number (inr lt) = omega (arith, passed_after number lt)

  le_or_lt : (a b : ℕ) → (a ≤ b) ⊎ (b < a)
  le_or_lt a b = grind arith

  pub brings_nothing : Brings (sends pdu own) (sent own) []
  brings_nothing =
      let after = passed_after (sent own + 1) (omega arith)
      in (omega (arith, after, passed_here), ap (λ number. take number own.given) (after ∙ sym passed_here) ∙ sym (append-nil (take ((sends pdu own).passed (sent own)) own.given)))

  pub sends_counts : Counts (sends pdu own) other.reached
  sends_counts = record {
    fits = omega (arith, sent_sends);
    some = way.counts.some;
    most = omega (arith, sent_sends, way.counts.most);
    all = passed_after (sent (sends pdu own)) (omega (arith, sent_sends));
    passed = λ number le. passed_below number (le_or_lt number (sent own));
  }

  sends_is_sent : Carries (sends pdu own) (sent own) pdu.body → (place : ℕ) (that : Pdu) → IsAt place that (pdu ∷ []) → IsSent (sends pdu own) other.first (sent own + place) that
  sends_is_sent carries place that at =
      let here : sent own ≡ sent own + place = omega (arith, (only_one place that pdu at).0)
      in subst (λ number. IsSent (sends pdu own) other.first number that) here (subst (IsSent (sends pdu own) other.first (sent own)) (only_one place that pdu at).1 is)
    where
      expecting_here : (sends pdu own).expecting (sent own) ≡ own.reached
      expecting_here = below_new (sent own) (sent own) own.reached own.expecting (omega arith)

      is : IsSent (sends pdu own) other.first (sent own) pdu
      is = record {
        number = next.number;
        some_expected = omega (arith, expecting_here);
        expected = omega (arith, expecting_here);
        confirms = subst (λ expected. (pdu.confirmed_sequence_number ≡ wire other.first (expected - 1)) ⊎ IsUnanswered (own.flow ++ pdu ∷ []) (sent own) pdu.body) (sym expecting_here) next.confirms;
        follows = next.follows;
        carries = carries;
      }

  pub giver_sent : Carries (sends pdu own) (sent own) pdu.body → (pdu.body ≡ RetransmissionResponse → ⊥) → Way (sends pdu own) other
  giver_sent carries no_response =
      grown own (sends pdu own) other (pdu ∷ []) way sends_extends sends_counts
      (record { few = way.waits.few; rises = rises_higher 0 (sent own) (sent (sends pdu own)) own.waiting way.waits.rises (omega (arith, sent_sends)); last = way.waits.last })
      (sends_is_sent carries)
      (λ place that at body. no_response (ap (λ (p : Pdu). p.body) (only_one place that pdu at).1 ∙ body))
      (λ number from most level. ap (λ passed. passed + later number own.waiting) (sends_extends.passed number most) ∙ level)
      (λ number lt most. omega (arith, passed_after number lt, later_none 0 (sent own) number own.waiting way.waits.rises (omega arith)))
