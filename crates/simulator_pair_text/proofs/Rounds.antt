-- What the code of a flow does, one part after the other, is the definition's.
use Rattle.std.proofs.Common.{◌≡◌, ◌<◌, ◌-◌, ◌+◌, ℕ, suc, length, refl, ap, sym, ◌∙◌, subst, arith}
use Rattle.std.specs.Prelude.{slice_get}
use Rattle.rasta_core.specs.identity.Role.TheVariants as role
use Rattle.simulator_pair.specs.Pair.{PairState}
use Rattle.simulator_pair.specs.declared.event.PairEvent.TheVariants as event
use Rattle.simulator_pair_text.specs.declared.answer.Answer.TheVariants.{Done, No}
use Rattle.simulator_pair_text.specs.Flow.{Flowing, Flows, goes, ends, tried, arriving, arriving_from, round, rounds}

one_less : (index end : ℕ) → index < end → end - index ≡ suc (end - (index + 1))
one_less index end h = omega arith

one_more : (n : ℕ) → suc n ≡ n + 1
one_more n = omega arith

-- one datagram, and then those after it
pub arriving-next : (index end : ℕ) (pair : PairState) → index < end
    → arriving_from index (end - index) pair ≡ arriving_from (index + 1) (end - (index + 1)) (arriving (slice_get pair.ends.sent index) pair)
unfolding arriving_from
arriving-next index end pair h =
    ap (λ (count : ℕ). arriving_from index count pair) (one_less index end h)
    ∙ ap (λ (place : ℕ). arriving_from place (end - (index + 1)) (arriving (slice_get pair.ends.sent index) pair)) (one_more index)

pub rounds-next : (count : ℕ) (flowing : Flowing) → round (rounds count flowing) ≡ rounds (count + 1) flowing
unfolding rounds
rounds-next count flowing = ap (λ (n : ℕ). rounds n flowing) (one_more count)

-- the parts of a round
pub record AreParts (flowing : Flowing) (before : ℕ) (start passed arrived opened ticked : PairState) : Type 0 where
  pub before_is : before ≡ length flowing.pair.ends.sent
  pub start_is : start ≡ flowing.pair
  pub passed_is : passed ≡ tried (event.Time 10000 10000 10000) start
  pub arrived_is : arrived ≡ arriving_from flowing.passed (before - flowing.passed) passed
  pub opened_is : opened ≡ tried (event.Tick role.Client) arrived
  pub ticked_is : ticked ≡ tried (event.Tick role.Server) opened

pub made-round : (flowing : Flowing) (before : ℕ) (start passed arrived opened ticked : PairState) → AreParts flowing before start passed arrived opened ticked
    → record { pair = ticked; passed = before } ≡ round flowing
unfolding round
made-round flowing before start passed arrived opened ticked parts =
    ap (λ (p : PairState). record { pair = p; passed = before }) chain
    ∙ ap (λ (n : ℕ). record { pair = tried (event.Tick role.Server) (tried (event.Tick role.Client) (arriving_from flowing.passed (n - flowing.passed) (tried (event.Time 10000 10000 10000) flowing.pair))); passed = n }) parts.before_is
  where
    chain : ticked ≡ tried (event.Tick role.Server) (tried (event.Tick role.Client) (arriving_from flowing.passed (before - flowing.passed) (tried (event.Time 10000 10000 10000) flowing.pair)))
    chain =
        parts.ticked_is
        ∙ ap (tried (event.Tick role.Server)) (parts.opened_is
        ∙ ap (tried (event.Tick role.Client)) (parts.arrived_is
        ∙ ap (arriving_from flowing.passed (before - flowing.passed)) (parts.passed_is
        ∙ ap (tried (event.Time 10000 10000 10000)) parts.start_is)))

pub rounds-none : (flowing : Flowing) → flowing ≡ rounds 0 flowing
unfolding rounds
rounds-none flowing = refl

-- a flow goes to its end, or ends before a round
pub flow-goes : (count done : ℕ) (old new : Flowing) → new ≡ rounds done old → done ≡ count → Flows count old Done new
flow-goes count done old new e whole = subst (Flows count old Done) (sym (e ∙ ap (λ (n : ℕ). rounds n old) whole)) goes

pub flow-ends : (count done number : ℕ) (old now new : Flowing) → now ≡ rounds done old → done < count → new ≡ now → number ≡ 6
    → Flows count old (No number) new
flow-ends count done number old now new e less stays six =
    subst (λ (n : ℕ). Flows count old (No n) new) (sym six) (subst (Flows count old (No 6)) (sym (stays ∙ e)) (ends done less))
