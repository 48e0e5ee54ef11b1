-- The version check.
use Rattle.std.proofs.Common.{◌≡◌, ℕ, Bool, true, false, refl, sym, ap, ◌∙◌, ◌⊎◌, inl, inr, eq-eqb}
use Rattle.std.specs.Prelude.{◌≢◌, ◌&&◌, ◌==◌, if◌then◌else◌}
use Rattle.std.proofs.lemmas.Bool.{and_parts, eqb-true}
use Rattle.line_laws.specs.declared.words.Side.{Side}
use Rattle.line_laws.specs.declared.words.Side.TheVariants.{First, Second}
use Rattle.line_laws.specs.declared.words.Item.{Item}
use Rattle.sci_telegram.specs.declared.message.Agreement.{Agreement}
use Rattle.sci_telegram.specs.declared.message.Agreement.TheVariants.{NoMatch, Match}
use Rattle.line_telegram.specs.declared.message.LineMessage.{LineMessage}
use Rattle.line_telegram.specs.declared.message.LineMessage.TheVariants.{VersionCheck, VersionAnswer, Line}
use Rattle.line_telegram.specs.declared.greeting.Stage.{Stage}
use Rattle.line_telegram.specs.declared.greeting.Stage.TheVariants.{Outside, AwaitsCheck, AwaitsAnswer, Agreed, Differs}
use Rattle.line_telegram.specs.declared.greeting.Heard.TheVariants.{Taken, Answered, Matched, Differed}
use Rattle.line_telegram.specs.Greetings.{GreetingState, Hearing, greeted, greeted_at, come_up, checked, is_match, told, hearing_at, hearing, TellsVersion}

by_test : {A : Type 0} (Fact : A → Type 0) (test : Bool) (new old : A) → (test ≡ true → Fact new) → (test ≡ false → Fact old) → Fact (if test then new else old)
by_test Fact true new old holds fails = holds refl
by_test Fact false new old holds fails = fails refl

-- ---- items

checked_item : (version : ℕ) (state : GreetingState) (item : Item) → (checked version state).heard ≡ Taken item → ⊥
checked_item version state item =
    by_test (λ (new : Hearing). new.heard ≡ Taken item → ⊥) (version == state.version)
    (record { state = record state { stage = Agreed }; heard = Answered (VersionAnswer Match state.version) })
    (record { state = record state { stage = Differs }; heard = Answered (VersionAnswer NoMatch state.version) }) (λ same is. cc (is)) (λ same is. cc (is))

told_item : (agreement : Agreement) (version : ℕ) (state : GreetingState) (item : Item) → (told agreement version state).heard ≡ Taken item → ⊥
told_item agreement version state item =
    by_test (λ (new : Hearing). new.heard ≡ Taken item → ⊥) (is_match agreement && version == state.version) (record { state = record state { stage = Agreed }; heard = Matched })
    (record { state = record state { stage = Differs }; heard = Differed }) (λ same is. cc (is)) (λ same is. cc (is))

taken_at : (stage : Stage) (message : LineMessage) (state : GreetingState) (item : Item) → (hearing_at stage message state).heard ≡ Taken item
    → (stage ≡ Agreed) × (message ≡ Line item)
taken_at Outside message state item is = absurd (cc (is))
taken_at AwaitsCheck (VersionCheck version) state item is = absurd (checked_item version state item is)
taken_at AwaitsCheck (VersionAnswer agreement version) state item is = absurd (cc (is))
taken_at AwaitsCheck (Line other) state item is = absurd (cc (is))
taken_at AwaitsAnswer (VersionCheck version) state item is = absurd (cc (is))
taken_at AwaitsAnswer (VersionAnswer agreement version) state item is = absurd (told_item agreement version state item is)
taken_at AwaitsAnswer (Line other) state item is = absurd (cc (is))
taken_at Agreed (VersionCheck version) state item is = absurd (cc (is))
taken_at Agreed (VersionAnswer agreement version) state item is = absurd (cc (is))
taken_at Agreed (Line other) state item is = let same : other ≡ item = cc (is) in (refl, ap Line same)
taken_at Differs message state item is = absurd (cc (is))

pub item_taken : (message : LineMessage) (state : GreetingState) (item : Item) → (hearing message state).heard ≡ Taken item → (state.stage ≡ Agreed) × (message ≡ Line item)
item_taken message state item is = taken_at state.stage message state item is

-- ---- agreement

checked_agreed : (version : ℕ) (state : GreetingState) → (checked version state).state.stage ≡ Agreed → version ≡ state.version
checked_agreed version state =
    by_test (λ (new : Hearing). new.state.stage ≡ Agreed → version ≡ state.version) (version == state.version)
    (record { state = record state { stage = Agreed }; heard = Answered (VersionAnswer Match state.version) })
    (record { state = record state { stage = Differs }; heard = Answered (VersionAnswer NoMatch state.version) }) (λ same is. eqb-true version state.version same)
    (λ same is. absurd (cc (is)))

match_is : (agreement : Agreement) → is_match agreement ≡ true → agreement ≡ Match
match_is NoMatch is = cc
match_is Match is = refl

told_agreed : (agreement : Agreement) (version : ℕ) (state : GreetingState) → (told agreement version state).state.stage ≡ Agreed
    → VersionAnswer agreement version ≡ VersionAnswer Match state.version
told_agreed agreement version state =
    by_test (λ (new : Hearing). new.state.stage ≡ Agreed → VersionAnswer agreement version ≡ VersionAnswer Match state.version) (is_match agreement && version == state.version)
    (record { state = record state { stage = Agreed }; heard = Matched }) (record { state = record state { stage = Differs }; heard = Differed })
    (λ same is.
    let parts = and_parts (is_match agreement) (version == state.version) same
    in ap (λ (agreement : Agreement). VersionAnswer agreement version) (match_is agreement parts.0)
    ∙ ap (λ (version : ℕ). VersionAnswer Match version) (eqb-true version state.version parts.1))
    (λ same is. absurd (cc (is)))

agreed_at : (stage : Stage) (message : LineMessage) (state : GreetingState) → state.stage ≡ stage → (hearing_at stage message state).state.stage ≡ Agreed
    → (stage ≡ Agreed) ⊎ TellsVersion state.version message
agreed_at Outside message state at is = absurd (cc (at, is))
agreed_at AwaitsCheck (VersionCheck version) state at is = inr (inl (ap VersionCheck (checked_agreed version state is)))
agreed_at AwaitsCheck (VersionAnswer agreement version) state at is = absurd (cc (at, is))
agreed_at AwaitsCheck (Line item) state at is = absurd (cc (at, is))
agreed_at AwaitsAnswer (VersionCheck version) state at is = absurd (cc (at, is))
agreed_at AwaitsAnswer (VersionAnswer agreement version) state at is = inr (inr (told_agreed agreement version state is))
agreed_at AwaitsAnswer (Line item) state at is = absurd (cc (at, is))
agreed_at Agreed message state at is = inl refl
agreed_at Differs message state at is = absurd (cc (at, is))

pub version_agreed : (message : LineMessage) (state : GreetingState) → (hearing message state).state.stage ≡ Agreed → (state.stage ≡ Agreed) ⊎ TellsVersion state.version message
version_agreed message state is = agreed_at state.stage message state refl is

come_up_disagreed : (side : Side) (state : GreetingState) → (come_up side state).state.stage ≡ Agreed → ⊥
come_up_disagreed First state is = cc (is)
come_up_disagreed Second state is = cc (is)

greeted_agreed : (stage : Stage) (state : GreetingState) → state.stage ≡ stage → (greeted_at stage state).state.stage ≡ Agreed → state.stage ≡ Agreed
greeted_agreed Outside state at is = absurd (come_up_disagreed state.side state is)
greeted_agreed AwaitsCheck state at is = is
greeted_agreed AwaitsAnswer state at is = is
greeted_agreed Agreed state at is = is
greeted_agreed Differs state at is = is

pub begun_agreed : (up : Bool) (state : GreetingState) → (greeted up state).state.stage ≡ Agreed → state.stage ≡ Agreed
begun_agreed true state is = greeted_agreed state.stage state refl is
begun_agreed false state is = absurd (cc (is))

-- ---- one version, and two

pub same_version : (version : ℕ) → (version == version) ≡ true
same_version version = eq-eqb version version refl

pub other_version : (own other : ℕ) → own ≢ other → (other == own) ≡ false
other_version own other differs = by_equal (other == own) refl
  where
    by_equal : (equal : Bool) → (other == own) ≡ equal → (other == own) ≡ false
    by_equal true is = absurd (differs (sym (eqb-true other own is)))
    by_equal false is = is
