-- What a list of calls at one clock does at an end.
use Rattle.std.proofs.Common.{◌≡◌, ℕ, Bool, false, if◌then◌else◌, List, [], ◌∷◌, ◌++◌, Option, Some, None, append_assoc, append-nil, refl, sym, ap, subst, ◌∙◌}
use Rattle.rasta_core_spec.specs.State.{LinkState}
use Rattle.rasta_core_spec.specs.identity.Role.{Role}
use Rattle.rasta_core_spec.specs.identity.Role.TheVariants as role
use Rattle.rasta_core_spec.specs.Ends.{EndState, Call, Ticks, Opens, Closes, Sends, Receives, end_after, kept, newer, outcome, reading_of}
use Rattle.rasta_core_spec.specs.Events.{run}
use Rattle.rasta_core_spec.specs.Names.{partner_of}
use Rattle.rasta_core_spec.specs.Run.{Ends, called, end_of}
use Rattle.rasta_core_spec.specs.Steps.{EnterNone, IsAfter, Made, StaysIn, all_made, calls_at, enters_by, made_by}

-- ---- one call

made_link : (call : Call) (moment : ℕ) (end : EndState) → (outcome call moment end).link ≡ (made_by (reading_of end.clock) call end.link).link
unfolding outcome made_by
made_link Ticks moment end = refl
made_link Opens moment end = refl
made_link (Closes why) moment end = refl
made_link (Sends item) moment end = refl
made_link (Receives bytes connection) moment end = refl

made_given : (call : Call) (moment : ℕ) (end : EndState) → (outcome call moment end).given ≡ (made_by (reading_of end.clock) call end.link).given
unfolding outcome made_by
made_given Ticks moment end = refl
made_given Opens moment end = refl
made_given (Closes why) moment end = refl
made_given (Sends item) moment end = refl
made_given (Receives bytes connection) moment end = refl

made_taken : (call : Call) (moment : ℕ) (end : EndState) → (outcome call moment end).taken ≡ (made_by (reading_of end.clock) call end.link).taken
unfolding outcome made_by
made_taken Ticks moment end = refl
made_taken Opens moment end = refl
made_taken (Closes why) moment end = refl
made_taken (Sends item) moment end = refl
made_taken (Receives bytes connection) moment end = refl

enters_none : (call : Call) (moment : ℕ) (end : EndState) → enters_by (reading_of end.clock) call end.link ≡ false → (outcome call moment end).enters ≡ None
unfolding outcome enters_by
enters_none Ticks moment end none = refl
enters_none Opens moment end none = ap (λ (b : Bool). if b then Some moment else None) none
enters_none (Closes why) moment end none = refl
enters_none (Sends item) moment end none = refl
enters_none (Receives bytes connection) moment end none = ap (λ (b : Bool). if b then Some connection else None) none

pub after_one : (call : Call) (moment : ℕ) (end : EndState) → IsAfter (call ∷ []) end (end_after (outcome call moment end) moment end)
unfolding end_after all_made
after_one call moment end = record { link = made_link call moment end; clock = refl }

pub stays_one : (call : Call) (moment : ℕ) (end : EndState) → enters_by (reading_of end.clock) call end.link ≡ false → StaysIn (call ∷ []) end (end_after (outcome call moment end) moment end)
unfolding end_after all_made
stays_one call moment end none =
    let enters = enters_none call moment end none
    in record {
      connection = ap (λ (entered : Option ℕ). newer entered end.connection) enters;
      given = ap (λ (entered : Option ℕ). kept entered end.given ++ (outcome call moment end).given) enters
          ∙ ap (λ (more : List (List ℕ)). end.given ++ more) (made_given call moment end ∙ sym (append-nil (made_by (reading_of end.clock) call end.link).given));
      taken = ap (λ (entered : Option ℕ). kept entered end.taken ++ (outcome call moment end).taken) enters
          ∙ ap (λ (more : List (List ℕ)). end.taken ++ more) (made_taken call moment end ∙ sym (append-nil (made_by (reading_of end.clock) call end.link).taken));
    }

-- ---- one after another

pub after_none : (end : EndState) → IsAfter [] end end
unfolding all_made
after_none end = record { link = refl; clock = refl }

pub after_then : (call : Call) (others : List Call) (old mid new : EndState) → IsAfter (call ∷ []) old mid → IsAfter others mid new → IsAfter (call ∷ others) old new
unfolding all_made
after_then call others old mid new first rest = record {
  link = rest.link
      ∙ ap (λ (clock : ℕ). (all_made (reading_of clock) others mid.link).link) first.clock
      ∙ ap (λ (link : LinkState). (all_made (reading_of old.clock) others link).link) first.link;
  clock = rest.clock ∙ first.clock;
}

-- what is left of the calls after the first enters no connection
pub none_then : (call : Call) (others : List Call) (old mid : EndState) → IsAfter (call ∷ []) old mid → EnterNone (reading_of old.clock) (call ∷ others) old.link
    → EnterNone (reading_of old.clock) (call ∷ []) old.link × EnterNone (reading_of mid.clock) others mid.link
unfolding all_made EnterNone
none_then call others old mid first none = (
  (none.0, tt),
  subst (λ (clock : ℕ). EnterNone (reading_of clock) others mid.link) (sym first.clock) (subst (λ (link : LinkState). EnterNone (reading_of old.clock) others link) (sym first.link) none.1),
)

pub stays_none : (end : EndState) → StaysIn [] end end
unfolding all_made
stays_none end = record { connection = refl; given = sym (append-nil end.given); taken = sym (append-nil end.taken) }

pub stays_then : (call : Call) (others : List Call) (old mid new : EndState) → IsAfter (call ∷ []) old mid → StaysIn (call ∷ []) old mid → StaysIn others mid new → StaysIn (call ∷ others) old new
unfolding all_made
stays_then call others old mid new after first rest = record {
  connection = rest.connection ∙ first.connection;
  given = joined (λ (made : Made). made.given) old.given mid.given new.given (made_by now call old.link).given rest.given first.given;
  taken = joined (λ (made : Made). made.taken) old.taken mid.taken new.taken (made_by now call old.link).taken rest.taken first.taken;
}
  where
    now : ℕ
    now = reading_of old.clock

    joined : (items : Made → List (List ℕ)) (before between behind one : List (List ℕ)) → behind ≡ between ++ items (all_made (reading_of mid.clock) others mid.link) → between ≡ before ++ (one ++ [])
        → behind ≡ before ++ (one ++ items (all_made now others (made_by now call old.link).link))
    joined items before between behind one grown begun =
        grown
        ∙ ap (λ (clock : ℕ). between ++ items (all_made (reading_of clock) others mid.link)) after.clock
        ∙ ap (λ (link : LinkState). between ++ items (all_made now others link)) after.link
        ∙ ap (λ (front : List (List ℕ)). front ++ items (all_made now others (made_by now call old.link).link)) (begun ∙ ap (λ (more : List (List ℕ)). before ++ more) (append-nil one))
        ∙ append_assoc before one (items (all_made now others (made_by now call old.link).link))

-- ---- two ends

called_end : (who : Role) (call : Call) (ends : Ends) → end_of who (called who call ends) ≡ end_after (outcome call ends.moment (end_of who ends)) ends.moment (end_of who ends)
unfolding called
called_end role.Client call ends = refl
called_end role.Server call ends = refl

called_partner : (who : Role) (call : Call) (ends : Ends) → end_of (partner_of who) (called who call ends) ≡ end_of (partner_of who) ends
unfolding called
called_partner role.Client call ends = refl
called_partner role.Server call ends = refl

called_time : (who : Role) (call : Call) (ends : Ends) → (called who call ends).time ≡ ends.time
unfolding called
called_time role.Client call ends = refl
called_time role.Server call ends = refl

pub one_after : (who : Role) (call : Call) (ends : Ends) → IsAfter (call ∷ []) (end_of who ends) (end_of who (called who call ends))
one_after who call ends = subst (λ (end : EndState). IsAfter (call ∷ []) (end_of who ends) end) (sym (called_end who call ends)) (after_one call ends.moment (end_of who ends))

pub one_stays : (who : Role) (call : Call) (ends : Ends) → EnterNone (reading_of (end_of who ends).clock) (call ∷ []) (end_of who ends).link → StaysIn (call ∷ []) (end_of who ends) (end_of who (called who call ends))
unfolding EnterNone
one_stays who call ends none = subst (λ (end : EndState). StaysIn (call ∷ []) (end_of who ends) end) (sym (called_end who call ends)) (stays_one call ends.moment (end_of who ends) none.0)

pub steps_after : (who : Role) (calls : List Call) (ends : Ends) → IsAfter calls (end_of who ends) (end_of who (run (calls_at who calls) ends))
steps_after who [] ends = after_none (end_of who ends)
steps_after who (first ∷ others) ends =
    after_then first others (end_of who ends) (end_of who (called who first ends)) _ (one_after who first ends) (steps_after who others (called who first ends))

pub steps_stay : (who : Role) (calls : List Call) (ends : Ends) → EnterNone (reading_of (end_of who ends).clock) calls (end_of who ends).link → StaysIn calls (end_of who ends) (end_of who (run (calls_at who calls) ends))
steps_stay who [] ends none = stays_none (end_of who ends)
steps_stay who (first ∷ others) ends none =
    let after = one_after who first ends
    in let split = none_then first others (end_of who ends) (end_of who (called who first ends)) after none
    in stays_then first others (end_of who ends) (end_of who (called who first ends)) _ after (one_stays who first ends split.0) (steps_stay who others (called who first ends) split.1)

pub steps_partner : (who : Role) (calls : List Call) (ends : Ends) → end_of (partner_of who) (run (calls_at who calls) ends) ≡ end_of (partner_of who) ends
steps_partner who [] ends = refl
steps_partner who (first ∷ others) ends = steps_partner who others (called who first ends) ∙ called_partner who first ends

pub steps_time : (who : Role) (calls : List Call) (ends : Ends) → (run (calls_at who calls) ends).time ≡ ends.time
steps_time who [] ends = refl
steps_time who (first ∷ others) ends = steps_time who others (called who first ends) ∙ called_time who first ends
