-- What a step tells its object and sends of what it owes, call by call.
use Rattle.std.proofs.Common.{◌≡◌, ℕ, suc, zero, Bool, true, false, not, ◌&&◌, ◌==◌, if◌then◌else◌, List, [], ◌∷◌, ◌++◌, map, append_assoc, refl, ap, sym, ◌∙◌, subst}
use Rattle.std.specs.Prelude.{Option, Some, None, Result, Ok, Err, is_ok}
use Rattle.std.proofs.lemmas.Bool.{true≢false, false≢true}
use Rattle.std.proofs.lemmas.List.{append-nil}
use Rattle.sci_telegram.specs.TelegramRead.{reading}
use Rattle.sci_telegram.specs.declared.fault.SciFault.{SciFault}
use Rattle.sci_telegram.specs.declared.telegram.Telegram.{Telegram}
use Rattle.rasta_core.specs.State.{LinkState, is_open}
use Rattle.rasta_core.specs.Clock.{alive_until, settled}
use Rattle.rasta_core.specs.Calls.{answer_to_send, receiving}
use Rattle.object_host.specs.Behaviour.{Behaviour}
use Rattle.object_host.specs.Meaning.{meaning}
use Rattle.object_host.specs.Host.{HostState, HostSoFar, fallen, is_completed, is_outside, keeping, risen, silent, then_do}
use Rattle.object_host.specs.Hosted.{IsNamedAs}
use Rattle.object_host.specs.Made.{IsMadeOf, calls_made, items_given}
use Rattle.object_host.specs.Object.{ObjectCall, Takes, Ticks, Senses, Keeps, Pays, Loses, object_after, contacts_in, object_after_all, one_of, paid_in, reports_paid, telegrams_in}
use Rattle.object_host.specs.Step.{acting, acting_all, answering, beating, beginning, commanding, ending, following, given, goes_on, hearing, host_step, initialising, is_admitted, most_owed, paid, paying, paying_first, posting, posting_all, received, violating}
use Rattle.object_host.specs.Told.{AllFit, AreComing, ArePayments, IsToldIn, contacts_of, has_lost, item_of, loss_where}
use Rattle.object_host.specs.declared.meaning.Meaning.{Meaning}
use Rattle.object_host.specs.declared.meaning.Meaning.TheVariants as meanings
use Rattle.object_host.specs.declared.input.Input.{Input}
use Rattle.object_host.specs.declared.input.Input.TheVariants as inputs
use Rattle.object_host.specs.declared.report.Report.{Report}
use Rattle.object_host.specs.declared.stage.Stage.TheVariants as stage
use Rattle.object_host.specs.declared.sense.Sense.{Sense}
use Rattle.object_host.proofs.Says.{acting_all_says, following_says, given_joined, given_says, items_same, map_joined}
use Rattle.object_host.proofs.Between.{commands_late, is_command}
use Rattle.object_host.proofs.Acts.{beating_quiet, closed_silent, own_closed, paying_quiet}
use Rattle.object_host.proofs.Closed.{closing_closes}
use Rattle.object_host.proofs.Made.{IsPart, beating_part, begun_link, fallen_link, given_made, made_then, paying_first_part, paying_part}

-- lists of calls joined
coming_joined : (now : ℕ) (first others : List ObjectCall) → AreComing now first → AreComing now others → AreComing now (first ++ others)
coming_joined now [] others one more = more
coming_joined now (Takes at telegram ∷ calls) others one more = (one.0, coming_joined now calls others one.1 more)
coming_joined now (Senses at sense ∷ calls) others one more = (one.0, coming_joined now calls others one.1 more)
coming_joined now (Pays ∷ calls) others one more = absurd one
coming_joined now (Ticks at ∷ calls) others one more = absurd one
coming_joined now (Keeps moment ∷ calls) others one more = absurd one
coming_joined now (Loses ∷ calls) others one more = absurd one

payments_joined : (first others : List ObjectCall) → ArePayments first → ArePayments others → ArePayments (first ++ others)
payments_joined [] others one more = more
payments_joined (Pays ∷ calls) others one more = payments_joined calls others one more
payments_joined (Takes at telegram ∷ calls) others one more = absurd one
payments_joined (Senses at sense ∷ calls) others one more = absurd one
payments_joined (Ticks at ∷ calls) others one more = absurd one
payments_joined (Keeps moment ∷ calls) others one more = absurd one
payments_joined (Loses ∷ calls) others one more = absurd one

telegrams_joined : (first others : List ObjectCall) → telegrams_in (first ++ others) ≡ telegrams_in first ++ telegrams_in others
unfolding telegrams_in
telegrams_joined [] others = refl
telegrams_joined (Takes at telegram ∷ calls) others = ap (λ ts. telegram ∷ ts) (telegrams_joined calls others)
telegrams_joined (Ticks at ∷ calls) others = telegrams_joined calls others
telegrams_joined (Senses at sense ∷ calls) others = telegrams_joined calls others
telegrams_joined (Keeps moment ∷ calls) others = telegrams_joined calls others
telegrams_joined (Pays ∷ calls) others = telegrams_joined calls others
telegrams_joined (Loses ∷ calls) others = telegrams_joined calls others

contacts_joined : (first others : List ObjectCall) → contacts_in (first ++ others) ≡ contacts_in first ++ contacts_in others
unfolding contacts_in
contacts_joined [] others = refl
contacts_joined (Takes at telegram ∷ calls) others = contacts_joined calls others
contacts_joined (Ticks at ∷ calls) others = contacts_joined calls others
contacts_joined (Senses at sense ∷ calls) others = ap (λ senses. sense ∷ senses) (contacts_joined calls others)
contacts_joined (Keeps moment ∷ calls) others = contacts_joined calls others
contacts_joined (Pays ∷ calls) others = contacts_joined calls others
contacts_joined (Loses ∷ calls) others = contacts_joined calls others

module _ {Object : Type 0} (does : Behaviour Object) where
  after_joined : (first others : List ObjectCall) (object : Object) →
      object_after_all does (first ++ others) object ≡ object_after_all does others (object_after_all does first object)
  unfolding object_after_all
  after_joined [] others object = refl
  after_joined (call ∷ calls) others object = after_joined calls others (object_after does call object)

  paid_joined : (first others : List ObjectCall) (object : Object) →
      reports_paid does (first ++ others) object ≡ reports_paid does first object ++ reports_paid does others (object_after_all does first object)
  unfolding object_after_all reports_paid
  paid_joined [] others object = refl
  paid_joined (call ∷ calls) others object =
      ap (λ rest. paid_in does call object ++ rest) (paid_joined calls others (object_after does call object))
      ∙ sym (append_assoc (paid_in does call object) _ _)

  fit_joined : (first others : List ObjectCall) (object : Object) → AllFit does first object → AllFit does others (object_after_all does first object) →
      AllFit does (first ++ others) object
  unfolding AllFit object_after_all
  fit_joined [] others object one more = more
  fit_joined (Takes at telegram ∷ calls) others object one more = (one.0, fit_joined calls others (does.after_take at telegram object) one.1 more)
  fit_joined (Ticks at ∷ calls) others object one more = fit_joined calls others (does.after_tick at object) one more
  fit_joined (Senses at sense ∷ calls) others object one more = fit_joined calls others (does.after_sense at sense object) one more
  fit_joined (Keeps moment ∷ calls) others object one more = fit_joined calls others (does.after_keep moment object) one more
  fit_joined (Pays ∷ calls) others object one more = fit_joined calls others (does.after_paid object) one more
  fit_joined (Loses ∷ calls) others object one more = fit_joined calls others (does.after_loss object) one more

  -- what an object is told from one state to another, with nothing paid; where the link is open after it, all fit
  record AreCalls (now : ℕ) (old new : Object) (told : List Telegram) (senses : List Sense) (opened : Bool) : Type 0 where
    calls : List ObjectCall
    object_is : new ≡ object_after_all does calls old
    are_coming : AreComing now calls
    takes : telegrams_in calls ≡ told
    feels : contacts_in calls ≡ senses
    fit : opened ≡ true → AllFit does calls old

  told_nothing : (now : ℕ) (old new : Object) (opened : Bool) → new ≡ old → AreCalls now old new [] [] opened
  unfolding object_after_all telegrams_in contacts_in reports_paid AllFit
  told_nothing now old new opened same = record { calls = []; object_is = same; are_coming = tt; takes = refl; feels = refl; fit = λ _. tt }

  told_then : (now : ℕ) (old middle new : Object) (first others : List Telegram) (before after : Bool) → (after ≡ true → before ≡ true) →
      AreCalls now old middle first [] before → AreCalls now middle new others [] after → AreCalls now old new (first ++ others) [] after
  told_then now old middle new first others before after stays one more = record {
    calls = one.calls ++ more.calls;
    object_is = more.object_is ∙ ap (object_after_all does more.calls) one.object_is ∙ sym (after_joined one.calls more.calls old);
    are_coming = coming_joined now one.calls more.calls one.are_coming more.are_coming;
    takes = telegrams_joined one.calls more.calls ∙ ap (λ ts. ts ++ telegrams_in more.calls) one.takes ∙ ap (λ ts. first ++ ts) more.takes;
    feels = contacts_joined one.calls more.calls ∙ ap (λ ss. ss ++ contacts_in more.calls) one.feels ∙ more.feels;
    fit = λ opened. fit_joined one.calls more.calls old (one.fit (stays opened)) (subst (AllFit does more.calls) one.object_is (more.fit opened));
  }

  told_one : (now : ℕ) (telegram : Telegram) (old : Object) (opened : Bool) → (opened ≡ true → does.accepts now telegram old ≡ true) →
      AreCalls now old (does.after_take now telegram old) (telegram ∷ []) [] opened
  unfolding object_after_all telegrams_in contacts_in reports_paid AllFit
  told_one now telegram old opened fits = record {
    calls = Takes now telegram ∷ [];
    object_is = refl;
    are_coming = (refl, tt);
    takes = refl;
    feels = refl;
    fit = λ is. (fits is, tt);
  }

  -- the parts of a step before what is owed is sent
  posting_all_object : (now : ℕ) (reports : List Report) (host : HostState Object) → (posting_all now reports host).host.object ≡ host.object
  unfolding posting_all posting
  posting_all_object now [] host = refl
  posting_all_object now (report ∷ others) host = posting_all_object now others (posting now report host).host

  initialising_object : (now : ℕ) (host : HostState Object) → (initialising does now host).host.object ≡ host.object
  unfolding initialising posting
  initialising_object now host = posting_all_object now _ _

  answering_object : (now version : ℕ) (host : HostState Object) → (answering does now version host).host.object ≡ host.object
  unfolding answering posting
  answering_object now version host = cases (version == host.version) refl where
    cases : (b : Bool) → (version == host.version) ≡ b → (answering does now version host).host.object ≡ host.object
    cases true is = rw is refl
    cases false is = rw is refl

  -- the calls of a part, where what it tells is known
  abbrev TellsOf : ℕ → HostState Object → HostSoFar Object → List Telegram → List Sense → Type 0
  TellsOf now host part told senses = AreCalls now host.object part.host.object told senses (is_open part.host.link.phase)

  violating_told : (now : ℕ) (host : HostState Object) → TellsOf now host (violating now host) (violating now host).told []
  unfolding violating
  violating_told now host = told_nothing now host.object _ _ refl

  commanding_told : (now : ℕ) (telegram : Telegram) (host : HostState Object) → TellsOf now host (commanding does now telegram host) (telegram ∷ []) []
  unfolding commanding violating
  commanding_told now telegram host = cases (does.accepts now telegram host.object) refl where
    told : HostState Object
    told = record host { object = does.after_take now telegram host.object }

    cases : (b : Bool) → does.accepts now telegram host.object ≡ b → TellsOf now host (if b then silent told else violating now told) (telegram ∷ []) []
    cases true fits = told_one now telegram host.object _ (λ _. fits)
    cases false fits = told_one now telegram host.object _ (λ opened. absurd (true≢false (sym opened ∙ closing_closes now host.link)))

  following_told : (now : ℕ) (item : List ℕ) (telegram : Telegram) (c : Meaning) (host : HostState Object) →
      TellsOf now host (following does now item telegram c host) (following does now item telegram c host).told []
  unfolding following
  following_told now item telegram (meanings.Checks version) host = told_nothing now host.object _ _ (answering_object now version host)
  following_told now item telegram meanings.Initialises host = told_nothing now host.object _ _ (initialising_object now host)
  following_told now item telegram meanings.Commands host = commanding_told now telegram host
  following_told now item telegram meanings.Violates host = violating_told now host

  acting_told : (now : ℕ) (item : List ℕ) (read : Result Telegram SciFault) (host : HostState Object) →
      TellsOf now host (acting does now item read host) (acting does now item read host).told []
  unfolding acting
  acting_told now item (Err fault) host = violating_told now host
  acting_told now item (Ok telegram) host = cases (is_admitted does telegram host) where
    made : Bool → HostSoFar Object
    made b = if b then following does now item telegram (meaning telegram.message host.stage) host else violating now host

    cases : (b : Bool) → TellsOf now host (made b) (made b).told []
    cases true = following_told now item telegram _ host
    cases false = violating_told now host

  acting_all_told : (now : ℕ) (items : List (List ℕ)) (host : HostState Object) →
      TellsOf now host (acting_all does now items host) (acting_all does now items host).told []
  unfolding acting_all
  acting_all_told now [] host = told_nothing now host.object _ _ refl
  acting_all_told now (item ∷ others) host = cases (is_open host.link.phase) (acting_all_told now others first.host) where
    first : HostSoFar Object
    first = acting does now item (reading item) host

    rest : HostSoFar Object
    rest = acting_all does now others first.host

    made : Bool → HostSoFar Object
    made b = if b then then_do first (acting_all does now others) else silent host

    stays : is_open rest.host.link.phase ≡ true → is_open first.host.link.phase ≡ true
    stays opened = by (is_open first.host.link.phase) refl where
      by : (b : Bool) → is_open first.host.link.phase ≡ b → b ≡ true
      by true is = refl
      by false is = absurd (true≢false (sym opened ∙ ap (λ (p : HostSoFar Object). is_open p.host.link.phase) (closed_silent does now others first.host is) ∙ is))

    cases : (b : Bool) → TellsOf now first.host rest rest.told [] → TellsOf now host (made b) (made b).told []
    cases true more = told_then now host.object first.host.object _ first.told _ _ _ stays (acting_told now item (reading item) host) more
    cases false more = told_nothing now host.object _ _ refl

  risen_object : (host : HostState Object) → (risen host).object ≡ host.object
  unfolding risen
  risen_object host = cases (is_outside host.stage && is_open host.link.phase) where
    cases : (b : Bool) → (if b then record host { stage = stage.AwaitsCheck } else host).object ≡ host.object
    cases true = refl
    cases false = refl

  given_told : (now : ℕ) (input : Input) (host : HostState Object) → TellsOf now host (given does now input host) (given does now input host).told (contacts_of input)
  unfolding given hearing received object_after_all telegrams_in contacts_in reports_paid AllFit
  given_told now inputs.Tick host = told_nothing now host.object _ _ refl
  given_told now (inputs.Datagram bytes) host =
      let begun : HostState Object = risen (record host { link = (receiving now bytes.now host.link).link })
      in let part : HostSoFar Object = acting_all does now (receiving now bytes.now host.link).items begun
      in subst (λ o. AreCalls now o part.host.object part.told [] (is_open part.host.link.phase))
      (risen_object (record host { link = (receiving now bytes.now host.link).link }))
      (acting_all_told now (receiving now bytes.now host.link).items begun)
  given_told now (inputs.Sense sense) host = record {
    calls = Senses now sense ∷ [];
    object_is = refl;
    are_coming = (refl, tt);
    takes = refl;
    feels = refl;
    fit = λ _. tt;
  }

  -- how a step begins and ends, as calls of the object
  fallen_is : (host : HostState Object) → (fallen does host).object ≡ object_after_all does (loss_where (has_lost host)) host.object
  unfolding fallen object_after_all
  fallen_is host = cases (has_lost host) where
    cases : (b : Bool) → (if b then record host { stage = stage.Outside; object = does.after_loss host.object } else host).object ≡ object_after_all does (loss_where b) host.object
    cases true = refl
    cases false = refl

  begun_is : (now : ℕ) (host : HostState Object) →
      (beginning does now host).object ≡ object_after_all does (loss_where (has_lost (record host { link = settled now host.link })) ++ Ticks now ∷ []) host.object
  unfolding beginning object_after_all
  begun_is now host =
      let clocked : HostState Object = record host { link = settled now host.link }
      in ap (does.after_tick now) (fallen_is clocked) ∙ sym (after_joined (loss_where (has_lost clocked)) (Ticks now ∷ []) host.object)

  ended_is : (host : HostState Object) →
      (ending does host).object ≡ object_after_all does (loss_where (has_lost host) ++ Keeps (alive_until (ending does host).link) ∷ []) host.object
  unfolding keeping object_after_all
  ended_is host =
      ap (does.after_keep (alive_until (fallen does host).link)) (fallen_is host)
      ∙ sym (after_joined (loss_where (has_lost host)) (Keeps (alive_until (fallen does host).link) ∷ []) host.object)

  -- a host that is in a connection isn't taken out of it before the end of the step
  violating_inside : (now : ℕ) (host : HostState Object) → is_outside host.stage ≡ false → is_outside (violating now host).host.stage ≡ false
  unfolding violating
  violating_inside now host inside = inside

  answering_inside : (now version : ℕ) (host : HostState Object) → is_outside (answering does now version host).host.stage ≡ false
  unfolding answering
  answering_inside now version host = cases (version == host.version) refl where
    cases : (b : Bool) → (version == host.version) ≡ b → is_outside (answering does now version host).host.stage ≡ false
    cases true is = rw is refl
    cases false is = rw is refl

  initialising_inside : (now : ℕ) (host : HostState Object) → is_outside (initialising does now host).host.stage ≡ false
  unfolding initialising
  initialising_inside now host = refl

  commanding_inside : (now : ℕ) (telegram : Telegram) (host : HostState Object) → is_outside host.stage ≡ false → is_outside (commanding does now telegram host).host.stage ≡ false
  unfolding commanding violating
  commanding_inside now telegram host inside = cases (does.accepts now telegram host.object) where
    told : HostState Object
    told = record host { object = does.after_take now telegram host.object }

    cases : (b : Bool) → is_outside (if b then silent told else violating now told).host.stage ≡ false
    cases true = inside
    cases false = inside

  following_inside : (now : ℕ) (item : List ℕ) (telegram : Telegram) (c : Meaning) (host : HostState Object) → is_outside host.stage ≡ false →
      is_outside (following does now item telegram c host).host.stage ≡ false
  unfolding following
  following_inside now item telegram (meanings.Checks version) host inside = answering_inside now version host
  following_inside now item telegram meanings.Initialises host inside = initialising_inside now host
  following_inside now item telegram meanings.Commands host inside = commanding_inside now telegram host inside
  following_inside now item telegram meanings.Violates host inside = violating_inside now host inside

  acting_inside : (now : ℕ) (item : List ℕ) (read : Result Telegram SciFault) (host : HostState Object) → is_outside host.stage ≡ false →
      is_outside (acting does now item read host).host.stage ≡ false
  unfolding acting
  acting_inside now item (Err fault) host inside = violating_inside now host inside
  acting_inside now item (Ok telegram) host inside = cases (is_admitted does telegram host) where
    cases : (b : Bool) → is_outside (if b then following does now item telegram (meaning telegram.message host.stage) host else violating now host).host.stage ≡ false
    cases true = following_inside now item telegram _ host inside
    cases false = violating_inside now host inside

  acting_all_inside : (now : ℕ) (items : List (List ℕ)) (host : HostState Object) → is_outside host.stage ≡ false →
      is_outside (acting_all does now items host).host.stage ≡ false
  unfolding acting_all
  acting_all_inside now [] host inside = inside
  acting_all_inside now (item ∷ others) host inside =
      cases (is_open host.link.phase) (acting_all_inside now others first.host (acting_inside now item (reading item) host inside))
    where
      first : HostSoFar Object
      first = acting does now item (reading item) host

      cases : (b : Bool) → is_outside (acting_all does now others first.host).host.stage ≡ false →
          is_outside (if b then then_do first (acting_all does now others) else silent host).host.stage ≡ false
      cases true more = more
      cases false more = inside

  risen_inside : (host : HostState Object) → is_outside host.stage ≡ false → is_outside (risen host).stage ≡ false
  unfolding risen
  risen_inside host inside = rw inside inside

  given_inside : (now : ℕ) (input : Input) (host : HostState Object) → is_outside host.stage ≡ false → is_outside (given does now input host).host.stage ≡ false
  unfolding given hearing received
  given_inside now inputs.Tick host inside = inside
  given_inside now (inputs.Datagram bytes) host inside =
      let heard : HostState Object = record host { link = (receiving now bytes.now host.link).link }
      in acting_all_inside now (receiving now bytes.now host.link).items (risen heard) (risen_inside heard inside)
  given_inside now (inputs.Sense sense) host inside = inside

  -- before the initialisation was completed the object is told no telegram
  following_untold : (now : ℕ) (item : List ℕ) (telegram : Telegram) (c : Meaning) (host : HostState Object) → meaning telegram.message host.stage ≡ c →
      is_completed (following does now item telegram c host).host.stage ≡ false → (following does now item telegram c host).told ≡ []
  unfolding following is_command violating
  following_untold now item telegram (meanings.Checks version) host is early = refl
  following_untold now item telegram meanings.Initialises host is early = refl
  following_untold now item telegram meanings.Commands host is early =
      absurd (true≢false (sym ((following_says does now item telegram meanings.Commands host is).stays (commands_late telegram.message host.stage (ap is_command is))) ∙ early))
  following_untold now item telegram meanings.Violates host is early = refl

  acting_untold : (now : ℕ) (item : List ℕ) (read : Result Telegram SciFault) (host : HostState Object) →
      is_completed (acting does now item read host).host.stage ≡ false → (acting does now item read host).told ≡ []
  unfolding acting violating
  acting_untold now item (Err fault) host early = refl
  acting_untold now item (Ok telegram) host early = cases (is_admitted does telegram host) early where
    made : Bool → HostSoFar Object
    made b = if b then following does now item telegram (meaning telegram.message host.stage) host else violating now host

    cases : (b : Bool) → is_completed (made b).host.stage ≡ false → (made b).told ≡ []
    cases true is = following_untold now item telegram _ host refl is
    cases false is = refl

  acting_all_untold : (now : ℕ) (items : List (List ℕ)) (host : HostState Object) →
      is_completed (acting_all does now items host).host.stage ≡ false → (acting_all does now items host).told ≡ []
  unfolding acting_all
  acting_all_untold now [] host early = refl
  acting_all_untold now (item ∷ others) host early = cases (is_open host.link.phase) (acting_all_untold now others first.host) early where
    first : HostSoFar Object
    first = acting does now item (reading item) host

    rest : HostSoFar Object
    rest = acting_all does now others first.host

    made : Bool → HostSoFar Object
    made b = if b then then_do first (acting_all does now others) else silent host

    before : (b : Bool) → is_completed first.host.stage ≡ b → is_completed rest.host.stage ≡ false → b ≡ false
    before true completed is = absurd (true≢false (sym ((acting_all_says does now others first.host).stays completed) ∙ is))
    before false completed is = refl

    cases : (b : Bool) → (is_completed rest.host.stage ≡ false → rest.told ≡ []) → is_completed (made b).host.stage ≡ false → (made b).told ≡ []
    cases true more is =
        ap (λ ts. ts ++ rest.told) (acting_untold now item (reading item) host (before (is_completed first.host.stage) refl is)) ∙ more is
    cases false more is = refl

  given_untold : (now : ℕ) (input : Input) (host : HostState Object) → is_completed (given does now input host).host.stage ≡ false → (given does now input host).told ≡ []
  unfolding given hearing received
  given_untold now inputs.Tick host early = refl
  given_untold now (inputs.Datagram bytes) host early =
      acting_all_untold now (receiving now bytes.now host.link).items (risen (record host { link = (receiving now bytes.now host.link).link })) early
  given_untold now (inputs.Sense sense) host early = refl

  -- what is owed is paid
  pub record IsPaying (now : ℕ) (host : HostState Object) (part : HostSoFar Object) : Type 0 where
    calls : List ObjectCall
    object_is : part.host.object ≡ object_after_all does calls host.object
    are_payments : ArePayments calls
    pub stage_is : part.host.stage ≡ host.stage
    pub own_name_is : part.host.own_name ≡ host.own_name
    pub peer_name_is : part.host.peer_name ≡ host.peer_name
    pub version_is : part.host.version ≡ host.version
    reports : List Report
    gives : items_given now part.calls host.link ≡ map (item_of host) reports
    sent : is_completed host.stage ≡ true → reports ≡ reports_paid does calls host.object
    dropped : is_completed host.stage ≡ false → reports ≡ []

  pays_nothing : (now : ℕ) (host : HostState Object) → IsPaying now host (silent host)
  unfolding object_after_all telegrams_in contacts_in reports_paid items_given
  pays_nothing now host = record {
    calls = [];
    object_is = refl;
    are_payments = tt;
    stage_is = refl;
    own_name_is = refl;
    peer_name_is = refl;
    version_is = refl;
    reports = [];
    gives = refl;
    sent = λ _. refl;
    dropped = λ _. refl;
  }

  pays_first : (now : ℕ) (owed : Option Report) (host : HostState Object) → does.owed host.object ≡ owed → IsPaying now host (paying_first does now owed host)
  unfolding posting object_after_all telegrams_in contacts_in reports_paid items_given
  pays_first now None host is = pays_nothing now host
  pays_first now (Some report) host is = cases (is_completed host.stage) (is_ok (answer_to_send now host.link)) refl refl where
    posted : HostSoFar Object
    posted = posting now report host

    cases : (b k : Bool) → is_completed host.stage ≡ b → is_ok (answer_to_send now host.link) ≡ k →
        IsPaying now host (if not b then silent (paid does host) else if k then record posted { host = paid does posted.host } else posted)
    cases false k completed accepted = record {
      calls = Pays ∷ [];
      object_is = refl;
      are_payments = tt;
      stage_is = refl;
      own_name_is = refl;
      peer_name_is = refl;
      version_is = refl;
      reports = [];
      gives = refl;
      sent = λ early. absurd (true≢false (sym early ∙ completed));
      dropped = λ _. refl;
    }
    cases true true completed accepted = record {
      calls = Pays ∷ [];
      object_is = refl;
      are_payments = tt;
      stage_is = refl;
      own_name_is = refl;
      peer_name_is = refl;
      version_is = refl;
      reports = report ∷ [];
      gives = ap (λ b. (if b then item_of host report ∷ [] else []) ++ []) accepted;
      sent = λ _. ap (λ (o : Option Report). one_of o ++ []) (sym is);
      dropped = λ early. absurd (true≢false (sym completed ∙ early));
    }
    cases true false completed accepted = record {
      calls = [];
      object_is = refl;
      are_payments = tt;
      stage_is = refl;
      own_name_is = refl;
      peer_name_is = refl;
      version_is = refl;
      reports = [];
      gives = ap (λ b. (if b then item_of host report ∷ [] else []) ++ []) accepted;
      sent = λ _. refl;
      dropped = λ _. refl;
    }

  pays_then : (now : ℕ) (host : HostState Object) (first : HostSoFar Object) (next : HostState Object → HostSoFar Object) → IsMadeOf now host.link first →
      IsPaying now host first → IsPaying now first.host (next first.host) → IsPaying now host (then_do first next)
  pays_then now host first next made one more = record {
    calls = one.calls ++ more.calls;
    object_is = more.object_is ∙ ap (object_after_all does more.calls) one.object_is ∙ sym (after_joined one.calls more.calls host.object);
    are_payments = payments_joined one.calls more.calls one.are_payments more.are_payments;
    stage_is = more.stage_is ∙ one.stage_is;
    own_name_is = more.own_name_is ∙ one.own_name_is;
    peer_name_is = more.peer_name_is ∙ one.peer_name_is;
    version_is = more.version_is ∙ one.version_is;
    reports = one.reports ++ more.reports;
    gives = given_joined now first.calls (next first.host).calls host.link
        ∙ ap (λ xs. xs ++ items_given now (next first.host).calls (calls_made now first.calls host.link).link) one.gives
        ∙ ap (λ l. map (item_of host) one.reports ++ items_given now (next first.host).calls l) (sym made.link_is)
        ∙ ap (λ xs. map (item_of host) one.reports ++ xs) (more.gives ∙ items_same more.reports host first.host one.own_name_is one.peer_name_is)
        ∙ sym (map_joined (item_of host) one.reports more.reports);
    sent = λ completed.
        ap (λ rs. rs ++ more.reports) (one.sent completed)
        ∙ ap (λ rs. reports_paid does one.calls host.object ++ rs) (more.sent (ap is_completed one.stage_is ∙ completed) ∙ ap (reports_paid does more.calls) one.object_is)
        ∙ sym (paid_joined one.calls more.calls host.object);
    dropped = λ early. ap (λ rs. rs ++ more.reports) (one.dropped early) ∙ more.dropped (ap is_completed one.stage_is ∙ early);
  }

  pub pays_all : (now : ℕ) (more : ℕ) (host : HostState Object) → IsPaying now host (paying does now more host)
  unfolding paying
  pays_all now zero host = pays_nothing now host
  pays_all now (suc more) host = cases (goes_on now (does.owed host.object) host) (pays_all now more first.host) where
    first : HostSoFar Object
    first = paying_first does now (does.owed host.object) host

    one : IsPaying now host first
    one = pays_first now (does.owed host.object) host refl

    cases : (b : Bool) → IsPaying now first.host (paying does now more first.host) → IsPaying now host (if b then then_do first (paying does now more) else first)
    cases true next = pays_then now host first (paying does now more) (paying_first_part does now (does.owed host.object) host).made one next
    cases false next = one

  -- the end of a step
  pub record IsEnded (old new : HostState Object) : Type 0 where
    object_is : new.object ≡ old.object
    pub stage_is : new.stage ≡ old.stage
    pub own_name_is : new.own_name ≡ old.own_name
    pub peer_name_is : new.peer_name ≡ old.peer_name
    pub version_is : new.version ≡ old.version

  pub beating_same : (now : ℕ) (input : Input) (host : HostState Object) → IsEnded host (beating now input host).host
  unfolding beating
  beating_same now inputs.Tick host = record { object_is = refl; stage_is = refl; own_name_is = refl; peer_name_is = refl; version_is = refl }
  beating_same now (inputs.Datagram bytes) host = record { object_is = refl; stage_is = refl; own_name_is = refl; peer_name_is = refl; version_is = refl }
  beating_same now (inputs.Sense sense) host = record { object_is = refl; stage_is = refl; own_name_is = refl; peer_name_is = refl; version_is = refl }

  beating_gives : (now : ℕ) (input : Input) (host : HostState Object) → items_given now (beating now input host).calls host.link ≡ []
  unfolding beating items_given
  beating_gives now inputs.Tick host = refl
  beating_gives now (inputs.Datagram bytes) host = refl
  beating_gives now (inputs.Sense sense) host = refl

  pub ending_names : (host : HostState Object) → IsNamedAs host (ending does host)
  unfolding keeping fallen
  ending_names host = cases (not (is_outside host.stage) && not (is_open host.link.phase)) where
    cases : (b : Bool) → IsNamedAs host (keeping does (if b then record host { stage = stage.Outside; object = does.after_loss host.object } else host))
    cases true = record { own_name = refl; peer_name = refl; version = refl }
    cases false = record { own_name = refl; peer_name = refl; version = refl }

  stays_open : (host : HostState Object) → is_open (ending does host).link.phase ≡ true → has_lost host ≡ false
  unfolding keeping
  stays_open host opened =
      rw (sym (ap (λ (l : LinkState). is_open l.phase) (fallen_link does host)) ∙ opened) (cases (not (is_outside host.stage)))
    where
      cases : (b : Bool) → (b && false) ≡ false
      cases true = refl
      cases false = refl

  pub open_stage : (host : HostState Object) → is_open (ending does host).link.phase ≡ true → (ending does host).stage ≡ host.stage
  unfolding keeping fallen
  open_stage host opened = cases (is_outside host.stage) (is_open host.link.phase) (sym (ap (λ (l : LinkState). is_open l.phase) (fallen_link does host)) ∙ opened) where
    cases : (o p : Bool) → p ≡ true → (keeping does (if not o && not p then record host { stage = stage.Outside; object = does.after_loss host.object } else host)).stage ≡ host.stage
    cases true p opened = refl
    cases false true opened = refl
    cases false false opened = absurd (false≢true opened)

  falls_closed : (host : HostState Object) → is_outside host.stage ≡ false → is_open (ending does host).link.phase ≡ false → has_lost host ≡ true
  unfolding keeping
  falls_closed host inside closed = rw (inside, sym (ap (λ (l : LinkState). is_open l.phase) (fallen_link does host)) ∙ closed) refl

  open_ending : (host : HostState Object) → is_open (ending does host).link.phase ≡ true → is_open host.link.phase ≡ true
  unfolding keeping
  open_ending host opened = sym (ap (λ (l : LinkState). is_open l.phase) (fallen_link does host)) ∙ opened

  -- a step: what comes, what is paid and what ends it
  pub step_told : (now : ℕ) (input : Input) (host : HostState Object) → IsToldIn does now input host (host_step does now input host)
  unfolding host_step
  step_told now input host =
      let clocked : HostState Object = record host { link = settled now host.link }
      in let begun = beginning does now host
      in let heard = given does now input begun
      in let told = then_do heard (paying does now most_owed)
      in let done = then_do told (beating now input)
      in let first : List ObjectCall = loss_where (has_lost clocked) ++ Ticks now ∷ []
      in let last : List ObjectCall = loss_where (has_lost done.host) ++ Keeps (alive_until (ending does done.host).link) ∷ []
      in let comes = given_told now input begun
      in let payment = pays_all now most_owed heard.host
      in let during : List ObjectCall = comes.calls ++ payment.calls
      in let beat = beating_same now input told.host
      in let names = ending_names done.host
      in let own_name_is = names.own_name ∙ beat.own_name_is ∙ payment.own_name_is
      in let peer_name_is = names.peer_name ∙ beat.peer_name_is ∙ payment.peer_name_is
      in let says = given_says does now input begun
      in let middle : told.host.object ≡ object_after_all does during begun.object =
      payment.object_is ∙ ap (object_after_all does payment.calls) comes.object_is ∙ sym (after_joined comes.calls payment.calls begun.object)
      in let told_is : heard.told ≡ done.told =
      sym (ap (λ ts. (heard.told ++ ts) ++ (beating now input told.host).told) (paying_quiet does now most_owed heard.host).tells_none
      ∙ ap (λ ts. (heard.told ++ []) ++ ts) (beating_quiet does now input told.host).tells_none
      ∙ append-nil (heard.told ++ [])
      ∙ append-nil heard.told)
      in let heard_link : heard.host.link ≡ (calls_made now heard.calls begun.link).link = (given_made does now input begun).link_is
      in let told_link : told.host.link ≡ (calls_made now told.calls begun.link).link =
      (made_then now begun.link heard (paying does now most_owed) (given_made does now input begun) (paying_part does now most_owed heard.host).made).link_is
      in let given_in_all : items_given now done.calls begun.link ≡ items_given now heard.calls begun.link ++ map (item_of heard.host) payment.reports =
      given_joined now told.calls (beating now input told.host).calls begun.link
      ∙ ap (λ l. items_given now told.calls begun.link ++ items_given now (beating now input told.host).calls l) (sym told_link)
      ∙ ap (λ xs. items_given now told.calls begun.link ++ xs) (beating_gives now input told.host)
      ∙ append-nil (items_given now told.calls begun.link)
      ∙ given_joined now heard.calls (paying does now most_owed heard.host).calls begun.link
      ∙ ap (λ l. items_given now heard.calls begun.link ++ items_given now (paying does now most_owed heard.host).calls l) (sym heard_link)
      ∙ ap (λ xs. items_given now heard.calls begun.link ++ xs) payment.gives
      in record {
        comes = comes.calls;
        pays = payment.calls;
        are_coming = comes.are_coming;
        are_payments = payment.are_payments;
        is_lost = has_lost done.host;
        begun_is = begun_is now host;
        object_is = ended_is done.host
            ∙ ap (object_after_all does last) (beat.object_is ∙ middle)
            ∙ sym (after_joined during last begun.object)
            ∙ ap (object_after_all does (during ++ last)) (begun_is now host)
            ∙ sym (after_joined first (during ++ last) host.object);
        takes = comes.takes ∙ told_is;
        untold = λ early. sym told_is ∙ given_untold now input begun early;
        fit = λ opened. comes.fit (opened_before (is_open heard.host.link.phase) refl (open_ending done.host opened));
        senses = comes.feels;
        stays = stays_open done.host;
        falls = λ inside closed. falls_closed done.host (ap is_outside (beat.stage_is ∙ payment.stage_is) ∙ inside) closed;
        own = says.own;
        reports = payment.reports;
        gives = ap (items_given now done.calls) (sym (begun_link does now host)) ∙ given_in_all
            ∙ ap (λ xs. xs ++ map (item_of heard.host) payment.reports) says.gives
            ∙ ap (λ xs. xs ++ map (item_of heard.host) payment.reports)
            (sym (items_same says.own begun (ending does done.host) (own_name_is ∙ says.own_name_is) (peer_name_is ∙ says.peer_name_is)))
            ∙ ap (λ xs. map (item_of (ending does done.host)) says.own ++ xs) (sym (items_same payment.reports heard.host (ending does done.host) own_name_is peer_name_is))
            ∙ sym (map_joined (item_of (ending does done.host)) says.own payment.reports);
        says = says.said_is;
        remains = given_inside now input begun;
        completed = says.stays;
        stage_is = λ opened. open_stage done.host opened ∙ beat.stage_is ∙ payment.stage_is;
        paid = λ is. payment.sent is ∙ ap (reports_paid does payment.calls) comes.object_is;
        dropped = payment.dropped;
      }
    where
      part : HostSoFar Object
      part = given does now input (beginning does now host)

      both : HostSoFar Object
      both = then_do part (paying does now most_owed)

      own : (first : LinkState) (part : HostSoFar Object) → IsPart now first part → is_open first.phase ≡ false → is_open part.host.link.phase ≡ false
      own first part is closed = ap (λ (l : LinkState). is_open l.phase) is.made.link_is ∙ own_closed now part.calls first is.own closed

      opened_before : (b : Bool) → is_open part.host.link.phase ≡ b → is_open (beating now input both.host).host.link.phase ≡ true → b ≡ true
      opened_before true is opened = refl
      opened_before false is opened = absurd (true≢false (sym opened
          ∙ own both.host.link (beating now input both.host) (beating_part does now input both.host)
          (own part.host.link (paying does now most_owed part.host) (paying_part does now most_owed part.host) is)))
