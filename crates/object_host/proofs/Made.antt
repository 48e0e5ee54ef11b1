-- A step is the calls of the link that it lists.
use Rattle.std.proofs.Common.{rules, ◌≡◌, ℕ, suc, zero, Bool, true, false, not, ◌==◌, if◌then◌else◌, List, [], ◌∷◌, ◌++◌, append_assoc, refl, ap, sym, ◌∙◌, subst}
use Rattle.std.specs.Prelude.{Option, Some, None, Result, Ok, Err, is_ok}
use Rattle.std.proofs.lemmas.List.{append-nil}
use Rattle.sci_telegram.specs.TelegramRead.{reading}
use Rattle.sci_telegram.specs.declared.fault.SciFault.{SciFault}
use Rattle.sci_telegram.specs.declared.telegram.Telegram.{Telegram}
use Rattle.sci_telegram.specs.declared.message.Initialisation.TheVariants.{StartInitialisation, InitialisationCompleted}
use Rattle.rasta_core.specs.State.{LinkState, is_open}
use Rattle.rasta_core.specs.Clock.{settled}
use Rattle.rasta_core.specs.Calls.{answer_to_send, receiving}
use Rattle.object_host.specs.Behaviour.{Behaviour}
use Rattle.object_host.specs.Meaning.{meaning}
use Rattle.object_host.specs.Host.{HostState, LinkCall, HostSoFar, Ticks, fallen, is_completed, keeping, linked, risen, said, silent, then_do}
use Rattle.object_host.specs.Made.{AreCallsFor, AreOwn, IsMadeOf, call_made, calls_made}
use Rattle.object_host.specs.Step.{acting, acting_all, answering, beating, beginning, commanding, following, given, goes_on, hearing, host_step, initialising, is_admitted, most_owed, paid, paying, paying_first, posting, posting_all, received, telling_status, violating}
use Rattle.object_host.specs.declared.meaning.Meaning.{Meaning}
use Rattle.object_host.specs.declared.meaning.Meaning.TheVariants as meanings
use Rattle.object_host.specs.declared.input.Input.{Input}
use Rattle.object_host.specs.declared.input.Input.TheVariants as inputs
use Rattle.object_host.specs.declared.report.Report.{Report}

own_joined : (first others : List LinkCall) → AreOwn first → AreOwn others → AreOwn (first ++ others)
own_joined [] others one more = more
own_joined (call ∷ calls) others one more = (one.0, own_joined calls others one.1 more)

pub links_joined : (now : ℕ) (first others : List LinkCall) (link : LinkState) →
    (calls_made now (first ++ others) link).link ≡ (calls_made now others (calls_made now first link).link).link
unfolding calls_made
links_joined now [] others link = refl
links_joined now (call ∷ calls) others link = links_joined now calls others (call_made now call link).link

pub pdus_joined : (now : ℕ) (first others : List LinkCall) (link : LinkState) →
    (calls_made now (first ++ others) link).pdus ≡ (calls_made now first link).pdus ++ (calls_made now others (calls_made now first link).link).pdus
unfolding calls_made
pdus_joined now [] others link = refl
pdus_joined now (call ∷ calls) others link =
    ap (λ pdus. (call_made now call link).pdus ++ pdus) (pdus_joined now calls others (call_made now call link).link)
    ∙ sym (append_assoc (call_made now call link).pdus _ _)

module _ {Object : Type 0} where
  pub made_then : (now : ℕ) (link : LinkState) (first : HostSoFar Object) (next : HostState Object → HostSoFar Object) →
      IsMadeOf now link first → IsMadeOf now first.host.link (next first.host) → IsMadeOf now link (then_do first next)
  made_then now link first next one more =
      let calls = (next first.host).calls
      in record {
        link_is = more.link_is ∙ ap (λ l. (calls_made now calls l).link) one.link_is ∙ sym (links_joined now first.calls calls link);
        pdus_are = ap (λ pdus. pdus ++ (next first.host).pdus) one.pdus_are
            ∙ ap (λ pdus. (calls_made now first.calls link).pdus ++ pdus) (more.pdus_are ∙ ap (λ l. (calls_made now calls l).pdus) one.link_is)
            ∙ sym (pdus_joined now first.calls calls link);
      }

  pub made_silent : (now : ℕ) (host : HostState Object) → IsMadeOf now host.link (silent host)
  unfolding calls_made
  made_silent now host = record { link_is = refl; pdus_are = refl }

  pub made_linked : (now : ℕ) (call : LinkCall) (host : HostState Object) → IsMadeOf now host.link (linked call (call_made now call host.link) host)
  unfolding calls_made
  made_linked now call host = record { link_is = refl; pdus_are = sym (append-nil (call_made now call host.link).pdus) }

  -- a part that takes nothing from the partner
  pub record IsPart (now : ℕ) (link : LinkState) (part : HostSoFar Object) : Type 0 where
    pub made : IsMadeOf now link part
    pub own : AreOwn part.calls

  pub part_then : (now : ℕ) (link : LinkState) (first : HostSoFar Object) (next : HostState Object → HostSoFar Object) →
      IsPart now link first → IsPart now first.host.link (next first.host) → IsPart now link (then_do first next)
  part_then now link first next one more = record {
    made = made_then now link first next one.made more.made;
    own = own_joined first.calls (next first.host).calls one.own more.own;
  }

  pub part_silent : (now : ℕ) (host : HostState Object) → IsPart now host.link (silent host)
  part_silent now host = record { made = made_silent now host; own = tt }

  -- what a part leaves beside its link says nothing of its calls
  as_part : (now : ℕ) (link : LinkState) (part same : HostSoFar Object) → IsPart now link part →
      same.host.link ≡ part.host.link → same.pdus ≡ part.pdus → same.calls ≡ part.calls → IsPart now link same
  as_part now link part same is link-same pdus-same calls-same = record {
    made = record {
      link_is = link-same ∙ is.made.link_is ∙ ap (λ calls. (calls_made now calls link).link) (sym calls-same);
      pdus_are = pdus-same ∙ is.made.pdus_are ∙ ap (λ calls. (calls_made now calls link).pdus) (sym calls-same);
    };
    own = subst AreOwn (sym calls-same) is.own;
  }

  pub posting_part : (now : ℕ) (report : Report) (host : HostState Object) → IsPart now host.link (posting now report host)
  unfolding posting
  posting_part now report host = record { made = made_linked now _ host; own = (tt, tt) }

  pub violating_part : (now : ℕ) (host : HostState Object) → IsPart now host.link (violating now host)
  unfolding violating
  violating_part now host = record { made = made_linked now _ host; own = (tt, tt) }

  pub posting_all_part : (now : ℕ) (reports : List Report) (host : HostState Object) → IsPart now host.link (posting_all now reports host)
  unfolding posting_all
  posting_all_part now [] host = part_silent now host
  posting_all_part now (report ∷ others) host =
      part_then now host.link (posting now report host) (posting_all now others) (posting_part now report host) (posting_all_part now others (posting now report host).host)

module _ {Object : Type 0} (does : Behaviour Object) where
  answering_part : (now version : ℕ) (host : HostState Object) → IsPart now host.link (answering does now version host)
  unfolding answering
  answering_part now version host = cases (version == host.version) refl where
    cases : (b : Bool) → (version == host.version) ≡ b → IsPart now host.link (answering does now version host)
    cases true is = rw is (as_part now host.link _ _ (posting_part now _ host) refl refl refl)
    cases false is = rw is (as_part now host.link _ _ (posting_part now _ host) refl refl refl)

  initialising_part : (now : ℕ) (host : HostState Object) → IsPart now host.link (initialising does now host)
  unfolding initialising
  initialising_part now host =
      let begun = posting now (said does StartInitialisation) host
      in let told = then_do begun (telling_status does now)
      in let telling = part_then now host.link begun (telling_status does now) (posting_part now (said does StartInitialisation) host) (posting_all_part now _ begun.host)
      in let done = part_then now host.link told (posting now (said does InitialisationCompleted)) telling (posting_part now (said does InitialisationCompleted) told.host)
      in as_part now host.link _ _ done refl refl refl

  commanding_part : (now : ℕ) (telegram : Telegram) (host : HostState Object) → IsPart now host.link (commanding does now telegram host)
  unfolding commanding
  commanding_part now telegram host = cases (does.accepts now telegram host.object) where
    told : HostState Object
    told = record host { object = does.after_take now telegram host.object }

    cases : (b : Bool) → IsPart now host.link (if b then silent told else violating now told)
    cases true = as_part now host.link _ _ (part_silent now told) refl refl refl
    cases false = as_part now host.link _ _ (violating_part now told) refl refl refl

  following_part : (now : ℕ) (item : List ℕ) (telegram : Telegram) (c : Meaning) (host : HostState Object) → IsPart now host.link (following does now item telegram c host)
  unfolding following
  following_part now item telegram (meanings.Checks version) host = as_part now host.link _ _ (answering_part now version host) refl refl refl
  following_part now item telegram meanings.Initialises host = as_part now host.link _ _ (initialising_part now host) refl refl refl
  following_part now item telegram meanings.Commands host = as_part now host.link _ _ (commanding_part now telegram host) refl refl refl
  following_part now item telegram meanings.Violates host = violating_part now host

  pub acting_part : (now : ℕ) (item : List ℕ) (read : Result Telegram SciFault) (host : HostState Object) → IsPart now host.link (acting does now item read host)
  unfolding acting
  acting_part now item (Err fault) host = violating_part now host
  acting_part now item (Ok telegram) host = cases (is_admitted does telegram host) where
    cases : (b : Bool) → IsPart now host.link (if b then following does now item telegram (meaning telegram.message host.stage) host else violating now host)
    cases true = following_part now item telegram _ host
    cases false = violating_part now host

  pub acting_all_part : (now : ℕ) (items : List (List ℕ)) (host : HostState Object) → IsPart now host.link (acting_all does now items host)
  unfolding acting_all
  acting_all_part now [] host = part_silent now host
  acting_all_part now (item ∷ others) host =
      cases (is_open host.link.phase) (acting_all_part now others (acting does now item (reading item) host).host)
    where
      cases : (b : Bool) → IsPart now (acting does now item (reading item) host).host.link (acting_all does now others (acting does now item (reading item) host).host) →
          IsPart now host.link (if b then then_do (acting does now item (reading item) host) (acting_all does now others) else silent host)
      cases true next = part_then now host.link _ (acting_all does now others) (acting_part now item (reading item) host) next
      cases false next = part_silent now host

  pub paying_first_part : (now : ℕ) (report : Option Report) (host : HostState Object) → IsPart now host.link (paying_first does now report host)
  paying_first_part now None host = part_silent now host
  paying_first_part now (Some report) host = cases (is_completed host.stage) (is_ok (answer_to_send now host.link)) where
    sent : HostSoFar Object
    sent = posting now report host

    cases : (b k : Bool) → IsPart now host.link (if not b then silent (paid does host) else if k then record sent { host = paid does sent.host } else sent)
    cases false k = as_part now host.link _ _ (part_silent now host) refl refl refl
    cases true true = as_part now host.link _ _ (posting_part now report host) refl refl refl
    cases true false = posting_part now report host

  pub paying_part : (now : ℕ) (more : ℕ) (host : HostState Object) → IsPart now host.link (paying does now more host)
  unfolding paying
  paying_part now zero host = part_silent now host
  paying_part now (suc more) host =
      cases (goes_on now (does.owed host.object) host) (paying_part now more (paying_first does now (does.owed host.object) host).host)
    where
      first : HostSoFar Object
      first = paying_first does now (does.owed host.object) host

      cases : (b : Bool) → IsPart now first.host.link (paying does now more first.host) → IsPart now host.link (if b then then_do first (paying does now more) else first)
      cases true next = part_then now host.link first (paying does now more) (paying_first_part now (does.owed host.object) host) next
      cases false next = paying_first_part now (does.owed host.object) host

  pub beating_part : (now : ℕ) (input : Input) (host : HostState Object) → IsPart now host.link (beating now input host)
  unfolding beating
  beating_part now inputs.Tick host = record { made = made_linked now Ticks host; own = (tt, tt) }
  beating_part now (inputs.Datagram bytes) host = part_silent now host
  beating_part now (inputs.Sense sense) host = part_silent now host

  risen_link : (host : HostState Object) → (risen host).link ≡ host.link
  unfolding risen
  risen_link host = search rules

  pub fallen_link : (host : HostState Object) → (fallen does host).link ≡ host.link
  unfolding fallen
  fallen_link host = search rules

  hearing_made : (now : ℕ) (bytes : List ℕ) (host : HostState Object) → IsMadeOf now host.link (hearing does now bytes host)
  unfolding hearing received calls_made
  hearing_made now bytes host =
      let receipt = receiving now bytes host.link
      in let first : IsMadeOf now host.link (received now bytes receipt host) =
      record { link_is = risen_link (record host { link = receipt.link }); pdus_are = sym (append-nil receipt.pdus) }
      in made_then now host.link _ (acting_all does now receipt.items) first (acting_all_part now receipt.items _).made

  pub given_made : (now : ℕ) (input : Input) (host : HostState Object) → IsMadeOf now host.link (given does now input host)
  unfolding given
  given_made now inputs.Tick host = made_silent now host
  given_made now (inputs.Datagram bytes) host = hearing_made now bytes.now host
  given_made now (inputs.Sense sense) host = made_silent now (record host { object = does.after_sense now sense host.object })

  given_calls : (now : ℕ) (input : Input) (host : HostState Object) → AreCallsFor input (given does now input host).calls
  unfolding given hearing received
  given_calls now inputs.Tick host = tt
  given_calls now (inputs.Datagram bytes) host =
      let receipt = receiving now bytes.now host.link
      in let begun = (received now bytes.now receipt host).host
      in ((acting_all does now receipt.items begun).calls, refl, (acting_all_part now receipt.items begun).own)
  given_calls now (inputs.Sense sense) host = tt

  more_calls : (input : Input) (calls more : List LinkCall) → AreCallsFor input calls → AreOwn more → AreCallsFor input (calls ++ more)
  more_calls inputs.Tick calls more own others = own_joined calls more own others
  more_calls (inputs.Datagram bytes) calls more first others = (first.0 ++ more, ap (λ cs. cs ++ more) first.1, own_joined first.0 more first.2 others)
  more_calls (inputs.Sense sense) calls more own others = own_joined calls more own others

  pub step_calls : (now : ℕ) (input : Input) (host : HostState Object) → AreCallsFor input (host_step does now input host).calls
  unfolding host_step
  step_calls now input host =
      let begun = beginning does now host
      in let heard = given does now input begun
      in let told = then_do heard (paying does now most_owed)
      in more_calls input told.calls (beating now input told.host).calls
      (more_calls input heard.calls (paying does now most_owed heard.host).calls (given_calls now input begun) (paying_part now most_owed heard.host).own)
      (beating_part now input told.host).own

  pub begun_link : (now : ℕ) (host : HostState Object) → (beginning does now host).link ≡ settled now host.link
  unfolding beginning
  begun_link now host = fallen_link (record host { link = settled now host.link })

  pub step_made : (now : ℕ) (input : Input) (host : HostState Object) → IsMadeOf now (settled now host.link) (host_step does now input host)
  unfolding host_step keeping
  step_made now input host =
      let begun = beginning does now host
      in let heard = given_made now input begun
      in let told = made_then now begun.link _ (paying does now most_owed) heard (paying_part now most_owed _).made
      in let done = made_then now begun.link _ (beating now input) told (beating_part now input _).made
      in subst (λ l. IsMadeOf now l (host_step does now input host)) (begun_link now host)
      (record { link_is = fallen_link _ ∙ done.link_is; pdus_are = done.pdus_are })
