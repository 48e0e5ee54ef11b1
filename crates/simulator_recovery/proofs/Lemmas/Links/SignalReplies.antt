-- A signal that acts on an aspect owes a report of it, and its host sends that at once.
use Rattle.simulator_recovery.proofs.Words.Basics.{◌≡◌, ℕ, suc, Bool, true, false, not, ◌||◌, ◌⊎◌, inl, inr, List, [], ◌∷◌, ◌++◌, append_assoc, Option, Some, None, Result, Ok, Err, refl, sym, ap, subst, ◌∙◌, if◌then◌else◌, is_ok, false≢true}
use Rattle.simulator_recovery.proofs.Words.Links.{answer_to_send, closing_by, receiving, closing, entered, silent as stays_silent, telling, Receipt, LinkState, is_open, Reason}
use Rattle.simulator_recovery.proofs.Words.Controllers.{reading, writing, SciFault, Aspect, InitialisationCompleted, InitialisationRequest, StartInitialisation, VersionAnswer, VersionCheck, Message, Telegram, Behaviour, HostSoFar, HostState, LinkCall, Sends, is_completed, silent, telegram_of, then_do, meaning, acting, acting_all, beating, beginning, commanding, following, given, goes_on, hearing, host_step, is_admitted, most_owed, paid, paying, paying_first, posting, received, violating, Input, Report, Stage, SignalState, fits, indicated_report, indicates, signal_behaviour, told as told_of}
use Rattle.simulator_recovery.proofs.Words.Recovery.{GoOnWith, behind_what_comes, indication}
use Rattle.simulator_spec.specs.object_host.Meaning.{commanding as by_stage}

-- ---- what is owed is sent

module _ {Object : Type 0} (does : Behaviour Object) (now : ℕ) where
  -- the first calls of what a host pays
  record Pays (report : Report) (host : HostState Object) (calls : List LinkCall) : Type 0 where
    rest : List LinkCall
    are : calls ≡ Sends (writing (telegram_of report host)) ∷ rest

  pays : (more : ℕ) (host : HostState Object) (report : Report) → does.owed host.object ≡ Some report → is_completed host.stage ≡ true → is_ok (answer_to_send now host.link) ≡ true → Pays report host (paying does now (suc more) host).calls
  unfolding paying posting
  pays more host report owes completed accepts = subst Goal (sym owes) (by_tests (is_completed host.stage) (is_ok (answer_to_send now host.link)) completed accepts)
    where
      Goal : Option Report → Type 0
      Goal o = Pays report host (if goes_on now o host then then_do (paying_first does now o host) (paying does now more) else paying_first does now o host).calls

      sent : HostSoFar Object
      sent = posting now report host

      first : Bool → Bool → HostSoFar Object
      first b c = if not b then silent (paid does host) else (if c then record sent { host = paid does sent.host } else sent)

      by_tests : (b c : Bool) → b ≡ true → c ≡ true → Pays report host (if not b || c then then_do (first b c) (paying does now more) else first b c).calls
      by_tests true true e f = record { rest = (paying does now more (paid does sent.host)).calls; are = refl }
      by_tests true false e f = absurd (false≢true f)
      by_tests false c e f = absurd (false≢true e)

-- ---- what a signal owes

closed_by : (now : ℕ) (link : LinkState) → is_open (closing_by now Reason.State link).link.phase ≡ false
unfolding closing_by closing telling
closed_by now link = choose (is_open (entered now link).link.phase) refl
  where
    choose : (b : Bool) → is_open (entered now link).link.phase ≡ b → is_open (if b then closing Reason.State (entered now link).link else stays_silent (entered now link).link).link.phase ≡ false
    choose true e = refl
    choose false e = e

record Owes (host : HostState SignalState) : Type 0 where
  owes : host.object.owes ≡ true
  completed : is_completed host.stage ≡ true

-- a part of a step: where the link is open after it, a signal owes a report if it was told something, or owed one before
record Leads (host : HostState SignalState) (part : HostSoFar SignalState) : Type 0 where
  told : is_open part.host.link.phase ≡ true → (part.told ≡ []) ⊎ Owes part.host
  owed : is_open part.host.link.phase ≡ true → Owes host → Owes part.host

module _ (now : ℕ) where
  violates : (host : HostState SignalState) → Leads host (violating now host)
  unfolding violating
  violates host = record { told = λ opened. inl refl; owed = λ opened o. record { owes = o.owes; completed = o.completed } }

  not_before : (at : Stage) (host : HostState SignalState) → host.stage ≡ at → is_completed at ≡ false → Owes host → ⊥
  not_before at host is not_yet o = false≢true (sym not_yet ∙ ap is_completed (sym is) ∙ o.completed)

  commands : (item : List ℕ) (telegram : Telegram) (host : HostState SignalState) → host.stage ≡ Stage.Completed → Leads host (following signal_behaviour now item telegram (by_stage Stage.Completed) host)
  unfolding following commanding violating
  commands item telegram host is = choose (indicates telegram.message) refl
    where
      after : Option Aspect → HostState SignalState
      after what = record host { object = told_of what host.object }

      part : Bool → Option Aspect → HostSoFar SignalState
      part b what = record (if b then silent (after what) else violating now (after what)) { acted = item ∷ []; told = telegram ∷ [] }

      choose : (what : Option Aspect) → indicates telegram.message ≡ what → Leads host (part (fits what) what)
      choose (Some aspect) e = record {
        told = λ opened. inr (record { owes = refl; completed = ap is_completed is });
        owed = λ opened o. record { owes = refl; completed = ap is_completed is };
      }
      choose None e = record {
        told = λ opened. absurd (false≢true (sym (closed_by now host.link) ∙ opened));
        owed = λ opened. absurd (false≢true (sym (closed_by now host.link) ∙ opened));
      }

  told : (item : List ℕ) (telegram : Telegram) (how_far : Stage) (host : HostState SignalState) → host.stage ≡ how_far → Leads host (following signal_behaviour now item telegram (by_stage how_far) host)
  unfolding following
  told item telegram Stage.Completed host is = commands item telegram host is
  told item telegram Stage.Outside host is = violates host
  told item telegram Stage.AwaitsCheck host is = violates host
  told item telegram Stage.AwaitsRequest host is = violates host
  told item telegram Stage.Refused host is = violates host

  follows : (item : List ℕ) (telegram : Telegram) (what : Message) (how_far : Stage) (host : HostState SignalState) → host.stage ≡ how_far → Leads host (following signal_behaviour now item telegram (meaning what how_far) host)
  unfolding following
  follows item telegram (Message.Initialisation protocol (VersionCheck version)) Stage.AwaitsCheck host is = record { told = λ opened. inl refl; owed = λ opened o. absurd (not_before Stage.AwaitsCheck host is refl o) }
  follows item telegram (Message.Initialisation protocol (VersionCheck version)) Stage.Outside host is = violates host
  follows item telegram (Message.Initialisation protocol (VersionCheck version)) Stage.AwaitsRequest host is = violates host
  follows item telegram (Message.Initialisation protocol (VersionCheck version)) Stage.Completed host is = violates host
  follows item telegram (Message.Initialisation protocol (VersionCheck version)) Stage.Refused host is = violates host
  follows item telegram (Message.Initialisation protocol InitialisationRequest) Stage.AwaitsRequest host is = record { told = λ opened. inl refl; owed = λ opened o. absurd (not_before Stage.AwaitsRequest host is refl o) }
  follows item telegram (Message.Initialisation protocol InitialisationRequest) Stage.Outside host is = violates host
  follows item telegram (Message.Initialisation protocol InitialisationRequest) Stage.AwaitsCheck host is = violates host
  follows item telegram (Message.Initialisation protocol InitialisationRequest) Stage.Completed host is = violates host
  follows item telegram (Message.Initialisation protocol InitialisationRequest) Stage.Refused host is = violates host
  follows item telegram (Message.Initialisation protocol StartInitialisation) how_far host is = violates host
  follows item telegram (Message.Initialisation protocol InitialisationCompleted) how_far host is = violates host
  follows item telegram (Message.Initialisation protocol (VersionAnswer agreement version)) how_far host is = violates host
  follows item telegram (Message.Point what) how_far host is = told item telegram how_far host is
  follows item telegram (Message.Signal what) how_far host is = told item telegram how_far host is
  follows item telegram (Message.Detection what) how_far host is = told item telegram how_far host is

  acts : (item : List ℕ) (read : Result Telegram SciFault) (host : HostState SignalState) → Leads host (acting signal_behaviour now item read host)
  unfolding acting
  acts item (Err fault) host = violates host
  acts item (Ok telegram) host = choose (is_admitted signal_behaviour telegram host)
    where
      choose : (b : Bool) → Leads host (if b then following signal_behaviour now item telegram (meaning telegram.message host.stage) host else violating now host)
      choose true = follows item telegram telegram.message host.stage host refl
      choose false = violates host

  none_left : (items : List (List ℕ)) (host : HostState SignalState) → is_open host.link.phase ≡ false → acting_all signal_behaviour now items host ≡ silent host
  unfolding acting_all
  none_left [] host shut = refl
  none_left (item ∷ others) host shut = ap (λ (b : Bool). if b then then_do (acting signal_behaviour now item (reading item) host) (acting_all signal_behaviour now others) else silent host) shut

  leads_then : (host : HostState SignalState) (first : HostSoFar SignalState) (items : List (List ℕ)) → Leads host first → Leads first.host (acting_all signal_behaviour now items first.host) → Leads host (then_do first (acting_all signal_behaviour now items))
  leads_then host first items one other = record {
    told = λ opened. both (one.told (open_before opened)) (other.told opened) (other.owed opened);
    owed = λ opened o. other.owed opened (one.owed (open_before opened) o);
  }
    where
      second : HostSoFar SignalState
      second = acting_all signal_behaviour now items first.host

      open_before : is_open second.host.link.phase ≡ true → is_open first.host.link.phase ≡ true
      open_before opened = choose (is_open first.host.link.phase) refl
        where
          choose : (b : Bool) → is_open first.host.link.phase ≡ b → is_open first.host.link.phase ≡ true
          choose true e = e
          choose false e = absurd (false≢true (sym e ∙ sym (ap (λ (part : HostSoFar SignalState). is_open part.host.link.phase) (none_left items first.host e)) ∙ opened))

      both : (first.told ≡ []) ⊎ Owes first.host → (second.told ≡ []) ⊎ Owes second.host → (Owes first.host → Owes second.host) → (first.told ++ second.told ≡ []) ⊎ Owes second.host
      both none (inr o) on = inr o
      both (inr o) (inl none) on = inr (on o)
      both (inl e) (inl f) on = inl (ap (λ (l : List Telegram). l ++ second.told) e ∙ f)

  all_act : (items : List (List ℕ)) (host : HostState SignalState) → Leads host (acting_all signal_behaviour now items host)
  unfolding acting_all
  all_act [] host = record { told = λ opened. inl refl; owed = λ opened o. o }
  all_act (item ∷ others) host = choose (is_open host.link.phase)
      (leads_then host (acting signal_behaviour now item (reading item) host) others (acts item (reading item) host) (all_act others (acting signal_behaviour now item (reading item) host).host))
    where
      choose : (b : Bool) → Leads host (then_do (acting signal_behaviour now item (reading item) host) (acting_all signal_behaviour now others))
          → Leads host (if b then then_do (acting signal_behaviour now item (reading item) host) (acting_all signal_behaviour now others) else silent host)
      choose true so = so
      choose false so = record { told = λ opened. inl refl; owed = λ opened o. o }

  -- what comes in a step
  comes_owes : (input : Input) (host : HostState SignalState) → ((given signal_behaviour now input host).told ≡ [] → ⊥) → is_open (given signal_behaviour now input host).host.link.phase ≡ true → Owes (given signal_behaviour now input host).host
  unfolding given hearing received
  comes_owes Input.Tick host some opened = absurd (some refl)
  comes_owes (Input.Sense sense) host some opened = absurd (some refl)
  comes_owes (Input.Datagram bytes) host some opened = choose ((all_act receipt.items (received now bytes.now receipt host).host).told opened)
    where
      receipt : Receipt
      receipt = receiving now bytes.now host.link

      part : HostSoFar SignalState
      part = acting_all signal_behaviour now receipt.items (received now bytes.now receipt host).host

      choose : (part.told ≡ []) ⊎ Owes part.host → Owes part.host
      choose (inl none) = absurd (some none)
      choose (inr o) = o

-- ---- a step

pub reports_at_once : (now : ℕ) (input : Input) (host : HostState SignalState) → ((behind_what_comes now input host).told ≡ [] → ⊥) → is_open (behind_what_comes now input host).host.link.phase ≡ true
    → is_ok (answer_to_send now (behind_what_comes now input host).host.link) ≡ true → GoOnWith (indication (behind_what_comes now input host).host) (behind_what_comes now input host).calls (host_step signal_behaviour now input host).calls
unfolding host_step
reports_at_once now input host some opened accepts = record {
  rest = first.rest ++ ticks.calls;
  are = ap (λ (calls : List LinkCall). (heard.calls ++ calls) ++ ticks.calls) first.are ∙ append_assoc heard.calls (Sends (indication heard.host) ∷ first.rest) ticks.calls;
}
  where
    heard : HostSoFar SignalState
    heard = behind_what_comes now input host

    o : Owes heard.host
    o = comes_owes now input (beginning signal_behaviour now host) some opened

    first : Pays signal_behaviour now (indicated_report heard.host.object) heard.host (paying signal_behaviour now most_owed heard.host).calls
    first = pays signal_behaviour now 19 heard.host (indicated_report heard.host.object) (ap (λ (b : Bool). if b then Some (indicated_report heard.host.object) else None) o.owes) o.completed accepts

    ticks : HostSoFar SignalState
    ticks = beating now input (paying signal_behaviour now most_owed heard.host).host
