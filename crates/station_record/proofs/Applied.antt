-- What is known of an event that was tried.
use Rattle.std.proofs.Common.{◌≡◌, ◌∙◌, refl, sym, ap, subst, Option, Some, None, Result, Ok, Err}
use Rattle.std.specs.Prelude.{IfOk}
use Rattle.replay.specs.simulator_event.Station.{Applies, recorded}
use Rattle.replay.specs.simulator_event.declared.event.Event.{Event}
use Rattle.replay.specs.simulator_event.refused.Refused.{Refused}
use Rattle.replay.specs.simulator_event.refused.Refused.TheVariants.{NoSuchNode, NeverSent, Drift, NotDriven, ClockLimit, OutOfMemory}
use Rattle.replay.specs.simulator_event.declared.reply.Answer.{Answer}
use Rattle.replay.specs.simulator_event.declared.reply.Reply.{Reply}
use Rattle.replay.specs.simulator_spec.Happens.{answered}
use Rattle.replay.specs.World.{Played, after, answer, answer_where, refusal_of, world_where, worlds}
use Rattle.station_record.specs.inside.Late.{IsKnown}

-- why an event can't happen, as its answer tells
abbrev pub refused_by : Result Reply Refused → Option Refused
refused_by (Ok reply) = None
refused_by (Err why) = Some why

why_of : (why : Option Refused) (what : Answer) (tried : Result Reply Refused) → recorded tried ≡ answer_where why what → refused_by tried ≡ why
why_of None what (Ok reply) e = refl
why_of None what (Err other) e = cc
why_of (Some why) what (Ok reply) e = cc
why_of (Some why) what (Err other) e = cc

-- An event that was tried leaves the world after it, and its answer tells why it can't happen, unless memory was lacking.
pub record Known (happening : Event) (old new : Played) (tried : Result Reply Refused) : Type 0 where
  pub refused : refused_by tried ≡ refusal_of happening old
  pub behind : new ≡ after old happening

known_where : (happening : Event) (old new : Played) (tried : Result Reply Refused) → (recorded tried ≡ answer old happening) × (new ≡ after old happening) → Known happening old new tried
known_where happening old new tried applied = record {
  refused = why_of (refusal_of happening old) (answered old.sited.site old.sited.table happening old.run) tried applied.0;
  behind = applied.1;
}

pub known : (happening : Event) (old new : Played) (tried : Result Reply Refused) → Applies worlds happening old tried new → (tried ≡ Err OutOfMemory → ⊥) → Known happening old new tried
known happening old new (Err OutOfMemory) same enough = absurd (enough refl)
known happening old new (Err NoSuchNode) applied enough = known_where happening old new (Err NoSuchNode) applied
known happening old new (Err NeverSent) applied enough = known_where happening old new (Err NeverSent) applied
known happening old new (Err Drift) applied enough = known_where happening old new (Err Drift) applied
known happening old new (Err NotDriven) applied enough = known_where happening old new (Err NotDriven) applied
known happening old new (Err ClockLimit) applied enough = known_where happening old new (Err ClockLimit) applied
known happening old new (Ok reply) applied enough = known_where happening old new (Ok reply) applied

-- No event changes the engineering data.
same_data : (why : Option Refused) (now behind : Played) → behind.sited ≡ now.sited → (world_where why now behind).sited ≡ now.sited
same_data None now behind same = same
same_data (Some why) now behind same = refl

pub data_stays : (happening : Event) (old : Played) → (after old happening).sited ≡ old.sited
data_stays happening old = same_data (refusal_of happening old) old _ refl

-- An event that was tried: why it can't happen, if it can't, and what it left.
pub record Tried (happening : Event) (old new : Played) (why : Option Refused) : Type 0 where
  pub refused : why ≡ refusal_of happening old
  pub behind : new ≡ after old happening
  pub sited : new.sited ≡ old.sited

tried_so : (happening : Event) (old new : Played) (tried : Result Reply Refused) → Known happening old new tried → Tried happening old new (refused_by tried)
tried_so happening old new tried known = record {
  refused = known.refused;
  behind = known.behind;
  sited = ap (λ (w : Played). w.sited) known.behind ∙ data_stays happening old;
}

pub happened : (happening : Event) (old new : Played) (reply : Reply) → Applies worlds happening old (Ok reply) new → Tried happening old new None
happened happening old new reply applies = tried_so happening old new (Ok reply) (known happening old new (Ok reply) applies (λ e. cc (e)))

pub was_refused : (happening : Event) (old new : Played) (why : Refused) → (why ≡ OutOfMemory → ⊥) → Applies worlds happening old (Err why) new
    → Tried happening old new (Some why)
was_refused happening old new why other applies = tried_so happening old new (Err why) (known happening old new (Err why) applies (λ e. other (cc (e))))

-- what is known of a refusal tells why the event can't happen
known_so : (happening : Event) (old new : Played) (why : Refused) (told : Option Refused) → IsKnown why told → Applies worlds happening old (Err why) new
    → Tried happening old new told
known_so happening old new why told is applies =
    subst (λ (refused : Option Refused). Tried happening old new refused) (sym is.0) (was_refused happening old new why (λ e. is.1 e) applies)

-- so it is told, if it is known
pub refused_told : {E : Type 0} (happening : Event) (old new : Played) (why : Refused) (told : Result (Option Refused) E) → IfOk told (λ t. IsKnown why t)
    → Applies worlds happening old (Err why) new → IfOk told (λ t. Tried happening old new t)
refused_told happening old new why (Ok t) is applies = known_so happening old new why t is applies
refused_told happening old new why (Err error) is applies = tt
