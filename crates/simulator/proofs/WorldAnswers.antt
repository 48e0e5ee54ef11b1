-- A world answers events, and is left by them, as it is played.
use Rattle.std.proofs.Common.{◌≡◌, sym, ap, subst, ◌∙◌, inl, inr, Some, None, Result, Ok, Err, OnOk, OnErr}
use Rattle.std.specs.Prelude.{IfOk, IfErr, ◌⊎◌}
use Rattle.ixl_state.specs.ixl_table.Table.{SitedTable}
use Rattle.simulator_spec.specs.simulator_event.declared.event.Event.{Event}
use Rattle.simulator_spec.specs.simulator_event.refused.Refused.{Refused}
use Rattle.simulator_spec.specs.simulator_event.refused.Refused.TheVariants.{NoSuchNode, NeverSent, Drift, NotDriven, ClockLimit, OutOfMemory}
use Rattle.simulator_spec.specs.simulator_event.declared.reply.Answer.{Answer}
use Rattle.simulator_spec.specs.simulator_event.declared.reply.Reply.{Reply}
use Rattle.simulator_spec.specs.Happens.{answered, happens, reply_to}
use Rattle.simulator_spec.specs.State.{WorldState}
use Rattle.simulator_spec.specs.simulator_event.Station.{Applies}
use Rattle.simulator_spec.specs.Tried.{Played, after, answer, answer_where, refusal_of, world_where, worlds}

same_world : (a b : Played) → a.sited ≡ b.sited → a.run ≡ b.run → a ≡ b
same_world a b sited run =
    let of : SitedTable → Played = λ p. record { sited = p; run = a.run }
    in let at : WorldState → Played = λ r. record { sited = b.sited; run = r }
    in ap of sited ∙ ap at run

-- the world after an event that can happen, and what is answered to it
abbrev behind : Event → Played → Played
behind happening old = record old { run = happens old.sited.site old.sited.table happening old.run }

abbrev told : Event → Played → Answer
told happening old = answered old.sited.site old.sited.table happening old.run

reply_is : (happening : Event) (old : Played) (reply : Reply) → reply ≡ reply_to old.sited.site old.sited.table happening old.run → reply.answer ≡ told happening old
unfolding reply_to
reply_is happening old reply says = ap (λ (r : Reply). r.answer) says

-- an event that can't happen is answered with the reason
refused_so : (happening : Event) (old new : Played) (why : Refused) → new ≡ old → (Err why ≡ answer old happening) × (new ≡ after old happening) → Applies worlds happening old (Err why) new
refused_so happening old new OutOfMemory same both = same
refused_so happening old new NoSuchNode same both = both
refused_so happening old new NeverSent same both = both
refused_so happening old new Drift same both = both
refused_so happening old new NotDriven same both = both
refused_so happening old new ClockLimit same both = both

pub applied : (happening : Event) (old new : Played) (tried : Result Reply Refused) → new.sited ≡ old.sited
    → OnOk tried (new.run ≡ happens old.sited.site old.sited.table happening old.run)
    → IfOk tried (λ reply. reply ≡ reply_to old.sited.site old.sited.table happening old.run)
    → OnOk tried (refusal_of happening old ≡ None)
    → IfErr tried (λ why. (refusal_of happening old ≡ Some why) ⊎ ((why ≡ OutOfMemory) × (refusal_of happening old ≡ None)))
    → OnErr tried (new.run ≡ old.run)
    → Applies worlds happening old tried new
applied happening old new (Ok reply) sited step says allowed refused same = (
  ap Ok (reply_is happening old reply says) ∙ sym (ap (λ why. answer_where why (told happening old)) allowed),
  same_world new (behind happening old) sited step ∙ sym (ap (λ why. world_where why old (behind happening old)) allowed),
)
applied happening old new (Err why) sited step says allowed (inl because) same =
    let stays = same_world new old sited same
    in refused_so happening old new why stays (
      sym (ap (λ reason. answer_where reason (told happening old)) because),
      stays ∙ sym (ap (λ reason. world_where reason old (behind happening old)) because),
    )
applied happening old new (Err why) sited step says allowed (inr lacking) same =
    subst (λ w. Applies worlds happening old (Err w) new) (sym lacking.0) (same_world new old sited same)
