-- A host's step, part by part.
use Rattle.std.proofs.Common.{◌≡◌, ◌∙◌, ℕ, Bool, true, false, cond, [], Option, Some, None, ap, refl}
use Rattle.std.specs.Option.{unwrap_or}
use Rattle.line_end.specs.State.{changed_file}
use Rattle.line_host.specs.Host.{HostHeard, HostState, left, looked, to_do, told, writes}
use Rattle.line_host.specs.Sites.{kept_file}
use Rattle.line_host.specs.Talk.{TalkSoFar, TalkState, is_joined}
use Rattle.line_laws.specs.End.{End, File, Seen, file_of, unlinked}
use Rattle.line_laws.specs.Step.{StepSoFar, step}
use Rattle.line_world.specs.Events.{Delivers, Look, Occasion, Tick}
use Rattle.line_world.specs.Happens.{input_of}
use Rattle.line_world.proofs.Below.{beating, begun, given, giving_all, hearing_datagram, host_step, meeting, opened, settled, ticked}
use Rattle.line_world.proofs.Lines.{end_left}

-- what an occasion has the talk hear, and do in the end
abbrev pub heard_talk : (now : ℕ) → Occasion → TalkState → TalkSoFar
heard_talk now Tick talk = record { talk = talk; taken = [] }
heard_talk now (Delivers bytes) talk = hearing_datagram now bytes talk
heard_talk now Look talk = record { talk = talk; taken = [] }

abbrev pub ticked_talk : (now : ℕ) → Occasion → TalkState → TalkState
ticked_talk now Tick talk = opened now (beating now talk)
ticked_talk now (Delivers bytes) talk = talk
ticked_talk now Look talk = talk

-- ---- the parts

abbrev pub settled_talk : (now : ℕ) → TalkState → TalkState
settled_talk now talk = record talk { link = settled now talk.link }

-- after the clock rules
abbrev pub met_talk : (now : ℕ) → TalkState → TalkState
met_talk now talk = meeting now (settled_talk now talk)

abbrev pub end_met : (now : ℕ) → HostState → End
end_met now host = end_left (is_joined (met_talk now host.talk)) host.end.end

-- after what has come
abbrev pub so_far_heard : (now : ℕ) → Occasion → HostState → TalkSoFar
so_far_heard now occasion host = heard_talk now occasion (met_talk now host.talk)

-- the end's step
abbrev pub step_then : (now : ℕ) → Occasion → Seen → HostState → StepSoFar
step_then now occasion seen host =
    step host.end.side (is_joined (so_far_heard now occasion host).talk) seen (so_far_heard now occasion host).taken (end_met now host)

-- after all
abbrev pub talk_then : (now : ℕ) → Occasion → Seen → HostState → TalkState
talk_then now occasion seen host = ticked_talk now occasion (giving_all now (step_then now occasion seen host).given (so_far_heard now occasion host).talk)

-- ---- the step by these

left_is : (host : HostState) → left host ≡ record host { end = record host.end { end = end_left (is_joined host.talk) host.end.end } }
left_is host = by_joined (is_joined host.talk)
  where
    by_joined : (b : Bool) → cond b host (record host { end = record host.end { end = unlinked host.end.end } }) ≡ record host { end = record host.end { end = end_left b host.end.end } }
    by_joined true = refl
    by_joined false = refl

begun_is : (now : ℕ) (host : HostState) → begun now host ≡ record host { talk = met_talk now host.talk; end = record host.end { end = end_met now host } }
unfolding begun
begun_is now host = left_is (record host { talk = met_talk now host.talk })

given_is : (now : ℕ) (occasion : Occasion) (host : HostState)
    → given now (input_of occasion) host ≡ record { host = record host { talk = (heard_talk now occasion host.talk).talk }; items = (heard_talk now occasion host.talk).taken }
unfolding given
given_is now Tick host = refl
given_is now (Delivers bytes) host = refl
given_is now Look host = refl

ticked_is : (now : ℕ) (occasion : Occasion) (talk : TalkState) → ticked now (input_of occasion) talk ≡ ticked_talk now occasion talk
unfolding ticked
ticked_is now Tick talk = refl
ticked_is now (Delivers bytes) talk = refl
ticked_is now Look talk = refl

-- a host that has heard its partner
abbrev pub heard_host : (now : ℕ) → Occasion → HostState → HostHeard
heard_host now occasion host = record {
  host = record host { talk = (so_far_heard now occasion host).talk; end = record host.end { end = end_met now host } };
  items = (so_far_heard now occasion host).taken;
}

heard_is : (now : ℕ) (occasion : Occasion) (host : HostState) → given now (input_of occasion) (begun now host) ≡ heard_host now occasion host
heard_is now occasion host =
    ap (given now (input_of occasion)) (begun_is now host)
    ∙ given_is now occasion (record host { talk = met_talk now host.talk; end = record host.end { end = end_met now host } })

pub host_is : (now : ℕ) (occasion : Occasion) (seen : Seen) (host : HostState) → host_step now (input_of occasion) seen host
    ≡ record host {
      talk = talk_then now occasion seen host;
      end = record host.end { end = end_left (is_joined (talk_then now occasion seen host)) (step_then now occasion seen host).end };
      busy = seen.busy;
    }
unfolding host_step
host_is now occasion seen host =
    let so_far : StepSoFar = step_then now occasion seen host
    in ap (λ (heard : HostHeard). told now (input_of occasion) (to_do seen heard).items (looked seen heard)) (heard_is now occasion host)
    ∙ (ap (λ (talk : TalkState). left (record host { talk = talk; end = record host.end { end = so_far.end }; busy = seen.busy }))
    (ticked_is now occasion (giving_all now so_far.given (so_far_heard now occasion host).talk))
    ∙ left_is (record host { talk = talk_then now occasion seen host; end = record host.end { end = so_far.end }; busy = seen.busy }))

same_file : (joined : Bool) (end : End) → file_of (end_left joined end) ≡ file_of end
same_file true end = refl
same_file false end = refl

pub writes_is : (now : ℕ) (occasion : Occasion) (seen : Seen) (host : HostState)
    → writes now (input_of occasion) seen host ≡ changed_file (file_of host.end.end) (file_of (step_then now occasion seen host).end)
writes_is now occasion seen host =
    ap (λ (heard : HostHeard). (to_do seen heard).written) (heard_is now occasion host)
    ∙ ap (λ (file : File). changed_file file (file_of (step_then now occasion seen host).end)) (same_file (is_joined (met_talk now host.talk)) host.end.end)

kept_is : (written : Option File) (file : File) → kept_file written file ≡ unwrap_or written file
kept_is None file = refl
kept_is (Some new) file = refl

-- what its file has then
pub file_then : ((old new : File) → unwrap_or (changed_file old new) old ≡ new) → (now : ℕ) (occasion : Occasion) (seen : Seen) (host : HostState) (file : File) → file ≡ file_of host.end.end
    → kept_file (writes now (input_of occasion) seen host) file ≡ file_of (step_then now occasion seen host).end
file_then law now occasion seen host file is =
    ap (λ (written : Option File). kept_file written file) (writes_is now occasion seen host)
    ∙ (kept_is (changed_file (file_of host.end.end) (file_of (step_then now occasion seen host).end)) file
    ∙ (ap (unwrap_or (changed_file (file_of host.end.end) (file_of (step_then now occasion seen host).end))) is
    ∙ law (file_of host.end.end) (file_of (step_then now occasion seen host).end)))

pub same_end_file : (joined : Bool) (end : End) → file_of (end_left joined end) ≡ file_of end
same_end_file = same_file
