-- A link and a signal stay sound, and at known stop no aspect is live.
use Rattle.std.proofs.Common.{◌≡◌, ℕ, ◌≤◌, List, [], ◌∷◌, ◌++◌, length, ◌⊎◌, inl, inr, refl, sym, ap, subst, ◌∙◌, arith}
use Rattle.std.proofs.lemmas.List.{length-append, append-nil}
use Rattle.std.specs.Prelude.{◌≢◌}
use Rattle.simulator_machine.specs.Lists.{last_of, IsOf}
use Rattle.simulator_machine.specs.Link.{Down, Up, Server, Before, In, Gone, Link, LinkMove, Opens, Enters, ComesUp, Closes, Leaves, QuietEnds, LinkMay, link_after}
use Rattle.simulator_machine.specs.Signal.{Aspect, Stop, Proceed, Signal, shown_by, shown, IsLive, HasStopConfirmed, IsAtKnownStop, SignalMove, SignalLink, GivesStop, Acts, Confirms, Recounts, SignalMay, aspect_given, signal_linked, acted, signal_after}
use Rattle.simulator_machine.specs.Invariant.{IsLinkSound, IsSignalSound}
use Rattle.simulator_machine.proofs.Lists.{last_added, of_added, none_left}

pub link_kept : (move : LinkMove) (link : Link) → IsLinkSound link → LinkMay move link → IsLinkSound (link_after move link)
link_kept Opens link sound may = record { quiet = λ e. absurd (cc (e)); up = λ e. absurd (cc (e)) }
link_kept Enters link sound may = record { quiet = λ e. absurd (may.1 e); up = λ e same. cc (same) }
link_kept ComesUp link sound may = record { quiet = λ e. absurd (cc (e)); up = λ e. may }
link_kept Closes link sound may = record { quiet = λ e. absurd (cc (e)); up = λ e. absurd (cc (e)) }
link_kept Leaves link sound may = record { quiet = λ e same. cc (same); up = λ e same. cc (same) }
link_kept QuietEnds link sound may = record { quiet = λ e. may; up = λ e. absurd (cc (e)) }

-- a signal whose link changes, but not its server
same_server : (signal : Signal) (link : Link) → IsSignalSound signal → link.server ≡ signal.link.server → IsLinkSound link → IsSignalSound (record signal { link = link })
same_server signal link sound same link_sound = record {
  link = link_sound;
  none_done = λ e. sound.none_done (sym same ∙ e);
  none_given = λ e. sound.none_given (sym same ∙ e);
  confirmed = λ stays. sound.confirmed (λ e. stays (same ∙ e));
}

linked_kept : (move : LinkMove) (signal : Signal) → IsSignalSound signal → LinkMay move signal.link → IsSignalSound (signal_linked move signal)
linked_kept Opens signal sound may = record {
  link = link_kept Opens signal.link sound.link may;
  none_done = λ e. refl;
  none_given = λ e. refl;
  confirmed = λ e. omega arith;
}
linked_kept Enters signal sound may = record {
  link = link_kept Enters signal.link sound.link may;
  none_done = λ e. absurd (cc (e));
  none_given = λ e. absurd (cc (e));
  confirmed = λ stays. sound.confirmed (λ e. cc (e, may.0));
}
linked_kept ComesUp signal sound may = same_server signal (link_after ComesUp signal.link) sound refl (link_kept ComesUp signal.link sound.link may)
linked_kept Closes signal sound may = same_server signal (link_after Closes signal.link) sound refl (link_kept Closes signal.link sound.link may)
linked_kept Leaves signal sound may = record {
  link = link_kept Leaves signal.link sound.link may;
  none_done = λ e. absurd (cc (e));
  none_given = λ e. absurd (cc (e));
  confirmed = λ stays. absurd (stays refl);
}
linked_kept QuietEnds signal sound may = same_server signal (link_after QuietEnds signal.link) sound refl (link_kept QuietEnds signal.link sound.link may)

pub given_kept : (aspect : Aspect) (signal : Signal) → IsSignalSound signal → signal.link.client ≡ Up → IsSignalSound (aspect_given aspect signal)
given_kept aspect signal sound up = record {
  link = sound.link;
  none_done = sound.none_done;
  none_given = λ e. absurd (sound.link.up up e);
  confirmed = sound.confirmed;
}

acts_kept : (flight : List Aspect) (signal : Signal) → IsSignalSound signal → signal.link.server ≡ In → IsSignalSound (acted flight signal)
acts_kept [] signal sound inside = sound
acts_kept (next ∷ later) signal sound inside = record {
  link = sound.link;
  none_done = λ e. absurd (cc (e, inside));
  none_given = λ e. absurd (cc (e, inside));
  confirmed = λ stays. omega (arith, sound.confirmed stays, length-append signal.done (next ∷ []));
}

counted : (count : ℕ) (signal : Signal) → (signal.link.server ≡ Gone) ⊎ (count ≤ length signal.done) → signal.link.server ≢ Gone → count ≤ length signal.done
counted count signal (inl gone) stays = absurd (stays gone)
counted count signal (inr few) stays = few

pub signal_kept : (move : SignalMove) (signal : Signal) → IsSignalSound signal → SignalMay move signal → IsSignalSound (signal_after move signal)
signal_kept (SignalLink move) signal sound may = linked_kept move signal sound may
signal_kept GivesStop signal sound may = given_kept Stop signal sound may
signal_kept Acts signal sound may = acts_kept signal.flight signal sound may
signal_kept (Confirms count) signal sound may = record {
  link = sound.link;
  none_done = sound.none_done;
  none_given = sound.none_given;
  confirmed = counted count signal may;
}
signal_kept (Recounts done flight) signal sound may = record {
  link = sound.link;
  none_done = λ e. absurd (cc (e, may));
  none_given = λ e. absurd (cc (e, may));
  confirmed = λ stays. absurd (stays may);
}

-- ---- what is live

-- nothing of empty lists is live
none_live : (aspect : Aspect) (done flight : List Aspect) → aspect ≢ Stop → done ≡ [] → flight ≡ [] → (last_of Stop done ≡ aspect) ⊎ IsOf aspect flight → ⊥
none_live aspect [] [] other no_done no_flight (inl e) = other (sym e)
none_live aspect [] [] other no_done no_flight (inr of) = of
none_live aspect (first ∷ later) flight other no_done no_flight somewhere = cc (no_done)
none_live aspect [] (first ∷ later) other no_done no_flight somewhere = cc (no_flight)

linked_live : (move : LinkMove) (aspect : Aspect) (signal : Signal) → LinkMay move signal.link → IsLive aspect (signal_linked move signal) → IsLive aspect signal
linked_live Opens aspect signal may live = absurd (none_live aspect [] [] live.other refl refl live.somewhere)
linked_live Enters aspect signal may live = record { other = live.other; stays = λ e. cc (e, may.0); somewhere = live.somewhere }
linked_live ComesUp aspect signal may live = record { other = live.other; stays = live.stays; somewhere = live.somewhere }
linked_live Closes aspect signal may live = record { other = live.other; stays = live.stays; somewhere = live.somewhere }
linked_live Leaves aspect signal may live = absurd (live.stays refl)
linked_live QuietEnds aspect signal may live = record { other = live.other; stays = live.stays; somewhere = live.somewhere }

-- an aspect that is live after another is given was live before, or is that other
pub given_live : (given aspect : Aspect) (signal : Signal) → IsLive aspect (aspect_given given signal) → IsLive aspect signal ⊎ (given ≡ aspect)
given_live given aspect signal live = go live.somewhere
  where
    added : IsOf aspect signal.flight ⊎ (given ≡ aspect) → IsLive aspect signal ⊎ (given ≡ aspect)
    added (inl of) = inl (record { other = live.other; stays = live.stays; somewhere = inr of })
    added (inr e) = inr e

    go : (last_of Stop signal.done ≡ aspect) ⊎ IsOf aspect (signal.flight ++ given ∷ []) → IsLive aspect signal ⊎ (given ≡ aspect)
    go (inl e) = inl (record { other = live.other; stays = live.stays; somewhere = inl e })
    go (inr found) = added (of_added aspect given signal.flight found)

stop_live : (aspect : Aspect) (signal : Signal) → aspect ≢ Stop → IsLive aspect signal ⊎ (Stop ≡ aspect) → IsLive aspect signal
stop_live aspect signal other (inl live) = live
stop_live aspect signal other (inr e) = absurd (other (sym e))

acts_live : (aspect next : Aspect) (done later : List Aspect) → (last_of Stop (done ++ next ∷ []) ≡ aspect) ⊎ IsOf aspect later → IsOf aspect (next ∷ later)
acts_live aspect next done later (inl e) = inl (sym (last_added Stop done next) ∙ e)
acts_live aspect next done later (inr of) = inr of

acted_live : (aspect : Aspect) (signal : Signal) (flight : List Aspect) → signal.flight ≡ flight → IsLive aspect (acted flight signal) → IsLive aspect signal
acted_live aspect signal [] is live = live
acted_live aspect signal (next ∷ later) is live = record {
  other = live.other;
  stays = live.stays;
  somewhere = inr (subst (IsOf aspect) (sym is) (acts_live aspect next signal.done later live.somewhere));
}

-- no move of a signal alone brings an aspect to life
pub live_before : (move : SignalMove) (aspect : Aspect) (signal : Signal) → SignalMay move signal → IsLive aspect (signal_after move signal) → IsLive aspect signal
live_before (SignalLink move) aspect signal may live = linked_live move aspect signal may live
live_before GivesStop aspect signal may live = stop_live aspect signal live.other (given_live Stop aspect signal live)
live_before Acts aspect signal may live = acted_live aspect signal signal.flight refl live
live_before (Confirms count) aspect signal may live = record { other = live.other; stays = live.stays; somewhere = live.somewhere }
live_before (Recounts done flight) aspect signal may live = absurd (live.stays may)

-- ---- known stop

confirmed_dark : (aspect : Aspect) (signal : Signal) → IsSignalSound signal → HasStopConfirmed signal → IsLive aspect signal → ⊥
confirmed_dark aspect signal sound stop live = go live.somewhere
  where
    all_done : signal.flight ≡ []
    all_done = none_left signal.flight (omega (arith, sound.confirmed live.stays, stop.confirmed, length-append signal.done signal.flight))

    last : last_of Stop signal.done ≡ Stop
    last = ap (last_of Stop) (sym (append-nil signal.done)) ∙ subst (λ (flight : List Aspect). last_of Stop (signal.done ++ flight) ≡ Stop) all_done stop.stop

    go : (last_of Stop signal.done ≡ aspect) ⊎ IsOf aspect signal.flight → ⊥
    go (inl e) = live.other (sym e ∙ last)
    go (inr of) = subst (IsOf aspect) all_done of

down_dark : (aspect : Aspect) (signal : Signal) (server : Server) → signal.link.server ≡ server → IsSignalSound signal → signal.link.client ≡ Down → IsLive aspect signal → ⊥
down_dark aspect signal Before is sound down live = none_live aspect signal.done signal.flight live.other (sound.none_done is) (sound.none_given is) live.somewhere
down_dark aspect signal In is sound down live = sound.link.quiet down is
down_dark aspect signal Gone is sound down live = live.stays is

-- at known stop no aspect other than stop is shown or could still be shown
pub known_stop_dark : (aspect : Aspect) (signal : Signal) → IsSignalSound signal → IsAtKnownStop signal → IsLive aspect signal → ⊥
known_stop_dark aspect signal sound (inl stop) live = confirmed_dark aspect signal sound stop live
known_stop_dark aspect signal sound (inr down) live = down_dark aspect signal signal.link.server refl sound down live

-- a signal whose controller isn't in the connection has no live aspect
pub out_dark : (aspect : Aspect) (signal : Signal) (server : Server) → signal.link.server ≡ server → IsSignalSound signal → signal.link.server ≢ In → IsLive aspect signal → ⊥
out_dark aspect signal Before is sound out live = none_live aspect signal.done signal.flight live.other (sound.none_done is) (sound.none_given is) live.somewhere
out_dark aspect signal In is sound out live = out is
out_dark aspect signal Gone is sound out live = live.stays is

-- what a signal shows is live
pub shown_live : (signal : Signal) → shown signal ≢ Stop → IsLive (shown signal) signal
shown_live signal other = go signal.link.server refl other
  where
    go : (server : Server) → signal.link.server ≡ server → shown_by server signal.done ≢ Stop → IsLive (shown_by server signal.done) signal
    go Before is other = absurd (other refl)
    go In is other = record { other = other; stays = λ e. cc (e, is); somewhere = inl refl }
    go Gone is other = absurd (other refl)

-- so a signal at known stop shows stop
pub known_stop_shown : (signal : Signal) → IsSignalSound signal → IsAtKnownStop signal → shown signal ≡ Stop
known_stop_shown signal sound stop = go (shown signal) refl
  where
    go : (aspect : Aspect) → shown signal ≡ aspect → shown signal ≡ Stop
    go Stop is = is
    go (Proceed number) is = absurd (known_stop_dark (shown signal) signal sound stop (shown_live signal (λ stopped. cc (is, stopped))))
