-- What a PDU does at an end, as far as time goes.
use Rattle.std.proofs.Common.{◌≡◌, ℕ, ◌⊎◌, inl, inr, ◌∙◌, ◌-◌, Bool, true, false, ◌&&◌, not, List, [], nat_lt, ◌==◌, if◌then◌else◌, refl, sym, ap, subst, ltb-false}
use Rattle.rasta_core_spec.specs.Parameters.{sequence_range}
use Rattle.rasta_core_spec.specs.Sequence.{distance, stamp}
use Rattle.rasta_core_spec.specs.State.{LinkState, is_open, is_asking}
use Rattle.rasta_core_spec.specs.PdusHandedOut.{Step, silent, sending, telling, closed}
use Rattle.rasta_core_spec.specs.Receipt.{Receipt, refusing, violating, age, ahead, confirms, taking, answering, missing, handing, up, bringing, in_turn, admission, admitting, testing, is_opening_again, connected}
use Rattle.rasta_core_spec.specs.reason.Reason.TheVariants as reason
use Rattle.rasta_core_spec.specs.verdict.Verdict.{Verdict}
use Rattle.rasta_core_spec.specs.verdict.Verdict.TheVariants as verdict
use Rattle.rasta_core_spec.specs.identity.Role.TheVariants as role
use Rattle.rasta_core_spec.specs.Ends.{is_taken}
use Rattle.rasta_core_spec.specs.pdu.Pdu.{Pdu}
use Rattle.rasta_core_spec.specs.body.Body.{Body}
use Rattle.rasta_core_spec.specs.body.Body.TheVariants.{ConnectionRequest, ConnectionResponse, RetransmissionRequest, RetransmissionResponse, DisconnectionRequest, Heartbeat, Data, RetransmittedData}
use Rattle.rasta_core_spec.specs.Values.{IsPdu}
use Rattle.rasta_core.specs.TimedEnds.{Standing, Inside, own_stamp, standing}
use Rattle.rasta_core.specs.Timely.{IsAnswering}
use Rattle.rasta_core.proofs.Phases.{Admits, violates, closes, in_turn_value, discards, resumes, heartbeat_admission, data_admission, again_admission, request_admission, response_admission}
use Rattle.rasta_core.specs.Invariant.{IsSound}
use Rattle.rasta_core.proofs.Sounds.{standing_open, inside_open, held_later}
use Rattle.rasta_core.proofs.InsidePdus.{Acts, IsKept, Speaks, IsSpeaker, sending_speaks, telling_speaks, answering_speaks}
use Rattle.rasta_core.proofs.States.{and_false}
use Rattle.rasta_core.proofs.Deeds.{Heard, Word, IsFor, rests, takes, Does, kept_same, speaking}
use Rattle.rasta_core.proofs.TakenDatagram.{IsFresh, returned_by}

abbrev pub Receives : LinkState → Heard → Receipt → Type 0
Receives link heard receipt = Does link heard (not (is_open link.phase) && is_taken receipt.verdict) receipt.items receipt.link receipt.pdus

pub refuses : (l : LinkState) (heard : Heard) (why : Verdict) → IsSound l → is_taken why ≡ false → Receives l heard (refusing why l)
refuses l heard why sound e = record { kept = kept_same l sound; deed = rests refl refl (and_false (not (is_open l.phase)) (is_taken why) e) refl }

pub no_entry : (a b : Bool) → a ≡ true → (not a && b) ≡ false
no_entry true b e = refl
no_entry false b e = cc

-- an end inside takes nothing of the PDU, but may speak
pub says : (l : LinkState) (heard : Heard) (step : Step) (why : Verdict) → IsSpeaker l → Speaks l step
    → Receives l heard (record { link = step.link; pdus = step.pdus; items = []; verdict = why })
says l heard step why is spoken = speaking l heard _ step is (no_entry (is_open l.phase) (is_taken why) is.is_in) spoken

pub violating_does : (l : LinkState) (heard : Heard) → IsSpeaker l → Receives l heard (violating l)
violating_does l heard is = says l heard (telling reason.State l) verdict.WrongState is (telling_speaks l reason.State is)

placed : (x y : LinkState) → IsSpeaker x → is_asking x ≡ false → IsKept x y → standing y ≡ Inside false x.own_stamp x.partner_stamp → Speaks x (silent y)
placed x y is heard kept e = record {
  kept = kept;
  acts = record { uttered = tt; goes = inl (e ∙ ap (λ (b : Bool). Inside b x.own_stamp x.partner_stamp) (sym heard) ∙ sym (standing_open x is.is_in)) };
}

-- ---- a PDU is taken

record IsTaking (link : LinkState) (pdu : Pdu) : Type 0 where
  speaker : IsSpeaker link
  heard : is_asking link ≡ false
  is_pdu : IsPdu pdu
  is_for : IsFor link.identity pdu
  is_fresh : IsFresh link.clock link.own_stamp pdu

taker : (l : LinkState) (pdu : Pdu) → IsTaking l pdu → IsSpeaker (taking pdu l)
unfolding taking
taker l pdu is = record {
  sound = record { own = is.speaker.sound.own; partner = is.speaker.sound.partner; heard = is.is_pdu.time_stamp; items = held_later l _ l.waiting is.speaker.sound.items };
  is_in = is.speaker.is_in;
}

took : (l : LinkState) (pdu : Pdu) (items : List (List ℕ)) (step : Step) → IsTaking l pdu → IsAnswering role.Client pdu.body → Speaks (taking pdu l) step
    → Receives l (Word pdu) (record { link = step.link; pdus = step.pdus; items = items; verdict = verdict.Taken })
unfolding taking age
took l pdu items step is plain spoken = record {
  kept = record { identity = spoken.kept.identity; clock = spoken.kept.clock; sound = spoken.kept.sound };
  deed = takes pdu refl is.is_for (inside_open l is.speaker.is_in)
      (subst (λ (own : ℕ). IsFresh l.clock own pdu) (sym (ap own_stamp (standing_open l is.speaker.is_in))) is.is_fresh)
      plain
      (subst (λ (s : Standing). Acts l.identity l.clock s (standing step.link) step.pdus) stands spoken.acts)
      (no_entry (is_open l.phase) true is.speaker.is_in);
}
  where
    stands : standing (taking pdu l) ≡ Inside false (returned_by l.clock pdu) pdu.time_stamp
    stands = standing_open (taking pdu l) is.speaker.is_in ∙ ap (λ (b : Bool). Inside b (returned_by l.clock pdu) pdu.time_stamp) is.heard

-- the same link, but for its phase and what time doesn't ask for
same_sound : (x y : LinkState) → IsSpeaker x → IsSound y → y.identity ≡ x.identity → y.clock ≡ x.clock → IsKept x y
same_sound x y is sound identity clock = record { identity = identity; clock = clock; sound = sound }

up_speaks : (x : LinkState) → IsSpeaker x → is_asking x ≡ false → Speaks x (silent (up x))
up_speaks x is heard = placed x (up x) is heard (record { identity = refl; clock = refl; sound = record { own = is.sound.own; partner = is.sound.partner; heard = is.sound.heard; items = is.sound.items } }) refl

handing_up_speaks : (x : LinkState) (items : List (List ℕ)) → IsSpeaker x → is_asking x ≡ false → Speaks x (silent (handing items (up x)).link)
unfolding handing
handing_up_speaks x items is heard = placed x (handing items (up x)).link is heard (record { identity = refl; clock = refl; sound = record { own = is.sound.own; partner = is.sound.partner; heard = is.sound.heard; items = is.sound.items } }) refl

handing_speaks : (x : LinkState) (items : List (List ℕ)) → IsSpeaker x → Speaks x (silent (handing items x).link)
unfolding handing
handing_speaks x items is = record {
  kept = record { identity = refl; clock = refl; sound = record { own = is.sound.own; partner = is.sound.partner; heard = is.sound.heard; items = is.sound.items } };
  acts = record { uttered = tt; goes = inl refl };
}

still_heard : (l : LinkState) (pdu : Pdu) → IsTaking l pdu → is_asking (taking pdu l) ≡ false
unfolding taking
still_heard l pdu is = is.heard

bringing_does : (l : LinkState) (pdu : Pdu) (body : Body) → IsTaking l pdu → IsAnswering role.Client pdu.body → Receives l (Word pdu) (bringing body (taking pdu l))
unfolding bringing handing
bringing_does l pdu (Data items) is plain = took l pdu items (silent (handing items (up (taking pdu l))).link) is plain (handing_up_speaks (taking pdu l) items (taker l pdu is) (still_heard l pdu is))
bringing_does l pdu (RetransmittedData items) is plain = took l pdu items (silent (handing items (taking pdu l)).link) is plain (handing_speaks (taking pdu l) items (taker l pdu is))
bringing_does l pdu RetransmissionRequest is plain = took l pdu [] (answering (taking pdu l)) is plain (answering_speaks (taking pdu l) (taker l pdu is) (still_heard l pdu is))
bringing_does l pdu _ is plain = took l pdu [] (silent (up (taking pdu l))) is plain (up_speaks (taking pdu l) (taker l pdu is) (still_heard l pdu is))

missing_does : (l : LinkState) (heard : Heard) → IsSpeaker l → is_asking l ≡ false → Receives l heard (missing l)
unfolding missing sending
missing_does l heard is has_heard = says l heard (record { link = (missing l).link; pdus = (missing l).pdus }) verdict.Asked is (record {
  kept = record { identity = refl; clock = refl; sound = record { own = is.sound.own; partner = is.sound.partner; heard = is.sound.heard; items = is.sound.items } };
  acts = record {
    uttered = (sending_speaks l RetransmissionRequest is tt (λ r. absurd r) (λ a. has_heard)).acts.uttered;
    goes = inl (ap (λ (b : Bool). Inside b l.own_stamp l.partner_stamp) (sym has_heard) ∙ sym (standing_open l is.is_in));
  };
})

in_turn_does : (l : LinkState) (pdu : Pdu) → IsTaking l pdu → IsAnswering role.Client pdu.body → Receives l (Word pdu) (in_turn pdu l)
unfolding in_turn
in_turn_does l pdu is plain = choose (ahead pdu l == 0)
  where
    choose : (b : Bool) → Receives l (Word pdu) (if b then bringing pdu.body (taking pdu l) else missing l)
    choose true = bringing_does l pdu pdu.body is plain
    choose false = missing_does l (Word pdu) is.speaker is.heard

-- what an admission can be, and what it says of the PDU
abbrev Admitted : (l : LinkState) → Body → Admits l → Type 0
Admitted l body admitted =
    (admitted ≡ violates l) ⊎ ((admitted ≡ discards l) ⊎ ((admitted ≡ closes l)
    ⊎ (((admitted ≡ resumes l) × IsAnswering role.Client body) ⊎ ((admitted ≡ in_turn_value l) × IsAnswering role.Client body))))

admitted : (l : LinkState) (body : Body) → Admitted l body (admission body l.phase)
admitted l (ConnectionRequest o) = inl refl
admitted l (ConnectionResponse o) = inl refl
admitted l RetransmissionRequest = elim (request_admission l) [ inl e ↦ inr (inr (inr (inr (e, tt)))) | inr f ↦ elim f [ inl e ↦ inr (inl e) | inr e ↦ inl e ] ]
admitted l RetransmissionResponse = elim (response_admission l) [ inl e ↦ inr (inr (inr (inl (e, tt)))) | inr e ↦ inl e ]
admitted l (DisconnectionRequest detail reason) = inr (inr (inl refl))
admitted l Heartbeat = elim (heartbeat_admission l) [ inl e ↦ inr (inr (inr (inr (e, tt)))) | inr e ↦ inr (inl e) ]
admitted l (Data items) = elim (data_admission l items) [ inl e ↦ inr (inr (inr (inr (e, tt)))) | inr e ↦ inr (inl e) ]
admitted l (RetransmittedData items) = elim (again_admission l items) [ inl e ↦ inr (inr (inr (inr (e, tt)))) | inr f ↦ elim f [ inl e ↦ inr (inl e) | inr e ↦ inl e ] ]

closed_again : (l : LinkState) (pdu : Pdu) → IsTaking l pdu → Speaks l (silent (closed (taking pdu l)))
unfolding taking
closed_again l pdu is = record {
  kept = record { identity = refl; clock = refl; sound = record { own = by.sound.own; partner = by.sound.partner; heard = by.sound.heard; items = by.sound.items } };
  acts = record { uttered = tt; goes = inr refl };
}
  where
    by : IsSpeaker (taking pdu l)
    by = taker l pdu is

resumed : (l : LinkState) (pdu : Pdu) → IsTaking l pdu → IsAnswering role.Client pdu.body → Receives l (Word pdu) (admitting (resumes l) pdu l)
unfolding admitting missing
resumed l pdu is plain = took l pdu [] (silent (admitting (resumes l) pdu l).link) is plain
    (placed (taking pdu l) (admitting (resumes l) pdu l).link by (still_heard l pdu is) (record { identity = refl; clock = refl; sound = record { own = by.sound.own; partner = by.sound.partner; heard = by.sound.heard; items = by.sound.items } }) refl)
  where
    by : IsSpeaker (taking pdu l)
    by = taker l pdu is

admitting_does : (l : LinkState) (pdu : Pdu) (value : Admits l) → IsTaking l pdu → Admitted l pdu.body value → Receives l (Word pdu) (admitting value pdu l)
unfolding admitting missing
admitting_does l pdu value is (inl e) = subst (λ (a : Admits l). Receives l (Word pdu) (admitting a pdu l)) (sym e) (violating_does l (Word pdu) is.speaker)
admitting_does l pdu value is (inr (inl e)) = subst (λ (a : Admits l). Receives l (Word pdu) (admitting a pdu l)) (sym e) (refuses l (Word pdu) verdict.Discarded is.speaker.sound refl)
admitting_does l pdu value is (inr (inr (inl e))) = subst (λ (a : Admits l). Receives l (Word pdu) (admitting a pdu l)) (sym e) (says l (Word pdu) (silent (closed (taking pdu l))) verdict.Taken is.speaker (closed_again l pdu is))
admitting_does l pdu value is (inr (inr (inr (inl e)))) = subst (λ (a : Admits l). Receives l (Word pdu) (admitting a pdu l)) (sym e.0) (resumed l pdu is e.1)
admitting_does l pdu value is (inr (inr (inr (inr e)))) = subst (λ (a : Admits l). Receives l (Word pdu) (admitting a pdu l)) (sym e.0) (in_turn_does l pdu is e.1)

-- ---- the tests

testing_does : (l : LinkState) (pdu : Pdu) → IsSpeaker l → is_asking l ≡ false → IsPdu pdu → IsFor l.identity pdu → Receives l (Word pdu) (testing pdu l)
unfolding testing age
testing_does l pdu is heard is_pdu is_for = choose (nat_lt sequence_range (ahead pdu l)) (nat_lt (l.clock - l.own_stamp) (distance pdu.confirmed_time_stamp (stamp l.clock))) (not (confirms pdu l)) refl
  where
    choose : (a b d : Bool) → nat_lt (l.clock - l.own_stamp) (distance pdu.confirmed_time_stamp (stamp l.clock)) ≡ b
        → Receives l (Word pdu) (if a then refusing verdict.OutOfRange l else if b then refusing verdict.Stale l
        else if d then refusing verdict.BadConfirm l else admitting (admission pdu.body l.phase) pdu l)
    choose true b d eb = refuses l (Word pdu) verdict.OutOfRange is.sound refl
    choose false true d eb = refuses l (Word pdu) verdict.Stale is.sound refl
    choose false false true eb = refuses l (Word pdu) verdict.BadConfirm is.sound refl
    choose false false false eb = admitting_does l pdu (admission pdu.body l.phase)
        (record { speaker = is; heard = heard; is_pdu = is_pdu; is_for = is_for; is_fresh = record { fresh = ltb-false _ _ eb } })
        (admitted l pdu.body)

pub connected_does : (l : LinkState) (pdu : Pdu) (body : Body) → IsSpeaker l → is_asking l ≡ false → IsPdu pdu → IsFor l.identity pdu → Receives l (Word pdu) (connected body pdu l)
unfolding connected
connected_does l pdu (ConnectionRequest o) is heard is_pdu is_for = choose (is_opening_again pdu l)
  where
    choose : (b : Bool) → Receives l (Word pdu) (if b then refusing verdict.Discarded l else violating l)
    choose true = refuses l (Word pdu) verdict.Discarded is.sound refl
    choose false = violating_does l (Word pdu) is
connected_does l pdu _ is heard is_pdu is_for = testing_does l pdu is heard is_pdu is_for
