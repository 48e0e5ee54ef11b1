-- What an end inside hands out, and where it stands after it.
use Rattle.std.proofs.Common.{◌≡◌, ℕ, ◌⊎◌, inl, inr, ◌+◌, ◌^◌, ◌<◌, Bool, true, false, List, [], ◌∷◌, nat_eq, ◌==◌, if◌then◌else◌, refl, arith}
use Rattle.std.specs.Cmp.Lexicographic.{pointwise}
use Rattle.rasta_core_spec.specs.Parameters.{window_size, own_version}
use Rattle.rasta_core_spec.specs.State.{LinkState, is_open, is_asking, is_client}
use Rattle.rasta_core_spec.specs.PdusHandedOut.{Step, silent, then_do, sending, telling, closed, closing, reason_number, is_told, giving}
use Rattle.rasta_core_spec.specs.Establishment.{judging}
use Rattle.rasta_core_spec.specs.Receipt.{answering, repeating}
use Rattle.rasta_core_spec.specs.reason.Reason.{Reason}
use Rattle.rasta_core_spec.specs.reason.Reason.TheVariants as reason
use Rattle.rasta_core_spec.specs.identity.Identity.{Identity}
use Rattle.rasta_core_spec.specs.identity.Role.{Role}
use Rattle.rasta_core_spec.specs.identity.Role.TheVariants as role
use Rattle.rasta_core_spec.specs.pdu.Pdu.{Pdu}
use Rattle.rasta_core_spec.specs.body.Opening.{Opening}
use Rattle.rasta_core_spec.specs.body.Body.{Body}
use Rattle.rasta_core_spec.specs.body.Body.TheVariants.{RetransmissionResponse, DisconnectionRequest, Heartbeat, Data}
use Rattle.rasta_core_spec.specs.Values.{IsBody}
use Rattle.rasta_core_spec.specs.Items.{IsItem}
use Rattle.rasta_core_spec.specs.Each.{Each}
use Rattle.rasta_core.specs.TimedEnds.{Standing, Outside, standing}
use Rattle.rasta_core.specs.Timely.{IsAnswering}
use Rattle.rasta_core_spec.specs.Sentences.{IsRequest}
use Rattle.rasta_core.proofs.EachLaws.{each_join}
use Rattle.rasta_core.proofs.Phases.{asking_client}
use Rattle.rasta_core.specs.Invariant.{IsSound}
use Rattle.rasta_core.proofs.Sounds.{IsUttered, uttered, uttered_again, held_again, one_item}

-- an end that stands so utters PDUs, and goes on or closes
pub record Acts (identity : Identity) (now : ℕ) (speaking after : Standing) (pdus : List Pdu) : Type 0 where
  pub uttered : Each (IsUttered identity now speaking) pdus
  pub goes : (after ≡ speaking) ⊎ (after ≡ Outside now)

pub record IsKept (old new : LinkState) : Type 0 where
  pub identity : new.identity ≡ old.identity
  pub clock : new.clock ≡ old.clock
  pub sound : IsSound new

pub record Speaks (link : LinkState) (step : Step) : Type 0 where
  pub kept : IsKept link step.link
  pub acts : Acts link.identity link.clock (standing link) (standing step.link) step.pdus

-- an end that may speak
pub record IsSpeaker (link : LinkState) : Type 0 where
  pub sound : IsSound link
  pub is_in : is_open link.phase ≡ true

pub sending_speaks : (l : LinkState) (body : Body) → IsSpeaker l → IsBody body
    → (IsRequest body → ⊥) → (IsAnswering l.identity.role body → is_asking l ≡ false) → Speaks l (sending body l)
unfolding sending
sending_speaks l body is is_body no_request answers = record {
  kept = record { identity = refl; clock = refl; sound = record { own = is.sound.own; partner = is.sound.partner; heard = is.sound.heard; items = is.sound.items } };
  acts = record { uttered = (uttered l l.sent body is.sound is.is_in is_body no_request answers, tt); goes = inl refl };
}

small_reason : (why : Reason) → reason_number why < 2 ^ 16
small_reason reason.User = omega arith
small_reason reason.State = omega arith
small_reason reason.Sequence = omega arith
small_reason reason.Time = omega arith
small_reason reason.Version = omega arith
small_reason reason.Window = omega arith

-- a disconnection request is an answer of a server alone, which has heard
closing_answers : (r : Role) (asks : Bool) (detail number : ℕ) → (asks ≡ true → is_client r ≡ true) → IsAnswering r (DisconnectionRequest detail number) → asks ≡ false
closing_answers role.Client asks detail number only a = absurd a
closing_answers role.Server true detail number only a = absurd (cc (only refl))
closing_answers role.Server false detail number only a = refl

pub telling_speaks : (l : LinkState) (why : Reason) → IsSpeaker l → Speaks l (telling why l)
unfolding telling sending
telling_speaks l why is = record {
  kept = record { identity = refl; clock = refl; sound = record { own = is.sound.own; partner = is.sound.partner; heard = is.sound.heard; items = is.sound.items } };
  acts = record {
    uttered = (uttered l l.sent (DisconnectionRequest 0 (reason_number why)) is.sound is.is_in (omega arith, small_reason why) (λ r. absurd r) (closing_answers l.identity.role (is_asking l) 0 (reason_number why) (asking_client l)), tt);
    goes = inr refl;
  };
}

pub closed_speaks : (l : LinkState) → IsSpeaker l → Speaks l (silent (closed l))
closed_speaks l is = record {
  kept = record { identity = refl; clock = refl; sound = record { own = is.sound.own; partner = is.sound.partner; heard = is.sound.heard; items = is.sound.items } };
  acts = record { uttered = tt; goes = inr refl };
}

pub closing_speaks : (l : LinkState) (why : Reason) → IsSpeaker l → Speaks l (closing why l)
unfolding closing
closing_speaks l why is = choose (is_told why)
  where
    choose : (b : Bool) → Speaks l (if b then telling why l else silent (closed l))
    choose true = telling_speaks l why is
    choose false = closed_speaks l is

pub judging_speaks : (l : LinkState) (opening : Opening) (agreed : LinkState → Step) → IsSpeaker l → Speaks l (agreed l) → Speaks l (judging opening agreed l)
unfolding judging
judging_speaks l opening agreed is says = choose (pointwise nat_eq opening.version own_version) (opening.window == window_size)
  where
    choose : (b c : Bool) → Speaks l (if b then (if c then agreed l else telling reason.Window l) else telling reason.Version l)
    choose true true = says
    choose true false = telling_speaks l reason.Window is
    choose false c = telling_speaks l reason.Version is

pub answering_speaks : (l : LinkState) → IsSpeaker l → is_asking l ≡ false → Speaks l (answering l)
unfolding answering sending repeating
answering_speaks l is heard = record {
  kept = record { identity = refl; clock = refl; sound = record { own = is.sound.own; partner = is.sound.partner; heard = is.sound.heard; items = held_again l (l.sent + 1) l.waiting is.sound.items } };
  acts = record {
    uttered = each_join (IsUttered l.identity l.clock (standing l)) (then_do (sending RetransmissionResponse l) repeating).pdus (sending Heartbeat last).pdus
        (each_join (IsUttered l.identity l.clock (standing l)) (sending RetransmissionResponse l).pdus (repeating after).pdus
        (uttered l l.sent RetransmissionResponse is.sound is.is_in tt (λ r. absurd r) (λ a. heard), tt)
        (uttered_again after (l.sent + 1) l.waiting (record { own = is.sound.own; partner = is.sound.partner; heard = is.sound.heard; items = is.sound.items }) is.is_in heard is.sound.items))
        (uttered last last.sent Heartbeat (record { own = is.sound.own; partner = is.sound.partner; heard = is.sound.heard; items = held_again l (l.sent + 1) l.waiting is.sound.items }) is.is_in tt (λ r. absurd r) (λ a. heard), tt);
    goes = inl refl;
  };
}
  where
    after : LinkState
    after = (sending RetransmissionResponse l).link

    last : LinkState
    last = (then_do (sending RetransmissionResponse l) repeating).link

pub giving_speaks : (l : LinkState) (item : List ℕ) → IsSpeaker l → is_asking l ≡ false → IsItem item → Speaks l (giving item l)
unfolding giving sending
giving_speaks l item is heard is_item = record {
  kept = record { identity = refl; clock = refl; sound = record { own = is.sound.own; partner = is.sound.partner; heard = is.sound.heard; items = each_join _ _ _ is.sound.items (is_item, tt) } };
  acts = record {
    uttered = (uttered l l.sent (Data (item ∷ [])) is.sound is.is_in (one_item item is_item) (λ r. absurd r) (λ a. heard), tt);
    goes = inl refl;
  };
}
