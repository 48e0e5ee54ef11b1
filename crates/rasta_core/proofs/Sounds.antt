-- What every link keeps, so that what it hands out are PDUs.
use Rattle.std.proofs.Common.{◌≡◌, ℕ, zero, suc, ◌∙◌, ◌+◌, ◌<◌, Bool, true, false, List, [], ◌∷◌, nat_le, slice_index_or, if◌then◌else◌, refl, sym, ap, subst, arith}
use Rattle.rasta_core_spec.specs.State.{LinkState, is_open, is_asking}
use Rattle.rasta_core_spec.specs.PdusHandedOut.{header_of, pdu_of}
use Rattle.rasta_core_spec.specs.Receipt.{still_waiting, repeated, retagged}
use Rattle.rasta_core_spec.specs.identity.Identity.{Identity}
use Rattle.rasta_core_spec.specs.pdu.Pdu.{Pdu}
use Rattle.rasta_core_spec.specs.body.Body.{Body}
use Rattle.rasta_core_spec.specs.body.Body.TheVariants.{RetransmittedData}
use Rattle.rasta_core_spec.specs.Values.{IsPdu, IsBody}
use Rattle.rasta_core_spec.specs.Items.{IsItem, AreItems}
use Rattle.rasta_core_spec.specs.Each.{Each}
use Rattle.rasta_core.specs.Invariant.{IsSound}
use Rattle.rasta_core.specs.TimedEnds.{Standing, Inside, Outside, IsInside, HasHeard, heard_stamp, standing}
use Rattle.rasta_core.specs.Timely.{IsAnswering}
use Rattle.rasta_core_spec.specs.Sentences.{IsRequest}
use Rattle.rasta_core.proofs.Phases.{TypeOf}
use Rattle.rasta_core.proofs.Datagrams.{IsSpoken}

-- the items that an end holds to be unconfirmed
abbrev pub Waiting : LinkState → Type 0
Waiting l = TypeOf l.waiting

abbrev pub AreHeld : (l : LinkState) → Waiting l → Type 0
AreHeld l waiting = Each (λ held. IsItem held.item) waiting

-- a PDU that an end of this identity utters at this reading
pub record IsUttered (identity : Identity) (now : ℕ) (standing : Standing) (pdu : Pdu) : Type 0 where
  pub spoken : IsSpoken identity.role now standing pdu
  pub is_pdu : IsPdu pdu
  pub receiver : pdu.receiver ≡ identity.partner
  pub sender : pdu.sender ≡ identity.own

pub standing_open : (l : LinkState) → is_open l.phase ≡ true → standing l ≡ Inside (is_asking l) l.own_stamp l.partner_stamp
standing_open l e = ap (λ (b : Bool). if b then Inside (is_asking l) l.own_stamp l.partner_stamp else Outside l.closed_at) e

pub standing_closed : (l : LinkState) → is_open l.phase ≡ false → standing l ≡ Outside l.closed_at
standing_closed l e = ap (λ (b : Bool). if b then Inside (is_asking l) l.own_stamp l.partner_stamp else Outside l.closed_at) e

pub inside_open : (l : LinkState) → is_open l.phase ≡ true → IsInside (standing l)
inside_open l e = subst IsInside (sym (standing_open l e)) tt

pub heard_of : (asking : Bool) (own heard : ℕ) → HasHeard (Inside asking own heard) → asking ≡ false
heard_of false own heard h = refl
heard_of true own heard h = absurd h

pub of_heard : (asking : Bool) (own heard : ℕ) → asking ≡ false → HasHeard (Inside asking own heard)
of_heard asking own heard e = subst (λ (b : Bool). HasHeard (Inside b own heard)) (sym e) tt

chosen : (b : Bool) (x bound : ℕ) → 0 < bound → x < bound → (if b then 0 else x) < bound
chosen true x bound some h = some
chosen false x bound some h = h

not_chosen : (b : Bool) (x : ℕ) → b ≡ false → (if b then 0 else x) ≡ x
not_chosen true x e = cc
not_chosen false x e = refl

pub uttered : (l : LinkState) (count : ℕ) (body : Body) → IsSound l → is_open l.phase ≡ true → IsBody body
    → (IsRequest body → ⊥) → (IsAnswering l.identity.role body → is_asking l ≡ false)
    → IsUttered l.identity l.clock (standing l) (pdu_of (header_of l) count body)
unfolding header_of pdu_of
uttered l count body sound is_in is_body no_request answers = record {
  spoken = record {
    stamped = refl;
    returned = λ h. not_chosen (is_asking l) l.partner_stamp (asks h) ∙ sym (ap heard_stamp (standing_open l is_in));
    answers = λ a. subst HasHeard (sym (standing_open l is_in)) (of_heard _ _ _ (answers a));
    no_request = no_request;
  };
  is_pdu = record {
    receiver = sound.partner;
    sender = sound.own;
    sequence_number = omega arith;
    confirmed_sequence_number = chosen (is_asking l) _ _ (omega arith) (omega arith);
    time_stamp = omega arith;
    confirmed_time_stamp = chosen (is_asking l) _ _ (omega arith) sound.heard;
    body = is_body;
  };
  receiver = refl;
  sender = refl;
}
  where
    asks : HasHeard (standing l) → is_asking l ≡ false
    asks h = heard_of _ _ _ (subst HasHeard (standing_open l is_in) h)

pub one_item : (item : List ℕ) → IsItem item → AreItems (item ∷ [])
one_item item is = record { some = omega arith; most = omega arith; each = one }
  where
    one : (k : ℕ) (d : List ℕ) → k < 1 → IsItem (slice_index_or (item ∷ []) k d)
    one zero d h = is
    one (suc k) d h = absurd (omega (arith, h))

pub uttered_again : (l : LinkState) (count : ℕ) (waiting : Waiting l) → IsSound l → is_open l.phase ≡ true → is_asking l ≡ false
    → AreHeld l waiting → Each (IsUttered l.identity l.clock (standing l)) (repeated (header_of l) count waiting)
unfolding repeated
uttered_again l count [] sound is_in heard held = tt
uttered_again l count (first ∷ others) sound is_in heard held = (
  uttered l count (RetransmittedData (first.item ∷ [])) sound is_in (one_item first.item held.0) (λ r. absurd r) (λ a. heard),
  uttered_again l (count + 1) others sound is_in heard held.1,
)

-- ---- items that wait

pub held_later : (l : LinkState) (confirmed : ℕ) (waiting : Waiting l) → AreHeld l waiting → AreHeld l (still_waiting confirmed waiting)
unfolding still_waiting
held_later l confirmed [] held = tt
held_later l confirmed (first ∷ others) held = choose (nat_le first.tag confirmed) (held_later l confirmed others held.1)
  where
    choose : (b : Bool) → AreHeld l (still_waiting confirmed others) → AreHeld l (if b then still_waiting confirmed others else first ∷ others)
    choose true h = h
    choose false h = held

pub held_again : (l : LinkState) (count : ℕ) (waiting : Waiting l) → AreHeld l waiting → AreHeld l (retagged count waiting)
unfolding retagged
held_again l count [] held = tt
held_again l count (first ∷ others) held = (held.0, held_again l (count + 1) others held.1)
