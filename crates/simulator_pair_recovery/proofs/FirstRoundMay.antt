-- What comes to two ends, each of it sent by the time that it comes: so it may come.
use Rattle.std.proofs.Common.{◌≡◌, ℕ, inl, inr, ◌∙◌, ◌+◌, Bool, true, false, ◌&&◌, not, nat_le, if◌then◌else◌, List, [], ◌∷◌, ◌++◌, refl, sym, subst, arith, leb-true}
use Rattle.rasta_core_spec.specs.Bag.{lifetime}
use Rattle.rasta_core_spec.specs.identity.Role.{Role}
use Rattle.rasta_core_spec.specs.identity.Role.TheVariants as role
use Rattle.rasta_core_spec.specs.Ends.{Call, Receives, Sent}
use Rattle.rasta_core_spec.specs.Events.{Calls, IsAmong, MayRun, run}
use Rattle.rasta_core_spec.specs.Names.{Names, partner_of}
use Rattle.rasta_core_spec.specs.Run.{Ends, called}
use Rattle.rasta_core_recovery.specs.FirstRound.{WereSent}
use Rattle.rasta_core_recovery.specs.Rounds.{can_come, comings, own_work}

-- each of these can come to these ends, and was sent by then
abbrev pub AreSentAsTheyCome : ℕ → List Sent → Ends → Type 0
AreSentAsTheyCome time [] ends = Unit {0}
AreSentAsTheyCome time (e ∷ due) ends = IsAmong e ends.sent × (can_come time e ≡ true) × AreSentAsTheyCome time due (called (partner_of e.sender) (Receives e.bytes e.connection) ends)

among_front : (d : Sent) (xs ys : List Sent) → IsAmong d xs → IsAmong d (xs ++ ys)
among_front d [] ys is = absurd is
among_front d (x ∷ xs) ys (inl same) = inl same
among_front d (x ∷ xs) ys (inr is) = inr (among_front d xs ys is)

pub among_middle : (d : Sent) (xs ys : List Sent) → IsAmong d (xs ++ d ∷ ys)
among_middle d [] ys = inl refl
among_middle d (x ∷ xs) ys = inr (among_middle d xs ys)

pub still_sent : (who : Role) (call : Call) (ends : Ends) (d : Sent) → IsAmong d ends.sent → IsAmong d (called who call ends).sent
unfolding called
still_sent who call ends d is = among_front d ends.sent _ is

same_time : (who : Role) (call : Call) (ends : Ends) → (called who call ends).time ≡ ends.time
unfolding called
same_time role.Client call ends = refl
same_time role.Server call ends = refl

all_stay : (time : ℕ) (due : List Sent) (ends : Ends) (d : Sent) → IsAmong d ends.sent → IsAmong d (run (comings time due) ends).sent
all_stay time [] ends d is = is
all_stay time (e ∷ due) ends d is = choose (can_come time e) (all_stay time due ends d is)
    (all_stay time due (called (partner_of e.sender) (Receives e.bytes e.connection) ends) d (still_sent (partner_of e.sender) (Receives e.bytes e.connection) ends d is))
  where
    choose : (b : Bool) → IsAmong d (run (comings time due) ends).sent
        → IsAmong d (run (comings time due) (called (partner_of e.sender) (Receives e.bytes e.connection) ends)).sent
        → IsAmong d (run (if b then Calls (partner_of e.sender) (Receives e.bytes e.connection) ∷ comings time due else comings time due) ends).sent
    choose true one other = other
    choose false one other = one

pub they_were_sent : (time : ℕ) (due : List Sent) (ends : Ends) → AreSentAsTheyCome time due ends → WereSent (run (comings time due) ends).sent due
they_were_sent time [] ends are = tt
they_were_sent time (e ∷ due) ends are = (
  all_stay time (e ∷ due) ends e are.0,
  subst (λ (c : Bool). WereSent (run (if c then Calls (partner_of e.sender) (Receives e.bytes e.connection) ∷ comings time due else comings time due) ends).sent due) (sym are.1)
      (they_were_sent time due (called (partner_of e.sender) (Receives e.bytes e.connection) ends) are.2),
)

both_true : (a b : Bool) → (a && b) ≡ true → b ≡ true
both_true true b e = e
both_true false b e = cc

pub they_may_come : (names : Names) (time : ℕ) (due : List Sent) (ends : Ends) → AreSentAsTheyCome time due ends → ends.time ≡ time → MayRun names (comings time due ++ own_work) ends
they_may_come names time [] ends are at = (tt, (tt, (tt, tt)))
they_may_come names time (e ∷ due) ends are at =
    subst (λ (c : Bool). MayRun names ((if c then Calls (partner_of e.sender) (Receives e.bytes e.connection) ∷ comings time due else comings time due) ++ own_work) ends) (sym are.1) (
      inl (e, record { was_sent = are.0; bytes_same = refl; connection_same = refl; in_time = omega (arith, at, leb-true _ _ (both_true (not e.is_lost) (nat_le time (e.at + lifetime)) are.1)) }),
      they_may_come names time due (called (partner_of e.sender) (Receives e.bytes e.connection) ends) are.2 (same_time (partner_of e.sender) (Receives e.bytes e.connection) ends ∙ at),
    )
