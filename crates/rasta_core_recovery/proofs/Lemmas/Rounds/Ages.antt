-- The clocks of two ends through good rounds.
use Rattle.rasta_core_recovery.proofs.Words.Basics.{◌≡◌, ℕ, zero, suc, ◌∙◌, ◌+◌, ◌*◌, Bool, true, false, if◌then◌else◌, List, [], ◌∷◌, ◌++◌, drop, refl, arith}
use Rattle.rasta_core_recovery.proofs.Words.Links.{Role, Sent, Call, Receives, end_after, end_later, Ends, end_of, called, later, Calls, run, partner_of}
use Rattle.rasta_core_recovery.proofs.Words.Recovery.{Flow, can_come, comings, own_work, good_round, good_rounds}

called_clock : (w who : Role) (call : Call) (ends : Ends) → (end_of w (called who call ends)).clock ≡ (end_of w ends).clock
unfolding called end_after
called_clock Role.Client Role.Client call ends = refl
called_clock Role.Client Role.Server call ends = refl
called_clock Role.Server Role.Client call ends = refl
called_clock Role.Server Role.Server call ends = refl

comings_clock : (w : Role) (t : ℕ) (ds : List Sent) (ends : Ends) → (end_of w (run (comings t ds ++ own_work) ends)).clock ≡ (end_of w ends).clock
comings_clock w t [] ends = called_clock w _ _ _ ∙ called_clock w _ _ _ ∙ called_clock w _ _ ends
comings_clock w t (d ∷ ds) ends = choose (can_come t d) (comings_clock w t ds ends) (comings_clock w t ds (called (partner_of d.sender) (Receives d.bytes d.connection) ends) ∙ called_clock w _ _ ends)
  where
    choose : (b : Bool) → (end_of w (run (comings t ds ++ own_work) ends)).clock ≡ (end_of w ends).clock
        → (end_of w (run (comings t ds ++ own_work) (called (partner_of d.sender) (Receives d.bytes d.connection) ends))).clock ≡ (end_of w ends).clock
        → (end_of w (run ((if b then Calls (partner_of d.sender) (Receives d.bytes d.connection) ∷ comings t ds else comings t ds) ++ own_work) ends)).clock ≡ (end_of w ends).clock
    choose false skip take = skip
    choose true skip take = take

later_clock : (w : Role) (ends : Ends) → (end_of w (later 10000 10000 10000 ends)).clock ≡ (end_of w ends).clock + 10000
unfolding later end_later
later_clock Role.Client ends = refl
later_clock Role.Server ends = refl

round_clock : (w : Role) (f : Flow) → (end_of w (good_round f).ends).clock ≡ (end_of w f.ends).clock + 10000
unfolding good_round
round_clock w f = comings_clock w (f.ends.time + 10000) (drop f.passed f.ends.sent) (later 10000 10000 10000 f.ends) ∙ later_clock w f.ends

pub rounds_clock : (w : Role) (n : ℕ) (f : Flow) → (end_of w (good_rounds n f).ends).clock ≡ (end_of w f.ends).clock + 10000 * n
rounds_clock w zero f = omega arith
rounds_clock w (suc n) f = let a = round_clock w (good_rounds n f) in let b = rounds_clock w n f in omega (arith, a, b)
