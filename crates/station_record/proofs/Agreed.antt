-- Sessions of which a beginning answered as it was recorded.
use Rattle.std.proofs.Common.{◌≡◌, ◌≢◌, ◌↔◌, IsTrue, Bool, false, ℕ, suc, ◌+◌, ◌≤◌, List, ◌∷◌, length, drop, subst, sym, arith, refl}
use Rattle.std.proofs.Math.ListN.{drop_of_length-le}
use Rattle.replay.specs.World.{AnswersOtherwiseAt, AnswersSame, Played, after, answer, worlds}
use Rattle.replay.specs.replay_lines.Replay.{DiffersBehind, agrees, behind, differs, none}
use Rattle.replay.specs.replay_lines.declared.session.Entry.{Entry}

-- what a test that failed tells
pub failed : {P : Type 0} (b : Bool) → (IsTrue b ↔ P) → b ≡ false → P → ⊥
failed b h e p = let t = h.1 p in cc

-- what is told of the entries that are left is told of all
pub record Stands (all : List Entry) (first : Played) (place : ℕ) (now : Played) : Type 0 where
  pub agree : AnswersSame now (drop place all) → AnswersSame first all
  pub differ : (n : ℕ) → DiffersBehind worlds n now (drop place all) → DiffersBehind worlds (place + n) first all

pub agreed_begins : (all : List Entry) (first : Played) → Stands all first 0 first
agreed_begins all first = record {
  agree = λ h. h;
  differ = λ n h. let at : ℕ → Type 0 = λ k. DiffersBehind worlds k first all in subst at (omega arith) h;
}

pub agreed_goes_on : (all : List Entry) (first now new : Played) (place : ℕ) (entry : Entry) → drop place all ≡ entry ∷ drop (place + 1) all
    → answer now entry.event ≡ entry.answer → new ≡ after now entry.event → Stands all first place now → Stands all first (place + 1) new
agreed_goes_on all first now new place entry left agreed moved stands =
    let at : ℕ → Type 0 = λ k. DiffersBehind worlds k first all in
    record {
      agree = λ h. stands.agree (rw left (agrees {more = drop (place + 1) all} agreed (rw (sym moved) h)));
      differ = λ n h. subst at (omega arith) (stands.differ (suc n) (rw left (behind {n = n} {more = drop (place + 1) all} agreed (rw (sym moved) h))));
    }

-- the first entry that is left answers otherwise
pub differs_here : (all : List Entry) (first now : Played) (place : ℕ) (entry : Entry) → drop place all ≡ entry ∷ drop (place + 1) all
    → answer now entry.event ≢ entry.answer → Stands all first place now → AnswersOtherwiseAt (place + 1) first all
differs_here all first now place entry left other stands =
    let at : ℕ → Type 0 = λ k. DiffersBehind worlds k first all in
    (place, refl, subst at (omega arith) (stands.differ 0 (rw left (differs {more = drop (place + 1) all} other))))

-- no entry is left
pub agreed_closes : (all : List Entry) (first now : Played) (place : ℕ) → length all ≤ place → Stands all first place now → AnswersSame first all
agreed_closes all first now place past stands = stands.agree (rw (drop_of_length-le all past) none)
