-- Sessions of which a beginning answered as it was recorded.
use Rattle.std.proofs.Common.{◌≡◌, ◌≢◌, ◌↔◌, IsTrue, Bool, false, ℕ, suc, ◌+◌, ◌≤◌, List, ◌∷◌, length, drop, subst, sym, arith}
use Rattle.simulator_event.specs.Station.{Behaviour}
use Rattle.replay_lines.specs.declared.session.Entry.{Entry}
use Rattle.std.proofs.Math.ListN.{drop_of_length-le}
use Rattle.replay_lines.specs.Replay.{AllAgree, DiffersBehind, none, agrees, differs, behind}

-- what a test that failed tells
pub failed : {P : Type 0} (b : Bool) → (IsTrue b ↔ P) → b ≡ false → P → ⊥
failed b h e p = let t = h.1 p in cc

module _ {State : Type 0} (does : Behaviour State) where
  -- what is told of the entries that are left is told of all
  pub record Stands (all : List Entry) (first : State) (place : ℕ) (now : State) : Type 0 where
    pub agree : AllAgree does now (drop place all) → AllAgree does first all
    pub differ : (n : ℕ) → DiffersBehind does n now (drop place all) → DiffersBehind does (place + n) first all

  pub begins : (all : List Entry) (first : State) → Stands all first 0 first
  begins all first = record {
    agree = λ h. h;
    differ = λ n h. let at : ℕ → Type 0 = λ k. DiffersBehind does k first all in subst at (omega arith) h;
  }

  pub goes_on : (all : List Entry) (first now new : State) (place : ℕ) (entry : Entry) → drop place all ≡ entry ∷ drop (place + 1) all
      → does.answer now entry.event ≡ entry.answer → new ≡ does.after now entry.event → Stands all first place now → Stands all first (place + 1) new
  goes_on all first now new place entry left agreed moved stands =
      let at : ℕ → Type 0 = λ k. DiffersBehind does k first all in
      record {
        agree = λ h. stands.agree (rw left (agrees {more = drop (place + 1) all} agreed (rw (sym moved) h)));
        differ = λ n h. subst at (omega arith) (stands.differ (suc n) (rw left (behind {n = n} {more = drop (place + 1) all} agreed (rw (sym moved) h))));
      }

  -- the first entry that is left answers otherwise
  pub ends : (all : List Entry) (first now : State) (place : ℕ) (entry : Entry) → drop place all ≡ entry ∷ drop (place + 1) all
      → does.answer now entry.event ≢ entry.answer → Stands all first place now → DiffersBehind does place first all
  ends all first now place entry left other stands =
      let at : ℕ → Type 0 = λ k. DiffersBehind does k first all in
      subst at (omega arith) (stands.differ 0 (rw left (differs {more = drop (place + 1) all} other)))

  -- no entry is left
  pub closes : (all : List Entry) (first now : State) (place : ℕ) → length all ≤ place → Stands all first place now → AllAgree does first all
  closes all first now place past stands = stands.agree (rw (drop_of_length-le all past) none)
