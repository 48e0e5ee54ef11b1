-- Whether the events of a session answer as it was recorded.
use Rattle.std.specs.Prelude.{◌≡◌, ◌≢◌, ℕ, suc, ◌+◌, List, [], ◌∷◌}
use Rattle.simulator_event.specs.Station.{Behaviour}
use Rattle.replay_lines.specs.declared.session.Entry.{Entry}
use Rattle.replay_lines.specs.declared.agreement.Replayed.{Replayed as Verdict}
use Rattle.replay_lines.specs.declared.agreement.Replayed.TheVariants.{Same, Differs}

module _ {State : Type 0} (does : Behaviour State) where
  -- each event answers as it was recorded
  pub data AllAgree : State → List Entry → Type 0 where
    none : {old : State} → AllAgree old []
    agrees : {old : State} {entry : Entry} {more : List Entry} → does.answer old entry.event ≡ entry.answer → AllAgree (does.after old entry.event) more → AllAgree old (entry ∷ more)

  -- the event after so many answers otherwise, and each before it as it was recorded
  pub data DiffersBehind : ℕ → State → List Entry → Type 0 where
    differs : {old : State} {entry : Entry} {more : List Entry} → does.answer old entry.event ≢ entry.answer → DiffersBehind 0 old (entry ∷ more)
    behind : {n : ℕ} {old : State} {entry : Entry} {more : List Entry} → does.answer old entry.event ≡ entry.answer → DiffersBehind n (does.after old entry.event) more → DiffersBehind (suc n) old (entry ∷ more)

  -- what is told of a session: lines count from 1
  abbrev pub Judges : State → List Entry → Verdict → Type 0
  Judges old entries Same = AllAgree old entries
  Judges old entries (Differs number) = (n : ℕ) × (number ≡ n + 1) × DiffersBehind n old entries
