-- Rounds after others.
use Rattle.std.proofs.Common.{◌≡◌, ◌≤◌, length, ℕ, List, [], ◌∷◌, ◌++◌, map, Option, sym, ap, ◌∙◌, subst, append_assoc, append-nil}
use Rattle.std.proofs.lemmas.List.{map-append}
use Rattle.control_table.specs.layout.Entries.{Site}
use Rattle.station_drive.specs.Doings.{Behaviour, Doing, EngineState, Performs, Stops, state_after}
use Rattle.station_drive.specs.Rounds.{RunSoFar, RoundHeard, round, rounds, after_round, run_after}
use Rattle.station_drive.specs.Told.{Call, Grows}
use Rattle.station_drive.proofs.Composed.{Grows-trans, performs_same, performs_then, state_after-append, stops_after, stops_same}

module _ {State : Type 0} (does : Behaviour State) (site : Site) where
  -- how far a run has come after rounds
  abbrev pub standing_end : State → RunSoFar → List RoundHeard → RunSoFar
  standing_end state standing [] = standing
  standing_end state standing (turn ∷ turns) =
      let new = after_round does site state standing turn
      in standing_end new (run_after does new standing turn.reading) turns

  pub rounds-push : (state : State) (standing : RunSoFar) (turns : List RoundHeard) (turn : RoundHeard)
      → rounds does site state standing (turns ++ turn ∷ []) ≡ rounds does site state standing turns ++ round site (standing_end state standing turns) turn
  rounds-push state standing [] turn = append-nil (round site standing turn)
  rounds-push state standing (one ∷ more) turn =
      let new = after_round does site state standing one in
      let next = run_after does new standing one.reading in
      ap (λ (l : List Doing). round site standing one ++ l) (rounds-push new next more turn)
      ∙ sym (append_assoc (round site standing one) (rounds does site new next more) _)

  pub standing_end-push : (state : State) (standing : RunSoFar) (turns : List RoundHeard) (turn : RoundHeard) (new : State)
      → new ≡ state_after does state (rounds does site state standing (turns ++ turn ∷ []))
      → standing_end state standing (turns ++ turn ∷ []) ≡ run_after does new (standing_end state standing turns) turn.reading
  standing_end-push state standing [] turn new h =
      ap (λ (p : State). run_after does p standing turn.reading) (sym (h ∙ ap (state_after does state) (append-nil (round site standing turn))))
  standing_end-push state standing (one ∷ more) turn new h =
      let then : State = after_round does site state standing one in
      let next : RunSoFar = run_after does then standing one.reading in
      standing_end-push then next more turn new (h ∙ state_after-append does state (round site standing one) (rounds does site then next (more ++ turn ∷ [])))

-- the readings of one more round
pub next_read : (a b c : Option (List ℕ)) (first : ℕ) (turns : List RoundHeard) (turn : RoundHeard)
    → Grows a b (first ∷ map (λ t. t.reading) turns) → Grows b c (turn.reading ∷ []) → Grows a c (first ∷ map (λ t. t.reading) (turns ++ turn ∷ []))
next_read a b c first turns turn p q =
    let reading : RoundHeard → ℕ = λ t. t.reading in
    subst (Grows a c) (ap (λ l. first ∷ l) (sym (map-append reading turns (turn ∷ [])))) (Grows-trans a b c (first ∷ map reading turns) (turn.reading ∷ []) p q)

-- a round seen from the layout and the course that were at the beginning
from_start : (other site : Site) (standing end : RunSoFar) (turn : RoundHeard) → other ≡ site → standing ≡ end → round other standing turn ≡ round site end turn
from_start other site standing end turn e same = ap (λ (p : Site). round p standing turn) e ∙ ap (λ (s : RunSoFar). round site s turn) same

module _ {State Net : Type 0} {does : Behaviour State} {carries : Net → Call → Net → Type 0} where
  -- one more round
  pub next_round : {a b c : EngineState State Net} (start standing : RunSoFar) (turns : List RoundHeard) (turn : RoundHeard) → standing ≡ standing_end does a.site a.state start turns
      → Performs does carries (rounds does a.site a.state start turns) a b → Performs does carries (round b.site standing turn) b c
      → Performs does carries (rounds does a.site a.state start (turns ++ turn ∷ [])) a c
  next_round {a} {b} {c} start standing turns turn same before now =
      performs_same (sym (rounds-push does a.site a.state start turns turn)) (performs_then before (performs_same (from_start b.site a.site standing _ turn before.same_site same) now))

  -- a round that was broken off
  pub broken_round : {a b c : EngineState State Net} (start standing : RunSoFar) (turns : List RoundHeard) (turn : RoundHeard) → standing ≡ standing_end does a.site a.state start turns
      → Performs does carries (rounds does a.site a.state start turns) a b → Stops does carries (round b.site standing turn) b c
      → (s : Stops does carries (rounds does a.site a.state start (turns ++ turn ∷ [])) a c) × (length (rounds does a.site a.state start turns) ≤ s.count)
  broken_round {a} {b} {c} start standing turns turn same before now =
      let cut : Stops does carries (round a.site (standing_end does a.site a.state start turns) turn) b c = stops_same (from_start b.site a.site standing _ turn before.same_site same) now in
      let whole : List Doing = rounds does a.site a.state start turns in
      subst (λ (l : List Doing). (s : Stops does carries l a c) × (length whole ≤ s.count)) (sym (rounds-push does a.site a.state start turns turn)) (stops_after before cut)

  pub next_standing : {a c : EngineState State Net} (start standing after : RunSoFar) (turns : List RoundHeard) (turn : RoundHeard)
      → Performs does carries (rounds does a.site a.state start (turns ++ turn ∷ [])) a c
      → standing ≡ standing_end does a.site a.state start turns → after ≡ run_after does c.state standing turn.reading
      → after ≡ standing_end does a.site a.state start (turns ++ turn ∷ [])
  next_standing {a} {c} start standing after turns turn performs same h =
      h ∙ (ap (λ (s : RunSoFar). run_after does c.state s turn.reading) same ∙ sym (standing_end-push does a.site a.state start turns turn c.state performs.state_is))
