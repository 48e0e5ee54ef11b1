-- Lists of moves follow one another.
use Rattle.std.proofs.Common.{◌≡◌, List, [], ◌∷◌, ◌++◌, refl, sym, ap, subst, ◌∙◌}
use Rattle.train_machine.specs.Track.{Track, IsSound}
use Rattle.train_machine.specs.Machine.{Machine}
use Rattle.train_machine.specs.Moves.{Move, May, after}
use Rattle.train_machine.specs.Run.{right_rules, run, MayRun, MovesTo}
use Rattle.train_machine.specs.Invariant.{Invariant}
use Rattle.train_machine.proofs.Kept.{run_kept}

module _ (track : Track) where
  pub stays : (machine : Machine) → MovesTo track machine machine
  stays machine = record { moves = []; may = tt; leads = refl }

  pub one_move : (machine : Machine) (move : Move) → May track machine move → MovesTo track machine (after track machine move)
  one_move machine move may = record { moves = move ∷ []; may = (may, tt); leads = refl }

  both_may : (moves later : List Move) (machine : Machine) → MayRun right_rules track moves machine → MayRun right_rules track later (run right_rules track moves machine)
      → MayRun right_rules track (moves ++ later) machine
  both_may [] later machine may may_later = may_later
  both_may (move ∷ moves) later machine may may_later = (may.0, both_may moves later (after track machine move) may.1 may_later)

  both_run : (moves later : List Move) (machine : Machine) → run right_rules track (moves ++ later) machine ≡ run right_rules track later (run right_rules track moves machine)
  both_run [] later machine = refl
  both_run (move ∷ moves) later machine = both_run moves later (after track machine move)

  pub then_reaches : (old between new : Machine) → MovesTo track old between → MovesTo track between new → MovesTo track old new
  then_reaches old between new first second = record {
    moves = first.moves ++ second.moves;
    may = both_may first.moves second.moves old first.may (subst (λ (m : Machine). MayRun right_rules track second.moves m) (sym first.leads) second.may);
    leads = both_run first.moves second.moves old ∙ (ap (run right_rules track second.moves) first.leads ∙ second.leads);
  }

  pub reached_kept : IsSound track → (old new : Machine) → Invariant track old → MovesTo track old new → Invariant track new
  reached_kept sound old new kept reaches = subst (λ (m : Machine). Invariant track m) reaches.leads (run_kept track sound reaches.moves old kept reaches.may)
