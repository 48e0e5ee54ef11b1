-- Lines written one after the other.
use Rattle.std.proofs.Common.{◌≡◌, ◌<◌, ◌≤◌, ◌+◌, ℕ, List, [], ◌∷◌, ◌++◌, length, drop, get_or, Option, Result, Ok, Err, ap, sym, ◌∙◌, subst, append-nil, append_assoc}
use Rattle.std.proofs.KnownBytes.{Appends-nil, Appends-trans, Appends-kept}
use Rattle.std.proofs.lemmas.List.{drop_more, drop_all}
use Rattle.std.specs.Prelude.{OnOk}
use Rattle.std.specs.Io.KnownBytes.{Appends, Keeps}
use Rattle.simulator.specs.layout.Entries.{Site}
use Rattle.replay_lines.specs.declared.line.SimLine.{SimLine}
use Rattle.replay_lines.specs.declared.line.SimLine.TheVariants as said
use Rattle.simulator.specs.World.{IsPicture}
use Rattle.simulator.specs.simulator_spec.Flow.{Flowing}
use Rattle.replay.specs.Outset.{outset_of}
use Rattle.replay.specs.Transcript.{IsBeginning, IsTold, Transcript, Writes, feed, line, nothing, picture}

-- What was written so far goes on to a transcript of all lines, whatever those from a place on write.
pub record GoesOn (first : Flowing) (all : List SimLine) (place : ℕ) (now : Flowing) (old new : Option (List ℕ)) : Type 0 where
  pub written : List ℕ
  pub appended : Appends old new written
  pub on : (rest : List ℕ) → Transcript now (drop place all) rest → Transcript first all (written ++ rest)

pub goes-on-begins : (first : Flowing) (all : List SimLine) (known : Option (List ℕ)) → GoesOn first all 0 first known known
goes-on-begins first all known = record { written = []; appended = Appends-nil known; on = λ rest t. t }

pub goes-on-next : (first : Flowing) (all : List SimLine) (place : ℕ) (this : SimLine) (now next : Flowing) (old was new : Option (List ℕ)) (text : List ℕ)
    → place < length all → this ≡ get_or all place this → Writes now this text next → Appends was new text
    → GoesOn first all place now old was → GoesOn first all (place + 1) next old new
goes-on-next first all place this now next old was new text h at writes grows before =
    let split : drop place all ≡ this ∷ drop (place + 1) all = drop_more all place this h ∙ ap (λ l. l ∷ drop (place + 1) all) (sym at)
    in record {
      written = before.written ++ text;
      appended = Appends-trans old was new before.written text before.appended grows;
      on = λ rest t.
          subst (Transcript first all) (sym (append_assoc before.written text rest))
          (before.on (text ++ rest) (subst (λ (left : List SimLine). Transcript now left (text ++ rest)) (sym split) (line writes t)));
    }

pub goes-on-ends : (site : Site) (first : Flowing) → (all : List SimLine) → IsBeginning site (outset_of site all) first → (place : ℕ) (now : Flowing) (old was new : Option (List ℕ)) → length all ≤ place
    → GoesOn first all place now old was → Keeps was new → IsTold site all old new
goes-on-ends site first all begins place now old was new past before kept = record {
  first = first;
  begins = begins;
  written = before.written;
  transcript =
      subst (Transcript first all) (append-nil before.written)
      (before.on [] (subst (λ (left : List SimLine). Transcript now left []) (sym (drop_all place all past)) nothing));
  appended = Appends-kept old was new before.written before.appended kept;
}

-- what a line writes
pub wrote : {E : Type 0} (result : Result (Unit {0}) E) (old new : Option (List ℕ)) (was is : Flowing) (said : SimLine) (text : List ℕ)
    → OnOk result (Appends old new text) → Writes was said text is
    → OnOk result ((written : List ℕ) × Writes was said written is × Appends old new written)
wrote (Ok done) old new was is said text bytes writes = (text, writes, bytes)
wrote (Err why) old new was is said text bytes writes = tt

-- what a line that asks for the picture writes
pub wrote_picture : {E : Type 0} (result : Result (Unit {0}) E) (old new : Option (List ℕ)) (now : Flowing) (asked : SimLine) → asked ≡ said.Picture
    → OnOk result ((text : List ℕ) × IsPicture now.state.sited now.state.run text × Appends old new (feed text))
    → OnOk result ((written : List ℕ) × Writes now asked written now × Appends old new written)
wrote_picture (Ok done) old new now asked e told =
    (feed told.0, subst (λ (l : SimLine). Writes now l (feed told.0) now) (sym e) (picture told.1), told.2)
wrote_picture (Err why) old new now asked e told = tt
