-- Captures grow by one datagram after the other.
use Rattle.std.proofs.Common.{◌≡◌, ◌∙◌, ℕ, ◌<◌, List, [], ◌∷◌, ◌++◌, length, map, Some, Result, Ok, Err, ap, sym, subst, slice_get, append_assoc, append-nil, refl}
use Rattle.std.specs.Prelude.{IfErr, IsErrAnd}
use Rattle.std.proofs.lemmas.List.{flat_map_more, map-append}
use Rattle.capture_file.specs.Blocks.{head, packet_block}
use Rattle.capture_file.specs.Captures.{IsCapture}
use Rattle.capture_file.specs.Journeys.{Sent as Captured}
use Rattle.node_record.specs.CapturedRecord.{HasTooLong, IsCaptureOf, captured}
use Rattle.node_record.specs.NodeEnds.{Ends}
use Rattle.node_record.specs.NodeTraffic.{Passed}
use Rattle.node_record.specs.inside.CapturesSoFar.{Adds, HasTooLongOf, IsNoCapture}
use Rattle.capture_file.specs.declared.fault.CaptureFault.TheVariants.{TooLong}
use Rattle.station_check.specs.declared.failure.Failure.{Failure}
use Rattle.station_check.specs.declared.failure.Failure.TheVariants.{Capture, OutOfMemory}
use Rattle.node_record.specs.inside.Passing.{seen}
use Rattle.node_record.specs.declared.passage.Passed.{Passed as Code}

-- Bytes are a capture of some datagrams, and these and those that are left are all.
pub record Captures (given : Ends) (node : ℕ) (all left : List Code) (file : List ℕ) : Type 0 where
  pub done : List Passed
  pub are : IsCaptureOf given node done file
  pub on : done ++ map seen left ≡ map seen all

pub begins : (given : Ends) (node : ℕ) (all : List Code) (file : List ℕ) → file ≡ head → IsCapture [] file → Captures given node all all file
begins given node all file exact is = record { done = []; are = record { is = is; exact = exact ∙ sym (append-nil head) }; on = refl }

-- one more
added : (given : Ends) (node : ℕ) (done : List Passed) (one : Passed) (old new : List ℕ) → Adds given node one old new → IsCaptureOf given node done old
    → IsCaptureOf given node (done ++ one ∷ []) new
added given node done one old new adds before = record {
  is = subst (λ (all : List Captured). IsCapture all new) (sym (map-append (captured given node) done (one ∷ []))) (adds.is (map (captured given node) done) before.is);
  exact = adds.exact ∙ (ap (λ t. t ++ packet_block (captured given node one)) before.exact ∙ flat_map_more (λ one. packet_block (captured given node one)) head done one);
}

pub grows : (given : Ends) (node : ℕ) (all left more : List Code) (one : Code) (old new : List ℕ) → left ≡ one ∷ more → Adds given node (seen one) old new
    → Captures given node all left old → Captures given node all more new
grows given node all left more one old new split adds before = record {
  done = before.done ++ seen one ∷ [];
  are = added given node before.done (seen one) old new adds before.are;
  on = append_assoc before.done (seen one ∷ []) (map seen more) ∙ (ap (λ (l : List Code). before.done ++ map seen l) (sym split) ∙ before.on);
}

pub ends : (given : Ends) (node : ℕ) (all left : List Code) (file : List ℕ) → left ≡ [] → Captures given node all left file → IsCaptureOf given node (map seen all) file
ends given node all left file none before =
    let whole : before.done ≡ map seen all = sym (append-nil before.done) ∙ (ap (λ (l : List Code). before.done ++ map seen l) (sym none) ∙ before.on) in
    subst (λ (all : List Passed). IsCaptureOf given node all file) whole before.are

-- ---- one that is too long

there : {A : Type 0} (done : List A) (one : A) (more : List A) → slice_get (done ++ one ∷ more) (length done) ≡ Some one
there [] one more = refl
there (first ∷ done) one more = there done one more

pub too_long : (given : Ends) (node : ℕ) (all left more : List Code) (one : Code) (file : List ℕ) → left ≡ one ∷ more → 512 < length (seen one).bytes
    → Captures given node all left file → HasTooLong (map seen all)
too_long given node all left more one file split long before = record {
  place = length before.done;
  one = seen one;
  there = subst (λ (whole : List Passed). slice_get whole (length before.done) ≡ Some (seen one))
      (ap (λ (l : List Code). before.done ++ map seen l) (sym split) ∙ before.on) (there before.done (seen one) (map seen more));
  long = long;
}

-- a datagram can't be added, so there is no capture of all
pub fails : {T : Type 0} (given : Ends) (node : ℕ) (all left more : List Code) (one : Code) (file : List ℕ) (why : Failure) (answer : Result T Failure) → left ≡ one ∷ more
    → HasTooLongOf (seen one) why → Captures given node all left file → IsErrAnd answer (λ told. told ≡ why) → IfErr answer (λ told. IsNoCapture (map seen all) told)
fails given node all left more one file why (Ok done) split is before told = tt
fails given node all left more one file why (Err other) split is before told = subst (λ (w : Failure). IsNoCapture (map seen all) w) (sym told) (none why is)
  where
    none : (why : Failure) → HasTooLongOf (seen one) why → IsNoCapture (map seen all) why
    none OutOfMemory is = tt
    none (Capture TooLong) is = too_long given node all left more one file split is before
    none other is = absurd is
