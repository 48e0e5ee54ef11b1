-- A process that takes over what its file has, and a keep of it.
use Rattle.std.proofs.Common.{◌≡◌, ◌∙◌, ◌<◌, ◌≤◌, ℕ, ◌&&◌, ◌||◌, not, Bool, true, false, cond, IsTrue, List, [], ◌∷◌, Option, Some, None, Result, Ok, Err, refl, sym, ap, subst, drop, length, arith}
use Rattle.std.proofs.lemmas.Bool.{false≢true}
use Rattle.std.proofs.lemmas.List.{drop_all, drop_more}
use Rattle.std.proofs.lemmas.Slice.Eq.{bytes_eq-Decides}
use Rattle.std.specs.Prelude.{IfErr, IfOk, IsErr, is_ok}
use Rattle.closings_file.specs.declared.fault.FileFault.TheVariants.{Unreadable}
use Rattle.closings_file.specs.declared.found.Found.{Found}
use Rattle.closings_file.specs.declared.unkept.Unkept.{Unkept}
use Rattle.closings_file.specs.declared.unkept.Unkept.TheVariants.{Failed, OutOfMemory}
use Rattle.closings_file.specs.Files.{KeeperState, after_keep, file_calls, found_in, found_of, has, is_known}
use Rattle.closings_file.specs.Texts.{writing}
use Rattle.node_kinds.specs.Kept.{is_none}
use Rattle.node_kinds.specs.node_drive.declared.outside.ToKeep.{ToKeep}
use Rattle.node_kinds.specs.simulator_spec.ixl_spec.closings.declared.thing.Thing.{Thing}
use Rattle.node_kinds.specs.simulator_spec.layout.Entries.{Site}
use Rattle.whole_file.specs.Calls.{Made, recorded}
use Rattle.station_node.specs.Closings.{IsKept, text_to_keep}
use Rattle.station_node.specs.Takeover.{Finds, TakenOver, all_to_keep, listener_asked, taken_over}

-- ---- what is taken over

abbrev pub takes : Found → List Thing → Bool → TakenOver
takes found left giving = record { found = found; left = left; giving = giving }

and_false : (b : Bool) → (b && false) ≡ false
and_false true = refl
and_false false = refl

and_true : (b : Bool) → (b && true) ≡ b
and_true true = refl
and_true false = refl

-- it is asked for an operator once all is told
pub asked_then : (found : Found) (things : List Thing) (told : ℕ) (giving : Bool) → length things ≤ told
    → takes found (drop told things) false ≡ listener_asked (takes found (drop told things) giving)
asked_then found things told giving all =
    let none : false ≡ (giving && not (is_none (drop told things))) = sym (and_false giving) ∙ ap (λ left. giving && not (is_none left)) (sym (drop_all told things all)) in
    ap (λ (g : Bool). takes found (drop told things) g) none

-- and before
pub asked_before : (found : Found) (things : List Thing) (told : ℕ) (giving : Bool) → told < length things
    → takes found (drop told things) giving ≡ listener_asked (takes found (drop told things) giving)
asked_before found [] told giving some = absurd (omega (arith, some))
asked_before found (thing ∷ others) told giving some =
    let things = thing ∷ others in
    let one : giving ≡ (giving && not (is_none (drop told things))) = sym (and_true giving) ∙ ap (λ left. giving && not (is_none left)) (sym (drop_more things told thing some)) in
    ap (λ (g : Bool). takes found (drop told things) g) one

-- what is found by what was answered when the file was read
pub finds : {A E : Type 0} (l : Site) (head : List ℕ) (answer : Result A E) (bytes : A → Option (List ℕ)) (taken : TakenOver)
    → IfOk answer (λ file. taken ≡ taken_over l (found_in l head (bytes file))) → (IsErr answer → taken ≡ taken_over l (found_of l (Err Unreadable))) → Finds l head taken
finds l head (Ok file) bytes taken read unreadable = (true, bytes file, read)
finds l head (Err error) bytes taken read unreadable = (false, None, unreadable refl)

-- ---- a keep

known_is : (text : List ℕ) (known : Option (List ℕ)) → is_known text known ≡ true → known ≡ Some text
known_is text None is = absurd (false≢true is)
known_is text (Some known) is = ap (λ (t : List ℕ). Some t) ((bytes_eq-Decides known text).0 is)

or_true : (b : Bool) → (b || true) ≡ true
or_true true = refl
or_true false = refl

same_either_way : {A : Type 0} (b : Bool) (x : A) → cond b x x ≡ x
same_either_way true x = refl
same_either_way false x = refl

known_text : (text : List ℕ) (known : Option (List ℕ)) (b : Bool) → is_known text known ≡ b → Some text ≡ cond b known (Some text)
known_text text known true is = sym (known_is text known is)
known_text text known false is = refl

module _ (l : Site) (taken : TakenOver) (all : ToKeep) (before after : KeeperState) (made made_then : Option (List Made)) (kept : Bool) where
  abbrev text : List ℕ
  text = text_to_keep l before.head taken all

  -- by what the keeper answers
  pub is_kept : {T : Type 0} (result : Result T Unkept) → made_then ≡ recorded (file_calls text before result) made → after ≡ after_keep text before result
      → (IsTrue (has text before) → IfErr result (λ unkept. unkept ≡ OutOfMemory)) → kept ≡ is_ok result → IsKept l taken all before after made made_then kept
  is_kept (Ok done) calls keeper known answer = record {
    outcome = record { refused = false; left = None; happened = false; failing = None };
    calls = calls;
    keeper = keeper ∙ ap (λ (k : Option (List ℕ)). record before { known = k }) (known_text text before.known (is_known text before.known) refl);
    answer = answer ∙ sym (or_true (is_known text before.known));
  }
  is_kept (Err OutOfMemory) calls keeper known answer = record {
    outcome = record { refused = true; left = None; happened = false; failing = None };
    calls = calls ∙ ap (λ (m : List Made). recorded m made) (same_either_way (is_known text before.known) []);
    keeper = keeper;
    answer = answer;
  }
  is_kept (Err (Failed not_kept)) calls keeper known answer = by (is_known text before.known) refl
    where
      by : (b : Bool) → is_known text before.known ≡ b → IsKept l taken all before after made made_then kept
      by true is = absurd (cc (known is))
      by false is = record {
        outcome = record { refused = false; left = None; happened = false; failing = Some not_kept.call };
        calls = calls;
        keeper = keeper ∙ ap (λ (b : Bool). record before { known = cond b before.known None }) (sym is);
        answer = answer ∙ ap (λ (b : Bool). b || false) (sym is);
      }

  -- what is kept is all that the file is to have
  pub is_kept_whole : {T : Type 0} (whole : ToKeep) (result : Result T Unkept) → whole ≡ all_to_keep taken all
      → made_then ≡ recorded (file_calls (writing l before.head whole.counts whole.closings) before result) made
      → after ≡ after_keep (writing l before.head whole.counts whole.closings) before result
      → (IsTrue (has (writing l before.head whole.counts whole.closings) before) → IfErr result (λ unkept. unkept ≡ OutOfMemory)) → kept ≡ is_ok result → IsKept l taken all before after made made_then kept
  is_kept_whole whole result is calls keeper known answer =
      let texts = ap (λ (w : ToKeep). writing l before.head w.counts w.closings) is in
      is_kept result
      (subst (λ (t : List ℕ). made_then ≡ recorded (file_calls t before result) made) texts calls)
      (subst (λ (t : List ℕ). after ≡ after_keep t before result) texts keeper)
      (subst (λ (t : List ℕ). IsTrue (has t before) → IfErr result (λ unkept. unkept ≡ OutOfMemory)) texts known)
      answer
