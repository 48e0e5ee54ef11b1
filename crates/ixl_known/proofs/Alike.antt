-- Where a node is as available or ready as before, it is known to tell the same.
use Rattle.std.proofs.Common.{◌≡◌, ℕ, zero, suc, Bool, true, false, if◌then◌else◌, List, [], ◌∷◌, get_or, slice_set, refl, ap, sym, ◌∙◌, subst}
use Rattle.std.specs.Prelude.{◌&&◌, Option, Some, None, slice_get}
use Rattle.std.specs.FinSet.{contains, empty}
use Rattle.std.proofs.Math.Bool.{beq}
use Rattle.ixl_spec.specs.bit_row.Places.{Places}
use Rattle.ixl_spec.specs.sci_telegram.declared.message.Side.{Side}
use Rattle.ixl_spec.specs.sci_telegram.declared.message.Side.TheVariants as sides
use Rattle.ixl_spec.specs.rasta_core.Outbox.{OutboxState}
use Rattle.ixl_spec.specs.ixl_client.Client.{ClientState, is_available, is_outside, is_ready}
use Rattle.ixl_spec.specs.ixl_client.ClientSoFar.{begun}
use Rattle.ixl_spec.specs.ixl_client.Step.{clocked, ticking}
use Rattle.ixl_spec.specs.ixl_client.declared.stage.Stage.{Stage}
use Rattle.ixl_spec.specs.ixl_client.declared.stage.Stage.TheVariants as stage
use Rattle.ixl_known.specs.Nodes.{detector_ticked, known_point_ticked}
use Rattle.ixl_spec.specs.StepSoFar.{detector_after, known_point_after}
use Rattle.ixl_spec.specs.State.{KnownDetectorState, KnownPointState}
use Rattle.ixl_spec.specs.Step.{clocked_detector, clocked_known_point}
use Rattle.ixl_spec.specs.Table.{at, passes}
use Rattle.ixl_spec.specs.View.{is_side}
use Rattle.ixl_known.specs.declared.rows.PointRows.{PointRows}
use Rattle.ixl_known.specs.declared.rows.SectionRows.{SectionRows}
use Rattle.ixl_known.specs.inside.Alike.{AreKnownAlike, IsKnownAlike, TellTheSame, TellsTheSame}
use Rattle.ixl_known.specs.inside.Rows.{ArePointRows, AreSectionRows, told_by}
use Rattle.ixl_known.proofs.RowLaws.{clear_by, occupied_by, says_clear, says_occupied}
use Rattle.ixl_known.proofs.ClockOnNodes.{detector_client, detector_of, known_point_client, known_point_of}

pub same_tests_answer : (x y : Bool) → beq x y ≡ true → x ≡ y
same_tests_answer true true is = refl
same_tests_answer true false is = sym is
same_tests_answer false true is = is
same_tests_answer false false is = refl

-- ---- one node

-- an available point isn't outside, so that its side stands
side_after : (at_side : Side) (side : Option Side) (moved : Places) (client : ClientState) →
    (is_available client.stage && is_side at_side (known_point_after side moved client).side) ≡ (is_available client.stage && is_side at_side side)
unfolding known_point_after
side_after at_side side moved client = cases client.stage where
  cases : (s : Stage) → (is_available s && is_side at_side (if is_outside s then known_point_of client None empty else known_point_of client side moved).side) ≡ (is_available s && is_side at_side side)
  cases stage.Outside = refl
  cases stage.AwaitsAnswer = refl
  cases stage.AwaitsStart = refl
  cases (stage.AwaitsStatus left) = refl
  cases stage.Completed = refl
  cases stage.AwaitsReport = refl

pub known_point_alike : (old new : KnownPointState) (moved : Places) (client : ClientState) → new ≡ known_point_after old.side moved client → is_available new.client.stage ≡ is_available old.client.stage → IsKnownAlike old new
known_point_alike old new moved client is same =
    let has : new.client ≡ client = ap (λ (s : KnownPointState). s.client) is ∙ known_point_client old.side moved client
    in let stays : is_available client.stage ≡ is_available old.client.stage = ap (λ (c : ClientState). is_available c.stage) (sym has) ∙ same
    in record {
      available = same;
      known = λ at_side. ap (λ (c : ClientState). is_available c.stage && is_side at_side new.side) has
          ∙ ap (λ (s : KnownPointState). is_available client.stage && is_side at_side s.side) is
          ∙ side_after at_side old.side moved client
          ∙ ap (λ b. b && is_side at_side old.side) stays;
    }

pub known_point_settled_alike : (now : ℕ) (old new : KnownPointState) → new ≡ clocked_known_point now old → is_available new.client.stage ≡ is_available old.client.stage → IsKnownAlike old new
known_point_settled_alike now old new is same = known_point_alike old new old.moved (clocked now old.client) is same

pub known_point_ticked_alike : (now : ℕ) (old new : KnownPointState) (box : OutboxState) → new ≡ (known_point_ticked now old box).0 → is_available new.client.stage ≡ is_available old.client.stage → IsKnownAlike old new
unfolding known_point_ticked
known_point_ticked_alike now old new box is same = known_point_alike old new old.moved (ticking now (begun old.client box)).client is same

-- a ready detector isn't outside, so that what it told stands
occupied_after : (place : ℕ) (occupied : Places) (client : ClientState) →
    (if is_ready client.stage then Some (contains (detector_after occupied client).occupied place) else None) ≡ (if is_ready client.stage then Some (contains occupied place) else None)
unfolding detector_after
occupied_after place occupied client = cases client.stage where
  cases : (s : Stage) → (if is_ready s then Some (contains (if is_outside s then detector_of client empty else detector_of client occupied).occupied place) else None) ≡ (if is_ready s then Some (contains occupied place) else None)
  cases stage.Outside = refl
  cases stage.AwaitsAnswer = refl
  cases stage.AwaitsStart = refl
  cases (stage.AwaitsStatus left) = refl
  cases stage.Completed = refl
  cases stage.AwaitsReport = refl

pub detector_alike : (old new : KnownDetectorState) (client : ClientState) → new ≡ detector_after old.occupied client → is_ready new.client.stage ≡ is_ready old.client.stage → TellsTheSame old new
detector_alike old new client is same place =
    let has : new.client ≡ client = ap (λ (d : KnownDetectorState). d.client) is ∙ detector_client old.occupied client
    in let stays : is_ready client.stage ≡ is_ready old.client.stage = ap (λ (c : ClientState). is_ready c.stage) (sym has) ∙ same
    in ap (λ (c : ClientState). if is_ready c.stage then Some (contains new.occupied place) else None) has
    ∙ ap (λ (d : KnownDetectorState). if is_ready client.stage then Some (contains d.occupied place) else None) is
    ∙ occupied_after place old.occupied client
    ∙ ap (λ b. if b then Some (contains old.occupied place) else None) stays

pub detector_settled_alike : (now : ℕ) (old new : KnownDetectorState) → new ≡ clocked_detector now old → is_ready new.client.stage ≡ is_ready old.client.stage → TellsTheSame old new
detector_settled_alike now old new is same = detector_alike old new (clocked now old.client) is same

pub detector_ticked_alike : (now : ℕ) (old new : KnownDetectorState) (box : OutboxState) → new ≡ (detector_ticked now old box).0 → is_ready new.client.stage ≡ is_ready old.client.stage → TellsTheSame old new
unfolding detector_ticked
detector_ticked_alike now old new box is same = detector_alike old new (ticking now (begun old.client box)).client is same

-- ---- one of a list

-- what is found at each place is alike where one of a list is replaced by one alike
found_set : {A B : Type 0} (of : Option A → B) (list : List A) (done : ℕ) (one new : A) → one ≡ get_or list done one → of (Some new) ≡ of (Some one) →
    (place : ℕ) → of (slice_get (slice_set list done new) place) ≡ of (slice_get list place)
found_set of [] done one new is same place = refl
found_set of (first ∷ others) zero one new is same zero = same ∙ ap (λ a. of (Some a)) is
found_set of (first ∷ others) zero one new is same (suc place) = refl
found_set of (first ∷ others) (suc done) one new is same zero = refl
found_set of (first ∷ others) (suc done) one new is same (suc place) = found_set of others done one new is same place

pub all_known_alike : (list : List KnownPointState) → AreKnownAlike list list
all_known_alike list = record { available = λ point. refl; known = λ side point. refl }

point_set : (list : List KnownPointState) (done : ℕ) (one new : KnownPointState) → one ≡ get_or list done one → IsKnownAlike one new → AreKnownAlike list (slice_set list done new)
unfolding at
point_set list done one new is alike = record {
  available = λ point. found_set (passes (λ (w : KnownPointState). is_available w.client.stage)) list done one new is alike.available point;
  known = λ side point. found_set (passes (λ (w : KnownPointState). is_available w.client.stage && is_side side w.side)) list done one new is (alike.known side) point;
}

-- one more point is alike
pub one_known_alike : (old list : List KnownPointState) (done : ℕ) (one new : KnownPointState) → one ≡ get_or list done one → IsKnownAlike (get_or list done one) new →
    AreKnownAlike old list → AreKnownAlike old (slice_set list done new)
one_known_alike old list done one new is here before =
    let next : AreKnownAlike list (slice_set list done new) = point_set list done one new is (subst (λ (o : KnownPointState). IsKnownAlike o new) (sym is) here)
    in record {
      available = λ point. next.available point ∙ before.available point;
      known = λ side point. next.known side point ∙ before.known side point;
    }

pub all_tell_the_same : (list : List KnownDetectorState) → TellTheSame list list
all_tell_the_same list reporter = refl

pub one_tells_the_same : (old list : List KnownDetectorState) (done : ℕ) (one new : KnownDetectorState) → one ≡ get_or list done one → TellsTheSame (get_or list done one) new →
    TellTheSame old list → TellTheSame old (slice_set list done new)
one_tells_the_same old list done one new is here before reporter =
    found_set (told_by reporter.1) list done one new is (subst (λ (o : KnownDetectorState). TellsTheSame o new) (sym is) here reporter.1) reporter.0 ∙ before reporter

-- ---- rows

pub points_kept : (old new : List KnownPointState) (rows : PointRows) → AreKnownAlike old new → ArePointRows old rows → ArePointRows new rows
points_kept old new rows alike are = record {
  available = λ point. are.available point ∙ sym (alike.available point);
  right = λ point. are.right point ∙ sym (alike.known sides.Right point);
  left = λ point. are.left point ∙ sym (alike.known sides.Left point);
}

same_tests : {A : Type 0} (list : List A) (first second : A → Bool) → ((one : A) → first one ≡ second one) → (place : ℕ) → at list place first ≡ at list place second
unfolding at
same_tests list first second same place = cases (slice_get list place) where
  cases : (found : Option _) → passes first found ≡ passes second found
  cases None = refl
  cases (Some one) = same one

pub sections_kept : (reporters : List (ℕ × ℕ)) (old new : List KnownDetectorState) (rows : SectionRows) → TellTheSame old new → AreSectionRows reporters old rows → AreSectionRows reporters new rows
unfolding at
sections_kept reporters old new rows alike are = record {
  clear = λ section. are.clear section ∙ same_tests reporters _ _ (λ reporter. clear_by reporter.1 (slice_get old reporter.0) ∙ ap says_clear (sym (alike reporter)) ∙ sym (clear_by reporter.1 (slice_get new reporter.0))) section;
  occupied = λ section. are.occupied section ∙ same_tests reporters _ _ (λ reporter. occupied_by reporter.1 (slice_get old reporter.0) ∙ ap says_occupied (sym (alike reporter)) ∙ sym (occupied_by reporter.1 (slice_get new reporter.0))) section;
}

-- of lists that were lent, and of those that came back
pub points_kept_from : (inside were new now : List KnownPointState) (rows : PointRows) → were ≡ inside → now ≡ new → AreKnownAlike were new → ArePointRows inside rows → ArePointRows now rows
points_kept_from inside were new now rows lent back alike are =
    subst (λ (xs : List KnownPointState). ArePointRows xs rows) (sym back) (points_kept were new rows alike (subst (λ (xs : List KnownPointState). ArePointRows xs rows) (sym lent) are))

pub sections_kept_from : (kept reporters : List (ℕ × ℕ)) (inside were new now : List KnownDetectorState) (rows : SectionRows) → reporters ≡ kept → were ≡ inside → now ≡ new → TellTheSame were new →
    AreSectionRows kept inside rows → AreSectionRows reporters now rows
sections_kept_from kept reporters inside were new now rows same lent back alike are =
    subst (λ (rs : List (ℕ × ℕ)). AreSectionRows rs now rows) (sym same)
    (subst (λ (xs : List KnownDetectorState). AreSectionRows kept xs rows) (sym back)
    (sections_kept kept were new rows alike (subst (λ (xs : List KnownDetectorState). AreSectionRows kept xs rows) (sym lent) are)))
