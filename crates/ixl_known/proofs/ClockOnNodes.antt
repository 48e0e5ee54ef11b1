-- The clock acts on one node of a list after another.
use Rattle.std.proofs.Common.{◌≡◌, ◌≢◌, ℕ, zero, suc, ◌+◌, ◌<◌, ◌≤◌, Bool, true, false, if◌then◌else◌, List, [], ◌∷◌, length, get_or, slice_set, take, drop, map, ◌++◌, arith, refl, ap, sym, ◌∙◌, subst, add-one}
use Rattle.std.specs.Prelude.{◌&&◌, nat_le, Option, None}
use Rattle.std.specs.FinSet.{empty}
use Rattle.ixl_spec.specs.bit_row.Places.{Places}
use Rattle.ixl_spec.specs.sci_telegram.declared.message.Aspect.{Aspect}
use Rattle.ixl_spec.specs.sci_telegram.declared.message.Side.{Side}
use Rattle.std.specs.List.{All}
use Rattle.std.proofs.lemmas.List.{append-nil, drop_all, get_or-set_other, length-set, take_all}
use Rattle.std.proofs.lemmas.List.Elements.{All-map}
use Rattle.ixl_spec.specs.rasta_core.Calls.{MayStep}
use Rattle.ixl_spec.specs.rasta_core.Clock.{deadline, settled}
use Rattle.ixl_spec.specs.rasta_core.State.{LinkState, is_open, is_up}
use Rattle.ixl_spec.specs.rasta_core.phase.Phase.TheVariants as phase
use Rattle.ixl_spec.specs.ixl_client.Client.{ClientState, is_outside}
use Rattle.ixl_spec.specs.ixl_client.declared.stage.Stage.TheVariants as stage
use Rattle.ixl_spec.specs.ixl_client.Step.{clocked, fallen}
use Rattle.ixl_spec.specs.State.{KnownDetectorState, KnownSignalState, KnownPointState}
use Rattle.ixl_spec.specs.Step.{clocked_detector, clocked_known_signal, clocked_known_point}
use Rattle.ixl_spec.specs.StepSoFar.{detector_after, known_signal_after, known_point_after}
use Rattle.ixl_known.specs.Field.{AllAt, FieldState, field_clocked}

next_mapped : {A : Type 0} (f : A → A) (xs : List A) (done : ℕ) (x : A) → done < length xs → x ≡ get_or xs done x →
    take (suc done) (slice_set xs done (f x)) ++ map f (drop (suc done) (slice_set xs done (f x))) ≡ take done xs ++ map f (drop done xs)
next_mapped f [] done x within is = absurd (omega arith)
next_mapped f (first ∷ rest) zero x within is = ap (λ one. f one ∷ map f rest) is
next_mapped f (first ∷ rest) (suc done) x within is = ap (λ others. first ∷ others) (next_mapped f rest done x (omega arith) is)

-- those before a place were settled, and the clock of no other has fallen
pub record HaveSettled {A : Type 0} (client_of : A → ClientState) (settle : A → A) (now : ℕ) (old new : List A) (done : ℕ) : Type 0 where
  pub so_far : take done new ++ map settle (drop done new) ≡ map settle old
  pub may : (k : ℕ) (d : A) → done ≤ k → k < length new → MayStep now (client_of (get_or new k d)).link

module _ {A : Type 0} (client_of : A → ClientState) (settle : A → A) (now : ℕ) (old : List A) where
  pub none_settled : All (λ one. MayStep now (client_of one).link) old → HaveSettled client_of settle now old old 0
  none_settled may = record { so_far = refl; may = λ k d from within. may k d within }

  pub one_settled : (new : List A) (done : ℕ) (one after : A) → HaveSettled client_of settle now old new done → done < length new → one ≡ get_or new done one → after ≡ settle one →
      HaveSettled client_of settle now old (slice_set new done after) (done + 1)
  one_settled new done one after have within is settled_one = record {
    so_far = subst (λ n. take n (slice_set new done after) ++ map settle (drop n (slice_set new done after)) ≡ map settle old) (sym (add-one done))
        (subst (λ a. take (suc done) (slice_set new done a) ++ map settle (drop (suc done) (slice_set new done a)) ≡ map settle old) (sym settled_one) (next_mapped settle new done one within is ∙ have.so_far));
    may = λ k d from inside.
        let later : done ≤ k = omega (arith, from)
        in let other : k ≢ done = λ same. absurd (omega (arith, from, same))
        in let here : k < length new = subst (λ n. k < n) (length-set new done after) inside
        in subst (λ (a : A). MayStep now (client_of a).link) (sym (get_or-set_other new done k after d other)) (have.may k d later here);
  }

  pub all_settled : (new : List A) (done : ℕ) → length new ≤ done → HaveSettled client_of settle now old new done → new ≡ map settle old
  all_settled new done over have =
      sym (append-nil new) ∙ ap (λ xs. xs ++ []) (sym (take_all done new over)) ∙ ap (λ xs. take done new ++ map settle xs) (sym (drop_all done new over)) ∙ have.so_far

-- ---- a settled node is at the clock

settled_at : (now : ℕ) (link : LinkState) → (settled now link).clock ≡ now
unfolding settled
settled_at now link = cases (is_open link.phase && nat_le (deadline link) now) where
  cases : (b : Bool) → (if b then record link { phase = phase.Closed; closed_at = deadline link; clock = now } else record link { clock = now }).clock ≡ now
  cases true = refl
  cases false = refl

fallen_link : (client : ClientState) → (fallen client).link ≡ client.link
unfolding fallen
fallen_link client = cases (is_up client.link.phase) where
  cases : (b : Bool) → (if b then client else record client { stage = stage.Outside }).link ≡ client.link
  cases true = refl
  cases false = refl

clocked_at : (now : ℕ) (client : ClientState) → (clocked now client).link.clock ≡ now
unfolding clocked
clocked_at now client = ap (λ (l : LinkState). l.clock) (fallen_link _) ∙ settled_at now client.link

abbrev known_signal_of : ClientState → Option Aspect → ℕ → Option Aspect → KnownSignalState
known_signal_of client aspect number indicated = record { client = client; aspect = aspect; number = number; indicated = indicated }

abbrev pub known_point_of : ClientState → Option Side → Places → KnownPointState
known_point_of client side moved = record { client = client; side = side; moved = moved }

abbrev pub detector_of : ClientState → Places → KnownDetectorState
detector_of client occupied = record { client = client; occupied = occupied }

known_signal_client : (aspect : Option Aspect) (number : ℕ) (indicated : Option Aspect) (client : ClientState) → (known_signal_after aspect number indicated client).client ≡ client
unfolding known_signal_after
known_signal_client aspect number indicated client = cases (is_outside client.stage) where
  cases : (b : Bool) → (if b then known_signal_of client None 0 None else known_signal_of client aspect number indicated).client ≡ client
  cases true = refl
  cases false = refl

pub known_point_client : (side : Option Side) (moved : Places) (client : ClientState) → (known_point_after side moved client).client ≡ client
unfolding known_point_after
known_point_client side moved client = cases (is_outside client.stage) where
  cases : (b : Bool) → (if b then known_point_of client None empty else known_point_of client side moved).client ≡ client
  cases true = refl
  cases false = refl

pub detector_client : (occupied : Places) (client : ClientState) → (detector_after occupied client).client ≡ client
unfolding detector_after
detector_client occupied client = cases (is_outside client.stage) where
  cases : (b : Bool) → (if b then detector_of client empty else detector_of client occupied).client ≡ client
  cases true = refl
  cases false = refl

pub clocked_all : (now : ℕ) (field : FieldState) → AllAt now (field_clocked now field)
clocked_all now field = record {
  known_signals = All-map (λ (l : KnownSignalState). l.client.link.clock ≡ now) (clocked_known_signal now) field.known_signals (λ k d within. known_signal_at (get_or field.known_signals k d));
  known_points = All-map (λ (s : KnownPointState). s.client.link.clock ≡ now) (clocked_known_point now) field.known_points (λ k d within. known_point_at (get_or field.known_points k d));
  detectors = All-map (λ (d : KnownDetectorState). d.client.link.clock ≡ now) (clocked_detector now) field.detectors (λ k d within. detector_at (get_or field.detectors k d));
}
  where
    known_signal_at : (known_signal : KnownSignalState) → (clocked_known_signal now known_signal).client.link.clock ≡ now
    known_signal_at known_signal = ap (λ (c : ClientState). c.link.clock) (known_signal_client known_signal.aspect known_signal.number known_signal.indicated (clocked now known_signal.client)) ∙ clocked_at now known_signal.client

    known_point_at : (known_point : KnownPointState) → (clocked_known_point now known_point).client.link.clock ≡ now
    known_point_at known_point = ap (λ (c : ClientState). c.link.clock) (known_point_client known_point.side known_point.moved (clocked now known_point.client)) ∙ clocked_at now known_point.client

    detector_at : (detector : KnownDetectorState) → (clocked_detector now detector).client.link.clock ≡ now
    detector_at detector = ap (λ (c : ClientState). c.link.clock) (detector_client detector.occupied (clocked now detector.client)) ∙ clocked_at now detector.client

pub settled_all : (now : ℕ) (inside : FieldState) (known_signals_were known_signals : List KnownSignalState) (known_points_were known_points : List KnownPointState) (detectors_were detectors : List KnownDetectorState) →
    known_signals ≡ map (clocked_known_signal now) known_signals_were → known_points ≡ map (clocked_known_point now) known_points_were → detectors ≡ map (clocked_detector now) detectors_were →
    AllAt now (record inside { known_signals = known_signals; known_points = known_points; detectors = detectors })
settled_all now inside known_signals_were known_signals known_points_were known_points detectors_were detectors first second third =
    let all : AllAt now (field_clocked now (record inside { known_signals = known_signals_were; known_points = known_points_were; detectors = detectors_were })) =
    clocked_all now (record inside { known_signals = known_signals_were; known_points = known_points_were; detectors = detectors_were })
    in record {
      known_signals = subst (All (λ (l : KnownSignalState). l.client.link.clock ≡ now)) (sym first) all.known_signals;
      known_points = subst (All (λ (s : KnownPointState). s.client.link.clock ≡ now)) (sym second) all.known_points;
      detectors = subst (All (λ (d : KnownDetectorState). d.client.link.clock ≡ now)) (sym third) all.detectors;
    }
