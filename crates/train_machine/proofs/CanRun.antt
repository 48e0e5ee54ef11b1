-- Computed runs.
use Rattle.std.proofs.Common.{◌≡◌, ℕ, zero, suc, Bool, true, false, not, ◌&&◌, List, [], ◌∷◌, None, refl, sym, subst}
use Rattle.std.specs.Prelude.{if◌then◌else◌}
use Rattle.train_machine.specs.Lists.{IsOf}
use Rattle.train_machine.specs.Track.{Side, Track}
use Rattle.train_machine.specs.Train.{Nothing, Train, is_in}
use Rattle.train_machine.specs.Section.{Came, Section}
use Rattle.train_machine.specs.Route.{Free, Route}
use Rattle.train_machine.specs.Machine.{Machine}
use Rattle.train_machine.specs.Moves.{Move, after}
use Rattle.train_machine.specs.Run.{MayRun, MayStand}
use Rattle.train_machine.specs.Stations.{numbered}
use Rattle.train_machine.specs.Wrong.{View, through, Omission, seen_by, without, start}
use Rattle.train_machine.proofs.Lists.{in_has}
use Rattle.train_machine.proofs.Checks.{all, is_none, Can}
use Rattle.train_machine.proofs.Checked.{IsSmall, all_is, never, none_is, within, can_may, small_kept}

-- the tests of a list of moves
abbrev pub CanRun : Omission → Track → List Move → Machine → Type 0
CanRun omission track [] machine = Unit {0}
CanRun omission track (move ∷ moves) machine = Can track (seen_by omission machine move) move × CanRun omission track moves (after track machine move)

-- a view of a small machine is that of a small one
pub record KeepsSmall (view : View) : Type 0 where
  pub absent : (t : Train) → t.places ≡ [] → (view.train t).places ≡ []
  pub loose : (t : Train) → t.places ≡ [] → t.under ≡ Nothing → (view.train t).under ≡ Nothing
  pub told : (n : ℕ) (s : Section) → s.told ≡ Came → (view.section n s).told ≡ Came
  pub entered : (n : ℕ) (s : Section) → s.entered ≡ 0 → (view.section n s).entered ≡ 0
  pub unset : (section : ℕ) (r : Route) → r.holds section ≡ false → (view.route r).holds section ≡ false
  pub free : (r : Route) → r.phase ≡ Free → (view.route r).phase ≡ Free

through_small : (view : View) → KeepsSmall view → (machine : Machine) → IsSmall machine → IsSmall (through view machine)
through_small view keeps machine few = record {
  absent = λ n. keeps.absent (machine.trains (suc (suc (suc n)))) (few.absent n);
  loose = λ n. keeps.loose (machine.trains (suc (suc (suc n)))) (few.absent n) (few.loose n);
  told = λ n. keeps.told (suc (suc (suc (suc n)))) (machine.sections (suc (suc (suc (suc n))))) (few.told n);
  entered = λ n. keeps.entered (suc (suc (suc (suc n)))) (machine.sections (suc (suc (suc (suc n))))) (few.entered n);
  unset = λ n section. keeps.unset section (machine.routes (suc (suc (suc (suc n))))) (few.unset n section);
  free = λ n. keeps.free (machine.routes (suc (suc (suc (suc n))))) (few.free n);
  unheld = λ route n. keeps.unset (suc (suc (suc (suc n)))) (machine.routes route) (few.unheld route n);
}

seen_small : (test : Bool) (view : View) → KeepsSmall view → (machine : Machine) → IsSmall machine → IsSmall (if test then through view machine else machine)
seen_small true view keeps machine few = through_small view keeps machine few
seen_small false view keeps machine few = few

-- what the tests tell of a list of moves
pub can_run : (omission : Omission) → ((machine : Machine) (move : Move) → KeepsSmall (omission.view machine move)) → (track : Track) (moves : List Move) (machine : Machine)
    → IsSmall machine → CanRun omission track moves machine → MayRun (without omission) track moves machine
can_run omission keeps track [] machine few can = tt
can_run omission keeps track (move ∷ moves) machine few can = (
  can_may track (seen_by omission machine move) (seen_small (omission.touches move) (omission.view machine move) (keeps machine move) machine few) move can.0,
  can_run omission keeps track moves (after track machine move) (small_kept track machine few move (within track (seen_by omission machine move) move can.0)) can.1,
)

pub start_small : (x y z : List ℕ) (side : Side) → IsSmall (start (x ∷ y ∷ z ∷ []) side)
start_small x y z side = record {
  absent = λ n. refl;
  loose = λ n. refl;
  told = λ n. refl;
  entered = λ n. refl;
  unset = λ n section. refl;
  free = λ n. refl;
  unheld = λ route n. refl;
}

-- ---- lawful starts

abbrev pub is_apart : Track → List ℕ → List ℕ → Bool
is_apart track x y = all x (λ place. not (is_in track (track.section place) y))

abbrev pub is_plain : Track → List ℕ → Bool
is_plain track x = all x (λ place. is_none (track.point place))

abbrev pub may_start : Track → (x y z : List ℕ) → Bool
may_start track x y z = is_apart track x y && (is_apart track x z && (is_apart track y z && (is_plain track x && (is_plain track y && is_plain track z))))

pub stands_lawfully : (track : Track) (x y z : List ℕ) → is_apart track x y ≡ true → is_apart track x z ≡ true → is_apart track y z ≡ true → is_plain track x ≡ true
    → is_plain track y ≡ true → is_plain track z ≡ true → MayStand track (numbered (x ∷ y ∷ z ∷ []) [])
stands_lawfully track x y z xy xz yz px py pz = record { alone = alone; plain = plain_at }
  where
    apart : (a b : List ℕ) → is_apart track a b ≡ true → (section : ℕ) → is_in track section a ≡ true → is_in track section b ≡ true → ⊥
    apart a b e section in_a in_b = go (in_has track section a in_a)
      where
        go : (place : ℕ) × IsOf place a × (track.section place ≡ section) → ⊥
        go found = never (is_in track (track.section found.0) b) (all_is a (λ place. not (is_in track (track.section place) b)) e found.0 found.1)
            (subst (λ (n : ℕ). is_in track n b ≡ true) (sym found.2) in_b)

    alone : (a b section : ℕ) → is_in track section (numbered (x ∷ y ∷ z ∷ []) [] a) ≡ true → is_in track section (numbered (x ∷ y ∷ z ∷ []) [] b) ≡ true → a ≡ b
    alone zero zero section in_a in_b = refl
    alone zero (suc zero) section in_a in_b = absurd (apart x y xy section in_a in_b)
    alone zero (suc (suc zero)) section in_a in_b = absurd (apart x z xz section in_a in_b)
    alone zero (suc (suc (suc b))) section in_a in_b = absurd (cc (in_b))
    alone (suc zero) zero section in_a in_b = absurd (apart x y xy section in_b in_a)
    alone (suc zero) (suc zero) section in_a in_b = refl
    alone (suc zero) (suc (suc zero)) section in_a in_b = absurd (apart y z yz section in_a in_b)
    alone (suc zero) (suc (suc (suc b))) section in_a in_b = absurd (cc (in_b))
    alone (suc (suc zero)) zero section in_a in_b = absurd (apart x z xz section in_b in_a)
    alone (suc (suc zero)) (suc zero) section in_a in_b = absurd (apart y z yz section in_b in_a)
    alone (suc (suc zero)) (suc (suc zero)) section in_a in_b = refl
    alone (suc (suc zero)) (suc (suc (suc b))) section in_a in_b = absurd (cc (in_b))
    alone (suc (suc (suc a))) b section in_a in_b = absurd (cc (in_a))

    plain_at : (train place : ℕ) → IsOf place (numbered (x ∷ y ∷ z ∷ []) [] train) → track.point place ≡ None
    plain_at zero place of = none_is (track.point place) (all_is x (λ place. is_none (track.point place)) px place of)
    plain_at (suc zero) place of = none_is (track.point place) (all_is y (λ place. is_none (track.point place)) py place of)
    plain_at (suc (suc zero)) place of = none_is (track.point place) (all_is z (λ place. is_none (track.point place)) pz place of)
    plain_at (suc (suc (suc train))) place of = absurd of
