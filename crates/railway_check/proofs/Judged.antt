-- What is wrong with a railway, by what its reading answers.
use Rattle.std.proofs.Common.{◌≡◌, ◌≢◌, ◌∙◌, ◌+◌, ◌&&◌, ℕ, zero, suc, Bool, true, false, List, [], ◌∷◌, ◌++◌, Global, Vec, ap, arith, not, refl, subst}
use Rattle.std.proofs.lemmas.Bool.{false≢true}
use Rattle.std.specs.List.{list_all}
use Rattle.railway_layout.specs.declared.fault.RailwayFault.{RailwayFault}
use Rattle.railway_layout.specs.declared.railway.Refused.{Refused}
use Rattle.railway_layout.specs.declared.railway.Refused.TheVariants.{Faults}
use Rattle.railway_layout.specs.Railway.{IsRefused}
use Rattle.railway_layout.specs.Written.{RailwayText, StationText}
use Rattle.railway_check.specs.RailwayVerdict.{AreFaults, HasFaults, HasRailway, is_all_sound, told_err}
use Rattle.railway_check.specs.StationTexts.{each_from, faults_at, headed}
use Rattle.railway_check.specs.Verdicts.{VerdictState, is_sound, status_of, told_if}

-- some fault is there
faulty : (text : RailwayText) (layouts : List (List ℕ)) (faults : List RailwayFault) → HasFaults text layouts faults → faults ≢ [] → AreFaults text layouts faults
faulty text layouts [] has some = absurd (some refl)
faulty text layouts (f ∷ faults) has some = has

-- what is refused for some faults has these
pub refused_faults : (text : RailwayText) (layouts : List (List ℕ)) (refused : Refused) (faults : Vec RailwayFault Global) → IsRefused text layouts refused → refused ≡ Faults faults → AreFaults text layouts faults.items
refused_faults text layouts refused faults has is =
    let R : Refused → Type 0 = λ r. IsRefused text layouts r in
    let told : IsRefused text layouts (Faults faults) = subst R is has in
    faulty text layouts faults.items (told.0, told.1, told.2) told.3

-- Where the status is 0 nothing is wrong, and the railway can be made.
pub sound_railway : (text : RailwayText) (layouts : List (List ℕ)) (faults : List RailwayFault) (verdicts : List VerdictState) → AreFaults text layouts faults → status_of (is_all_sound faults verdicts) ≡ 0 → HasRailway text layouts
sound_railway text layouts [] verdicts are ended = are
sound_railway text layouts (f ∷ faults) verdicts are ended = let wrong : 1 ≡ 0 = ended in absurd (omega (arith, wrong))

-- ---- nothing is told to be wrong where the status is 0

both_true : (a b : Bool) → (a && b) ≡ true → (a ≡ true) × (b ≡ true)
both_true true b h = (refl, h)
both_true false b h = absurd (false≢true h)

is_zero : (sound : Bool) → status_of sound ≡ 0 → sound ≡ true
is_zero true ended = refl
is_zero false ended = let wrong : 1 ≡ 0 = ended in absurd (omega (arith, wrong))

untold : (sound : Bool) (text : List ℕ) → sound ≡ true → told_if (not sound) text ≡ []
untold true text h = refl
untold false text h = absurd (false≢true h)

sound_at : (verdicts : List VerdictState) (n : ℕ) (station : StationText) → list_all is_sound verdicts ≡ true → faults_at verdicts n station ≡ []
sound_at [] n station h = refl
sound_at (v ∷ vs) zero station h = untold (is_sound v) (headed station v.err) (both_true (is_sound v) (list_all is_sound vs) h).0
sound_at (v ∷ vs) (suc n) station h = sound_at vs n station (both_true (is_sound v) (list_all is_sound vs) h).1

each_empty : {A : Type 0} (text : ℕ → A → List ℕ) (n : ℕ) (xs : List A) → ((m : ℕ) (x : A) → text m x ≡ []) → each_from text n xs ≡ []
unfolding each_from
each_empty text n [] h = refl
each_empty text n (x ∷ xs) h = ap (λ front. front ++ each_from text (n + 1) xs) (h n x) ∙ each_empty text (n + 1) xs h

pub silent : (explained : Bool) (text : RailwayText) (faults : List RailwayFault) (verdicts : List VerdictState) → status_of (is_all_sound faults verdicts) ≡ 0 → told_err explained text verdicts faults ≡ []
silent explained text [] verdicts ended =
    let sound : list_all is_sound verdicts ≡ true = is_zero (list_all is_sound verdicts) ended in
    ap (λ front. front ++ []) (each_empty (faults_at verdicts) 0 text.stations (λ m station. sound_at verdicts m station sound))
silent explained text (f ∷ faults) verdicts ended = let wrong : 1 ≡ 0 = ended in absurd (omega (arith, wrong))
