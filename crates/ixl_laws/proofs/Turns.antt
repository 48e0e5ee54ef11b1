-- Turns that follow one another, and how those of one part of a step are joined with those of the next.
use Rattle.std.proofs.Common.{◌≡◌, ℕ, suc, ◌+◌, List, [], ◌∷◌, ◌++◌, length, arith, refl, ap, sym, ◌∙◌, subst}
use Rattle.std.specs.Prelude.{map, Some, slice_get}
use Rattle.std.proofs.lemmas.List.{map-append}
use Rattle.ixl_state.specs.ixl_spec.StepSoFar.{StepSoFar, along, over}
use Rattle.ixl_state.specs.ixl_spec.Rules.{repeated}
use Rattle.ixl_state.specs.ixl_spec.Table.{Table}
use Rattle.ixl_laws.specs.WholeStep.{DoesItsTurn, Fits, Follow, Turn, TurnTaken, for_each}

-- something is done for each of a list, the first one first
front : {A : Type 0} → (ℕ → StepSoFar → StepSoFar) → ℕ → List A → StepSoFar → StepSoFar
front does place [] part = part
front does place (one ∷ others) part = front does (suc place) others (does place part)

over_from : {A : Type 0} (does : ℕ → StepSoFar → StepSoFar) (place : ℕ) (list : List A) (part : StepSoFar) → over does (place + length list) part ≡ front does place list (over does place part)
unfolding front
over_from {A} does place [] part = let same : place + length {A = A} [] ≡ place = omega arith in ap (λ n. over does n part) same
over_from does place (one ∷ others) part =
    let same : place + length (one ∷ others) ≡ suc place + length others = omega arith
    in ap (λ n. over does n part) same ∙ over_from does (suc place) others part

over_is : {A : Type 0} (does : ℕ → StepSoFar → StepSoFar) (list : List A) (part : StepSoFar) → over does (length list) part ≡ front does 0 list part
over_is does list part = let same : length list ≡ 0 + length list = omega arith in ap (λ n. over does n part) same ∙ over_from does 0 list part

module _ (now : ℕ) (table : Table) where
  -- these turns lead from one state to another, and what is kept fits the table after them
  pub record Taken (turns : List Turn) (begin end : StepSoFar) : Type 0 where
    pub taken : List TurnTaken
    pub are : map (λ (t : TurnTaken). t.turn) taken ≡ turns
    pub follow : Follow now table begin taken end
    pub fits : Fits table end.ixl

  -- they do where it fits before them
  abbrev pub Walks : List Turn → StepSoFar → StepSoFar → Type 0
  Walks turns begin end = Fits table begin.ixl → Taken turns begin end

  follow_joined : (some more : List TurnTaken) (a b c : StepSoFar) → Follow now table a some b → Follow now table b more c → Follow now table a (some ++ more) c
  follow_joined [] more a b c one next = subst (λ (s : StepSoFar). Follow now table s more c) one next
  follow_joined (first ∷ others) more a b c one next = (one.0, one.1, follow_joined others more first.after b c one.2 next)

  pub walks_joined : (some more : List Turn) (a b c : StepSoFar) → Walks some a b → Walks more b c → Walks (some ++ more) a c
  walks_joined some more a b c one next fits =
      let first : Taken some a b = one fits
      in let second : Taken more b c = next first.fits
      in record {
        taken = first.taken ++ second.taken;
        are = map-append (λ (t : TurnTaken). t.turn) first.taken second.taken
            ∙ ap (λ list. list ++ map (λ (t : TurnTaken). t.turn) second.taken) first.are ∙ ap (λ list. some ++ list) second.are;
        follow = follow_joined first.taken second.taken a b c first.follow second.follow;
        fits = second.fits;
      }

  pub walks_nowhere : (a : StepSoFar) → Walks [] a a
  walks_nowhere a fits = record { taken = []; are = refl; follow = refl; fits = fits }

  pub walks_once : (turn : Turn) (a b : StepSoFar) → (Fits table a.ixl → DoesItsTurn now table turn a b × Fits table b.ixl) → Walks (turn ∷ []) a b
  walks_once turn a b does fits =
      let done : DoesItsTurn now table turn a b × Fits table b.ixl = does fits
      in record { taken = record { turn = turn; before = a; after = b } ∷ []; are = refl; follow = (refl, done.0, refl); fits = done.1 }

  module _ {A : Type 0} (does : ℕ → StepSoFar → StepSoFar) (turns : ℕ → A → List Turn) (list : List A)
      (each : (place : ℕ) (one : A) (part : StepSoFar) → slice_get list place ≡ Some one → Walks (turns place one) part (does place part)) where
    front_walks : (place : ℕ) (rest : List A) → ((further : ℕ) (one : A) → slice_get rest further ≡ Some one → slice_get list (place + further) ≡ Some one) → (part : StepSoFar) →
        Walks (for_each turns place rest) part (front does place rest part)
    unfolding front
    front_walks place [] within part = walks_nowhere part
    front_walks place (one ∷ others) within part =
        let here : place + 0 ≡ place = omega arith
        in walks_joined (turns place one) (for_each turns (suc place) others) part (does place part) (front does (suc place) others (does place part))
        (each place one part (subst (λ n. slice_get list n ≡ Some one) here (within 0 one refl)))
        (front_walks (suc place) others (λ further other is.
        let on : place + suc further ≡ suc place + further = omega arith
        in subst (λ n. slice_get list n ≡ Some other) on (within (suc further) other is)) (does place part))

    pub over_walks : (part : StepSoFar) → Walks (for_each turns 0 list) part (over does (length list) part)
    over_walks part = subst (Walks (for_each turns 0 list) part) (sym (over_is does list part))
        (front_walks 0 list (λ further one is. let same : further ≡ 0 + further = omega arith in subst (λ n. slice_get list n ≡ Some one) same is) part)

  pub along_walks : {A : Type 0} (does : A → StepSoFar → StepSoFar) (turn : A → Turn) → ((one : A) (part : StepSoFar) → Walks (turn one ∷ []) part (does one part)) → (list : List A) (part : StepSoFar) →
      Walks (map turn list) part (along does list part)
  along_walks does turn each [] part = walks_nowhere part
  along_walks does turn each (one ∷ others) part =
      walks_joined (turn one ∷ []) (map turn others) part (does one part) (along does others (does one part)) (each one part) (along_walks does turn each others (does one part))

  pub repeated_walks : {A : Type 0} (does : StepSoFar → StepSoFar) (turn : Turn) → ((part : StepSoFar) → Walks (turn ∷ []) part (does part)) → (list : List A) (part : StepSoFar) →
      Walks (map (λ one. turn) list) part (repeated (length list) does part)
  repeated_walks does turn each [] part = walks_nowhere part
  repeated_walks does turn each (one ∷ others) part =
      walks_joined (turn ∷ []) (map (λ one. turn) others) part (does part) (repeated (length others) does (does part)) (each part) (repeated_walks does turn each others (does part))
