-- Drives that are noted, one point after the other.
use Rattle.std.proofs.Common.{◌≡◌, ◌<◌, ◌≤◌, ◌+◌, ℕ, suc, List, [], ◌∷◌, ◌++◌, length, take, drop, set, get_or, Option, refl, ap, sym, ◌∙◌, arith, append-nil, append_assoc}
use Rattle.std.proofs.lemmas.List.{drop_more, drop_all, drop-drop, drop-set-lt, length-set, take_all, take_more_set}
use Rattle.simulator.specs.layout.declared.ids.PointId.{PointId}
use Rattle.simulator.specs.sci_telegram.declared.message.Side.{Side}
use Rattle.simulator.specs.simulator_spec.declared.round.FoundDriven.{FoundDriven}
use Rattle.simulator.specs.simulator_spec.Flow.{next_drive, next_drives}

one_more : (n : ℕ) → suc n ≡ n + 1
one_more n = omega arith

-- So far as a place all drives are noted, and from there on they are as before.
pub record NotedTo (found : PointId → Option Side) (old : List (Option FoundDriven)) (place : ℕ) (now : List (Option FoundDriven)) : Type 0 where
  pub counted : length now ≡ length old
  pub left : drop place now ≡ drop place old
  pub noted : take place now ++ next_drives found place (drop place old) ≡ next_drives found 0 old

pub noted-begins : (found : PointId → Option Side) (old : List (Option FoundDriven)) → NotedTo found old 0 old
noted-begins found old = record { counted = refl; left = refl; noted = refl }

-- one more is noted
pub noted-next : (found : PointId → Option Side) (old now : List (Option FoundDriven)) (place : ℕ) (default : Option FoundDriven) (side : Option Side) (this : Option FoundDriven)
    → place < length now → side ≡ found (record { 0 = place }) → this ≡ next_drive side (get_or now place default) → NotedTo found old place now
    → NotedTo found old (place + 1) (set now place this)
unfolding next_drives
noted-next found old now place default side this h seen e before =
    let rest = drop (place + 1) now
    in let split : drop place old ≡ get_or now place default ∷ rest = sym before.left ∙ drop_more now place default h
    in let same : rest ≡ drop (place + 1) old = sym (ap (drop 1) split) ∙ drop-drop 1 place old
    in let named : this ≡ next_drive (found (record { 0 = place })) (get_or now place default) = e ∙ ap (λ (s : Option Side). next_drive s (get_or now place default)) seen
    in record {
      counted = length-set now place this ∙ before.counted;
      left = drop-set-lt (place + 1) now place this (omega arith) ∙ same;
      noted =
          ap (λ (list : List (Option FoundDriven)). list ++ next_drives found (place + 1) (drop (place + 1) old)) (take_more_set now place this h)
          ∙ append_assoc (take place now) (this ∷ []) (next_drives found (place + 1) (drop (place + 1) old))
          ∙ ap (λ (left : List (Option FoundDriven)). take place now ++ this ∷ next_drives found (place + 1) left) (sym same)
          ∙ ap (λ (next : ℕ). take place now ++ this ∷ next_drives found next rest) (sym (one_more place))
          ∙ ap (λ (d : Option FoundDriven). take place now ++ d ∷ next_drives found (suc place) rest) named
          ∙ ap (λ (left : List (Option FoundDriven)). take place now ++ next_drives found place left) (sym split)
          ∙ before.noted;
    }

-- all are noted
pub noted-all : (found : PointId → Option Side) (old now : List (Option FoundDriven)) (place : ℕ) → length now ≤ place → NotedTo found old place now
    → now ≡ next_drives found 0 old
unfolding next_drives
noted-all found old now place past before =
    sym (take_all place now past) ∙ sym (append-nil (take place now))
    ∙ ap (λ (left : List (Option FoundDriven)). take place now ++ next_drives found place left) (sym (drop_all place now past) ∙ before.left)
    ∙ before.noted
