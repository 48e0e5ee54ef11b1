-- The identity of what is drawn tells what it is.
use Rattle.std.proofs.Common.{◌≡◌, ◌∙◌, ℕ, Bool, true, false, cond, not, ◌&&◌, ◌==◌, if◌then◌else◌, List, [], ◌∷◌, ◌++◌, codes, refl, ap, sym}
use Rattle.std.specs.List.{list_all}
use Rattle.std.specs.Str.{bytes_eq}
use Rattle.std.proofs.lemmas.Bool.{eqb-true, false≢true}
use Rattle.control_table.specs.sci_telegram.Names.{IsName, is_name_byte}
use Rattle.layout_text.specs.declared.entries.End.{End}
use Rattle.layout_text.specs.declared.entries.End.TheVariants as end
use Rattle.station_plan.specs.declared.thing.Subject.{Subject}
use Rattle.station_plan.specs.declared.thing.Subject.TheVariants as subject
use Rattle.station_plan.specs.Plan.{notes_id}
use Rattle.station_plan.specs.Subjects.{end_text, kind_text, name_text, own_name, subject_id}

-- ---- the first dot

abbrev before_dot : List ℕ → List ℕ
before_dot [] = []
before_dot (b ∷ bytes) = cond (b == 46) [] (b ∷ before_dot bytes)

abbrev behind_dot : List ℕ → List ℕ
behind_dot [] = []
behind_dot (b ∷ bytes) = cond (b == 46) bytes (behind_dot bytes)

abbrev has_no_dot : List ℕ → Bool
has_no_dot bytes = list_all (λ b. not (b == 46)) bytes

both : (a b : Bool) → (a && b) ≡ true → (a ≡ true) × (b ≡ true)
both true b e = (refl, e)
both false b e = cc

before-cut : (a x : List ℕ) → has_no_dot a ≡ true → before_dot (a ++ 46 ∷ x) ≡ a
before-cut [] x e = refl
before-cut (b ∷ a) x e =
    let parts = both (not (b == 46)) (has_no_dot a) e in
    further (b == 46) parts.0 (before-cut a x parts.1)
  where
    further : (v : Bool) → not v ≡ true → before_dot (a ++ 46 ∷ x) ≡ a → cond v [] (b ∷ before_dot (a ++ 46 ∷ x)) ≡ b ∷ a
    further true e h = cc
    further false e h = ap (λ bytes. b ∷ bytes) h

behind-cut : (a x : List ℕ) → has_no_dot a ≡ true → behind_dot (a ++ 46 ∷ x) ≡ x
behind-cut [] x e = refl
behind-cut (b ∷ a) x e =
    let parts = both (not (b == 46)) (has_no_dot a) e in
    further (b == 46) parts.0 (behind-cut a x parts.1)
  where
    further : (v : Bool) → not v ≡ true → behind_dot (a ++ 46 ∷ x) ≡ x → cond v (a ++ 46 ∷ x) (behind_dot (a ++ 46 ∷ x)) ≡ x
    further true e h = cc
    further false e h = h

-- ---- names have none

no_dot_byte : (b : ℕ) → is_name_byte b ≡ true → not (b == 46) ≡ true
no_dot_byte b e = by (b == 46) refl
  where
    by : (v : Bool) → (b == 46) ≡ v → not v ≡ true
    by true h =
        let same : is_name_byte b ≡ is_name_byte 46 = ap is_name_byte (eqb-true b 46 h) in
        cc
    by false h = refl

without : (bytes : List ℕ) → list_all is_name_byte bytes ≡ true → has_no_dot bytes ≡ true
without [] e = refl
without (b ∷ bytes) e =
    let parts = both (is_name_byte b) (list_all is_name_byte bytes) e in
    joined (not (b == 46)) (no_dot_byte b parts.0) (without bytes parts.1)
  where
    joined : (v : Bool) → v ≡ true → has_no_dot bytes ≡ true → (v && has_no_dot bytes) ≡ true
    joined true e h = h
    joined false e h = cc

kind-plain : (s : Subject) → has_no_dot (kind_text s) ≡ true
kind-plain (subject.Section name) = refl
kind-plain (subject.Track name) = refl
kind-plain (subject.Point name) = refl
kind-plain (subject.Tip name) = refl
kind-plain (subject.Left name) = refl
kind-plain (subject.Right name) = refl
kind-plain (subject.Border name) = refl
kind-plain (subject.Joint name e) = refl
kind-plain (subject.Signal name) = refl
kind-plain (subject.Detector name) = refl

-- ---- back from the words

abbrev end_back : List ℕ → End
end_back word =
    if bytes_eq word (codes "a") then end.A
    else if bytes_eq word (codes "b") then end.B
    else if bytes_eq word (codes "tip") then end.Tip
    else if bytes_eq word (codes "left") then end.Left
    else if bytes_eq word (codes "right") then end.Right
    else end.End

end-back : (e : End) → end_back (end_text e) ≡ e
end-back end.A = refl
end-back end.B = refl
end-back end.Tip = refl
end-back end.Left = refl
end-back end.Right = refl
end-back end.End = refl

abbrev joint_back : List ℕ → Subject
joint_back name = subject.Joint (before_dot name) (end_back (behind_dot name))

abbrev back : List ℕ → List ℕ → Subject
back kind name =
    if bytes_eq kind (codes "track") then subject.Track name
    else if bytes_eq kind (codes "point") then subject.Point name
    else if bytes_eq kind (codes "tip") then subject.Tip name
    else if bytes_eq kind (codes "left") then subject.Left name
    else if bytes_eq kind (codes "right") then subject.Right name
    else if bytes_eq kind (codes "border") then subject.Border name
    else if bytes_eq kind (codes "joint") then joint_back name
    else if bytes_eq kind (codes "signal") then subject.Signal name
    else if bytes_eq kind (codes "detector") then subject.Detector name
    else subject.Section name

back-of : (s : Subject) → IsName (own_name s) → back (kind_text s) (name_text s) ≡ s
back-of (subject.Section name) is = refl
back-of (subject.Track name) is = refl
back-of (subject.Point name) is = refl
back-of (subject.Tip name) is = refl
back-of (subject.Left name) is = refl
back-of (subject.Right name) is = refl
back-of (subject.Border name) is = refl
back-of (subject.Joint name e) is =
    let plain = without name is.each in
    let text = name ++ (codes "." ++ end_text e) in
    ap (λ own. subject.Joint own (end_back (behind_dot text))) (before-cut name (end_text e) plain)
    ∙ (ap (λ word. subject.Joint name (end_back word)) (behind-cut name (end_text e) plain)
    ∙ ap (λ last. subject.Joint name last) (end-back e))
back-of (subject.Signal name) is = refl
back-of (subject.Detector name) is = refl

-- ---- identities

kind-there : (s : Subject) → before_dot (subject_id s) ≡ kind_text s
kind-there s = before-cut (kind_text s) (name_text s) (kind-plain s)

name-there : (s : Subject) → behind_dot (subject_id s) ≡ name_text s
name-there s = behind-cut (kind_text s) (name_text s) (kind-plain s)

pub apart : (s t : Subject) → IsName (own_name s) → IsName (own_name t) → subject_id s ≡ subject_id t → s ≡ t
apart s t one other e =
    let kinds : kind_text s ≡ kind_text t = sym (kind-there s) ∙ (ap before_dot e ∙ kind-there t) in
    let names : name_text s ≡ name_text t = sym (name-there s) ∙ (ap behind_dot e ∙ name-there t) in
    sym (back-of s one) ∙ (ap (λ kind. back kind (name_text s)) kinds ∙ (ap (λ name. back (kind_text t) name) names ∙ back-of t other))

not-notes : (s : Subject) → bytes_eq (kind_text s) notes_id ≡ false
not-notes (subject.Section name) = refl
not-notes (subject.Track name) = refl
not-notes (subject.Point name) = refl
not-notes (subject.Tip name) = refl
not-notes (subject.Left name) = refl
not-notes (subject.Right name) = refl
not-notes (subject.Border name) = refl
not-notes (subject.Joint name e) = refl
not-notes (subject.Signal name) = refl
not-notes (subject.Detector name) = refl

pub not_notes : (s : Subject) → subject_id s ≡ notes_id → ⊥
not_notes s e =
    let kind : kind_text s ≡ notes_id = sym (kind-there s) ∙ ap before_dot e in
    false≢true (sym (not-notes s) ∙ ap (λ word. bytes_eq word notes_id) kind)
