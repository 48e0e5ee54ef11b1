-- No two ends have files of one name.
use Rattle.std.proofs.Common.{◌≡◌, ℕ, Bool, true, false, List, [], ◌∷◌, ◌++◌, drop, slice_index, refl, sym, ap, subst, ◌∙◌}
use Rattle.std.specs.Prelude.{◌&&◌, codes}
use Rattle.std.specs.List.{list_all}
use Rattle.sci_telegram.specs.Names.{IsName, is_name_byte}
use Rattle.line_begin.specs.Names.{end_file_name}

both_true : (a b : Bool) → (a && b) ≡ true → (a ≡ true) × (b ≡ true)
both_true true b is = (refl, is)
both_true false b is = absurd (cc (is))

dot_not : (byte : ℕ) → is_name_byte byte ≡ true → byte ≡ 46 → ⊥
dot_not byte is dot = let named : false ≡ true = subst (λ (b : ℕ). is_name_byte b ≡ true) dot is in absurd (cc (named))

-- a dot ends a name, which has none
before_dot : (a b x y : List ℕ) → list_all is_name_byte a ≡ true → list_all is_name_byte b ≡ true → a ++ 46 ∷ x ≡ b ++ 46 ∷ y → (a ≡ b) × (x ≡ y)
before_dot [] [] x y ha hb same = (refl, ap (λ (l : List ℕ). drop 1 l) same)
before_dot [] (c ∷ b) x y ha hb same =
    absurd (dot_not c (both_true (is_name_byte c) (list_all is_name_byte b) hb).0 (sym (ap (λ (l : List ℕ). slice_index l 0) same)))
before_dot (c ∷ a) [] x y ha hb same =
    absurd (dot_not c (both_true (is_name_byte c) (list_all is_name_byte a) ha).0 (ap (λ (l : List ℕ). slice_index l 0) same))
before_dot (c ∷ a) (d ∷ b) x y ha hb same =
    let head : c ≡ d = ap (λ (l : List ℕ). slice_index l 0) same
    in let tails = before_dot a b x y (both_true (is_name_byte c) (list_all is_name_byte a) ha).1 (both_true (is_name_byte d) (list_all is_name_byte b) hb).1 (ap (λ (l : List ℕ). drop 1 l) same)
    in (ap (λ (n : ℕ). n ∷ a) head ∙ ap (λ (l : List ℕ). d ∷ l) tails.0, tails.1)

pub same_ends : (line station other_line other_station : List ℕ) → IsName line → IsName station → IsName other_line → IsName other_station
    → end_file_name line station ≡ end_file_name other_line other_station → (line ≡ other_line) × (station ≡ other_station)
same_ends line station other_line other_station a b c d same =
    let lines = before_dot line other_line (station ++ codes ".end") (other_station ++ codes ".end") a.each c.each same in
    let stations = before_dot station other_station (codes "end") (codes "end") b.each d.each lines.1 in
    (lines.0, stations.0)
