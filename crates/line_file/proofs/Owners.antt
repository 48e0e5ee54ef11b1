-- A text of another end, or of another line, is told to be so.
use Rattle.std.proofs.Common.{◌≡◌, ◌≢◌, ℕ, Bool, true, false, List, [], ◌∷◌, ◌++◌, length, drop, slice_index, refl, sym, ap, subst, ◌∙◌, append_assoc, arith}
use Rattle.std.specs.Prelude.{Err, ◌&&◌, codes}
use Rattle.std.specs.List.{list_all}
use Rattle.std.proofs.lemmas.Bool.{cond-true, cond-false}
use Rattle.std.proofs.lemmas.List.{append-nil, append_cancel_left}
use Rattle.sci_telegram.specs.Names.{IsName, is_name_byte}
use Rattle.line_laws.specs.declared.words.Side.{Side}
use Rattle.line_laws.specs.declared.words.Side.TheVariants.{First, Second}
use Rattle.line_laws.specs.End.{File}
use Rattle.line_file.specs.declared.fault.FileFault.{FileFault}
use Rattle.line_file.specs.declared.fault.FileFault.TheVariants.{OtherLine, OtherEnd}
use Rattle.line_file.specs.EndFiles.{line_text, side_text, owner_text, kept_text, writing, begin_with, is_cut_off, reading}
use Rattle.line_file.proofs.Texts.{begins_so, begins_then, cut_then}

-- a test that can't be passed fails
fails : (test : Bool) → (test ≡ true → ⊥) → test ≡ false
fails true isnt = absurd (isnt refl)
fails false isnt = refl

-- ---- two ends

letters_differ : ◌≡◌ {A = ℕ} 115 102 → ⊥
letters_differ same = omega (arith, same)

-- behind the same name, the lines of the two ends differ
sides_differ : (line x y : List ℕ) → (line ++ side_text Second) ++ x ≡ (line ++ side_text First) ++ y → ⊥
sides_differ line x y same =
    let rest : side_text Second ++ x ≡ side_text First ++ y =
    append_cancel_left line _ _ (sym (append_assoc line (side_text Second) x) ∙ (same ∙ append_assoc line (side_text First) y))
    in letters_differ (ap (λ (l : List ℕ). slice_index l 5) rest)

other_of : (name : List ℕ) (side other : Side) (rest : List ℕ) → side ≢ other → begin_with (owner_text name side) (owner_text name other ++ rest) ≡ false
other_of name First First rest not = absurd (not refl)
other_of name First Second rest not = fails _ (λ is. sides_differ (line_text name) rest _ (begins_then (owner_text name First) (owner_text name Second ++ rest) is))
other_of name Second First rest not = fails _ (λ is. sides_differ (line_text name) _ rest (sym (begins_then (owner_text name Second) (owner_text name First ++ rest) is)))
other_of name Second Second rest not = absurd (not refl)

uncut_of : (name : List ℕ) (side other : Side) (rest : List ℕ) → side ≢ other → is_cut_off (owner_text name side) (owner_text name other ++ rest) ≡ false
uncut_of name First First rest not = absurd (not refl)
uncut_of name First Second rest not = fails _ (λ is.
    sides_differ (line_text name) (rest ++ drop (length (owner_text name Second ++ rest)) (owner_text name First)) []
    (sym (append_assoc (owner_text name Second) rest _) ∙ (sym (cut_then (owner_text name First) (owner_text name Second ++ rest) is) ∙ sym (append-nil (owner_text name First)))))
uncut_of name Second First rest not = fails _ (λ is.
    sides_differ (line_text name) [] (rest ++ drop (length (owner_text name First ++ rest)) (owner_text name Second))
    (append-nil (owner_text name Second) ∙ (cut_then (owner_text name Second) (owner_text name First ++ rest) is ∙ append_assoc (owner_text name First) rest _)))
uncut_of name Second Second rest not = absurd (not refl)

pub read_other_end : (name : List ℕ) (side other : Side) (kept : File) → side ≢ other → reading name side (writing name other kept) ≡ Err OtherEnd
read_other_end name side other kept not =
    let text = writing name other kept in
    cond-false (begin_with (owner_text name side) text) _ _ (other_of name side other (kept_text kept) not)
    ∙ ap (λ (f : FileFault). Err f)
    (cond-false (is_cut_off (owner_text name side) text) _ _ (uncut_of name side other (kept_text kept) not)
    ∙ cond-true (begin_with (line_text name) text) _ _
    (ap (begin_with (line_text name)) (append_assoc (line_text name) (side_text other) (kept_text kept)) ∙ begins_so (line_text name) (side_text other ++ kept_text kept)))

-- ---- two lines

is_true_both : (a b : Bool) → (a && b) ≡ true → (a ≡ true) × (b ≡ true)
is_true_both true b is = (refl, is)
is_true_both false b is = absurd (cc (is))

newline_not : (byte : ℕ) → is_name_byte byte ≡ true → byte ≡ 10 → ⊥
newline_not byte is ten = let newline : false ≡ true = subst (λ (b : ℕ). is_name_byte b ≡ true) ten is in absurd (cc (newline))

-- a newline ends a name, which has none
names_same : (a b x y : List ℕ) → list_all is_name_byte a ≡ true → list_all is_name_byte b ≡ true
    → (a ++ codes "\n") ++ x ≡ (b ++ codes "\n") ++ y → a ≡ b
names_same [] [] x y ha hb same = refl
names_same [] (c ∷ b) x y ha hb same =
    absurd (newline_not c (is_true_both (is_name_byte c) (list_all is_name_byte b) hb).0 (sym (ap (λ (l : List ℕ). slice_index l 0) same)))
names_same (c ∷ a) [] x y ha hb same =
    absurd (newline_not c (is_true_both (is_name_byte c) (list_all is_name_byte a) ha).0 (ap (λ (l : List ℕ). slice_index l 0) same))
names_same (c ∷ a) (d ∷ b) x y ha hb same =
    let head : c ≡ d = ap (λ (l : List ℕ). slice_index l 0) same
    in let tail : a ≡ b = names_same a b x y (is_true_both (is_name_byte c) (list_all is_name_byte a) ha).1 (is_true_both (is_name_byte d) (list_all is_name_byte b) hb).1 (ap (λ (l : List ℕ). drop 1 l) same)
    in ap (λ (n : ℕ). n ∷ a) head ∙ ap (λ (l : List ℕ). d ∷ l) tail

lines_same : (name other x y : List ℕ) → IsName name → IsName other → line_text name ++ x ≡ line_text other ++ y → name ≡ other
lines_same name other x y is also same = names_same name other x y is.each also.each (ap (λ (l : List ℕ). drop 5 l) same)

other_line : (name other : List ℕ) (side far : Side) (rest : List ℕ) → IsName name → IsName other → name ≢ other
    → begin_with (owner_text name side) (owner_text other far ++ rest) ≡ false
other_line name other side far rest is also not = fails _ (λ begins. not (lines_same name other _ _ is also
    (sym (append_assoc (line_text name) (side_text side) _) ∙ (sym (begins_then (owner_text name side) (owner_text other far ++ rest) begins) ∙ append_assoc (line_text other) (side_text far) rest))))

other_uncut : (name other : List ℕ) (side far : Side) (rest : List ℕ) → IsName name → IsName other → name ≢ other
    → is_cut_off (owner_text name side) (owner_text other far ++ rest) ≡ false
other_uncut name other side far rest is also not = fails _ (λ cut. not (lines_same name other _ _ is also
    (cut_then (owner_text name side) (owner_text other far ++ rest) cut ∙ (append_assoc (owner_text other far) rest _ ∙ append_assoc (line_text other) (side_text far) _))))

unnamed : (name other : List ℕ) (rest : List ℕ) → IsName name → IsName other → name ≢ other → begin_with (line_text name) (line_text other ++ rest) ≡ false
unnamed name other rest is also not = fails _ (λ begins. not (lines_same name other _ rest is also (sym (begins_then (line_text name) (line_text other ++ rest) begins))))

pub read_other_line : (name other : List ℕ) (side far : Side) (kept : File) → IsName name → IsName other → name ≢ other
    → reading name side (writing other far kept) ≡ Err OtherLine
read_other_line name other side far kept is also not =
    let text = writing other far kept in
    cond-false (begin_with (owner_text name side) text) _ _ (other_line name other side far (kept_text kept) is also not)
    ∙ ap (λ (f : FileFault). Err f)
    (cond-false (is_cut_off (owner_text name side) text) _ _ (other_uncut name other side far (kept_text kept) is also not)
    ∙ (cond-false (begin_with (line_text name) text) _ _
    (ap (begin_with (line_text name)) (append_assoc (line_text other) (side_text far) (kept_text kept)) ∙ unnamed name other (side_text far ++ kept_text kept) is also not)
    ∙ cond-true (begin_with (codes "line ") text) _ _ (begins_so (codes "line ") ((other ++ codes "\n" ++ side_text far) ++ kept_text kept))))
