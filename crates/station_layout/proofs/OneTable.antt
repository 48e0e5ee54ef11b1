-- A layout has one table: no two texts are its table in one form.
use Rattle.std.proofs.Common.{◌≡◌, inl, inr, ℕ, zero, suc, Bool, true, false, List, [], ◌∷◌, ◌++◌, codes, length, map, refl, ap, sym, subst, ◌∙◌, IsTrue, ◌↔◌}
use Rattle.std.proofs.lemmas.Bool.{false≢true}
use Rattle.std.proofs.lemmas.Option.{same_Some}
use Rattle.std.specs.List.{dedup, filter_map}
use Rattle.control_table.specs.layout.declared.ids.RouteId.{RouteId}
use Rattle.control_table.specs.layout.declared.ids.SectionId.{SectionId}
use Rattle.control_table.specs.layout.declared.port.Port.{Port}
use Rattle.control_table.specs.layout.Entries.{RouteEntry, Site}
use Rattle.control_table.specs.Path.{Passage, Path, elements, same_section, sections}
use Rattle.control_table.specs.Table.{AreSections, Conflict}
use Rattle.control_table.specs.Topology.{IsRoute, section_of}
use Rattle.station_layout.specs.declared.conflict_reasons.ConflictReasons.{ConflictReasons}
use Rattle.station_layout.specs.declared.form.Form.{Form}
use Rattle.station_layout.specs.ListedPlaces.{ListsBelow, TellsIf}
use Rattle.station_layout.specs.Lines.{AreRows, IsTable, cells, heads, table_text}
use Rattle.station_layout.specs.Names.{parted, point_name, route_name, spaced, with_word}
use Rattle.station_layout.specs.Reasons.{AreReasons, reason_words, word_if}
use Rattle.station_layout.specs.Row.{IsConflictText, IsConflictsCell, IsLetGoAt, IsLetGoCell, IsLetGoText, IsRowOf, IsSectionsCell, LetsOneGo, Row, name_there, point_at, route_at, section_names}

-- ---- lists that tell of places

same_part : (Belongs : Type 0) (IsText : List ℕ → Type 0) → ((a b : List ℕ) → IsText a → IsText b → a ≡ b) → (xs ys : List (List ℕ)) → TellsIf Belongs IsText xs → TellsIf Belongs IsText ys → xs ≡ ys
same_part Belongs IsText one xs ys (inl x) (inl y) = x.1.2 ∙ ap (λ text. text ∷ []) (one x.1.0 y.1.0 x.1.1 y.1.1) ∙ sym y.1.2
same_part Belongs IsText one xs ys (inl x) (inr y) = absurd (y.0 x.0)
same_part Belongs IsText one xs ys (inr x) (inl y) = absurd (x.0 y.0)
same_part Belongs IsText one xs ys (inr x) (inr y) = x.1 ∙ sym y.1

same_list : (Belongs : ℕ → Type 0) (IsText : ℕ → List ℕ → Type 0) → ((k : ℕ) (a b : List ℕ) → IsText k a → IsText k b → a ≡ b)
    → (n : ℕ) (xs ys : List (List ℕ)) → ListsBelow Belongs IsText n xs → ListsBelow Belongs IsText n ys → xs ≡ ys
unfolding ListsBelow
same_list Belongs IsText one zero xs ys x y = x ∙ sym y
same_list Belongs IsText one (suc n) xs ys x y =
    x.4 ∙ ap (λ front. front ++ x.1) (same_list Belongs IsText one n x.0 y.0 x.2 y.2) ∙ ap (λ last. y.0 ++ last) (same_part (Belongs n) (IsText n) (one n) x.1 y.1 x.3 y.3) ∙ sym y.4

-- ---- sections: they are those of the elements that the path of the route names

elements_of : (path : List Passage) → elements path ≡ map (λ (port : Port). port.element) (map (λ (passage : Passage). passage.left) path)
elements_of [] = refl
elements_of (first ∷ others) = ap (λ l. first.left.element ∷ l) (elements_of others)

module _ (l : Site) (a : RouteId) where
  same_route : (r s : RouteEntry) → IsRoute l a r → IsRoute l a s → r ≡ s
  same_route r s one other = same_Some r s (sym one ∙ other)

  abbrev named : RouteEntry → List SectionId
  named r = dedup same_section (filter_map (section_of l) (map (λ (port : Port). port.element) r.path))

  sections_named : (r : RouteEntry) (path : List Passage) → Path l r path → sections l path ≡ named r
  sections_named r path is = ap (λ e. dedup same_section (filter_map (section_of l) e)) (elements_of path ∙ ap (map (λ (port : Port). port.element)) (sym is.follows.ports))

  same_sections : (xs ys : List SectionId) → AreSections l a xs → AreSections l a ys → xs ≡ ys
  same_sections xs ys x y = x.4 ∙ sections_named x.0 x.1 x.3 ∙ ap named (same_route x.0 y.0 x.2 y.2) ∙ sym (sections_named y.0 y.1 y.3) ∙ sym y.4

  same_sections_cell : (c d : List ℕ) → IsSectionsCell l a c → IsSectionsCell l a d → c ≡ d
  same_sections_cell c d x y = x.2 ∙ ap (λ s. spaced (section_names l s)) (same_sections x.0 y.0 x.1 y.1) ∙ sym y.2

  -- points let go

  same_let_go_text : (ss : List SectionId) (place : ℕ) (c d : List ℕ) → IsLetGoText l a ss place c → IsLetGoText l a ss place d → c ≡ d
  same_let_go_text ss place c d x y = x.2 ∙ ap (λ names. with_word (name_there l ss place) (spaced names))
      (same_list (λ k. IsLetGoAt l a ss place (point_at k)) (λ k text. text ≡ point_name l (point_at k)) (λ k t u one other. one ∙ sym other) (length l.points) x.0 y.0 x.1 y.1) ∙ sym y.2

  abbrev IsLetGoCellAt : List SectionId → List ℕ → Type 0
  IsLetGoCellAt ss cell = (texts : List (List ℕ)) × ListsBelow (LetsOneGo l a ss) (IsLetGoText l a ss) (length ss) texts × (cell ≡ parted texts)

  same_let_go_cell : (c d : List ℕ) → IsLetGoCell l a c → IsLetGoCell l a d → c ≡ d
  same_let_go_cell c d x y =
      let there : IsLetGoCellAt x.0 d = subst (λ ss. IsLetGoCellAt ss d) (sym (same_sections x.0 y.0 x.1 y.1)) y.2
      in x.2.2 ∙ ap parted (same_list (LetsOneGo l a x.0) (IsLetGoText l a x.0) (same_let_go_text x.0) (length x.0) x.2.0 there.0 x.2.1 there.1) ∙ sym there.2

  -- conflicts

  same_test : (P : Type 0) (one other : Bool) → IsTrue one ↔ P → IsTrue other ↔ P → one ≡ other
  same_test P true true x y = refl
  same_test P true false x y = absurd (false≢true (y.1 (x.0 refl)))
  same_test P false true x y = absurd (false≢true (x.1 (y.0 refl)))
  same_test P false false x y = refl

  same_words : (b : RouteId) (r s : ConflictReasons) → AreReasons l a b r → AreReasons l a b s → reason_words r ≡ reason_words s
  same_words b r s x y =
      ap (λ e. word_if e (codes "entry") ++ (word_if r.section (codes "section") ++ (word_if r.point (codes "point") ++ word_if r.extra (codes "extra")))) (same_test _ r.entry s.entry x.entry y.entry)
      ∙ ap (λ e. word_if s.entry (codes "entry") ++ (word_if e (codes "section") ++ (word_if r.point (codes "point") ++ word_if r.extra (codes "extra")))) (same_test _ r.section s.section x.section y.section)
      ∙ ap (λ e. word_if s.entry (codes "entry") ++ (word_if s.section (codes "section") ++ (word_if e (codes "point") ++ word_if r.extra (codes "extra")))) (same_test _ r.point s.point x.point y.point)
      ∙ ap (λ e. word_if s.entry (codes "entry") ++ (word_if s.section (codes "section") ++ (word_if s.point (codes "point") ++ word_if e (codes "extra")))) (same_test _ r.extra s.extra x.extra y.extra)

  same_conflict_text : (k : ℕ) (c d : List ℕ) → IsConflictText l a (route_at k) c → IsConflictText l a (route_at k) d → c ≡ d
  same_conflict_text k c d x y = x.2 ∙ ap (λ words. with_word (route_name l (route_at k)) (spaced words)) (same_words (route_at k) x.0 y.0 x.1 y.1) ∙ sym y.2

  same_conflicts_cell : (c d : List ℕ) → IsConflictsCell l a c → IsConflictsCell l a d → c ≡ d
  same_conflicts_cell c d x y = x.2 ∙ ap parted (same_list (λ k. Conflict l a (route_at k)) (λ k. IsConflictText l a (route_at k)) same_conflict_text (length l.routes) x.0 y.0 x.1 y.1) ∙ sym y.2

  -- ---- the row

  same_row_of : (r : RouteEntry) (one other : Row) → IsRowOf l a r one → IsRowOf l a r other → one ≡ other
  same_row_of r one other x y =
      let route : one.route ≡ other.route = x.route ∙ sym y.route
      in let entry : one.entry ≡ other.entry = x.entry ∙ sym y.entry
      in let exit : one.exit ≡ other.exit = x.exit ∙ sym y.exit
      in let aspect : one.aspect ≡ other.aspect = x.aspect ∙ sym y.aspect
      in let right : one.right ≡ other.right = x.right ∙ sym y.right
      in let left : one.left ≡ other.left = x.left ∙ sym y.left
      in let flank : one.flank ≡ other.flank = x.flank ∙ sym y.flank
      in let section : one.sections ≡ other.sections = same_sections_cell one.sections other.sections x.sections y.sections
      in let let_go : one.let_go ≡ other.let_go = same_let_go_cell one.let_go other.let_go x.let_go y.let_go
      in let approach : one.approach ≡ other.approach = x.approach ∙ sym y.approach
      in let conflicts : one.conflicts ≡ other.conflicts = same_conflicts_cell one.conflicts other.conflicts x.conflicts y.conflicts
      in λ i. record {
        route = route i;
        entry = entry i;
        exit = exit i;
        aspect = aspect i;
        right = right i;
        left = left i;
        flank = flank i;
        sections = section i;
        let_go = let_go i;
        approach = approach i;
        conflicts = conflicts i;
      }

  same_row : (r s : RouteEntry) (one other : Row) → IsRoute l a r → IsRoute l a s → IsRowOf l a r one → IsRowOf l a s other → one ≡ other
  same_row r s one other is also x y = same_row_of r one other x (subst (λ e. IsRowOf l a e other) (sym (same_route r s is also)) y)

-- ---- the table

same_rows : (l : Site) (k : ℕ) (xs ys : List Row) → AreRows l k xs → AreRows l k ys → xs ≡ ys
unfolding AreRows
same_rows l zero xs ys x y = x ∙ sym y
same_rows l (suc k) xs ys x y =
    x.6 ∙ ap (λ front. front ++ x.2 ∷ []) (same_rows l k x.0 y.0 x.3 y.3) ∙ ap (λ row. y.0 ++ row ∷ []) (same_row l (route_at k) x.1 y.1 x.2 y.2 x.4 y.4 x.5 y.5) ∙ sym y.6

pub one_table : (form : Form) (l : Site) (one other : List ℕ) → IsTable form l one → IsTable form l other → one ≡ other
one_table form l one other x y = x.2 ∙ ap (λ (rows : List Row). table_text form (map cells (heads ∷ rows))) (same_rows l (length l.routes) x.0 y.0 x.1 y.1) ∙ sym y.2
