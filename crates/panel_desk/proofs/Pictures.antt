-- What a board shows on which lines were shown.
use Rattle.std.proofs.Common.{◌≡◌, ◌∙◌, ◌<◌, ◌≤◌, ◌+◌, ℕ, zero, suc, Bool, true, false, if◌then◌else◌, List, [], ◌∷◌, ◌++◌, length, map, take, drop, Option, Some, None, slice_get, get_or, refl, sym, ap, arith, drop-cons}
use Rattle.std.proofs.lemmas.List.{append_assoc, append-nil}
use Rattle.std.proofs.lemmas.Slice.Eq.{bytes_eq-Decides}
use Rattle.std.specs.Str.{bytes_eq}
use Rattle.panel_desk.specs.Answers.{DeskView}
use Rattle.panel_desk.specs.ShownLines.{panel_text}
use Rattle.panel_desk.specs.declared.panel_line.PanelLine.{PanelLine}
use Rattle.node_lines.specs.layout.Entries.{Site}
use Rattle.panel_desk.specs.Lines.{BoardView, NotedView, told, told_at, told_over}
use Rattle.panel_desk.specs.Pages.{texts}
use Rattle.panel_desk.specs.Boards.{shown_all}

-- ---- lists

front : (place : ℕ) (all : List (List ℕ)) (one : List ℕ) (rest : List (List ℕ)) → place < length all → take (suc place) (take place all ++ one ∷ rest) ≡ take place all ++ one ∷ []
front place [] one rest below = absurd (omega (arith, below))
front zero (first ∷ others) one rest below = refl
front (suc place) (first ∷ others) one rest below = ap (λ (l : List (List ℕ)). first ∷ l) (front place others one rest (omega (arith, below)))

whole : (place : ℕ) (all : List (List ℕ)) → length all ≤ place → take place all ≡ all
whole zero [] above = refl
whole (suc place) [] above = refl
whole zero (first ∷ others) above = absurd (omega (arith, above))
whole (suc place) (first ∷ others) above = ap (λ (l : List (List ℕ)). first ∷ l) (whole place others (omega (arith, above)))

as_long : (notes : List NotedView) → length (texts notes) ≡ length notes
as_long [] = refl
as_long (one ∷ more) = ap suc (as_long more)

-- ---- one line

over_text : (number : ℕ) (line : List ℕ) (one : NotedView) → (told_over number line one).text ≡ line
over_text number line one = by_test (bytes_eq one.text line) refl
  where
    by_test : (same : Bool) → bytes_eq one.text line ≡ same → (if same then one else record { text = line; since = number }).text ≡ line
    by_test true is = (bytes_eq-Decides one.text line).0 is
    by_test false is = refl

further : (now place : ℕ) (line : List ℕ) (found : Option NotedView) (one : NotedView) (more : List NotedView)
    → told_at now (suc place) line found (one ∷ more) ≡ one ∷ told_at now place line found more
further now place line None one more = refl
further now place line (Some before) one more = refl

told_texts : (now place : ℕ) (line : List ℕ) (notes : List NotedView) → place < length notes
    → texts (told_at now place line (slice_get notes place) notes) ≡ take place (texts notes) ++ line ∷ drop (suc place) (texts notes)
told_texts now place line [] below = absurd (omega (arith, below))
told_texts now zero line (one ∷ more) below = ap (λ (t : List ℕ). t ∷ texts more) (over_text now line one)
told_texts now (suc place) line (one ∷ more) below =
    ap texts (further now place line (slice_get more place) one more) ∙ ap (λ (l : List (List ℕ)). one.text ∷ l) (told_texts now place line more (omega (arith, below)))

told_length : (now place : ℕ) (line : List ℕ) (notes : List NotedView) → length (told_at now place line (slice_get notes place) notes) ≡ length notes
told_length now zero line [] = refl
told_length now (suc place) line [] = refl
told_length now zero line (one ∷ more) = refl
told_length now (suc place) line (one ∷ more) =
    ap (λ (l : List NotedView). length l) (further now place line (slice_get more place) one more) ∙ ap suc (told_length now place line more)

-- ---- all lines

pub shown_texts : (site : Site) (place : ℕ) (lines : List PanelLine) (board : BoardView) → place + length lines ≡ length board.shown
    → texts (shown_all site place lines board).shown ≡ take place (texts board.shown) ++ map (panel_text site) lines
shown_texts site place [] board fits =
    let long = as_long board.shown in
    sym (append-nil (take place (texts board.shown)) ∙ whole place (texts board.shown) (omega (arith, fits, long)))
shown_texts site place (line ∷ more) board fits =
    let text : List ℕ = panel_text site line in
    let next : BoardView = told place text board in
    let long = as_long board.shown in
    let kept = told_length board.number place text board.shown in
    let here = told_texts board.number place text board.shown (omega (arith, fits)) in
    shown_texts site (suc place) more next (omega (arith, fits, kept))
    ∙ ap (λ (l : List (List ℕ)). take (suc place) l ++ map (panel_text site) more) here
    ∙ ap (λ (l : List (List ℕ)). l ++ map (panel_text site) more) (front place (texts board.shown) text (drop (suc place) (texts board.shown)) (omega (arith, fits, long)))
    ∙ append_assoc (take place (texts board.shown)) (text ∷ []) (map (panel_text site) more)

-- ---- the next line

pub shown_next : (site : Site) (place : ℕ) (all : List PanelLine) (other : PanelLine) (desk new first : DeskView) → place < length all
    → new ≡ record desk { board = told place (panel_text site (get_or all place other)) desk.board }
    → record desk { board = shown_all site place (drop place all) desk.board } ≡ first
    → record new { board = shown_all site (place + 1) (drop (place + 1) all) new.board } ≡ first
shown_next site place all other desk new first below is before =
    let next : suc place ≡ place + 1 = omega arith in
    ap (λ (d : DeskView). record d { board = shown_all site (place + 1) (drop (place + 1) all) d.board }) is
    ∙ ap (λ (p : ℕ). record desk { board = shown_all site p (drop p all) (told place (panel_text site (get_or all place other)) desk.board) }) (sym next)
    ∙ ap (λ (l : List PanelLine). record desk { board = shown_all site place l desk.board }) (sym (drop-cons all place other below))
    ∙ before
