-- How a station lies as lines say, line by line.
use Rattle.std.proofs.Common.{◌≡◌, ◌≢◌, ◌≤◌, ◌<◌, ◌∙◌, ℕ, zero, suc, ◌+◌, ◌==◌, Bool, true, false, List, [], ◌∷◌, ◌++◌, drop, get_or, length, map, replicate, append_assoc, append-nil, Some, slice_get, slice_set, refl, sym, ap, subst, arith, inl, inr}
use Rattle.std.specs.Prelude.{◌⊎◌}
use Rattle.std.specs.List.{Contains, list_any}
use Rattle.std.proofs.lemmas.Bool.{true≢false}
use Rattle.std.proofs.lemmas.Bool.Decides.{nat_tests}
use Rattle.std.proofs.lemmas.List.{drop_all, drop_more, length-map, length-set}
use Rattle.std.proofs.lemmas.List.Elements.{Contains-append_left, Contains-push, Contains-push_cases}
use Rattle.std.proofs.lemmas.List.Folds.{list_any_at}
use Rattle.replay_lines.specs.Outset.{AllStandBehind, StandsBehind, begins_same, is_begun}
use Rattle.replay_lines.specs.declared.line.SimLine.{SimLine}
use Rattle.replay_lines.specs.declared.line.SimLine.TheVariants as said
use Rattle.replay_lines.specs.declared.outset.Begun.TheVariants as begun
use Rattle.simulator.specs.layout.Entries.{Site}
use Rattle.simulator.specs.sci_telegram.declared.message.Occupancy.{Occupancy}
use Rattle.simulator.specs.sci_telegram.declared.message.Occupancy.TheVariants as occupancies
use Rattle.simulator.specs.sci_telegram.declared.message.Position.{Position}
use Rattle.simulator.specs.sci_telegram.declared.message.Position.TheVariants as positions
use Rattle.simulator.specs.simulator_spec.First.{IsOutsetOf, Outset, at_rest}
use Rattle.replay.specs.Outset.{LieAsSaid, LiesAs, line_in, lines_in, outset_of}

-- ---- one place of a list

get_set : {A : Type 0} (list : List A) (place : ℕ) (one : A) → place < length list → slice_get (slice_set list place one) place ≡ Some one
get_set [] place one within = absurd (omega arith)
get_set (first ∷ others) zero one within = refl
get_set (first ∷ others) (suc place) one within = get_set others place one (omega arith)

get_set_other : {A : Type 0} (list : List A) (place other : ℕ) (one : A) → other ≢ place → slice_get (slice_set list place one) other ≡ slice_get list other
get_set_other [] place other one differ = refl
get_set_other (first ∷ others) zero zero one differ = absurd (differ refl)
get_set_other (first ∷ others) zero (suc other) one differ = refl
get_set_other (first ∷ others) (suc place) zero one differ = refl
get_set_other (first ∷ others) (suc place) (suc other) one differ = get_set_other others place other one (λ same. differ (ap suc same))

all_alike : {A B : Type 0} (one : B) (list : List A) (place : ℕ) → place < length list → slice_get (map (λ x. one) list) place ≡ Some one
all_alike one [] place within = absurd (omega arith)
all_alike one (x ∷ xs) zero within = refl
all_alike one (x ∷ xs) (suc place) within = all_alike one xs place (omega arith)

-- ---- what is said of places, and one thing more

module _ {Lies : Type 0} (Was Is : ℕ → Lies → Type 0) (otherwise : Lies) (count : ℕ) (list : List Lies)
    (on : (place : ℕ) (lies : Lies) → Was place lies → Is place lies) where
  nothing_more : ((place : ℕ) (lies : Lies) → Is place lies → Was place lies) → LieAsSaid Was otherwise count list → LieAsSaid Is otherwise count list
  nothing_more back before = record {
    each = before.each;
    said = λ place lies within is. before.said place lies within (back place lies is);
    others = λ place within none. before.others place within (λ lies was. none lies (on place lies was));
  }

  one_more : (at : ℕ) (so : Lies) → Is at so → ((lies : Lies) → Was at lies → ⊥)
      → ((place : ℕ) (lies : Lies) → Is place lies → Was place lies ⊎ ((place ≡ at) × (lies ≡ so)))
      → LieAsSaid Was otherwise count list → LieAsSaid Is otherwise count (slice_set list at so)
  one_more at so is_so unsaid back before = record {
    each = length-set list at so ∙ before.each;
    said = λ place lies within is. by_case place lies within (back place lies is);
    others = λ place within none.
        get_set_other list at place so (λ same. none so (subst (λ (p : ℕ). Is p so) (sym same) is_so))
        ∙ before.others place within (λ lies was. none lies (on place lies was));
  }
    where
      by_case : (place : ℕ) (lies : Lies) → place < count → Was place lies ⊎ ((place ≡ at) × (lies ≡ so)) → slice_get (slice_set list at so) place ≡ Some lies
      by_case place lies within (inl was) =
          get_set_other list at place so (λ same. unsaid lies (subst (λ (p : ℕ). Was p lies) same was)) ∙ before.said place lies within was
      by_case place lies within (inr so_is) =
          let each = before.each in
          let same = so_is.0 in
          let there : at < length list = omega (arith, each, same, within) in
          ap (slice_get (slice_set list at so)) so_is.0 ∙ (get_set list at so there ∙ ap Some (sym so_is.1))

-- ---- lines

abbrev point_line : ℕ → Position → SimLine
point_line place position = said.Begins (begun.Point (record { 0 = place }) position)

abbrev section_line : ℕ → Occupancy → SimLine
section_line place occupancy = said.Begins (begun.Section (record { 0 = place }) occupancy)

-- what a line names, and how it lies
abbrev kind_of : SimLine → ℕ
kind_of (said.Begins (begun.Point point position)) = 1
kind_of (said.Begins (begun.Section section occupancy)) = 2
kind_of line = 0

abbrev place_of : SimLine → ℕ
place_of (said.Begins (begun.Point point position)) = point.0
place_of (said.Begins (begun.Section section occupancy)) = section.0
place_of line = 0

abbrev position_of : SimLine → Position
position_of (said.Begins (begun.Point point position)) = position
position_of line = positions.Left

abbrev occupancy_of : SimLine → Occupancy
occupancy_of (said.Begins (begun.Section section occupancy)) = occupancy
occupancy_of line = occupancies.Clear

itself : (one : ℕ) → (one == one) ≡ true
itself one = grind (arith, nat_tests)

said_by : (test : SimLine → Bool) (lines : List SimLine) (line : SimLine) → Contains lines line → test line ≡ true → list_any test lines ≡ true
said_by test lines line there passes = list_any_at test lines there.0 line there.1 (ap test there.2 ∙ passes)

still_there : (earlier : List SimLine) (this line : SimLine) → (this ≡ line → ⊥) → Contains (earlier ++ this ∷ []) line → Contains earlier line
still_there earlier this line other there = by_case (Contains-push_cases earlier this line there) where
  by_case : Contains earlier line ⊎ (this ≡ line) → Contains earlier line
  by_case (inl was) = was
  by_case (inr is) = absurd (other is)

abbrev Stand : List SimLine → ℕ → Position → Type 0
Stand lines place position = Contains lines (point_line place position)

abbrev AreOccupied : List SimLine → ℕ → Occupancy → Type 0
AreOccupied lines place occupancy = Contains lines (section_line place occupancy)

module _ (site : Site) (earlier : List SimLine) (this : SimLine) (outset : Outset) where
  abbrev now : List SimLine
  now = earlier ++ this ∷ []

  points_stay : ((place : ℕ) (position : Position) → this ≡ point_line place position → ⊥)
      → LieAsSaid (Stand earlier) positions.Left (length site.points) outset.positions → LieAsSaid (Stand now) positions.Left (length site.points) outset.positions
  points_stay other before =
      nothing_more (Stand earlier) (Stand now) positions.Left (length site.points) outset.positions
      (λ place position was. Contains-append_left earlier (this ∷ []) (point_line place position) was)
      (λ place position is. still_there earlier this (point_line place position) (other place position) is) before

  sections_stay : ((place : ℕ) (occupancy : Occupancy) → this ≡ section_line place occupancy → ⊥)
      → LieAsSaid (AreOccupied earlier) occupancies.Clear (length site.sections) outset.occupancies → LieAsSaid (AreOccupied now) occupancies.Clear (length site.sections) outset.occupancies
  sections_stay other before =
      nothing_more (AreOccupied earlier) (AreOccupied now) occupancies.Clear (length site.sections) outset.occupancies
      (λ place occupancy was. Contains-append_left earlier (this ∷ []) (section_line place occupancy) was)
      (λ place occupancy is. still_there earlier this (section_line place occupancy) (other place occupancy) is) before

  stays : kind_of this ≡ 0 → LiesAs site earlier outset → LiesAs site now outset
  stays other before = record {
    points = points_stay (λ place position same. not_one (sym (ap kind_of same) ∙ other)) before.points;
    sections = sections_stay (λ place occupancy same. not_two (sym (ap kind_of same) ∙ other)) before.sections;
  }
    where
      not_one : ◌≡◌ {A = ℕ} 1 0 → ⊥
      not_one e = omega (arith, e)

      not_two : ◌≡◌ {A = ℕ} 2 0 → ⊥
      not_two e = omega (arith, e)

-- one line more
line_lies : (site : Site) (earlier : List SimLine) (this : SimLine) (outset : Outset) → StandsBehind earlier this → LiesAs site earlier outset → LiesAs site (earlier ++ this ∷ []) (line_in outset this)
line_lies site earlier (said.Begins (begun.Point point position)) outset stands before =
    let this : SimLine = said.Begins (begun.Point point position) in
    record {
      points =
          one_more (Stand earlier) (Stand (earlier ++ this ∷ [])) positions.Left (length site.points) outset.positions
          (λ place lies was. Contains-append_left earlier (this ∷ []) (point_line place lies) was)
          point.0 position (Contains-push earlier this)
          (λ lies was. true≢false (sym (said_by (begins_same (begun.Point point position)) earlier (point_line point.0 lies) was (itself point.0)) ∙ stands.1))
          (λ place lies is. by_case place lies (Contains-push_cases earlier this (point_line place lies) is))
          before.points;
      sections = sections_stay site earlier this outset (λ place occupancy same. one_is_two (ap kind_of same)) before.sections;
    }
  where
    one_is_two : ◌≡◌ {A = ℕ} 1 2 → ⊥
    one_is_two e = omega (arith, e)

    by_case : (place : ℕ) (lies : Position) → Stand earlier place lies ⊎ (said.Begins (begun.Point point position) ≡ point_line place lies) → Stand earlier place lies ⊎ ((place ≡ point.0) × (lies ≡ position))
    by_case place lies (inl was) = inl was
    by_case place lies (inr same) = inr (sym (ap place_of same), sym (ap position_of same))
line_lies site earlier (said.Begins (begun.Section section occupancy)) outset stands before =
    let this : SimLine = said.Begins (begun.Section section occupancy) in
    record {
      points = points_stay site earlier this outset (λ place position same. two_is_one (ap kind_of same)) before.points;
      sections =
          one_more (AreOccupied earlier) (AreOccupied (earlier ++ this ∷ [])) occupancies.Clear (length site.sections) outset.occupancies
          (λ place lies was. Contains-append_left earlier (this ∷ []) (section_line place lies) was)
          section.0 occupancy (Contains-push earlier this)
          (λ lies was. true≢false (sym (said_by (begins_same (begun.Section section occupancy)) earlier (section_line section.0 lies) was (itself section.0)) ∙ stands.1))
          (λ place lies is. by_case place lies (Contains-push_cases earlier this (section_line place lies) is))
          before.sections;
    }
  where
    two_is_one : ◌≡◌ {A = ℕ} 2 1 → ⊥
    two_is_one e = omega (arith, e)

    by_case : (place : ℕ) (lies : Occupancy) → AreOccupied earlier place lies ⊎ (said.Begins (begun.Section section occupancy) ≡ section_line place lies) → AreOccupied earlier place lies ⊎ ((place ≡ section.0) × (lies ≡ occupancy))
    by_case place lies (inl was) = inl was
    by_case place lies (inr same) = inr (sym (ap place_of same), sym (ap occupancy_of same))
line_lies site earlier (said.Event event) outset stands before = stays site earlier (said.Event event) outset refl before
line_lies site earlier (said.Flow span) outset stands before = stays site earlier (said.Flow span) outset refl before
line_lies site earlier said.Picture outset stands before = stays site earlier said.Picture outset refl before

-- ---- all lines

lines_lie : (site : Site) (earlier rest : List SimLine) (outset : Outset) → AllStandBehind earlier rest → LiesAs site earlier outset → LiesAs site (earlier ++ rest) (lines_in outset rest)
lines_lie site earlier [] outset stand lies = subst (λ (all : List SimLine). LiesAs site all outset) (sym (append-nil earlier)) lies
lines_lie site earlier (line ∷ later) outset stand lies =
    subst (λ (all : List SimLine). LiesAs site all (lines_in (line_in outset line) later)) (append_assoc earlier (line ∷ []) later)
    (lines_lie site (earlier ++ line ∷ []) later (line_in outset line) stand.1 (line_lies site earlier line outset stand.0 lies))

nothing_said : (site : Site) → LiesAs site [] (at_rest site)
nothing_said site = record {
  points = record {
    each = length-map site.points (λ point. positions.Left);
    said = λ place lies within there. absurd (none (there.1));
    others = λ place within none. all_alike positions.Left site.points place within;
  };
  sections = record {
    each = length-map site.sections (λ (name : List ℕ). occupancies.Clear);
    said = λ place lies within there. absurd (none (there.1));
    others = λ place within none. all_alike occupancies.Clear site.sections place within;
  };
}
  where
    none : {k : ℕ} → k < 0 → ⊥
    none h = omega (arith, h)

pub all_lie : (site : Site) (lines : List SimLine) → AllStandBehind [] lines → LiesAs site lines (outset_of site lines)
all_lie site lines stand = lines_lie site [] lines (at_rest site) stand (nothing_said site)

pub none_begun : (lines : List SimLine) (outset : Outset) → list_any is_begun lines ≡ false → lines_in outset lines ≡ outset
none_begun [] outset e = refl
none_begun (said.Begins of ∷ later) outset e = absurd (true≢false e)
none_begun (said.Event of ∷ later) outset e = none_begun later outset e
none_begun (said.Flow span ∷ later) outset e = none_begun later outset e
none_begun (said.Picture ∷ later) outset e = none_begun later outset e

-- ---- at rest

as_many : {A B : Type 0} (one : B) (list : List A) → replicate (length list) one ≡ map (λ x. one) list
as_many one [] = refl
as_many one (x ∷ xs) = ap (λ others. one ∷ others) (as_many one xs)

all_of : {A B : Type 0} (one : B) (list : List A) (count : ℕ) → count ≡ length list → replicate count one ≡ map (λ x. one) list
all_of one list count is_length = ap (λ (n : ℕ). replicate n one) is_length ∙ as_many one list

pub lies_at_rest : (site : Site) (stands : List Position) (occupied : List Occupancy) (points sections : ℕ) → stands ≡ replicate points positions.Left → occupied ≡ replicate sections occupancies.Clear
    → points ≡ length site.points → sections ≡ length site.sections → (record { positions = stands; occupancies = occupied }) ≡ at_rest site
lies_at_rest site stands occupied points sections stands_are occupied_are points_are sections_are =
    let lies : List Position → List Occupancy → Outset = λ p o. record { positions = p; occupancies = o }
    in ap (λ p. lies p occupied) (stands_are ∙ all_of positions.Left site.points points points_are)
    ∙ ap (lies (map (λ point. positions.Left) site.points)) (occupied_are ∙ all_of occupancies.Clear site.sections sections sections_are)

-- ---- as many as there are

pub rest_fits : (site : Site) → IsOutsetOf site (at_rest site)
rest_fits site = record { positions = length-map site.points (λ point. positions.Left); occupancies = length-map site.sections (λ (name : List ℕ). occupancies.Clear) }

pub line_fits : (site : Site) (outset : Outset) (line : SimLine) → IsOutsetOf site outset → IsOutsetOf site (line_in outset line)
line_fits site outset (said.Begins (begun.Point point position)) fits = record { positions = length-set outset.positions point.0 position ∙ fits.positions; occupancies = fits.occupancies }
line_fits site outset (said.Begins (begun.Section section occupancy)) fits = record { positions = fits.positions; occupancies = length-set outset.occupancies section.0 occupancy ∙ fits.occupancies }
line_fits site outset (said.Event of) fits = fits
line_fits site outset (said.Flow span) fits = fits
line_fits site outset said.Picture fits = fits

-- ---- the loop over lines

pub one_line : (outset next : Outset) (lines : List SimLine) (place : ℕ) (this : SimLine) → place < length lines → this ≡ get_or lines place this → next ≡ line_in outset this
    → lines_in next (drop (place + 1) lines) ≡ lines_in outset (drop place lines)
one_line outset next lines place this within at is =
    let split : drop place lines ≡ this ∷ drop (place + 1) lines = drop_more lines place this within ∙ ap (λ l. l ∷ drop (place + 1) lines) (sym at) in
    ap (λ (o : Outset). lines_in o (drop (place + 1) lines)) is ∙ sym (ap (lines_in outset) split)

pub no_line : (outset : Outset) (lines : List SimLine) (place : ℕ) → length lines ≤ place → lines_in outset (drop place lines) ≡ outset
no_line outset lines place past = ap (lines_in outset) (drop_all place lines past)
