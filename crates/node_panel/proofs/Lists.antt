-- What is heard, asked and shown, one after another.
use Rattle.std.proofs.Common.{◌≡◌, ◌∙◌, ◌+◌, ◌<◌, ◌≤◌, ℕ, zero, suc, Bool, false, List, [], ◌∷◌, ◌++◌, map, take, drop, length, replicate, slice_set, get_or, Option, None, refl, sym, ap, subst, append_assoc, append-nil, arith, Vec}
use Rattle.std.specs.List.{flat_map}
use Rattle.std.specs.Vec.{with_items}
use Rattle.std.proofs.lemmas.List.{with_items_is}
use Rattle.panel_desk.specs.Answers.{DeskView}
use Rattle.panel_desk.specs.Boards.{Notes, one as one_line}
use Rattle.panel_desk.specs.declared.panel_line.Mode.TheVariants.{Ready}
use Rattle.panel_desk.specs.node_lines.layout.Entries.{Site}
use Rattle.panel_desk.specs.node_lines.layout.Nodes.{links as link_count}
use Rattle.panel_desk.specs.node_lines.sci_telegram.declared.message.Aspect.{Aspect}
use Rattle.panel_desk.specs.node_lines.sci_telegram.declared.message.Occupancy.{Occupancy}
use Rattle.panel_desk.specs.node_lines.sci_telegram.declared.message.Side.{Side}
use Rattle.panel_desk.specs.node_lines.declared.operator_line.Authority.{Authority}
use Rattle.panel_desk.specs.node_lines.declared.operator_command.OperatorCommand.{OperatorCommand}
use Rattle.node_drive.specs.Calls.{AsksLine, Call, LineHeard}
use Rattle.panel_desk.specs.run_numbers.Metrics.{nothing_told}
use Rattle.panel_desk.specs.node_lines.closings.Auxiliaries.{none_counted}
use Rattle.panel_desk.specs.node_lines.closings.declared.auxiliary.AuxiliaryCounts.{AuxiliaryCounts}
use Rattle.node_panel.specs.ClosedHeard.{ClosedView, all_open, nothing_closed}
use Rattle.node_panel.specs.Heard.{HeardView, forgotten, heard_all, heard_by, unheard}
use Rattle.node_panel.specs.Noted.{noted, noted_all, noted_by}
use Rattle.node_panel.specs.Turns.{AsksEach, asks, breaks_off, none}

set_next : {A : Type 0} (place : ℕ) (value : A) (all : List A) → place < length all
    → slice_set (replicate place value ++ drop place all) place value ≡ replicate (suc place) value ++ drop (suc place) all
set_next place value [] below = absurd (omega (arith, below))
set_next zero value (first ∷ others) below = refl
set_next (suc place) value (first ∷ others) below = ap (λ l. value ∷ l) (set_next place value others (omega (arith, below)))

pub set_length : {A : Type 0} (place : ℕ) (value : A) (all : List A) → length (slice_set all place value) ≡ length all
set_length place value [] = refl
set_length zero value (first ∷ others) = refl
set_length (suc place) value (first ∷ others) = ap suc (set_length place value others)

-- one more has the value
pub put_next : {A : Type 0} (place : ℕ) (value : A) (now all : List A) → place < length all → now ≡ replicate place value ++ drop place all
    → slice_set now place value ≡ replicate (place + 1) value ++ drop (place + 1) all
put_next place value now all below is =
    let next : suc place ≡ place + 1 = omega arith in
    ap (λ l. slice_set l place value) is ∙ set_next place value all below ∙ ap (λ p. replicate p value ++ drop p all) next

-- all have it
pub put_whole : {A : Type 0} (place : ℕ) (value : A) (all : List A) → length all ≤ place → place ≤ length all → replicate place value ++ drop place all ≡ replicate (length all) value
put_whole zero value [] above below = refl
put_whole (suc place) value [] above below = absurd (omega (arith, below))
put_whole zero value (first ∷ others) above below = absurd (omega (arith, above))
put_whole (suc place) value (first ∷ others) above below = ap (λ l. value ∷ l) (put_whole place value others (omega (arith, above)) (omega (arith, below)))

pub lines_next : (lines : List LineHeard) (line : LineHeard) → map AsksLine lines ++ AsksLine line ∷ [] ≡ map AsksLine (lines ++ line ∷ [])
lines_next [] line = refl
lines_next (one ∷ more) line = ap (λ l. AsksLine one ∷ l) (lines_next more line)

heard_next : (site : Site) (lines : List LineHeard) (line : LineHeard) (heard : HeardView)
    → heard_by site line (heard_all site lines heard) ≡ heard_all site (lines ++ line ∷ []) heard
heard_next site [] line heard = refl
heard_next site (one ∷ more) line heard = heard_next site more line (heard_by site one heard)

noted_next : (site : Site) (reading : ℕ) (lines : List LineHeard) (line : LineHeard) (heard : HeardView) (desk : DeskView)
    → noted_by site reading line (heard_all site lines heard) (noted_all site reading lines heard desk) ≡ noted_all site reading (lines ++ line ∷ []) heard desk
noted_next site reading [] line heard desk = refl
noted_next site reading (one ∷ more) line heard desk = noted_next site reading more line (heard_by site one heard) (noted_by site reading one heard desk)

-- one more line was heard, and noted
pub heard_on : (site : Site) (lines : List LineHeard) (line : LineHeard) (first heard new : HeardView) → heard ≡ heard_all site lines first → new ≡ heard_by site line heard
    → new ≡ heard_all site (lines ++ line ∷ []) first
heard_on site lines line first heard new before now = now ∙ ap (heard_by site line) before ∙ heard_next site lines line first

pub noted_on : (site : Site) (reading : ℕ) (lines : List LineHeard) (line : LineHeard) (first heard : HeardView) (opened desk new : DeskView)
    → heard ≡ heard_all site lines first → desk ≡ noted_all site reading lines first opened → new ≡ noted_by site reading line heard desk
    → new ≡ noted_all site reading (lines ++ line ∷ []) first opened
noted_on site reading lines line first heard opened desk new before noted_before now =
    now ∙ ap (λ (h : HeardView). noted_by site reading line h desk) before
    ∙ ap (noted_by site reading line (heard_all site lines first)) noted_before
    ∙ noted_next site reading lines line first opened

-- a line was noted
pub one_noted : {old new : DeskView} (line : List ℕ) → new ≡ noted line old → Notes old new
one_noted {old} {new} line is = subst (Notes old) (sym is) (one_line line)

pub asked_on : {site : Site} (one other : List OperatorCommand) (calls more : List Call) (first mid last : HeardView)
    → AsksEach site one first calls mid → AsksEach site other mid more last → AsksEach site (one ++ other) first (calls ++ more) last
asked_on [] other calls more first mid last none q = q
asked_on (command ∷ one) other _ more first mid last (asks p) q = asks (asked_on one other _ more _ mid last p q)
asked_on (command ∷ one) other _ more first mid last (breaks_off p) q = breaks_off (asked_on one other _ more _ mid last p q)

-- one more is taken
next_taken : {A B : Type 0} (f : A → List B) (place : ℕ) (all : List A) (other : A) → place < length all → flat_map f (take place all) ++ f (get_or all place other) ≡ flat_map f (take (suc place) all)
next_taken f place [] other below = absurd (omega (arith, below))
next_taken f zero (first ∷ others) other below = sym (append-nil (f first))
next_taken f (suc place) (first ∷ others) other below =
    append_assoc (f first) (flat_map f (take place others)) (f (get_or others place other)) ∙ ap (λ l. f first ++ l) (next_taken f place others other (omega (arith, below)))

pub one_taken : {A B : Type 0} (f : A → List B) (place : ℕ) (all : List A) (item other : A) → place < length all → item ≡ get_or all place other
    → flat_map f (take place all) ++ f item ≡ flat_map f (take (place + 1) all)
one_taken f place all item other below is =
    let next : suc place ≡ place + 1 = omega arith in
    ap (λ one. flat_map f (take place all) ++ f one) is ∙ next_taken f place all other below ∙ ap (λ p. flat_map f (take p all)) next

mapped_next : {A B : Type 0} (f : A → B) (place : ℕ) (all : List A) (other : A) → place < length all → map f (take place all) ++ f (get_or all place other) ∷ [] ≡ map f (take (suc place) all)
mapped_next f place [] other below = absurd (omega (arith, below))
mapped_next f zero (first ∷ others) other below = refl
mapped_next f (suc place) (first ∷ others) other below = ap (λ l. f first ∷ l) (mapped_next f place others other (omega (arith, below)))

pub one_mapped : {A B : Type 0} (f : A → B) (place : ℕ) (all : List A) (item other : A) → place < length all → item ≡ get_or all place other
    → map f (take place all) ++ f item ∷ [] ≡ map f (take (place + 1) all)
one_mapped f place all item other below is =
    let next : suc place ≡ place + 1 = omega arith in
    ap (λ one. map f (take place all) ++ f one ∷ []) is ∙ mapped_next f place all other below ∙ ap (λ p. map f (take p all)) next

-- lines grew by some, and then by others
pub grown : {A : Type 0} {after last : List A} (before by more : List A) → after ≡ before ++ by → last ≡ after ++ more → last ≡ before ++ (by ++ more)
grown before by more one other = other ∙ ap (λ l. l ++ more) one ∙ append_assoc before by more

-- of none
pub grown_from : {A : Type 0} {before last : List A} (all : List A) → before ≡ [] → last ≡ before ++ all → last ≡ all
grown_from all none_yet grew = grew ∙ ap (λ l. l ++ all) none_yet

-- by those of a value that is known
pub grown_by : {A B : Type 0} {after last : List A} {now items : B} (before more : List A) (of : B → List A) → now ≡ items → after ≡ before ++ of now → last ≡ after ++ more
    → last ≡ before ++ (of items ++ more)
grown_by {A} {B} {after} {last} {now} {items} before more of are one other = grown before (of items) more (one ∙ ap (λ l. before ++ of l) are) other

as_many : {A : Type 0} (count : ℕ) (value : A) → length (replicate count value) ≡ count
as_many zero value = refl
as_many (suc more) value = ap suc (as_many more value)

-- a vector of which all elements were made the same has these
pub all_put : {A Z : Type 0} (vec : Vec A Z) (old new : List A) (value : A) → old ≡ vec.items → new ≡ replicate (length old) value → (with_items vec new).items ≡ replicate (length vec.items) value
all_put vec old new value is put =
    let long : length new ≡ vec.len = ap (λ l. length l) put ∙ as_many (length old) value ∙ ap (λ l. length l) is ∙ sym vec.ok.0 in
    with_items_is vec new long ∙ put ∙ ap (λ l. replicate (length l) value) is

-- what was heard has these lists, each of which is as if nothing had been told
pub is_forgotten : (heard : HeardView) (links : List Bool) (sections : List (Option Occupancy)) (points : List (Option Side)) (authorities : List (Option Authority)) (indications : List (Option Aspect))
    (routes released : List Bool) (closed : ClosedView) (counts : AuxiliaryCounts) (first_lost second_lost : List (Option Bool)) (asked : List OperatorCommand) (numbers : List (Option ℕ)) (questioned : Option ℕ) → links ≡ replicate (length heard.links) false → sections ≡ replicate (length heard.sections) None → points ≡ replicate (length heard.points) None
    → authorities ≡ replicate (length heard.authorities) None → indications ≡ replicate (length heard.indications) None → routes ≡ replicate (length heard.routes) false
    → released ≡ replicate (length heard.released) false → closed ≡ all_open heard.closed → counts ≡ none_counted
    → first_lost ≡ replicate (length heard.first_lost) None → second_lost ≡ replicate (length heard.second_lost) None → asked ≡ []
    → numbers ≡ replicate (length heard.numbers) None → questioned ≡ None
    → record {
      millis = heard.millis;
      joined = false;
      mode = Ready;
      links = links;
      sections = sections;
      points = points;
      authorities = authorities;
      indications = indications;
      routes = routes;
      released = released;
      closed = closed;
      counts = counts;
      first_lost = first_lost;
      second_lost = second_lost;
      asked = asked;
      numbers = numbers;
      questioned = questioned;
    } ≡ forgotten heard
is_forgotten heard links sections points authorities indications routes released closed counts first_lost second_lost asked numbers questioned a b d e f h r s t m n k p q =
    λ i. record {
      millis = heard.millis;
      joined = false;
      mode = Ready;
      links = a i;
      sections = b i;
      points = d i;
      authorities = e i;
      indications = f i;
      routes = h i;
      released = r i;
      closed = s i;
      counts = t i;
      first_lost = m i;
      second_lost = n i;
      asked = k i;
      numbers = p i;
      questioned = q i;
    }

-- what was heard of a station with these lists, of which nothing was told
pub is_unheard : (site : Site) (links : List Bool) (sections : List (Option Occupancy)) (points : List (Option Side)) (authorities : List (Option Authority)) (indications : List (Option Aspect))
    (routes released : List Bool) (closed : ClosedView) (counts : AuxiliaryCounts) (first_lost second_lost : List (Option Bool)) (asked : List OperatorCommand) (numbers : List (Option ℕ)) → links ≡ replicate (link_count site) false → sections ≡ replicate (length site.sections) None
    → points ≡ replicate (length site.points) None → authorities ≡ replicate (length site.signals) None → indications ≡ replicate (length site.signals) None → routes ≡ replicate (length site.routes) false
    → released ≡ replicate (length site.routes) false → closed ≡ nothing_closed site → counts ≡ none_counted
    → first_lost ≡ replicate (link_count site) None → second_lost ≡ replicate (link_count site) None → asked ≡ [] → numbers ≡ nothing_told
    → record {
      millis = 0;
      joined = false;
      mode = Ready;
      links = links;
      sections = sections;
      points = points;
      authorities = authorities;
      indications = indications;
      routes = routes;
      released = released;
      closed = closed;
      counts = counts;
      first_lost = first_lost;
      second_lost = second_lost;
      asked = asked;
      numbers = numbers;
      questioned = None;
    } ≡ unheard site
is_unheard site links sections points authorities indications routes released closed counts first_lost second_lost asked numbers a b d e f h r s t m n k p =
    λ i. record {
      millis = 0;
      joined = false;
      mode = Ready;
      links = a i;
      sections = b i;
      points = d i;
      authorities = e i;
      indications = f i;
      routes = h i;
      released = r i;
      closed = s i;
      counts = t i;
      first_lost = m i;
      second_lost = n i;
      asked = k i;
      numbers = p i;
      questioned = None;
    }
