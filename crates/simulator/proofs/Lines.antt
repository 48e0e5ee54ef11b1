-- A picture grows line by line.
use Rattle.std.proofs.Common.{◌≡◌, refl, sym, ap, ◌∙◌, ℕ, zero, suc, ◌+◌, ◌<◌, ◌≤◌, ◌==◌, Bool, true, false, if◌then◌else◌, List, [], ◌∷◌, ◌++◌, length, drop, get_or, codes, Option, Some, None, slice_get, arith, rules, append-nil, append_assoc}
use Rattle.std.specs.Option.{option_map}
use Rattle.std.proofs.lemmas.List.{drop_all, drop_more}
use Rattle.std.proofs.lemmas.Option.{get_or_from_slice_get, slice_get_within}
use Rattle.std.proofs.lemmas.Option.{same_Some}
use Rattle.ixl_state.specs.sci_telegram.declared.message.Aspect.{Aspect}
use Rattle.ixl_state.specs.sci_telegram.declared.message.Occupancy.{Occupancy}
use Rattle.ixl_state.specs.sci_telegram.declared.message.Position.{Position}
use Rattle.ixl_state.specs.sci_telegram.declared.message.Side.{Side}
use Rattle.ixl_state.specs.layout.declared.entries.Point.{Point}
use Rattle.ixl_state.specs.layout.declared.entries.Signal.{Signal}
use Rattle.ixl_state.specs.layout.Entries.{Site, RouteEntry}
use Rattle.ixl_state.specs.ixl_spec.State.{RouteState}
use Rattle.ixl_state.specs.ixl_spec.View.{is_set}
use Rattle.simulator_spec.specs.point_ctl.Drive.{PointState}
use Rattle.simulator_spec.specs.signal_ctl.Signal.{SignalState}
use Rattle.simulator_spec.specs.simulator_event.declared.snapshot.Held.{Held}
use Rattle.simulator_spec.specs.Picture.{authority_text, driven_text, point_lines, route_lines, route_name, section_lines, set_text, signal_lines}
use Rattle.simulator_spec.specs.sci_telegram.Words.{aspect_word, occupancy_word, position_word}
use Rattle.simulator_spec.specs.Refusals.{driven_at, driven_by}
use Rattle.simulator_spec.specs.Seen.{shown_by}
use Rattle.simulator_spec.specs.State.{ClockedControllerState}
use Rattle.simulator.specs.inside.Lines.{point_line, route_line, section_line, signal_line}

one_more : (n : ℕ) → suc n ≡ n + 1
one_more n = omega arith

-- some text is added, and then what is after it
then_added : (old here later whole left new : List ℕ) → left ≡ here ++ later → new ≡ old ++ here → old ++ left ≡ whole → new ++ later ≡ whole
then_added old here later whole left new split e before =
    ap (λ all. all ++ later) e ∙ append_assoc old here later ∙ ap (λ all. old ++ all) (sym split) ∙ before

-- nothing is left to be added
all_added : (old left whole : List ℕ) → left ≡ [] → old ++ left ≡ whole → old ≡ whole
all_added old left whole none before = sym (append-nil old) ∙ ap (λ rest. old ++ rest) (sym none) ∙ before

some≢none : {A : Type 0} (a : A) → Some a ≡ None → ⊥
some≢none a e = search rules

-- what was read at a place stands there
found : {A B : Type 0} (f : A → B) (o : Option A) (b : B) → option_map f o ≡ Some b → (a : A) × (o ≡ Some a) × (f a ≡ b)
found f None b e = absurd (some≢none b (sym e))
found f (Some a) b e = (a, refl, same_Some (f a) b e)

-- what stands at a place comes first of what is left there
dropped : {A : Type 0} (xs : List A) (place : ℕ) (x : A) → slice_get xs place ≡ Some x → drop place xs ≡ x ∷ drop (place + 1) xs
dropped xs place x e =
    drop_more xs place x (slice_get_within xs place x e) ∙ ap (λ y. y ∷ drop (place + 1) xs) (get_or_from_slice_get xs place x x e)

four : (a b c d l : List ℕ) → (a ++ (b ++ (c ++ d))) ++ l ≡ a ++ (b ++ (c ++ (d ++ l)))
four a b c d l =
    append_assoc a (b ++ (c ++ d)) l
    ∙ ap (λ t. a ++ t) (append_assoc b (c ++ d) l ∙ ap (λ t. b ++ t) (append_assoc c d l))

five : (a b c d e l : List ℕ) → (a ++ (b ++ (c ++ (d ++ e)))) ++ l ≡ a ++ (b ++ (c ++ (d ++ (e ++ l))))
five a b c d e l = append_assoc a (b ++ (c ++ (d ++ e))) l ∙ ap (λ t. a ++ t) (four b c d e l)

six : (a b c d e f l : List ℕ) → (a ++ (b ++ (c ++ (d ++ (e ++ f))))) ++ l ≡ a ++ (b ++ (c ++ (d ++ (e ++ (f ++ l)))))
six a b c d e f l = append_assoc a (b ++ (c ++ (d ++ (e ++ f)))) l ∙ ap (λ t. a ++ t) (five b c d e f l)

-- ---- signals

pub signals-add : (site : Site) (held : List Held) (place : ℕ) (signals : List Signal) (servers : List (ClockedControllerState SignalState)) (signal : Signal) (aspect : Aspect) (old new whole : List ℕ)
    → place < length signals → signal ≡ get_or signals place signal → option_map shown_by (slice_get servers place) ≡ Some aspect
    → new ≡ old ++ signal_line signal.name aspect (authority_text site place held)
    → old ++ signal_lines site held place (drop place signals) (drop place servers) ≡ whole
    → new ++ signal_lines site held (place + 1) (drop (place + 1) signals) (drop (place + 1) servers) ≡ whole
signals-add site held place signals servers signal aspect old new whole within at shown e before =
    let server = found shown_by (slice_get servers place) aspect shown
    in let later = signal_lines site held (place + 1) (drop (place + 1) signals) (drop (place + 1) servers)
    in let route = authority_text site place held
    in let split : signal_lines site held place (drop place signals) (drop place servers) ≡ signal_line signal.name aspect route ++ later =
    ap (λ left. signal_lines site held place left (drop place servers)) (drop_more signals place signal within ∙ ap (λ s. s ∷ drop (place + 1) signals) (sym at))
    ∙ ap (λ left. signal_lines site held place (signal ∷ drop (place + 1) signals) left) (dropped servers place server.0 server.1)
    ∙ ap (λ (a : Aspect). codes "\nsignal " ++ (signal.name ++ (codes " " ++ (aspect_word a ++ (codes " " ++ (route ++ signal_lines site held (suc place) (drop (place + 1) signals) (drop (place + 1) servers))))))) server.2
    ∙ ap (λ (n : ℕ). codes "\nsignal " ++ (signal.name ++ (codes " " ++ (aspect_word aspect ++ (codes " " ++ (route ++ signal_lines site held n (drop (place + 1) signals) (drop (place + 1) servers))))))) (one_more place)
    ∙ sym (six (codes "\nsignal ") signal.name (codes " ") (aspect_word aspect) (codes " ") route later)
    in then_added old (signal_line signal.name aspect route) later whole (signal_lines site held place (drop place signals) (drop place servers)) new split e before

pub signals-all : (site : Site) (held : List Held) (place : ℕ) (signals : List Signal) (servers : List (ClockedControllerState SignalState)) (old whole : List ℕ)
    → length signals ≤ place → old ++ signal_lines site held place (drop place signals) (drop place servers) ≡ whole → old ≡ whole
signals-all site held place signals servers old whole past before =
    all_added old (signal_lines site held place (drop place signals) (drop place servers)) whole
    (ap (λ left. signal_lines site held place left (drop place servers)) (drop_all place signals past)) before

-- ---- points

driven_is : (servers : List (ClockedControllerState PointState)) (place : ℕ) (server : ClockedControllerState PointState) → slice_get servers place ≡ Some server → driven_at place servers ≡ driven_by server
driven_is [] place server e = absurd (let within = slice_get_within [] place server e in omega (arith, within))
driven_is (first ∷ others) zero server e = ap driven_by (same_Some first server e)
driven_is (first ∷ others) (suc place) server e = driven_is others place server e

there : {A : Type 0} (xs : List A) (n : ℕ) → n < length xs → (x : A) × (slice_get xs n ≡ Some x)
there [] n below = absurd (omega (arith, below))
there (x ∷ xs) zero below = (x, refl)
there (x ∷ xs) (suc n) below = there xs n (omega (arith, below))

pub points-add : (place : ℕ) (points : List Point) (positions : List Position) (servers : List (ClockedControllerState PointState)) (point : Point) (position : Position) (driven : Option Side) (old new whole : List ℕ)
    → place < length points → length servers ≡ length points → point ≡ get_or points place point → slice_get positions place ≡ Some position → driven ≡ driven_at place servers
    → new ≡ old ++ point_line point.name position driven
    → old ++ point_lines (drop place points) (drop place positions) (drop place servers) ≡ whole
    → new ++ point_lines (drop (place + 1) points) (drop (place + 1) positions) (drop (place + 1) servers) ≡ whole
points-add place points positions servers point position driven old new whole within counted at stands is_driven e before =
    let server = there servers place (omega (arith, within, counted))
    in let later = point_lines (drop (place + 1) points) (drop (place + 1) positions) (drop (place + 1) servers)
    in let split : point_lines (drop place points) (drop place positions) (drop place servers) ≡ point_line point.name position driven ++ later =
    ap (λ left. point_lines left (drop place positions) (drop place servers)) (drop_more points place point within ∙ ap (λ s. s ∷ drop (place + 1) points) (sym at))
    ∙ ap (λ left. point_lines (point ∷ drop (place + 1) points) left (drop place servers)) (dropped positions place position stands)
    ∙ ap (λ left. point_lines (point ∷ drop (place + 1) points) (position ∷ drop (place + 1) positions) left) (dropped servers place server.0 server.1)
    ∙ ap (λ (d : Option Side). codes "\npoint " ++ (point.name ++ (codes " " ++ (position_word position ++ (driven_text d ++ later))))) (sym (driven_is servers place server.0 server.1) ∙ sym is_driven)
    ∙ sym (five (codes "\npoint ") point.name (codes " ") (position_word position) (driven_text driven) later)
    in then_added old (point_line point.name position driven) later whole (point_lines (drop place points) (drop place positions) (drop place servers)) new split e before

pub points-all : (place : ℕ) (points : List Point) (positions : List Position) (servers : List (ClockedControllerState PointState)) (old whole : List ℕ)
    → length points ≤ place → old ++ point_lines (drop place points) (drop place positions) (drop place servers) ≡ whole → old ≡ whole
points-all place points positions servers old whole past before =
    all_added old (point_lines (drop place points) (drop place positions) (drop place servers)) whole
    (ap (λ left. point_lines left (drop place positions) (drop place servers)) (drop_all place points past)) before

-- ---- sections

pub sections-add : (place : ℕ) (names : List (List ℕ)) (occupancies : List Occupancy) (name : List ℕ) (occupancy : Occupancy) (old new whole : List ℕ)
    → place < length names → name ≡ get_or names place name → slice_get occupancies place ≡ Some occupancy
    → new ≡ old ++ section_line name occupancy
    → old ++ section_lines (drop place names) (drop place occupancies) ≡ whole
    → new ++ section_lines (drop (place + 1) names) (drop (place + 1) occupancies) ≡ whole
sections-add place names occupancies name occupancy old new whole within at is e before =
    let later = section_lines (drop (place + 1) names) (drop (place + 1) occupancies)
    in let split : section_lines (drop place names) (drop place occupancies) ≡ section_line name occupancy ++ later =
    ap (λ left. section_lines left (drop place occupancies)) (drop_more names place name within ∙ ap (λ n. n ∷ drop (place + 1) names) (sym at))
    ∙ ap (λ left. section_lines (name ∷ drop (place + 1) names) left) (dropped occupancies place occupancy is)
    ∙ sym (four (codes "\nsection ") name (codes " ") (occupancy_word occupancy) later)
    in then_added old (section_line name occupancy) later whole (section_lines (drop place names) (drop place occupancies)) new split e before

pub sections-all : (place : ℕ) (names : List (List ℕ)) (occupancies : List Occupancy) (old whole : List ℕ)
    → length names ≤ place → old ++ section_lines (drop place names) (drop place occupancies) ≡ whole → old ≡ whole
sections-all place names occupancies old whole past before =
    all_added old (section_lines (drop place names) (drop place occupancies)) whole
    (ap (λ left. section_lines left (drop place occupancies)) (drop_all place names past)) before

-- ---- routes

pub routes-add : (place : ℕ) (routes : List RouteEntry) (states : List RouteState) (route : RouteEntry) (set : Bool) (old new whole : List ℕ)
    → place < length routes → route ≡ get_or routes place route → option_map (λ (kept : RouteState). is_set kept.phase) (slice_get states place) ≡ Some set
    → new ≡ old ++ route_line route.name set
    → old ++ route_lines (drop place routes) (drop place states) ≡ whole
    → new ++ route_lines (drop (place + 1) routes) (drop (place + 1) states) ≡ whole
routes-add place routes states route set old new whole within at is e before =
    let state = found (λ (kept : RouteState). is_set kept.phase) (slice_get states place) set is
    in let later = route_lines (drop (place + 1) routes) (drop (place + 1) states)
    in let split : route_lines (drop place routes) (drop place states) ≡ route_line route.name set ++ later =
    ap (λ left. route_lines left (drop place states)) (drop_more routes place route within ∙ ap (λ r. r ∷ drop (place + 1) routes) (sym at))
    ∙ ap (λ left. route_lines (route ∷ drop (place + 1) routes) left) (dropped states place state.0 state.1)
    ∙ ap (λ (s : Bool). codes "\nroute " ++ (route.name ++ (codes " " ++ (set_text s ++ later)))) state.2
    ∙ sym (four (codes "\nroute ") route.name (codes " ") (set_text set) later)
    in then_added old (route_line route.name set) later whole (route_lines (drop place routes) (drop place states)) new split e before

pub routes-all : (place : ℕ) (routes : List RouteEntry) (states : List RouteState) (old whole : List ℕ)
    → length routes ≤ place → old ++ route_lines (drop place routes) (drop place states) ≡ whole → old ≡ whole
routes-all place routes states old whole past before =
    all_added old (route_lines (drop place routes) (drop place states)) whole
    (ap (λ left. route_lines left (drop place states)) (drop_all place routes past)) before

-- ---- names

pub named : (routes : List RouteEntry) (number : ℕ) (route : RouteEntry) → slice_get routes number ≡ Some route → route_name number routes ≡ route.name
named [] number route e = absurd (let within = slice_get_within [] number route e in omega (arith, within))
named (first ∷ others) zero route e = ap (λ (r : RouteEntry). r.name) (same_Some first route e)
named (first ∷ others) (suc number) route e = named others number route e

pub unnamed : (routes : List RouteEntry) (number : ℕ) → slice_get routes number ≡ None → route_name number routes ≡ codes "-"
unnamed [] number e = refl
unnamed (first ∷ others) zero e = absurd (some≢none first e)
unnamed (first ∷ others) (suc number) e = unnamed others number e

-- the search for an authority goes past a pair of another signal, ends at one of this signal, and finds none at the end
pub authority_past : (site : Site) (signal place : ℕ) (held : List Held) (one : Held) (whole : List ℕ) → place < length held → one ≡ get_or held place one → (one.signal.0 == signal) ≡ false
    → authority_text site signal (drop place held) ≡ whole → authority_text site signal (drop (place + 1) held) ≡ whole
authority_past site signal place held one whole within at other before =
    ap (λ (b : Bool). if b then route_name one.route.0 site.routes else authority_text site signal (drop (place + 1) held)) (sym other)
    ∙ ap (authority_text site signal) (sym (drop_more held place one within ∙ ap (λ h. h ∷ drop (place + 1) held) (sym at)))
    ∙ before

pub authority_found : (site : Site) (signal place : ℕ) (held : List Held) (one : Held) (whole : List ℕ) → place < length held → one ≡ get_or held place one → (one.signal.0 == signal) ≡ true
    → authority_text site signal (drop place held) ≡ whole → route_name one.route.0 site.routes ≡ whole
authority_found site signal place held one whole within at same before =
    ap (λ (b : Bool). if b then route_name one.route.0 site.routes else authority_text site signal (drop (place + 1) held)) (sym same)
    ∙ ap (authority_text site signal) (sym (drop_more held place one within ∙ ap (λ h. h ∷ drop (place + 1) held) (sym at)))
    ∙ before

pub authority_none : (site : Site) (signal place : ℕ) (held : List Held) (whole : List ℕ) → length held ≤ place → authority_text site signal (drop place held) ≡ whole → codes "-" ≡ whole
authority_none site signal place held whole past before = ap (authority_text site signal) (sym (drop_all place held past)) ∙ before
