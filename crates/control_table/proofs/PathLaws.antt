-- The computed path is the path of the definition, and its tests decide what they are named after.
use Rattle.std.proofs.Common.{◌≡◌, ◌⊎◌, Bool, true, false, not, ◌&&◌, ◌||◌, ◌==◌, ◌-◌, ℕ, zero, suc, ◌+◌, List, [], ◌∷◌, length, map, Option, Some, None, Ok, Err, refl, sym, ap, subst, ◌∙◌, ⊎_elim, arith}
use Rattle.std.proofs.lemmas.Bool.{false≢true}
use Rattle.std.proofs.lemmas.Bool.Decides.{Decides-and, Decides-or, Decides-not, Decides-like, Decides-eqb, Decides-at}
use Rattle.std.specs.Bool.{Decides}
use Rattle.std.specs.Prelude.{slice_get}
use Rattle.std.specs.Prelude.{if◌then◌else◌}
use Rattle.std.specs.Option.{option_map, ok_or}
use Rattle.std.specs.List.{Contains, list_any}
use Rattle.layout.specs.declared.ids.PointId.{PointId}
use Rattle.layout.specs.declared.ids.SignalId.{SignalId}
use Rattle.layout.specs.declared.port.Port.{Port}
use Rattle.layout.specs.declared.port.Element.{Element}
use Rattle.layout.specs.declared.port.Element.TheVariants as of
use Rattle.layout_text.specs.declared.entries.End.TheVariants as end
use Rattle.layout.specs.declared.entries.Joint.{Joint}
use Rattle.layout.specs.declared.entries.Signal.{Signal}
use Rattle.layout.specs.declared.entries.Exit.{Exit}
use Rattle.layout.specs.declared.entries.Exit.TheVariants as exit
use Rattle.layout.specs.Entries.{RouteEntry, Site}
use Rattle.layout.specs.Once.{Distinct}
use Rattle.control_table.specs.declared.fault.FaultyRoute.{FaultyRoute}
use Rattle.control_table.specs.declared.fault.TableFault.{TableFault}
use Rattle.control_table.specs.declared.fault.TableFault.TheVariants.{PathBroken}
use Rattle.control_table.specs.Topology.{port_of, StandsAt}
use Rattle.control_table.specs.Path.{Passage, Passes, Leads, Follows, elements, sections, ComesOnce, ExitAt, EndsAt, SignalsPlaced, same_section}
use Rattle.control_table.specs.inside.TableTests.{is_port, is_element, is_end, joined_to, ◌>>=◌, some_and, is_point, may_pass, passage_from, passage_behind, passages, path_of, all_different, same_exit, stands_at, is_exit, ends_at_exit, is_other_at, no_other_at, none_between, signals_placed}
use Rattle.control_table.proofs.Joints.{OneBeyond, joined-found}
use Rattle.control_table.proofs.Judged.{none-some, err-ok, ok-injective, ok-from, err-from, ok-some, err-none, not_stopped, stopped_or_not, false-from}
use Rattle.control_table.proofs.Members.{all-decides, has-decides, some-injective, distinct-first, distinct-rest, distinct-cons}
use Rattle.control_table.proofs.Same.{never, element-decides, end-decides, port-decides, section-decides, exit-decides}

-- ---- passing an element

-- what holds of each point holds, or there is no point
point-cases : (e : Element) (P : Type 0) (b : Bool) → Decides b P → Decides (not (is_point e) || b) ((p : PointId) → e ≡ of.Point p → P)
point-cases (of.Point p) P b d = (λ h q e. d.0 h, λ h. d.1 (h p refl))
point-cases (of.Track t) P b d = (λ h q e. absurd (false≢true (ap is_point e)), λ h. refl)
point-cases (of.Border t) P b d = (λ h q e. absurd (false≢true (ap is_point e)), λ h. refl)

or-assoc : (a b c : Bool) → ((a || b) || c) ≡ (a || (b || c))
or-assoc true b c = refl
or-assoc false b c = refl

pub passes-decides : (entered left : Port) → Decides (may_pass entered left) (Passes (record { entered = entered; left = left }))
unfolding may_pass
passes-decides entered left =
    let tip : Type 0 = (entered.end ≡ end.Tip) ⊎ (left.end ≡ end.Tip) in
    let by_tip : Type 0 = (p : PointId) → entered.element ≡ of.Point p → tip in
    let tips : Decides (is_end entered.end end.Tip || is_end left.end end.Tip) tip = Decides-or (is_end entered.end end.Tip) (is_end left.end end.Tip) (end-decides entered.end end.Tip) (end-decides left.end end.Tip) in
    let through : Decides ((not (is_point entered.element) || is_end entered.end end.Tip) || is_end left.end end.Tip) by_tip =
    Decides-at ((not (is_point entered.element) || is_end entered.end end.Tip) || is_end left.end end.Tip) (not (is_point entered.element) || (is_end entered.end end.Tip || is_end left.end end.Tip)) (or-assoc (not (is_point entered.element)) (is_end entered.end end.Tip) (is_end left.end end.Tip)) (point-cases entered.element tip (is_end entered.end end.Tip || is_end left.end end.Tip) tips) in
    let apart = Decides-not (is_end entered.end left.end) (end-decides entered.end left.end) in
    let both = Decides-and (is_element entered.element left.element) (not (is_end entered.end left.end)) (element-decides entered.element left.element) apart in
    Decides-like (may_pass entered left) (λ h. record { element = h.0.0; ports = h.0.1; by_tip = h.1 }) (λ h. ((h.element, h.ports), h.by_tip)) (Decides-and (is_element entered.element left.element && not (is_end entered.end left.end)) ((not (is_point entered.element) || is_end entered.end end.Tip) || is_end left.end end.Tip) both through)

-- ---- following joints

-- a passage that may be made, from the port by which its element is entered
passes-or : (entered left : Port) (b : Bool) (g : Passage) → b ≡ may_pass entered left → (if b then Some (record { entered = entered; left = left }) else None) ≡ Some g → (Some entered ≡ Some g.entered) × (left ≡ g.left) × Passes g
passes-or entered left true g h at =
    let same : record { entered = entered; left = left } ≡ g = some-injective (record { entered = entered; left = left }) g at in
    (ap (λ (x : Passage). Some x.entered) same, ap (λ (x : Passage). x.left) same, subst Passes same ((passes-decides entered left).0 (sym h)))
passes-or entered left false g h at = absurd (none-some g at)

found-passage : (joined : Option Port) (left : Port) (g : Passage) → passage_from joined left ≡ Some g → (joined ≡ Some g.entered) × (left ≡ g.left) × Passes g
found-passage None left g e = absurd (none-some g e)
found-passage (Some entered) left g e = passes-or entered left (may_pass entered left) g refl e

pub passage-found : (joints : List Joint) (before left : Port) (g : Passage) → passage_behind joints before left ≡ Some g → (joined_to joints before ≡ Some g.entered) × (left ≡ g.left) × Passes g
unfolding passage_behind
passage-found joints before left g e = found-passage (joined_to joints before) left g e

pub passage-is : (joints : List Joint) (before : Port) (g : Passage) → joined_to joints before ≡ Some g.entered → Passes g → passage_behind joints before g.left ≡ Some g
unfolding passage_behind
passage-is joints before g joined passes =
    ap (λ o. passage_from o g.left) joined ∙ ap (λ b. if b then Some g else None) ((passes-decides g.entered g.left).1 passes)

-- the passages that are computed lead on from joint to joint
pub passages-lead : (place : FaultyRoute) (l : Site) (from : Port) (ports : List Port) (path : List Passage) → passages place l.joints from ports ≡ Ok path → Leads l from path × (ports ≡ map (λ g. g.left) path)
unfolding passages
passages-lead place l from [] path e =
    let P : List Passage → Type 0 = λ path. Leads l from path × ([] ≡ map (λ g. g.left) path) in
    subst P (ok-injective [] path e) (tt, refl)
passages-lead place l from (left ∷ ports) path e =
    let P : List Passage → Type 0 = λ path. Leads l from path × ((left ∷ ports) ≡ map (λ g. g.left) path) in
    let a = ok-from (ok_or (passage_behind l.joints from left) (PathBroken place)) (λ g. passages place l.joints left ports >>= λ rest. Ok (g ∷ rest)) path e in
    let b = ok-from (passages place l.joints left ports) (λ rest. Ok (a.0 ∷ rest)) path a.2 in
    let found = passage-found l.joints from left a.0 (ok-some (passage_behind l.joints from left) (PathBroken place) a.0 a.1) in
    let rest = passages-lead place l left ports b.0 b.1 in
    let on : Port → Type 0 = λ p. Leads l p b.0 in
    subst P (ok-injective (a.0 ∷ b.0) path b.2) ((joined-found l from a.0.entered found.0, found.2, subst on found.1 rest.0), λ i. found.1 i ∷ rest.1 i)

-- and what leads on so is computed
pub leading-found : (place : FaultyRoute) (l : Site) (one : OneBeyond l) (from : Port) (path : List Passage) → Leads l from path → passages place l.joints from (map (λ g. g.left) path) ≡ Ok path
unfolding passages
leading-found place l one from [] h = refl
leading-found place l one from (g ∷ path) h =
    ap (λ o. ok_or o (PathBroken place) >>= λ g'. passages place l.joints g.left (map (λ g. g.left) path) >>= λ rest. Ok (g' ∷ rest)) (passage-is l.joints from g (one from g.entered h.0) h.1)
    ∙ ap (λ judged. judged >>= λ rest. Ok (g ∷ rest)) (leading-found place l one g.left path h.2)

-- a fault of the computed path is that it is broken
passages-broken : (place : FaultyRoute) (joints : List Joint) (from : Port) (ports : List Port) (f : TableFault) → passages place joints from ports ≡ Err f → PathBroken place ≡ f
unfolding passages
passages-broken place joints from [] f e = absurd (err-ok f [] (sym e))
passages-broken place joints from (left ∷ ports) f e =
    ⊎_elim (λ h. (err-none (passage_behind joints from left) (PathBroken place) f h).1) (λ h.
    ⊎_elim (λ later. passages-broken place joints left ports f later) (λ done. absurd (err-ok f (h.0 ∷ done.0) (sym done.2)))
    (err-from (passages place joints left ports) (λ rest. Ok (h.0 ∷ rest)) f h.2))
    (err-from (ok_or (passage_behind joints from left) (PathBroken place)) (λ g. passages place joints left ports >>= λ rest. Ok (g ∷ rest)) f e)

not_empty : (ports : List Port) (path : List Passage) → (length ports == 0) ≡ false → ports ≡ map (λ g. g.left) path → path ≡ [] → ⊥
not_empty ports path some same e =
    let none : ports ≡ [] = same ∙ ap (map (λ g. g.left)) e in
    false≢true (sym some ∙ ap (λ ps. length ps == 0) none)

some-ports : (ports : List Port) (path : List Passage) → ports ≡ map (λ g. g.left) path → (path ≡ [] → ⊥) → (length ports == 0) ≡ false
some-ports [] [] same some = absurd (some refl)
some-ports [] (g ∷ path) same some = absurd (omega (arith, ap length same))
some-ports (p ∷ ports) path same some = false-from (length (p ∷ ports) == 0) (λ h. absurd (omega (arith, (Decides-eqb (length (p ∷ ports)) 0).0 h)))

pub path-follows : (place : FaultyRoute) (l : Site) (r : RouteEntry) (path : List Passage) → path_of place l r ≡ Ok path → Follows l r path
unfolding path_of
path-follows place l r path e =
    let some = not_stopped (length r.path == 0) (PathBroken place) (ok_or (port_of l.signals r.entry) (PathBroken place) >>= λ start. passages place l.joints start r.path) path e in
    let a = ok-from (ok_or (port_of l.signals r.entry) (PathBroken place)) (λ start. passages place l.joints start r.path) path some.1 in
    let lead = passages-lead place l a.0 r.path path a.2 in
    record { ports = lead.1; some = not_empty r.path path some.0 lead.1; begins = (a.0, ok-some (port_of l.signals r.entry) (PathBroken place) a.0 a.1, lead.0) }

pub following-found : (place : FaultyRoute) (l : Site) (one : OneBeyond l) (r : RouteEntry) (path : List Passage) → Follows l r path → path_of place l r ≡ Ok path
unfolding path_of
following-found place l one r path h =
    let b = h.begins in
    ap (λ none. if none then Err (PathBroken place) else (ok_or (port_of l.signals r.entry) (PathBroken place) >>= λ start. passages place l.joints start r.path)) (some-ports r.path path h.ports h.some)
    ∙ ap (λ o. ok_or o (PathBroken place) >>= λ start. passages place l.joints start r.path) b.1
    ∙ ap (λ ports. passages place l.joints b.0 ports) h.ports
    ∙ leading-found place l one b.0 path b.2

pub path-broken : (place : FaultyRoute) (l : Site) (one : OneBeyond l) (r : RouteEntry) (f : TableFault) → path_of place l r ≡ Err f → (PathBroken place ≡ f) × ((path : List Passage) → Follows l r path → ⊥)
unfolding path_of
path-broken place l one r f e =
    let rest = ok_or (port_of l.signals r.entry) (PathBroken place) >>= λ start. passages place l.joints start r.path in
    let which : PathBroken place ≡ f =
    ⊎_elim (λ h. h.1) (λ h. ⊎_elim (λ no_signal. (err-none (port_of l.signals r.entry) (PathBroken place) f no_signal).1) (λ later. passages-broken place l.joints later.0 r.path f later.2)
    (err-from (ok_or (port_of l.signals r.entry) (PathBroken place)) (λ start. passages place l.joints start r.path) f h.1))
    (stopped_or_not (length r.path == 0) (PathBroken place) f rest e) in
    (which, λ path h. err-ok f path (sym e ∙ following-found place l one r path h))

-- a route has one path at most
pub one-path : (l : Site) (one : OneBeyond l) (r : RouteEntry) (place : FaultyRoute) (path other : List Passage) → Follows l r path → Follows l r other → path ≡ other
one-path l one r place path other h k = ok-injective path other (sym (following-found place l one r path h) ∙ following-found place l one r other k)

-- ---- what comes once

pub different-decides : {A : Type 0} (same : A → A → Bool) → ((x y : A) → Decides (same x y) (x ≡ y)) → (xs : List A) → Decides (all_different same xs) (Distinct xs)
unfolding all_different
different-decides same each [] = (λ h i j d lt within. absurd (omega (arith, within)), λ h. refl)
different-decides same each (x ∷ xs) =
    Decides-like (all_different same (x ∷ xs)) (λ h. distinct-cons x xs h.0 h.1) (λ d. (λ c. distinct-first x x xs d c refl, distinct-rest x xs d))
    (Decides-and (not (list_any (λ y. same y x) xs)) (all_different same xs) (Decides-not (list_any (λ y. same y x) xs) (has-decides same each xs x)) (different-decides same each xs))

pub once-decides : (l : Site) (path : List Passage) → Decides (all_different is_element (elements path) && all_different same_section (sections l path)) (ComesOnce l path)
once-decides l path =
    let e = different-decides is_element element-decides (elements path) in
    let s = different-decides same_section section-decides (sections l path) in
    Decides-like (all_different is_element (elements path) && all_different same_section (sections l path)) (λ h. record { elements = h.0; sections = h.1 }) (λ h. (h.elements, h.sections)) (Decides-and (all_different is_element (elements path)) (all_different same_section (sections l path)) e s)

-- ---- signals

pub some_and-decides : {A : Type 0} (f : A → Bool) (P : A → Type 0) → ((x : A) → Decides (f x) (P x)) → (o : Option A) → Decides (some_and f o) ((x : A) × (o ≡ Some x) × P x)
some_and-decides f P each None = never (λ h. none-some h.0 h.1)
some_and-decides {A} f P each (Some y) =
    Decides-like (f y) (λ h. (y, refl, h)) (λ h. subst P (sym (some-injective y h.0 h.1)) h.2) (each y)

stands-decides : (signals : List Signal) (s : SignalId) (p : Port) → Decides (stands_at signals s p) (port_of signals s ≡ Some p)
stands-decides signals s p =
    let P : Port → Type 0 = λ at. at ≡ p in
    Decides-like (stands_at signals s p) (λ h. h.1 ∙ ap Some h.2) (λ e. (p, e, refl)) (some_and-decides (λ at. is_port at p) P (λ at. port-decides at p) (port_of signals s))

exit_at-decides : (l : Site) (one : OneBeyond l) (x : Exit) (p : Port) → Decides (is_exit l x p) (ExitAt l x p)
exit_at-decides l one (exit.Signal s) p = stands-decides l.signals s p
exit_at-decides l one (exit.Border b) p =
    let P : Port → Type 0 = λ beyond. beyond.element ≡ of.Border b in
    Decides-like (is_exit l (exit.Border b) p) (λ h. (h.0, joined-found l p h.0 h.1, h.2)) (λ h. (h.0, one p h.0 h.1, h.2))
    (some_and-decides (λ beyond. is_element beyond.element (of.Border b)) P (λ beyond. element-decides beyond.element (of.Border b)) (joined_to l.joints p))

pub ends-decides : (l : Site) (one : OneBeyond l) (x : Exit) (path : List Passage) → Decides (ends_at_exit l x path) (EndsAt l x path)
unfolding ends_at_exit
ends-decides l one x [] = never (λ h. h)
ends-decides l one x (g ∷ []) = exit_at-decides l one x g.left
ends-decides l one x (g ∷ h ∷ path) =
    let n : length (g ∷ h ∷ path) - 1 ≡ suc (length (h ∷ path) - 1) = omega arith in
    let same : ends_at_exit l x (g ∷ h ∷ path) ≡ ends_at_exit l x (h ∷ path) = ap (λ i. some_and (λ g. is_exit l x g.left) (slice_get (g ∷ h ∷ path) i)) n in
    Decides-at (ends_at_exit l x (g ∷ h ∷ path)) (ends_at_exit l x (h ∷ path)) same (ends-decides l one x (h ∷ path))

-- ---- signals between

stable-by : {P : Type 0} (b : Bool) → Decides b P → ((P → ⊥) → ⊥) → P
stable-by true d h = d.0 refl
stable-by false d h = absurd (h (λ p. false≢true (d.1 p)))

exit-stable : (x y : Exit) → ((x ≡ y → ⊥) → ⊥) → x ≡ y
exit-stable x y h = stable-by (same_exit x y) (exit-decides x y) h

-- the signals from the n-th on: each that stands at the port is the exit
abbrev pub NoOther : ℕ → List Signal → Exit → Port → Type 0
NoOther n signals x p = (k : ℕ) → option_map (λ s. s.at) (slice_get signals k) ≡ Some p → x ≡ exit.Signal (record { 0 = n + k })

other_at-decides : (s : Signal) (id : SignalId) (x : Exit) (p : Port) → Decides (is_other_at s id x p) ((s.at ≡ p) × (x ≡ exit.Signal id → ⊥))
unfolding is_other_at
other_at-decides s id x p =
    Decides-and (is_port s.at p) (not (same_exit x (exit.Signal id))) (port-decides s.at p) (Decides-not (same_exit x (exit.Signal id)) (exit-decides x (exit.Signal id)))

no_other-cons : (n : ℕ) (s : Signal) (signals : List Signal) (x : Exit) (p : Port) → NoOther n (s ∷ signals) x p → NoOther (suc n) signals x p
no_other-cons n s signals x p h k e =
    let m : n + suc k ≡ suc n + k = omega arith in
    h (suc k) e ∙ ap (λ i. exit.Signal (record { 0 = i })) m

no_other-join : (n : ℕ) (s : Signal) (signals : List Signal) (x : Exit) (p : Port) → (s.at ≡ p → x ≡ exit.Signal (record { 0 = n })) → NoOther (suc n) signals x p → NoOther n (s ∷ signals) x p
no_other-join n s signals x p first rest zero e =
    let m : n ≡ n + 0 = omega arith in
    first (some-injective s.at p e) ∙ ap (λ i. exit.Signal (record { 0 = i })) m
no_other-join n s signals x p first rest (suc k) e =
    let m : suc n + k ≡ n + suc k = omega arith in
    rest k e ∙ ap (λ i. exit.Signal (record { 0 = i })) m

first_or : (other rest : Bool) (n : ℕ) (s : Signal) (signals : List Signal) (x : Exit) (p : Port) → Decides other ((s.at ≡ p) × (x ≡ exit.Signal (record { 0 = n }) → ⊥)) → Decides rest (NoOther (suc n) signals x p)
    → Decides (if other then false else rest) (NoOther n (s ∷ signals) x p)
first_or true rest n s signals x p d e =
    let is : (s.at ≡ p) × (x ≡ exit.Signal (record { 0 = n }) → ⊥) = d.0 refl in
    let m : n + 0 ≡ n = omega arith in
    never (λ h. is.1 (h 0 (ap Some is.0) ∙ ap (λ i. exit.Signal (record { 0 = i })) m))
first_or false rest n s signals x p d e =
    let first : s.at ≡ p → x ≡ exit.Signal (record { 0 = n }) = λ at. exit-stable x (exit.Signal (record { 0 = n })) (λ differ. false≢true (d.1 (at, differ))) in
    Decides-like rest (λ h. no_other-join n s signals x p first h) (λ h. no_other-cons n s signals x p h) e

pub no_other-decides : (n : ℕ) (signals : List Signal) (x : Exit) (p : Port) → Decides (no_other_at n signals x p) (NoOther n signals x p)
unfolding no_other_at
no_other-decides n [] x p = (λ h k e. absurd (none-some p e), λ h. refl)
no_other-decides n (s ∷ signals) x p =
    let id : SignalId = record { 0 = n } in
    first_or (is_other_at s id x p) (no_other_at (suc n) signals x p) n s signals x p (other_at-decides s id x p) (no_other-decides (suc n) signals x p)

pub signals-decide : (l : Site) (one : OneBeyond l) (r : RouteEntry) (path : List Passage) → Decides (signals_placed l r path) (SignalsPlaced l r path)
unfolding signals_placed
signals-decide l one r path =
    let x = r.exit in
    let P : Passage → Type 0 = λ g. NoOther 0 l.signals x g.left in
    let every : Type 0 = (g : Passage) → Contains path g → P g in
    let between : Type 0 = (g : Passage) (s : SignalId) → Contains path g → StandsAt l s g.left → x ≡ exit.Signal s in
    let up : every → between = λ h g s c at. let m : 0 + s.0 ≡ s.0 = omega arith in h g c s.0 at ∙ ap (λ i. exit.Signal (record { 0 = i })) m in
    let down : between → every = λ h g c k at. let id : SignalId = record { 0 = k } in let m : k ≡ 0 + k = omega arith in h g id c at ∙ ap (λ i. exit.Signal (record { 0 = i })) m in
    let b : Decides (none_between l.signals x path) between = Decides-like (none_between l.signals x path) up down (all-decides (λ g. no_other_at 0 l.signals x g.left) P (λ g. no_other-decides 0 l.signals x g.left) path) in
    let e : Decides (not (same_exit x (exit.Signal r.entry))) (x ≡ exit.Signal r.entry → ⊥) = Decides-not (same_exit x (exit.Signal r.entry)) (exit-decides x (exit.Signal r.entry)) in
    let ends = Decides-and (ends_at_exit l x path) (not (same_exit x (exit.Signal r.entry))) (ends-decides l one x path) e in
    Decides-like (signals_placed l r path) (λ h. record { ends = h.0.0; elsewhere = h.0.1; between = h.1 }) (λ h. ((h.ends, h.elsewhere), h.between)) (Decides-and (ends_at_exit l x path && not (same_exit x (exit.Signal r.entry))) (none_between l.signals x path) ends b)
