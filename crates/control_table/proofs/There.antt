-- What a route of a station leads over and requires is there.
use Rattle.std.proofs.Common.{◌≡◌, ◌≢◌, ℕ, suc, ◌≤◌, ◌<◌, Bool, true, false, cond, List, [], ◌∷◌, length, map, get_or, All, Contains, slice_get, Option, Some, None, IsTrue, filter_map, refl, sym, ap, subst, ◌∙◌, ⊎_elim, arith, rules}
use Rattle.std.specs.List.{dedup, dedup_from, cons_option}
use Rattle.std.proofs.lemmas.List.Elements.{All-nil, All-cons, All-head, All-tail, All-same, All-contains}
use Rattle.std.proofs.lemmas.List.Filters.{All-dedup}
use Rattle.std.proofs.lemmas.List.Kept.{Contains-dedup}
use Rattle.std.proofs.lemmas.List.{length-map}
use Rattle.std.proofs.lemmas.Option.{slice_get-get_or}
use Rattle.std.proofs.lemmas.Cmp.{nat_eq_equiv}
use Rattle.std.specs.Cmp.{IsEquivalence}
use Rattle.sci_telegram.specs.declared.message.Aspect.TheVariants.{Stop}
use Rattle.sci_telegram.specs.declared.message.Side.{Side}
use Rattle.layout.specs.declared.ids.SectionId.{SectionId}
use Rattle.layout.specs.declared.ids.PointId.{PointId}
use Rattle.layout.specs.declared.ids.BorderId.{BorderId}
use Rattle.layout.specs.declared.ids.RouteId.{RouteId}
use Rattle.layout.specs.declared.port.Port.{Port}
use Rattle.layout.specs.declared.port.Element.{Element}
use Rattle.layout.specs.declared.port.Element.TheVariants as of
use Rattle.layout_text.specs.declared.entries.End.{End}
use Rattle.layout_text.specs.declared.entries.End.TheVariants as end
use Rattle.layout.specs.Entries.{RouteEntry, Site}
use Rattle.layout.specs.NamesResolved.{has_port}
use Rattle.layout.specs.Station.{HasSection, HasPoint, HasElement, HasPort, IsRouteOf, IsStation}
use Rattle.control_table.specs.Topology.{Joined, section_of, IsRoute}
use Rattle.control_table.specs.Path.{Passage, Passes, Leads, Path, elements, same_section}
use Rattle.control_table.specs.Sides.{leg, other, Uses, OnPath}
use Rattle.control_table.specs.Table.{HasAspect, LeadsOver, RouteRequires, AreSections}
use Rattle.control_table.proofs.Members.{contains-here, contains-there, contains-cases, get-contains}
use Rattle.control_table.proofs.Same.{section-decides}
use Rattle.control_table.proofs.ConflictLaws.{get-below}

-- ---- ports

joins-there : (l : Site) → IsStation l → (p q : Port) → Joined l p q → HasPort l p × HasPort l q
joins-there l station p q h =
    let both = All-contains (λ j. HasPort l j.first × HasPort l j.second) l.joints h.0 station.joints h.1 in
    ⊎_elim
    (λ e. (subst (HasPort l) e.0 both.0, subst (HasPort l) e.1 both.1))
    (λ e. (subst (HasPort l) e.1 both.1, subst (HasPort l) e.0 both.0))
    h.2

all-map : {A B : Type 0} (P : B → Type 0) (f : A → B) (xs : List A) → All P (map f xs) → All (λ x. P (f x)) xs
all-map P f [] h = All-nil (λ x. P (f x))
all-map P f (x ∷ xs) h = All-cons (λ x. P (f x)) x xs (All-head P (f x) (map f xs) h) (all-map P f xs (All-tail P (f x) (map f xs) h))

border-end : (b : BorderId) (e : End) → IsTrue (has_port (of.Border b) e) → e ≡ end.End
border-end b end.End h = refl
border-end b end.A h = search (rules, h)
border-end b end.B h = search (rules, h)
border-end b end.Tip h = search (rules, h)
border-end b end.Left h = search (rules, h)
border-end b end.Right h = search (rules, h)

-- no train passes a border
no-border : (l : Site) (g : Passage) (b : BorderId) → HasPort l g.entered → HasPort l g.left → Passes g → g.left.element ≡ of.Border b → ⊥
no-border l g b entered left passes is =
    let here : IsTrue (has_port (of.Border b) g.left.end) = subst (λ e. IsTrue (has_port e g.left.end)) is left.end in
    let there : IsTrue (has_port (of.Border b) g.entered.end) = subst (λ e. IsTrue (has_port e g.entered.end)) (passes.element ∙ is) entered.end in
    passes.ports (border-end b g.entered.end there ∙ sym (border-end b g.left.end here))

-- the section of an element that isn't a border
in_section : (l : Site) → IsStation l → (e : Element) → HasElement l e → ((b : BorderId) → e ≡ of.Border b → ⊥) → (s : SectionId) × (section_of l e ≡ Some s) × HasSection l s
in_section l station (of.Track t) there none =
    let x = get-below l.tracks t.0 there in
    (x.0.section, ap (λ o. elim o [ None ↦ None | Some track ↦ Some track.section ]) x.1, All-contains (λ t. HasSection l t.section) l.tracks x.0 station.tracks (get-contains l.tracks t.0 x.0 x.1))
in_section l station (of.Point p) there none =
    let x = get-below l.points p.0 there in
    (x.0.section, ap (λ o. elim o [ None ↦ None | Some point ↦ Some point.section ]) x.1, All-contains (λ p. HasSection l p.section) l.points x.0 station.points (get-contains l.points p.0 x.0 x.1))
in_section l station (of.Border b) there none = absurd (none b refl)

-- each element of a path lies in a section
abbrev InSection : Site → Passage → Type 0
InSection l g = HasPort l g.left × ((s : SectionId) × (section_of l g.left.element ≡ Some s) × HasSection l s)

lead-there : (l : Site) → IsStation l → (from : Port) (path : List Passage) → Leads l from path → All (HasPort l) (map (λ g. g.left) path) → All (InSection l) path
lead-there l station from [] leads ports = All-nil (InSection l)
lead-there l station from (g ∷ path) leads ports =
    let left = All-head (HasPort l) g.left (map (λ g. g.left) path) ports in
    let entered = (joins-there l station from g.entered leads.0).1 in
    let inside = in_section l station g.left.element left.element (λ b is. no-border l g b entered left leads.1 is) in
    All-cons (InSection l) g path (left, inside) (lead-there l station g.left path leads.2 (All-tail (HasPort l) g.left (map (λ g. g.left) path) ports))

route-there : (l : Site) → IsStation l → (a : RouteId) (r : RouteEntry) → IsRoute l a r → IsRouteOf l r
route-there l station a r at = All-contains (IsRouteOf l) l.routes r station.routes (get-contains l.routes a.0 r at)

path-there : (l : Site) → IsStation l → (a : RouteId) (r : RouteEntry) (path : List Passage) → IsRoute l a r → Path l r path → All (InSection l) path
path-there l station a r path at is =
    let begins = is.follows.begins in
    lead-there l station begins.0 path begins.2 (subst (All (HasPort l)) is.follows.ports (route-there l station a r at).path)

pub route-goes : (l : Site) → IsStation l → (i : ℕ) (d r : RouteEntry) → i < length l.routes → r ≡ get_or l.routes i d → HasAspect l (record { 0 = i }) r.aspect × (r.aspect ≢ Stop)
route-goes l station i d r lt at =
    let is = slice_get-get_or l.routes i d lt in
    let there : slice_get l.routes i ≡ Some r = is ∙ ap Some (sym at) in
    ((r, there, refl), (All-contains (IsRouteOf l) l.routes r station.routes (get-contains l.routes i r there)).aspect)

-- ---- sections

filtered-there : (l : Site) (path : List Passage) → All (InSection l) path → All (HasSection l) (filter_map (section_of l) (elements path))
filtered-there l [] h = All-nil (HasSection l)
filtered-there l (g ∷ path) h =
    let here = All-head (InSection l) g path h in
    let rest = filter_map (section_of l) (elements path) in
    let e : cons_option (section_of l g.left.element) rest ≡ here.1.0 ∷ rest = ap (λ o. cons_option o rest) here.1.1 in
    All-same (HasSection l) (cons_option (section_of l g.left.element) rest) (here.1.0 ∷ rest) e (All-cons (HasSection l) here.1.0 rest here.1.2 (filtered-there l path (All-tail (InSection l) g path h)))

cons_few : {A : Type 0} (o : Option A) (xs : List A) → length (cons_option o xs) ≤ suc (length xs)
cons_few None xs = omega arith
cons_few (Some x) xs = omega arith

filter_few : {A B : Type 0} (f : A → Option B) (xs : List A) → length (filter_map f xs) ≤ length xs
filter_few f [] = omega arith
filter_few f (x ∷ xs) =
    let here = cons_few (f x) (filter_map f xs) in
    let rest = filter_few f xs in
    omega (arith, here, rest)

cond_length : {A : Type 0} (b : Bool) (xs ys : List A) (n : ℕ) → length xs ≤ n → length ys ≤ n → length (cond b xs ys) ≤ n
cond_length true xs ys n h k = h
cond_length false xs ys n h k = k

cond_some : {A : Type 0} (b : Bool) (xs ys : List A) → 1 ≤ length xs → 1 ≤ length ys → 1 ≤ length (cond b xs ys)
cond_some true xs ys h k = h
cond_some false xs ys h k = k

dedup_from-few : {A : Type 0} (same : A → A → Bool) (k : A) (xs : List A) → length (dedup_from same k xs) ≤ suc (length xs)
dedup_from-few same k [] = omega arith
dedup_from-few same k (x ∷ xs) =
    let one = dedup_from-few same k xs in
    let two = dedup_from-few same x xs in
    cond_length (same x k) (dedup_from same k xs) (k ∷ dedup_from same x xs) (suc (suc (length xs))) (omega (arith, one)) (omega (arith, two))

dedup_few : {A : Type 0} (same : A → A → Bool) (xs : List A) → length (dedup same xs) ≤ length xs
dedup_few same [] = omega arith
dedup_few same (x ∷ xs) = dedup_from-few same x xs

dedup_from-some : {A : Type 0} (same : A → A → Bool) (k : A) (xs : List A) → 1 ≤ length (dedup_from same k xs)
dedup_from-some same k [] = omega arith
dedup_from-some same k (x ∷ xs) = cond_some (same x k) (dedup_from same k xs) (k ∷ dedup_from same x xs) (dedup_from-some same k xs) (omega arith)

dedup_some : {A : Type 0} (same : A → A → Bool) (xs : List A) → 1 ≤ length xs → 1 ≤ length (dedup same xs)
dedup_some same [] h = h
dedup_some same (x ∷ xs) h = dedup_from-some same x xs

filtered-some : (l : Site) (path : List Passage) → All (InSection l) path → path ≢ [] → 1 ≤ length (filter_map (section_of l) (elements path))
filtered-some l [] h some = absurd (some refl)
filtered-some l (g ∷ path) h some =
    let here = All-head (InSection l) g path h in
    let rest = filter_map (section_of l) (elements path) in
    let e : cons_option (section_of l g.left.element) rest ≡ here.1.0 ∷ rest = ap (λ o. cons_option o rest) here.1.1 in
    subst (λ xs. 1 ≤ length xs) (sym e) (omega arith)

pub sections-there : (l : Site) → IsStation l → (a : RouteId) (ss : List SectionId) → AreSections l a ss → (1 ≤ length ss) × (length ss ≤ 64) × All (HasSection l) ss
sections-there l station a ss h =
    let r = h.0 in
    let path = h.1 in
    let there = path-there l station a r path h.2 h.3 in
    let all = filter_map (section_of l) (elements path) in
    let some = dedup_some same_section all (filtered-some l path there h.3.follows.some) in
    let few = dedup_few same_section all in
    let less = filter_few (section_of l) (elements path) in
    let on = length-map path (λ g. g.left.element) in
    let ports = ap length h.3.follows.ports ∙ length-map path (λ g. g.left) in
    let most = (route-there l station a r h.2).elements in
    let S : List SectionId → Type 0 = λ ss. (1 ≤ length ss) × (length ss ≤ 64) × All (HasSection l) ss in
    subst S (sym h.4) (some, omega (arith, few, less, on, ports, most), All-dedup same_section (HasSection l) all (filtered-there l path there))

-- ---- points

used-there : (l : Site) → IsStation l → (a : RouteId) (r : RouteEntry) (path : List Passage) (g : Passage) (p : PointId) (s : Side) → IsRoute l a r → Path l r path → Contains path g → Uses g p s → HasPoint l p
used-there l station a r path g p s at is on used =
    let there = All-contains (InSection l) path g (path-there l station a r path at is) on in
    subst (HasElement l) used.0 there.0.element

pub required-there : (l : Site) → IsStation l → (a : RouteId) (p : PointId) (s : Side) → RouteRequires l a p s → HasPoint l p
required-there l station a p s h =
    let path = h.1 in
    let needed = h.4 in
    ⊎_elim
    (λ used. used-there l station a h.0 path needed.0 p s h.2 h.3 needed.1 used)
    (λ flank. (joins-there l station (leg flank.0 (other flank.1)) (leg p (other s)) flank.3.1).1.element)
    needed.2

-- the section of a point on a path is one of the path
filtered-has : (l : Site) (path : List Passage) (g : Passage) (s : SectionId) → Contains path g → section_of l g.left.element ≡ Some s → Contains (filter_map (section_of l) (elements path)) s
filtered-has l [] g s on is = absurd (omega (arith, on.1))
filtered-has l (x ∷ path) g s on is =
    let rest = filter_map (section_of l) (elements path) in
    ⊎_elim
    (λ e. let here : cons_option (section_of l x.left.element) rest ≡ s ∷ rest = ap (λ o. cons_option o rest) (ap (λ g. section_of l g.left.element) e ∙ is) in subst (λ xs. Contains xs s) (sym here) (contains-here s rest))
    (λ later. behind (section_of l x.left.element) rest s (filtered-has l path g s later is))
    (contains-cases x g path on)
  where
    behind : (o : Option SectionId) (rest : List SectionId) (s : SectionId) → Contains rest s → Contains (cons_option o rest) s
    behind None rest s c = c
    behind (Some t) rest s c = contains-there t s rest c

sections_equiv : IsEquivalence same_section
sections_equiv = record { refl = λ s. nat_eq_equiv.refl s.0; symm = λ s t. nat_eq_equiv.symm s.0 t.0; congr = λ s t u. nat_eq_equiv.congr s.0 t.0 u.0 }

pub point-section : (l : Site) → IsStation l → (a : RouteId) (r : RouteEntry) (path : List Passage) (p : PointId) → IsRoute l a r → Path l r path → OnPath path p → (s : SectionId) × (section_of l (of.Point p) ≡ Some s) × LeadsOver l a s
point-section l station a r path p at is h =
    let g = h.0 in
    let there = All-contains (InSection l) path g (path-there l station a r path at is) h.2 in
    let inside = there.1 in
    let on = filtered-has l path g inside.0 h.2 inside.1 in
    (inside.0, ap (section_of l) (sym h.3.0) ∙ inside.1, (r, path, at, is, Contains-dedup sections_equiv (λ s t e. (section-decides s t).0 e) (filter_map (section_of l) (elements path)) inside.0 on))
