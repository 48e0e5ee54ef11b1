-- The ports that are reached backward from a signal are those by which a train comes to it.
use Rattle.std.proofs.Common.{◌≡◌, ◌≢◌, ◌≤◌, ◌<◌, ◌+◌, ◌*◌, ◌∙◌, ◌⊎◌, Bool, true, false, not, ◌&&◌, ◌==◌, ℕ, zero, suc, List, [], ◌∷◌, ◌++◌, length, get_or, Ok, Err, Option, Some, None, refl, sym, ap, subst, inl, inr, ⊎_elim, arith, length-append}
use Rattle.std.specs.Prelude.{Result, IfOk, slice_get, is_some, if◌then◌else◌}
use Rattle.std.specs.Bool.{Decides}
use Rattle.std.specs.List.{AllPairs, Contains}
use Rattle.std.proofs.lemmas.Bool.{false≢true}
use Rattle.std.proofs.lemmas.Bool.Decides.{Decides-and, Decides-not, Decides-like, Decides-eqb}
use Rattle.std.proofs.lemmas.List.Elements.{All-contains, Contains-append_left}
use Rattle.control_table.specs.layout.declared.ids.SectionId.{SectionId}
use Rattle.control_table.specs.layout.declared.ids.SignalId.{SignalId}
use Rattle.control_table.specs.layout.declared.port.Port.{Port}
use Rattle.control_table.specs.layout.declared.port.Element.{Element}
use Rattle.control_table.specs.layout.declared.port.Element.TheVariants as of
use Rattle.control_table.specs.layout.declared.entries.Joint.{Joint}
use Rattle.control_table.specs.layout.declared.entries.Point.{Point}
use Rattle.control_table.specs.layout.declared.entries.Track.{Track}
use Rattle.control_table.specs.layout.Entries.{Site}
use Rattle.control_table.specs.layout.Once.{Once, Distinct, joined_ports}
use Rattle.control_table.specs.layout.Station.{HasPort, HasSection, IsStation}
use Rattle.control_table.specs.Topology.{Joined, StandsAt, port_of, section_of}
use Rattle.control_table.specs.Path.{Passage, Passes}
use Rattle.route_derivation.specs.declared.rule.ApproachRule.{ApproachRule}
use Rattle.route_derivation.specs.declared.rule.ApproachRule.TheVariants as rule
use Rattle.route_derivation.specs.Approach.{IsTrack, GoesBack, ComesTo, Approaches, Comes, IsApproach}
use Rattle.route_derivation.specs.inside.WaySearch.{is_port, joined_to, signal_from, first_out, second_out}
use Rattle.route_derivation.specs.inside.ApproachSearch.{is_track, goes_back, holds_port, may_come, port_from, port_back, with_port, with_ports, AreReached, lies_in, leads_over, sections_below}
use Rattle.route_derivation.proofs.Joints.{OneBeyond, one-beyond, joined-found, stands-in}
use Rattle.route_derivation.proofs.Members.{contains-none, contains-here, contains-there, contains-cases, contains-get, get-contains, has-decides, any-decides, none-some, some-injective}
use Rattle.route_derivation.proofs.Same.{never, port-decides, section-decides}
use Rattle.route_derivation.proofs.SideLaws.{some_and-decides, signal-decides_at, option_map-some}
use Rattle.route_derivation.proofs.Lists.{contains-last, contains-grown, pairs-nil, pairs-cons, pairs-append, distinct-grown}
use Rattle.route_derivation.proofs.Counting.{distinct-few}
use Rattle.route_derivation.proofs.Reach.{joined-ports, stands-port, passage-tried, first-passes, second-passes}
use Rattle.route_derivation.proofs.RouteWays.{get-below}

-- ---- the tests

track-decides : (e : Element) → Decides (is_track e) (IsTrack e)
track-decides (of.Track t) = (λ h. tt, λ h. refl)
track-decides (of.Point p) = never (λ h. h)
track-decides (of.Border b) = never (λ h. h)

back-decides : (r : ApproachRule) (from to : Element) → Decides (goes_back r from to) (GoesBack r from to)
back-decides rule.Signal from to = (λ h. tt, λ h. refl)
back-decides rule.Berth from to = Decides-and (is_track from) (is_track to) (track-decides from) (track-decides to)

abbrev MayCome : Site → ApproachRule → Port → Port → Type 0
MayCome l r to p = GoesBack r to.element p.element × ((t : SignalId) → StandsAt l t p → ⊥)

come-decides : (l : Site) (r : ApproachRule) (to p : Port) → Decides (may_come l r to p) (MayCome l r to p)
unfolding may_come
come-decides l r to p =
    let some = is_some (signal_from 0 l.signals p) in
    Decides-like (goes_back r to.element p.element && not some) (λ h. (h.0, λ t at. h.1 (t, at))) (λ h. (h.0, λ x. h.1 x.0 x.1))
    (Decides-and (goes_back r to.element p.element) (not some) (back-decides r to.element p.element) (Decides-not some (signal-decides_at l p)))

holds-decides : (ps : List Port) (p : Port) → Decides (holds_port ps p) (Contains ps p)
holds-decides ps p = has-decides is_port port-decides ps p

-- ---- back over an element

joined-turned : (l : Site) (p q : Port) → Joined l p q → Joined l q p
joined-turned l p q h = (h.0, h.1, ⊎_elim (λ e. inr e) (λ e. inl e) h.2)

turned-passes : (g : Passage) → Passes g → Passes (record { entered = g.left; left = g.entered })
turned-passes g h =
    record {
      element = sym h.element;
      ports = λ e. h.ports (sym e);
      by_tip = λ p e. ⊎_elim (λ a. inr a) (λ a. inl a) (h.by_tip p (h.element ∙ e));
    }

-- ---- the ports that are reached, and those of them that were looked behind

pub record Reached (l : Site) (r : ApproachRule) (s : SignalId) (at : Port) (ps : List Port) (n : ℕ) : Type 0 where
  pub start : Contains ps at
  pub sound : (p : Port) → Contains ps p → Comes l r s p
  pub distinct : Distinct ps
  pub known : (p : Port) → Contains ps p → Contains (at ∷ joined_ports l.joints) p
  pub closed : (j : ℕ) (q p : Port) → j < n → slice_get ps j ≡ Some q → ComesTo l r p q → Contains ps p

get-front : {A : Type 0} (xs ys : List A) (j : ℕ) → j < length xs → slice_get (xs ++ ys) j ≡ slice_get xs j
get-front [] ys j lt = absurd (omega (arith, lt))
get-front (x ∷ xs) ys zero lt = refl
get-front (x ∷ xs) ys (suc j) lt = get-front xs ys j (omega (arith, lt))

module _ (l : Site) (once : Once l) (station : IsStation l) (r : ApproachRule) (s : SignalId) (at : Port) (stands : StandsAt l s at) where
  abbrev one : OneBeyond l
  one = one-beyond l once

  from-joined : (q : Port) (b : Passage) (o : Option Port) (p : Port) → q ≡ b.entered → Passes b → joined_to l.joints b.left ≡ o → port_from l r b.entered o ≡ Some p → ComesTo l r p q
  from-joined q b None p e passes joined h = absurd (none-some p h)
  from-joined q b (Some k) p e passes joined h = found (may_come l r b.entered k) (come-decides l r b.entered k) h where
    found : (test : Bool) → Decides test (MayCome l r b.entered k) → (if test then Some k else None) ≡ Some p → ComesTo l r p q
    found false d h = absurd (none-some p h)
    found true d h =
        let C : Port → Type 0 = λ x. ComesTo l r x q in
        let W : Port → Type 0 = λ x. GoesBack r x.element k.element in
        subst C (some-injective k p h) (record {
          over = record { entered = b.left; left = b.entered };
          passes = turned-passes b passes;
          leaves = sym e;
          joined = joined-turned l b.left k (joined-found l b.left k joined);
          clear = (d.0 refl).1;
          within = subst W (sym e) (d.0 refl).0;
        })

  back-found : (q : Port) (o : Option Passage) (p : Port) → ((b : Passage) → o ≡ Some b → (q ≡ b.entered) × Passes b) → port_back l r o ≡ Some p → ComesTo l r p q
  back-found q None p ok h = absurd (none-some p h)
  back-found q (Some b) p ok h = let is = ok b refl in from-joined q b (joined_to l.joints b.left) p is.0 is.1 refl h

  back-is : (p q : Port) (c : ComesTo l r p q) (o : Option Passage) → o ≡ Some (record { entered = c.over.left; left = c.over.entered }) → port_back l r o ≡ Some p
  back-is p q c o e =
      let b : Passage = record { entered = c.over.left; left = c.over.entered } in
      let W : Port → Type 0 = λ x. GoesBack r x.element p.element in
      ap (port_back l r) e
      ∙ ap (port_from l r c.over.left) (one c.over.entered p (joined-turned l p c.over.entered c.joined))
      ∙ ap (λ test. if test then Some p else None) ((come-decides l r c.over.left p).1 (subst W (sym c.leaves) c.within, c.clear))

  -- ---- lists of ports

  port-cases : (ps : List Port) (o : Option Port) (x : Port) → Contains (with_port ps o) x → Contains ps x ⊎ (o ≡ Some x)
  port-cases ps None x c = inl c
  port-cases ps (Some p) x c = cases (holds_port ps p) c where
    cases : (test : Bool) → Contains (if test then ps else ps ++ p ∷ []) x → Contains ps x ⊎ (Some p ≡ Some x)
    cases true c = inl c
    cases false c = ⊎_elim (λ old. inl old) (λ e. inr (ap Some e)) (contains-grown ps p x c)

  port-old : (ps : List Port) (o : Option Port) (x : Port) → Contains ps x → Contains (with_port ps o) x
  port-old ps None x c = c
  port-old ps (Some p) x c =
      elim (holds_port ps p) as (λ test. Contains (if test then ps else ps ++ p ∷ []) x) [ true ↦ c | false ↦ Contains-append_left ps (p ∷ []) x c ]

  port-new : (ps : List Port) (p : Port) → Contains (with_port ps (Some p)) p
  port-new ps p = there (holds_port ps p) (holds-decides ps p) where
    there : (test : Bool) → Decides test (Contains ps p) → Contains (if test then ps else ps ++ p ∷ []) p
    there true d = d.0 refl
    there false d = contains-last ps p

  port-distinct : (ps : List Port) (o : Option Port) → Distinct ps → Distinct (with_port ps o)
  port-distinct ps None d = d
  port-distinct ps (Some p) d = kept (holds_port ps p) (holds-decides ps p) where
    kept : (test : Bool) → Decides test (Contains ps p) → Distinct (if test then ps else ps ++ p ∷ [])
    kept true h = d
    kept false h = distinct-grown ps p d (λ c. false≢true (h.1 c))

  -- what stands at a place stays there
  port-place : (ps : List Port) (o : Option Port) (j : ℕ) → j < length ps → slice_get (with_port ps o) j ≡ slice_get ps j
  port-place ps None j lt = refl
  port-place ps (Some p) j lt =
      elim (holds_port ps p) as (λ test. slice_get (if test then ps else ps ++ p ∷ []) j ≡ slice_get ps j) [ true ↦ refl | false ↦ get-front ps (p ∷ []) j lt ]

  -- ---- one more port that was looked behind

  abbrev back_one : Port → Option Port
  back_one q = port_back l r (first_out q)

  abbrev back_two : Port → Option Port
  back_two q = port_back l r (second_out q)

  comes-back : (p q : Port) → (back_one q ≡ Some p) ⊎ (back_two q ≡ Some p) → ComesTo l r p q
  comes-back p q h = ⊎_elim (λ e. back-found q (first_out q) p (λ b o. first-passes q b o) e) (λ e. back-found q (second_out q) p (λ b o. second-passes q b o) e) h

  more-cases : (ps : List Port) (q x : Port) → Contains (with_ports l r ps q) x → Contains ps x ⊎ ((back_one q ≡ Some x) ⊎ (back_two q ≡ Some x))
  unfolding with_ports
  more-cases ps q x c =
      ⊎_elim (λ first. ⊎_elim (λ old. inl old) (λ e. inr (inl e)) (port-cases ps (back_one q) x first)) (λ e. inr (inr e)) (port-cases (with_port ps (back_one q)) (back_two q) x c)

  more-old : (ps : List Port) (q x : Port) → Contains ps x → Contains (with_ports l r ps q) x
  unfolding with_ports
  more-old ps q x c = port-old (with_port ps (back_one q)) (back_two q) x (port-old ps (back_one q) x c)

  more-new : (ps : List Port) (q x : Port) → (back_one q ≡ Some x) ⊎ (back_two q ≡ Some x) → Contains (with_ports l r ps q) x
  unfolding with_ports
  more-new ps q x h =
      let A : Option Port → Type 0 = λ o. Contains (with_port ps o) x in
      let B : Option Port → Type 0 = λ o. Contains (with_port (with_port ps (back_one q)) o) x in
      ⊎_elim (λ e. port-old (with_port ps (back_one q)) (back_two q) x (subst A (sym e) (port-new ps x))) (λ e. subst B (sym e) (port-new (with_port ps (back_one q)) x)) h

  more-distinct : (ps : List Port) (q : Port) → Distinct ps → Distinct (with_ports l r ps q)
  unfolding with_ports
  more-distinct ps q d = port-distinct (with_port ps (back_one q)) (back_two q) (port-distinct ps (back_one q) d)

  port-longer : (ps : List Port) (o : Option Port) → length ps ≤ length (with_port ps o)
  port-longer ps None = omega arith
  port-longer ps (Some p) =
      let e : length (ps ++ p ∷ []) ≡ length ps + length (p ∷ []) = length-append ps (p ∷ []) in
      elim (holds_port ps p) as (λ test. length ps ≤ length (if test then ps else ps ++ p ∷ [])) [ true ↦ omega arith | false ↦ omega (arith, e) ]

  more-place : (ps : List Port) (q : Port) (j : ℕ) → j < length ps → slice_get (with_ports l r ps q) j ≡ slice_get ps j
  unfolding with_ports
  more-place ps q j lt =
      let longer = port-longer ps (back_one q) in
      port-place (with_port ps (back_one q)) (back_two q) j (omega (arith, lt, longer)) ∙ port-place ps (back_one q) j lt

  -- from where a train comes to a port that is there, it is looked
  comes-tried : (p q : Port) → HasPort l q → ComesTo l r p q → (back_one q ≡ Some p) ⊎ (back_two q ≡ Some p)
  comes-tried p q there c =
      let b : Passage = record { entered = c.over.left; left = c.over.entered } in
      let H : Port → Type 0 = λ x. HasPort l x in
      let F : Port → Type 0 = λ x. first_out x ≡ Some b in
      let S : Port → Type 0 = λ x. second_out x ≡ Some b in
      ⊎_elim (λ e. inl (back-is p q c (first_out q) (subst F c.leaves e))) (λ e. inr (back-is p q c (second_out q) (subst S c.leaves e)))
      (passage-tried l b (turned-passes c.over c.passes) (subst H (sym c.leaves) there) (joined-ports l station p c.over.entered c.joined).1)

  -- the ports that are known are there
  all-there : (joints : List Joint) → ((j : Joint) → Contains joints j → HasPort l j.first × HasPort l j.second) → (p : Port) → Contains (joined_ports joints) p → HasPort l p
  all-there [] each p c = absurd (contains-none p c)
  all-there (j ∷ joints) each p c =
      let H : Port → Type 0 = λ x. HasPort l x in
      let here = each j (contains-here j joints) in
      ⊎_elim (λ e. subst H e here.0) (λ rest. ⊎_elim (λ e. subst H e here.1) (λ later. all-there joints (λ k d. each k (contains-there j k joints d)) p later) (contains-cases j.second p (joined_ports joints) rest)) (contains-cases j.first p (j.second ∷ joined_ports joints) c)

  known-there : (p : Port) → Contains (at ∷ joined_ports l.joints) p → HasPort l p
  known-there p c =
      let H : Port → Type 0 = λ x. HasPort l x in
      let P : Joint → Type 0 = λ j. HasPort l j.first × HasPort l j.second in
      ⊎_elim (λ e. subst H e (stands-port l station s at stands)) (λ later. all-there l.joints (λ j d. All-contains P l.joints j station.joints d) p later) (contains-cases at p (joined_ports l.joints) c)

  -- a port that is joined is known
  joined-known : (p q : Port) → Joined l p q → Contains (at ∷ joined_ports l.joints) p
  joined-known p q h = contains-there at p (joined_ports l.joints) (stands-in l.joints p q h)

  pub reached-more : (ps : List Port) (n : ℕ) (q : Port) → slice_get ps n ≡ Some q → Reached l r s at ps n → Reached l r s at (with_ports l r ps q) (n + 1)
  reached-more ps n q is h =
      let lt : n < length ps = get-below ps n q is in
      let q_in : Contains ps q = get-contains ps n q is in
      record {
        start = more-old ps q at h.start;
        sound = λ p c. ⊎_elim (λ old. h.sound p old) (λ new. let on = h.sound q q_in in (q ∷ on.0, (comes-back p q new, on.1))) (more-cases ps q p c);
        distinct = more-distinct ps q h.distinct;
        known = λ p c. ⊎_elim (λ old. h.known p old) (λ new. let c = comes-back p q new in joined-known p c.over.entered c.joined) (more-cases ps q p c);
        closed = λ j k p below there comes. closed-at j k p below there comes lt q_in;
      }
    where
      closed-at : (j : ℕ) (k p : Port) → j < n + 1 → slice_get (with_ports l r ps q) j ≡ Some k → ComesTo l r p k → n < length ps → Contains ps q → Contains (with_ports l r ps q) p
      closed-at j k p below there comes lt q_in =
          let within : j < length ps = omega (arith, below, lt) in
          let before : slice_get ps j ≡ Some k = sym (more-place ps q j within) ∙ there in
          last-or (j == n) (Decides-eqb j n) before where
            last-or : (b : Bool) → Decides b (j ≡ n) → slice_get ps j ≡ Some k → Contains (with_ports l r ps q) p
            last-or true d before =
                let same : k ≡ q = some-injective k q (sym before ∙ ap (slice_get ps) (d.0 refl) ∙ is) in
                let C : Port → Type 0 = λ x. ComesTo l r p x in
                more-new ps q p (comes-tried p q (known-there q (h.known q q_in)) (subst C same comes))
            last-or false d before =
                let differ : j ≢ n = λ e. false≢true (d.1 e) in
                more-old ps q p (h.closed j k p (omega (arith, below, differ)) before comes)

  pub reached-start : Reached l r s at (at ∷ []) 0
  reached-start = record {
    start = contains-here at [];
    sound = λ p c. let C : Port → Type 0 = λ x. Comes l r s x in ⊎_elim (λ e. subst C e ([], stands)) (λ none. absurd (contains-none p none)) (contains-cases at p [] c);
    distinct = pairs-cons (λ (a : Port) (b : Port). a ≢ b) at [] (λ y none. absurd (contains-none y none)) (pairs-nil (λ (a : Port) (b : Port). a ≢ b));
    known = λ p c. let K : Port → Type 0 = λ x. Contains (at ∷ joined_ports l.joints) x in ⊎_elim (λ e. subst K e (contains-here at (joined_ports l.joints))) (λ none. absurd (contains-none p none)) (contains-cases at p [] c);
    closed = λ j q p below there comes. absurd (omega (arith, below));
  }

  -- ---- all were looked behind

  all-reached : (ps : List Port) (n : ℕ) → length ps ≤ n → Reached l r s at ps n → (p : Port) (ports : List Port) → Approaches l r s (p ∷ ports) → Contains ps p
  all-reached ps n most h p [] stands_there =
      let same : at ≡ p = some-injective at p (sym stands ∙ stands_there) in
      let C : Port → Type 0 = λ x. Contains ps x in
      subst C same h.start
  all-reached ps n most h p (q ∷ ports) comes =
      let q_in = all-reached ps n most h q ports comes.1 in
      let place = contains-get ps q q_in in
      let lt = get-below ps place.0 q place.1 in
      h.closed place.0 q p (omega (arith, lt, most)) place.1 comes.0

  pub reached-all : (ps : List Port) (n : ℕ) → length ps ≤ n → Reached l r s at ps n → AreReached l r s ps
  reached-all ps n most h = record { each = λ p. (h.sound p, λ c. all-reached ps n most h p c.0 c.1) }

joined-length : (joints : List Joint) → length (joined_ports joints) ≡ 2 * length joints
joined-length [] = refl
joined-length (j ∷ joints) = let e = joined-length joints in omega (arith, e)

-- no more are reached than there are
pub reached-few : (l : Site) (r : ApproachRule) (s : SignalId) (at : Port) (ps : List Port) (n : ℕ) → Reached l r s at ps n → length ps ≤ 2 * length l.joints + 1
reached-few l r s at ps n h =
    let few = distinct-few ps (at ∷ joined_ports l.joints) h.distinct h.known in
    let e = joined-length l.joints in
    omega (arith, few, e)

-- ---- the sections

in-decides : (o : Option SectionId) (c : SectionId) → Decides (lies_in o c) (o ≡ Some c)
in-decides o c =
    let P : SectionId → Type 0 = λ t. t ≡ c in
    Decides-like (lies_in o c) (λ h. h.1 ∙ ap Some h.2) (λ e. (c, e, refl)) (some_and-decides (λ t. t.0 == c.0) P (λ t. section-decides t c) o)

over-decides : (l : Site) (ps : List Port) (c : SectionId) → Decides (leads_over l ps c) ((p : Port) × Contains ps p × (section_of l p.element ≡ Some c))
over-decides l ps c = any-decides (λ p. lies_in (section_of l p.element) c) (λ p. section_of l p.element ≡ Some c) (λ p. in-decides (section_of l p.element) c) ps

abbrev section : ℕ → SectionId
section n = record { 0 = n }

abbrev Over : Site → List Port → SectionId → Type 0
Over l ps c = (p : Port) × Contains ps p × (section_of l p.element ≡ Some c)

below-from : (l : Site) (ps : List Port) (n : ℕ) (c : SectionId) → Contains (sections_below l ps n) c → (c.0 < n) × Over l ps c
unfolding sections_below
below-from l ps zero c h = absurd (contains-none c h)
below-from l ps (suc n) c h = cases (below-from l ps n c) (leads_over l ps (section n)) (over-decides l ps (section n)) h where
  cases : (Contains (sections_below l ps n) c → (c.0 < n) × Over l ps c) → (b : Bool) → Decides b (Over l ps (section n)) → Contains (if b then sections_below l ps n ++ section n ∷ [] else sections_below l ps n) c → (c.0 < suc n) × Over l ps c
  cases before true d h =
      let O : SectionId → Type 0 = λ x. (x.0 < suc n) × Over l ps x in
      ⊎_elim (λ old. let on = before old in ((let lt = on.0 in omega (arith, lt)), on.1)) (λ e. subst O e (omega arith, d.0 refl)) (contains-grown (sections_below l ps n) (section n) c h)
  cases before false d h = let on = before h in ((let lt = on.0 in omega (arith, lt)), on.1)

below-to : (l : Site) (ps : List Port) (n : ℕ) (c : SectionId) → c.0 < n → Over l ps c → Contains (sections_below l ps n) c
unfolding sections_below
below-to l ps zero c lt over = absurd (omega (arith, lt))
below-to l ps (suc n) c lt over = cases (below-to l ps n c) (leads_over l ps (section n)) (over-decides l ps (section n)) (c.0 == n) (Decides-eqb c.0 n) where
  cases : (c.0 < n → Over l ps c → Contains (sections_below l ps n) c) → (b : Bool) → Decides b (Over l ps (section n)) → (k : Bool) → Decides k (c.0 ≡ n) → Contains (if b then sections_below l ps n ++ section n ∷ [] else sections_below l ps n) c
  cases before true d true k =
      let same : section n ≡ c = λ i. record { 0 = sym (k.0 refl) i } in
      let C : SectionId → Type 0 = λ x. Contains (sections_below l ps n ++ section n ∷ []) x in
      subst C same (contains-last (sections_below l ps n) (section n))
  cases before true d false k =
      let differ : c.0 ≢ n = λ e. false≢true (k.1 e) in
      Contains-append_left (sections_below l ps n) (section n ∷ []) c (before (omega (arith, lt, differ)) over)
  cases before false d true k =
      let same : c ≡ section n = λ i. record { 0 = k.0 refl i } in
      let O : SectionId → Type 0 = λ x. Over l ps x in
      absurd (false≢true (d.1 (subst O same over)))
  cases before false d false k =
      let differ : c.0 ≢ n = λ e. false≢true (k.1 e) in
      before (omega (arith, lt, differ)) over

below-ordered : (l : Site) (ps : List Port) (n : ℕ) → AllPairs (λ (a : SectionId) (b : SectionId). a.0 < b.0) (sections_below l ps n)
unfolding sections_below
below-ordered l ps zero = pairs-nil (λ (a : SectionId) (b : SectionId). a.0 < b.0)
below-ordered l ps (suc n) =
    let R = λ (a : SectionId) (b : SectionId). a.0 < b.0 in
    elim (leads_over l ps (section n)) as (λ b. AllPairs (λ (x : SectionId) (y : SectionId). x.0 < y.0) (if b then sections_below l ps n ++ section n ∷ [] else sections_below l ps n)) [
      | true ↦ pairs-append (λ (x : SectionId) (y : SectionId). x.0 < y.0) (sections_below l ps n) (section n ∷ []) (below-ordered l ps n)
          (pairs-cons (λ (x : SectionId) (y : SectionId). x.0 < y.0) (section n) [] (λ y none. absurd (contains-none y none)) (pairs-nil (λ (x : SectionId) (y : SectionId). x.0 < y.0)))
          (λ x y c d. ⊎_elim (λ e. let lt = (below-from l ps n x c).0 in let same : n ≡ y.0 = ap (λ (z : SectionId). z.0) e in omega (arith, lt, same)) (λ none. absurd (contains-none y none)) (contains-cases (section n) y [] d))
      | false ↦ below-ordered l ps n
    ]

section-there : (l : Site) → IsStation l → (e : Element) (c : SectionId) → section_of l e ≡ Some c → HasSection l c
section-there l station (of.Track t) c h =
    let a = option_map-some (λ (k : Track). k.section) (slice_get l.tracks t.0) c h in
    let P : Track → Type 0 = λ k. HasSection l k.section in
    let H : SectionId → Type 0 = λ x. HasSection l x in
    subst H a.2 (All-contains P l.tracks a.0 station.tracks (get-contains l.tracks t.0 a.0 a.1))
section-there l station (of.Point t) c h =
    let a = option_map-some (λ (k : Point). k.section) (slice_get l.points t.0) c h in
    let P : Point → Type 0 = λ k. HasSection l k.section in
    let H : SectionId → Type 0 = λ x. HasSection l x in
    subst H a.2 (All-contains P l.points a.0 station.points (get-contains l.points t.0 a.0 a.1))
section-there l station (of.Border b) c h = absurd (none-some c h)

pub is-approach : (l : Site) → IsStation l → (r : ApproachRule) (s : SignalId) (ps : List Port) → AreReached l r s ps → IsApproach l r s (sections_below l ps (length l.sections))
is-approach l station r s ps h = record {
  each = λ c. (
    λ d. (let on = (below-from l ps (length l.sections) c d).1 in (on.0, (h.each on.0).0 on.1, on.2)),
    λ d. below-to l ps (length l.sections) c (section-there l station d.0.element c d.2) (d.0, (h.each d.0).1 d.1, d.2),
  );
  ordered = below-ordered l ps (length l.sections);
}

-- a signal that stands nowhere has no approach
stands-somewhere : (l : Site) (r : ApproachRule) (s : SignalId) (p : Port) (ports : List Port) → Approaches l r s (p ∷ ports) → (q : Port) × StandsAt l s q
stands-somewhere l r s p [] h = (p, h)
stands-somewhere l r s p (q ∷ ports) h = stands-somewhere l r s q ports h.1

pub no-approach : (l : Site) (r : ApproachRule) (s : SignalId) → port_of l.signals s ≡ None → IsApproach l r s []
no-approach l r s none = record {
  each = λ c. (λ d. absurd (contains-none c d), λ d. (let on = stands-somewhere l r s d.0 d.1.0 d.1.1 in absurd (none-some on.0 (sym none ∙ on.1))));
  ordered = pairs-nil (λ (a : SectionId) (b : SectionId). a.0 < b.0);
}

-- ---- what the code has

-- what was got from a place stands there
pub got-at : (ps : List Port) (i : ℕ) (p : Port) → i < length ps → p ≡ get_or ps i p → slice_get ps i ≡ Some p
got-at [] i p lt e = absurd (omega (arith, lt))
got-at (q ∷ ps) zero p lt e = ap Some (sym e)
got-at (q ∷ ps) (suc i) p lt e = got-at ps i p (omega (arith, lt)) e

pub over-approach : {X E : Type 0} (result : Result X E) (view : X → List SectionId) (l : Site) (r : ApproachRule) (s : SignalId) (cs : List SectionId) → IsApproach l r s cs → IfOk result (λ v. view v ≡ cs) → IfOk result (λ v. IsApproach l r s (view v))
over-approach (Ok x) view l r s cs h e = let A : List SectionId → Type 0 = λ ds. IsApproach l r s ds in subst A (sym e) h
over-approach (Err x) view l r s cs h e = tt
