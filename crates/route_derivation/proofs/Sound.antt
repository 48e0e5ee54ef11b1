-- Each way that is found is one, and is passable where that is asked.
use Rattle.std.proofs.Common.{◌≡◌, ◌≤◌, ◌+◌, ◌∙◌, Bool, true, false, ℕ, zero, suc, List, [], ◌∷◌, ◌++◌, length, Option, Some, None, refl, sym, ap, subst, ⊎_elim, arith, length-append}
use Rattle.std.specs.List.{Contains}
use Rattle.std.proofs.lemmas.List.Elements.{Contains-append_cases}
use Rattle.control_table.specs.layout.declared.ids.SignalId.{SignalId}
use Rattle.control_table.specs.layout.declared.port.Port.{Port}
use Rattle.control_table.specs.layout.declared.entries.Exit.{Exit}
use Rattle.control_table.specs.layout.declared.entries.Exit.TheVariants as exit
use Rattle.control_table.specs.layout.Entries.{Site}
use Rattle.control_table.specs.layout.Once.{Once}
use Rattle.control_table.specs.Topology.{Joined, StandsAt, port_of}
use Rattle.control_table.specs.Path.{Passage, Passes, Leads, ExitAt, EndsAt}
use Rattle.control_table.specs.Sides.{FlanksGuarded, NoneAtBothSides}
use Rattle.route_derivation.specs.declared.search.Beyond.{Beyond}
use Rattle.route_derivation.specs.declared.search.Beyond.TheVariants as comes
use Rattle.route_derivation.specs.Ways.{Way, IsWay, IsPassable, IsShort}
use Rattle.route_derivation.specs.inside.WaySearch.{Partial, start, joined_to, first_out, second_out, may_go, longer, comes_to, ways_on, ways_over, ways_behind, ways_at, ways_from}
use Rattle.route_derivation.proofs.Joints.{OneBeyond, one-beyond, joined-found}
use Rattle.route_derivation.proofs.Members.{contains-none, contains-cases}
use Rattle.route_derivation.proofs.Lists.{contains-grown}
use Rattle.route_derivation.proofs.Adding.{over_none, over_full, over_stopped, over_on}
use Rattle.route_derivation.proofs.Grow.{Faithful, Fits, longer-judged, start-judged, longer-passages, start-passages, faithful-start, faithful-longer, fits-start, may_go-decides}
use Rattle.route_derivation.proofs.Reach.{first-passes, second-passes, end-found, on-found}

-- ---- passages in a row

-- the port at which passages end that begin at a port
pub port_after : Port → List Passage → Port
port_after from [] = from
port_after from (g ∷ path) = port_after g.left path

pub after-grown : (from : Port) (path : List Passage) (g : Passage) → port_after from (path ++ g ∷ []) ≡ g.left
unfolding port_after
after-grown from [] g = refl
after-grown from (h ∷ path) g = after-grown h.left path g

pub leads-grown : (l : Site) (from : Port) (path : List Passage) (g : Passage) → Leads l from path → Joined l (port_after from path) g.entered → Passes g → Leads l from (path ++ g ∷ [])
unfolding port_after
leads-grown l from [] g leads joined passes = (joined, passes, tt)
leads-grown l from (h ∷ path) g leads joined passes = (leads.0, leads.1, leads-grown l h.left path g leads.2 joined passes)

pub ends-grown : (l : Site) (x : Exit) (path : List Passage) (g : Passage) → ExitAt l x g.left → EndsAt l x (path ++ g ∷ [])
ends-grown l x [] g h = h
ends-grown l x (k ∷ []) g h = h
ends-grown l x (k ∷ m ∷ path) g h = ends-grown l x (m ∷ path) g h

some-last : (path : List Passage) (g : Passage) → path ++ g ∷ [] ≡ [] → ⊥
some-last [] g e = let n = ap length e in absurd (omega (arith, n))
some-last (h ∷ path) g e = let n = ap length e in absurd (omega (arith, n))

-- ---- the way so far

-- a way, which is passable where that is asked
pub record IsWayIf (judged : Bool) (l : Site) (w : Way) : Type 0 where
  pub way : IsWay l w
  pub consistent : judged ≡ true → NoneAtBothSides l w.passages
  pub guarded : judged ≡ true → FlanksGuarded l w.passages

module _ (l : Site) (once : Once l) (s : SignalId) (from : Port) (stands : StandsAt l s from) where
  abbrev one : OneBeyond l
  one = one-beyond l once

  pub record Good (p : Partial) : Type 0 where
    pub faithful : Faithful l p
    pub fits : Fits p.judged l p.passages
    pub leads : Leads l from p.passages
    pub clear : (g : Passage) (t : SignalId) → Contains p.passages g → StandsAt l t g.left → ⊥

  abbrev IsFine : Bool → ℕ → Way → Type 0
  IsFine judged most w = (w.entry ≡ s) × IsWayIf judged l w × (length w.passages ≤ most)

  abbrev SoundAt : ℕ → Type 0
  SoundAt n = (p : Partial) (g : Passage) → Good p → Joined l (port_after from p.passages) g.entered → Passes g
      → (w : Way) → Contains (ways_over l s n p (Some g)) w → IsFine p.judged (length p.passages + n) w

  module _ (p : Partial) (g : Passage) (good : Good p) (joined : Joined l (port_after from p.passages) g.entered) (passes : Passes g) (go : may_go l p g ≡ true) where
    abbrev path : List Passage
    path = p.passages ++ g ∷ []

    fits : Fits p.judged l path
    fits = (may_go-decides l one p g good.faithful good.fits).0 go

    leads : Leads l from path
    leads = leads-grown l from p.passages g good.leads joined passes

    grown-good : ((t : SignalId) → StandsAt l t g.left → ⊥) → Good (longer l p g)
    grown-good none =
        let same = sym (longer-passages l p g) in
        let F : List Passage → Type 0 = λ ps. Fits (longer l p g).judged l ps in
        let B : Bool → Type 0 = λ b. Fits b l path in
        let L : List Passage → Type 0 = λ ps. Leads l from ps in
        let C : List Passage → Type 0 = λ ps. (k : Passage) (t : SignalId) → Contains ps k → StandsAt l t k.left → ⊥ in
        let clear : C path = λ k t c at. ⊎_elim (λ old. good.clear k t old at) (λ e. let S : Passage → Type 0 = λ x. StandsAt l t x.left in none t (subst S (sym e) at)) (contains-grown p.passages g k c) in
        record {
          faithful = faithful-longer l one p g good.faithful;
          fits = subst F same (subst B (sym (longer-judged l p g)) fits);
          leads = subst L same leads;
          clear = subst C same clear;
        }

    grown-after : (entered : Port) → Joined l g.left entered → Joined l (port_after from (longer l p g).passages) entered
    grown-after entered h =
        let J : Port → Type 0 = λ q. Joined l q entered in
        subst J (sym (ap (port_after from) (longer-passages l p g) ∙ after-grown from p.passages g)) h

    grown-length : (n : ℕ) → length (longer l p g).passages + n ≡ length p.passages + suc n
    grown-length n = let e : length (longer l p g).passages ≡ length p.passages + length (g ∷ []) = ap length (longer-passages l p g) ∙ length-append p.passages (g ∷ []) in omega (arith, e)

    ended : (n : ℕ) (x : Exit) → comes_to l s g.left ≡ comes.Exit x → IsFine p.judged (length p.passages + suc n) (record { entry = s; exit = x; passages = path })
    ended n x h =
        let is = end-found l once s g.left x h in
        let between : (k : Passage) (t : SignalId) → Contains path k → StandsAt l t k.left → x ≡ exit.Signal t = λ k t c at.
        ⊎_elim (λ old. absurd (good.clear k t old at)) (λ e. let S : Passage → Type 0 = λ y. StandsAt l t y.left in is.2 t (subst S (sym e) at)) (contains-grown p.passages g k c) in
        let way : IsWay l (record { entry = s; exit = x; passages = path }) = record {
          some = some-last p.passages g;
          begins = (from, stands, leads);
          once = record { elements = fits.elements; sections = fits.sections };
          ends = ends-grown l x p.passages g is.0;
          elsewhere = is.1;
          between = between;
        } in
        let long : length path ≡ length p.passages + length (g ∷ []) = length-append p.passages (g ∷ []) in
        (refl, record { way = way; consistent = fits.consistent; guarded = fits.guarded }, omega (arith, long))

    module _ (n : ℕ) (before : SoundAt n) (w : Way) where
      abbrev GoesFrom : Option Passage → Port → Type 0
      GoesFrom next entered = (h : Passage) → next ≡ Some h → (entered ≡ h.entered) × Passes h

      further : (next : Option Passage) (entered : Port) → GoesFrom next entered → comes_to l s g.left ≡ comes.On entered
          → Contains (ways_over l s n (longer l p g) next) w → IsFine p.judged (length p.passages + suc n) w
      further None entered from_there to c =
          let C : List Way → Type 0 = λ ws. Contains ws w in
          absurd (contains-none w (subst C (over_none l s n (longer l p g)) c))
      further (Some h) entered from_there to c =
          let on = on-found l s g.left entered to in
          let ok = from_there h refl in
          let J : Port → Type 0 = λ q. Joined l (port_after from (longer l p g).passages) q in
          let fine = before (longer l p g) h (grown-good on.1) (subst J ok.0 (grown-after entered on.0)) ok.1 w c in
          let N : ℕ → Type 0 = λ m. length w.passages ≤ m in
          let W : Bool → Type 0 = λ b. IsWayIf b l w in
          (fine.0, subst W (longer-judged l p g) fine.1, subst N (grown-length n) fine.2)

      by-end : (b : Beyond) → comes_to l s g.left ≡ b → Contains (ways_on (λ next. ways_over l s n (longer l p g) next) s (longer l p g).passages b) w → IsFine p.judged (length p.passages + suc n) w
      by-end comes.Nowhere to c = absurd (contains-none w c)
      by-end (comes.Exit x) to c =
          let F : Way → Type 0 = λ v. IsFine p.judged (length p.passages + suc n) v in
          let same : record { entry = s; exit = x; passages = path } ≡ w = ⊎_elim
          (λ e. ap (λ ps. record { entry = s; exit = x; passages = ps }) (sym (longer-passages l p g)) ∙ e)
          (λ none. absurd (contains-none w none)) (contains-cases (record { entry = s; exit = x; passages = (longer l p g).passages }) w [] c) in
          subst F same (ended n x to)
      by-end (comes.On entered) to c =
          ⊎_elim (λ first. further (first_out entered) entered (λ h e. first-passes entered h e) to first)
          (λ second. further (second_out entered) entered (λ h e. second-passes entered h e) to second)
          (Contains-append_cases (ways_over l s n (longer l p g) (first_out entered)) (ways_over l s n (longer l p g) (second_out entered)) w c)

  sound-step : (n : ℕ) → SoundAt n → SoundAt (suc n)
  sound-step n before p g good joined passes w c = at (may_go l p g) refl where
    at : (b : Bool) → may_go l p g ≡ b → IsFine p.judged (length p.passages + suc n) w
    at false stop =
        let C : List Way → Type 0 = λ ws. Contains ws w in
        absurd (contains-none w (subst C (over_stopped l s (suc n) p g stop) c))
    at true go =
        let C : List Way → Type 0 = λ ws. Contains ws w in
        by-end p g good joined passes go n before w (comes_to l s g.left) refl (subst C (over_on l s n p g go (comes_to l s g.left) refl) c)

  sound : (n : ℕ) → SoundAt n
  sound zero p g good joined passes w c =
      let C : List Way → Type 0 = λ ws. Contains ws w in
      absurd (contains-none w (subst C (over_full l s p g) c))
  sound (suc n) p g good joined passes w c = sound-step n (sound n) p g good joined passes w c

  good-start : (judged : Bool) → Good (start judged)
  good-start judged =
      let none = sym (start-passages judged) in
      let F : List Passage → Type 0 = λ ps. Fits (start judged).judged l ps in
      let L : List Passage → Type 0 = λ ps. Leads l from ps in
      let C : List Passage → Type 0 = λ ps. (k : Passage) (t : SignalId) → Contains ps k → StandsAt l t k.left → ⊥ in
      let clear : C [] = λ k t c at. contains-none k c in
      record {
        faithful = faithful-start judged l;
        fits = subst F none (fits-start (start judged).judged l);
        leads = subst L none tt;
        clear = subst C none clear;
      }

  at-start : (q : Port) → Joined l from q → Joined l (port_after from []) q
  unfolding port_after
  at-start q j = j

  sound-next : (judged : Bool) (next : Option Passage) (entered : Port) → Joined l from entered → ((h : Passage) → next ≡ Some h → (entered ≡ h.entered) × Passes h)
      → (w : Way) → Contains (ways_over l s 64 (start judged) next) w → IsFine judged 64 w
  sound-next judged None entered joined from_there w c =
      let C : List Way → Type 0 = λ ws. Contains ws w in
      absurd (contains-none w (subst C (over_none l s 64 (start judged)) c))
  sound-next judged (Some h) entered joined from_there w c =
      let ok = from_there h refl in
      let J : Port → Type 0 = λ q. Joined l from q in
      let K : List Passage → Type 0 = λ ps. Joined l (port_after from ps) h.entered in
      let fine = sound 64 (start judged) h (good-start judged) (subst K (sym (start-passages judged)) (at-start h.entered (subst J ok.0 joined))) ok.1 w c in
      let N : ℕ → Type 0 = λ m. length w.passages ≤ m in
      let W : Bool → Type 0 = λ b. IsWayIf b l w in
      let long : length (start judged).passages + 64 ≡ 64 = ap (λ ps. length ps + 64) (start-passages judged) in
      (fine.0, subst W (start-judged judged) fine.1, subst N long fine.2)

  pub sound-behind : (judged : Bool) (o : Option Port) → joined_to l.joints from ≡ o → (w : Way) → Contains (ways_behind judged l s o) w → IsFine judged 64 w
  sound-behind judged None e w c = absurd (contains-none w c)
  sound-behind judged (Some entered) e w c =
      let joined = joined-found l from entered e in
      ⊎_elim (λ first. sound-next judged (first_out entered) entered joined (λ h e. first-passes entered h e) w first)
      (λ second. sound-next judged (second_out entered) entered joined (λ h e. second-passes entered h e) w second)
      (Contains-append_cases (ways_over l s 64 (start judged) (first_out entered)) (ways_over l s 64 (start judged) (second_out entered)) w c)

pub found-way : (judged : Bool) (l : Site) → Once l → (s : SignalId) (w : Way) → Contains (ways_from judged l s) w → (w.entry ≡ s) × IsWayIf judged l w × IsShort w
unfolding ways_from
found-way judged l once s w c = at (port_of l.signals s) refl c where
  at : (o : Option Port) → port_of l.signals s ≡ o → Contains (ways_at judged l s o) w → (w.entry ≡ s) × IsWayIf judged l w × IsShort w
  at None e c = absurd (contains-none w c)
  at (Some from) e c = sound-behind l once s from e judged (joined_to l.joints from) refl w c

pub found-fine : (l : Site) → Once l → (s : SignalId) (w : Way) → Contains (ways_from true l s) w → (w.entry ≡ s) × IsPassable l w × IsShort w
found-fine l once s w c =
    let fine = found-way true l once s w c in
    (fine.0, record { way = fine.1.way; consistent = fine.1.consistent refl; guarded = fine.1.guarded refl }, fine.2)
