-- What routes see of sections.
use Rattle.std.proofs.Common.{◌≡◌, ℕ, zero, suc, ◌+◌, ◌<◌, ◌≤◌, Bool, true, false, if◌then◌else◌, List, [], ◌∷◌, length, get_or, drop, arith, add-one, refl, ap, sym, ◌∙◌, subst}
use Rattle.std.specs.Prelude.{◌++◌, Option, Some, None, slice_get, IfSome}
use Rattle.std.specs.FinSet.{contains}
use Rattle.std.proofs.Math.Seq.{drop-cons}
use Rattle.std.proofs.lemmas.List.{drop_all}
use Rattle.ixl_spec.specs.bit_row.Places.{Places}
use Rattle.ixl_spec.specs.ixl_client.declared.indication.Indication.{Indication}
use Rattle.ixl_spec.specs.StepSoFar.{StepSoFar, along, with_route}
use Rattle.ixl_spec.specs.State.{RouteState}
use Rattle.ixl_spec.specs.Step.{is_told_occupied, looking, looking_by, route_looks, told_before, told_now}
use Rattle.ixl_spec.specs.Table.{Row, Table}
use Rattle.ixl_spec.specs.View.{was_authorised}
use Rattle.ixl_table.specs.Locks.{IsKeptRoute}
use Rattle.ixl_table.specs.Table.{SitedTable}
use Rattle.ixl_state.specs.State.{AllAt, StateView, route_changed}
use Rattle.ixl_state.specs.inside.DetectorHeard.{Passes, Remains}
use Rattle.ixl_state.proofs.Lists.{get-below}
use Rattle.ixl_state.proofs.StepParts.{Comes, all_remains, goes_as, goes_nowhere, goes_then, leads_at, none_remains, part_at, part_remains, passed_site, passed_clock, route_passes, route_stays, told_then}

-- ---- one route looks at a section

pub route_looked : (now number section : ℕ) (occupied : Bool) (old new : StateView) (row : Row) (route : RouteState) → AllAt now old →
    IsKeptRoute old.sited.table old.ixl.routes number row route → was_authorised route.phase ≡ true → new ≡ route_changed (route_looks section occupied row) number old →
    Passes now (looking_by section occupied old.sited.table number) old new
unfolding looking_by
route_looked now number section occupied old new row route at kept is made =
    route_passes now number (λ row route part. if was_authorised route.phase then with_route number (route_looks section occupied row) part else part)
    (route_looks section occupied row) old new row route at kept (λ part same. ap (λ b. if b then with_route number (route_looks section occupied row) part else part) is) made

pub route_not_looked : (now number section : ℕ) (occupied : Bool) (old : StateView) (row : Row) (route : RouteState) → AllAt now old →
    IsKeptRoute old.sited.table old.ixl.routes number row route → was_authorised route.phase ≡ false → Passes now (looking_by section occupied old.sited.table number) old old
unfolding looking_by
route_not_looked now number section occupied old row route at kept is =
    route_stays now number (λ row route part. if was_authorised route.phase then with_route number (route_looks section occupied row) part else part)
    old row route at kept (λ part. ap (λ b. if b then with_route number (route_looks section occupied row) part else part) is)

-- ---- one section after another

before_next : (occupied : Places) (sections : List ℕ) (own d : ℕ) → own < length sections →
    told_before occupied own (drop own sections) ≡ (get_or sections own d, contains occupied own) ∷ told_before occupied (own + 1) (drop (own + 1) sections)
before_next occupied sections own d within =
    ap (told_before occupied own) (drop-cons sections own d within)
    ∙ ap (λ n. (get_or sections own d, contains occupied own) ∷ told_before occupied n (drop n sections)) (sym (add-one own))

-- those of the sections of a detector as it told them before that are left
pub record LooksBefore (now : ℕ) (table : Table) (occupied : Places) (place own : ℕ) (old mid : StateView) : Type 0 where
  pub sited : mid.sited ≡ old.sited
  pub clock : AllAt now mid
  pub remains : (sections : List ℕ) → slice_get table.detectors place ≡ Some sections →
      Remains now (along (looking table) (told_before occupied 0 sections)) (along (looking table) (told_before occupied own (drop own sections))) old mid

pub same_list : (one other : List ℕ) (found : Option (List ℕ)) → found ≡ Some one → found ≡ Some other → one ≡ other
same_list one other found is also = cc

pub looked_before : (now : ℕ) (occupied : Places) (place own section : ℕ) (old mid new : StateView) (sections : List ℕ) (seen : Bool) → LooksBefore now old.sited.table occupied place own old mid →
    slice_get mid.sited.table.detectors place ≡ Some sections → own < length sections → section ≡ get_or sections own 0 → seen ≡ contains occupied own →
    Passes now (looking mid.sited.table (section, seen)) mid new → LooksBefore now old.sited.table occupied place (own + 1) old new
looked_before now occupied place own section old mid new sections seen so_far has within is sees passes = record {
  sited = passed_site now (looking mid.sited.table (section, seen)) mid new passes ∙ so_far.sited;
  clock = passed_clock now (looking mid.sited.table (section, seen)) mid new passes;
  remains = λ list there. next list there;
} where
  here : Passes now (looking old.sited.table (get_or sections own 0, contains occupied own)) mid new
  here = subst (λ (b : Bool). Passes now (looking old.sited.table (get_or sections own 0, b)) mid new) sees
      (subst (λ (s : ℕ). Passes now (looking old.sited.table (s, seen)) mid new) is
      (subst (λ (p : SitedTable). Passes now (looking p.table (section, seen)) mid new) so_far.sited passes))

  next : (list : List ℕ) → slice_get old.sited.table.detectors place ≡ Some list →
      Remains now (along (looking old.sited.table) (told_before occupied 0 list)) (along (looking old.sited.table) (told_before occupied (own + 1) (drop (own + 1) list))) old new
  next list there =
      let same : sections ≡ list = same_list sections list (slice_get old.sited.table.detectors place) (subst (λ (p : SitedTable). slice_get p.table.detectors place ≡ Some sections) so_far.sited has) there
      in subst (λ (l : List ℕ). Remains now (along (looking old.sited.table) (told_before occupied 0 l)) (along (looking old.sited.table) (told_before occupied (own + 1) (drop (own + 1) l))) old new) same
      (part_remains now (along (looking old.sited.table) (told_before occupied 0 sections)) (along (looking old.sited.table) (told_before occupied own (drop own sections)))
      (looking old.sited.table (get_or sections own 0, contains occupied own)) (along (looking old.sited.table) (told_before occupied (own + 1) (drop (own + 1) sections))) old mid new
      (so_far.remains sections (subst (λ (p : SitedTable). slice_get p.table.detectors place ≡ Some sections) so_far.sited has)) here
      (λ p. ap (λ told. along (looking old.sited.table) told p) (before_next occupied sections own 0 within)))

-- ---- one report after another

now_next : (does : ℕ × Bool → StepSoFar → StepSoFar) (sections : List ℕ) (first : Indication) (others : List Indication) (part : StepSoFar) →
    along does (told_now sections (first ∷ others)) part ≡ along does (told_now sections others) (along does (told_now sections (first ∷ [])) part)
now_next does sections first others part = cases (slice_get sections first.place) refl where
  cases : (found : Option ℕ) → slice_get sections first.place ≡ found →
      along does (told_now sections (first ∷ others)) part ≡ along does (told_now sections others) (along does (told_now sections (first ∷ [])) part)
  cases None is = rw is
  cases (Some section) is = rw is

pub record LooksNow (now : ℕ) (table : Table) (heard : List Indication) (place done : ℕ) (old mid : StateView) : Type 0 where
  pub sited : mid.sited ≡ old.sited
  pub clock : AllAt now mid
  pub remains : (sections : List ℕ) → slice_get table.detectors place ≡ Some sections →
      Remains now (along (looking table) (told_now sections heard)) (along (looking table) (told_now sections (drop done heard))) old mid

pub looked_now : (now : ℕ) (heard : List Indication) (place done : ℕ) (told d : Indication) (old mid new : StateView) → LooksNow now old.sited.table heard place done old mid → done < length heard →
    told ≡ get_or heard done d →
    ((sections : List ℕ) → slice_get mid.sited.table.detectors place ≡ Some sections → Passes now (along (looking mid.sited.table) (told_now sections (told ∷ []))) mid new) →
    new.sited ≡ mid.sited → AllAt now new → LooksNow now old.sited.table heard place (done + 1) old new
looked_now now heard place done told d old mid new so_far within is passes sited clock = record {
  sited = sited ∙ so_far.sited;
  clock = clock;
  remains = λ sections there.
      let has : slice_get mid.sited.table.detectors place ≡ Some sections = subst (λ (p : SitedTable). slice_get p.table.detectors place ≡ Some sections) (sym so_far.sited) there
      in let here : Passes now (along (looking old.sited.table) (told_now sections (told ∷ []))) mid new =
      subst (λ (p : SitedTable). Passes now (along (looking p.table) (told_now sections (told ∷ []))) mid new) so_far.sited (passes sections has)
      in let splits : drop done heard ≡ told ∷ drop (done + 1) heard = drop-cons heard done d within ∙ ap (λ t. t ∷ drop (suc done) heard) (sym is) ∙ ap (λ n. told ∷ drop n heard) (sym (add-one done))
      in part_remains now (along (looking old.sited.table) (told_now sections heard)) (along (looking old.sited.table) (told_now sections (drop done heard)))
      (along (looking old.sited.table) (told_now sections (told ∷ []))) (along (looking old.sited.table) (told_now sections (drop (done + 1) heard))) old mid new
      (so_far.remains sections there) here
      (λ p. ap (λ list. along (looking old.sited.table) (told_now sections list) p) splits ∙ now_next (looking old.sited.table) sections told (drop (done + 1) heard) p);
}

-- ---- from the beginning to the end

module _ (now : ℕ) where
  pub none_before : (occupied : Places) (place : ℕ) (old : StateView) → AllAt now old → LooksBefore now old.sited.table occupied place 0 old old
  none_before occupied place old at = record {
    sited = refl;
    clock = at;
    remains = λ sections there. all_remains now (along (looking old.sited.table) (told_before occupied 0 sections)) old at;
  }

  pub all_before : (occupied : Places) (place own : ℕ) (old mid : StateView) (sections : List ℕ) → LooksBefore now old.sited.table occupied place own old mid →
      slice_get old.sited.table.detectors place ≡ Some sections → length sections ≤ own → Passes now (along (looking old.sited.table) (told_before occupied 0 sections)) old mid
  all_before occupied place own old mid sections so_far there over =
      none_remains now (along (looking old.sited.table) (told_before occupied 0 sections)) (along (looking old.sited.table) (told_before occupied own (drop own sections))) old mid
      (so_far.remains sections there) (λ p. ap (λ list. along (looking old.sited.table) (told_before occupied own list) p) (drop_all own sections over))

  pub none_now : (heard : List Indication) (place : ℕ) (old : StateView) → AllAt now old → LooksNow now old.sited.table heard place 0 old old
  none_now heard place old at = record {
    sited = refl;
    clock = at;
    remains = λ sections there. all_remains now (along (looking old.sited.table) (told_now sections heard)) old at;
  }

  pub all_now : (heard : List Indication) (place done : ℕ) (old mid : StateView) (sections : List ℕ) → LooksNow now old.sited.table heard place done old mid →
      slice_get old.sited.table.detectors place ≡ Some sections → length heard ≤ done → Passes now (along (looking old.sited.table) (told_now sections heard)) old mid
  all_now heard place done old mid sections so_far there over =
      none_remains now (along (looking old.sited.table) (told_now sections heard)) (along (looking old.sited.table) (told_now sections (drop done heard))) old mid
      (so_far.remains sections there) (λ p. ap (λ list. along (looking old.sited.table) (told_now sections list) p) (drop_all done heard over))

  -- one report
  pub one_looked : (place : ℕ) (told : Indication) (sections : List ℕ) (section : ℕ) (seen : Bool) (old new : StateView) → slice_get sections told.place ≡ Some section → seen ≡ is_told_occupied told.state →
      Passes now (looking old.sited.table (section, seen)) old new → Passes now (along (looking old.sited.table) (told_now sections (told ∷ []))) old new
  one_looked place told sections section seen old new is sees passes =
      rw is (subst (λ (b : Bool). Passes now (looking old.sited.table (section, b)) old new) sees passes)

  pub none_looked : (told : Indication) (sections : List ℕ) (old : StateView) → slice_get sections told.place ≡ None → AllAt now old → Passes now (along (looking old.sited.table) (told_now sections (told ∷ []))) old old
  none_looked told sections old is at = rw is (λ box. goes_nowhere now 0 (λ part. part) old box at (λ part is_ixl is_box. (is_ixl, is_box)))

  -- at first what was told before, and then what is told now
  pub both_looked : (place : ℕ) (occupied : Places) (sections : List ℕ) (heard : List Indication) (old mid new : StateView) → Passes now (along (looking old.sited.table) (told_before occupied 0 sections)) old mid →
      Passes now (along (looking mid.sited.table) (told_now sections heard)) mid new →
      Passes now (along (looking old.sited.table) (told_before occupied 0 sections ++ told_now sections heard)) old new
  both_looked place occupied sections heard old mid new first second box =
      let here : Passes now (along (looking old.sited.table) (told_now sections heard)) mid new =
      subst (λ (p : SitedTable). Passes now (along (looking p.table) (told_now sections heard)) mid new) (passed_site now (along (looking old.sited.table) (told_before occupied 0 sections)) old mid first) second
      in goes_as now 0 (λ part. along (looking old.sited.table) (told_now sections heard) (along (looking old.sited.table) (told_before occupied 0 sections) part))
      (along (looking old.sited.table) (told_before occupied 0 sections ++ told_now sections heard)) old box new box
      (λ leads. leads_at (along (looking old.sited.table) (told_before occupied 0 sections ++ told_now sections heard)) old.ixl box new.ixl box
      (λ calls acted. subst (λ (p : StepSoFar). Comes p new.ixl box) (sym (told_then (looking old.sited.table) (told_before occupied 0 sections) (told_now sections heard) (part_at old.ixl box calls acted)))
      (leads (part_at old.ixl box calls acted) refl refl)))
      (goes_then now 0 0 (along (looking old.sited.table) (told_before occupied 0 sections)) (along (looking old.sited.table) (told_now sections heard)) old box mid box new box (first box) (here box))

-- where a detector has sections, they are these
pub for_some : (holds : List ℕ → Type 0) (found : Option (List ℕ)) → ((sections : List ℕ) → found ≡ Some sections → holds sections) → IfSome found holds
for_some holds None each = tt
for_some holds (Some sections) each = each sections refl

pub at_list : (holds : List ℕ → Type 0) (found : Option (List ℕ)) (sections : List ℕ) → found ≡ Some sections → IfSome found holds → holds sections
at_list holds found sections is told = subst (λ o. IfSome o holds) is told

-- what looks leave as it is
pub told_site : (now : ℕ) (does : List ℕ → StepSoFar → StepSoFar) (place : ℕ) (old new : StateView) → place < length old.sited.table.detectors →
    IfSome (slice_get old.sited.table.detectors place) (λ sections. Passes now (does sections) old new) → (new.sited ≡ old.sited) × AllAt now new
told_site now does place old new there passes =
    let one = get-below old.sited.table.detectors place there
    in let here : Passes now (does one.0) old new = at_list (λ sections. Passes now (does sections) old new) (slice_get old.sited.table.detectors place) one.0 one.1 passes
    in (passed_site now (does one.0) old new here, passed_clock now (does one.0) old new here)

pub get_within : {A : Type 0} (list : List A) (place : ℕ) (d : A) → place < length list → slice_get list place ≡ Some (get_or list place d)
get_within [] place d within = absurd (omega (arith, within))
get_within (first ∷ others) zero d within = refl
get_within (first ∷ others) (suc place) d within = get_within others place d (omega (arith, within))
