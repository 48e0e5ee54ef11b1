-- Parts of a step, one after another.
use Rattle.std.proofs.Common.{◌≡◌, ℕ, ◌+◌, ◌≤◌, List, [], ◌∷◌, ◌++◌, arith, add-one, refl, sym, ◌∙◌, subst}
use Rattle.ixl_spec.specs.rasta_core.Outbox.{OutboxState}
use Rattle.ixl_spec.specs.ixl_client.ClientSoFar.{LinkCall}
use Rattle.ixl_spec.specs.StepSoFar.{Leads, Node, StepSoFar, along, at_route, over, with_route}
use Rattle.ixl_spec.specs.State.{IxlState, RouteState, changed}
use Rattle.ixl_spec.specs.Table.{Row, Table}
use Rattle.ixl_table.specs.Locks.{IsKeptRoute}
use Rattle.ixl_table.specs.Table.{SitedTable}
use Rattle.ixl_state.specs.State.{AllAt, Goes, StateView, route_changed}
use Rattle.ixl_state.specs.inside.DetectorHeard.{Passes, Remains}

abbrev pub part_at : IxlState → OutboxState → List (Node × LinkCall) → List (Node × List ℕ) → StepSoFar
part_at ixl box calls acted = record { ixl = ixl; outbox = box; calls = calls; acted = acted }

abbrev pub Comes : StepSoFar → IxlState → OutboxState → Type 0
Comes part ixl box = (part.ixl ≡ ixl) × (part.outbox ≡ box)

-- it is enough to look at parts of this state and outbox
pub leads_at : (does : StepSoFar → StepSoFar) (ixl : IxlState) (box : OutboxState) (new : IxlState) (out : OutboxState) →
    ((calls : List (Node × LinkCall)) (acted : List (Node × List ℕ)) → Comes (does (part_at ixl box calls acted)) new out) → Leads does ixl box new out
leads_at does ixl box new out at part is_ixl is_box =
    subst (λ (i : IxlState). Comes (does (part_at i part.outbox part.calls part.acted)) new out) (sym is_ixl)
    (subst (λ (b : OutboxState). Comes (does (part_at ixl b part.calls part.acted)) new out) (sym is_box) (at part.calls part.acted))

pub leads_then : (first second : StepSoFar → StepSoFar) (ixl : IxlState) (box : OutboxState) (mid : IxlState) (between : OutboxState) (new : IxlState) (out : OutboxState) →
    Leads first ixl box mid between → Leads second mid between new out → Leads (λ part. second (first part)) ixl box new out
leads_then first second ixl box mid between new out one other part is_ixl is_box =
    let done = one part is_ixl is_box in other (first part) done.0 done.1

pub goes_then : (now one other : ℕ) (first second : StepSoFar → StepSoFar) (old : StateView) (box : OutboxState) (mid : StateView) (between : OutboxState) (new : StateView) (out : OutboxState) →
    Goes now one first old box mid between → Goes now other second mid between new out → Goes now (one + other) (λ part. second (first part)) old box new out
goes_then now one other first second old box mid between new out begun ended = record {
  leads = leads_then first second old.ixl box mid.ixl between new.ixl out begun.leads ended.leads;
  sited = ended.sited ∙ begun.sited;
  clock = ended.clock;
  capacity = ended.capacity ∙ begun.capacity;
  few = omega (arith, begun.few, ended.few);
}

-- the same part, written otherwise
pub goes_as : (now most : ℕ) (does same : StepSoFar → StepSoFar) (old : StateView) (box : OutboxState) (new : StateView) (out : OutboxState) →
    (Leads does old.ixl box new.ixl out → Leads same old.ixl box new.ixl out) → Goes now most does old box new out → Goes now most same old box new out
goes_as now most does same old box new out written goes = record { leads = written goes.leads; sited = goes.sited; clock = goes.clock; capacity = goes.capacity; few = goes.few }

pub goes_within : (now few most : ℕ) (does : StepSoFar → StepSoFar) (old : StateView) (box : OutboxState) (new : StateView) (out : OutboxState) →
    few ≤ most → Goes now few does old box new out → Goes now most does old box new out
goes_within now few most does old box new out within goes =
    record { leads = goes.leads; sited = goes.sited; clock = goes.clock; capacity = goes.capacity; few = omega (arith, within, goes.few) }

pub goes_nowhere : (now most : ℕ) (does : StepSoFar → StepSoFar) (old : StateView) (box : OutboxState) → AllAt now old → Leads does old.ixl box old.ixl box → Goes now most does old box old box
goes_nowhere now most does old box at leads = record { leads = leads; sited = refl; clock = at; capacity = refl; few = omega arith }

-- ---- parts that hand out nothing

pub passed_site : (now : ℕ) (does : StepSoFar → StepSoFar) (old new : StateView) → Passes now does old new → new.sited ≡ old.sited
passed_site now does old new passes = let none : OutboxState = record { datagrams = []; capacity = 0 } in (passes none).sited

pub passed_clock : (now : ℕ) (does : StepSoFar → StepSoFar) (old new : StateView) → Passes now does old new → AllAt now new
passed_clock now does old new passes = let none : OutboxState = record { datagrams = []; capacity = 0 } in (passes none).clock

pub none_over : (now : ℕ) (does : ℕ → StepSoFar → StepSoFar) (old : StateView) → AllAt now old → Passes now (over does 0) old old
none_over now does old at box = goes_nowhere now 0 (over does 0) old box at (λ part is_ixl is_box. (is_ixl, is_box))

pub one_over : (now : ℕ) (does : Table → ℕ → StepSoFar → StepSoFar) (done : ℕ) (old mid new : StateView) →
    Passes now (over (does old.sited.table) done) old mid → Passes now (does mid.sited.table done) mid new → Passes now (over (does old.sited.table) (done + 1)) old new
one_over now does done old mid new so_far turn box =
    let here : Passes now (does old.sited.table done) mid new =
    subst (λ (p : SitedTable). Passes now (does p.table done) mid new) (passed_site now (over (does old.sited.table) done) old mid so_far) turn
    in subst (λ n. Goes now 0 (over (does old.sited.table) n) old box new box) (sym (add-one done))
    (goes_then now 0 0 (over (does old.sited.table) done) (does old.sited.table done) old box mid box new box (so_far box) (here box))

-- ---- one route

pub at_kept : (table : Table) (number : ℕ) (does : Row → RouteState → StepSoFar → StepSoFar) (ixl : IxlState) (box : OutboxState) (new : IxlState) (out : OutboxState) (row : Row) (route : RouteState) →
    IsKeptRoute table ixl.routes number row route → Leads (does row route) ixl box new out → Leads (at_route table number does) ixl box new out
unfolding at_route
at_kept table number does ixl box new out row route kept leads =
    leads_at (at_route table number does) ixl box new out (λ calls acted. rw (kept.0, kept.1) (leads (part_at ixl box calls acted) refl refl))

-- a route is changed
pub route_passes : (now number : ℕ) (does : Row → RouteState → StepSoFar → StepSoFar) (change : RouteState → RouteState) (old new : StateView) (row : Row) (route : RouteState) → AllAt now old →
    IsKeptRoute old.sited.table old.ixl.routes number row route → ((part : StepSoFar) → part.ixl ≡ old.ixl → does row route part ≡ with_route number change part) → new ≡ route_changed change number old →
    Passes now (at_route old.sited.table number does) old new
route_passes now number does change old new row route at kept is made box =
    subst (λ (n : StateView). Goes now 0 (at_route old.sited.table number does) old box n box) (sym made) (record {
      leads = at_kept old.sited.table number does old.ixl box (record old.ixl { routes = changed change number old.ixl.routes }) box row route kept
          (leads_at (does row route) old.ixl box (record old.ixl { routes = changed change number old.ixl.routes }) box
          (λ calls acted. subst (λ (p : StepSoFar). Comes p (record old.ixl { routes = changed change number old.ixl.routes }) box) (sym (is (part_at old.ixl box calls acted) refl)) (refl, refl)));
      sited = refl;
      clock = at;
      capacity = refl;
      few = omega arith;
    })

-- a route stays as it is
pub route_stays : (now number : ℕ) (does : Row → RouteState → StepSoFar → StepSoFar) (old : StateView) (row : Row) (route : RouteState) → AllAt now old →
    IsKeptRoute old.sited.table old.ixl.routes number row route → ((part : StepSoFar) → does row route part ≡ part) → Passes now (at_route old.sited.table number does) old old
route_stays now number does old row route at kept is box = goes_nowhere now 0 (at_route old.sited.table number does) old box at
    (at_kept old.sited.table number does old.ixl box old.ixl box row route kept
    (leads_at (does row route) old.ixl box old.ixl box (λ calls acted. subst (λ (p : StepSoFar). Comes p old.ixl box) (sym (is (part_at old.ixl box calls acted))) (refl, refl))))

-- ---- a list of things to be done

pub all_remains : (now : ℕ) (does : StepSoFar → StepSoFar) (old : StateView) → AllAt now old → Remains now does does old old
all_remains now does old at = record { leads = λ box new out leads. leads; sited = refl; clock = at }

-- what is to be done is done by a part and a rest
pub part_remains : (now : ℕ) (does rest : StepSoFar → StepSoFar) (part : StepSoFar → StepSoFar) (after : StepSoFar → StepSoFar) (old mid new : StateView) →
    Remains now does rest old mid → Passes now part mid new → ((p : StepSoFar) → rest p ≡ after (part p)) → Remains now does after old new
part_remains now does rest part after old mid new remains passes splits = record {
  leads = λ box new_ixl out leads. remains.leads box new_ixl out
      (leads_at rest mid.ixl box new_ixl out (λ calls acted.
      let both : Leads (λ p. after (part p)) mid.ixl box new_ixl out = leads_then part after mid.ixl box new.ixl box new_ixl out (passes box).leads leads
      in subst (λ (p : StepSoFar). Comes p new_ixl out) (sym (splits (part_at mid.ixl box calls acted))) (both (part_at mid.ixl box calls acted) refl refl)));
  sited = passed_site now part mid new passes ∙ remains.sited;
  clock = passed_clock now part mid new passes;
}

pub none_remains : (now : ℕ) (does rest : StepSoFar → StepSoFar) (old new : StateView) → Remains now does rest old new → ((p : StepSoFar) → rest p ≡ p) → Passes now does old new
none_remains now does rest old new remains is box = record {
  leads = remains.leads box new.ixl box (leads_at rest new.ixl box new.ixl box (λ calls acted. subst (λ (p : StepSoFar). Comes p new.ixl box) (sym (is (part_at new.ixl box calls acted))) (refl, refl)));
  sited = remains.sited;
  clock = remains.clock;
  capacity = refl;
  few = omega arith;
}

pub told_then : {A : Type 0} (does : A → StepSoFar → StepSoFar) (first second : List A) (part : StepSoFar) → along does (first ++ second) part ≡ along does second (along does first part)
told_then does [] second part = refl
told_then does (one ∷ first) second part = told_then does first second (does one part)
