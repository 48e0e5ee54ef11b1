-- How parts of a step follow one another.
use Rattle.std.proofs.Common.{◌≡◌, ℕ, ◌+◌, ◌*◌, ◌≤◌, length, arith, add-one, refl, ap, sym, ◌∙◌, subst}
use Rattle.ixl_state.specs.rasta_core.Outbox.{OutboxState}
use Rattle.ixl_state.specs.ixl_spec.Table.{Row, Table}
use Rattle.ixl_state.specs.ixl_spec.State.{IxlState, RouteState}
use Rattle.ixl_state.specs.ixl_spec.StepSoFar.{Leads, StepSoFar, at_route, over, with_route}
use Rattle.ixl_state.specs.ixl_spec.Rules.{count}
use Rattle.ixl_state.specs.ixl_table.Locks.{IsKeptRoute}
use Rattle.ixl_state.specs.ixl_table.Table.{SitedTable}
use Rattle.ixl_state.specs.State.{AllAt, Goes, StateView, route_changed}
use Rattle.ixl.specs.inside.Changes.{Changes}

-- at a route of the table something is done with its row and with what is kept of it
pub at_kept : (table : Table) (number : ℕ) (does : Row → RouteState → StepSoFar → StepSoFar) (part : StepSoFar) (row : Row) (route : RouteState) → IsKeptRoute table part.ixl.routes number row route →
    at_route table number does part ≡ does row route part
unfolding at_route
at_kept table number does part row route is = rw is.0 (rw is.1 refl)

-- ---- one part, and the next

-- what does the same at a state leads where the other does
pub leads_as : (does other : StepSoFar → StepSoFar) (ixl : IxlState) (box : OutboxState) (new : IxlState) (out : OutboxState) → ((part : StepSoFar) → part.ixl ≡ ixl → does part ≡ other part) →
    Leads other ixl box new out → Leads does ixl box new out
leads_as does other ixl box new out same leads part is_ixl is_box =
    let done = leads part is_ixl is_box
    in (ap (λ (p : StepSoFar). p.ixl) (same part is_ixl) ∙ done.0, ap (λ (p : StepSoFar). p.outbox) (same part is_ixl) ∙ done.1)

pub leads_then : (first second : StepSoFar → StepSoFar) (ixl : IxlState) (box : OutboxState) (mid : IxlState) (between : OutboxState) (new : IxlState) (out : OutboxState) →
    Leads first ixl box mid between → Leads second mid between new out → Leads (λ part. second (first part)) ixl box new out
leads_then first second ixl box mid between new out one other part is_ixl is_box =
    let done = one part is_ixl is_box in other (first part) done.0 done.1

pub leads_nowhere : (ixl : IxlState) (box : OutboxState) → Leads (λ part. part) ixl box ixl box
leads_nowhere ixl box part is_ixl is_box = (is_ixl, is_box)

-- ---- parts that hand out datagrams

pub goes_as : (now most : ℕ) (does other : StepSoFar → StepSoFar) (old : StateView) (box : OutboxState) (new : StateView) (out : OutboxState) → ((part : StepSoFar) → part.ixl ≡ old.ixl → does part ≡ other part) →
    Goes now most other old box new out → Goes now most does old box new out
goes_as now most does other old box new out same goes = record {
  leads = leads_as does other old.ixl box new.ixl out same goes.leads;
  sited = goes.sited;
  clock = goes.clock;
  capacity = goes.capacity;
  few = goes.few;
}

pub goes_nowhere : (now most : ℕ) (does : StepSoFar → StepSoFar) (old : StateView) (box : OutboxState) → AllAt now old → ((part : StepSoFar) → part.ixl ≡ old.ixl → does part ≡ part) → Goes now most does old box old box
goes_nowhere now most does old box at same = record {
  leads = leads_as does (λ part. part) old.ixl box old.ixl box same (leads_nowhere old.ixl box);
  sited = refl;
  clock = at;
  capacity = refl;
  few = omega arith;
}

pub goes_then : (now one other most : ℕ) (first second : StepSoFar → StepSoFar) (old : StateView) (box : OutboxState) (mid : StateView) (between : OutboxState) (new : StateView) (out : OutboxState) → one + other ≤ most →
    Goes now one first old box mid between → Goes now other second mid between new out → Goes now most (λ part. second (first part)) old box new out
goes_then now one other most first second old box mid between new out within before after = record {
  leads = leads_then first second old.ixl box mid.ixl between new.ixl out before.leads after.leads;
  sited = after.sited ∙ before.sited;
  clock = after.clock;
  capacity = after.capacity ∙ before.capacity;
  few = omega (arith, within, before.few, after.few);
}

pub goes_within : (now few most : ℕ) (does : StepSoFar → StepSoFar) (old : StateView) (box : OutboxState) (new : StateView) (out : OutboxState) → few ≤ most → Goes now few does old box new out → Goes now most does old box new out
goes_within now few most does old box new out within goes = record {
  leads = goes.leads;
  sited = goes.sited;
  clock = goes.clock;
  capacity = goes.capacity;
  few = omega (arith, within, goes.few);
}

-- what a part does with the table of the state that it meets
pub goes_next : (now one other most : ℕ) (first : StepSoFar → StepSoFar) (second : Table → StepSoFar → StepSoFar) (old : StateView) (box : OutboxState) (mid : StateView) (between : OutboxState) (new : StateView) (out : OutboxState) → one + other ≤ most →
    Goes now one first old box mid between → Goes now other (second mid.sited.table) mid between new out → Goes now most (λ part. second old.sited.table (first part)) old box new out
goes_next now one other most first second old box mid between new out within before after =
    goes_then now one other most first (second old.sited.table) old box mid between new out within before
    (subst (λ (p : SitedTable). Goes now other (second p.table) mid between new out) before.sited after)

-- one route more
pub one_goes : (now each : ℕ) (does : Table → ℕ → StepSoFar → StepSoFar) (done : ℕ) (old : StateView) (box : OutboxState) (mid : StateView) (between : OutboxState) (new : StateView) (out : OutboxState) →
    Goes now (each * done) (over (does old.sited.table) done) old box mid between → Goes now each (does mid.sited.table done) mid between new out →
    Goes now (each * (done + 1)) (over (does old.sited.table) (done + 1)) old box new out
one_goes now each does done old box mid between new out before after =
    subst (λ n. Goes now (each * (done + 1)) (over (does old.sited.table) n) old box new out) (sym (add-one done))
    (goes_next now (each * done) each (each * (done + 1)) (over (does old.sited.table) done) (λ table. does table done) old box mid between new out (grind arith) before after)

-- all routes
pub all_go : (now each most : ℕ) (does : Table → ℕ → StepSoFar → StepSoFar) (done : ℕ) (old : StateView) (box : OutboxState) (new : StateView) (out : OutboxState) → done ≡ length old.sited.table.rows → each * done ≤ most →
    Goes now (each * done) (over (does old.sited.table) done) old box new out → Goes now most (over (does old.sited.table) (count old.sited.table)) old box new out
all_go now each most does done old box new out counted within goes =
    subst (λ n. Goes now most (over (does old.sited.table) n) old box new out) counted (goes_within now (each * done) most _ old box new out within goes)

-- ---- parts that hand out nothing

pub changes_as : (does other : StepSoFar → StepSoFar) (old new : StateView) → ((part : StepSoFar) → part.ixl ≡ old.ixl → does part ≡ other part) → Changes other old new → Changes does old new
changes_as does other old new same changes = record {
  leads = λ box. leads_as does other old.ixl box new.ixl box same (changes.leads box);
  sited = changes.sited;
  clock = changes.clock;
}

pub changes_nowhere : (does : StepSoFar → StepSoFar) (old : StateView) → ((part : StepSoFar) → part.ixl ≡ old.ixl → does part ≡ part) → Changes does old old
changes_nowhere does old same = record {
  leads = λ box. leads_as does (λ part. part) old.ixl box old.ixl box same (leads_nowhere old.ixl box);
  sited = refl;
  clock = λ now at. at;
}

pub changes_then : (first second : StepSoFar → StepSoFar) (old mid new : StateView) → Changes first old mid → Changes second mid new → Changes (λ part. second (first part)) old new
changes_then first second old mid new before after = record {
  leads = λ box. leads_then first second old.ixl box mid.ixl box new.ixl box (before.leads box) (after.leads box);
  sited = after.sited ∙ before.sited;
  clock = λ now at. after.clock now (before.clock now at);
}

pub changes_go : (now : ℕ) (does : StepSoFar → StepSoFar) (old new : StateView) (box : OutboxState) → AllAt now old → Changes does old new → Goes now 0 does old box new box
changes_go now does old new box at changes = record {
  leads = changes.leads box;
  sited = changes.sited;
  clock = changes.clock now at;
  capacity = refl;
  few = omega arith;
}

-- what is kept of a route is changed
pub route_changes : (change : RouteState → RouteState) (number : ℕ) (old new : StateView) → new ≡ route_changed change number old → Changes (with_route number change) old new
route_changes change number old new is = subst (Changes (with_route number change) old) (sym is) (record {
  leads = λ box. λ part is_ixl is_box. (ap (λ (ixl : IxlState). (route_changed change number (record old { ixl = ixl })).ixl) is_ixl, is_box);
  sited = refl;
  clock = λ now at. record { known_signals = at.known_signals; known_points = at.known_points; detectors = at.detectors };
})

-- one route more
pub one_changes : (does : Table → ℕ → StepSoFar → StepSoFar) (done : ℕ) (old mid new : StateView) → Changes (over (does old.sited.table) done) old mid → Changes (does mid.sited.table done) mid new →
    Changes (over (does old.sited.table) (done + 1)) old new
one_changes does done old mid new before after =
    subst (λ n. Changes (over (does old.sited.table) n) old new) (sym (add-one done))
    (changes_then (over (does old.sited.table) done) (does old.sited.table done) old mid new before
    (subst (λ (p : SitedTable). Changes (does p.table done) mid new) before.sited after))

pub all_changes : (does : Table → ℕ → StepSoFar → StepSoFar) (done : ℕ) (old new : StateView) → done ≡ length old.sited.table.rows → Changes (over (does old.sited.table) done) old new →
    Changes (over (does old.sited.table) (count old.sited.table)) old new
all_changes does done old new counted changes = subst (λ n. Changes (over (does old.sited.table) n) old new) counted changes
