-- What is asked to be kept first in a step that changes what is closed, and after a close, an open and a release that were taken, and
-- the line that is told then.
use Rattle.std.proofs.Common.{◌≡◌, ◌↔◌, ◌⊎◌, ℕ, Bool, true, false, not, ◌||◌, if◌then◌else◌, List, ◌∷◌, ◌++◌, map, Option, Some, None, refl, sym, ap, subst, inl}
use Rattle.std.specs.Option.{option_map}
use Rattle.std.proofs.lemmas.Bool.{false≢true}
use Rattle.node_drive.specs.Calls.{Call, Keeps, Writes}
use Rattle.node_drive.specs.Kinds.{AskedToKeep, said_if}
use Rattle.node_drive.specs.declared.outside.ToKeep.{ToKeep}
use Rattle.node_drive.specs.Rounds.{Standing, count, kept_by, line_of, new_order, step}
use Rattle.node_drive.specs.node_lines.Known.{operator_text}
use Rattle.node_drive.specs.node_lines.declared.operator_line.OperatorLine.TheVariants.{Accepted}
use Rattle.simulator_spec.specs.Nodes.{key_of}
use Rattle.simulator_spec.specs.layout.Entries.{Site}
use Rattle.simulator_spec.specs.layout.declared.ids.RouteId.{RouteId}
use Rattle.simulator_spec.specs.ixl_spec.Step as ixl
use Rattle.simulator_spec.specs.ixl_spec.State.{IxlState}
use Rattle.simulator_spec.specs.ixl_spec.closings.declared.closed.Closings.{Closings}
use Rattle.simulator_spec.specs.ixl_spec.closings.declared.thing.Named.{Named}
use Rattle.simulator_spec.specs.ixl_spec.closings.declared.thing.Named.TheVariants.{One}
use Rattle.simulator_spec.specs.ixl_spec.closings.declared.thing.Thing.{Thing}
use Rattle.simulator_spec.specs.ixl_spec.closings.declared.thing.Thing.TheVariants.{Route}
use Rattle.simulator_spec.specs.ixl_spec.closings.Closed.{IsClosed, either, with_named}
use Rattle.simulator_spec.specs.ixl_spec.closings.Things.{Names}
use Rattle.simulator_spec.specs.ixl_spec.declared.command.Command.{Command}
use Rattle.simulator_spec.specs.ixl_spec.declared.command.Command.TheVariants as command
use Rattle.node_kinds.specs.Interlockings.{InterlockingNode, answer_by_step, changes, interlocking_kind, ixl_step, known_then, said_then, to_have, to_have_then}
use Rattle.node_kinds.specs.Kept.{asks_to_keep, is_always_kept, is_same_closings, keeps_some, locked, named_by, not_kept_text, to_keep, wanted}
use Rattle.node_kinds.specs.declared.keeping.Keeping.{Keeping}
use Rattle.node_kinds.specs.declared.keeping.Keeping.TheVariants as keeping
use Rattle.node_kinds.proofs.ClosedStays.{close_taken}

-- ---- a step that changes what is closed

-- it is due where what is closed isn't the same
due_then : (of : Keeping) (always same : Bool) → keeps_some of ≡ true → same ≡ false → asks_to_keep of (always || not same) ≡ true
due_then keeping.Nothing always same some other = absurd (false≢true some)
due_then keeping.Closings true same some other = refl
due_then keeping.Closings false same some other = ap not other
due_then keeping.Locks true same some other = refl
due_then keeping.Locks false same some other = ap not other

-- what is due is asked before all that is called behind it
due_first : (due kept : Bool) (asked : AskedToKeep) (behind : Option AskedToKeep → List Call) → due ≡ true
    → let keeps : Option AskedToKeep = if due then Some asked else None in (more : List Call) × ((kept_by kept keeps ++ behind keeps) ≡ Keeps asked.all kept ∷ more)
due_first true kept asked behind is = (behind (Some asked), refl)
due_first false kept asked behind is = absurd (false≢true is)

pub changed_told : (now : ℕ) (kept : Bool) (input : ixl.Input) (standing : Standing InterlockingNode) → let node = standing.state in keeps_some node.keeping ≡ true
    → is_same_closings node.site (to_have node).closings (to_have_then now input node).closings ≡ false
    → (more : List Call) × ((step interlocking_kind now kept input standing).0 ≡ Keeps (to_have_then now input node) kept ∷ more)
changed_told now kept input standing some other =
    let node = standing.state in
    let reply = ixl.reply now node.table (key_of node.site) input node.ixl in
    let always = is_always_kept input reply in
    let same = is_same_closings node.site (to_have node).closings (to_have_then now input node).closings in
    let new = new_order standing.course.order None in
    due_first (asks_to_keep node.keeping (always || not same)) kept
    (record { all = to_have_then now input node; unless = option_map (not_kept_text node.site) (named_by input reply) })
    (λ keeps. map Writes (said_if kept keeps (said_then now input node)) ++ line_of (count new standing.course.written) now new)
    (due_then node.keeping always same some other)

-- ---- all that a close names is among what is to be kept

pub close_wanted : ((c : Closings) (n : Named) (t : Thing) → IsClosed (with_named c n) t ↔ (Names n t ⊎ IsClosed c t)) → ((c d : Closings) (t : Thing) → IsClosed (either c d) t ↔ (IsClosed c t ⊎ IsClosed d t))
    → (now : ℕ) (named : Named) (node : InterlockingNode) → keeps_some node.keeping ≡ true → ixl.reply now node.table (key_of node.site) (ixl.Commands (command.Close named)) node.ixl ≡ ixl.Accepted
    → (t : Thing) → Names named t → IsClosed (wanted node.keeping node.table (ixl_step now (ixl.Commands (command.Close named)) node).ixl) t
close_wanted by_command by_either now named node some accepted t names = by node.keeping some
  where
    next : IxlState
    next = (ixl_step now (ixl.Commands (command.Close named)) node).ixl

    closed : IsClosed next.closed t
    closed = subst (λ (c : Closings). IsClosed c t) (sym (close_taken now node.table (key_of node.site) named node.ixl accepted)) ((by_command node.ixl.closed named t).1 (inl names))

    by : (of : Keeping) → keeps_some of ≡ true → IsClosed (wanted of node.table next) t
    by keeping.Nothing some = absurd (false≢true some)
    by keeping.Closings some = closed
    by keeping.Locks some = (by_either next.closed (locked node.table next) t).1 (inl closed)

-- ---- what is called

module _ (site : Site) (named : Named) (before : Closings) (now : ToKeep) (kept : Bool) (others : List (List ℕ)) (behind : List Call) where
  abbrev line : List ℕ
  line = if kept then operator_text site Accepted else not_kept_text site named

  -- the calls of the step of a command with this answer
  abbrev calls_of : Keeping → Command → ixl.Reply → List Call
  calls_of of asked reply =
      let keeps = to_keep site of (ixl.Commands asked) reply before now in kept_by kept keeps ++ (map Writes (said_if kept keeps (answer_by_step site asked reply ++ others)) ++ behind)

  abbrev IsKeptFirst : List Call → Type 0
  IsKeptFirst calls = (more : List Call) × (calls ≡ Keeps now kept ∷ Writes line ∷ more)

close_called : (site : Site) (named : Named) (before : Closings) (now : ToKeep) (kept : Bool) (others : List (List ℕ)) (behind : List Call) (of : Keeping) → keeps_some of ≡ true
    → IsKeptFirst site named before now kept others behind (calls_of site named before now kept others behind of (command.Close named) ixl.Accepted)
close_called site named before now kept others behind keeping.Nothing some = absurd (false≢true some)
close_called site named before now true others behind keeping.Closings some = (map Writes others ++ behind, refl)
close_called site named before now false others behind keeping.Closings some = (map Writes others ++ behind, refl)
close_called site named before now true others behind keeping.Locks some = (map Writes others ++ behind, refl)
close_called site named before now false others behind keeping.Locks some = (map Writes others ++ behind, refl)

open_called : (site : Site) (named : Named) (before : Closings) (now : ToKeep) (kept : Bool) (others : List (List ℕ)) (behind : List Call) (of : Keeping) → keeps_some of ≡ true
    → IsKeptFirst site named before now kept others behind (calls_of site named before now kept others behind of (command.Open named) ixl.Accepted)
open_called site named before now kept others behind keeping.Nothing some = absurd (false≢true some)
open_called site named before now true others behind keeping.Closings some = (map Writes others ++ behind, refl)
open_called site named before now false others behind keeping.Closings some = (map Writes others ++ behind, refl)
open_called site named before now true others behind keeping.Locks some = (map Writes others ++ behind, refl)
open_called site named before now false others behind keeping.Locks some = (map Writes others ++ behind, refl)

release_called : (site : Site) (route : RouteId) (before : Closings) (now : ToKeep) (kept : Bool) (others : List (List ℕ)) (behind : List Call) (of : Keeping) → keeps_some of ≡ true
    → IsKeptFirst site (One (Route route)) before now kept others behind (calls_of site (One (Route route)) before now kept others behind of (command.Release route) ixl.Accepted)
release_called site route before now kept others behind keeping.Nothing some = absurd (false≢true some)
release_called site route before now true others behind keeping.Closings some = (map Writes others ++ behind, refl)
release_called site route before now false others behind keeping.Closings some = (map Writes others ++ behind, refl)
release_called site route before now true others behind keeping.Locks some = (map Writes others ++ behind, refl)
release_called site route before now false others behind keeping.Locks some = (map Writes others ++ behind, refl)

module _ (now : ℕ) (kept : Bool) (named : Named) (standing : Standing InterlockingNode) (some : keeps_some standing.state.keeping ≡ true) where
  abbrev node : InterlockingNode
  node = standing.state

  -- what was to be closed before, what is to be kept, the lines that tell what changed, and the line of an order
  abbrev before : Closings
  before = wanted node.keeping node.table node.ixl

  abbrev all : Command → ToKeep
  all asked = to_have_then now (ixl.Commands asked) node

  abbrev others : Command → List (List ℕ)
  others asked = changes node.site node.told (known_then now (ixl.Commands asked) node)

  abbrev behind : List Call
  behind = let new = new_order standing.course.order None in line_of (count new standing.course.written) now new

  -- what is called when a command is answered so
  abbrev told_first : Command → ixl.Reply → Type 0
  told_first asked reply = IsKeptFirst node.site named before (all asked) kept (others asked) behind (calls_of node.site named before (all asked) kept (others asked) behind node.keeping asked reply)

  pub close_told : ixl.reply now node.table (key_of node.site) (ixl.Commands (command.Close named)) node.ixl ≡ ixl.Accepted → told_first (command.Close named) (ixl.reply now node.table (key_of node.site) (ixl.Commands (command.Close named)) node.ixl)
  close_told accepted = subst (told_first (command.Close named)) (sym accepted) (close_called node.site named before (all (command.Close named)) kept (others (command.Close named)) behind node.keeping some)

  pub open_told : ixl.reply now node.table (key_of node.site) (ixl.Commands (command.Open named)) node.ixl ≡ ixl.Accepted → told_first (command.Open named) (ixl.reply now node.table (key_of node.site) (ixl.Commands (command.Open named)) node.ixl)
  open_told accepted = subst (told_first (command.Open named)) (sym accepted) (open_called node.site named before (all (command.Open named)) kept (others (command.Open named)) behind node.keeping some)

pub release_told : (now : ℕ) (kept : Bool) (route : RouteId) (standing : Standing InterlockingNode) (some : keeps_some standing.state.keeping ≡ true) → let of = standing.state in let asked = command.Release route
    in ixl.reply now of.table (key_of of.site) (ixl.Commands asked) of.ixl ≡ ixl.Accepted → told_first now kept (One (Route route)) standing some asked (ixl.reply now of.table (key_of of.site) (ixl.Commands asked) of.ixl)
release_told now kept route standing some accepted =
    let thing = One (Route route) in
    let asked = command.Release route in
    subst (told_first now kept thing standing some asked) (sym accepted)
    (release_called standing.state.site route (before now kept thing standing some) (all now kept thing standing some asked) kept (others now kept thing standing some asked) (behind now kept thing standing some) standing.state.keeping some)
