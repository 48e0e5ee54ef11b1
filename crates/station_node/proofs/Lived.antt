-- What the processes of nodes come to.
use Rattle.std.proofs.Common.{◌≡◌, ◌∙◌, ap, ℕ, List, [], ◌∷◌, Option, Some, None, Result, Ok, Err, append-nil, refl, subst, sym}
use Rattle.std.specs.Prelude.{OnErr, OnOk}
use Rattle.node_kinds.specs.simulator_spec.layout.Entries.{Site}
use Rattle.node_kinds.specs.node_drive.Beginning.{first_course, last_line}
use Rattle.node_kinds.specs.node_drive.Calls.{Call, Calls, CallsCut, Grows, Reads, Told, between}
use Rattle.node_kinds.specs.node_drive.Drives.{CutOff, Ran}
use Rattle.node_kinds.specs.node_drive.Kinds.{Kind}
use Rattle.node_kinds.specs.node_drive.Rounds.{CourseState, Standing}
use Rattle.node_kinds.specs.Interlockings.{InterlockingNode, interlocking_kind}
use Rattle.node_kinds.specs.Openings.{Equipment, Opening}
use Rattle.node_kinds.specs.declared.keeping.Keeping.{Keeping}
use Rattle.node_kinds.specs.simulator_spec.ixl_spec.closings.declared.auxiliary.AuxiliaryCounts.{AuxiliaryCounts}
use Rattle.node_kinds.specs.ixl_table.Table.{IsTableOf}
use Rattle.node_kinds.specs.node_drive.node_lines.declared.order.Order.{Order}
use Rattle.node_kinds.specs.simulator_spec.Nodes.{Node}
use Rattle.station_node.specs.Processes.{NodeCut, NodeRuns, ProcessCut, at_end, at_once, in_life, rest_of, resting, Controls, lived, ControlsCut, living, LifeCut, unmade, cut, Lives, Opens, ReadsAt, StationCut, cut_off, StationRuns, interlocking_made, left_of, standing}

-- ---- what is so of a result of either kind

pub any_ok : {A E P : Type 0} (result : Result A E) → P → OnOk result P
any_ok (Ok x) p = p
any_ok (Err e) p = tt

pub any_err : {A E P : Type 0} (result : Result A E) → P → OnErr result P
any_err (Ok x) p = tt
any_err (Err e) p = p

pub map_ok : {A E P Q : Type 0} (result : Result A E) → (P → Q) → OnOk result P → OnOk result Q
map_ok (Ok x) f p = f p
map_ok (Err e) f p = tt

pub map_err : {A E P Q : Type 0} (result : Result A E) → (P → Q) → OnErr result P → OnErr result Q
map_err (Ok x) f p = tt
map_err (Err e) f p = f p

-- ---- a node that was made

module _ {State Input : Type 0} (kind : Kind State Input) (made : ℕ → State) (for_ms begins now : ℕ) (before : CourseState) (first : State) (old read new : Told)
    (reads : ReadsAt now old read) (first_is : first ≡ made now) where
  pub it_lives : (after : CourseState) → (ticks : ℕ) × (state : State) × Ran kind (left_of for_ms begins now) now ticks (standing first before) (standing state after) read new → Lives kind made for_ms begins before after old new
  it_lives after ran = record {
    now = now;
    read = read;
    reads = reads;
    ticks = ran.0;
    state = ran.1;
    ran = subst (λ s. Ran kind (left_of for_ms begins now) now ran.0 (standing s before) (standing ran.1 after) read new) first_is ran.2;
  }

  pub it_is_cut : CutOff kind (left_of for_ms begins now) now (standing first before) read new → LifeCut kind made for_ms begins before old new
  it_is_cut stopped = cut reads (subst (λ s. CutOff kind (left_of for_ms begins now) now (standing s before) read new) first_is stopped)

-- ---- the interlocking

module _ (site : Site) (keeping : Keeping) (counts : AuxiliaryCounts) (first for_ms begins now : ℕ) (before : CourseState) (old read new : Told) (node : InterlockingNode)
    (site_is : node.site ≡ site) (is_table : IsTableOf node.site node.table) (node_is : node ≡ interlocking_made node.site first keeping counts node.table now)
    (before_is : before ≡ first_course) (reads : ReadsAt now old read) where
  made_is : node ≡ interlocking_made site first keeping counts node.table now
  made_is = node_is ∙ ap (λ s. interlocking_made s first keeping counts node.table now) site_is

  table_is : IsTableOf site node.table
  table_is = subst (λ s. IsTableOf s node.table) site_is is_table

  pub station_runs : (after : CourseState) → (ticks : ℕ) × (state : InterlockingNode) × Ran interlocking_kind (left_of for_ms begins now) now ticks (standing node before) (standing state after) read new
      → StationRuns site keeping counts first for_ms begins after old new
  station_runs after ran = record {
    table = node.table;
    is_table = table_is;
    lives = subst (λ b. Lives interlocking_kind (interlocking_made site first keeping counts node.table) for_ms begins b after old new) before_is
        (it_lives interlocking_kind (interlocking_made site first keeping counts node.table) for_ms begins now before node old read new reads made_is after ran);
  }

  pub station_is_cut : CutOff interlocking_kind (left_of for_ms begins now) now (standing node before) read new → StationCut site keeping counts first for_ms begins old new
  station_is_cut stopped = cut_off table_is reads
      (subst (λ b. CutOff interlocking_kind (left_of for_ms begins now) now (standing (interlocking_made site first keeping counts node.table now) b) read new) before_is
      (subst (λ n. CutOff interlocking_kind (left_of for_ms begins now) now (standing n before) read new) made_is stopped))

-- ---- a controller

module _ {State Input Contacts : Type 0} (kind : Kind State Input) (site : Site) (equipment : Equipment) (told : Opening → Option Contacts) (made : Contacts → ℕ → State) (for_ms begins : ℕ)
    (opening : Opening) (before : CourseState) (old then : Told) (opens : Opens site equipment for_ms begins opening before old then) where
  module _ (contacts : Contacts) (told_is : told opening ≡ Some contacts) (now : ℕ) (first : State) (read new : Told)
      (reads : ReadsAt now then read) where
    pub controls : first ≡ made contacts now → (after : CourseState) → (ticks : ℕ) × (state : State) × Ran kind (left_of for_ms begins now) now ticks (standing first before) (standing state after) read new
        → Controls kind site equipment told made for_ms begins after old new
    controls first_is after ran = lived opens told_is (it_lives kind (made contacts) for_ms begins now before first then read new reads first_is after ran)

    pub controls_cut : first ≡ made contacts now → CutOff kind (left_of for_ms begins now) now (standing first before) read new → ControlsCut kind site equipment told made for_ms begins old new
    controls_cut first_is stopped = living opens told_is (it_is_cut kind (made contacts) for_ms begins now before first then read new reads first_is stopped)

  pub not_made_yet : (contacts : Contacts) → told opening ≡ Some contacts → (now : ℕ) (new : Told) → ReadsAt now then new → ControlsCut kind site equipment told made for_ms begins old new
  not_made_yet contacts told_is now new reads = living opens told_is (unmade reads)

-- ---- nothing was called

nothing_more : (calls : Option (List Call)) → Grows calls calls []
nothing_more None = tt
nothing_more (Some before) = sym (append-nil before)

pub cut_at_once : {State Input : Type 0} (kind : Kind State Input) (for_ms begins : ℕ) (first : Standing State) (told : Told) → CutOff kind for_ms begins first told told
cut_at_once kind for_ms begins first told = record {
  made = [];
  broken = None;
  are = tt;
  goes_on = tt;
  is_round = tt;
  stops = record {
    cut = record {
      calls = [];
      cut = record { front = []; behind = []; whole_is = refl; last = []; broken = between; calls_are = refl };
      called = record { grows = nothing_more told.calls; rises = refl };
    };
  };
}

none_called : (told : Told) → Calls told told []
none_called told = record { grows = nothing_more told.calls; rises = refl }

-- what was called whole is a beginning of itself
all_called : {old new : Told} (whole : List Call) → Calls old new whole → CallsCut old new whole
all_called whole called = record {
  calls = whole;
  cut = record { front = whole; behind = []; whole_is = sym (append-nil whole); last = []; broken = between; calls_are = sym (append-nil whole) };
  called = called;
}

-- ---- the end of a process

module _ (site : Site) (node : Option Node) (keeping : Keeping) (counts : AuxiliaryCounts) (first for_ms begins : ℕ) (course : CourseState) (old begun ended : Told) (reads : ReadsAt begins old begun) where
  pub ends_at_once : NodeCut site keeping counts first for_ms begins begun ended node → ProcessCut site node keeping counts first for_ms old ended
  ends_at_once cut_ = in_life reads cut_ (at_once (none_called ended))

  pub ends_resting : {A E : Type 0} (ran : Result A E) (new : Told) (rest : Option Order) → rest ≡ rest_of node → (ends : ℕ) → CallsCut ended new (Reads ends ∷ last_line ends rest course)
      → OnOk ran (NodeRuns site keeping counts first for_ms begins course begun ended node) → OnErr ran (NodeCut site keeping counts first for_ms begins begun ended node) → ProcessCut site node keeping counts first for_ms old new
  ends_resting (Ok x) new rest rest_is ends called runs cut_ =
      at_end course reads runs (resting course (subst (λ r. CallsCut ended new (Reads ends ∷ last_line ends r course)) rest_is called))
  ends_resting (Err e) new rest rest_is ends called runs cut_ =
      in_life reads cut_ (resting course (subst (λ r. CallsCut ended new (Reads ends ∷ last_line ends r course)) rest_is called))

  pub ends_rested : (new : Told) (rest : Option Order) → rest ≡ rest_of node → (ends : ℕ) → Calls ended new (Reads ends ∷ last_line ends rest course) → NodeCut site keeping counts first for_ms begins begun ended node
      → ProcessCut site node keeping counts first for_ms old new
  ends_rested new rest rest_is ends called cut_ =
      in_life reads cut_ (resting course (subst (λ r. CallsCut ended new (Reads ends ∷ last_line ends r course)) rest_is (all_called (Reads ends ∷ last_line ends rest course) called)))
