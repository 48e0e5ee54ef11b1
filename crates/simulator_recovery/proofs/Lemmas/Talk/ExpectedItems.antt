-- What a controller has given is what its client expects, each item in its turn.
use Rattle.simulator_recovery.proofs.Words.Basics.{◌≡◌, ◌⊎◌, inl, inr, ℕ, zero, suc, ◌+◌, ◌-◌, ◌≤◌, ◌∙◌, false, List, [], ◌∷◌, ◌++◌, length, map, Option, Some, None, slice_get, refl, sym, ap, subst, arith, IsTrue, none-some, same_Some, slice_get_within, false≢true}
use Rattle.simulator_recovery.proofs.Words.Links.{Each}
use Rattle.simulator_recovery.proofs.Words.Controllers.{reading, Match, InitialisationCompleted, StartInitialisation, VersionAnswer, Behaviour, HostState, said, initial_status, most_objects, report_then, initialisation, item_of, Report, Stage as HostStage}
use Rattle.simulator_recovery.proofs.Words.Interlockings.{PeerState, is_outside, IsExpected, is_status, reports_changes, Stage}
use Rattle.simulator_recovery.proofs.Words.Stations.{IsPeer}
use Rattle.simulator_recovery.proofs.Words.Recovery.{AreMatched, ClientHasActedOn, ReportsState, OwedFit, SaidBy, SaidSome, WrittenIsRead}
use Rattle.simulator_recovery.proofs.Lemmas.Ground.ClientItem.{at_front}
use Rattle.simulator_recovery.proofs.Lemmas.Talk.ConversationFits.{answer_expected, answer_to_move_expected, change_expected, completed_expected, start_expected, status_expected}
use Rattle.simulator_recovery.proofs.Lemmas.Ground.IxlClients.{mapped_at}

-- ---- places of lists

pub two_parts : {X : Type 0} (front back : List X) (k : ℕ) (x : X) → slice_get (front ++ back) k ≡ Some x → (slice_get front k ≡ Some x) ⊎ ((j : ℕ) × (k ≡ length front + j) × (slice_get back j ≡ Some x))
two_parts [] back k x e = inr (k, omega arith, e)
two_parts (first ∷ front) back zero x e = inl e
two_parts (first ∷ front) back (suc k) x e = choose (two_parts front back k x e)
  where
    choose : (slice_get front k ≡ Some x) ⊎ ((j : ℕ) × (k ≡ length front + j) × (slice_get back j ≡ Some x)) → (slice_get front k ≡ Some x) ⊎ ((j : ℕ) × (suc k ≡ suc (length front) + j) × (slice_get back j ≡ Some x))
    choose (inl f) = inl f
    choose (inr (j, is, f)) = inr (j, omega (arith, is), f)

pub each_at : {X : Type 0} (P : X → Type 0) (list : List X) (k : ℕ) (x : X) → Each P list → slice_get list k ≡ Some x → P x
each_at P [] k x all e = absurd (none-some x e)
each_at P (first ∷ others) zero x all e = subst P (same_Some first x e) all.0
each_at P (first ∷ others) (suc k) x all e = each_at P others k x all.1 e

pub only_at : {X : Type 0} (one : X) (k : ℕ) (x : X) → slice_get (one ∷ []) k ≡ Some x → (k ≡ 0) × (one ≡ x)
only_at one zero x e = (refl, same_Some one x e)
only_at one (suc k) x e = absurd (none-some x e)

-- one that awaits states has taken the answer and *start*
abbrev pub HasBegun : Stage → ℕ → Type 0
HasBegun (Stage.AwaitsStatus left) count = 2 ≤ count
HasBegun _ count = Unit {0}

-- Each item that its controller has given is what a client expects, at every stage at which it has acted on those before it. After the
-- initialisation this is said of a client that hears of changes.
abbrev pub EachExpected : PeerState → List (List ℕ) → Type 0
EachExpected peer given = (s : Stage) (count : ℕ) (item : List ℕ) → slice_get given count ≡ Some item → ClientHasActedOn peer s count → is_outside s ≡ false → HasBegun s count
    → (s ≡ Stage.Completed → IsTrue (reports_changes peer.protocol)) → IsExpected peer s (reading item)

module _ (written : WrittenIsRead) {Object : Type 0} (does : Behaviour Object) (Fits : Object → Type 0) (peer : PeerState) (is_peer : IsPeer peer) (host : HostState Object) (matched : AreMatched does peer host) where
  -- what objects of this kind tell of themselves, and what they owe
  pub record KindReports : Type 0 where
    pub many : (object : Object) → Fits object → length (initial_status does most_objects 0 object) ≡ length peer.objects
    pub status : (object : Object) → Fits object → (place : ℕ) (report : Report) → does.status place object ≡ Some report → (is : ReportsState peer host report place) × IsTrue (is_status is.state)
    pub owed : (object : Object) → Fits object → (report : Report) → does.owed object ≡ Some report → (place : ℕ) × ReportsState peer host report place

  -- the initial status tells of one place after the other
  told_at : (more start k : ℕ) (object : Object) (report : Report) → slice_get (initial_status does more start object) k ≡ Some report → does.status (start + k) object ≡ Some report
  unfolding initial_status
  told_at zero start k object report e = absurd (none-some report e)
  told_at (suc more) start k object report e = choose (does.status start object) refl k e (λ j f. told_at more (start + 1) j object report f)
    where
      choose : (found : Option Report) → does.status start object ≡ found → (k : ℕ) → slice_get (report_then found (initial_status does more (start + 1) object)) k ≡ Some report
          → ((j : ℕ) → slice_get (initial_status does more (start + 1) object) j ≡ Some report → does.status ((start + 1) + j) object ≡ Some report) → does.status (start + k) object ≡ Some report
      choose None f k g rest = absurd (none-some report g)
      choose (Some first) f zero g rest = subst (λ (n : ℕ). does.status n object ≡ Some report) (omega arith) (f ∙ g)
      choose (Some first) f (suc k) g rest = subst (λ (n : ℕ). does.status n object ≡ Some report) (omega arith) (rest k g)

  module _ (kind : KindReports) where
    abbrev item : Report → List ℕ
    item = item_of host

    -- a client that awaits an answer to a move expects any report, one that is completed changes
    abbrev pub Hears : Stage → Type 0
    Hears Stage.Completed = IsTrue (reports_changes peer.protocol)
    Hears _ = Unit {0}

    -- a report that an object owed
    owed_at : (s : Stage) → (s ≡ Stage.Completed) ⊎ (s ≡ Stage.AwaitsReport) → Hears s → (report : Report) → OwedFit does Fits report → IsExpected peer s (reading (item report))
    owed_at s (inl e) hears report owed = let is = kind.owed owed.object owed.fits report owed.owes in
        subst (λ (x : Stage). IsExpected peer x (reading (item report))) (sym e) (change_expected written does peer is_peer host matched report is.0 is.1 (subst Hears e hears))
    owed_at s (inr e) hears report owed = let is = kind.owed owed.object owed.fits report owed.owes in
        subst (λ (x : Stage). IsExpected peer x (reading (item report))) (sym e) (answer_to_move_expected written does peer is_peer host matched report is.0 is.1)

    -- the answer comes first
    answer_at : (count : ℕ) (x : List ℕ) (s : Stage) → count ≡ 0 → item (said does (VersionAnswer Match host.version)) ≡ x → ClientHasActedOn peer s count → is_outside s ≡ false → HasBegun s count → IsExpected peer s (reading x)
    answer_at count x Stage.Outside is same acted inside begun = absurd (false≢true (sym inside))
    answer_at count x Stage.AwaitsAnswer is same acted inside begun = subst (λ (i : List ℕ). IsExpected peer Stage.AwaitsAnswer (reading i)) same (answer_expected written does peer is_peer host matched)
    answer_at count x Stage.AwaitsStart is same acted inside begun = absurd (omega (arith, is, acted))
    answer_at count x (Stage.AwaitsStatus left) is same acted inside begun = absurd (omega (arith, is, begun))
    answer_at count x Stage.Completed is same acted inside begun = absurd (omega (arith, is, acted))
    answer_at count x Stage.AwaitsReport is same acted inside begun = absurd (omega (arith, is, acted))

    module _ (object : Object) (fits : Fits object) (reports : List Report) (owed : Each (OwedFit does Fits) reports) where
      abbrev statuses : List Report
      statuses = initial_status does most_objects 0 object

      abbrev completed : Report
      completed = said does InitialisationCompleted

      -- what stands after *start*: the states, and then *completed*
      abbrev behind_start : List Report
      behind_start = statuses ++ completed ∷ []

      many : length statuses ≡ length peer.objects
      many = kind.many object fits

      behind_long : length behind_start ≡ length statuses + 1
      behind_long = longer statuses
        where
          longer : (list : List Report) → length (list ++ completed ∷ []) ≡ length list + 1
          longer [] = omega arith
          longer (first ∷ list) = let l = longer list in omega (arith, l)

      mapped_long : length (map item behind_start) ≡ length behind_start
      mapped_long = same behind_start
        where
          same : (list : List Report) → length (map item list) ≡ length list
          same [] = refl
          same (first ∷ list) = ap suc (same list)

      -- after the answer and *start*
      data Later (j : ℕ) (x : List ℕ) : Type 0 where
        status : (report : Report) → slice_get statuses j ≡ Some report → x ≡ item report → Later j x
        completes : j ≡ length statuses → x ≡ item completed → Later j x
        owes : (report : Report) → length statuses + 1 ≤ j → OwedFit does Fits report → x ≡ item report → Later j x

      later : (j : ℕ) (x : List ℕ) → slice_get (map item behind_start ++ map item reports) j ≡ Some x → Later j x
      later j x e = choose (two_parts (map item behind_start) (map item reports) j x e)
        where
          in_behind : (report : Report) → x ≡ item report → (slice_get statuses j ≡ Some report) ⊎ ((i : ℕ) × (j ≡ length statuses + i) × (slice_get (completed ∷ []) i ≡ Some report)) → Later j x
          in_behind report same (inl f) = status report f same
          in_behind report same (inr (i, is, f)) = let only = only_at completed i report f in let none = only.0 in completes (omega (arith, is, none)) (same ∙ ap item (sym only.1))

          choose : (slice_get (map item behind_start) j ≡ Some x) ⊎ ((i : ℕ) × (j ≡ length (map item behind_start) + i) × (slice_get (map item reports) i ≡ Some x)) → Later j x
          choose (inl f) = let found = mapped_at item behind_start j x f in in_behind found.0 found.2 (two_parts statuses (completed ∷ []) j found.0 found.1)
          choose (inr (i, is, f)) = let found = mapped_at item reports i x f in owes found.0 (let one = mapped_long in let two = behind_long in omega (arith, is, one, two)) (each_at (OwedFit does Fits) reports i found.0 owed found.1) found.2

      at_start : (j count : ℕ) (x : List ℕ) (s : Stage) → count ≡ j + 2 → ClientHasActedOn peer s count → is_outside s ≡ false → Hears s → Later j x → IsExpected peer s (reading x)
      at_start j count x Stage.Outside is acted inside hears found = absurd (false≢true (sym inside))
      at_start j count x Stage.AwaitsAnswer is acted inside hears found = absurd (omega (arith, is, acted))
      at_start j count x Stage.AwaitsStart is acted inside hears found = absurd (omega (arith, is, acted))
      at_start j count x (Stage.AwaitsStatus left) is acted inside hears (status report f same) =
          let within = slice_get_within statuses j report f
          in let all = many
          in let told = kind.status object fits j report (subst (λ (n : ℕ). does.status n object ≡ Some report) (omega arith) (told_at most_objects 0 j object report f))
          in subst (λ (i : List ℕ). IsExpected peer (Stage.AwaitsStatus left) (reading i)) (sym same) (told_there (omega (arith, is, acted, all, within)) told)
        where
          told_there : j ≡ length peer.objects - left → ((of : ReportsState peer host report j) × IsTrue (is_status of.state)) → IsExpected peer (Stage.AwaitsStatus left) (reading (item report))
          told_there e told = status_expected written does peer is_peer host matched report left moved.0 moved.1
            where
              moved : (of : ReportsState peer host report (length peer.objects - left)) × IsTrue (is_status of.state)
              moved = subst (λ (n : ℕ). (of : ReportsState peer host report n) × IsTrue (is_status of.state)) e told
      at_start j count x (Stage.AwaitsStatus left) is acted inside hears (completes at same) =
          let all = many in subst (λ (i : List ℕ). IsExpected peer (Stage.AwaitsStatus left) (reading i)) (sym same)
          (subst (λ (n : ℕ). IsExpected peer (Stage.AwaitsStatus n) (reading (item completed))) (omega (arith, is, acted, at, all)) (completed_expected written does peer is_peer host matched))
      at_start j count x (Stage.AwaitsStatus left) is acted inside hears (owes report far owed_so same) = let all = many in absurd (omega (arith, is, acted, far, all))
      at_start j count x Stage.Completed is acted inside hears (status report f same) = let within = slice_get_within statuses j report f in let all = many in absurd (omega (arith, is, acted, within, all))
      at_start j count x Stage.Completed is acted inside hears (completes at same) = let all = many in absurd (omega (arith, is, acted, at, all))
      at_start j count x Stage.Completed is acted inside hears (owes report far owed_so same) = subst (λ (i : List ℕ). IsExpected peer Stage.Completed (reading i)) (sym same) (owed_at Stage.Completed (inl refl) hears report owed_so)
      at_start j count x Stage.AwaitsReport is acted inside hears (status report f same) = let within = slice_get_within statuses j report f in let all = many in absurd (omega (arith, is, acted, within, all))
      at_start j count x Stage.AwaitsReport is acted inside hears (completes at same) = let all = many in absurd (omega (arith, is, acted, at, all))
      at_start j count x Stage.AwaitsReport is acted inside hears (owes report far owed_so same) = subst (λ (i : List ℕ). IsExpected peer Stage.AwaitsReport (reading i)) (sym same) (owed_at Stage.AwaitsReport (inr refl) hears report owed_so)

      start_at : (x : List ℕ) (s : Stage) → item (said does StartInitialisation) ≡ x → ClientHasActedOn peer s 1 → is_outside s ≡ false → HasBegun s 1 → IsExpected peer s (reading x)
      start_at x Stage.Outside same acted inside begun = absurd (false≢true (sym inside))
      start_at x Stage.AwaitsAnswer same acted inside begun = absurd (omega (arith, acted))
      start_at x Stage.AwaitsStart same acted inside begun = subst (λ (i : List ℕ). IsExpected peer Stage.AwaitsStart (reading i)) same (start_expected written does peer is_peer host matched)
      start_at x (Stage.AwaitsStatus left) same acted inside begun = absurd (omega (arith, begun))
      start_at x Stage.Completed same acted inside begun = absurd (omega (arith, acted))
      start_at x Stage.AwaitsReport same acted inside begun = absurd (omega (arith, acted))

      -- all that a host whose initialisation is completed has said
      all_at : (count : ℕ) (x : List ℕ) (s : Stage) → slice_get (item (said does (VersionAnswer Match host.version)) ∷ (map item (initialisation does object) ++ map item reports)) count ≡ Some x
          → ClientHasActedOn peer s count → is_outside s ≡ false → HasBegun s count → Hears s → IsExpected peer s (reading x)
      all_at zero x s e acted inside begun hears = answer_at 0 x s refl (same_Some _ x e) acted inside begun
      all_at (suc zero) x s e acted inside begun hears = start_at x s (same_Some _ x e) acted inside begun
      all_at (suc (suc j)) x s e acted inside begun hears = at_start j (suc (suc j)) x s (omega arith) acted inside hears (later j x e)

    only_answer : (count : ℕ) (x : List ℕ) (s : Stage) → slice_get (item (said does (VersionAnswer Match host.version)) ∷ []) count ≡ Some x → ClientHasActedOn peer s count → is_outside s ≡ false → HasBegun s count → IsExpected peer s (reading x)
    only_answer count x s e acted inside begun = let only = only_at _ count x e in answer_at count x s only.0 only.1 acted inside begun

    whole_at : (Wrong : Type 0) → (Wrong → ⊥) → (by : HostStage) (whole : List (List ℕ)) (count : ℕ) (x : List ℕ) (s : Stage) → SaidBy does Fits Wrong item host.version by whole → slice_get whole count ≡ Some x
        → ClientHasActedOn peer s count → is_outside s ≡ false → HasBegun s count → Hears s → IsExpected peer s (reading x)
    whole_at Wrong right HostStage.Outside whole count x s said_so e acted inside begun hears = absurd (none-some x (sym (ap (λ (list : List (List ℕ)). slice_get list count) said_so) ∙ e))
    whole_at Wrong right HostStage.AwaitsCheck whole count x s said_so e acted inside begun hears = absurd (none-some x (sym (ap (λ (list : List (List ℕ)). slice_get list count) said_so) ∙ e))
    whole_at Wrong right HostStage.AwaitsRequest whole count x s said_so e acted inside begun hears = only_answer count x s (sym (ap (λ (list : List (List ℕ)). slice_get list count) said_so) ∙ e) acted inside begun
    whole_at Wrong right HostStage.Completed whole count x s said_so e acted inside begun hears = all_at said_so.object said_so.fits said_so.reports said_so.owed count x s (sym (ap (λ (list : List (List ℕ)). slice_get list count) said_so.are) ∙ e) acted inside begun hears
    whole_at Wrong right HostStage.Refused whole count x s said_so e acted inside begun hears = absurd (right said_so.0)

    -- each item that a host has given is what its client expects, once it has come to its place
    pub given_at : (Wrong : Type 0) → (Wrong → ⊥) → (given : List (List ℕ)) (count : ℕ) (x : List ℕ) (s : Stage) → SaidSome does Fits Wrong item host.version given → slice_get given count ≡ Some x
        → ClientHasActedOn peer s count → is_outside s ≡ false → HasBegun s count → Hears s → IsExpected peer s (reading x)
    given_at Wrong right given count x s some e acted inside begun hears = whole_at Wrong right some.by some.whole count x s some.said
        (ap (λ (list : List (List ℕ)). slice_get list count) some.begins.are ∙ at_front given some.begins.rest count x e) acted inside begun hears
