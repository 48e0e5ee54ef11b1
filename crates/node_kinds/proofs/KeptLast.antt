-- In a process that keeps what is closed, that is what was to be kept last, and so much is counted.
use Rattle.std.proofs.Common.{◌≡◌, ◌↔◌, ◌∙◌, Contains, ℕ, nat_le, ◌||◌, not, Bool, true, false, cond, if◌then◌else◌, List, [], ◌∷◌, ◌++◌, map, Option, Some, None, refl, sym, ap, subst}
use Rattle.std.specs.Option.{option_map}
use Rattle.std.proofs.lemmas.Bool.{false≢true, true≢false}
use Rattle.node_drive.specs.Calls.{Call, Rests, Reads, AsksListener, AsksLine, AsksDatagram, ThrowsAway, Writes, BreaksOff, Sends, Complains, Keeps}
use Rattle.node_drive.specs.Kinds.{Meaning, InForce, Comes, Faulty, said_if}
use Rattle.node_drive.specs.Rounds.{Coming, RoundBegins, Listened, Line, NoLine, LinesEnd, Datagram, NoDatagram, FailedDatagram, Tick, CourseState, Done, Ends, Standing, acts, all_come, asked, count, counted, datagram, having_called, heard_one, is_taken, kept_by, later, later_kept, line_of, new_order, next_kept, not_heard, put_in_force, read_for, released, sent, step, steps, then_released, told}
use Rattle.node_drive.specs.Seen.{is_heard}
use Rattle.node_drive.specs.Waiting.{Waiting, leaving, none_waits}
use Rattle.node_drive.specs.declared.outside.Origin.{Origin}
use Rattle.node_drive.specs.declared.outside.ThrownAway.{ThrownAway}
use Rattle.node_drive.specs.declared.outside.ToKeep.{ToKeep}
use Rattle.node_drive.specs.node_lines.declared.order.Order.{Order}
use Rattle.node_drive.specs.replay_words.declared.fault.Fault.TheVariants.{Number}
use Rattle.simulator_spec.specs.Nodes.{key_of}
use Rattle.simulator_spec.specs.layout.Entries.{Site}
use Rattle.simulator_spec.specs.ixl_spec.Step as ixl
use Rattle.simulator_spec.specs.ixl_spec.closings.declared.closed.Closings.{Closings}
use Rattle.simulator_spec.specs.ixl_spec.closings.declared.thing.Thing.{Thing}
use Rattle.simulator_spec.specs.ixl_spec.closings.Closed.{IsClosed, closed_things, is_closed}
use Rattle.simulator_spec.specs.ixl_spec.closings.Things.{HasThing}
use Rattle.simulator_spec.specs.ixl_spec.declared.command.Command.{Command}
use Rattle.simulator_spec.specs.ixl_spec.declared.command.Command.TheVariants as command
use Rattle.node_kinds.specs.Interlockings.{InterlockingNode, counted_if_accepted, counts_then, interlocking_kind, keeps_then, said_then, to_have, to_have_then}
use Rattle.node_kinds.specs.Kept.{AreSame, asks_to_keep, is_always_kept, is_same_closings, kept_last, keeps_some, named_by, not_kept_text, wanted}
use Rattle.node_kinds.specs.declared.keeping.Keeping.{Keeping}
use Rattle.node_kinds.specs.declared.keeping.Keeping.TheVariants as keeping
use Rattle.node_kinds.proofs.Listed.{same_closings}

-- ---- calls that ask for nothing to be kept

last-append : (c : ToKeep) (xs ys : List Call) → kept_last c (xs ++ ys) ≡ kept_last (kept_last c xs) ys
last-append c [] ys = refl
last-append c (Keeps all kept ∷ xs) ys = last-append all xs ys
last-append c (Rests ∷ xs) ys = last-append c xs ys
last-append c (Reads now ∷ xs) ys = last-append c xs ys
last-append c (AsksListener began ∷ xs) ys = last-append c xs ys
last-append c (AsksLine line ∷ xs) ys = last-append c xs ys
last-append c (AsksDatagram datagram ∷ xs) ys = last-append c xs ys
last-append c (ThrowsAway number found ∷ xs) ys = last-append c xs ys
last-append c (Writes text ∷ xs) ys = last-append c xs ys
last-append c (BreaksOff text ∷ xs) ys = last-append c xs ys
last-append c (Sends to bytes ∷ xs) ys = last-append c xs ys
last-append c (Complains line fault ∷ xs) ys = last-append c xs ys

abbrev KeepsNothing : List Call → Type 0
KeepsNothing calls = (c : ToKeep) → kept_last c calls ≡ c

nothing_then : (xs ys : List Call) → KeepsNothing xs → KeepsNothing ys → KeepsNothing (xs ++ ys)
nothing_then xs ys p q c = last-append c xs ys ∙ ap (λ d. kept_last d ys) (p c) ∙ q c

writes-nothing : (texts : List (List ℕ)) → KeepsNothing (map Writes texts)
writes-nothing [] c = refl
writes-nothing (text ∷ texts) c = writes-nothing texts c

sent-nothing : (some : List Waiting) → KeepsNothing (sent some)
sent-nothing [] c = refl
sent-nothing (one ∷ some) c = sent-nothing some c

line-nothing : (number now : ℕ) (order : Option Order) → KeepsNothing (line_of number now order)
line-nothing number now None c = refl
line-nothing number now (Some order) c = refl

read-nothing : (now : ℕ) (none : Bool) → KeepsNothing (if none then [] else Reads now ∷ [])
read-nothing now true c = refl
read-nothing now false c = refl

released-nothing : (now : ℕ) (course : CourseState) → KeepsNothing (released now course).0
released-nothing now course =
    nothing_then (read_for now course.waiting) (sent (leaving now course.in_force course.waiting)) (read-nothing now (none_waits course.waiting)) (sent-nothing (leaving now course.in_force course.waiting))

picked-nothing : {A : Type 0} (v : Bool) (xs ys : List Call) (one other : A) → KeepsNothing xs → KeepsNothing ys → KeepsNothing (if◌then◌else◌ {A = Done A} v (xs, one) (ys, other)).0
picked-nothing true xs ys one other p q c = p c
picked-nothing false xs ys one other p q c = q c

asked-nothing : (now : ℕ) (coming : Coming) → KeepsNothing (asked now coming)
asked-nothing now RoundBegins c = refl
asked-nothing now (Listened began) c = refl
asked-nothing now (Line text ends) c = refl
asked-nothing now NoLine c = refl
asked-nothing now LinesEnd c = refl
asked-nothing now (Datagram origin bytes thrown ends) c = refl
asked-nothing now NoDatagram c = refl
asked-nothing now FailedDatagram c = refl
asked-nothing now (Tick ends) c = refl

-- ---- what was to be kept last goes on with what is closed

-- the same things of a station are closed by both, and both count as much
abbrev AreAlike : Site → ToKeep → ToKeep → Type 0
AreAlike site one other = AreSame site one.closings other.closings × (one.counts ≡ other.counts)

-- these calls were made as one node became another
record Follows (old : InterlockingNode) (calls : List Call) (new : InterlockingNode) : Type 0 where
  pub site : new.site ≡ old.site
  pub table : new.table ≡ old.table
  pub keeping : new.keeping ≡ old.keeping
  pub kept : keeps_some old.keeping ≡ true → (c : ToKeep) → AreAlike old.site c (to_have old) → AreAlike old.site (kept_last c calls) (to_have new)

nothing_follows : (node : InterlockingNode) (calls : List Call) → KeepsNothing calls → Follows node calls node
nothing_follows node calls nothing = record { site = refl; table = refl; keeping = refl; kept = λ some c same. subst (λ d. AreAlike node.site d (to_have node)) (sym (nothing c)) same }

follows_then : (a b d : InterlockingNode) (xs ys : List Call) → Follows a xs b → Follows b ys d → Follows a (xs ++ ys) d
follows_then a b d xs ys first second = record {
  site = second.site ∙ first.site;
  table = second.table ∙ first.table;
  keeping = second.keeping ∙ first.keeping;
  kept = λ some c same.
      let mid : AreAlike b.site (kept_last c xs) (to_have b) = subst (λ (s : Site). AreAlike s (kept_last c xs) (to_have b)) (sym first.site) (first.kept some c same) in
      let last : AreAlike b.site (kept_last (kept_last c xs) ys) (to_have d) = second.kept (ap keeps_some first.keeping ∙ some) (kept_last c xs) mid in
      subst (λ (k : ToKeep). AreAlike a.site k (to_have d)) (sym (last-append c xs ys)) (subst (λ (s : Site). AreAlike s (kept_last (kept_last c xs) ys) (to_have d)) first.site last);
}

-- ---- a step

not_due : (closing same : Bool) → (closing || not same) ≡ false → same ≡ true
not_due true same e = absurd (true≢false e)
not_due false true e = refl
not_due false false e = absurd (true≢false e)

as_due : (of : Keeping) (due : Bool) → keeps_some of ≡ true → asks_to_keep of due ≡ due
as_due keeping.Nothing due some = absurd (false≢true some)
as_due keeping.Closings due some = refl
as_due keeping.Locks due some = refl

-- what isn't kept in any case isn't counted
uncounted : (now : ℕ) (node : InterlockingNode) (input : ixl.Input) → is_always_kept input (ixl.reply now node.table (key_of node.site) input node.ixl) ≡ false → counts_then now input node ≡ node.counts
uncounted now node ixl.Tick e = refl
uncounted now node (ixl.Datagram bytes) e = refl
uncounted now node (ixl.Commands of) e = by of (ixl.reply now node.table (key_of node.site) (ixl.Commands of) node.ixl) e
  where
    by : (asked : Command) (reply : ixl.Reply) → is_always_kept (ixl.Commands asked) reply ≡ false → counted_if_accepted asked reply node.counts ≡ node.counts
    by (command.Release route) ixl.Accepted e = absurd (true≢false e)
    by (command.Open named) ixl.Accepted e = absurd (true≢false e)
    by (command.Close named) ixl.Accepted e = refl
    by (command.Request route) ixl.Accepted e = refl
    by (command.Cancel route) ixl.Accepted e = refl
    by (command.Move point side) ixl.Accepted e = refl
    by command.Resume ixl.Accepted e = refl
    by asked (ixl.Refused cause) e = refl
    by asked ixl.Ticked e = refl
    by asked (ixl.Received verdict) e = refl

neither : (always same : Bool) → (always || not same) ≡ false → always ≡ false
neither true same e = e
neither false same e = refl

module _ (listed : (l : Site) (c : Closings) (t : Thing) → Contains (closed_things l c) t ↔ (HasThing l t × IsClosed c t)) where
  asked_same : (now : ℕ) (node : InterlockingNode) (input : ixl.Input) (c : ToKeep) (kept : Bool) (rest : List Call) → KeepsNothing rest → keeps_some node.keeping ≡ true
      → AreAlike node.site c (to_have node) → AreAlike node.site (kept_last c (kept_by kept (keeps_then now input node) ++ rest)) (to_have_then now input node)
  asked_same now node input c kept rest nothing some same = by (asks_to_keep node.keeping due) refl
    where
      reply : ixl.Reply
      reply = ixl.reply now node.table (key_of node.site) input node.ixl

      all : ToKeep
      all = to_have_then now input node

      due : Bool
      due = is_always_kept input reply || not (is_same_closings node.site (to_have node).closings all.closings)

      by : (v : Bool) → asks_to_keep node.keeping due ≡ v
          → AreAlike node.site (kept_last c (kept_by kept (if v then Some (record { all = all; unless = option_map (not_kept_text node.site) (named_by input reply) }) else None) ++ rest)) all
      by true e = subst (λ d. AreAlike node.site d all) (sym (nothing all)) (λ t has. refl, refl)
      by false e =
          let none = sym (as_due node.keeping due some) ∙ e in
          let is_same = not_due (is_always_kept input reply) (is_same_closings node.site (to_have node).closings all.closings) none in
          let counted = uncounted now node input (neither (is_always_kept input reply) (is_same_closings node.site (to_have node).closings all.closings) none) in
          subst (λ d. AreAlike node.site d all) (sym (nothing c)) (λ t has. same.0 t has ∙ same_closings node.site (listed node.site) (to_have node).closings all.closings is_same t has, same.1 ∙ sym counted)

  module _ (now : ℕ) where
    step_follows : (kept : Bool) (input : ixl.Input) (standing : Standing InterlockingNode)
        → Follows standing.state (step interlocking_kind now kept input standing).0 (step interlocking_kind now kept input standing).1.state
    step_follows kept input standing =
        let node = standing.state in
        let new = new_order standing.course.order None in
        let said = said_if kept (keeps_then now input node) (said_then now input node) in
        let rest = map Writes said ++ line_of (count new standing.course.written) now new in
        record {
          site = refl;
          table = refl;
          keeping = refl;
          kept = λ some c same.
              asked_same now node input c kept rest
              (nothing_then (map Writes said) (line_of (count new standing.course.written) now new) (writes-nothing said) (line-nothing (count new standing.course.written) now new)) some same;
        }

    steps_follow : (kept : List Bool) (inputs : List ixl.Input) (standing : Standing InterlockingNode)
        → Follows standing.state (steps interlocking_kind now kept inputs standing).0 (steps interlocking_kind now kept inputs standing).1.state
    steps_follow kept [] standing = nothing_follows standing.state [] (λ c. refl)
    steps_follow kept (input ∷ inputs) standing =
        let first = step interlocking_kind now (next_kept kept) input standing in
        let others = steps interlocking_kind now (later_kept kept) inputs first.1 in
        follows_then standing.state first.1.state others.1.state first.0 others.0 (step_follows (next_kept kept) input standing) (steps_follow (later_kept kept) inputs first.1)

    -- ---- what comes

    told_follows : (kept : List Bool) (meaning : Meaning ixl.Input) (standing : Standing InterlockingNode)
        → Follows standing.state (told interlocking_kind now kept meaning standing).0 (told interlocking_kind now kept meaning standing).1.state
    told_follows kept (InForce number) standing =
        let course = standing.course in
        nothing_follows standing.state (put_in_force number course).0
        (picked-nothing (nat_le number course.written) [] (Complains course.heard Number ∷ []) (record course { in_force = later course.in_force number }) course (λ c. refl) (λ c. refl))
    told_follows kept (Comes answer inputs) standing =
        let done = steps interlocking_kind now kept inputs standing in
        follows_then standing.state standing.state done.1.state (map Writes answer) done.0 (nothing_follows standing.state (map Writes answer) (writes-nothing answer)) (steps_follow kept inputs standing)
    told_follows kept (Faulty fault) standing = nothing_follows standing.state (Complains standing.course.heard fault ∷ []) (λ c. refl)

    end_follows : (leaves : ℕ) (old : InterlockingNode) (done : Done (Standing InterlockingNode)) → Follows old done.0 done.1.state → Follows old (then_released leaves done).0 (then_released leaves done).1.state
    end_follows leaves old done follows =
        let left = (released leaves done.1.course).0 in
        follows_then old done.1.state done.1.state done.0 left follows (nothing_follows done.1.state left (released-nothing leaves done.1.course))

    taken_follows : (kept : Bool) (bytes : List ℕ) (standing : Standing InterlockingNode) (taken : Bool)
        → let done = cond taken (step interlocking_kind now kept (ixl.Datagram bytes) standing) ([], counted standing) in Follows standing.state done.0 done.1.state
    taken_follows kept bytes standing true = step_follows kept (ixl.Datagram bytes) standing
    taken_follows kept bytes standing false = nothing_follows standing.state [] (λ c. refl)

    heard_follows : (origin : Origin) (bytes : List ℕ) (thrown : ThrownAway) (ends : Ends) (standing : Standing InterlockingNode) (heard : Bool)
        → let done = cond heard (then_released ends.leaves (datagram interlocking_kind now (next_kept ends.kept) origin bytes standing)) (not_heard thrown standing) in Follows standing.state done.0 done.1.state
    heard_follows origin bytes thrown ends standing true =
        end_follows ends.leaves standing.state (datagram interlocking_kind now (next_kept ends.kept) origin bytes standing) (taken_follows (next_kept ends.kept) bytes standing (is_taken interlocking_kind origin.from))
    heard_follows origin bytes thrown ends standing false = nothing_follows standing.state (ThrowsAway thrown.count thrown.found_empty ∷ []) (λ c. refl)

    acts_follow : (coming : Coming) (standing : Standing InterlockingNode) → Follows standing.state (acts interlocking_kind now coming standing).0 (acts interlocking_kind now coming standing).1.state
    acts_follow RoundBegins standing = nothing_follows standing.state [] (λ c. refl)
    acts_follow (Listened true) standing =
        let stands = interlocking_kind.stands now standing.state in
        nothing_follows standing.state (map Writes stands) (writes-nothing stands)
    acts_follow (Listened false) standing = nothing_follows standing.state [] (λ c. refl)
    acts_follow (Line text ends) standing =
        let meaning = interlocking_kind.meaning now text standing.state in
        end_follows ends.leaves standing.state (told interlocking_kind now ends.kept meaning (heard_one standing)) (told_follows ends.kept meaning (heard_one standing))
    acts_follow NoLine standing = nothing_follows standing.state [] (λ c. refl)
    acts_follow LinesEnd standing = nothing_follows standing.state [] (λ c. refl)
    acts_follow (Datagram origin bytes thrown ends) standing = heard_follows origin bytes thrown ends standing (is_heard now standing.course.seen)
    acts_follow NoDatagram standing = nothing_follows standing.state [] (λ c. refl)
    acts_follow FailedDatagram standing = nothing_follows standing.state [] (λ c. refl)
    acts_follow (Tick ends) standing =
        end_follows ends.leaves standing.state (step interlocking_kind now (next_kept ends.kept) ixl.Tick standing) (step_follows (next_kept ends.kept) ixl.Tick standing)

  all_follow : (comings : List (ℕ × Coming)) (standing : Standing InterlockingNode) → Follows standing.state (all_come interlocking_kind comings standing).0 (all_come interlocking_kind comings standing).1.state
  all_follow [] standing = nothing_follows standing.state [] (λ c. refl)
  all_follow (one ∷ others) standing =
      let here = having_called (asked one.0 one.1) standing in
      let first = acts interlocking_kind one.0 one.1 here in
      let more = all_come interlocking_kind others first.1 in
      follows_then standing.state first.1.state more.1.state (asked one.0 one.1 ++ first.0) more.0
      (follows_then standing.state standing.state first.1.state (asked one.0 one.1) first.0 (nothing_follows standing.state (asked one.0 one.1) (asked-nothing one.0 one.1)) (acts_follow one.0 one.1 here))
      (all_follow others first.1)

  pub was_kept : (comings : List (ℕ × Coming)) (standing : Standing InterlockingNode) → let node = standing.state in keeps_some node.keeping ≡ true
      → let done = all_come interlocking_kind comings standing
      in let last = kept_last (to_have node) done.0
      in AreSame node.site last.closings (wanted node.keeping node.table done.1.state.ixl) × (last.counts ≡ done.1.state.counts)
  was_kept comings standing some =
      let node = standing.state in
      let new = (all_come interlocking_kind comings standing).1.state in
      let follows = all_follow comings standing in
      let alike = follows.kept some (to_have node) (λ t there. refl, refl) in (
        λ t has.
            alike.0 t has
            ∙ ap (λ of. is_closed (wanted of new.table new.ixl) t) follows.keeping
            ∙ ap (λ table. is_closed (wanted node.keeping table new.ixl) t) follows.table,
        alike.1,
      )
