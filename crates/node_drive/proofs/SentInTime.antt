-- What is sent was handed out less than 500 ms before.
use Rattle.std.proofs.Common.{◌≡◌, ◌<◌, ◌+◌, ◌∙◌, ◌&&◌, not, ℕ, nat_le, Bool, true, false, cond, List, [], ◌∷◌, ◌++◌, map, Option, Some, None, refl, sym, ap, subst, append_assoc, arith}
use Rattle.std.specs.List.{AllByRecursion}
use Rattle.std.proofs.lemmas.Bool.Decides.{nat_tests}
use Rattle.node_lines.specs.declared.order.Order.{Order}
use Rattle.node_lines.specs.replay_words.declared.fault.Fault.TheVariants.{Number}
use Rattle.node_drive.specs.Ages.{IsIn, SendsBy, SentInTime, handed_by, to_leave}
use Rattle.node_drive.specs.Calls.{Call, Reads, Writes, Sends, Complains}
use Rattle.node_drive.specs.Kinds.{Kind, Meaning, InForce, Comes, Faulty, AskedToKeep, said_if}
use Rattle.node_drive.specs.Lives.{came, inputs_of, inputs_told, state_after}
use Rattle.node_drive.specs.Rounds.{Coming, RoundBegins, Listened, Line, NoLine, LinesEnd, Datagram, NoDatagram, FailedDatagram, Tick, CourseState, Done, Ends, Standing, all_come, asked, comes, counted, having_called, heard_one, is_taken, kept_by, later, later_kept, line_of, next_kept, not_heard, released, sent, step, steps, then_released, told}
use Rattle.node_drive.specs.Seen.{all_seen, is_heard, seen_with}
use Rattle.node_drive.specs.Waiting.{Addressed, Waiting, is_fresh, is_free, leaving, none_waits, waiting_of, waiting_on}
use Rattle.node_drive.specs.declared.outside.ThrownAway.{ThrownAway}
use Rattle.node_drive.specs.declared.socket_seen.SocketSeen.{SocketSeen}
use Rattle.node_drive.proofs.Lives.{comes-state}

-- ---- lists

all-append : {A : Type 0} (P : A → Type 0) (xs ys : List A) → AllByRecursion P xs → AllByRecursion P ys → AllByRecursion P (xs ++ ys)
all-append P [] ys p q = q
all-append P (x ∷ xs) ys p q = (p.0, all-append P xs ys p.1 q)

all-left : {A : Type 0} (P : A → Type 0) (xs ys : List A) → AllByRecursion P (xs ++ ys) → AllByRecursion P xs
all-left P [] ys p = tt
all-left P (x ∷ xs) ys p = (p.0, all-left P xs ys p.1)

all-right : {A : Type 0} (P : A → Type 0) (xs ys : List A) → AllByRecursion P (xs ++ ys) → AllByRecursion P ys
all-right P [] ys p = p
all-right P (x ∷ xs) ys p = all-right P xs ys p.1

all-in : {A : Type 0} (before xs all : List A) → all ≡ before ++ xs → AllByRecursion (λ x. IsIn x all) xs
all-in before [] all e = tt
all-in before (x ∷ xs) all e = (record { before = before; after = xs; all_are = e }, all-in (before ++ x ∷ []) xs all (e ∙ sym (append_assoc before (x ∷ []) xs)))

-- what was handed out at a reading may leave less than 500 ms later
module _ (P InTime : ℕ → Addressed → Type 0) (in_time : (now since : ℕ) (datagram : Addressed) → now < since + 500 → P since datagram → InTime now datagram) where
  abbrev Of : Waiting → Type 0
  Of one = P one.since one.datagram

  abbrev Handed : ℕ × Addressed → Type 0
  Handed one = P one.0 one.1

  all-waiting : (behind now : ℕ) (handed : List Addressed) → AllByRecursion Handed (map (λ (datagram : Addressed). (now, datagram)) handed) → AllByRecursion Of (waiting_of behind now handed)
  all-waiting behind now [] p = tt
  all-waiting behind now (one ∷ handed) p = (p.0, all-waiting behind now handed p.1)

  all-of : (waiting : List Waiting) → AllByRecursion Handed (map (λ (one : Waiting). (one.since, one.datagram)) waiting) → AllByRecursion Of waiting
  all-of [] p = tt
  all-of (one ∷ waiting) p = (p.0, all-of waiting p.1)

  -- ---- calls

  sends-append : (xs ys : List Call) (seen : SocketSeen) → SendsBy InTime seen xs → SendsBy InTime (all_seen xs seen) ys → SendsBy InTime seen (xs ++ ys)
  sends-append [] ys seen p q = q
  sends-append (Sends to bytes ∷ xs) ys seen p q = (p.0, sends-append xs ys seen p.1 q)
  sends-append (call ∷ xs) ys seen p q = sends-append xs ys (seen_with call seen) p q

  writes-send : (lines : List (List ℕ)) (seen : SocketSeen) → SendsBy InTime seen (map Writes lines)
  writes-send [] seen = tt
  writes-send (line ∷ lines) seen = writes-send lines seen

  kept_sends : (kept : Bool) (keeps : Option AskedToKeep) (seen : SocketSeen) → SendsBy InTime seen (kept_by kept keeps)
  kept_sends kept None seen = tt
  kept_sends kept (Some keep) seen = tt

  line_sends : (number now : ℕ) (order : Option Order) (seen : SocketSeen) → SendsBy InTime seen (line_of number now order)
  line_sends number now None seen = tt
  line_sends number now (Some order) seen = tt

  -- ---- those that leave

  by_tests : (now in_force : ℕ) (one : Waiting) (others : List Waiting) (fresh free : Bool) → is_fresh now one ≡ fresh → Of one → AllByRecursion (λ (one : Waiting). InTime now one.datagram) (leaving now in_force others)
      → AllByRecursion (λ (one : Waiting). InTime now one.datagram) (cond (fresh && not free) [] (cond fresh (one ∷ []) [] ++ leaving now in_force others))
  by_tests now in_force one others true true e of rest = (in_time now one.since one.datagram (grind (arith, nat_tests, e)) of, rest)
  by_tests now in_force one others true false e of rest = tt
  by_tests now in_force one others false free e of rest = rest

  all-leaving : (now in_force : ℕ) (waiting : List Waiting) → AllByRecursion Of waiting → AllByRecursion (λ (one : Waiting). InTime now one.datagram) (leaving now in_force waiting)
  all-leaving now in_force [] p = tt
  all-leaving now in_force (one ∷ waiting) p = by_tests now in_force one waiting (is_fresh now one) (is_free in_force one) refl p.0 (all-leaving now in_force waiting p.1)

  by_waits : (now in_force : ℕ) (one : Waiting) (others : List Waiting) (waits : Bool) → Of one → AllByRecursion Of others → AllByRecursion Of (waiting_on now in_force others) → AllByRecursion Of (cond waits (one ∷ others) (waiting_on now in_force others))
  by_waits now in_force one others true of all rest = (of, all)
  by_waits now in_force one others false of all rest = rest

  all-left-waiting : (now in_force : ℕ) (waiting : List Waiting) → AllByRecursion Of waiting → AllByRecursion Of (waiting_on now in_force waiting)
  all-left-waiting now in_force [] p = tt
  all-left-waiting now in_force (one ∷ waiting) p = by_waits now in_force one waiting (is_fresh now one && not (is_free in_force one)) p.0 p.1 (all-left-waiting now in_force waiting p.1)

  sent-in-time : (now : ℕ) (some : List Waiting) (seen : SocketSeen) → AllByRecursion (λ (one : Waiting). InTime now one.datagram) some → SendsBy InTime (record seen { latest = Some now }) (sent some)
  sent-in-time now [] seen p = tt
  sent-in-time now (one ∷ some) seen p = (p.0, sent-in-time now some seen p.1)

  released_sends : (now : ℕ) (course : CourseState) (waiting : List Waiting) → AllByRecursion Of waiting → (seen : SocketSeen) → SendsBy InTime seen (cond (none_waits waiting) [] (Reads now ∷ []) ++ sent (leaving now course.in_force waiting))
  released_sends now course [] p seen = tt
  released_sends now course (one ∷ others) p seen = sent-in-time now (leaving now course.in_force (one ∷ others)) seen (all-leaving now course.in_force (one ∷ others) p)

  module _ {State In : Type 0} (kind : Kind State In) where
    -- what is sent is in time, and what waits then was handed out
    pub record Sound (seen : SocketSeen) (done : Done (Standing State)) : Type 0 where
      pub sends : SendsBy InTime seen done.0
      pub waits : AllByRecursion Of done.1.course.waiting

    end_sound : (leaves : ℕ) (seen : SocketSeen) (done : Done (Standing State)) → Sound seen done → Sound seen (then_released leaves done)
    end_sound leaves seen done p = record {
      sends = sends-append done.0 (released leaves done.1.course).0 seen p.sends (released_sends leaves done.1.course done.1.course.waiting p.waits (all_seen done.0 seen));
      waits = all-left-waiting leaves done.1.course.in_force done.1.course.waiting p.waits;
    }

    step_sound : (now : ℕ) (kept : Bool) (input : In) (standing : Standing State) (seen : SocketSeen) → AllByRecursion Of standing.course.waiting
        → AllByRecursion Handed (map (λ (datagram : Addressed). (now, datagram)) (kind.hands now input standing.state)) → Sound seen (step kind now kept input standing)
    step_sound now kept input standing seen waits handed = record {
      sends =
          let keeps = kind.keeps now input standing.state in
          let said = said_if kept keeps (kind.says now input standing.state) in
          sends-append (kept_by kept keeps) (map Writes said ++ line_of _ now _) seen (kept_sends kept keeps seen) (sends-append (map Writes said) (line_of _ now _) _ (writes-send said _) (line_sends _ now _ _));
      waits = all-append Of standing.course.waiting _ waits (all-waiting _ now (kind.hands now input standing.state) handed);
    }

    steps-sound : (now : ℕ) (kept : List Bool) (inputs : List In) (standing : Standing State) (seen : SocketSeen) → AllByRecursion Of standing.course.waiting
        → AllByRecursion Handed (handed_by kind (map (λ (input : In). (now, input)) inputs) standing.state) → Sound seen (steps kind now kept inputs standing)
    steps-sound now kept [] standing seen waits handed = record { sends = tt; waits = waits }
    steps-sound now kept (input ∷ inputs) standing seen waits handed =
        let here = step kind now (next_kept kept) input standing in
        let hands = map (λ (datagram : Addressed). (now, datagram)) (kind.hands now input standing.state) in
        let first = step_sound now (next_kept kept) input standing seen waits (all-left Handed hands _ handed) in
        let others = steps-sound now (later_kept kept) inputs here.1 (all_seen here.0 seen) first.waits (all-right Handed hands _ handed) in
        record { sends = sends-append here.0 (steps kind now (later_kept kept) inputs here.1).0 seen first.sends others.sends; waits = others.waits }

    forced_sound : (number : ℕ) (standing : Standing State) (seen : SocketSeen) (known : Bool) → AllByRecursion Of standing.course.waiting
        → let done = cond {A = Done CourseState} known ([], record standing.course { in_force = later standing.course.in_force number }) (Complains standing.course.heard Number ∷ [], standing.course)
        in Sound seen (done.0, record { state = standing.state; course = done.1 })
    forced_sound number standing seen true waits = record { sends = tt; waits = waits }
    forced_sound number standing seen false waits = record { sends = tt; waits = waits }

    told_sound : (now : ℕ) (kept : List Bool) (meaning : Meaning In) (standing : Standing State) (seen : SocketSeen) → AllByRecursion Of standing.course.waiting
        → AllByRecursion Handed (handed_by kind (inputs_told now meaning) standing.state) → Sound seen (told kind now kept meaning standing)
    told_sound now kept (InForce number) standing seen waits handed = forced_sound number standing seen (nat_le number standing.course.written) waits
    told_sound now kept (Comes answer inputs) standing seen waits handed =
        let inside = steps-sound now kept inputs standing (all_seen (map Writes answer) seen) waits handed in
        record { sends = sends-append (map Writes answer) (steps kind now kept inputs standing).0 seen (writes-send answer seen) inside.sends; waits = inside.waits }
    told_sound now kept (Faulty fault) standing seen waits handed = record { sends = tt; waits = waits }

    heard_sound : (now : ℕ) (bytes : List ℕ) (thrown : ThrownAway) (ends : Ends) (standing : Standing State) (seen : SocketSeen) (heard taken : Bool) → AllByRecursion Of standing.course.waiting
        → AllByRecursion Handed (handed_by kind (cond (heard && taken) ((now, kind.datagram bytes) ∷ []) []) standing.state)
        → Sound seen (cond heard (then_released ends.leaves (cond taken (step kind now (next_kept ends.kept) (kind.datagram bytes) standing) ([], counted standing))) (not_heard thrown standing))
    heard_sound now bytes thrown ends standing seen true true waits handed =
        end_sound ends.leaves seen (step kind now (next_kept ends.kept) (kind.datagram bytes) standing)
        (step_sound now (next_kept ends.kept) (kind.datagram bytes) standing seen waits (all-left Handed (map (λ (datagram : Addressed). (now, datagram)) (kind.hands now (kind.datagram bytes) standing.state)) [] handed))
    heard_sound now bytes thrown ends standing seen true false waits handed = end_sound ends.leaves seen ([], counted standing) (record { sends = tt; waits = waits })
    heard_sound now bytes thrown ends standing seen false taken waits handed = record { sends = tt; waits = waits }

    -- with what was asked for first
    abbrev WithAsked : ℕ → Coming → Standing State → SocketSeen → Type 0
    WithAsked now coming standing seen = Sound seen (asked now coming ++ (comes kind now coming standing).0, (comes kind now coming standing).1)

    comes_sound : (now : ℕ) (coming : Coming) (standing : Standing State) (seen : SocketSeen) → AllByRecursion Of standing.course.waiting
        → AllByRecursion Handed (handed_by kind (inputs_of kind now coming standing) standing.state) → WithAsked now coming standing seen
    comes_sound now RoundBegins standing seen waits handed = record { sends = tt; waits = waits }
    comes_sound now (Listened true) standing seen waits handed = record { sends = writes-send (kind.stands now standing.state) seen; waits = waits }
    comes_sound now (Listened false) standing seen waits handed = record { sends = tt; waits = waits }
    comes_sound now (Line text ends) standing seen waits handed =
        let here = heard_one (having_called (Reads now ∷ []) standing) in
        let meaning = kind.meaning now text standing.state in
        let done = end_sound ends.leaves (record seen { latest = Some now }) (told kind now ends.kept meaning here) (told_sound now ends.kept meaning here (record seen { latest = Some now }) waits handed) in
        record { sends = done.sends; waits = done.waits }
    comes_sound now NoLine standing seen waits handed = record { sends = tt; waits = waits }
    comes_sound now LinesEnd standing seen waits handed = record { sends = tt; waits = waits }
    comes_sound now (Datagram origin bytes thrown ends) standing seen waits handed =
        let done = heard_sound now bytes thrown ends (having_called (Reads now ∷ []) standing) (record seen { latest = Some now }) (is_heard now standing.course.seen) (is_taken kind origin.from) waits handed in
        record { sends = done.sends; waits = done.waits }
    comes_sound now NoDatagram standing seen waits handed = record { sends = tt; waits = waits }
    comes_sound now FailedDatagram standing seen waits handed = record { sends = tt; waits = waits }
    comes_sound now (Tick ends) standing seen waits handed =
        let here = having_called (Reads now ∷ []) standing in
        let hands = map (λ (datagram : Addressed). (now, datagram)) (kind.hands now kind.tick standing.state) in
        let done = end_sound ends.leaves (record seen { latest = Some now }) (step kind now (next_kept ends.kept) kind.tick here) (step_sound now (next_kept ends.kept) kind.tick here (record seen { latest = Some now }) waits (all-left Handed hands [] handed)) in
        record { sends = done.sends; waits = done.waits }

    handed-append : (some more : List (ℕ × In)) (state : State) → handed_by kind (some ++ more) state ≡ handed_by kind some state ++ handed_by kind more (state_after kind some state)
    handed-append [] more state = refl
    handed-append (one ∷ some) more state =
        let hands = map (λ (datagram : Addressed). (one.0, datagram)) (kind.hands one.0 one.1 state) in
        ap (λ l. hands ++ l) (handed-append some more (kind.after one.0 one.1 state)) ∙ sym (append_assoc hands _ _)

    pub all-sound : (comings : List (ℕ × Coming)) (standing : Standing State) (seen : SocketSeen) → AllByRecursion Of standing.course.waiting
        → AllByRecursion Handed (handed_by kind (came kind comings standing) standing.state) → SendsBy InTime seen (all_come kind comings standing).0
    all-sound [] standing seen waits handed = tt
    all-sound (one ∷ others) standing seen waits handed =
        let after = (comes kind one.0 one.1 standing).1 in
        let called : List Call = asked one.0 one.1 ++ (comes kind one.0 one.1 standing).0 in
        let inputs = inputs_of kind one.0 one.1 standing in
        let parts = subst (AllByRecursion Handed) (handed-append inputs (came kind others after) standing.state) handed in
        let first = comes_sound one.0 one.1 standing seen waits (all-left Handed (handed_by kind inputs standing.state) _ parts) in
        let behind = all-right Handed (handed_by kind inputs standing.state) _ parts in
        let rest = subst (λ (s : State). AllByRecursion Handed (handed_by kind (came kind others after) s)) (sym (comes-state kind one.0 one.1 standing)) behind in
        sends-append called (all_come kind others after).0 seen first.sends (all-sound others after (all_seen called seen) first.waits rest)

pub all_in_time : {State In : Type 0} (kind : Kind State In) (comings : List (ℕ × Coming)) (standing : Standing State) → SendsBy (SentInTime kind comings standing) standing.course.seen (all_come kind comings standing).0
all_in_time {State} kind comings standing =
    let all = to_leave kind comings standing in
    let waited = map (λ (one : Waiting). (one.since, one.datagram)) standing.course.waiting in
    let each = all-in [] all all refl in
    let P : ℕ → Addressed → Type 0 = λ since datagram. IsIn (since, datagram) all in
    all-sound P (SentInTime kind comings standing) (λ now since datagram fresh handed. record { since = since; in_time = fresh; handed = handed }) kind comings standing standing.course.seen
    (all-of P (SentInTime kind comings standing) (λ now since datagram fresh handed. record { since = since; in_time = fresh; handed = handed }) standing.course.waiting (all-left _ waited _ each))
    (all-right _ waited _ each)
