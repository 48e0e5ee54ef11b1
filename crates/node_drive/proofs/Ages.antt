-- What a process saw is what its calls tell, so what it hears has waited briefly.
use Rattle.std.proofs.Common.{◌≡◌, ◌∙◌, ◌&&◌, ℕ, nat_le, Bool, true, false, cond, List, [], ◌∷◌, ◌++◌, map, Option, Some, None, refl, sym, ap, subst, append_assoc, append-nil, arith}
use Rattle.std.proofs.lemmas.Bool.Decides.{nat_tests}
use Rattle.node_lines.specs.declared.order.Order.{Order}
use Rattle.node_lines.specs.replay_words.declared.fault.Fault.TheVariants.{Number}
use Rattle.node_drive.specs.Ages.{FindsEmpty, WaitedBriefly, WasEmptyBehind}
use Rattle.node_drive.specs.Calls.{Call, Rests, Reads, AsksListener, AsksLine, AsksDatagram, ThrowsAway, Writes, BreaksOff, Sends, Complains, Keeps, Came, Empty, Failed}
use Rattle.node_drive.specs.Kinds.{Kind, Meaning, InForce, Comes, Faulty, AskedToKeep, said_if}
use Rattle.node_drive.specs.Lives.{inputs_of}
use Rattle.node_drive.specs.Rounds.{Coming, RoundBegins, Listened, Line, NoLine, LinesEnd, Datagram, NoDatagram, FailedDatagram, Tick, CourseState, Done, Ends, Standing, all_come, asked, comes, counted, datagram, having_called, heard_one, is_taken, kept_by, later, later_kept, line_of, next_kept, not_heard, read_for, released, sent, step, steps, then_released, told}
use Rattle.node_drive.specs.Seen.{all_seen, is_heard, is_recent, nothing_seen, seen_with}
use Rattle.node_drive.specs.Waiting.{Waiting, leaving}
use Rattle.node_drive.specs.declared.outside.ThrownAway.{ThrownAway}
use Rattle.node_drive.specs.declared.socket_seen.SocketSeen.{SocketSeen}
use Rattle.node_drive.specs.declared.outside.Origin.{Origin}

-- ---- what calls tell

pub seen-append : (xs ys : List Call) (seen : SocketSeen) → all_seen (xs ++ ys) seen ≡ all_seen ys (all_seen xs seen)
seen-append [] ys seen = refl
seen-append (x ∷ xs) ys seen = seen-append xs ys (seen_with x seen)

pub writes-seen : (lines : List (List ℕ)) (seen : SocketSeen) → all_seen (map Writes lines) seen ≡ seen
writes-seen [] seen = refl
writes-seen (line ∷ lines) seen = writes-seen lines seen

line-seen : (number now : ℕ) (order : Option Order) (seen : SocketSeen) → all_seen (line_of number now order) seen ≡ seen
line-seen number now None seen = refl
line-seen number now (Some order) seen = refl

kept-seen : (kept : Bool) (keeps : Option AskedToKeep) (seen : SocketSeen) → all_seen (kept_by kept keeps) seen ≡ seen
kept-seen kept None seen = refl
kept-seen kept (Some keep) seen = refl

sent-seen : (some : List Waiting) (seen : SocketSeen) → all_seen (sent some) seen ≡ seen
sent-seen [] seen = refl
sent-seen (one ∷ some) seen = sent-seen some seen

-- what was seen is what these calls tell
abbrev SeenSo : {Now : Type 0} → (Now → SocketSeen) → SocketSeen → List Call × Now → Type 0
SeenSo seen_of seen done = seen_of done.1 ≡ all_seen done.0 seen

keeps_then : (xs ys : List Call) (first mid last : SocketSeen) → mid ≡ all_seen xs first → last ≡ all_seen ys mid → last ≡ all_seen (xs ++ ys) first
keeps_then xs ys first mid last p q = q ∙ ap (all_seen ys) p ∙ sym (seen-append xs ys first)

released_keeps : (leaves : ℕ) (course : CourseState) → (released leaves course).1.seen ≡ all_seen (released leaves course).0 course.seen
released_keeps leaves course =
    let reads = read_for leaves course.waiting in
    let some = leaving leaves course.in_force course.waiting in
    sym (sent-seen some (all_seen reads course.seen)) ∙ sym (seen-append reads (sent some) course.seen)

module _ {State In : Type 0} (kind : Kind State In) where
  abbrev seen_of : Standing State → SocketSeen
  seen_of standing = standing.course.seen

  end_keeps : (leaves : ℕ) (seen : SocketSeen) (done : Done (Standing State)) → SeenSo seen_of seen done → SeenSo seen_of seen (then_released leaves done)
  end_keeps leaves seen done p = keeps_then done.0 (released leaves done.1.course).0 seen done.1.course.seen _ p (released_keeps leaves done.1.course)

  step_keeps : (now : ℕ) (kept : Bool) (input : In) (standing : Standing State) → SeenSo seen_of (seen_of standing) (step kind now kept input standing)
  step_keeps now kept input standing =
      let keeps = kind.keeps now input standing.state in
      let said = said_if kept keeps (kind.says now input standing.state) in
      let seen = seen_of standing in
      keeps_then (kept_by kept keeps) (map Writes said ++ line_of _ now _) seen seen seen (sym (kept-seen kept keeps seen))
      (keeps_then (map Writes said) (line_of _ now _) seen seen seen (sym (writes-seen said seen)) (sym (line-seen _ now _ seen)))

  steps-keep : (now : ℕ) (kept : List Bool) (inputs : List In) (standing : Standing State) → SeenSo seen_of (seen_of standing) (steps kind now kept inputs standing)
  steps-keep now kept [] standing = refl
  steps-keep now kept (input ∷ inputs) standing =
      let first = step kind now (next_kept kept) input standing in
      keeps_then first.0 (steps kind now (later_kept kept) inputs first.1).0 (seen_of standing) (seen_of first.1) _ (step_keeps now (next_kept kept) input standing) (steps-keep now (later_kept kept) inputs first.1)

  forced_keeps : (number : ℕ) (standing : Standing State) (known : Bool) → (cond {A = Done CourseState} known ([], record standing.course { in_force = later standing.course.in_force number }) (Complains standing.course.heard Number ∷ [], standing.course)).1.seen
      ≡ all_seen (cond {A = Done CourseState} known ([], record standing.course { in_force = later standing.course.in_force number }) (Complains standing.course.heard Number ∷ [], standing.course)).0 (seen_of standing)
  forced_keeps number standing true = refl
  forced_keeps number standing false = refl

  told_keeps : (now : ℕ) (kept : List Bool) (meaning : Meaning In) (standing : Standing State) → SeenSo seen_of (seen_of standing) (told kind now kept meaning standing)
  told_keeps now kept (InForce number) standing = forced_keeps number standing (nat_le number standing.course.written)
  told_keeps now kept (Comes answer inputs) standing =
      keeps_then (map Writes answer) (steps kind now kept inputs standing).0 (seen_of standing) (seen_of standing) _ (sym (writes-seen answer (seen_of standing))) (steps-keep now kept inputs standing)
  told_keeps now kept (Faulty fault) standing = refl

  taken_keeps : (now : ℕ) (kept : Bool) (bytes : List ℕ) (standing : Standing State) (taken : Bool) → SeenSo seen_of (seen_of standing) (cond taken (step kind now kept (kind.datagram bytes) standing) ([], counted standing))
  taken_keeps now kept bytes standing true = step_keeps now kept (kind.datagram bytes) standing
  taken_keeps now kept bytes standing false = refl

  heard_keeps : (now : ℕ) (origin : Origin) (bytes : List ℕ) (thrown : ThrownAway) (ends : Ends) (standing : Standing State) (heard : Bool)
      → SeenSo seen_of (seen_of standing) (cond heard (then_released ends.leaves (datagram kind now (next_kept ends.kept) origin bytes standing)) (not_heard thrown standing))
  heard_keeps now origin bytes thrown ends standing true =
      end_keeps ends.leaves (seen_of standing) (datagram kind now (next_kept ends.kept) origin bytes standing) (taken_keeps now (next_kept ends.kept) bytes standing (is_taken kind origin.from))
  heard_keeps now origin bytes thrown ends standing false = refl

  -- by what a coming asks for first
  behind_asked : (now : ℕ) (coming : Coming) (standing : Standing State) (done : Done (Standing State)) → SeenSo seen_of (all_seen (asked now coming) (seen_of standing)) done
      → seen_of done.1 ≡ all_seen (asked now coming ++ done.0) (seen_of standing)
  behind_asked now coming standing done p = keeps_then (asked now coming) done.0 (seen_of standing) (all_seen (asked now coming) (seen_of standing)) (seen_of done.1) refl p

  comes_keeps : (now : ℕ) (coming : Coming) (standing : Standing State) → seen_of (comes kind now coming standing).1 ≡ all_seen (asked now coming ++ (comes kind now coming standing).0) (seen_of standing)
  comes_keeps now RoundBegins standing = refl
  comes_keeps now (Listened true) standing = sym (writes-seen (kind.stands now standing.state) (seen_of standing))
  comes_keeps now (Listened false) standing = refl
  comes_keeps now (Line text ends) standing =
      let here = having_called (Reads now ∷ []) standing in
      end_keeps ends.leaves (seen_of here) (told kind now ends.kept (kind.meaning now text standing.state) (heard_one here)) (told_keeps now ends.kept (kind.meaning now text standing.state) (heard_one here))
  comes_keeps now NoLine standing = refl
  comes_keeps now LinesEnd standing = refl
  comes_keeps now (Datagram origin bytes thrown ends) standing = heard_keeps now origin bytes thrown ends (having_called (Reads now ∷ []) standing) (is_heard now standing.course.seen)
  comes_keeps now NoDatagram standing = refl
  comes_keeps now FailedDatagram standing = refl
  comes_keeps now (Tick ends) standing =
      let here = having_called (Reads now ∷ []) standing in
      end_keeps ends.leaves (seen_of here) (step kind now (next_kept ends.kept) kind.tick here) (step_keeps now (next_kept ends.kept) kind.tick here)

  pub all_keep : (comings : List (ℕ × Coming)) (standing : Standing State) → (all_come kind comings standing).1.course.seen ≡ all_seen (all_come kind comings standing).0 standing.course.seen
  all_keep [] standing = refl
  all_keep (one ∷ others) standing =
      let first = comes kind one.0 one.1 standing in
      keeps_then (asked one.0 one.1 ++ first.0) (all_come kind others first.1).0 (seen_of standing) (seen_of first.1) _ (comes_keeps one.0 one.1 standing) (all_keep others first.1)

-- ---- what was seen was called

record WasRead (reading : ℕ) (calls : List Call) : Type 0 where
  before : List Call
  after : List Call
  calls_are : calls ≡ before ++ Reads reading ∷ after

abbrev ReadIn : Option ℕ → List Call → Type 0
ReadIn None calls = Unit {0}
ReadIn (Some reading) calls = WasRead reading calls

abbrev EmptyIn : Option ℕ → List Call → Type 0
EmptyIn None calls = Unit {0}
EmptyIn (Some reading) calls = WasEmptyBehind reading calls

abbrev Known : SocketSeen → List Call → Type 0
Known seen calls = ReadIn seen.latest calls × EmptyIn seen.empty calls

read_grows : (reading : Option ℕ) (calls more : List Call) → ReadIn reading calls → ReadIn reading (calls ++ more)
read_grows None calls more p = tt
read_grows (Some reading) calls more p = record {
  before = p.before;
  after = p.after ++ more;
  calls_are = ap (λ l. l ++ more) p.calls_are ∙ append_assoc p.before (Reads reading ∷ p.after) more;
}

empty_grows : (reading : Option ℕ) (calls more : List Call) → EmptyIn reading calls → EmptyIn reading (calls ++ more)
empty_grows None calls more p = tt
empty_grows (Some reading) calls more p = record {
  before = p.before;
  between = p.between;
  found = p.found;
  after = p.after ++ more;
  is_found = p.is_found;
  calls_are = ap (λ l. l ++ more) p.calls_are
      ∙ append_assoc p.before (Reads reading ∷ (p.between ++ p.found ∷ p.after)) more
      ∙ ap (λ l. p.before ++ Reads reading ∷ l) (append_assoc p.between (p.found ∷ p.after) more);
}

-- a call finds the socket empty after the latest reading
found_behind : (reading : Option ℕ) (calls : List Call) (found : Call) → FindsEmpty found → ReadIn reading calls → EmptyIn reading (calls ++ found ∷ [])
found_behind None calls found finds p = tt
found_behind (Some reading) calls found finds p = record {
  before = p.before;
  between = p.after;
  found = found;
  after = [];
  is_found = finds;
  calls_are = ap (λ l. l ++ found ∷ []) p.calls_are ∙ append_assoc p.before (Reads reading ∷ p.after) (found ∷ []);
}

grows : (seen : SocketSeen) (calls more : List Call) → Known seen calls → Known seen (calls ++ more)
grows seen calls more p = (read_grows seen.latest calls more p.0, empty_grows seen.empty calls more p.1)

finds : (seen : SocketSeen) (calls : List Call) (found : Call) → FindsEmpty found → Known seen calls → Known (record seen { empty = seen.latest }) (calls ++ found ∷ [])
finds seen calls found empty p = (read_grows seen.latest calls (found ∷ []) p.0, found_behind seen.latest calls found empty p.0)

known_with : (seen : SocketSeen) (calls : List Call) (call : Call) → Known seen calls → Known (seen_with call seen) (calls ++ call ∷ [])
known_with seen calls (Reads reading) p = (record { before = calls; after = []; calls_are = refl }, empty_grows seen.empty calls (Reads reading ∷ []) p.1)
known_with seen calls (AsksDatagram Empty) p = finds seen calls (AsksDatagram Empty) tt p
known_with seen calls (AsksDatagram (Came arrival)) p = grows seen calls (AsksDatagram (Came arrival) ∷ []) p
known_with seen calls (AsksDatagram Failed) p = grows seen calls (AsksDatagram Failed ∷ []) p
known_with seen calls (ThrowsAway count true) p = finds seen calls (ThrowsAway count true) tt p
known_with seen calls (ThrowsAway count false) p = grows seen calls (ThrowsAway count false ∷ []) p
known_with seen calls Rests p = grows seen calls (Rests ∷ []) p
known_with seen calls (AsksListener began) p = grows seen calls (AsksListener began ∷ []) p
known_with seen calls (AsksLine heard) p = grows seen calls (AsksLine heard ∷ []) p
known_with seen calls (Writes text) p = grows seen calls (Writes text ∷ []) p
known_with seen calls (BreaksOff text) p = grows seen calls (BreaksOff text ∷ []) p
known_with seen calls (Sends to bytes) p = grows seen calls (Sends to bytes ∷ []) p
known_with seen calls (Complains line fault) p = grows seen calls (Complains line fault ∷ []) p
known_with seen calls (Keeps all kept) p = grows seen calls (Keeps all kept ∷ []) p

all-known : (seen : SocketSeen) (calls more : List Call) → Known seen calls → Known (all_seen more seen) (calls ++ more)
all-known seen calls [] p = subst (Known seen) (sym (append-nil calls)) p
all-known seen calls (call ∷ more) p =
    subst (Known (all_seen more (seen_with call seen))) (append_assoc calls (call ∷ []) more) (all-known (seen_with call seen) (calls ++ call ∷ []) more (known_with seen calls call p))

-- ---- what is heard

recent_is : (now : ℕ) (empty : Option ℕ) (calls : List Call) → is_recent now empty ≡ true → EmptyIn empty calls → WaitedBriefly now calls
recent_is now None calls e p = cc
recent_is now (Some empty) calls e p = record { empty = empty; brief = grind (arith, nat_tests, e); was_empty = p }

both_are : {A : Type 0} (one : A) (heard taken : Bool) → cond (heard && taken) (one ∷ []) [] ≡ one ∷ [] → heard ≡ true
both_are one true taken e = refl
both_are one false taken e = cc

module _ {State In : Type 0} (kind : Kind State In) where
  pub heard_waited_briefly : (earlier : List Call) (comings : List (ℕ × Coming)) (standing : Standing State) → standing.course.seen ≡ all_seen earlier nothing_seen
      → (now : ℕ) (origin : Origin) (bytes : List ℕ) (thrown : ThrownAway) (ends : Ends)
      → inputs_of kind now (Datagram origin bytes thrown ends) (all_come kind comings standing).1 ≡ (now, kind.datagram bytes) ∷ []
      → WaitedBriefly now (earlier ++ (all_come kind comings standing).0)
  heard_waited_briefly earlier comings standing kept now origin bytes thrown ends heard =
      let after = (all_come kind comings standing).1 in
      let called = (all_come kind comings standing).0 in
      let seen : after.course.seen ≡ all_seen (earlier ++ called) nothing_seen
      = all_keep kind comings standing ∙ ap (all_seen called) kept ∙ sym (seen-append earlier called nothing_seen) in
      let known = subst (λ (s : SocketSeen). Known s (earlier ++ called)) (sym seen) (all-known nothing_seen [] (earlier ++ called) (tt, tt)) in
      recent_is now after.course.seen.empty (earlier ++ called) (both_are (now, kind.datagram bytes) (is_heard now after.course.seen) (is_taken kind origin.from) heard) known.1
