-- How few items of a client wait whose controller answers, event by event of their link.
use Rattle.simulator_recovery.proofs.Words.Basics.{◌≡◌, ℕ, ◌∙◌, ◌+◌, ◌≤◌, List, [], ◌∷◌, ◌++◌, length, Some, if◌then◌else◌, refl, sym, ap, subst, arith, is_ok, false≢true}
use Rattle.simulator_recovery.proofs.Words.Links.{Answers, AreIn, Confirming, FewLeft, HasLeft, Owes, answer_to_send, Each, Call, Closes, EndState, Opens, Receives, Sends, Ticks, end_after, end_later, end_restarted, outcome, reading_of, Calls, Elsewhere, Event, Loses, May, MayRun, Passes, Restarts, happened, run, Timely, AreNames, Names, Ordered, Ends, called, later, lost, restarted, is_open, calls_at, Role}
use Rattle.simulator_recovery.proofs.Words.Recovery.{LawsBelow}

-- laws of the link, handed in by who has them
pub record Guarded (names : Names) (spare owed : ℕ) (ends : Ends) : Type 0 where
  pub timely : Timely names ends
  pub ordered : Ordered names ends
  pub confirming : Confirming names spare ends
  pub left : FewLeft (spare + owed) ends

-- the server answers, and owes few
pub record Good (spare owed : ℕ) (ends : Ends) : Type 0 where
  pub answers : Answers spare ends
  pub owes : (connection : ℕ) → ends.client.connection ≡ Some connection → ends.server.connection ≡ Some connection → Owes owed ends

-- an event that leaves the server as it is
abbrev pub LeavesServer : Event → Type 0
LeavesServer (Calls Role.Client call) = Unit {0}
LeavesServer (Loses bytes) = Unit {0}
LeavesServer (Elsewhere count) = Unit {0}
LeavesServer _ = ⊥

-- time, or an end that is made anew
abbrev pub KeepsLists : Event → Type 0
KeepsLists (Passes elapsed of_client of_server) = Unit {0}
KeepsLists (Restarts who clock first) = Unit {0}
KeepsLists _ = ⊥

-- a call in which the server takes nothing
abbrev pub IsReply : Call → Type 0
IsReply Opens = ⊥
IsReply (Receives bytes connection) = ⊥
IsReply _ = Unit {0}

count_more : (given more : List (List ℕ)) → length given ≤ length (given ++ more)
count_more [] more = omega arith
count_more (first ∷ given) more = let e = count_more given more in omega (arith, e)

pub count_none : (taken : List (List ℕ)) → length (taken ++ []) ≡ length taken
count_none [] = refl
count_none (first ∷ taken) = let e = count_none taken in omega (arith, e)

module _ (laws : LawsBelow) (names : Names) (are : AreNames names) (spare owed : ℕ) where
  abbrev Guards : Ends → Type 0
  Guards ends = Guarded names spare owed ends

  abbrev IsGood : Ends → Type 0
  IsGood ends = Good spare owed ends

  one_event : (event : Event) (ends : Ends) → May names event ends → Guards ends → (AreIn (happened event ends) → Answers spare (happened event ends)) → (AreIn ends → HasLeft (happened event ends) → Owes owed (happened event ends)) → Guards (happened event ends)
  one_event event ends may g answers owes = record {
    timely = laws.every_event_keeps_time names event ends are g.timely may;
    ordered = laws.every_event_keeps_order_kept names event ends are g.timely g.ordered may;
    confirming = laws.what_is_taken_confirms_kept names event ends spare are g.timely g.ordered may g.confirming answers;
    left = laws.what_is_taken_confirms_left names event ends spare owed are g.timely g.ordered may g.confirming g.left owes;
  }

  owes_then : (ends : Ends) → Timely names ends → IsGood ends → HasLeft ends → Owes owed ends
  owes_then ends timely good left = let one = laws.one_connection_some names ends Role.Client timely left.client in good.owes one.0 one.1 (left.same ∙ one.1)

  -- ---- the server stays as it is

  same_server : (event : Event) (ends : Ends) → LeavesServer event → (happened event ends).server ≡ ends.server
  unfolding called lost
  same_server (Calls Role.Client call) ends leaves = refl
  same_server (Calls Role.Server call) ends leaves = absurd leaves
  same_server (Passes elapsed of_client of_server) ends leaves = absurd leaves
  same_server (Loses bytes) ends leaves = refl
  same_server (Restarts who clock first) ends leaves = absurd leaves
  same_server (Elsewhere count) ends leaves = refl

  pub quiet_guards : (events : List Event) (ends : Ends) → Each LeavesServer events → MayRun names events ends → Guards ends → Answers spare ends → Guards (run events ends)
  quiet_guards [] ends leaves may g answers = g
  quiet_guards (first ∷ others) ends leaves may g answers =
      let same = same_server first ends leaves.0
      in let then_answers = subst (λ (s : EndState). length s.given ≤ length s.taken + spare) (sym same) answers
      in quiet_guards others (happened first ends) leaves.1 may.1 (one_event first ends may.0 g (λ are_in. then_answers)
      (λ are_in left. absurd (false≢true (sym left.server ∙ ap (λ (s : EndState). is_open s.link.phase) same ∙ are_in.server)))) then_answers

  -- ---- the ends keep what they gave and took

  keeps_good : (event : Event) (ends : Ends) → KeepsLists event → IsGood ends → IsGood (happened event ends)
  unfolding later end_later restarted end_restarted
  keeps_good (Calls who call) ends keeps good = absurd keeps
  keeps_good (Passes elapsed of_client of_server) ends keeps good = record { answers = good.answers; owes = good.owes }
  keeps_good (Loses bytes) ends keeps good = absurd keeps
  keeps_good (Restarts Role.Client clock first) ends keeps good = record { answers = good.answers; owes = good.owes }
  keeps_good (Restarts Role.Server clock first) ends keeps good = record { answers = good.answers; owes = good.owes }
  keeps_good (Elsewhere count) ends keeps good = absurd keeps

  pub lists_guard : (events : List Event) (ends : Ends) → Each KeepsLists events → MayRun names events ends → Guards ends → IsGood ends → Guards (run events ends)
  lists_guard [] ends keeps may g good = g
  lists_guard (first ∷ others) ends keeps may g good =
      let then_good = keeps_good first ends keeps.0 good
      in lists_guard others (happened first ends) keeps.1 may.1 (one_event first ends may.0 g (λ are_in. then_good.answers) (λ are_in left. owes_then (happened first ends) (laws.every_event_keeps_time names first ends are g.timely may.0) then_good left)) then_good

  -- ---- the server is called

  -- a reply gives at most
  reply_back : (call : Call) (ends : Ends) → IsReply call → IsGood (called Role.Server call ends) → IsGood ends
  unfolding called outcome end_after
  reply_back Ticks ends reply good = let g = count_more ends.server.given [] in let t = count_none ends.server.taken in let a = good.answers in record { answers = omega (arith, g, t, a); owes = λ connection e f. let o = good.owes connection e f in omega (arith, g, o) }
  reply_back (Closes why) ends reply good = let g = count_more ends.server.given [] in let t = count_none ends.server.taken in let a = good.answers in record { answers = omega (arith, g, t, a); owes = λ connection e f. let o = good.owes connection e f in omega (arith, g, o) }
  reply_back (Sends item) ends reply good = let g = count_more ends.server.given (if is_ok (answer_to_send (reading_of ends.server.clock) ends.server.link) then item ∷ [] else []) in let t = count_none ends.server.taken in let a = good.answers in record { answers = omega (arith, g, t, a); owes = λ connection e f. let o = good.owes connection e f in omega (arith, g, o) }
  reply_back Opens ends reply good = absurd reply
  reply_back (Receives bytes connection) ends reply good = absurd reply

  replies_back : (calls : List Call) (ends : Ends) → Each IsReply calls → IsGood (run (calls_at Role.Server calls) ends) → IsGood ends
  replies_back [] ends replies good = good
  replies_back (first ∷ others) ends replies good = reply_back first ends replies.0 (replies_back others (called Role.Server first ends) replies.1 good)

  pub replies_guard : (calls : List Call) (ends : Ends) → Each IsReply calls → MayRun names (calls_at Role.Server calls) ends → Guards ends → IsGood (run (calls_at Role.Server calls) ends) → Guards (run (calls_at Role.Server calls) ends)
  replies_guard [] ends replies may g good = g
  replies_guard (first ∷ others) ends replies may g good =
      let then_good = replies_back others (called Role.Server first ends) replies.1 good
      in replies_guard others (called Role.Server first ends) replies.1 may.1 (one_event (Calls Role.Server first) ends may.0 g (λ are_in. then_good.answers) (λ are_in left. owes_then (called Role.Server first ends) (laws.every_event_keeps_time names (Calls Role.Server first) ends are g.timely may.0) then_good left)) good

  -- the first call of a step may be any
  pub step_guards : (first : Call) (others : List Call) (ends : Ends) → Each IsReply others → MayRun names (calls_at Role.Server (first ∷ others)) ends → Guards ends → IsGood (run (calls_at Role.Server (first ∷ others)) ends)
      → Guards (run (calls_at Role.Server (first ∷ others)) ends)
  step_guards first others ends replies may g good =
      let then_good = replies_back others (called Role.Server first ends) replies good
      in replies_guard others (called Role.Server first ends) replies may.1 (one_event (Calls Role.Server first) ends may.0 g (λ are_in. then_good.answers) (λ are_in left. owes_then (called Role.Server first ends) (laws.every_event_keeps_time names (Calls Role.Server first) ends are g.timely may.0) then_good left)) good
