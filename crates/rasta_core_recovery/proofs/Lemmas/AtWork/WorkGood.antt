-- Good rounds are rounds at work, in which no item is given.
use Rattle.rasta_core_recovery.proofs.Words.Basics.{◌≡◌, ℕ, ◌∙◌, ◌+◌, Bool, true, false, ◌&&◌, if◌then◌else◌, List, [], ◌∷◌, ◌++◌, drop, append_assoc, refl, sym, ap}
use Rattle.rasta_core_recovery.proofs.Words.Links.{Role, Each, Sent, Call, Receives, Event, Calls, is_same, Names, partner_of}
use Rattle.rasta_core_recovery.proofs.Words.Recovery.{Flow, can_come, comings, own_work, good_round, IsAtWork, IsBeforeTick, IsCall, IsWorkAt, LeavesOpen, all_coming, called_in, calls_in, clock_calls, due_to, work_round}
use Rattle.rasta_core_recovery.proofs.Lemmas.Rounds.Happen.{may_happen}
use Rattle.rasta_core_recovery.proofs.Lemmas.Rounds.Lists.{each_append}

called_both : (who : Role) (one other : List Event) → calls_in who (one ++ other) ≡ calls_in who one ++ calls_in who other
called_both who [] other = refl
called_both who (first ∷ one) other = ap (λ (l : List Call). called_in who first ++ l) (called_both who one other) ∙ sym (append_assoc (called_in who first) (calls_in who one) (calls_in who other))

module _ (time : ℕ) where
  comings_call : (ds : List Sent) → Each IsCall (comings time ds)
  comings_call [] = tt
  comings_call (d ∷ ds) = choose (can_come time d) (comings_call ds)
    where
      choose : (b : Bool) → Each IsCall (comings time ds) → Each IsCall (if b then Calls (partner_of d.sender) (Receives d.bytes d.connection) ∷ comings time ds else comings time ds)
      choose true rest = (tt, rest)
      choose false rest = rest

  comings_open : (ds : List Sent) → Each LeavesOpen (comings time ds)
  comings_open [] = tt
  comings_open (d ∷ ds) = choose (can_come time d) (comings_open ds)
    where
      choose : (b : Bool) → Each LeavesOpen (comings time ds) → Each LeavesOpen (if b then Calls (partner_of d.sender) (Receives d.bytes d.connection) ∷ comings time ds else comings time ds)
      choose true rest = (tt, rest)
      choose false rest = rest

  comings_before : (who : Role) (ds : List Sent) → Each IsBeforeTick (calls_in who (comings time ds))
  comings_before who [] = tt
  comings_before who (d ∷ ds) = choose (can_come time d) (is_same (partner_of d.sender) who) (comings_before who ds)
    where
      chosen : (b : Bool) → Each IsBeforeTick (calls_in who (comings time ds)) → Each IsBeforeTick ((if b then Receives d.bytes d.connection ∷ [] else []) ++ calls_in who (comings time ds))
      chosen true rest = (tt, rest)
      chosen false rest = rest

      choose : (a b : Bool) → Each IsBeforeTick (calls_in who (comings time ds)) → Each IsBeforeTick (calls_in who (if a then Calls (partner_of d.sender) (Receives d.bytes d.connection) ∷ comings time ds else comings time ds))
      choose true b rest = chosen (is_same (partner_of d.sender) who) rest
      choose false b rest = rest

  comings_bring : (who : Role) (ds : List Sent) → all_coming (calls_in who (comings time ds)) ≡ due_to who time ds
  comings_bring who [] = refl
  comings_bring who (d ∷ ds) = choose (can_come time d) (comings_bring who ds)
    where
      chosen : (b : Bool) → all_coming (calls_in who (comings time ds)) ≡ due_to who time ds
          → all_coming ((if b then Receives d.bytes d.connection ∷ [] else []) ++ calls_in who (comings time ds)) ≡ (if b then d.bytes ∷ due_to who time ds else due_to who time ds)
      chosen true rest = ap (λ (l : List (List ℕ)). d.bytes ∷ l) rest
      chosen false rest = rest

      choose : (a : Bool) → all_coming (calls_in who (comings time ds)) ≡ due_to who time ds
          → all_coming (calls_in who (if a then Calls (partner_of d.sender) (Receives d.bytes d.connection) ∷ comings time ds else comings time ds))
          ≡ (if a && is_same (partner_of d.sender) who then d.bytes ∷ due_to who time ds else due_to who time ds)
      choose true rest = chosen (is_same (partner_of d.sender) who) rest
      choose false rest = rest

  work_calls : (who : Role) → calls_in who own_work ≡ clock_calls who ++ []
  work_calls Role.Client = refl
  work_calls Role.Server = refl

  work_at : (who : Role) (ds : List Sent) → IsWorkAt who (due_to who time ds) (calls_in who (comings time ds ++ own_work))
  work_at who ds = record {
    front = calls_in who (comings time ds);
    back = [];
    are = called_both who (comings time ds) own_work ∙ ap (λ (l : List Call). calls_in who (comings time ds) ++ l) (work_calls who);
    comes = comings_bring who ds;
    before = comings_before who ds;
    behind = tt;
  }

pub good_is_at_work : (names : Names) (f : Flow) → IsAtWork names f (comings (f.ends.time + 10000) (drop f.passed f.ends.sent) ++ own_work)
good_is_at_work names f = record {
  may = may_happen names f;
  only = each_append IsCall (comings (f.ends.time + 10000) (drop f.passed f.ends.sent)) own_work (comings_call (f.ends.time + 10000) (drop f.passed f.ends.sent)) (tt, (tt, (tt, tt)));
  client = work_at (f.ends.time + 10000) Role.Client (drop f.passed f.ends.sent);
  server = work_at (f.ends.time + 10000) Role.Server (drop f.passed f.ends.sent);
}

pub good_leaves_open : (f : Flow) → Each LeavesOpen (comings (f.ends.time + 10000) (drop f.passed f.ends.sent) ++ own_work)
good_leaves_open f = each_append LeavesOpen (comings (f.ends.time + 10000) (drop f.passed f.ends.sent)) own_work (comings_open (f.ends.time + 10000) (drop f.passed f.ends.sent)) (tt, (tt, (tt, tt)))

pub good_is_work_round : (f : Flow) → good_round f ≡ work_round (comings (f.ends.time + 10000) (drop f.passed f.ends.sent) ++ own_work) f
unfolding good_round
good_is_work_round f = refl
