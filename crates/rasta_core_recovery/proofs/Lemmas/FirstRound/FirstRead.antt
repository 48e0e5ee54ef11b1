-- What comes in the first round, as it is read, and what that round leaves.
use Rattle.rasta_core_recovery.proofs.Words.Basics.{◌≡◌, ℕ, ◌⊎◌, inl, inr, ◌+◌, true, List, ◌∷◌, ◌++◌, Ok, ap, subst}
use Rattle.rasta_core_recovery.proofs.Words.Links.{reading, Role, Pdu, Each, Sent, IsAmong, Passes, AreNames, Names, InFlight, Ordered, times_of}
use Rattle.rasta_core_recovery.proofs.Words.Recovery.{ComeFirst, WereSent, behind_comings, round_of, Flow, can_come, comings, own_work, LawsBelow}
use Rattle.rasta_core_recovery.proofs.Lemmas.FirstRound.AnyFirst.{waiting_for, waits_ordered, waits_timely}
use Rattle.rasta_core_recovery.proofs.Lemmas.Rounds.Bridge.{LeavesIt, Lists, Spells, drop_append, each_arriving, leaves_it, lists_of, mirror_of}
use Rattle.rasta_core_recovery.proofs.Lemmas.Rounds.Facts.{Facts, each_read, facts}
use Rattle.rasta_core_recovery.proofs.Lemmas.FirstRound.FirstDue.{IsReadAs, each_arrived, each_from, each_of, of_each}
use Rattle.rasta_core_recovery.proofs.Lemmas.Rounds.Happen.{sent_by_then}
use Rattle.rasta_core_recovery.proofs.Lemmas.Rounds.Links.{Pair, pair_round}
use Rattle.rasta_core_recovery.proofs.Lemmas.Rounds.Mirror.{AreRead, Mirrors, arriving, bytes_from, pending}
use Rattle.rasta_core_recovery.proofs.Lemmas.Rounds.Holds.{Holds, holds_run}
use Rattle.rasta_core_recovery.proofs.Lemmas.Asking.AsksSaid.{among_both}

-- What comes in the first round, as it is read; these ends, for which all waits that was sent before; and what that round leaves.
pub record ReadRound (names : Names) (f : Flow) (due : List Sent) : Type 0 where
  pub then_holds : Holds names (round_of due f).ends
  pub read : Lists names (arriving (f.ends.time + 10000) due)
  pub mirror : (x : Pair) × Mirrors names (waiting_for f.ends.sent f) x
  pub facts_now : Facts names mirror.0
  pub left : LeavesIt names f due (record { client = mirror.0.client; server = mirror.0.server; to_client = read.to_client; to_server = read.to_server })
  pub among_new : (d : Sent) → IsAmong d due → IsAmong d (f.ends.sent ++ left.new)
  pub among_early : (d : Sent) → IsAmong d due → IsAmong d (f.ends.sent ++ left.early)

module _ (laws : LawsBelow) (names : Names) (are : AreNames names) (f : Flow) (start : Holds names f.ends) (due : List Sent) (comes : ComeFirst names due f) where
  abbrev g : Flow
  g = round_of due f

  abbrev t : ℕ
  t = f.ends.time + 10000

  then_holds : Holds names g.ends
  then_holds = holds_run laws names are (Passes 10000 10000 10000 ∷ (comings (f.ends.time + 10000) due ++ own_work)) f.ends start comes.may

  were_sent : (d : Sent) → IsAmong d due → IsAmong d (behind_comings due f).sent
  were_sent d is = of_each (λ (x : Sent). IsAmong x (behind_comings due f).sent) due d comes.were_sent is

  -- ---- what comes, as it is read

  all_were : WereSent f.ends.sent f.ends.sent
  all_were = each_of (λ (d : Sent). IsAmong d f.ends.sent) f.ends.sent (λ d is. is)

  spells : (d : Sent) → IsAmong d g.ends.sent → Spells names d
  spells d is = (flight.pdu, flight.read)
    where
      flight : InFlight names (times_of g.ends then_holds.timely.of_client then_holds.timely.of_server then_holds.timely.newest) d
      flight = of_each (InFlight names (times_of g.ends then_holds.timely.of_client then_holds.timely.of_server then_holds.timely.newest)) g.ends.sent d then_holds.timely.datagrams is

  was_sent : (d : Sent) → IsAmong d due → IsAmong d g.ends.sent
  was_sent d is = sent_by_then due f d (were_sent d is)

  read : Lists names (arriving t due)
  read = lists_of names (arriving t due) (each_arriving (Spells names) t due (each_of (Spells names) due (λ d is. spells d (was_sent d is))))

  abbrev w : Flow
  w = waiting_for f.ends.sent f

  mirror : (x : Pair) × Mirrors names w x
  mirror = mirror_of names w (waits_timely names f f.ends.sent all_were start.timely)

  -- the ends before it, for which all waits that was sent; and with what comes
  abbrev a : Pair
  a = mirror.0

  abbrev p : Pair
  p = record { client = a.client; server = a.server; to_client = read.to_client; to_server = read.to_server }

  ordered_now : Ordered names w.ends
  ordered_now = waits_ordered names f f.ends.sent all_were start.ordered

  facts_now : Facts names a
  facts_now = facts names w a mirror.1 ordered_now

  left : LeavesIt names f due p
  left = leaves_it laws names are f due p
      (record { timely = start.timely; client = mirror.1.client; server = mirror.1.server; to_client = read.of_server; to_server = read.of_client; may = comes.may })

  among_new : (d : Sent) → IsAmong d due → IsAmong d (f.ends.sent ++ left.new)
  among_new d is = subst (IsAmong d) left.sent (was_sent d is)

  among_early : (d : Sent) → IsAmong d due → IsAmong d (f.ends.sent ++ left.early)
  among_early d is = subst (IsAmong d) left.then_sent (were_sent d is)

  pub read_round : ReadRound names f due
  read_round = record { then_holds = then_holds; read = read; mirror = mirror; facts_now = facts_now; left = left; among_new = among_new; among_early = among_early }

abbrev pub pair_of : (names : Names) (f : Flow) (due : List Sent) → ReadRound names f due → Pair
pair_of names f due r = record { client = r.mirror.0.client; server = r.mirror.0.server; to_client = r.read.to_client; to_server = r.read.to_server }

module _ (names : Names) (f : Flow) (due : List Sent) (r : ReadRound names f due) where
  -- what is so of all that waited for an end, and of all that its partner says in the round, is so of all that comes to it
  of_before : (who : Role) (Q : Pdu → Type 0) (ps : List Pdu) → Each Q ps → AreRead names.key (bytes_from who (pending (waiting_for f.ends.sent f))) ps → (d : Sent)
      → IsAmong d f.ends.sent → can_come (f.ends.time + 10000) d ≡ true → IsReadAs names.key Q who d
  of_before who Q ps each are_read d is = of_each (λ (x : Sent). can_come (f.ends.time + 10000) x ≡ true → IsReadAs names.key Q who x) f.ends.sent d
      (each_arrived (IsReadAs names.key Q who) (f.ends.time + 10000) f.ends.sent (each_from names.key Q who (arriving (f.ends.time + 10000) f.ends.sent) ps each
      (subst (λ (ds : List Sent). AreRead names.key (bytes_from who ds) ps) (ap (arriving (f.ends.time + 10000)) (drop_append f.ends.sent f.ends.sent)) are_read))) is

  -- what is so of all that waited for the server is so of what comes to it then
  pub old_to_server : (Q : Pdu → Type 0) → Each Q r.mirror.0.to_server → ((d : Sent) → IsAmong d due → d.sender ≡ Role.Client → IsAmong d f.ends.sent) → Each Q r.read.to_server
  old_to_server Q each old = each_read names.key Q Role.Client (f.ends.time + 10000) due r.read.to_server
      (each_of _ due (λ d is sender can pdu read_as. of_before Role.Client Q r.mirror.0.to_server each r.mirror.1.to_server d (old d is sender) can sender pdu read_as)) r.read.of_client

  of_any : (who : Role) (Q : Pdu → Type 0) (olds said ps : List Pdu) → Each Q olds → AreRead names.key (bytes_from who (pending (waiting_for f.ends.sent f))) olds → Each Q said
      → AreRead names.key (bytes_from who r.left.new) said → AreRead names.key (bytes_from who (arriving (f.ends.time + 10000) due)) ps → Each Q ps
  of_any who Q olds said ps each are_old new are_new are = each_read names.key Q who (f.ends.time + 10000) due ps
      (each_of _ due (λ d is sender can pdu read_as. either d sender can pdu read_as (among_both d f.ends.sent r.left.new (r.among_new d is)))) are
    where
      either : (d : Sent) → d.sender ≡ who → can_come (f.ends.time + 10000) d ≡ true → (pdu : Pdu) → reading names.key d.bytes ≡ Ok pdu → IsAmong d f.ends.sent ⊎ IsAmong d r.left.new → Q pdu
      either d sender can pdu read_as (inl one) = of_before who Q olds each are_old d one can sender pdu read_as
      either d sender can pdu read_as (inr other) = of_each (IsReadAs names.key Q who) r.left.new d (each_from names.key Q who r.left.new said new are_new) other sender pdu read_as

  pub all_to_server : (Q : Pdu → Type 0) → Each Q r.mirror.0.to_server → Each Q (pair_round (pair_of names f due r)).to_server → Each Q r.read.to_server
  all_to_server Q each said = of_any Role.Client Q r.mirror.0.to_server (pair_round (pair_of names f due r)).to_server r.read.to_server each r.mirror.1.to_server said r.left.to_server r.read.of_client

  pub all_to_client : (Q : Pdu → Type 0) → Each Q r.mirror.0.to_client → Each Q (pair_round (pair_of names f due r)).to_client → Each Q r.read.to_client
  all_to_client Q each said = of_any Role.Server Q r.mirror.0.to_client (pair_round (pair_of names f due r)).to_client r.read.to_client each r.mirror.1.to_client said r.left.to_client r.read.of_server
