-- What comes in a first round, of what was sent by then and not said in it by the server: as it is read, and what is so of it.
use Rattle.rasta_core_recovery.proofs.Words.Basics.{◌≡◌, ℕ, ◌⊎◌, inl, inr, ◌+◌, true, List, [], ◌∷◌, ◌++◌, Ok, refl, ap, subst}
use Rattle.rasta_core_recovery.proofs.Words.Links.{reading, Role, Key, Pdu, Each, Sent, IsAmong, Names, Ends, InFlight, Timely, times_of}
use Rattle.rasta_core_recovery.proofs.Words.Recovery.{WereSaidBefore, WereSent, Flow, can_come}
use Rattle.rasta_core_recovery.proofs.Lemmas.FirstRound.AnyFirst.{below_first, waiting_for, waits_ordered, waits_timely}
use Rattle.rasta_core_recovery.proofs.Lemmas.Rounds.Bridge.{Lists, Spells, drop_append, each_arriving, lists_of, mirror_of}
use Rattle.rasta_core_recovery.proofs.Lemmas.Rounds.Facts.{Facts, IsFirst, IsLately, each_read, facts}
use Rattle.rasta_core_recovery.proofs.Lemmas.FirstRound.FirstDue.{IsReadAs, each_arrived, each_from, each_of, none_of, of_each}
use Rattle.rasta_core_recovery.proofs.Lemmas.FirstRound.FirstHears.{Below, IsBelow}
use Rattle.rasta_core_recovery.proofs.Lemmas.Rounds.Links.{Pair}
use Rattle.rasta_core_recovery.proofs.Lemmas.Rounds.Mirror.{AreRead, Mirrors, arriving, bytes_from, pending}
use Rattle.rasta_core_recovery.proofs.Lemmas.Rounds.Holds.{Holds}
use Rattle.rasta_core_recovery.proofs.Lemmas.ComingUp.Seen.{BothIn}
use Rattle.rasta_core_recovery.proofs.Lemmas.Asking.AsksSaid.{among_both}

pub none_left : (ps : List Pdu) → Each (λ (pdu : Pdu). ⊥) ps → ps ≡ []
none_left [] each = refl
none_left (p ∷ ps) each = absurd each.0

pub each_none : (ps : List Pdu) → ps ≡ [] → Each (λ (pdu : Pdu). ⊥) ps
each_none [] e = tt
each_none (p ∷ ps) e = absurd (cc e)

pub none_read : (key : Key) (bs : List (List ℕ)) (ps : List Pdu) → AreRead key bs ps → ps ≡ [] → bs ≡ []
none_read key [] ps are none = refl
none_read key (b ∷ bs) [] are none = absurd are
none_read key (b ∷ bs) (p ∷ ps) are none = absurd (cc none)

-- Two ends before the round, and for which all waits that was sent before it; and what comes.
module _ (names : Names) (f : Flow) (start : Holds names f.ends) (due : List Sent) (last : Ends) (then_timely : Timely names last)
    (was_sent : (d : Sent) → IsAmong d due → IsAmong d last.sent) (before : WereSaidBefore Role.Server f.ends.sent due) where
  abbrev t : ℕ
  t = f.ends.time + 10000

  spells : (d : Sent) → IsAmong d last.sent → Spells names d
  spells d is = (flight.pdu, flight.read)
    where
      flight : InFlight names (times_of last then_timely.of_client then_timely.of_server then_timely.newest) d
      flight = of_each (InFlight names (times_of last then_timely.of_client then_timely.of_server then_timely.newest)) last.sent d then_timely.datagrams is

  pub read : Lists names (arriving t due)
  read = lists_of names (arriving t due) (each_arriving (Spells names) t due (each_of (Spells names) due (λ d is. spells d (was_sent d is))))

  all_were : WereSent f.ends.sent f.ends.sent
  all_were = each_of (λ (d : Sent). IsAmong d f.ends.sent) f.ends.sent (λ d is. is)

  abbrev pub w : Flow
  w = waiting_for f.ends.sent f

  pub mirror : (a : Pair) × Mirrors names w a
  mirror = mirror_of names w (waits_timely names f f.ends.sent all_were start.timely)

  abbrev pub a : Pair
  a = mirror.0

  -- these ends, with what comes; and with what comes to the client alone
  abbrev pub p : Pair
  p = record { client = a.client; server = a.server; to_client = read.to_client; to_server = read.to_server }

  abbrev pub c : Pair
  c = record { client = a.client; server = a.server; to_client = read.to_client; to_server = a.to_server }

  all_read : (who : Role) (ps : List Pdu) → AreRead names.key (bytes_from who (pending w)) ps → AreRead names.key (bytes_from who (arriving t f.ends.sent)) ps
  all_read who ps are_read = subst (λ (ds : List Sent). AreRead names.key (bytes_from who ds) ps) (ap (arriving t) (drop_append f.ends.sent f.ends.sent)) are_read

  -- what is so of all that was sent before
  of_before : (who : Role) (Q : Pdu → Type 0) (ps : List Pdu) → Each Q ps → AreRead names.key (bytes_from who (pending w)) ps → (d : Sent) → IsAmong d f.ends.sent
      → can_come t d ≡ true → IsReadAs names.key Q who d
  of_before who Q ps each are_read d is = of_each (λ (x : Sent). can_come t x ≡ true → IsReadAs names.key Q who x) f.ends.sent d
      (each_arrived (IsReadAs names.key Q who) t f.ends.sent (each_from names.key Q who (arriving t f.ends.sent) ps each (all_read who ps are_read))) is

  -- is so of all that comes to the client
  to_client_each : (Q : Pdu → Type 0) → Each Q a.to_client → Each Q read.to_client
  to_client_each Q each = each_read names.key Q Role.Server t due read.to_client
      (each_of _ due (λ d is sender can pdu read_as. of_before Role.Server Q a.to_client each mirror.1.to_client d
      (of_each (λ (x : Sent). x.sender ≡ Role.Server → IsAmong x f.ends.sent) due d before is sender) can sender pdu read_as)) read.of_server

  -- and what is so of that, and of all that the client says in the round, is so of all that comes to the server
  pub to_server_each : (Q : Pdu → Type 0) → Each Q a.to_server → (new : List Sent) → ((d : Sent) → IsAmong d due → IsAmong d (f.ends.sent ++ new)) → (qs : List Pdu) → Each Q qs
      → AreRead names.key (bytes_from Role.Client new) qs → Each Q read.to_server
  to_server_each Q each new among qs said read_new = each_read names.key Q Role.Client t due read.to_server
      (each_of _ due (λ d is sender can pdu read_as. either d sender can pdu read_as (among_both d f.ends.sent new (among d is)))) read.of_client
    where
      either : (d : Sent) → d.sender ≡ Role.Client → can_come t d ≡ true → (pdu : Pdu) → reading names.key d.bytes ≡ Ok pdu → IsAmong d f.ends.sent ⊎ IsAmong d new → Q pdu
      either d sender can pdu read_as (inl one) = of_before Role.Client Q a.to_server each mirror.1.to_server d one can sender pdu read_as
      either d sender can pdu read_as (inr other) =
          of_each (IsReadAs names.key Q Role.Client) new d (each_from names.key Q Role.Client new qs said read_new) other sender pdu read_as

  facts_all : Facts names a
  facts_all = facts names w a mirror.1 (waits_ordered names f f.ends.sent all_were start.ordered)

  pub facts_now : Facts names c
  facts_now = record {
    client = facts_all.client;
    server = facts_all.server;
    client_young = facts_all.client_young;
    server_young = facts_all.server_young;
    shares = facts_all.shares;
    alone = facts_all.alone;
    called = λ e h. to_client_each (IsLately a.server) (facts_all.called e h);
    calls = λ e h i. let x = facts_all.calls e h i in record {
      down = x.down;
      most = x.most;
      some = x.some;
      said = x.said;
      alone = x.alone;
      partner = x.partner;
      first = to_client_each (IsFirst a.server) x.first;
    };
    returned = facts_all.returned;
    waited = λ e h. let x = facts_all.waited e h in (x.0, none_left read.to_client (to_client_each (λ (pdu : Pdu). ⊥) (each_none a.to_client x.1)), x.2);
  }

  pub below_now : BothIn c → Below c
  below_now both = let b = below_first names f f.ends.sent all_were start.timely start.ordered start.rising a mirror.1 (record { client = both.client; server = both.server }) in record {
    client_kept = b.client_kept;
    server_kept = b.server_kept;
    client_keeps = b.client_keeps;
    server_keeps = b.server_keeps;
    to_client = to_client_each (IsBelow a.server.own_first a.server.sent a.server.clock) b.to_client;
    to_server = b.to_server;
  }

-- where the client says nothing, all was sent before
pub all_before : (sent due more : List Sent) → WereSaidBefore Role.Server sent due → ((d : Sent) → IsAmong d due → IsAmong d (sent ++ more)) → bytes_from Role.Client more ≡ [] → WereSent sent due
all_before sent due more before among none = each_of (λ (d : Sent). IsAmong d sent) due (λ d is. by d is d.sender refl)
  where
    not_said : (d : Sent) → d.sender ≡ Role.Client → IsAmong d sent ⊎ IsAmong d more → IsAmong d sent
    not_said d e (inl one) = one
    not_said d e (inr other) = absurd (none_of Role.Client d more none other e)

    by : (d : Sent) → IsAmong d due → (who : Role) → d.sender ≡ who → IsAmong d sent
    by d is Role.Server e = of_each (λ (x : Sent). x.sender ≡ Role.Server → IsAmong x sent) due d before is e
    by d is Role.Client e = not_said d e (among_both d sent more (among d is))

pub before_mute : (key : Key) (sent due new : List Sent) (qs : List Pdu) → WereSaidBefore Role.Server sent due → ((d : Sent) → IsAmong d due → IsAmong d (sent ++ new))
    → AreRead key (bytes_from Role.Client new) qs → qs ≡ [] → WereSent sent due
before_mute key sent due new qs before among read_new mute = all_before sent due new before among (none_read key (bytes_from Role.Client new) qs read_new mute)
