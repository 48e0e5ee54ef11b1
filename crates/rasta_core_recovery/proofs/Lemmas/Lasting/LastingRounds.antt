-- Rounds at work of two ends that stay in a connection: after the first of them no more items wait than were given since.
use Rattle.rasta_core_recovery.proofs.Words.Basics.{◌≡◌, ℕ, zero, suc, ◌∙◌, ◌+◌, ◌*◌, ◌^◌, ◌≤◌, ◌<◌, List, [], ◌∷◌, ◌++◌, length, Some, refl, sym, ap, subst, arith}
use Rattle.rasta_core_recovery.proofs.Words.Links.{LinkState, is_open, Each, EndState, Event, MayRun, Passes, Start, run, started, AreNames, Names, Ends, end_of, sent, Timely, Rises, Role}
use Rattle.rasta_core_recovery.proofs.Words.Recovery.{AreIn, WaitFrom, BeginAtWork, AreStillIn, StayIn, WaitsAsGivenSince, WaitsSince, lasting_rounds, Flow, flow_after, AreAtWork, LeavesOpen, StayBelow, work_round, work_rounds, LawsBelow}
use Rattle.rasta_core_recovery.proofs.Lemmas.Lasting.LongGiven.{all_from, none_from}
use Rattle.rasta_core_recovery.proofs.Lemmas.Lasting.LongAgo.{client_waits, server_waits}
use Rattle.rasta_core_recovery.proofs.Lemmas.AtWork.HandOver.{fits_in}
use Rattle.rasta_core_recovery.proofs.Lemmas.Rounds.Happen.{may_joined, run_joined}
use Rattle.rasta_core_recovery.proofs.Lemmas.Rounds.Bridge.{mirror_of}
use Rattle.rasta_core_recovery.proofs.Lemmas.AtWork.WorkFates.{client_clock_on, server_clock_on}
use Rattle.rasta_core_recovery.proofs.Lemmas.Rounds.Acts.{behind}
use Rattle.rasta_core_recovery.proofs.Lemmas.FirstRound.FirstRises.{Climbs}
use Rattle.rasta_core_recovery.proofs.Lemmas.Rounds.Given.{Grows, grows_none, grows_then}
use Rattle.rasta_core_recovery.proofs.Lemmas.Windows.Confirmed.{Both, client_inside, server_joined}
use Rattle.rasta_core_recovery.proofs.Lemmas.Windows.ConfirmingEvents.{both_of}
use Rattle.rasta_core_recovery.proofs.Lemmas.ComingUp.Hale.{Hale, Keeps, hale_keeps, hale_on}
use Rattle.rasta_core_recovery.proofs.Lemmas.Lasting.LastingEnds.{lasting_ready}
use Rattle.rasta_core_recovery.proofs.Lemmas.Rounds.Links.{Pair}
use Rattle.rasta_core_recovery.proofs.Lemmas.Rounds.Mirror.{Mirrors}
use Rattle.rasta_core_recovery.proofs.Lemmas.Rounds.OneConnection.{given_rises, last_between, were_in}
use Rattle.rasta_core_recovery.proofs.Lemmas.Rounds.Holds.{Holds, holds_after, holds_run}
use Rattle.rasta_core_recovery.proofs.Lemmas.ComingUp.Seen.{BothIn}
use Rattle.rasta_core_recovery.proofs.Lemmas.AtWork.WorkBridge.{Follows, follows}
use Rattle.rasta_core_recovery.proofs.Lemmas.AtWork.WorkRecovers.{climbs_of, sound_of}
use Rattle.rasta_core_recovery.proofs.Lemmas.AtWork.WorkRun.{Run, Sound, reached, rounds_of}

-- ---- rounds as events

-- the events of rounds at work, in their order
abbrev pub events_of_work : List (List Event) → List Event
events_of_work [] = []
events_of_work (calls ∷ others) = (Passes 10000 10000 10000 ∷ calls) ++ events_of_work others

pub work_leads : (rounds : List (List Event)) (f : Flow) → run (events_of_work rounds) f.ends ≡ (work_rounds rounds f).ends
work_leads [] f = refl
work_leads (calls ∷ others) f = run_joined (Passes 10000 10000 10000 ∷ calls) (events_of_work others) f.ends ∙ work_leads others (work_round calls f)

pub work_may : (names : Names) (rounds : List (List Event)) (f : Flow) → AreAtWork names rounds f → MayRun names (events_of_work rounds) f.ends
work_may names [] f work = tt
work_may names (calls ∷ others) f work = may_joined names (Passes 10000 10000 10000 ∷ calls) (events_of_work others) f.ends work.0.may (work_may names others (work_round calls f) work.1)

-- ---- both ends are in a connection before rounds and after each of them

-- Both are in a connection, which has this number.
pub record AreInThis (connection : ℕ) (ends : Ends) : Type 0 where
  pub are : AreIn ends
  pub last : ends.server.connection ≡ Some connection

abbrev pub AreAllIn : ℕ → List (List Event) → Flow → Type 0
AreAllIn connection [] f = AreInThis connection f.ends
AreAllIn connection (calls ∷ others) f = AreInThis connection f.ends × AreAllIn connection others (work_round calls f)

first_in : (connection : ℕ) (rounds : List (List Event)) (f : Flow) → AreAllIn connection rounds f → AreInThis connection f.ends
first_in connection [] f all = all
first_in connection (calls ∷ others) f all = all.0

-- ---- the first so many of some rounds, and the others

record Split (names : Names) (connection n : ℕ) (rounds : List (List Event)) (f : Flow) : Type 0 where
  front : List (List Event)
  back : List (List Event)
  front_long : length front ≡ n
  back_long : length back + n ≡ length rounds
  leads : work_rounds rounds f ≡ work_rounds back (work_rounds front f)
  front_work : AreAtWork names front f
  front_opens : Each (Each LeavesOpen) front
  front_room : StayBelow front f
  front_in : AreAllIn connection front f
  back_work : AreAtWork names back (work_rounds front f)
  back_opens : Each (Each LeavesOpen) back
  back_room : StayBelow back (work_rounds front f)
  back_in : AreAllIn connection back (work_rounds front f)

split : (names : Names) (connection n : ℕ) (rounds : List (List Event)) (f : Flow) → n ≤ length rounds → AreAtWork names rounds f → Each (Each LeavesOpen) rounds → StayBelow rounds f
    → AreAllIn connection rounds f → Split names connection n rounds f
split names connection zero rounds f most work opens room all = record {
  front = [];
  back = rounds;
  front_long = refl;
  back_long = omega arith;
  leads = refl;
  front_work = tt;
  front_opens = tt;
  front_room = tt;
  front_in = first_in connection rounds f all;
  back_work = work;
  back_opens = opens;
  back_room = room;
  back_in = all;
}
split names connection (suc n) [] f most work opens room all = absurd (omega (arith, most))
split names connection (suc n) (calls ∷ others) f most work opens room all =
    let s = split names connection n others (work_round calls f) (omega (arith, most)) work.1 opens.1 room.1 all.1 in record {
      front = calls ∷ s.front;
      back = s.back;
      front_long = ap suc s.front_long;
      back_long = let long = s.back_long in omega (arith, long);
      leads = s.leads;
      front_work = (work.0, s.front_work);
      front_opens = (opens.0, s.front_opens);
      front_room = (room.0, s.front_room);
      front_in = (all.0, s.front_in);
      back_work = s.back_work;
      back_opens = s.back_opens;
      back_room = s.back_room;
      back_in = s.back_in;
    }

-- ---- rounds of two ends that are in it as rounds of two links

both_in : (names : Names) (f : Flow) (p : Pair) → Mirrors names f p → AreIn f.ends → BothIn p
both_in names f p m are = record {
  client = ap (λ (l : LinkState). is_open l.phase) (sym m.client) ∙ are.client;
  server = ap (λ (l : LinkState). is_open l.phase) (sym m.server) ∙ are.server;
}

abbrev IsClimbing : Pair → Type 0
IsClimbing p = BothIn p × Climbs p

record LeadsIn (names : Names) (n : ℕ) (f : Flow) (p : Pair) : Type 0 where
  last : Pair
  is_run : Run names n p last
  mirrors : Mirrors names f last
  all : (k : ℕ) → k ≤ n → IsClimbing (reached k names n p last is_run)

-- From two that are ready to two that are: what each was given since, and what waits of it.
record GrowsOn (names : Names) (n : ℕ) (f : Flow) (p : Pair) : Type 0 where
  last : Pair
  mirrors : Mirrors names f last
  client : Grows p.client last.client
  server : Grows p.server last.server
  client_clock : last.client.clock ≡ p.client.clock + 10 * n
  server_clock : last.server.clock ≡ p.server.clock + 10 * n

module _ (laws : LawsBelow) (names : Names) (are : AreNames names) where
  holds_rounds : (rounds : List (List Event)) (f : Flow) → Holds names f.ends → AreAtWork names rounds f → Holds names (work_rounds rounds f).ends
  holds_rounds [] f holds work = holds
  holds_rounds (calls ∷ others) f holds work = holds_rounds others (work_round calls f) (holds_run laws names are (Passes 10000 10000 10000 ∷ calls) f.ends holds work.0.may) work.1

  -- where both are in it after the last, and it was the server's last before, they are in it after each
  all_in : (rounds : List (List Event)) (f : Flow) → Holds names f.ends → AreAtWork names rounds f → (connection : ℕ) → f.ends.server.connection ≡ Some connection
      → AreInThis connection (work_rounds rounds f).ends → AreAllIn connection rounds f
  all_in [] f holds work connection last behind_in = behind_in
  all_in (calls ∷ others) f holds work connection last behind_in = (record { are = now_in; last = last }, all_in others (work_round calls f) next_holds work.1 connection next_last behind_in)
    where
      next_holds : Holds names (work_round calls f).ends
      next_holds = holds_run laws names are (Passes 10000 10000 10000 ∷ calls) f.ends holds work.0.may

      lead : run (events_of_work (calls ∷ others)) f.ends ≡ (work_rounds (calls ∷ others) f).ends
      lead = work_leads (calls ∷ others) f

      now_in : AreIn f.ends
      now_in = were_in laws names are (events_of_work (calls ∷ others)) f.ends holds.timely (work_may names (calls ∷ others) f work)
          (subst (Timely names) (sym lead) (holds_rounds (calls ∷ others) f holds work).timely)
          connection last (ap (λ (e : Ends). e.server.connection) lead ∙ behind_in.last) (subst AreIn (sym lead) behind_in.are)

      next_last : (work_round calls f).ends.server.connection ≡ Some connection
      next_last = last_between laws names are (Passes 10000 10000 10000 ∷ calls) (events_of_work others) f.ends holds.timely work.0.may next_holds.timely
          (work_may names others (work_round calls f) work.1) Role.Server connection last (ap (λ (e : Ends). e.server.connection) (work_leads others (work_round calls f)) ∙ behind_in.last)

  leads_in : (connection : ℕ) (rounds : List (List Event)) (f : Flow) (p : Pair) → Holds names f.ends → Mirrors names f p → AreAtWork names rounds f → Each (Each LeavesOpen) rounds
      → StayBelow rounds f → AreAllIn connection rounds f → LeadsIn names (length rounds) (work_rounds rounds f) p
  leads_in connection [] f p holds m work opens room all = record { last = p; is_run = refl; mirrors = m; all = λ k most. here k }
    where
      inside : BothIn p
      inside = both_in names f p m all.are

      here : (k : ℕ) → IsClimbing (reached k names 0 p p refl)
      here zero = (inside, climbs_of names f p holds m inside)
      here (suc k) = (inside, climbs_of names f p holds m inside)
  leads_in connection (calls ∷ others) f p holds m work opens room all = on (leads_in connection others (work_round calls f) (behind p now.round) next_holds now.mirrors work.1 opens.1 room.1 all.1)
    where
      now : Follows names f p calls
      now = follows laws names are f p calls m work.0 opens.0 room.0

      next_holds : Holds names (work_round calls f).ends
      next_holds = holds_run laws names are (Passes 10000 10000 10000 ∷ calls) f.ends holds work.0.may

      inside : BothIn p
      inside = both_in names f p m all.0.are

      on : LeadsIn names (length others) (work_rounds others (work_round calls f)) (behind p now.round) → LeadsIn names (suc (length others)) (work_rounds others (work_round calls f)) p
      on l = record { last = l.last; is_run = (now.round, next_sound, l.is_run); mirrors = l.mirrors; all = each }
        where
          next_sound : Sound names (behind p now.round)
          next_sound = sound_of names (work_round calls f) (behind p now.round) next_holds now.mirrors

          each : (k : ℕ) → k ≤ suc (length others) → IsClimbing (reached k names (suc (length others)) p l.last (now.round, next_sound, l.is_run))
          each zero most = (inside, climbs_of names f p holds m inside)
          each (suc k) most = l.all k (omega (arith, most))

  -- after so many rounds both are ready
  ready_in : (rounds : List (List Event)) (f : Flow) (p : Pair) (holds : Holds names f.ends) (m : Mirrors names f p) → (l : LeadsIn names (length rounds) (work_rounds rounds f) p)
      → 397 ≤ length rounds → Hale names l.last
  ready_in rounds f p holds m l long = lasting_ready names (length rounds) l.last (λ k. reached k names (length rounds) p l.last l.is_run)
      (rounds_of names (length rounds) p l.last (sound_of names f p holds m) l.is_run) (λ k le. (l.all k le).0) (λ k le. (l.all k le).1) long

  grows_on : (rounds : List (List Event)) (f : Flow) (p : Pair) → Mirrors names f p → Hale names p → AreAtWork names rounds f → Each (Each LeavesOpen) rounds → StayBelow rounds f
      → GrowsOn names (length rounds) (work_rounds rounds f) p
  grows_on [] f p m hale work opens room = record {
    last = p;
    mirrors = m;
    client = grows_none p.client;
    server = grows_none p.server;
    client_clock = omega arith;
    server_clock = omega arith;
  }
  grows_on (calls ∷ others) f p m hale work opens room = on (grows_on others (work_round calls f) (behind p now.round) now.mirrors next_hale work.1 opens.1 room.1)
    where
      now : Follows names f p calls
      now = follows laws names are f p calls m work.0 opens.0 room.0

      keeps : Keeps p now.round
      keeps = hale_keeps names p now.round hale

      next_hale : Hale names (behind p now.round)
      next_hale = hale_on names p now.round hale

      on : GrowsOn names (length others) (work_rounds others (work_round calls f)) (behind p now.round) → GrowsOn names (suc (length others)) (work_rounds others (work_round calls f)) p
      on l = record {
        last = l.last;
        mirrors = l.mirrors;
        client = grows_then p.client (behind p now.round).client l.last.client keeps.client_grows l.client;
        server = grows_then p.server (behind p now.round).server l.last.server keeps.server_grows l.server;
        client_clock = let c = client_clock_on p now.round keeps.client next_hale.near.to_client.way.is.connected in let d = l.client_clock in omega (arith, c, d);
        server_clock = let c = server_clock_on p now.round keeps.server next_hale.near.to_server.way.is.connected in let d = l.server_clock in omega (arith, c, d);
      }

-- ---- what was given since

-- The link of an end in a connection counts what this has given there, and nothing waits under PDUs that it hasn't sent yet.
record CountsGiven (end : EndState) : Type 0 where
  given_is : end.link.given ≡ length end.given
  few : length end.given < 2 ^ 31
  waits : Rises 0 end.link.sent end.link.waiting

module _ (names : Names) (ends : Ends) (both : Both names ends) where
  client_counts : CountsGiven ends.client
  client_counts =
      let c = client_inside names ends both
      in let t = both.together
      in let few = t.client_few
      in let fits = t.order.there.counts.fits
      in let same = ap length t.client_given
      in record {
        given_is = c.keeps.given ∙ (fits_in (length t.client.given) (omega (arith, few, fits)) ∙ same);
        few = omega (arith, few, fits, same);
        waits = subst (λ (n : ℕ). Rises 0 n ends.client.link.waiting) (sym c.counted) (subst (Rises 0 (sent t.client)) (sym c.keeps.waiting) t.order.there.waits.rises);
      }

  server_counts : CountsGiven ends.server
  server_counts =
      let j = server_joined names ends both
      in let t = both.together
      in let few = t.server_few
      in let fits = t.order.back.counts.fits
      in let same = ap length t.server_given
      in record {
        given_is = j.inside.keeps.given ∙ (fits_in (length t.server.given) (omega (arith, few, fits)) ∙ same);
        few = omega (arith, few, fits, same);
        waits = subst (λ (n : ℕ). Rises 0 n ends.server.link.waiting) (sym j.inside.counted) (subst (Rises 0 (sent t.server)) (sym j.inside.keeps.waiting) t.order.back.waits.rises);
      }

-- Where nothing of what an end had sent at the second of three moments waits at the third, and what waits has grown since by no more than was given,
-- what it had given at the first is confirmed.
no_more_wait : (first second third : EndState) → length first.given ≤ length second.given → CountsGiven first → CountsGiven second → CountsGiven third → Grows second.link third.link
    → WaitFrom second.link.sent third.link
    → WaitsAsGivenSince first third
no_more_wait first second third before oldest old new grows since = record { items = fewer; counted = oldest.given_is; counts = new.given_is }
  where
    fewer : length third.link.waiting + length first.given ≤ length third.given
    fewer =
        let was = old.given_is
        in let is = new.given_is
        in let few = new.few
        in let all = all_from second.link.sent third.link.waiting since
        in let none = none_from 0 second.link.sent second.link.waiting old.waits
        in let more = (grows.waits (omega (arith, is, few))).1 second.link.sent (omega arith)
        in omega (arith, before, was, is, all, none, more)

-- ---- two ends that stay in a connection

module _ (laws : LawsBelow) (names : Names) (are : AreNames names) (f : Flow) (calls : List Event) (others : List (List Event)) (holds : Holds names f.ends)
    (may : MayRun names (Passes 10000 10000 10000 ∷ calls) f.ends)
    (work : AreAtWork names others (work_round calls f)) (opens : Each (Each LeavesOpen) others) (room : StayBelow others (work_round calls f)) (long : lasting_rounds ≤ suc (length others))
    (stay : AreStillIn f.ends (work_rounds others (work_round calls f)).ends) where
  abbrev g : Flow
  g = work_round calls f

  holds1 : Holds names g.ends
  holds1 = holds_run laws names are (Passes 10000 10000 10000 ∷ calls) f.ends holds may

  holds3 : Holds names (work_rounds others g).ends
  holds3 = holds_rounds laws names are others g holds1 work

  both3 : Both names (work_rounds others g).ends
  both3 = both_of names (work_rounds others g).ends holds3.timely holds3.ordered stay.are

  abbrev connection : ℕ
  connection = both3.together.connection

  last3 : (work_rounds others g).ends.server.connection ≡ Some connection
  last3 = both3.together.of_server

  last0 : f.ends.server.connection ≡ Some connection
  last0 = sym stay.same ∙ last3

  last1 : g.ends.server.connection ≡ Some connection
  last1 = last_between laws names are (Passes 10000 10000 10000 ∷ calls) (events_of_work others) f.ends holds.timely may holds1.timely
      (work_may names others g work) Role.Server connection last0
      (ap (λ (e : Ends). e.server.connection) (work_leads others g) ∙ last3)

  s : Split names connection 397 others g
  s = split names connection 397 others g (omega (arith, long)) work opens room (all_in laws names are others g holds1 work connection last1 (record { are = stay.are; last = last3 }))

  -- after the first of these rounds, in which both have come to be ready
  abbrev h : Flow
  h = work_rounds s.front g

  holds2 : Holds names h.ends
  holds2 = holds_rounds laws names are s.front g holds1 s.front_work

  mirror1 : (p : Pair) × Mirrors names g p
  mirror1 = mirror_of names g holds1.timely

  front : LeadsIn names (length s.front) h mirror1.0
  front = leads_in laws names are connection s.front g mirror1.0 holds1 mirror1.1 s.front_work s.front_opens s.front_room s.front_in

  hale : Hale names front.last
  hale = let l = s.front_long in ready_in laws names are s.front g mirror1.0 holds1 mirror1.1 front (omega (arith, l))

  back : GrowsOn names (length s.back) (work_rounds s.back h) front.last
  back = grows_on laws names are s.back h front.last front.mirrors hale s.back_work s.back_opens s.back_room

  in2 : AreInThis connection h.ends
  in2 = first_in connection s.back h s.back_in

  both2 : Both names h.ends
  both2 = both_of names h.ends holds2.timely holds2.ordered in2.are

  lead : run (events_of_work s.back) h.ends ≡ (work_rounds others g).ends
  lead = work_leads s.back h ∙ sym (ap (λ (x : Flow). x.ends) s.leads)

  stay2 : StayIn h.ends (run (events_of_work s.back) h.ends)
  stay2 = subst (StayIn h.ends) (sym lead) (record { before = in2.are; after = stay.are; same = last3 ∙ sym in2.last })

  last_is : Mirrors names (work_rounds others g) back.last
  last_is = subst (λ (x : Flow). Mirrors names x back.last) (sym s.leads) back.mirrors

  may2 : MayRun names (events_of_work s.back) h.ends
  may2 = work_may names s.back h s.back_work

  -- what was given by then
  may02 : MayRun names (events_of_work (calls ∷ s.front)) f.ends
  may02 = may_joined names (Passes 10000 10000 10000 ∷ calls) (events_of_work s.front) f.ends may (work_may names s.front g s.front_work)

  lead02 : run (events_of_work (calls ∷ s.front)) f.ends ≡ h.ends
  lead02 = work_leads (calls ∷ s.front) f

  in_one : (ends : Ends) → Timely names ends → AreIn ends → ends.server.connection ≡ ends.client.connection
  in_one ends timely are_in = laws.one_connection_inside names ends timely are_in.client are_in.server

  in0 : AreIn f.ends
  in0 = were_in laws names are (events_of_work (calls ∷ s.front)) f.ends holds.timely may02 (subst (Timely names) (sym lead02) holds2.timely) connection last0
      (ap (λ (e : Ends). e.server.connection) lead02 ∙ in2.last) (subst AreIn (sym lead02) in2.are)

  both0 : Both names f.ends
  both0 = both_of names f.ends holds.timely holds.ordered in0

  given_before : (who : Role) → length (end_of who f.ends).given ≤ length (end_of who h.ends).given
  given_before Role.Client = subst (λ (e : Ends). length f.ends.client.given ≤ length e.client.given) lead02
      (given_rises laws names are (events_of_work (calls ∷ s.front)) f.ends holds.timely may02 Role.Client connection
      (sym (in_one f.ends holds.timely in0) ∙ last0)
      (ap (λ (e : Ends). e.client.connection) lead02 ∙ (sym (in_one h.ends holds2.timely in2.are) ∙ in2.last))
      (ap (λ (e : Ends). is_open e.client.link.phase) lead02 ∙ in2.are.client))
  given_before Role.Server = subst (λ (e : Ends). length f.ends.server.given ≤ length e.server.given) lead02
      (given_rises laws names are (events_of_work (calls ∷ s.front)) f.ends holds.timely may02 Role.Server connection last0
      (ap (λ (e : Ends). e.server.connection) lead02 ∙ in2.last) (ap (λ (e : Ends). is_open e.server.link.phase) lead02 ∙ in2.are.server))

  client_long : h.ends.client.link.clock + 1800 ≤ (work_rounds others g).ends.client.link.clock
  client_long = let a = ap (λ (l : LinkState). l.clock) front.mirrors.client in let b = ap (λ (l : LinkState). l.clock) last_is.client in let c = back.client_clock in let d = s.back_long in
      omega (arith, a, b, c, d, long)

  server_long : h.ends.server.link.clock + 1800 ≤ (work_rounds others g).ends.server.link.clock
  server_long = let a = ap (λ (l : LinkState). l.clock) front.mirrors.server in let b = ap (λ (l : LinkState). l.clock) last_is.server in let c = back.server_clock in let d = s.back_long in
      omega (arith, a, b, c, d, long)

  lasting_confirmed : (who : Role) → WaitsAsGivenSince (end_of who f.ends) (end_of who (work_rounds others g).ends)
  lasting_confirmed Role.Client = no_more_wait f.ends.client h.ends.client (work_rounds others g).ends.client (given_before Role.Client)
      (client_counts names f.ends both0) (client_counts names h.ends both2)
      (client_counts names (work_rounds others g).ends both3)
      (subst (λ (l : LinkState). Grows l (work_rounds others g).ends.client.link) (sym front.mirrors.client) (subst (Grows front.last.client) (sym last_is.client) back.client))
      ((subst (λ (e : Ends). WaitsSince h.ends.client.link e.client.link) lead
      (client_waits laws names are h.ends holds2 (events_of_work s.back) may2 stay2)).long_ago client_long)
  lasting_confirmed Role.Server = no_more_wait f.ends.server h.ends.server (work_rounds others g).ends.server (given_before Role.Server)
      (server_counts names f.ends both0) (server_counts names h.ends both2)
      (server_counts names (work_rounds others g).ends both3)
      (subst (λ (l : LinkState). Grows l (work_rounds others g).ends.server.link) (sym front.mirrors.server) (subst (Grows front.last.server) (sym last_is.server) back.server))
      ((subst (λ (e : Ends). WaitsSince h.ends.server.link e.server.link) lead
      (server_waits laws names are h.ends holds2 (events_of_work s.back) may2 stay2)).long_ago server_long)

pub given_before_is_confirmed : LawsBelow → (names : Names) (start : Start) (events : List Event) (passed : ℕ) (rounds : List (List Event)) (who : Role) → AreNames names
    → MayRun names events (started names start) → BeginAtWork names rounds (flow_after names start events passed) → Each (Each LeavesOpen) rounds
    → StayBelow rounds (flow_after names start events passed) → lasting_rounds ≤ length rounds
    → AreStillIn (run events (started names start)) (work_rounds rounds (flow_after names start events passed)).ends
    → WaitsAsGivenSince (end_of who (run events (started names start))) (end_of who (work_rounds rounds (flow_after names start events passed)).ends)
given_before_is_confirmed laws names start events passed [] who are may work opens room long stay = absurd (omega (arith, long))
given_before_is_confirmed laws names start events passed (calls ∷ others) who are may work opens room long stay =
    lasting_confirmed laws names are (flow_after names start events passed) calls others (holds_after laws names start events are may) work.0.may work.1 opens.1 room.1 long stay who
