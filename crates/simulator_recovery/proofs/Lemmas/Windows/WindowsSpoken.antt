-- On each link of a station that is up the interlocking says something in 30 good rounds.
use Rattle.simulator_recovery.proofs.Words.Basics.{◌≡◌, ℕ, suc, ◌+◌, ◌<◌, ◌≤◌, List, [], ◌∷◌, ◌++◌, length, refl, sym, ap, subst, ◌∙◌, arith}
use Rattle.simulator_recovery.proofs.Words.Links.{speaking_rounds, Flow, flow_after, AreAtWork, LeavesOpen, StayBelow, recovery_rounds_at_work, work_round, work_rounds, Each, Event as LinkEvent, Links, of_link, start_of, Names}
use Rattle.simulator_recovery.proofs.Words.Interlockings.{IsTableOf, SitedTable}
use Rattle.simulator_recovery.proofs.Words.Stations.{Once, IsStation, Event, Flowing, round, names_at, starts_at_zero, links, IsReached}
use Rattle.simulator_recovery.proofs.Words.Recovery.{HasSpoken, IsUpOn, StaysBelowLimit, calls_on, link_rounds, links_behind, HasTime, IsWork, all_tried, clocks_of, good_rounds, LawsBelow}
use Rattle.simulator_recovery.proofs.Lemmas.Links.ComeUp.{Begun, begun_so, behind_rounds, lists_length, lists_on, rounds_open, rounds_stay}
use Rattle.simulator_recovery.proofs.Lemmas.Rounds.LinkRounds.{are_links}
use Rattle.simulator_recovery.proofs.Lemmas.Links.Ready.{IsUpBehind, fewer_time}
use Rattle.simulator_recovery.proofs.Lemmas.Windows.WindowsConfirmed.{sent_at, up_behind}

-- ---- rounds in two parts

pub count_two : {X : Type 0} (one other : List X) → length (one ++ other) ≡ length one + length other
count_two [] other = omega arith
count_two (x ∷ one) other = let more = count_two one other in omega (arith, more)

pub each_two : {X : Type 0} (P : X → Type 0) (one other : List X) → Each P (one ++ other) → Each P one × Each P other
each_two P [] other each = (tt, each)
each_two P (x ∷ one) other each = let more = each_two P one other each.1 in ((each.0, more.0), more.1)

pub rounds_two : (one other : List (List LinkEvent)) (f : Flow) → work_rounds (one ++ other) f ≡ work_rounds other (work_rounds one f)
rounds_two [] other f = refl
rounds_two (first ∷ one) other f = rounds_two one other (work_round first f)

pub work_two : (names : Names) (one other : List (List LinkEvent)) (f : Flow) → AreAtWork names (one ++ other) f → AreAtWork names one f × AreAtWork names other (work_rounds one f)
work_two names [] other f work = (tt, work)
work_two names (first ∷ one) other f work = let more = work_two names one other (work_round first f) work.1 in ((work.0, more.0), more.1)

pub below_two : (one other : List (List LinkEvent)) (f : Flow) → StayBelow (one ++ other) f → StayBelow one f × StayBelow other (work_rounds one f)
below_two [] other f below = (tt, below)
below_two (first ∷ one) other f below = let more = below_two one other (work_round first f) below.1 in ((below.0, more.0), more.1)

pub lists_two : (link : ℕ) (one other : List (List Event)) (flowing : Flowing) (before : Links) → (lists : List (List LinkEvent)) × (lists_on link (one ++ other) flowing before ≡ lists_on link one flowing before ++ lists)
lists_two link [] other flowing before = (lists_on link other flowing before, refl)
lists_two link (first ∷ one) other flowing before =
    let more = lists_two link one other (all_tried first (round flowing)) (links_behind first flowing before)
    in (more.0, ap (λ (l : List (List LinkEvent)). calls_on link first flowing before ∷ l) more.1)

-- ---- a link

module _ (laws : LawsBelow) (sited : SitedTable) (station : IsStation sited.site) (once : Once sited.site) (is_table : IsTableOf sited.site sited.table) (link : ℕ) (there : link < links sited.site)
    (first : List Event) (flowing : Flowing) (work_first : Each IsWork first) (start : Begun laws sited station once is_table link there first flowing) (later_rounds more : List (List Event)) where
  abbrev next : Flowing
  next = all_tried first (round flowing)

  abbrev UpBehind : List (List Event) → Type 0
  UpBehind some = IsUpBehind laws sited station once is_table link there first flowing work_first start some

  abbrev lists : List (List Event) → List (List LinkEvent)
  lists some = lists_on link some next start.before

  abbrev passed : ℕ
  passed = length (of_link link flowing.state.run.sent)

  abbrev flow : Flow
  flow = flow_after (names_at sited.site link) (start_of link starts_at_zero) start.is_run.events passed

  two : (calls : List (List LinkEvent)) × (lists (later_rounds ++ more) ≡ lists later_rounds ++ calls)
  two = lists_two link later_rounds more next start.before

  module _ (works : Each (Each IsWork) (later_rounds ++ more)) (can : HasTime (length (later_rounds ++ more)) next.state.run) (t : UpBehind (later_rounds ++ more)) (long : recovery_rounds_at_work ≤ length later_rounds) where
    work_so : AreAtWork (names_at sited.site link) (lists later_rounds) flow × AreAtWork (names_at sited.site link) two.0 (work_rounds (lists later_rounds) flow)
    work_so = work_two (names_at sited.site link) (lists later_rounds) two.0 flow (subst (λ (l : List (List LinkEvent)). AreAtWork (names_at sited.site link) l flow) two.1 t.behind.work)

    opens_so : Each (Each LeavesOpen) (lists later_rounds) × Each (Each LeavesOpen) two.0
    opens_so = each_two (Each LeavesOpen) (lists later_rounds) two.0 (subst (Each (Each LeavesOpen)) two.1 t.opens)

    below_so : StayBelow (lists later_rounds) flow × StayBelow two.0 (work_rounds (lists later_rounds) flow)
    below_so = below_two (lists later_rounds) two.0 flow (subst (λ (l : List (List LinkEvent)). StayBelow l flow) two.1 t.below)

    -- the first part is enough for the link to be up
    pub front : UpBehind later_rounds
    front = record {
      behind = behind_rounds laws sited station once is_table link there first flowing work_first start later_rounds (each_two (Each IsWork) later_rounds more works).0
          (fewer_time (length later_rounds) (length (later_rounds ++ more)) (clocks_of next.state.run) (let n = count_two later_rounds more in omega (arith, n)) can);
      opens = opens_so.0;
      below = below_so.0;
      long = long;
    }

    pub speaks : speaking_rounds ≤ length more → HasSpoken link (good_rounds later_rounds next).state.run (good_rounds (later_rounds ++ more) next).state.run
    speaks enough = record { before = was; behind = is; sent = let s = spoken in omega (arith, s, sent_was, sent_is) }
      where
        was : IsUpOn link (good_rounds later_rounds next).state.run
        was = up_behind laws sited station once is_table link there first flowing work_first start later_rounds front

        is : IsUpOn link (good_rounds (later_rounds ++ more) next).state.run
        is = up_behind laws sited station once is_table link there first flowing work_first start (later_rounds ++ more) t

        sent_was : (work_rounds (lists later_rounds) flow).ends.client.link.sent ≡ was.client.sent
        sent_was = sent_at laws sited station once is_table link there first flowing work_first start later_rounds front was

        sent_is : (work_rounds (lists (later_rounds ++ more)) flow).ends.client.link.sent ≡ is.client.sent
        sent_is = sent_at laws sited station once is_table link there first flowing work_first start (later_rounds ++ more) t is

        many : length two.0 ≡ length more
        many =
            let a = lists_length link (later_rounds ++ more) next start.before
            in let b = lists_length link later_rounds next start.before
            in let c = count_two later_rounds more
            in let d = ap length two.1
            in let e = count_two (lists later_rounds) two.0
            in omega (arith, a, b, c, d, e)

        spoken : (work_rounds (lists later_rounds) flow).ends.client.link.sent < (work_rounds (lists (later_rounds ++ more)) flow).ends.client.link.sent
        spoken = subst (λ (f : Flow). (work_rounds (lists later_rounds) flow).ends.client.link.sent < f.ends.client.link.sent) (sym (ap (λ (l : List (List LinkEvent)). work_rounds l flow) two.1 ∙ rounds_two (lists later_rounds) two.0 flow))
            (laws.clients_at_work_speak (names_at sited.site link) (start_of link starts_at_zero) start.is_run.events passed (lists later_rounds) two.0 ((are_links laws sited station once).each link there) start.is_run.may
            work_so.0 opens_so.0 below_so.0 (let n = lists_length link later_rounds next start.before in omega (arith, n, long)) work_so.1 opens_so.1 below_so.1 (omega (arith, many, enough)))

pub links_speak : LawsBelow → (between : List Event) (later_rounds more : List (List Event)) (flowing : Flowing) (link : ℕ) → Once flowing.state.sited.site → IsStation flowing.state.sited.site
    → IsTableOf flowing.state.sited.site flowing.state.sited.table → IsReached flowing.state.sited.site flowing.state.sited.table flowing.state.run → Each IsWork between → Each (Each IsWork) (later_rounds ++ more)
    → HasTime (suc (length (later_rounds ++ more))) flowing.state.run → link < links flowing.state.sited.site → link_rounds ≤ suc (length later_rounds) → speaking_rounds ≤ length more
    → StaysBelowLimit flowing.state.sited.site link (later_rounds ++ more) (all_tried between (round flowing))
    → HasSpoken link (good_rounds (between ∷ later_rounds) flowing).state.run (good_rounds (between ∷ (later_rounds ++ more)) flowing).state.run
links_speak laws between later_rounds more flowing link once station is_table reached work works can there long enough below =
    let sited = flowing.state.sited
    in let start = begun_so laws sited station once is_table link there between flowing refl reached work
    in let next = all_tried between (round flowing)
    in let rounds = later_rounds ++ more
    in let count = count_two later_rounds more
    in let later_can = start.later_can (length rounds) can
    in let b = behind_rounds laws sited station once is_table link there between flowing work start rounds works later_can
    in let t : IsUpBehind laws sited station once is_table link there between flowing work start rounds
    = record { behind = b; opens = rounds_open link rounds next start.before works (rounds_stay laws sited station once is_table link there rounds next start.is); below = b.below below; long = omega (arith, long, count) }
    in speaks laws sited station once is_table link there between flowing work start later_rounds more works later_can t (omega (arith, long)) enough
