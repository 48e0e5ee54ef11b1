-- From the round on in which a point's link is ready it stays in its connection, and what the interlocking has given there counts on.
use Rattle.simulator_recovery.proofs.Words.Basics.{◌≡◌, ℕ, suc, ◌∙◌, ◌<◌, ◌≤◌, List, [], ◌∷◌, ◌++◌, append-nil, append_assoc, length, Some, sym, ap, subst, arith, length-append, same_Some}
use Rattle.simulator_recovery.proofs.Words.Links.{Each, LinkState}
use Rattle.simulator_recovery.proofs.Words.Interlockings.{IsTableOf}
use Rattle.simulator_recovery.proofs.Words.Stations.{Site, Once, IsStation, Event, Flowing, round, point_link, WorldState, IsReached}
use Rattle.simulator_recovery.proofs.Words.Recovery.{IsUpOn, HasGivenOn, IsWork, all_tried, good_rounds, LawsBelow}
use Rattle.simulator_recovery.proofs.Lemmas.Points.BeginsMoment.{gave_at, gave_on, same_connection}
use Rattle.simulator_recovery.proofs.Lemmas.Points.MovesBehind.{Are, front_are, point, up_at}
use Rattle.simulator_recovery.proofs.Lemmas.Points.MovesMoment.{PointAt}
use Rattle.simulator_recovery.proofs.Lemmas.Links.UnderHosts.{host_rounds}

-- from one moment to a second, and to a third
then_on : (link : ℕ) (one two three : WorldState) → HasGivenOn link one two → HasGivenOn link two three → HasGivenOn link one three
then_on link one two three first second =
    let same = same_Some second.connection first.connection (same_Some (Some second.connection) (Some first.connection) (sym second.was_in ∙ first.is_in))
    in let between_them = ap (λ (l : LinkState). l.given) (same_Some first.behind.client second.before.client (sym first.behind.client_there ∙ second.before.client_there))
    in let a = first.as_many
    in let b = second.as_many
    in record {
      connection = first.connection;
      was_in = first.was_in;
      is_in = second.is_in ∙ ap (λ (c : ℕ). Some (Some c)) same;
      before = first.before;
      behind = second.behind;
      as_many = omega (arith, between_them, a, b);
    }

module _ (laws : LawsBelow) (between : List Event) (flowing : Flowing) (place : ℕ) (once : Once flowing.state.sited.site)
    (station : IsStation flowing.state.sited.site)
    (is_table : IsTableOf flowing.state.sited.site flowing.state.sited.table) (reached : IsReached flowing.state.sited.site flowing.state.sited.table flowing.state.run)
    (work : Each IsWork between) (few : place < length flowing.state.sited.site.points) where
  abbrev site : Site
  site = flowing.state.sited.site

  abbrev link : ℕ
  link = point_link site place

  abbrev next : Flowing
  next = all_tried between (round flowing)

  abbrev world_at : List (List Event) → WorldState
  world_at rounds = (good_rounds rounds next).state.run

  abbrev OfRounds : List (List Event) → Type 0
  OfRounds rounds = Are laws between flowing place once station is_table reached work few rounds

  abbrev up_of : (rounds : List (List Event)) → OfRounds rounds → IsUpOn link (world_at rounds)
  up_of rounds a = up_at laws between flowing place once station is_table reached work few rounds a

  abbrev point_of : (rounds : List (List Event)) (a : OfRounds rounds) → PointAt site (world_at rounds) place (up_of rounds a)
  point_of rounds a = point laws between flowing place once station is_table reached work few rounds a

  stays : (rounds : List (List Event)) → OfRounds rounds → HasGivenOn link (world_at rounds) (world_at rounds)
  stays rounds a = record {
    connection = (point_of rounds a).one.connection;
    was_in = (point_of rounds a).connections;
    is_in = (point_of rounds a).connections;
    before = up_of rounds a;
    behind = up_of rounds a;
    as_many = omega arith;
  }

  -- a round more
  one_round : (front : List (List Event)) (last : List Event) → host_rounds ≤ suc (length front) → OfRounds front → OfRounds (front ++ last ∷ [])
      → HasGivenOn link (world_at front) (world_at (front ++ last ∷ []))
  one_round front last long f a = record {
    connection = (point_of front f).one.connection;
    was_in = (point_of front f).connections;
    is_in = (point_of rounds a).connections ∙ ap (λ (c : ℕ). Some (Some c)) (same_connection laws between flowing place once station is_table reached work few front last long f a);
    before = up_of front f;
    behind = up_of rounds a;
    as_many = let all = ap length more.1
        in let parts = length-append (gave front f) more.0
        in let old = (point_of front f).client_given
        in let new = (point_of rounds a).client_given
        in omega (arith, all, parts, old, new);
  }
    where
      rounds : List (List Event)
      rounds = front ++ last ∷ []

      gave : (list : List (List Event)) → OfRounds list → List (List ℕ)
      gave list are = gave_at laws between flowing place once station is_table reached work few list are

      more : (more : List (List ℕ)) × (gave rounds a ≡ gave front f ++ more)
      more = gave_on laws between flowing place once station is_table reached work few front last long f a

  pub counts_on : (more front : List (List Event)) → host_rounds ≤ suc (length front) → OfRounds (front ++ more) → HasGivenOn link (world_at front) (world_at (front ++ more))
  counts_on [] front long a = subst (λ (rounds : List (List Event)). HasGivenOn link (world_at front) (world_at rounds)) (sym (append-nil front))
      (stays front (front_are laws between flowing place once station is_table reached work few front [] long a))
  counts_on (first ∷ more) front long a =
      let joined = append_assoc front (first ∷ []) more
      in let longer : host_rounds ≤ suc (length (front ++ first ∷ [])) = let n = length-append front (first ∷ []) in omega (arith, long, n)
      in let then_are = subst OfRounds (sym joined) a
      in let one = one_round front first long (front_are laws between flowing place once station is_table reached work few front (first ∷ more) long a)
      (front_are laws between flowing place once station is_table reached work few (front ++ first ∷ []) more longer then_are)
      in subst (λ (rounds : List (List Event)). HasGivenOn link (world_at front) (world_at rounds)) joined
      (then_on link (world_at front) (world_at (front ++ first ∷ [])) (world_at ((front ++ first ∷ []) ++ more)) one (counts_on more (front ++ first ∷ []) longer then_are))
