-- What comes on a link in the first of good rounds, where nothing old of it is said again in it: copies of what was sent before.
use Rattle.simulator_recovery.proofs.Words.Basics.{◌≡◌, ℕ, zero, suc, ◌⊎◌, inl, inr, ◌∙◌, ◌+◌, Bool, true, false, ◌&&◌, not, nat_le, List, [], ◌∷◌, ◌++◌, append_assoc, length, map, if◌then◌else◌, Option, Some, None, refl, sym, ap, subst, arith, ◌==◌, slice_get, bytes_eq, nat_tests, bytes_eq-Decides}
use Rattle.simulator_recovery.proofs.Words.Links.{WereSent, can_come, IsBeforeTick, due_to, is_alive_copy, lifetime, newest_copy, Each, Sent, IsAmong, is_same, IsAmongAll, Links, LinksEvent, OnLink, of_link, run_links, partner_of, Role, intact}
use Rattle.simulator_recovery.proofs.Words.Interlockings.{SitedTable}
use Rattle.simulator_recovery.proofs.Words.Stations.{Site, Once, IsStation, Event, NodeId, Refused, NeverSent, RoundEvent, deliveries, delivery, copy_of, datagrams_of, key_of, is_missing, refusal, WorldState, Played, after, arrival_in, arriving, arriving_if, receiver, refusal_of, events_of}
use Rattle.simulator_recovery.proofs.Words.Recovery.{all_events_tried, event_of, events_tried, events_where, LawsBelow}
use Rattle.simulator_recovery.proofs.Lemmas.Rounds.Arrives.{count_more, found_first, found_later, get_after, not_refused, there_is}
use Rattle.simulator_recovery.proofs.Lemmas.Rounds.AtWork.{IsFrom, comes_at, comes_front, deliver, due_here, due_one, of_both}
use Rattle.simulator_recovery.proofs.Lemmas.Rounds.Clocks.{IsCalm}
use Rattle.simulator_recovery.proofs.Lemmas.Ground.EndCalls.{IsFront, all_called_at, called_both, front_said, front_then}
use Rattle.simulator_recovery.proofs.Lemmas.Rounds.LinkRounds.{HasThese, after_each, tried_followed}
use Rattle.simulator_recovery.proofs.Lemmas.Rounds.Sends.{Adds, HasAdded, adds_none, tried_adds}

-- ---- the copy that is found

no_some : (o : Option Sent) (c : Sent) → o ≡ Some c → o ≡ None → ⊥
no_some o c a b = cc

same_some : (o : Option Sent) (c d : Sent) → o ≡ Some c → o ≡ Some d → c ≡ d
same_some o c d a b = cc (a, b)

-- no copy is found among more, so none is found among fewer
pub none_before : (time : ℕ) (bytes : List ℕ) (xs ys : List OnLink) → newest_copy time bytes (datagrams_of (xs ++ ys)) ≡ None → newest_copy time bytes (datagrams_of xs) ≡ None
none_before time bytes [] ys none = refl
none_before time bytes (x ∷ xs) ys none = by_later (λ f. none_before time bytes xs ys f) (newest_copy time bytes (datagrams_of (xs ++ ys))) refl
  where
    by_first : newest_copy time bytes (datagrams_of (xs ++ ys)) ≡ None → newest_copy time bytes (datagrams_of xs) ≡ None → (b : Bool) → is_alive_copy time bytes x.datagram ≡ b
        → newest_copy time bytes (datagrams_of (x ∷ xs)) ≡ None
    by_first f e true a = absurd (no_some _ x.datagram (found_first time bytes x.datagram (datagrams_of (xs ++ ys)) f a) none)
    by_first f e false a = rw (e, a) refl

    by_later : (newest_copy time bytes (datagrams_of (xs ++ ys)) ≡ None → newest_copy time bytes (datagrams_of xs) ≡ None) → (o : Option Sent)
        → newest_copy time bytes (datagrams_of (xs ++ ys)) ≡ o → newest_copy time bytes (datagrams_of (x ∷ xs)) ≡ None
    by_later before (Some c) f = absurd (no_some _ c (found_later time bytes x.datagram (datagrams_of (xs ++ ys)) c f) none)
    by_later before None f = by_first f (before f) (is_alive_copy time bytes x.datagram) refl

-- one is found among some, so one is found among more
some_among_more : (time : ℕ) (bytes : List ℕ) (xs ys : List OnLink) (c : Sent) → newest_copy time bytes (datagrams_of xs) ≡ Some c
    → (copy : Sent) × (newest_copy time bytes (datagrams_of (xs ++ ys)) ≡ Some copy)
some_among_more time bytes xs ys c found = choose (newest_copy time bytes (datagrams_of (xs ++ ys))) refl
  where
    choose : (o : Option Sent) → newest_copy time bytes (datagrams_of (xs ++ ys)) ≡ o → (copy : Sent) × (newest_copy time bytes (datagrams_of (xs ++ ys)) ≡ Some copy)
    choose (Some copy) e = (copy, e)
    choose None e = absurd (no_some _ c found (none_before time bytes xs ys e))

-- it is of one of them, and can come
pub record IsFound (time : ℕ) (bytes : List ℕ) (xs : List OnLink) (c : Sent) : Type 0 where
  pub one : OnLink
  pub among : IsAmongAll one xs
  pub is : one.datagram ≡ c
  pub alive : is_alive_copy time bytes c ≡ true

pub found_is : (time : ℕ) (bytes : List ℕ) (xs : List OnLink) (c : Sent) → newest_copy time bytes (datagrams_of xs) ≡ Some c → IsFound time bytes xs c
found_is time bytes [] c found = absurd (cc found)
found_is time bytes (x ∷ xs) c found = by_later (λ e. found_is time bytes xs c e) (newest_copy time bytes (datagrams_of xs)) refl
  where
    by_first : newest_copy time bytes (datagrams_of xs) ≡ None → (b : Bool) → is_alive_copy time bytes x.datagram ≡ b → IsFound time bytes (x ∷ xs) c
    by_first none true a = let same = same_some _ x.datagram c (found_first time bytes x.datagram (datagrams_of xs) none a) found in
        record { one = x; among = inl refl; is = same; alive = subst (λ (d : Sent). is_alive_copy time bytes d ≡ true) same a }
    by_first none false a = absurd (no_some _ c found (rw (none, a) refl))

    by_later : (newest_copy time bytes (datagrams_of xs) ≡ Some c → IsFound time bytes xs c) → (o : Option Sent) → newest_copy time bytes (datagrams_of xs) ≡ o
        → IsFound time bytes (x ∷ xs) c
    by_later before (Some d) e =
        let f = before (e ∙ ap Some (same_some _ d c (found_later time bytes x.datagram
        (datagrams_of xs) d e) found)) in record { one = f.one; among = inr f.among; is = f.is; alive = f.alive }
    by_later before None e = by_first e (is_alive_copy time bytes x.datagram) refl

both_true : (a b : Bool) → a && b ≡ true → (a ≡ true) × (b ≡ true)
both_true true b e = (refl, e)
both_true false b e = cc

-- so it can come, with these bytes
pub alive_comes : (time : ℕ) (bytes : List ℕ) (c : Sent) → is_alive_copy time bytes c ≡ true → (can_come time c ≡ true) × (c.bytes ≡ bytes)
alive_comes time bytes c alive =
    let a = both_true (nat_le time (c.at + lifetime)) (not c.is_lost && bytes_eq c.bytes bytes) alive in let b = both_true (not c.is_lost) (bytes_eq c.bytes bytes) a.1 in
    (rw (b.0, a.0) refl, (bytes_eq-Decides c.bytes bytes).0 b.1)

old_refused : (site : Site) (node : NodeId) (bytes : List ℕ) (world : WorldState) → is_missing node.0 site ≡ false → copy_of bytes world ≡ None → intact (key_of site) bytes ≡ true
    → refusal site (Event.Deliver node bytes) world ≡ Some NeverSent
unfolding refusal
old_refused site node bytes world there none whole = rw (there, none, whole) refl

-- ---- those that aren't lost are tried

abbrev arrival_at : ℕ → Bool → OnLink → List RoundEvent
arrival_at place true one = []
arrival_at place false one = record { event = Event.Deliver (receiver one.datagram.sender one.link) one.datagram.bytes; passed = suc place } ∷ []

abbrev pub arrivals_there : ℕ → List OnLink → List RoundEvent
arrivals_there place [] = []
arrivals_there place (one ∷ more) = arrival_at place one.datagram.is_lost one ++ arrivals_there (suc place) more

same_delivery : (place : ℕ) (lost : Bool) (one : OnLink) → delivery place (arriving_if lost one) ≡ arrival_at place lost one
same_delivery place true one = refl
same_delivery place false one = refl

pub all_there : (world : Played) (front more : List OnLink) (n : ℕ) → world.run.sent ≡ front ++ more → n ≡ length more
    → deliveries (arrival_in world) (length front) n ≡ arrivals_there (length front) more
unfolding deliveries
all_there world front [] zero sent count = refl
all_there world front [] (suc n) sent count = absurd (omega (arith, count))
all_there world front (one ∷ more) zero sent count = absurd (omega (arith, count))
all_there world front (one ∷ more) (suc n) sent count =
    let got : slice_get world.run.sent (length front) ≡ Some one = ap (λ (l : List OnLink). slice_get l (length front)) sent ∙ get_after front more one
    in let rest : deliveries (arrival_in world) (suc (length front)) n ≡ arrivals_there (suc (length front)) more
    = subst (λ (k : ℕ). deliveries (arrival_in world) k n ≡ arrivals_there k more) (count_more front one)
    (all_there world (front ++ one ∷ []) more n (sent ∙ sym (append_assoc front (one ∷ []) more)) (omega (arith, count)))
    in ap (λ (o : Option OnLink). delivery (length front) (arriving o) ++ deliveries (arrival_in world) (suc (length front)) n) got
    ∙ ap (λ (l : List RoundEvent). l ++ deliveries (arrival_in world) (suc (length front)) n) (same_delivery (length front) one.datagram.is_lost one)
    ∙ ap (λ (l : List RoundEvent). arrival_at (length front) one.datagram.is_lost one ++ l) rest

arrivals_calm : (place : ℕ) (more : List OnLink) → Each IsCalm (map event_of (arrivals_there place more))
arrivals_calm place [] = tt
arrivals_calm place (one ∷ more) = choose one.datagram.is_lost (arrivals_calm (suc place) more)
  where
    choose : (lost : Bool) → Each IsCalm (map event_of (arrivals_there (suc place) more)) → Each IsCalm (map event_of (arrival_at place lost one ++ arrivals_there (suc place) more))
    choose true others = others
    choose false others = (tt, others)

pub all_add : (old : WorldState) (list : List Event) (world : Played) → Each IsCalm list → HasAdded old world → HasAdded old (after_each list world)
all_add old [] world calm adds = adds
all_add old (one ∷ list) world calm adds = all_add old list (after world one) calm.1 (tried_adds old world one calm.0 adds)

-- ---- and come, or are refused

-- the newest copy that was sent before, if any can come, on the link of what it is a copy of
abbrev pub in_place : OnLink → Option Sent → List OnLink
in_place one None = []
in_place one (Some copy) = record { link = one.link; datagram = copy } ∷ []

abbrev pub in_place_of : ℕ → List OnLink → OnLink → List OnLink
in_place_of time sent one = if one.datagram.is_lost then [] else in_place one (newest_copy time one.datagram.bytes (datagrams_of sent))

-- what comes in the places of these
abbrev pub all_in_place : ℕ → List OnLink → List OnLink → List OnLink
all_in_place time sent [] = []
all_in_place time sent (one ∷ more) = in_place_of time sent one ++ all_in_place time sent more

-- a datagram that is tried in the first round, before which these were sent, and after whose deliveries these
pub record IsTried (site : Site) (time : ℕ) (sent last : List OnLink) (one : OnLink) : Type 0 where
  pub whole : intact (key_of site) one.datagram.bytes ≡ true
  pub gone : one.datagram.is_lost ≡ false → newest_copy time one.datagram.bytes (datagrams_of sent) ≡ None → newest_copy time one.datagram.bytes (datagrams_of last) ≡ None
  -- a copy of it was sent on its link, by its sender
  pub of_link : (c : Sent) → newest_copy time one.datagram.bytes (datagrams_of sent) ≡ Some c → IsAmongAll (record { link = one.link; datagram = c }) sent
  pub of_sender : (c : Sent) → newest_copy time one.datagram.bytes (datagrams_of sent) ≡ Some c → c.sender ≡ one.datagram.sender

-- and so where it is of this link
abbrev pub IsTriedOn : ℕ → Site → ℕ → List OnLink → List OnLink → OnLink → Type 0
IsTriedOn link site time sent last one = one.link ≡ link → IsTried site time sent last one

-- ---- so only what was sent before comes

each_append : {X : Type 0} (P : X → Type 0) (xs ys : List X) → Each P xs → Each P ys → Each P (xs ++ ys)
each_append P [] ys a b = b
each_append P (x ∷ xs) ys a b = (a.0, each_append P xs ys a.1 b)

same_number : (a b : ℕ) → (a == b) ≡ true → a ≡ b
same_number a b e = grind (arith, nat_tests)

other_number : (a b : ℕ) → (a == b) ≡ false → (b == a) ≡ false
other_number a b e = grind (arith, nat_tests)

-- what comes in the place of a datagram of another link is none of this one
other_link : (link time : ℕ) (sent rest : List OnLink) (one : OnLink) → (one.link == link) ≡ false
    → of_link link (in_place_of time sent one ++ rest) ≡ of_link link rest
other_link link time sent rest one other = by_lost one.datagram.is_lost
  where
    by_copy : (o : Option Sent) → of_link link (in_place one o ++ rest) ≡ of_link link rest
    by_copy None = refl
    by_copy (Some c) = rw other refl

    by_lost : (b : Bool) → of_link link ((if b then [] else in_place one (newest_copy time one.datagram.bytes (datagrams_of sent))) ++ rest) ≡ of_link link rest
    by_lost true = refl
    by_lost false = by_copy (newest_copy time one.datagram.bytes (datagrams_of sent))

is_number : (a : ℕ) → (a == a) ≡ true
is_number a = grind (arith, nat_tests)

among_link : (link : ℕ) (sent : List OnLink) (d : Sent) → IsAmongAll (record { link = link; datagram = d }) sent → IsAmong d (of_link link sent)
among_link link [] d is = absurd is
among_link link (x ∷ sent) d (inl same) = subst (λ (b : Bool). IsAmong d (if b then x.datagram ∷ of_link link sent else of_link link sent))
    (sym (ap (λ (o : OnLink). o.link == link) same ∙ is_number link)) (inl (ap (λ (o : OnLink). o.datagram) same))
among_link link (x ∷ sent) d (inr is) = choose (x.link == link) (among_link link sent d is)
  where
    choose : (b : Bool) → IsAmong d (of_link link sent) → IsAmong d (if b then x.datagram ∷ of_link link sent else of_link link sent)
    choose true among = inr among
    choose false among = among

module _ (site : Site) (time : ℕ) (sent last : List OnLink) (link : ℕ) where
  one_sent : (one : OnLink) → IsTriedOn link site time sent last one → WereSent (of_link link sent) (of_link link (in_place_of time sent one))
  one_sent one tried = by_lost one.datagram.is_lost
    where
      on_link : (c : Sent) → newest_copy time one.datagram.bytes (datagrams_of sent) ≡ Some c → (b : Bool) → (one.link == link) ≡ b
          → WereSent (of_link link sent) (if b then c ∷ [] else [])
      on_link c e true same = (
        among_link link sent c (subst (λ (n : ℕ). IsAmongAll (record { link = n; datagram = c }) sent) (same_number one.link link same)
            ((tried (same_number one.link link same)).of_link c e)),
        tt,
      )
      on_link c e false other = tt

      found : (o : Option Sent) → newest_copy time one.datagram.bytes (datagrams_of sent) ≡ o → WereSent (of_link link sent) (of_link link (in_place one o))
      found None e = tt
      found (Some c) e = on_link c e (one.link == link) refl

      by_lost : (b : Bool) → WereSent (of_link link sent) (of_link link (if b then [] else in_place one (newest_copy time one.datagram.bytes (datagrams_of sent))))
      by_lost true = tt
      by_lost false = found (newest_copy time one.datagram.bytes (datagrams_of sent)) refl

  pub all_sent : (more : List OnLink) → Each (IsTriedOn link site time sent last) more → WereSent (of_link link sent) (of_link link (all_in_place time sent more))
  all_sent [] tried = tt
  all_sent (one ∷ more) tried = subst (WereSent (of_link link sent)) (sym (of_both link (in_place_of time sent one) (all_in_place time sent more)))
      (each_append (λ (d : Sent). IsAmong d (of_link link sent)) (of_link link (in_place_of time sent one)) (of_link link (all_in_place time sent more)) (one_sent one tried.0)
      (all_sent more tried.1))

-- ---- and it comes

module _ (laws : LawsBelow) (sited : SitedTable) (station : IsStation sited.site) (once : Once sited.site) (sections : length sited.table.detectors ≡ length sited.site.detectors)
    (who : Role) (link : ℕ) where
  -- one that is tried comes, or nothing does
  tried_front : (one : OnLink) (world : Played) (before : Links) → HasThese sited world before → IsFrom sited.site one
      → (due : List (List ℕ)) × ((due ≡ due_one who link one) ⊎ (due ≡ [])) × IsFront due (all_called_at who link (events_tried (deliver one) world))
  tried_front one world before has from = by_refusal (refusal_of (deliver one) world) refl
    where
      by_refusal : (why : Option Refused) → refusal_of (deliver one) world ≡ why
          → (due : List (List ℕ)) × ((due ≡ due_one who link one) ⊎ (due ≡ [])) × IsFront due (all_called_at who link (events_tried (deliver one) world))
      by_refusal None e = (
        due_one who link one,
        inl refl,
        comes_front who link one (events_tried (deliver one) world) (comes_at laws sited station once sections one world before has from e),
      )
      by_refusal (Some why) e = ([], inr refl, subst (λ (events : List LinksEvent). IsFront [] (all_called_at who link events)) (sym none) (front_said [] tt))
        where
          none : events_tried (deliver one) world ≡ []
          none = ap (λ (o : Option Refused). events_where o (events_of world.sited.site world.sited.table (deliver one) world.run)) e

  -- one of another link comes to none of this one
  tried_elsewhere : (one : OnLink) (world : Played) (before : Links) → HasThese sited world before → IsFrom sited.site one → (one.link == link) ≡ false
      → IsFront [] (all_called_at who link (events_tried (deliver one) world))
  tried_elsewhere one world before has from other = let front = tried_front one world before has from in
      subst (λ (due : List (List ℕ)). IsFront due (all_called_at who link (events_tried (deliver one) world))) (none front.0 front.1) front.2
    where
      not_due : due_one who link one ≡ []
      not_due = rw (other_number one.link link other) refl

      none : (due : List (List ℕ)) → (due ≡ due_one who link one) ⊎ (due ≡ []) → due ≡ []
      none due (inl e) = e ∙ not_due
      none due (inr e) = e

  -- whatever comes, all that an end is called to is before its tick
  pub all_before : (place : ℕ) (more : List OnLink) (world : Played) (before : Links) → HasThese sited world before → Each (IsFrom sited.site) more
      → Each IsBeforeTick (all_called_at who link (all_events_tried (map event_of (arrivals_there place more)) world))
  all_before place [] world before has from = tt
  all_before place (one ∷ more) world before has from = by_lost (all_before (suc place) more world before has from.1)
      (all_before (suc place) more (after world (deliver one)) (run_links (events_tried (deliver one) world) before)
      (tried_followed laws sited station once (deliver one) world before has).has from.1)
      one.datagram.is_lost
    where
      others : List Event
      others = map event_of (arrivals_there (suc place) more)

      by_lost : Each IsBeforeTick (all_called_at who link (all_events_tried others world))
          → Each IsBeforeTick (all_called_at who link (all_events_tried others (after world (deliver one))))
          → (b : Bool)
          → Each IsBeforeTick (all_called_at who link (all_events_tried (map event_of (arrival_at place b one ++ arrivals_there (suc place) more)) world))
      by_lost here next true = here
      by_lost here next false = subst (Each IsBeforeTick)
          (sym (called_both who link (events_tried (deliver one) world) (all_events_tried others (after world (deliver one)))))
          (each_append IsBeforeTick (all_called_at who link (events_tried (deliver one) world))
          (all_called_at who link (all_events_tried others (after world (deliver one))))
          (tried_front one world before has from.0).2.before next)

module _ (laws : LawsBelow) (sited : SitedTable) (station : IsStation sited.site) (once : Once sited.site) (sections : length sited.table.detectors ≡ length sited.site.detectors)
    (who : Role) (link time : ℕ) (sent last : List OnLink) where
  -- what is due in the places of these comes of these events
  abbrev pub Come : List OnLink → List Event → Played → Type 0
  Come due events world = IsFront (due_to who time (of_link link due)) (all_called_at who link (all_events_tried events world))

  abbrev pub sent_behind : List Event → Played → List OnLink
  sent_behind events world = (after_each events world).run.sent

  pub first_arrive : (place : ℕ) (more so_far : List OnLink) (world : Played) (before : Links) → HasThese sited world before → world.run.time ≡ time
      → world.run.sent ≡ sent ++ so_far
      → Each (IsFrom sited.site) more → Each (IsTriedOn link sited.site time sent last) more → sent_behind (map event_of (arrivals_there place more)) world ≡ last
      → Come (all_in_place time sent more) (map event_of (arrivals_there place more)) world
  first_arrive place [] so_far world before has now grown from tried is_last = front_said [] tt
  first_arrive place (one ∷ more) so_far world before has now grown from tried is_last =
      by_link (λ l. first_arrive (suc place) more so_far world before has now grown from.1 tried.1 l)
      (λ l. first_arrive (suc place) more (so_far ++ added.more) (after world (deliver one)) (run_links (events_tried (deliver one) world) before)
      (tried_followed laws sited station once (deliver one) world before has).has (added.time ∙ now) then_grown from.1 tried.1 l)
      (one.link == link) refl
    where
      others : List Event
      others = map event_of (arrivals_there (suc place) more)

      added : Adds world.run (after world (deliver one)).run
      added = (tried_adds world.run world (deliver one) tt (record { is = adds_none world.run })).is

      then_grown : (after world (deliver one)).run.sent ≡ sent ++ (so_far ++ added.more)
      then_grown = added.sent ∙ ap (λ (l : List OnLink). l ++ added.more) grown ∙ append_assoc sent so_far added.more

      there : is_missing (receiver one.datagram.sender one.link).0 world.sited.site ≡ false
      there = subst (λ (s : SitedTable). is_missing (receiver one.datagram.sender one.link).0 s.site ≡ false) (sym has.same) (there_is sited.site one.datagram.sender one.link from.0.below)

      goes : (c : Sent) → newest_copy time one.datagram.bytes (datagrams_of sent) ≡ Some c → refusal_of (deliver one) world ≡ None
      goes c e = let copy = some_among_more time one.datagram.bytes sent so_far c e in
          not_refused world.sited.site (receiver one.datagram.sender one.link) one.datagram.bytes world.run copy.0 there
          (ap (λ (t : ℕ). newest_copy t one.datagram.bytes (datagrams_of world.run.sent)) now
          ∙ ap (λ (l : List OnLink). newest_copy time one.datagram.bytes (datagrams_of l)) grown ∙ copy.1)

      all_of_it : HasAdded world.run (after_each (deliver one ∷ others) world)
      all_of_it = all_add world.run (deliver one ∷ others) world (tt, arrivals_calm (suc place) more) (record { is = adds_none world.run })

      refused : IsTried sited.site time sent last one → one.datagram.is_lost ≡ false
          → newest_copy time one.datagram.bytes (datagrams_of sent) ≡ None → sent_behind (deliver one ∷ others) world ≡ last
          → refusal_of (deliver one) world ≡ Some NeverSent
      refused it not_lost none l = old_refused world.sited.site (receiver one.datagram.sender one.link) one.datagram.bytes world.run there
          (ap (λ (t : ℕ). newest_copy t one.datagram.bytes (datagrams_of world.run.sent)) now
          ∙ none_before time one.datagram.bytes world.run.sent all_of_it.is.more
          (subst (λ (all : List OnLink). newest_copy time one.datagram.bytes (datagrams_of all) ≡ None) (sym l ∙ all_of_it.is.sent) (it.gone not_lost none)))
          (subst (λ (s : SitedTable). intact (key_of s.site) one.datagram.bytes ≡ true) (sym has.same) it.whole)

      Here : Type 0
      Here = sent_behind others world ≡ last → Come (all_in_place time sent more) others world

      Next : Type 0
      Next = sent_behind others (after world (deliver one)) ≡ last → Come (all_in_place time sent more) others (after world (deliver one))

      -- the copy of it that comes
      copied : Sent → OnLink
      copied c = record { link = one.link; datagram = c }

      due_same : IsTried sited.site time sent last one → (c : Sent) → newest_copy time one.datagram.bytes (datagrams_of sent) ≡ Some c
          → due_one who link one ≡ due_one who link (copied c)
      due_same it c e = two (it.of_sender c e) (alive_comes time one.datagram.bytes c (found_is time one.datagram.bytes sent c e).alive).1
        where
          due_as : Role → List ℕ → List (List ℕ)
          due_as sender bytes = if link == one.link then (if is_same (partner_of sender) who then bytes ∷ [] else []) else []

          two : c.sender ≡ one.datagram.sender → c.bytes ≡ one.datagram.bytes → due_as one.datagram.sender one.datagram.bytes ≡ due_as c.sender c.bytes
          two f g = cc (f, g)

      by_copy : IsTried sited.site time sent last one → Next → one.datagram.is_lost ≡ false → sent_behind (deliver one ∷ others) world ≡ last → (o : Option Sent)
          → newest_copy time one.datagram.bytes (datagrams_of sent) ≡ o
          → Come (in_place one o ++ all_in_place time sent more) (deliver one ∷ others) world
      by_copy it next not_lost l (Some c) e = subst (λ (due : List (List ℕ)). IsFront due (all_called_at who link (all_events_tried (deliver one ∷ others) world)))
          (ap (λ (d : List (List ℕ)). d ++ due_to who time (of_link link (all_in_place time sent more))) (due_same it c e)
          ∙ sym (due_here who link time (copied c) (all_in_place time sent more) (alive_comes time one.datagram.bytes c (found_is time one.datagram.bytes sent c e).alive).0))
          (subst (IsFront (due_one who link one ++ due_to who time (of_link link (all_in_place time sent more))))
          (sym (called_both who link (events_tried (deliver one) world) (all_events_tried others (after world (deliver one)))))
          (front_then (due_one who link one) (due_to who time (of_link link (all_in_place time sent more))) (all_called_at who link (events_tried (deliver one) world))
          (all_called_at who link (all_events_tried others (after world (deliver one))))
          (comes_front who link one (events_tried (deliver one) world) (comes_at laws sited station once sections one world before has from.0 (goes c e))) (next l)))
      by_copy it next not_lost l None e = subst (λ (events : List LinksEvent). IsFront (due_to who time (of_link link (all_in_place time sent more)))
          (all_called_at who link (events ++ all_events_tried others (after world (deliver one)))))
          (sym none) (next l)
        where
          none : events_tried (deliver one) world ≡ []
          none = ap (λ (why : Option Refused). events_where why (events_of world.sited.site world.sited.table (deliver one) world.run)) (refused it not_lost e l)

      by_lost : IsTried sited.site time sent last one → Here → Next → (b : Bool) → one.datagram.is_lost ≡ b
          → Come (all_in_place time sent (one ∷ more)) (map event_of (arrivals_there place (one ∷ more))) world
      by_lost it here next b e =
          subst (λ (c : Bool). Come ((if c then [] else in_place one (newest_copy time one.datagram.bytes (datagrams_of sent))) ++ all_in_place time sent more)
          (map event_of (arrival_at place c one ++ arrivals_there (suc place) more)) world) (sym e)
          (so b e (subst (λ (c : Bool). sent_behind (map event_of (arrival_at place c one ++ arrivals_there (suc place) more)) world ≡ last) e is_last))
        where
          so : (c : Bool) → one.datagram.is_lost ≡ c → sent_behind (map event_of (arrival_at place c one ++ arrivals_there (suc place) more)) world ≡ last
              → Come ((if c then [] else in_place one (newest_copy time one.datagram.bytes (datagrams_of sent))) ++ all_in_place time sent more)
              (map event_of (arrival_at place c one ++ arrivals_there (suc place) more)) world
          so true lost l = here l
          so false not_lost l = by_copy it next not_lost l (newest_copy time one.datagram.bytes (datagrams_of sent)) refl

      by_other : (one.link == link) ≡ false → Here → Next → (b : Bool) → one.datagram.is_lost ≡ b
          → Come (all_in_place time sent (one ∷ more)) (map event_of (arrivals_there place (one ∷ more))) world
      by_other other here next b e =
          subst (λ (list : List Sent). IsFront (due_to who time list)
          (all_called_at who link (all_events_tried (map event_of (arrivals_there place (one ∷ more))) world)))
          (sym (other_link link time sent (all_in_place time sent more) one other))
          (subst (λ (c : Bool). Come (all_in_place time sent more) (map event_of (arrival_at place c one ++ arrivals_there (suc place) more)) world) (sym e)
          (so b (subst (λ (c : Bool). sent_behind (map event_of (arrival_at place c one ++ arrivals_there (suc place) more)) world ≡ last) e is_last)))
        where
          so : (c : Bool) → sent_behind (map event_of (arrival_at place c one ++ arrivals_there (suc place) more)) world ≡ last
              → Come (all_in_place time sent more) (map event_of (arrival_at place c one ++ arrivals_there (suc place) more)) world
          so true l = here l
          so false l = subst (IsFront (due_to who time (of_link link (all_in_place time sent more))))
              (sym (called_both who link (events_tried (deliver one) world) (all_events_tried others (after world (deliver one)))))
              (front_then [] (due_to who time (of_link link (all_in_place time sent more))) (all_called_at who link (events_tried (deliver one) world))
              (all_called_at who link (all_events_tried others (after world (deliver one))))
              (tried_elsewhere laws sited station once sections who link one world before has from.0 other) (next l))

      by_link : Here → Next → (b : Bool) → (one.link == link) ≡ b
          → Come (all_in_place time sent (one ∷ more)) (map event_of (arrivals_there place (one ∷ more))) world
      by_link here next true same = by_lost (tried.0 (same_number one.link link same)) here next one.datagram.is_lost refl
      by_link here next false other = by_other other here next one.datagram.is_lost refl
