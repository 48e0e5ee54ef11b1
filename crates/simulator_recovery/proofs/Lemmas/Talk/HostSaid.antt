-- What a host has given in its connection, by its stage.
use Rattle.simulator_recovery.proofs.Words.Basics.{◌≡◌, ℕ, zero, suc, ◌∙◌, ◌+◌, ◌≤◌, Bool, true, false, not, ◌&&◌, ◌==◌, List, [], ◌∷◌, ◌++◌, length, map, append_assoc, append-nil, Option, Some, None, Result, Ok, Err, if◌then◌else◌, refl, sym, ap, subst, arith, is_ok, false≢true, nat_tests}
use Rattle.simulator_recovery.proofs.Words.Links.{answer_to_send, receiving, settled, LinkState, is_open, Reason, Each}
use Rattle.simulator_recovery.proofs.Words.Controllers.{reading, SciFault, NoMatch, Match, InitialisationCompleted, InitialisationRequest, StartInitialisation, VersionAnswer, VersionCheck, Message, Protocol, Telegram, Behaviour, Closes, HostSoFar, Sends, HostState, LinkCall, at_stage, fallen, is_completed, is_outside, keeping, risen, said, silent, then_do, call_made, calls_made, items_given, items_given_by, meaning, acting, acting_all, answering, beating, beginning, commanding, ending, following, given as given_in, goes_on, hearing, host_step, initial_status, initialising, is_admitted, is_from_peer, is_in_version, most_objects, most_owed, paid, paying, paying_first, posting, posting_all, received, violating, initialisation, item_of, Input, Report, Stage}
use Rattle.simulator_recovery.proofs.Words.Recovery.{HostHasGiven, HostHasSaid, HostStandsByCounts, IsOwed, TellsAsMany, given_before, Begins, OwedFit, SaidAll, SaidBy, SaidSome}
use Rattle.simulator_spec.specs.object_host.Meaning.{commanding as by_stage}
use Rattle.simulator_recovery.proofs.Lemmas.Talk.GivenPrefix.{first_given, ok_open, sends, shut_gives}
use Rattle.simulator_recovery.proofs.Lemmas.Ground.HostKeeps.{Kept, ObjectKeeps, begins as begins_kept}
use Rattle.simulator_recovery.proofs.Lemmas.Talk.HostLinks.{Begun, Mid, Said, acts, all_posted_open, begins, is_up_there, post_all, post_one, posted_open, risen_same, status_few, was_accepted, comes}
use Rattle.simulator_recovery.proofs.Lemmas.Ground.LinkCounts.{close_closes, tick_was_open}
use Rattle.simulator_recovery.proofs.Lemmas.Ground.EndCalls.{each_both, map_both}
use Rattle.simulator_recovery.proofs.Lemmas.Ground.DueTests.{last_true}

-- ---- calls

pub items_both : (now : ℕ) (one other : List LinkCall) (link : LinkState) → items_given now (one ++ other) link ≡ items_given now one link ++ items_given now other (calls_made now one link).link
unfolding items_given calls_made
items_both now [] other link = refl
items_both now (first ∷ one) other link = ap (λ (rest : List (List ℕ)). items_given_by now first link ++ rest) (items_both now one other (call_made now first link).link)
    ∙ sym (append_assoc (items_given_by now first link) (items_given now one (call_made now first link).link) (items_given now other (calls_made now one (call_made now first link).link).link))

pub made_both : (now : ℕ) (one other : List LinkCall) (link : LinkState) → (calls_made now (one ++ other) link).link ≡ (calls_made now other (calls_made now one link).link).link
unfolding calls_made
made_both now [] other link = refl
made_both now (first ∷ one) other link = made_both now one other (call_made now first link).link

-- ---- a conversation

-- an item that asks a version other than this one tells so
abbrev pub TellsWrong : Type 0 → ℕ → Message → Type 0
TellsWrong Wrong version what = (protocol : Protocol) (asked : ℕ) → what ≡ Message.Initialisation protocol (VersionCheck asked) → (asked ≡ version → ⊥) → Wrong

abbrev pub ItemTells : Type 0 → ℕ → Result Telegram SciFault → Type 0
ItemTells Wrong version (Ok telegram) = TellsWrong Wrong version telegram.message
ItemTells Wrong version (Err fault) = Unit {0}

abbrev pub AllTell : Type 0 → ℕ → List (List ℕ) → Type 0
AllTell Wrong version items = Each (λ one. ItemTells Wrong version (reading one)) items

abbrev pub InputTells : Type 0 → ℕ → ℕ → Input → LinkState → Type 0
InputTells Wrong version now Input.Tick link = Unit {0}
InputTells Wrong version now (Input.Datagram bytes) link = AllTell Wrong version (receiving now bytes.now link).items
InputTells Wrong version now (Input.Sense sense) link = Unit {0}

module _ {Object : Type 0} (does : Behaviour Object) (many : TellsAsMany does) (objects : ℕ) (now : ℕ) (item : Report → List ℕ) (version : ℕ) (Fits : Object → Type 0) (Wrong : Type 0) (keep : ObjectKeeps does Fits version) where
  -- a host with these names and this version
  pub record Is (host : HostState Object) : Type 0 where
    pub items : item_of host ≡ item
    pub version_is : host.version ≡ version
    pub fits : Fits host.object

  -- A part of a step is the calls that it lists; after it, while the link is open, these items more make what the host has said.
  pub record Says (items : List (List ℕ)) (host : HostState Object) (part : HostSoFar Object) : Type 0 where
    pub is : Is part.host
    pub made : part.host.link ≡ (calls_made now part.calls host.link).link
    pub says : is_open part.host.link.phase ≡ true → SaidBy does Fits Wrong item version part.host.stage (items ++ items_given now part.calls host.link)
    pub ever : SaidSome does Fits Wrong item version (items ++ items_given now part.calls host.link)

  says_then : (items : List (List ℕ)) (host : HostState Object) (first : HostSoFar Object) (next : HostState Object → HostSoFar Object) → Says items host first → Says (items ++ items_given now first.calls host.link) first.host (next first.host) → Says items host (then_do first next)
  says_then items host first next one other = record {
    is = other.is;
    made = other.made ∙ ap (λ (l : LinkState). (calls_made now (next first.host).calls l).link) one.made ∙ sym (made_both now first.calls (next first.host).calls host.link);
    says = λ e. subst (SaidBy does Fits Wrong item version (next first.host).host.stage) (both one.made) (other.says e);
    ever = subst (SaidSome does Fits Wrong item version) (both one.made) other.ever;
  }
    where
      both : first.host.link ≡ (calls_made now first.calls host.link).link → (items ++ items_given now first.calls host.link) ++ items_given now (next first.host).calls first.host.link ≡ items ++ items_given now (first.calls ++ (next first.host).calls) host.link
      both e = append_assoc items (items_given now first.calls host.link) (items_given now (next first.host).calls first.host.link)
          ∙ ap (λ (rest : List (List ℕ)). items ++ (items_given now first.calls host.link ++ rest)) (ap (items_given now (next first.host).calls) e)
          ∙ ap (λ (rest : List (List ℕ)). items ++ rest) (sym (items_both now first.calls (next first.host).calls host.link))

  pub record Has (items : List (List ℕ)) (host : HostState Object) : Type 0 where
    pub said_now : is_open host.link.phase ≡ true → SaidBy does Fits Wrong item version host.stage items
    pub ever : SaidSome does Fits Wrong item version items

  -- what a part leaves
  has_of : (items : List (List ℕ)) (host : HostState Object) (part : HostSoFar Object) → Says items host part → Has (items ++ items_given now part.calls host.link) part.host
  has_of items host part s = record { said_now = s.says; ever = s.ever }

  -- all that is said by a stage is a beginning of it
  some_of : (by : Stage) (items : List (List ℕ)) → SaidBy does Fits Wrong item version by items → SaidSome does Fits Wrong item version items
  some_of by items has = record { by = by; whole = items; said = has; begins = record { rest = []; are = sym (append-nil items) } }

  none_more : (items : List (List ℕ)) → SaidSome does Fits Wrong item version items → SaidSome does Fits Wrong item version (items ++ [])
  none_more items some = subst (SaidSome does Fits Wrong item version) (sym (append-nil items)) some

  -- nothing is called
  says_none : (items : List (List ℕ)) (host after : HostState Object) → Is after → after.link ≡ host.link → Has items after → Says items host (silent after)
  unfolding items_given calls_made
  says_none items host after is same has = record { is = is; made = same; says = λ e. subst (SaidBy does Fits Wrong item version after.stage) (sym (append-nil items)) (has.said_now e); ever = none_more items has.ever }

  says_closed : (items : List (List ℕ)) (host after : HostState Object) → Is after → after.link ≡ host.link → SaidSome does Fits Wrong item version items → Says items host (violating now after)
  unfolding violating calls_made items_given
  says_closed items host after is same ever = record { is = record { items = is.items; version_is = is.version_is; fits = is.fits }; ever = none_more items ever; made = ap (λ (l : LinkState). (call_made now (Closes Reason.State) l).link) same; says = λ e. absurd (false≢true (sym (close_closes now Reason.State after.link) ∙ e)) }

  -- ---- reports

  one_item : (report : Report) (host : HostState Object) → is_ok (answer_to_send now host.link) ≡ true → items_given now (posting now report host).calls host.link ≡ item_of host report ∷ []
  unfolding posting items_given
  one_item report host ok = ap (λ (b : Bool). (if b then item_of host report ∷ [] else []) ++ []) ok

  no_item : (report : Report) (host : HostState Object) → is_ok (answer_to_send now host.link) ≡ false → items_given now (posting now report host).calls host.link ≡ []
  unfolding posting items_given
  no_item report host denied = ap (λ (b : Bool). (if b then item_of host report ∷ [] else []) ++ []) denied

  -- the calls of reports, one after another
  posted_calls : (report : Report) (host : HostState Object) → (posting now report host).calls ≡ sends now (item_of host report ∷ [])
  unfolding posting
  posted_calls report host = refl

  all_posted_calls : (reports : List Report) (host : HostState Object) → (posting_all now reports host).calls ≡ sends now (map (item_of host) reports)
  unfolding posting_all posting
  all_posted_calls [] host = refl
  all_posted_calls (first ∷ others) host = ap (λ (list : List LinkCall). Sends (item_of host first) ∷ list) (all_posted_calls others (posting now first host).host)

  -- each of them, where all are accepted
  all_items : (reports : List Report) (host : HostState Object) (taken given : ℕ) → is_open (posting_all now reports host).host.link.phase ≡ true → given + length reports ≤ 20 → Said does many objects now taken given host.link
      → items_given now (posting_all now reports host).calls host.link ≡ map (item_of host) reports
  unfolding posting_all posting items_given
  all_items [] host taken given e few said_so = refl
  all_items (first ∷ others) host taken given e few said_so =
      let ok = was_accepted does many objects now first host taken given (all_posted_open does many objects now others (posting now first host).host e) (omega (arith, few)) said_so
      in let one = post_one does many objects now first host taken given (all_posted_open does many objects now others (posting now first host).host e) (omega (arith, few)) said_so
      in two (ap (λ (b : Bool). if b then item_of host first ∷ [] else []) ok) (all_items others (posting now first host).host taken (given + 1) e (omega (arith, few)) one)
    where
      two : {a b c d : List (List ℕ)} → a ≡ b → c ≡ d → a ++ c ≡ b ++ d
      two e f = cc (e, f)

  posted_made : (report : Report) (host : HostState Object) → (posting now report host).host.link ≡ (calls_made now (posting now report host).calls host.link).link
  unfolding posting calls_made
  posted_made report host = refl

  all_posted_made : (reports : List Report) (host : HostState Object) → (posting_all now reports host).host.link ≡ (calls_made now (posting_all now reports host).calls host.link).link
  unfolding posting_all posting calls_made
  all_posted_made [] host = refl
  all_posted_made (first ∷ others) host = all_posted_made others (posting now first host).host

  posted_is : (report : Report) (host : HostState Object) → Is host → Is (posting now report host).host
  unfolding posting
  posted_is report host is = record { items = is.items; version_is = is.version_is; fits = is.fits }

  all_posted_is : (reports : List Report) (host : HostState Object) → Is host → Is (posting_all now reports host).host
  unfolding posting_all
  all_posted_is [] host is = is
  all_posted_is (first ∷ others) host is = all_posted_is others (posting now first host).host (posted_is first host is)

  -- ---- one item

  -- the version is answered
  answer_says : (items : List (List ℕ)) (left asked : ℕ) (host : HostState Object) → ((asked ≡ version → ⊥) → Wrong) → Is host → host.stage ≡ Stage.AwaitsCheck → Mid does many objects now (suc left) host → Has items host → Says items host (answering does now asked host)
  unfolding answering
  answer_says items left asked host tells is at mid has = choose (asked == host.version) refl
    where
      one : (report : Report) (after : Stage) → ((list : List (List ℕ)) → list ≡ item report ∷ [] → SaidBy does Fits Wrong item version after list) → Says items host (at_stage after (posting now report host))
      one report after enough = record {
        is = record { items = (posted_is report host is).items; version_is = (posted_is report host is).version_is; fits = (posted_is report host is).fits };
        ever = by_answer (is_ok (answer_to_send now host.link)) refl;
        made = posted_made report host;
        says = λ e.
            let opened = posted_open does many objects now report host e
            in let m = mid.midway opened
            in let unsaid = subst (λ (s : Stage). HostHasGiven objects s m.given) at m.gave
            in let ok = was_accepted does many objects now report host (m.taken + suc left) m.given e (omega (arith, unsaid)) (record { counts = m.counts; up = is_up_there does many objects now left host m })
            in let none = subst (λ (s : Stage). SaidBy does Fits Wrong item version s items) at (has.said_now opened)
            in enough (items ++ items_given now (posting now report host).calls host.link)
            (ap (λ (list : List (List ℕ)). list ++ items_given now (posting now report host).calls host.link) none ∙ one_item report host ok ∙ ap (λ (f : Report → List ℕ). f report ∷ []) is.items);
      }
        where
          by_answer : (b : Bool) → is_ok (answer_to_send now host.link) ≡ b → SaidSome does Fits Wrong item version (items ++ items_given now (posting now report host).calls host.link)
          by_answer true ok = some_of after (items ++ items_given now (posting now report host).calls host.link) (enough (items ++ items_given now (posting now report host).calls host.link)
              (ap (λ (list : List (List ℕ)). list ++ items_given now (posting now report host).calls host.link) (subst (λ (s : Stage). SaidBy does Fits Wrong item version s items) at (has.said_now (ok_open now host.link ok)))
              ∙ one_item report host ok ∙ ap (λ (f : Report → List ℕ). f report ∷ []) is.items))
          by_answer false denied = subst (λ (list : List (List ℕ)). SaidSome does Fits Wrong item version (items ++ list)) (sym (no_item report host denied)) (none_more items has.ever)

      yes : (a b : ℕ) → a ≡ b → (a == b) ≡ true
      yes a b e = grind (arith, nat_tests)

      choose : (b : Bool) → (asked == host.version) ≡ b → Says items host (if b then at_stage Stage.AwaitsRequest (posting now (said does (VersionAnswer Match host.version)) host) else at_stage Stage.Refused (posting now (said does (VersionAnswer NoMatch host.version)) host))
      choose true e = one (said does (VersionAnswer Match host.version)) Stage.AwaitsRequest (λ list f. f ∙ ap (λ (n : ℕ). item (said does (VersionAnswer Match n)) ∷ []) is.version_is)
      choose false e = one (said does (VersionAnswer NoMatch host.version)) Stage.Refused
          (λ list f. (tells (λ same. false≢true (sym e ∙ yes asked host.version (same ∙ sym is.version_is))), f ∙ ap (λ (n : ℕ). item (said does (VersionAnswer NoMatch n)) ∷ []) is.version_is))

  -- the initialisation
  initialisation_says : (items : List (List ℕ)) (left : ℕ) (host : HostState Object) → Is host → host.stage ≡ Stage.AwaitsRequest → Mid does many objects now (suc left) host → Has items host → Says items host (initialising does now host)
  unfolding initialising posting
  initialisation_says items left host is at mid has = record {
    is = record { items = last_is.items; version_is = last_is.version_is; fits = last_is.fits };
    ever = by_open (is_open host.link.phase) refl;
    made = posted_made completed two ∙ ap (λ (l : LinkState). (calls_made now (posting now completed two).calls l).link) (all_posted_made status one ∙ ap (λ (l : LinkState). (calls_made now (posting_all now status one).calls l).link) (posted_made start host)
        ∙ sym (made_both now (posting now start host).calls (posting_all now status one).calls host.link)) ∙ sym (made_both now ((posting now start host).calls ++ (posting_all now status one).calls) (posting now completed two).calls host.link);
    says = λ e.
        let open_two = posted_open does many objects now completed two e
        in let open_one = all_posted_open does many objects now status one open_two
        in let opened = posted_open does many objects now start host open_one
        in let m = mid.midway opened
        in let gave = subst (λ (s : Stage). HostHasGiven objects s m.given) at m.gave
        in let few = status_few does many objects now 16 0 one.object
        in let begins_so : Said does many objects now (m.taken + suc left) m.given host.link = record { counts = m.counts; up = is_up_there does many objects now left host m }
        in let first_ok = was_accepted does many objects now start host (m.taken + suc left) m.given open_one (omega (arith, gave)) begins_so
        in let first = post_one does many objects now start host (m.taken + suc left) m.given open_one (omega (arith, gave)) begins_so
        in let states = post_all does many objects now status one (m.taken + suc left) (m.given + 1) open_two (omega (arith, gave, few)) first
        in let last_ok = was_accepted does many objects now completed two (m.taken + suc left) ((m.given + 1) + length status) e (omega (arith, gave, few)) states
        in let answered = subst (λ (s : Stage). SaidBy does Fits Wrong item version s items) at (has.said_now opened)
        in record {
          object = one.object;
          fits = one_is.fits;
          reports = [];
          owed = tt;
          are = ap (λ (list : List (List ℕ)). list ++ items_given now (((posting now start host).calls ++ (posting_all now status one).calls) ++ (posting now completed two).calls) host.link) answered
              ∙ ap (λ (list : List (List ℕ)). answer ∷ list) (all_given (one_item start host first_ok ∙ ap (λ (f : Report → List ℕ). f start ∷ []) is.items)
              (all_items status one (m.taken + suc left) (m.given + 1) open_two (omega (arith, gave, few)) first ∙ ap (λ (f : Report → List ℕ). map f status) one_is.items)
              (one_item completed two last_ok ∙ ap (λ (f : Report → List ℕ). f completed ∷ []) two_is.items));
        };
  }
    where
      start : Report
      start = said does StartInitialisation

      completed : Report
      completed = said does InitialisationCompleted

      answer : List ℕ
      answer = item (said does (VersionAnswer Match version))

      one : HostState Object
      one = (posting now (said does StartInitialisation) host).host

      status : List Report
      status = initial_status does most_objects 0 one.object

      two : HostState Object
      two = (posting_all now (initial_status does most_objects 0 one.object) one).host

      one_is : Is one
      one_is = posted_is (said does StartInitialisation) host is

      two_is : Is two
      two_is = all_posted_is (initial_status does most_objects 0 one.object) one one_is

      last_is : Is (posting now completed two).host
      last_is = posted_is completed two two_is

      made_calls : List LinkCall
      made_calls = ((posting now start host).calls ++ (posting_all now status one).calls) ++ (posting now completed two).calls

      calls_are : made_calls ≡ sends now (map item (initialisation does one.object))
      calls_are = three (ap (sends now) (ap (λ (f : Report → List ℕ). f start ∷ []) is.items)) (all_posted_calls status one ∙ ap (λ (f : Report → List ℕ). sends now (map f status)) one_is.items) (ap (sends now) (ap (λ (f : Report → List ℕ). f completed ∷ []) two_is.items))
          ∙ ap (λ (list : List LinkCall). Sends (item start) ∷ list) (sym (map_both Sends (map item status) (item completed ∷ [])) ∙ ap (sends now) (sym (map_both item status (completed ∷ []))))
        where
          three : {a b c d e f : List LinkCall} → a ≡ b → c ≡ d → e ≡ f → (a ++ c) ++ e ≡ (b ++ d) ++ f
          three p q r = cc (p, q, r)

      -- what is given of it is its beginning
      first_of_it : Begins (items_given now made_calls host.link) (map item (initialisation does one.object))
      first_of_it = subst (λ (cs : List LinkCall). Begins (items_given now cs host.link) (map item (initialisation does one.object))) (sym calls_are) (first_given now (map item (initialisation does one.object)) host.link)

      by_open : (b : Bool) → is_open host.link.phase ≡ b → SaidSome does Fits Wrong item version (items ++ items_given now made_calls host.link)
      by_open true e = record {
        by = Stage.Completed;
        whole = answer ∷ (map item (initialisation does one.object) ++ []);
        said = record { object = one.object; fits = one_is.fits; reports = []; owed = tt; are = refl };
        begins = record {
          rest = first_of_it.rest;
          are = ap (λ (list : List (List ℕ)). answer ∷ list) (append-nil (map item (initialisation does one.object)) ∙ first_of_it.are)
              ∙ ap (λ (list : List (List ℕ)). (list ++ items_given now made_calls host.link) ++ first_of_it.rest) (sym (subst (λ (s : Stage). SaidBy does Fits Wrong item version s items) at (has.said_now e)));
        };
      }
      by_open false e = subst (λ (list : List (List ℕ)). SaidSome does Fits Wrong item version (items ++ list))
          (sym (ap (λ (cs : List LinkCall). items_given now cs host.link) calls_are ∙ shut_gives now (map item (initialisation does one.object)) host.link e)) (none_more items has.ever)

      map_push : (list : List Report) (report : Report) → map item list ++ item report ∷ [] ≡ map item (list ++ report ∷ [])
      map_push [] report = refl
      map_push (x ∷ list) report = ap (λ (rest : List (List ℕ)). item x ∷ rest) (map_push list report)

      -- what is given in the three parts
      all_given : items_given now (posting now start host).calls host.link ≡ item start ∷ [] → items_given now (posting_all now status one).calls one.link ≡ map item status → items_given now (posting now completed two).calls two.link ≡ item completed ∷ []
          → items_given now (((posting now start host).calls ++ (posting_all now status one).calls) ++ (posting now completed two).calls) host.link ≡ map item (initialisation does one.object) ++ []
      all_given a b c =
          items_both now ((posting now start host).calls ++ (posting_all now status one).calls) (posting now completed two).calls host.link
          ∙ two_lists (items_both now (posting now start host).calls (posting_all now status one).calls host.link ∙ two_lists a (ap (items_given now (posting_all now status one).calls) (sym (posted_made start host)) ∙ b))
          (ap (items_given now (posting now completed two).calls) (made_both now (posting now start host).calls (posting_all now status one).calls host.link ∙ ap (λ (l : LinkState). (calls_made now (posting_all now status one).calls l).link) (sym (posted_made start host)) ∙ sym (all_posted_made status one)) ∙ c)
          ∙ ap (λ (rest : List (List ℕ)). item start ∷ rest) (map_push status completed) ∙ sym (append-nil (map item (initialisation does one.object)))
        where
          two_lists : {p q r t : List (List ℕ)} → p ≡ q → r ≡ t → p ++ r ≡ q ++ t
          two_lists e f = cc (e, f)

  -- the items go on from a host of another stage or object, whose link is the same
  says_from : (items : List (List ℕ)) (host : HostState Object) (acted : List (List ℕ)) (told : List Telegram) (part : HostSoFar Object) → Says items host part → Says items host (record part { acted = acted; told = told })
  says_from items host acted told part s = record { is = s.is; made = s.made; says = s.says; ever = s.ever }

  closes : (items : List (List ℕ)) (host : HostState Object) → Is host → Has items host → Says items host (violating now host)
  closes items host is has = says_closed items host host is refl has.ever

  -- a command
  command_says : (items : List (List ℕ)) (telegram : Telegram) (host : HostState Object) → is_in_version version telegram.message ≡ true → Is host → Has items host → Says items host (commanding does now telegram host)
  unfolding commanding
  command_says items telegram host in_version is has = choose (does.accepts now telegram host.object)
    where
      after : HostState Object
      after = record host { object = does.after_take now telegram host.object }

      after_is : Is after
      after_is = record { items = is.items; version_is = is.version_is; fits = keep.takes now telegram host.object in_version is.fits }

      choose : (b : Bool) → Says items host (if b then silent after else violating now after)
      choose true = says_none items host after after_is refl (record { said_now = has.said_now; ever = has.ever })
      choose false = says_closed items host after after_is refl has.ever

  by_stages : (items : List (List ℕ)) (taken : List ℕ) (telegram : Telegram) (how_far : Stage) (host : HostState Object) → host.stage ≡ how_far → is_in_version version telegram.message ≡ true → Is host → Has items host → Says items host (following does now taken telegram (by_stage how_far) host)
  unfolding following
  by_stages items taken telegram Stage.Completed host at in_version is has = says_from items host _ _ (commanding does now telegram host) (command_says items telegram host in_version is has)
  by_stages items taken telegram Stage.Outside host at in_version is has = closes items host is has
  by_stages items taken telegram Stage.AwaitsCheck host at in_version is has = closes items host is has
  by_stages items taken telegram Stage.AwaitsRequest host at in_version is has = closes items host is has
  by_stages items taken telegram Stage.Refused host at in_version is has = closes items host is has

  follow_says : (items : List (List ℕ)) (left : ℕ) (taken : List ℕ) (telegram : Telegram) (what : Message) (how_far : Stage) (host : HostState Object) → TellsWrong Wrong version what → host.stage ≡ how_far → is_in_version version telegram.message ≡ true → Is host → Mid does many objects now (suc left) host → Has items host
      → Says items host (following does now taken telegram (meaning what how_far) host)
  unfolding following
  follow_says items left taken telegram (Message.Initialisation protocol (VersionCheck asked)) Stage.AwaitsCheck host tells at in_version is mid has = says_from items host _ _ (answering does now asked host) (answer_says items left asked host (tells protocol asked refl) is at mid has)
  follow_says items left taken telegram (Message.Initialisation protocol (VersionCheck asked)) Stage.Outside host tells at in_version is mid has = closes items host is has
  follow_says items left taken telegram (Message.Initialisation protocol (VersionCheck asked)) Stage.AwaitsRequest host tells at in_version is mid has = closes items host is has
  follow_says items left taken telegram (Message.Initialisation protocol (VersionCheck asked)) Stage.Completed host tells at in_version is mid has = closes items host is has
  follow_says items left taken telegram (Message.Initialisation protocol (VersionCheck asked)) Stage.Refused host tells at in_version is mid has = closes items host is has
  follow_says items left taken telegram (Message.Initialisation protocol InitialisationRequest) Stage.AwaitsRequest host tells at in_version is mid has = says_from items host _ _ (initialising does now host) (initialisation_says items left host is at mid has)
  follow_says items left taken telegram (Message.Initialisation protocol InitialisationRequest) Stage.Outside host tells at in_version is mid has = closes items host is has
  follow_says items left taken telegram (Message.Initialisation protocol InitialisationRequest) Stage.AwaitsCheck host tells at in_version is mid has = closes items host is has
  follow_says items left taken telegram (Message.Initialisation protocol InitialisationRequest) Stage.Completed host tells at in_version is mid has = closes items host is has
  follow_says items left taken telegram (Message.Initialisation protocol InitialisationRequest) Stage.Refused host tells at in_version is mid has = closes items host is has
  follow_says items left taken telegram (Message.Initialisation protocol StartInitialisation) how_far host tells at in_version is mid has = closes items host is has
  follow_says items left taken telegram (Message.Initialisation protocol InitialisationCompleted) how_far host tells at in_version is mid has = closes items host is has
  follow_says items left taken telegram (Message.Initialisation protocol (VersionAnswer agreement told)) how_far host tells at in_version is mid has = closes items host is has
  follow_says items left taken telegram (Message.Point what) how_far host tells at in_version is mid has = by_stages items taken telegram how_far host at in_version is has
  follow_says items left taken telegram (Message.Signal what) how_far host tells at in_version is mid has = by_stages items taken telegram how_far host at in_version is has
  follow_says items left taken telegram (Message.Detection what) how_far host tells at in_version is mid has = by_stages items taken telegram how_far host at in_version is has

  act_says : (items : List (List ℕ)) (left : ℕ) (taken : List ℕ) (read : Result Telegram SciFault) (host : HostState Object) → ItemTells Wrong version read → Is host → Mid does many objects now (suc left) host → Has items host → Says items host (acting does now taken read host)
  unfolding acting
  act_says items left taken (Err fault) host tells is mid has = closes items host is has
  act_says items left taken (Ok telegram) host tells is mid has = choose (is_admitted does telegram host) refl
    where
      choose : (b : Bool) → is_admitted does telegram host ≡ b → Says items host (if b then following does now taken telegram (meaning telegram.message host.stage) host else violating now host)
      choose true e = follow_says items left taken telegram telegram.message host.stage host tells refl (ap (λ (v : ℕ). is_in_version v telegram.message) (sym is.version_is) ∙ last_true (is_from_peer does telegram host) (is_in_version host.version telegram.message) e) is mid has
      choose false e = closes items host is has

  all_say : (items : List (List ℕ)) (came : List (List ℕ)) (host : HostState Object) → AllTell Wrong version came → Is host → Mid does many objects now (length came) host → Has items host → Says items host (acting_all does now came host)
  unfolding acting_all
  all_say items [] host tells is mid has = says_none items host host is refl has
  all_say items (one ∷ others) host tells is mid has = choose (is_open host.link.phase)
      (let first = act_says items (length others) one (reading one) host tells.0 is mid has in says_then items host (acting does now one (reading one) host) (acting_all does now others) first
      (all_say (items ++ items_given now (acting does now one (reading one) host).calls host.link) others (acting does now one (reading one) host).host tells.1 first.is (acts does many objects now (length others) one (reading one) host mid) (has_of items host (acting does now one (reading one) host) first)))
    where
      choose : (b : Bool) → Says items host (then_do (acting does now one (reading one) host) (acting_all does now others)) → Says items host (if b then then_do (acting does now one (reading one) host) (acting_all does now others) else silent host)
      choose true so = so
      choose false so = says_none items host host is refl has

  -- ---- what comes

  risen_has : (items : List (List ℕ)) (host : HostState Object) → SaidBy does Fits Wrong item version host.stage items → SaidBy does Fits Wrong item version (risen host).stage items
  unfolding risen
  risen_has items host has = at_stages host.stage refl (is_open host.link.phase)
    where
      at_stages : (s : Stage) → host.stage ≡ s → (b : Bool) → SaidBy does Fits Wrong item version (if is_outside s && b then record host { stage = Stage.AwaitsCheck } else host).stage items
      at_stages Stage.Outside e true = subst (λ (s : Stage). SaidBy does Fits Wrong item version s items) e has
      at_stages Stage.Outside e false = has
      at_stages Stage.AwaitsCheck e b = has
      at_stages Stage.AwaitsRequest e b = has
      at_stages Stage.Completed e b = has
      at_stages Stage.Refused e b = has

  risen_is : (host : HostState Object) → Is host → Is (risen host)
  unfolding risen
  risen_is host is = choose (is_outside host.stage && is_open host.link.phase)
    where
      choose : (b : Bool) → Is (if b then record host { stage = Stage.AwaitsCheck } else host)
      choose true = record { items = is.items; version_is = is.version_is; fits = is.fits }
      choose false = is

  came_says : (items : List (List ℕ)) (bytes : List ℕ) (host : HostState Object) → Begun does many objects now host → Is host → Has items host
      → Says (given_before (is_open host.link.phase) items) host (received now bytes (receiving now bytes host.link) host)
  unfolding received calls_made items_given
  came_says items bytes host begun is has = record {
    is = risen_is came (record { items = is.items; version_is = is.version_is; fits = is.fits });
    made = same_link came;
    ever = none_more (given_before (is_open host.link.phase) items) (ever_before (is_open host.link.phase));
    says = λ e. subst (SaidBy does Fits Wrong item version (risen came).stage) (sym (append-nil (given_before (is_open host.link.phase) items))) (risen_has (given_before (is_open host.link.phase) items) came (by_open (is_open host.link.phase) refl));
  }
    where
      came : HostState Object
      came = record host { link = (receiving now bytes host.link).link }

      same_link : (h : HostState Object) → (risen h).link ≡ h.link
      same_link h = (risen_same does many objects now h).link

      by_open : (b : Bool) → is_open host.link.phase ≡ b → SaidBy does Fits Wrong item version host.stage (given_before b items)
      by_open true e = has.said_now e
      by_open false e = subst (λ (s : Stage). SaidBy does Fits Wrong item version s []) (sym (begun.outside e)) refl

      ever_before : (b : Bool) → SaidSome does Fits Wrong item version (given_before b items)
      ever_before true = has.ever
      ever_before false = some_of Stage.Outside [] refl

  hear_says : (items : List (List ℕ)) (bytes : List ℕ) (host : HostState Object) → AllTell Wrong version (receiving now bytes host.link).items → Begun does many objects now host → Is host → Has items host → Says (given_before (is_open host.link.phase) items) host (hearing does now bytes host)
  unfolding hearing
  hear_says items bytes host tells begun is has =
      let first = came_says items bytes host begun is has
      in let receipt = receiving now bytes host.link
      in let old = given_before (is_open host.link.phase) items
      in says_then old host (received now bytes receipt host) (acting_all does now receipt.items) first
      (all_say (old ++ items_given now (received now bytes receipt host).calls host.link) receipt.items (received now bytes receipt host).host tells first.is (comes does many objects now bytes host begun) (has_of old host (received now bytes receipt host) first))

  had : (items : List (List ℕ)) (host : HostState Object) → Has items host → Has (given_before (is_open host.link.phase) items) host
  had items host has = record {
    said_now = λ e. subst (λ (b : Bool). SaidBy does Fits Wrong item version host.stage (given_before b items)) (sym e) (has.said_now e);
    ever = by_open (is_open host.link.phase);
  }
    where
      by_open : (b : Bool) → SaidSome does Fits Wrong item version (given_before b items)
      by_open true = has.ever
      by_open false = some_of Stage.Outside [] refl

  given_says : (items : List (List ℕ)) (input : Input) (host : HostState Object) → InputTells Wrong version now input host.link → Begun does many objects now host → Is host → Has items host → Says (given_before (is_open host.link.phase) items) host (given_in does now input host)
  unfolding given_in
  given_says items Input.Tick host tells begun is has = says_none (given_before (is_open host.link.phase) items) host host is refl (had items host has)
  given_says items (Input.Datagram bytes) host tells begun is has = hear_says items bytes.now host tells begun is has
  given_says items (Input.Sense sense) host tells begun is has = says_none (given_before (is_open host.link.phase) items) host (record host { object = does.after_sense now sense host.object }) (record { items = is.items; version_is = is.version_is; fits = keep.senses now sense host.object is.fits }) refl (let h = had items host has in record { said_now = h.said_now; ever = h.ever })

  -- ---- what is owed

  report_says : (items : List (List ℕ)) (report : Report) (host : HostState Object) → does.owed host.object ≡ Some report → is_completed host.stage ≡ true → Is host → Has items host → Says items host (posting now report host)
  unfolding posting items_given calls_made
  report_says items report host owes done is has = record {
    is = record { items = is.items; version_is = is.version_is; fits = is.fits };
    made = refl;
    says = λ e. by_stage host.stage done (has.said_now (posted_open does many objects now report host e));
    ever = by_answer (is_ok (answer_to_send now host.link)) refl;
  }
    where
      more : SaidAll does Fits item version items → (b : Bool) → SaidAll does Fits item version (items ++ ((if b then item_of host report ∷ [] else []) ++ []))
      more said_so false = subst (SaidAll does Fits item version) (sym (append-nil items)) said_so
      more said_so true = record {
        object = said_so.object;
        fits = said_so.fits;
        reports = said_so.reports ++ report ∷ [];
        owed = each_both (OwedFit does Fits) said_so.reports (report ∷ []) said_so.owed (record { object = host.object; fits = is.fits; owes = owes }, tt);
        are = ap (λ (list : List (List ℕ)). list ++ item_of host report ∷ []) said_so.are
            ∙ ap (λ (f : Report → List ℕ). (item (said does (VersionAnswer Match version)) ∷ (map item (initialisation does said_so.object) ++ map item said_so.reports)) ++ f report ∷ []) is.items
            ∙ ap (λ (list : List (List ℕ)). item (said does (VersionAnswer Match version)) ∷ list) (append_assoc (map item (initialisation does said_so.object)) (map item said_so.reports) (item report ∷ [])
            ∙ ap (λ (list : List (List ℕ)). map item (initialisation does said_so.object) ++ list) (sym (map_both item said_so.reports (report ∷ []))));
      }

      by_stage : (s : Stage) → is_completed s ≡ true → SaidBy does Fits Wrong item version s items → SaidBy does Fits Wrong item version s (items ++ ((if is_ok (answer_to_send now host.link) then item_of host report ∷ [] else []) ++ []))
      by_stage Stage.Completed e said_so = more said_so (is_ok (answer_to_send now host.link))
      by_stage Stage.Outside e said_so = absurd (false≢true e)
      by_stage Stage.AwaitsCheck e said_so = absurd (false≢true e)
      by_stage Stage.AwaitsRequest e said_so = absurd (false≢true e)
      by_stage Stage.Refused e said_so = absurd (false≢true e)

      by_answer : (b : Bool) → is_ok (answer_to_send now host.link) ≡ b → SaidSome does Fits Wrong item version (items ++ ((if is_ok (answer_to_send now host.link) then item_of host report ∷ [] else []) ++ []))
      by_answer true ok = some_of host.stage (items ++ ((if is_ok (answer_to_send now host.link) then item_of host report ∷ [] else []) ++ [])) (by_stage host.stage done (has.said_now (ok_open now host.link ok)))
      by_answer false denied = subst (λ (b : Bool). SaidSome does Fits Wrong item version (items ++ ((if b then item_of host report ∷ [] else []) ++ []))) (sym denied) (none_more items has.ever)

  first_says : (items : List (List ℕ)) (report : Option Report) (host : HostState Object) → does.owed host.object ≡ report → Is host → Has items host → Says items host (paying_first does now report host)
  first_says items None host owes is has = says_none items host host is refl has
  first_says items (Some report) host owes is has = choose (is_completed host.stage) refl (is_ok (answer_to_send now host.link))
    where
      sent : HostSoFar Object
      sent = posting now report host

      settled_so : Says items host sent → Says items host (record sent { host = paid does sent.host })
      settled_so s = record { is = record { items = s.is.items; version_is = s.is.version_is; fits = keep.pays sent.host.object s.is.fits }; made = s.made; says = s.says; ever = s.ever }

      choose : (b : Bool) → is_completed host.stage ≡ b → (c : Bool) → Says items host (if not b then silent (paid does host) else (if c then record sent { host = paid does sent.host } else sent))
      choose false e c = says_none items host (paid does host) (record { items = is.items; version_is = is.version_is; fits = keep.pays host.object is.fits }) refl (record { said_now = has.said_now; ever = has.ever })
      choose true e true = settled_so (report_says items report host owes e is has)
      choose true e false = report_says items report host owes e is has

  pay_says : (items : List (List ℕ)) (most : ℕ) (host : HostState Object) → Is host → Has items host → Says items host (paying does now most host)
  unfolding paying
  pay_says items zero host is has = says_none items host host is refl has
  pay_says items (suc most) host is has = choose (goes_on now (does.owed host.object) host)
      (let first = first_says items (does.owed host.object) host refl is has in says_then items host (paying_first does now (does.owed host.object) host) (paying does now most) first
      (pay_says (items ++ items_given now (paying_first does now (does.owed host.object) host).calls host.link) most (paying_first does now (does.owed host.object) host).host first.is (has_of items host (paying_first does now (does.owed host.object) host) first)))
    where
      choose : (b : Bool) → Says items host (then_do (paying_first does now (does.owed host.object) host) (paying does now most))
          → Says items host (if b then then_do (paying_first does now (does.owed host.object) host) (paying does now most) else paying_first does now (does.owed host.object) host)
      choose true so = so
      choose false so = first_says items (does.owed host.object) host refl is has

  beat_says : (items : List (List ℕ)) (input : Input) (host : HostState Object) → Is host → Has items host → Says items host (beating now input host)
  unfolding beating items_given calls_made
  beat_says items Input.Tick host is has = record {
    is = record { items = is.items; version_is = is.version_is; fits = is.fits };
    made = refl;
    says = λ e. subst (SaidBy does Fits Wrong item version host.stage) (sym (append-nil items)) (has.said_now (tick_was_open now host.link e).1);
    ever = none_more items has.ever;
  }
  beat_says items (Input.Datagram bytes) host is has = says_none items host host is refl has
  beat_says items (Input.Sense sense) host is has = says_none items host host is refl has

  -- ---- a step

  -- a link that is open isn't lost
  record StillOpen (host after : HostState Object) : Type 0 where
    link : after.link ≡ host.link
    stage_is : is_open host.link.phase ≡ true → after.stage ≡ host.stage
    items : item_of after ≡ item_of host
    version_same : after.version ≡ host.version

  ended : (host : HostState Object) → StillOpen host (ending does host)
  unfolding fallen keeping
  ended host = choose (is_outside host.stage) (is_open host.link.phase) refl
    where
      lost : HostState Object
      lost = record host { stage = Stage.Outside; object = does.after_loss host.object }

      choose : (b c : Bool) → is_open host.link.phase ≡ c → StillOpen host (keeping does (if not b && not c then lost else host))
      choose true c e = record { link = refl; stage_is = λ f. refl; items = refl; version_same = refl }
      choose false true e = record { link = refl; stage_is = λ f. refl; items = refl; version_same = refl }
      choose false false e = record { link = refl; stage_is = λ f. absurd (false≢true (sym e ∙ f)); items = refl; version_same = refl }

  begun_so : (host : HostState Object) → StillOpen (record host { link = settled now host.link }) (beginning does now host)
  unfolding beginning fallen
  begun_so host = choose (is_outside host.stage) (is_open (settled now host.link).phase) refl
    where
      at : HostState Object
      at = record host { link = settled now host.link }

      lost : HostState Object
      lost = record at { stage = Stage.Outside; object = does.after_loss host.object }

      ticked : HostState Object → HostState Object
      ticked h = record h { object = does.after_tick now h.object }

      choose : (b c : Bool) → is_open (settled now host.link).phase ≡ c → StillOpen at (ticked (if not b && not c then lost else at))
      choose true c e = record { link = refl; stage_is = λ f. refl; items = refl; version_same = refl }
      choose false true e = record { link = refl; stage_is = λ f. refl; items = refl; version_same = refl }
      choose false false e = record { link = refl; stage_is = λ f. absurd (false≢true (sym e ∙ f)); items = refl; version_same = refl }

  -- what a step says
  pub record StepSays (items : List (List ℕ)) (input : Input) (host : HostState Object) : Type 0 where
    pub says : is_open (host_step does now input host).host.link.phase ≡ true → SaidBy does Fits Wrong item version (host_step does now input host).host.stage
        (given_before (is_open (settled now host.link).phase) items ++ items_given now (host_step does now input host).calls (settled now host.link))
    pub ever : SaidSome does Fits Wrong item version (given_before (is_open (settled now host.link).phase) items ++ items_given now (host_step does now input host).calls (settled now host.link))

  pub step_says_both : (items : List (List ℕ)) (input : Input) (host : HostState Object) → InputTells Wrong version now input (settled now host.link) → HostStandsByCounts does objects host → item_of host ≡ item → host.version ≡ version → Fits host.object
      → (is_open (settled now host.link).phase ≡ true → SaidBy does Fits Wrong item version host.stage items) → SaidSome does Fits Wrong item version items → StepSays items input host
  unfolding host_step
  step_says_both items input host tells stands named spoken fits has ever = record {
    says = λ e.
        let open_done = ap (λ (l : LinkState). is_open l.phase) (sym (ended done.host).link) ∙ e
        in subst (λ (s : Stage). SaidBy does Fits Wrong item version s (given_before (is_open (settled now host.link).phase) items ++ items_given now done.calls (settled now host.link))) (sym ((ended done.host).stage_is open_done))
        (subst (λ (l : LinkState). SaidBy does Fits Wrong item version done.host.stage (given_before (is_open l.phase) items ++ items_given now done.calls l)) b.link (all.says open_done));
    ever = subst (λ (l : LinkState). SaidSome does Fits Wrong item version (given_before (is_open l.phase) items ++ items_given now done.calls l)) b.link all.ever;
  }
    where
      first : HostState Object
      first = beginning does now host

      b : StillOpen (record host { link = settled now host.link }) first
      b = begun_so host

      first_kept : Kept does Fits version host.own_name host.peer_name keep first
      first_kept = begins_kept does Fits version host.own_name host.peer_name keep now host (record { object = fits; own_is = refl; peer_is = refl; version_is = spoken })

      first_is : Is first
      first_is = record { items = b.items ∙ named; version_is = b.version_same ∙ spoken; fits = first_kept.object }

      first_has : Has items first
      first_has = record {
        said_now = λ f. let g = ap (λ (l : LinkState). is_open l.phase) (sym b.link) ∙ f in subst (λ (s : Stage). SaidBy does Fits Wrong item version s items) (sym (b.stage_is g)) (has g);
        ever = ever;
      }

      old : List (List ℕ)
      old = given_before (is_open first.link.phase) items

      heard : HostSoFar Object
      heard = given_in does now input first

      heard_says : Says old first heard
      heard_says = given_says items input first (subst (InputTells Wrong version now input) (sym b.link) tells) (begins does many objects now host stands) first_is first_has

      told_so : HostSoFar Object
      told_so = then_do heard (paying does now most_owed)

      told_says : Says old first told_so
      told_says = says_then old first heard (paying does now most_owed) heard_says (pay_says (old ++ items_given now heard.calls first.link) most_owed heard.host heard_says.is (has_of old first heard heard_says))

      done : HostSoFar Object
      done = then_do told_so (beating now input)

      all : Says old first done
      all = says_then old first told_so (beating now input) told_says (beat_says (old ++ items_given now told_so.calls first.link) input told_so.host told_says.is (has_of old first told_so told_says))

-- where a wrong version was asked once, it was asked
module _ {Object : Type 0} (does : Behaviour Object) (Fits : Object → Type 0) (item : Report → List ℕ) (version : ℕ) (One Other : Type 0) (leads : One → Other) where
  pub said_still : (by : Stage) (items : List (List ℕ)) → SaidBy does Fits One item version by items → SaidBy does Fits Other item version by items
  said_still Stage.Outside items e = e
  said_still Stage.AwaitsCheck items e = e
  said_still Stage.AwaitsRequest items e = e
  said_still Stage.Completed items all = all
  said_still Stage.Refused items (wrong, e) = (leads wrong, e)

  pub some_still : (items : List (List ℕ)) → SaidSome does Fits One item version items → SaidSome does Fits Other item version items
  some_still items some = record { by = some.by; whole = some.whole; said = said_still some.by some.whole some.said; begins = some.begins }

-- ---- of any object

module _ {Object : Type 0} (does : Behaviour Object) (item : Report → List ℕ) (version : ℕ) where
  abbrev Any : Object → Type 0
  Any object = Unit {0}

  any_keeps : ObjectKeeps does Any version
  any_keeps = record { takes = λ now telegram object e is. tt; ticks = λ now object is. tt; senses = λ now contact object is. tt; keeps = λ moment object is. tt; pays = λ object is. tt; loses = λ object is. tt }

  -- the object is left open
  pub as_said : (Fits : Object → Type 0) (s : Stage) (items : List (List ℕ)) → SaidBy does Fits (Unit {0}) item version s items → HostHasSaid does item version s items
  as_said Fits Stage.Outside items e = e
  as_said Fits Stage.AwaitsCheck items e = e
  as_said Fits Stage.AwaitsRequest items e = e
  as_said Fits Stage.Completed items all = record { object = all.object; reports = all.reports; owed = each_owed all.reports all.owed; are = all.are }
    where
      each_owed : (reports : List Report) → Each (OwedFit does Fits) reports → Each (IsOwed does) reports
      each_owed [] each = tt
      each_owed (first ∷ others) each = (record { object = each.0.object; owes = each.0.owes }, each_owed others each.1)
  as_said Fits Stage.Refused items (wrong, e) = e

  said_as : (s : Stage) (items : List (List ℕ)) → HostHasSaid does item version s items → SaidBy does Any (Unit {0}) item version s items
  said_as Stage.Outside items e = e
  said_as Stage.AwaitsCheck items e = e
  said_as Stage.AwaitsRequest items e = e
  said_as Stage.Completed items all = record { object = all.object; fits = tt; reports = all.reports; owed = each_owed all.reports all.owed; are = all.are }
    where
      each_owed : (reports : List Report) → Each (IsOwed does) reports → Each (OwedFit does Any) reports
      each_owed [] each = tt
      each_owed (first ∷ others) each = (record { object = each.0.object; fits = tt; owes = each.0.owes }, each_owed others each.1)
  said_as Stage.Refused items e = (tt, e)

  pub step_says : (many : TellsAsMany does) (objects now : ℕ) (items : List (List ℕ)) (input : Input) (host : HostState Object) → HostStandsByCounts does objects host → item_of host ≡ item → host.version ≡ version
      → (is_open (settled now host.link).phase ≡ true → HostHasSaid does item version host.stage items) → is_open (host_step does now input host).host.link.phase ≡ true
      → HostHasSaid does item version (host_step does now input host).host.stage (given_before (is_open (settled now host.link).phase) items ++ items_given now (host_step does now input host).calls (settled now host.link))
  step_says many objects now items input host stands named spoken has e = as_said Any _ _ (by_open (is_open (settled now host.link).phase) refl)
    where
      any_item : (read : Result Telegram SciFault) → ItemTells (Unit {0}) version read
      any_item (Ok telegram) = λ protocol asked is other. tt
      any_item (Err fault) = tt

      any_items : (list : List (List ℕ)) → AllTell (Unit {0}) version list
      any_items [] = tt
      any_items (first ∷ others) = (any_item (reading first), any_items others)

      any_tells : (link : LinkState) (i : Input) → InputTells (Unit {0}) version now i link
      any_tells link Input.Tick = tt
      any_tells link (Input.Datagram bytes) = any_items (receiving now bytes.now link).items
      any_tells link (Input.Sense sense) = tt

      none_said : SaidBy does Any (Unit {0}) item version Stage.Outside []
      none_said = refl

      some : (b : Bool) → is_open (settled now host.link).phase ≡ b → SaidSome does Any (Unit {0}) item version (given_before b items)
      some true f = record { by = host.stage; whole = items; said = said_as host.stage items (has f); begins = record { rest = []; are = sym (append-nil items) } }
      some false f = record { by = Stage.Outside; whole = []; said = refl; begins = record { rest = []; are = refl } }

      by_open : (b : Bool) → is_open (settled now host.link).phase ≡ b
          → SaidBy does Any (Unit {0}) item version (host_step does now input host).host.stage (given_before (is_open (settled now host.link).phase) items ++ items_given now (host_step does now input host).calls (settled now host.link))
      by_open true f = (step_says_both does many objects now item version Any (Unit {0}) any_keeps items input host (any_tells (settled now host.link) input) stands named spoken tt (λ g. said_as host.stage items (has g)) (some true f)).says e
      by_open false f = subst (λ (b : Bool). SaidBy does Any (Unit {0}) item version (host_step does now input host).host.stage (given_before b items ++ items_given now (host_step does now input host).calls (settled now host.link))) (sym f)
          (subst (λ (b : Bool). SaidBy does Any (Unit {0}) item version (host_step does now input host).host.stage (given_before b [] ++ items_given now (host_step does now input host).calls (settled now host.link))) f
          ((step_says_both does many objects now item version Any (Unit {0}) any_keeps [] input host (any_tells (settled now host.link) input) stands named spoken tt (λ g. absurd (false≢true (sym f ∙ g))) (record { by = Stage.Outside; whole = []; said = none_said; begins = record { rest = []; are = refl } })).says e))
