-- A link with room for some items accepts them all, and what a whole initialisation says fits in a window.
use Rattle.simulator_recovery.proofs.Words.Basics.{◌≡◌, ℕ, zero, suc, ◌+◌, ◌<◌, ◌≤◌, Bool, true, false, nat_lt, nat_le, List, [], ◌∷◌, ◌++◌, length, map, Option, Some, None, refl, sym, ap, subst, ◌∙◌, if◌then◌else◌, arith, ◌&&◌, is_ok, nat_tests}
use Rattle.simulator_recovery.proofs.Words.Links.{acceptance, answer_to_send, sending_item, deadline, settled, connection_limit, window_size, entered, giving, limited, sending, silent, telling, LinkState, is_open, Reason, Phase}
use Rattle.simulator_recovery.proofs.Words.Controllers.{InitialisationCompleted, StartInitialisation, Behaviour, HostState, LinkCall, Sends, said, items_given, initial_status, initialising, most_objects, posting, posting_all, report_then, initialisation, item_of, Report}
use Rattle.simulator_recovery.proofs.Words.Recovery.{Accepts, HasRoomFor}
use Rattle.simulator_recovery.proofs.Lemmas.Talk.ClientLinks.{up_open}
use Rattle.simulator_recovery.proofs.Lemmas.Ground.EndCalls.{count_push}

module _ (now : ℕ) where
  settled_is : (link : LinkState) → is_open link.phase ≡ true → now < deadline link → settled now link ≡ record link { clock = now }
  unfolding settled
  settled_is link open_so lives =
      ap (λ (b : Bool). if b && nat_le (deadline link) now then record link { phase = Phase.Closed; closed_at = deadline link; clock = now } else record link { clock = now }) open_so
      ∙ ap (λ (b : Bool). if b then record link { phase = Phase.Closed; closed_at = deadline link; clock = now } else record link { clock = now }) not_over
    where
      not_over : nat_le (deadline link) now ≡ false
      not_over = grind (arith, nat_tests, lives)

  limited_is : (link : LinkState) → is_open link.phase ≡ true → link.sent < connection_limit → (limited link).link ≡ link
  unfolding limited
  limited_is link open_so few =
      ap (λ (b : Bool). (if b && nat_le connection_limit link.sent then telling Reason.Sequence link else silent link).link) open_so
      ∙ ap (λ (b : Bool). (if b then telling Reason.Sequence link else silent link).link) below
    where
      below : nat_le connection_limit link.sent ≡ false
      below = grind (arith, nat_tests, few)

  begins : (count : ℕ) (link : LinkState) → HasRoomFor now (suc count) link → (entered now link).link ≡ record link { clock = now }
  unfolding entered
  begins count link room =
      let open_so = up_open link.phase room.up
      in let limit = room.limit
      in ap (λ (l : LinkState). (limited l).link) (settled_is link open_so room.lives) ∙ limited_is (record link { clock = now }) open_so (omega (arith, limit))

  pub accepts : (count : ℕ) (item : List ℕ) (link : LinkState) → HasRoomFor now (suc count) link → Accepts now count item link
  unfolding answer_to_send sending_item acceptance giving sending deadline
  accepts count item link room = record {
    accepted = ap (λ (l : LinkState). is_ok (acceptance l)) (begins count link room) ∙ fits;
    rest = subst (λ (l : LinkState). HasRoomFor now count (if is_ok (acceptance l) then giving item l else record { link = l; pdus = [] }).link) (sym (begins count link room))
        (subst (λ (b : Bool). HasRoomFor now count (if b then giving item (record link { clock = now }) else record { link = record link { clock = now }; pdus = [] }).link) (sym fits) (record {
          up = room.up;
          lives = lives;
          window = let window = room.window in let more = count_push link.waiting (record { tag = link.sent; item = item }) in omega (arith, window, more);
          limit = let limit = room.limit in omega (arith, limit);
        }));
  }
    where
      window_free : nat_lt (length link.waiting) window_size ≡ true
      window_free = let window = room.window in grind (arith, nat_tests, window)

      fits : is_ok (acceptance (record link { clock = now })) ≡ true
      fits = let up = room.up in rw (up, window_free) refl

      lives : now < deadline (record link { clock = now; sent = link.sent + 1; sent_at = now; waiting = link.waiting ++ (record { tag = link.sent; item = item }) ∷ []; given = link.given })
      lives = room.lives

  -- all items, one after another
  sends_all : (items : List (List ℕ)) (link : LinkState) → HasRoomFor now (length items) link → items_given now (map Sends items) link ≡ items
  unfolding items_given
  sends_all [] link room = refl
  sends_all (item ∷ others) link room =
      let one = accepts (length others) item link room
      in ap (λ (b : Bool). (if b then item ∷ [] else []) ++ items_given now (map Sends others) (sending_item now item link).link) one.accepted
      ∙ ap (λ (rest : List (List ℕ)). item ∷ rest) (sends_all others (sending_item now item link).link one.rest)

  -- ---- what a host says

  module _ {Object : Type 0} (does : Behaviour Object) where
    posting_all_says : (reports : List Report) (host : HostState Object) → (posting_all now reports host).calls ≡ map Sends (map (item_of host) reports)
    unfolding posting_all posting
    posting_all_says [] host = refl
    posting_all_says (first ∷ others) host = ap (λ (rest : List LinkCall). Sends (item_of host first) ∷ rest) (posting_all_says others (record host { link = (sending_item now (item_of host first) host.link).link }))

    map_both : (one other : List (List ℕ)) → map Sends (one ++ other) ≡ map Sends one ++ map Sends other
    map_both [] other = refl
    map_both (first ∷ one) other = ap (λ (rest : List LinkCall). Sends first ∷ rest) (map_both one other)

    items_both : (host : HostState Object) (one other : List Report) → map (item_of host) (one ++ other) ≡ map (item_of host) one ++ map (item_of host) other
    items_both host [] other = refl
    items_both host (first ∷ one) other = ap (λ (rest : List (List ℕ)). item_of host first ∷ rest) (items_both host one other)

    -- posting leaves all of a host but its link
    record PostsAs (host : HostState Object) (after : HostState Object) : Type 0 where
      link : LinkState
      are : after ≡ record host { link = link }

    posting_all_as : (reports : List Report) (host : HostState Object) → PostsAs host (posting_all now reports host).host
    unfolding posting_all posting
    posting_all_as [] host = record { link = host.link; are = refl }
    posting_all_as (first ∷ others) host = let rest = posting_all_as others (record host { link = (sending_item now (item_of host first) host.link).link }) in record { link = rest.link; are = rest.are }

    -- the initialisation says each of its reports
    initialising_says : (host : HostState Object) → (initialising does now host).calls ≡ map Sends (map (item_of host) (initialisation does host.object))
    unfolding initialising posting
    initialising_says host =
        ap (λ (rest : List LinkCall). (Sends start ∷ rest) ++ last_said (posting_all now status begun).host) (posting_all_says status begun)
        ∙ (ap (λ (h : HostState Object). (Sends start ∷ map Sends (map (item_of host) status)) ++ last_said h) behind.are
        ∙ sym (ap (map Sends) (ap (λ (rest : List (List ℕ)). start ∷ rest) (items_both host status (said does InitialisationCompleted ∷ []))) ∙ map_both (start ∷ map (item_of host) status) (item_of host (said does InitialisationCompleted) ∷ [])))
      where
        status : List Report
        status = initial_status does most_objects 0 host.object

        start : List ℕ
        start = item_of host (said does StartInitialisation)

        begun : HostState Object
        begun = record host { link = (sending_item now start host.link).link }

        behind : PostsAs begun (posting_all now status begun).host
        behind = posting_all_as status begun

        last_said : HostState Object → List LinkCall
        last_said h = Sends (item_of h (said does InitialisationCompleted)) ∷ []

    -- and they are few
    status_few : (more place : ℕ) (object : Object) → length (initial_status does more place object) ≤ more
    unfolding initial_status
    status_few zero place object = omega arith
    status_few (suc more) place object = choose (does.status place object) (status_few more (place + 1) object)
      where
        choose : (first : Option Report) → length (initial_status does more (place + 1) object) ≤ more → length (report_then first (initial_status does more (place + 1) object)) ≤ suc more
        choose None few = omega arith
        choose (Some report) few = omega (arith, few)

    pub said_few : (object : Object) → length (initialisation does object) ≤ 18
    said_few object =
        let few = status_few most_objects 0 object
        in let pushed = count_push (initial_status does most_objects 0 object) (said does InitialisationCompleted)
        in omega (arith, few, pushed)

    map_count : (host : HostState Object) (reports : List Report) → length (map (item_of host) reports) ≡ length reports
    map_count host [] = refl
    map_count host (first ∷ others) = ap suc (map_count host others)

    fewer : (more less : ℕ) (link : LinkState) → less ≤ more → HasRoomFor now more link → HasRoomFor now less link
    fewer more less link few room = record {
      up = room.up;
      lives = room.lives;
      window = let window = room.window in omega (arith, few, window);
      limit = let limit = room.limit in omega (arith, few, limit);
    }

    pub said_whole : (host : HostState Object) → HasRoomFor now 18 host.link → items_given now (initialising does now host).calls host.link ≡ map (item_of host) (initialisation does host.object)
    said_whole host room =
        let few = said_few host.object
        in let count = map_count host (initialisation does host.object)
        in ap (λ (calls : List LinkCall). items_given now calls host.link) (initialising_says host)
        ∙ sends_all (map (item_of host) (initialisation does host.object)) host.link (fewer 18 (length (map (item_of host) (initialisation does host.object))) host.link (omega (arith, few, count)) room)
