-- What a host says itself to what comes: answers of the version, and then what its initialisation says.
use Rattle.std.proofs.Common.{◌≡◌, inl, inr, ℕ, Bool, true, false, ◌&&◌, ◌==◌, if◌then◌else◌, List, [], ◌∷◌, ◌++◌, map, append_assoc, refl, ap, sym, ◌∙◌, subst}
use Rattle.std.specs.List.{All}
use Rattle.std.specs.Prelude.{Result, Ok, Err, is_ok}
use Rattle.std.proofs.lemmas.Bool.{true≢false}
use Rattle.std.proofs.lemmas.List.{append-nil}
use Rattle.std.proofs.lemmas.List.Elements.{All-append, All-cons, All-nil}
use Rattle.sci_telegram.specs.TelegramRead.{reading}
use Rattle.sci_telegram.specs.declared.fault.SciFault.{SciFault}
use Rattle.sci_telegram.specs.declared.message.Agreement.{Agreement}
use Rattle.sci_telegram.specs.declared.message.Agreement.TheVariants.{NoMatch, Match}
use Rattle.sci_telegram.specs.declared.message.Initialisation.TheVariants.{StartInitialisation, InitialisationCompleted, VersionAnswer}
use Rattle.sci_telegram.specs.declared.telegram.Telegram.{Telegram}
use Rattle.rasta_core.specs.State.{LinkState, is_open}
use Rattle.rasta_core.specs.Calls.{answer_to_send, receiving}
use Rattle.object_host.specs.Behaviour.{Behaviour}
use Rattle.object_host.specs.Meaning.{meaning}
use Rattle.object_host.specs.Host.{HostState, LinkCall, HostSoFar, at_stage, is_completed, is_outside, risen, said, silent, then_do}
use Rattle.object_host.specs.Made.{IsMadeOf, call_made, calls_made, items_given, items_given_by}
use Rattle.object_host.specs.Step.{acting, acting_all, answering, commanding, following, given, hearing, initial_status, initialising, is_admitted, most_objects, posting, posting_all, received, telling_status, violating}
use Rattle.object_host.specs.Told.{AreSomeOf, IsSaid, IsVersionAnswer, initialisation, item_of}
use Rattle.object_host.specs.declared.meaning.Meaning.{Meaning}
use Rattle.object_host.specs.declared.meaning.Meaning.TheVariants as meanings
use Rattle.object_host.specs.declared.input.Input.{Input}
use Rattle.object_host.specs.declared.input.Input.TheVariants as inputs
use Rattle.object_host.specs.declared.report.Report.{Report}
use Rattle.object_host.specs.declared.stage.Stage.{Stage}
use Rattle.object_host.specs.declared.stage.Stage.TheVariants as stage
use Rattle.object_host.proofs.Between.{checks_early, commands_late, initialises_early, is_check, is_command, is_request, outside_early}
use Rattle.object_host.proofs.Made.{acting_part, made_then, posting_all_part, posting_part}

pub given_joined : (now : ℕ) (first others : List LinkCall) (link : LinkState) →
    items_given now (first ++ others) link ≡ items_given now first link ++ items_given now others (calls_made now first link).link
unfolding items_given calls_made
given_joined now [] others link = refl
given_joined now (call ∷ calls) others link =
    ap (λ rest. items_given_by now call link ++ rest) (given_joined now calls others (call_made now call link).link)
    ∙ sym (append_assoc (items_given_by now call link) _ _)

pub map_joined : {A B : Type 0} (f : A → B) (first others : List A) → map f (first ++ others) ≡ map f first ++ map f others
map_joined f [] others = refl
map_joined f (one ∷ more) others = ap (λ rest. f one ∷ rest) (map_joined f more others)

-- some of two lists, joined
skipped : {A : Type 0} (some : List A) (one : A) (all : List A) → AreSomeOf some all → AreSomeOf some (one ∷ all)
skipped [] one all are = tt
skipped (first ∷ more) one all are = inr are

some_joined : {A : Type 0} (first whole others rest : List A) → AreSomeOf first whole → AreSomeOf others rest → AreSomeOf (first ++ others) (whole ++ rest)
some_joined [] [] others rest one more = more
some_joined [] (x ∷ xs) others rest one more = skipped others x (xs ++ rest) (some_joined [] xs others rest tt more)
some_joined (a ∷ bs) [] others rest one more = absurd one
some_joined (a ∷ bs) (x ∷ xs) others rest (inl here) more = inl (here.0, some_joined bs xs others rest here.1 more)
some_joined (a ∷ bs) (x ∷ xs) others rest (inr later) more = inr (some_joined (a ∷ bs) xs others rest later more)

module _ {Object : Type 0} where
  -- a report is sent in the names of the host
  item_same : (report : Report) (old new : HostState Object) → new.own_name ≡ old.own_name → new.peer_name ≡ old.peer_name → item_of new report ≡ item_of old report
  item_same report old new own_same peer_same = rw (own_same, peer_same) refl

  pub items_same : (reports : List Report) (old new : HostState Object) → new.own_name ≡ old.own_name → new.peer_name ≡ old.peer_name →
      map (item_of new) reports ≡ map (item_of old) reports
  items_same [] old new own_same peer_same = refl
  items_same (report ∷ others) old new own_same peer_same =
      ap (λ item. item ∷ map (item_of new) others) (item_same report old new own_same peer_same)
      ∙ ap (λ rest. item_of old report ∷ rest) (items_same others old new own_same peer_same)

  -- reports that are sent, each where the link accepts it
  record Posts (now : ℕ) (host : HostState Object) (all : List Report) (part : HostSoFar Object) : Type 0 where
    some : List Report
    gives : items_given now part.calls host.link ≡ map (item_of host) some
    are_some : AreSomeOf some all
    own_name_is : part.host.own_name ≡ host.own_name
    peer_name_is : part.host.peer_name ≡ host.peer_name
    version_is : part.host.version ≡ host.version

  posts_one : (now : ℕ) (report : Report) (host : HostState Object) → Posts now host (report ∷ []) (posting now report host)
  unfolding posting items_given
  posts_one now report host = cases (is_ok (answer_to_send now host.link)) refl where
    cases : (b : Bool) → is_ok (answer_to_send now host.link) ≡ b → Posts now host (report ∷ []) (posting now report host)
    cases true is = record {
      some = report ∷ [];
      gives = ap (λ b. (if b then item_of host report ∷ [] else []) ++ []) is;
      are_some = inl (refl, tt);
      own_name_is = refl;
      peer_name_is = refl;
      version_is = refl;
    }
    cases false is = record {
      some = [];
      gives = ap (λ b. (if b then item_of host report ∷ [] else []) ++ []) is;
      are_some = tt;
      own_name_is = refl;
      peer_name_is = refl;
      version_is = refl;
    }

  posts_then : (now : ℕ) (host : HostState Object) (all others : List Report) (first : HostSoFar Object) (next : HostState Object → HostSoFar Object) → IsMadeOf now host.link first →
      Posts now host all first → Posts now first.host others (next first.host) → Posts now host (all ++ others) (then_do first next)
  posts_then now host all others first next made one more = record {
    some = one.some ++ more.some;
    gives = given_joined now first.calls (next first.host).calls host.link
        ∙ ap (λ xs. xs ++ items_given now (next first.host).calls (calls_made now first.calls host.link).link) one.gives
        ∙ ap (λ l. map (item_of host) one.some ++ items_given now (next first.host).calls l) (sym made.link_is)
        ∙ ap (λ xs. map (item_of host) one.some ++ xs) (more.gives ∙ items_same more.some host first.host one.own_name_is one.peer_name_is)
        ∙ sym (map_joined (item_of host) one.some more.some);
    are_some = some_joined one.some all more.some others one.are_some more.are_some;
    own_name_is = more.own_name_is ∙ one.own_name_is;
    peer_name_is = more.peer_name_is ∙ one.peer_name_is;
    version_is = more.version_is ∙ one.version_is;
  }

  posts_all : (now : ℕ) (reports : List Report) (host : HostState Object) → Posts now host reports (posting_all now reports host)
  unfolding posting_all items_given
  posts_all now [] host = record { some = []; gives = refl; are_some = tt; own_name_is = refl; peer_name_is = refl; version_is = refl }
  posts_all now (report ∷ others) host =
      posts_then now host (report ∷ []) others (posting now report host) (posting_all now others) (posting_part now report host).made
      (posts_one now report host) (posts_all now others (posting now report host).host)

module _ {Object : Type 0} (does : Behaviour Object) where
  -- what is said from one state to the next
  pub record Says (now : ℕ) (host : HostState Object) (part : HostSoFar Object) : Type 0 where
    pub answers : List Report
    pub begins : List Report
    pub gives : items_given now part.calls host.link ≡ map (item_of host) (answers ++ begins)
    pub are_answers : All (IsVersionAnswer does host.version) answers
    pub are_some : AreSomeOf begins (initialisation does host.object)
    pub completes : is_completed part.host.stage ≡ false → begins ≡ []
    pub late : is_completed host.stage ≡ true → answers ++ begins ≡ []
    -- a completed stage stays, and until then the object is told nothing
    pub stays : is_completed host.stage ≡ true → is_completed part.host.stage ≡ true
    pub object_is : is_completed part.host.stage ≡ false → part.host.object ≡ host.object
    pub own_name_is : part.host.own_name ≡ host.own_name
    pub peer_name_is : part.host.peer_name ≡ host.peer_name
    pub version_is : part.host.version ≡ host.version

  says_then : (now : ℕ) (host : HostState Object) (first : HostSoFar Object) (next : HostState Object → HostSoFar Object) → IsMadeOf now host.link first →
      Says now host first → Says now first.host (next first.host) → Says now host (then_do first next)
  says_then now host first next made one more = cases (is_completed first.host.stage) refl where
    second : HostSoFar Object
    second = next first.host

    given_in_all : items_given now (first.calls ++ second.calls) host.link
        ≡ map (item_of host) (one.answers ++ one.begins) ++ map (item_of host) (more.answers ++ more.begins)
    given_in_all =
        given_joined now first.calls second.calls host.link
        ∙ ap (λ xs. xs ++ items_given now second.calls (calls_made now first.calls host.link).link) one.gives
        ∙ ap (λ l. map (item_of host) (one.answers ++ one.begins) ++ items_given now second.calls l) (sym made.link_is)
        ∙ ap (λ xs. map (item_of host) (one.answers ++ one.begins) ++ xs)
        (more.gives ∙ items_same (more.answers ++ more.begins) host first.host one.own_name_is one.peer_name_is)

    cases : (b : Bool) → is_completed first.host.stage ≡ b → Says now host (then_do first next)
    cases true is = record {
      answers = one.answers;
      begins = one.begins;
      gives = given_in_all ∙ ap (λ rs. map (item_of host) (one.answers ++ one.begins) ++ map (item_of host) rs) (more.late is) ∙ append-nil _;
      are_answers = one.are_answers;
      are_some = one.are_some;
      completes = λ early. absurd (true≢false (sym (more.stays is) ∙ early));
      late = one.late;
      stays = λ _. more.stays is;
      object_is = λ early. absurd (true≢false (sym (more.stays is) ∙ early));
      own_name_is = more.own_name_is ∙ one.own_name_is;
      peer_name_is = more.peer_name_is ∙ one.peer_name_is;
      version_is = more.version_is ∙ one.version_is;
    }
    cases false is = record {
      answers = one.answers ++ more.answers;
      begins = more.begins;
      gives = given_in_all
          ∙ ap (λ rs. map (item_of host) (one.answers ++ rs) ++ map (item_of host) (more.answers ++ more.begins)) (one.completes is)
          ∙ ap (λ rs. map (item_of host) rs ++ map (item_of host) (more.answers ++ more.begins)) (append-nil one.answers)
          ∙ sym (map_joined (item_of host) one.answers (more.answers ++ more.begins))
          ∙ ap (map (item_of host)) (sym (append_assoc one.answers more.answers more.begins));
      are_answers = All-append (IsVersionAnswer does host.version) one.answers more.answers one.are_answers
          (subst (λ v. All (IsVersionAnswer does v) more.answers) one.version_is more.are_answers);
      are_some = subst (λ o. AreSomeOf more.begins (initialisation does o)) (one.object_is is) more.are_some;
      completes = more.completes;
      late = λ completed. absurd (true≢false (sym (one.stays completed) ∙ is));
      stays = λ completed. absurd (true≢false (sym (one.stays completed) ∙ is));
      object_is = λ early. more.object_is early ∙ one.object_is is;
      own_name_is = more.own_name_is ∙ one.own_name_is;
      peer_name_is = more.peer_name_is ∙ one.peer_name_is;
      version_is = more.version_is ∙ one.version_is;
    }

  -- nothing is said, and only the link changes
  quiet : (now : ℕ) (host : HostState Object) (part : HostSoFar Object) → items_given now part.calls host.link ≡ [] → part.host.stage ≡ host.stage →
      (is_completed host.stage ≡ false → part.host.object ≡ host.object) →
      part.host.own_name ≡ host.own_name → part.host.peer_name ≡ host.peer_name → part.host.version ≡ host.version → Says now host part
  quiet now host part none same object own_same peer_same version_same = record {
    answers = [];
    begins = [];
    gives = none;
    are_answers = All-nil (IsVersionAnswer does host.version);
    are_some = tt;
    completes = λ _. refl;
    late = λ _. refl;
    stays = λ completed. ap is_completed same ∙ completed;
    object_is = λ early. object (sym (ap is_completed same) ∙ early);
    own_name_is = own_same;
    peer_name_is = peer_same;
    version_is = version_same;
  }

  silent_says : (now : ℕ) (host : HostState Object) → Says now host (silent host)
  unfolding items_given
  silent_says now host = quiet now host (silent host) refl refl (λ _. refl) refl refl refl

  violating_says : (now : ℕ) (host : HostState Object) → Says now host (violating now host)
  unfolding violating items_given
  violating_says now host = quiet now host (violating now host) refl refl (λ _. refl) refl refl refl

  answered : (now : ℕ) (agreement : Agreement) (after : Stage) (host : HostState Object) → is_completed after ≡ false → is_completed host.stage ≡ false →
      Says now host (at_stage after (posting now (said does (VersionAnswer agreement host.version)) host))
  unfolding posting items_given
  answered now agreement after host not_after not_before = cases (is_ok (answer_to_send now host.link)) refl where
    report : Report
    report = said does (VersionAnswer agreement host.version)

    cases : (b : Bool) → is_ok (answer_to_send now host.link) ≡ b → Says now host (at_stage after (posting now report host))
    cases true is = record {
      answers = report ∷ [];
      begins = [];
      gives = ap (λ b. (if b then item_of host report ∷ [] else []) ++ []) is;
      are_answers = All-cons (IsVersionAnswer does host.version) report [] (agreement, refl) (All-nil (IsVersionAnswer does host.version));
      are_some = tt;
      completes = λ _. refl;
      late = λ completed. absurd (true≢false (sym completed ∙ not_before));
      stays = λ completed. absurd (true≢false (sym completed ∙ not_before));
      object_is = λ _. refl;
      own_name_is = refl;
      peer_name_is = refl;
      version_is = refl;
    }
    cases false is = record {
      answers = [];
      begins = [];
      gives = ap (λ b. (if b then item_of host report ∷ [] else []) ++ []) is;
      are_answers = All-nil (IsVersionAnswer does host.version);
      are_some = tt;
      completes = λ _. refl;
      late = λ completed. absurd (true≢false (sym completed ∙ not_before));
      stays = λ completed. absurd (true≢false (sym completed ∙ not_before));
      object_is = λ _. refl;
      own_name_is = refl;
      peer_name_is = refl;
      version_is = refl;
    }

  answering_says : (now version : ℕ) (host : HostState Object) → is_completed host.stage ≡ false → Says now host (answering does now version host)
  unfolding answering
  answering_says now version host early = cases (version == host.version) refl where
    cases : (b : Bool) → (version == host.version) ≡ b → Says now host (answering does now version host)
    cases true is = rw is (answered now Match stage.AwaitsRequest host refl early)
    cases false is = rw is (answered now NoMatch stage.Refused host refl early)

  initialising_says : (now : ℕ) (host : HostState Object) → is_completed host.stage ≡ false → Says now host (initialising does now host)
  unfolding initialising posting
  initialising_says now host early =
      let start = posting now (said does StartInitialisation) host
      in let reports = initial_status does most_objects 0 host.object
      in let starts = posts_one now (said does StartInitialisation) host
      in let started = (posting_part now (said does StartInitialisation) host).made
      in let tells = posts_all now reports start.host
      in let told = then_do start (telling_status does now)
      in let telling = posts_then now host (said does StartInitialisation ∷ []) reports start (telling_status does now) started starts tells
      in let made = made_then now host.link start (telling_status does now) started (posting_all_part now reports start.host).made
      in let all = posts_then now host (said does StartInitialisation ∷ reports) (said does InitialisationCompleted ∷ []) told (posting now (said does InitialisationCompleted)) made telling
      (posts_one now (said does InitialisationCompleted) told.host)
      in record {
        answers = [];
        begins = all.some;
        gives = all.gives;
        are_answers = All-nil (IsVersionAnswer does host.version);
        are_some = all.are_some;
        completes = λ not_after. absurd (true≢false not_after);
        late = λ completed. absurd (true≢false (sym completed ∙ early));
        stays = λ _. refl;
        object_is = λ not_after. absurd (true≢false not_after);
        own_name_is = all.own_name_is;
        peer_name_is = all.peer_name_is;
        version_is = all.version_is;
      }

  commanding_says : (now : ℕ) (telegram : Telegram) (host : HostState Object) → is_completed host.stage ≡ true → Says now host (commanding does now telegram host)
  unfolding commanding violating items_given
  commanding_says now telegram host completed = cases (does.accepts now telegram host.object) where
    told : HostState Object
    told = record host { object = does.after_take now telegram host.object }

    made : Bool → HostSoFar Object
    made b = if b then silent told else violating now told

    cases : (b : Bool) → Says now host (made b)
    cases true = quiet now host (made true) refl refl (λ early. absurd (true≢false (sym completed ∙ early))) refl refl refl
    cases false = quiet now host (made false) refl refl (λ early. absurd (true≢false (sym completed ∙ early))) refl refl refl

  -- what a part says is what it lists beside the items acted on
  as_says : (now : ℕ) (host : HostState Object) (part same : HostSoFar Object) → Says now host part → same.host ≡ part.host → same.calls ≡ part.calls → Says now host same
  as_says now host part same says host-same calls-same =
      let stage-same : is_completed same.host.stage ≡ is_completed part.host.stage = ap (λ (h : HostState Object). is_completed h.stage) host-same
      in record {
        answers = says.answers;
        begins = says.begins;
        gives = ap (λ calls. items_given now calls host.link) calls-same ∙ says.gives;
        are_answers = says.are_answers;
        are_some = says.are_some;
        completes = λ early. says.completes (sym stage-same ∙ early);
        late = says.late;
        stays = λ completed. stage-same ∙ says.stays completed;
        object_is = λ early. ap (λ (h : HostState Object). h.object) host-same ∙ says.object_is (sym stage-same ∙ early);
        own_name_is = ap (λ (h : HostState Object). h.own_name) host-same ∙ says.own_name_is;
        peer_name_is = ap (λ (h : HostState Object). h.peer_name) host-same ∙ says.peer_name_is;
        version_is = ap (λ (h : HostState Object). h.version) host-same ∙ says.version_is;
      }

  pub following_says : (now : ℕ) (item : List ℕ) (telegram : Telegram) (c : Meaning) (host : HostState Object) → meaning telegram.message host.stage ≡ c →
      Says now host (following does now item telegram c host)
  unfolding following is_check is_command is_request
  following_says now item telegram (meanings.Checks version) host is =
      as_says now host _ _ (answering_says now version host (checks_early telegram.message host.stage (ap is_check is))) refl refl
  following_says now item telegram meanings.Initialises host is =
      as_says now host _ _ (initialising_says now host (initialises_early telegram.message host.stage (ap is_request is))) refl refl
  following_says now item telegram meanings.Commands host is =
      as_says now host _ _ (commanding_says now telegram host (commands_late telegram.message host.stage (ap is_command is))) refl refl
  following_says now item telegram meanings.Violates host is = violating_says now host

  pub acting_says : (now : ℕ) (item : List ℕ) (read : Result Telegram SciFault) (host : HostState Object) → Says now host (acting does now item read host)
  unfolding acting
  acting_says now item (Err fault) host = violating_says now host
  acting_says now item (Ok telegram) host = cases (is_admitted does telegram host) where
    cases : (b : Bool) → Says now host (if b then following does now item telegram (meaning telegram.message host.stage) host else violating now host)
    cases true = following_says now item telegram _ host refl
    cases false = violating_says now host

  pub acting_all_says : (now : ℕ) (items : List (List ℕ)) (host : HostState Object) → Says now host (acting_all does now items host)
  unfolding acting_all
  acting_all_says now [] host = silent_says now host
  acting_all_says now (item ∷ others) host = cases (is_open host.link.phase) (acting_all_says now others first.host) where
    first : HostSoFar Object
    first = acting does now item (reading item) host

    cases : (b : Bool) → Says now first.host (acting_all does now others first.host) → Says now host (if b then then_do first (acting_all does now others) else silent host)
    cases true more = says_then now host first (acting_all does now others) (acting_part does now item (reading item) host).made (acting_says now item (reading item) host) more
    cases false more = silent_says now host

  -- a connection that has opened
  record Rose (host after : HostState Object) : Type 0 where
    link_is : after.link ≡ host.link
    late : is_completed host.stage ≡ true → is_completed after.stage ≡ true
    early : is_completed after.stage ≡ false → is_completed host.stage ≡ false
    object_is : after.object ≡ host.object
    own_name_is : after.own_name ≡ host.own_name
    peer_name_is : after.peer_name ≡ host.peer_name
    version_is : after.version ≡ host.version

  rose : (host : HostState Object) → Rose host (risen host)
  unfolding risen
  rose host = cases (is_outside host.stage) (is_open host.link.phase) refl where
    same : Rose host host
    same = record { link_is = refl; late = λ completed. completed; early = λ early. early; object_is = refl; own_name_is = refl; peer_name_is = refl; version_is = refl }

    cases : (o p : Bool) → is_outside host.stage ≡ o → Rose host (if o && p then record host { stage = stage.AwaitsCheck } else host)
    cases true true out = record {
      link_is = refl;
      late = λ completed. absurd (true≢false (sym completed ∙ outside_early host.stage out));
      early = λ _. outside_early host.stage out;
      object_is = refl;
      own_name_is = refl;
      peer_name_is = refl;
      version_is = refl;
    }
    cases true false out = same
    cases false p out = same

  -- what comes makes the host say, in its names
  pub record SaysInAll (now : ℕ) (host : HostState Object) (part : HostSoFar Object) : Type 0 where
    pub own : List Report
    pub gives : items_given now part.calls host.link ≡ map (item_of host) own
    pub said_is : IsSaid does host part.host.stage own
    pub stays : is_completed host.stage ≡ true → is_completed part.host.stage ≡ true
    pub own_name_is : part.host.own_name ≡ host.own_name
    pub peer_name_is : part.host.peer_name ≡ host.peer_name
    pub version_is : part.host.version ≡ host.version

  nothing_said : (host : HostState Object) → IsSaid does host host.stage []
  nothing_said host = record { answers = []; begins = []; own_is = refl; are_answers = All-nil (IsVersionAnswer does host.version); are_some = tt; completes = λ _. refl; late = λ _. refl }

  pub given_says : (now : ℕ) (input : Input) (host : HostState Object) → SaysInAll now host (given does now input host)
  unfolding given hearing received items_given
  given_says now inputs.Tick host = record { own = []; gives = refl; said_is = nothing_said host; stays = λ completed. completed; own_name_is = refl; peer_name_is = refl; version_is = refl }
  given_says now (inputs.Datagram bytes) host =
      let receipt = receiving now bytes.now host.link
      in let heard : HostState Object = record host { link = receipt.link }
      in let begun : HostState Object = risen heard
      in let rises = rose heard
      in let says = acting_all_says now receipt.items begun
      in record {
        own = says.answers ++ says.begins;
        gives = ap (items_given now (acting_all does now receipt.items begun).calls) (sym rises.link_is) ∙ says.gives
            ∙ items_same (says.answers ++ says.begins) host begun rises.own_name_is rises.peer_name_is;
        said_is = record {
          answers = says.answers;
          begins = says.begins;
          own_is = refl;
          are_answers = subst (λ v. All (IsVersionAnswer does v) says.answers) rises.version_is says.are_answers;
          are_some = subst (λ o. AreSomeOf says.begins (initialisation does o)) rises.object_is says.are_some;
          completes = says.completes;
          late = λ completed. says.late (rises.late completed);
        };
        stays = λ completed. says.stays (rises.late completed);
        own_name_is = says.own_name_is ∙ rises.own_name_is;
        peer_name_is = says.peer_name_is ∙ rises.peer_name_is;
        version_is = says.version_is ∙ rises.version_is;
      }
  given_says now (inputs.Sense sense) host = record { own = []; gives = refl; said_is = record { answers = []; begins = []; own_is = refl; are_answers = All-nil (IsVersionAnswer does host.version); are_some = tt; completes = λ _. refl; late = λ _. refl }; stays = λ completed. completed; own_name_is = refl; peer_name_is = refl; version_is = refl }
