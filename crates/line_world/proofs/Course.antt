-- A line from event to event: its two hosts are carried along by an abstract line, and what an end knows is known.
use Rattle.std.proofs.Common.{◌≡◌, ◌∙◌, ◌++◌, ◌+◌, ◌*◌, ◌&&◌, ◌||◌, ⊎_elim, ℕ, Bool, true, false, cond, not, inl, inr, List, [], ◌∷◌, Option, Some, None, ap, leb-true, refl, subst, sym}
use Rattle.std.specs.Prelude.{◌⊎◌, IsTrue, is_some, nat_le}
use Rattle.std.proofs.lemmas.Bool.{false≢true}
use Rattle.line_host.specs.Host.{HostState}
use Rattle.line_laws.specs.End.{File, Seen}
use Rattle.line_laws.specs.Line.{Line, Move, Node, Looks as LooksAt, after, right_rules}
use Rattle.line_laws.specs.Run.{run}
use Rattle.line_laws.specs.declared.words.Side.{Side}
use Rattle.line_laws.specs.declared.words.Side.TheVariants.{First, Second}
use Rattle.line_world.specs.Names.{AreLineNames, other}
use Rattle.line_world.specs.Promise.{AreFree, Holds, LineThen, contacts_after, then_after}
use Rattle.line_world.specs.State.{EndRun, Flying, LineRun}
use Rattle.line_world.specs.declared.ending.Ending.{Ending}
use Rattle.line_world.specs.declared.names.LineNames.{LineNames}
use Rattle.line_world.specs.inside.Laws.{Laws}
use Rattle.rasta_core.specs.Ends.{EndState}
use Rattle.rasta_core.specs.Events.{IsWithinDrift}
use Rattle.rasta_core.specs.Run.{Ends}
use Rattle.line_world.specs.Events.{LineEvent, Loses, Looks, Misses, Occasion, Passes, Restarts, is_copy, keeps_time, may_happen, may_pass}
use Rattle.line_world.specs.Happens.{end_anew, end_looked, later, looked, made_anew as ends_anew, still_flying, without_oldest}
use Rattle.line_world.proofs.Below.{later as link_later}
use Rattle.line_world.proofs.Carried.{IsRun, WereSent, half_of, later_half, later_run, older}
use Rattle.line_world.proofs.EndEvents.{AreLater, are_later}
use Rattle.line_world.proofs.Known.{EachKeeps, HoldAlike, IsKnownSound, IsSteady, Known, known_at, known_in, known_steady, move_known, quiet_alike}
use Rattle.line_world.proofs.Lines.{LooksTo, there_is}
use Rattle.line_world.proofs.Nodes.{Half, line_by}
use Rattle.line_world.proofs.Receipts.{both_of}
use Rattle.line_world.proofs.Quiet.{AreQuiet, Quietly, by_none, goes_on, is_same, quiet_then, quietly_known, same_connection}
use Rattle.line_world.proofs.Sides.{AreSided, HasGone, far_opened, line_of, may_come, sees, went_anew, went_look, went_missing}
use Rattle.line_world.proofs.Talked.{AreLinked, Talked, from_there}
use Rattle.line_world.proofs.Whole.{half_by}

-- ---- what is carried

abbrev pub carrying_line : LineThen → Ends → (first second : Talked) → Line
carrying_line now ends first second = line_of First ends now.run.first now.run.second now.contacts.first now.contacts.second first second

pub record IsCarried (names : LineNames) (now : LineThen) (known : Known) : Type 0 where
  pub ends : Ends
  pub first_talked : Talked
  pub second_talked : Talked
  pub linked : AreLinked names First ends first_talked second_talked
  pub first : IsRun names First now.run.first ends.client first_talked
  pub second : IsRun names Second now.run.second ends.server second_talked
  pub flying : WereSent ends now.run.flying
  pub steady : IsSteady known (carrying_line now ends first_talked second_talked)
  pub sound : IsKnownSound known (carrying_line now ends first_talked second_talked)

abbrev pub known_of : Side → Known → Bool
known_of First known = known.first
known_of Second known = known.second

-- what an end knows then it knew, or no contact is occupied now; and it has the token, and no contact of its own is occupied
pub record KnowsOn (side : Side) (known next : Known) (then : LineThen) : Type 0 where
  pub knew : IsTrue (known_of side next) → IsTrue (known_of side known) ⊎ AreFree then.contacts
  pub holds : IsTrue (known_of side next) → Holds side then

pub record GoesOnSo (names : LineNames) (known : Known) (then : LineThen) : Type 0 where
  pub next : Known
  pub carried : IsCarried names then next
  pub first : KnowsOn First known next then
  pub second : KnowsOn Second known next then

-- ---- what is known

half_busy : (run : EndRun) (mine : EndState) (busy : Bool) (own : Talked) → (half_of run mine busy own).busy ≡ busy
half_busy run mine busy own = by_process run.process
  where
    by_process : (process : Option HostState) → (half_by mine run.file busy own process).busy ≡ busy
    by_process None = refl
    by_process (Some process) = refl

pub half_file : (run : EndRun) (mine : EndState) (busy : Bool) (own : Talked) → (half_of run mine busy own).file ≡ run.file
half_file run mine busy own = by_process run.process
  where
    by_process : (process : Option HostState) → (half_by mine run.file busy own process).file ≡ run.file
    by_process None = refl
    by_process (Some process) = refl

not_true : (b : Bool) → not b ≡ true → b ≡ false
not_true true is = absurd (false≢true is)
not_true false is = refl

either_of : (one other : Bool) → (one || not other) ≡ true → (one ≡ true) ⊎ (other ≡ false)
either_of true other is = inl refl
either_of false true is = absurd (false≢true is)
either_of false false is = inr refl

record KnownSo (near far : Node) (before : Bool) : Type 0 where
  token : near.end.token ≡ true
  free : near.busy ≡ false
  knew : (before ≡ true) ⊎ (far.busy ≡ false)

known_so : (near far : Node) (before : Bool) → known_at near far before ≡ true → KnownSo near far before
known_so near far before is =
    let first = both_of near.end.token (not near.busy && (before || not far.busy)) is
    in let rest = both_of (not near.busy) (before || not far.busy) first.1
    in record { token = first.0; free = not_true near.busy rest.0; knew = either_of before far.busy rest.1 }

-- its file has the token that the node has
pub token_kept : (names : LineNames) (now : LineThen) (known : Known) (carried : IsCarried names now known) → (side : Side)
    → (known_of side known ≡ true) → Holds side now
token_kept names now known carried First is =
    let line : Line = carrying_line now carried.ends carried.first_talked carried.second_talked
    in let so : KnownSo line.first line.second known.first = known_so line.first line.second known.first (ap (λ (k : Known). k.first) carried.steady ∙ is)
    in record {
      token =
          ap (λ (f : File). f.token) (sym (half_file now.run.first carried.ends.client now.contacts.first carried.first_talked))
          ∙ (ap (λ (f : File). f.token) carried.sound.first_file ∙ so.token);
      free = sym (half_busy now.run.first carried.ends.client now.contacts.first carried.first_talked) ∙ so.free;
    }
token_kept names now known carried Second is =
    let line : Line = carrying_line now carried.ends carried.first_talked carried.second_talked
    in let so : KnownSo line.second line.first known.second = known_so line.second line.first known.second (ap (λ (k : Known). k.second) carried.steady ∙ is)
    in record {
      token =
          ap (λ (f : File). f.token) (sym (half_file now.run.second carried.ends.server now.contacts.second carried.second_talked))
          ∙ (ap (λ (f : File). f.token) carried.sound.second_file ∙ so.token);
      free = sym (half_busy now.run.second carried.ends.server now.contacts.second carried.second_talked) ∙ so.free;
    }

-- quiet moves leave tokens and contacts as they are
moves_alike : (moves : List Move) (line : Line) → AreQuiet moves → HoldAlike line (run right_rules moves line)
moves_alike [] line quiet = record { first_token = refl; first_busy = refl; second_token = refl; second_busy = refl }
moves_alike (move ∷ moves) line quiet =
    let one : HoldAlike line (after right_rules move line) = quiet_alike line move quiet.0
    in let rest : HoldAlike (after right_rules move line) (run right_rules moves (after right_rules move line)) = moves_alike moves (after right_rules move line) quiet.1
    in record {
      first_token = rest.first_token ∙ one.first_token;
      first_busy = rest.first_busy ∙ one.first_busy;
      second_token = rest.second_token ∙ one.second_token;
      second_busy = rest.second_busy ∙ one.second_busy;
    }

alike : (line next : Line) → Quietly line next → HoldAlike line next
alike line next quietly = subst (HoldAlike line) quietly.is (moves_alike quietly.moves line quietly.quiet)

-- what was known before the look, and after it
pub record KnownOn (known next : Known) (line : Line) : Type 0 where
  pub steady : IsSteady next line
  pub sound : IsKnownSound next line
  pub first : next.first ≡ true → (known.first ≡ true) ⊎ (line.second.busy ≡ false)
  pub second : next.second ≡ true → (known.second ≡ true) ⊎ (line.first.busy ≡ false)

known_on : EachKeeps → (side : Side) (seen : Seen) (known : Known) (line before then last : Line) → IsSteady known line → IsKnownSound known line → Quietly line before → LooksTo side seen before then
    → Quietly then last → KnownOn known (known_in then known) last
known_on each side seen known line before then last steady sound first looks more =
    let at = quietly_known each known first steady sound
    in let next : Known = known_in then known
    in let sound_then : IsKnownSound next then =
    subst (λ (l : Line). IsKnownSound (known_in l known) l) looks.is (move_known each known before (LooksAt side seen looks.count looks.outcome) at.1)
    in let at_last = quietly_known each next more (known_steady then known) sound_then
    in let same : HoldAlike then last = alike then last more
    in record {
      steady = at_last.0;
      sound = at_last.1;
      first = λ is. ⊎_elim (λ knew. inl knew) (λ free. inr (same.second_busy ∙ free)) (known_so then.first then.second known.first is).knew;
      second = λ is. ⊎_elim (λ knew. inl knew) (λ free. inr (same.first_busy ∙ free)) (known_so then.second then.first known.second is).knew;
    }

-- where these are carried, with what is known so
goes_on_so : (names : LineNames) (known next : Known) (then : LineThen) → (carried : IsCarried names then next)
    → KnownOn known next (carrying_line then carried.ends carried.first_talked carried.second_talked) → GoesOnSo names known then
goes_on_so names known next then carried on = record {
  next = next;
  carried = carried;
  first = record {
    knew = λ is. ⊎_elim (λ knew. inl knew) (λ free. inr (record {
      first = (token_kept names then next carried First is).free;
      second = sym (half_busy then.run.second carried.ends.server then.contacts.second carried.second_talked) ∙ free;
    })) (on.first is);
    holds = token_kept names then next carried First;
  };
  second = record {
    knew = λ is. ⊎_elim (λ knew. inl knew) (λ free. inr (record {
      first = sym (half_busy then.run.first carried.ends.client then.contacts.first carried.first_talked) ∙ free;
      second = (token_kept names then next carried Second is).free;
    })) (on.second is);
    holds = token_kept names then next carried Second;
  };
}

-- ---- an event of one end

gone_first : EachKeeps → (names : LineNames) (known : Known) (now then : LineThen) (seen : Seen) → (carried : IsCarried names now known) → then.contacts.first ≡ seen.busy
    → HasGone names First then.run.first then.run.second then.run.flying seen then.contacts.second carried.second_talked
    (carrying_line now carried.ends carried.first_talked carried.second_talked)
    → GoesOnSo names known then
gone_first each names known now then seen carried busy gone =
    let line : Line = carrying_line then gone.ends gone.own carried.second_talked
    in let last : Quietly gone.then line =
    quiet_then gone.last (by_none (ap (λ (b : Bool). line_of First gone.ends then.run.first then.run.second b then.contacts.second gone.own carried.second_talked) (sym busy)))
    in let on : KnownOn known (known_in gone.then known) line =
    known_on each First seen known (carrying_line now carried.ends carried.first_talked carried.second_talked) gone.before gone.then line carried.steady carried.sound gone.first gone.looks last
    in goes_on_so names known (known_in gone.then known) then (record {
      ends = gone.ends;
      first_talked = gone.own;
      second_talked = carried.second_talked;
      linked = gone.sided.linked;
      first = gone.sided.near_run;
      second = gone.sided.far_run;
      flying = gone.flying_is;
      steady = on.steady;
      sound = on.sound;
    }) on

gone_second : EachKeeps → (names : LineNames) (known : Known) (now then : LineThen) (seen : Seen) → (carried : IsCarried names now known) → then.contacts.second ≡ seen.busy
    → HasGone names Second then.run.second then.run.first then.run.flying seen then.contacts.first carried.first_talked
    (carrying_line now carried.ends carried.first_talked carried.second_talked)
    → GoesOnSo names known then
gone_second each names known now then seen carried busy gone =
    let line : Line = carrying_line then gone.ends carried.first_talked gone.own
    in let last : Quietly gone.then line =
    quiet_then gone.last (by_none (ap (λ (b : Bool). line_of Second gone.ends then.run.second then.run.first b then.contacts.first gone.own carried.first_talked) (sym busy)))
    in let on : KnownOn known (known_in gone.then known) line =
    known_on each Second seen known (carrying_line now carried.ends carried.first_talked carried.second_talked) gone.before gone.then line carried.steady carried.sound gone.first gone.looks last
    in goes_on_so names known (known_in gone.then known) then (record {
      ends = gone.ends;
      first_talked = carried.first_talked;
      second_talked = gone.own;
      linked = from_there Second gone.sided.linked;
      first = gone.sided.far_run;
      second = gone.sided.near_run;
      flying = gone.flying_is;
      steady = on.steady;
      sound = on.sound;
    }) on

sided_first : (names : LineNames) (now : LineThen) (known : Known) → (carried : IsCarried names now known)
    → AreSided names First carried.ends now.run.first now.run.second carried.first_talked carried.second_talked
sided_first names now known carried = record { linked = carried.linked; near_run = carried.first; far_run = carried.second }

sided_second : (names : LineNames) (now : LineThen) (known : Known) → (carried : IsCarried names now known)
    → AreSided names Second carried.ends now.run.second now.run.first carried.second_talked carried.first_talked
sided_second names now known carried = record { linked = from_there First carried.linked; near_run = carried.second; far_run = carried.first }

-- ---- a look

looked_first : (occasion : Occasion) (seen : Seen) (ending : Ending) (run : LineRun) → looked First occasion seen ending run
    ≡ record { first = (end_looked occasion seen ending run.first).end; second = run.second; flying = run.flying ++ (end_looked occasion seen ending run.first).sent }
unfolding looked
looked_first occasion seen ending run = refl

looked_second : (occasion : Occasion) (seen : Seen) (ending : Ending) (run : LineRun) → looked Second occasion seen ending run
    ≡ record { first = run.first; second = (end_looked occasion seen ending run.second).end; flying = run.flying ++ (end_looked occasion seen ending run.second).sent }
unfolding looked
looked_second occasion seen ending run = refl

look_on : Laws → (names : LineNames) (known : Known) (now : LineThen) (side : Side) (occasion : Occasion) (seen : Seen) (ending : Ending) → AreLineNames names → IsCarried names now known
    → may_happen names (Looks side occasion seen ending) now.run ≡ true → GoesOnSo names known (then_after names (Looks side occasion seen ending) now)
look_on laws names known now First occasion seen ending are carried may =
    let both = both_of (is_some now.run.first.process) _ may
    in subst (λ (run : LineRun). GoesOnSo names known (record { run = run; contacts = contacts_after (Looks First occasion seen ending) now.contacts }))
    (sym (looked_first occasion seen ending now.run))
    (gone_first laws.each_keeps names known now _ seen carried refl
    (went_look laws names First carried.ends now.run.first now.run.second carried.first_talked carried.second_talked now.run.flying occasion seen ending now.contacts.first now.contacts.second are
    (may_come laws names carried.ends now.run occasion carried.flying both.1) (sided_first names now known carried) carried.flying both.0))
look_on laws names known now Second occasion seen ending are carried may =
    let both = both_of (is_some now.run.second.process) _ may
    in subst (λ (run : LineRun). GoesOnSo names known (record { run = run; contacts = contacts_after (Looks Second occasion seen ending) now.contacts }))
    (sym (looked_second occasion seen ending now.run))
    (gone_second laws.each_keeps names known now _ seen carried refl
    (went_look laws names Second carried.ends now.run.second now.run.first carried.second_talked carried.first_talked now.run.flying occasion seen ending now.contacts.second now.contacts.first are
    (may_come laws names carried.ends now.run occasion carried.flying both.1) (sided_second names now known carried) carried.flying both.0))

-- ---- contacts that change unseen

miss_on : Laws → (names : LineNames) (known : Known) (now : LineThen) (side : Side) (busy : Bool) → AreLineNames names → IsCarried names now known
    → may_happen names (Misses side busy) now.run ≡ true → GoesOnSo names known (then_after names (Misses side busy) now)
miss_on laws names known now First busy are carried may =
    gone_first laws.each_keeps names known now (then_after names (Misses First busy) now) (sees busy) carried refl
    (went_missing laws names First carried.ends now.run.first now.run.second carried.first_talked carried.second_talked now.run.flying now.contacts.first busy now.contacts.second are
    (sided_first names now known carried) carried.flying may)
miss_on laws names known now Second busy are carried may =
    gone_second laws.each_keeps names known now (then_after names (Misses Second busy) now) (sees busy) carried refl
    (went_missing laws names Second carried.ends now.run.second now.run.first carried.second_talked carried.first_talked now.run.flying now.contacts.second busy now.contacts.first are
    (sided_second names now known carried) carried.flying may)

-- ---- an end that is made anew

anew_first : (names : LineNames) (clock first : ℕ) (run : LineRun)
    → ends_anew names First clock first run ≡ record { first = end_anew names First clock first run.first; second = run.second; flying = run.flying }
unfolding ends_anew
anew_first names clock first run = refl

anew_second : (names : LineNames) (clock first : ℕ) (run : LineRun)
    → ends_anew names Second clock first run ≡ record { first = run.first; second = end_anew names Second clock first run.second; flying = run.flying }
unfolding ends_anew
anew_second names clock first run = refl

restart_on : Laws → (names : LineNames) (known : Known) (now : LineThen) (side : Side) (clock first : ℕ) → AreLineNames names → IsCarried names now known
    → GoesOnSo names known (then_after names (Restarts side clock first) now)
restart_on laws names known now First clock first are carried =
    subst (λ (run : LineRun). GoesOnSo names known (record { run = run; contacts = now.contacts })) (sym (anew_first names clock first now.run))
    (gone_first laws.each_keeps names known now _ (sees now.contacts.first) carried refl
    (went_anew laws names First clock first carried.ends now.run.first now.run.second carried.first_talked carried.second_talked now.run.flying now.contacts.first now.contacts.second are
    (sided_first names now known carried) carried.flying))
restart_on laws names known now Second clock first are carried =
    subst (λ (run : LineRun). GoesOnSo names known (record { run = run; contacts = now.contacts })) (sym (anew_second names clock first now.run))
    (gone_second laws.each_keeps names known now _ (sees now.contacts.second) carried refl
    (went_anew laws names Second clock first carried.ends now.run.second now.run.first carried.second_talked carried.first_talked now.run.flying now.contacts.second now.contacts.first are
    (sided_second names now known carried) carried.flying))

-- ---- quiet events

still_known : (names : LineNames) (known : Known) (then : LineThen) → IsCarried names then known → GoesOnSo names known then
still_known names known then carried =
    goes_on_so names known known then carried (record { steady = carried.steady; sound = carried.sound; first = λ is. inl is; second = λ is. inl is })

-- a loss
one_fewer : (ends : Ends) (bytes : List ℕ) (one : Flying) (others : List Flying) → WereSent ends (one ∷ others) → WereSent ends (without_oldest bytes others)
    → (b : Bool) → WereSent ends (cond b others (one ∷ without_oldest bytes others))
one_fewer ends bytes one others were rest true = were.1
one_fewer ends bytes one others were rest false = (were.0, rest)

fewer : (ends : Ends) (bytes : List ℕ) (flying : List Flying) → WereSent ends flying → WereSent ends (without_oldest bytes flying)
fewer ends bytes [] were = tt
fewer ends bytes (one ∷ others) were = one_fewer ends bytes one others were (fewer ends bytes others were.1) (is_copy bytes one)

loss_on : (names : LineNames) (known : Known) (now : LineThen) (bytes : List ℕ) → IsCarried names now known → GoesOnSo names known (then_after names (Loses bytes) now)
loss_on names known now bytes carried = still_known names known (then_after names (Loses bytes) now) (record {
  ends = carried.ends;
  first_talked = carried.first_talked;
  second_talked = carried.second_talked;
  linked = carried.linked;
  first = carried.first;
  second = carried.second;
  flying = fewer carried.ends bytes now.run.flying carried.flying;
  steady = carried.steady;
  sound = carried.sound;
})

-- time
within : (elapsed own : ℕ) → keeps_time elapsed own ≡ true → IsWithinDrift elapsed own
within elapsed own is =
    let both = both_of (nat_le (999 * elapsed) (1000 * own)) (nat_le (1000 * own) (1001 * elapsed)) is
    in record { least = leb-true (999 * elapsed) (1000 * own) both.0; most = leb-true (1000 * own) (1001 * elapsed) both.1 }

later_is : (elapsed of_first of_second : ℕ) (run : LineRun) → later elapsed of_first of_second run ≡ record {
  first = record run.first { clock = run.first.clock + of_first };
  second = record run.second { clock = run.second.clock + of_second };
  flying = still_flying elapsed run.flying;
}
unfolding later
later_is elapsed of_first of_second run = refl

time_on : Laws → (names : LineNames) (known : Known) (now : LineThen) (elapsed of_first of_second : ℕ) → AreLineNames names → IsCarried names now known
    → may_pass elapsed of_first of_second now.run ≡ true → GoesOnSo names known (then_after names (Passes elapsed of_first of_second) now)
time_on laws names known now elapsed of_first of_second are carried may =
    subst (λ (run : LineRun). GoesOnSo names known (record { run = run; contacts = now.contacts })) (sym (later_is elapsed of_first of_second now.run)) so
  where
    old : Ends
    old = carried.ends

    new : Ends
    new = link_later elapsed of_first of_second old

    drift : IsWithinDrift elapsed of_first × IsWithinDrift elapsed of_second
    drift =
        let first = both_of (keeps_time elapsed of_first && keeps_time elapsed of_second) _ may
        in let second = both_of (keeps_time elapsed of_first) (keeps_time elapsed of_second) first.0
        in (within elapsed of_first second.0, within elapsed of_second second.1)

    are_then : AreLater names elapsed of_first of_second old new carried.first_talked carried.second_talked
    are_then = are_later laws names elapsed of_first of_second old carried.first_talked carried.second_talked are.link carried.linked drift

    first_half : Ends → Half
    first_half ends = half_of now.run.first ends.client now.contacts.first carried.first_talked

    second_half : Ends → Half
    second_half ends = half_of now.run.second ends.server now.contacts.second carried.second_talked

    same : is_same old ≡ is_same new
    same = ap (λ (c : Option ℕ). same_connection c old.client.connection) (sym are_then.server.connection) ∙ ap (same_connection new.server.connection) (sym are_then.client.connection)

    quietly : Quietly (line_by First (is_same old) (first_half old) (second_half old)) (line_by First (is_same new) (first_half new) (second_half new))
    quietly =
        quiet_then (goes_on First (is_same old) (first_half old) (first_half new) (second_half old)
        (later_half now.run.first.file now.contacts.first of_first old.client new.client carried.first_talked now.run.first.process are_then.client) (λ opened. tt))
        (quiet_then (goes_on Second (is_same old) (second_half old) (second_half new) (first_half new)
        (later_half now.run.second.file now.contacts.second of_second old.server new.server carried.second_talked now.run.second.process are_then.server)
        (λ opened. there_is laws names Second old carried.linked.are (sym (far_opened now.run.second old.server now.contacts.second carried.second_talked) ∙ opened)))
        (by_none (ap (λ (b : Bool). line_by First b (first_half new) (second_half new)) same)))

    then : LineThen
    then = record {
      run = record {
        first = record now.run.first { clock = now.run.first.clock + of_first };
        second = record now.run.second { clock = now.run.second.clock + of_second };
        flying = still_flying elapsed now.run.flying;
      };
      contacts = now.contacts;
    }

    known_then : IsSteady known (line_by First (is_same new) (first_half new) (second_half new)) × IsKnownSound known (line_by First (is_same new) (first_half new) (second_half new))
    known_then = quietly_known laws.each_keeps known quietly carried.steady carried.sound

    so : GoesOnSo names known then
    so = still_known names known then (record {
      ends = new;
      first_talked = carried.first_talked;
      second_talked = carried.second_talked;
      linked = are_then.linked;
      first = later_run names First now.run.first of_first old.client new.client carried.first_talked carried.first are_then.client;
      second = later_run names Second now.run.second of_second old.server new.server carried.second_talked carried.second are_then.server;
      flying = older old new elapsed now.run.flying are_then.time are_then.among carried.flying;
      steady = known_then.0;
      sound = known_then.1;
    })

-- ---- any event

pub event_on : Laws → (names : LineNames) (known : Known) (now : LineThen) (event : LineEvent) → AreLineNames names → IsCarried names now known → may_happen names event now.run ≡ true
    → GoesOnSo names known (then_after names event now)
event_on laws names known now (Looks side occasion seen ending) are carried may = look_on laws names known now side occasion seen ending are carried may
event_on laws names known now (Misses side busy) are carried may = miss_on laws names known now side busy are carried may
event_on laws names known now (Passes elapsed of_first of_second) are carried may = time_on laws names known now elapsed of_first of_second are carried may
event_on laws names known now (Loses bytes) are carried may = loss_on names known now bytes carried
event_on laws names known now (Restarts side clock first) are carried may = restart_on laws names known now side clock first are carried
