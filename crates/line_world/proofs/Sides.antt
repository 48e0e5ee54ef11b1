-- An event of one end of a line, as the link's two ends and the abstract line go through it.
use Rattle.std.proofs.Common.{◌≡◌, ◌∙◌, ◌++◌, ◌||◌, ℕ, Bool, true, false, not, List, [], ◌∷◌, Option, Some, None, ap, arith, map, refl, subst, sym}
use Rattle.std.specs.Prelude.{is_some}
use Rattle.std.specs.Str.{bytes_eq}
use Rattle.std.proofs.lemmas.Bool.{false≢true}
use Rattle.std.proofs.lemmas.List.{append-nil}
use Rattle.std.proofs.lemmas.Slice.Eq.{bytes_eq-Decides}
use Rattle.line_host.specs.Host.{HostState, emptied, new_host, role_of}
use Rattle.line_laws.specs.End.{File, Seen}
use Rattle.line_laws.specs.Line.{Line}
use Rattle.line_laws.specs.declared.words.Side.{Side}
use Rattle.line_world.specs.Events.{Delivers, Look, Occasion, Tick, is_flying, may_look}
use Rattle.line_world.specs.Happens.{Looked, end_anew, end_looked, file_after, just_sent, looked_by, process_after}
use Rattle.line_world.specs.Names.{AreLineNames, link_names, other, parties}
use Rattle.line_world.specs.State.{EndRun, Flying, LineRun}
use Rattle.line_world.specs.declared.ending.Ending.{Ending}
use Rattle.line_world.specs.declared.ending.Ending.TheVariants.{Unwritten, Whole, Written}
use Rattle.line_world.specs.declared.names.LineNames.{LineNames}
use Rattle.line_world.specs.declared.names.TheConstants.{VERSION}
use Rattle.line_world.specs.inside.Laws.{Laws}
use Rattle.rasta_core.specs.Ends.{EndState, Sent}
use Rattle.rasta_core.specs.Events.{IsDelivered}
use Rattle.rasta_core.specs.Run.{Ends}
use Rattle.rasta_core.specs.State.{is_open}
use Rattle.rasta_pdu.specs.SafetyCode.{intact}
use Rattle.line_world.proofs.Below.{restarted}
use Rattle.line_world.proofs.Carried.{IsRun, WasSent, WereSent, both_fly, ended, half_of, just_flying, runs, still_sent}
use Rattle.line_world.proofs.Cuts.{CutLook, cut_after, cut_look, half_gone, half_new, half_none, new_process}
use Rattle.line_world.proofs.EndEvents.{IsAnew, is_anew}
use Rattle.line_world.proofs.Lines.{IsFar, LooksTo}
use Rattle.line_world.proofs.Nodes.{Half, line_by}
use Rattle.line_world.proofs.Quiet.{Quietly, by_none, is_same, quiet_then}
use Rattle.line_world.proofs.Received.{Arrives, is_damaged, was_sent}
use Rattle.line_world.proofs.Talked.{AreLinked, Talked, far_end, near_end}
use Rattle.line_world.proofs.Whole.{IsProcess, MayCome, half_by, whole_look}

-- ---- what may come

abbrev IsOneSent : Ends → List ℕ → Type 0
IsOneSent ends bytes = (datagram : Sent) × IsDelivered ends bytes datagram.connection datagram

this_or_other : (ends : Ends) (bytes : List ℕ) (one : Flying) (others : Bool) → WasSent ends one → (others ≡ true → IsOneSent ends bytes)
    → (b : Bool) → bytes_eq one.bytes bytes ≡ b → (b || others) ≡ true → IsOneSent ends bytes
this_or_other ends bytes one others was rest true copy some = (
  was.datagram,
  record {
    was_sent = was.among;
    bytes_same = was.bytes ∙ (bytes_eq-Decides one.bytes bytes).0 copy;
    connection_same = refl;
    in_time = omega (arith, was.at, was.young);
  },
)
this_or_other ends bytes one others was rest false copy some = rest some

-- bytes of a datagram in flight were sent not long ago
flying_one : (ends : Ends) (bytes : List ℕ) (flying : List Flying) → WereSent ends flying → is_flying bytes flying ≡ true → IsOneSent ends bytes
flying_one ends bytes [] were is = absurd (false≢true is)
flying_one ends bytes (one ∷ others) were is =
    this_or_other ends bytes one (is_flying bytes others) were.0 (flying_one ends bytes others were.1) (bytes_eq one.bytes bytes) refl is

arrives : Laws → (names : LineNames) (ends : Ends) (bytes : List ℕ) (flying : List Flying) → WereSent ends flying → (is_flying bytes flying || not (intact names.key bytes)) ≡ true
    → Arrives (link_names names) ends bytes
arrives laws names ends bytes flying were may = by_flying (is_flying bytes flying) refl may
  where
    by_intact : (b : Bool) → intact names.key bytes ≡ b → not b ≡ true → Arrives (link_names names) ends bytes
    by_intact true is denied = absurd (false≢true denied)
    by_intact false is denied = is_damaged (λ whole. false≢true (sym is ∙ (laws.intact_tested names.key bytes).1 whole))

    by_flying : (b : Bool) → is_flying bytes flying ≡ b → (b || not (intact names.key bytes)) ≡ true → Arrives (link_names names) ends bytes
    by_flying true is some = let one = flying_one ends bytes flying were is in was_sent one.0 one.1
    by_flying false is some = by_intact (intact names.key bytes) refl some

pub may_come : Laws → (names : LineNames) (ends : Ends) (run : LineRun) (occasion : Occasion) → WereSent ends run.flying → may_look names occasion run ≡ true → MayCome names ends occasion
may_come laws names ends run Tick were may = tt
may_come laws names ends run (Delivers bytes) were may = arrives laws names ends bytes run.flying were may
may_come laws names ends run Look were may = tt

-- ---- both ends, by the one that an event is of

pub record AreSided (names : LineNames) (side : Side) (ends : Ends) (near far : EndRun) (own other_talked : Talked) : Type 0 where
  pub linked : AreLinked names side ends own other_talked
  pub near_run : IsRun names side near (near_end side ends) own
  pub far_run : IsRun names (other side) far (far_end side ends) other_talked

abbrev pub line_of : (side : Side) → Ends → (near far : EndRun) → (busy far_busy : Bool) → (own other_talked : Talked) → Line
line_of side ends near far busy far_busy own other_talked =
    line_by side (is_same ends) (half_of near (near_end side ends) busy own) (half_of far (far_end side ends) far_busy other_talked)

-- it has looked: quiet moves, its look, quiet moves
pub record HasGone (names : LineNames) (side : Side) (near far : EndRun) (flying : List Flying) (seen : Seen) (far_busy : Bool) (other_talked : Talked) (line : Line) : Type 0 where
  pub ends : Ends
  pub own : Talked
  pub sided : AreSided names side ends near far own other_talked
  pub flying_is : WereSent ends flying
  pub before : Line
  pub then : Line
  pub first : Quietly line before
  pub looks : LooksTo side seen before then
  pub last : Quietly then (line_of side ends near far seen.busy far_busy own other_talked)

pub far_opened : (run : EndRun) (mine : EndState) (busy : Bool) (own : Talked) → (half_of run mine busy own).opened ≡ is_open mine.link.phase
far_opened run mine busy own = by_process run.process
  where
    by_process : (process : Option HostState) → (half_by mine run.file busy own process).opened ≡ is_open mine.link.phase
    by_process None = refl
    by_process (Some process) = refl

far_said : (run : EndRun) (mine : EndState) (busy : Bool) (own : Talked) → ((half_of run mine busy own).said ≡ own.said) × ((half_of run mine busy own).heard ≡ own.heard)
far_said run mine busy own = by_process run.process
  where
    by_process : (process : Option HostState) → ((half_by mine run.file busy own process).said ≡ own.said) × ((half_by mine run.file busy own process).heard ≡ own.heard)
    by_process None = (refl, refl)
    by_process (Some process) = (refl, refl)

is_far : (side : Side) (ends : Ends) (far : EndRun) (busy : Bool) (talked : Talked) → IsFar side ends talked (half_of far (far_end side ends) busy talked)
is_far side ends far busy talked = record {
  said = (far_said far (far_end side ends) busy talked).0;
  heard = (far_said far (far_end side ends) busy talked).1;
  opened = far_opened far (far_end side ends) busy talked;
}

far_stays : (names : LineNames) (side : Side) (old new : Ends) (far : EndRun) (talked : Talked) → far_end side new ≡ far_end side old
    → IsRun names (other side) far (far_end side old) talked → IsRun names (other side) far (far_end side new) talked
far_stays names side old new far talked same is = subst (λ (e : EndState). IsRun names (other side) far e talked) (sym same) is

-- the line with the other end as it was
with_far : (side : Side) (old new : Ends) (same : Bool) (half : Half) (far : EndRun) (busy : Bool) (talked : Talked) → far_end side new ≡ far_end side old
    → line_by side same half (half_of far (far_end side old) busy talked) ≡ line_by side same half (half_of far (far_end side new) busy talked)
with_far side old new same half far busy talked is = ap (λ (e : EndState). line_by side same half (half_of far e busy talked)) (sym is)

-- ---- all is done

went_whole : Laws → (names : LineNames) (side : Side) (ends : Ends) (near far : EndRun) (own talked : Talked) (flying : List Flying) (occasion : Occasion) (seen : Seen) (busy far_busy : Bool)
    → AreLineNames names → MayCome names ends occasion → AreSided names side ends near far own talked → WereSent ends flying → (process : HostState)
    → IsProcess names side near.clock near.file (near_end side ends) process own
    → let looked = looked_by occasion seen Whole near (Some process)
    in HasGone names side looked.end far (flying ++ looked.sent) seen far_busy talked
    (line_by side (is_same ends) (half_by (near_end side ends) near.file busy own (Some process)) (half_of far (far_end side ends) far_busy talked))
went_whole laws names side ends near far own talked flying occasion seen busy far_busy are may sided were process is =
    let half : Half = half_of far (far_end side ends) far_busy talked
    in let whole = whole_look laws names side near.clock near.file ends process own talked occasion seen busy half are may sided.linked is (is_far side ends far far_busy talked)
    in let next : HostState = process_after occasion seen near process
    in record {
      ends = whole.ends;
      own = whole.then;
      sided = record {
        linked = whole.linked;
        near_run = runs (emptied next) refl whole.process_is;
        far_run = far_stays names side ends whole.ends far talked whole.on.far_same sided.far_run;
      };
      flying_is =
          both_fly whole.ends flying (map just_sent next.talk.outbox.datagrams) (still_sent ends whole.ends flying whole.on.time whole.on.among were)
          (just_flying whole.ends next.talk.outbox.datagrams whole.sent);
      before = whole.before;
      then = whole.after;
      first = whole.first;
      looks = whole.looks;
      last =
          quiet_then whole.last (by_none (with_far side ends whole.ends (is_same whole.ends)
          (half_by (near_end side whole.ends) (file_after occasion seen near process) seen.busy whole.then (Some (emptied next))) far far_busy talked whole.on.far_same));
    }

-- ---- it is cut off

-- by what is left then: the end's file, and none of its process
went_cut : (names : LineNames) (side : Side) (ends : Ends) (near far : EndRun) (talked : Talked) (flying : List Flying) (seen : Seen) (far_busy : Bool) (line : Line)
    → IsRun names (other side) far (far_end side ends) talked → WereSent ends flying → near.process ≡ None
    → CutLook names side ends near.file seen talked (half_of far (far_end side ends) far_busy talked) line → HasGone names side near far flying seen far_busy talked line
went_cut names side ends near far talked flying seen far_busy line far_run were none cut =
    let half_is : half_of near (near_end side cut.ends) seen.busy cut.then ≡ half_gone near.file seen.busy cut.then =
    ap (half_by (near_end side cut.ends) near.file seen.busy cut.then) none ∙ half_none (near_end side cut.ends) near.file seen.busy cut.then cut.shut
    in record {
      ends = cut.ends;
      own = cut.then;
      sided = record { linked = cut.linked; near_run = ended none cut.shut; far_run = far_stays names side ends cut.ends far talked cut.far_same far_run };
      flying_is = still_sent ends cut.ends flying cut.time cut.among were;
      before = cut.before;
      then = line_by side (is_same cut.ends) (half_gone near.file seen.busy cut.then) (half_of far (far_end side ends) far_busy talked);
      first = cut.first;
      looks = cut.looks;
      last = by_none (ap (λ (h : Half). line_by side (is_same cut.ends) h (half_of far (far_end side ends) far_busy talked)) (sym half_is)
          ∙ with_far side ends cut.ends (is_same cut.ends) (half_of near (near_end side cut.ends) seen.busy cut.then) far far_busy talked cut.far_same);
    }

-- before its file is written
cut_unwritten : Laws → (names : LineNames) (side : Side) (clock first : ℕ) (file : File) (ends : Ends) (process : Option HostState) (own talked : Talked) (seen : Seen) (busy : Bool) (half : Half)
    → AreLineNames names → AreLinked names side ends own talked
    → CutLook names side ends file seen talked half (line_by side (is_same ends) (half_by (near_end side ends) file busy own process) half)
cut_unwritten laws names side clock first file ends process own talked seen busy half are linked =
    let anew : IsAnew names side clock first ends (restarted (role_of side) clock first ends) own talked = is_anew laws names side clock first ends own talked are.link linked
    in record {
      ends = restarted (role_of side) clock first ends;
      then = own;
      linked = anew.linked;
      shut = anew.shut;
      far_same = anew.far_same;
      time = anew.time;
      among = anew.among;
      before = line_by side (is_same ends) (half_by (near_end side ends) file busy own process) half;
      first = by_none refl;
      looks = cut_look laws names side clock first file ends process own talked seen busy half are linked;
    }

-- ---- a look

went : Laws → (names : LineNames) (side : Side) (ends : Ends) (near far : EndRun) (own talked : Talked) (flying : List Flying) (occasion : Occasion) (seen : Seen) (ending : Ending)
    (busy far_busy : Bool) → AreLineNames names → MayCome names ends occasion → AreSided names side ends near far own talked → WereSent ends flying → (process : HostState)
    → IsProcess names side near.clock near.file (near_end side ends) process own
    → let looked = looked_by occasion seen ending near (Some process)
    in HasGone names side looked.end far (flying ++ looked.sent) seen far_busy talked
    (line_by side (is_same ends) (half_by (near_end side ends) near.file busy own (Some process)) (half_of far (far_end side ends) far_busy talked))
went laws names side ends near far own talked flying occasion seen Whole busy far_busy are may sided were process is =
    went_whole laws names side ends near far own talked flying occasion seen busy far_busy are may sided were process is
went laws names side ends near far own talked flying occasion seen Unwritten busy far_busy are may sided were process is =
    subst (λ (f : List Flying). HasGone names side (record near { process = None }) far f seen far_busy talked
    (line_by side (is_same ends) (half_by (near_end side ends) near.file busy own (Some process)) (half_of far (far_end side ends) far_busy talked))) (sym (append-nil flying))
    (went_cut names side ends (record near { process = None }) far talked flying seen far_busy _ sided.far_run were refl
    (cut_unwritten laws names side 0 0 near.file ends (Some process) own talked seen busy (half_of far (far_end side ends) far_busy talked) are sided.linked))
went laws names side ends near far own talked flying occasion seen Written busy far_busy are may sided were process is =
    subst (λ (f : List Flying). HasGone names side (record near { process = None; file = file_after occasion seen near process }) far f seen far_busy talked
    (line_by side (is_same ends) (half_by (near_end side ends) near.file busy own (Some process)) (half_of far (far_end side ends) far_busy talked))) (sym (append-nil flying))
    (went_cut names side ends (record near { process = None; file = file_after occasion seen near process }) far talked flying seen far_busy _ sided.far_run were refl
    (cut_after laws names side near.clock near.file ends process own talked occasion seen busy (half_of far (far_end side ends) far_busy talked) are may sided.linked is
    (is_far side ends far far_busy talked)))

looked_is : (occasion : Occasion) (seen : Seen) (ending : Ending) (near : EndRun) → end_looked occasion seen ending near ≡ looked_by occasion seen ending near near.process
unfolding end_looked
looked_is occasion seen ending near = refl

pub went_look : Laws → (names : LineNames) (side : Side) (ends : Ends) (near far : EndRun) (own talked : Talked) (flying : List Flying) (occasion : Occasion) (seen : Seen) (ending : Ending)
    (busy far_busy : Bool) → AreLineNames names → MayCome names ends occasion → AreSided names side ends near far own talked → WereSent ends flying → is_some near.process ≡ true
    → HasGone names side (end_looked occasion seen ending near).end far (flying ++ (end_looked occasion seen ending near).sent) seen far_busy talked
    (line_of side ends near far busy far_busy own talked)
went_look laws names side ends near far own talked flying occasion seen ending busy far_busy are may sided were some = by_run sided.near_run
  where
    Gone : Looked → Line → Type 0
    Gone looked line = HasGone names side looked.end far (flying ++ looked.sent) seen far_busy talked line

    by_process : (process : HostState) → near.process ≡ Some process → IsProcess names side near.clock near.file (near_end side ends) process own
        → Gone (end_looked occasion seen ending near) (line_of side ends near far busy far_busy own talked)
    by_process process is at =
        subst (λ (l : Looked). Gone l (line_of side ends near far busy far_busy own talked)) (sym (looked_is occasion seen ending near ∙ ap (looked_by occasion seen ending near) is))
        (subst (λ (p : Option HostState). Gone (looked_by occasion seen ending near (Some process))
        (line_by side (is_same ends) (half_by (near_end side ends) near.file busy own p) (half_of far (far_end side ends) far_busy talked))) (sym is)
        (went laws names side ends near far own talked flying occasion seen ending busy far_busy are may sided were process at))

    by_run : IsRun names side near (near_end side ends) own → Gone (end_looked occasion seen ending near) (line_of side ends near far busy far_busy own talked)
    by_run (runs process is at) = by_process process is at
    by_run (ended none shut) = absurd (false≢true (ap is_some (sym none) ∙ some))

-- ---- it is made anew, with its contacts as they are

-- what an end sees that only its contacts are looked at
abbrev pub sees : (busy : Bool) → Seen
sees busy = record { busy = busy; drive = None; wish = false }

pub went_anew : Laws → (names : LineNames) (side : Side) (clock first : ℕ) (ends : Ends) (near far : EndRun) (own talked : Talked) (flying : List Flying) (busy far_busy : Bool)
    → AreLineNames names → AreSided names side ends near far own talked → WereSent ends flying
    → HasGone names side (end_anew names side clock first near) far flying (sees busy) far_busy talked (line_of side ends near far busy far_busy own talked)
went_anew laws names side clock first ends near far own talked flying busy far_busy are sided were =
    let new : Ends = restarted (role_of side) clock first ends
    in let process : HostState = new_host (parties side names) first clock VERSION near.file
    in let anew : IsAnew names side clock first ends new own talked = is_anew laws names side clock first ends own talked are.link sided.linked
    in let half : Half = half_of far (far_end side ends) far_busy talked
    in record {
      ends = new;
      own = own;
      sided = record {
        linked = anew.linked;
        near_run = runs process refl (new_process names side clock first near.file ends new own talked sided.linked.are anew);
        far_run = far_stays names side ends new far talked anew.far_same sided.far_run;
      };
      flying_is = still_sent ends new flying anew.time anew.among were;
      before = line_of side ends near far busy far_busy own talked;
      then = line_by side (is_same new) (half_gone near.file busy own) half;
      first = by_none refl;
      looks = cut_look laws names side clock first near.file ends near.process own talked (sees busy) busy half are sided.linked;
      last = by_none (ap (λ (h : Half). line_by side (is_same new) h half) (sym (half_new (near_end side new) near.file busy own process anew.shut refl))
          ∙ with_far side ends new (is_same new) (half_by (near_end side new) near.file busy own (Some process)) far far_busy talked anew.far_same);
    }

-- ---- its contacts change while no process of it runs

pub went_missing : Laws → (names : LineNames) (side : Side) (ends : Ends) (near far : EndRun) (own talked : Talked) (flying : List Flying) (busy then far_busy : Bool)
    → AreLineNames names → AreSided names side ends near far own talked → WereSent ends flying → not (is_some near.process) ≡ true
    → HasGone names side near far flying (sees then) far_busy talked (line_of side ends near far busy far_busy own talked)
went_missing laws names side ends near far own talked flying busy then far_busy are sided were none = by_run sided.near_run
  where
    by_run : IsRun names side near (near_end side ends) own → HasGone names side near far flying (sees then) far_busy talked (line_of side ends near far busy far_busy own talked)
    by_run (runs process is at) = absurd (false≢true (ap (λ (p : Option HostState). not (is_some p)) (sym is) ∙ none))
    by_run (ended is shut) =
        went_cut names side ends near far talked flying (sees then) far_busy (line_of side ends near far busy far_busy own talked) sided.far_run were is
        (cut_unwritten laws names side 0 0 near.file ends near.process own talked (sees then) busy (half_of far (far_end side ends) far_busy talked) are sided.linked)
