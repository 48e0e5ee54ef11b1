-- A look of an end of which all is done.
use Rattle.std.proofs.Common.{◌≡◌, ◌∙◌, ◌&&◌, ℕ, Bool, true, false, inl, inr, List, Option, Some, None, ap, map, refl, subst, sym, take}
use Rattle.std.specs.Prelude.{◌⊎◌}
use Rattle.line_host.specs.Host.{HostState, emptied, role_of, writes}
use Rattle.line_host.specs.Sites.{kept_file}
use Rattle.line_host.specs.Talk.{TalkState, is_agreed, is_joined}
use Rattle.line_laws.specs.End.{End, File, Seen, file_of, made_anew}
use Rattle.line_laws.specs.Line.{Line}
use Rattle.line_laws.specs.Step.{StepSoFar, step}
use Rattle.line_laws.specs.declared.words.Item.{Item}
use Rattle.line_laws.specs.declared.words.Side.{Side}
use Rattle.line_telegram.specs.Greetings.{GreetingState}
use Rattle.line_telegram.specs.declared.message.LineMessage.TheVariants.{Line as Says}
use Rattle.line_world.specs.Events.{Delivers, Look, Occasion, Tick}
use Rattle.line_world.specs.Happens.{input_of}
use Rattle.line_world.specs.Names.{AreLineNames, link_names, named, other}
use Rattle.line_world.specs.declared.names.LineNames.{LineNames}
use Rattle.line_world.specs.inside.Laws.{Laws}
use Rattle.rasta_core.specs.Ends.{EndState, reading_of}
use Rattle.rasta_core.specs.Run.{Ends}
use Rattle.rasta_core.specs.State.{LinkState, is_open, is_up}
use Rattle.line_world.proofs.Below.{beating, giving_all, host_step, meeting, opened, settled}
use Rattle.line_world.proofs.AtEnds.{AreSentNow}
use Rattle.line_world.proofs.Heard.{HasHeard, IsAt, OnTheSide, heard_bytes, heard_none, on_none, on_twice}
use Rattle.line_world.proofs.Hosts.{end_met, file_then, heard_talk, host_is, same_end_file, settled_talk, so_far_heard, step_then, talk_then, ticked_talk}
use Rattle.line_world.proofs.Lines.{IsFar, LooksTo, asks_quietly, end_left, far_on, gives_looked, half_at, hears_quietly, keeps_quietly, unjoined_looked}
use Rattle.line_world.proofs.Makes.{beating_keeps, none_given}
use Rattle.line_world.proofs.Nodes.{Half, line_by}
use Rattle.line_world.proofs.Quiet.{Quietly, by_none, is_same, quiet_then, same_end}
use Rattle.line_world.proofs.Received.{Arrives}
use Rattle.line_world.proofs.Stages.{IsStaged, IsStill, still}
use Rattle.line_world.proofs.Talked.{AreLinked, IsAtStage, Talked, near_end, saying_more}
use Rattle.line_world.proofs.Told.{HasAsked, HasGiven, HasKept, HasTicked, beats_on, gives_joined, opening_keeps, opens_on}

-- ---- a process at its end of the link

pub record IsProcess (names : LineNames) (side : Side) (clock : ℕ) (file : File) (mine : EndState) (process : HostState) (own : Talked) : Type 0 where
  pub clock_is : mine.clock ≡ clock
  pub link : settled (reading_of clock) process.talk.link ≡ mine.link
  pub own_name : process.talk.own_name ≡ (named side names).name
  pub peer_name : process.talk.peer_name ≡ (named (other side) names).name
  pub side_is : process.end.side ≡ side
  pub kept : file ≡ file_of process.end.end
  pub staged : IsStaged side (record process.talk { link = mine.link }) own

-- an end by its link and its process
abbrev pub half_by : EndState → File → (busy : Bool) → Talked → Option HostState → Half
half_by mine file busy own None = record {
  opened = is_open mine.link.phase;
  joined = false;
  end = made_anew file;
  file = file;
  busy = busy;
  said = own.said;
  heard = own.heard;
}
half_by mine file busy own (Some process) = record {
  opened = is_open mine.link.phase;
  joined = is_up mine.link.phase && is_agreed process.talk.greeting.stage;
  end = process.end.end;
  file = file;
  busy = busy;
  said = own.said;
  heard = own.heard;
}

-- what comes to an end may come
abbrev pub MayCome : LineNames → Ends → Occasion → Type 0
MayCome names ends Tick = Unit {0}
MayCome names ends (Delivers bytes) = Arrives (link_names names) ends bytes
MayCome names ends Look = Unit {0}

-- ---- it hears

pub hears : Laws → (names : LineNames) (side : Side) (now : ℕ) (old : Ends) (talk : TalkState) (own far : Talked) (occasion : Occasion) → AreLineNames names → MayCome names old occasion
    → IsAt names side now old talk own far → IsStaged side talk own
    → HasHeard names side now old own far (heard_talk now occasion (meeting now talk)).talk (heard_talk now occasion (meeting now talk)).taken
hears laws names side now old talk own far Tick are may at staged = heard_none names side now old talk (meeting now talk) own far at (still now side talk own staged)
hears laws names side now old talk own far (Delivers bytes) are may at staged =
    heard_bytes laws names side now old talk (meeting now talk) own far bytes are at (still now side talk own staged) may
hears laws names side now old talk own far Look are may at staged = heard_none names side now old talk (meeting now talk) own far at (still now side talk own staged)

-- ---- it makes its step, and gives its items

pub record HasStepped (names : LineNames) (side : Side) (now : ℕ) (old : Ends) (talk : TalkState) (far : Talked) (half : Half) (seen : Seen) (line : Line) (so_far : StepSoFar) : Type 0 where
  pub ends : Ends
  pub then : Talked
  pub at : IsAt names side now ends (giving_all now so_far.given talk) then far
  pub staged : IsStaged side (giving_all now so_far.given talk) then
  pub on : OnTheSide side old ends
  pub looks : LooksTo side seen line
      (line_by side (is_same ends) (half_at (giving_all now so_far.given talk) so_far.end (file_of so_far.end) seen.busy then.said then.heard) half)

stepped_joined : Laws → (names : LineNames) (side : Side) (now : ℕ) (old : Ends) (next : TalkState) (own far : Talked) (items : List Item) (seen : Seen) (end : End) (file : File) (busy : Bool)
    (half : Half) → AreLineNames names → (heard : HasHeard names side now old own far next items) → IsFar side heard.ends far half → is_joined next ≡ true
    → HasStepped names side now heard.ends next far half seen (line_by side (is_same heard.ends) (half_at next end file busy heard.then.said heard.before) half) (step side true seen items end)
stepped_joined laws names side now old next own far items seen end file busy half are heard far_is joined =
    let so_far : StepSoFar = step side true seen items end
    in let gives : HasGiven names side now heard.ends so_far.given (giving_all now so_far.given next) heard.then far =
    gives_joined laws names side now heard.ends next heard.then far so_far.given are heard.at heard.staged joined
    in record {
      ends = gives.made.ends;
      then = saying_more (map Says (take gives.count so_far.given)) heard.then;
      at = gives.made.at;
      staged = gives.staged;
      on = gives.made.on;
      looks = gives_looked laws names side now old next (giving_all now so_far.given next) own far items seen end file busy half heard joined gives far_is;
    }

stepped_out : Laws → (names : LineNames) (side : Side) (now : ℕ) (old : Ends) (next : TalkState) (own far : Talked) (items : List Item) (seen : Seen) (end : End) (file : File) (busy : Bool)
    (half : Half) → (heard : HasHeard names side now old own far next items) → is_joined next ≡ false
    → HasStepped names side now heard.ends next far half seen (line_by side (is_same heard.ends) (half_at next end file busy heard.then.said heard.before) half) (step side false seen items end)
stepped_out laws names side now old next own far items seen end file busy half heard down =
    let so_far : StepSoFar = step side false seen items end
    in let same : next ≡ giving_all now so_far.given next =
    sym (ap (λ (given : List Item). giving_all now given next) (laws.silent_out side seen items end) ∙ none_given now next)
    in record {
      ends = heard.ends;
      then = heard.then;
      at = subst (λ (t : TalkState). IsAt names side now heard.ends t heard.then far) same heard.at;
      staged = subst (λ (t : TalkState). IsStaged side t heard.then) same heard.staged;
      on = on_none;
      looks = subst (λ (t : TalkState). LooksTo side seen (line_by side (is_same heard.ends) (half_at next end file busy heard.then.said heard.before) half)
          (line_by side (is_same heard.ends) (half_at t so_far.end (file_of so_far.end) seen.busy heard.then.said heard.then.heard) half)) same
          (unjoined_looked names side now old next own far items seen end file busy half heard down);
    }

pub stepped : Laws → (names : LineNames) (side at_side : Side) (now : ℕ) (old : Ends) (next : TalkState) (own far : Talked) (items : List Item) (seen : Seen) (end : End) (file : File) (busy : Bool)
    (half : Half) → AreLineNames names → (heard : HasHeard names side now old own far next items) → IsFar side heard.ends far half → at_side ≡ side
    → HasStepped names side now heard.ends next far half seen (line_by side (is_same heard.ends) (half_at next end file busy heard.then.said heard.before) half)
    (step at_side (is_joined next) seen items end)
stepped laws names side at_side now old next own far items seen end file busy half are heard far_is side_is = by_joined (is_joined next) refl
  where
    Stepped : StepSoFar → Type 0
    Stepped so_far = HasStepped names side now heard.ends next far half seen (line_by side (is_same heard.ends) (half_at next end file busy heard.then.said heard.before) half) so_far

    so : (b : Bool) → is_joined next ≡ b → step side b seen items end ≡ step at_side (is_joined next) seen items end
    so b is = ap (λ (s : Side). step s b seen items end) (sym side_is) ∙ ap (λ (j : Bool). step at_side j seen items end) (sym is)

    by_joined : (b : Bool) → is_joined next ≡ b → Stepped (step at_side (is_joined next) seen items end)
    by_joined true is = subst Stepped (so true is) (stepped_joined laws names side now old next own far items seen end file busy half are heard far_is is)
    by_joined false is = subst Stepped (so false is) (stepped_out laws names side now old next own far items seen end file busy half heard is)

-- ---- a tick

pub record HasEndedLook (names : LineNames) (side : Side) (now : ℕ) (old : Ends) (next : TalkState) (far : Talked) (half : Half) (line : Line) (end : End) (file : File) (busy : Bool) : Type 0 where
  pub ends : Ends
  pub then : Talked
  pub at : IsAt names side now ends next then far
  pub staged : IsStaged side next then
  pub on : OnTheSide side old ends
  pub last : Quietly line (line_by side (is_same ends) (half_at next end file busy then.said then.heard) half)

-- of one call
by_call : Laws → (names : LineNames) (side : Side) (now : ℕ) (old : Ends) (talk next : TalkState) (own far : Talked) (half : Half) (end : End) (file : File) (busy : Bool)
    → IsAt names side now old talk own far → next.greeting ≡ talk.greeting → IsFar side old far half → HasTicked names side now old talk next own far
    → HasEndedLook names side now old next far half (line_by side (is_same old) (half_at talk end file busy own.said own.heard) half) end file busy
by_call laws names side now old talk next own far half end file busy at greeting far_is ticked = record {
  ends = ticked.ends;
  then = ticked.then;
  at = ticked.at;
  staged = ticked.staged;
  on = ticked.on;
  last = by_entry ticked.entry;
}
  where
    by_entry : HasAsked side old ticked.ends talk next ticked.then ⊎ (HasKept side old ticked.ends talk next × (ticked.then ≡ own))
        → Quietly (line_by side (is_same old) (half_at talk end file busy own.said own.heard) half)
        (line_by side (is_same ticked.ends) (half_at next end file busy ticked.then.said ticked.then.heard) half)
    by_entry (inl asks) = asks_quietly side old ticked.ends talk next own ticked.then end file busy far half asks far_is
    by_entry (inr kept) =
        quiet_then (keeps_quietly laws names side old ticked.ends talk next own end file busy half at.linked.are at.link greeting ticked.on.far_same kept.0)
        (by_none (ap (λ (t : Talked). line_by side (is_same ticked.ends) (half_at next end file busy t.said t.heard) half) (sym kept.1)))

by_tick : Laws → (names : LineNames) (side : Side) (now : ℕ) (old : Ends) (talk : TalkState) (own far : Talked) (half : Half) (end : End) (file : File) (busy : Bool) → AreLineNames names
    → IsAt names side now old talk own far → IsStaged side talk own → IsFar side old far half
    → HasEndedLook names side now old (opened now (beating now talk)) far half (line_by side (is_same old) (half_at talk end file busy own.said own.heard) half) end file busy
by_tick laws names side now old talk own far half end file busy are at staged far_is =
    let beats = by_call laws names side now old talk (beating now talk) own far half end file busy at (beating_keeps now talk) far_is (beats_on laws names side now old talk own far are at staged)
    in let opens = by_call laws names side now beats.ends (beating now talk) (opened now (beating now talk)) beats.then far half end file busy beats.at (opening_keeps now (beating now talk)).0
    (far_on beats.on far_is) (opens_on laws names side now beats.ends (beating now talk) beats.then far are beats.at beats.staged)
    in record {
      ends = opens.ends;
      then = opens.then;
      at = opens.at;
      staged = opens.staged;
      on = on_twice beats.on opens.on;
      last = quiet_then beats.last opens.last;
    }

no_tick : (names : LineNames) (side : Side) (now : ℕ) (old : Ends) (talk : TalkState) (own far : Talked) (half : Half) (end : End) (file : File) (busy : Bool)
    → IsAt names side now old talk own far → IsStaged side talk own
    → HasEndedLook names side now old talk far half (line_by side (is_same old) (half_at talk end file busy own.said own.heard) half) end file busy
no_tick names side now old talk own far half end file busy at staged = record { ends = old; then = own; at = at; staged = staged; on = on_none; last = by_none refl }

ticks : Laws → (names : LineNames) (side : Side) (now : ℕ) (old : Ends) (talk : TalkState) (own far : Talked) (half : Half) (end : End) (file : File) (busy : Bool) (occasion : Occasion)
    → AreLineNames names → IsAt names side now old talk own far → IsStaged side talk own → IsFar side old far half
    → HasEndedLook names side now old (ticked_talk now occasion talk) far half (line_by side (is_same old) (half_at talk end file busy own.said own.heard) half) end file busy
ticks laws names side now old talk own far half end file busy Tick are at staged far_is = by_tick laws names side now old talk own far half end file busy are at staged far_is
ticks laws names side now old talk own far half end file busy (Delivers bytes) are at staged far_is = no_tick names side now old talk own far half end file busy at staged
ticks laws names side now old talk own far half end file busy Look are at staged far_is = no_tick names side now old talk own far half end file busy at staged

-- ---- all of it

-- An end has looked, and stands as a process again: the line has gone on by quiet moves, its look, and quiet moves.
pub record WholeLook (names : LineNames) (side : Side) (clock : ℕ) (old : Ends) (file : File) (seen : Seen) (process : HostState) (far : Talked) (half : Half) (line : Line) : Type 0 where
  pub ends : Ends
  pub then : Talked
  pub linked : AreLinked names side ends then far
  pub process_is : IsProcess names side clock file (near_end side ends) (emptied process) then
  pub on : OnTheSide side old ends
  pub sent : AreSentNow ends process.talk.outbox.datagrams
  pub before : Line
  pub after : Line
  pub first : Quietly line before
  pub looks : LooksTo side seen before after
  pub last : Quietly after (line_by side (is_same ends) (half_by (near_end side ends) file seen.busy then (Some (emptied process))) half)

-- the end as its talk has it, and as its link and its process have it
pub half_then : (talk : TalkState) (link : LinkState) (end : End) (file kept : File) (busy : Bool) (then : Talked) → talk.link ≡ link → kept ≡ file
    → half_at talk end file busy then.said then.heard ≡ record {
      opened = is_open link.phase;
      joined = is_up link.phase && is_agreed talk.greeting.stage;
      end = end;
      file = kept;
      busy = busy;
      said = then.said;
      heard = then.heard;
    }
half_then talk link end file kept busy then link_is kept_is =
    ap (λ (l : LinkState). record {
      opened = is_open l.phase;
      joined = is_up l.phase && is_agreed talk.greeting.stage;
      end = end;
      file = file;
      busy = busy;
      said = then.said;
      heard = then.heard;
    }) link_is
    ∙ ap (λ (f : File). record {
      opened = is_open link.phase;
      joined = is_up link.phase && is_agreed talk.greeting.stage;
      end = end;
      file = f;
      busy = busy;
      said = then.said;
      heard = then.heard;
    }) (sym kept_is)

staged_so : {side : Side} {talk other : TalkState} {own : Talked} → talk.greeting ≡ other.greeting → talk.link ≡ other.link → IsStaged side talk own → IsStaged side other own
staged_so {side} {talk} {other} {own} greeting link staged = record {
  side_is = ap (λ (g : _). g.side) (sym greeting) ∙ staged.side_is;
  version = ap (λ (g : _). g.version) (sym greeting) ∙ staged.version;
  up = λ up. subst (λ (g : GreetingState). IsAtStage side g.stage own) greeting (staged.up (ap (λ (l : LinkState). is_up l.phase) link ∙ up));
  starting = λ opened down. staged.starting (ap (λ (l : LinkState). is_open l.phase) link ∙ opened) (ap (λ (l : LinkState). is_up l.phase) link ∙ down);
}

-- a process at the beginning of its look
pub process_at : {names : LineNames} {side : Side} {clock : ℕ} {file : File} {ends : Ends} {process : HostState} {own far : Talked} → AreLinked names side ends own far
    → IsProcess names side clock file (near_end side ends) process own
    → IsAt names side (reading_of clock) ends (settled_talk (reading_of clock) (emptied process).talk) own far × IsStaged side (settled_talk (reading_of clock) (emptied process).talk) own
process_at {clock = clock} {process = process} linked is = (
  record {
    linked = linked;
    now_is = ap reading_of is.clock_is;
    link = is.link;
    own_name = is.own_name;
    peer_name = is.peer_name;
    sent = tt;
  },
  staged_so refl (sym is.link) is.staged,
)

pub whole_look : Laws → (names : LineNames) (side : Side) (clock : ℕ) (file : File) (ends : Ends) (process : HostState) (own far : Talked) (occasion : Occasion) (seen : Seen) (busy : Bool)
    (half : Half) → AreLineNames names → MayCome names ends occasion → AreLinked names side ends own far → IsProcess names side clock file (near_end side ends) process own
    → IsFar side ends far half
    → WholeLook names side clock ends (kept_file (writes (reading_of clock) (input_of occasion) seen (emptied process)) file) seen
    (host_step (reading_of clock) (input_of occasion) seen (emptied process)) far half
    (line_by side (is_same ends) (half_by (near_end side ends) file busy own (Some process)) half)
whole_look laws names side clock file ends process own far occasion seen busy half are may linked is far_is =
    subst (λ (h : HostState). WholeLook names side clock ends file_next seen h far half line) (sym (host_is now occasion seen host)) whole
  where
    now : ℕ
    now = reading_of clock

    host : HostState
    host = emptied process

    talk : TalkState
    talk = settled_talk now host.talk

    line : Line
    line = line_by side (is_same ends) (half_by (near_end side ends) file busy own (Some process)) half

    file_next : File
    file_next = kept_file (writes now (input_of occasion) seen host) file

    at : IsAt names side now ends talk own far
    at = (process_at linked is).0

    staged : IsStaged side talk own
    staged = (process_at linked is).1

    met_is : IsStill side talk (meeting now talk) own
    met_is = still now side talk own staged

    heard : HasHeard names side now ends own far (so_far_heard now occasion host).talk (so_far_heard now occasion host).taken
    heard = hears laws names side now ends talk own far occasion are may at staged

    so_far : StepSoFar
    so_far = step_then now occasion seen host

    heard_line : (end : End) → Line
    heard_line end = line_by side (is_same heard.ends) (half_at (so_far_heard now occasion host).talk end file busy heard.then.said heard.before) half

    first : Quietly line (heard_line (end_met now host))
    first =
        quiet_then (by_none (ap (λ (h : Half). line_by side (is_same ends) h half) (sym (half_then talk (near_end side ends).link host.end.end file file busy own at.link refl))))
        (quiet_then (hears_quietly laws names side now ends talk (so_far_heard now occasion host).talk own far (so_far_heard now occasion host).taken host.end.end file busy half linked.are at.link
        staged heard far_is)
        (by_none (ap (λ (j : Bool). heard_line (end_left j host.end.end)) (sym met_is.joined))))

    then : HasStepped names side now heard.ends (so_far_heard now occasion host).talk far half seen (heard_line (end_met now host)) so_far
    then = stepped laws names side host.end.side now ends (so_far_heard now occasion host).talk own far (so_far_heard now occasion host).taken seen (end_met now host) file busy half are heard
        (far_on heard.on far_is) is.side_is

    last : HasEndedLook names side now then.ends (talk_then now occasion seen host) far half
        (line_by side (is_same then.ends) (half_at (giving_all now so_far.given (so_far_heard now occasion host).talk) so_far.end (file_of so_far.end) seen.busy then.then.said then.then.heard) half)
        so_far.end (file_of so_far.end) seen.busy
    last = ticks laws names side now then.ends (giving_all now so_far.given (so_far_heard now occasion host).talk) then.then far half so_far.end (file_of so_far.end) seen.busy occasion are then.at
        then.staged (far_on then.on (far_on heard.on far_is))

    next : HostState
    next = record host {
      talk = talk_then now occasion seen host;
      end = record host.end { end = end_left (is_joined (talk_then now occasion seen host)) so_far.end };
      busy = seen.busy;
    }

    file_is : file_next ≡ file_of so_far.end
    file_is = file_then laws.written now occasion seen host file is.kept

    link_then : settled (reading_of clock) next.talk.link ≡ (near_end side last.ends).link
    link_then =
        ap (settled now) last.at.link
        ∙ (ap (λ (n : ℕ). settled n (near_end side last.ends).link) (sym last.at.now_is) ∙ settled_is)
      where
        settled_is : settled (reading_of (near_end side last.ends).clock) (near_end side last.ends).link ≡ (near_end side last.ends).link
        settled_is = laws.are_settled (link_names names) last.ends (role_of side) last.at.linked.are.timely

    whole : WholeLook names side clock ends file_next seen next far half line
    whole = record {
      ends = last.ends;
      then = last.then;
      linked = last.at.linked;
      process_is = record {
        clock_is = last.on.clock ∙ (then.on.clock ∙ (heard.on.clock ∙ is.clock_is));
        link = link_then;
        own_name = last.at.own_name;
        peer_name = last.at.peer_name;
        side_is = is.side_is;
        kept = file_is ∙ sym (same_end_file (is_joined (talk_then now occasion seen host)) so_far.end);
        staged = staged_so refl last.at.link last.staged;
      };
      on = on_twice heard.on (on_twice then.on last.on);
      sent = last.at.sent;
      before = heard_line (end_met now host);
      after = line_by side (is_same then.ends)
          (half_at (giving_all now so_far.given (so_far_heard now occasion host).talk) so_far.end (file_of so_far.end) seen.busy then.then.said then.then.heard) half;
      first = first;
      looks = then.looks;
      last =
          quiet_then last.last (by_none (same_end side (is_same last.ends) (half_at next.talk so_far.end (file_of so_far.end) seen.busy last.then.said last.then.heard) half
          ∙ ap (λ (h : Half). line_by side (is_same last.ends) h half)
          (half_then next.talk (near_end side last.ends).link (end_left (is_joined next.talk) so_far.end) (file_of so_far.end) file_next seen.busy last.then last.at.link file_is)));
    }
