-- An end that is cut off, or made anew, or of which no process runs.
use Rattle.std.proofs.Common.{◌≡◌, ◌∙◌, ◌++◌, ◌*◌, ◌/◌, ◌&&◌, ℕ, Bool, true, false, List, Option, Some, None, ap, arith, length, refl, subst, sym}
use Rattle.std.proofs.lemmas.Bool.{false≢true}
use Rattle.line_host.specs.Host.{HostState, emptied, identity_of, new_host, role_of, writes}
use Rattle.line_host.specs.Sites.{kept_file}
use Rattle.line_host.specs.Talk.{TalkState, is_agreed, is_joined}
use Rattle.line_laws.specs.End.{End, File, Seen, file_of, made_anew}
use Rattle.line_laws.specs.Line.{Line, Cut, Looks, after, right_rules}
use Rattle.line_laws.specs.Step.{StepSoFar, step}
use Rattle.line_laws.specs.declared.words.Item.{Item}
use Rattle.line_laws.specs.declared.words.Side.{Side}
use Rattle.line_laws.specs.declared.words.Side.TheVariants.{First, Second}
use Rattle.line_telegram.specs.declared.message.LineMessage.{LineMessage}
use Rattle.line_world.specs.Events.{Occasion}
use Rattle.line_world.specs.Happens.{input_of}
use Rattle.line_world.specs.Names.{AreLineNames, link_names, parties}
use Rattle.line_world.specs.declared.names.LineNames.{LineNames}
use Rattle.line_world.specs.declared.names.TheConstants.{VERSION}
use Rattle.line_world.specs.inside.Laws.{Laws}
use Rattle.rasta_core.specs.Ends.{EndState, Sent, reading_of}
use Rattle.rasta_core.specs.Events.{IsAmong}
use Rattle.rasta_core.specs.Names as of_link
use Rattle.rasta_core.specs.Run.{Ends}
use Rattle.rasta_core.specs.State.{LinkState, is_open, is_up}
use Rattle.rasta_core.specs.identity.Identity.{Identity}
use Rattle.line_world.proofs.Below.{created, restarted, settled}
use Rattle.line_world.proofs.AtEnds.{AreEnds}
use Rattle.line_world.proofs.EndEvents.{IsAnew, is_anew}
use Rattle.line_world.proofs.Heard.{HasHeard, IsAt}
use Rattle.line_world.proofs.Hears.{up_is_open}
use Rattle.line_world.proofs.Hosts.{end_met, file_then, met_talk, settled_talk, so_far_heard, step_then}
use Rattle.line_world.proofs.Lines.{IsFar, LooksTo, coming_is, end_left, far_on, half_at, hears_quietly, same_on, there_is}
use Rattle.line_world.proofs.Looks.{cuts_unjoined, ends_cut, looks_cut}
use Rattle.line_world.proofs.Nodes.{Half, line_by, unheard}
use Rattle.line_world.proofs.Quiet.{Quietly, by_none, is_same, quiet_then, same_is}
use Rattle.line_world.proofs.Received.{up_is_same}
use Rattle.line_world.proofs.Stages.{IsStaged, IsStill, still}
use Rattle.line_world.proofs.Talked.{AreLinked, AreSame, Talked, far_end, near_end}
use Rattle.line_world.proofs.Told.{joined_open, joined_up}
use Rattle.line_world.proofs.Whole.{IsProcess, MayCome, half_by, half_then, hears, process_at}

-- ---- an end out of any connection, made anew

abbrev pub half_gone : File → (busy : Bool) → Talked → Half
half_gone file busy own = record { opened = false; joined = false; end = made_anew file; file = file; busy = busy; said = own.said; heard = own.heard }

shut_is_down : (link : LinkState) → is_open link.phase ≡ false → is_up link.phase ≡ false
shut_is_down link shut = by_up (is_up link.phase) refl
  where
    by_up : (b : Bool) → is_up link.phase ≡ b → is_up link.phase ≡ false
    by_up true up = absurd (false≢true (sym shut ∙ up_is_open link.phase up))
    by_up false is = is

pub half_none : (mine : EndState) (file : File) (busy : Bool) (own : Talked) → is_open mine.link.phase ≡ false → half_by mine file busy own None ≡ half_gone file busy own
half_none mine file busy own shut =
    ap (λ (o : Bool). record { opened = o; joined = false; end = made_anew file; file = file; busy = busy; said = own.said; heard = own.heard }) shut

pub half_new : (mine : EndState) (file : File) (busy : Bool) (own : Talked) (process : HostState) → is_open mine.link.phase ≡ false → process.end.end ≡ made_anew file
    → half_by mine file busy own (Some process) ≡ half_gone file busy own
half_new mine file busy own process shut end =
    ap (λ (o : Bool). record {
      opened = o;
      joined = is_up mine.link.phase && is_agreed process.talk.greeting.stage;
      end = process.end.end;
      file = file;
      busy = busy;
      said = own.said;
      heard = own.heard;
    }) shut
    ∙ (ap (λ (u : Bool). record {
      opened = false;
      joined = u && is_agreed process.talk.greeting.stage;
      end = process.end.end;
      file = file;
      busy = busy;
      said = own.said;
      heard = own.heard;
    }) (shut_is_down mine.link shut)
    ∙ ap (λ (e : End). record { opened = false; joined = false; end = e; file = file; busy = busy; said = own.said; heard = own.heard }) end)

-- ---- it is cut off before its file is written

pub cut_before : Laws → (names : LineNames) (side : Side) (ends : Ends) (file : File) (busy : Bool) (own : Talked) (process : Option HostState) (seen : Seen) (half : Half)
    → AreEnds (link_names names) ends
    → LooksTo side seen (line_by side (is_same ends) (half_by (near_end side ends) file busy own process) half) (line_by side (is_same ends) (half_gone file seen.busy own) half)
cut_before laws names side ends file busy own None seen half are = record {
  count = 0;
  outcome = Cut 0;
  is = ends_cut side (is_same ends) (half_by (near_end side ends) file busy own None) half seen own.heard (there_is laws names side ends are);
}
cut_before laws names side ends file busy own (Some process) seen half are = record {
  count = 0;
  outcome = Cut 0;
  is = ends_cut side (is_same ends) (half_by (near_end side ends) file busy own (Some process)) half seen own.heard (there_is laws names side ends are);
}

-- ---- it is cut off when its file is written

cut_joined : Laws → (names : LineNames) (side : Side) (now : ℕ) (old : Ends) (next : TalkState) (own far : Talked) (items : List Item) (seen : Seen) (end : End) (file : File)
    (busy : Bool) (half : Half) → (heard : HasHeard names side now old own far next items) → IsFar side heard.ends far half → is_joined next ≡ true
    → LooksTo side seen (line_by side (is_same heard.ends) (half_at next end file busy heard.then.said heard.before) half)
    (line_by side (is_same heard.ends) (half_gone (file_of (step side true seen items end).end) seen.busy heard.then) half)
cut_joined laws names side now old next own far items seen end file busy half heard far_is joined =
    let opened : is_open next.link.phase ≡ true = joined_open next joined
    in let same : AreSame heard.ends = up_is_same laws names side heard.ends heard.at.linked.are.timely (ap (λ (l : LinkState). is_up l.phase) (sym heard.at.link) ∙ joined_up next joined)
    (ap (λ (l : LinkState). is_open l.phase) (sym heard.at.link) ∙ opened)
    in let together : is_same heard.ends ≡ true = same_is heard.ends same
    in let near : Half = half_at next end file busy heard.then.said heard.before
    in let coming : unheard half.said near.heard ≡ items ++ unheard half.said heard.then.heard =
    subst (λ (s : List LineMessage). unheard s heard.before ≡ items ++ unheard s heard.then.heard) (sym far_is.said)
    (coming_is far.said heard.before heard.messages heard.then.heard items (heard.at.linked.back same) heard.heard (heard.told opened))
    in record {
      count = length items;
      outcome = Cut 1;
      is =
          ap (λ (b : Bool). after right_rules (Looks side seen (length items) (Cut 1)) (line_by side b near half)) together
          ∙ (looks_cut side near half seen items heard.then.heard heard.then.heard opened joined coming
          ∙ ap (λ (b : Bool). line_by side b (half_gone (file_of (step side true seen items end).end) seen.busy heard.then) half) (sym together));
    }

cut_out : Laws → (names : LineNames) (side : Side) (now : ℕ) (old : Ends) (next : TalkState) (own far : Talked) (items : List Item) (seen : Seen) (end : End) (file : File)
    (busy : Bool) (half : Half) → (heard : HasHeard names side now old own far next items) → is_joined next ≡ false
    → LooksTo side seen (line_by side (is_same heard.ends) (half_at next end file busy heard.then.said heard.before) half)
    (line_by side (is_same heard.ends) (half_gone (file_of (step side false seen items end).end) seen.busy heard.then) half)
cut_out laws names side now old next own far items seen end file busy half heard down = record {
  count = length items;
  outcome = Cut 1;
  is = cuts_unjoined side (is_same heard.ends) (half_at next end file busy heard.then.said heard.before) half seen items heard.then.heard down
      (λ opened. there_is laws names side heard.ends heard.at.linked.are (ap (λ (l : LinkState). is_open l.phase) (sym heard.at.link) ∙ opened));
}

cut_by : Laws → (names : LineNames) (side at_side : Side) (now : ℕ) (old : Ends) (next : TalkState) (own far : Talked) (items : List Item) (seen : Seen) (end : End) (file : File)
    (busy : Bool) (half : Half) → (heard : HasHeard names side now old own far next items) → IsFar side heard.ends far half → at_side ≡ side
    → LooksTo side seen (line_by side (is_same heard.ends) (half_at next end file busy heard.then.said heard.before) half)
    (line_by side (is_same heard.ends) (half_gone (file_of (step at_side (is_joined next) seen items end).end) seen.busy heard.then) half)
cut_by laws names side at_side now old next own far items seen end file busy half heard far_is side_is = by_joined (is_joined next) refl
  where
    IsCut : StepSoFar → Type 0
    IsCut so_far = LooksTo side seen (line_by side (is_same heard.ends) (half_at next end file busy heard.then.said heard.before) half)
        (line_by side (is_same heard.ends) (half_gone (file_of so_far.end) seen.busy heard.then) half)

    so : (b : Bool) → is_joined next ≡ b → step side b seen items end ≡ step at_side (is_joined next) seen items end
    so b is = ap (λ (s : Side). step s b seen items end) (sym side_is) ∙ ap (λ (j : Bool). step at_side j seen items end) (sym is)

    by_joined : (b : Bool) → is_joined next ≡ b → IsCut (step at_side (is_joined next) seen items end)
    by_joined true is = subst IsCut (so true is) (cut_joined laws names side now old next own far items seen end file busy half heard far_is is)
    by_joined false is = subst IsCut (so false is) (cut_out laws names side now old next own far items seen end file busy half heard is)

-- An end has been cut off: it is out of any connection, and so is its node.
pub record CutLook (names : LineNames) (side : Side) (old : Ends) (file : File) (seen : Seen) (far : Talked) (half : Half) (line : Line) : Type 0 where
  pub ends : Ends
  pub then : Talked
  pub linked : AreLinked names side ends then far
  pub shut : is_open (near_end side ends).link.phase ≡ false
  pub far_same : far_end side ends ≡ far_end side old
  pub time : ends.time ≡ old.time
  pub among : (datagram : Sent) → IsAmong datagram old.sent → IsAmong datagram ends.sent
  pub before : Line
  pub first : Quietly line before
  pub looks : LooksTo side seen before (line_by side (is_same ends) (half_gone file seen.busy then) half)

pub cut_after : Laws → (names : LineNames) (side : Side) (clock : ℕ) (file : File) (ends : Ends) (process : HostState) (own far : Talked) (occasion : Occasion) (seen : Seen) (busy : Bool)
    (half : Half) → AreLineNames names → MayCome names ends occasion → AreLinked names side ends own far → IsProcess names side clock file (near_end side ends) process own
    → IsFar side ends far half
    → CutLook names side ends (kept_file (writes (reading_of clock) (input_of occasion) seen (emptied process)) file) seen far half
    (line_by side (is_same ends) (half_by (near_end side ends) file busy own (Some process)) half)
cut_after laws names side clock file ends process own far occasion seen busy half are may linked is far_is =
    let now : ℕ = reading_of clock
    in let host : HostState = emptied process
    in let talk : TalkState = settled_talk now host.talk
    in let at : IsAt names side now ends talk own far = (process_at linked is).0
    in let staged : IsStaged side talk own = (process_at linked is).1
    in let met_is : IsStill side talk (met_talk now host.talk) own = still now side talk own staged
    in let heard : HasHeard names side now ends own far (so_far_heard now occasion host).talk (so_far_heard now occasion host).taken =
    hears laws names side now ends talk own far occasion are may at staged
    in let anew : IsAnew names side 0 0 heard.ends (restarted (role_of side) 0 0 heard.ends) heard.then far = is_anew laws names side 0 0 heard.ends heard.then far are.link heard.at.linked
    in let heard_line : End → Line = λ end. line_by side (is_same heard.ends) (half_at (so_far_heard now occasion host).talk end file busy heard.then.said heard.before) half
    in let cut = cut_by laws names side host.end.side now ends (so_far_heard now occasion host).talk own far (so_far_heard now occasion host).taken seen (end_met now host) file busy half heard
    (far_on heard.on far_is) is.side_is
    in let kept : kept_file (writes now (input_of occasion) seen host) file ≡ file_of (step_then now occasion seen host).end = file_then laws.written now occasion seen host file is.kept
    in record {
      ends = restarted (role_of side) 0 0 heard.ends;
      then = heard.then;
      linked = anew.linked;
      shut = anew.shut;
      far_same = anew.far_same ∙ heard.on.far_same;
      time = anew.time ∙ heard.on.time;
      among = λ datagram was. anew.among datagram (heard.on.among datagram was);
      before = heard_line (end_met now host);
      first =
          quiet_then (by_none (ap (λ (h : Half). line_by side (is_same ends) h half) (sym (half_then talk (near_end side ends).link host.end.end file file busy own at.link refl))))
          (quiet_then (hears_quietly laws names side now ends talk (so_far_heard now occasion host).talk own far (so_far_heard now occasion host).taken host.end.end file busy half linked.are
          at.link staged heard far_is)
          (by_none (ap (λ (j : Bool). heard_line (end_left j host.end.end)) (sym met_is.joined))));
      looks = record {
        count = cut.count;
        outcome = cut.outcome;
        is =
            cut.is
            ∙ (ap (λ (b : Bool). line_by side b (half_gone (file_of (step_then now occasion seen host).end) seen.busy heard.then) half)
            (same_on side heard.ends (restarted (role_of side) 0 0 heard.ends) anew.connection anew.far_same)
            ∙ ap (λ (f : File). line_by side (is_same (restarted (role_of side) 0 0 heard.ends)) (half_gone f seen.busy heard.then) half) (sym kept));
      };
    }

-- ---- cut off before its file is written, by whatever

pub cut_look : Laws → (names : LineNames) (side : Side) (clock first : ℕ) (file : File) (ends : Ends) (process : Option HostState) (own far : Talked) (seen : Seen) (busy : Bool) (half : Half)
    → AreLineNames names → AreLinked names side ends own far
    → LooksTo side seen (line_by side (is_same ends) (half_by (near_end side ends) file busy own process) half)
    (line_by side (is_same (restarted (role_of side) clock first ends)) (half_gone file seen.busy own) half)
cut_look laws names side clock first file ends process own far seen busy half are linked =
    let cut = cut_before laws names side ends file busy own process seen half linked.are
    in let anew : IsAnew names side clock first ends (restarted (role_of side) clock first ends) own far = is_anew laws names side clock first ends own far are.link linked
    in record {
      count = cut.count;
      outcome = cut.outcome;
      is = cut.is ∙ ap (λ (b : Bool). line_by side b (half_gone file seen.busy own) half) (same_on side ends (restarted (role_of side) clock first ends) anew.connection anew.far_same);
    }

-- ---- a new process

pub same_identity : (names : LineNames) (side : Side) → identity_of (parties side names) ≡ of_link.identity_of (role_of side) (link_names names)
same_identity names First = refl
same_identity names Second = refl

identity_is : (names : LineNames) (side : Side) (ends : Ends) → AreEnds (link_names names) ends → (near_end side ends).link.identity ≡ of_link.identity_of (role_of side) (link_names names)
identity_is names First ends are = are.timely.client.identity
identity_is names Second ends are = are.timely.server.identity

whole_millis : (clock : ℕ) → (clock * 1000) / 1000 ≡ clock
whole_millis clock = omega arith

pub created_settled : (identity : Identity) (first clock now : ℕ) → now ≡ clock → settled now (created identity first clock) ≡ created identity first clock
unfolding settled created
created_settled identity first clock now is = rw is refl

-- made anew from its file, at its end that is made anew
pub new_process : (names : LineNames) (side : Side) (clock first : ℕ) (file : File) (old new : Ends) (own far : Talked) → AreEnds (link_names names) old → IsAnew names side clock first old new own far
    → IsProcess names side (clock * 1000) file (near_end side new) (new_host (parties side names) first clock VERSION file) own
new_process names side clock first file old new own far are anew =
    let identity : identity_of (parties side names) ≡ (near_end side old).link.identity = same_identity names side ∙ sym (identity_is names side old are)
    in record {
      clock_is = anew.clock_is;
      link =
          created_settled (identity_of (parties side names)) first clock (reading_of (clock * 1000)) (whole_millis clock)
          ∙ (ap (λ (i : Identity). created i first clock) identity ∙ sym anew.link);
      own_name = refl;
      peer_name = refl;
      side_is = refl;
      kept = refl;
      staged = record {
        side_is = refl;
        version = refl;
        up = λ up. absurd (false≢true (sym anew.shut ∙ up_is_open (near_end side new).link.phase up));
        starting = λ opened down. absurd (false≢true (sym anew.shut ∙ opened));
      };
    }
