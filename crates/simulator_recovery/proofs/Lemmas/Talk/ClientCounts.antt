-- The stage of a client tells how many items it has acted on in its connection.
use Rattle.simulator_recovery.proofs.Words.Basics.{◌≡◌, ℕ, ◌+◌, ◌-◌, Bool, true, false, List, [], ◌∷◌, length, refl, sym, ap, subst, ◌∙◌, if◌then◌else◌, arith, ◌&&◌, false≢true}
use Rattle.simulator_recovery.proofs.Words.Links.{answer_to_send, receiving, is_open, is_up, Reason}
use Rattle.simulator_recovery.proofs.Words.Controllers.{writing, VersionCheck, Message}
use Rattle.simulator_recovery.proofs.Words.Interlockings.{PeerState, is_outside, ClientSoFar, Closes, Opens, Receives, Sends, Ticks, calling, acted_on, acting, acting_all, at_stage, commanding, ending, fallen, hearing, is_refused_by_window, message_of, posting, rising, saying, stage_after_command, telegram_to, ticking, Stage}
use Rattle.simulator_recovery.proofs.Words.Recovery.{ClientHasActedOn, KeepsCount}
use Rattle.simulator_spec.specs.ixl_client.declared.command.Command.{Command}
use Rattle.simulator_recovery.proofs.Lemmas.Ground.ClientItem.{answers, changes, completes, Goes, one_item, starts, tells}
use Rattle.simulator_recovery.proofs.Lemmas.Ground.EndCalls.{count_push}
use Rattle.simulator_recovery.proofs.Lemmas.Ground.DueTests.{none_more}

-- how many items more were acted on, with the same peer
pub record Counts (before after : ClientSoFar) : Type 0 where
  pub peer : after.client.peer ≡ before.client.peer
  pub more : ℕ
  pub acted : length after.acted ≡ length before.acted + more
  pub on : (count : ℕ) → ClientHasActedOn before.client.peer before.client.stage count → ClientHasActedOn before.client.peer after.client.stage (count + more)

pub counts_then : (one two three : ClientSoFar) → Counts one two → Counts two three → Counts one three
counts_then one two three first second = record {
  peer = second.peer ∙ first.peer;
  more = first.more + second.more;
  acted = let a = first.acted in let b = second.acted in omega (arith, a, b);
  on = λ count has. let sum : (count + first.more) + second.more ≡ count + (first.more + second.more) = omega arith in
      subst (ClientHasActedOn one.client.peer three.client.stage) sum
      (subst (λ (peer : PeerState). ClientHasActedOn peer three.client.stage ((count + first.more) + second.more)) first.peer
      (second.on (count + first.more) (subst (λ (peer : PeerState). ClientHasActedOn peer two.client.stage (count + first.more)) (sym first.peer) (first.on count has))));
}

-- a part that acts on nothing and leaves the stage
pub counts_none : (before after : ClientSoFar) → after.client.peer ≡ before.client.peer → after.client.stage ≡ before.client.stage → after.acted ≡ before.acted → Counts before after
counts_none before after peer stage_is acted = record {
  peer = peer;
  more = 0;
  acted = ap length acted ∙ sym (none_more (length before.acted));
  on = λ count has. subst (ClientHasActedOn before.client.peer after.client.stage) (sym (none_more count)) (subst (λ (s : Stage). ClientHasActedOn before.client.peer s count) (sym stage_is) has);
}

posting_none : (now : ℕ) (told : Message) (part : ClientSoFar) → Counts part (posting now told part)
unfolding posting calling
posting_none now told part = choose (is_refused_by_window (answer_to_send now part.client.link))
  where
    sent : ClientSoFar
    sent = calling now (Sends (writing (telegram_to part.client.peer told))) part

    choose : (b : Bool) → Counts part (if b then calling now (Closes Reason.Window) sent else sent)
    choose true = counts_none part (calling now (Closes Reason.Window) sent) refl refl refl
    choose false = counts_none part sent refl refl refl

-- where a posted telegram comes with a stage
pub posted_at : (now : ℕ) (told : Message) (how_far : Stage) (part : ClientSoFar) → (at_stage how_far (posting now told part)).client.peer ≡ part.client.peer
unfolding posting calling
posted_at now told how_far part = choose (is_refused_by_window (answer_to_send now part.client.link))
  where
    sent : ClientSoFar
    sent = calling now (Sends (writing (telegram_to part.client.peer told))) part

    choose : (b : Bool) → (at_stage how_far (if b then calling now (Closes Reason.Window) sent else sent)).client.peer ≡ part.client.peer
    choose true = refl
    choose false = refl

pub posted_acted : (now : ℕ) (told : Message) (part : ClientSoFar) → (posting now told part).acted ≡ part.acted
unfolding posting calling
posted_acted now told part = choose (is_refused_by_window (answer_to_send now part.client.link))
  where
    sent : ClientSoFar
    sent = calling now (Sends (writing (telegram_to part.client.peer told))) part

    choose : (b : Bool) → (if b then calling now (Closes Reason.Window) sent else sent).acted ≡ part.acted
    choose true = refl
    choose false = refl

module _ (now : ℕ) (item : List ℕ) (part : ClientSoFar) where
  abbrev On : ClientSoFar → Type 0
  On after = Counts part after

  closes_none : (why : _) → On (calling now (Closes why) part)
  unfolding calling
  closes_none why = counts_none part (calling now (Closes why) part) refl refl refl

  -- one item, which leads to this stage
  one_more : (after : ClientSoFar) → after.client.peer ≡ part.client.peer → length after.acted ≡ length part.acted + 1
      → ((count : ℕ) → ClientHasActedOn part.client.peer part.client.stage count → ClientHasActedOn part.client.peer after.client.stage (count + 1)) → On after
  one_more after peer acted on = record { peer = peer; more = 1; acted = acted; on = on }

  to : (new old : Stage) → new ≡ old → (count : ℕ) → ClientHasActedOn part.client.peer old count → ClientHasActedOn part.client.peer new count
  to new old is count has = subst (λ (s : Stage). ClientHasActedOn part.client.peer s count) (sym is) has

  -- what a stage tells of the count
  told : (old new : Stage) → Goes part.client.peer old new → (count : ℕ) → ClientHasActedOn part.client.peer old count → ClientHasActedOn part.client.peer new (count + 1)
  told old new (starts e f) count has = to new (Stage.AwaitsStatus (length part.client.peer.objects)) f (count + 1) (let one = to Stage.AwaitsStart old (sym e) count has in omega (arith, one))
  told old new (tells left some e f) count has = to new (Stage.AwaitsStatus (left - 1)) f (count + 1) (let so_far = to (Stage.AwaitsStatus left) old (sym e) count has in omega (arith, some, so_far))
  told old new (completes e f) count has = to new Stage.Completed f (count + 1) (let all = to (Stage.AwaitsStatus 0) old (sym e) count has in omega (arith, all))
  told old new (changes turn e f) count has = to new Stage.Completed f (count + 1) (let all = to Stage.Completed old (sym e) count has in omega (arith, all))
  told old new (answers e f) count has = to new Stage.Completed f (count + 1) (let all = to Stage.AwaitsReport old (sym e) count has in omega (arith, all))

  pub acts : On (acting now item part)
  acts = one_item now item part On (closes_none Reason.State) (closes_none Reason.Version)
      (λ is. one_more _ (posted_at now _ Stage.AwaitsStart (acted_on item part)) (ap length (posted_acted now _ (acted_on item part)) ∙ count_push part.acted item)
      (λ count has. let none = to Stage.AwaitsAnswer part.client.stage (sym is) count has in omega (arith, none)))
      (λ after same called peer acted on. one_more after peer acted (told part.client.stage after.client.stage on))

pub all_act : (now : ℕ) (items : List (List ℕ)) (part : ClientSoFar) → Counts part (acting_all now items part)
unfolding acting_all
all_act now [] part = counts_none part part refl refl refl
all_act now (item ∷ others) part = choose (is_open part.client.link.phase) (counts_then part (acting now item part) (acting_all now others (acting now item part)) (acts now item part) (all_act now others (acting now item part)))
  where
    choose : (b : Bool) → Counts part (acting_all now others (acting now item part)) → Counts part (if b then acting_all now others (acting now item part) else part)
    choose true so = so
    choose false so = counts_none part part refl refl refl

-- a connection that comes up
pub rises : (now : ℕ) (part : ClientSoFar) → Counts part (rising now part)
unfolding rising
rises now part = choose part.client.stage refl (is_up part.client.link.phase)
  where
    up : ClientSoFar
    up = at_stage Stage.AwaitsAnswer (saying now (VersionCheck part.client.peer.version) part)

    choose : (s : Stage) → part.client.stage ≡ s → (b : Bool) → Counts part (if is_outside s && b then up else part)
    choose Stage.Outside e true = record {
      peer = posted_at now (Message.Initialisation part.client.peer.protocol (VersionCheck part.client.peer.version)) Stage.AwaitsAnswer part;
      more = 0;
      acted = ap length (posted_acted now (Message.Initialisation part.client.peer.protocol (VersionCheck part.client.peer.version)) part) ∙ sym (none_more (length part.acted));
      on = λ count has. none_more count ∙ subst (λ (s : Stage). ClientHasActedOn part.client.peer s count) e has;
    }
    choose Stage.Outside e false = counts_none part part refl refl refl
    choose Stage.AwaitsAnswer e b = counts_none part part refl refl refl
    choose Stage.AwaitsStart e b = counts_none part part refl refl refl
    choose (Stage.AwaitsStatus left) e b = counts_none part part refl refl refl
    choose Stage.Completed e b = counts_none part part refl refl refl
    choose Stage.AwaitsReport e b = counts_none part part refl refl refl

-- ---- the ends of a step

-- as before but for a link that isn't up
record Inside (before after : ClientSoFar) : Type 0 where
  acted : after.acted ≡ before.acted
  stage_is : is_outside after.client.stage ≡ false → after.client.stage ≡ before.client.stage

ends : (part : ClientSoFar) → Inside part (ending part)
unfolding fallen
ends part = choose (is_up part.client.link.phase)
  where
    choose : (b : Bool) → Inside part (record part { client = if b then part.client else record part.client { stage = Stage.Outside } })
    choose true = record { acted = refl; stage_is = λ f. refl }
    choose false = record { acted = refl; stage_is = λ f. absurd (false≢true (sym f)) }

ended : (before part : ClientSoFar) → Counts before part → KeepsCount before (ending part)
ended before part counts count has inside =
    let behind = ends part
    in let sum : (count + length before.acted) + counts.more ≡ count + length part.acted = let a = counts.acted in omega (arith, a)
    in subst (λ (l : List (List ℕ)). ClientHasActedOn before.client.peer (ending part).client.stage (count + length l)) (sym behind.acted)
    (subst (λ (s : Stage). ClientHasActedOn before.client.peer s (count + length part.acted)) (sym (behind.stage_is inside))
    (subst (ClientHasActedOn before.client.peer part.client.stage) sum (counts.on (count + length before.acted) has)))

pub hearing_counts : (now : ℕ) (bytes : List ℕ) (part : ClientSoFar) → KeepsCount part (hearing now bytes part)
unfolding hearing calling
hearing_counts now bytes part = ended part (acting_all now items (rising now received))
    (counts_then part received (acting_all now items (rising now received)) (came now bytes part)
    (counts_then received (rising now received) (acting_all now items (rising now received)) (rises now received) (all_act now items (rising now received))))
  where
    came : (now : ℕ) (bytes : List ℕ) (part : ClientSoFar) → Counts part (calling now (Receives bytes) part)
    came now bytes part = counts_none part (calling now (Receives bytes) part) refl refl refl

    received : ClientSoFar
    received = calling now (Receives bytes) part

    items : List (List ℕ)
    items = (receiving now bytes part.client.link).items

pub commanding_counts : (now : ℕ) (command : Command) (part : ClientSoFar) → KeepsCount part (commanding now command part)
unfolding commanding
commanding_counts now command part = ended part (at_stage (stage_after_command command part.client.stage) (posting now (message_of command) part)) (record {
  peer = posted_at now (message_of command) (stage_after_command command part.client.stage) part;
  more = 0;
  acted = ap length (posted_acted now (message_of command) part) ∙ sym (none_more (length part.acted));
  on = λ count has. subst (ClientHasActedOn part.client.peer (stage_after_command command part.client.stage)) (sym (none_more count)) (commanded command part.client.stage count has);
})
  where
    commanded : (c : Command) (s : Stage) (count : ℕ) → ClientHasActedOn part.client.peer s count → ClientHasActedOn part.client.peer (stage_after_command c s) count
    commanded (Command.Indicate aspect) s count has = has
    commanded (Command.Move side) Stage.Outside count has = has
    commanded (Command.Move side) Stage.AwaitsAnswer count has = has
    commanded (Command.Move side) Stage.AwaitsStart count has = has
    commanded (Command.Move side) (Stage.AwaitsStatus left) count has = has
    commanded (Command.Move side) Stage.Completed count has = has
    commanded (Command.Move side) Stage.AwaitsReport count has = has

pub ticking_counts : (now : ℕ) (part : ClientSoFar) → KeepsCount part (ticking now part)
unfolding ticking calling
ticking_counts now part = ended part (calling now Opens (calling now Ticks part)) (counts_none part (calling now Opens (calling now Ticks part)) refl refl refl)
