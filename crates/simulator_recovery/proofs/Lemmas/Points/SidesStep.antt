-- What a point's client has given by each part of a step, where it awaits a report: what it had, or a move to a side last.
use Rattle.simulator_recovery.proofs.Words.Basics.{◌≡◌, ℕ, ◌∙◌, Bool, true, false, List, [], ◌∷◌, ◌++◌, map, if◌then◌else◌, refl, sym, ap, false≢true, ◌⊎◌, inl, inr, Some, None, slice_get, subst}
use Rattle.simulator_recovery.proofs.Words.Links.{opening, opens, receiving, ticking as link_ticking, beginning, requesting, OutboxState, beating, sending, is_up, all_made, Phase, LinkState, Key}
use Rattle.simulator_recovery.proofs.Words.Controllers.{Side}
use Rattle.simulator_recovery.proofs.Words.Interlockings.{ClientState, PeerState, is_available, is_ready, ClientSoFar, LinkCall, Opens, Receives, Ticks, as_call, begun, calling, acting_all, at_stage, commanding, fallen, hearing, message_of, posting, rising, stage_after_command, ticking, Move, Stage, Signal, count, freed_by_cancel, moved, ruled, KnownPointState, Input, given, ticked, watching, Point, StepSoFar, giving_move, over, Table, Command, Commands, refusal}
use Rattle.simulator_recovery.proofs.Words.Stations.{Site}
use Rattle.simulator_recovery.proofs.Words.Machine.{given_after}
use Rattle.simulator_recovery.proofs.Words.Recovery.{commanded, IsLast}
use Rattle.simulator_spec.specs.layout.declared.ids.PointId.{PointId}
use Rattle.simulator_recovery.proofs.Lemmas.Ground.ClientItem.{answers, changes, completes, Goes, starts, tells}
use Rattle.simulator_recovery.proofs.Lemmas.Talk.ClientTalk.{Posted, accepted, called, posts, refused}
use Rattle.simulator_recovery.proofs.Lemmas.Points.EndedClient.{Heard, Tracked, at_start, has_heard}
use Rattle.simulator_recovery.proofs.Lemmas.Talk.StationTalk.{fallen_link}
use Rattle.simulator_recovery.proofs.Lemmas.Ground.ClientBehind.{all_gave_behind, all_made_behind}
use Rattle.simulator_recovery.proofs.Lemmas.Talk.ClientLinks.{commanding_peer, hearing_peer, ticking_peer}
use Rattle.simulator_recovery.proofs.Lemmas.Points.EndedCalls as walk
use Rattle.simulator_recovery.proofs.Lemmas.Ground.IxlSoFar.{at_node}
use Rattle.simulator_recovery.proofs.Lemmas.Ground.EndCalls.{map_both}

-- ---- what a client gives in a step while it awaits a report: nothing but the move that it was given in the step

-- A client awaits a report after these calls only where it did before them, and has given the same.
pub record GivesNothing (now connection : ℕ) (given : List (List ℕ)) (old new : ClientState) (calls : List LinkCall) : Type 0 where
  pub link_is : new.link ≡ (all_made now (map (as_call connection) calls) old.link).link
  pub awaited : new.stage ≡ Stage.AwaitsReport → old.stage ≡ Stage.AwaitsReport
  pub same : new.stage ≡ Stage.AwaitsReport → given_after now (map (as_call connection) calls) old.link given ≡ given

-- It has given one item more, where it awaits a report after them.
pub record GivesOne (now connection : ℕ) (item : List ℕ) (given : List (List ℕ)) (old new : ClientState) (calls : List LinkCall) : Type 0 where
  pub link_is : new.link ≡ (all_made now (map (as_call connection) calls) old.link).link
  pub one : new.stage ≡ Stage.AwaitsReport → given_after now (map (as_call connection) calls) old.link given ≡ given ++ item ∷ []

never : (peer : PeerState) (old new : Stage) → Goes peer old new → new ≡ Stage.AwaitsReport → ⊥
never peer old new (starts e f) is = false≢true (ap is_ready (sym f ∙ is))
never peer old new (tells left some e f) is = false≢true (ap is_ready (sym f ∙ is))
never peer old new (completes e f) is = false≢true (ap is_available (sym is ∙ f))
never peer old new (changes turn e f) is = false≢true (ap is_available (sym is ∙ f))
never peer old new (answers e f) is = false≢true (ap is_available (sym is ∙ f))

-- a client that isn't outside at the end of a part is up
pub record Stands (client : ClientState) : Type 0 where
  pub awaits : client.stage ≡ Stage.AwaitsReport
  pub up : is_up client.link.phase ≡ true

pub stands : (client : ClientState) → (fallen client).stage ≡ Stage.AwaitsReport → Stands client
unfolding fallen
stands client = choose (is_up client.link.phase) refl
  where
    choose : (b : Bool) → is_up client.link.phase ≡ b → (if b then client else record client { stage = Stage.Outside }).stage ≡ Stage.AwaitsReport → Stands client
    choose true up e = record { awaits = e; up = up }
    choose false up e = absurd (false≢true (ap is_ready e))

module _ (site : Site) (now connection : ℕ) (client : ClientState) (outbox : OutboxState) (given : List (List ℕ)) where
  abbrev start : ClientSoFar
  start = begun client outbox

  -- where it awaits a report it did so before, and has given the same
  abbrev Awaits : Stage → List (List ℕ) → Type 0
  Awaits s gave = s ≡ Stage.AwaitsReport → (client.stage ≡ Stage.AwaitsReport) × (gave ≡ given)

  not_ready : (s : Stage) → is_ready s ≡ false → (gave : List (List ℕ)) → Awaits s gave
  not_ready s none gave e = absurd (false≢true (sym none ∙ ap is_ready e))

  abbrev behind_items : List ℕ → ClientSoFar
  behind_items bytes = acting_all now (receiving now bytes client.link).items (rising now (calling now (Receives bytes) start))

  heard : (bytes : List ℕ) → Heard site now connection client outbox given Awaits (λ old new gave on was e. absurd (never client.peer old new on e))
      (λ old gave was. (not_ready Stage.AwaitsAnswer refl gave, not_ready Stage.AwaitsAnswer refl _)) (λ old gave was. (not_ready Stage.AwaitsStart refl gave, not_ready Stage.AwaitsStart refl _))
      (behind_items bytes)
  heard bytes = has_heard site now connection client outbox given Awaits _ _ _ bytes (λ e. (e, refl))

  pub hears_nothing : (bytes : List ℕ) → GivesNothing now connection given client (hearing now bytes start).client (hearing now bytes start).calls
  unfolding hearing
  hears_nothing bytes = record {
    link_is = fallen_link (behind_items bytes).client ∙ (heard bytes).tracks.link_is;
    awaited = λ e. ((heard bytes).way (stands (behind_items bytes).client e).awaits).0;
    same = λ e. (heard bytes).tracks.gave ∙ ((heard bytes).way (stands (behind_items bytes).client e).awaits).1;
  }

  -- a move
  pub gives_move : (side : Side) → GivesOne now connection (commanded client.peer (Move side)) given client (commanding now (Move side) start).client (commanding now (Move side) start).calls
  unfolding commanding
  gives_move side = by_post (posts site (Signal 0) client.peer tt now connection client.link given [] (message_of (Move side)) start given [] (at_start site now connection client outbox given))
    where
      item : List ℕ
      item = commanded client.peer (Move side)

      sent : ClientSoFar
      sent = posting now (message_of (Move side)) start

      then_at : ClientSoFar
      then_at = at_stage (stage_after_command (Move side) client.stage) sent

      by_post : Posted site (Signal 0) client.peer tt now connection client.link given [] item start sent given [] → GivesOne now connection item given client (fallen then_at.client) then_at.calls
      by_post (accepted up tr) = record { link_is = fallen_link then_at.client ∙ tr.link_is; one = λ e. tr.gave }
      by_post (refused down was tr) = record { link_is = fallen_link then_at.client ∙ tr.link_is; one = λ e. absurd (false≢true (sym down ∙ (stands then_at.client e).up)) }

  -- a tick
  pub ticks_nothing : GivesNothing now connection given client (ticking now start).client (ticking now start).calls
  unfolding ticking calling link_ticking beating opening opens requesting beginning sending
  ticks_nothing = by_opened (opens now ticked.client.link) refl tracks
    where
      ticked : ClientSoFar
      ticked = calling now Ticks start

      opened : ClientSoFar
      opened = calling now Opens ticked

      tracks : Tracked site now connection client outbox given opened (if opens now ticked.client.link then [] else given) (if opens now ticked.client.link then [] else [])
      tracks = called site (Signal 0) client.peer tt now connection client.link given [] Opens ticked given []
          (called site (Signal 0) client.peer tt now connection client.link given [] Ticks start given [] (at_start site now connection client outbox given))

      start_phase : opens now ticked.client.link ≡ true → (opening now ticked.client.link).link.phase ≡ Phase.Start
      start_phase e = rw e refl

      by_opened : (b : Bool) → opens now ticked.client.link ≡ b
          → Tracked site now connection client outbox given opened (if b then [] else given) (if b then [] else []) → GivesNothing now connection given client (fallen opened.client) opened.calls
      by_opened true e tr = record {
        link_is = fallen_link opened.client ∙ tr.link_is;
        awaited = λ f. (stands opened.client f).awaits;
        same = λ f. absurd (false≢true (sym (ap is_up (start_phase e)) ∙ (stands opened.client f).up));
      }
      by_opened false e tr = record {
        link_is = fallen_link opened.client ∙ tr.link_is;
        awaited = λ f. (stands opened.client f).awaits;
        same = λ f. tr.gave;
      }

-- ---- what a point's client has given by each part of a step, where it awaits a report: what it had, or a move to a side last

module _ (site : Site) (now connection point : ℕ) (side : Side) (olds : List KnownPointState) (link : LinkState) (gave : List (List ℕ)) where
  abbrev pub so_far : List LinkCall → List (List ℕ)
  so_far calls = given_after now (map (as_call connection) calls) link gave

  -- the client of the point after some calls: where it awaits a report it did so before the step, and has given the same since; or it
  -- has given the move to the side last
  pub record Gone (client : ClientState) (calls : List LinkCall) : Type 0 where
    pub old : KnownPointState
    pub there : slice_get olds point ≡ Some old
    pub link_is : client.link ≡ (all_made now (map (as_call connection) calls) link).link
    pub peer_is : client.peer ≡ old.client.peer
    pub way : client.stage ≡ Stage.AwaitsReport → ((old.client.stage ≡ Stage.AwaitsReport) × (so_far calls ≡ gave)) ⊎ IsLast (commanded old.client.peer (Move side)) (so_far calls)

  behind : (calls more : List LinkCall) (client : ClientState) → client.link ≡ (all_made now (map (as_call connection) calls) link).link
      → so_far (calls ++ more) ≡ given_after now (map (as_call connection) more) client.link (so_far calls)
  behind calls more client link_is = ap (λ cs. given_after now cs link gave) (map_both (as_call connection) calls more) ∙ all_gave_behind now connection (map (as_call connection) calls) (map (as_call connection) more) link gave
      ∙ ap (λ (l : LinkState). given_after now (map (as_call connection) more) l (so_far calls)) (sym link_is)

  link_behind : (calls more : List LinkCall) (client after : ClientState) → client.link ≡ (all_made now (map (as_call connection) calls) link).link → after.link ≡ (all_made now (map (as_call connection) more) client.link).link
      → after.link ≡ (all_made now (map (as_call connection) (calls ++ more)) link).link
  link_behind calls more client after link_is then_is = then_is ∙ ap (λ (l : LinkState). (all_made now (map (as_call connection) more) l).link) link_is
      ∙ sym (all_made_behind now connection (map (as_call connection) calls) (map (as_call connection) more) link) ∙ ap (λ cs. (all_made now cs link).link) (sym (map_both (as_call connection) calls more))

  nothing_more : (client after : ClientState) (calls more : List LinkCall) → Gone client calls → after.peer ≡ client.peer → GivesNothing now connection (so_far calls) client after more → Gone after (calls ++ more)
  nothing_more client after calls more g peer_same n = record {
    old = g.old;
    there = g.there;
    link_is = link_behind calls more client after g.link_is n.link_is;
    peer_is = peer_same ∙ g.peer_is;
    way = λ e. choose (behind calls more client g.link_is ∙ n.same e) (g.way (n.awaited e));
  }
    where
      Way : List LinkCall → Type 0
      Way list = ((g.old.client.stage ≡ Stage.AwaitsReport) × (so_far list ≡ gave)) ⊎ IsLast (commanded g.old.client.peer (Move side)) (so_far list)

      choose : so_far (calls ++ more) ≡ so_far calls → Way calls → Way (calls ++ more)
      choose same (inl (awaited, is)) = inl (awaited, same ∙ is)
      choose same (inr last) = inr (record { front = last.front; are = same ∙ last.are })

  one_more : (client after : ClientState) (calls more : List LinkCall) → Gone client calls → after.peer ≡ client.peer → GivesOne now connection (commanded client.peer (Move side)) (so_far calls) client after more → Gone after (calls ++ more)
  one_more client after calls more g peer_same n = record {
    old = g.old;
    there = g.there;
    link_is = link_behind calls more client after g.link_is n.link_is;
    peer_is = peer_same ∙ g.peer_is;
    way = λ e. inr (record { front = so_far calls; are = behind calls more client g.link_is ∙ n.one e ∙ ap (λ (p : PeerState). so_far calls ++ commanded p (Move side) ∷ []) g.peer_is });
  }

  -- ---- a step so far

  pub hears : (client : ClientState) (outbox : OutboxState) (bytes : List ℕ) (so : List LinkCall) → Gone client so
      → Gone (hearing now bytes (begun client outbox)).client (so ++ (hearing now bytes (begun client outbox)).calls)
  hears client outbox bytes so g = nothing_more client (hearing now bytes (begun client outbox)).client so (hearing now bytes (begun client outbox)).calls g
      (hearing_peer now bytes (begun client outbox)) (hears_nothing site now connection client outbox (so_far so) bytes)

  pub ticks : (client : ClientState) (outbox : OutboxState) (so : List LinkCall) → Gone client so
      → Gone (ticking now (begun client outbox)).client (so ++ (ticking now (begun client outbox)).calls)
  ticks client outbox so g = nothing_more client (ticking now (begun client outbox)).client so (ticking now (begun client outbox)).calls g
      (ticking_peer now (begun client outbox)) (ticks_nothing site now connection client outbox (so_far so))

  abbrev pub On : StepSoFar → Type 0
  On = walk.On now point Gone hears ticks

  pub move_on : (place : ℕ) (to : Side) (part : StepSoFar) → ((known : KnownPointState) → point ≡ place → side ≡ to) → On part → On (giving_move now place to part)
  move_on place to part agreed = walk.move_on now point Gone hears ticks place to part (λ known same g.
      one_more known.client (commanding now (Move to) (begun known.client part.outbox)).client (at_node (Point point) part.calls) (commanding now (Move to) (begun known.client part.outbox)).calls
      g (commanding_peer now (Move to) (begun known.client part.outbox))
      (subst (λ (s : Side). GivesOne now connection (commanded known.client.peer (Move s)) (so_far (at_node (Point point) part.calls)) known.client
      (commanding now (Move to) (begun known.client part.outbox)).client
      (commanding now (Move to) (begun known.client part.outbox)).calls) (sym (agreed known same)) (gives_move site now connection known.client part.outbox (so_far (at_node (Point point) part.calls)) to)))

  pub given_on : (table : Table) (key : Key) (input : Input) (part : StepSoFar)
      → ((place : PointId) (to : Side) (q : StepSoFar) → input ≡ Commands (Command.Move place to) → refusal now table (Command.Move place to) part.ixl ≡ None → On q → On (giving_move now place.0 to q))
      → On part → On (given now table key input part)
  given_on = walk.given_on now point Gone hears ticks

  pub until_moves_on : (table : Table) (part : StepSoFar) → On part → On (freed_by_cancel now table (over (watching table) (count table) part))
  until_moves_on = walk.until_moves_on now point Gone hears ticks

  pub behind_moves_on : (table : Table) (input : Input) (part : StepSoFar) → On (moved now table part) → On (ticked now input (ruled now table part))
  behind_moves_on = walk.behind_moves_on now point Gone hears ticks
