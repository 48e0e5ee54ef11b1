-- What a client gives of its own commands no move: the check of its version, and the request for the initialisation.
use Rattle.simulator_recovery.proofs.Words.Basics.{◌≡◌, ℕ, ◌∙◌, Bool, true, false, List, [], ◌∷◌, ◌++◌, map, ◌&&◌, if◌then◌else◌, refl, sym, ap, subst, ◌⊎◌, inl, inr, append-nil, append_assoc}
use Rattle.simulator_recovery.proofs.Words.Links.{receiving, OutboxState, is_open, is_up, all_made, Reason, opens, LinkState}
use Rattle.simulator_recovery.proofs.Words.Controllers.{writing, InitialisationRequest, VersionCheck, Message, reading, IsMessage, Initialisation}
use Rattle.simulator_recovery.proofs.Words.Interlockings.{ClientState, PeerState, is_outside, ClientSoFar, Closes, LinkCall, Receives, as_call, begun, calling, item_of, acted_on, acting, acting_all, at_stage, posting, rising, saying, telegram_to, Stage, Signal, Opens, Ticks, hearing, ticking}
use Rattle.simulator_recovery.proofs.Words.Stations.{Site, IsPeer}
use Rattle.simulator_recovery.proofs.Words.Machine.{given_after, taken_after, Side as MachineSide, all_said, moves_in, moves_of, said_by}
use Rattle.simulator_recovery.proofs.Words.Recovery.{WrittenIsRead}
use Rattle.simulator_recovery.proofs.Lemmas.Talk.ClientCounts.{posted_at}
use Rattle.simulator_recovery.proofs.Lemmas.Ground.ClientItem.{Goes}
use Rattle.simulator_recovery.proofs.Lemmas.Talk.ClientTalk.{Fate, Posted, Tracks, accepted, asks, called, closes, fate, goes, posts, refused}
use Rattle.simulator_recovery.proofs.Lemmas.Ground.ClientBehind.{all_gave_behind, all_made_behind}
use Rattle.simulator_recovery.proofs.Lemmas.Talk.ClientLinks.{hearing_peer, ticking_peer}
use Rattle.simulator_recovery.proofs.Lemmas.Ground.EndCalls.{map_both}
use Rattle.simulator_recovery.proofs.Lemmas.Talk.StationTalk.{fallen_link}

-- ---- what is so of a client's stage, with what the client has given, is kept as it hears a datagram

module _ (site : Site) (now connection : ℕ) (client : ClientState) (outbox : OutboxState) (given : List (List ℕ)) where
  abbrev pub Tracked : ClientSoFar → List (List ℕ) → List (List ℕ) → Type 0
  Tracked = Tracks site (Signal 0) client.peer tt now connection client.link given []

  abbrev pub start : ClientSoFar
  start = begun client outbox

  pub at_start : Tracked start given []
  unfolding all_made given_after taken_after
  at_start = record { link_is = refl; gave = refl; took = refl }

  -- where it is kept by another stage, and by the check of the version and the request for the initialisation, whether or not the link accepts them
  module _ (W : Stage → List (List ℕ) → Type 0) (goes_on : (old new : Stage) (g : List (List ℕ)) → Goes client.peer old new → W old g → W new g)
      (checks : (old : Stage) (g : List (List ℕ)) → W old g → W Stage.AwaitsAnswer g × W Stage.AwaitsAnswer (g ++ item_of client.peer (VersionCheck client.peer.version) ∷ []))
      (requests : (old : Stage) (g : List (List ℕ)) → W old g → W Stage.AwaitsStart g × W Stage.AwaitsStart (g ++ item_of client.peer InitialisationRequest ∷ [])) where
    -- what was called so far, and what is so of what was given
    pub record Heard (part : ClientSoFar) : Type 0 where
      pub gave : List (List ℕ)
      pub took : List (List ℕ)
      pub tracks : Tracked part gave took
      pub peer_is : part.client.peer ≡ client.peer
      pub way : W part.client.stage gave

    closing : (why : Reason) (part : ClientSoFar) → Heard part → Heard (calling now (Closes why) part)
    unfolding calling
    closing why part h = record {
      gave = h.gave;
      took = h.took;
      tracks = called site (Signal 0) client.peer tt now connection client.link given [] (Closes why) part h.gave h.took h.tracks;
      peer_is = h.peer_is;
      way = h.way;
    }

    received : (bytes : List ℕ) → W client.stage given → Heard (calling now (Receives bytes) start)
    unfolding calling
    received bytes first = record {
      gave = given;
      took = [] ++ (receiving now bytes client.link).items;
      tracks = called site (Signal 0) client.peer tt now connection client.link given [] (Receives bytes) start given [] at_start;
      peer_is = refl;
      way = first;
    }

    said : (told : Message) (part : ClientSoFar) (next : Stage) (h : Heard part) → W next h.gave × W next (h.gave ++ writing (telegram_to part.client.peer told) ∷ [])
        → Heard (at_stage next (posting now told part))
    said told part next h both = by_post (posts site (Signal 0) client.peer tt now connection client.link given [] told part h.gave h.took h.tracks)
      where
        item : List ℕ
        item = writing (telegram_to part.client.peer told)

        peer_so : (at_stage next (posting now told part)).client.peer ≡ client.peer
        peer_so = posted_at now told next part ∙ h.peer_is

        by_post : Posted site (Signal 0) client.peer tt now connection client.link given [] item part (posting now told part) h.gave h.took → Heard (at_stage next (posting now told part))
        by_post (accepted up tr) = record {
          gave = h.gave ++ item ∷ [];
          took = h.took;
          tracks = record { link_is = tr.link_is; gave = tr.gave; took = tr.took };
          peer_is = peer_so;
          way = both.1;
        }
        by_post (refused down was tr) = record {
          gave = h.gave;
          took = h.took;
          tracks = record { link_is = tr.link_is; gave = tr.gave; took = tr.took };
          peer_is = peer_so;
          way = both.0;
        }

    one_heard : (item : List ℕ) (part : ClientSoFar) → Heard part → Heard (acting now item part)
    one_heard item part h = choose (fate now item part)
      where
        done : ClientSoFar
        done = acting now item part

        acted : Heard (acted_on item part)
        acted = record {
          gave = h.gave;
          took = h.took;
          tracks = record { link_is = h.tracks.link_is; gave = h.tracks.gave; took = h.tracks.took };
          peer_is = h.peer_is;
          way = h.way;
        }

        choose : Fate now item part done → Heard done
        choose (closes why at) = subst Heard (sym at) (closing why part h)
        choose (goes link_same calls_same peer_same more on) = record {
          gave = h.gave;
          took = h.took;
          tracks = record {
            link_is = link_same ∙ h.tracks.link_is ∙ ap (λ (cs : List LinkCall). (all_made now (map (as_call connection) cs) client.link).link) (sym calls_same);
            gave = ap (λ (cs : List LinkCall). given_after now (map (as_call connection) cs) client.link given) calls_same ∙ h.tracks.gave;
            took = ap (λ (cs : List LinkCall). taken_after now (map (as_call connection) cs) client.link []) calls_same ∙ h.tracks.took;
          };
          peer_is = peer_same ∙ h.peer_is;
          way = goes_on part.client.stage done.client.stage h.gave (subst (λ (p : PeerState). Goes p part.client.stage done.client.stage) h.peer_is on) h.way;
        }
        choose (asks is at) = subst Heard (sym at) (said _ (acted_on item part) Stage.AwaitsStart acted
            (subst (λ (p : PeerState). W Stage.AwaitsStart h.gave × W Stage.AwaitsStart (h.gave ++ item_of p InitialisationRequest ∷ [])) (sym h.peer_is) (requests part.client.stage h.gave h.way)))

    all_heard : (items : List (List ℕ)) (part : ClientSoFar) → Heard part → Heard (acting_all now items part)
    unfolding acting_all
    all_heard [] part h = h
    all_heard (item ∷ others) part h = choose (is_open part.client.link.phase) (all_heard others (acting now item part) (one_heard item part h))
      where
        choose : (b : Bool) → Heard (acting_all now others (acting now item part)) → Heard (if b then acting_all now others (acting now item part) else part)
        choose true more = more
        choose false more = h

    risen : (part : ClientSoFar) → Heard part → Heard (rising now part)
    unfolding rising
    risen part h = choose (is_outside part.client.stage && is_up part.client.link.phase)
      where
        choose : (b : Bool) → Heard (if b then at_stage Stage.AwaitsAnswer (saying now (VersionCheck part.client.peer.version) part) else part)
        choose true = said _ part Stage.AwaitsAnswer h
            (subst (λ (p : PeerState). W Stage.AwaitsAnswer h.gave × W Stage.AwaitsAnswer (h.gave ++ item_of p (VersionCheck p.version) ∷ [])) (sym h.peer_is) (checks part.client.stage h.gave h.way))
        choose false = h

    pub has_heard : (bytes : List ℕ) → W client.stage given → Heard (acting_all now (receiving now bytes client.link).items (rising now (calling now (Receives bytes) start)))
    has_heard bytes first = all_heard (receiving now bytes client.link).items (rising now (calling now (Receives bytes) start)) (risen (calling now (Receives bytes) start) (received bytes first))

-- ---- what a client gives of its own commands no move: the check of its version, and the request for the initialisation

pub moves_both : (one other : List (List ℕ)) → moves_in (one ++ other) ≡ moves_in one ++ moves_in other
unfolding all_said
moves_both [] other = refl
moves_both (item ∷ one) other = ap (λ (rest : List MachineSide). said_by moves_of (reading item) ++ rest) (moves_both one other)
    ∙ sym (append_assoc (said_by moves_of (reading item)) (moves_in one) (moves_in other))

-- what a client gives of its own commands no move
pub record AsksOnly (peer : PeerState) : Type 0 where
  pub check : moves_in (item_of peer (VersionCheck peer.version) ∷ []) ≡ []
  pub request : moves_in (item_of peer InitialisationRequest ∷ []) ≡ []

pub asks_only : WrittenIsRead → (peer : PeerState) → IsPeer peer → AsksOnly peer
unfolding all_said
asks_only written peer is = record { check = none (VersionCheck peer.version) is.version; request = none InitialisationRequest tt }
  where
    none : (what : Initialisation) → IsMessage (Message.Initialisation peer.protocol what) → moves_in (item_of peer what ∷ []) ≡ []
    none what told = ap (λ r. said_by moves_of r ++ []) (written (telegram_to peer (Message.Initialisation peer.protocol what))
        (record { sender = is.own_name; receiver = is.name; message = told }))

-- The moves that these items command are those of these; or there are none any more, as in a new connection.
abbrev pub AddsNoMove : (old new : List (List ℕ)) → Type 0
AddsNoMove old new = (moves_in new ≡ moves_in old) ⊎ (moves_in new ≡ [])

none_then : (one two three : List (List ℕ)) → AddsNoMove one two → AddsNoMove two three → AddsNoMove one three
none_then one two three first (inr none) = inr none
none_then one two three (inl same) (inl still) = inl (still ∙ same)
none_then one two three (inr none) (inl still) = inr (still ∙ none)

-- ---- what a client does of its own in a step

-- it gives no move by these calls
record GivesNoMove (now connection : ℕ) (given : List (List ℕ)) (old new : ClientState) (calls : List LinkCall) : Type 0 where
  link_is : new.link ≡ (all_made now (map (as_call connection) calls) old.link).link
  none : AddsNoMove given (given_after now (map (as_call connection) calls) old.link given)

module _ (site : Site) (now connection : ℕ) (client : ClientState) (outbox : OutboxState) (given : List (List ℕ)) (asks_so : AsksOnly client.peer) where
  abbrev SameMoves : Stage → List (List ℕ) → Type 0
  SameMoves s gave = moves_in gave ≡ moves_in given

  with_item : (gave : List (List ℕ)) (item : List ℕ) → moves_in (item ∷ []) ≡ [] → moves_in gave ≡ moves_in given → moves_in (gave ++ item ∷ []) ≡ moves_in given
  with_item gave item none same = moves_both gave (item ∷ []) ∙ (ap (λ (more : List MachineSide). moves_in gave ++ more) none ∙ (append-nil (moves_in gave) ∙ same))

  hears_no_move : (bytes : List ℕ) → GivesNoMove now connection given client (hearing now bytes (begun client outbox)).client (hearing now bytes (begun client outbox)).calls
  unfolding hearing
  hears_no_move bytes =
      let part : ClientSoFar = acting_all now (receiving now bytes client.link).items (rising now (calling now (Receives bytes) (begun client outbox)))
      in let h = has_heard site now connection client outbox given SameMoves (λ old new gave on same. same)
      (λ old gave same. (same, with_item gave (item_of client.peer (VersionCheck client.peer.version)) asks_so.check same))
      (λ old gave same. (same, with_item gave (item_of client.peer InitialisationRequest) asks_so.request same)) bytes refl
      in record { link_is = fallen_link part.client ∙ h.tracks.link_is; none = inl (ap moves_in h.tracks.gave ∙ h.way) }

  ticks_no_move : GivesNoMove now connection given client (ticking now (begun client outbox)).client (ticking now (begun client outbox)).calls
  unfolding ticking calling all_said
  ticks_no_move = by_opened (opens now ticked.client.link) tracks
    where
      ticked : ClientSoFar
      ticked = calling now Ticks (begun client outbox)

      opened : ClientSoFar
      opened = calling now Opens ticked

      tracks : Tracked site now connection client outbox given opened (if opens now ticked.client.link then [] else given) (if opens now ticked.client.link then [] else [])
      tracks = called site (Signal 0) client.peer tt now connection client.link given [] Opens ticked given []
          (called site (Signal 0) client.peer tt now connection client.link given [] Ticks (begun client outbox) given [] (at_start site now connection client outbox given))

      by_opened : (b : Bool) → Tracked site now connection client outbox given opened (if b then [] else given) (if b then [] else [])
          → GivesNoMove now connection given client (ticking now (begun client outbox)).client opened.calls
      by_opened true tr = record { link_is = fallen_link opened.client ∙ tr.link_is; none = inr (ap moves_in tr.gave) }
      by_opened false tr = record { link_is = fallen_link opened.client ∙ tr.link_is; none = inl (ap moves_in tr.gave) }

-- ---- by all its calls in a step

module _ (site : Site) (now connection : ℕ) (peer : PeerState) (asks_so : AsksOnly peer) (link : LinkState) (gave : List (List ℕ)) where
  abbrev pub gave_by : List LinkCall → List (List ℕ)
  gave_by calls = given_after now (map (as_call connection) calls) link gave

  -- the client by these calls, which give no move
  pub record GaveNoMove (client : ClientState) (calls : List LinkCall) : Type 0 where
    pub link_is : client.link ≡ (all_made now (map (as_call connection) calls) link).link
    pub peer_is : client.peer ≡ peer
    pub none : AddsNoMove gave (gave_by calls)

  more_calls : (client after : ClientState) (calls more : List LinkCall) → after.peer ≡ client.peer → (g : GaveNoMove client calls) → GivesNoMove now connection (gave_by calls) client after more
      → GaveNoMove after (calls ++ more)
  more_calls client after calls more same g n = record {
    link_is = n.link_is ∙ (ap (λ (l : LinkState). (all_made now (map (as_call connection) more) l).link) g.link_is
        ∙ (sym (all_made_behind now connection (map (as_call connection) calls) (map (as_call connection) more) link)
        ∙ ap (λ cs. (all_made now cs link).link) (sym (map_both (as_call connection) calls more))));
    peer_is = same ∙ g.peer_is;
    none = none_then gave (gave_by calls) (gave_by (calls ++ more)) g.none (subst (AddsNoMove (gave_by calls)) (sym behind) n.none);
  }
    where
      behind : gave_by (calls ++ more) ≡ given_after now (map (as_call connection) more) client.link (gave_by calls)
      behind = ap (λ cs. given_after now cs link gave) (map_both (as_call connection) calls more)
          ∙ (all_gave_behind now connection (map (as_call connection) calls) (map (as_call connection) more) link gave
          ∙ ap (λ (l : LinkState). given_after now (map (as_call connection) more) l (gave_by calls)) (sym g.link_is))

  pub hears_none : (client : ClientState) (outbox : OutboxState) (bytes : List ℕ) (calls : List LinkCall) → GaveNoMove client calls
      → GaveNoMove (hearing now bytes (begun client outbox)).client (calls ++ (hearing now bytes (begun client outbox)).calls)
  hears_none client outbox bytes calls g = more_calls client (hearing now bytes (begun client outbox)).client calls (hearing now bytes (begun client outbox)).calls
      (hearing_peer now bytes (begun client outbox)) g (hears_no_move site now connection client outbox (gave_by calls) (subst AsksOnly (sym g.peer_is) asks_so) bytes)

  pub ticks_none : (client : ClientState) (outbox : OutboxState) (calls : List LinkCall) → GaveNoMove client calls
      → GaveNoMove (ticking now (begun client outbox)).client (calls ++ (ticking now (begun client outbox)).calls)
  ticks_none client outbox calls g = more_calls client (ticking now (begun client outbox)).client calls (ticking now (begun client outbox)).calls
      (ticking_peer now (begun client outbox)) g (ticks_no_move site now connection client outbox (gave_by calls) (subst AsksOnly (sym g.peer_is) asks_so))
