-- What a command leads a client to, and what is so of one part of a step after another.
use Rattle.simulator_recovery.proofs.Words.Basics.{◌≡◌, ℕ, ◌∙◌, inr, true, List, [], ◌∷◌, ◌++◌, length, map, refl, sym, ap, subst, arith, false≢true}
use Rattle.simulator_recovery.proofs.Words.Links.{Call, LinkState, all_made, made_by}
use Rattle.simulator_recovery.proofs.Words.Controllers.{Aspect, InitialisationRequest, VersionCheck, Side}
use Rattle.simulator_recovery.proofs.Words.Interlockings.{ClientState, PeerState, is_available, is_ready, LinkCall, as_call, item_of, stage_after_command, Stage, Node, Point, Signal}
use Rattle.simulator_recovery.proofs.Words.Stations.{Site}
use Rattle.simulator_recovery.proofs.Words.Machine.{given_after, given_by, taken_after, taken_by}
use Rattle.simulator_recovery.proofs.Words.Recovery.{AtMostOneWaits, ClientHasSaid, ClientTalks, HasCommanded, IsGivenTo, commanded, IsSpoken}
use Rattle.simulator_spec.specs.ixl_client.declared.command.Command.{Command}
use Rattle.simulator_recovery.proofs.Lemmas.Talk.ClientTalk.{OfNode, SoFar}
use Rattle.simulator_recovery.proofs.Lemmas.Ground.EndCalls.{count_push, each_both, map_both}

-- ---- what a command leads to

-- one command more
abbrev one_more : (site : Site) (node : Node) (peer : PeerState) (count : ℕ) (g : List (List ℕ)) (command : Command) → IsGivenTo site node command → (c : HasCommanded site node peer count g)
    → AtMostOneWaits node (length peer.objects) (length (c.commands ++ command ∷ [])) count → HasCommanded site node peer count (g ++ commanded peer command ∷ [])
one_more site node peer count g command fits c waits = record {
  commands = c.commands ++ command ∷ [];
  each = each_both (IsGivenTo site node) c.commands (command ∷ []) c.each (fits, tt);
  are = ap (λ (list : List (List ℕ)). list ++ commanded peer command ∷ []) c.are
      ∙ ap (λ (list : List (List ℕ)). item_of peer (VersionCheck peer.version) ∷ item_of peer InitialisationRequest ∷ list) (sym (map_both (commanded peer) c.commands (command ∷ [])));
  waits = waits;
}

pub aspect_leads : (site : Site) (place : ℕ) (peer : PeerState) (aspect : Aspect) → IsSpoken site aspect → (s : Stage) → is_ready s ≡ true → (count : ℕ) (g : List (List ℕ))
    → ClientHasSaid site (Signal place) peer s count g → ClientHasSaid site (Signal place) peer (stage_after_command (Command.Indicate aspect) s) count (g ++ commanded peer (Command.Indicate aspect) ∷ [])
aspect_leads site place peer aspect spoken Stage.Completed e count g (c, all) = (one_more site (Signal place) peer count g (Command.Indicate aspect) spoken c tt, tt)
aspect_leads site place peer aspect spoken Stage.AwaitsReport e count g (c, one) = (one_more site (Signal place) peer count g (Command.Indicate aspect) spoken c tt, tt)
aspect_leads site place peer aspect spoken Stage.Outside e count g has = absurd (false≢true e)
aspect_leads site place peer aspect spoken Stage.AwaitsAnswer e count g has = absurd (false≢true e)
aspect_leads site place peer aspect spoken Stage.AwaitsStart e count g has = absurd (false≢true e)
aspect_leads site place peer aspect spoken (Stage.AwaitsStatus left) e count g has = absurd (false≢true e)

pub move_leads : (site : Site) (place : ℕ) (peer : PeerState) (side : Side) (s : Stage) → is_available s ≡ true → (count : ℕ) (g : List (List ℕ))
    → ClientHasSaid site (Point place) peer s count g → ClientHasSaid site (Point place) peer (stage_after_command (Command.Move side) s) count (g ++ commanded peer (Command.Move side) ∷ [])
move_leads site place peer side Stage.Completed e count g (c, all) = let many = count_push c.commands (Command.Move side) in
    (one_more site (Point place) peer count g (Command.Move side) tt c (inr (omega (arith, all, many))), omega (arith, all, many))
move_leads site place peer side Stage.AwaitsReport e count g has = absurd (false≢true e)
move_leads site place peer side Stage.Outside e count g has = absurd (false≢true e)
move_leads site place peer side Stage.AwaitsAnswer e count g has = absurd (false≢true e)
move_leads site place peer side Stage.AwaitsStart e count g has = absurd (false≢true e)
move_leads site place peer side (Stage.AwaitsStatus left) e count g has = absurd (false≢true e)

pub available_ready : (s : Stage) → is_available s ≡ true → is_ready s ≡ true
available_ready Stage.Completed e = refl
available_ready Stage.AwaitsReport e = absurd (false≢true e)
available_ready Stage.Outside e = absurd (false≢true e)
available_ready Stage.AwaitsAnswer e = absurd (false≢true e)
available_ready Stage.AwaitsStart e = absurd (false≢true e)
available_ready (Stage.AwaitsStatus left) e = absurd (false≢true e)

-- ---- one part after another

module _ (now connection : ℕ) where
  pub all_made_behind : (one other : List Call) (l : LinkState) → (all_made now (one ++ other) l).link ≡ (all_made now other (all_made now one l).link).link
  unfolding all_made
  all_made_behind [] other l = refl
  all_made_behind (first ∷ one) other l = all_made_behind one other (made_by now first l).link

  pub all_gave_behind : (one other : List Call) (l : LinkState) (given : List (List ℕ)) → given_after now (one ++ other) l given ≡ given_after now other (all_made now one l).link (given_after now one l given)
  unfolding all_made given_after
  all_gave_behind [] other l given = refl
  all_gave_behind (first ∷ one) other l given = all_gave_behind one other (made_by now first l).link (given_by now first l given)

  pub all_took_behind : (one other : List Call) (l : LinkState) (taken : List (List ℕ)) → taken_after now (one ++ other) l taken ≡ taken_after now other (all_made now one l).link (taken_after now one l taken)
  unfolding all_made taken_after
  all_took_behind [] other l taken = refl
  all_took_behind (first ∷ one) other l taken = all_took_behind one other (made_by now first l).link (taken_by now first l taken)

  module _ (site : Site) (node : Node) (peer : PeerState) (of : OfNode node peer) (link : LinkState) (given taken : List (List ℕ)) where
    abbrev From : ClientState → List LinkCall → Type 0
    From = SoFar site node peer of now connection link given taken

    -- what is so after a part that begins here is so after both
    pub so_far_behind : (calls more : List LinkCall) (client after : ClientState) → From client calls
        → SoFar site node peer of now connection client.link (given_after now (map (as_call connection) calls) link given) (taken_after now (map (as_call connection) calls) link taken) after more
        → From after (calls ++ more)
    unfolding all_made given_after taken_after
    so_far_behind calls more client after first then_so = record {
      link_is = then_so.link_is ∙ ap (λ (l : LinkState). (all_made now (map (as_call connection) more) l).link) first.link_is
          ∙ sym (all_made_behind (map (as_call connection) calls) (map (as_call connection) more) link) ∙ ap (λ (cs : List Call). (all_made now cs link).link) (sym both);
      peer_is = then_so.peer_is;
      talks = subst (λ (g : List (List ℕ)). ClientTalks site node after g (taken_after now (map (as_call connection) (calls ++ more)) link taken)) (sym gave)
          (subst (λ (t : List (List ℕ)). ClientTalks site node after (given_after now (map (as_call connection) more) client.link (given_after now (map (as_call connection) calls) link given)) t) (sym took) then_so.talks);
    }
      where
        both : map (as_call connection) (calls ++ more) ≡ map (as_call connection) calls ++ map (as_call connection) more
        both = map_both (as_call connection) calls more

        gave : given_after now (map (as_call connection) (calls ++ more)) link given ≡ given_after now (map (as_call connection) more) client.link (given_after now (map (as_call connection) calls) link given)
        gave = ap (λ (cs : List Call). given_after now cs link given) both ∙ all_gave_behind (map (as_call connection) calls) (map (as_call connection) more) link given
            ∙ ap (λ (l : LinkState). given_after now (map (as_call connection) more) l (given_after now (map (as_call connection) calls) link given)) (sym first.link_is)

        took : taken_after now (map (as_call connection) (calls ++ more)) link taken ≡ taken_after now (map (as_call connection) more) client.link (taken_after now (map (as_call connection) calls) link taken)
        took = ap (λ (cs : List Call). taken_after now cs link taken) both ∙ all_took_behind (map (as_call connection) calls) (map (as_call connection) more) link taken
            ∙ ap (λ (l : LinkState). taken_after now (map (as_call connection) more) l (taken_after now (map (as_call connection) calls) link taken)) (sym first.link_is)

    -- a part begins here
    pub begins_here : (client : ClientState) → client.peer ≡ peer → client.link ≡ link → ClientTalks site node client given taken → From client []
    unfolding all_made given_after taken_after
    begins_here client peer_is same talks = record { link_is = same; peer_is = peer_is; talks = talks }
