-- A client after a part of a step fits as it did before it, with what the part gave.
use Rattle.std.proofs.Common.{◌≡◌, ℕ, ◌+◌, Bool, true, false, not, List, [], ◌∷◌, ◌++◌, length, refl, sym, ap, subst, ◌∙◌, arith}
use Rattle.std.proofs.lemmas.Bool.{true≢false, false≢true}
use Rattle.std.proofs.lemmas.List.{map-append}
use Rattle.ixl_spec.specs.sci_telegram.declared.message.Initialisation.TheVariants.{InitialisationRequest, VersionCheck}
use Rattle.ixl_spec.specs.rasta_core.Outbox.{OutboxState}
use Rattle.ixl_spec.specs.rasta_core.State.{LinkState, is_open, is_up}
use Rattle.ixl_spec.specs.ixl_client.Client.{ClientState, PeerState, is_outside, is_ready}
use Rattle.ixl_spec.specs.ixl_client.Made.{link_after}
use Rattle.ixl_spec.specs.ixl_client.ClientSoFar.{ClientSoFar, begun}
use Rattle.ixl_spec.specs.ixl_client.Step.{at_stage, commanding, ending, fallen, message_of, posting, stage_after_command}
use Rattle.ixl_spec.specs.ixl_client.declared.command.Command.{Command}
use Rattle.ixl_spec.specs.ixl_client.declared.command.Command.TheVariants as commands
use Rattle.ixl_spec.specs.ixl_client.declared.indication.Indication.{Indication}
use Rattle.ixl_spec.specs.ixl_client.declared.stage.Stage.{Stage}
use Rattle.ixl_spec.specs.ixl_client.declared.stage.Stage.TheVariants as stage
use Rattle.ixl_spec.specs.Step.{Input}
use Rattle.simulator_move_laws.specs.Calls.{Items, items_after}
use Rattle.simulator_move_laws.specs.Link.{ClientFits, is_inside}
use Rattle.simulator_move_laws.specs.Telegrams.{AreHeard, commanded, given_by, item_of, opening_item}
use Rattle.simulator_move_laws.proofs.Interlocking.Tests.{by_test}
use Rattle.simulator_move_laws.proofs.Interlocking.Phases.{up_is_open}
use Rattle.simulator_move_laws.proofs.Interlocking.Places.{inside_open}
use Rattle.simulator_move_laws.proofs.Interlocking.Clients.{Posted, Standing, posts}
use Rattle.simulator_move_laws.proofs.Interlocking.DatagramHeard.{ends}

-- a client that fits stands so at the beginning of a part
pub begins : (now : ℕ) (input : Input) (client : ClientState) (items : Items) (commands : List Command) (of_point : Bool) (heard : ℕ) (outbox : OutboxState) →
    ClientFits now client items commands → (is_open client.link.phase ≡ true → is_inside now client.link ≡ true) →
    (of_point ≡ true → is_open client.link.phase ≡ true → AreHeard client.stage heard (length commands)) →
    Standing now input client.link items client.peer commands of_point heard (begun client outbox)
unfolding link_after items_after
begins now input client items commands of_point heard outbox fits alive told = record {
  runs = record { are = tt; made = refl; same = refl; client = fits.steady.opens };
  given = λ is. fits.given (alive is);
  early = λ is ready. fits.early (alive is) ready;
  inside = λ stage is. up_where (is_up client.link.phase) refl (sym stage ∙ fits.steady.outside);
  heard = λ of is. subst (λ n. AreHeard client.stage n (length commands)) (sym (plus_none heard)) (told of is);
} where
  up_where : (b : Bool) → is_up client.link.phase ≡ b → false ≡ not (is_up client.link.phase) → is_up client.link.phase ≡ true
  up_where true is e = is
  up_where false is e = absurd (false≢true (e ∙ ap not is))

  plus_none : (n : ℕ) → n + 0 ≡ n
  plus_none n = omega arith

-- and one that stands so at its end fits
pub fits_behind : (now : ℕ) (input : Input) (start : LinkState) (items : Items) (peer : PeerState) (commands : List Command) (of_point : Bool) (heard : ℕ) (part : ClientSoFar) →
    Standing now input start items peer commands of_point heard part → is_outside part.client.stage ≡ not (is_up part.client.link.phase) →
    ClientFits now part.client (items_after now part.calls start items) commands
fits_behind now input start items peer commands of_point heard part stands outside = record {
  steady = record { outside = outside; opens = stands.runs.client };
  given = λ is. stands.given (inside_open now part.client.link is) ∙ ap (λ p. given_by p part.client.stage commands) (sym stands.runs.same);
  early = λ is ready. stands.early (inside_open now part.client.link is) ready;
}

pub fallen_link : (client : ClientState) → (fallen client).link ≡ client.link
unfolding fallen
fallen_link client = by_test (λ (c : ClientState). c.link ≡ client.link) (is_up client.link.phase) client (record client { stage = stage.Outside }) (λ e. refl) (λ e. refl)

-- ---- a command

ready_command : (command : Command) (s : Stage) → is_ready s ≡ true → is_ready (stage_after_command command s) ≡ true
ready_command (commands.Indicate aspect) s ready = ready
ready_command (commands.Move side) stage.Outside ready = ready
ready_command (commands.Move side) stage.AwaitsAnswer ready = ready
ready_command (commands.Move side) stage.AwaitsStart ready = ready
ready_command (commands.Move side) (stage.AwaitsStatus left) ready = ready
ready_command (commands.Move side) stage.Completed ready = refl
ready_command (commands.Move side) stage.AwaitsReport ready = refl

given_ready : (peer : PeerState) (s t : Stage) (given : List Command) (command : Command) → is_ready s ≡ true → is_ready t ≡ true →
    given_by peer s given ++ item_of peer (message_of command) ∷ [] ≡ given_by peer t (given ++ command ∷ [])
given_ready peer s t given command one other =
    ap (λ items. items ++ item_of peer (message_of command) ∷ []) (by_stage s given one)
    ∙ ap (λ items. opening_item peer (VersionCheck peer.version) ∷ opening_item peer InitialisationRequest ∷ items) (sym (map-append (λ one. item_of peer (message_of one)) given (command ∷ [])))
    ∙ sym (by_stage t (given ++ command ∷ []) other)
  where
    by_stage : (s : Stage) (given : List Command) → is_ready s ≡ true → given_by peer s given ≡ opening_item peer (VersionCheck peer.version) ∷ opening_item peer InitialisationRequest ∷ commanded peer given
    by_stage stage.Outside given ready = absurd (false≢true ready)
    by_stage stage.AwaitsAnswer given ready = absurd (false≢true ready)
    by_stage stage.AwaitsStart given ready = absurd (false≢true ready)
    by_stage (stage.AwaitsStatus left) given ready = absurd (false≢true ready)
    by_stage stage.Completed given ready = refl
    by_stage stage.AwaitsReport given ready = refl

pub inside_ready : (s : Stage) → is_ready s ≡ true → is_outside s ≡ false
inside_ready stage.Outside ready = absurd (false≢true ready)
inside_ready stage.AwaitsAnswer ready = refl
inside_ready stage.AwaitsStart ready = refl
inside_ready (stage.AwaitsStatus left) ready = refl
inside_ready stage.Completed ready = refl
inside_ready stage.AwaitsReport ready = refl

pub not_ready : (s : Stage) → is_outside s ≡ true → is_ready s ≡ false
not_ready stage.Outside out = refl
not_ready stage.AwaitsAnswer out = refl
not_ready stage.AwaitsStart out = refl
not_ready (stage.AwaitsStatus left) out = refl
not_ready stage.Completed out = absurd (false≢true out)
not_ready stage.AwaitsReport out = absurd (false≢true out)

-- what a client that is ready does with a command
pub record Commanded (now : ℕ) (input : Input) (start : LinkState) (items : Items) (peer : PeerState) (given : List Command) (of_point : Bool) (heard : ℕ) (command : Command) (part : ClientSoFar) : Type 0 where
  pub stands : Standing now input start items peer (given ++ command ∷ []) of_point heard part
  pub outside : is_outside part.client.stage ≡ not (is_up part.client.link.phase)
  pub up : is_open part.client.link.phase ≡ true → is_up part.client.link.phase ≡ true
  pub more : is_open part.client.link.phase ≡ true → (items_after now part.calls start items).given ≡ items.given ++ item_of peer (message_of command) ∷ []
  pub refused : is_open part.client.link.phase ≡ false → (items_after now part.calls start items).given ≡ items.given
  pub taken : (items_after now part.calls start items).taken ≡ items.taken
  pub silent : part.heard ≡ []

pub commands_on : (now : ℕ) (input : Input) (client : ClientState) (items : Items) (given : List Command) (of_point : Bool) (heard : ℕ) (outbox : OutboxState) (command : Command) →
    Standing now input client.link items client.peer given of_point heard (begun client outbox) → is_up client.link.phase ≡ true → is_ready client.stage ≡ true →
    (of_point ≡ true → AreHeard (stage_after_command command client.stage) heard (length (given ++ command ∷ []))) →
    Commanded now input client.link items client.peer given of_point heard command (commanding now command (begun client outbox))
unfolding commanding items_after
commands_on now input client items given of_point heard outbox command stands up ready told = done where
  part : ClientSoFar
  part = begun client outbox

  posted : Posted now input client.link items client.peer given of_point heard (message_of command) part (posting now (message_of command) part)
  posted = posts now input client.link items client.peer given of_point heard (message_of command) part stands.runs up

  sent : ClientSoFar
  sent = at_stage (stage_after_command command client.stage) (posting now (message_of command) part)

  plus_none : (n : ℕ) → n + 0 ≡ n
  plus_none n = omega arith

  standing : Standing now input client.link items client.peer (given ++ command ∷ []) of_point heard sent
  standing = record {
    runs = record { are = posted.runs.are; made = posted.runs.made; same = posted.runs.same; client = posted.runs.client };
    given = λ is. posted.given is ∙ ap (λ before. before ++ item_of client.peer (message_of command) ∷ []) (stands.given (up_is_open client.link.phase up))
        ∙ given_ready client.peer client.stage (stage_after_command command client.stage) given command ready (ready_command command client.stage ready);
    early = λ is early. absurd (true≢false (sym (ready_command command client.stage ready) ∙ early));
    inside = λ stage is. posted.up is;
    heard = λ of is. subst (λ n. AreHeard (stage_after_command command client.stage) n (length (given ++ command ∷ [])))
        (sym (ap (λ (list : List Indication). heard + length list) posted.heard ∙ plus_none heard)) (told of);
  }

  ended : Standing now input client.link items client.peer (given ++ command ∷ []) of_point heard (ending sent) × (is_outside (ending sent).client.stage ≡ not (is_up (ending sent).client.link.phase))
  ended = ends now input client.link items client.peer (given ++ command ∷ []) of_point heard sent standing (λ up. inside_ready (stage_after_command command client.stage) (ready_command command client.stage ready))

  same_link : (ending sent).client.link ≡ sent.client.link
  same_link = fallen_link sent.client

  done : Commanded now input client.link items client.peer given of_point heard command (ending sent)
  done = record {
    stands = ended.0;
    outside = ended.1;
    up = λ is. ap (λ (l : LinkState). is_up l.phase) same_link ∙ posted.up (ap (λ (l : LinkState). is_open l.phase) (sym same_link) ∙ is);
    more = λ is. posted.given (ap (λ (l : LinkState). is_open l.phase) (sym same_link) ∙ is);
    refused = λ is. posted.refused (ap (λ (l : LinkState). is_open l.phase) (sym same_link) ∙ is);
    taken = posted.taken;
    silent = posted.heard;
  }
