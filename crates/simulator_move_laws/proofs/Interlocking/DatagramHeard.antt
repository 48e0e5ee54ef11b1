-- What hearing a datagram leaves of a client.
use Rattle.std.proofs.Common.{◌≡◌, ℕ, suc, ◌+◌, ◌<◌, Bool, true, false, not, if◌then◌else◌, List, [], ◌∷◌, ◌++◌, length, refl, sym, ap, subst, ◌∙◌, arith}
use Rattle.std.specs.Prelude.{◌&&◌, ◌-◌}
use Rattle.std.proofs.lemmas.Bool.{true≢false, false≢true, eqb-true}
use Rattle.ixl_spec.specs.sci_telegram.declared.message.Message.TheVariants as message
use Rattle.ixl_spec.specs.sci_telegram.declared.message.Initialisation.TheVariants.{InitialisationRequest, VersionCheck}
use Rattle.ixl_spec.specs.rasta_core.Calls.{receiving}
use Rattle.ixl_spec.specs.rasta_core.State.{LinkState, is_open, is_up}
use Rattle.ixl_spec.specs.rasta_core.reason.Reason.{Reason}
use Rattle.ixl_spec.specs.ixl_client.Client.{ClientState, PeerState, is_outside, is_ready}
use Rattle.ixl_spec.specs.ixl_client.Meaning.{is_in_turn, reports_changes}
use Rattle.ixl_spec.specs.ixl_client.ClientSoFar.{Closes, Receives, ClientSoFar, calling}
use Rattle.ixl_spec.specs.ixl_client.Step.{acted_on, acting, acting_all, at_stage, ending, fallen, hearing, rising, saying, stage_after_report}
use Rattle.ixl_spec.specs.ixl_client.declared.command.Command.{Command}
use Rattle.ixl_spec.specs.ixl_client.declared.indication.Indication.{Indication}
use Rattle.ixl_spec.specs.ixl_client.declared.stage.Stage.{Stage}
use Rattle.ixl_spec.specs.ixl_client.declared.stage.Stage.TheVariants as stage
use Rattle.ixl_spec.specs.Step.{Input, Datagram}
use Rattle.simulator_move_laws.specs.Calls.{Items}
use Rattle.simulator_move_laws.specs.Telegrams.{AreHeard, commanded, given_by, item_of, opening_item}
use Rattle.simulator_move_laws.specs.Nodes.{IsOfPoint}
use Rattle.simulator_move_laws.proofs.Interlocking.Tests.{by_test, both_true}
use Rattle.simulator_move_laws.proofs.Interlocking.Phases.{shut_is_down, up_is_open}
use Rattle.simulator_move_laws.proofs.Interlocking.Courses.{acts}
use Rattle.simulator_move_laws.proofs.Interlocking.Clients.{Standing, Stands, closes_shut, posts, receipt_gives, stands_closed, stands_on}

pub is_outside_at : (s : Stage) → is_outside s ≡ true → s ≡ stage.Outside
is_outside_at stage.Outside is = refl
is_outside_at stage.AwaitsAnswer is = absurd (false≢true is)
is_outside_at stage.AwaitsStart is = absurd (false≢true is)
is_outside_at (stage.AwaitsStatus left) is = absurd (false≢true is)
is_outside_at stage.Completed is = absurd (false≢true is)
is_outside_at stage.AwaitsReport is = absurd (false≢true is)

-- a client that is up isn't outside
abbrev pub Risen : ClientSoFar → Type 0
Risen part = is_up part.client.link.phase ≡ true → is_outside part.client.stage ≡ false

module _ (now : ℕ) (input : Input) (start : LinkState) (items : Items) (peer : PeerState) (commands : List Command) (of_point : Bool) (heard_before : ℕ) where
  abbrev Rests : ClientSoFar → Type 0
  Rests part = Standing now input start items peer commands of_point heard_before part

  -- a client whose link isn't up is outside
  pub ends : (part : ClientSoFar) → Rests part → Risen part → Rests (ending part) × (is_outside (ending part).client.stage ≡ not (is_up (ending part).client.link.phase))
  unfolding fallen
  ends part stands up = by_test (λ (client : ClientState). Stands now input start items peer commands of_point heard_before part.calls client.link client.peer client.stage (length part.heard)
      × (is_outside client.stage ≡ not (is_up client.link.phase))) (is_up part.client.link.phase) part.client (record part.client { stage = stage.Outside }) still fell
    where
      still : is_up part.client.link.phase ≡ true → Rests part × (is_outside part.client.stage ≡ not (is_up part.client.link.phase))
      still is = (stands, up is ∙ sym (ap not is))

      was_outside : is_up part.client.link.phase ≡ false → is_open part.client.link.phase ≡ true → part.client.stage ≡ stage.Outside
      was_outside down opened = cases (is_outside part.client.stage) refl where
        cases : (b : Bool) → is_outside part.client.stage ≡ b → part.client.stage ≡ stage.Outside
        cases true is = is_outside_at part.client.stage is
        cases false is = absurd (true≢false (sym (stands.inside is opened) ∙ down))

      fell : is_up part.client.link.phase ≡ false → Stands now input start items peer commands of_point heard_before part.calls part.client.link part.client.peer stage.Outside (length part.heard)
          × (is_outside stage.Outside ≡ not (is_up part.client.link.phase))
      fell down = (
        record {
          runs = stands.runs;
          given = λ is. stands.given is ∙ ap (λ s. given_by peer s commands) (was_outside down is);
          early = λ is ready. stands.early is (ap is_ready (was_outside down is));
          inside = λ stage is. absurd (true≢false stage);
          heard = λ of is. subst (λ s. AreHeard s (heard_before + length part.heard) (length commands)) (was_outside down is) (stands.heard of is);
        },
        sym (ap not down),
      )

module _ (now : ℕ) (input : Input) (start : LinkState) (items : Items) (peer : PeerState) (commands : List Command) (of_point : Bool) (heard_before : ℕ)
    (point : of_point ≡ true → IsOfPoint peer) where
  abbrev In : ClientSoFar → Type 0
  In part = Standing now input start items peer commands of_point heard_before part

  -- ---- a connection that came up

  rises : (part : ClientSoFar) → In part → In (rising now part)
  unfolding rising
  rises part stands =
      by_test In (is_outside part.client.stage && is_up part.client.link.phase) (at_stage stage.AwaitsAnswer (saying now (VersionCheck part.client.peer.version) part)) part said (λ e. stands)
    where
      said : is_outside part.client.stage && is_up part.client.link.phase ≡ true → In (at_stage stage.AwaitsAnswer (saying now (VersionCheck part.client.peer.version) part))
      said e =
          let both = both_true (is_outside part.client.stage) (is_up part.client.link.phase) e
          in let up = both.1
          in let outside = is_outside_at part.client.stage both.0
          in let opened = up_is_open part.client.link.phase up
          in let posted = posts now input start items peer commands of_point heard_before (message.Initialisation part.client.peer.protocol (VersionCheck part.client.peer.version)) part stands.runs up
          in record {
            runs = posted.runs;
            given = λ is. posted.given is
                ∙ ap (λ before. before ++ item_of peer (message.Initialisation part.client.peer.protocol (VersionCheck part.client.peer.version)) ∷ []) (stands.given opened ∙ ap (λ s. given_by peer s commands) outside)
                ∙ ap (λ (p : PeerState). item_of peer (message.Initialisation p.protocol (VersionCheck p.version)) ∷ []) stands.runs.same;
            early = λ is ready. stands.early opened (ap is_ready outside);
            inside = λ stage is. posted.up is;
            heard = λ of is. ap (λ (list : List Indication). heard_before + length list) posted.heard ∙ subst (λ s. AreHeard s (heard_before + length part.heard) (length commands)) outside (stands.heard of opened);
          }

  risen : (part : ClientSoFar) → Risen (rising now part)
  unfolding rising
  risen part = by_test Risen (is_outside part.client.stage && is_up part.client.link.phase) (at_stage stage.AwaitsAnswer (saying now (VersionCheck part.client.peer.version) part)) part
      (λ e. λ up. refl) (λ e. λ up. inside (is_outside part.client.stage) refl (is_up part.client.link.phase) up e)
    where
      inside : (a : Bool) → is_outside part.client.stage ≡ a → (b : Bool) → b ≡ true → a && b ≡ false → is_outside part.client.stage ≡ false
      inside true is b holds fails = absurd (true≢false (sym holds ∙ fails))
      inside false is b holds fails = is

  -- ---- one item

  count_one : (n more : ℕ) → n + (more + 1) ≡ (n + more) + 1
  count_one n more = omega arith

  one_on : (n : ℕ) → suc (n + 1) ≡ suc n + 1
  one_on n = omega arith

  heard_more : (told : Indication) (part : ClientSoFar) → heard_before + length (part.heard ++ told ∷ []) ≡ (heard_before + length part.heard) + 1
  heard_more told part = ap (λ n. heard_before + n) (length_more part.heard) ∙ count_one heard_before (length part.heard) where
    length_more : (list : List Indication) → length (list ++ told ∷ []) ≡ length list + 1
    length_more [] = refl
    length_more (first ∷ others) = ap suc (length_more others) ∙ one_on (length others)

  -- a point's report comes in its turn: the status, or the answer of a move
  reported : (told : Indication) (s : Stage) (n : ℕ) → told.place < length peer.objects → is_in_turn peer told.place told.state s ≡ true → IsOfPoint peer →
      AreHeard s n (length commands) → AreHeard (stage_after_report s) (n + 1) (length commands)
  reported told stage.Outside n within turn is heard = absurd (false≢true turn)
  reported told stage.AwaitsAnswer n within turn is heard = absurd (false≢true turn)
  reported told stage.AwaitsStart n within turn is heard = absurd (false≢true turn)
  reported told (stage.AwaitsStatus left) n within turn is heard =
      let place = eqb-true told.place (length peer.objects - left) (both_true _ _ turn).0
      in one_left (subst (λ k. told.place < k) is.one within) (place ∙ ap (λ k. k - left) is.one) heard
    where
      one_left : told.place < 1 → told.place ≡ 1 - left → n + left ≡ 1 → (n + 1) + (left - 1) ≡ 1
      one_left within place heard = omega (arith, within, place, heard)
  reported told stage.Completed n within turn is heard = absurd (false≢true (sym (ap reports_changes is.protocol) ∙ turn))
  reported told stage.AwaitsReport n within turn is heard = ap (λ k. k + 1) heard

  given_reported : (told : Indication) (s : Stage) → is_in_turn peer told.place told.state s ≡ true → given_by peer s commands ≡ given_by peer (stage_after_report s) commands
  given_reported told stage.Outside turn = absurd (false≢true turn)
  given_reported told stage.AwaitsAnswer turn = absurd (false≢true turn)
  given_reported told stage.AwaitsStart turn = absurd (false≢true turn)
  given_reported told (stage.AwaitsStatus left) turn = refl
  given_reported told stage.Completed turn = refl
  given_reported told stage.AwaitsReport turn = refl

  early_reported : (told : Indication) (s : Stage) → is_in_turn peer told.place told.state s ≡ true → is_ready (stage_after_report s) ≡ false → is_ready s ≡ false
  early_reported told stage.Outside turn ready = absurd (false≢true turn)
  early_reported told stage.AwaitsAnswer turn ready = absurd (false≢true turn)
  early_reported told stage.AwaitsStart turn ready = absurd (false≢true turn)
  early_reported told (stage.AwaitsStatus left) turn ready = refl
  early_reported told stage.Completed turn ready = absurd (true≢false ready)
  early_reported told stage.AwaitsReport turn ready = absurd (true≢false ready)

  inside_reported : (told : Indication) (s : Stage) → is_in_turn peer told.place told.state s ≡ true → is_outside s ≡ false
  inside_reported told stage.Outside turn = absurd (false≢true turn)
  inside_reported told stage.AwaitsAnswer turn = absurd (false≢true turn)
  inside_reported told stage.AwaitsStart turn = absurd (false≢true turn)
  inside_reported told (stage.AwaitsStatus left) turn = refl
  inside_reported told stage.Completed turn = refl
  inside_reported told stage.AwaitsReport turn = refl

  after_reported : (s : Stage) → is_outside (stage_after_report s) ≡ false
  after_reported stage.Outside = refl
  after_reported stage.AwaitsAnswer = refl
  after_reported stage.AwaitsStart = refl
  after_reported (stage.AwaitsStatus left) = refl
  after_reported stage.Completed = refl
  after_reported stage.AwaitsReport = refl

  abbrev Acted : ClientSoFar → Type 0
  Acted part = In part × Risen part

  acts_one : (item : List ℕ) (part : ClientSoFar) → In part → is_open part.client.link.phase ≡ true → Acted (acting now item part)
  acts_one item part stands opened =
      acts now item part Acted peer part.client.stage agrees starts indicates completes closes (sym stands.runs.same) refl
    where
      begun : ClientSoFar
      begun = acted_on item part

      agrees : part.client.stage ≡ stage.AwaitsAnswer → Acted (at_stage stage.AwaitsStart (saying now InitialisationRequest begun))
      agrees at =
          let up = stands.inside (ap is_outside at) opened
          in let posted = posts now input start items peer commands of_point heard_before (message.Initialisation part.client.peer.protocol InitialisationRequest) begun stands.runs up
          in (
            record {
              runs = posted.runs;
              given = λ is. posted.given is
                  ∙ ap (λ before. before ++ item_of peer (message.Initialisation part.client.peer.protocol InitialisationRequest) ∷ []) (stands.given opened ∙ ap (λ s. given_by peer s commands) at)
                  ∙ ap (λ (p : PeerState). opening_item peer (VersionCheck peer.version) ∷ item_of peer (message.Initialisation p.protocol InitialisationRequest) ∷ []) stands.runs.same;
              early = λ is ready. stands.early opened (ap is_ready at);
              inside = λ stage is. posted.up is;
              heard = λ of is. ap (λ (list : List Indication). heard_before + length list) posted.heard ∙ subst (λ s. AreHeard s (heard_before + length part.heard) (length commands)) at (stands.heard of opened);
            },
            λ up. refl,
          )

      starts : part.client.stage ≡ stage.AwaitsStart → Acted (at_stage (stage.AwaitsStatus (length part.client.peer.objects)) begun)
      starts at = (
        record {
          runs = stands.runs;
          given = λ is. stands.given is ∙ ap (λ s. given_by peer s commands) at;
          early = λ is ready. stands.early is (ap is_ready at);
          inside = λ stage is. stands.inside (ap is_outside at) is;
          heard = λ of is. one of (subst (λ s. AreHeard s (heard_before + length part.heard) (length commands)) at (stands.heard of is));
        },
        λ up. refl,
      ) where
        one : of_point ≡ true → heard_before + length part.heard ≡ 0 → (heard_before + length part.heard) + length part.client.peer.objects ≡ 1
        one of none = omega (arith, none, ap (λ (p : PeerState). length p.objects) stands.runs.same ∙ (point of).one)

      indicates : (told : Indication) → told.place < length peer.objects → is_in_turn peer told.place told.state part.client.stage ≡ true →
          Acted (at_stage (stage_after_report part.client.stage) (record begun { heard = part.heard ++ told ∷ [] }))
      indicates told within turn = (
        record {
          runs = stands.runs;
          given = λ is. stands.given is ∙ given_reported told part.client.stage turn;
          early = λ is ready. stands.early is (early_reported told part.client.stage turn ready);
          inside = λ stage is. stands.inside (inside_reported told part.client.stage turn) is;
          heard = λ of is. subst (λ n. AreHeard (stage_after_report part.client.stage) n (length commands)) (sym (heard_more told part))
              (reported told part.client.stage (heard_before + length part.heard) within turn (point of) (stands.heard of is));
        },
        λ up. after_reported part.client.stage,
      )

      completes : part.client.stage ≡ stage.AwaitsStatus 0 → Acted (at_stage stage.Completed begun)
      completes at =
          let none = stands.early opened (ap is_ready at)
          in (
            record {
              runs = stands.runs;
              given = λ is. stands.given is ∙ ap (λ s. given_by peer s commands) at
                  ∙ ap (λ given. opening_item peer (VersionCheck peer.version) ∷ opening_item peer InitialisationRequest ∷ commanded peer given) (sym none);
              early = λ is ready. absurd (true≢false ready);
              inside = λ stage is. stands.inside (ap is_outside at) is;
              heard = λ of is. answered none (subst (λ s. AreHeard s (heard_before + length part.heard) (length commands)) at (stands.heard of is));
            },
            λ up. refl,
          )
        where
          answered : commands ≡ [] → (heard_before + length part.heard) + 0 ≡ 1 → heard_before + length part.heard ≡ length commands + 1
          answered none one = omega (arith, one, ap length none)

      closes : (why : Reason) → Acted (calling now (Closes why) part)
      closes why = (
        stands_closed now input start items peer commands of_point heard_before why part stands.runs,
        λ up. absurd (true≢false (sym up ∙ shut_is_down _ (closes_shut now input start items peer commands of_point heard_before why part))),
      )

  -- ---- all items, and the step

  acts_all : (list : List (List ℕ)) (part : ClientSoFar) → In part → Risen part → Acted (acting_all now list part)
  unfolding acting_all
  acts_all [] part stands up = (stands, up)
  acts_all (item ∷ others) part stands up = cases (is_open part.client.link.phase) refl (λ opened. let one = acts_one item part stands opened in acts_all others (acting now item part) one.0 one.1) where
    cases : (b : Bool) → is_open part.client.link.phase ≡ b → (is_open part.client.link.phase ≡ true → Acted (acting_all now others (acting now item part))) →
        Acted (if b then acting_all now others (acting now item part) else part)
    cases true is on = on is
    cases false is on = (stands, up)

  pub hears : (bytes : List ℕ) (part : ClientSoFar) → input ≡ Datagram bytes → In part → In (hearing now bytes part) × (is_outside (hearing now bytes part).client.stage ≡ not (is_up (hearing now bytes part).client.link.phase))
  unfolding hearing
  hears bytes part is stands =
      let received : ClientSoFar = calling now (Receives bytes) part
      in let begun = stands_on now input start items peer commands of_point heard_before (Receives bytes) part is
      (receipt_gives now input start items peer commands of_point heard_before bytes) stands
      in let acted = acts_all (receiving now bytes part.client.link).items (rising now received) (rises received begun) (risen received)
      in ends now input start items peer commands of_point heard_before (acting_all now (receiving now bytes part.client.link).items (rising now received)) acted.0 acted.1
