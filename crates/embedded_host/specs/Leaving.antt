-- What leaves and what is heard by the calls of a loop, in the words of a station of processes.
use Rattle.std.specs.Prelude.{◌≡◌, ◌≤◌, ◌<◌, ◌+◌, ℕ, List, [], ◌∷◌, ◌++◌, Ok}
use Rattle.rasta_core.specs.Outbox.{spellings}
use Rattle.object_host.specs.Behaviour.{Behaviour}
use Rattle.object_host.specs.Host.{HostState}
use Rattle.object_host.specs.Step.{host_step}
use Rattle.object_host.specs.declared.input.Input.{Input}
use Rattle.embedded_host.specs.Embedded.{EmbeddedState}
use Rattle.embedded_host.specs.Calls.{Call, Done, FindsEmpty, after_call, after_calls, answer_to, input_by}
use Rattle.embedded_host.specs.Inputs.{host_after, inputs_by}

-- one of these
pub record IsIn {A : Type 0} (one : A) (all : List A) : Type 0 where
  pub before : List A
  pub after : List A
  pub all_are : all ≡ before ++ one ∷ after

module _ {Object : Type 0} (does : Behaviour Object) (it : EmbeddedState Object) where
  -- A datagram that leaves at this reading, after these calls, is one that the last step handed out, less than 500 ms before, and
  -- after that step its order was put in force.
  pub record LeavesRightly (calls : List Call) (now : ℕ) (datagram : List ℕ) : Type 0 where
    pub earlier : List Call
    pub step : Call
    pub later : List Call
    pub calls_are : calls ≡ earlier ++ step ∷ later
    -- it was accepted, and it brought this input at this reading
    pub accepted : answer_to step (after_calls does earlier it) ≡ Ok tt
    pub since : ℕ
    pub input : Input
    pub brought : input_by step ≡ (since, input) ∷ []
    -- it is the last one
    pub last : inputs_by does later (after_call does step (after_calls does earlier it)) ≡ []
    pub in_force : IsIn Done later
    pub handed : IsIn datagram (spellings (after_calls does earlier it).hosted.host.link.identity.key (host_step does since input (after_calls does earlier it).hosted.host).pdus)
    pub fresh : now < since + 500

  -- What comes at this reading, after these calls, has waited for at most 400 ms: so much before at most a reading was taken, and
  -- after it a receive found nothing.
  pub record WaitedBriefly (calls : List Call) (now : ℕ) : Type 0 where
    pub earlier : List Call
    pub before : ℕ
    pub later : List Call
    pub calls_are : calls ≡ earlier ++ FindsEmpty before ∷ later
    pub accepted : answer_to (FindsEmpty before) (after_calls does earlier it) ≡ Ok tt
    pub not_after : before ≤ now
    pub brief : now ≤ before + 400

-- A datagram that leaves at this reading is one that a controller handed out as one of these inputs came to it, less than 500 ms
-- before.
pub record IsHandedOutBy {Object : Type 0} (does : Behaviour Object) (inputs : List (ℕ × Input)) (host : HostState Object) (now : ℕ) (datagram : List ℕ) : Type 0 where
  pub earlier : List (ℕ × Input)
  pub since : ℕ
  pub input : Input
  pub later : List (ℕ × Input)
  pub inputs_are : inputs ≡ earlier ++ (since, input) ∷ later
  pub handed : IsIn datagram (spellings (host_after does earlier host).link.identity.key (host_step does since input (host_after does earlier host)).pdus)
  pub fresh : now < since + 500
