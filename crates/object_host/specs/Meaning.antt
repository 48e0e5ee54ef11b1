-- The order of a connection: version check and answer, initialisation request, the states of all objects, and then
-- commands. The protocol is this project's own, in the manner of EULYNX.
use Rattle.sci_telegram.specs.declared.message.Initialisation.TheVariants.{InitialisationRequest, VersionCheck}
use Rattle.sci_telegram.specs.declared.message.Message.{Message}
use Rattle.sci_telegram.specs.declared.message.Message.TheVariants.{Initialisation, Point, Signal, Detection}
use Rattle.object_host.specs.declared.meaning.Meaning.{Meaning}
use Rattle.object_host.specs.declared.meaning.Meaning.TheVariants as meanings
use Rattle.object_host.specs.declared.stage.Stage.{Stage}
use Rattle.object_host.specs.declared.stage.Stage.TheVariants as stages

-- commands are taken once the initialisation was completed
abbrev pub commanding : Stage → Meaning
commanding stages.Completed = meanings.Commands
commanding _ = meanings.Violates

-- what a telegram is at each stage: anything out of the order violates it
abbrev pub meaning : Message → Stage → Meaning
meaning (Initialisation protocol (VersionCheck version)) stages.AwaitsCheck = meanings.Checks version
meaning (Initialisation protocol InitialisationRequest) stages.AwaitsRequest = meanings.Initialises
meaning (Initialisation protocol _) _ = meanings.Violates
meaning (Point message) stage = commanding stage
meaning (Signal message) stage = commanding stage
meaning (Detection message) stage = commanding stage
