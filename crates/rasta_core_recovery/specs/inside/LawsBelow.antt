-- What this crate borrows of the crates below it: their laws, by what they speak of.
use Rattle.rasta_core_recovery.specs.inside.LawsOfPdus.{LawsOfPdus}
use Rattle.rasta_core_recovery.specs.inside.LawsOfEvents.{LawsOfEvents}
use Rattle.rasta_core_recovery.specs.inside.LawsOfConnections.{LawsOfConnections}
use Rattle.rasta_core_recovery.specs.inside.LawsOfEntering.{LawsOfEntering}

pub record LawsBelow : Type 0 where
  pub of_pdus : LawsOfPdus
  pub open of_pdus use *
  pub of_events : LawsOfEvents
  pub open of_events use *
  pub of_connections : LawsOfConnections
  pub open of_connections use *
  pub of_entering : LawsOfEntering
  pub open of_entering use *
