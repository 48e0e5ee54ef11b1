-- the laws that the body calls are those that a signal's steps stand on
use Rattle.object_host_laws.proofs.Signals.{begun_told, event_told, shows}
use Rattle.object_host_laws.proofs.controllers.signal_shows_what_was_told.Goals as goal

pub returns-clause-starts : goal.returns-clause-starts
returns-clause-starts c =
    begun_told c.step_is_told_to_the_object.ensures c.steps_keep_a_host.ensures.hosted c.steps_keep_a_host.ensures.steady
    c.step_takes_and_gives.ensures.link c.step_takes_and_gives.ensures.outside
    c.shows_the_last_aspect_taken.ensures.indicated c.shows_the_last_aspect_taken.ensures.until
    c.steps_keep_a_host.ensures.clocked c.steps_keep_a_host.ensures.new

pub returns-clause-kept : goal.returns-clause-kept
returns-clause-kept c =
    event_told c.step_is_told_to_the_object.ensures c.steps_keep_a_host.ensures.hosted c.steps_keep_a_host.ensures.steady
    c.step_takes_and_gives.ensures.link c.step_takes_and_gives.ensures.outside
    c.shows_the_last_aspect_taken.ensures.indicated c.shows_the_last_aspect_taken.ensures.until
    c.steps_keep_a_host.ensures.clocked c.steps_keep_a_host.ensures.new

pub returns-clause-shown : goal.returns-clause-shown
returns-clause-shown c = shows
