use Rattle.simulator_recovery.proofs.Lemmas.Sections.RoomSince.{room_then}
use Rattle.simulator_recovery.proofs.sections.detectors_windows_have_room.Goals as goal

pub returns : goal.returns
returns c = λ between later flowing section reporter flow work elsewhere can reported long below. room_then c.laws_below.ensures between later flowing section reporter flow.once flow.station flow.table flow.reached work elsewhere can reported long below
