-- A detector keeps the law of field objects.
use Rattle.std.specs.Prelude.{◌≡◌, List, [], ◌∷◌, None, refl}
use Rattle.std.proofs.Common.{zero-le}
use Rattle.object_host.specs.Lawful.{IsLawful}
use Rattle.tds_ctl.specs.declared.section.Section.{Section}
use Rattle.tds_ctl.specs.Sections.{owing, losing}
use Rattle.tds_ctl.specs.Controlled.{detection_behaviour}

owes_nothing : (sections : List Section) → owing (losing sections) ≡ None
owes_nothing [] = refl
owes_nothing (section ∷ rest) = owes_nothing rest

pub detection_is_lawful : IsLawful detection_behaviour
detection_is_lawful = record {
  dies = λ now sections past. refl;
  idle_is_restrictive = λ now sections idle. refl;
  loss_idles = λ sections. refl;
  loss_forgets = owes_nothing;
  tick_idles = λ now sections idle. refl;
  sense_idles = λ now sense sections idle. refl;
  keep_idles = λ moment sections idle. refl;
  paid_idles = λ sections idle. refl;
  keeps = λ moment sections. zero-le;
  take_keeps = λ now telegram sections. refl;
  tick_keeps = λ now sections. refl;
  sense_keeps = λ now sense sections. refl;
  paid_keeps = λ sections. refl;
  loss_keeps = λ sections. refl;
}
