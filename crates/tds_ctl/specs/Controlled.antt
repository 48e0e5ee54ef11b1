-- A detector as the object of a host.
use Rattle.std.specs.Prelude.{true, false, List}
use Rattle.sci_telegram.specs.declared.message.Protocol.TheVariants as protocols
use Rattle.object_host.specs.Behaviour.{Behaviour}
use Rattle.tds_ctl.specs.declared.section.Section.{Section}
use Rattle.tds_ctl.specs.Sections.{sensing, owing, paying, status_at, losing}

-- it takes no telegram, and has no output that could be other than restrictive
abbrev pub detection_behaviour : Behaviour (List Section)
detection_behaviour = record {
  protocol = protocols.TrainDetection;
  accepts = λ now telegram sections. false;
  after_take = λ now telegram sections. sections;
  after_tick = λ now sections. sections;
  after_sense = λ now sense sections. sensing sense sections;
  after_keep = λ moment sections. sections;
  until = λ sections. 0;
  owed = owing;
  after_paid = paying;
  status = status_at;
  after_loss = losing;
  is_restrictive = λ now sections. true;
  is_idle = λ sections. true;
}
