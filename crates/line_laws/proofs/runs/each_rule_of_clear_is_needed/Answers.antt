use Rattle.std.proofs.Common.{refl, false}
use Rattle.line_laws.specs.declared.words.Side.TheVariants.{First, Second}
use Rattle.line_laws.specs.Run.{begins}
use Rattle.line_laws.specs.Wrong.{answers_busy, queried_busy, unspoiled_by_contacts, passed_between, unspoiled_by_give, given_between, keeps_empty_busy, known_busy, keeps_empty_given, known_given, takes_empty_with_give, known_by_give, keeps_empty_restarted, known_restarted}
use Rattle.line_laws.proofs.Known.{unknown}
use Rattle.line_laws.proofs.runs.each_rule_of_clear_is_needed.Goals as goal

pub returns-clause-busy : goal.returns-clause-busy
returns-clause-busy c = (record { empty = refl; free = refl }, unknown answers_busy First (begins false false) queried_busy refl)

pub returns-clause-contacts : goal.returns-clause-contacts
returns-clause-contacts c = (record { empty = refl; free = refl }, unknown unspoiled_by_contacts First (begins false false) passed_between refl)

pub returns-clause-give : goal.returns-clause-give
returns-clause-give c = (record { empty = refl; free = refl }, unknown unspoiled_by_give First (begins false false) given_between refl)

pub returns-clause-kept_busy : goal.returns-clause-kept_busy
returns-clause-kept_busy c = (record { empty = refl; free = refl }, unknown keeps_empty_busy First (begins false false) known_busy refl)

pub returns-clause-kept_given : goal.returns-clause-kept_given
returns-clause-kept_given c = (record { empty = refl; free = refl }, unknown keeps_empty_given First (begins false false) known_given refl)

pub returns-clause-taken : goal.returns-clause-taken
returns-clause-taken c = (record { empty = refl; free = refl }, unknown takes_empty_with_give Second (begins false false) known_by_give refl)

pub returns-clause-restarted : goal.returns-clause-restarted
returns-clause-restarted c = (record { empty = refl; free = refl }, unknown keeps_empty_restarted First (begins false false) known_restarted refl)
