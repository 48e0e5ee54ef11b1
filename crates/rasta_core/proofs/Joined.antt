-- In which connection an end is.
use Rattle.std.proofs.Common.{◌≡◌, ◌<◌, ℕ, Some, sym, ◌∙◌}
use Rattle.rasta_core_spec.specs.identity.Role.{Role}
use Rattle.rasta_core_spec.specs.identity.Role.TheVariants as role
use Rattle.rasta_core_spec.specs.Names.{Names}
use Rattle.rasta_core_spec.specs.Run.{Ends, end_of}
use Rattle.rasta_core_spec.specs.Sentences.{IsIn}
use Rattle.rasta_core.specs.Invariant.{Timely}
use Rattle.rasta_core.proofs.Sounds.{inside_open}

pub some_connection : (names : Names) (ends : Ends) (who : Role) → Timely names ends → IsIn who ends → (connection : ℕ) × ((end_of who ends).connection ≡ Some connection)
some_connection names ends role.Client is inside = (is.newest, is.ends_timed.client.in_newest (inside_open ends.client.link inside))
some_connection names ends role.Server is inside = (is.newest, is.ends_timed.server.in_newest (inside_open ends.server.link inside))

pub server_connection : (names : Names) (ends : Ends) → Timely names ends → IsIn role.Server ends → ends.server.connection ≡ ends.client.connection
server_connection names ends is inside =
    is.ends_timed.server.in_newest (inside_open ends.server.link inside) ∙ sym (is.ends_timed.begun (inside_open ends.server.link inside))

pub counted_connection : (names : Names) (ends : Ends) (who : Role) (connection : ℕ) → Timely names ends → (end_of who ends).connection ≡ Some connection → connection < ends.moment
counted_connection names ends role.Client connection is entered = is.ends_timed.client.began connection entered
counted_connection names ends role.Server connection is entered = is.ends_timed.server.began connection entered
