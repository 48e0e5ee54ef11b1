-- Each call at an end keeps the invariant.
use Rattle.std.proofs.Common.{◌≡◌, ℕ, Bool, true, false, List, Option, Some, None, sym, ap, subst, arith}
use Rattle.rasta_core_spec.specs.identity.Identity.{Identity}
use Rattle.rasta_core_spec.specs.identity.Role.{Role}
use Rattle.rasta_core_spec.specs.identity.Role.TheVariants as role
use Rattle.rasta_core_spec.specs.Ends.{EndState, Outcome, reading_of}
use Rattle.rasta_core_spec.specs.Run.{Ends, end_of}
use Rattle.rasta_core_spec.specs.pdu.Pdu.{Pdu}
use Rattle.rasta_core.specs.TimedEnds.{Past, Times, IsInside, own_stamp, standing, timed, times_of}
use Rattle.rasta_core.specs.Timely.{IsTimed}
use Rattle.rasta_core_spec.specs.Names.{Names, AreNames}
use Rattle.rasta_core.specs.Invariant.{IsEnd, Timely}
use Rattle.rasta_core.proofs.Sounds.{standing_open}
use Rattle.rasta_core.proofs.States.{IsReady}
use Rattle.rasta_core.proofs.Deeds.{Heard, Own, Word, IsFor, Deed, rests, speaks, asks, grants, joins, takes, Does}
use Rattle.rasta_core.proofs.Conversation.{WrittenIsRead}
use Rattle.rasta_core.proofs.BothEndsAfter.{made_at, Follows}
use Rattle.rasta_core.proofs.DeedsKept.{Delivered, client_rests, client_speaks, client_takes, server_rests, server_speaks, server_takes, not_client, not_server}
use Rattle.rasta_core.proofs.Openings.{client_joins, client_asks, server_grants}

-- which connection a call enters, and what it heard of it
pub record Enters (names : Names) (identity : Identity) (times : Times) (heard : Heard) (enters : Bool) (made : Option ℕ) : Type 0 where
  pub none : enters ≡ false → made ≡ None
  pub own : heard ≡ Own → enters ≡ true → made ≡ Some times.moment
  pub number : ℕ
  pub word : (pdu : Pdu) → heard ≡ Word pdu → IsFor identity pdu → Delivered names times number pdu
  pub of_word : (pdu : Pdu) → heard ≡ Word pdu → enters ≡ true → made ≡ Some number

pub client_kept : WrittenIsRead → (names : Names) (ends : Ends) (made : Outcome) (heard : Heard) (enters : Bool) (items : List (List ℕ)) → AreNames names → (is : Timely names ends)
    → Does ends.client.link heard enters items made.link made.pdus → Enters names ends.client.link.identity (times_of ends is.of_client is.of_server is.newest) heard enters made.enters
    → Follows names ends is (made_at role.Client made ends)
client_kept law names ends made heard enters items are is does entry = choose does.deed
  where
    choose : Deed ends.client.link.identity ends.client.link.clock heard (standing ends.client.link) (standing made.link) enters items made.pdus → Follows names ends is (made_at role.Client made ends)
    choose (rests same nothing shut none) = client_rests names ends made is does.kept same nothing (entry.none shut)
    choose (speaks inside acts shut none) = client_speaks law names ends made is does.kept inside acts (entry.none shut)
    choose (asks pdu own client is_down stands one asked opened none) = client_asks law names ends made pdu is does.kept is_down stands one asked (entry.own own opened)
    choose (grants pdu word server is_for is_down request acts opened none) = absurd (not_client names ends.client.link.identity is.client.identity server)
    choose (joins pdu word client is_for inside acts shut none) = client_joins law names ends made entry.number pdu are is does.kept inside (entry.word pdu word is_for) is_for acts (entry.none shut)
    choose (takes pdu word is_for inside fresh plain acts shut) = client_takes law names ends made entry.number pdu are is does.kept inside (entry.word pdu word is_for) is_for fresh plain acts (entry.none shut)

pub server_kept : WrittenIsRead → (names : Names) (ends : Ends) (made : Outcome) (heard : Heard) (enters : Bool) (items : List (List ℕ)) → AreNames names → (is : Timely names ends)
    → Does ends.server.link heard enters items made.link made.pdus → Enters names ends.server.link.identity (times_of ends is.of_client is.of_server is.newest) heard enters made.enters
    → Follows names ends is (made_at role.Server made ends)
server_kept law names ends made heard enters items are is does entry = choose does.deed
  where
    choose : Deed ends.server.link.identity ends.server.link.clock heard (standing ends.server.link) (standing made.link) enters items made.pdus → Follows names ends is (made_at role.Server made ends)
    choose (rests same nothing shut none) = server_rests names ends made is does.kept same nothing (entry.none shut)
    choose (speaks inside acts shut none) = server_speaks law names ends made is does.kept inside acts (entry.none shut)
    choose (asks pdu own client is_down stands one asked opened none) = absurd (not_server names ends.server.link.identity is.server.identity client)
    choose (grants pdu word server is_for is_down request acts opened none) = server_grants law names ends made entry.number pdu are is does.kept is_down (entry.word pdu word is_for) is_for request acts (entry.of_word pdu word opened)
    choose (joins pdu word client is_for inside acts shut none) = absurd (not_server names ends.server.link.identity is.server.identity client)
    choose (takes pdu word is_for inside fresh plain acts shut) = server_takes law names ends made entry.number pdu are is does.kept inside (entry.word pdu word is_for) is_for fresh plain acts (entry.none shut)

-- a timely end is ready for a call
pub ready : (names : Names) (who : Role) (end : EndState) (past : Past) (time moment newest : ℕ) → IsEnd names who end → IsTimed time moment newest (timed end past) → IsReady end.link
ready names who end past time moment newest is timed_so = record {
  sound = is.sound;
  young = λ o. omega (arith, is.clock, timed_so.young (subst IsInside (sym (standing_open end.link o)) tt), ap own_stamp (standing_open end.link o));
}

pub ends_ready : (names : Names) (ends : Ends) (who : Role) → Timely names ends → IsReady (end_of who ends).link
ends_ready names ends role.Client is = ready names role.Client ends.client is.of_client _ _ _ is.client is.ends_timed.client
ends_ready names ends role.Server is = ready names role.Server ends.server is.of_server _ _ _ is.server is.ends_timed.server

pub ends_clock : (names : Names) (ends : Ends) (who : Role) → Timely names ends → (end_of who ends).link.clock ≡ reading_of (end_of who ends).clock
ends_clock names ends role.Client is = is.client.clock
ends_clock names ends role.Server is = is.server.clock

pub made_kept : WrittenIsRead → (names : Names) (ends : Ends) (who : Role) (made : Outcome) (heard : Heard) (enters : Bool) (items : List (List ℕ)) → AreNames names → (is : Timely names ends)
    → Does (end_of who ends).link heard enters items made.link made.pdus → Enters names (end_of who ends).link.identity (times_of ends is.of_client is.of_server is.newest) heard enters made.enters
    → Follows names ends is (made_at who made ends)
made_kept law names ends role.Client made heard enters items are is does entry = client_kept law names ends made heard enters items are is does entry
made_kept law names ends role.Server made heard enters items are is does entry = server_kept law names ends made heard enters items are is does entry
