-- An end of the link is made anew, and time goes on.
use Rattle.std.proofs.Common.{◌≡◌, ◌∙◌, ◌+◌, ◌*◌, ℕ, true, false, ap, refl, subst, sym}
use Rattle.line_host.specs.Host.{role_of}
use Rattle.line_laws.specs.declared.words.Side.{Side}
use Rattle.line_laws.specs.declared.words.Side.TheVariants.{First, Second}
use Rattle.line_world.specs.Names.{link_names, other}
use Rattle.line_world.specs.declared.names.LineNames.{LineNames}
use Rattle.line_world.specs.inside.Laws.{Laws}
use Rattle.rasta_core.specs.Ends.{EndState, Sent, reading_of}
use Rattle.rasta_core.specs.Events.{IsAmong, IsWithinDrift, Passes, Restarts}
use Rattle.rasta_core.specs.Names.{AreNames}
use Rattle.rasta_core.specs.Run.{Ends}
use Rattle.rasta_core.specs.State.{LinkState, is_open}
use Rattle.rasta_core.specs.identity.Identity.{Identity}
use Rattle.line_world.proofs.Below.{created, end_later, end_restarted, later, restarted, settled}
use Rattle.line_world.proofs.Makes.{settled_stays}
use Rattle.line_world.proofs.Talked.{AreLinked, AreSame, IsTalked, Talked, far_end, near_end, same_before}

-- ---- made anew

pub record IsAnew (names : LineNames) (side : Side) (clock first : ℕ) (old new : Ends) (own far : Talked) : Type 0 where
  pub linked : AreLinked names side new own far
  pub link : (near_end side new).link ≡ created (near_end side old).link.identity first clock
  pub clock_is : (near_end side new).clock ≡ clock * 1000
  pub shut : is_open (near_end side new).link.phase ≡ false
  pub connection : (near_end side new).connection ≡ (near_end side old).connection
  pub far_same : far_end side new ≡ far_end side old
  pub time : new.time ≡ old.time
  pub among : (datagram : Sent) → IsAmong datagram old.sent → IsAmong datagram new.sent

-- what it is then
record AnewEnd (side : Side) (clock first : ℕ) (old new : Ends) : Type 0 where
  link : (near_end side new).link ≡ created (near_end side old).link.identity first clock
  clock_is : (near_end side new).clock ≡ clock * 1000
  connection : (near_end side new).connection ≡ (near_end side old).connection
  given : (near_end side new).given ≡ (near_end side old).given
  taken : (near_end side new).taken ≡ (near_end side old).taken
  far_same : far_end side new ≡ far_end side old
  time : new.time ≡ old.time
  sent : new.sent ≡ old.sent

anew_end : (side : Side) (clock first : ℕ) (old : Ends) → AnewEnd side clock first old (restarted (role_of side) clock first old)
unfolding restarted end_restarted
anew_end First clock first old = record { link = refl; clock_is = refl; connection = refl; given = refl; taken = refl; far_same = refl; time = refl; sent = refl }
anew_end Second clock first old = record { link = refl; clock_is = refl; connection = refl; given = refl; taken = refl; far_same = refl; time = refl; sent = refl }

pub created_shut : (identity : Identity) (first clock : ℕ) → is_open (created identity first clock).phase ≡ false
unfolding created
created_shut identity first clock = refl

talked_so : {names : LineNames} {side : Side} {old new : EndState} {talked : Talked} → new.given ≡ old.given → new.taken ≡ old.taken → IsTalked names side old talked → IsTalked names side new talked
talked_so given taken talks = record { given = given ∙ talks.given; taken = taken ∙ talks.taken }

pub is_anew : Laws → (names : LineNames) (side : Side) (clock first : ℕ) (old : Ends) (own far : Talked) → AreNames (link_names names) → AreLinked names side old own far
    → IsAnew names side clock first old (restarted (role_of side) clock first old) own far
is_anew laws names side clock first old own far are linked =
    let new : Ends = restarted (role_of side) clock first old
    in let then : AnewEnd side clock first old new = anew_end side clock first old
    in record {
      linked = record {
        are = record {
          timely = laws.event_timely (link_names names) (Restarts (role_of side) clock first) old are linked.are.timely tt;
          ordered = laws.event_ordered (link_names names) (Restarts (role_of side) clock first) old are linked.are.timely linked.are.ordered tt;
        };
        own_talks = talked_so then.given then.taken linked.own_talks;
        far_talks = subst (λ (e : EndState). IsTalked names (other side) e far) (sym then.far_same) linked.far_talks;
        own_shape = linked.own_shape;
        far_shape = linked.far_shape;
        there = λ same. linked.there (same_before side old new then.connection then.far_same same);
        back = λ same. linked.back (same_before side old new then.connection then.far_same same);
      };
      link = then.link;
      clock_is = then.clock_is;
      shut = ap (λ (l : LinkState). is_open l.phase) then.link ∙ created_shut (near_end side old).link.identity first clock;
      connection = then.connection;
      far_same = then.far_same;
      time = then.time;
      among = λ datagram was. subst (IsAmong datagram) (sym then.sent) was;
    }

-- ---- time

-- an end at its clock then
pub record IsLater (elapsed : ℕ) (old new : EndState) : Type 0 where
  pub link : new.link ≡ settled (reading_of (old.clock + elapsed)) old.link
  pub clock : new.clock ≡ old.clock + elapsed
  pub connection : new.connection ≡ old.connection
  pub given : new.given ≡ old.given
  pub taken : new.taken ≡ old.taken

later_end : (elapsed moment : ℕ) (end : EndState) → IsLater elapsed end (end_later elapsed moment end)
unfolding end_later
later_end elapsed moment end = record { link = refl; clock = refl; connection = refl; given = refl; taken = refl }

pub record AreLater (names : LineNames) (elapsed of_first of_second : ℕ) (old new : Ends) (first second : Talked) : Type 0 where
  pub linked : AreLinked names First new first second
  pub client : IsLater of_first old.client new.client
  pub server : IsLater of_second old.server new.server
  pub time : new.time ≡ old.time + elapsed
  pub among : (datagram : Sent) → IsAmong datagram old.sent → IsAmong datagram new.sent

record LaterEnds (elapsed of_first of_second : ℕ) (old new : Ends) : Type 0 where
  client : IsLater of_first old.client new.client
  server : IsLater of_second old.server new.server
  time : new.time ≡ old.time + elapsed
  sent : new.sent ≡ old.sent

later_ends : (elapsed of_first of_second : ℕ) (old : Ends) → LaterEnds elapsed of_first of_second old (later elapsed of_first of_second old)
unfolding later
later_ends elapsed of_first of_second old =
    record { client = later_end of_first old.moment old.client; server = later_end of_second old.moment old.server; time = refl; sent = refl }

pub are_later : Laws → (names : LineNames) (elapsed of_first of_second : ℕ) (old : Ends) (first second : Talked) → AreNames (link_names names) → AreLinked names First old first second
    → IsWithinDrift elapsed of_first × IsWithinDrift elapsed of_second → AreLater names elapsed of_first of_second old (later elapsed of_first of_second old) first second
are_later laws names elapsed of_first of_second old first second are linked may =
    let new : Ends = later elapsed of_first of_second old
    in let then : LaterEnds elapsed of_first of_second old new = later_ends elapsed of_first of_second old
    in let was_same : AreSame new → AreSame old = λ same. sym then.server.connection ∙ (same ∙ then.client.connection)
    in record {
      linked = record {
        are = record {
          timely = laws.event_timely (link_names names) (Passes elapsed of_first of_second) old are linked.are.timely may;
          ordered = laws.event_ordered (link_names names) (Passes elapsed of_first of_second) old are linked.are.timely linked.are.ordered may;
        };
        own_talks = talked_so then.client.given then.client.taken linked.own_talks;
        far_talks = talked_so then.server.given then.server.taken linked.far_talks;
        own_shape = linked.own_shape;
        far_shape = linked.far_shape;
        there = λ same. linked.there (was_same same);
        back = λ same. linked.back (was_same same);
      };
      client = then.client;
      server = then.server;
      time = then.time;
      among = λ datagram was. subst (IsAmong datagram) (sym then.sent) was;
    }

-- its link is as it was, or has closed
pub later_stays : {elapsed : ℕ} {old new : EndState} → IsLater elapsed old new → is_open new.link.phase ≡ true → new.link.phase ≡ old.link.phase
later_stays {elapsed} {old} {new} then opened =
    ap (λ (l : LinkState). l.phase) then.link
    ∙ settled_stays (reading_of (old.clock + elapsed)) old.link (ap (λ (l : LinkState). is_open l.phase) (sym then.link) ∙ opened)
