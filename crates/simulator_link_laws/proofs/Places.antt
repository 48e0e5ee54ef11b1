-- What stands at the places of a world's links, and one link of them with new ends.
use Rattle.std.proofs.Common.{◌≡◌, ◌≢◌, ◌⊎◌, ℕ, ◌+◌, ◌<◌, List, ◌++◌, length, Some, slice_get, slice_set, refl, sym, ap, subst, ◌∙◌, arith, inl, inr}
use Rattle.std.proofs.lemmas.Option.{same_Some}
use Rattle.simulator_spec.specs.layout.Entries.{Site}
use Rattle.simulator_spec.specs.rasta_core.Clock.{settled}
use Rattle.simulator_spec.specs.rasta_core.Ends.{EndState, reading_of}
use Rattle.simulator_spec.specs.rasta_core.Links.{Links, seen}
use Rattle.simulator_spec.specs.rasta_core.Run.{end_of}
use Rattle.simulator_spec.specs.rasta_core.identity.Role.{Role}
use Rattle.simulator_spec.specs.rasta_core.identity.Role.TheVariants as role
use Rattle.simulator_spec.specs.Links.{AreLinksOf, IsClientAt, IsServerAt, ServerEnd, client_links, server_ends}
use Rattle.simulator_spec.specs.Nodes.{partners}
use Rattle.simulator_spec.specs.State.{ClockedInterlockingState, WorldState}
use Rattle.simulator_link_laws.proofs.Lists.{get_set, get_set_other, length_joined, same_or_other, set_left, set_right}

-- an end is the one that a world keeps of a server
pub record IsKept (kept : ServerEnd) (end : EndState) : Type 0 where
  pub link_is : end.link ≡ settled (reading_of kept.clock) kept.link
  pub clock_is : end.clock ≡ kept.clock
  pub connection_is : end.connection ≡ kept.connection
  pub left_is : end.left ≡ kept.left

pub kept_at : (world : WorldState) (link : ℕ) (end : EndState) (one : ServerEnd) → IsServerAt world link end → slice_get (server_ends world) link ≡ Some one → IsKept one end
kept_at world link end one is at =
    let same : is.kept ≡ one = same_Some is.kept one (sym is.there ∙ at)
    in record {
      link_is = is.link_is ∙ ap (λ (k : ServerEnd). settled (reading_of k.clock) k.link) same;
      clock_is = is.clock_is ∙ ap (λ (k : ServerEnd). k.clock) same;
      connection_is = is.connection_is ∙ ap (λ (k : ServerEnd). k.connection) same;
      left_is = is.left_is ∙ ap (λ (k : ServerEnd). k.left) same;
    }

pub at_kept : (world : WorldState) (link : ℕ) (end : EndState) (one : ServerEnd) → slice_get (server_ends world) link ≡ Some one → IsKept one end → IsServerAt world link end
at_kept world link end one at is = record {
  kept = one;
  there = at;
  link_is = is.link_is;
  clock_is = is.clock_is;
  connection_is = is.connection_is;
  left_is = is.left_is;
}

-- ---- the same station, and the same server

pub client_same : (world new : WorldState) (link : ℕ) (before after : EndState) → new.interlocking ≡ world.interlocking → after ≡ before → IsClientAt world link before → IsClientAt new link after
client_same world new link before after station end is = record {
  kept = is.kept;
  there = ap (λ (s : ClockedInterlockingState). slice_get (client_links s.ixl) link) station ∙ is.there;
  link_is = ap (λ (e : EndState). e.link) end ∙ is.link_is ∙ ap (λ (s : ClockedInterlockingState). settled (reading_of s.clock) is.kept) (sym station);
  clock_is = ap (λ (e : EndState). e.clock) end ∙ is.clock_is ∙ ap (λ (s : ClockedInterlockingState). s.clock) (sym station);
  connection_is = ap (λ (s : ClockedInterlockingState). slice_get s.connections link) station ∙ is.connection_is ∙ ap (λ (e : EndState). Some e.connection) (sym end);
}

pub server_same : (world new : WorldState) (link : ℕ) (before after : EndState) → slice_get (server_ends new) link ≡ slice_get (server_ends world) link → after ≡ before → IsServerAt world link before → IsServerAt new link after
server_same world new link before after there end is = record {
  kept = is.kept;
  there = there ∙ is.there;
  link_is = ap (λ (e : EndState). e.link) end ∙ is.link_is;
  clock_is = ap (λ (e : EndState). e.clock) end ∙ is.clock_is;
  connection_is = ap (λ (e : EndState). e.connection) end ∙ is.connection_is;
  left_is = ap (λ (e : EndState). e.left) end ∙ is.left_is;
}

-- ---- one server of a world is another

pub record OneServer (world new : WorldState) (before after : Links) (link : ℕ) (end : ServerEnd) : Type 0 where
  pub time_is : after.time ≡ new.time
  pub sent_is : after.sent ≡ new.sent
  pub station_is : new.interlocking ≡ world.interlocking
  pub ends_are : server_ends new ≡ slice_set (server_ends world) link end
  pub within : link < length (server_ends world)
  pub others : (other : ℕ) → other ≢ link → (whose : Role) → end_of whose (seen other after) ≡ end_of whose (seen other before)
  pub client : end_of role.Client (seen link after) ≡ end_of role.Client (seen link before)
  pub kept : IsKept end (after.ends link).server

pub one_server : (site : Site) (world new : WorldState) (before after : Links) (link : ℕ) (end : ServerEnd) → AreLinksOf site world before → OneServer world new before after link end → AreLinksOf site new after
one_server site world new before after link end are one = record {
  time_is = one.time_is;
  sent_is = one.sent_is;
  clients = λ other id at. client_same world new other (before.ends other).client (after.ends other).client one.station_is (client_end other (same_or_other other link)) (are.clients other id at);
  servers = λ other id at. server_end other id at (same_or_other other link);
}
  where
    client_end : (other : ℕ) → (other ≡ link) ⊎ (other ≢ link) → (after.ends other).client ≡ (before.ends other).client
    client_end other (inl same) = subst (λ (n : ℕ). (after.ends n).client ≡ (before.ends n).client) (sym same) one.client
    client_end other (inr differ) = one.others other differ role.Client

    server_end : (other id : ℕ) → slice_get (partners site) other ≡ Some id → (other ≡ link) ⊎ (other ≢ link) → IsServerAt new other (after.ends other).server
    server_end other id at (inl same) = subst (λ (n : ℕ). IsServerAt new n (after.ends n).server) (sym same)
        (at_kept new link (after.ends link).server end (ap (λ (l : List ServerEnd). slice_get l link) one.ends_are ∙ get_set (server_ends world) link end one.within) one.kept)
    server_end other id at (inr differ) = server_same world new other (before.ends other).server (after.ends other).server
        (ap (λ (l : List ServerEnd). slice_get l other) one.ends_are ∙ get_set_other (server_ends world) link other end differ)
        (one.others other differ role.Server) (are.servers other id at)

-- ---- the servers of a kind

module _ {A : Type 0} where
  pub first_set : (a b c : List A) (place : ℕ) (one : A) → place < length a → slice_set a place one ++ (b ++ c) ≡ slice_set (a ++ (b ++ c)) place one
  first_set a b c place one within = set_left a (b ++ c) place one within

  pub second_set : (a b c : List A) (place n : ℕ) (one : A) → place < length b → n ≡ length a + place → a ++ (slice_set b place one ++ c) ≡ slice_set (a ++ (b ++ c)) n one
  second_set a b c place n one within is = ap (λ l. a ++ l) (set_left b c place one within) ∙ set_right a (b ++ c) place n one is

  pub third_set : (a b c : List A) (place n : ℕ) (one : A) → n ≡ length a + length b + place → a ++ (b ++ slice_set c place one) ≡ slice_set (a ++ (b ++ c)) n one
  third_set a b c place n one is = ap (λ l. a ++ l) (set_right b c place (length b + place) one refl) ∙ set_right a (b ++ c) (length b + place) n one sums where
    sums : n ≡ length a + (length b + place)
    sums = omega arith

  pub length_three : (a b c : List A) → length (a ++ (b ++ c)) ≡ length a + length b + length c
  length_three a b c = length_joined a (b ++ c) ∙ ap (λ n. length a + n) (length_joined b c) ∙ sums (length a) (length b) (length c) where
    sums : (x y z : ℕ) → x + (y + z) ≡ x + y + z
    sums x y z = omega arith
