-- What was to be kept last, and was kept, surely is closed.
use Rattle.std.proofs.Common.{◌≡◌, ◌↔◌, ◌⊎◌, ℕ, Bool, true, false, cond, IsTrue, List, [], ◌∷◌, ◌++◌, refl, sym, subst, inl}
use Rattle.std.proofs.lemmas.Bool.{false≢true}
use Rattle.node_kinds.specs.Kept.{kept_last}
use Rattle.node_kinds.specs.node_drive.Calls.{AsksDatagram, AsksLine, AsksListener, BreaksOff, Complains, Keeps, Reads, Rests, Sends, ThrowsAway, Writes}
use Rattle.node_kinds.specs.node_drive.declared.outside.ToKeep.{ToKeep}
use Rattle.node_kinds.specs.simulator_spec.layout.Entries.{Site}
use Rattle.node_kinds.specs.simulator_spec.ixl_spec.closings.declared.closed.Closings.{Closings}
use Rattle.node_kinds.specs.simulator_spec.ixl_spec.closings.declared.thing.Thing.{Thing}
use Rattle.node_kinds.specs.simulator_spec.ixl_spec.closings.Closed.{IsClosed, either}
use Rattle.station_node.specs.Closings.{Ends, EndsWithin, Held, IsOneLife, Makes, Moment, PowerFails, after_all, after_moment, calls_in, closed_by, closed_by_both, is_kept_last, sure_behind, surely}
use Rattle.station_node.specs.Takeover.{TakenOver, all_to_keep}

module _ (l : Site) (head : List ℕ) where
  -- moments after moments
  sure-append : (xs ys : List Moment) (held : Held) (closed : Thing → Bool) → surely l head (xs ++ ys) held closed ≡ surely l head ys (after_all l head xs held) (surely l head xs held closed)
  sure-append [] ys held closed = refl
  sure-append (x ∷ xs) ys held closed = sure-append xs ys (after_moment l head x held) (sure_behind l head closed_by closed_by_both x held closed)

  module _ (t : Thing) (laws : (c d : Closings) → IsClosed (either c d) t ↔ (IsClosed c t ⊎ IsClosed d t)) where
    -- the file is to have what the node asks for, or more
    asked_is_kept : (taken : TakenOver) (all : ToKeep) → IsClosed all.closings t → IsClosed (all_to_keep taken all).closings t
    asked_is_kept taken all closed = by taken.giving
      where
        by : (giving : Bool) → IsClosed (cond giving (either all.closings taken.found.closings) all.closings) t
        by true = (laws all.closings taken.found.closings).1 (inl closed)
        by false = closed

    last_is_sure : (life : List Moment) (held : Held) (closed : Thing → Bool) (before : ToKeep) (kept : Bool) → IsOneLife life → (IsTrue kept → IsClosed before.closings t → IsTrue (closed t))
        → IsTrue (is_kept_last kept (calls_in life)) → IsClosed (kept_last before (calls_in life)).closings t → IsTrue (surely l head life held closed t)
    last_is_sure [] held closed before kept one so is last = so is last
    last_is_sure (Makes (Keeps all true) outcome ∷ life) held closed before kept one so is last =
        last_is_sure life (after_moment l head (Makes (Keeps all true) outcome) held) (closed_by (all_to_keep held.taken all)) all true one (λ yes. asked_is_kept held.taken all) is last
    last_is_sure (Makes (Keeps all false) outcome ∷ life) held closed before kept one so is last =
        last_is_sure life (after_moment l head (Makes (Keeps all false) outcome) held) (closed_by_both closed (all_to_keep held.taken all)) all false one (λ yes. absurd (false≢true yes)) is last
    last_is_sure (Makes Rests outcome ∷ life) held closed before kept one so is last = last_is_sure life (after_moment l head (Makes Rests outcome) held) closed before kept one so is last
    last_is_sure (Makes (Reads reading) outcome ∷ life) held closed before kept one so is last = last_is_sure life (after_moment l head (Makes (Reads reading) outcome) held) closed before kept one so is last
    last_is_sure (Makes (AsksListener began) outcome ∷ life) held closed before kept one so is last = last_is_sure life (after_moment l head (Makes (AsksListener began) outcome) held) closed before kept one so is last
    last_is_sure (Makes (AsksLine heard) outcome ∷ life) held closed before kept one so is last = last_is_sure life (after_moment l head (Makes (AsksLine heard) outcome) held) closed before kept one so is last
    last_is_sure (Makes (AsksDatagram heard) outcome ∷ life) held closed before kept one so is last = last_is_sure life (after_moment l head (Makes (AsksDatagram heard) outcome) held) closed before kept one so is last
    last_is_sure (Makes (ThrowsAway count empty) outcome ∷ life) held closed before kept one so is last = last_is_sure life (after_moment l head (Makes (ThrowsAway count empty) outcome) held) closed before kept one so is last
    last_is_sure (Makes (Writes text) outcome ∷ life) held closed before kept one so is last = last_is_sure life (after_moment l head (Makes (Writes text) outcome) held) closed before kept one so is last
    last_is_sure (Makes (BreaksOff text) outcome ∷ life) held closed before kept one so is last = last_is_sure life (after_moment l head (Makes (BreaksOff text) outcome) held) closed before kept one so is last
    last_is_sure (Makes (Sends to datagram) outcome ∷ life) held closed before kept one so is last = last_is_sure life (after_moment l head (Makes (Sends to datagram) outcome) held) closed before kept one so is last
    last_is_sure (Makes (Complains line fault) outcome ∷ life) held closed before kept one so is last = last_is_sure life (after_moment l head (Makes (Complains line fault) outcome) held) closed before kept one so is last
    last_is_sure (Ends readable ∷ life) held closed before kept one so is last = absurd one
    last_is_sure (EndsWithin all outcome made readable ∷ life) held closed before kept one so is last = absurd one
    last_is_sure (PowerFails fresh any readable ∷ life) held closed before kept one so is last = absurd one

    pub kept_is_sure : (earlier life : List Moment) (first : Held) (closed : Thing → Bool) (before : ToKeep) → IsOneLife life → (IsClosed before.closings t → IsTrue (surely l head earlier first closed t))
        → IsTrue (is_kept_last true (calls_in life)) → IsClosed (kept_last before (calls_in life)).closings t → IsTrue (surely l head (earlier ++ life) first closed t)
    kept_is_sure earlier life first closed before one so is last =
        subst (λ (sure : Thing → Bool). IsTrue (sure t)) (sym (sure-append earlier life first closed))
        (last_is_sure life (after_all l head earlier first) (surely l head earlier first closed) before true one (λ yes. so) is last)
