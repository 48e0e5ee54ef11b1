-- What comes to a node comes behind the lines by which it is told to close things.
use Rattle.std.proofs.Common.{◌≡◌, ◌⊎◌, Bool, true, List, [], ◌∷◌, ◌++◌, refl, sym, ap, subst, inl, inr, ⊎_elim}
use Rattle.closings_file.specs.declared.found.Found.{Found}
use Rattle.node_kinds.specs.node_drive.Calls.{AsksDatagram, AsksLine, AsksListener, BreaksOff, Call, Complains, DatagramHeard, Keeps, LineHeard, Reads, Rests, Sends, Text, ThrowsAway, Writes}
use Rattle.node_kinds.specs.simulator_spec.layout.Entries.{Site}
use Rattle.node_kinds.specs.simulator_spec.ixl_spec.closings.declared.thing.Thing.{Thing}
use Rattle.station_node.specs.Takeover.{AreHeardSo, brought_by, close_text, told_to_close}

-- one list goes on from the other
abbrev Agree : List Call → List Call → Type 0
Agree told brought = (more : List Call) × ((told ≡ brought ++ more) ⊎ (brought ≡ told ++ more))

one_more : (call : Call) (told brought : List Call) → Agree told brought → Agree (call ∷ told) (call ∷ brought)
one_more call told brought agree = (agree.0, ⊎_elim (λ is. inl (ap (λ (all : List Call). call ∷ all) is)) (λ is. inr (ap (λ (all : List Call). call ∷ all) is)) agree.1)

module _ (l : Site) (found : Found) where
  pub told_first : (calls : List Call) (left : List Thing) → AreHeardSo l calls (record { found = found; left = left; giving = true }) → Agree (told_to_close l left) (brought_by calls)
  told_first [] left so = (told_to_close l left, inl refl)
  told_first (AsksLine heard ∷ calls) [] so =
      subst (λ (h : LineHeard). Agree [] (brought_by (AsksLine h ∷ calls))) (sym (so.0 refl)) (told_first calls [] so.1)
  told_first (AsksLine heard ∷ calls) (thing ∷ others) so =
      subst (λ (h : LineHeard). Agree (told_to_close l (thing ∷ others)) (brought_by (AsksLine h ∷ calls))) (sym (so.0 refl))
      (one_more (AsksLine (Text (close_text l thing))) (told_to_close l others) (brought_by calls) (told_first calls others so.1))
  told_first (AsksDatagram heard ∷ calls) left so =
      subst (λ (h : DatagramHeard). Agree (told_to_close l left) (brought_by (AsksDatagram h ∷ calls))) (sym (so.0 refl)) (told_first calls left so.1)
  told_first (AsksListener began ∷ calls) [] so = (brought_by (AsksListener began ∷ calls), inr refl)
  told_first (AsksListener began ∷ calls) (thing ∷ others) so =
      subst (λ (b : Bool). Agree (told_to_close l (thing ∷ others)) (brought_by (AsksListener b ∷ calls))) (sym (so.0 refl)) (told_first calls (thing ∷ others) so.1)
  told_first (Rests ∷ calls) left so = told_first calls left so.1
  told_first (Reads reading ∷ calls) left so = told_first calls left so.1
  told_first (ThrowsAway count empty ∷ calls) left so = told_first calls left so.1
  told_first (Writes text ∷ calls) left so = told_first calls left so.1
  told_first (BreaksOff text ∷ calls) left so = told_first calls left so.1
  told_first (Sends to datagram ∷ calls) left so = told_first calls left so.1
  told_first (Complains line fault ∷ calls) left so = told_first calls left so.1
  told_first (Keeps all kept ∷ calls) left so = told_first calls left so.1
