-- The line for a datagram, written at once.
use Rattle.std.proofs.Common.{◌≡◌, ◌∙◌, ℕ, List, ◌++◌, Option, Some, Result, Ok, Err, ap, append_assoc, refl, sym}
use Rattle.std.specs.Prelude.{IfOk, codes}
use Rattle.std.specs.Fmt.{decimal}
use Rattle.control_table.specs.layout.Entries.{Site}
use Rattle.station_check.specs.node_addresses.declared.network.Network.{Network}
use Rattle.station_decode.specs.Datagrams.{datagram_text}
use Rattle.node_record.specs.CapturedRecord.{comment}
use Rattle.node_record.specs.NodeLines.{line_text, node_text, over_text, way_text, why_text}
use Rattle.node_record.specs.declared.passage.Reception.{Reception}
use Rattle.node_record.specs.declared.passage.Reception.TheVariants.{Delivered, FromNoPartner, ThrownAway, Unread}
use Rattle.node_record.specs.declared.passage.Way.{Way}
use Rattle.node_record.specs.declared.passage.Way.TheVariants.{Sent, Came}

is_told : {S E : Type 0} (text : S → List ℕ) (tried : Result S E) (written said : List ℕ) → written ≡ said → IfOk tried (λ line. text line ≡ written) → IfOk tried (λ line. text line ≡ said)
is_told text (Ok line) written said same is = is ∙ same
is_told text (Err why) written said same is = tt

module _ (site : Site) (node reading : ℕ) (way : Way) (bytes own words : List ℕ) (own_is : own ≡ node_text site node) (words_is : words ≡ datagram_text (Some site) bytes) where
  -- what stands after the way, and the line up to it
  abbrev rest : List ℕ → List ℕ
  rest words = codes ": " ++ (words ++ codes "\n")

  abbrev line : List ℕ → List ℕ
  line way = decimal reading ++ (codes ".000 " ++ (way ++ rest (datagram_text (Some site) bytes)))

  abbrev sent : List ℕ → List ℕ → List ℕ → List ℕ
  sent own to words = decimal reading ++ (codes ".000 sent by " ++ (own ++ (codes " to " ++ (to ++ rest words))))

  pub sent_told : {S E : Type 0} (text : S → List ℕ) (tried : Result S E) (to : ℕ) (other : List ℕ) → way ≡ Sent to → other ≡ node_text site to → IfOk tried (λ line. text line ≡ sent own other words)
      → IfOk tried (λ line. text line ≡ line_text site node (record { reading = reading; way = way; bytes = bytes }))
  sent_told text tried to other way_is other_is =
      is_told text tried (sent own other words) (line (way_text site node way))
      ((λ i. sent (own_is i) (other_is i) (words_is i))
      ∙ (sym (ap (λ t. decimal reading ++ (codes ".000 sent by " ++ t)) (append_assoc (node_text site node) (codes " to " ++ node_text site to) (rest (datagram_text (Some site) bytes))))
      ∙ ap (λ w. line (way_text site node w)) (sym way_is)))

  abbrev delivered : List ℕ → List ℕ → List ℕ → List ℕ
  delivered own over words = decimal reading ++ (codes ".000 delivered to " ++ (own ++ (over ++ rest words)))

  pub delivered_told : {S E : Type 0} (text : S → List ℕ) (tried : Result S E) (from : Option ℕ) (over : Network) (by : List ℕ) → way ≡ Came from over Delivered → by ≡ over_text over
      → IfOk tried (λ line. text line ≡ delivered own by words) → IfOk tried (λ line. text line ≡ line_text site node (record { reading = reading; way = way; bytes = bytes }))
  delivered_told text tried from over by way_is by_is =
      is_told text tried (delivered own by words) (line (way_text site node way))
      ((λ i. delivered (own_is i) (by_is i) (words_is i))
      ∙ (sym (ap (λ t. decimal reading ++ (codes ".000 delivered to " ++ t)) (append_assoc (node_text site node) (over_text over) (rest (datagram_text (Some site) bytes))))
      ∙ ap (λ w. line (way_text site node w)) (sym way_is)))

  abbrev lost : List ℕ → List ℕ → List ℕ → List ℕ → List ℕ
  lost own over why words = decimal reading ++ (codes ".000 not delivered to " ++ (own ++ (over ++ (codes ", " ++ (why ++ rest words)))))

  lost_line : (over why : List ℕ) → lost (node_text site node) over why (datagram_text (Some site) bytes)
      ≡ line (codes "not delivered to " ++ (node_text site node ++ (over ++ (codes ", " ++ why))))
  lost_line over why =
      sym (ap (λ t. decimal reading ++ (codes ".000 not delivered to " ++ t))
      (append_assoc (node_text site node) (over ++ (codes ", " ++ why)) (rest (datagram_text (Some site) bytes))
      ∙ ap (λ t. node_text site node ++ t) (append_assoc over (codes ", " ++ why) (rest (datagram_text (Some site) bytes)))))

  lost_is : (from : Option ℕ) (over : Network) (reception : Reception) → (reception ≡ Delivered → ⊥)
      → lost (node_text site node) (over_text over) (why_text reception) (datagram_text (Some site) bytes) ≡ line (way_text site node (Came from over reception))
  lost_is from over Delivered not = absurd (not refl)
  lost_is from over FromNoPartner not = lost_line (over_text over) (why_text FromNoPartner)
  lost_is from over ThrownAway not = lost_line (over_text over) (why_text ThrownAway)
  lost_is from over Unread not = lost_line (over_text over) (why_text Unread)

  pub lost_told : {S E : Type 0} (text : S → List ℕ) (tried : Result S E) (from : Option ℕ) (over : Network) (reception : Reception) (by why : List ℕ) → way ≡ Came from over reception
      → (reception ≡ Delivered → ⊥) → by ≡ over_text over → why ≡ comment way → IfOk tried (λ line. text line ≡ lost own by why words)
      → IfOk tried (λ line. text line ≡ line_text site node (record { reading = reading; way = way; bytes = bytes }))
  lost_told text tried from over reception by why way_is not by_is why_is =
      is_told text tried (lost own by why words) (line (way_text site node way))
      ((λ i. lost (own_is i) (by_is i) ((why_is ∙ ap comment way_is) i) (words_is i)) ∙ (lost_is from over reception not ∙ ap (λ w. line (way_text site node w)) (sym way_is)))
