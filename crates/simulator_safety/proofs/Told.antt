-- What a client hears of a point is what the machine reads of the point's items.
use Rattle.std.proofs.Common.{◌≡◌, ℕ, true, List, [], ◌∷◌, ◌++◌, map, refl, ap, sym, ◌∙◌, subst}
use Rattle.std.specs.List.{All, position}
use Rattle.std.specs.Prelude.{Some, Result, Ok}
use Rattle.std.specs.Str.{bytes_eq}
use Rattle.std.proofs.lemmas.List.Elements.{All-head, All-tail}
use Rattle.std.proofs.lemmas.Slice.Eq.{bytes_eq-Decides}
use Rattle.simulator_link_laws.specs.sci_telegram.Names.{IsName}
use Rattle.simulator_link_laws.specs.sci_telegram.TelegramRead.{reading}
use Rattle.simulator_link_laws.specs.sci_telegram.Telegrams.{IsTelegram, writing}
use Rattle.simulator_link_laws.specs.sci_telegram.declared.fault.SciFault.{SciFault}
use Rattle.simulator_link_laws.specs.sci_telegram.declared.message.Message.{Message}
use Rattle.simulator_link_laws.specs.sci_telegram.declared.message.Message.TheVariants as message
use Rattle.simulator_link_laws.specs.sci_telegram.declared.message.PointMessage.TheVariants.{MovePoint, PointPosition, Timeout}
use Rattle.simulator_link_laws.specs.sci_telegram.declared.message.Position.TheVariants as position_of
use Rattle.simulator_link_laws.specs.sci_telegram.declared.telegram.Telegram.{Telegram}
use Rattle.simulator_link_laws.specs.object_host.Host.{sender_of}
use Rattle.simulator_link_laws.specs.object_host.declared.report.Report.{Report}
use Rattle.simulator_link_laws.specs.ixl_client.Client.{PeerState}
use Rattle.simulator_link_laws.specs.ixl_client.Meaning.{place_of, state_in}
use Rattle.simulator_link_laws.specs.ixl_client.Made.{told_by, told_by_all, told_of}
use Rattle.simulator_link_laws.specs.simulator_move_laws.Items.{all_said, reports_in, reports_of, said_by}
use Rattle.simulator_link_laws.specs.simulator_move_laws.Point.{AreSaid, IsOfPoint, IsOwn, item_by}
use Rattle.simulator_link_laws.specs.simulator_move_laws.Telegrams.{position_told, positions_told}

map_joined : {A B : Type 0} (f : A → B) (first others : List A) → map f (first ++ others) ≡ map f first ++ map f others
map_joined f [] others = refl
map_joined f (one ∷ more) others = ap (λ rest. f one ∷ rest) (map_joined f more others)

same_name : (name : List ℕ) → bytes_eq name name ≡ true
same_name name = (bytes_eq-Decides name name).1 refl

-- a controller that tells of itself alone is its one object
its_place : (peer : PeerState) (name : List ℕ) → peer.objects ≡ name ∷ [] → place_of peer name ≡ Some 0
its_place peer name is = ap (position (λ one. bytes_eq one name)) is ∙ rw (same_name name) refl

-- what a message of a point tells
told_same : (m : Message) → IsOfPoint m → map position_told (told_of (Some 0) (state_in m)) ≡ reports_of m
told_same (message.Initialisation protocol told) of_point = refl
told_same (message.Point (MovePoint side)) of_point = refl
told_same (message.Point (PointPosition position_of.Right)) of_point = refl
told_same (message.Point (PointPosition position_of.Left)) of_point = refl
told_same (message.Point (PointPosition position_of.NoEndPosition)) of_point = refl
told_same (message.Point Timeout) of_point = refl
told_same (message.Signal told) of_point = absurd of_point
told_same (message.Detection told) of_point = absurd of_point

module _ (read : (telegram : Telegram) → IsTelegram telegram → reading (writing telegram) ≡ Ok telegram)
    (peer : PeerState) (own_name peer_name : List ℕ) (objects : peer.objects ≡ own_name ∷ []) (own : IsName own_name) (peer_is : IsName peer_name)
  where
    abbrev telegram_by : Report → Telegram
    telegram_by report = record { sender = sender_of report.section own_name; receiver = peer_name; message = report.message }

    readable : (report : Report) → IsOwn report → reading (item_by own_name peer_name report) ≡ Ok (telegram_by report)
    readable report is = read (telegram_by report) (record {
      sender = subst (λ section. IsName (sender_of section own_name)) (sym is.section) own;
      receiver = peer_is;
      message = is.message;
    })

    sender_is : (report : Report) → IsOwn report → sender_of report.section own_name ≡ own_name
    sender_is report is = ap (λ section. sender_of section own_name) is.section

    one_told : (report : Report) → IsOwn report → map position_told (told_by peer (reading (item_by own_name peer_name report))) ≡ said_by reports_of (reading (item_by own_name peer_name report))
    one_told report is =
        ap (λ (r : Result Telegram SciFault). map position_told (told_by peer r)) (readable report is)
        ∙ ap (λ sender. map position_told (told_of (place_of peer sender) (state_in report.message))) (sender_is report is)
        ∙ ap (λ place. map position_told (told_of place (state_in report.message))) (its_place peer own_name objects)
        ∙ told_same report.message is.of_point
        ∙ sym (ap (said_by reports_of) (readable report is))

    first_told : (item : List ℕ) (items : List (List ℕ)) → map position_told (told_by peer (reading item)) ≡ said_by reports_of (reading item) →
        positions_told peer items ≡ reports_in items → positions_told peer (item ∷ items) ≡ reports_in (item ∷ items)
    unfolding told_by_all all_said
    first_told item items one more =
        map_joined position_told (told_by peer (reading item)) (told_by_all peer items)
        ∙ ap (λ xs. xs ++ positions_told peer items) one ∙ ap (λ xs. said_by reports_of (reading item) ++ xs) more

    -- of a beginning of what was said
    said_told : (taken rest : List (List ℕ)) (reports : List Report) → taken ++ rest ≡ map (item_by own_name peer_name) reports → All IsOwn reports → positions_told peer taken ≡ reports_in taken
    unfolding told_by_all all_said
    said_told [] rest reports are each = refl
    said_told (item ∷ items) rest [] are each = absurd (cc (are))
    said_told (item ∷ items) rest (report ∷ others) are each =
        let same : item ≡ item_by own_name peer_name report = cc (are)
        in first_told item items
        (subst (λ i. map position_told (told_by peer (reading i)) ≡ said_by reports_of (reading i)) (sym same) (one_told report (All-head IsOwn report others each)))
        (said_told items rest others (cc (are)) (All-tail IsOwn report others each))

    pub heard_of_said : (taken rest items : List (List ℕ)) → items ≡ taken ++ rest → AreSaid own_name peer_name items → positions_told peer taken ≡ reports_in taken
    heard_of_said taken rest items is said = said_told taken rest said.reports (sym is ∙ said.are) said.own
