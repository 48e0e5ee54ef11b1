-- What the items of a point's reports tell, and what the items of its commands do.
use Rattle.std.proofs.Common.{◌≡◌, ◌≤◌, ◌+◌, ℕ, suc, inl, inr, List, [], ◌∷◌, ◌++◌, length, map, append_assoc, if◌then◌else◌, arith, refl, ap, sym, ◌∙◌, subst}
use Rattle.std.specs.List.{All}
use Rattle.std.specs.Prelude.{◌<◌, None, Result, Ok, Err}
use Rattle.std.proofs.lemmas.List.{length-append}
use Rattle.std.proofs.lemmas.List.Elements.{All-append, All-cons, All-head, All-nil, All-tail, All-weaker}
use Rattle.sci_telegram.specs.Names.{IsName}
use Rattle.sci_telegram.specs.TelegramRead.{reading}
use Rattle.sci_telegram.specs.Telegrams.{IsTelegram, writing}
use Rattle.sci_telegram.specs.declared.fault.SciFault.{SciFault}
use Rattle.sci_telegram.specs.declared.message.Initialisation.TheVariants.{StartInitialisation, InitialisationCompleted}
use Rattle.sci_telegram.specs.declared.message.Message.{Message}
use Rattle.sci_telegram.specs.declared.message.Message.TheVariants as message
use Rattle.sci_telegram.specs.declared.message.PointMessage.{PointMessage}
use Rattle.sci_telegram.specs.declared.message.PointMessage.TheVariants.{MovePoint, PointPosition, Timeout}
use Rattle.sci_telegram.specs.declared.message.Position as sensed
use Rattle.sci_telegram.specs.declared.telegram.Telegram.{Telegram}
use Rattle.object_host.specs.Host.{HostState, said, sender_of, telegram_of}
use Rattle.object_host.specs.Made.{command_of, commands_of, is_command}
use Rattle.object_host.specs.Told.{AreSomeOf, IsVersionAnswer, item_of}
use Rattle.object_host.specs.declared.report.Report.{Report}
use Rattle.point_ctl.specs.Controlled.{point_behaviour}
use Rattle.point_ctl.specs.Drive.{PointState, commanded_by, own_report}
use Rattle.point_ctl.specs.History.{one_more}
use Rattle.object_host_laws.specs.Point as theorem
use Rattle.object_host_laws.specs.Point.{IsFinal, initial_reports}
use Rattle.simulator_machine.specs.Point.{Position}
use Rattle.simulator_move_laws.specs.Items.{all_said, moves_in, moves_of, position_seen, reports_in, reports_of, said_by}
use Rattle.simulator_move_laws.specs.Point.{AreSaid, IsNamed, IsOwn, item_by}
use Rattle.simulator_move_laws.proofs.Controllers.Moves.{IsTrueAt}

-- the positions that reports tell
abbrev pub positions_in : List Report → List Position
positions_in [] = []
positions_in (report ∷ others) = reports_of report.message ++ positions_in others

pub positions_join : (first others : List Report) → positions_in (first ++ others) ≡ positions_in first ++ positions_in others
positions_join [] others = refl
positions_join (report ∷ more) others =
    ap (λ rest. reports_of report.message ++ rest) (positions_join more others) ∙ sym (append_assoc (reports_of report.message) (positions_in more) (positions_in others))

-- a report that can be read, of a point that stands here
pub record Tells (stands : sensed.Position) (report : Report) : Type 0 where
  pub own : IsOwn report
  pub true_side : All (IsTrueAt (position_seen stands)) (reports_of report.message)

-- ---- the reports of a point

answer_own : (version : ℕ) (report : Report) → version < 256 → IsVersionAnswer point_behaviour version report → IsOwn report
answer_own version report small is = subst IsOwn (sym is.1) (record { section = refl; message = small; of_point = tt })

answers_own : (version : ℕ) (reports : List Report) → version < 256 → All (IsVersionAnswer point_behaviour version) reports → All IsOwn reports
answers_own version [] small each = All-nil IsOwn
answers_own version (report ∷ others) small each =
    All-cons IsOwn report others (answer_own version report small (All-head (IsVersionAnswer point_behaviour version) report others each))
    (answers_own version others small (All-tail (IsVersionAnswer point_behaviour version) report others each))

-- answers of the version tell no position
pub answers_tell_none : (version : ℕ) (reports : List Report) → All (IsVersionAnswer point_behaviour version) reports → positions_in reports ≡ []
answers_tell_none version [] each = refl
answers_tell_none version (report ∷ others) each =
    ap (λ (r : Report). reports_of r.message ++ positions_in others) (All-head (IsVersionAnswer point_behaviour version) report others each).1
    ∙ answers_tell_none version others (All-tail (IsVersionAnswer point_behaviour version) report others each)

at_side : (stands : sensed.Position) → IsTrueAt (position_seen stands) (position_seen stands)
at_side stands side is = is

never : (stands : sensed.Position) → IsTrueAt (position_seen stands) None
never stands side is = absurd (cc (is))

position_tells : (stands : sensed.Position) → Tells stands (own_report (message.Point (PointPosition stands)))
position_tells stands = record {
  own = record { section = refl; message = tt; of_point = tt };
  true_side = All-cons (IsTrueAt (position_seen stands)) (position_seen stands) [] (at_side stands) (All-nil (IsTrueAt (position_seen stands)));
}

timeout_tells : (stands : sensed.Position) → Tells stands (own_report (message.Point Timeout))
timeout_tells stands = record {
  own = record { section = refl; message = tt; of_point = tt };
  true_side = All-cons (IsTrueAt (position_seen stands)) None [] (never stands) (All-nil (IsTrueAt (position_seen stands)));
}

final_tells : (stands : sensed.Position) (report : Report) → IsFinal stands report → Tells stands report
final_tells stands report (inl is) = subst (Tells stands) (sym is) (position_tells stands)
final_tells stands report (inr is) = subst (Tells stands) (sym is) (timeout_tells stands)

initial_tell : (stands : sensed.Position) → All (Tells stands) (initial_reports stands)
initial_tell stands =
    let start = said point_behaviour StartInitialisation
    in let status = own_report (message.Point (PointPosition stands))
    in let completed = said point_behaviour InitialisationCompleted
    in let none : All (IsTrueAt (position_seen stands)) [] = All-nil (IsTrueAt (position_seen stands))
    in All-cons (Tells stands) start (status ∷ completed ∷ []) (record { own = record { section = refl; message = tt; of_point = tt }; true_side = none })
    (All-cons (Tells stands) status (completed ∷ []) (position_tells stands)
    (All-cons (Tells stands) completed [] (record { own = record { section = refl; message = tt; of_point = tt }; true_side = none }) (All-nil (Tells stands))))

some_of : {A : Type 0} (P : A → Type 0) (some all : List A) → AreSomeOf some all → All P all → All P some
some_of P [] all are each = All-nil P
some_of P (one ∷ more) [] are each = absurd are
some_of P (one ∷ more) (first ∷ others) (inl here) each =
    All-cons P one more (subst P (sym here.0) (All-head P first others each)) (some_of P more others here.1 (All-tail P first others each))
some_of P (one ∷ more) (first ∷ others) (inr later) each = some_of P (one ∷ more) others later (All-tail P first others each)

any_more : (n : ℕ) → 0 ≤ n
any_more n = omega arith

both_fewer : (both first one more others all : ℕ) → both ≡ one + more → all ≡ first + others → one ≡ first → more ≤ others → both ≤ all
both_fewer both first one more others all is all_is same fewer = omega (arith, is, all_is, same, fewer)

behind_fewer : (some first others all : ℕ) → all ≡ first + others → some ≤ others → some ≤ all
behind_fewer some first others all is fewer = omega (arith, is, fewer)

some_tell_fewer : (some all : List Report) → AreSomeOf some all → length (positions_in some) ≤ length (positions_in all)
some_tell_fewer [] all are = any_more (length (positions_in all))
some_tell_fewer (one ∷ more) [] are = absurd are
some_tell_fewer (one ∷ more) (first ∷ others) (inl here) =
    both_fewer _ (length (reports_of first.message)) (length (reports_of one.message)) (length (positions_in more)) (length (positions_in others)) _
    (length-append (reports_of one.message) (positions_in more)) (length-append (reports_of first.message) (positions_in others))
    (ap (λ (r : Report). length (reports_of r.message)) here.0) (some_tell_fewer more others here.1)
some_tell_fewer (one ∷ more) (first ∷ others) (inr later) =
    behind_fewer _ (length (reports_of first.message)) (length (positions_in others)) _ (length-append (reports_of first.message) (positions_in others))
    (some_tell_fewer (one ∷ more) others later)

-- the initialisation tells one position at most
pub initial_tells_one : (stands : sensed.Position) (some : List Report) → AreSomeOf some (initial_reports stands) → length (positions_in some) ≤ 1
initial_tells_one stands some are = some_tell_fewer some (initial_reports stands) are

true_sides : (stands : sensed.Position) (reports : List Report) → All (Tells stands) reports → All (IsTrueAt (position_seen stands)) (positions_in reports)
true_sides stands [] each = All-nil (IsTrueAt (position_seen stands))
true_sides stands (report ∷ others) each =
    All-append (IsTrueAt (position_seen stands)) (reports_of report.message) (positions_in others) (All-head (Tells stands) report others each).true_side
    (true_sides stands others (All-tail (Tells stands) report others each))

pub initial_true : (stands : sensed.Position) (some : List Report) → AreSomeOf some (initial_reports stands) → All (IsTrueAt (position_seen stands)) (positions_in some)
initial_true stands some are = true_sides stands some (some_of (Tells stands) some (initial_reports stands) are (initial_tell stands))

finals_tell : (stands : sensed.Position) (reports : List Report) → All (IsFinal stands) reports → All (Tells stands) reports
finals_tell stands [] each = All-nil (Tells stands)
finals_tell stands (report ∷ others) each =
    All-cons (Tells stands) report others (final_tells stands report (All-head (IsFinal stands) report others each))
    (finals_tell stands others (All-tail (IsFinal stands) report others each))

pub finals_true : (stands : sensed.Position) (reports : List Report) → All (IsFinal stands) reports → All (IsTrueAt (position_seen stands)) (positions_in reports)
finals_true stands reports each = true_sides stands reports (finals_tell stands reports each)

-- each final report tells one
abbrev pub IsSomeFinal : Report → Type 0
IsSomeFinal report = (stands : sensed.Position) × IsFinal stands report

pub some_finals : (stands : sensed.Position) (reports : List Report) → All (IsFinal stands) reports → All IsSomeFinal reports
some_finals stands reports each = All-weaker (IsFinal stands) IsSomeFinal (λ report is. (stands, is)) reports each

final_tells_one : (stands : sensed.Position) (report : Report) → IsFinal stands report → length (reports_of report.message) ≡ 1
final_tells_one stands report (inl is) = ap (λ (r : Report). length (reports_of r.message)) is
final_tells_one stands report (inr is) = ap (λ (r : Report). length (reports_of r.message)) is

one_longer : (both one more others : ℕ) → both ≡ one + more → one ≡ 1 → more ≡ others → both ≡ suc others
one_longer both one more others is first same = omega (arith, is, first, same)

pub finals_tell_each : (reports : List Report) → All IsSomeFinal reports → length (positions_in reports) ≡ length reports
finals_tell_each [] each = refl
finals_tell_each (report ∷ others) each =
    let first = All-head IsSomeFinal report others each
    in one_longer _ (length (reports_of report.message)) (length (positions_in others)) (length others)
    (length-append (reports_of report.message) (positions_in others)) (final_tells_one first.0 report first.1)
    (finals_tell_each others (All-tail IsSomeFinal report others each))

tells_own : {P : Report → Type 0} → ((report : Report) → P report → IsOwn report) → (reports : List Report) → All P reports → All IsOwn reports
tells_own {P} own [] each = All-nil IsOwn
tells_own {P} own (report ∷ others) each = All-cons IsOwn report others (own report (All-head P report others each)) (tells_own own others (All-tail P report others each))

-- ---- what a controller says

same_items : (host : HostState PointState) (reports : List Report) → map (item_of host) reports ≡ map (item_by host.own_name host.peer_name) reports
same_items host [] = refl
same_items host (report ∷ others) = ap (λ rest. item_of host report ∷ rest) (same_items host others)

said_own : (version : ℕ) (answers begins finals : List Report) (stood : sensed.Position) → version < 256 →
    All (IsVersionAnswer point_behaviour version) answers → AreSomeOf begins (initial_reports stood) → All IsSomeFinal finals → All IsOwn ((answers ++ begins) ++ finals)
said_own version answers begins finals stood small are_answers are_some are_final =
    All-append IsOwn (answers ++ begins) finals
    (All-append IsOwn answers begins (answers_own version answers small are_answers)
    (tells_own (λ report (tells : Tells stood report). tells.own) begins (some_of (Tells stood) begins (initial_reports stood) are_some (initial_tell stood))))
    (tells_own (λ report (is : IsSomeFinal report). (final_tells is.0 report is.1).own) finals are_final)

pub items_said : (host : HostState PointState) (answers begins finals : List Report) (stood : sensed.Position) → host.version < 256 →
    All (IsVersionAnswer point_behaviour host.version) answers → AreSomeOf begins (initial_reports stood) → All IsSomeFinal finals →
    AreSaid host.own_name host.peer_name (map (item_of host) ((answers ++ begins) ++ finals))
items_said host answers begins finals stood small are_answers are_some are_final = record {
  reports = (answers ++ begins) ++ finals;
  are = same_items host ((answers ++ begins) ++ finals);
  own = said_own host.version answers begins finals stood small are_answers are_some are_final;
}

map_joined : {A B : Type 0} (f : A → B) (first others : List A) → map f (first ++ others) ≡ map f first ++ map f others
map_joined f [] others = refl
map_joined f (one ∷ more) others = ap (λ rest. f one ∷ rest) (map_joined f more others)

pub nothing_said : (own_name peer_name : List ℕ) → AreSaid own_name peer_name []
nothing_said own_name peer_name = record { reports = []; are = refl; own = All-nil IsOwn }

pub said_then : (own_name peer_name : List ℕ) (first others : List (List ℕ)) → AreSaid own_name peer_name first → AreSaid own_name peer_name others → AreSaid own_name peer_name (first ++ others)
said_then own_name peer_name first others one more = record {
  reports = one.reports ++ more.reports;
  are = ap (λ xs. xs ++ others) one.are ∙ ap (λ xs. map (item_by own_name peer_name) one.reports ++ xs) more.are
      ∙ sym (map_joined (item_by own_name peer_name) one.reports more.reports);
  own = All-append IsOwn one.reports more.reports one.own more.own;
}

-- by a host of the same names
pub said_by_same : (old new : HostState PointState) (items : List (List ℕ)) → new.own_name ≡ old.own_name → new.peer_name ≡ old.peer_name →
    AreSaid old.own_name old.peer_name items → AreSaid new.own_name new.peer_name items
said_by_same old new items own peer said =
    subst (λ n. AreSaid n new.peer_name items) (sym own) (subst (λ n. AreSaid old.own_name n items) (sym peer) said)

-- ---- what their items tell

module _
    (reports_join : (first others : List (List ℕ)) → reports_in (first ++ others) ≡ reports_in first ++ reports_in others)
    (reports_written : (telegram : Telegram) → IsTelegram telegram → reports_in (writing telegram ∷ []) ≡ reports_of telegram.message)
  where
    items_tell : (host : HostState PointState) → IsNamed host → (reports : List Report) → All IsOwn reports → reports_in (map (item_of host) reports) ≡ positions_in reports
    unfolding all_said
    items_tell host named [] each = refl
    items_tell host named (report ∷ others) each =
        let own = All-head IsOwn report others each
        in let telegram : IsTelegram (telegram_of report host) = record {
          sender = subst (λ section. IsName (sender_of section host.own_name)) (sym own.section) named.own;
          receiver = named.peer;
          message = own.message;
        }
        in reports_join (item_of host report ∷ []) (map (item_of host) others)
        ∙ ap (λ xs. xs ++ reports_in (map (item_of host) others)) (reports_written (telegram_of report host) telegram)
        ∙ ap (λ rest. reports_of report.message ++ rest) (items_tell host named others (All-tail IsOwn report others each))

    -- answers of the version, some of what the initialisation says, and final reports
    pub said_items_tell : (host : HostState PointState) → IsNamed host → (answers begins finals : List Report) (stood : sensed.Position) →
        All (IsVersionAnswer point_behaviour host.version) answers → AreSomeOf begins (initial_reports stood) → All IsSomeFinal finals →
        reports_in (map (item_of host) ((answers ++ begins) ++ finals)) ≡ positions_in begins ++ positions_in finals
    said_items_tell host named answers begins finals stood are_answers are_some are_final =
        items_tell host named ((answers ++ begins) ++ finals) (said_own host.version answers begins finals stood named.version are_answers are_some are_final)
        ∙ positions_join (answers ++ begins) finals
        ∙ ap (λ xs. xs ++ positions_in finals) (positions_join answers begins ∙ ap (λ xs. xs ++ positions_in begins) (answers_tell_none host.version answers are_answers))

-- ---- what commands do

pub moves_same : (items : List (List ℕ)) → length (theorem.moves_in (commands_of items)) ≡ length (moves_in items)
unfolding all_said theorem.moves_in commands_of
moves_same [] = refl
moves_same (item ∷ items) = by (reading item) (moves_same items) where
  of_point : (m : PointMessage) (t : Telegram) → t.message ≡ message.Point m → length (theorem.moves_in (commands_of items)) ≡ length (moves_in items) →
      length (one_more (commanded_by (message.Point m)) (theorem.moves_in (commands_of items))) ≡ length (moves_of (message.Point m) ++ moves_in items)
  of_point (MovePoint side) t is more = ap suc more
  of_point (PointPosition position) t is more = more
  of_point Timeout t is more = more

  of_message : (m : Message) (t : Telegram) → t.message ≡ m → length (theorem.moves_in (commands_of items)) ≡ length (moves_in items) →
      length (theorem.moves_in ((if is_command m then t ∷ [] else []) ++ commands_of items)) ≡ length (moves_of m ++ moves_in items)
  of_message (message.Initialisation protocol what) t is more = more
  of_message (message.Signal m) t is more = ap (λ m. length (one_more (commanded_by m) (theorem.moves_in (commands_of items)))) is ∙ more
  of_message (message.Point m) t is more = ap (λ m. length (one_more (commanded_by m) (theorem.moves_in (commands_of items)))) is ∙ of_point m t is more
  of_message (message.Detection m) t is more = ap (λ m. length (one_more (commanded_by m) (theorem.moves_in (commands_of items)))) is ∙ more

  by : (read : Result Telegram SciFault) → length (theorem.moves_in (commands_of items)) ≡ length (moves_in items) →
      length (theorem.moves_in (command_of read ++ commands_of items)) ≡ length (said_by moves_of read ++ moves_in items)
  by (Err fault) more = more
  by (Ok telegram) more = of_message telegram.message telegram refl more
