-- The items that wait for confirmation: those let go, and those handed out again.
use Rattle.std.proofs.Common.{◌≡◌, ℕ, suc, ◌+◌, ◌-◌, ◌≤◌, ◌<◌, List, [], ◌∷◌, ◌++◌, length, take, drop, get_or, append_assoc, add-one, refl, sym, ap, ◌∙◌, arith, slice_get, Some, None}
use Rattle.std.proofs.lemmas.List.{append-nil, length-append, length-take, length-drop, take_more, take_all, drop_all}
use Rattle.std.proofs.Math.Seq.{drop-cons}
use Rattle.std.proofs.lemmas.Grind.{common_steps}
use Rattle.std.proofs.lemmas.Bool.Decides.{nat_tests}
use Rattle.rasta_core_link.specs.declared.window.Unconfirmed.{Unconfirmed}
use Rattle.rasta_core_link.specs.declared.header.Header.{Header}
use Rattle.rasta_core_link.specs.PdusHandedOut.{pdu_of}
use Rattle.rasta_core_link.specs.Receipt.{still_waiting, repeated, retagged}
use Rattle.rasta_core_link.specs.Outbox.{OutboxState, posted}
use Rattle.rasta_core_link.proofs.OutboxPosts.{posted_nothing, posted_more, length-posted, capacity-posted, posting}
use Rattle.rasta_pdu.specs.declared.key.Key.{Key}
use Rattle.rasta_pdu.specs.declared.pdu.Pdu.{Pdu}
use Rattle.rasta_pdu.specs.declared.body.Body.TheVariants.{RetransmittedData}

-- a list with a first item
pub first_and_others : {X : Type 0} → (xs : List X) (x : X) → slice_get xs 0 ≡ Some x → xs ≡ x ∷ drop 1 xs
first_and_others [] x e = cc
first_and_others (y ∷ ys) x e = cc

pub nothing_there : {X : Type 0} → (xs : List X) → slice_get xs 0 ≡ None → xs ≡ []
nothing_there [] e = refl
nothing_there (y ∷ ys) e = cc

-- a confirmed item at the front goes
still_step : (confirmed : ℕ) (x : Unconfirmed) (xs : List Unconfirmed) → x.tag ≤ confirmed → still_waiting confirmed (x ∷ xs) ≡ still_waiting confirmed xs
unfolding still_waiting
still_step confirmed x xs h = grind (arith, nat_tests)

still_stop : (confirmed : ℕ) (x : Unconfirmed) (xs : List Unconfirmed) → confirmed < x.tag → still_waiting confirmed (x ∷ xs) ≡ x ∷ xs
unfolding still_waiting
still_stop confirmed x xs h = grind (arith, nat_tests)

pub still_waiting-drop : (confirmed : ℕ) (xs : List Unconfirmed) (x : Unconfirmed) → slice_get xs 0 ≡ Some x → x.tag ≤ confirmed → still_waiting confirmed (drop 1 xs) ≡ still_waiting confirmed xs
still_waiting-drop confirmed [] x e h = cc
still_waiting-drop confirmed (y ∷ ys) x e h =
    let same : y ≡ x = cc in
    sym (still_step confirmed y ys (rw same h))

pub still_waiting-all : (confirmed : ℕ) (xs : List Unconfirmed) (x : Unconfirmed) → slice_get xs 0 ≡ Some x → confirmed < x.tag → still_waiting confirmed xs ≡ xs
still_waiting-all confirmed [] x e h = cc
still_waiting-all confirmed (y ∷ ys) x e h =
    let same : y ≡ x = cc in
    still_stop confirmed y ys (rw same h)

pub still_waiting-none : (confirmed : ℕ) (xs : List Unconfirmed) → slice_get xs 0 ≡ None → still_waiting confirmed xs ≡ xs
unfolding still_waiting
still_waiting-none confirmed [] e = refl
still_waiting-none confirmed (y ∷ ys) e = cc

pub length-still_waiting : (confirmed : ℕ) (xs : List Unconfirmed) → length (still_waiting confirmed xs) ≤ length xs
unfolding still_waiting
length-still_waiting confirmed [] = omega arith
length-still_waiting confirmed (y ∷ ys) = grind (arith, nat_tests, length-still_waiting confirmed ys)

pub length-repeated : (header : Header) (count : ℕ) (xs : List Unconfirmed) → length (repeated header count xs) ≡ length xs
unfolding repeated
length-repeated header count [] = refl
length-repeated header count (x ∷ xs) = ap suc (length-repeated header (count + 1) xs)

pub length-retagged : (count : ℕ) (xs : List Unconfirmed) → length (retagged count xs) ≡ length xs
unfolding retagged
length-retagged count [] = refl
length-retagged count (x ∷ xs) = ap suc (length-retagged (count + 1) xs)

abbrev pub again : Header → ℕ → Unconfirmed → Pdu
again header count x = pdu_of header count (RetransmittedData (x.item ∷ []))

abbrev pub under : ℕ → Unconfirmed → Unconfirmed
under count x = record { tag = count; item = x.item }

repeated-push : (header : Header) (count : ℕ) (xs : List Unconfirmed) (x : Unconfirmed) → repeated header count (xs ++ x ∷ []) ≡ repeated header count xs ++ again header (count + length xs) x ∷ []
unfolding repeated
repeated-push header count [] x =
    let here : count ≡ count + length {A = Unconfirmed} [] = omega arith in
    ap (λ (n : ℕ). again header n x ∷ []) here
repeated-push header count (y ∷ ys) x =
    let moved : count + 1 + length ys ≡ count + length (y ∷ ys) = omega arith in
    ap (λ (ps : List Pdu). again header count y ∷ ps) (repeated-push header (count + 1) ys x)
    ∙ ap (λ (n : ℕ). again header count y ∷ repeated header (count + 1) ys ++ again header n x ∷ []) moved

retagged-push : (count : ℕ) (xs : List Unconfirmed) (x : Unconfirmed) → retagged count (xs ++ x ∷ []) ≡ retagged count xs ++ under (count + length xs) x ∷ []
unfolding retagged
retagged-push count [] x =
    let here : count ≡ count + length {A = Unconfirmed} [] = omega arith in
    ap (λ (n : ℕ). under n x ∷ []) here
retagged-push count (y ∷ ys) x =
    let moved : count + 1 + length ys ≡ count + length (y ∷ ys) = omega arith in
    ap (λ (us : List Unconfirmed). under count y ∷ us) (retagged-push (count + 1) ys x)
    ∙ ap (λ (n : ℕ). under count y ∷ retagged (count + 1) ys ++ under n x ∷ []) moved

first_of : {X : Type 0} → (xs ys : List X) (x y : X) → slice_get xs 0 ≡ Some x → xs ≡ y ∷ ys → x ≡ y
first_of [] ys x y e f = cc
first_of (z ∷ zs) ys x y e f = cc

-- so many items, the first ones, have gone out again and stand at the back
pub record Repeated (header : Header) (key : Key) (count done : ℕ) (all now : List Unconfirmed) (before after : OutboxState) : Type 0 where
  pub waiting : now ≡ drop done all ++ retagged count (take done all)
  pub outbox : after ≡ posted key (repeated header count (take done all)) before

pub repeated_none : (header : Header) (key : Key) (count : ℕ) (all : List Unconfirmed) (box : OutboxState) → Repeated header key count 0 all all box box
unfolding repeated retagged
repeated_none header key count all box = record {
  waiting = sym (append-nil all);
  outbox = sym (posted_nothing key box);
}

pub repeated_more : (header : Header) (key : Key) (count done : ℕ) (all now : List Unconfirmed) (before after : OutboxState) (x : Unconfirmed) → done < length all → Repeated header key count done all now before after → slice_get now 0 ≡ Some x → Repeated header key count (done + 1) all (drop 1 now ++ under (count + done) x ∷ []) before (posted key (again header (count + done) x ∷ []) after)
repeated_more header key count done all now before after x h r e =
    let cut : drop done all ≡ get_or all done x ∷ drop (done + 1) all = rw add-one (drop-cons all done x h) in
    let long : length (take done all) ≡ done = rw length-take (omega arith) in
    let shown : now ≡ get_or all done x ∷ drop (done + 1) all ++ retagged count (take done all) = r.waiting ∙ ap (λ (us : List Unconfirmed). us ++ retagged count (take done all)) cut in
    let first : x ≡ get_or all done x = first_of now (drop (done + 1) all ++ retagged count (take done all)) x (get_or all done x) e shown in
    let grown : take (done + 1) all ≡ take done all ++ x ∷ [] = take_more all done x h ∙ ap (λ (u : Unconfirmed). take done all ++ u ∷ []) (sym first) in
    let tags : retagged count (take (done + 1) all) ≡ retagged count (take done all) ++ under (count + done) x ∷ [] =
    ap (λ (us : List Unconfirmed). retagged count us) grown
    ∙ retagged-push count (take done all) x
    ∙ ap (λ (n : ℕ). retagged count (take done all) ++ under (count + n) x ∷ []) long in
    let sent : repeated header count (take (done + 1) all) ≡ repeated header count (take done all) ++ again header (count + done) x ∷ [] =
    ap (λ (us : List Unconfirmed). repeated header count us) grown
    ∙ repeated-push header count (take done all) x
    ∙ ap (λ (n : ℕ). repeated header count (take done all) ++ again header (count + n) x ∷ []) long in
    let more = posted_more key (again header (count + done) x ∷ []) (repeated header count (take done all)) before in
    record {
      waiting = rw (shown, tags) (append_assoc (drop (done + 1) all) (retagged count (take done all)) (under (count + done) x ∷ []));
      outbox = rw (r.outbox, sent) more;
    }

pub repeated_all : (header : Header) (key : Key) (count : ℕ) (all now : List Unconfirmed) (before after : OutboxState) → Repeated header key count (length all) all now before after → (now ≡ retagged count all) × (after ≡ posted key (repeated header count all) before)
repeated_all header key count all now before after r =
    let whole : take (length all) all ≡ all = take_all (length all) all (omega arith) in
    let none : drop (length all) all ≡ [] = drop_all (length all) all (omega arith) in
    (rw (none, whole) at r.waiting, rw whole at r.outbox)

pub length-left : (header : Header) (key : Key) (count done : ℕ) (all now : List Unconfirmed) (before after : OutboxState) → done ≤ length all → Repeated header key count done all now before after → (length now ≡ length all) × (length after.datagrams ≡ length before.datagrams + done) × (after.capacity ≡ before.capacity)
length-left header key count done all now before after h r =
    let long : length (take done all) ≡ done = rw length-take (omega arith) in
    let short : length (drop done all) ≡ length all - done = length-drop done all in
    let tags = length-retagged count (take done all) in
    let sent = length-repeated header count (take done all) in
    let joined = length-append (drop done all) (retagged count (take done all)) in
    let handed = length-posted key (repeated header count (take done all)) before in
    (rw r.waiting (omega arith), rw r.outbox (omega arith), rw r.outbox (capacity-posted key (repeated header count (take done all)) before))

pub ruleset repeating = (length-repeated, length-retagged, posting)

pub ruleset dropping = (still_waiting-drop, still_waiting-all, still_waiting-none, length-still_waiting, common_steps)
