-- Calls one after another, and cuts of them.
use Rattle.std.proofs.Common.{◌≡◌, ◌≤◌, ℕ, List, [], ◌∷◌, ◌++◌, Option, Some, None, Result, Ok, Err, refl, sym, ap, ◌∙◌, subst, append_assoc, append-nil, arith}
use Rattle.std.specs.Result.{OnErr, OnOk}
use Rattle.node_lines.specs.simulator_event.layout.declared.ids.NodeId.{NodeId}
use Rattle.node_drive.specs.Calls.{BreaksOff, Call, Calls, CallsCut, Grows, IsBroken, between, within, Reads, Rises, Sends, Told, Writes}

Grows-nil : {A : Type 0} (told : Option (List A)) → Grows told told []
Grows-nil None = tt
Grows-nil (Some xs) = sym (append-nil xs)

Grows-trans : {A : Type 0} (a b c : Option (List A)) (xs ys : List A) → Grows a b xs → Grows b c ys → Grows a c (xs ++ ys)
Grows-trans a b None xs ys p q = tt
Grows-trans a None (Some z) xs ys p q = absurd q
Grows-trans None (Some y) (Some z) xs ys p q = absurd p
Grows-trans (Some x) (Some y) (Some z) xs ys p q = q ∙ ap (λ l. l ++ ys) p ∙ append_assoc x xs ys

rises_trans : (a b c : ℕ) (xs ys : List Call) → Rises a xs b → Rises b ys c → Rises a (xs ++ ys) c
rises_trans a b c [] ys p q = subst (λ (n : ℕ). Rises n ys c) p q
rises_trans a b c (Reads reading ∷ xs) ys p q = (p.0, rises_trans reading b c xs ys p.1 q)
rises_trans a b c (call ∷ xs) ys p q = rises_trans a b c xs ys p q

rises_le : (a b : ℕ) (xs : List Call) → Rises a xs b → a ≤ b
rises_le a b [] p = omega (arith, p)
rises_le a b (Reads reading ∷ xs) p =
    let first = p.0 in
    let rest = rises_le reading b xs p.1 in
    omega (arith, first, rest)
rises_le a b (call ∷ xs) p = rises_le a b xs p

-- the clock hasn't fallen
pub latest_rises : {a b : Told} {xs : List Call} → Calls a b xs → a.latest ≤ b.latest
latest_rises {a} {b} {xs} called = rises_le a.latest b.latest xs called.rises

pub calls_none : (a : Told) → Calls a a []
calls_none a = record { grows = Grows-nil a.calls; rises = refl }

pub calls_then : {a b c : Told} {xs ys : List Call} → Calls a b xs → Calls b c ys → Calls a c (xs ++ ys)
calls_then {a} {b} {c} {xs} {ys} p q = record {
  grows = Grows-trans a.calls b.calls c.calls xs ys p.grows q.grows;
  rises = rises_trans a.latest b.latest c.latest xs ys p.rises q.rises;
}

pub calls_same : {a b : Told} {xs ys : List Call} → xs ≡ ys → Calls a b xs → Calls a b ys
calls_same {a} {b} {xs} {ys} e p = subst (λ (l : List Call). Calls a b l) e p

-- ---- cuts

broken_before : {behind last : List Call} (ys : List Call) → IsBroken behind last → IsBroken (behind ++ ys) last
broken_before ys between = between
broken_before ys within = within

pub cuts_none : (a : Told) (xs : List Call) → CallsCut a a xs
cuts_none a xs = record {
  calls = [];
  cut = record { front = []; behind = xs; whole_is = refl; last = []; broken = between; calls_are = refl };
  called = calls_none a;
}

pub cuts_before : {a b : Told} {xs : List Call} (ys : List Call) → CallsCut a b xs → CallsCut a b (xs ++ ys)
cuts_before {a} {b} {xs} ys s = record {
  calls = s.calls;
  cut = record {
    front = s.cut.front;
    behind = s.cut.behind ++ ys;
    whole_is = ap (λ l. l ++ ys) s.cut.whole_is ∙ append_assoc s.cut.front s.cut.behind ys;
    last = s.cut.last;
    broken = broken_before ys s.cut.broken;
    calls_are = s.cut.calls_are;
  };
  called = s.called;
}

pub cuts_then : {a b c : Told} {xs ys : List Call} → Calls a b xs → CallsCut b c ys → CallsCut a c (xs ++ ys)
cuts_then {a} {b} {c} {xs} {ys} p s = record {
  calls = xs ++ s.calls;
  cut = record {
    front = xs ++ s.cut.front;
    behind = s.cut.behind;
    whole_is = ap (λ l. xs ++ l) s.cut.whole_is ∙ sym (append_assoc xs s.cut.front s.cut.behind);
    last = s.cut.last;
    broken = s.cut.broken;
    calls_are = ap (λ l. xs ++ l) s.cut.calls_are ∙ sym (append_assoc xs s.cut.front s.cut.last);
  };
  called = calls_then p s.called;
}

-- all was called, and then it was given up
pub cuts_all : {a b : Told} {xs : List Call} → Calls a b xs → CallsCut a b xs
cuts_all {a} {b} {xs} p = record {
  calls = xs;
  cut = record { front = xs; behind = []; whole_is = sym (append-nil xs); last = []; broken = between; calls_are = sym (append-nil xs) };
  called = p;
}

pub cuts_now : {a b : Told} {xs : List Call} (ys : List Call) → Calls a b xs → CallsCut a b (xs ++ ys)
cuts_now ys p = cuts_before ys (cuts_all p)

-- a line was broken off
pub cuts_line : {a b : Told} {text : List ℕ} (ys : List Call) → Calls a b (BreaksOff text ∷ []) → CallsCut a b (Writes text ∷ ys)
cuts_line {a} {b} {text} ys p = record {
  calls = BreaksOff text ∷ [];
  cut = record { front = []; behind = Writes text ∷ ys; whole_is = refl; last = BreaksOff text ∷ []; broken = within; calls_are = refl };
  called = p;
}

pub cuts_same : {a b : Told} {xs ys : List Call} → xs ≡ ys → CallsCut a b xs → CallsCut a b ys
cuts_same {a} {b} {xs} {ys} e s = subst (λ (l : List Call). CallsCut a b l) e s

-- the bytes that were called with
pub writes_same : {a b : Told} {text bytes : List ℕ} → text ≡ bytes → Calls a b (Writes text ∷ []) → Calls a b (Writes bytes ∷ [])
writes_same e p = calls_same (ap (λ (t : List ℕ). Writes t ∷ []) e) p

pub breaks_same : {a b : Told} {text bytes : List ℕ} → text ≡ bytes → Calls a b (BreaksOff text ∷ []) → Calls a b (BreaksOff bytes ∷ [])
breaks_same e p = calls_same (ap (λ (t : List ℕ). BreaksOff t ∷ []) e) p

pub sends_same : {a b : Told} {to : NodeId} {some bytes : List ℕ} → some ≡ bytes → Calls a b (Sends to some ∷ []) → Calls a b (Sends to bytes ∷ [])
sends_same {a} {b} {to} e p = calls_same (ap (λ (t : List ℕ). Sends to t ∷ []) e) p

-- what was given up stays so, whatever fault is told
pub stopped : {T E P : Type 0} (result : Result T E) → P → OnErr result P
stopped (Ok value) h = tt
stopped (Err fault) h = h

-- two facts of what went well
pub both_ok : {T E : Type 0} (P Q : Type 0) (result : Result T E) → OnOk result P → OnOk result Q → OnOk result (P × Q)
both_ok P Q (Ok value) p q = (p, q)
both_ok P Q (Err fault) p q = tt

-- a reading isn't before the last one, and is the latest then
pub read_is : {a b : Told} {reading : ℕ} → Calls a b (Reads reading ∷ []) → (a.latest ≤ reading) × (b.latest ≡ reading)
read_is p = p.rises
