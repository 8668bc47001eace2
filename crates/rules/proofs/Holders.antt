-- Who holds a packet, which packets a step touches, and that names are new.
use Rattle.std.proofs.Common.{◌≡◌, ℕ, suc, ◌+◌, ◌%◌, ◌<◌, ◌≤◌, ◌≢◌, ◌⊎◌, List, [], length, get_or, set, Some, None, Option, sym, refl, ap, subst, inl, inr, ⊎_elim, not-suc-le-zero, arith, get_or-set_other, get_or-set_same}
use native.Mathlib.Decide.{ℕ_discrete}
use Rattle.reader.specs.declared.types.Ty.{Ty}
use Rattle.reader.specs.declared.values.Operand.{Operand}
use Rattle.reader.specs.declared.operations.Operation.{Operation}
use Rattle.typing.specs.Typing.{Ctx}
use Rattle.store.specs.declared.name.Name.{Name}
use Rattle.store.specs.Packets.{Packet, Packets, lookup, with_holder, with_byte}
use Rattle.rules.specs.State.{Held, Thread, frames, State, packets, name, next_name, Effect, put, lined, counted, stored}
use Rattle.rules.specs.Rules.{Gives, Operates, Rule}
use Rattle.rules.specs.Promises.{is, occurs, queued}
use Rattle.rules.proofs.Puts.{same?, lookup-same, lookup_other}
use Rattle.rules.proofs.Counts.{own, owned, borrowed, in_frames, held, alive, present, total-append, total_get_or, pos_split, is_same, is_other, alive-put, weight}
use Rattle.rules.proofs.Contexts.{Leaves}
use Rattle.rules.proofs.Typed.{types, gives-owned, gives-leave}
use Rattle.rules.proofs.Frames.{Placed, at_node, called}
use Rattle.rules.proofs.Lends.{Lent, gives-lend}

-- the packet, where there is one, is held by t
abbrev pub Holds : ℕ → Option Packet → Type 0
Holds t None = Unit {0}
Holds t (Some p) = p.holder ≡ t

pub put_holds : (t : ℕ) (n m : Name) (o : Option Packet) (ps : Packets) → Holds t o → (n ≢ m → Holds t (lookup n ps)) → Holds t (lookup n (put m o ps))
put_holds t n m o ps h k = go (same? n m)
  where
    go : Dec (n ≡ m) → Holds t (lookup n (put m o ps))
    go (yes p) = subst (λ (x : Name). Holds t (lookup x (put m o ps))) (sym p) (subst (Holds t) (sym (lookup-same m o ps)) h)
    go (no p) = subst (Holds t) (sym (lookup_other n m o ps p)) (k p)

-- an operation leaves what its thread has with the thread as holder
operates-holds : {s : State} {t : ℕ} {op : Operation} {xs rs : List Held} {e : Effect} → ((m : Name) → 0 < owned m xs + borrowed m xs → Holds t (lookup m (packets s))) → Operates s t op xs e rs
    → (n : Name) (k : ℕ) → (0 < k → Holds t (lookup n (packets s))) → 0 < k + owned n rs → Holds t (lookup n (stored (packets s) e.puts))
operates-holds g Operates.computes n k h b = h (omega arith)
operates-holds g Operates.compares n k h b = h (omega arith)
operates-holds g Operates.connects n k h b = h (omega arith)
operates-holds {s} {t} g (Operates.makes r f q) n k h b = put_holds t n _ _ (packets s) refl (λ ne. h (let z = is_other n (next_name s t) ne in omega arith))
operates-holds {s} {t} g (Operates.kills r) n k h b = put_holds t n _ _ (packets s) tt (λ ne. h (omega arith))
operates-holds g (Operates.reads_inside r q) n k h b = h (omega arith)
operates-holds g (Operates.reads_outside r q) n k h b = h (omega arith)
operates-holds {s} {t} g (Operates.updates_inside {n = m} r q) n k h b =
    put_holds t n _ _ (packets s) (subst (Holds t) r (g m (let z = is_same m in omega arith))) (λ ne. h (omega arith))
operates-holds g (Operates.updates_outside r q) n k h b = h (omega arith)
operates-holds {s} {t} g (Operates.dequeues {n = m} r q) n k h b = put_holds t n _ _ (packets s) refl (λ ne. h (let z = is_other n m ne in omega arith))
operates-holds g (Operates.enqueues r) n k h b = h (omega arith)

put_touches : {X : Type 0} (n m : Name) (o : Option Packet) (ps : Packets) → (n ≡ m → X) → (lookup n (put m o ps) ≡ lookup n ps) ⊎ X
put_touches {X} n m o ps h = go (same? n m)
  where
    go : Dec (n ≡ m) → (lookup n (put m o ps) ≡ lookup n ps) ⊎ X
    go (yes p) = inr (h p)
    go (no p) = inl (lookup_other n m o ps p)

-- An operation changes only a packet that it is given, one at the front of its queue, or one that was not alive.
operates_touches : {s : State} {t : ℕ} {op : Operation} {xs rs : List Held} {e : Effect} → Operates s t op xs e rs → (n : Name)
    → (lookup n (stored (packets s) e.puts) ≡ lookup n (packets s)) ⊎ ((0 < owned n xs + borrowed n xs + queued n s.queues) ⊎ (alive n (packets s) ≡ 0))
operates_touches Operates.computes n = inl refl
operates_touches Operates.compares n = inl refl
operates_touches Operates.connects n = inl refl
operates_touches {s} (Operates.makes r f q) n = put_touches n _ _ (packets s) (λ p. inr (subst (λ (m : Name). alive m (packets s) ≡ 0) (sym p) (ap present f)))
operates_touches {s} (Operates.kills {n = m} r) n = put_touches n _ _ (packets s) (λ p. inl (let z = is_same m in let y = ap (λ (k : Name). is k m) p in omega arith))
operates_touches (Operates.reads_inside r q) n = inl refl
operates_touches (Operates.reads_outside r q) n = inl refl
operates_touches {s} (Operates.updates_inside {n = m} r q) n = put_touches n _ _ (packets s) (λ p. inl (let z = is_same m in let y = ap (λ (k : Name). is k m) p in omega arith))
operates_touches (Operates.updates_outside r q) n = inl refl
operates_touches {s} (Operates.dequeues {q} {n = m} {ns} r k) n = put_touches n _ _ (packets s)
    (λ p. inl (let z = is_same m in let y = ap (λ (k : Name). is k m) p in let w = total_get_or (occurs n) s.queues q [] refl in let v = ap (occurs n) r in omega arith))
operates_touches (Operates.enqueues r) n = inl refl

-- Counts.

-- no packet alive has a name that its maker has yet to give
abbrev pub Fresh : List ℕ → Packets → Type 0
Fresh cs ps = (m c : ℕ) → 0 < alive (name m c) ps → c < get_or cs m 0

-- and no maker made more than the limit allows
abbrev pub Limited : List ℕ → ℕ → Type 0
Limited cs limit = (m : ℕ) → get_or cs m 0 ≤ limit

-- something of the new element, and of each other
pub set-each : {A : Type 0} (P : ℕ → A → Type 0) (xs : List A) (j : ℕ) (y d : A) → j < length xs → P j y → ((i : ℕ) → i ≢ j → P i (get_or xs i d)) → (i : ℕ) → P i (get_or (set xs j y) i d)
set-each {A} P xs j y d lt h k i = go (ℕ_discrete i j)
  where
    go : Dec (i ≡ j) → P i (get_or (set xs j y) i d)
    go (yes p) = subst (λ (n : ℕ). P n (get_or (set xs j y) n d)) (sym p) (subst (λ (x : A). P j x) (sym (get_or-set_same xs j y d lt)) h)
    go (no p) = subst (λ (x : A). P i x) (sym (get_or-set_other xs j i y d p)) (k i p)

pub made-fresh : (cs : List ℕ) (t : ℕ) (p : Packet) (ps : Packets) → t < length cs → Fresh cs ps → Fresh (set cs t (suc (get_or cs t 0))) (put (name t (get_or cs t 0)) (Some p) ps)
made-fresh cs t p ps lt f m c h = go (same? (name m c) (name t (get_or cs t 0)))
  where
    grows : get_or cs m 0 ≤ get_or (set cs t (suc (get_or cs t 0))) m 0
    grows = set-each (λ i x. get_or cs i 0 ≤ x) cs t (suc (get_or cs t 0)) 0 lt (omega arith) (λ i ne. omega arith) m

    go : Dec (name m c ≡ name t (get_or cs t 0)) → c < get_or (set cs t (suc (get_or cs t 0))) m 0
    go (yes q) =
        let em : m ≡ t = ap (λ (x : Name). x.maker) q in let ec : c ≡ get_or cs t 0 = ap (λ (x : Name). x.count) q in
        let a = get_or-set_same cs t (suc (get_or cs t 0)) 0 lt in let b = ap (λ (z : ℕ). get_or (set cs t (suc (get_or cs t 0))) z 0) em in omega arith
    go (no q) =
        let a = alive-put (name m c) (name t (get_or cs t 0)) (Some p) ps in
        let b = is_other (name m c) (name t (get_or cs t 0)) q in
        let d = f m c (omega arith) in
        let e = grows in omega arith

pub made-limited : (cs : List ℕ) (t limit : ℕ) → t < length cs → get_or cs t 0 < limit → Limited cs limit → Limited (set cs t (suc (get_or cs t 0))) limit
made-limited cs t limit lt h l = set-each (λ i x. x ≤ limit) cs t (suc (get_or cs t 0)) 0 lt (omega arith) (λ i ne. l i)

operates-fresh : {s : State} {t : ℕ} {op : Operation} {xs rs : List Held} {e : Effect} → t < length s.counts → Fresh s.counts (packets s) → Operates s t op xs e rs
    → Fresh (counted s.counts e.count) (stored (packets s) e.puts)
operates-fresh lt f Operates.computes m c h = f m c h
operates-fresh lt f Operates.compares m c h = f m c h
operates-fresh lt f Operates.connects m c h = f m c h
operates-fresh {s} {t} lt f (Operates.makes r k q) m c h = made-fresh s.counts t _ (packets s) lt f m c h
operates-fresh {s} lt f (Operates.kills {n} r) m c h = f m c (let a = alive-put (name m c) n None (packets s) in omega arith)
operates-fresh lt f (Operates.reads_inside r q) m c h = f m c h
operates-fresh lt f (Operates.reads_outside r q) m c h = f m c h
operates-fresh {s} lt f (Operates.updates_inside {n} {p} {i} {k} r q) m c h =
    f m c (let a = alive-put (name m c) n (Some (with_byte i (k % 256) p)) (packets s) in let b = ap (weight (name m c) n) r in omega arith)
operates-fresh lt f (Operates.updates_outside r q) m c h = f m c h
operates-fresh {s} {t} lt f (Operates.dequeues {n} {p} r q) m c h =
    f m c (let a = alive-put (name m c) n (Some (with_holder t p)) (packets s) in let b = ap (weight (name m c) n) q in omega arith)
operates-fresh lt f (Operates.enqueues r) m c h = f m c h

operates-limited : {s : State} {t : ℕ} {op : Operation} {xs rs : List Held} {e : Effect} → t < length s.counts → Limited s.counts s.limit → Operates s t op xs e rs
    → Limited (counted s.counts e.count) s.limit
operates-limited lt l Operates.computes m = l m
operates-limited lt l Operates.compares m = l m
operates-limited lt l Operates.connects m = l m
operates-limited {s} {t} lt l (Operates.makes r k q) m = made-limited s.counts t s.limit lt r l m
operates-limited lt l (Operates.kills r) m = l m
operates-limited lt l (Operates.reads_inside r q) m = l m
operates-limited lt l (Operates.reads_outside r q) m = l m
operates-limited lt l (Operates.updates_inside r q) m = l m
operates-limited lt l (Operates.updates_outside r q) m = l m
operates-limited lt l (Operates.dequeues r q) m = l m
operates-limited lt l (Operates.enqueues r) m = l m

-- What is given to an operation is the thread's.
pub given-held : (m : Name) (k : ℕ) {Δ : Ctx} {vs ws xs : List Held} {as' : List Operand} {τs : List Ty} → (0 < borrowed m vs → 0 < k) → Leaves Δ (types vs) as' τs → Gives vs as' τs xs ws
    → 0 < owned m xs + borrowed m xs → 0 < owned m vs + k
given-held m k {xs = xs} l g h b =
    let o = gives-owned m h in
    ⊎_elim (λ p. omega arith) (λ p. ⊎_elim (λ q. let r = l q in omega arith) (λ q. omega arith) (gives-lend m refl (gives-leave refl h g) h g p)) (pos_split (owned m xs) (borrowed m xs) b)

-- after a step its thread is the holder of all that it has
pub rule-holds : {s : State} {t : ℕ} {r r' : Thread} {e : Effect} → Placed s.program r → Lent (frames r) → Rule s t r r' e
    → ((m : Name) → 0 < held m r → Holds t (lookup m (packets s))) → (n : Name)
    → held n r + queued n s.queues + alive n (stored (packets s) e.puts) ≡ held n r' + queued n (lined s.queues e.edit) + alive n (packets s)
    → 0 < held n r' → Holds t (lookup n (stored (packets s) e.puts))
rule-holds (at_node q c aw) l (Rule.operates {ws = ws} {rs = rs} {fs = fs} sg h op) k n a b =
    operates-holds (λ m p. k m (given-held m (in_frames m fs) (l.0 m) (called c sg).leaves h p)) op n (owned n ws + in_frames n fs)
    (λ p. k n (let a = gives-owned n h in omega arith)) (let a = total-append (own n) ws rs in omega arith)
rule-holds w l (Rule.calls fg nt h lt) k n a b = k n (omega arith)
rule-holds w l (Rule.tail_calls fg tl h) k n a b = k n (omega arith)
rule-holds w l (Rule.returns qf h) k n a b = k n (omega arith)
rule-holds w l (Rule.ends qf h) k n a b = absurd (not-suc-le-zero b)
rule-holds w l (Rule.if_true h) k n a b = k n b
rule-holds w l (Rule.if_false h) k n a b = k n b

-- a step changes only a packet that its thread has, one in a queue, or one that was not alive
pub rule_touches : {s : State} {t : ℕ} {r r' : Thread} {e : Effect} → Placed s.program r → Lent (frames r) → Rule s t r r' e → (n : Name)
    → (lookup n (stored (packets s) e.puts) ≡ lookup n (packets s)) ⊎ ((0 < held n r + queued n s.queues) ⊎ (alive n (packets s) ≡ 0))
rule_touches {s} (at_node q c aw) l (Rule.operates {xs = xs} {fs = fs} sg h op) n = ⊎_elim (λ p. inl p)
    (λ p. inr (⊎_elim
    (λ r. inl (⊎_elim (λ b. let a = given-held n (in_frames n fs) (l.0 n) (called c sg).leaves h b in omega arith) (λ b. omega arith) (pos_split (owned n xs + borrowed n xs) (queued n s.queues) r)))
    (λ r. inr r) p))
    (operates_touches op n)
rule_touches w l (Rule.calls fg nt h lt) n = inl refl
rule_touches w l (Rule.tail_calls fg tl h) n = inl refl
rule_touches w l (Rule.returns qf h) n = inl refl
rule_touches w l (Rule.ends qf h) n = inl refl
rule_touches w l (Rule.if_true h) n = inl refl
rule_touches w l (Rule.if_false h) n = inl refl

pub rule-fresh : {s : State} {t : ℕ} {r r' : Thread} {e : Effect} → t < length s.counts → Fresh s.counts (packets s) → Rule s t r r' e
    → Fresh (counted s.counts e.count) (stored (packets s) e.puts)
rule-fresh lt f (Rule.operates sg h op) m c b = operates-fresh lt f op m c b
rule-fresh lt f (Rule.calls fg nt h l) m c b = f m c b
rule-fresh lt f (Rule.tail_calls fg tl h) m c b = f m c b
rule-fresh lt f (Rule.returns qf h) m c b = f m c b
rule-fresh lt f (Rule.ends qf h) m c b = f m c b
rule-fresh lt f (Rule.if_true h) m c b = f m c b
rule-fresh lt f (Rule.if_false h) m c b = f m c b

pub rule-limited : {s : State} {t : ℕ} {r r' : Thread} {e : Effect} → t < length s.counts → Limited s.counts s.limit → Rule s t r r' e → Limited (counted s.counts e.count) s.limit
rule-limited lt f (Rule.operates sg h op) m = operates-limited lt f op m
rule-limited lt f (Rule.calls fg nt h l) m = f m
rule-limited lt f (Rule.tail_calls fg tl h) m = f m
rule-limited lt f (Rule.returns qf h) m = f m
rule-limited lt f (Rule.ends qf h) m = f m
rule-limited lt f (Rule.if_true h) m = f m
rule-limited lt f (Rule.if_false h) m = f m
