-- Steps of two threads that use no queue in common can be swapped; and a step has one outcome.
use Rattle.std.proofs.Common.{◌≡◌, ℕ, zero, suc, ◌+◌, ◌%◌, ◌<◌, min, ◌≢◌, List, [], ◌∷◌, ◌++◌, length, get_or, set, Some, None, Option, sym, refl, ap, ◌∙◌, subst, ap₂, arith, get_or-set_other}
use mathlib.Core.Option.{some}
use lib.ListN.{get_elem?}
use lib.Seq.{set_comm}
use Rattle.reader.specs.declared.values.Operand.{Operand}
use Rattle.reader.specs.declared.operations.Operation.{Operation}
use Rattle.reader.specs.declared.operations.Operation.TheVariants as o
use Rattle.reader.specs.Syntax.{Body, call, Function, Program}
use Rattle.typing.specs.Signatures.{◌⇒◌, signature}
use Rattle.store.specs.declared.name.Name.{Name}
use Rattle.store.specs.Packets.{Packet, Packets, lookup, new_packet, with_holder, with_byte}
use Rattle.store.specs.Meaning.{with_packets}
use Rattle.rules.specs.State.{Held, integer, owner, Frame, frame, Thread, ended, running, frames, State, queue, made, packets, name, next_name, put, Edit, edited, Effect, lined, counted, stored, apply, making, popping, storing}
use Rattle.rules.specs.Rules.{Outcome, Advanced, Waits, Gives, Operates, Rule, Moves, Step}
use Rattle.rules.specs.Promises.{occurs, Uses, NoQueueShared, Settled, Swaps}
use Rattle.rules.proofs.Puts.{lookup_other, put_comm}
use Rattle.rules.proofs.Counts.{owned, borrowed, in_frames, held, alive, present, present-at-most, total_get_or, total_two, is_same, some_same}
use Rattle.rules.proofs.Typed.{same_some}
use Rattle.rules.proofs.Frames.{Placed, at_node, called}
use Rattle.rules.proofs.Lends.{Lent}
use Rattle.rules.proofs.Holders.{given-held}
use Rattle.rules.proofs.Invariant.{Sound, not_made, rule-runs}
use Rattle.rules.proofs.Same.{give-same, gives_same, arguments-same}
use Rattle.rules.proofs.Progress.{cause_no_rule, one_cause, cause_runs}

-- the queue of an operation
data Acts (q : ℕ) : Operation → Type 0 where
  by_enq : Acts q (o.Enq q)
  by_deq : Acts q (o.Deq q)

acts-uses : {q f p k : ℕ} {op : Operation} {as' : List Operand} {next : Body} {vs : List Held} {fs : List Frame} → Acts q op → Uses q (running (frame f (call p op as' k next) vs) fs)
acts-uses Acts.by_enq = Uses.by_enq
acts-uses Acts.by_deq = Uses.by_deq

-- the packets that a step can change: one that its thread has, one in its queue, the next of its making
data Reaches (s : State) (t : ℕ) (r : Thread) (n : Name) : Type 0 where
  has : 0 < held n r → Reaches s t r n
  in_queue : (q : ℕ) → Uses q r → 0 < occurs n (queue s q) → Reaches s t r n
  to_make : n ≡ next_name s t → Reaches s t r n

-- an effect stays within this
abbrev InQueue : Thread → Option (ℕ × Edit) → Type 0
InQueue r None = Unit {0}
InQueue r (Some e) = Uses e.0 r

abbrev InCount : ℕ → Option (ℕ × ℕ) → Type 0
InCount t None = Unit {0}
InCount t (Some c) = c.0 ≡ t

abbrev InStore : State → ℕ → Thread → List (Name × Option Packet) → Type 0
InStore s t r [] = Unit {0}
InStore s t r (x ∷ xs) = Reaches s t r x.0 × InStore s t r xs

abbrev Within : State → ℕ → Thread → Effect → Type 0
Within s t r e = InQueue r e.edit × InCount t e.count × InStore s t r e.puts

operates-within : {s : State} {t : ℕ} {op : Operation} {xs rs : List Held} {e : Effect} (f p k : ℕ) (as' : List Operand) (next : Body) (vs : List Held) (fs : List Frame)
    → ((n : Name) → 0 < owned n xs + borrowed n xs → 0 < owned n vs + in_frames n fs) → Operates s t op xs e rs → Within s t (running (frame f (call p op as' k next) vs) fs) e
operates-within f p k as' next vs fs g Operates.computes = (tt, tt, tt)
operates-within f p k as' next vs fs g Operates.compares = (tt, tt, tt)
operates-within f p k as' next vs fs g Operates.connects = (tt, tt, tt)
operates-within f p k as' next vs fs g (Operates.makes h u r) = (tt, refl, (to_make refl, tt))
operates-within f p k as' next vs fs g (Operates.kills {n} h) = (tt, tt, (has (g n (let z = is_same n in omega arith)), tt))
operates-within f p k as' next vs fs g (Operates.reads_inside h r) = (tt, tt, tt)
operates-within f p k as' next vs fs g (Operates.reads_outside h r) = (tt, tt, tt)
operates-within f p k as' next vs fs g (Operates.updates_inside {n} h r) = (tt, tt, (has (g n (let z = is_same n in omega arith)), tt))
operates-within f p k as' next vs fs g (Operates.updates_outside h r) = (tt, tt, tt)
operates-within f p k as' next vs fs g (Operates.dequeues {q} {n} h r) =
    (Uses.by_deq, tt, (in_queue q Uses.by_deq (let a = ap (occurs n) h in let z = is_same n in omega arith), tt))
operates-within f p k as' next vs fs g (Operates.enqueues h) = (Uses.by_enq, tt, tt)

rule-within : {s : State} {t : ℕ} {r r' : Thread} {e : Effect} → Placed s.program r → Lent (frames r) → Rule s t r r' e → Within s t r e
rule-within (at_node q c aw) l (Rule.operates {f} {p} {k} {as' = as'} {next = next} {vs = vs} {fs = fs} sg h op) =
    operates-within f p k as' next vs fs (λ n b. given-held n (in_frames n fs) (l.0 n) (called c sg).leaves h b) op
rule-within w l (Rule.calls fg nt h lt) = (tt, tt, tt)
rule-within w l (Rule.tail_calls fg tl h) = (tt, tt, tt)
rule-within w l (Rule.returns q h) = (tt, tt, tt)
rule-within w l (Rule.ends q h) = (tt, tt, tt)
rule-within w l (Rule.if_true h) = (tt, tt, tt)
rule-within w l (Rule.if_false h) = (tt, tt, tt)

abbrev Disjoint : Thread → Thread → Type 0
Disjoint a b = (q : ℕ) → Uses q a → ¬ Uses q b

-- two threads reach no packet in common
module _ (s : State) (v : Sound s) (i j : ℕ) (ne : i ≢ j) (dis : Disjoint (get_or s.threads i ended) (get_or s.threads j ended)) where
  unmade : (m : ℕ) → alive (next_name s m) (packets s) ≡ 0
  unmade m = ap present (not_made v m)

  apart : (n : Name) → Reaches s (suc i) (get_or s.threads i ended) n → Reaches s (suc j) (get_or s.threads j ended) n → ⊥
  apart n (has a) (has b) = let x = total_two (held n) s.threads i j ended refl ne in let y = v.conserved n in let z = present-at-most (lookup n (packets s)) in omega arith
  apart n (has a) (in_queue q u b) =
      let x = total_get_or (held n) s.threads i ended refl in let w = total_get_or (occurs n) s.queues q [] refl in let y = v.conserved n in let z = present-at-most (lookup n (packets s)) in omega arith
  apart n (has a) (to_make e) =
      let x = total_get_or (held n) s.threads i ended refl in let y = v.conserved n in let z = unmade (suc j) in let w = ap (λ (m : Name). alive m (packets s)) e in omega arith
  apart n (in_queue q u a) (has b) =
      let x = total_get_or (held n) s.threads j ended refl in let w = total_get_or (occurs n) s.queues q [] refl in let y = v.conserved n in let z = present-at-most (lookup n (packets s)) in omega arith
  apart n (in_queue q u a) (in_queue r w b) =
      let x = total_two (occurs n) s.queues q r [] refl (λ e. dis r (subst (λ (k : ℕ). Uses k (get_or s.threads i ended)) e u) w) in
      let y = v.conserved n in let z = present-at-most (lookup n (packets s)) in omega arith
  apart n (in_queue q u a) (to_make e) =
      let x = total_get_or (occurs n) s.queues q [] refl in let y = v.conserved n in let z = unmade (suc j) in let w = ap (λ (m : Name). alive m (packets s)) e in omega arith
  apart n (to_make e) (has b) =
      let x = total_get_or (held n) s.threads j ended refl in let y = v.conserved n in let z = unmade (suc i) in let w = ap (λ (m : Name). alive m (packets s)) e in omega arith
  apart n (to_make e) (in_queue q u b) =
      let x = total_get_or (occurs n) s.queues q [] refl in let y = v.conserved n in let z = unmade (suc i) in let w = ap (λ (m : Name). alive m (packets s)) e in omega arith
  apart n (to_make e) (to_make d) = let z : suc i ≡ suc j = ap (λ (x : Name). x.maker) (sym e ∙ d) in ne (let y : i ≡ j = cc in y)

-- the same operation on the same values in two states that agree where it looks
operates_agree : {s s' : State} {t : ℕ} {op : Operation} {xs rs rs' : List Held} {e e' : Effect} → s.store.largest ≡ s'.store.largest → made s t ≡ made s' t
    → ((n : Name) → 0 < owned n xs + borrowed n xs → lookup n (packets s) ≡ lookup n (packets s')) → ((q : ℕ) → Acts q op → queue s q ≡ queue s' q)
    → ((q : ℕ) (n : Name) → Acts q op → 0 < occurs n (queue s q) → lookup n (packets s) ≡ lookup n (packets s')) → Operates s t op xs e rs → Operates s' t op xs e' rs' → (e ≡ e') × (rs ≡ rs')
operates_agree el em g q l Operates.computes Operates.computes = (refl, refl)
operates_agree el em g q l Operates.compares Operates.compares = (refl, refl)
operates_agree el em g q l Operates.connects Operates.connects = (refl, refl)
operates_agree {t = t} el em g q l (Operates.makes {k} h u r) (Operates.makes h' u' r') =
    (ap₂ (λ (m c : ℕ). making t c (new_packet (name t c) (min k m))) el em, ap (λ (c : ℕ). owner (name t c) ∷ []) em)
operates_agree el em g q l (Operates.kills h) (Operates.kills h') = (refl, refl)
operates_agree el em g q l (Operates.reads_inside {n} {p} {i} h r) (Operates.reads_inside {p = p'} h' r') =
    let e : p ≡ p' = some_same (sym (g n (let z = is_same n in omega arith)) ∙ h) h' in (refl, ap (λ (x : Packet). integer (get_or x.bytes i 0) ∷ []) e)
operates_agree el em g q l (Operates.reads_inside {n} {p} {i} h r) (Operates.reads_outside {p = p'} h' r') =
    let e : p ≡ p' = some_same (sym (g n (let z = is_same n in omega arith)) ∙ h) h' in let z = ap (λ (x : Packet). length x.bytes) e in absurd (omega arith)
operates_agree el em g q l (Operates.reads_outside {n} {p} {i} h r) (Operates.reads_inside {p = p'} h' r') =
    let e : p ≡ p' = some_same (sym (g n (let z = is_same n in omega arith)) ∙ h) h' in let z = ap (λ (x : Packet). length x.bytes) e in absurd (omega arith)
operates_agree el em g q l (Operates.reads_outside h r) (Operates.reads_outside h' r') = (refl, refl)
operates_agree el em g q l (Operates.updates_inside {n} {p} {i} {k} h r) (Operates.updates_inside {p = p'} h' r') =
    let e : p ≡ p' = some_same (sym (g n (let z = is_same n in omega arith)) ∙ h) h' in (ap (λ (x : Packet). storing n (Some (with_byte i (k % 256) x))) e, refl)
operates_agree el em g q l (Operates.updates_inside {n} {p} {i} h r) (Operates.updates_outside {p = p'} h' r') =
    let e : p ≡ p' = some_same (sym (g n (let z = is_same n in omega arith)) ∙ h) h' in let z = ap (λ (x : Packet). length x.bytes) e in absurd (omega arith)
operates_agree el em g q l (Operates.updates_outside {n} {p} {i} h r) (Operates.updates_inside {p = p'} h' r') =
    let e : p ≡ p' = some_same (sym (g n (let z = is_same n in omega arith)) ∙ h) h' in let z = ap (λ (x : Packet). length x.bytes) e in absurd (omega arith)
operates_agree el em g q l (Operates.updates_outside h r) (Operates.updates_outside h' r') = (refl, refl)
operates_agree {s' = s'} {t = t} el em g eq l (Operates.dequeues {q} {n} {ns} {p} h r) (Operates.dequeues {n = m} {ns = ms} {p = p'} h' r') =
    let a = eq q Acts.by_deq in
    let en : n ≡ m = cc in
    let b = l q n Acts.by_deq (let x = ap (occurs n) h in let z = is_same n in omega arith) in
    let c : lookup n (packets s') ≡ Some p' = subst (λ (y : Name). lookup y (packets s') ≡ Some p') (sym en) r' in
    let ep : p ≡ p' = some_same (sym b ∙ r) c in
    (ap₂ (λ (y : Name) (x : Packet). popping q y (Some (with_holder t x))) en ep, ap (λ (y : Name). owner y ∷ []) en)
operates_agree el em g eq l (Operates.enqueues h) (Operates.enqueues h') = (refl, refl)

-- the same thread in two states that agree where it looks does the same
module _ (s s' : State) (t : ℕ) (ep : s.program ≡ s'.program) (el : s.store.largest ≡ s'.store.largest) (em : made s t ≡ made s' t) where
  same-function : (f : ℕ) {F G : Function} → get_elem? s.program.functions f ≡ some F → get_elem? s'.program.functions f ≡ some G → F ≡ G
  same-function f {F} {G} p q = same_some p (subst (λ (P : Program). get_elem? P.functions f ≡ some G) (sym ep) q)

  rule-agree : {r a b : Thread} {e e' : Effect} → ((n : Name) → Reaches s t r n → lookup n (packets s) ≡ lookup n (packets s')) → ((q : ℕ) → Uses q r → queue s q ≡ queue s' q)
      → Placed s.program r → Lent (frames r) → Rule s t r a e → Rule s' t r b e' → (a ≡ b) × (e ≡ e')
  rule-agree lk qu (at_node q c aw) l (Rule.operates {f} {op = op} {next = next} {fs = fs} sg h w) (Rule.operates {ρs = ρs'} {σs = σs'} {rs = rs'} {e = e'} sg' h' w') =
      let (xs, ws) = arguments-same s.program op sg (subst (λ (P : Program). signature P op ≡ some (ρs' ⇒ σs')) (sym ep) sg') h h' in
      let (e, rs) = operates_agree el em (λ n b. lk n (has (given-held n (in_frames n fs) (l.0 n) (called c sg).leaves h b))) (λ q a. qu q (acts-uses a)) (λ q n a b. lk n (in_queue q (acts-uses a) b)) w
      (subst (λ (zs : List Held). Operates s' t op zs e' rs') (sym xs) w') in
      (ap₂ (λ (x y : List Held). running (frame f next (x ++ y)) fs) ws rs, e)
  rule-agree lk qu w l (Rule.operates sg h x) (Rule.calls fg nt h' lt) = elim x [ ]
  rule-agree lk qu w l (Rule.operates sg h x) (Rule.tail_calls fg tl h') = elim x [ ]
  rule-agree lk qu w l (Rule.calls fg nt h lt) (Rule.operates sg h' x) = elim x [ ]
  rule-agree lk qu w l (Rule.calls {f} {g} {as' = as'} {next = next} {vs = vs} {fs = fs} fg nt h lt) (Rule.calls {ws = ws'} {xs = xs'} fg' nt' h' lt') =
      let e = same-function g fg fg' in let (xs, ws) = gives_same h (subst (λ (H : Function). Gives vs as' H.params xs' ws') (sym e) h') in
      ((λ i. running (frame g (e i).body (xs i)) (frame f next (ws i) ∷ fs)), refl)
  rule-agree lk qu w l (Rule.calls fg nt h lt) (Rule.tail_calls fg' tl' h') = absurd (nt tl')
  rule-agree lk qu w l (Rule.tail_calls fg tl h) (Rule.operates sg h' x) = elim x [ ]
  rule-agree lk qu w l (Rule.tail_calls fg tl h) (Rule.calls fg' nt' h' lt') = absurd (nt' tl)
  rule-agree lk qu w l (Rule.tail_calls {g = g} {as' = as'} {vs = vs} {fs = fs} fg tl h) (Rule.tail_calls {ws = ws'} {xs = xs'} fg' tl' h') =
      let e = same-function g fg fg' in let (xs, ws) = gives_same h (subst (λ (H : Function). Gives vs as' H.params xs' ws') (sym e) h') in
      ((λ i. running (frame g (e i).body (xs i)) fs), refl)
  rule-agree lk qu w l (Rule.returns {f} {g} {as' = as'} {next = next} {vs = vs} {us = us} {fs = fs} q h) (Rule.returns {ws = ws'} {xs = xs'} q' h') =
      let e = same-function f q q' in let (xs, ws) = gives_same h (subst (λ (H : Function). Gives vs as' H.results xs' ws') (sym e) h') in
      ((λ i. running (frame g next (us ++ xs i)) fs), refl)
  rule-agree lk qu w l (Rule.ends q h) (Rule.ends q' h') = (refl, refl)
  rule-agree lk qu w l (Rule.if_true h) (Rule.if_true h') = (refl, refl)
  rule-agree lk qu w l (Rule.if_true h) (Rule.if_false h') = let e = (give-same h h').0 in let z : ◌≡◌ {A = ℕ} 0 1 = cc in absurd (omega arith)
  rule-agree lk qu w l (Rule.if_false h) (Rule.if_true h') = let e = (give-same h h').0 in let z : ◌≡◌ {A = ℕ} 0 1 = cc in absurd (omega arith)
  rule-agree lk qu w l (Rule.if_false h) (Rule.if_false h') = (refl, refl)

-- Changes at different places commute.
abbrev Differ : {I A : Type 0} → Option (I × A) → Option (I × A) → Type 0
Differ None b = Unit {0}
Differ (Some p) None = Unit {0}
Differ (Some p) (Some q) = p.0 ≢ q.0

counted_comm : (cs : List ℕ) (a b : Option (ℕ × ℕ)) → Differ a b → counted (counted cs a) b ≡ counted (counted cs b) a
counted_comm cs None b h = refl
counted_comm cs (Some p) None h = refl
counted_comm cs (Some p) (Some q) h = set_comm cs p.0 q.0 p.1 q.1 h

lined_comm : (qs : List (List Name)) (a b : Option (ℕ × Edit)) → Differ a b → lined (lined qs a) b ≡ lined (lined qs b) a
lined_comm qs None b h = refl
lined_comm qs (Some p) None h = refl
lined_comm qs (Some p) (Some q) h =
    let x = get_or-set_other qs p.0 q.0 (edited p.1 (get_or qs p.0 [])) [] (λ e. h (sym e)) in
    let y = get_or-set_other qs q.0 p.0 (edited q.1 (get_or qs q.0 [])) [] h in
    ap (λ (z : List Name). set (set qs p.0 (edited p.1 (get_or qs p.0 []))) q.0 (edited q.1 z)) x
    ∙ set_comm qs p.0 q.0 (edited p.1 (get_or qs p.0 [])) (edited q.1 (get_or qs q.0 [])) h
    ∙ sym (ap (λ (z : List Name). set (set qs q.0 (edited q.1 (get_or qs q.0 []))) p.0 (edited p.1 z)) y)

-- a name that nothing is put under
abbrev Off : Name → List (Name × Option Packet) → Type 0
Off n [] = Unit {0}
Off n (x ∷ xs) = (n ≢ x.0) × Off n xs

abbrev AllOff : List (Name × Option Packet) → List (Name × Option Packet) → Type 0
AllOff [] b = Unit {0}
AllOff (x ∷ xs) b = Off x.0 b × AllOff xs b

stored-put : (ps : Packets) (n : Name) (p : Option Packet) (b : List (Name × Option Packet)) → Off n b → stored (put n p ps) b ≡ put n p (stored ps b)
stored-put ps n p [] h = refl
stored-put ps n p (x ∷ xs) h = ap (λ (r : Packets). stored r xs) (put_comm n x.0 p x.1 ps h.0) ∙ stored-put (put x.0 x.1 ps) n p xs h.1

stored_comm : (ps : Packets) (a b : List (Name × Option Packet)) → AllOff a b → stored (stored ps a) b ≡ stored (stored ps b) a
stored_comm ps [] b h = refl
stored_comm ps (x ∷ xs) b h = stored_comm (put x.0 x.1 ps) xs b h.1 ∙ ap (λ (r : Packets). stored r xs) (stored-put ps x.0 x.1 b h.0)

stored_other : (n : Name) (ps : Packets) (b : List (Name × Option Packet)) → Off n b → lookup n ps ≡ lookup n (stored ps b)
stored_other n ps [] h = refl
stored_other n ps (x ∷ xs) h = sym (lookup_other n x.0 x.1 ps h.0) ∙ stored_other n (put x.0 x.1 ps) xs h.1

apply_comm : (s : State) (i j : ℕ) (a b : Thread) (ea eb : Effect) → i ≢ j → Differ ea.edit eb.edit → Differ ea.count eb.count → AllOff ea.puts eb.puts
    → apply (suc j) b eb (apply (suc i) a ea s) ≡ apply (suc i) a ea (apply (suc j) b eb s)
apply_comm s i j a b ea eb ne q c p =
    let x = set_comm s.threads i j a b ne in
    let y = lined_comm s.queues ea.edit eb.edit q in
    let z = counted_comm s.counts ea.count eb.count c in
    let w = stored_comm (packets s) ea.puts eb.puts p in
    λ k. record { program = s.program; threads = x k; queues = y k; counts = z k; limit = s.limit; store = with_packets s.store (w k) }

queues-differ : (a b : Thread) (p q : Option (ℕ × Edit)) → Disjoint a b → InQueue a p → InQueue b q → Differ p q
queues-differ a b None q d x y = tt
queues-differ a b (Some p) None d x y = tt
queues-differ a b (Some p) (Some q) d x y = λ e. d q.0 (subst (λ (k : ℕ). Uses k a) e x) y

counts-differ : (t u : ℕ) (p q : Option (ℕ × ℕ)) → t ≢ u → InCount t p → InCount u q → Differ p q
counts-differ t u None q d x y = tt
counts-differ t u (Some p) None d x y = tt
counts-differ t u (Some p) (Some q) d x y = λ e. d (sym x ∙ e ∙ y)

queue_other : (a b : Thread) (qs : List (List Name)) (p : Option (ℕ × Edit)) (q : ℕ) → Disjoint a b → InQueue a p → Uses q b → get_or qs q [] ≡ get_or (lined qs p) q []
queue_other a b qs None q d x u = refl
queue_other a b qs (Some p) q d x u = sym (get_or-set_other qs p.0 q _ [] (λ e. d q (subst (λ (k : ℕ). Uses k a) (sym e) x) u))

count_other : (t u : ℕ) (cs : List ℕ) (p : Option (ℕ × ℕ)) → t ≢ u → InCount t p → get_or cs u 0 ≡ get_or (counted cs p) u 0
count_other t u cs None d x = refl
count_other t u cs (Some p) d x = sym (get_or-set_other cs p.0 u p.1 0 (λ e. d (sym x ∙ sym e)))

module _ (s : State) (v : Sound s) (i j : ℕ) (ne : i ≢ j) (dis : Disjoint (get_or s.threads i ended) (get_or s.threads j ended)) where
  store-off : (n : Name) (b : List (Name × Option Packet)) → Reaches s (suc i) (get_or s.threads i ended) n → InStore s (suc j) (get_or s.threads j ended) b → Off n b
  store-off n [] r y = tt
  store-off n (x ∷ xs) r y = ((λ e. apart s v i j ne dis n r (subst (Reaches s (suc j) (get_or s.threads j ended)) (sym e) y.0)), store-off n xs r y.1)

  stores-differ : (a b : List (Name × Option Packet)) → InStore s (suc i) (get_or s.threads i ended) a → InStore s (suc j) (get_or s.threads j ended) b → AllOff a b
  stores-differ [] b x y = tt
  stores-differ (c ∷ cs) b x y = (store-off c.0 b x.0 y, stores-differ cs b x.1 y)

module _ (s : State) (v : Sound s) (i j : ℕ) (ne : i ≢ j) (dis : Disjoint (get_or s.threads i ended) (get_or s.threads j ended)) where
  -- the second thread does what it would have done first
  as_before : {a b b' : Thread} {ea eb eb' : Effect} → Rule s (suc i) (get_or s.threads i ended) a ea → Rule s (suc j) (get_or s.threads j ended) b eb
      → Rule (apply (suc i) a ea s) (suc j) (get_or (set s.threads i a) j ended) b' eb' → (b ≡ b') × (eb ≡ eb')
  as_before {a} {b' = b'} {ea = ea} {eb' = eb'} ra rb rb' =
      let w = rule-within (v.placed i) (v.lent i) ra in
      let em = count_other (suc i) (suc j) s.counts ea.count (λ e. ne (let z : i ≡ j = cc in z)) w.1 in
      rule-agree s (apply (suc i) a ea s) (suc j) refl refl em (λ n r. stored_other n (packets s) ea.puts (store-off s v j i (λ e. ne (sym e)) (λ q u w. dis q w u) n ea.puts r w.2))
      (λ q u. queue_other (get_or s.threads i ended) (get_or s.threads j ended) s.queues ea.edit q dis w.0 u) (v.placed j) (v.lent j) rb
      (subst (λ (r : Thread). Rule (apply (suc i) a ea s) (suc j) r b' eb') (get_or-set_other s.threads i j a ended (λ e. ne (sym e))) rb')

swapped : (s : State) → Sound s → (i j : ℕ) → i ≢ j → Disjoint (get_or s.threads i ended) (get_or s.threads j ended) → (a b a' b' : Thread) (ea eb ea' eb' : Effect)
    → Rule s (suc i) (get_or s.threads i ended) a ea → Rule (apply (suc i) a ea s) (suc j) (get_or (set s.threads i a) j ended) b' eb'
    → Rule s (suc j) (get_or s.threads j ended) b eb → Rule (apply (suc j) b eb s) (suc i) (get_or (set s.threads j b) i ended) a' ea'
    → apply (suc j) b' eb' (apply (suc i) a ea s) ≡ apply (suc i) a' ea' (apply (suc j) b eb s)
swapped s v i j ne dis a b a' b' ea eb ea' eb' ra rb' rb ra' =
    let x = as_before s v i j ne dis ra rb rb' in
    let y = as_before s v j i (λ e. ne (sym e)) (λ q u w. dis q w u) rb ra ra' in
    let wa = rule-within (v.placed i) (v.lent i) ra in
    let wb = rule-within (v.placed j) (v.lent j) rb in
    let differ : suc i ≢ suc j = (λ e. ne (let z : i ≡ j = cc in z)) in
    ap₂ (λ (r : Thread) (e : Effect). apply (suc j) r e (apply (suc i) a ea s)) (sym x.0) (sym x.1)
    ∙ apply_comm s i j a b ea eb ne (queues-differ (get_or s.threads i ended) (get_or s.threads j ended) ea.edit eb.edit dis wa.0 wb.0)
    (counts-differ (suc i) (suc j) ea.count eb.count differ wa.1 wb.1) (stores-differ s v i j ne dis ea.puts eb.puts wa.2 wb.2)
    ∙ ap₂ (λ (r : Thread) (e : Effect). apply (suc i) r e (apply (suc j) b eb s)) y.0 y.1

pub swaps : (s : State) → Sound s → Swaps s
swaps s v a b ne dis s₁ s₂ s₃ s₄ p q r u = go a b ne dis p q r u
  where
    go : (a b : ℕ) → a ≢ b → NoQueueShared s a b → {s₁ s₂ s₃ s₄ : State} → Step s a Advanced s₁ → Step s₁ b Advanced s₂ → Step s b Advanced s₃ → Step s₃ a Advanced s₄ → s₂ ≡ s₄
    go zero b ne dis (Step.moves (Moves.advances p)) q r u = absurd (rule-runs p refl)
    go (suc i) zero ne dis p q (Step.moves (Moves.advances r)) u = absurd (rule-runs r refl)
    go (suc i) (suc j) ne dis (Step.moves (Moves.advances {r = a} {e = ea} p)) (Step.moves (Moves.advances {r = b'} {e = eb'} q)) (Step.moves (Moves.advances {r = b} {e = eb} r)) (Step.moves (Moves.advances {r = a'} {e = ea'} u)) =
        swapped s v i j (λ e. ne (ap suc e)) dis a b a' b' ea eb ea' eb' p q r u

-- A step has one outcome.
moves-same : {s : State} → Sound s → (t : ℕ) {a b : Outcome} {x y : State} → Moves s t a x → Moves s t b y → (a ≡ b) × (x ≡ y)
moves-same v zero (Moves.advances p) q = absurd (rule-runs p refl)
moves-same {s} v (suc i) (Moves.advances p) (Moves.advances q) =
    let (r, e) = rule-agree s s (suc i) refl refl refl (λ n h. refl) (λ q u. refl) (v.placed i) (v.lent i) p q in
    (refl, ap₂ (λ (r : Thread) (e : Effect). apply (suc i) r e s) r e)
moves-same v (suc i) (Moves.advances p) (Moves.waits c) = absurd (cause_no_rule c p)
moves-same v (suc i) (Moves.advances p) (Moves.has_ended e) = absurd (rule-runs p e)
moves-same v t (Moves.waits c) (Moves.advances q) = absurd (cause_no_rule c q)
moves-same v t (Moves.waits c) (Moves.waits d) = (ap Waits (one_cause c d), refl)
moves-same v t (Moves.waits c) (Moves.has_ended e) = absurd (cause_runs c e)
moves-same v t (Moves.has_ended e) (Moves.advances q) = absurd (rule-runs q e)
moves-same v t (Moves.has_ended e) (Moves.waits d) = absurd (cause_runs d e)
moves-same v t (Moves.has_ended e) (Moves.has_ended d) = (refl, refl)

pub settled : (s : State) → Sound s → Settled s
settled s v t a b x y p q = go p q
  where
    go : {a b : Outcome} {x y : State} → Step s t a x → Step s t b y → (a ≡ b) × (x ≡ y)
    go (Step.moves p) (Step.moves q) = moves-same v t p q
    go (Step.moves p) (Step.sticks n) = absurd (n _ _ p)
    go (Step.sticks n) (Step.moves p) = absurd (n _ _ p)
    go (Step.sticks n) (Step.sticks m) = (refl, refl)
