-- Ownership, from the invariant.
use Rattle.std.proofs.Common.{◌≡◌, ℕ, zero, suc, ◌+◌, ◌<◌, ◌≤◌, ◌⊎◌, List, [], ◌∷◌, get_or, Some, sym, refl, ap, subst, inl, inr, ⊎_elim, not-suc-le-zero, arith}
use Rattle.reader.specs.Syntax.{Body}
use Rattle.store.specs.declared.name.Name.{Name}
use Rattle.store.specs.Packets.{Packet, lookup}
use Rattle.rules.specs.State.{Held, nothing, integer, truth, owner, alias, Frame, frame, ended, frames, State, thread, packets}
use Rattle.rules.specs.Promises.{Among, here, there, total, is, occurs, queued, Refers, as_owner, as_alias, ThreadNames, QueueNames, HeldOnce, QueuedOnce, Owned}
use Rattle.rules.proofs.Counts.{own, borrow, owned, borrowed, in_frame, in_frames, held, held_by, present, present-some, total_get_or, pos_split, is_same, is_found}
use Rattle.rules.proofs.Lends.{Lent}
use Rattle.rules.proofs.Holders.{Holds}
use Rattle.rules.proofs.Invariant.{Sound}

among-total : {A : Type 0} (f : A → ℕ) (x : A) {xs : List A} → Among x xs → f x ≤ total f xs
among-total f x here = omega arith
among-total f x (there w) = let h = among-total f x w in omega arith

total-among : {A : Type 0} (f : A → ℕ) (xs : List A) → 0 < total f xs → (x : A) × Among x xs × (0 < f x)
total-among f [] h = absurd (not-suc-le-zero h)
total-among f (x ∷ xs) h = ⊎_elim (λ p. (x, here, p)) (λ p. let (y, w, k) = total-among f xs p in (y, there w, k)) (pos_split (f x) (total f xs) h)

total-index : {A : Type 0} (f : A → ℕ) (xs : List A) (d : A) → 0 < total f xs → (i : ℕ) × (0 < f (get_or xs i d))
total-index f [] d h = absurd (not-suc-le-zero h)
total-index f (x ∷ xs) d h = ⊎_elim (λ p. (zero, p)) (λ p. let (i, k) = total-index f xs d p in (suc i, k)) (pos_split (f x) (total f xs) h)

own-refers : (n : Name) (v : Held) → 0 < own n v → Refers n v
own-refers n nothing h = absurd (not-suc-le-zero h)
own-refers n (integer k) h = absurd (not-suc-le-zero h)
own-refers n (truth b) h = absurd (not-suc-le-zero h)
own-refers n (owner m) h = subst (λ (k : Name). Refers n (owner k)) (is_found n m h) as_owner
own-refers n (alias m) h = absurd (not-suc-le-zero h)

refers-counts : {n : Name} {v : Held} → Refers n v → 0 < own n v + borrow n v
refers-counts {n} as_owner = let h = is_same n in omega arith
refers-counts {n} as_alias = let h = is_same n in omega arith

lent-held : (n : Name) (f : ℕ) {b : Body} (vs : List Held) {fs : List Frame} → Among (frame f b vs) fs → Lent fs → 0 < borrowed n vs → 0 < in_frames n fs
lent-held n f vs here l h = let k = l.0 n h in omega arith
lent-held n f vs (there {y = frame g c us} w) l h = let k = lent-held n f vs w l.1 h in omega arith

-- a thread that names a packet has its owner
names-held : {s : State} (t : ℕ) (n : Name) → Lent (frames (thread s t)) → ThreadNames s t n → 0 < held n (thread s t)
names-held {s} t n l w =
    let a = refers-counts w.refers in
    let b = among-total (own n) w.held w.among in
    let c = among-total (borrow n) w.held w.among in
    let d = among-total (in_frame n) (frame w.function w.node w.variables) w.framed in
    ⊎_elim (λ p. omega arith) (λ p. lent-held n w.function w.variables w.framed l (omega arith)) (pos_split (own n w.held) (borrow n w.held) a)

frame_of : (n : Name) (f : Frame) → 0 < in_frame n f → (g : ℕ) × (b : Body) × (vs : List Held) × (f ≡ frame g b vs) × (0 < owned n vs)
frame_of n (frame g b vs) h = (g, b, vs, refl, h)

held-names : {s : State} (t : ℕ) (n : Name) → 0 < held n (thread s t) → ThreadNames s t n
held-names {s} t n h =
    let (f, framed, k) = total-among (in_frame n) (frames (thread s t)) h in
    let (g, b, vs, e, o) = frame_of n f k in
    let (x, among, r) = total-among (own n) vs o in
    record { function = g; node = b; variables = vs; held = x; framed = subst (λ (f : Frame). Among f (frames (thread s t))) e framed; among = among; refers = own-refers n x r }

queue-counts : (s : State) (n : Name) → QueueNames s n → 0 < queued n s.queues
queue-counts s n (q, among, names) = let a = among-total (occurs n) q among in let b = among-total (is n) n names in let c = is_same n in omega arith

thread-counts : {s : State} → Sound s → (t : ℕ) (n : Name) → ThreadNames s t n → (0 < held_by n s.threads) × ((p : Packet) → lookup n (packets s) ≡ Some p → p.holder ≡ t)
thread-counts {s} v zero n w = elim w.framed [ ]
thread-counts {s} v (suc i) n w =
    let h = names-held (suc i) n (v.lent i) w in
    ((let a = total_get_or (held n) s.threads i ended refl in omega arith), λ p e. subst (Holds (suc i)) e (v.holds i n h))

pub owned-stands : (s : State) → Sound s → Owned s
owned-stands s v = record {
  once = λ n p e. split n p e (held_by n s.threads) refl;
  threads_alive = λ t n w. present-some (lookup n (packets s)) (let a = (thread-counts v t n w).0 in let b = v.conserved n in omega arith);
  queues_alive = λ n w. present-some (lookup n (packets s)) (let a = queue-counts s n w in let b = v.conserved n in omega arith);
}
  where
    split : (n : Name) (p : Packet) → lookup n (packets s) ≡ Some p → (k : ℕ) → held_by n s.threads ≡ k → HeldOnce s n p ⊎ QueuedOnce s n
    split n p e zero h = inr (record {
      by_no_thread = λ t w. let a = (thread-counts v t n w).0 in omega arith;
      once = let a = v.conserved n in let b = ap present e in omega arith;
    })
    split n p e (suc k) h =
        let (i, k) = total-index (held n) s.threads ended (omega arith) in
        let t : p.holder ≡ suc i = subst (Holds (suc i)) e (v.holds i n k) in
        inl (record {
          by_holder = subst (λ (u : ℕ). ThreadNames s u n) (sym t) (held-names (suc i) n k);
          by_no_other = λ u w. sym ((thread-counts v u n w).1 p e);
          by_no_queue = λ w. let a = queue-counts s n w in let b = v.conserved n in let c = ap present e in omega arith;
        })
