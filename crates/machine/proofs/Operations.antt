-- What operations do outside a thread, from what the store and the queues answer.
use Rattle.std.proofs.Common.{◌≡◌, ℕ, ◌+◌, ◌<◌, ◌≤◌, ◌%◌, Bool, true, false, T, not, ◌&&◌, ltb, ◌==◌, List, [], ◌∷◌, length, map, take, slice_get, slice_index, Some, None, Ok, Err, Option, refl, sym, ap, subst, arith, length-take}
use Rattle.std.proofs.lemmas.List.{length-map}
use Rattle.std.proofs.Math.Option.{some}
use Rattle.std.proofs.lemmas.Bool.{ltb-true, ltb-false}
use Rattle.reader.specs.declared.operations.Operation.TheVariants as o
use Rattle.reader.specs.Syntax.{Program}
use Rattle.typing.specs.Signatures.{Ty, ◌⇒◌, signature}
use Rattle.store.specs.declared.name.Name.{Name}
use Rattle.store.specs.declared.denial.Question.{Question}
use Rattle.store.specs.declared.denial.Question.TheVariants.{Inside}
use Rattle.store.specs.Packets.{Packet, lookup}
use Rattle.store.specs.Meaning.{Meaning, units, ask, answer, alive_no, size_of, size_answer, inside_no, byte_of, read_answer}
use Rattle.rules.specs.State.{State, packets, name, next_name, made, queue, Effect}
use Rattle.rules.specs.declared.held.Held.{Held}
use Rattle.rules.specs.declared.held.Held.TheVariants.{Integer as integer, Owner as owner, Alias as alias}
use Rattle.rules.specs.Rules.{RoomFor, made_size, Operates, makes, kills, reads_inside, reads_outside, updates_inside, updates_outside, dequeues, Delays, on_empty, on_room}
use Rattle.rules.specs.declared.outcomes.Cause.{Cause}
use Rattle.rules.specs.declared.outcomes.Cause.TheVariants.{NoRoom}
use Rattle.rules.specs.declared.outcomes.Outcome.TheVariants.{Stuck}
use Rattle.rules.proofs.Typed.{provided-row}
use Rattle.machine.specs.Moves.{Operated}
use Rattle.machine.specs.declared.moves.Outside.TheVariants.{Nothing, Make, Discard, Write, Take}

-- ---- what a store that means m answers of a packet
-- a size is that of a packet alive
size-alive : (x : Option Packet) {k : ℕ} → Ok k ≡ answer (alive_no x) (size_of x) → (p : Packet) × (x ≡ Some p) × (k ≡ length p.bytes)
size-alive None e = absurd (cc)
size-alive (Some p) e = (p, refl, cc)

-- a byte that is read lies inside a packet alive
byte-inside : (x : Option Packet) (i : ℕ) {k : ℕ} → Ok k ≡ answer (inside_no x i) (byte_of x i) → (p : Packet) × (x ≡ Some p) × (i < length p.bytes) × (k ≡ slice_index p.bytes i)
byte-inside None i e = absurd (cc)
byte-inside (Some p) i {k} e = go (ltb i (length p.bytes)) refl e
  where
    go : (b : Bool) → ltb i (length p.bytes) ≡ b → Ok k ≡ answer (ask Inside b None) (slice_index p.bytes i)
        → (q : Packet) × (Some p ≡ Some q) × (i < length q.bytes) × (k ≡ slice_index q.bytes i)
    go true t e = (p, refl, ltb-true _ _ t, cc)
    go false t e = absurd (cc)

-- an offset that is refused lies outside a packet alive
byte-outside : (x : Option Packet) (i : ℕ) → Err Inside ≡ answer (inside_no x i) (byte_of x i) → (p : Packet) × (x ≡ Some p) × (length p.bytes ≤ i)
byte-outside None i e = absurd (cc)
byte-outside (Some p) i e = go (ltb i (length p.bytes)) refl e
  where
    go : (b : Bool) → ltb i (length p.bytes) ≡ b → Err Inside ≡ answer (ask Inside b None) (slice_index p.bytes i) → (q : Packet) × (Some p ≡ Some q) × (length q.bytes ≤ i)
    go true t e = absurd (cc)
    go false t e = (p, refl, ltb-false _ _ t)

-- ---- the oldest name of a queue
oldest : (ns : List Name) {n : Name} → slice_get ns 0 ≡ Some n → (ms : List Name) × (ns ≡ n ∷ ms)
oldest [] h = absurd (cc)
oldest (k ∷ ms) h = (ms, cc)

pub none_waits : (ns : List Name) → slice_get ns 0 ≡ None → ns ≡ []
none_waits [] h = refl
none_waits (k ∷ ms) h = absurd (cc)

module _ (s : State) (t : ℕ) (n : Name) {m : Meaning} (is : s.store ≡ m) where
  sized : {k : ℕ} → Ok k ≡ size_answer m n → (p : Packet) × (lookup n (packets s) ≡ Some p) × (k ≡ length p.bytes)
  sized {k} h = size-alive (lookup n (packets s)) (subst (λ (w : Meaning). Ok k ≡ size_answer w n) (sym is) h)

  pub killed : {k : ℕ} → Ok k ≡ size_answer m n → Operated s t o.Kill (owner n ∷ []) (Ok (Discard n, None))
  killed h = let (p, l, z) = sized h in (kills l, (p, l))

  pub read_inside : {i k : ℕ} → Ok k ≡ read_answer m n i → Operated s t o.Read (alias n ∷ integer i ∷ []) (Ok (Nothing, Some (integer k)))
  read_inside {i} {k} h =
      let (p, l, b, z) = byte-inside (lookup n (packets s)) i (subst (λ (w : Meaning). Ok k ≡ read_answer w n i) (sym is) h) in
      (rw z (reads_inside l b), tt)

  pub read_outside : {i : ℕ} → Err Inside ≡ read_answer m n i → Operated s t o.Read (alias n ∷ integer i ∷ []) (Ok (Nothing, Some (integer 0)))
  read_outside {i} h =
      let (p, l, b) = byte-outside (lookup n (packets s)) i (subst (λ (w : Meaning). Err Inside ≡ read_answer w n i) (sym is) h) in
      (reads_outside l b, tt)

  pub updated_inside : {i j k : ℕ} → Ok k ≡ size_answer m n → i < k → Operated s t o.Update (alias n ∷ integer i ∷ integer j ∷ []) (Ok (Write n i (j % 256), None))
  updated_inside {i} {j} {k} h b = let (p, l, z) = sized h in let r : i < length p.bytes = omega arith in (rw l (updates_inside l r), (p, l, r))

  pub updated_outside : {i j k : ℕ} → Ok k ≡ size_answer m n → k ≤ i → Operated s t o.Update (alias n ∷ integer i ∷ integer j ∷ []) (Ok (Nothing, None))
  updated_outside {i} h b = let (p, l, z) = sized h in let r : length p.bytes ≤ i = omega arith in (updates_outside l r, tt)

  pub taken : {q k : ℕ} → slice_get (queue s q) 0 ≡ Some n → Ok k ≡ size_answer m n → Operated s t (o.Deq q) [] (Ok (Take q n, Some (owner n)))
  taken {q} d h = let (p, l, z) = sized h in let (ns, f) = oldest (queue s q) d in (rw l (dequeues f l), ((p, l), (ns, f)))

  -- nothing comes of a deq where the oldest name is that of no packet
  pub not_taken : {q : ℕ} {x : Question} → slice_get (queue s q) 0 ≡ Some n → Err x ≡ size_answer m n → Operated s t (o.Deq q) [] (Err Stuck)
  not_taken {q} {x} d h = (no_rule, no_cause)
    where
      gone : (w : Option Packet) → Err x ≡ answer (alive_no w) (size_of w) → w ≡ None
      gone None e = refl
      gone (Some p) e = absurd (cc)

      no_rule : (e : Effect) (rs : List Held) → ¬ Operates s t (o.Deq q) [] e rs
      no_rule e rs (dequeues {n = k} f l) =
          let z = gone (lookup n (packets s)) (subst (λ (w : Meaning). Err x ≡ size_answer w n) (sym is) h) in
          let (ns, g) = oldest (queue s q) d in
          let same : k ≡ n = cc in absurd (cc)

      no_cause : (c : Cause) → ¬ Delays s t (o.Deq q) [] c
      no_cause c (on_empty f) = let (ns, g) = oldest (queue s q) d in absurd (cc)

-- ---- a new packet
module _ (s : State) (t k : ℕ) {size : ℕ} (e : size ≡ made_size s k) (below : made s t < s.limit) where
  pub room_awaited : ¬ RoomFor s.store size → Delays s t o.New (integer k ∷ []) NoRoom
  room_awaited h = on_room below (λ r. h (let z = ap s.store.need e in omega arith))

  pub made_packet : {count : ℕ} → count ≡ made s t → lookup (next_name s t) (packets s) ≡ None → units s.store + s.store.need size ≤ s.store.capacity
      → Operated s t o.New (integer k ∷ []) (Ok (Make size, Some (owner (name t count))))
  made_packet c f h = let z = ap s.store.need e in let r : units s.store + s.store.need (made_size s k) ≤ s.store.capacity = omega arith in (rw (c, e) (makes below f r), (f, omega arith, h, below))

-- ---- queues
pub queue_stands : (P : Program) (q : ℕ) {ρs σs : List Ty} → signature P (o.Enq q) ≡ some (ρs ⇒ σs) → q < 2 + P.queues
queue_stands P q h = go (ltb q (2 + P.queues)) refl (provided-row _ h).0
  where
    go : (b : Bool) → ltb q (2 + P.queues) ≡ b → T (b && not (q == 0)) → q < 2 + P.queues
    go true e y = ltb-true _ _ e
    go false e y = absurd y

-- the first k of at least k lists
pub taken-length : {A B : Type 0} (f : A → B) (k : ℕ) (xs : List A) → k ≤ length xs → length (map f (take k xs)) ≡ k
taken-length f k xs h = simp (length-map, length-take) (omega arith)
