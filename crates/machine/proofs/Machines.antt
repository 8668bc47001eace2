-- What the code of a machine relies on in every state that calls lead to, and what each call keeps.
use Rattle.std.proofs.Common.{◌≡◌, ◌≢◌, ℕ, zero, suc, ◌+◌, ◌<◌, ◌≤◌, true, false, List, [], ◌∷◌, length, get_or, Some, None, Option, Ok, Err, Result, sym, refl, ap, ◌∙◌, subst, arith}
use Rattle.std.proofs.Math.Logic.{∥∥₁_elim}
use Rattle.std.proofs.Props.{props}
use mathlib.Core.Option.{some, some-injective}
use lib.ListN.{get_elem?, length-map}
use Rattle.reader.specs.declared.operations.Operation.{Operation}
use Rattle.reader.specs.declared.types.Ty.{Ty}
use Rattle.reader.specs.declared.values.Operand.{Operand}
use Rattle.reader.specs.Syntax.{Body, call, Function, Program}
use Rattle.typing.specs.Signatures.{◌⇒◌, signature}
use Rattle.typing.specs.Typing.{Entry}
use Rattle.std.specs.Prelude.{slice_get, is_some}
use Rattle.reader.specs.Programs.{reading}
use Rattle.typing.specs.Layers.{verdict}
use Rattle.code.specs.declared.copies.Code.{Code}
use Rattle.code.specs.Copies.{program_of}
use Rattle.store.specs.declared.name.Name.{Name}
use Rattle.store.specs.declared.denial.Question.{Question}
use Rattle.store.specs.Packets.{Packet, lookup}
use Rattle.store.specs.Meaning.{units, found, answer, alive_no, size_of, size_answer}
use Rattle.rules.specs.Promises.{Among, here, there}
use Rattle.rules.specs.declared.held.Held.{Held}
use Rattle.rules.specs.State as state
use Rattle.rules.specs.State.{frame, Thread, ended, running, State, thread, queue, made, packets, next_name, affected, popping}
use Rattle.std.specs.Option.{IfSome, IfNone}
use Rattle.store.specs.Meaning.{Meaning}
use Rattle.rules.specs.declared.outcomes.Outcome.{Outcome}
use Rattle.rules.specs.declared.outcomes.Outcome.TheVariants.{Advanced}
use Rattle.rules.specs.Rules.{RoomFor, Step, WouldAdvance}
use Rattle.rules.specs.Calls.{Machine, unloaded, loaded, Call, load, arrive, ready, collect, Reply, to_load, to_arrive, to_ready, to_collect, initial, arriving, copied, Does, Reached, by_call}
use Rattle.rules.proofs.Steps.{other_outcome, none_advances}
use Rattle.rules.specs.Promises.{Promised}
use Rattle.rules.proofs.Typed.{type, types}
use Rattle.rules.proofs.Frames.{Placed, at_node, Awaits, below, called}
use Rattle.rules.proofs.Invariant.{Sound, not_made}
use Rattle.rules.proofs.Calls.{reached-good, promised}
use Rattle.machine.specs.declared.memory.Memory.{Memory}
use Rattle.machine.specs.States.{state_of, machine_of, Fit}

-- the types of variables are as many as the variables
types-long : (vs : List Held) → length (types vs) ≡ length vs
types-long vs = length-map {B = Entry} vs type

room-at : {P : Program} {r : Thread} → Placed P r → (f p k : ℕ) (op : Operation) (as' : List Operand) (next : Body) (vs : List Held) (fs : List state.Frame) (ρs σs : List Ty)
    → r ≡ running (frame f (call p op as' k next) vs) fs → signature P op ≡ some (ρs ⇒ σs) → length vs + length σs ≤ 16
room-at {P} pl f p k op as' next vs fs ρs σs e sg = go (subst (Placed P) e pl)
  where
    go : Placed P (running (frame f (call p op as' k next) vs) fs) → length vs + length σs ≤ 16
    go (at_node q c aw) = let d = called c sg in let a = d.room in let b = d.count in let l = types-long vs in omega arith

below-at : {P : Program} {r : Thread} → Placed P r → (f g : ℕ) (node next : Body) (vs us : List Held) (fs : List state.Frame) (F : Function)
    → r ≡ running (frame f node vs) (frame g next us ∷ fs) → get_elem? P.functions f ≡ some F → length us + length F.results ≤ 16
below-at {P} pl f g node next vs us fs F e q = go (subst (Placed P) e pl)
  where
    over : (G : Function) → get_elem? P.functions f ≡ some G → Awaits P G.results G.depth (frame g next us ∷ fs) → length us + length F.results ≤ 16
    over G w (below x lt room c aw) = subst (λ (H : Function). length us + length H.results ≤ 16) (some-injective G F (sym w ∙ q)) room

    go : Placed P (running (frame f node vs) (frame g next us ∷ fs)) → length us + length F.results ≤ 16
    go (at_node {F = G} w c aw) = over G w aw

placed-thread : (s : State) → Sound s → (t : ℕ) → Placed s.program (thread s t)
placed-thread s v zero = Placed.over
placed-thread s v (suc i) = v.placed i

sound-fit : (s : State) → Sound s → (t : ℕ) → 1 ≤ t → t ≤ s.program.threads → Fit s t
sound-fit s v t from to = record {
  from = from;
  to = to;
  room = room-at (placed-thread s v t);
  below = below-at (placed-thread s v t);
  fresh = not_made v t;
  limited = v.limited t;
}

-- Of a machine is told only that calls lead to it, not by which calls; that is enough for every fact that has one proof at most.
abbrev pub Led : Machine → Type 0
Led m = ∥ Reached m ∥₁

pub led-fit : (s : State) (t : ℕ) → Led (loaded s) → 1 ≤ t → t ≤ s.program.threads → Fit s t
led-fit s t h from to = ∥∥₁_elim h (Prim.hlevel props) (λ r. sound-fit s (reached-good r) t from to)

pub led-on : {m m' : Machine} {c : Call} {r : Reply} → Led m → Does m c r m' → Led m'
led-on h d = ∥∥₁_elim h (Prim.hlevel props) (λ r. ∣ by_call r d ∣₁)

pub led-promised : (m : Machine) → Led m → ∥ Promised m ∥₁
led-promised m h = ∥∥₁_elim h (Prim.hlevel props) (λ r. ∣ promised m (reached-good r) ∣₁)

-- What the two fields of a machine stand for, where nothing is loaded and where a program is.
module _ {o : Option Memory} {m : Meaning} where
  pub led-loaded : {c : Memory} → Led (machine_of o m) → o ≡ Some c → Led (loaded (state_of c m))
  led-loaded h e = subst (λ (z : Option Memory). Led (machine_of z m)) e h

  -- a call that leaves the machine as it is
  pub stays-unloaded : (c : Call) (r : Reply) → o ≡ None → Does (unloaded m) c r (unloaded m) → Does (machine_of o m) c r (machine_of o m)
  stays-unloaded c r e d = subst (λ (z : Option Memory). Does (machine_of z m) c r (machine_of z m)) (sym e) d

  pub stays-loaded : {k : Memory} (c : Call) (r : Reply) → o ≡ Some k → Does (loaded (state_of k m)) c r (loaded (state_of k m)) → Does (machine_of o m) c r (machine_of o m)
  stays-loaded c r e d = subst (λ (z : Option Memory). Does (machine_of z m) c r (machine_of z m)) (sym e) d

  -- and one that goes on from a program that is loaded
  pub goes-loaded : {k : Memory} {n : Machine} (c : Call) (r : Reply) → o ≡ Some k → Does (loaded (state_of k m)) c r n → Does (machine_of o m) c r n
  goes-loaded {n = n} c r e d = subst (λ (z : Option Memory). Does (machine_of z m) c r n) (sym e) d

  pub goes-unloaded : {n : Machine} (c : Call) (r : Reply) → o ≡ None → Does (unloaded m) c r n → Does (machine_of o m) c r n
  goes-unloaded {n} c r e d = subst (λ (z : Option Memory). Does (machine_of z m) c r n) (sym e) d

-- none would advance where each thread has another outcome
none-would : (s : State) → Led (loaded s) → ((t : ℕ) → 1 ≤ t → t ≤ s.program.threads → (a : Outcome) × (a ≢ Advanced) × Step s t a s) → (t : ℕ) → ¬ WouldAdvance s t
none-would s h n t w =
    ∥∥₁_elim h (Prim.hlevel props)
    (λ r. let v = reached-good r in none_advances s v (λ u f l. let (a, ne, k) = n u f l in other_outcome s v u a s k ne) t w)

-- what ready answers
pub ready-does : (s : State) → Led (loaded s) → (r : Option ℕ) → IfSome r (λ t. WouldAdvance s t)
    → IfNone r ((t : ℕ) → 1 ≤ t → t ≤ s.program.threads → (a : Outcome) × (a ≢ Advanced) × Step s t a s) → Does (loaded s) ready (to_ready (Ok r)) (loaded s)
ready-does s h (Some t) w n = Does.finds w
ready-does s h None w n = Does.finds_none (none-would s h n)

-- The oldest name of a queue, as the code finds it.
pub no_first : (ns : List Name) (r : Option Name) → r ≡ slice_get ns 0 → r ≡ None → ns ≡ []
no_first [] r e i = refl
no_first (n ∷ ns) r e i = let z : ◌≡◌ {A = Option Name} (Some n) None = sym e ∙ i in cc

pub first-is : (ns : List Name) (r : Option Name) (n : Name) → r ≡ slice_get ns 0 → r ≡ Some n → (ms : List Name) × (ns ≡ n ∷ ms)
first-is [] r n e i = let z : ◌≡◌ {A = Option Name} None (Some n) = sym e ∙ i in cc
first-is (k ∷ ns) r n e i = let z : k ≡ n = cc in (ns, ap (λ x. x ∷ ns) z)

-- The size of a packet, as a store answers it.
pub sized : (m : Meaning) (n : Name) (r : Result ℕ Question) (k : ℕ) → r ≡ size_answer m n → r ≡ Ok k → (p : Packet) × (found m n ≡ Some p) × (k ≡ length p.bytes)
sized m n r k e i = go (found m n) refl (sym i ∙ e)
  where
    go : (o : Option Packet) → found m n ≡ o → Ok k ≡ answer (alive_no o) (size_of o) → (p : Packet) × (found m n ≡ Some p) × (k ≡ length p.bytes)
    go None h q = cc
    go (Some p) h q = (p, h, cc)

pub not_sized : (m : Meaning) (n : Name) (r : Result ℕ Question) (q : Question) → r ≡ size_answer m n → r ≡ Err q → found m n ≡ None
not_sized m n r q e i = go (found m n) refl (sym i ∙ e)
  where
    go : (o : Option Packet) → found m n ≡ o → Err q ≡ answer (alive_no o) (size_of o) → found m n ≡ None
    go None h z = h
    go (Some p) h z = cc

-- a queue's names are alive
among-at : {A : Type 0} (xs : List (List A)) (i : ℕ) (x : A) (ys : List A) → get_or xs i [] ≡ x ∷ ys → Among (x ∷ ys) xs
among-at [] i x ys e = cc
among-at {A = A} (z ∷ xs) zero x ys e = subst (λ (w : List A). Among w (z ∷ xs)) e here
among-at (z ∷ xs) (suc i) x ys e = there (among-at xs i x ys e)

pub led-queued : (s : State) (q : ℕ) (n : Name) (ns : List Name) → Led (loaded s) → queue s q ≡ n ∷ ns → lookup n (packets s) ≡ None → ⊥
led-queued s q n ns h e i =
    ∥∥₁_elim h (Prim.hlevel props)
    (λ r. let (p, k) = (promised (loaded s) (reached-good r)).owned.queues_alive n (n ∷ ns, among-at s.queues q n ns e, here) in let z : ◌≡◌ {A = Option Packet} None (Some p) = sym i ∙ k in none-some z)
  where
    none-some : {p : Packet} → ◌≡◌ {A = Option Packet} None (Some p) → ⊥
    none-some z = cc

-- the network's next packet is not alive
pub led-fresh : (s : State) → Led (loaded s) → lookup (next_name s 0) (packets s) ≡ None
led-fresh s h = ∥∥₁_elim h (Prim.hlevel props) (λ r. not_made (reached-good r) 0)

-- whether a program is loaded
pub nothing_loaded : (o : Option Memory) → is_some o ≡ false → o ≡ None
nothing_loaded None e = refl
nothing_loaded (Some k) e = let z : ◌≡◌ {A = ℕ} 0 1 = cc in absurd (omega arith)

pub something_loaded : (o : Option Memory) → is_some o ≡ true → (k : Memory) × (o ≡ Some k)
something_loaded None e = let z : ◌≡◌ {A = ℕ} 0 1 = cc in absurd (omega arith)
something_loaded (Some k) e = (k, refl)

-- a load that is granted
pub load-does : (b : List ℕ) (l : ℕ) (m : Meaning) (code : Code) (k : Memory) → 1 ≤ l → units m ≡ 0 → verdict b ≡ Ok tt → reading b ≡ Ok (program_of code) → state_of k m ≡ initial (program_of code) l m
    → Does (unloaded m) (load b l) (to_load (Ok tt)) (loaded (state_of k m))
load-does b l m code k h z v r e = subst (λ (s : State). Does (unloaded m) (load b l) (to_load (Ok tt)) (loaded s)) (sym e) (Does.loads h z v r)

-- an arrival that is granted
pub arrive-does : (s : State) (bs : List ℕ) {z : State} → length bs ≤ s.store.largest → length (queue s 0) < 16 → made s 0 < s.limit → RoomFor s.store (length bs)
    → z ≡ affected (arriving s bs) s → Does (loaded s) (arrive bs) (to_arrive (Ok tt)) (loaded z)
arrive-does s bs f w n r e = subst (λ (x : State). Does (loaded s) (arrive bs) (to_arrive (Ok tt)) (loaded x)) (sym e) (Does.arrives f w n r)

-- a collection that is granted
pub collect-does : (s : State) (n : Name) (k : ℕ) (buffer after : List ℕ) {z : State} (ns : List Name) → queue s 1 ≡ n ∷ ns → (p : Packet) → lookup n (packets s) ≡ Some p → k ≡ length p.bytes
    → length p.bytes ≤ length buffer → z ≡ affected (popping 1 n None) s → ((r : Packet) → lookup n (packets s) ≡ Some r → after ≡ copied r.bytes buffer)
    → Does (loaded s) (collect buffer) (to_collect (Ok k) after) (loaded z)
collect-does s n k buffer after ns q p alive size fits e b =
    subst (λ (x : State). Does (loaded s) (collect buffer) (to_collect (Ok k) after) (loaded x)) (sym e)
    (subst (λ (x : List ℕ). Does (loaded s) (collect buffer) (to_collect (Ok k) x) (loaded (affected (popping 1 n None) s))) (sym (b p alive))
    (subst (λ (x : ℕ). Does (loaded s) (collect buffer) (to_collect (Ok x) (copied p.bytes buffer)) (loaded (affected (popping 1 n None) s))) (sym size)
    (Does.collects q alive fits)))
