-- A name counts the same in threads and queues together as in the store, before a step and after it.
use Rattle.std.proofs.Common.{◌≡◌, ℕ, zero, suc, ◌+◌, ◌%◌, ◌<◌, not, eqb, List, [], ◌∷◌, ◌++◌, length, get_or, Some, None, refl, ap, arith, ltb→lt}
use mathlib.Core.Option.{some}
use Rattle.reader.specs.declared.types.Ty.{Ty}
use Rattle.reader.specs.declared.values.Operand.{Operand}
use Rattle.reader.specs.declared.operations.Operation.{Operation}
use Rattle.reader.specs.declared.operations.Operation.TheVariants as o
use Rattle.reader.specs.Syntax.{return, Function, Program}
use Rattle.typing.specs.Signatures.{◌⇒◌, signature, queue as is-queue}
use Rattle.typing.proofs.Tests.{and_left}
use Rattle.store.specs.declared.name.Name.{Name}
use Rattle.store.specs.Packets.{new_packet, with_holder, with_byte}
use Rattle.rules.specs.State.{Held, Thread, State, queue, packets, next_name, Effect, pop, edited, lined, stored}
use Rattle.rules.specs.Rules.{Gives, Operates, Rule, made_size}
use Rattle.rules.specs.Promises.{is, occurs, queued}
use Rattle.rules.proofs.Counts.{own, owned, held, alive, total-append, total-set, alive-put, weight}
use Rattle.rules.proofs.Contexts.{owners}
use Rattle.rules.proofs.Typed.{types, same_some, provided-row, gives-owned, gives-leave, owned_none}
use Rattle.rules.proofs.Frames.{Awaits, bottom, Sits, sits-return, Called, called, function-signature, tail-called, types-length, gives_at, Placed, at_node}

-- what is at a place of a list of lists stands in it
pub inside : {A : Type 0} (xs : List (List A)) (i : ℕ) (y : A) (ys : List A) → get_or xs i [] ≡ y ∷ ys → i < length xs
inside [] i y ys e = let z : ◌≡◌ {A = ℕ} 0 1 = cc in omega arith
inside (x ∷ xs) zero y ys e = omega arith
inside (x ∷ xs) (suc i) y ys e = let h = inside xs i y ys e in omega arith

-- a state has the queues of its program
abbrev pub Lined : State → Type 0
Lined s = length s.queues ≡ 2 + s.program.queues

-- and a queue that has an enq is one of them
pub enq-there : (s : State) (q : ℕ) {ρs σs : List Ty} → Lined s → signature s.program (o.Enq q) ≡ some (ρs ⇒ σs) → q < length s.queues
enq-there s q l h = let lt = ltb→lt q (2 + s.program.queues) (and_left (is-queue s.program q) (not (eqb q 0)) (provided-row _ h).0) in omega arith

operates-counted : (n : Name) {s : State} {t : ℕ} {op : Operation} {ρs σs : List Ty} {xs rs : List Held} {e : Effect} → Lined s → Operates s t op xs e rs → signature s.program op ≡ some (ρs ⇒ σs)
    → owned n xs + queued n s.queues + alive n (stored (packets s) e.puts) ≡ owned n rs + queued n (lined s.queues e.edit) + alive n (packets s)
operates-counted n l Operates.computes sg = omega arith
operates-counted n l Operates.compares sg = omega arith
operates-counted n l Operates.connects sg = omega arith
operates-counted n {s} {t} l (Operates.makes {k} h f r) sg =
    let a = alive-put n (next_name s t) (Some (new_packet (next_name s t) (made_size s k))) (packets s) in let b = ap (weight n (next_name s t)) f in omega arith
operates-counted n {s} l (Operates.kills {n = m} h) sg = let a = alive-put n m None (packets s) in let b = ap (weight n m) h in omega arith
operates-counted n l (Operates.reads_inside h k) sg = omega arith
operates-counted n l (Operates.reads_outside h k) sg = omega arith
operates-counted n {s} l (Operates.updates_inside {n = m} {p} {i} {k} h r) sg =
    let a = alive-put n m (Some (with_byte i (k % 256) p)) (packets s) in let b = ap (weight n m) h in omega arith
operates-counted n l (Operates.updates_outside h k) sg = omega arith
operates-counted n {s} {t} l (Operates.dequeues {q} {n = m} {ns} {p} h k) sg =
    let a = alive-put n m (Some (with_holder t p)) (packets s) in let b = ap (weight n m) k in
    let c = total-set (occurs n) s.queues q [] (edited pop (queue s q)) (inside s.queues q m ns h) in let d = ap (occurs n) h in
    let g = ap (λ (x : List Name). occurs n (edited pop x)) h in omega arith
operates-counted n {s} l (Operates.enqueues {q} {n = m} h) sg =
    let c = total-set (occurs n) s.queues q [] (queue s q ++ (m ∷ [])) (enq-there s q l sg) in let d = total-append (is n) (queue s q) (m ∷ []) in omega arith

-- no owner is left behind by a tail call or a return
tail-spent : {P : Program} {F : Function} {op : Operation} {as' : List Operand} {k : ℕ} {next : _} {ρs σs : List Ty} {vs ws xs : List Held} (n : Name)
    → (d : Called P F (types vs) op as' k next ρs σs) → owners d.left ≡ 0 → Gives vs as' ρs xs ws → owned n ws ≡ 0
tail-spent {ws = ws} n d z h = owned_none n ws d.left (gives-leave refl h d.leaves) z

return-spent : {P : Program} {F : Function} {p : ℕ} {as' : List Operand} {vs ws xs : List Held} (n : Name) → Sits P F (types vs) (return p as') → Gives vs as' F.results xs ws → owned n ws ≡ 0
return-spent {ws = ws} n c h = let (Δ, l, z) = sits-return c in owned_none n ws Δ (gives-leave refl h l) z

awaits-nothing : {P : Program} {τs : List Ty} {d : ℕ} → Awaits P τs d [] → τs ≡ []
awaits-nothing bottom = refl

gives_nothing : {vs us : List Held} {as' : List Operand} {τs : List Ty} {xs : List Held} (n : Name) → Gives vs as' τs xs us → τs ≡ [] → owned n xs ≡ 0
gives_nothing n Gives.no_more e = refl
gives_nothing n (Gives.one_more h r) e = let z : ◌≡◌ {A = ℕ} 0 1 = cc in absurd (omega arith)

pub rule-counted : (n : Name) {s : State} {t : ℕ} {r r' : Thread} {e : Effect} → Lined s → Placed s.program r → Rule s t r r' e
    → held n r + queued n s.queues + alive n (stored (packets s) e.puts) ≡ held n r' + queued n (lined s.queues e.edit) + alive n (packets s)
rule-counted n l w (Rule.operates {ws = ws} {rs = rs} sg h op) =
    let a = operates-counted n l op sg in let b = gives-owned n h in let c = total-append (own n) ws rs in omega arith
rule-counted n l w (Rule.calls fg nt h lt) = let b = gives-owned n h in omega arith
rule-counted n {s} l (at_node q c aw) (Rule.tail_calls {g = g} {vs = vs} fg tl h) =
    let d = called c (function-signature s.program g fg) in
    let b = gives-owned n h in let z = tail-spent n d (tail-called d (types-length vs tl)).1 h in omega arith
rule-counted n l (at_node q c aw) (Rule.returns {xs = xs} {us = us} qf h) =
    let b = gives-owned n h in let z = return-spent n c (gives_at (same_some qf q) h) in let d = total-append (own n) us xs in omega arith
rule-counted n l (at_node q c aw) (Rule.ends qf h) =
    let k = gives_at (same_some qf q) h in
    let b = gives-owned n h in let z = return-spent n c k in let y = gives_nothing n k (awaits-nothing aw) in omega arith
rule-counted n l w (Rule.if_true h) = omega arith
rule-counted n l w (Rule.if_false h) = omega arith
