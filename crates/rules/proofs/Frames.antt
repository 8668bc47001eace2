-- A thread alone: its frames stay typed.
use Rattle.std.proofs.Common.{◌≡◌, ℕ, suc, ◌+◌, ◌<◌, ◌≤◌, ◌⊎◌, List, [], ◌∷◌, ◌++◌, map, length, set, sym, refl, ap, ◌∙◌, subst, ap₂, inl, inr, append_assoc, arith, length-append}
use mathlib.Core.Option.{some}
use lib.ListN.{get_elem?, length-map}
use lib.Seq.{set-append_seam}
use Rattle.reader.specs.declared.types.Ty.{Ty}
use Rattle.reader.specs.declared.types.Ty.TheVariants.{Bool as bool}
use Rattle.reader.specs.declared.values.Value.{Value}
use Rattle.reader.specs.declared.values.Value.TheVariants as v
use Rattle.reader.specs.declared.values.Operand.{Operand}
use Rattle.reader.specs.declared.operations.Operation.{Operation}
use Rattle.reader.specs.declared.operations.Operation.TheVariants as o
use Rattle.reader.specs.Syntax.{Body, return, branch, call, Function, Program}
use Rattle.typing.specs.Signatures.{Signature, ◌⇒◌, signature, callee_depth, of_function, depth_of}
use Rattle.typing.specs.Typing.{Entry, absent, has, Ctx, Every, every_end, every_more, Unlent, ◌∣◌⊢ᵉ◌⦂◌, Room, Deep, Tail, tail, Consecutive, consecutive_end, consecutive_more, EachFunction, Accepted}
use Rattle.typing.proofs.Given.{uses-length}
use Rattle.typing.proofs.Inversion.{by_node}
use Rattle.typing.proofs.Whole.{typed-unlent}
use Rattle.rules.specs.State.{Held, Frame, frame, Thread, ended, running, State, Effect}
use Rattle.rules.specs.Rules.{Gives, Rule}
use Rattle.rules.proofs.Limits.{Small}
use Rattle.rules.proofs.Contexts.{Leave, Leaves, leaves-length, owners, spent-owners, uses-leave, tested-leave}
use Rattle.rules.proofs.Typed.{type, types, same_some, map-append, gives-types, gives-leave, operates-types}

-- What a machine relies on in a program: that it is accepted, and the limits of what was read.
pub record Runnable (P : Program) : Type 0 where
  pub accepted : Accepted P
  pub small : Small P

-- A function from a node on, with what its variables can be used as.
pub record Sits (P : Program) (F : Function) (Γ : Ctx) (e : Body) : Type 0 where
  pub typed : P ∣ Γ ⊢ᵉ e ⦂ F.results
  pub room : Room (length Γ) e
  pub deep : Deep P F.depth (length Γ) e

pub body-sits : {P : Program} → Accepted P → (i : ℕ) (F : Function) → get_elem? P.functions i ≡ some F → Sits P F (map has F.params) F.body
body-sits {P} a i F e =
    let n = sym (length-map {B = Entry} F.params has) in
    record { typed = a.typed i F e; room = subst (λ m. Room m F.body) n (a.room i F e); deep = subst (λ m. Deep P F.depth m F.body) n (a.depths i F e) }

-- Node by node.
pub sits-return : {P : Program} {F : Function} {Γ : Ctx} {p : ℕ} {as' : List Operand} → Sits P F Γ (return p as') → (Δ : Ctx) × Leaves Δ Γ as' F.results × (owners Δ ≡ 0)
sits-return {P} {F} {Γ} {p} {as'} c =
    let n = (by_node P F.results Γ (return p as')).0 c.typed in
    (n.left, uses-leave n.uses, spent-owners n.left n.spent)

pub sits-branch : {P : Program} {F : Function} {Γ : Ctx} {p : ℕ} {a : Operand} {e₁ e₂ : Body} → Sits P F Γ (branch p a e₁ e₂)
    → Leave Γ Γ a.value bool Γ × Sits P F Γ e₁ × Sits P F Γ e₂
sits-branch {P} {F} {Γ} {p} {a} {e₁} {e₂} c =
    let n = (by_node P F.results Γ (branch p a e₁ e₂)).0 c.typed in (
      tested-leave n.tested,
      record { typed = n.then_first; room = c.room.0; deep = c.deep.0 },
      record { typed = n.or_second; room = c.room.1; deep = c.deep.1 },
    )

pub record Called (P : Program) (F : Function) (Γ : Ctx) (op : Operation) (as' : List Operand) (k : ℕ) (next : Body) (ρs σs : List Ty) : Type 0 where
  -- the context after the arguments
  pub left : Ctx
  pub leaves : Leaves left Γ as' ρs
  pub count : k ≡ length σs
  pub room : length Γ + k ≤ 16
  pub deep : (c : ℕ) → callee_depth P op ≡ some c → (Tail (length Γ) k next → c ≤ F.depth) × (¬ Tail (length Γ) k next → c < F.depth)
  pub rest : Sits P F (left ++ map has σs) next

grown : (Γ Δ : Ctx) (σs : List Ty) (k : ℕ) → length Δ ≡ length Γ → k ≡ length σs → length Γ + k ≡ length (Δ ++ map has σs)
grown Γ Δ σs k a b = let c = length-append Δ (map has σs) in let d = length-map {B = Entry} σs has in omega arith

pub sits-call : {P : Program} {F : Function} {Γ : Ctx} {p : ℕ} {op : Operation} {as' : List Operand} {k : ℕ} {next : Body} → Sits P F Γ (call p op as' k next)
    → (ρs : List Ty) × (σs : List Ty) × (signature P op ≡ some (ρs ⇒ σs)) × Called P F Γ op as' k next ρs σs
sits-call {P} {F} {Γ} {p} {op} {as'} {k} {next} c =
    let n = (by_node P F.results Γ (call p op as' k next)).0 c.typed in
    let m = grown Γ n.left n.results k (uses-length n.uses) n.count in (
      n.params,
      n.results,
      n.callee,
      record {
        left = n.left;
        leaves = uses-leave n.uses;
        count = n.count;
        room = c.room.0;
        deep = c.deep.0;
        rest = record { typed = n.rest; room = subst (λ j. Room j next) m c.room.1; deep = subst (λ j. Deep P F.depth j next) m c.deep.1 };
      },
    )

-- the same for a signature that is known
pub called : {P : Program} {F : Function} {Γ : Ctx} {p : ℕ} {op : Operation} {as' : List Operand} {k : ℕ} {next : Body} {ρs σs : List Ty}
    → Sits P F Γ (call p op as' k next) → signature P op ≡ some (ρs ⇒ σs) → Called P F Γ op as' k next ρs σs
called {P} {F} {Γ} {op = op} {as' = as'} {k = k} {next = next} c h =
    let (ρs, σs, e, d) = sits-call c in
    subst (λ (z : Signature). Called P F Γ op as' k next z.params z.results) (same_some e h) d

pub function-signature : (P : Program) (g : ℕ) {G : Function} → get_elem? P.functions g ≡ some G → signature P (o.Function g) ≡ some (G.params ⇒ G.results)
function-signature P g e = ap of_function e

pub function-depth : (P : Program) (g : ℕ) {G : Function} → get_elem? P.functions g ≡ some G → callee_depth P (o.Function g) ≡ some G.depth
function-depth P g e = ap depth_of e

-- A thread: its frame on top stands at a node; the frames below wait for values of these types, from a function of this depth.
pub data Awaits (P : Program) : List Ty → ℕ → List Frame → Type 0 where
  bottom : {d : ℕ} → Awaits P [] d []
  below : {τs : List Ty} {d f : ℕ} {F : Function} {node : Body} {vs : List Held} {fs : List Frame} → get_elem? P.functions f ≡ some F → d < F.depth → length vs + length τs ≤ 16
      → Sits P F (types vs ++ map has τs) node → Awaits P F.results F.depth fs → Awaits P τs d (frame f node vs ∷ fs)

pub data Placed (P : Program) : Thread → Type 0 where
  over : Placed P ended
  at_node : {f : ℕ} {F : Function} {node : Body} {vs : List Held} {fs : List Frame} → get_elem? P.functions f ≡ some F
      → Sits P F (types vs) node → Awaits P F.results F.depth fs → Placed P (running (frame f node vs) fs)

-- at most eight frames
pub awaits-length : {P : Program} {τs : List Ty} {d : ℕ} {fs : List Frame} → EachFunction P (λ i F. F.depth ≤ 7) → Awaits P τs d fs → d ≤ 7 → d + length fs ≤ 7
awaits-length a bottom h = omega arith
awaits-length a (below {f = f} {F = F} e lt r c aw) h =
    let k = a f F e in
    let q = awaits-length a aw k in
    omega arith

awaits_lower : {P : Program} {τs : List Ty} {d e : ℕ} {fs : List Frame} → e ≤ d → Awaits P τs d fs → Awaits P τs e fs
awaits_lower h bottom = bottom
awaits_lower h (below q lt r c aw) = below q (omega arith) r c aw

-- Tail calls: the function's results are the callee's, and no owner is left.
at_seam : {A : Type 0} (xs : List A) (y : A) (ys : List A) → get_elem? (xs ++ y ∷ ys) (length xs) ≡ some y
at_seam [] y ys = refl
at_seam (x ∷ xs) y ys = at_seam xs y ys

seam : {A : Type 0} (xs : List A) (y : A) (ys : List A) → xs ++ (y ∷ ys) ≡ (xs ++ (y ∷ [])) ++ ys
seam xs y ys = sym (append_assoc xs (y ∷ []) ys)

seam_length : {A : Type 0} (xs : List A) (y : A) → length (xs ++ (y ∷ [])) ≡ suc (length xs)
seam_length [] y = refl
seam_length (x ∷ xs) y = ap suc (seam_length xs y)

owners_seam : (Γ : Ctx) (e : Entry) → owners Γ ≤ owners (Γ ++ (e ∷ []))
owners_seam [] e = omega arith
owners_seam (x ∷ Γ) e = let h = owners_seam Γ e in omega arith

owners_nil : (Γ : Ctx) → owners (Γ ++ []) ≡ owners Γ
owners_nil [] = refl
owners_nil (e ∷ Γ) = let h = owners_nil Γ in omega arith

-- the type given is the type that the variable has, if it is no alias
leave_fits : {Δ Γ Γ' : Ctx} {x : ℕ} {ρ : Ty} (σ : Ty) → Unlent ρ → get_elem? Γ x ≡ some (has σ) → Leave Δ Γ (v.Variable x) ρ Γ' → (ρ ≡ σ) × ((Γ' ≡ Γ) ⊎ (Γ' ≡ set Γ x absent))
leave_fits σ u h (Leave.copy_integer g) = (cc, inl refl)
leave_fits σ u h (Leave.copy_truth g) = (cc, inl refl)
leave_fits σ u h (Leave.copy_alias g) = elim u [ ]
leave_fits σ u h (Leave.lend g k) = elim u [ ]
leave_fits σ u h (Leave.spend g) = (cc, inr refl)

-- one result given: what stands in its place, and its type
result_given : {Δ Γ₀ Γ' : Ctx} {ρ : Ty} (Γ : Ctx) (σ : Ty) (σs : List Ty) → Γ₀ ≡ Γ ++ map has (σ ∷ σs) → Unlent ρ → Leave Δ Γ₀ (v.Variable (length Γ)) ρ Γ'
    → (e : Entry) × (Γ' ≡ (Γ ++ (e ∷ [])) ++ map has σs) × (ρ ≡ σ)
result_given {Γ₀ = Γ₀} {Γ' = Γ'} {ρ = ρ} Γ σ σs e u g = go r.1
  where
    r : (ρ ≡ σ) × ((Γ' ≡ Γ₀) ⊎ (Γ' ≡ set Γ₀ (length Γ) absent))
    r = leave_fits σ u (rw e (at_seam Γ (has σ) (map has σs))) g

    go : (Γ' ≡ Γ₀) ⊎ (Γ' ≡ set Γ₀ (length Γ) absent) → (h : Entry) × (Γ' ≡ (Γ ++ (h ∷ [])) ++ map has σs) × (ρ ≡ σ)
    go (inl p) = (has σ, p ∙ e ∙ seam Γ (has σ) (map has σs), r.0)
    go (inr p) = (absent, p ∙ (rw e (set-append_seam Γ (has σ) (map has σs) absent)) ∙ seam Γ absent (map has σs), r.0)

results-given : {Δ Γ₀ : Ctx} {as' : List Operand} {ρs : List Ty} (Γ : Ctx) (σs : List Ty) → Γ₀ ≡ Γ ++ map has σs → Consecutive (length Γ) (length σs) as'
    → Every Unlent ρs → Leaves Δ Γ₀ as' ρs → (ρs ≡ σs) × (owners Γ ≤ owners Δ)
results-given Γ [] e consecutive_end u Leaves.no_more = (refl, (let h = ap owners e in let k = owners_nil Γ in omega arith))
results-given Γ (σ ∷ σs) e (consecutive_more a c) every_end l = elim l [ ]
results-given {Δ} {Γ₀} Γ (σ ∷ σs) e (consecutive_more {vs = vs} a c) (every_more {x = ρ} n ns) (Leaves.one_more {Γ' = Γ'} g gs) =
    let one = result_given Γ σ σs e n (subst (λ (w : Value). Leave Δ Γ₀ w ρ Γ') a g) in
    let rest = results-given (Γ ++ (one.0 ∷ [])) σs one.1 (subst (λ m. Consecutive m (length σs) vs) (sym (seam_length Γ one.0)) c) ns gs in
    let more = owners_seam Γ one.0 in
    (ap₂ ◌∷◌ one.2 rest.0, (let h = rest.1 in omega arith))

tail-returns : {P : Program} {F : Function} {n k : ℕ} {next : Body} (Γ : Ctx) (σs : List Ty) → n ≡ length Γ → k ≡ length σs → Tail n k next → Sits P F (Γ ++ map has σs) next
    → (F.results ≡ σs) × (owners Γ ≡ 0)
tail-returns {k = k} Γ σs a b (tail {vs = vs} c) sits =
    let (Δ, l, z) = sits-return sits in
    let r = results-given Γ σs refl (subst (λ j. Consecutive (length Γ) j vs) b (subst (λ m. Consecutive m k vs) a c)) (typed-unlent sits.typed) l in
    (r.0, (let h = r.1 in omega arith))

pub tail-called : {P : Program} {F : Function} {Γ : Ctx} {op : Operation} {as' : List Operand} {k : ℕ} {next : Body} {ρs σs : List Ty} (d : Called P F Γ op as' k next ρs σs)
    → Tail (length Γ) k next → (F.results ≡ σs) × (owners d.left ≡ 0)
tail-called {σs = σs} d t = tail-returns d.left σs (sym (leaves-length d.leaves)) d.count t d.rest

-- as many variables as types
pub types-length : (vs : List Held) {k : ℕ} {next : Body} → Tail (length vs) k next → Tail (length (types vs)) k next
types-length vs {k} {next} t = subst (λ n. Tail n k next) (sym (length-map {B = Entry} vs type)) t

pub not_tail : (vs : List Held) {k : ℕ} {next : Body} → ¬ Tail (length vs) k next → ¬ Tail (length (types vs)) k next
not_tail vs {k} {next} n t = n (subst (λ m. Tail m k next) (length-map {B = Entry} vs type) t)

pub gives_at : {vs ws xs : List Held} {as' : List Operand} {F G : Function} → F ≡ G → Gives vs as' F.results xs ws → Gives vs as' G.results xs ws
gives_at {vs} {ws} {xs} {as'} p h = subst (λ (H : Function). Gives vs as' H.results xs ws) p h

-- The frames stay typed.
pub placed-kept : {s : State} {t : ℕ} {r r' : Thread} {e : Effect} → Runnable s.program → Placed s.program r → Rule s t r r' e → Placed s.program r'
placed-kept run over r = elim r [ ]
placed-kept {s} run (at_node {F = F} q c aw) (Rule.operates {next = next} {ws = ws} {rs = rs} sg h op) =
    let d = called c sg in
    at_node q (subst (λ (Γ : Ctx). Sits s.program F Γ next) (sym (map-append type ws rs ∙ ap₂ ◌++◌ (gives-leave refl h d.leaves) (operates-types op sg))) d.rest) aw
placed-kept {s} run (at_node {F = F} q c aw) (Rule.calls {g = g} {G = G} {next = next} {vs = vs} {ws = ws} fg nt h lt) =
    let d = called c (function-signature s.program g fg) in
    let left = gives-leave refl h d.leaves in
    let deep : G.depth < F.depth = (d.deep G.depth (function-depth s.program g fg)).1 (not_tail vs nt) in
    let room : length ws + length G.results ≤ 16 =
    (let a = d.room in let b = d.count in let l = leaves-length d.leaves in let m = ap length left in let n = length-map {B = Entry} ws type in omega arith) in
    at_node fg (subst (λ (Γ : Ctx). Sits s.program G Γ G.body) (sym (gives-types h)) (body-sits run.accepted g G fg))
    (below q deep room (subst (λ (Γ : Ctx). Sits s.program F (Γ ++ map has G.results) next) (sym left) d.rest) aw)
placed-kept {s} run (at_node {F = F} {fs = fs} q c aw) (Rule.tail_calls {g = g} {G = G} {vs = vs} fg tl h) =
    let d = called c (function-signature s.program g fg) in
    let t = types-length vs tl in
    let deep : G.depth ≤ F.depth = (d.deep G.depth (function-depth s.program g fg)).0 t in
    at_node fg (subst (λ (Γ : Ctx). Sits s.program G Γ G.body) (sym (gives-types h)) (body-sits run.accepted g G fg))
    (awaits_lower deep (subst (λ (τs : List Ty). Awaits s.program τs F.depth fs) (tail-called d t).0 aw))
placed-kept {s} run (at_node {F = F} q c (below {F = H} {node = node} {vs = us} qg lt rm cg aw)) (Rule.returns {xs = xs} qf h) =
    at_node qg (subst (λ (Γ : Ctx). Sits s.program H Γ node) (sym (map-append type us xs ∙ ap (λ (r : Ctx). types us ++ r) (gives-types (gives_at (same_some qf q) h)))) cg) aw
placed-kept run (at_node q c aw) (Rule.ends qf h) = over
placed-kept run (at_node q c aw) (Rule.if_true h) = at_node q (sits-branch c).1 aw
placed-kept run (at_node q c aw) (Rule.if_false h) = at_node q (sits-branch c).2 aw

-- Room for what a call gives, and for what a return gives to the frame below.
pub room_top : {P : Program} {f p k : ℕ} {op : Operation} {as' : List Operand} {next : Body} {vs : List Held} {fs : List Frame} → Placed P (running (frame f (call p op as' k next) vs) fs) → length vs + k ≤ 16
room_top {vs = vs} (at_node q c aw) = let a = (sits-call c).3.room in let b = length-map {B = Entry} vs type in omega arith

pub room-results : {P : Program} {f p k : ℕ} {op : Operation} {as' : List Operand} {next : Body} {ρs σs : List Ty} {vs : List Held} {fs : List Frame}
    → Placed P (running (frame f (call p op as' k next) vs) fs) → signature P op ≡ some (ρs ⇒ σs) → length vs + length σs ≤ 16
room-results {vs = vs} (at_node q c aw) sg = let d = called c sg in let a = d.room in let e = d.count in let b = length-map {B = Entry} vs type in omega arith

pub room-below : {P : Program} {f g p : ℕ} {F : Function} {as' : List Operand} {next : Body} {vs us : List Held} {fs : List Frame}
    → Placed P (running (frame f (return p as') vs) (frame g next us ∷ fs)) → get_elem? P.functions f ≡ some F → length us + length F.results ≤ 16
room-below (at_node q c (below qg lt rm cg aw)) e = let b = ap (λ (X : Function). length X.results) (same_some q e) in omega arith
