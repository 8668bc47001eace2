-- No step of a thread that has not ended is stuck.
use Rattle.std.proofs.Common.{◌≡◌, ℕ, zero, suc, ◌+◌, ◌<◌, ◌≤◌, Bool, true, false, T, ◌≢◌, ◌⊎◌, List, [], ◌∷◌, length, Some, sym, refl, ap, subst, inl, inr, ⊎_elim, arith}
use mathlib.Core.Option.{Option, some, some-injective, none-ne-some}
use native.Mathlib.Decide.{dec_lt, dec_le}
use lib.ListN.{get_elem?, length-map}
use Rattle.reader.specs.declared.types.Ty.{Ty}
use Rattle.reader.specs.declared.types.Ty.TheVariants.{Int as int, Bool as bool, Packet as packet, Alias as alias}
use Rattle.reader.specs.declared.values.Value.{Value}
use Rattle.reader.specs.declared.values.Value.TheVariants as v
use Rattle.reader.specs.declared.values.Operand.{Operand}
use Rattle.reader.specs.declared.operations.Operation.{Operation}
use Rattle.reader.specs.declared.operations.Operation.TheVariants as o
use Rattle.reader.specs.Syntax.{Body, return, branch, call, Function, Program}
use Rattle.typing.specs.Signatures.{Signature, ◌⇒◌, signature, of_function}
use Rattle.typing.specs.Typing.{Entry, has, Ctx, Tail}
use Rattle.typing.specs.Marks.{is_tail}
use Rattle.typing.proofs.Tests.{tail-sound, tail_complete}
use Rattle.store.specs.declared.name.Name.{Name}
use Rattle.store.specs.Packets.{Packet, lookup}
use Rattle.store.specs.Meaning.{units}
use Rattle.rules.specs.State.{Held, nothing, integer, truth, owner, Frame, frame, Thread, ended, running, frames, State, thread, queue, made, packets, Effect}
use Rattle.rules.specs.State as held
use Rattle.rules.specs.Rules.{Give, an_integer, a_truth, copy_integer, copy_truth, copy_alias, lend, spend, Gives, no_more, one_more, Operates, computes, compares, connects, makes, kills, reads_inside, reads_outside, updates_inside, updates_outside, dequeues, enqueues}
use Rattle.rules.specs.Rules.{Cause, Outcome, Advanced, Waits, Stuck, made_size, Delays, on_empty, on_full, on_names, on_room, Rule, operates, calls, tail_calls, returns, ends, if_true, if_false, WaitsFor, delayed, Moves, advances, waits, Step, moves, sticks}
use Rattle.rules.specs.Promises.{occurs, GoesOn}
use Rattle.rules.proofs.Counts.{owned, borrowed, in_frames, held, present-some, total_get_or, is_same}
use Rattle.rules.proofs.Contexts.{Leave, Leaves}
use Rattle.rules.proofs.Typed.{type, types, give-leaves, provided-row}
use Rattle.rules.proofs.Frames.{Placed, over, at_node, Awaits, awaits-length, Called, sits-return, sits-branch, sits-call, function-depth}
use Rattle.rules.proofs.Lends.{Lent}
use Rattle.rules.proofs.Holders.{given-held}
use Rattle.rules.proofs.Invariant.{Sound, not_made, running-ended}
use Rattle.rules.proofs.Same.{arguments-same}

-- what a variable of a type holds
pub data Canon : Ty → Held → Type 0 where
  an_int : {k : ℕ} → Canon int (integer k)
  a_bool : {b : Bool} → Canon bool (truth b)
  an_owner : {n : Name} → Canon packet (owner n)
  an_alias : {n : Name} → Canon alias (held.alias n)

pub data Canons : List Ty → List Held → Type 0 where
  none_left : Canons [] []
  and_more : {τ : Ty} {τs : List Ty} {x : Held} {xs : List Held} → Canon τ x → Canons τs xs → Canons (τ ∷ τs) (x ∷ xs)

canon : (τ : Ty) (x : Held) → type x ≡ has τ → Canon τ x
canon τ nothing e = let z : ◌≡◌ {A = ℕ} 0 1 = cc in absurd (omega arith)
canon τ (integer k) e = subst (λ (σ : Ty). Canon σ (integer k)) (cc) an_int
canon τ (truth b) e = subst (λ (σ : Ty). Canon σ (truth b)) (cc) a_bool
canon τ (owner n) e = subst (λ (σ : Ty). Canon σ (owner n)) (cc) an_owner
canon τ (held.alias n) e = subst (λ (σ : Ty). Canon σ (held.alias n)) (cc) an_alias

give-canon : {vs ws : List Held} {a : Value} {τ : Ty} {x : Held} → Give vs a τ x ws → Canon τ x
give-canon an_integer = an_int
give-canon a_truth = a_bool
give-canon (copy_integer h) = an_int
give-canon (copy_truth h) = a_bool
give-canon (copy_alias h) = an_alias
give-canon (lend h) = an_alias
give-canon (spend h) = an_owner

pub gives-canon : {vs us : List Held} {as' : List Operand} {τs : List Ty} {xs : List Held} → Gives vs as' τs xs us → Canons τs xs
gives-canon no_more = none_left
gives-canon (one_more h r) = and_more (give-canon h) (gives-canon r)

at-types : (vs : List Held) (i : ℕ) (τ : Ty) → get_elem? (types vs) i ≡ some (has τ) → (x : Held) × (get_elem? vs i ≡ some x) × Canon τ x
at-types [] i τ h = absurd (none-ne-some (has τ) h)
at-types (x ∷ vs) zero τ h = (x, refl, canon τ x (some-injective (type x) (has τ) h))
at-types (x ∷ vs) (suc i) τ h = at-types vs i τ h

at-context : (vs : List Held) {Γ : Ctx} (i : ℕ) (τ : Ty) → types vs ≡ Γ → get_elem? Γ i ≡ some (has τ) → (x : Held) × (get_elem? vs i ≡ some x) × Canon τ x
at-context vs i τ e h = at-types vs i τ (subst (λ (Θ : Ctx). get_elem? Θ i ≡ some (has τ)) (sym e) h)

abbrev Given : List Held → Value → Ty → Type 0
Given vs a τ = (x : Held) × (ws : List Held) × Give vs a τ x ws

var_int : (vs : List Held) (i : ℕ) {x : Held} → get_elem? vs i ≡ some x → Canon int x → Given vs (v.Variable i) int
var_int vs i h an_int = (_, _, copy_integer h)

var_bool : (vs : List Held) (i : ℕ) {x : Held} → get_elem? vs i ≡ some x → Canon bool x → (b : Bool) × Give vs (v.Variable i) bool (truth b) vs
var_bool vs i h a_bool = (_, copy_truth h)

var_alias : (vs : List Held) (i : ℕ) {x : Held} → get_elem? vs i ≡ some x → Canon alias x → Given vs (v.Variable i) alias
var_alias vs i h an_alias = (_, _, copy_alias h)

var_lend : (vs : List Held) (i : ℕ) {x : Held} → get_elem? vs i ≡ some x → Canon packet x → Given vs (v.Variable i) alias
var_lend vs i h an_owner = (_, _, lend h)

var_spend : (vs : List Held) (i : ℕ) {x : Held} → get_elem? vs i ≡ some x → Canon packet x → Given vs (v.Variable i) packet
var_spend vs i h an_owner = (_, _, spend h)

truth_exists : {Δ Γ Γ' : Ctx} (vs : List Held) {a : Value} → types vs ≡ Γ → Leave Δ Γ a bool Γ' → (b : Bool) × Give vs a bool (truth b) vs
truth_exists vs e Leave.a_truth = (_, a_truth)
truth_exists vs e (Leave.copy_truth {x = i} g) = let (x, h, c) = at-context vs i bool e g in var_bool vs i h c

give_exists : {Δ Γ Γ' : Ctx} (vs : List Held) {a : Value} {τ : Ty} → types vs ≡ Γ → Leave Δ Γ a τ Γ' → Given vs a τ
give_exists vs e Leave.an_integer = (_, _, an_integer)
give_exists vs e Leave.a_truth = (_, _, a_truth)
give_exists vs e (Leave.copy_integer {x = i} g) = let (x, h, c) = at-context vs i int e g in var_int vs i h c
give_exists vs e (Leave.copy_truth {x = i} g) = let (x, h, c) = at-context vs i bool e g in let q = var_bool vs i h c in (_, _, q.1)
give_exists vs e (Leave.copy_alias {x = i} g) = let (x, h, c) = at-context vs i alias e g in var_alias vs i h c
give_exists vs e (Leave.lend {x = i} g k) = let (x, h, c) = at-context vs i packet e g in var_lend vs i h c
give_exists vs e (Leave.spend {x = i} g) = let (x, h, c) = at-context vs i packet e g in var_spend vs i h c

gives_exist : {Δ Γ : Ctx} (vs : List Held) {as' : List Operand} {τs : List Ty} → types vs ≡ Γ → Leaves Δ Γ as' τs → (xs : List Held) × (ws : List Held) × Gives vs as' τs xs ws
gives_exist vs e Leaves.no_more = (_, _, no_more)
gives_exist vs e (Leaves.one_more g r) =
    let h = give_exists vs e g in
    let k = gives_exist h.1 (give-leaves e h.2 g) r in
    (_, _, one_more h.2 k.2)

-- The table of signatures, row by row.
data Row (P : Program) : Operation → List Ty → Type 0 where
  compute : {c : _} → Row P (o.Compute c) (int ∷ int ∷ [])
  compare : {c : _} → Row P (o.Compare c) (int ∷ int ∷ [])
  connect : {c : _} → Row P (o.Connect c) (bool ∷ bool ∷ [])
  new : Row P o.New (int ∷ [])
  kill : Row P o.Kill (packet ∷ [])
  read : Row P o.Read (alias ∷ int ∷ [])
  update : Row P o.Update (alias ∷ int ∷ int ∷ [])
  enq : {q : ℕ} → Row P (o.Enq q) (packet ∷ [])
  deq : {q : ℕ} → Row P (o.Deq q) []
  function : {g : ℕ} (G : Function) → get_elem? P.functions g ≡ some G → Row P (o.Function g) G.params

as_row : {P : Program} {op : Operation} {s : Signature} {ρs σs : List Ty} → Row P op s.params → ◌≡◌ {A = Option Signature} (some s) (some (ρs ⇒ σs)) → Row P op ρs
as_row {P} {op} {s} {ρs} {σs} r h = subst (λ (z : Signature). Row P op z.params) (some-injective s (ρs ⇒ σs) h) r

function-row : (P : Program) (g : ℕ) {ρs σs : List Ty} (f : Option Function) → get_elem? P.functions g ≡ f → of_function f ≡ some (ρs ⇒ σs) → Row P (o.Function g) ρs
function-row P g {ρs} {σs} Option.none e h = absurd (none-ne-some (ρs ⇒ σs) h)
function-row P g (some G) e h = as_row {s = G.params ⇒ G.results} (function G e) h

row_of : (P : Program) (op : Operation) {ρs σs : List Ty} → signature P op ≡ some (ρs ⇒ σs) → Row P op ρs
row_of P (o.Compute c) h = as_row {s = (int ∷ int ∷ []) ⇒ (int ∷ [])} compute h
row_of P (o.Compare c) h = as_row {s = (int ∷ int ∷ []) ⇒ (bool ∷ [])} compare h
row_of P (o.Connect c) h = as_row {s = (bool ∷ bool ∷ []) ⇒ (bool ∷ [])} connect h
row_of P o.New h = as_row {s = (int ∷ []) ⇒ (packet ∷ [])} new h
row_of P o.Kill h = as_row {s = (packet ∷ []) ⇒ []} kill h
row_of P o.Read h = as_row {s = (alias ∷ int ∷ []) ⇒ (int ∷ [])} read h
row_of P o.Update h = as_row {s = (alias ∷ int ∷ int ∷ []) ⇒ []} update h
row_of P (o.Enq q) h = subst (Row P (o.Enq q)) (provided-row _ h).1 enq
row_of P (o.Deq q) h = subst (Row P (o.Deq q)) (provided-row _ h).1 deq
row_of P (o.Function g) h = function-row P g (get_elem? P.functions g) refl h
row_of P (o.Unknown k i) {ρs} {σs} h = absurd (none-ne-some (ρs ⇒ σs) h)

-- What comes of a thread: a rule, or a cause to wait.
abbrev Next : State → ℕ → Thread → Type 0
Next s t r = ((r' : Thread) × (e : Effect) × Rule s t r r' e) ⊎ ((c : Cause) × WaitsFor s t r c)

return_exists : {s : State} {t f p : ℕ} {F : Function} {as' : List Operand} {vs ws xs : List Held} → get_elem? s.program.functions f ≡ some F → Gives vs as' F.results xs ws
    → (fs : List Frame) → Next s t (running (frame f (return p as') vs) fs)
return_exists q h [] = inl (_, _, ends q h)
return_exists q h (frame g next us ∷ fs) = inl (_, _, returns q h)

branch_exists : {s : State} {t f p : ℕ} {a : Operand} {e₁ e₂ : Body} {vs : List Held} {fs : List Frame} (b : Bool) → Give vs a.value bool (truth b) vs
    → Next s t (running (frame f (branch p a e₁ e₂) vs) fs)
branch_exists true h = inl (_, _, if_true h)
branch_exists false h = inl (_, _, if_false h)

tail? : (n k : ℕ) (next : Body) → Dec (Tail n k next)
tail? n k next = go (is_tail n k next) refl
  where
    go : (b : Bool) → is_tail n k next ≡ b → Dec (Tail n k next)
    go true e = yes (tail-sound n k next (subst T (sym e) tt))
    go false e = no (λ t. subst T e (tail_complete t))

module _ (s : State) (sound : Sound s) (t f p k : ℕ) (as' : List Operand) (next : Body) (vs ws : List Held) (fs : List Frame) where
  abbrev Calls : Operation → Type 0
  Calls op = Next s t (running (frame f (call p op as' k next) vs) fs)

  abbrev Alive : Name → Type 0
  Alive n = (q : Packet) × (lookup n (packets s) ≡ Some q)

  deq-exists : (q : ℕ) {ρs σs : List Ty} → signature s.program (o.Deq q) ≡ some (ρs ⇒ σs) → Gives vs as' ρs [] ws → (ns : List Name) → queue s q ≡ ns → Calls (o.Deq q)
  deq-exists q sg h [] e = inr (_, delayed sg h (on_empty e))
  deq-exists q sg h (n ∷ ns) e =
      let b = sound.conserved n in let c = total_get_or (occurs n) s.queues q [] refl in let d = ap (occurs n) e in let i = is_same n in
      let (p, l) = present-some (lookup n (packets s)) (omega arith) in
      inl (_, _, operates sg h (dequeues e l))

  new-exists : (j : ℕ) {ρs σs : List Ty} → signature s.program o.New ≡ some (ρs ⇒ σs) → Gives vs as' ρs (integer j ∷ []) ws → Calls o.New
  new-exists j sg h = go (dec_lt (made s t) s.limit) (dec_le (units s.store + s.store.need (made_size s j)) s.store.capacity)
    where
      go : Dec (made s t < s.limit) → Dec (units s.store + s.store.need (made_size s j) ≤ s.store.capacity) → Calls o.New
      go (yes a) (yes b) = inl (_, _, operates sg h (makes a (not_made sound t) b))
      go (yes a) (no b) = inr (_, delayed sg h (on_room a b))
      go (no a) d = inr (_, delayed sg h (on_names (let l = sound.limited t in omega arith)))

  call-exists : {F : Function} {ρs σs : List Ty} {op : Operation} {xs : List Held} → Row s.program op ρs → signature s.program op ≡ some (ρs ⇒ σs) → Gives vs as' ρs xs ws → Canons ρs xs
      → ((n : Name) → 0 < owned n xs + borrowed n xs → Alive n) → get_elem? s.program.functions f ≡ some F → Called s.program F (types vs) op as' k next ρs σs
      → Awaits s.program F.results F.depth fs → Calls op
  call-exists compute sg h (and_more an_int (and_more an_int none_left)) al q d aw = inl (_, _, operates sg h computes)
  call-exists compare sg h (and_more an_int (and_more an_int none_left)) al q d aw = inl (_, _, operates sg h compares)
  call-exists connect sg h (and_more a_bool (and_more a_bool none_left)) al q d aw = inl (_, _, operates sg h connects)
  call-exists new sg h (and_more (an_int {k = j}) none_left) al q d aw = new-exists j sg h
  call-exists kill sg h (and_more (an_owner {n}) none_left) al q d aw = let (p, l) = al n (let z = is_same n in omega arith) in inl (_, _, operates sg h (kills l))
  call-exists read sg h (and_more (an_alias {n}) (and_more (an_int {k = i}) none_left)) al q d aw =
      let (p, l) = al n (let z = is_same n in omega arith) in
      elim (dec_lt i (length p.bytes)) [ yes r ↦ inl (_, _, operates sg h (reads_inside l r)) | no r ↦ inl (_, _, operates sg h (reads_outside l (omega arith))) ]
  call-exists update sg h (and_more (an_alias {n}) (and_more (an_int {k = i}) (and_more an_int none_left))) al q d aw =
      let (p, l) = al n (let z = is_same n in omega arith) in
      elim (dec_lt i (length p.bytes)) [ yes r ↦ inl (_, _, operates sg h (updates_inside l r)) | no r ↦ inl (_, _, operates sg h (updates_outside l (omega arith))) ]
  call-exists (enq {q = i}) sg h (and_more an_owner none_left) al q d aw =
      elim (dec_lt (length (queue s i)) 16) [ yes r ↦ inl (_, _, operates sg h (enqueues r)) | no r ↦ inr (_, delayed sg h (on_full (omega arith))) ]
  call-exists (deq {q = i}) sg h none_left al q d aw = deq-exists i sg h (queue s i) refl
  call-exists {F} (function {g} G fg) sg h c al q d aw = go (tail? (length vs) k next)
    where
      go : Dec (Tail (length vs) k next) → Calls (o.Function g)
      go (yes y) = inl (_, _, tail_calls fg y h)
      go (no n) = inl (
        _,
        _,
        calls fg n h (let a = awaits-length sound.runnable.small.depths aw (sound.runnable.small.depths f F q) in
            let e = (d.deep G.depth (function-depth s.program g fg)).1 (λ y. n (subst (λ m. Tail m k next) (length-map {B = Entry} vs type) y)) in omega arith),
      )

next_exists : (s : State) → Sound s → (t : ℕ) {r : Thread} → ((n : Name) → 0 < held n r → (p : Packet) × (lookup n (packets s) ≡ Some p)) → Placed s.program r → Lent (frames r) → r ≢ ended → Next s t r
next_exists s sound t al over l ne = absurd (ne refl)
next_exists s sound t al (at_node {f} {node = return p as'} {vs} {fs} q c aw) l ne =
    let (Δ, g, z) = sits-return c in let (xs, ws, h) = gives_exist vs refl g in return_exists q h fs
next_exists s sound t al (at_node {f} {node = branch p a e₁ e₂} {vs} {fs} q c aw) l ne =
    let (b, h) = truth_exists vs refl (sits-branch c).0 in branch_exists b h
next_exists s sound t al (at_node {f} {node = call p op as' k next} {vs} {fs} q c aw) l ne =
    let (ρs, σs, sg, d) = sits-call c in
    let (xs, ws, h) = gives_exist vs refl d.leaves in
    call-exists s sound t f p k as' next vs ws fs (row_of s.program op sg) sg h (gives-canon h) (λ n b. al n (given-held n (in_frames n fs) (l.0 n) d.leaves h b)) q d aw

-- A cause to wait leaves no rule, and is alone.
delays-operates : {s : State} {t : ℕ} {op : Operation} {xs rs : List Held} {c : Cause} {e : Effect} → Delays s t op xs c → Operates s t op xs e rs → ⊥
delays-operates (on_empty d) (dequeues h k) = let z : ◌≡◌ {A = ℕ} 0 1 = cc in omega arith
delays-operates (on_full d) (enqueues h) = omega arith
delays-operates (on_names d) (makes h f r) = omega arith
delays-operates (on_room a d) (makes h f r) = d r

delays-once : {s : State} {t : ℕ} {op : Operation} {xs : List Held} {c d : Cause} → Delays s t op xs c → Delays s t op xs d → c ≡ d
delays-once (on_empty a) (on_empty b) = refl
delays-once (on_full a) (on_full b) = refl
delays-once (on_names a) (on_names b) = refl
delays-once (on_names a) (on_room b n) = absurd (omega arith)
delays-once (on_room b n) (on_names a) = absurd (omega arith)
delays-once (on_room a n) (on_room b m) = refl

pub cause_no_rule : {s : State} {t : ℕ} {r r' : Thread} {c : Cause} {e : Effect} → WaitsFor s t r c → Rule s t r r' e → ⊥
cause_no_rule {s} {t} (delayed {op = op} {c = c} sg h d) (operates sg' h' w) =
    delays-operates (subst (λ (xs : List Held). Delays s t op xs c) (arguments-same s.program op sg sg' h h').0 d) w
cause_no_rule (delayed sg h d) (calls fg nt h' lt) = elim d [ ]
cause_no_rule (delayed sg h d) (tail_calls fg tl h') = elim d [ ]

pub one_cause : {s : State} {t : ℕ} {r : Thread} {c d : Cause} → WaitsFor s t r c → WaitsFor s t r d → c ≡ d
one_cause {s} {t} (delayed {op = op} {c = c} sg h w) (delayed sg' h' w') =
    delays-once (subst (λ (xs : List Held). Delays s t op xs c) (arguments-same s.program op sg sg' h h').0 w) w'

pub cause_runs : {s : State} {t : ℕ} {r : Thread} {c : Cause} → WaitsFor s t r c → r ≢ ended
cause_runs (delayed sg h d) = running-ended

-- what follows where a rule or a cause stands
goes_on : (s : State) (t : ℕ) → thread s t ≢ ended → Next s t (thread s t) → GoesOn s t
goes_on s t ne x = record {
  answered = ⊎_elim (λ r. (_, _, moves (advances r.2))) (λ r. (_, _, moves (waits r.1))) x;
  never_stuck = never;
  waits_exactly = λ c. ((λ w. by_cause c w.0 w.1), λ w. (s, moves (waits w)));
  wait_alters_nothing = nothing_altered;
  else_advances = advancing;
}
  where
    never : (s' : State) → ¬ Step s t Stuck s'
    never s' (Step.sticks n) = ⊎_elim (λ r. n _ _ (advances r.2)) (λ r. n _ _ (waits r.1)) x
    never s' (Step.moves m) = elim m [ ]

    by_cause : (c : Cause) (s' : State) → Step s t (Waits c) s' → WaitsFor s t (thread s t) c
    by_cause c s' (Step.moves (Moves.waits w)) = w

    nothing_altered : (c : Cause) (s' : State) → Step s t (Waits c) s' → s' ≡ s
    nothing_altered c s' (Step.moves (Moves.waits w)) = refl

    advancing : ((c : Cause) → ¬ WaitsFor s t (thread s t) c) → (a : Outcome) (s' : State) → Step s t a s' → a ≡ Advanced
    advancing f a s' (Step.moves (Moves.advances r)) = refl
    advancing f a s' (Step.moves (Moves.waits w)) = absurd (f _ w)
    advancing f a s' (Step.moves (Moves.has_ended e)) = absurd (ne e)
    advancing f a s' (Step.sticks n) = absurd (never _ (sticks n))

pub next : (s : State) → Sound s → (t : ℕ) → thread s t ≢ ended → Next s t (thread s t)
next s sound zero ne = absurd (ne refl)
next s sound (suc i) ne = next_exists s sound (suc i)
    (λ n h. present-some (lookup n (packets s)) (let a = sound.conserved n in let b = total_get_or (held n) s.threads i ended refl in omega arith)) (sound.placed i) (sound.lent i) ne

pub goes_on_stands : (s : State) → Sound s → (t : ℕ) → thread s t ≢ ended → GoesOn s t
goes_on_stands s sound t ne = goes_on s t ne (next s sound t ne)
