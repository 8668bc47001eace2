-- What the code of a machine shows of a step, from the thread as it finds it; and what it may rely on.
use Rattle.std.proofs.Common.{◌≡◌, ℕ, ◌≤◌, Bool, true, false, ◌≢◌, ◌⊎◌, List, [], ◌∷◌, ◌++◌, length, sym, refl, ◌∙◌, subst, inl, inr, ⊎_elim, arith}
use mathlib.Core.Option.{some}
use native.Mathlib.Decide.{dec_le}
use lib.ListN.{get_elem?}
use Rattle.reader.specs.declared.types.Ty.{Ty}
use Rattle.reader.specs.declared.types.Ty.TheVariants.{Bool as bool}
use Rattle.reader.specs.declared.values.Operand.{Operand}
use Rattle.reader.specs.declared.operations.Operation.{Operation}
use Rattle.reader.specs.declared.operations.Operation.TheVariants as o
use Rattle.reader.specs.Syntax.{Body, return, branch, call, Function, Program}
use Rattle.typing.specs.Signatures.{◌⇒◌, signature}
use Rattle.typing.specs.Typing.{Tail}
use Rattle.rules.specs.State.{Held, truth, Frame, frame, Thread, ended, running, State, thread, Effect, apply}
use Rattle.rules.specs.Rules.{Cause, Outcome, Advanced, Waits, Ended, Stuck, Give, Gives, Operates, Delays, Rule, WaitsFor, Moves, advances, waits, has_ended, Step, moves, sticks, WouldAdvance}
use Rattle.rules.specs.Calls.{Machine, Call, Reply, Does, Turn, Runs, at_rest, goes_on, last, Reached, by_call}
use Rattle.rules.proofs.Frames.{Runnable, function-signature, Placed, at_node, awaits-length}
use Rattle.rules.proofs.Invariant.{Sound, running-ended}
use Rattle.rules.proofs.Progress.{next, cause_no_rule}
use Rattle.rules.proofs.Same.{arguments-same}
use Rattle.rules.proofs.Swap.{settled}
use Rattle.rules.proofs.Calls.{ended_stays, beyond}

-- The outcomes.
pub advanced_by : (s : State) (t : ℕ) {r r' : Thread} {e : Effect} → thread s t ≡ r → Rule s t r r' e → Step s t Advanced (apply t r' e s)
advanced_by s t {r' = r'} {e = e} q w = moves (advances (subst (λ (x : Thread). Rule s t x r' e) (sym q) w))

pub waits_by : (s : State) (t : ℕ) {r : Thread} {c : Cause} → thread s t ≡ r → WaitsFor s t r c → Step s t (Waits c) s
waits_by s t {c = c} q w = moves (waits (subst (λ (x : Thread). WaitsFor s t x c) (sym q) w))

pub ended_by : (s : State) (t : ℕ) → thread s t ≡ ended → Step s t Ended s
ended_by s t q = moves (has_ended q)

pub stuck_by : (s : State) (t : ℕ) {f : Frame} {fs : List Frame} → thread s t ≡ running f fs → ((r : Thread) (e : Effect) → ¬ Rule s t (running f fs) r e) → ((c : Cause) → ¬ WaitsFor s t (running f fs) c)
    → Step s t Stuck s
stuck_by s t {f} {fs} q rules causes = sticks (λ a x m. none m)
  where
    none : {a : Outcome} {x : State} → Moves s t a x → ⊥
    none (Moves.advances {r = r} {e = e} w) = rules r e (subst (λ (x : Thread). Rule s t x r e) q w)
    none (Moves.waits {c = c} w) = causes c (subst (λ (x : Thread). WaitsFor s t x c) q w)
    none (Moves.has_ended e) = running-ended (sym q ∙ e)

-- Where no rule and no cause stands.

-- the arguments of a call
pub record Arguments (P : Program) (op : Operation) (as' : List Operand) (vs : List Held) : Type 0 where
  pub params : List Ty
  pub results : List Ty
  pub given : List Held
  pub left : List Held
  pub callee : signature P op ≡ some (params ⇒ results)
  pub gives : Gives vs as' params given left

rule-arguments : {s : State} {t f p k : ℕ} {op : Operation} {as' : List Operand} {next : Body} {vs : List Held} {fs : List Frame} {r : Thread} {e : Effect}
    → Rule s t (running (frame f (call p op as' k next) vs) fs) r e → Arguments s.program op as' vs
rule-arguments (Rule.operates sg h w) = record { params = _; results = _; given = _; left = _; callee = sg; gives = h }
rule-arguments {s} (Rule.calls {g = g} fg nt h lt) = record { params = _; results = _; given = _; left = _; callee = function-signature s.program g fg; gives = h }
rule-arguments {s} (Rule.tail_calls {g = g} fg tl h) = record { params = _; results = _; given = _; left = _; callee = function-signature s.program g fg; gives = h }

cause_arguments : {s : State} {t f p k : ℕ} {op : Operation} {as' : List Operand} {next : Body} {vs : List Held} {fs : List Frame} {c : Cause}
    → WaitsFor s t (running (frame f (call p op as' k next) vs) fs) c → Arguments s.program op as' vs
cause_arguments (WaitsFor.delayed sg h w) = record { params = _; results = _; given = _; left = _; callee = sg; gives = h }

pub stuck_without_arguments : (s : State) (t : ℕ) {f p k : ℕ} {op : Operation} {as' : List Operand} {next : Body} {vs : List Held} {fs : List Frame}
    → thread s t ≡ running (frame f (call p op as' k next) vs) fs → ¬ Arguments s.program op as' vs → Step s t Stuck s
stuck_without_arguments s t q n = stuck_by s t q (λ r e w. n (rule-arguments w)) (λ c w. n (cause_arguments w))

-- an operation that neither happens nor waits
operation-rule : {s : State} {t f p k : ℕ} {op : Operation} {as' : List Operand} {next : Body} {ρs σs : List Ty} {vs ws xs : List Held} {fs : List Frame} {r : Thread} {e : Effect}
    → Rule s t (running (frame f (call p op as' k next) vs) fs) r e → ((g : ℕ) → op ≢ o.Function g) → signature s.program op ≡ some (ρs ⇒ σs) → Gives vs as' ρs xs ws
    → (rs : List Held) × Operates s t op xs e rs
operation-rule {s} {t} {op = op} (Rule.operates {rs = rs} {e = e} sg' h' w) nf sg h = (rs, subst (λ (x : List Held). Operates s t op x e rs) (arguments-same s.program op sg' sg h' h).0 w)
operation-rule (Rule.calls {g = g} fg nt h' lt) nf sg h = absurd (nf g refl)
operation-rule (Rule.tail_calls {g = g} fg tl h') nf sg h = absurd (nf g refl)

operation_cause : {s : State} {t f p k : ℕ} {op : Operation} {as' : List Operand} {next : Body} {ρs σs : List Ty} {vs ws xs : List Held} {fs : List Frame} {c : Cause}
    → WaitsFor s t (running (frame f (call p op as' k next) vs) fs) c → signature s.program op ≡ some (ρs ⇒ σs) → Gives vs as' ρs xs ws → Delays s t op xs c
operation_cause {s} {t} {op = op} (WaitsFor.delayed {c = c} sg' h' w) sg h = subst (λ (x : List Held). Delays s t op x c) (arguments-same s.program op sg' sg h' h).0 w

pub stuck_operation : (s : State) (t : ℕ) {f p k : ℕ} {op : Operation} {as' : List Operand} {next : Body} {ρs σs : List Ty} {vs ws xs : List Held} {fs : List Frame}
    → thread s t ≡ running (frame f (call p op as' k next) vs) fs → ((g : ℕ) → op ≢ o.Function g) → signature s.program op ≡ some (ρs ⇒ σs) → Gives vs as' ρs xs ws
    → ((e : Effect) (rs : List Held) → ¬ Operates s t op xs e rs) → ((c : Cause) → ¬ Delays s t op xs c) → Step s t Stuck s
stuck_operation s t q nf sg h no-operation no-delay =
    stuck_by s t q (λ r e w. let (rs, x) = operation-rule w nf sg h in no-operation e rs x) (λ c w. no-delay c (operation_cause w sg h))

-- a ninth frame
pub stuck_ninth : (s : State) (t : ℕ) {f g p k : ℕ} {as' : List Operand} {next : Body} {vs : List Held} {fs : List Frame}
    → thread s t ≡ running (frame f (call p (o.Function g) as' k next) vs) fs → ¬ Tail (length vs) k next → 7 ≤ length fs → Step s t Stuck s
stuck_ninth s t {f} {g} {p} {k} {as'} {next} {vs} {fs} q nt l = stuck_by s t q (λ r e w. none w) (λ c w. no_cause w)
  where
    none : {r : Thread} {e : Effect} → ¬ Rule s t (running (frame f (call p (o.Function g) as' k next) vs) fs) r e
    none (Rule.operates sg h w) = elim w [ ]
    none (Rule.calls fg n h lt) = omega arith
    none (Rule.tail_calls fg tl h) = nt tl

    no_cause : {c : Cause} → ¬ WaitsFor s t (running (frame f (call p (o.Function g) as' k next) vs) fs) c
    no_cause (WaitsFor.delayed sg h w) = elim w [ ]

-- a return of values that are not there
pub stuck_return : (s : State) (t : ℕ) {f p : ℕ} {as' : List Operand} {vs : List Held} {fs : List Frame} → thread s t ≡ running (frame f (return p as') vs) fs
    → ((F : Function) (xs ws : List Held) → get_elem? s.program.functions f ≡ some F → ¬ Gives vs as' F.results xs ws) → Step s t Stuck s
stuck_return s t {f} {p} {as'} {vs} {fs} q n = stuck_by s t q (λ r e w. none w) (λ c w. elim w [ ])
  where
    none : {r : Thread} {e : Effect} {fs : List Frame} → ¬ Rule s t (running (frame f (return p as') vs) fs) r e
    none (Rule.returns {F = F} {ws = ws} {xs = xs} e h) = n F xs ws e h
    none (Rule.ends {F = F} {ws = ws} {xs = xs} e h) = n F xs ws e h

-- an if on no truth value
pub stuck_branch : (s : State) (t : ℕ) {f p : ℕ} {a : Operand} {e₁ e₂ : Body} {vs : List Held} {fs : List Frame} → thread s t ≡ running (frame f (branch p a e₁ e₂) vs) fs
    → ((b : Bool) → ¬ Give vs a.value bool (truth b) vs) → Step s t Stuck s
stuck_branch s t {f} {p} {a} {e₁} {e₂} {vs} {fs} q n = stuck_by s t q (λ r e w. none w) (λ c w. elim w [ ])
  where
    none : {r : Thread} {e : Effect} → ¬ Rule s t (running (frame f (branch p a e₁ e₂) vs) fs) r e
    none (Rule.if_true h) = n true h
    none (Rule.if_false h) = n false h

-- What stands in every state that calls lead to.

-- the function of each frame is the program's, and there are at most eight frames
pub frames-few : {P : Program} {f : Frame} {fs : List Frame} → Runnable P → Placed P (running f fs) → length fs ≤ 7
frames-few run (at_node {f} {F} q c aw) = let a = awaits-length run.small.depths aw (run.small.depths f F q) in omega arith

pub frame-function : {P : Program} {f : ℕ} {node : Body} {vs : List Held} {fs : List Frame} → Placed P (running (frame f node vs) fs) → (F : Function) × (get_elem? P.functions f ≡ some F)
frame-function (at_node {F = F} q c aw) = (F, q)

-- whether a thread that runs has a cause to wait
pub cause? : (s : State) → Sound s → (t : ℕ) → thread s t ≢ ended → ((c : Cause) × WaitsFor s t (thread s t) c) ⊎ ((c : Cause) → ¬ WaitsFor s t (thread s t) c)
cause? s v t ne = ⊎_elim (λ r. inr (λ c w. cause_no_rule w r.2)) (λ c. inl c) (next s v t ne)

-- a thread whose step has another outcome would not advance
pub other_outcome : (s : State) → Sound s → (t : ℕ) (a : Outcome) (x : State) → Step s t a x → a ≢ Advanced → ¬ WouldAdvance s t
other_outcome s v t a x w ne (y, z) = ne (settled s v t a Advanced x y w z).0

-- and none would if none of the program's threads would
pub none_advances : (s : State) → Sound s → ((t : ℕ) → 1 ≤ t → t ≤ s.program.threads → ¬ WouldAdvance s t) → (t : ℕ) → ¬ WouldAdvance s t
none_advances s v n t = go (dec_le 1 t) (dec_le t s.program.threads)
  where
    go : Dec (1 ≤ t) → Dec (t ≤ s.program.threads) → ¬ WouldAdvance s t
    go (yes a) (yes b) = n t a b
    go (yes a) (no b) = beyond s t (let p = v.peopled in omega arith)
    go (no a) d = subst (λ (u : ℕ). ¬ WouldAdvance s u) (let z : 0 ≡ t = omega arith in z) (ended_stays s 0 refl)

-- One more call of a run.
pub runs_more : {m m' : Machine} {xs : List Turn} {c : Call} {r : Reply} → Runs m xs → Does (last m xs) c r m' → Runs m (xs ++ (record { call = c; reply = r; after = m' } ∷ []))
runs_more at_rest d = goes_on d at_rest
runs_more (goes_on e w) d = goes_on e (runs_more w d)

pub last_more : (m : Machine) (xs : List Turn) (x : Turn) → last m (xs ++ (x ∷ [])) ≡ x.after
last_more m [] x = refl
last_more m (y ∷ xs) x = last_more y.after xs x

pub runs-reached : {m : Machine} {xs : List Turn} → Reached m → Runs m xs → Reached (last m xs)
runs-reached h at_rest = h
runs-reached h (goes_on d w) = runs-reached (by_call h d) w
