-- Layers 2 and 3 of a whole program, and all layers of bytes.
use Rattle.std.proofs.Common.{◌≡◌, ℕ, zero, suc, ◌+◌, ◌<◌, T, ◌↔◌, List, [], ◌∷◌, map, length, Ok, Result, sym, refl, subst, add-zero, zero-add, arith}
use mathlib.Core.Option.{some, some-injective, none-ne-some}
use lib.ListN.{length-map, get_elem?}
use Rattle.reader.specs.declared.faults.Fault.{Fault}
use Rattle.reader.specs.Syntax.{Body, Function, Program}
use Rattle.reader.specs.Programs.{reading}
use Rattle.reader.proofs.Results.{then_ok, go}
use Rattle.reader.proofs.Law.{reads_back}
use Rattle.typing.specs.Signatures.{Ty, int, bool, packet, alias}
use Rattle.typing.specs.Typing.{Entry, has, Ctx, Unlent, unlent_int, unlent_bool, unlent_packet, Every, every_end, every_more, ◌∣◌⊢ᵉ◌⦂◌, rule_call, rule_return, rule_if, rule_weak, Room, Deep, EachFunction, Accepted}
use Rattle.typing.specs.Layers.{unlent, no_alias, results_place, thread_ready, outside, inside, each, layers}
use Rattle.typing.specs.Theorems.{ProgramsDecided, BytesDecided, EncodingsDecided}
use Rattle.typing.proofs.Answered.{asked_ok, ok_asked}
use Rattle.typing.proofs.Bodies.{bodies_decided}

-- every path ends in a return, which gives no alias
pub typed-unlent : {P : Program} {τs : List Ty} {Γ : Ctx} {e : Body} → P ∣ Γ ⊢ᵉ e ⦂ τs → Every Unlent τs
typed-unlent (rule_call f m ds de t) = typed-unlent de
typed-unlent (rule_return ds u) = u
typed-unlent (rule_if dv d₁ d₂ t) = typed-unlent d₁
typed-unlent (rule_weak d a u) = typed-unlent d

-- something is asked of each function exactly where it is asked of every one by its number
abbrev Granted : (ℕ → Function → Result (Unit {0}) Fault) → ℕ → List Function → Type 0
Granted asks i Fs = (k : ℕ) (F : Function) → get_elem? Fs k ≡ some F → asks (i + k) F ≡ Ok tt

each-sound : (asks : ℕ → Function → Result (Unit {0}) Fault) (i : ℕ) (Fs : List Function) → each asks i Fs ≡ Ok tt → Granted asks i Fs
each-sound asks i [] h k F e = absurd (none-ne-some F e)
each-sound asks i (G ∷ Gs) h zero F e =
    let (_, t, _) = then_ok (asks i G) _ tt h in
    rw (add-zero i, ← (some-injective G F e)) t
each-sound asks i (G ∷ Gs) h (suc k) F e =
    let (_, _, r) = then_ok (asks i G) _ tt h in
    let n : i + 1 + k ≡ i + suc k = omega arith in
    subst (λ m. asks m F ≡ Ok tt) n (each-sound asks (i + 1) Gs r k F e)

each_complete : (asks : ℕ → Function → Result (Unit {0}) Fault) (i : ℕ) (Fs : List Function) → Granted asks i Fs → each asks i Fs ≡ Ok tt
each_complete asks i [] h = refl
each_complete asks i (G ∷ Gs) h =
    go _ (subst (λ m. asks m G ≡ Ok tt) (add-zero i) (h 0 G refl))
    (each_complete asks (i + 1) Gs (λ k F e. let n : i + suc k ≡ i + 1 + k = omega arith in subst (λ m. asks m F ≡ Ok tt) n (h (suc k) F e)))

pub each_decided : (asks : ℕ → Function → Result (Unit {0}) Fault) (P : Program) → (each asks 0 P.functions ≡ Ok tt) ↔ EachFunction P (λ i F. asks i F ≡ Ok tt)
each_decided asks P = (
  (λ h i F e. subst (λ m. asks m F ≡ Ok tt) (zero-add i) (each-sound asks 0 P.functions h i F e)),
  λ h. each_complete asks 0 P.functions (λ i F e. subst (λ m. asks m F ≡ Ok tt) (sym (zero-add i)) (h i F e)),
)

no_alias_sound : (i p : ℕ) (τs : List Ty) → no_alias i p τs ≡ Ok tt → Every Unlent τs
no_alias_sound i p [] h = every_end
no_alias_sound i p (τ ∷ τs) h =
    let (t, r) = asked_ok _ _ _ (unlent τ) _ h in every_more (other τ t) (no_alias_sound i (p + 1) τs r)
  where
    other : (τ : Ty) → T (unlent τ) → Unlent τ
    other int t = unlent_int
    other bool t = unlent_bool
    other packet t = unlent_packet
    other alias t = absurd t

no_alias_complete : (i p : ℕ) {τs : List Ty} → Every Unlent τs → no_alias i p τs ≡ Ok tt
no_alias_complete i p every_end = refl
no_alias_complete i p (every_more unlent_int u) = no_alias_complete i (p + 1) u
no_alias_complete i p (every_more unlent_bool u) = no_alias_complete i (p + 1) u
no_alias_complete i p (every_more unlent_packet u) = no_alias_complete i (p + 1) u

abbrev ThreadReady : Program → ℕ → Function → Type 0
ThreadReady P i F = i < P.threads → (F.params ≡ []) × (F.results ≡ [])

thread-sound : (P : Program) (i : ℕ) (F : Function) → T (thread_ready P i F) → ThreadReady P i F
thread-sound P i F t l = (grind arith, grind arith)

thread_complete : (P : Program) (i : ℕ) (F : Function) → ThreadReady P i F → T (thread_ready P i F)
thread_complete P i F a = grind arith

-- layer 2 of a function
outside_decided : (P : Program) (i : ℕ) (F : Function) → (outside P i F ≡ Ok tt) ↔ (ThreadReady P i F × Every Unlent F.results)
outside_decided P i F = (
  (λ h. let (t, r) = asked_ok _ _ _ (thread_ready P i F) _ h in (thread-sound P i F t, no_alias_sound i (results_place F) F.results r)),
  λ a. ok_asked _ _ _ (thread_ready P i F) _ (thread_complete P i F a.0) (no_alias_complete i (results_place F) a.1),
)

-- layer 3 of a function that gives no alias
abbrev Kept : Program → Function → ℕ → Type 0
Kept P F n = (P ∣ map has F.params ⊢ᵉ F.body ⦂ F.results) × Room n F.body × Deep P F.depth n F.body

inside_decided : (P : Program) (i : ℕ) (F : Function) → Every Unlent F.results → (inside P i F ≡ Ok tt) ↔ Kept P F (length F.params)
inside_decided P i F u =
    let (there, back) = bodies_decided P i F u (map has F.params) F.body in
    let n = length-map {B = Entry} F.params has in
    ((λ h. subst (Kept P F) n (there h)), λ k. back (subst (Kept P F) (sym n) k))

pub programs_decided : ProgramsDecided
programs_decided P = (there, back)
  where
    there : layers P ≡ Ok tt → Accepted P
    there h =
        let (_, a, b) = then_ok (each (outside P) 0 P.functions) _ tt h in
        let outer : EachFunction P (λ i F. ThreadReady P i F × Every Unlent F.results) =
        λ i F e. (outside_decided P i F).0 ((each_decided (outside P) P).0 a i F e) in
        let inner : EachFunction P (λ i F. Kept P F (length F.params)) =
        λ i F e. (inside_decided P i F (outer i F e).1).0 ((each_decided (inside P) P).0 b i F e) in
        record {
          typed = λ i F e. (inner i F e).0;
          threads = λ i F e. (outer i F e).0;
          room = λ i F e. (inner i F e).1;
          depths = λ i F e. (inner i F e).2;
        }

    back : Accepted P → layers P ≡ Ok tt
    back a =
        go _ ((each_decided (outside P) P).1 (λ i F e. (outside_decided P i F).1 (a.threads i F e, typed-unlent (a.typed i F e))))
        ((each_decided (inside P) P).1 (λ i F e. (inside_decided P i F (typed-unlent (a.typed i F e))).1 (a.typed i F e, a.room i F e, a.depths i F e)))

pub bytes_decided : BytesDecided
bytes_decided b = (
  (λ h. let (P, r, l) = then_ok (reading b) layers tt h in (P, r, (programs_decided P).0 l)),
  λ a. go layers a.1 ((programs_decided a.0).1 a.2),
)

pub encodings_decided : EncodingsDecided
encodings_decided b small = (
  (λ h. let (P, r, a) = (bytes_decided b).0 h in (P, (reads_back b small P).0 r, a)),
  λ w. (bytes_decided b).1 (w.0, (reads_back b small w.0).1 w.1, w.2),
)
