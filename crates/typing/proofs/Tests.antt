-- The tests that answer questions, and what they test.
use Rattle.std.proofs.Common.{◌≡◌, ℕ, zero, suc, ◌<◌, ◌≤◌, Bool, true, false, ◌&&◌, T, eqb, ◌⊎◌, List, [], ◌∷◌, ◌++◌, sym, refl, subst, arith, le→leb, ltb→lt, lt→ltb, leb→le}
use mathlib.Core.Option.{Option, none, some, some-injective, none-ne-some}
use lib.Dec.{eqb_refl}
use Rattle.reader.specs.declared.values.Value.{Value}
use Rattle.reader.specs.declared.values.Operand.{Operand}
use Rattle.reader.specs.Syntax.{Body, return, branch, call}
use Rattle.typing.specs.Typing.{variable, Consecutive, consecutive_end, consecutive_more, Tail, tail}
use Rattle.typing.specs.Marks.{member, is_variable, consecutive, is_tail, deep_enough, depth_holds}

pub and_left : (a b : Bool) → T (a && b) → T a
and_left a b t = grind arith

pub and_right : (a b : Bool) → T (a && b) → T b
and_right a b t = grind arith

pub and_both : (a b : Bool) → T a → T b → T (a && b)
and_both a b s t = grind arith

pub eq→eqb : {m n : ℕ} → m ≡ n → T (eqb m n)
eq→eqb {m} e = subst (λ k. T (eqb m k)) e (eqb_refl m)

-- one more name after others
pub member-last : (x : ℕ) (ys : List ℕ) → T (member x (ys ++ (x ∷ [])))
member-last x [] = grind arith
member-last x (y ∷ ys) = grind (arith, member-last x ys)

pub member_more : (y x : ℕ) (ys : List ℕ) → T (member y ys) → T (member y (ys ++ (x ∷ [])))
member_more y x [] t = absurd t
member_more y x (z ∷ ys) t = grind (arith, member_more y x ys)

pub member_split : (y x : ℕ) (ys : List ℕ) → T (member y (ys ++ (x ∷ []))) → T (member y ys) ⊎ (y ≡ x)
member_split y x [] t = grind arith
member_split y x (z ∷ ys) t = grind (arith, member_split y x ys)

is_variable_sound : (n : ℕ) (v : Value) → T (is_variable n v) → v ≡ variable n
is_variable_sound n v t = grind arith

pub consecutive-sound : (n j : ℕ) (vs : List Operand) → T (consecutive n j vs) → Consecutive n j vs
consecutive-sound n zero [] t = consecutive_end
consecutive-sound n zero (v ∷ vs) t = absurd t
consecutive-sound n (suc j) [] t = absurd t
consecutive-sound n (suc j) (v ∷ vs) t =
    consecutive_more (is_variable_sound n v.value (and_left (is_variable n v.value) (consecutive (suc n) j vs) t))
    (consecutive-sound (suc n) j vs (and_right (is_variable n v.value) (consecutive (suc n) j vs) t))

pub consecutive_complete : {n j : ℕ} {vs : List Operand} → Consecutive n j vs → T (consecutive n j vs)
consecutive_complete consecutive_end = tt
consecutive_complete (consecutive_more {n = n} {j = j} {v = v} {vs = vs} e c) =
    and_both (is_variable n v.value) (consecutive (suc n) j vs) (subst (λ w. T (is_variable n w)) (sym e) (eqb_refl n)) (consecutive_complete c)

pub tail-sound : (n j : ℕ) (e : Body) → T (is_tail n j e) → Tail n j e
tail-sound n j (return p vs) t = tail (consecutive-sound n j vs t)
tail-sound n j (branch p v e₁ e₂) t = absurd t
tail-sound n j (call p f vs m e) t = absurd t

pub tail_complete : {n j : ℕ} {e : Body} → Tail n j e → T (is_tail n j e)
tail_complete (tail c) = consecutive_complete c

-- the depth rule at one call, of what has a depth or none
abbrev pub DeepHere : (d : ℕ) → Option ℕ → (n j : ℕ) → Body → Type 0
DeepHere d o n j e = (c : ℕ) → o ≡ some c → (Tail n j e → c ≤ d) × (¬ Tail n j e → c < d)

deep-sound : (d c : ℕ) (b : Bool) {A : Type 0} → (T b → A) → T (deep_enough d c b) → (A → c ≤ d) × (¬ A → c < d)
deep-sound d c true h t = ((λ a. leb→le c d t), λ n. absurd (n (h tt)))
deep-sound d c false h t = let l : c < d = ltb→lt c d t in ((λ a. omega arith), λ n. l)

deep_complete : (d c : ℕ) (b : Bool) {A : Type 0} → (T b → A) → (A → T b) → (A → c ≤ d) → (¬ A → c < d) → T (deep_enough d c b)
deep_complete d c true g h le lt = le→leb c d (le (g tt))
deep_complete d c false g h le lt = lt→ltb c d (lt h)

pub depth-sound : (d : ℕ) (o : Option ℕ) (n j : ℕ) (e : Body) → T (depth_holds d o (is_tail n j e)) → DeepHere d o n j e
depth-sound d none n j e t c q = absurd (none-ne-some c q)
depth-sound d (some k) n j e t c q =
    subst (λ m. (Tail n j e → m ≤ d) × (¬ Tail n j e → m < d)) (some-injective k c q) (deep-sound d k (is_tail n j e) (tail-sound n j e) t)

pub depth_complete : (d : ℕ) (o : Option ℕ) (n j : ℕ) (e : Body) → DeepHere d o n j e → T (depth_holds d o (is_tail n j e))
depth_complete d none n j e h = tt
depth_complete d (some c) n j e h = deep_complete d c (is_tail n j e) (tail-sound n j e) tail_complete (h c refl).0 (h c refl).1
