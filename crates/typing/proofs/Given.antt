-- What it means that values are given, and that the questions put to them say just that.
use Rattle.std.proofs.Common.{◌≡◌, ℕ, zero, suc, ◌<◌, Bool, T, List, [], ◌∷◌, length, get_or, Ok, sym, refl, ap, ◌∙◌, subst, le_of_suc-le-suc, not-suc-le-zero, arith, ltb→lt, lt→ltb, T_not}
use Rattle.std.proofs.lemmas.Grind.{common_steps}
use native.Mathlib.Nat.{suc_inj}
use Rattle.reader.specs.declared.values.Value.{Value}
use Rattle.reader.specs.declared.values.Operand.{Operand}
use Rattle.reader.proofs.Results.{then_ok, ok_same, go}
use Rattle.typing.specs.Signatures.{Ty, int, bool, packet, alias}
use Rattle.typing.specs.Typing.{integer, truth, variable, Entry, absent, has, Ctx, Unowned, unowned_int, unowned_bool, unowned_alias}
use Rattle.typing.specs.Marks.{fits, bound, entry, unspent, fitting, member, note, once, spend, give, gives, test}
use Rattle.typing.proofs.Answered.{ask_ok, ok_ask, asked_ok, ok_asked}

-- the entry of a variable
pub data At : ℕ → Entry → Ctx → Type 0 where
  at_here : {e : Entry} {H : Ctx} → At zero e (e ∷ H)
  at_there : {x : ℕ} {e h : Entry} {H : Ctx} → At x e H → At (suc x) e (h ∷ H)

-- a variable given as ρ: its entry before and after
pub data Use : Ty → Entry → Entry → Type 0 where
  use_plain : {ρ : Ty} → Unowned ρ → Use ρ (has ρ) (has ρ)
  use_lent : Use alias (has packet) (has packet)
  use_owner : Use packet (has packet) absent

-- and the marks before and after
pub data UseAt (ρ : Ty) : ℕ → Ctx → Ctx → Type 0 where
  use_here : {h h' : Entry} {H : Ctx} → Use ρ h h' → UseAt ρ zero (h ∷ H) (h' ∷ H)
  use_there : {x : ℕ} {h : Entry} {H H' : Ctx} → UseAt ρ x H H' → UseAt ρ (suc x) (h ∷ H) (h ∷ H')

-- one value given as ρ, after others of its list that named some variables, takes the marks H to H'
pub data Given (named : List ℕ) : Ctx → Value → Ty → Ctx → Type 0 where
  given_integer : {H : Ctx} {n : ℕ} → Given named H (integer n) int H
  given_truth : {H : Ctx} {b : Bool} → Given named H (truth b) bool H
  given_variable : {H H' : Ctx} {x : ℕ} {ρ : Ty} → T (once ρ (variable x) named) → UseAt ρ x H H' → Given named H (variable x) ρ H'

-- a list of values, from the left
pub data Uses : List ℕ → Ctx → List Operand → List Ty → Ctx → Type 0 where
  uses_end : {named : List ℕ} {H : Ctx} → Uses named H [] [] H
  uses_more : {named : List ℕ} {H H₁ H' : Ctx} {v : Operand} {vs : List Operand} {ρ : Ty} {ρs : List Ty}
      → Given named H v.value ρ H₁ → Uses (note v.value named) H₁ vs ρs H' → Uses named H (v ∷ vs) (ρ ∷ ρs) H'

-- what is given as packet was not named before
pub once-clear : {ρ : Ty} (x : ℕ) (named : List ℕ) → ρ ≡ packet → T (once ρ (variable x) named) → T (member x named) → ⊥
once-clear x named e t = T_not (member x named) (subst (λ r. T (once r (variable x) named)) e t)

pub at_entry : (H : Ctx) (x : ℕ) → x < length H → At x (get_or H x absent) H
at_entry [] x l = absurd (not-suc-le-zero l)
at_entry (h ∷ H) zero l = at_here
at_entry (h ∷ H) (suc x) l = at_there (at_entry H x (le_of_suc-le-suc l))

pub at_bound : {x : ℕ} {e : Entry} {H : Ctx} → At x e H → x < length H
at_bound at_here = omega arith
at_bound (at_there a) = let l = at_bound a in omega arith

pub entry_at : {x : ℕ} {e : Entry} {H : Ctx} → At x e H → get_or H x absent ≡ e
entry_at at_here = refl
entry_at (at_there a) = entry_at a

-- the entry after a variable of type τ was given as ρ
abbrev after : Ty → Ty → Entry
after int τ = has τ
after bool τ = has τ
after packet τ = absent
after alias τ = has τ

fits-use : (τ ρ : Ty) → T (fits τ ρ) → Use ρ (has τ) (after ρ τ)
fits-use int int t = use_plain unowned_int
fits-use int bool t = absurd t
fits-use int packet t = absurd t
fits-use int alias t = absurd t
fits-use bool int t = absurd t
fits-use bool bool t = use_plain unowned_bool
fits-use bool packet t = absurd t
fits-use bool alias t = absurd t
fits-use packet int t = absurd t
fits-use packet bool t = absurd t
fits-use packet packet t = use_owner
fits-use packet alias t = use_lent
fits-use alias int t = absurd t
fits-use alias bool t = absurd t
fits-use alias packet t = absurd t
fits-use alias alias t = use_plain unowned_alias

use-fits : {ρ : Ty} {h h' : Entry} → Use ρ h h' → T (unspent h) × T (fitting h ρ)
use-fits (use_plain unowned_int) = (tt, tt)
use-fits (use_plain unowned_bool) = (tt, tt)
use-fits (use_plain unowned_alias) = (tt, tt)
use-fits use_lent = (tt, tt)
use-fits use_owner = (tt, tt)

spend-here : (ρ τ : Ty) (H : Ctx) → spend ρ (variable zero) (has τ ∷ H) ≡ after ρ τ ∷ H
spend-here ρ τ H = grind (arith, common_steps)

spend-there : (ρ : Ty) (x : ℕ) (h : Entry) (H : Ctx) → spend ρ (variable (suc x)) (h ∷ H) ≡ h ∷ spend ρ (variable x) H
spend-there ρ x h H = grind (arith, common_steps)

at-use : {ρ : Ty} {x : ℕ} {e : Entry} {H : Ctx} → At x e H → T (fitting e ρ) → UseAt ρ x H (spend ρ (variable x) H)
at-use (at_here {e = absent}) t = absurd t
at-use {ρ} (at_here {e = has τ} {H = H}) t = rw (spend-here ρ τ H) (use_here (fits-use τ ρ t))
at-use {ρ} (at_there {x = x} {h = h} {H = H} a) t = rw (spend-there ρ x h H) (use_there (at-use a t))

use-spend : {ρ : Ty} {x : ℕ} {H H' : Ctx} → UseAt ρ x H H' → spend ρ (variable x) H ≡ H'
use-spend (use_here (use_plain unowned_int)) = refl
use-spend (use_here (use_plain unowned_bool)) = refl
use-spend (use_here (use_plain unowned_alias)) = refl
use-spend (use_here use_lent) = refl
use-spend (use_here use_owner) = refl
use-spend {ρ} (use_there {x = x} {h = h} {H = H} u) = spend-there ρ x h H ∙ ap {B = Ctx} (λ r. h ∷ r) (use-spend u)

use-at : {ρ : Ty} {x : ℕ} {H H' : Ctx} → UseAt ρ x H H' → (e : Entry) × At x e H × T (unspent e) × T (fitting e ρ)
use-at (use_here {h = h} u) = let (a, f) = use-fits u in (h, at_here, a, f)
use-at (use_there u) = let (e, a, s, f) = use-at u in (e, at_there a, s, f)

value-given : (named : List ℕ) (H : Ctx) (v : Value) (ρ : Ty) → T (bound H v) → T (fitting (entry H v) ρ) → T (once ρ v named) → Given named H v ρ (spend ρ v H)
value-given named H (integer n) int b f s = given_integer
value-given named H (integer n) bool b f s = absurd f
value-given named H (integer n) packet b f s = absurd f
value-given named H (integer n) alias b f s = absurd f
value-given named H (truth t) int b f s = absurd f
value-given named H (truth t) bool b f s = given_truth
value-given named H (truth t) packet b f s = absurd f
value-given named H (truth t) alias b f s = absurd f
value-given named H (variable x) ρ b f s = given_variable s (at-use (at_entry H x (ltb→lt x (length H) b)) f)

-- what a given value answers to its questions
pub record Grants (named : List ℕ) (H : Ctx) (v : Value) (ρ : Ty) (H' : Ctx) : Type 0 where
  pub is_bound : T (bound H v)
  pub is_unspent : T (unspent (entry H v))
  pub is_fitting : T (fitting (entry H v) ρ)
  pub is_once : T (once ρ v named)
  pub spends : spend ρ v H ≡ H'

given-grants : {named : List ℕ} {H : Ctx} {v : Value} {ρ : Ty} {H' : Ctx} → Given named H v ρ H' → Grants named H v ρ H'
given-grants given_integer = record { is_bound = tt; is_unspent = tt; is_fitting = tt; is_once = tt; spends = refl }
given-grants given_truth = record { is_bound = tt; is_unspent = tt; is_fitting = tt; is_once = tt; spends = refl }
given-grants {H = H} {ρ = ρ} (given_variable {x = x} s u) =
    let (e, a, l, f) = use-at u in
    let here : e ≡ get_or H x absent = sym (entry_at a) in
    record {
      is_bound = lt→ltb x (length H) (at_bound a);
      is_unspent = subst (λ z. T (unspent z)) here l;
      is_fitting = subst (λ z. T (fitting z ρ)) here f;
      is_once = s;
      spends = use-spend u;
    }

pub give-given : (i : ℕ) (named : List ℕ) (H : Ctx) (v : Operand) (ρ : Ty) (H' : Ctx) → give i H named v ρ ≡ Ok H' → Given named H v.value ρ H'
give-given i named H v ρ H' h =
    let (b, r₁) = asked_ok _ _ _ (bound H v.value) _ h in
    let (_, r₂) = asked_ok _ _ _ (unspent (entry H v.value)) _ r₁ in
    let (f, r₃) = asked_ok _ _ _ (fitting (entry H v.value) ρ) _ r₂ in
    let (s, r₄) = asked_ok _ _ _ (once ρ v.value named) _ r₃ in
    subst (λ G. Given named H v.value ρ G) (ok_same _ _ r₄) (value-given named H v.value ρ b f s)

pub given-give : {named : List ℕ} {H : Ctx} {ρ : Ty} {H' : Ctx} (i : ℕ) (v : Operand) → Given named H v.value ρ H' → give i H named v ρ ≡ Ok H'
given-give {named} {H} {ρ} i v g =
    let a = given-grants g in
    ok_asked _ _ _ (bound H v.value) _ a.is_bound
    (ok_asked _ _ _ (unspent (entry H v.value)) _ a.is_unspent
    (ok_asked _ _ _ (fitting (entry H v.value) ρ) _ a.is_fitting
    (ok_asked _ _ _ (once ρ v.value named) _ a.is_once (ap Ok a.spends))))

-- the value of an if is given as bool, which leaves the marks as they are
pub given_bool : {named : List ℕ} {H : Ctx} {v : Value} {H' : Ctx} → Given named H v bool H' → H ≡ H'
given_bool g = (given-grants g).spends

pub test-given : (i : ℕ) (H : Ctx) (v : Operand) → test i H v ≡ Ok tt → Given [] H v.value bool H
test-given i H v h =
    let (b, r) = asked_ok _ _ _ (bound H v.value) _ h in
    value-given [] H v.value bool b (ask_ok _ _ _ (fitting (entry H v.value) bool) r) tt

pub given-test : {H : Ctx} (i : ℕ) (v : Operand) → Given [] H v.value bool H → test i H v ≡ Ok tt
given-test {H} i v g =
    let a = given-grants g in
    ok_asked _ _ _ (bound H v.value) _ a.is_bound (ok_ask _ _ _ (fitting (entry H v.value) bool) a.is_fitting)

pub gives-uses : (i : ℕ) (vs : List Operand) (ρs : List Ty) (H : Ctx) (named : List ℕ) (H' : Ctx)
    → length vs ≡ length ρs → gives i H named vs ρs ≡ Ok H' → Uses named H vs ρs H'
gives-uses i [] [] H named H' l h = subst (λ G. Uses named H [] [] G) (ok_same _ _ h) uses_end
gives-uses i [] (ρ ∷ ρs) H named H' l h = absurd (omega arith)
gives-uses i (v ∷ vs) [] H named H' l h = absurd (omega arith)
gives-uses i (v ∷ vs) (ρ ∷ ρs) H named H' l h =
    let (H₁, g, r) = then_ok (give i H named v ρ) _ H' h in
    uses_more (give-given i named H v ρ H₁ g) (gives-uses i vs ρs H₁ (note v.value named) H' (suc_inj l) r)

pub uses-gives : {named : List ℕ} {H H' : Ctx} {vs : List Operand} {ρs : List Ty} (i : ℕ) → Uses named H vs ρs H' → gives i H named vs ρs ≡ Ok H'
uses-gives i uses_end = refl
uses-gives i (uses_more {v = v} {vs = vs} {ρs = ρs} g u) = go _ (given-give i v g) (uses-gives i u)

-- as many values as types
pub uses-count : {named : List ℕ} {H H' : Ctx} {vs : List Operand} {ρs : List Ty} → Uses named H vs ρs H' → length vs ≡ length ρs
uses-count uses_end = refl
uses-count (uses_more g u) = ap suc (uses-count u)

-- giving binds no variable
use-length : {ρ : Ty} {x : ℕ} {H H' : Ctx} → UseAt ρ x H H' → length H' ≡ length H
use-length (use_here u) = refl
use-length (use_there u) = ap suc (use-length u)

given-length : {named : List ℕ} {H : Ctx} {v : Value} {ρ : Ty} {H' : Ctx} → Given named H v ρ H' → length H' ≡ length H
given-length given_integer = refl
given-length given_truth = refl
given-length (given_variable s u) = use-length u

pub uses-length : {named : List ℕ} {H H' : Ctx} {vs : List Operand} {ρs : List Ty} → Uses named H vs ρs H' → length H' ≡ length H
uses-length uses_end = refl
uses-length (uses_more g u) = uses-length u ∙ given-length g
