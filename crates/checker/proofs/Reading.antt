-- The values of a list, read one after the other.
use Rattle.std.proofs.Common.{◌≡◌, ℕ, suc, List, ◌∷◌, Ok, Err, Result, sym, ap, ◌∙◌, subst, arith}
use Rattle.reader.specs.declared.faults.Fault.{Fault}
use Rattle.reader.specs.declared.values.Value.{Value}
use Rattle.reader.specs.declared.values.Operand.{Operand}
use Rattle.reader.specs.declared.windows.Window.{Window}
use Rattle.reader.specs.Fields.{read_in, value_at, values_at}
use Rattle.reader.proofs.Results.{then_ok, ok_same}

pub never : {X : Type 0} (e : Fault) (x : X) → ◌≡◌ {A = Result X Fault} (Err e) (Ok x) → ⊥
never e x h = let z : ◌≡◌ {A = ℕ} 0 1 = cc in omega arith

module _ (w : Window) where
  -- the first value of a list, and those after it
  pub record First (n p z : ℕ) (vs : List Operand) : Type 0 where
    pub value : Value
    pub next : ℕ
    pub more : List Operand
    pub here : read_in w value_at p ≡ Ok (value, next)
    pub there : read_in w values_at n next ≡ Ok (more, z)
    pub is : vs ≡ record { place = p; value = value } ∷ more

  pub first_of : (m n p z : ℕ) (vs : List Operand) → m ≡ suc n → read_in w values_at m p ≡ Ok (vs, z) → First n p z vs
  first_of m n p z vs long h =
      let g = subst (λ k. read_in w values_at k p ≡ Ok (vs, z)) long h in
      let v = then_ok (read_in w value_at p) _ (vs, z) g in
      let more = then_ok (read_in w values_at n v.0.1) _ (vs, z) v.2 in
      let q = ok_same (record { place = p; value = v.0.0 } ∷ more.0.0, more.0.1) (vs, z) more.2 in
      record {
        value = v.0.0;
        next = v.0.1;
        more = more.0.0;
        here = v.1;
        there = more.1 ∙ ap (λ (y : List Operand × ℕ). Ok (more.0.0, y.1)) q;
        is = sym (ap (λ (y : List Operand × ℕ). y.0) q);
      }
