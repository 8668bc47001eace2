-- Consecutive variables, looked at one after the other; and tail calls.
use Rattle.std.proofs.Common.{◌≡◌, ℕ, zero, suc, ◌+◌, Bool, true, false, ◌&&◌, List, [], ◌∷◌, length, Ok, Err, sym, refl, ap, ◌∙◌, arith}
use Rattle.reader.specs.declared.faults.Fault.{Fault}
use Rattle.reader.specs.declared.values.Value.{Value}
use Rattle.reader.specs.declared.values.Operand.{Operand}
use Rattle.reader.specs.declared.values.Values.{Values}
use Rattle.reader.specs.declared.windows.Window.{Window}
use Rattle.reader.specs.declared.nodes.Node.{Node}
use Rattle.reader.specs.declared.nodes.Node.TheVariants as node
use Rattle.reader.specs.Syntax.{Body}
use Rattle.reader.specs.Fields.{Read, read_in, then, value_at, values_at}
use Rattle.reader.specs.Nodes.{body_at, node_at, sight}
use Rattle.reader.proofs.Parts.{parts}
use Rattle.typing.specs.Marks.{is_variable, consecutive, is_tail}
use Rattle.checker.specs.Walks.{Holds, in_row}

and_false : (b : Bool) → b && false ≡ false
and_false true = refl
and_false false = refl

-- values in another number are none of j results
pub consecutive-long : (first j : ℕ) (vs : List Operand) → ¬ (length vs ≡ j) → consecutive first j vs ≡ false
consecutive-long first zero [] h = absurd (h refl)
consecutive-long first zero (v ∷ vs) h = refl
consecutive-long first (suc j) [] h = refl
consecutive-long first (suc j) (v ∷ vs) h =
    ap (λ b. is_variable first v.value && b) (consecutive-long (suc first) j vs (λ e. h (ap suc e))) ∙ and_false (is_variable first v.value)

module _ (w : Window) where
  -- whether a body returns j results from first on, by its first node as the code sees it
  abbrev pub TailBy : (first j : ℕ) → Body → Node → Type 0
  TailBy first j e (node.Return l) = (vs : List Operand) × Holds w l vs × (is_tail first j e ≡ consecutive first j vs)
  TailBy first j e (node.Branch v field n) = is_tail first j e ≡ false
  TailBy first j e (node.Call o l n) = is_tail first j e ≡ false

  pub tail_by : (ifs first j p next : ℕ) (t : Body × ℕ) (x : Node) → read_in w body_at ifs p ≡ Ok t → Ok (x, next) ≡ sight p (read_in w node_at ifs p) → TailBy first j t.0 x
  tail_by ifs first j p next t (node.Return l) h k =
      let r = parts w.bytes.now (length w.bytes.now) w.function ifs p t (node.Return l, next) h k in
      (r.operands, record { stop = next; reads = r.reads; long = r.long }, ap (λ (y : Body × ℕ). is_tail first j y.0) r.is)
  tail_by ifs first j p next t (node.Branch v field n) h k =
      ap (λ (y : Body × ℕ). is_tail first j y.0) (parts w.bytes.now (length w.bytes.now) w.function ifs p t (node.Branch v field n, next) h k).is
  tail_by ifs first j p next t (node.Call o l n) h k =
      ap (λ (y : Body × ℕ). is_tail first j y.0) (parts w.bytes.now (length w.bytes.now) w.function ifs p t (node.Call o l n, next) h k).is

  pub tail_other : (first j : ℕ) (e : Body) (x : Node) → TailBy first j e x → ((l : Values) → ¬ (x ≡ node.Return l)) → false ≡ is_tail first j e
  tail_other first j e (node.Return l) s other = absurd (other l refl)
  tail_other first j e (node.Branch v field n) s other = sym s
  tail_other first j e (node.Call o l n) s other = sym s

  -- one value of a row; with what was kept so far the others decide the whole
  pub row_next : (first n m p : ℕ) (x : Value × ℕ) (kept whole : Bool) → m ≡ suc n → Ok x ≡ read_in w value_at p → kept ≡ is_variable first x.0
      → in_row first m (read_in w values_at m p) ≡ whole → kept && in_row (first + 1) n (read_in w values_at n x.1) ≡ whole
  row_next first n m p x kept whole long h is all =
      ap (λ k. k && in_row (first + 1) n (read_in w values_at n x.1)) is
      ∙ sym (more (read_in w values_at n x.1))
      ∙ ap (λ r. in_row first (suc n) (then r (λ v. then (read_in w values_at n v.1) λ vs. Ok (record { place = p; value = v.0 } ∷ vs.0, vs.1)))) h
      ∙ ap (λ k. in_row first k (read_in w values_at k p)) (sym long)
      ∙ all
    where
      more : (r : Read (List Operand)) → in_row first (suc n) (then r (λ vs. Ok (record { place = p; value = x.0 } ∷ vs.0, vs.1))) ≡ is_variable first x.0 && in_row (first + 1) n r
      more (Ok y) = let s : suc first ≡ first + 1 = omega arith in ap (λ k. is_variable first x.0 && consecutive k n y.0) s
      more (Err e) = sym (and_false (is_variable first x.0))

  -- what cannot be read is no row
  pub row_unread : (first n m p : ℕ) (e : Fault) (whole : Bool) → m ≡ suc n → Err e ≡ read_in w value_at p → in_row first m (read_in w values_at m p) ≡ whole → false ≡ whole
  row_unread first n m p e whole long h all =
      ap (λ r. in_row first (suc n) (then r (λ v. then (read_in w values_at n v.1) λ vs. Ok (record { place = p; value = v.0 } ∷ vs.0, vs.1)))) h
      ∙ ap (λ k. in_row first k (read_in w values_at k p)) (sym long)
      ∙ all
