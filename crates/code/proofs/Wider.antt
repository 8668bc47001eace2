-- What is read is read as well up to a later end, under fewer ifs, and whatever function a fault would carry.
use Rattle.std.proofs.Common.{◌≡◌, ℕ, zero, suc, ◌≤◌, ◌&&◌, Bool, true, false, eqb, leb, List, Ok, Err, Result, refl, arith}
use Rattle.std.proofs.lemmas.Bool.Decides.{nat_tests}
use Rattle.reader.specs.declared.questions.Question.{Question}
use Rattle.reader.specs.declared.questions.Question.TheVariants as q
use Rattle.reader.specs.declared.faults.Fault.{Fault}
use Rattle.reader.specs.Fields.{then, denied, field_at, range_at, value_at, values_at, list_at}
use Rattle.reader.specs.Nodes.{if_at, call_at, node_at}
use Rattle.reader.proofs.Results.{go}

-- what the first result grants, the second grants
abbrev pub Kept : {X : Type 0} → Result X Fault → Result X Fault → Type 0
Kept {X} r s = (x : X) → r ≡ Ok x → s ≡ Ok x

denied-kept : {X : Type 0} (k : Question) (f p : ℕ) (s : Result X Fault) → Kept (denied k f p) s
denied-kept k f p s x h = absurd (let z : ◌≡◌ {A = ℕ} 0 1 = cc in omega arith)

then_kept : {X Y : Type 0} (r s : Result X Fault) (g h : X → Result Y Fault) → Kept r s → ((x : X) → Kept (g x) (h x)) → Kept (then r g) (then s h)
then_kept (Ok x) s g h k m y e = go h (k x refl) (m x y e)
then_kept (Err x) s g h k m y e = absurd (let z : ◌≡◌ {A = ℕ} 0 1 = cc in omega arith)

choose_kept : {X : Type 0} (t : Bool) (a b c d : Result X Fault) → Kept a c → Kept b d
    → Kept (elim t [ true ↦ a | false ↦ b ]) (elim t [ true ↦ c | false ↦ d ])
choose_kept true a b c d k m = k
choose_kept false a b c d k m = m

same-kept : {X : Type 0} (r : Result X Fault) → Kept r r
same-kept r x h = h

module _ (b : List ℕ) (e f d g : ℕ) (wide : e ≤ d) where
  field_kept : {X : Type 0} (w p : ℕ) (n : X) → Kept (field_at w n e f p) (field_at w n d g p)
  field_kept w p n x h = grind (arith, nat_tests)

  range_kept : (k : Question) (low high p : ℕ) → Kept (range_at k low high b e f p) (range_at k low high b d g p)
  range_kept k low high p =
      then_kept _ _ _ _ (field_kept 1 p _) λ n. choose_kept (leb low n.0 && leb n.0 high) _ _ _ _ (same-kept _) (denied-kept k f p _)

  pub value_kept : (p : ℕ) → Kept (value_at b e f p) (value_at b d g p)
  value_kept p =
      then_kept _ _ _ _ (field_kept 1 p _) λ t.
      choose_kept (eqb t.0 16) _ _ _ _ (then_kept _ _ _ _ (field_kept 4 t.1 _) (λ n. same-kept _))
      (choose_kept (eqb t.0 17) _ _ _ _
      (then_kept _ _ _ _ (field_kept 1 t.1 _) λ n.
      choose_kept (eqb n.0 0) _ _ _ _ (same-kept _) (choose_kept (eqb n.0 1) _ _ _ _ (same-kept _) (denied-kept _ f p _)))
      (choose_kept (eqb t.0 18) _ _ _ _ (then_kept _ _ _ _ (field_kept 1 t.1 _) (λ n. same-kept _)) (denied-kept _ f p _)))

  values_kept : (n p : ℕ) → Kept (values_at b e f n p) (values_at b d g n p)
  values_kept zero p = same-kept _
  values_kept (suc n) p = then_kept _ _ _ _ (value_kept p) λ v. then_kept _ _ _ _ (values_kept n v.1) (λ vs. same-kept _)

  list_kept : (p : ℕ) → Kept (list_at b e f p) (list_at b d g p)
  list_kept p = then_kept _ _ _ _ (range_kept q.ListLength 0 8 p) (λ n. values_kept n.0 n.1)

  if_kept : (ifs p z : ℕ) → Kept (if_at b e f ifs p z) (if_at b d g 0 p z)
  if_kept ifs p z =
      nested (leb 16 ifs) _ _
      (then_kept _ _ _ _ (value_kept z) λ v. then_kept _ _ _ _ (field_kept 2 v.1 _) (λ n. same-kept _))
    where
      nested : {X : Type 0} (t : Bool) (r s : Result X Fault) → Kept r s → Kept (elim t [ true ↦ denied q.Nesting f p | false ↦ r ]) s
      nested true r s k = denied-kept q.Nesting f p s
      nested false r s k = k

  call_kept : (z : ℕ) → Kept (call_at b e f z) (call_at b d g z)
  call_kept z =
      then_kept _ _ _ _ (field_kept 1 z _) λ k. then_kept _ _ _ _ (field_kept 1 k.1 _) λ i. then_kept _ _ _ _ (list_kept i.1) λ a.
      then_kept _ _ _ _ (range_kept q.ListLength 0 8 a.1) (λ n. same-kept _)

  pub node_kept : (ifs p : ℕ) → Kept (node_at b e f ifs p) (node_at b d g 0 p)
  node_kept ifs p =
      then_kept _ _ _ _ (field_kept 1 p _) λ t.
      choose_kept (eqb t.0 1) _ _ _ _ (then_kept _ _ _ _ (list_kept t.1) (λ a. same-kept _))
      (choose_kept (eqb t.0 2) _ _ _ _ (if_kept ifs p t.1)
      (choose_kept (eqb t.0 3) _ _ _ _ (call_kept t.1) (denied-kept _ f p _)))
