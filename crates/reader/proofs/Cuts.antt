-- What is read up to a place is read of the bytes cut there.
use Rattle.std.proofs.Common.{◌≡◌, ℕ, zero, suc, ◌+◌, ◌-◌, ◌≤◌, true, false, eqb, leb, List, length, take, Result, sym, refl, ap, ◌∙◌, arith}
use Rattle.std.proofs.lemmas.List.{get_or-take, length-take-le}
use Rattle.std.proofs.lemmas.Bool.Decides.{nat_tests}
use Rattle.reader.specs.declared.questions.Question.{Question}
use Rattle.reader.specs.declared.questions.Question.TheVariants as q
use Rattle.reader.specs.declared.faults.Fault.{Fault}
use Rattle.reader.specs.declared.windows.Window.{Window}
use Rattle.reader.specs.Fields.{denied, half, then, read_in, field_at, byte_at, half_at, word_at, range_at, type_at, value_at, values_at, list_at}
use Rattle.reader.specs.Nodes.{if_at, call_at, node_at, followed, body_by, body_at}
use Rattle.reader.specs.Programs.{types_at, signature_at, record_in}
use Rattle.reader.proofs.Results.{then_both, choose_same}

module _ (b : List ℕ) (e f : ℕ) where
  field_cut : (w n m p : ℕ) → (p + w ≤ e → n ≡ m) → field_at w n e f p ≡ field_at w m e f p
  field_cut w n m p same = grind (arith, nat_tests)

  pub byte_cut : (p : ℕ) → byte_at (take e b) e f p ≡ byte_at b e f p
  byte_cut p = field_cut 1 _ _ p (λ l. get_or-take e b p 0 (omega arith))

  pub half_cut : (p : ℕ) → half_at (take e b) e f p ≡ half_at b e f p
  half_cut p = field_cut 2 _ _ p (λ l. omega (arith, get_or-take e b p 0 (omega arith), get_or-take e b (p + 1) 0 (omega arith)))

  pub word_cut : (p : ℕ) → word_at (take e b) e f p ≡ word_at b e f p
  word_cut p =
      field_cut 4 _ _ p λ l.
      omega (arith, get_or-take e b p 0 (omega arith), get_or-take e b (p + 1) 0 (omega arith), get_or-take e b (p + 2) 0 (omega arith), get_or-take e b (p + 3) 0 (omega arith))

  pub range_cut : (k : Question) (low high p : ℕ) → range_at k low high (take e b) e f p ≡ range_at k low high b e f p
  range_cut k low high p = then_both _ _ (byte_cut p) (λ n. refl)

  pub type_cut : (p : ℕ) → type_at (take e b) e f p ≡ type_at b e f p
  type_cut p = then_both _ _ (byte_cut p) (λ n. refl)

  pub value_cut : (p : ℕ) → value_at (take e b) e f p ≡ value_at b e f p
  value_cut p =
      then_both _ _ (byte_cut p) λ t.
      choose_same (eqb t.0 16) _ _ _ _ (then_both _ _ (word_cut t.1) (λ n. refl))
      (choose_same (eqb t.0 17) _ _ _ _ (then_both _ _ (byte_cut t.1) (λ n. refl))
      (choose_same (eqb t.0 18) _ _ _ _ (then_both _ _ (byte_cut t.1) (λ n. refl)) refl))

  pub values_cut : (n p : ℕ) → values_at (take e b) e f n p ≡ values_at b e f n p
  values_cut zero p = refl
  values_cut (suc n) p = then_both _ _ (value_cut p) λ v. then_both _ _ (values_cut n v.1) (λ vs. refl)

  pub list_cut : (p : ℕ) → list_at (take e b) e f p ≡ list_at b e f p
  list_cut p = then_both _ _ (range_cut q.ListLength 0 8 p) (λ n. values_cut n.0 n.1)

  pub types_cut : (n p : ℕ) → types_at (take e b) e f n p ≡ types_at b e f n p
  types_cut zero p = refl
  types_cut (suc n) p = then_both _ _ (type_cut p) λ t. then_both _ _ (types_cut n t.1) (λ ts. refl)

  pub signature_cut : (p : ℕ) → signature_at (take e b) e f p ≡ signature_at b e f p
  signature_cut p = then_both _ _ (range_cut q.ListLength 0 8 p) (λ n. types_cut n.0 n.1)

  if_cut : (ifs p z : ℕ) → if_at (take e b) e f ifs p z ≡ if_at b e f ifs p z
  if_cut ifs p z = choose_same (leb 16 ifs) _ _ _ _ refl (then_both _ _ (value_cut z) (λ v. then_both _ _ (half_cut v.1) (λ n. refl)))

  call_cut : (z : ℕ) → call_at (take e b) e f z ≡ call_at b e f z
  call_cut z =
      then_both _ _ (byte_cut z) λ k. then_both _ _ (byte_cut k.1) λ i. then_both _ _ (list_cut i.1) λ a. then_both _ _ (range_cut q.ListLength 0 8 a.1) (λ n. refl)

  pub node_cut : (ifs p : ℕ) → node_at (take e b) e f ifs p ≡ node_at b e f ifs p
  node_cut ifs p =
      then_both _ _ (byte_cut p) λ t.
      choose_same (eqb t.0 1) _ _ _ _ (then_both _ _ (list_cut t.1) (λ a. refl))
      (choose_same (eqb t.0 2) _ _ _ _ (if_cut ifs p t.1)
      (choose_same (eqb t.0 3) _ _ _ _ (call_cut t.1) refl))

  pub body_by_cut : (k ifs p : ℕ) → body_by (take e b) e f k ifs p ≡ body_by b e f k ifs p
  unfolding body_by
  body_by_cut zero ifs p = refl
  body_by_cut (suc k) ifs p = then_both _ _ (node_cut ifs p) λ h. λ i. followed (λ n z. body_by_cut k n z i) f ifs p h.0 h.1

  pub body_cut : e ≤ length b → (ifs p : ℕ) → body_at (take e b) (length (take e b)) f ifs p ≡ body_at b e f ifs p
  body_cut h ifs p = ap (λ n. body_at (take e b) n f ifs p) (length-take-le e b h) ∙ body_by_cut (e - p) ifs p

  pub record_cut : (p s : ℕ) → record_in (take e b) e f p s ≡ record_in b e f p s
  record_cut p s =
      then_both _ _ (range_cut q.DepthLimit 0 7 s) λ d. then_both _ _ (signature_cut d.1) λ ps. then_both _ _ (signature_cut ps.1) λ rs.
      then_both _ _ (then_both _ _ (body_by_cut (e - rs.1) 0 rs.1) (λ t. refl)) (λ x. refl)

-- what is read in the window of the record of function f at p is read after the length that stands there
module _ {X : Type 0} (b : List ℕ) (f p : ℕ) (g : List ℕ → (e f s : ℕ) → Result X Fault) where
  -- the length leads inside
  opened : p + 2 + half b p ≤ length b
      → then (half_at b (length b) f p) (λ n. elim (leb (n.1 + n.0) (length b)) [ true ↦ g b (n.1 + n.0) f n.1 | false ↦ denied q.Inside f p ]) ≡ g b (p + 2 + half b p) f (p + 2)
  opened h = grind (arith, nat_tests)

  pub read_opened : (w : Window) (s : ℕ) → ((e s : ℕ) → g (take e b) e f s ≡ g b e f s)
      → p + 2 + half b p ≤ length b → w.bytes.now ≡ take (p + 2 + half b p) b → w.function ≡ f → s ≡ p + 2
      → read_in w g s ≡ then (half_at b (length b) f p) (λ n. elim (leb (n.1 + n.0) (length b)) [ true ↦ g b (n.1 + n.0) f n.1 | false ↦ denied q.Inside f p ])
  read_opened w s cut h bytes function first =
      let e = p + 2 + half b p in
      (λ i. g (bytes i) (length (bytes i)) (function i) (first i))
      ∙ ap (λ n. g (take e b) n f (p + 2)) (length-take-le e b h)
      ∙ cut e (p + 2)
      ∙ sym (opened h)
