-- What code finds at a place of the whole bytes is what the place shows.
use Rattle.std.proofs.Common.{◌≡◌, ◌≢◌, ◌↔◌, IsTrue, ℕ, ◌+◌, Bool, true, false, T, eqb, List, length, Ok, Err, Result, sym, refl, ap, ◌∙◌, subst, arith}
use Rattle.std.specs.Result.{result_unwrap_or}
use Rattle.std.proofs.lemmas.Result.{IfOk-at_ok}
use Rattle.reader.specs.declared.questions.Question.TheVariants as q
use Rattle.reader.specs.declared.faults.Fault.{Fault}
use Rattle.reader.specs.declared.operations.Operation.{Operation}
use Rattle.reader.specs.declared.values.Value.{Value}
use Rattle.reader.specs.declared.values.Values.{Values}
use Rattle.reader.specs.declared.values.Operand.{Operand}
use Rattle.reader.specs.declared.windows.Window.{Window}
use Rattle.reader.specs.Operations.{operation}
use Rattle.reader.specs.Fields.{Read, read_in, denied, then, byte_at, half_at, value_at, count_at, values_at, list_at}
use Rattle.reader.specs.Syntax.{Body, branch}
use Rattle.reader.specs.Nodes.{Head, returns, branches, calls, if_at, call_at}
use Rattle.reader.proofs.Lists.{values-long}
use Rattle.typing.specs.Typing.{Tail}
use Rattle.typing.specs.Marks.{is_tail}
use Rattle.typing.proofs.Tests.{tail-sound, tail_complete}
use Rattle.checker.specs.Walks.{in_row}
use Rattle.checker.proofs.Tails.{consecutive-long}
use Rattle.code.specs.declared.sights.Sight.{Sight}
use Rattle.code.specs.declared.sights.Sight.TheVariants as shown_as
use Rattle.code.specs.Sights.{sees, lost, shown, values_of, ending, counted, calling, tag_sight, sight_at, Showing}
use Rattle.code.proofs.Seeing.{sees_is}

-- what code sees at a place where x is shown
abbrev Means : List ℕ → (p : ℕ) → Body → Result Sight Fault → Type 0
Means b p x (Ok (shown_as.Return l)) = x ≡ ending p (values_of b l)
Means b p x (Ok (shown_as.Branch v z y)) = x ≡ branch p v (sees b z) (sees b y)
Means b p x (Ok (shown_as.Call f l)) = x ≡ calling b p f (values_of b l)
Means b p x (Ok shown_as.Nothing) = x ≡ lost
Means b p x (Err e) = x ≡ lost

module _ (b : List ℕ) (p : ℕ) where
  -- a node that is read
  abbrev node : Read Head → Body
  node = shown (sees b) p

  -- a return, by its list and the count of it
  returned : (r : Read (List Operand)) → node (then r (λ a. Ok (returns a.0, a.1))) ≡ ending p r
  returned (Ok a) = refl
  returned (Err e) = refl

  return_means : (n : Read ℕ)
      → Means b p (node (then (then n λ k. values_at b (length b) 255 k.0 k.1) (λ a. Ok (returns a.0, a.1)))) (then n λ k. Ok (shown_as.Return (record { count = k.0; place = k.1 })))
  return_means (Ok k) = returned (values_at b (length b) 255 k.0 k.1)
  return_means (Err e) = refl

  -- an if, by its value and its length
  length_means : (z : ℕ) (v : Value × ℕ) (n : Read ℕ)
      → Means b p (node (then n λ k. Ok (branches (record { place = z; value = v.0 }) v.1 k.0, k.1))) (then n λ k. Ok (shown_as.Branch (record { place = z; value = v.0 }) k.1 (k.1 + k.0)))
  length_means z v (Ok k) = refl
  length_means z v (Err e) = refl

  branch_means : (z : ℕ) (r : Read Value)
      → Means b p (node (then r λ v. then (half_at b (length b) 255 v.1) λ k. Ok (branches (record { place = z; value = v.0 }) v.1 k.0, k.1)))
      (then r λ v. then (half_at b (length b) 255 v.1) λ k. Ok (shown_as.Branch (record { place = z; value = v.0 }) k.1 (k.1 + k.0)))
  branch_means z (Ok v) = length_means z v (half_at b (length b) 255 v.1)
  branch_means z (Err e) = refl

  -- a call, by its results, its arguments, the count of these, its index and its kind
  abbrev arguments-next : Operation → Read (List Operand) → Read Head
  arguments-next f r = then r λ a. then (count_at b (length b) 255 a.1) λ n. Ok (calls f a.0 n.0, n.1)

  results_counted : (f : Operation) (vs : List Operand) (n : Read ℕ) → node (then n λ k. Ok (calls f vs k.0, k.1)) ≡ counted b p f vs n
  results_counted f vs (Ok k) = refl
  results_counted f vs (Err e) = refl

  called : (f : Operation) (r : Read (List Operand)) → node (arguments-next f r) ≡ calling b p f r
  called f (Ok a) = results_counted f a.0 (count_at b (length b) 255 a.1)
  called f (Err e) = refl

  call_means : (f : Operation) (n : Read ℕ)
      → Means b p (node (arguments-next f (then n λ k. values_at b (length b) 255 k.0 k.1))) (then n λ k. Ok (shown_as.Call f (record { count = k.0; place = k.1 })))
  call_means f (Ok k) = called f (values_at b (length b) 255 k.0 k.1)
  call_means f (Err e) = refl

  index_means : (k : ℕ) (i : Read ℕ)
      → Means b p (node (then i λ i. arguments-next (operation k i.0) (list_at b (length b) 255 i.1)))
      (then i λ i. then (count_at b (length b) 255 i.1) λ n. Ok (shown_as.Call (operation k i.0) (record { count = n.0; place = n.1 })))
  index_means k (Ok i) = call_means (operation k i.0) (count_at b (length b) 255 i.1)
  index_means k (Err e) = refl

  kind_means : (k : Read ℕ)
      → Means b p (node (then k λ k. then (byte_at b (length b) 255 k.1) λ i. arguments-next (operation k.0 i.0) (list_at b (length b) 255 i.1)))
      (then k λ k. then (byte_at b (length b) 255 k.1) λ i. then (count_at b (length b) 255 i.1) λ n. Ok (shown_as.Call (operation k.0 i.0) (record { count = n.0; place = n.1 })))
  kind_means (Ok k) = index_means k.0 (byte_at b (length b) 255 k.1)
  kind_means (Err e) = refl

  -- a node, by its tag
  abbrev choice : {X : Type 0} → Bool → X → X → X
  choice q x y = elim q [ true ↦ x | false ↦ y ]

  choose_means : (q : Bool) (x y : Read Head) (r s : Result Sight Fault) → Means b p (node x) r → Means b p (node y) s → Means b p (node (choice q x y)) (choice q r s)
  choose_means true x y r s h k = h
  choose_means false x y r s h k = k

  tag_means : (t : Read ℕ)
      → Means b p
      (node (then t λ t.
      choice (eqb t.0 1) (then (list_at b (length b) 255 t.1) λ a. Ok (returns a.0, a.1)) (choice (eqb t.0 2) (if_at b (length b) 255 0 p t.1) (choice (eqb t.0 3) (call_at b (length b) 255 t.1) (denied q.KnownNode 255 p)))))
      (then t (tag_sight b p))
  tag_means (Ok t) =
      choose_means (eqb t.0 1) _ _ _ _ (return_means (count_at b (length b) 255 t.1))
      (choose_means (eqb t.0 2) _ _ _ _ (branch_means t.1 (value_at b (length b) 255 t.1))
      (choose_means (eqb t.0 3) _ _ _ _ (kind_means (byte_at b (length b) 255 t.1)) refl))
  tag_means (Err e) = refl

  sight_means : Means b p (sees b p) (sight_at b p)
  sight_means = subst (λ x. Means b p x (sight_at b p)) (sym (sees_is b p)) (tag_means (byte_at b (length b) 255 p))

-- a place shows what code sees there
pub showing : (b : List ℕ) (p : ℕ) (r : Result Sight Fault) (s : Sight) → r ≡ sight_at b p → s ≡ result_unwrap_or r shown_as.Nothing → Showing b p s
showing b p r s is e = subst (Showing b p) (sym e) (go r (subst (Means b p (sees b p)) (sym is) (sight_means b p)))
  where
    go : (r : Result Sight Fault) → Means b p (sees b p) r → Showing b p (result_unwrap_or r shown_as.Nothing)
    go (Ok (shown_as.Return l)) h = h
    go (Ok (shown_as.Branch v z y)) h = h
    go (Ok (shown_as.Call f l)) h = h
    go (Ok shown_as.Nothing) h = h
    go (Err e) h = h

-- a window over the whole bytes, outside records
pub record Whole (b : List ℕ) (w : Window) : Type 0 where
  pub bytes : w.bytes.now ≡ b
  pub function : w.function ≡ 255

truth : (t : Bool) → T t ↔ IsTrue t
truth true = ((λ x. refl), λ x. tt)
truth false = ((λ x. absurd x), λ h. let z : ◌≡◌ {A = ℕ} 0 1 = cc in absurd (omega arith))

tail_is : (n j : ℕ) (e : Body) (r : Bool) → r ≡ is_tail n j e → IsTrue r ↔ Tail n j e
tail_is n j e r h = ((λ t. tail-sound n j e ((truth _).1 (sym h ∙ t))), λ t. h ∙ (truth _).0 (tail_complete t))

-- a return of as many values as results is a tail where they are the variables in a row
ending_tail : (n j p : ℕ) (r : Read (List Operand)) → in_row n j r ≡ is_tail n j (ending p r)
ending_tail n j p (Ok vs) = refl
ending_tail n j p (Err e) = refl

pub tail_return : (b : List ℕ) (p n j : ℕ) (l : Values) (w : Window) (s : Sight) (r : Bool) → Whole b w → Showing b p s → s ≡ shown_as.Return l → l.count ≡ j
    → r ≡ in_row n l.count (read_in w values_at l.count l.place) → IsTrue r ↔ Tail n j (sees b p)
tail_return b p n j l w s r whole shows is count h =
    tail_is n j (sees b p) r
    (h
    ∙ (λ i. in_row n l.count (values_at (whole.bytes i) (length (whole.bytes i)) (whole.function i) l.count l.place))
    ∙ ap (λ k. in_row n k (values_of b l)) count
    ∙ ending_tail n j p (values_of b l)
    ∙ ap (is_tail n j) (sym (subst (Showing b p) is shows)))

-- and a return of another number of values is none, nor is any other node
not-long : (b : List ℕ) (n j p : ℕ) (l : Values) → ¬ (l.count ≡ j) → (r : Read (List Operand)) → r ≡ values_of b l → is_tail n j (ending p r) ≡ false
not-long b n j p l other (Ok vs) is = consecutive-long n j vs.0 (λ e. other (sym (IfOk-at_ok (λ x. length x.0 ≡ l.count) (sym is) (values-long b (length b) 255 l.count l.place)) ∙ e))
not-long b n j p l other (Err e) is = refl

pub tail_counts : (b : List ℕ) (p n j : ℕ) (l : Values) (s : Sight) (r : Bool) → Showing b p s → s ≡ shown_as.Return l → ¬ (l.count ≡ j) → r ≡ false → IsTrue r ↔ Tail n j (sees b p)
tail_counts b p n j l s r shows is other h =
    tail_is n j (sees b p) r (h ∙ sym (ap (is_tail n j) (subst (Showing b p) is shows) ∙ not-long b n j p l other (values_of b l) refl))

pub tail_other : (b : List ℕ) (p n j : ℕ) (s : Sight) (r : Bool) → Showing b p s → ((l : Values) → s ≢ shown_as.Return l) → r ≡ false → IsTrue r ↔ Tail n j (sees b p)
tail_other b p n j s r shows other h = tail_is n j (sees b p) r (h ∙ sym (go s shows other))
  where
    calling-none : (f : Operation) (x : Read (List Operand)) → is_tail n j (calling b p f x) ≡ false
    calling-none f (Ok vs) = counted-none (count_at b (length b) 255 vs.1)
      where
        counted-none : (k : Read ℕ) → is_tail n j (counted b p f vs.0 k) ≡ false
        counted-none (Ok k) = refl
        counted-none (Err e) = refl
    calling-none f (Err e) = refl

    go : (s : Sight) → Showing b p s → ((l : Values) → s ≢ shown_as.Return l) → is_tail n j (sees b p) ≡ false
    go (shown_as.Return l) h never = absurd (never l refl)
    go (shown_as.Branch v z y) h never = ap (is_tail n j) h
    go (shown_as.Call f l) h never = ap (is_tail n j) h ∙ calling-none f (values_of b l)
    go shown_as.Nothing h never = ap (is_tail n j) h
