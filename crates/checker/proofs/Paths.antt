-- Bodies, by what their first node says.
use Rattle.std.proofs.Common.{◌≡◌, ℕ, ◌+◌, ◌&&◌, eqb, leb, List, [], map, length, Ok, Err, Result, sym, refl, ap, ◌∙◌}
use Rattle.reader.specs.declared.questions.Question.TheVariants as q
use Rattle.reader.specs.declared.faults.Fault.{Fault}
use Rattle.reader.specs.declared.operations.Operation.{Operation}
use Rattle.reader.specs.declared.values.Operand.{Operand}
use Rattle.reader.specs.declared.nodes.Node.{Node}
use Rattle.reader.specs.Fields.{read_in, then}
use Rattle.reader.specs.Nodes.{body_at, node_at, sight}
use Rattle.reader.specs.Syntax.{Body, return, branch, call, Function, Program}
use Rattle.reader.proofs.Results.{then_ext, ok_same}
use Rattle.reader.proofs.Parts.{Parts, parts}
use Rattle.checker.proofs.Reading.{never}
use Rattle.rows.specs.Rows.{items}
use Rattle.typing.specs.Typing.{has, Ctx}
use Rattle.typing.specs.Signatures.{signature, callee_depth}
use Rattle.typing.specs.Marks.{ask, known, gives, test, is_tail, depth_holds, body}
use Rattle.typing.specs.Layers.{inside}
use Rattle.checker.specs.declared.walks.Walk.{Walk}
use Rattle.checker.specs.Walks.{leaving, entering, Walks}

pub then_assoc : {X Y Z : Type 0} (r : Result X Fault) (g : X → Result Y Fault) (h : Y → Result Z Fault) → then (then r g) h ≡ then r (λ x. then (g x) h)
then_assoc (Ok x) g h = refl
then_assoc (Err e) g h = refl

-- a call, then what follows it
call-is : (P : Program) (i : ℕ) (F : Function) (H : Ctx) (p : ℕ) (f : Operation) (vs : List Operand) (j : ℕ) (e : Body)
    → then (entering P i p F.depth H f vs j e) (λ G. body P i F G e) ≡ body P i F H (call p f vs j e)
call-is P i F H p f vs j e =
    then_assoc (known q.Callee i p (signature P f)) _ _
    ∙ then_ext (known q.Callee i p (signature P f)) _ _ λ s.
    then_assoc (ask q.Counts i p (eqb (length vs) (length s.params) && eqb j (length s.results))) _ _
    ∙ then_ext (ask q.Counts i p (eqb (length vs) (length s.params) && eqb j (length s.results))) _ _ λ _.
    then_assoc (gives i H [] vs s.params) _ _
    ∙ then_ext (gives i H [] vs s.params) _ _ λ H'.
    then_assoc (ask q.Room i p (leb (length H' + j) 16)) _ _
    ∙ then_ext (ask q.Room i p (leb (length H' + j) 16)) _ _ λ _.
    then_assoc (ask q.DepthRule i p (depth_holds F.depth (callee_depth P f) (is_tail (length H') j e))) _ _

-- what a walk answers for a body
abbrev pub answer_at : Program → ℕ → Function → Ctx → Body × ℕ → Result ℕ Fault
answer_at P i F H t = then (body P i F H t.0) (λ _. Ok t.1)

module _ (w : Walk) (P : Program) (F : Function) (s : Walks w P F) (H : Ctx) (t : Body × ℕ) where
  -- a return
  pub path_return : (p next : ℕ) (vs : List Operand) (a : Result (Unit {0}) Fault) → t ≡ (return p vs, next) → a ≡ leaving w.window.function p H vs (items w.record.results)
      → then a (λ _. Ok next) ≡ answer_at P w.window.function F H t
  path_return p next vs a h k =
      ap (λ x. then x (λ _. Ok next)) (k ∙ ap (leaving w.window.function p H vs) s.says.results)
      ∙ ap (answer_at P w.window.function F H) (sym h)

  -- an if: its value, then the first branch, then the second, both from the marks before it
  pub path_branch : (p : ℕ) (v : Operand) (u x : Body × ℕ) (a : Result (Unit {0}) Fault) → t ≡ (branch p v u.0 x.0, x.1) → a ≡ test w.window.function H v
      → then a (λ _. then (answer_at P w.window.function F H u) (λ _. answer_at P w.window.function F H x)) ≡ answer_at P w.window.function F H t
  path_branch p v u x a h k =
      ap (λ y. then y (λ _. then (answer_at P w.window.function F H u) (λ _. answer_at P w.window.function F H x))) k
      ∙ both (test w.window.function H v) (body P w.window.function F H u.0) (body P w.window.function F H x.0) u.1 x.1
      ∙ ap (answer_at P w.window.function F H) (sym h)
    where
      both : (a b c : Result (Unit {0}) Fault) (y z : ℕ) → then a (λ _. then (then b (λ _. Ok y)) (λ _. then c (λ _. Ok z))) ≡ then (then a (λ _. then b (λ _. c))) (λ _. Ok z)
      both (Ok a) (Ok b) c y z = refl
      both (Ok a) (Err b) c y z = refl
      both (Err a) b c y z = refl

  -- a call, then what follows it from the marks it leaves
  pub path_call : (p : ℕ) (f : Operation) (vs : List Operand) (j : ℕ) (u : Body × ℕ) (a : Result Ctx Fault) → t ≡ (call p f vs j u.0, u.1)
      → a ≡ entering P w.window.function p w.record.depth H f vs j u.0
      → then a (λ G. answer_at P w.window.function F G u) ≡ answer_at P w.window.function F H t
  path_call p f vs j u a h k =
      ap (λ x. then x (λ G. answer_at P w.window.function F G u)) (k ∙ ap (λ d. entering P w.window.function p d H f vs j u.0) s.says.depth)
      ∙ sym (then_assoc (entering P w.window.function p F.depth H f vs j u.0) (λ G. body P w.window.function F G u.0) (λ _. Ok u.1))
      ∙ ap (λ r. then r (λ _. Ok u.1)) (call-is P w.window.function F H p f vs j u.0)
      ∙ ap (answer_at P w.window.function F H) (sym h)

-- a walk that went on stands after its body
pub after-body : (r : Result (Unit {0}) Fault) (y z : ℕ) → Ok y ≡ then r (λ _. Ok z) → y ≡ z
after-body (Ok u) y z h = ok_same y z h
after-body (Err e) y z h = absurd (never e y (sym h))

-- a node taken apart, under the name that the code has for it
pub taken : (w : Walk) (ifs p next : ℕ) (t : Body × ℕ) (n m : Node) → read_in w.window body_at ifs p ≡ Ok t → Ok (n, next) ≡ sight p (read_in w.window node_at ifs p) → n ≡ m
    → Parts w.window.bytes.now (length w.window.bytes.now) w.window.function ifs p t (m, next)
taken w ifs p next t n m h k q =
    parts w.window.bytes.now (length w.window.bytes.now) w.window.function ifs p t (m, next) h (ap (λ (x : Node). Ok (x, next)) (sym q) ∙ k)

-- the body of a function, from its parameters
pub inside_is : (P : Program) (i : ℕ) (F : Function) (H : Ctx) (z : ℕ) (a : Result ℕ Fault) → a ≡ answer_at P i F H (F.body, z) → H ≡ map has F.params
    → then a (λ _. Ok tt) ≡ inside P i F
inside_is P i F H z a h k =
    ap (λ x. then x (λ _. Ok tt)) (h ∙ ap (λ (G : Ctx). answer_at P i F G (F.body, z)) k) ∙ whole (body P i F (map has F.params) F.body)
  where
    whole : (r : Result (Unit {0}) Fault) → then (then r (λ _. Ok z)) (λ _. Ok tt) ≡ r
    whole (Ok u) = refl
    whole (Err e) = refl
