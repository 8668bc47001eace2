-- The syntax tree of a program. Each node, value and record keeps the byte place where it begins.
use Rattle.std.specs.Prelude.{ℕ, List}
use Rattle.reader.specs.declared.types.Ty.{Ty}
use Rattle.reader.specs.declared.values.Operand.{Operand}
use Rattle.reader.specs.declared.operations.Operation.{Operation}

-- a node with all that follows it; the first number is the place of its tag
--   return place values
--   branch place value first second
--   call place callee arguments results next
pub data Body : Type 0 where
  return : ℕ → List Operand → Body
  branch : ℕ → Operand → Body → Body → Body
  call : ℕ → Operation → List Operand → ℕ → Body → Body

-- a function, with the place of its record
pub record Function : Type 0 where
  pub place : ℕ
  pub depth : ℕ
  pub params : List Ty
  pub results : List Ty
  pub body : Body

-- a program: how many threads, how many queues of its own, its functions
pub record Program : Type 0 where
  pub threads : ℕ
  pub queues : ℕ
  pub functions : List Function
