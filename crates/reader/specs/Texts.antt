-- What is printed: a question in words, a head, a fault, a type, an operation, a value.
use Rattle.std.specs.Prelude.{ℕ, zero, suc, List, ◌++◌, codes, decimal, if◌then◌else◌}
use Rattle.reader.specs.declared.questions.Question.{Question}
use Rattle.reader.specs.declared.questions.Question.TheVariants.{Length, Version, Inside, ThreadCount, QueueCount, FunctionCount, DepthLimit, ListLength, KnownType, KnownNode, KnownValue, Nesting, BranchLength, NothingLeft, ThreadSignature, NoAliasResult, Callee, Counts, Bound, Unspent, Fits, Once, Room, DepthRule, OwnersSpent}
use Rattle.reader.specs.declared.faults.Fault.{Fault}
use Rattle.reader.specs.declared.headers.Header.{Header}
use Rattle.reader.specs.declared.types.Ty.{Ty}
use Rattle.reader.specs.declared.types.Ty.TheVariants as t
use Rattle.reader.specs.declared.types.UnknownType.{UnknownType}
use Rattle.reader.specs.declared.values.Value.{Value}
use Rattle.reader.specs.declared.values.Value.TheVariants as v
use Rattle.reader.specs.declared.operations.Arithmetic.TheVariants as a
use Rattle.reader.specs.declared.operations.Comparison.TheVariants as c
use Rattle.reader.specs.declared.operations.Connective.TheVariants as b
use Rattle.reader.specs.declared.operations.Operation.{Operation}
use Rattle.reader.specs.declared.operations.Operation.TheVariants as o
use Rattle.reader.specs.Questions.{number, layer}

-- a question as it is put; yes is the good answer
abbrev pub wording : Question → List ℕ
wording Length = codes "has the input 2 to 4,096 bytes, and does its length field count the bytes after it?"
wording Version = codes "is the version 1?"
wording Inside = codes "does this field, with the record it announces, lie inside what encloses it?"
wording ThreadCount = codes "are there 1 to 8 threads?"
wording QueueCount = codes "are there at most 6 own queues?"
wording FunctionCount = codes "are there at least as many functions as threads, and at most 64?"
wording DepthLimit = codes "is the depth at most 7?"
wording ListLength = codes "is this count at most 8?"
wording KnownType = codes "is this type 1, 2, 3 or 4?"
wording KnownNode = codes "is this node's tag known?"
wording KnownValue = codes "is this value's tag known, and its truth byte 0 or 1?"
wording Nesting = codes "are there at most 16 ifs on this path?"
wording BranchLength = codes "is the length given for the first branch the number of bytes it took?"
wording NothingLeft = codes "is no byte left over?"
wording ThreadSignature = codes "has a thread's function neither parameters nor results?"
wording NoAliasResult = codes "is this result type no alias?"
wording Callee = codes "is there a call of this kind and index?"
wording Counts = codes "do the counts of this call or return equal the signature's?"
wording Bound = codes "is this variable bound?"
wording Unspent = codes "is this variable unspent?"
wording Fits = codes "does the type of this value fit what is wanted here?"
wording Once = codes "does no earlier value of this list name the variable that is given as packet?"
wording Room = codes "are at most 16 variables bound after this call?"
wording DepthRule = codes "does this call keep the depth rule?"
wording OwnersSpent = codes "is every owner on this path spent by this return?"

-- the head of a program by its numbers
abbrev pub header_text : Header → List ℕ
header_text h = codes "threads " ++ (decimal h.threads ++ (codes ", own queues " ++ (decimal h.queues ++ (codes ", functions " ++ decimal h.functions))))

-- a fault by its numbers
abbrev pub fault_text : Fault → List ℕ
fault_text e =
    codes "question " ++ (decimal (number e.question) ++ (codes ", layer " ++ (decimal (layer e.question) ++ (codes ", function " ++ (decimal e.function
    ++ (codes ", byte " ++ decimal e.place))))))

abbrev pub type_name : Ty → List ℕ
type_name t.Int = codes "int"
type_name t.Bool = codes "bool"
type_name t.Packet = codes "packet"
type_name t.Alias = codes "!packet"

abbrev pub unknown_type : UnknownType → List ℕ
unknown_type u = codes "no type has code " ++ decimal u.0

abbrev pub value_text : Value → List ℕ
value_text (v.Integer n) = decimal n
value_text (v.Truth t) = if t then codes "true" else codes "false"
value_text (v.Variable i) = codes "v" ++ decimal i

-- the two shared queues have names, and the program's own have numbers from 2 on
abbrev pub queue_name : ℕ → List ℕ
queue_name zero = codes "receive"
queue_name (suc zero) = codes "transmit"
queue_name (suc (suc n)) = codes "queue" ++ decimal (suc (suc n))

abbrev pub operation_text : Operation → List ℕ
operation_text (o.Compute a.Add) = codes "add"
operation_text (o.Compute a.Subtract) = codes "subtract"
operation_text (o.Compute a.Times) = codes "times"
operation_text (o.Compute a.BitAnd) = codes "bit_and"
operation_text (o.Compute a.BitOr) = codes "bit_or"
operation_text (o.Compute a.BitXor) = codes "bit_xor"
operation_text (o.Compare c.Equal) = codes "equal"
operation_text (o.Compare c.Less) = codes "less"
operation_text (o.Connect b.And) = codes "and"
operation_text (o.Connect b.Or) = codes "or"
operation_text o.New = codes "new"
operation_text o.Kill = codes "kill"
operation_text o.Read = codes "read"
operation_text o.Update = codes "update"
operation_text (o.Enq queue) = queue_name queue ++ codes ".enq"
operation_text (o.Deq queue) = queue_name queue ++ codes ".deq"
operation_text (o.Function index) = codes "function" ++ decimal index
operation_text (o.Unknown kind index) = codes "unknown[" ++ (decimal kind ++ (codes ", " ++ (decimal index ++ codes "]")))
