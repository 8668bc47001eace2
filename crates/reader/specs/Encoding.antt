-- The bytes of a program, straight from the layout; the limits of layer 1; the places; and the law that joins them to reading.
use Rattle.std.specs.Prelude.{◌≡◌, ℕ, ◌+◌, ◌/◌, ◌%◌, ◌<◌, ◌≤◌, max, Bool, true, false, ◌↔◌, List, [], ◌∷◌, ◌++◌, length, Ok, slice_index}
use Rattle.reader.specs.declared.types.Ty.{Ty}
use Rattle.reader.specs.declared.types.Ty.TheVariants.{Int, Bool as TruthType, Packet, Alias}
use Rattle.reader.specs.declared.values.Value.{Value}
use Rattle.reader.specs.declared.values.Value.TheVariants.{Integer, Truth, Variable}
use Rattle.reader.specs.declared.values.Operand.{Operand}
use Rattle.reader.specs.declared.operations.Operation.{Operation}
use Rattle.reader.specs.Operations.{kind, index, operation}
use Rattle.reader.specs.Syntax.{Body, return, branch, call, Function, Program}
use Rattle.reader.specs.Programs.{reading}

-- The bytes. Fields of two and four bytes have the larger part first.
abbrev pub half : ℕ → List ℕ
half n = n / 256 ∷ n % 256 ∷ []

abbrev pub word : ℕ → List ℕ
word n = half (n / 65536) ++ half (n % 65536)

-- what is preceded by its length
abbrev pub counted : List ℕ → List ℕ
counted xs = half (length xs) ++ xs

abbrev pub truth : Bool → ℕ
truth false = 0
truth true = 1

abbrev pub value : Value → List ℕ
value (Integer n) = 16 ∷ word n
value (Truth t) = 17 ∷ truth t ∷ []
value (Variable i) = 18 ∷ i ∷ []

abbrev pub values : List Operand → List ℕ
values [] = []
values (v ∷ vs) = value v.value ++ values vs

abbrev pub body : Body → List ℕ
body (return p vs) = 1 ∷ length vs ∷ values vs
body (branch p v first second) = 2 ∷ value v.value ++ (counted (body first) ++ body second)
body (call p o vs n next) = 3 ∷ kind o ∷ index o ∷ length vs ∷ values vs ++ (n ∷ body next)

abbrev pub type : Ty → ℕ
type Int = 1
type TruthType = 2
type Packet = 3
type Alias = 4

abbrev pub types : List Ty → List ℕ
types [] = []
types (t ∷ ts) = type t ∷ types ts

abbrev pub contents : Function → List ℕ
contents f = f.depth ∷ length f.params ∷ types f.params ++ (length f.results ∷ types f.results ++ body f.body)

abbrev pub functions : List Function → List ℕ
functions [] = []
functions (f ∷ fs) = counted (contents f) ++ functions fs

abbrev pub encode : Program → List ℕ
encode p = counted (1 ∷ p.threads ∷ p.queues ∷ length p.functions ∷ functions p.functions)

-- The limits: what each field can hold, and what layer 1 asks of it.
abbrev pub FitsValue : Value → Type 0
FitsValue (Integer n) = n < 4294967296
FitsValue (Truth t) = Unit {0}
FitsValue (Variable i) = i < 256

abbrev pub FitsValues : List Operand → Type 0
FitsValues [] = Unit {0}
FitsValues (v ∷ vs) = FitsValue v.value × FitsValues vs

-- an operation is the one that its two numbers name
pub record FitsOperation (o : Operation) : Type 0 where
  pub small_kind : kind o < 256
  pub small_index : index o < 256
  pub named : operation (kind o) (index o) ≡ o

pub record FitsCall (o : Operation) (vs : List Operand) (n : ℕ) : Type 0 where
  pub operation : FitsOperation o
  pub few : length vs ≤ 8
  pub values : FitsValues vs
  pub results : n ≤ 8

abbrev pub FitsBody : Body → Type 0
FitsBody (return p vs) = (length vs ≤ 8) × FitsValues vs
FitsBody (branch p v first second) = FitsValue v.value × (length (body first) < 65536) × FitsBody first × FitsBody second
FitsBody (call p o vs n next) = FitsCall o vs n × FitsBody next

-- the most ifs on a path
abbrev pub ifs : Body → ℕ
ifs (return p vs) = 0
ifs (branch p v first second) = 1 + max (ifs first) (ifs second)
ifs (call p o vs n next) = ifs next

pub record FitsFunction (f : Function) : Type 0 where
  pub depth : f.depth ≤ 7
  pub params : length f.params ≤ 8
  pub results : length f.results ≤ 8
  pub body : FitsBody f.body
  pub ifs : ifs f.body ≤ 16
  pub long : length (contents f) < 65536

abbrev pub FitsFunctions : List Function → Type 0
FitsFunctions [] = Unit {0}
FitsFunctions (f ∷ fs) = FitsFunction f × FitsFunctions fs

pub record Limits (p : Program) : Type 0 where
  pub some : 1 ≤ p.threads
  pub threads : p.threads ≤ 8
  pub queues : p.queues ≤ 6
  pub bodies : p.threads ≤ length p.functions
  pub functions : length p.functions ≤ 64
  pub each : FitsFunctions p.functions
  pub total : length (encode p) ≤ 4096

-- The places: a tree with each place put in, from the place where its bytes begin.
abbrev pub values_from : ℕ → List Operand → List Operand
values_from p [] = []
values_from p (v ∷ vs) = record { place = p; value = v.value } ∷ values_from (p + length (value v.value)) vs

abbrev pub body_from : ℕ → Body → Body
body_from p (return q vs) = return p (values_from (p + 2) vs)
body_from p (branch q v first second) =
    branch p (record { place = p + 1; value = v.value }) (body_from (p + 1 + length (value v.value) + 2) first) (body_from (p + 1 + length (value v.value) + 2 + length (body first)) second)
body_from p (call q o vs n next) = call p o (values_from (p + 4) vs) n (body_from (p + 4 + length (values vs) + 1) next)

abbrev pub function_from : ℕ → Function → Function
function_from p f = record { place = p; depth = f.depth; params = f.params; results = f.results; body = body_from (p + 4 + length f.params + 1 + length f.results) f.body }

abbrev pub functions_from : ℕ → List Function → List Function
functions_from p [] = []
functions_from p (f ∷ fs) = function_from p f ∷ functions_from (p + length (counted (contents f))) fs

abbrev pub located : Program → Program
located p = record { threads = p.threads; queues = p.queues; functions = functions_from 6 p.functions }

-- The law.
abbrev pub Bytes : List ℕ → Type 0
Bytes b = (i : ℕ) → slice_index b i < 256

-- the bytes are the encoding of the program, which keeps the limits and has its places where they are
pub record Writes (p : Program) (b : List ℕ) : Type 0 where
  pub bytes : encode p ≡ b
  pub places : located p ≡ p
  pub limits : Limits p

-- reading bytes gives a program exactly when they are that program's encoding, within the limits
abbrev pub ReadsBack : List ℕ → Type 0
ReadsBack b = (p : Program) → (reading b ≡ Ok p) ↔ Writes p b

-- what is written within the limits reads back, whatever places it had before
abbrev pub WrittenReads : Type 0
WrittenReads = (p : Program) → Limits p → reading (encode p) ≡ Ok (located p)
