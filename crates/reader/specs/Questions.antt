-- The questions: each with its number and the layer that puts it.
use Rattle.std.specs.Prelude.{ℕ}
use Rattle.reader.specs.declared.questions.Question.{Question}
use Rattle.reader.specs.declared.questions.Question.TheVariants.{Length, Version, Inside, ThreadCount, QueueCount, FunctionCount, DepthLimit, ListLength, KnownType, KnownNode, KnownValue, Nesting, BranchLength, NothingLeft, ThreadSignature, NoAliasResult, Callee, Counts, Bound, Unspent, Fits, Once, Room, DepthRule, OwnersSpent}

-- its number, then its layer
abbrev pub row : Question → ℕ × ℕ
row Length = (20, 1)
row Version = (21, 1)
row Inside = (22, 1)
row ThreadCount = (23, 1)
row QueueCount = (24, 1)
row FunctionCount = (25, 1)
row DepthLimit = (26, 1)
row ListLength = (27, 1)
row KnownType = (28, 1)
row KnownNode = (29, 1)
row KnownValue = (30, 1)
row Nesting = (31, 1)
row BranchLength = (32, 1)
row NothingLeft = (33, 1)
row ThreadSignature = (40, 2)
row NoAliasResult = (41, 2)
row Callee = (50, 3)
row Counts = (51, 3)
row Bound = (52, 3)
row Unspent = (53, 3)
row Fits = (54, 3)
row Once = (55, 3)
row Room = (56, 3)
row DepthRule = (57, 3)
row OwnersSpent = (58, 3)

abbrev pub number : Question → ℕ
number q = (row q).0

abbrev pub layer : Question → ℕ
layer q = (row q).1
