-- The numbers of what a call calls: a kind, and an index within the kind.
use Rattle.std.specs.Prelude.{ℕ, true, false, ◌==◌}
use Rattle.reader.specs.declared.operations.Arithmetic.{Arithmetic}
use Rattle.reader.specs.declared.operations.Arithmetic.TheVariants.{Add, Subtract, Times, BitAnd, BitOr, BitXor}
use Rattle.reader.specs.declared.operations.Comparison.{Comparison}
use Rattle.reader.specs.declared.operations.Comparison.TheVariants.{Equal, Less}
use Rattle.reader.specs.declared.operations.Connective.{Connective}
use Rattle.reader.specs.declared.operations.Connective.TheVariants.{And, Or}
use Rattle.reader.specs.declared.operations.Operation.{Operation}
use Rattle.reader.specs.declared.operations.Operation.TheVariants.{Compute, Compare, Connect, New, Kill, Read, Update, Enq, Deq, Function, Unknown}

-- the index of an operation on integers or truth values
abbrev pub arithmetic_index : Arithmetic → ℕ
arithmetic_index Add = 0
arithmetic_index Subtract = 1
arithmetic_index Times = 2
arithmetic_index BitAnd = 3
arithmetic_index BitOr = 4
arithmetic_index BitXor = 5

abbrev pub comparison_index : Comparison → ℕ
comparison_index Equal = 0
comparison_index Less = 1

abbrev pub connective_index : Connective → ℕ
connective_index And = 0
connective_index Or = 1

-- the kind, then the index
abbrev pub numbers : Operation → ℕ × ℕ
numbers (Compute a) = (0, arithmetic_index a)
numbers (Compare c) = (1, comparison_index c)
numbers (Connect c) = (2, connective_index c)
numbers New = (3, 0)
numbers Kill = (3, 1)
numbers Read = (3, 2)
numbers Update = (3, 3)
numbers (Enq queue) = (4, queue)
numbers (Deq queue) = (5, queue)
numbers (Function index) = (6, index)
numbers (Unknown kind index) = (kind, index)

abbrev pub kind : Operation → ℕ
kind o = (numbers o).0

abbrev pub index : Operation → ℕ
index o = (numbers o).1

-- the operation that a kind and an index name
abbrev pub operation : (k i : ℕ) → Operation
operation k i =
    elim (k == 0) [
      | true ↦
          elim (i == 0) [
            | true ↦ Compute Add
            | false ↦
                elim (i == 1) [
                  | true ↦ Compute Subtract
                  | false ↦
                      elim (i == 2) [
                        | true ↦ Compute Times
                        | false ↦
                            elim (i == 3) [
                              | true ↦ Compute BitAnd
                              | false ↦
                                  elim (i == 4) [
                                    | true ↦ Compute BitOr
                                    | false ↦
                                        elim (i == 5) [ true ↦ Compute BitXor | false ↦ Unknown k i ]
                                  ]
                            ]
                      ]
                ]
          ]
      | false ↦
          elim (k == 1) [
            | true ↦
                elim (i == 0) [
                  | true ↦ Compare Equal
                  | false ↦
                      elim (i == 1) [ true ↦ Compare Less | false ↦ Unknown k i ]
                ]
            | false ↦
                elim (k == 2) [
                  | true ↦
                      elim (i == 0) [
                        | true ↦ Connect And
                        | false ↦
                            elim (i == 1) [ true ↦ Connect Or | false ↦ Unknown k i ]
                      ]
                  | false ↦
                      elim (k == 3) [
                        | true ↦
                            elim (i == 0) [
                              | true ↦ New
                              | false ↦
                                  elim (i == 1) [
                                    | true ↦ Kill
                                    | false ↦
                                        elim (i == 2) [
                                          | true ↦ Read
                                          | false ↦
                                              elim (i == 3) [ true ↦ Update | false ↦ Unknown k i ]
                                        ]
                                  ]
                            ]
                        | false ↦
                            elim (k == 4) [
                              | true ↦ Enq i
                              | false ↦
                                  elim (k == 5) [
                                    | true ↦ Deq i
                                    | false ↦
                                        elim (k == 6) [ true ↦ Function i | false ↦ Unknown k i ]
                                  ]
                            ]
                      ]
                ]
          ]
    ]
