-- Thread by thread; the queues and counts by their lists.
use Rattle.std.proofs.Common.{◌≡◌, ℕ, ◌+◌, ◌<◌, [], length, map, take, sym, ap, ◌∙◌, arith}
use Rattle.std.proofs.lemmas.List.{take-replicate, length-set}
use Rattle.reader.specs.declared.headers.Header.{Header}
use Rattle.rows.specs.Rows.{items}
use Rattle.rules.specs.Calls.{starts}
use Rattle.code.specs.Copies.{bytes_of, program_of, function_of}
use Rattle.frames.specs.Threads.{thread_of}
use Rattle.machine.proofs.Starting.{is_listed, begun_more, none_wait, initial_is}
use Rattle.machine.proofs.memory.Memory.start.Goals as goal

pub unwrap-function-requires : goal.unwrap-function-requires
unwrap-function-requires c =
    let P = program_of c.args.code in
    let all : c.header-i-end.result.threads ≡ P.threads = ap (λ (h : Header). h.threads) c.header-i-end.ensures in
    let h : c.loop-i.i < length P.functions = omega (arith, c.requires.functions) in
    is_listed (bytes_of c.args.code) P c.loop-i.i c.function.result h c.function.ensures

pub loop-i-preserved : goal.loop-i-preserved
loop-i-preserved c =
    let b = bytes_of c.args.code in
    let F = c.unwrap-function.result in
    let all : c.header-i-end.result.threads ≡ (program_of c.args.code).threads = ap (λ (h : Header). h.threads) c.header-i-end.ensures in
    record {
      whole = length-set c.loop-i.threads c.from.result c.start.result ∙ c.loop-i.invariant.whole;
      begun = begun_more (thread_of b) c.loop-i.threads c.loop-i.i c.from.result c.start.result (program_of c.args.code).functions (function_of b F) c.loop-i.invariant.begun
          (omega (arith, c.loop-i.invariant.whole, c.requires.threads)) c.from.ensures (c.start.ensures b) (rw c.unwrap-function.ensures at c.function.ensures);
    }

pub returns : goal.returns
returns c = λ m.
    let P = program_of c.args.code in
    let all : c.header-i-end.result.threads ≡ P.threads = ap (λ (h : Header). h.threads) c.header-i-end.ensures in
    let end : P.threads ≡ c.loop-i.i = omega arith in
    initial_is P c.args.limit m _ _ _
    (ap (λ (i : ℕ). map (thread_of (bytes_of c.args.code)) (take i c.loop-i.threads)) end ∙ c.loop-i.invariant.begun ∙ ap (λ (i : ℕ). starts 0 i P.functions) (sym end))
    (none_wait items (2 + P.queues) 8 c.new.result [] (omega (arith, c.requires.queues)) c.new.ensures)
    (take-replicate (1 + P.threads) 9 0 (omega (arith, c.requires.threads)))
