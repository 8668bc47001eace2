-- The threads below i have begun.
use Rattle.std.proofs.Common.{◌≡◌, map, take, length}
use Rattle.rules.specs.Calls.{starts}
use Rattle.code.specs.Copies.{bytes_of, program_of}
use Rattle.frames.specs.Threads.{thread_of}
use Rattle.machine.proofs.memory.Memory.start.Given as goal

abbrev pub invariant-loop-i : goal.invariant-loop-i
invariant-loop-i l = record {
  whole : length l.threads ≡ 8;
  begun : map (thread_of (bytes_of l.code)) (take l.i l.threads) ≡ starts 0 l.i (program_of l.code).functions;
}
