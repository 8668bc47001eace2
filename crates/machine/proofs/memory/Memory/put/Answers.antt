use Rattle.std.proofs.Common.{◌+◌, arith}
use Rattle.rules.specs.Rules.{on_full, enqueues}
use Rattle.rows.specs.Rows.{items}
use Rattle.code.specs.Copies.{program_of}
use Rattle.machine.proofs.Operations.{queue_stands, taken-length}
use Rattle.machine.proofs.memory.Memory.put.Goals as goal

pub returns-then-queue-ge-QUEUE_LIMIT : goal.returns-then-queue-ge-QUEUE_LIMIT
returns-then-queue-ge-QUEUE_LIMIT c = λ m t ρs σs h. on_full (rw (c.queue.ensures m) at c.if-queue-ge-QUEUE_LIMIT.true)

pub returns : goal.returns
returns c = λ m t ρs σs h. let P = program_of c.args.self.now.code in let few = rw (c.queue.ensures m) at c.if-queue-ge-QUEUE_LIMIT.false in
    (enqueues few, (omega (arith, queue_stands P _ h, taken-length items (2 + P.queues) c.args.self.now.queues (omega arith)), few))
