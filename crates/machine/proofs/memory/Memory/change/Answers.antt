-- The thread is one of those that the state shows; neither the program's bytes nor the store matter to the room in it.
use Rattle.std.proofs.Common.{sym, ap, ◌∙◌, subst}
use Rattle.store.specs.Packets.{empty}
use Rattle.store.specs.Meaning.{Meaning}
use Rattle.code.specs.Copies.{bytes_of}
use Rattle.machine.specs.Moves.{changed, Roomy}
use Rattle.machine.proofs.Changes.{roomy_any, thread_is, thread_changes}
use Rattle.machine.proofs.memory.Memory.change.Goals as goal

no_store : Meaning
no_store = record { packets = empty; largest = 0; capacity = 0; need = λ k. 0 }

pub apply-requires : goal.apply-requires
apply-requires c = λ b.
    let there = thread_is c.args.self.now no_store c.args.thread c.from.result c.index-threads-from.result c.requires.from c.requires.to c.from.ensures in
    roomy_any c.args.change _ (bytes_of c.args.self.now.code) b (subst (Roomy c.args.change) there (c.requires.roomy no_store))

pub returns-clause-state : goal.returns-clause-state
returns-clause-state c = λ m.
    let there = thread_is c.args.self.now m c.args.thread c.from.result c.index-threads-from.result c.requires.from c.requires.to c.from.ensures in
    let b = bytes_of c.args.self.now.code in
    thread_changes c.args.self.now m c.args.thread c.from.result c.apply.new.thread _ c.requires.from c.from.ensures
    (c.apply.ensures b ∙ ap (changed b c.args.draft.now c.args.change) (sym there))
