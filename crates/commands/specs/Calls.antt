-- What a call on a store is answered by and leaves, by the store's meaning.
use Rattle.std.specs.Prelude.{ℕ, Ok, Err, Result}
use Rattle.commands.specs.declared.answers.Answer.{Answer}
use Rattle.commands.specs.declared.answers.Answer.TheVariants.{Number}
use Rattle.commands.specs.declared.calls.Call.{Call}
use Rattle.commands.specs.declared.calls.Call.TheVariants.{Make, Discard, Hand, Write, Read, Size, Holder, Used, Need, Capacity, Largest}
use Rattle.commands.specs.Answers.{to_grant, to_number}
use Rattle.store.specs.declared.denial.Denial.{Denial}
use Rattle.store.specs.declared.denial.Handed.{Handed}
use Rattle.store.specs.Meaning.{Meaning, units, with_kind, make_answer, make_after, discard_answer, discard_after, write_answer, write_after, hand_answer, hand_after, size_answer, holder_answer, read_answer}

abbrev pub without_news : Result Handed Denial → Result (Unit {0}) Denial
without_news (Ok h) = Ok tt
without_news (Err d) = Err d

abbrev pub call_answer : ℕ → Meaning → Call → Answer
call_answer kind m (Make n size) = to_grant (with_kind kind (make_answer m n size))
call_answer kind m (Discard n) = to_grant (with_kind kind (discard_answer m n))
call_answer kind m (Hand n holder) = to_grant (without_news (with_kind kind (hand_answer m n)))
call_answer kind m (Write n offset byte) = to_grant (with_kind kind (write_answer m n offset))
call_answer kind m (Read n offset) = to_number (with_kind kind (read_answer m n offset))
call_answer kind m (Size n) = to_number (with_kind kind (size_answer m n))
call_answer kind m (Holder n) = to_number (with_kind kind (holder_answer m n))
call_answer kind m Used = Number (units m)
call_answer kind m (Need size) = Number (m.need size)
call_answer kind m Capacity = Number m.capacity
call_answer kind m Largest = Number m.largest

-- the calls that ask alone leave the store as it is
abbrev pub call_after : Meaning → Call → Meaning
call_after m (Make n size) = make_after m n size
call_after m (Discard n) = discard_after m n
call_after m (Hand n holder) = hand_after m n holder
call_after m (Write n offset byte) = write_after m n offset byte
call_after m (Read n offset) = m
call_after m (Size n) = m
call_after m (Holder n) = m
call_after m Used = m
call_after m (Need size) = m
call_after m Capacity = m
call_after m Largest = m
