-- The worked cases, rule by rule.
use Rattle.std.proofs.Common.{refl, le→leb, leb→le}
use Rattle.reader.specs.Nodes.{body_by}
use Rattle.typing.specs.Typing.{tail, consecutive_end}
use Rattle.store.specs.Names.{earlier, same}
use Rattle.store.specs.Packets.{empty, lookup, insert, remove, used}
use Rattle.rules.specs.State.{put}
use Rattle.rules.specs.Rules.{calculate, an_integer, lend, spend, no_more, one_more, computes, makes, kills, updates_inside, dequeues, enqueues, on_empty, on_names, on_room, operates, tail_calls, ends, delayed, advances, waits, has_ended, moves}
use Rattle.rules.specs.Calls.{loaded_already, all_named, no_thread, nothing_sent, too_small, denies, loads, arrives, steps, finds, collects}
use Rattle.rules.specs.Cases.{says, nothing_more, BelowZero, UpdateLarge, Sends, Receives, Relays, WaitsInOrder, Makes, Cases}

below_zero : BelowZero
unfolding calculate
below_zero s t = computes

update_large : UpdateLarge
update_large s t n p h l = updates_inside h l

sends : Sends
unfolding body_by lookup insert remove used empty put earlier same
sends =
    says (loads (leb→le _ _ tt) refl refl refl)
    (says (denies loaded_already refl)
    (says (denies (no_thread (λ a b. le→leb _ _ b)) refl)
    (says (steps (leb→le _ _ tt) (leb→le _ _ tt) (moves (advances (operates refl (one_more an_integer no_more) (makes (leb→le _ _ tt) refl (leb→le _ _ tt))))))
    (says (steps (leb→le _ _ tt) (leb→le _ _ tt) (moves (advances (operates refl (one_more (lend refl) (one_more an_integer (one_more an_integer no_more))) (updates_inside refl (leb→le _ _ tt))))))
    (says (steps (leb→le _ _ tt) (leb→le _ _ tt) (moves (advances (operates refl (one_more (lend refl) (one_more an_integer (one_more an_integer no_more))) (updates_inside refl (leb→le _ _ tt))))))
    (says (steps (leb→le _ _ tt) (leb→le _ _ tt) (moves (advances (operates refl (one_more (spend refl) no_more) (enqueues (leb→le _ _ tt))))))
    (says (steps (leb→le _ _ tt) (leb→le _ _ tt) (moves (advances (ends refl no_more))))
    (says (steps (leb→le _ _ tt) (leb→le _ _ tt) (moves (has_ended refl)))
    (says (denies (too_small refl refl (leb→le _ _ tt)) refl)
    (says (collects refl refl (leb→le _ _ tt))
    (says (denies (nothing_sent refl) refl) nothing_more)))))))))))

receives : Receives
unfolding body_by lookup insert remove used empty put earlier same
receives =
    says (loads (leb→le _ _ tt) refl refl refl)
    (says (steps (leb→le _ _ tt) (leb→le _ _ tt) (moves (waits (delayed refl no_more (on_empty refl)))))
    (says (arrives (leb→le _ _ tt) (leb→le _ _ tt) (leb→le _ _ tt) (leb→le _ _ tt))
    (says (finds (_, moves (advances (operates refl no_more (dequeues refl refl)))))
    (says (steps (leb→le _ _ tt) (leb→le _ _ tt) (moves (advances (operates refl no_more (dequeues refl refl)))))
    (says (steps (leb→le _ _ tt) (leb→le _ _ tt) (moves (advances (operates refl (one_more (spend refl) no_more) (kills refl)))))
    (says (steps (leb→le _ _ tt) (leb→le _ _ tt) (moves (advances (ends refl no_more))))
    (says (steps (leb→le _ _ tt) (leb→le _ _ tt) (moves (has_ended refl))) nothing_more)))))))

relays : Relays
unfolding body_by lookup insert remove used empty put earlier same
relays =
    says (loads (leb→le _ _ tt) refl refl refl)
    (says (arrives (leb→le _ _ tt) (leb→le _ _ tt) (leb→le _ _ tt) (leb→le _ _ tt))
    (says (arrives (leb→le _ _ tt) (leb→le _ _ tt) (leb→le _ _ tt) (leb→le _ _ tt))
    (says (denies (all_named (leb→le _ _ tt) (leb→le _ _ tt) (leb→le _ _ tt)) refl)
    (says (steps (leb→le _ _ tt) (leb→le _ _ tt) (moves (advances (operates refl no_more (dequeues refl refl)))))
    (says (steps (leb→le _ _ tt) (leb→le _ _ tt) (moves (advances (operates refl (one_more (spend refl) no_more) (enqueues (leb→le _ _ tt))))))
    (says (steps (leb→le _ _ tt) (leb→le _ _ tt) (moves (advances (tail_calls refl (tail consecutive_end) no_more))))
    (says (steps (leb→le _ _ tt) (leb→le _ _ tt) (moves (advances (operates refl no_more (dequeues refl refl)))))
    (says (steps (leb→le _ _ tt) (leb→le _ _ tt) (moves (advances (operates refl (one_more (spend refl) no_more) (enqueues (leb→le _ _ tt))))))
    (says (collects refl refl (leb→le _ _ tt))
    (says (collects refl refl (leb→le _ _ tt)) nothing_more))))))))))

waits_in_order : WaitsInOrder
unfolding body_by lookup insert remove used empty put earlier same
waits_in_order =
    says (loads (leb→le _ _ tt) refl refl refl)
    (says (steps {t = 1} (leb→le _ _ tt) (leb→le _ _ tt) (moves (advances (operates refl (one_more an_integer no_more) (makes (leb→le _ _ tt) refl (leb→le _ _ tt))))))
    (says (steps {t = 2} (leb→le _ _ tt) (leb→le _ _ tt) (moves (waits (delayed refl (one_more an_integer no_more) (on_room (leb→le _ _ tt) (λ r. le→leb _ _ r))))))
    (says (steps {t = 1} (leb→le _ _ tt) (leb→le _ _ tt) (moves (waits (delayed refl (one_more an_integer no_more) (on_names refl))))) nothing_more)))

makes_both : Makes
unfolding body_by lookup insert remove used empty put earlier same
makes_both =
    says (loads (leb→le _ _ tt) refl refl refl)
    (says (steps {t = 2} (leb→le _ _ tt) (leb→le _ _ tt) (moves (advances (operates refl (one_more an_integer no_more) (makes (leb→le _ _ tt) refl (leb→le _ _ tt))))))
    (says (steps {t = 1} (leb→le _ _ tt) (leb→le _ _ tt) (moves (advances (operates refl (one_more an_integer no_more) (makes (leb→le _ _ tt) refl (leb→le _ _ tt))))))
    (says (steps {t = 1} (leb→le _ _ tt) (leb→le _ _ tt) (moves (advances (operates refl (one_more an_integer no_more) (makes (leb→le _ _ tt) refl (leb→le _ _ tt))))))
    (says (steps {t = 2} (leb→le _ _ tt) (leb→le _ _ tt) (moves (advances (operates refl (one_more an_integer no_more) (makes (leb→le _ _ tt) refl (leb→le _ _ tt))))))
    (says (steps {t = 2} (leb→le _ _ tt) (leb→le _ _ tt) (moves (advances (operates refl (one_more (spend refl) no_more) (kills refl))))) nothing_more)))))

pub cases : Cases
cases = record { below_zero = below_zero; update_large = update_large; sends = sends; receives = receives; relays = relays; waits_in_order = waits_in_order; makes = makes_both }
