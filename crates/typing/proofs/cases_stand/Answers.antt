use Rattle.std.proofs.Common.{refl}
use Rattle.reader.specs.Nodes.{body_by}
use Rattle.typing.proofs.cases_stand.Goals as goal

pub returns : goal.returns
unfolding body_by
returns c = record {
  cases = record {
    smallest_passes = refl;
    no_bytes = refl;
    last_byte_missing = refl;
    version_two = refl;
    record_too_long = refl;
    owner_forgotten = refl;
    used_after_kill = refl;
    alias_then_packet = refl;
    packet_then_alias = refl;
    tail_call = refl;
    no_tail_call = refl;
  };
  more = record {
    thread_with_parameter = refl;
    alias_result = refl;
    layer_two_first = refl;
    unknown_kind = refl;
    enq_on_receive = refl;
    deq_on_transmit = refl;
    no_such_queue = refl;
    no_such_function = refl;
    result_dropped = refl;
    value_returned = refl;
    unbound = refl;
    alias_killed = refl;
    if_on_spent = refl;
    sixteen = refl;
    seventeen = refl;
    result_returned = refl;
    constant_returned = refl;
    both_spend = refl;
    first_spends = refl;
  };
}
