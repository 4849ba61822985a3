use Rattle.std.proofs.Common.{◌≡◌, length}
use Rattle.name_spec.proofs.NameOrders.{cmp_from_last}
use Rattle.wire_base.proofs.name_comparisons.cmp_from_last.Given as goal

abbrev pub invariant-loop-label : goal.invariant-loop-label
invariant-loop-label l = record {
  order : cmp_from_last l.label-iterator.a l.label-iterator.b l.order
      ≡ cmp_from_last l.fn.labels l.fn.others l.fn.count_order;
  as_many : length l.label-iterator.a ≡ length l.label-iterator.b;
}
