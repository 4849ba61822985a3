use Rattle.std.proofs.Common.{◌-◌, length, refl, sym, ap, ◌∙◌, arith, subst}
use Rattle.std.proofs.lemmas.Result.{IfOk-weaker}
use Rattle.std.specs.BTreeMap.{IsFromIterResult}
use Rattle.std.specs.Ordering.{nat_cmp}
use Rattle.svcb_spec.specs.Params.{IsMap}
use Rattle.svcb_pairs.specs.Spans.{limited_pairs, AreInside}
use Rattle.svcb_pairs.proofs.FirstPair.{is_first, rest_are, no_pair}
use Rattle.svcb_pairs.proofs.ReadSpans.{first_long, behind_here, next_spanned, next_inside, all_spanned, made_of}
use Rattle.svcb_pairs.proofs.spans.spans_of.Goals as goal

pub overflow_sub-start-in-Ok : goal.overflow_sub-start-in-Ok
overflow_sub-start-in-Ok c =
    let l = c.loop-key in
    let begins = c.in-Ok.ensures.begins in
    let first = is_first l.rest.now c.in-Ok.key c.in-Ok.value.now c.in-Ok.behind.now
    l.invariant.are begins in
    let are_behind =
    rest_are l.rest.now c.in-Ok.key c.in-Ok.value.now c.in-Ok.behind.now l.invariant.are begins
    in
    omega (
      arith,
      l.invariant.shorter,
      first_long c.args.octets.now l.rest.now c.in-Ok.behind.now
          c.in-Ok.value.now c.in-Ok.key l.invariant.here l.invariant.shorter l.invariant.are
          are_behind first.pairs,
    )

pub loop-key-preserved : goal.loop-key-preserved
loop-key-preserved c =
    let l = c.loop-key in
    let octets = c.args.octets.now in
    let behind = c.in-Ok.behind.now in
    let value = c.in-Ok.value.now in
    let start = length octets - length behind - length value in
    let begins = c.in-Ok.ensures.begins in
    let first = is_first l.rest.now c.in-Ok.key value behind l.invariant.are begins in
    let are_behind = rest_are l.rest.now c.in-Ok.key value behind l.invariant.are begins in
    record {
      are = are_behind;
      shorter = omega (arith, l.invariant.shorter, first.shorter);
      here = behind_here octets l.rest.now behind value c.in-Ok.key l.invariant.here
          l.invariant.shorter l.invariant.are are_behind first.pairs;
      so_far = next_spanned octets l.rest.now behind value c.in-Ok.key l.invariant.here
          l.invariant.shorter l.invariant.are are_behind first.pairs
          l.entries.items c.push.new.self.items start refl c.in_ok-push.ensures.items
          l.invariant.so_far;
      inside = next_inside octets l.rest.now behind value c.in-Ok.key l.invariant.here
          l.invariant.shorter l.invariant.are are_behind first.pairs
          l.entries.items c.push.new.self.items start refl c.in_ok-push.ensures.items
          l.invariant.inside;
    }

pub returns-clause-pairs : goal.returns-clause-pairs
returns-clause-pairs c =
    let octets = c.args.octets.now in
    let l = c.loop-key in
    let all = all_spanned octets l.rest.now l.entries.items
    (no_pair l.rest.now l.invariant.are c.in_default.ensures.short) l.invariant.so_far in
    IfOk-weaker c.map_of.result (IsFromIterResult nat_cmp l.entries.items) _
    (λ made from. ap (limited_pairs octets)
    (made_of octets l.entries.items made (subst IsMap (sym all) c.requires.is_map) from) ∙ all)
    c.map_of.ensures

pub returns-clause-inside : goal.returns-clause-inside
returns-clause-inside c =
    let octets = c.args.octets.now in
    let l = c.loop-key in
    let all = all_spanned octets l.rest.now l.entries.items
    (no_pair l.rest.now l.invariant.are c.in_default.ensures.short) l.invariant.so_far in
    IfOk-weaker c.map_of.result (IsFromIterResult nat_cmp l.entries.items) _
    (λ made from. subst (AreInside (length octets) (length octets))
    (sym (made_of octets l.entries.items made (subst IsMap (sym all) c.requires.is_map) from))
    l.invariant.inside) c.map_of.ensures
