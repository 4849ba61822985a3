use Rattle.std.proofs.Common.{◌≡◌, ◌<◌, true, false, length, sym, ◌∙◌, subst, arith}
use Rattle.zonemd_check.specs.Digesting.{is_excluded}
use Rattle.zonemd_check.specs.Repeats.{repeats_before}
use Rattle.zonemd_check.proofs.Repeats.{none_held, kept_held, repeat_held, excluded_held}
use Rattle.zonemd_check.proofs.digesting.feed_zone.Goals as goal
use Rattle.zonemd_check.proofs.digesting.feed_zone.Goals.{then-not-repeats_before+then-not-is_excluded, else-not-repeats_before, else-not-repeats_before-via-then-not-repeats_before+else-not-is_excluded, else-not-repeats_before-via-else-not-repeats_before}

pub loop-place-init : goal.loop-place-init
loop-place-init g c = λ m held.
    subst (g.D.Digest.holds c.args.hasher.now) (sym (none_held c.args.apex.now m)) held

pub loop-place-preserved : goal.loop-place-preserved
loop-place-preserved g c = λ m held.
    let apex = c.args.apex.now in
    let records = c.args.records.now in
    let place = c.loop-place.place in
    let found = c.index-records-place.result in
    let within : place < length records = omega arith in
    let is = c.index-records-place.is in
    let before = c.loop-place.invariant m held in
    elim c.if-not-repeats_before.branch [
      | then-not-repeats_before+then-not-is_excluded w ↦
          let fresh : repeats_before records place ≡ false =
          sym c.repeats_before.ensures ∙ w.if-not-repeats_before.true in
          let kept : is_excluded apex found ≡ false =
          sym w.is_excluded.ensures ∙ w.if-not-is_excluded.true in
          rw w.hasher-is (subst (g.D.Digest.holds w.feed_record.new.hasher)
          (kept_held apex records place found m is within fresh kept)
          (w.feed_record.ensures _ before))
      | else-not-repeats_before w ↦
          elim w.else-not-repeats_before.branch [
            | else-not-repeats_before-via-then-not-repeats_before+else-not-is_excluded v ↦
                let excluded : is_excluded apex found ≡ true =
                sym v.is_excluded.ensures ∙ v.if-not-is_excluded.false in
                rw w.hasher-is (subst (g.D.Digest.holds c.loop-place.hasher)
                (excluded_held apex records place found m is within excluded) before)
            | else-not-repeats_before-via-else-not-repeats_before v ↦
                let repeat : repeats_before records place ≡ true =
                sym c.repeats_before.ensures ∙ v.if-not-repeats_before.false in
                rw w.hasher-is (subst (g.D.Digest.holds c.loop-place.hasher)
                (repeat_held apex records place found m within repeat) before)
          ]
    ]
