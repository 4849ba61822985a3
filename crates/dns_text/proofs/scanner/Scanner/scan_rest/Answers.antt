use Rattle.std.proofs.Common.{◌≡◌, ◌∙◌, ◌++◌, ℕ, List, Ok, Result, sym, ap, subst}
use Rattle.std.specs.Result.{OnOk}
use Rattle.text_spec.specs.declared.errors.ScanError.{ScanError}
use Rattle.text_spec.specs.Scanning.{Scans, one, any_octets}
use Rattle.dns_text.proofs.Rests.{AreJoined, joined-next}
use Rattle.dns_text.proofs.scanner.Scanner.scan_rest.Goals as goal

pub loop-alloc-preserved : goal.loop-alloc-preserved
loop-alloc-preserved g c =
    let scan = g.Self.Scanner.scan in
    let before = scan c.loop-alloc.self in
    let after = scan c.scan_octets-next.new.self in
    let next = c.in_ok-next.next in
    let scanned : Scans {T = List ℕ} (λ octets. octets) (one any_octets) before after (Ok next) =
    subst (λ (r : Result (List ℕ) ScanError). Scans (λ octets. octets)
    (one any_octets) before after r) (sym c.in_ok-next.ensures.outcome)
    c.scan_octets-next.ensures in
    let joined : AreJoined (scan c.args.self.now) after (c.loop-alloc.octets.items ++ next) =
    joined-next (scan c.args.self.now) before after c.loop-alloc.octets.items next
    c.loop-alloc.invariant.joined (sym c.continues.ensures ∙ c.loop-alloc-test.true) scanned in
    let place : scan c.rewind_unless_ok-in-loop-alloc.new.self ≡ after =
    c.in_ok-rewind_unless_ok.ensures.place ∙ c.in_ok-next.ensures.place in
    let octets : c.append_octets-appended.new.target.items ≡ c.loop-alloc.octets.items ++ next =
    subst (λ (r : Result (Unit {0}) ScanError). OnOk r
    (c.append_octets-appended.new.target.items
    ≡ c.loop-alloc.octets.items ++ c.as_slice.result.now))
    (sym c.in_ok-rewind_unless_ok.ensures.outcome) c.append_octets-appended.ensures.ok
    ∙ ap (λ (n : List ℕ). c.loop-alloc.octets.items ++ n) c.as_slice.ensures in
    record {
      began = c.loop-alloc.invariant.began;
      joined = rw (place, octets) joined;
    }
