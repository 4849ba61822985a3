use Rattle.std.proofs.Common.{◌≡◌, ◌++◌, ◌∷◌, [], drop, sym, ap, ◌∙◌, subst, arith, ◌+◌}
use Rattle.std.specs.Prelude.{not}
use Rattle.svcb_choose.specs.Protocols.{is_listed, with_defaults, IsSetOf}
use Rattle.svcb_choose.proofs.ProtocolSets.{both_take, set_stays, next_new, next_known}
use Rattle.svcb_choose.proofs.protocols.add_defaults.Goals as goal
use Rattle.svcb_choose.proofs.protocols.add_defaults.Goals.{then-branch+in_ok-try_clone+in_ok-push, else-branch}

pub loop-protocol-preserved : goal.loop-protocol-preserved
loop-protocol-preserved c =
    let l = c.loop-protocol in
    let protocol = c.protocol-item.result in
    let key = c.as_slice.result in
    let is : c.in_ok-insert.field-0 ≡ not (is_listed l.listed.items protocol) =
    c.in_ok-insert.ensures.added
    ∙ ap not (l.invariant.same key ∙ ap (is_listed l.listed.items) c.as_slice.ensures) in
    let left = drop (l.protocol-index + 1) c.args.defaults.now in
    elim c.if-branch.branch [
      | then-branch+in_ok-try_clone+in_ok-push w ↦
          let pushed : c.if-branch.listed.items ≡ l.listed.items ++ protocol ∷ [] =
          ap (λ v. v.items) w.listed-is ∙ w.in_ok-push.ensures.items
          ∙ ap (λ p. l.listed.items ++ p ∷ []) w.in_ok-try_clone.ensures in
          let taken : IsSetOf c.insert.new.self (l.listed.items ++ protocol ∷ []) =
          subst (λ p. IsSetOf c.insert.new.self (l.listed.items ++ p ∷ [])) c.as_slice.ensures
          (both_take _ _ l.listed.items key l.invariant.same c.in_ok-insert.ensures.updates) in
          record {
            added = l.invariant.added
                ∙ next_new l.listed.items _ l.protocol-index protocol (omega arith)
                c.protocol-item.is _ is w.if-branch.true
                ∙ sym (ap (λ items. with_defaults items left) pushed);
            same = subst (IsSetOf c.insert.new.self) (sym pushed) taken;
          }
      | else-branch w ↦
          let stays : c.if-branch.listed.items ≡ l.listed.items =
          ap (λ v. v.items) w.listed-is in
          record {
            added = l.invariant.added
                ∙ next_known l.listed.items _ l.protocol-index protocol (omega arith)
                c.protocol-item.is _ is w.if-branch.false
                ∙ sym (ap (λ items. with_defaults items left) stays);
            same = subst (IsSetOf c.insert.new.self) (sym stays)
                (set_stays _ _ l.listed.items l.invariant.same
                (rw w.if-branch.false at c.in_ok-insert.ensures.unchanged));
          }
    ]
