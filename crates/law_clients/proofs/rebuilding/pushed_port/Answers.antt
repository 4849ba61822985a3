use Rattle.std.proofs.Common.{ℕ, List, length, sym, ap, ◌∙◌}
use Rattle.std.specs.Prelude.{slice_get}
use Rattle.wire_base.specs.Input.{Input}
use Rattle.svcb_spec.specs.declared.Reply.{Reply}
use Rattle.svcb_params.specs.Items.{typed_at}
use Rattle.svcb_rdata.specs.Reading.{record_of}
use Rattle.svcb_rdata.specs.RebuiltView.{rebuilt_view}
use Rattle.law_clients.proofs.Pushes.{whole_read, pushed_is_read}
use Rattle.law_clients.proofs.rebuilding.pushed_port.Goals as goal

pub returns : goal.returns
returns c =
    let message = c.args.message.now in
    let before = record_of c.in_ok-before.before in
    let after = record_of c.in_ok-found.found in
    let done = rebuilt_view c.in_ok-rebuilt.rebuilt in
    let first = c.copied-reply.ensures ∙ c.first.ensures.value
    ∙ ap (λ (replies : List Reply). slice_get replies 0) c.as_slice-2.ensures in
    let input : List ℕ → Input =
    λ octets. record { message = octets; end = length octets; pos = 0 } in
    λ accepted.
    pushed_is_read c.accepted_read.ensures c.rebuilt_read_back.ensures message c.args.limit
    c.args.port before after done c.port.result
    (c.in_ok-rebuilt.ensures.rebuilding before
    (whole_read message c.from_ref.result before c.from_ref.ensures c.in_ok-before.ensures.answer))
    (whole_read done.octets c.from_ref-parser.result after
    (c.from_ref-parser.ensures ∙ ap input c.as_slice.ensures) c.in_ok-found.ensures.answer)
    (c.port.ensures ∙ ap (typed_at 3) c.params.ensures) (sym first ∙ accepted)
