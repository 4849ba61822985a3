use Rattle.std.proofs.Common.{◌≡◌, ◌+◌, ◌++◌, length, ap, ◌∙◌, arith, rules}
use Rattle.svcb_pairs.proofs.SpanLemmas.{new_key}
use Rattle.svcb_pairs.proofs.PutSpans.{value_pushed, spans_put}
use Rattle.svcb_pairs.proofs.limited_pairs.LimitedPairs.push.Goals as goal

pub returns-in_ok-compose_value-in-Ok-Vacant-clause-spanned :
    goal.returns-in_ok-compose_value-in-Ok-Vacant-clause-spanned
returns-in_ok-compose_value-in-Ok-Vacant-clause-spanned g c =
    let read = c.args.read.now in
    let self = c.args.self.now in
    let value = g.V.ComposeSvcParamValue.octets c.args.value.now in
    let counted : c.from-len.result ≡ length value = c.from-len.ensures ∙ c.compose_len.ensures in
    spans_put read self.own.items c.compose_value.new.target.items value self.spans.entries _
    c.from-key.result (length read + c.len.result) c.from-len.result c.requires.inside
    (omega (arith, c.len.ensures, self.own.ok)) counted
    c.in_ok-compose_value-in-Ok-Vacant.ensures.appends.ok (search rules)
    self.wire_len _ self.limit c.requires
    (new_key (read ++ self.own.items) self.spans.entries c.from-key.result (search rules))
    (ap (λ n. self.wire_len + 4 + n) counted) c.if-grown-self.false
    (omega (arith, c.from-key.type_inv))
    (omega (arith, counted, c.from-len.type_inv, c.compose_len.type_inv))

pub returns-in_ok-compose_value-in-Ok-Vacant-clause-pushes :
    goal.returns-in_ok-compose_value-in-Ok-Vacant-clause-pushes
returns-in_ok-compose_value-in-Ok-Vacant-clause-pushes g c =
    let read = c.args.read.now in
    let self = c.args.self.now in
    let value = g.V.ComposeSvcParamValue.octets c.args.value.now in
    let counted : c.from-len.result ≡ length value = c.from-len.ensures ∙ c.compose_len.ensures in
    value_pushed read self.own.items c.compose_value.new.target.items value self.spans.entries _
    c.from-key.result (length read + c.len.result) c.from-len.result c.requires.inside
    (omega (arith, c.len.ensures, self.own.ok)) counted
    c.in_ok-compose_value-in-Ok-Vacant.ensures.appends.ok (search rules)
    self.wire_len _ self.limit c.requires
    (new_key (read ++ self.own.items) self.spans.entries c.from-key.result (search rules))
    (ap (λ n. self.wire_len + 4 + n) counted) c.if-grown-self.false _
    (c.from-key.ensures.0 ∙ c.key.ensures)
