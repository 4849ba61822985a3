use Rattle.std.proofs.Common.{◌≡◌, ◌∙◌, List, Bool, false, length, sym, arith}
use Rattle.std.specs.Prelude.{◌==◌}
use Rattle.std.proofs.lemmas.Bool.Decides.{nat_tests}
use Rattle.std.proofs.lemmas.Result.{err_from_is_err_and}
use Rattle.text_spec.specs.declared.lexeme.Symbol.{Symbol}
use Rattle.text_spec.specs.NameTexts.{is_lone}
use Rattle.dns_text.proofs.NameTexts.{IsPlain, named, named_as, not_refused, unnamed, by_name-long}
use Rattle.dns_text.proofs.names.read_name.Goals as goal

plain_by : (token : List Symbol) (lone empty origin : Bool) → lone ≡ is_lone 46 token
    → lone ≡ false → empty ≡ (length token == 0) → empty ≡ false
    → origin ≡ is_lone 64 token → origin ≡ false → IsPlain token
plain_by token lone empty origin is_lone not_lone is_empty not_empty is_origin not_origin =
    record {
      some = grind (arith, nat_tests);
      no_root = sym is_lone ∙ not_lone;
      no_origin = sym is_origin ∙ not_origin;
    }

pub returns-then-token-gt-MAX_LABEL_OCTETS : goal.returns-then-token-gt-MAX_LABEL_OCTETS
returns-then-token-gt-MAX_LABEL_OCTETS c =
    let plain = plain_by c.args.token.now c.is_lone.result c.is_empty.result
    c.is_lone-else-is_empty.result c.is_lone.ensures c.if-is_lone.false c.is_empty.ensures
    c.if-is_empty.false c.is_lone-else-is_empty.ensures c.if-is_lone-2.false in
    by_name-long c.args.token.now plain (omega arith)

pub returns-in_err-octets : goal.returns-in_err-octets
returns-in_err-octets c =
    let plain = plain_by c.args.token.now c.is_lone.result c.is_empty.result
    c.is_lone-else-is_empty.result c.is_lone.ensures c.if-is_lone.false c.is_empty.ensures
    c.if-is_empty.false c.is_lone-else-is_empty.ensures c.if-is_lone-2.false in
    let p = err_from_is_err_and c.from_residual-in_err-octets.result
    c.from_residual-in_err-octets.ensures.1 in
    rw (p.1, p.2) (unnamed c.args.token.now c.in_err-octets.field-0.0 plain c.in_err-octets.ensures)

pub unreachable-requires : goal.unreachable-requires
unreachable-requires c =
    let plain = plain_by c.args.token.now c.is_lone.result c.is_empty.result
    c.is_lone-else-is_empty.result c.is_lone.ensures c.if-is_lone.false c.is_empty.ensures
    c.if-is_empty.false c.is_lone-else-is_empty.ensures c.if-is_lone-2.false in
    not_refused c.args.token.now c.in_ok-octets.octets c.in-Err.field-0
    (named c.args.token.now c.in_ok-octets.octets plain c.in_ok-octets.ensures) c.in-Err.ensures

pub returns : goal.returns
returns c =
    let plain = plain_by c.args.token.now c.is_lone.result c.is_empty.result
    c.is_lone-else-is_empty.result c.is_lone.ensures c.if-is_lone.false c.is_empty.ensures
    c.if-is_empty.false c.is_lone-else-is_empty.ensures c.if-is_lone-2.false in
    named_as c.args.token.now c.in_ok-octets.octets c.in-Ok.name
    (named c.args.token.now c.in_ok-octets.octets plain c.in_ok-octets.ensures) c.in-Ok.ensures
