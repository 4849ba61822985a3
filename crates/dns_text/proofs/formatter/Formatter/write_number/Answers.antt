use Rattle.text_spec.specs.NumberLaws.{one_line-number_comment}
use Rattle.dns_text.proofs.formatter.Formatter.write_number.Goals as goal

pub write_commented-requires : goal.write_commented-requires
write_commented-requires g c =
    let number = g.T.IanaNumber.number c.args.value in
    let law = one_line-number_comment g.T.IanaNumber.COMMENT g.T.IanaNumber.rows number
    g.met.T.IanaNumber.one_line g.met.T.IanaNumber.mnemonics_one_line in
    rw (
      c.as_str.ensures.value,
      c.in_ok-comment.ensures,
      c.to_mnemonic_str.ensures,
      c.comment_name-name.ensures,
    ) law
