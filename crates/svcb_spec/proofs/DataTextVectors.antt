-- What the definitions of the texts of record data give on worked inputs. No proof cites this file.
use Rattle.std.proofs.Common.{◌≡◌, ℕ, false, cond, List, [], ◌∷◌, ◌++◌, length, refl, ap, ◌∙◌, arith}
use Rattle.std.specs.Prelude.{codes, nat_lt}
use Rattle.std.specs.Fmt.{digits}
use Rattle.name_spec.specs.Printed.{printed_as}
use Rattle.name_spec.specs.Octets.{be2}
use Rattle.name_spec.specs.Names.{name_wire}
use Rattle.svcb_spec.specs.Params.{IsMap, pairs_wire}
use Rattle.svcb_spec.specs.Records.{Record}
use Rattle.svcb_spec.proofs.WireLaws.{wire-pairs}
use Rattle.text_spec.specs.declared.display_kind.DisplayKind.TheVariants.{Simple, Tabbed, Multiline}
use Rattle.text_spec.specs.declared.errors.ScanError.TheVariants.{EndOfEntry, BadNumber, BadName, DuplicateKey, LongRecord}
use Rattle.text_spec.specs.Layouts.{laid_out_text}
use Rattle.text_spec.specs.Lexing.{step, lexemes_at}
use Rattle.text_spec.specs.Tokens.{tokens_in}
use Rattle.text_spec.specs.Scanning.{Scanned, done, refused}
use Rattle.svcb_spec.specs.ValueTexts.{protocols_within}
use Rattle.svcb_spec.specs.DataTexts.{svcb_printed, within_record_limit, svcb_data}
use Rattle.svcb_spec.specs.DataDocuments.{svcb_document}

-- priority 1, the root, protocol h2 and port 53
abbrev root_record : Record
root_record = record {
  priority = 1;
  labels = [];
  pairs = (1, 2 ∷ codes "h2") ∷ (3, 0 ∷ 53 ∷ []) ∷ [];
}

-- priority 16, foo.example.org, and the protocols `f\oo,bar` and `h2`
abbrev escaped_record : Record
escaped_record = record {
  priority = 16;
  labels = codes "foo" ∷ codes "example" ∷ codes "org" ∷ [];
  pairs = (1, 8 ∷ codes "f\\oo,bar" ++ 2 ∷ codes "h2") ∷ [];
}

-- ---- printing

root_printed : svcb_printed root_record ≡ codes "1 . alpn=h2 port=53"
unfolding digits printed_as
root_printed = refl

escaped_printed : svcb_printed escaped_record
    ≡ codes "16 foo.example.org. alpn=f\\\\\\\\oo\\\\,bar,h2"
unfolding digits printed_as
escaped_printed = refl

space_at_the_end : svcb_printed (record { priority = 0; labels = codes "a" ∷ []; pairs = [] })
    ≡ codes "0 a. "
unfolding digits printed_as
space_at_the_end = refl

-- ---- scanning

-- the data that a text's tokens spell
abbrev data_in : List ℕ → Scanned Record
data_in text = svcb_data (tokens_in text) 0

-- the length of a record, by its pairs in order: to ask for all keys would take long here
fits : (found : Record) (end : ℕ) → IsMap found.pairs
    → nat_lt 65535
    (length (be2 found.priority ++ name_wire found.labels ++ pairs_wire found.pairs)) ≡ false
    → within_record_limit found end ≡ done found end
fits found end is_map short =
    ap (λ octets. cond
    (nat_lt 65535 (length (be2 found.priority ++ name_wire found.labels ++ octets)))
    (refused LongRecord end) (done found end))
    (wire-pairs found.pairs is_map)
    ∙ ap (λ long. cond long (refused LongRecord end) (done found end)) short

root_read : data_in (codes "1 . port=53 alpn=h2") ≡ within_record_limit root_record 4
unfolding lexemes_at step protocols_within
root_read = refl

any_order : data_in (codes "1 . port=53 alpn=h2") ≡ done root_record 4
any_order = root_read
    ∙ fits root_record 4
    (omega arith, omega arith, omega arith, (omega arith, omega arith, omega arith, tt)) refl

protocols_read : data_in (codes "16 foo.example.org. alpn=f\\\\\\092oo\\092,bar,h2")
    ≡ within_record_limit escaped_record 3
unfolding lexemes_at step protocols_within
protocols_read = refl

escaped_commas : data_in (codes "16 foo.example.org. alpn=f\\\\\\092oo\\092,bar,h2")
    ≡ done escaped_record 3
escaped_commas =
    protocols_read ∙ fits escaped_record 3 (omega arith, omega arith, omega arith, tt) refl

nothing_there : data_in [] ≡ refused EndOfEntry 0
unfolding lexemes_at step
nothing_there = refl

marker_is_no_number : data_in (codes "\\# 3 000100") ≡ refused BadNumber 0
unfolding lexemes_at step
marker_is_no_number = refl

no_target : data_in (codes "1 @ port=53") ≡ refused BadName 1
unfolding lexemes_at step
no_target = refl

target_missing : data_in (codes "1") ≡ refused EndOfEntry 1
unfolding lexemes_at step
target_missing = refl

key_twice : data_in (codes "1 . port=53 key3=a") ≡ refused DuplicateKey 3
unfolding lexemes_at step
key_twice = refl

-- ---- layouts

on_one_line : laid_out_text Simple (svcb_document root_record) ≡ codes "1 . alpn=h2 port=53"
unfolding digits printed_as
on_one_line = refl

by_tabs : laid_out_text Tabbed (svcb_document root_record)
    ≡ codes "1" ++ 9 ∷ codes "." ++ 9 ∷ codes "alpn=h2" ++ 9 ∷ codes "port=53"
unfolding digits printed_as
by_tabs = refl

in_lines : laid_out_text Multiline (svcb_document root_record)
    ≡ codes "( 1 ; priority" ++ 10 ∷ 9 ∷ codes ". ; target"
    ++ 10 ∷ 9 ∷ codes "( alpn=h2 port=53 ) )"
unfolding digits printed_as
in_lines = refl
