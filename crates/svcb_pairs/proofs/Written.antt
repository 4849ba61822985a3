-- Octets that were written are parameters. Offered to the crates above: `written_pairs` and
-- `is_written`.
use Rattle.std.proofs.Common.{◌≡◌, List, [], ℕ, Ok, ap, sym, ◌∙◌}
use Rattle.std.specs.Result.{result_unwrap_or}
use Rattle.svcb_spec.specs.Params.{Pairs, wire, IsMap}
use Rattle.svcb_spec.proofs.PairsBack.{pairs_at-wire}
use Rattle.svcb_pairs.specs.Parameters.{read_pairs, pairs_in, IsParameters}

module _ (pairs : Pairs) (octets : List ℕ) (is_map : IsMap pairs) (are : octets ≡ wire pairs) where
  reads : read_pairs octets ≡ Ok pairs
  reads = ap read_pairs are ∙ pairs_at-wire pairs is_map

  -- the pairs are read back
  pub written_pairs : pairs_in octets ≡ pairs
  written_pairs = ap (λ read. result_unwrap_or read []) reads

  pub is_written : IsParameters octets
  is_written = record {
    read = reads ∙ ap Ok (sym written_pairs);
    is_map = rw written_pairs is_map;
    wire = ap wire written_pairs ∙ sym are;
  }
