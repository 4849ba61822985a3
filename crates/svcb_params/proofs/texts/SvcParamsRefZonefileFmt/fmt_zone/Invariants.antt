use Rattle.std.proofs.Common.{◌<◌, [], ◌∷◌, ◌++◌, map}
use Rattle.svcb_pairs.specs.Parameters.{pairs_in}
use Rattle.svcb_spec.specs.PrintedParams.{pair_printed}
use Rattle.text_spec.specs.Layouts.{Token, BlockEnd}
use Rattle.svcb_spec.specs.DataDocuments.{params_document}
use Rattle.svcb_params.proofs.Documents.{LaysOut}
use Rattle.svcb_params.proofs.texts.SvcParamsRefZonefileFmt.fmt_zone.Given as goal

abbrev pub invariant-loop-pair : goal.invariant-loop-pair
invariant-loop-pair l =
    let pairs = pairs_in l.self.slice.now in
    let rest = map (λ text. Token text) (map (pair_printed pairs) l.pair-iterator) ++ BlockEnd ∷ []
    in
    record {
      lays : LaysOut l.fn.f (params_document pairs) l.f rest;
      inside : 0 < l.f.layout.blocks;
    }
