-- Views of service parameters and of a pair, as contracts see them.
use Rattle.svcb_spec.specs.Params.{Pair, Pairs}
use Rattle.svcb_spec.specs.Values.{key_of, encode}
use Rattle.svcb_value.specs.UnknownView.{seen_unknown}
use Rattle.svcb_value.specs.declared.unknown_ref.UnknownSvcParamRef.{UnknownSvcParamRef}
use Rattle.svcb_pairs.specs.Parameters.{pairs_in}
use Rattle.svcb_params.specs.declared.params_ref.SvcParamsRef.{SvcParamsRef}

-- the pairs that are seen
abbrev pub seen_params : SvcParamsRef → Pairs
seen_params view = pairs_in view.slice.now

-- the key, and the octets of its value
abbrev pub seen_pair : UnknownSvcParamRef → Pair
seen_pair view = (key_of (seen_unknown view), encode (seen_unknown view))
