-- A view of a value without a type, as contracts see it.
use Rattle.svcb_spec.specs.Values.{Value, Unknown}
use Rattle.svcb_value.specs.declared.unknown_ref.UnknownSvcParamRef.{UnknownSvcParamRef}

-- the value that is seen
abbrev pub seen_unknown : UnknownSvcParamRef → Value
seen_unknown view = Unknown view.key view.slice.now
