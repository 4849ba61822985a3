-- One push of a value.
use Rattle.svcb_spec.specs.declared.Reply.{Reply}
use Rattle.svcb_spec.specs.Values.{Value, key_of, encode}
use Rattle.svcb_spec.specs.Rebuilding.{pairs_after}
use Rattle.svcb_pairs.specs.BuilderState.{BuilderState}
use Rattle.svcb_pairs.specs.Pushing.{reply_of}

-- the reply of a builder to a value
abbrev pub reply_of_value : BuilderState → Value → Reply
reply_of_value builder value = reply_of builder (key_of value) (encode value)

-- the builder behind that push
abbrev pub behind_value : BuilderState → Value → Reply → BuilderState
behind_value builder value reply =
    record builder { pairs = pairs_after reply builder.pairs (key_of value) (encode value) }
