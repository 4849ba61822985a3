-- The error of the same name.
use Rattle.registry.specs.declared.errors.BuildValueError.{BuildValueError}
use Rattle.registry.specs.declared.errors.BuildValueError.TheVariants as build
use Rattle.svcb_list.specs.declared.errors.BuildAlpnError.{BuildAlpnError}
use Rattle.svcb_list.specs.declared.errors.BuildAlpnError.TheVariants as build_alpn
use Rattle.svcb_pairs.specs.declared.errors.PushError.{PushError}
use Rattle.svcb_pairs.specs.declared.errors.PushError.TheVariants as push
use Rattle.svcb_params.specs.declared.errors.PushValueError.{PushValueError}
use Rattle.svcb_params.specs.declared.errors.PushValueError.TheVariants as value
use Rattle.svcb_params.specs.declared.errors.PushAlpnError.{PushAlpnError}
use Rattle.svcb_params.specs.declared.errors.PushAlpnError.TheVariants as alpn

abbrev pub value_error_of_push : PushError → PushValueError
value_error_of_push push.DuplicateKey = value.DuplicateKey
value_error_of_push push.ShortBuf = value.ShortBuf
value_error_of_push push.NoMemory = value.NoMemory

abbrev pub value_error_of_build : BuildValueError → PushValueError
value_error_of_build build.LongSvcParam = value.LongSvcParam
value_error_of_build build.ShortBuf = value.ShortBuf
value_error_of_build build.EmptyValue = value.EmptyValue
value_error_of_build build.NoMemory = value.NoMemory

abbrev pub alpn_error_of_push : PushError → PushAlpnError
alpn_error_of_push push.DuplicateKey = alpn.DuplicateKey
alpn_error_of_push push.ShortBuf = alpn.ShortBuf
alpn_error_of_push push.NoMemory = alpn.NoMemory

abbrev pub alpn_error_of_build : BuildAlpnError → PushAlpnError
alpn_error_of_build build_alpn.InvalidProtocol = alpn.InvalidProtocol
alpn_error_of_build build_alpn.LongSvcParam = alpn.LongSvcParam
alpn_error_of_build build_alpn.ShortBuf = alpn.ShortBuf
alpn_error_of_build build_alpn.NoMemory = alpn.NoMemory
