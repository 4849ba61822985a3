-- Why a value is not made of what was read.
use Rattle.registry.specs.declared.errors.BuildValueError.{BuildValueError}
use Rattle.registry.specs.declared.errors.BuildValueError.TheVariants.{NoMemory}
use Rattle.svcb_list.specs.declared.errors.BuildAlpnError.{BuildAlpnError}
use Rattle.svcb_list.specs.declared.errors.BuildAlpnError.TheVariants as push_errors
use Rattle.text_spec.specs.declared.errors.ScanError.{ScanError}
use Rattle.text_spec.specs.declared.errors.ScanError.TheVariants as faults

-- a failed allocation stays, and every other cause is the value's length
abbrev pub scan_fault_of : BuildValueError → ScanError
scan_fault_of NoMemory = faults.NoMemory
scan_fault_of error = faults.LongValue

-- the same of protocols
abbrev pub protocol_fault : BuildAlpnError → ScanError
protocol_fault push_errors.NoMemory = faults.NoMemory
protocol_fault error = faults.LongValue
