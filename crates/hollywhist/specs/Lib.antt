-- Definitions that the contracts of the libraries cite, for callers whose contracts cite them too.
pub use Rattle.name_spec.specs.Octets
pub use Rattle.name_spec.specs.Taking
pub use Rattle.name_spec.specs.Names
pub use Rattle.text_spec.specs.Tokens
pub use Rattle.text_spec.specs.Scanning
pub use Rattle.svcb_spec.specs.Values
pub use Rattle.svcb_spec.specs.Params
pub use Rattle.svcb_spec.specs.Records
pub use Rattle.svcb_spec.specs.Rebuilding
pub use Rattle.svcb_params.specs.ParamsView
pub use Rattle.svcb_params.specs.Items
pub use Rattle.svcb_rdata.specs.RebuiltView
pub use Rattle.record_spec.specs.RecordData
pub use Rattle.record_spec.specs.UnionReading
pub use Rattle.record_spec.specs.UnionTexts
pub use Rattle.rdata_union.specs.Views
