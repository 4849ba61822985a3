pub mod ParamsView
pub mod Items
pub mod Laws
pub mod PushErrors
pub mod ValueFaults
pub mod OverlayState
pub mod Scanned
pub mod NumberSets
