pub mod GatewayView
pub mod IpseckeyView
pub mod OctetsComparing
pub mod LayoutParts
pub mod ScanningParts
