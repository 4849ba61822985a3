pub mod RebuildErrors
pub mod RebuiltView
pub mod Pushing
pub mod Reading
pub mod Comparing
pub mod Laws
