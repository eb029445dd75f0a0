pub mod Cuts
pub mod Ops
pub mod RenderPass
pub mod Values
pub mod Forms
pub mod FormedParts
pub mod FormedLines
