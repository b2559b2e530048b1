pub mod Locals
pub mod FlowStates
pub mod Views
pub mod AssignedPlaces
