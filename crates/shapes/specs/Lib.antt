pub mod Shapes
pub mod Moves
pub mod Stacks
pub mod Queues
pub mod Layers
