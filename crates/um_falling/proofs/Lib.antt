pub mod Carried
pub mod AlongLaws
pub mod FallenLaws
pub mod FallingLaws
pub mod TakenLaws
pub mod BoundLaws
pub mod WorkLaws
