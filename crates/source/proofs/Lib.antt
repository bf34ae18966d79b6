pub mod Walks
pub mod LabelLaws
pub mod Laid
pub mod Indices
