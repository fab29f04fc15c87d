pub mod Cell
pub mod Kind
